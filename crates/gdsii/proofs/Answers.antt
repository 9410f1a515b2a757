-- The exits of the two calls, for an element that passes 8, 16, 17, 18 and 2. Assumes nothing.
--
--   stored-length, stored-room, stored-front == a list that corners are stored to keeps its length, and has their front
--   held_figure      == the front of the local numbers is the ring, with its number of corners
--   exit_shape, exit_room, exit_stored == reading: 3 to 5, 14, or the corners
--   exit_refused, exit_done == a fracture: its refusal, or its shots
--   qualified-by, qualified-known == a fracture by the rule of preset 0 is the qualified one; and there is that preset
use Prim.Native.Nat.{ℕ, ◌-◌, ◌*◌, ◌<◌, ◌≤◌}
use mathlib.Core.Path.{◌≡◌, ◌∙◌, sym, ap, ap₂}
use mathlib.Core.List.{List, [], ◌∷◌}
use mathlib.Core.Bool.{Bool, false, cond}
use native.Mathlib.Omega.{arith}
use lib.Dec.{eqb}
use lib.ListN.{length, take}
use lib.Seq.{sets, length-sets, length-take-le}
use lib.IntN.{ℤ, pos}
use borrow.Author.Tests.{ne_eqb}
use mir.Syntax.{w32}
use mir.Val.{to_z, of_z}
use Rattle.sum.proofs.Lists.{sets_front}
use Rattle.refusal.specs.declared.Refusal.{Refusal}
use Rattle.refusal.specs.Refusals.{refusal_no}
use Rattle.refusal.proofs.Refusals.{refusal-some}
use Rattle.rule.specs.declared.Rule.{Rule}
use Rattle.rule.specs.Rules.{Told, given, refused as unknown, preset_told}
use Rattle.number.specs.Reading.{read}
use Rattle.figure.specs.declared.Axis.TheVariants.{X, Y}
use Rattle.figure.specs.Figure.{figure}
use Rattle.outline.specs.Promise.{refusal}
use Rattle.piece.specs.declared.Mode.TheVariants.{Straight}
use Rattle.demands.specs.Promise.{Outcome, asked, outcome, written}
use Rattle.std.specs.Prelude.{Ok, Err}
use Rattle.fracture.specs.declared.Fractured.{Fractured}
use Rattle.fracture.specs.declared.Denial.{Denial}
use Rattle.fracture.specs.Told.{told}
use Rattle.gdsii.specs.declared.stream.Run.{Run}
use Rattle.gdsii.specs.Boundary.{points, ring_of, moved, shift, figure_of, boundary}
use Rattle.gdsii.specs.Calls.{BoundarySaid, unread, boundary_read, PlateSaid, unplated, fractured, plated_by, points_fractured, boundary_fractured}
use Rattle.gdsii.specs.Steps.{Fit, measured, qualified}
use Rattle.gdsii.proofs.Points.{shift-told}
use Rattle.gdsii.proofs.Measured.{ring-length, measured-fit}
use Rattle.gdsii.proofs.Storing.{length_moved, front-stored, read-shape, read_short, read-stored}

module _ (s : List ℕ) (run : Run) (l m : List ℕ) (e : m ≡ sets l 0 (moved (points s run))) where
  pub stored-length : length m ≡ length l
  stored-length = ap length e ∙ length-sets l 0 (moved (points s run))

  module _ (h : 2 * (run.count - 1) ≤ length l) where
    pub stored-room : 2 * (run.count - 1) ≤ length m
    stored-room = omega (arith, stored-length)

    pub stored-front : 2 * (run.count - 1) ≡ length (take (2 * (run.count - 1)) m)
    stored-front = sym (length-take-le (2 * (run.count - 1)) m stored-room)

module _ (s : List ℕ) (run : Run) (next : ℕ) (found : read run next ≡ measured s) where
  fit : Fit s run
  fit = (measured-fit s (sym found)).0

  is_read : boundary s ≡ read (points s run) next
  is_read = (measured-fit s (sym found)).1

  corners-length : length (moved (points s run)) ≡ 2 * (run.count - 1)
  corners-length = length_moved s run fit.within.some

  module _ (l numbers : List ℕ) (held : numbers ≡ sets l 0 (moved (points s run))) (room : 2 * (run.count - 1) ≤ length l) where
    held_front : take (2 * (run.count - 1)) numbers ≡ moved (points s run)
    held_front =
        ap (take (2 * (run.count - 1))) held ∙ front-stored l (moved (points s run)) (2 * (run.count - 1)) (sym corners-length) room

    -- what is said of the numbers at hand is said of the ring
    pub held_figure : {A : Type 0} (f : List ℕ → List ℕ → A)
        → f (take (2 * (run.count - 1)) numbers) ((run.count - 1) ∷ []) ≡ f (moved (points s run)) (length (ring_of (points s run)) ∷ [])
    held_figure f = ap₂ (λ (c : List ℕ) n. f c (n ∷ [])) held_front (sym (ring-length s run))

    judged : {n : ℕ} → n ≡ refusal (figure (take (2 * (run.count - 1)) numbers) ((run.count - 1) ∷ [])) → n ≡ refusal (figure_of (points s run))
    judged e = e ∙ held_figure (λ c ns. refusal (figure c ns))

    module _ (list : List ℕ) where
      pub exit_shape : (r : Refusal) → refusal_no r ≡ refusal (figure (take (2 * (run.count - 1)) numbers) ((run.count - 1) ∷ []))
          → unread (refusal_no r) 0 list ≡ boundary_read s list
      exit_shape r e = read-shape s list (points s run) next is_read (refusal_no r) (refusal-some r) (judged e)

      module _ (good : 0 ≡ refusal (figure (take (2 * (run.count - 1)) numbers) ((run.count - 1) ∷ []))) where
        pub exit_room : length list < 2 * (run.count - 1) → unread 14 0 list ≡ boundary_read s list
        exit_room h = read_short s list (points s run) next is_read (judged good) (omega (arith, corners-length))

        pub exit_stored : (x y : ℤ) (after : List ℕ) → 2 * (run.count - 1) ≤ length list
            → after ≡ sets list 0 (moved (points s run)) → x ≡ shift X (points s run) → y ≡ shift Y (points s run)
            → ◌≡◌ {A = BoundarySaid}
            (record {
              number = 0;
              corners = run.count - 1;
              shift-x = to_z w32 (of_z w32 x);
              shift-y = to_z w32 (of_z w32 y);
              offset = 0;
              list = after;
            })
            (boundary_read s list)
        unfolding written
        exit_stored x y after h e ex ey =
            ap₂ (λ n (m : List ℕ).
            record { number = 0; corners = n; shift-x = to_z w32 (of_z w32 x); shift-y = to_z w32 (of_z w32 y); offset = 0; list = m })
            (sym (ring-length s run)) (e ∙ sets_front list (moved (points s run)) (omega (arith, corners-length)))
            ∙ ap₂ (λ (u v : ℤ).
            record {
              number = 0;
              corners = length (ring_of (points s run));
              shift-x = u;
              shift-y = v;
              offset = 0;
              list = written (moved (points s run)) list;
            })
            (shift-told X (points s run) x ex) (shift-told Y (points s run) y ey)
            ∙ read-stored s list (points s run) next is_read (judged good) (omega (arith, corners-length))

    module _ (table list : List ℕ) where
      by-ring : (o : Outcome) → o ≡ outcome (qualified (take (2 * (run.count - 1)) numbers) ((run.count - 1) ∷ []) table list)
          → plated_by (points s run) o ≡ boundary_fractured s table list
      unfolding boundary_fractured fractured
      by-ring o e =
          ap (plated_by (points s run)) (e ∙ held_figure (λ c ns. outcome (qualified c ns table list)))
          ∙ sym (ap (points_fractured table list) is_read)

      pub exit_refused : (d : Denial) (t u : List ℕ)
          → told (Err d) t u ≡ outcome (qualified (take (2 * (run.count - 1)) numbers) ((run.count - 1) ∷ []) table list)
          → unplated (refusal_no d.why) d.needed 0 t u ≡ boundary_fractured s table list
      unfolding told
      exit_refused d t u e =
          let z : eqb (refusal_no d.why) 0 ≡ false = ne_eqb (refusal_no d.why) 0 (λ q. omega (arith, q, refusal-some d.why)) in
          ap (λ (b : Bool).
          record {
            number = refusal_no d.why;
            shots = d.needed;
            cost = 0;
            sliver = 0;
            cuts = 0;
            shift-x = cond b (shift X (points s run)) (pos 0);
            shift-y = cond b (shift Y (points s run)) (pos 0);
            offset = 0;
            table = t;
            list = u;
          }) (sym z)
          ∙ by-ring (told (Err d) t u) e

      pub exit_done : (f : Fractured) (x y : ℤ) (t u : List ℕ)
          → told (Ok f) t u ≡ outcome (qualified (take (2 * (run.count - 1)) numbers) ((run.count - 1) ∷ []) table list)
          → x ≡ shift X (points s run) → y ≡ shift Y (points s run)
          → ◌≡◌ {A = PlateSaid}
          (record {
            number = 0;
            shots = f.shots;
            cost = f.cost;
            sliver = f.sliver;
            cuts = f.cuts;
            shift-x = to_z w32 (of_z w32 x);
            shift-y = to_z w32 (of_z w32 y);
            offset = 0;
            table = t;
            list = u;
          })
          (boundary_fractured s table list)
      unfolding told
      exit_done f x y t u e ex ey =
          ap₂ (λ (v w : ℤ).
          record {
            number = 0;
            shots = f.shots;
            cost = f.cost;
            sliver = f.sliver;
            cuts = f.cuts;
            shift-x = v;
            shift-y = w;
            offset = 0;
            table = t;
            list = u;
          })
          (shift-told X (points s run) x ex) (shift-told Y (points s run) y ey)
          ∙ by-ring (told (Ok f) t u) e

-- the rule that plates are qualified by

pub qualified-by : {r : Rule} → given r ≡ preset_told 0 → (corners lengths table list : List ℕ)
    → outcome (asked Straight corners lengths r.threshold r.weight table list) ≡ outcome (qualified corners lengths table list)
qualified-by e corners lengths table list = ap (λ (t : Told). outcome (asked Straight corners lengths t.threshold t.weight table list)) e

pub qualified-known : (why : Refusal) → unknown (refusal_no why) ≡ preset_told 0 → ⊥
unfolding preset_told
qualified-known why e = omega (arith, refusal-some why, ap (λ (t : Told). t.number) e)
