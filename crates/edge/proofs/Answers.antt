-- What the call answers, one law for each exit. Assumes nothing.
--
--   accepted-right       == a figure that is not refused passes 2, 3 and 4
--   good_solid           == the shots of a list that passes 21 have an extent along each axis
--   walk-figure, walk-shots, walk-edge, walk-room, walk-runs   == 2 to 5; 21; 23; 14; the runs
use Prim.Native.Nat.{ℕ, zero, suc, ◌*◌, ◌-◌, ◌/◌, ◌%◌, ◌≤◌, ◌<◌}
use mathlib.Core.Path.{◌≡◌, refl, sym, ◌∙◌, ap, ap₂}
use mathlib.Core.Bool.{Bool, true, false, not, cond}
use mathlib.Core.List.{List, [], ◌∷◌}
use native.Mathlib.Omega.{arith}
use lib.Dec.{ltb, eqb}
use lib.ListN.{length}
use borrow.Author.Tests.{eq-eqb, ne_eqb, lt-ltb, le-ltb}
use Rattle.sum.specs.Sum.{All}
use Rattle.sum.proofs.Lists.{All-imp}
use Rattle.refusal.specs.declared.Refusal.{Refusal}
use Rattle.refusal.specs.Refusals.{refusal_no}
use Rattle.refusal.proofs.Refusals.{refusal-some}
use Rattle.figure.specs.declared.Axis.{Axis}
use Rattle.figure.specs.declared.Axis.TheVariants.{X, Y}
use Rattle.figure.specs.Corners.{Corner, Link}
use Rattle.figure.specs.Figure.{Figure, figure, corners_of, fault}
use Rattle.figure.specs.Inside.{inside_at}
use Rattle.figure.specs.Steps.{Right}
use Rattle.figure.proofs.Corners.{length-corners}
use Rattle.figure.proofs.Fault.{fault-right}
use Rattle.figure.proofs.Sharing.{corners-whole}
use Rattle.figure.proofs.Turns.{or-false}
use Rattle.outline.specs.Inside.{grid, empty}
use Rattle.outline.specs.Promise.{refusal}
use Rattle.shot.specs.Shot.{Shot, shots_in}
use Rattle.shot.specs.Bad.{bad_shots, any_empty, empty as emptyShot}
use Rattle.shot.proofs.Bad.{full}
use Rattle.demands.specs.Promise.{written}
use Rattle.demands.proofs.Outcome.{written-length}
use Rattle.edge.specs.Edge.{across, stands_at, low_along, high_along, low, high, edge_at}
use Rattle.edge.specs.Landing.{Run, landing, runs, edge_runs}
use Rattle.edge.specs.Promise.{EdgeSaid, run_numbers, unwalked, handed, edge_walked}
use Rattle.edge.specs.Steps.{Solid, between, Leads, Spanned, run_count, runs_written}
use Rattle.edge.proofs.Writing.{run-numbers-length}

pub accepted-right : (f : Figure) → 0 ≡ refusal f → Right f
unfolding refusal
accepted-right f e = fault-right f (go (fault f) (empty (grid f)) e)
  where
    go : (n : ℕ) (b : Bool) → ◌≡◌ {A = ℕ} 0 (cond (eqb n 0) (cond b 5 0) n) → n ≡ 0
    go zero b h = refl
    go (suc n) b h = sym (h ∙ ap (λ t. cond {A = ℕ} t (cond {A = ℕ} b 5 0) (suc n)) (ne_eqb (suc n) 0 (λ z. omega arith)))

none-empty : (l : List Shot) → any_empty l ≡ false → All (λ s. emptyShot s ≡ false) l
unfolding any_empty
none-empty [] h = tt
none-empty (s ∷ l) h = let k = or-false (emptyShot s) (any_empty l) h in (k.0, none-empty l k.1)

pub good_solid : (a : Axis) (l : List ℕ) → bad_shots l ≡ false → Solid a (shots_in l)
unfolding bad_shots Solid
good_solid a l h = go a (none-empty (shots_in l) (or-false (not (eqb (length l % 4) 0)) (any_empty (shots_in l)) h).1)
  where
    go : (a : Axis) → All (λ s. emptyShot s ≡ false) (shots_in l) → Solid a (shots_in l)
    go X k = All-imp (λ s e. (full s e).0) (shots_in l) k
    go Y k = All-imp (λ s e. (full s e).1) (shots_in l) k

pub spanned_order : (e : Link Corner) {axis : Axis} {at lo hi : ℕ} → Spanned e axis at lo hi → lo ≤ hi
unfolding low high low_along high_along
spanned_order e s = omega (arith, s.low-is, s.high_is)

module _ (l ns : List ℕ) (k : ℕ) (shots old : List ℕ) where
  abbrev f : Figure
  f = figure l ns

  pub walk-figure : (why : Refusal) → refusal_no why ≡ refusal f → unwalked (refusal_no why) old ≡ edge_walked f k shots old
  unfolding edge_walked
  walk-figure why e = rw (ne_eqb (refusal f) 0 (λ z. omega (arith, refusal-some why, e, z))) (ap (λ n. unwalked n old) e)

  module _ (accepted : 0 ≡ refusal f) where
    pub walk-shots : bad_shots shots ≡ true → unwalked 21 old ≡ edge_walked f k shots old
    unfolding edge_walked
    walk-shots h = rw (eq-eqb (refusal f) 0 (sym accepted), h) refl

    corners-count : length (corners_of f) ≡ length l / 2
    corners-count = ap length (corners-whole f (accepted-right f accepted).figure-good) ∙ length-corners l

    module _ (good : bad_shots shots ≡ false) where
      pub walk-edge : length l / 2 ≤ k → unwalked 23 old ≡ edge_walked f k shots old
      unfolding edge_walked
      walk-edge h = rw (eq-eqb (refusal f) 0 (sym accepted), good, le-ltb k (length (corners_of f)) (omega (arith, corners-count))) refl

      walk_on : k < length l / 2 → edge_walked f k shots old ≡ handed (edge_runs (inside_at f) (shots_in shots) (edge_at f k)) old
      unfolding edge_walked
      walk_on h = rw (eq-eqb (refusal f) 0 (sym accepted), good, lt-ltb k (length (corners_of f)) (omega (arith, corners-count)))

      module _ (here : k < length l / 2) (next : ℕ) (leads : Leads f k next) (axis : Axis) (at lo hi : ℕ) (span : Spanned (between l k next) axis at lo hi) where
        abbrev rs : List Run
        rs = runs (landing axis (inside_at f) (shots_in shots) at) lo (hi - lo)

        runs_are : rs ≡ edge_runs (inside_at f) (shots_in shots) (edge_at f k)
        runs_are = same (across e) (stands_at e) (low e) (high e) span.axis_is span.at-is span.low-is span.high_is ∙ (unfold edge_runs in ap (edge_runs (inside_at f) (shots_in shots)) leads.is)
          where
            e : Link Corner
            e = between l k next

            same : (a : Axis) (p u v : ℕ) → axis ≡ a → at ≡ p → lo ≡ u → hi ≡ v
                → rs ≡ runs (landing a (inside_at f) (shots_in shots) p) u (v - u)
            same a p u v g h i j =
                ap₂ (λ a p. runs (landing a (inside_at f) (shots_in shots) p) lo (hi - lo)) g h
                ∙ ap₂ (λ u v. runs (landing a (inside_at f) (shots_in shots) p) u (v - u)) i j

        module _ (count : ℕ) (counted : count ≡ run_count (landing axis (inside_at f) (shots_in shots) at) lo hi) where
          count-is : count ≡ length rs
          unfolding run_count
          count-is = counted

          pub walk-room : length old / 4 < count → unwalked 14 old ≡ edge_walked f k shots old
          walk-room h =
              sym (walk_on here ∙ ap (λ q. handed q old) (sym runs_are) ∙ (unfold handed in short))
            where
              short : cond (ltb (length old) (4 * length rs)) (unwalked 14 old)
                  (record { number = 0; count = length rs; runs = written (run_numbers rs) old }) ≡ unwalked 14 old
              short = rw (lt-ltb (length old) (4 * length rs) (omega (arith, count-is)))

          pub walk-fits : count ≤ length old / 4 → 4 * run_count (landing axis (inside_at f) (shots_in shots) at) lo hi ≤ length old
          walk-fits h = omega (arith, counted)

          pub walk-runs : count ≤ length old / 4 → (new : List ℕ) → new ≡ runs_written (landing axis (inside_at f) (shots_in shots) at) lo hi old
              → ◌≡◌ {A = EdgeSaid} (record { number = 0; count = count; runs = new }) (edge_walked f k shots old)
          walk-runs h new w =
              told new count (unfold runs_written in w) count-is
              ∙ sym (walk_on here ∙ ap (λ q. handed q old) (sym runs_are) ∙ (unfold handed in enough))
            where
              enough : cond (ltb (length old) (4 * length rs)) (unwalked 14 old)
                  (record { number = 0; count = length rs; runs = written (run_numbers rs) old })
                  ≡ record { number = 0; count = length rs; runs = written (run_numbers rs) old }
              enough = rw (le-ltb (length old) (4 * length rs) (omega (arith, count-is)))

              told : (new : List ℕ) (count : ℕ) → new ≡ written (run_numbers rs) old → count ≡ length rs
                  → ◌≡◌ {A = EdgeSaid} (record { number = 0; count = count; runs = new }) (record { number = 0; count = length rs; runs = written (run_numbers rs) old })
              told new count g h = λ t. record { number = 0; count = h t; runs = g t }

          pub walk-length : count ≤ length old / 4 → (new : List ℕ) → new ≡ runs_written (landing axis (inside_at f) (shots_in shots) at) lo hi old
              → length new ≡ length old
          unfolding runs_written
          walk-length h new w =
              ap length w ∙ written-length (run_numbers rs) old (omega (arith, count-is, run-numbers-length rs))
