-- The two calls on an element are refused exactly when the scope says so, by the first number in its order, and what they hold then, said
-- of the bytes, with the premise that they are bytes, as those of every lent slice of bytes are. Assumes nothing.
--
--   Decided, decided    == points, by the first of 17, 18 and 2 that holds, or none
--   ring_so, ring-one   == the ring moved to 0, and that it is the only one
--   shape-told          == 2 to 5 of the ring: the first that holds, or none
--   read_exactly        == reading tells the refusal r with the offset o exactly when that is the fault: 8, 16, 17, 18, 2 to 5, 14
--   read-fault-one, plate-fault-one == and that is its only one
--   read_keeps          == and then nothing but zeros beside them, and the list as it came in
--   read-accepted       == it tells 0 exactly when there is no fault
--   read-says           == and then the corners of the only ring stand at the front of the list, the rest is as it came in, and shift plus
--                          corner gives back each point
--   plate_exactly       == a fracture tells the refusal r with the offset o exactly when that is the fault: 8, 16, 17, 18, 2 to 7
--   plate-keeps         == and then a shift of 0, zeros but for the shots beside 7, and nothing written but the table beside 7
--   plate_seven         == which is filled as on success
--   plate-accepted, plate-says == it tells 0 exactly when there is no fault, and then what the fracture of that ring by preset 0 tells
use Prim.Native.Nat.{ℕ, ◌+◌, ◌*◌, ◌-◌, ◌<◌, ◌≤◌}
use mathlib.Core.Path.{◌≡◌, ◌∙◌, refl, sym, ap, ap₂, subst}
use mathlib.Core.Logic.{◌⊎◌, ◌↔◌, inl, inr}
use mathlib.Core.List.{List, [], ◌∷◌}
use mathlib.Core.Bool.{Bool, true, false, cond, true≢false, false≢true}
use native.Mathlib.Omega.{arith}
use lib.Dec.{eqb}
use lib.ListN.{length}
use lib.IntN.{ℤ, pos}
use borrow.Author.Tests.{eqb-true, eqb-false, ne_eqb, lt-ltb, le-ltb}
use Rattle.sum.proofs.Sum.{le-or}
use Rattle.refusal.specs.declared.Refusal.{Refusal}
use Rattle.refusal.specs.declared.Refusal.TheVariants as because
use Rattle.refusal.specs.Refusals.{refusal_no}
use Rattle.refusal.proofs.Refusals.{refusal-one, refusal-some, never}
use Rattle.rule.specs.Rules.{in_range, preset_told}
use Rattle.number.specs.Reading.{Reading, read, fault}
use Rattle.number.specs.Faults.{AllBytes}
use Rattle.figure.specs.declared.Axis.TheVariants.{X, Y}
use Rattle.figure.specs.Corners.{any, slanted, unturned}
use Rattle.figure.specs.Figure.{figure, rings, bad_figure, fault as shapeFault}
use Rattle.outline.specs.Promise.{refusal}
use Rattle.outline.proofs.Promise.{refusal-most}
use Rattle.outline.specs.Inside.{grid, empty}
use Rattle.piece.specs.declared.Mode.TheVariants.{Straight}
use Rattle.demands.specs.Promise.{asked, drawn, Outcome, refused, outcome, written}
use Rattle.demands.specs.Refusals.{Condition, First}
use Rattle.demands.proofs.Outcome.{short, outcome-figure, outcome_seven, outcome-other}
use Rattle.demands.proofs.Refusals.{test, true_test, number_of, outcome-number, number-first, first-number, number-known}
use Rattle.gdsii.specs.declared.stream.Run.{Run}
use Rattle.gdsii.specs.Record.{element}
use Rattle.gdsii.specs.Boundary.{points, unclosed, broad, ring_of, moved, shift, figure_of, boundary}
use Rattle.gdsii.specs.Calls.{BoundarySaid, unread, boundary_read, PlateSaid, unplated, fractured, points_fractured, boundary_fractured}
use Rattle.gdsii.specs.Steps.{measured}
use Rattle.gdsii.specs.Faults.{ElementFault, Element, x_of, y_of, Open, Beyond, Extended, Ring, drawing, plate, PointsFault, unclosed as lastUnlike, extended, counted, ReadFault, records, points as pointed, shape, room, PlateFault, fracture, corners_told, shots_told}
use Rattle.gdsii.proofs.Points.{few_bad, some_bad}
use Rattle.gdsii.proofs.Wanted.{element_exactly, element-read, element-holds}
use Rattle.gdsii.proofs.Moving.{axis_of, broad_exactly, OpenTold, open_told, moved_so, moved-one, shift_one}
use Rattle.gdsii.proofs.Measured.{measured-fault, measured_open, measured-broad, measured-high, measured-long, measured-read, measured-fit, ring-length, read-refused, fractured-refused}
use Rattle.gdsii.proofs.Storing.{length_moved, read-shape, read_short, read-stored}

abbrev run_of : ℕ → ℕ → Run
run_of first n = record { first = first; count = n }

-- 17, 18, 2

data Decided (s : List ℕ) (first n : ℕ) : Type 0 where
  is_open : Open s first n → measured s ≡ fault because.Unclosed 0 → Decided s first n
  is-extended : (Open s first n → ⊥) → Extended s first n → measured s ≡ fault because.Extent 0 → Decided s first n
  is-counted : (Open s first n → ⊥) → (Extended s first n → ⊥) → (n - 1 < 4) ⊎ (32 < n - 1) → measured s ≡ fault because.Length 0
      → Decided s first n
  is-ring : (Open s first n → ⊥) → (Extended s first n → ⊥) → 4 ≤ n - 1 → n - 1 ≤ 32 → measured s ≡ read (run_of first n) (first + 8 * n)
      → Decided s first n

module _ (s : List ℕ) (bytes : AllBytes s) where
  decided : {first n : ℕ} → Element s first n → Decided s first n
  unfolding Extended axis_of
  decided {first} {n} h =
      way (open_told s (run_of first n) h.some) (broad X (points s (run_of first n))) refl (broad Y (points s (run_of first n))) refl
    where
      e : read (run_of first n) (first + 8 * n) ≡ element s
      e = sym (element-holds s h)

      counting : false ≡ unclosed (points s (run_of first n)) → (Open s first n → ⊥) → false ≡ broad X (points s (run_of first n))
          → false ≡ broad Y (points s (run_of first n)) → (Extended s first n → ⊥) → (4 ≤ n - 1) ⊎ (n - 1 < 4) → (n - 1 ≤ 32) ⊎ (32 < n - 1)
          → Decided s first n
      counting u shut x y thin (inr k) m = is-counted shut thin (inl k) (sym (measured-long s e u x y (few_bad (n - 1) k)))
      counting u shut x y thin (inl k) (inr m) =
          is-counted shut thin (inr m) (sym (measured-long s e u x y (sym (lt-ltb 32 (n - 1) m) ∙ some_bad (n - 1) k)))
      counting u shut x y thin (inl k) (inl m) =
          is-ring shut thin k m (sym (measured-read s e u x y (sym (le-ltb 32 (n - 1) m) ∙ some_bad (n - 1) k)))

      way : OpenTold s (run_of first n) → (x : Bool) → broad X (points s (run_of first n)) ≡ x → (y : Bool) → broad Y (points s (run_of first n)) ≡ y → Decided s first n
      way (inl k) x p y q = is_open k.1 (sym (measured_open s e (sym k.0)))
      way (inr k) true p y q =
          is-extended k.1 (inl ((broad_exactly s X (run_of first n) bytes h.some).0 p)) (sym (measured-broad s e (sym k.0) (sym p)))
      way (inr k) false p true q =
          is-extended k.1 (inr ((broad_exactly s Y (run_of first n) bytes h.some).0 q)) (sym (measured-high s e (sym k.0) (sym p) (sym q)))
      way (inr k) false p false q = counting (sym k.0) k.1 (sym p) (sym q) thin (le-or 4 (n - 1)) (le-or (n - 1) 32)
        where
          thin : Beyond (x_of s first) n ⊎ Beyond (y_of s first) n → ⊥
          thin (inl b) = false≢true (sym p ∙ (broad_exactly s X (run_of first n) bytes h.some).1 b)
          thin (inr b) = false≢true (sym q ∙ (broad_exactly s Y (run_of first n) bytes h.some).1 b)

  points-measured : (r : Refusal) → PointsFault s r → measured s ≡ fault r 0
  points-measured r (lastUnlike {first} {n} h o) = go (decided h)
    where
      go : Decided s first n → measured s ≡ fault because.Unclosed 0
      go (is_open k e) = e
      go (is-extended k x e) = absurd (k o)
      go (is-counted k x c e) = absurd (k o)
      go (is-ring k x a b e) = absurd (k o)
  points-measured r (extended {first} {n} h o x) = go (decided h)
    where
      go : Decided s first n → measured s ≡ fault because.Extent 0
      go (is_open k e) = absurd (o k)
      go (is-extended k y e) = e
      go (is-counted k y c e) = absurd (y x)
      go (is-ring k y a b e) = absurd (y x)
  points-measured r (counted {first} {n} h o x c) = go c (decided h)
    where
      go : (n - 1 < 4) ⊎ (32 < n - 1) → Decided s first n → measured s ≡ fault because.Length 0
      go m (is_open k e) = absurd (o k)
      go m (is-extended k y e) = absurd (x y)
      go m (is-counted k y d e) = e
      go (inl m) (is-ring k y a b e) = absurd (omega (arith, a, m))
      go (inr m) (is-ring k y a b e) = absurd (omega (arith, b, m))

  -- The ring moved to 0

  module _ {first n : ℕ} where
    ring_so : Element s first n → (Open s first n → ⊥) → (Extended s first n → ⊥) → 4 ≤ n - 1 → n - 1 ≤ 32
        → Ring s first n (shift X (points s (run_of first n))) (shift Y (points s (run_of first n))) (moved (points s (run_of first n)))
    unfolding axis_of
    ring_so h o x a b = go (open_told s (run_of first n) h.some)
      where
        go : OpenTold s (run_of first n) → Ring s first n (shift X (points s (run_of first n))) (shift Y (points s (run_of first n))) (moved (points s (run_of first n)))
        go (inl k) = absurd (o k.1)
        go (inr k) =
            record {
              element = h;
              closed = o;
              narrow = x;
              least = a;
              most = b;
              size = length_moved s (run_of first n) h.some;
              moved-x = moved_so s (run_of first n) X bytes (omega arith) k.2;
              moved-y = moved_so s (run_of first n) Y bytes (omega arith) k.3;
            }

    ring-one : {x y : ℤ} {l : List ℕ} → Ring s first n x y l
        → (l ≡ moved (points s (run_of first n))) × (x ≡ shift X (points s (run_of first n))) × (y ≡ shift Y (points s (run_of first n)))
    ring-one {x} {y} {l} g =
        let q = ring_so g.element g.closed g.narrow g.least g.most in (
          moved-one (x_of s first) (y_of s first) (n - 1) x y (shift X (points s (run_of first n))) (shift Y (points s (run_of first n))) l
              (moved (points s (run_of first n))) g.size q.size g.moved-x g.moved-y q.moved-x q.moved-y,
          shift_one (x_of s first) (n - 1) x (shift X (points s (run_of first n))) 0 l (moved (points s (run_of first n))) g.moved-x q.moved-x,
          shift_one (y_of s first) (n - 1) y (shift Y (points s (run_of first n))) 1 l (moved (points s (run_of first n))) g.moved-y q.moved-y,
        )

    ring-measured : {x y : ℤ} {l : List ℕ} → Ring s first n x y l → measured s ≡ read (run_of first n) (first + 8 * n)
    ring-measured {x} {y} {l} g = go (decided g.element)
      where
        go : Decided s first n → measured s ≡ read (run_of first n) (first + 8 * n)
        go (is_open k e) = absurd (g.closed k)
        go (is-extended k z e) = absurd (g.narrow z)
        go (is-counted k z (inl m) e) = absurd (omega (arith, g.least, m))
        go (is-counted k z (inr m) e) = absurd (omega (arith, g.most, m))
        go (is-ring k z a b e) = e

-- 2 to 5 of a ring

module _ (l : List ℕ) (n : ℕ) where
  abbrev number : ℕ
  number = refusal (figure l (n ∷ []))

  -- the tests of 2 to 5, where none of them is given
  good_tests : number ≡ 0
      → (bad_figure (figure l (n ∷ [])) ≡ false) × (any slanted (rings (figure l (n ∷ []))) ≡ false)
      × (any unturned (rings (figure l (n ∷ []))) ≡ false) × (empty (grid (figure l (n ∷ []))) ≡ false)
  unfolding refusal shapeFault
  good_tests e =
      go (bad_figure (figure l (n ∷ []))) (any slanted (rings (figure l (n ∷ [])))) (any unturned (rings (figure l (n ∷ []))))
      (empty (grid (figure l (n ∷ [])))) e
    where
      go : (a b c d : Bool) → ◌≡◌ {A = ℕ} (cond (eqb (cond a 2 (cond b 3 (cond c 4 0))) 0) (cond d 5 0) (cond a 2 (cond b 3 (cond c 4 0)))) 0
          → (a ≡ false) × (b ≡ false) × (c ≡ false) × (d ≡ false)
      go true b c d f = absurd (omega (arith, f))
      go false true c d f = absurd (omega (arith, f))
      go false false true d f = absurd (omega (arith, f))
      go false false false true f = absurd (omega (arith, f))
      go false false false false f = (refl, refl, refl, refl)

  bad_number : 0 < number → (outcome (drawing l n)).number ≡ number
  unfolding refused in_range
  bad_number h = ap (λ (o : Outcome). o.number) (outcome-figure (drawing l n) refl h)

  -- none of 2 to 5 holds
  abbrev Fine : Type 0
  Fine = (c : Refusal) → refusal_no c ≤ 5 → Condition (drawing l n) c → ⊥

  abbrev ShapeTold : Type 0
  ShapeTold = ((0 ≡ number) × Fine) ⊎ ((r : Refusal) × (refusal_no r ≤ 5) × First (drawing l n) r × (refusal_no r ≡ number))

  shape-told : ShapeTold
  shape-told = go (eqb number 0) refl
    where
      fine : number ≡ 0 → Fine
      fine e because.Rule h k = absurd (true≢false (sym (true_test (drawing l n) because.Rule k) ∙ (unfold test in_range in refl)))
      fine e because.Length h k = true≢false (sym (true_test (drawing l n) because.Length k) ∙ (unfold test in (good_tests e).0))
      fine e because.Slanted h k = true≢false (sym (true_test (drawing l n) because.Slanted k) ∙ (unfold test in (good_tests e).1))
      fine e because.Unturned h k = true≢false (sym (true_test (drawing l n) because.Unturned k) ∙ (unfold test in (good_tests e).2))
      fine e because.Empty h k = true≢false (sym (true_test (drawing l n) because.Empty k) ∙ (unfold test drawn in (good_tests e).3))
      fine e because.Table h k = omega (arith, h)
      fine e because.List h k = omega (arith, h)
      fine e because.Ends h k = omega (arith, h)
      fine e because.Padded h k = omega (arith, h)
      fine e because.Range h k = omega (arith, h)
      fine e because.Extra h k = omega (arith, h)
      fine e because.Long h k = omega (arith, h)
      fine e because.Missing h k = omega (arith, h)
      fine e because.Room h k = omega (arith, h)
      fine e because.Preset h k = omega (arith, h)
      fine e because.Record h k = omega (arith, h)
      fine e because.Unclosed h k = omega (arith, h)
      fine e because.Extent h k = omega (arith, h)
      fine e because.Largest h k = omega (arith, h)
      fine e because.Full h k = omega (arith, h)
      fine e because.Shots h k = omega (arith, h)
      fine e because.Text h k = omega (arith, h)
      fine e because.Edge h k = omega (arith, h)

      known : 0 < number → (number_of (drawing l n) ≡ 0) ⊎ ((d : Refusal) × (refusal_no d ≤ 7) × (number_of (drawing l n) ≡ refusal_no d)) → ShapeTold
      known h (inl z) = absurd (omega (arith, h, bad_number h, outcome-number (drawing l n), z))
      known h (inr d) =
          let e : refusal_no d.0 ≡ number = sym d.2 ∙ sym (outcome-number (drawing l n)) ∙ bad_number h in
          inr (d.0, omega (arith, e, refusal-most (figure l (n ∷ []))), number-first (drawing l n) d.0 d.2, e)

      some : (m : ℕ) → (m ≡ 0 → ⊥) → 0 < m
      some m h = elim (le-or 1 m) [ inl q ↦ q | inr q ↦ absurd (h (omega arith)) ]

      go : (b : Bool) → eqb number 0 ≡ b → ShapeTold
      go true e = inl (sym (eqb-true number 0 e), fine (eqb-true number 0 e))
      go false e = known (some number (eqb-false number 0 e)) (number-known (drawing l n))

  shape-back : (r : Refusal) → First (drawing l n) r → refusal_no r ≤ 5 → refusal_no r ≡ number
  shape-back r f h = go shape-told
    where
      go : ShapeTold → refusal_no r ≡ number
      go (inl k) = absurd (k.1 r h f.holds)
      go (inr k) = sym (first-number (drawing l n) r f) ∙ first-number (drawing l n) k.0 k.2 ∙ k.3

  fine_back : Fine → 0 ≡ number
  fine_back f = go shape-told
    where
      go : ShapeTold → 0 ≡ number
      go (inl k) = k.0
      go (inr k) = absurd (f k.0 k.1 k.2.holds)

-- A ring that is read

module _ (s : List ℕ) (bytes : AllBytes s) {first n : ℕ} {x y : ℤ} {l : List ℕ} (g : Ring s first n x y l) where
  ps_read : boundary s ≡ read (points s (run_of first n)) (first + 8 * n)
  ps_read = (measured-fit s (ring-measured s bytes g)).1

  same-figure : refusal (figure l ((n - 1) ∷ [])) ≡ refusal (figure_of (points s (run_of first n)))
  same-figure = ap₂ (λ (m : List ℕ) k. refusal (figure m (k ∷ []))) (ring-one s bytes g).0 (sym (ring-length s (run_of first n)))

  same_length : length (moved (points s (run_of first n))) ≡ length l
  same_length = ap length (sym (ring-one s bytes g).0)

  module _ (list : List ℕ) where
    ring-shape : (r : Refusal) → refusal_no r ≡ refusal (figure l ((n - 1) ∷ [])) → unread (refusal_no r) 0 list ≡ boundary_read s list
    ring-shape r e =
        read-shape s list (points s (run_of first n)) (first + 8 * n) ps_read (refusal_no r) (refusal-some r) (e ∙ same-figure)

    ring-room : 0 ≡ refusal (figure l ((n - 1) ∷ [])) → length list < length l → unread 14 0 list ≡ boundary_read s list
    ring-room e h =
        read_short s list (points s (run_of first n)) (first + 8 * n) ps_read (e ∙ same-figure) (omega (arith, same_length))

    ring-stored : 0 ≡ refusal (figure l ((n - 1) ∷ [])) → length l ≤ length list → corners_told (n - 1) x y l list ≡ boundary_read s list
    unfolding written
    ring-stored e h =
        let o = ring-one s bytes g in
        ap₂ (λ (u : List ℕ) k. corners_told k x y u list) o.0 (sym (ring-length s (run_of first n)))
        ∙ ap₂ (λ (u v : ℤ). corners_told (length (ring_of (points s (run_of first n)))) u v (moved (points s (run_of first n))) list) o.1 o.2
        ∙ read-stored s list (points s (run_of first n)) (first + 8 * n) ps_read (e ∙ same-figure) (omega (arith, same_length))

  ring-plate : (table list : List ℕ) → shots_told x y (outcome (plate l (n - 1) table list)) ≡ boundary_fractured s table list
  unfolding boundary_fractured fractured preset_told
  ring-plate table list =
      let o = ring-one s bytes g in
      ap₂ (λ (m : List ℕ) k. shots_told x y (outcome (asked Straight m (k ∷ []) 25 40 table list))) o.0 (sym (ring-length s (run_of first n)))
      ∙ ap₂ (λ (u v : ℤ). shots_told u v (fractured (points s (run_of first n)) table list)) o.1 o.2
      ∙ sym (ap (points_fractured table list) ps_read)

-- Reading

data ReadTold (s list : List ℕ) : Type 0 where
  refusing : (r : Refusal) (o : ℕ) → ReadFault s list r o → unread (refusal_no r) o list ≡ boundary_read s list → ReadTold s list
  accepting : (first n : ℕ) (x y : ℤ) (l : List ℕ) → Ring s first n x y l → corners_told (n - 1) x y l list ≡ boundary_read s list → ReadTold s list

module _ (s : List ℕ) (bytes : AllBytes s) (list : List ℕ) where
  read-ring : {first n : ℕ} {x y : ℤ} {l : List ℕ} → Ring s first n x y l → ReadTold s list
  read-ring {first} {n} {x} {y} {l} g = go (shape-told l (n - 1)) (le-or (length l) (length list))
    where
      go : ShapeTold l (n - 1) → (length l ≤ length list) ⊎ (length list < length l) → ReadTold s list
      go (inr k) m = refusing k.0 0 (shape g k.2 k.1) (ring-shape s bytes g list k.0 k.3)
      go (inl k) (inr m) = refusing because.Room 0 (room g k.1 m) (ring-room s bytes g list k.0 m)
      go (inl k) (inl m) = accepting first n x y l g (ring-stored s bytes g list k.0 m)

  read-points : {first n : ℕ} → Element s first n → Decided s first n → ReadTold s list
  read-points h (is_open k e) = refusing because.Unclosed 0 (pointed (lastUnlike h k)) (read-refused s list (sym e))
  read-points h (is-extended k x e) = refusing because.Extent 0 (pointed (extended h k x)) (read-refused s list (sym e))
  read-points h (is-counted k x c e) = refusing because.Length 0 (pointed (counted h k x c)) (read-refused s list (sym e))
  read-points h (is-ring k x a b e) = read-ring (ring_so s bytes h k x a b)

  read_told : ReadTold s list
  read_told = go (element s) refl
    where
      go : (u : Reading Run) → element s ≡ u → ReadTold s list
      go (read run next) e = let k = element-read s e in read-points k.0 (decided s bytes k.0)
      go (fault r o) e = refusing r o (records ((element_exactly s r o).0 e)) (read-refused s list (measured-fault s (sym e)))

  fault-read : (r : Refusal) (o : ℕ) → ReadFault s list r o → unread (refusal_no r) o list ≡ boundary_read s list
  fault-read r o (records f) = read-refused s list (measured-fault s (sym ((element_exactly s r o).1 f)))
  fault-read r o (pointed f) = read-refused s list (sym (points-measured s bytes r f))
  fault-read r o (shape {first} {n} {x} {y} {l} g f h) = ring-shape s bytes g list r (shape-back l (n - 1) r f h)
  fault-read r o (room {first} {n} {x} {y} {l} g f h) = ring-room s bytes g list (fine_back l (n - 1) f) h

  pub read_exactly : (r : Refusal) (o : ℕ) → (((boundary_read s list).number ≡ refusal_no r) × ((boundary_read s list).offset ≡ o)) ↔ ReadFault s list r o
  read_exactly r o = (
    (λ k. go read_told k.0 k.1),
    λ f. let e = fault-read r o f in (sym (ap (λ (u : BoundarySaid). u.number) e), sym (ap (λ (u : BoundarySaid). u.offset) e)),
  )
    where
      go : ReadTold s list → (boundary_read s list).number ≡ refusal_no r → (boundary_read s list).offset ≡ o → ReadFault s list r o
      go (refusing c p f e) m q =
          let a : c ≡ r = refusal-one c r (ap (λ (u : BoundarySaid). u.number) e ∙ m) in
          let b : p ≡ o = ap (λ (u : BoundarySaid). u.offset) e ∙ q in
          subst (λ c. ReadFault s list c o) a (subst (λ p. ReadFault s list c p) b f)
      go (accepting first n x y l g e) m q = absurd (never r (ap (λ (u : BoundarySaid). u.number) e ∙ m))

  -- the first fault is the only one
  pub read-fault-one : (r t : Refusal) (o p : ℕ) → ReadFault s list r o → ReadFault s list t p → (r ≡ t) × (o ≡ p)
  read-fault-one r t o p f g =
      let a = (read_exactly r o).1 f in
      let b = (read_exactly t p).1 g in
      (refusal-one r t (sym a.0 ∙ b.0), sym a.1 ∙ b.1)

  pub read_keeps : (r : Refusal) → (boundary_read s list).number ≡ refusal_no r → boundary_read s list ≡ unread (refusal_no r) (boundary_read s list).offset list
  read_keeps r m = go read_told
    where
      go : ReadTold s list → boundary_read s list ≡ unread (refusal_no r) (boundary_read s list).offset list
      go (refusing c p f e) =
          sym e
          ∙ ap₂ (λ i j. unread i j list) (ap (λ (u : BoundarySaid). u.number) e ∙ m) (ap (λ (u : BoundarySaid). u.offset) e)
      go (accepting first n x y l g e) = absurd (never r (ap (λ (u : BoundarySaid). u.number) e ∙ m))

  pub read-accepted : ((boundary_read s list).number ≡ 0) ↔ ((r : Refusal) (o : ℕ) → ReadFault s list r o → ⊥)
  read-accepted = (
    (λ m r o f. never r (sym m ∙ sym (ap (λ (u : BoundarySaid). u.number) (fault-read r o f)))),
    λ none. go none read_told,
  )
    where
      go : ((r : Refusal) (o : ℕ) → ReadFault s list r o → ⊥) → ReadTold s list → (boundary_read s list).number ≡ 0
      go none (refusing c p f e) = absurd (none c p f)
      go none (accepting first n x y l g e) = sym (ap (λ (u : BoundarySaid). u.number) e)

  pub read-says : (boundary_read s list).number ≡ 0
      → (first : ℕ) × (n : ℕ) × (x : ℤ) × (y : ℤ) × (l : List ℕ) × Ring s first n x y l × (boundary_read s list ≡ corners_told (n - 1) x y l list)
  read-says m = go read_told
    where
      go : ReadTold s list
          → (first : ℕ) × (n : ℕ) × (x : ℤ) × (y : ℤ) × (l : List ℕ) × Ring s first n x y l × (boundary_read s list ≡ corners_told (n - 1) x y l list)
      go (refusing c p f e) = absurd (never c (sym m ∙ sym (ap (λ (u : BoundarySaid). u.number) e)))
      go (accepting first n x y l g e) = (first, n, x, y, l, g, sym e)

-- A fracture

-- no record at fault gives 7
element_seven : (s : List ℕ) (r : Refusal) (o : ℕ) → ElementFault s r o → refusal_no r ≡ 7 → ⊥
unfolding ElementFault
element_seven s r o (inl k) q = omega (arith, q, ap refusal_no k.0)
element_seven s r o (inr k) q = omega (arith, q, ap refusal_no k.0)

data PlateTold (s table list : List ℕ) : Type 0 where
  stopping : (r : Refusal) (o : ℕ) → PlateFault s table list r o → unplated (refusal_no r) 0 o table list ≡ boundary_fractured s table list
      → (refusal_no r ≡ 7 → ⊥) → PlateTold s table list
  cutting : (first n : ℕ) (x y : ℤ) (l : List ℕ) → Ring s first n x y l
      → shots_told x y (outcome (plate l (n - 1) table list)) ≡ boundary_fractured s table list → PlateTold s table list

module _ (s : List ℕ) (bytes : AllBytes s) (table list : List ℕ) where
  plate-points : {first n : ℕ} → Element s first n → Decided s first n → PlateTold s table list
  plate-points h (is_open k e) = stopping because.Unclosed 0 (pointed (lastUnlike h k)) (fractured-refused s table list (sym e)) (λ q. omega (arith, q))
  plate-points h (is-extended k x e) = stopping because.Extent 0 (pointed (extended h k x)) (fractured-refused s table list (sym e)) (λ q. omega (arith, q))
  plate-points h (is-counted k x c e) = stopping because.Length 0 (pointed (counted h k x c)) (fractured-refused s table list (sym e)) (λ q. omega (arith, q))
  plate-points {first} {n} h (is-ring k x a b e) =
      let g = ring_so s bytes h k x a b in cutting first n _ _ _ g (ring-plate s bytes g table list)

  plate-told : PlateTold s table list
  plate-told = go (element s) refl
    where
      go : (u : Reading Run) → element s ≡ u → PlateTold s table list
      go (read run next) e = let k = element-read s e in plate-points k.0 (decided s bytes k.0)
      go (fault r o) e =
          let f = (element_exactly s r o).0 e in
          stopping r o (records f) (fractured-refused s table list (measured-fault s (sym e))) (element_seven s r o f)

  fault-plate : (r : Refusal) (o : ℕ) → PlateFault s table list r o
      → ((boundary_fractured s table list).number ≡ refusal_no r) × ((boundary_fractured s table list).offset ≡ o)
  fault-plate r o (records f) =
      let e = fractured-refused s table list (measured-fault s (sym ((element_exactly s r o).1 f))) in
      (sym (ap (λ (u : PlateSaid). u.number) e), sym (ap (λ (u : PlateSaid). u.offset) e))
  fault-plate r o (pointed f) =
      let e = fractured-refused s table list (sym (points-measured s bytes r f)) in
      (sym (ap (λ (u : PlateSaid). u.number) e), sym (ap (λ (u : PlateSaid). u.offset) e))
  fault-plate r o (fracture {first} {n} {x} {y} {l} g f) =
      let e = ring-plate s bytes g table list in (
        sym (ap (λ (u : PlateSaid). u.number) e) ∙ outcome-number (plate l (n - 1) table list) ∙ first-number (plate l (n - 1) table list) r f,
        sym (ap (λ (u : PlateSaid). u.offset) e),
      )

  pub plate_exactly : (r : Refusal) (o : ℕ)
      → (((boundary_fractured s table list).number ≡ refusal_no r) × ((boundary_fractured s table list).offset ≡ o)) ↔ PlateFault s table list r o
  plate_exactly r o = ((λ k. go plate-told k.0 k.1), fault-plate r o)
    where
      go : PlateTold s table list → (boundary_fractured s table list).number ≡ refusal_no r → (boundary_fractured s table list).offset ≡ o
          → PlateFault s table list r o
      go (stopping c p f e apart) m q =
          let a : c ≡ r = refusal-one c r (ap (λ (u : PlateSaid). u.number) e ∙ m) in
          let b : p ≡ o = ap (λ (u : PlateSaid). u.offset) e ∙ q in
          subst (λ c. PlateFault s table list c o) a (subst (λ p. PlateFault s table list c p) b f)
      go (cutting first n x y l g e) m q =
          let b : ◌≡◌ {A = ℕ} 0 o = ap (λ (u : PlateSaid). u.offset) e ∙ q in
          subst (λ p. PlateFault s table list r p) b
          (fracture g
          (number-first (plate l (n - 1) table list) r
          (sym (outcome-number (plate l (n - 1) table list)) ∙ ap (λ (u : PlateSaid). u.number) e ∙ m)))

  pub plate-fault-one : (r t : Refusal) (o p : ℕ) → PlateFault s table list r o → PlateFault s table list t p → (r ≡ t) × (o ≡ p)
  plate-fault-one r t o p f g =
      let a = fault-plate r o f in
      let b = fault-plate t p g in
      (refusal-one r t (sym a.0 ∙ b.0), sym a.1 ∙ b.1)

  pub plate-accepted : ((boundary_fractured s table list).number ≡ 0) ↔ ((r : Refusal) (o : ℕ) → PlateFault s table list r o → ⊥)
  plate-accepted = ((λ m r o f. never r (sym m ∙ (fault-plate r o f).0)), λ none. go none plate-told)
    where
      go : ((r : Refusal) (o : ℕ) → PlateFault s table list r o → ⊥) → PlateTold s table list → (boundary_fractured s table list).number ≡ 0
      go none (stopping c p f e apart) = absurd (none c p f)
      go none (cutting first n x y l g e) = among (number-known (plate l (n - 1) table list))
        where
          among : (number_of (plate l (n - 1) table list) ≡ 0)
              ⊎ ((d : Refusal) × (refusal_no d ≤ 7) × (number_of (plate l (n - 1) table list) ≡ refusal_no d))
              → (boundary_fractured s table list).number ≡ 0
          among (inl z) = sym (ap (λ (u : PlateSaid). u.number) e) ∙ outcome-number (plate l (n - 1) table list) ∙ z
          among (inr d) = absurd (none d.0 0 (fracture g (number-first (plate l (n - 1) table list) d.0 d.2)))

  pub plate-says : (boundary_fractured s table list).number ≡ 0
      → (first : ℕ) × (n : ℕ) × (x : ℤ) × (y : ℤ) × (l : List ℕ) × Ring s first n x y l
      × (boundary_fractured s table list ≡ shots_told x y (outcome (plate l (n - 1) table list)))
  plate-says m = go plate-told
    where
      go : PlateTold s table list
          → (first : ℕ) × (n : ℕ) × (x : ℤ) × (y : ℤ) × (l : List ℕ) × Ring s first n x y l
          × (boundary_fractured s table list ≡ shots_told x y (outcome (plate l (n - 1) table list)))
      go (stopping c p f e apart) = absurd (never c (sym m ∙ sym (ap (λ (u : PlateSaid). u.number) e)))
      go (cutting first n x y l g e) = (first, n, x, y, l, g, sym e)

  -- beside any refusal but 7 nothing is changed, and all is 0 but the number and the offset
  pub plate-keeps : (r : Refusal) → (boundary_fractured s table list).number ≡ refusal_no r → (r ≡ because.List → ⊥)
      → boundary_fractured s table list ≡ unplated (refusal_no r) 0 (boundary_fractured s table list).offset table list
  unfolding refused
  plate-keeps r m other = go plate-told
    where
      go : PlateTold s table list → boundary_fractured s table list ≡ unplated (refusal_no r) 0 (boundary_fractured s table list).offset table list
      go (stopping c p f e apart) =
          sym e
          ∙ ap₂ (λ i j. unplated i 0 j table list) (ap (λ (u : PlateSaid). u.number) e ∙ m) (ap (λ (u : PlateSaid). u.offset) e)
      go (cutting first n x y l g e) =
          let ask = plate l (n - 1) table list in
          let k : (outcome ask).number ≡ refusal_no r = ap (λ (u : PlateSaid). u.number) e ∙ m in
          let z : eqb (refusal_no r) 0 ≡ false = ne_eqb (refusal_no r) 0 (λ q. omega (arith, q, refusal-some r)) in
          sym e
          ∙ ap (shots_told x y) (outcome-other ask (refusal_no r) (refusal-some r) (below (number-known ask) k) k)
          ∙ ap (λ (b : Bool).
          record {
            number = refusal_no r;
            shots = 0;
            cost = 0;
            sliver = 0;
            cuts = 0;
            shift-x = cond b x (pos 0);
            shift-y = cond b y (pos 0);
            offset = 0;
            table = table;
            list = list;
          }) z
          ∙ ap (λ j. unplated (refusal_no r) 0 j table list) (ap (λ (u : PlateSaid). u.offset) e)
        where
          not_seven : refusal_no r ≤ 7 → refusal_no r < 7
          not_seven h = elim (le-or 7 (refusal_no r)) [
            | inl q ↦ absurd (other (refusal-one r because.List (omega (arith, h, q))))
            | inr q ↦ q
          ]

          below : (number_of (plate l (n - 1) table list) ≡ 0)
              ⊎ ((d : Refusal) × (refusal_no d ≤ 7) × (number_of (plate l (n - 1) table list) ≡ refusal_no d))
              → (outcome (plate l (n - 1) table list)).number ≡ refusal_no r → refusal_no r < 7
          below (inl q) k = absurd (omega (arith, q, k, outcome-number (plate l (n - 1) table list), refusal-some r))
          below (inr d) k = not_seven (omega (arith, d.1, d.2, k, outcome-number (plate l (n - 1) table list)))

  -- beside 7 the shots needed, the table filled as on success, and a shift of 0
  pub plate_seven : (boundary_fractured s table list).number ≡ 7
      → (first : ℕ) × (n : ℕ) × (x : ℤ) × (y : ℤ) × (l : List ℕ) × Ring s first n x y l
      × (boundary_fractured s table list ≡ shots_told (pos 0) (pos 0) (short (plate l (n - 1) table list)))
  plate_seven m = go plate-told
    where
      go : PlateTold s table list
          → (first : ℕ) × (n : ℕ) × (x : ℤ) × (y : ℤ) × (l : List ℕ) × Ring s first n x y l
          × (boundary_fractured s table list ≡ shots_told (pos 0) (pos 0) (short (plate l (n - 1) table list)))
      go (stopping c p f e k) = absurd (k (ap (λ (u : PlateSaid). u.number) e ∙ m))
      go (cutting first n x y l g e) =
          let ask = plate l (n - 1) table list in
          let k : (outcome ask).number ≡ 7 = ap (λ (u : PlateSaid). u.number) e ∙ m in
          (first, n, x, y, l, g, sym e ∙ ap (shots_told x y) (outcome_seven ask k) ∙ (unfold short in refl))
