-- Laws of storing the corners, and of what the calls say of an element that passes 17, 18 and 2. Assumes nothing.
--
--   near             == the points of a boundary that passes 18 lie within 65,535 nm of the lowest place
--   Storing          == the state of the loop that stores: what is stored and what is still to come give the whole
--   storing_start, storing_same, storing_near, storing_more, storing_done == the loop's ways
--   length_moved     == two numbers for each corner
--   front-stored     == the front of a list that corners are stored to is the corners
--   read-shape, read_short, read-stored == what reading says: 3 to 5, 14, or the corners
use Prim.Native.Nat.{ℕ, zero, suc, ◌+◌, ◌*◌, ◌-◌, ◌<◌, ◌≤◌}
use mathlib.Core.Path.{◌≡◌, ◌∙◌, refl, sym, ap, ap₂, subst}
use mathlib.Core.List.{List, [], ◌∷◌, ◌++◌}
use mathlib.Core.Bool.{false, cond}
use native.Mathlib.Omega.{arith}
use lib.Dec.{eqb}
use lib.ListN.{length, take, set, length-set}
use lib.Seq.{sets}
use borrow.Author.Tests.{ltb-false, lt-ltb, le-ltb, ne_eqb}
use Rattle.sum.specs.Sum.{All}
use Rattle.sum.proofs.Lists.{sets_front}
use Rattle.figure.specs.declared.Axis.{Axis}
use Rattle.figure.specs.declared.Axis.TheVariants.{X, Y}
use Rattle.figure.specs.Figure.{most_place}
use Rattle.outline.specs.Promise.{refusal}
use Rattle.demands.specs.Promise.{written}
use Rattle.gdsii.specs.declared.stream.Run.{Run}
use Rattle.number.specs.Reading.{read}
use Rattle.gdsii.specs.Boundary.{Point, along, point_at, points_from, points, lowest, highest, broad, ring_of, numbers_of, moved, shift, figure_of, boundary}
use Rattle.gdsii.specs.Calls.{BoundarySaid, unread, handed, points_read, boundary_read}
use Rattle.gdsii.specs.Steps.{Fit}
use Rattle.gdsii.proofs.Points.{points-more, points_none, length-points, lowest-all, highest-all, moved-points, moved_more}

abbrev pub Near : Axis → ℕ → Point → Type 0
Near a low p = (low ≤ along a p) × (along a p ≤ low + most_place)

between : (a : Axis) (low high : ℕ) → high ≤ low + most_place → (ps : List Point) → All (λ p. low ≤ along a p) ps → All (λ p. along a p ≤ high) ps
    → All (Near a low) ps
between a low high h [] j k = tt
between a low high h (p ∷ ps) j k = ((j.0, omega (arith, k.0)), between a low high h ps j.1 k.1)

pub near : (a : Axis) (ps : List Point) → broad a ps ≡ false → All (Near a (lowest a ps)) ps
unfolding broad
near a ps e =
    between a (lowest a ps) (highest a ps) (ltb-false (lowest a ps + most_place) (highest a ps) e) ps (lowest-all a ps 4294967295) (highest-all a ps 0)

-- fewer of the points
all_fewer : (s : List ℕ) (Q : Point → Type 0) (m n p : ℕ) → m ≤ n → All Q (points_from s p n) → All Q (points_from s p m)
unfolding points_from
all_fewer s Q zero n p h k = tt
all_fewer s Q (suc m) zero p h k = absurd (omega arith)
all_fewer s Q (suc m) (suc n) p h k = (k.0, all_fewer s Q m n (p + 8) (omega arith) k.1)

pub length-numbers : (x y : ℕ) (ps : List Point) → length (numbers_of x y ps) ≡ 2 * length ps
unfolding numbers_of
length-numbers x y [] = refl
length-numbers x y (p ∷ ps) = omega (arith, length-numbers x y ps)

-- first and count are where the points start, and how many there are without the last
pub record Storing (s : List ℕ) (x y : ℕ) (before : List ℕ) (first count at to left : ℕ) (list : List ℕ) : Type 0 where
  pub same : length list ≡ length before
  pub room : to + 2 * left ≤ length list
  pub bytes : at + 8 * left ≤ length s
  pub near-x : All (Near X x) (points_from s at left)
  pub near-y : All (Near Y y) (points_from s at left)
  pub all : sets list to (numbers_of x y (points_from s at left)) ≡ sets before 0 (numbers_of x y (points_from s first count))

module _ (s : List ℕ) (x y : ℕ) (before : List ℕ) where
  pub storing_start : (run : Run) → Fit s run → x ≡ lowest X (points s run) → y ≡ lowest Y (points s run) → 2 * (run.count - 1) ≤ length before
      → Storing s x y before run.first (run.count - 1) run.first 0 (run.count - 1) before
  storing_start run fit ex ey h =
      record {
        same = refl;
        room = omega arith;
        bytes = omega (arith, fit.within.bytes);
        near-x =
            all_fewer s (Near X x) (run.count - 1) run.count run.first (omega arith)
            (subst (λ m. All (Near X m) (points s run)) (sym ex) (near X (points s run) fit.narrow));
        near-y =
            all_fewer s (Near Y y) (run.count - 1) run.count run.first (omega arith)
            (subst (λ m. All (Near Y m) (points s run)) (sym ey) (near Y (points s run) fit.low));
        all = refl;
      }

  -- places that are the same
  pub storing_same : (first count : ℕ) (list : List ℕ) {at to left at' to' left' : ℕ} → Storing s x y before first count at to left list
      → at ≡ at' → to ≡ to' → left ≡ left' → Storing s x y before first count at' to' left' list
  storing_same first count list {at} {to} {left} {at'} {to'} {left'} h e f g =
      subst (λ n. Storing s x y before first count at' to' n list) g
      (subst (λ n. Storing s x y before first count at' n left list) f (subst (λ n. Storing s x y before first count n to left list) e h))

  module _ (first count at to left : ℕ) (list : List ℕ) (h : Storing s x y before first count at to left list) where
    module _ (k : 0 < left) where
      pub storing_near : Near X x (point_at s at) × Near Y y (point_at s at)
      storing_near =
          ((subst (All (Near X x)) (points-more s at left k) h.near-x).0, (subst (All (Near Y y)) (points-more s at left k) h.near-y).0)

      pub storing_more : (u v : ℕ) → u ≡ along X (point_at s at) → v ≡ along Y (point_at s at)
          → Storing s x y before first count (at + 8) (to + 2) (left - 1) (set (set list to (u - x)) (to + 1) (v - y))
      storing_more u v e f =
          let one : to + 1 ≡ suc to = omega arith in
          let two : to + 2 ≡ suc (suc to) = omega arith in
          let n : length (set (set list to (u - x)) (to + 1) (v - y)) ≡ length list =
          length-set (set list to (u - x)) (to + 1) (v - y) ∙ length-set list to (u - x) in
          record {
            same = n ∙ h.same;
            room = omega (arith, n, h.room);
            bytes = omega (arith, h.bytes);
            near-x = (subst (All (Near X x)) (points-more s at left k) h.near-x).1;
            near-y = (subst (All (Near Y y)) (points-more s at left k) h.near-y).1;
            all =
                ap₂ (λ i j. sets (set (set list to (u - x)) i (v - y)) j (numbers_of x y (points_from s (at + 8) (left - 1)))) one two
                ∙ moved_more s x y at left to u v list e f k
                ∙ h.all;
          }

    pub storing_done : (run : Run) → first ≡ run.first → count ≡ run.count - 1 → left ≤ 0 → Fit s run → x ≡ lowest X (points s run) → y ≡ lowest Y (points s run)
        → list ≡ sets before 0 (moved (points s run))
    unfolding numbers_of
    storing_done run p q k fit ex ey =
        sym (ap (λ ps. sets list to (numbers_of x y ps)) (points_none s at left k))
        ∙ h.all
        ∙ ap₂ (λ u v. sets before 0 (numbers_of x y (points_from s u v))) p q
        ∙ ap₂ (λ u v. sets before 0 (numbers_of u v (points_from s run.first (run.count - 1)))) ex ey
        ∙ ap (sets before 0) (sym (moved-points s run fit.within.some))

-- what is stored, seen from the calls

pub length_moved : (s : List ℕ) (run : Run) → 1 ≤ run.count → length (moved (points s run)) ≡ 2 * (run.count - 1)
length_moved s run h =
    ap length (moved-points s run h)
    ∙ length-numbers (lowest X (points s run)) (lowest Y (points s run)) (points_from s run.first (run.count - 1))
    ∙ ap (λ m. 2 * m) (length-points s (run.count - 1) run.first)

take-front : (u v : List ℕ) → take (length u) (u ++ v) ≡ u
take-front [] v = refl
take-front (a ∷ u) v = ap (λ (l : List ℕ). a ∷ l) (take-front u v)

pub front-stored : (l u : List ℕ) (n : ℕ) → n ≡ length u → n ≤ length l → take n (sets l 0 u) ≡ u
front-stored l u n e h =
    ap₂ (λ m (k : List ℕ). take m k) e (sets_front l u (omega arith)) ∙ take-front u _

module _ (s l : List ℕ) (ps : List Point) (next : ℕ) (b : boundary s ≡ read ps next) where
  pub read-shape : (n : ℕ) → 1 ≤ n → n ≡ refusal (figure_of ps) → unread n 0 l ≡ boundary_read s l
  unfolding boundary_read
  read-shape n h e =
      let z : eqb n 0 ≡ false = some n h in
      sym (ap (λ t. cond t (handed ps l) (unread n 0 l)) z)
      ∙ ap (λ m. cond (eqb m 0) (handed ps l) (unread m 0 l)) e
      ∙ sym (ap (points_read l) b)
    where
      some : (m : ℕ) → 1 ≤ m → eqb m 0 ≡ false
      some zero k = absurd (omega arith)
      some (suc m) k = ne_eqb (suc m) 0 (λ e. omega arith)

  module _ (e : 0 ≡ refusal (figure_of ps)) where
    good : handed ps l ≡ boundary_read s l
    unfolding boundary_read
    good = ap (λ m. cond (eqb m 0) (handed ps l) (unread m 0 l)) e ∙ sym (ap (points_read l) b)

    pub read_short : length l < length (moved ps) → unread 14 0 l ≡ boundary_read s l
    unfolding handed
    read_short h = let p : unread 14 0 l ≡ handed ps l = simp lt-ltb in p ∙ good

    abbrev handing : BoundarySaid
    handing =
        record {
          number = 0;
          corners = length (ring_of ps);
          shift-x = shift X ps;
          shift-y = shift Y ps;
          offset = 0;
          list = written (moved ps) l;
        }

    pub read-stored : length (moved ps) ≤ length l → handing ≡ boundary_read s l
    unfolding handed
    read-stored h = let p : handing ≡ handed ps l = simp le-ltb in p ∙ good
