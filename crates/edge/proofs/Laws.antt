-- What the inner functions leave, one law for each exit. Assumes nothing.
--
--   on-.., by-.., side-facing        == the side of a shot by its four numbers
--   spans-.., stands-.., turned-..   == an edge that stands left of a square
--   shots-count, shots-at, has, found_at, passed-at, not-found   == the shots of a list, and the first that has a side
--   Round, round_none, round_more, round_all   == the odd count once round a ring
--   Turning, turning-..              == the odd count over the rings: what is passed, turned by what is left
--   seen-.., beneath-.., low-.., face-.., side-told   == the side of the figure
--   landed_none, landed_some         == where a stretch ends up
--   free-.., same-.., onward-.., whole-..   == the next place; two landings; on the way along a run; all of it
--   runs-first, count-..             == the first run, then those that begin where it ends
use Rattle.std.specs.Prelude.{Option, Some, None, is_some}
use Rattle.std.specs.Option.{option_eq}
use Prim.Native.Nat.{ℕ, zero, suc, ◌+◌, ◌*◌, ◌-◌, ◌/◌, ◌%◌, ◌≤◌, ◌<◌, min, max}
use mathlib.Core.Path.{◌≡◌, refl, sym, ◌∙◌, ap, ap₂, subst}
use mathlib.Core.Bool.{Bool, true, false, not, beq, cond, ◌&&◌, true≢false}
use mathlib.Core.List.{List, [], ◌∷◌, map}
use mathlib.Core.Logic.{◌⊎◌, inl, inr}
use native.Mathlib.Omega.{arith}
use lib.Dec.{leb, ltb, eqb}
use lib.ListN.{length, get_or, take, drop}
use borrow.Author.Tests.{eq-eqb, ne_eqb, le-leb, lt-leb, lt-ltb, le-ltb}
use Rattle.sum.proofs.Sum.{le-or}
use Rattle.figure.specs.declared.Axis.{Axis}
use Rattle.figure.specs.declared.Axis.TheVariants.{X, Y}
use Rattle.sum.specs.Sum.{only, sum_of}
use Rattle.figure.specs.Corners.{Corner, Link, corners, edges, changes, coordinate, odd, still, origin}
use Rattle.figure.specs.Figure.{Figure, figure, share, bad_figure}
use Rattle.figure.specs.Inside.{walls, within, inside_at}
use Rattle.figure.specs.Steps.{before, edge}
use Rattle.figure.proofs.Corners.{corner-at, edge_at, before_less, length-edges}
use Rattle.figure.proofs.ByRings.{inside-rings}
use Rattle.figure.proofs.Walking.{Reached, reached-start, reached-room, reached-some, reached-next, share-next, share-end}
use Rattle.demands.specs.Square.{exposed}
use Rattle.shot.specs.Shot.{Shot, shots_in}
use Rattle.shot.specs.Bad.{shot_of}
use Rattle.edge.specs.Edge.{low_along, high_along, beneath, beyond}
use Rattle.edge.specs.Landing.{low_side, high_side, facing, shape, first, Landing, shot_with, landing, alike, Run, runs}
use Rattle.edge.specs.contracts.SidePartialEq.TheImpl.{eq-value}
use Rattle.edge.specs.declared.Landed.{Landed}
use Rattle.edge.specs.declared.Side.{Side}
use Rattle.edge.specs.declared.Side.TheVariants.{Low, High}
use Rattle.edge.specs.Steps.{side_on, side_by, shot_by, spans, standing, link, inside_by, ring_holds, turned, seen_by, beneath_by, low_of, face_of, Solid, told, side_no, shot_no, FromOne, Nearer, place_of, Free, Steady, Whole, run_count}
use Rattle.sum.specs.Sum.{All}
use Rattle.edge.proofs.Landing.{first_found, Hit, All-get}
use Rattle.edge.proofs.Strokes.{within_count}
use Rattle.edge.proofs.Runs.{alike_same, same_alike, Right, runs-right, runs_unique, shared_le}
use Rattle.sum.proofs.Lists.{All-imp}
use Rattle.edge.proofs.Few.{first-same}
use Rattle.edge.proofs.Sides.{low_end, high_end, facing-shot}

-- a side has a number
pub side_some : (a : Axis) (s : Side) → 1 ≤ side_no (low_of a) (Some s)
unfolding side_no low_of
side_some X Low = omega arith
side_some X High = omega arith
side_some Y Low = omega arith
side_some Y High = omega arith

-- the derived equality is that of the numbers
pub side_eq : (a : Axis) (u v : Option Side) → option_eq eq-value.it u v ≡ eqb (side_no (low_of a) u) (side_no (low_of a) v)
unfolding side_no low_of
side_eq X None None = refl
side_eq X None (Some Low) = refl
side_eq X None (Some High) = refl
side_eq X (Some Low) None = refl
side_eq X (Some Low) (Some Low) = refl
side_eq X (Some Low) (Some High) = refl
side_eq X (Some High) None = refl
side_eq X (Some High) (Some Low) = refl
side_eq X (Some High) (Some High) = refl
side_eq Y None None = refl
side_eq Y None (Some Low) = refl
side_eq Y None (Some High) = refl
side_eq Y (Some Low) None = refl
side_eq Y (Some Low) (Some Low) = refl
side_eq Y (Some Low) (Some High) = refl
side_eq Y (Some High) None = refl
side_eq Y (Some High) (Some Low) = refl
side_eq Y (Some High) (Some High) = refl

shot_eq : (u v : Option ℕ) → FromOne u → FromOne v → option_eq eqb u v ≡ eqb (shot_no u) (shot_no v)
unfolding shot_no FromOne
shot_eq None None h k = refl
shot_eq None (Some n) h k = sym (ne_eqb 0 n (λ z. k (ap Some (sym z))))
shot_eq (Some m) None h k = sym (ne_eqb m 0 (λ z. h (ap Some z)))
shot_eq (Some m) (Some n) h k = refl

pub landed_eq : (a : Axis) (x y : Landed) → FromOne x.shot → FromOne y.shot
    → (option_eq eqb x.shot y.shot && option_eq eq-value.it x.side y.side) ≡ alike (told a x) (told a y)
unfolding alike told
landed_eq a x y h k = ap₂ ◌&&◌ (shot_eq x.shot y.shot h k) (side_eq a x.side y.side)

pub from_one : (i : ℕ) → FromOne (Some (i + 1))
unfolding FromOne shot_no
from_one i e = let z : i + 1 ≡ 0 = ap shot_no e in omega (arith, z)

pub none_one : FromOne None
unfolding FromOne
none_one e = true≢false (sym (ap (λ (o : Option ℕ). is_some o) e))

-- side_on
module _ (lo hi from to p k c : ℕ) where
  pub on_below : k < from → 0 ≡ side_on lo hi from to p k c
  unfolding side_on
  on_below h = sym (rw (lt-leb from k h))

  pub on_above : from ≤ k → to ≤ k → 0 ≡ side_on lo hi from to p k c
  unfolding side_on
  on_above h j = sym (rw (le-leb from k h, le-ltb k to j))

  pub on_begin : from ≤ k → k < to → lo ≡ p → c ≡ side_on lo hi from to p k c
  unfolding side_on
  on_begin h j e = sym (rw (le-leb from k h, lt-ltb k to j, eq-eqb lo p e))

  pub on_end : from ≤ k → k < to → (lo ≡ p → ⊥) → hi ≡ p → c + 1 ≡ side_on lo hi from to p k c
  unfolding side_on
  on_end h j e q =
      let z : c + 1 ≡ suc c = omega arith in
      z ∙ sym (rw (le-leb from k h, lt-ltb k to j, ne_eqb lo p e, eq-eqb hi p q))

  pub on_none : from ≤ k → k < to → (lo ≡ p → ⊥) → (hi ≡ p → ⊥) → 0 ≡ side_on lo hi from to p k c
  unfolding side_on
  on_none h j e q = sym (rw (le-leb from k h, lt-ltb k to j, ne_eqb lo p e, ne_eqb hi p q))

-- side_of
module _ (a : Axis) (x₀ y₀ x₁ y₁ p k : ℕ) where
  pub by-x : a ≡ X → side_on x₀ x₁ y₀ y₁ p k 1 ≡ side_by a (shot_of x₀ y₀ x₁ y₁) p k
  unfolding side_by
  by-x e = sym (ap (λ a. side_by a (shot_of x₀ y₀ x₁ y₁) p k) e)

  pub by-y : a ≡ Y → side_on y₀ y₁ x₀ x₁ p k 3 ≡ side_by a (shot_of x₀ y₀ x₁ y₁) p k
  unfolding side_by
  by-y e = sym (ap (λ a. side_by a (shot_of x₀ y₀ x₁ y₁) p k) e)

-- for a shot with an area it is the side of the definition
pub side-facing : (a : Axis) (s : Shot) (p k : ℕ) → low_end a s < high_end a s → side_by a s p k ≡ facing a (shape s) p k
unfolding side_by side_on
side-facing X s p k h = sym (facing-shot X s p k h)
side-facing Y s p k h = sym (facing-shot Y s p k h)

-- covers
module _ (lo hi y : ℕ) where
  pub spans-both : lo ≤ y → ltb y hi ≡ spans lo hi y
  unfolding spans
  spans-both h = sym (ap (λ t. t && ltb y hi) (le-leb lo y h))

  pub spans-not : y < lo → leb lo y ≡ spans lo hi y
  unfolding spans
  spans-not h = lt-leb lo y h ∙ sym (ap (λ t. t && ltb y hi) (lt-leb lo y h))

-- stands
module _ (a b c d x y : ℕ) where
  leb_ltb : (k m : ℕ) → leb (suc k) m ≡ ltb k m
  leb_ltb k m = elim (le-or m k) [
    | inl q ↦ lt-leb (suc k) m (omega arith) ∙ sym (le-ltb k m q)
    | inr q ↦ le-leb (suc k) m q ∙ sym (lt-ltb k m q)
  ]

  pub stands_level : (a ≡ c → ⊥) → false ≡ standing x y (link a b c d)
  unfolding standing link changes coordinate
  stands_level h = sym (rw (ne_eqb a c h))

  pub stands-right : a ≡ c → x < c → false ≡ standing x y (link a b c d)
  unfolding standing link changes coordinate
  stands-right e h = sym (rw (eq-eqb a c e, lt-leb c x h))

  pub stands_up : a ≡ c → c ≤ x → b ≤ d → spans b d y ≡ standing x y (link a b c d)
  unfolding standing link changes coordinate low_along high_along spans
  stands_up e h q =
      let m : min b d ≡ b = omega arith in
      let n : max b d ≡ d = omega arith in
      sym (rw (eq-eqb a c e, le-leb c x h) (ap₂ (λ u v. leb u y && leb (suc y) v) m n ∙ ap (λ t. leb b y && t) (leb_ltb y d)))

  pub stands_down : a ≡ c → c ≤ x → d < b → spans d b y ≡ standing x y (link a b c d)
  unfolding standing link changes coordinate low_along high_along spans
  stands_down e h q =
      let m : min b d ≡ d = omega arith in
      let n : max b d ≡ b = omega arith in
      sym (rw (eq-eqb a c e, le-leb c x h) (ap₂ (λ u v. leb u y && leb (suc y) v) m n ∙ ap (λ t. leb d y && t) (leb_ltb y b)))

-- shot_with: the shots of a list, four by four
unfoldable pub nobody : Shot
nobody = shot_of 0 0 0 0

pub shots-count : (l : List ℕ) → length (shots_in l) ≡ length l / 4
unfolding shots_in
shots-count [] = refl
shots-count (a ∷ []) = refl
shots-count (a ∷ b ∷ []) = refl
shots-count (a ∷ b ∷ c ∷ []) = refl
shots-count (a ∷ b ∷ c ∷ d ∷ l) = omega (arith, shots-count l)

pub shots-at : (l : List ℕ) (i : ℕ) → i < length l / 4
    → get_or (shots_in l) i nobody ≡ shot_of (get_or l (4 * i) 0) (get_or l (4 * i + 1) 0) (get_or l (4 * i + 2) 0) (get_or l (4 * i + 3) 0)
unfolding shots_in nobody
shots-at [] i h = absurd (omega arith)
shots-at (a ∷ []) i h = absurd (omega arith)
shots-at (a ∷ b ∷ []) i h = absurd (omega arith)
shots-at (a ∷ b ∷ c ∷ []) i h = absurd (omega arith)
shots-at (a ∷ b ∷ c ∷ d ∷ l) zero h = refl
shots-at (a ∷ b ∷ c ∷ d ∷ l) (suc i) h =
    let m : get_or (a ∷ b ∷ c ∷ d ∷ l) (4 * suc i) 0 ≡ get_or l (4 * i) 0 = shift (4 * suc i) (4 * i) (omega arith) in
    let n : get_or (a ∷ b ∷ c ∷ d ∷ l) (4 * suc i + 1) 0 ≡ get_or l (4 * i + 1) 0 = shift (4 * suc i + 1) (4 * i + 1) (omega arith) in
    let o : get_or (a ∷ b ∷ c ∷ d ∷ l) (4 * suc i + 2) 0 ≡ get_or l (4 * i + 2) 0 = shift (4 * suc i + 2) (4 * i + 2) (omega arith) in
    let p : get_or (a ∷ b ∷ c ∷ d ∷ l) (4 * suc i + 3) 0 ≡ get_or l (4 * i + 3) 0 = shift (4 * suc i + 3) (4 * i + 3) (omega arith) in
    rest (shots-at l i (omega arith)) m n o p
  where
    shift : (n m : ℕ) → n ≡ suc (suc (suc (suc m))) → get_or (a ∷ b ∷ c ∷ d ∷ l) n 0 ≡ get_or l m 0
    shift n m e = ap (λ n. get_or (a ∷ b ∷ c ∷ d ∷ l) n 0) e

    rest : {s : Shot} {u v w z u' v' w' z' : ℕ} → s ≡ shot_of u v w z → u' ≡ u → v' ≡ v → w' ≡ w → z' ≡ z → s ≡ shot_of u' v' w' z'
    rest h e f g k = h ∙ sym (λ t. shot_of (e t) (f t) (g t) (k t))

module _ (l : List ℕ) (a : Axis) (p k c : ℕ) where
  -- the shot i has the side c there
  unfoldable pub has : ℕ → Bool
  has i = eqb (side_by a (get_or (shots_in l) i nobody) p k) c

  pub has_at : (i r : ℕ) → i < length l / 4
      → r ≡ side_by a (shot_of (get_or l (4 * i) 0) (get_or l (4 * i + 1) 0) (get_or l (4 * i + 2) 0) (get_or l (4 * i + 3) 0)) p k → eqb r c ≡ has i
  unfolding has
  has_at i r h e = ap (λ r. eqb r c) (e ∙ ap (λ s. side_by a s p k) (sym (shots-at l i h)))

  pub found : (i : ℕ) → i < length l / 4 → ((j : ℕ) → j < i → has j ≡ false) → has i ≡ true → i + 1 ≡ shot_by c a (shots_in l) p k
  unfolding shot_by has
  found i h none e = go (first_found (λ s. eqb (side_by a s p k) c) nobody (shots_in l) 1)
    where
      go : (All (λ s. eqb (side_by a s p k) c ≡ false) (shots_in l) × (first (λ s. eqb (side_by a s p k) c) (shots_in l) 1 ≡ 0))
          ⊎ Hit (λ s. eqb (side_by a s p k) c) nobody (shots_in l) 1 (first (λ s. eqb (side_by a s p k) c) (shots_in l) 1)
          → i + 1 ≡ first (λ s. eqb (side_by a s p k) c) (shots_in l) 1
      go (inl q) =
          absurd
          (true≢false
          (sym e ∙ All-get (λ s. eqb (side_by a s p k) c ≡ false) nobody (shots_in l) i (omega (arith, shots-count l)) q.0))
      go (inr q) = elim (le-or q.0 i) [
        | inr z ↦ absurd (true≢false (sym e ∙ q.4 i z))
        | inl z ↦ elim (le-or i q.0) [
          | inl w ↦ omega (arith, q.2)
          | inr w ↦ absurd (true≢false (sym q.3 ∙ none q.0 w))
        ]
      ]

  pub not_found : ((j : ℕ) → j < length l / 4 → has j ≡ false) → 0 ≡ shot_by c a (shots_in l) p k
  unfolding shot_by has
  not_found none = go (first_found (λ s. eqb (side_by a s p k) c) nobody (shots_in l) 1)
    where
      go : (All (λ s. eqb (side_by a s p k) c ≡ false) (shots_in l) × (first (λ s. eqb (side_by a s p k) c) (shots_in l) 1 ≡ 0))
          ⊎ Hit (λ s. eqb (side_by a s p k) c) nobody (shots_in l) 1 (first (λ s. eqb (side_by a s p k) c) (shots_in l) 1)
          → 0 ≡ first (λ s. eqb (side_by a s p k) c) (shots_in l) 1
      go (inl q) = sym q.1
      go (inr q) = absurd (true≢false (sym q.3 ∙ none q.0 (omega (arith, q.1, shots-count l))))

  pub found_at : (i r : ℕ) → i < length l / 4 → ((j : ℕ) → j < i → has j ≡ false)
      → r ≡ side_by a (shot_of (get_or l (4 * i) 0) (get_or l (4 * i + 1) 0) (get_or l (4 * i + 2) 0) (get_or l (4 * i + 3) 0)) p k
      → r ≡ c → i + 1 ≡ shot_by c a (shots_in l) p k
  found_at i r h none e q = found i h none (sym (has_at i r h e) ∙ eq-eqb r c q)

  pub passed-at : (i r : ℕ) → i < length l / 4
      → r ≡ side_by a (shot_of (get_or l (4 * i) 0) (get_or l (4 * i + 1) 0) (get_or l (4 * i + 2) 0) (get_or l (4 * i + 3) 0)) p k
      → (r ≡ c → ⊥) → has i ≡ false
  passed-at i r h e q = sym (has_at i r h e) ∙ ne_eqb r c q

-- turned
pub turned-told : (inside hit : Bool) → not (beq inside hit) ≡ turned inside hit
unfolding turned
turned-told true true = refl
turned-told true false = refl
turned-told false true = refl
turned-told false false = refl

-- low_side
pub low_x : (a : Axis) → a ≡ X → 1 ≡ low_of a
unfolding low_of
low_x a e = sym (ap low_of e)

pub low-y : (a : Axis) → a ≡ Y → 3 ≡ low_of a
unfolding low_of
low-y a e = sym (ap low_of e)

-- face
module _ (u v : Bool) (low : ℕ) where
  pub face_both : u ≡ true → v ≡ true → 0 ≡ face_of u v low
  unfolding face_of
  face_both e q = sym (rw (e, q))

  pub face_low : u ≡ true → v ≡ false → low ≡ face_of u v low
  unfolding face_of
  face_low e q = sym (rw (e, q))

  pub face_high : u ≡ false → v ≡ true → low + 1 ≡ face_of u v low
  unfolding face_of
  face_high e q = let z : low + 1 ≡ suc low = omega arith in z ∙ sym (rw (e, q))

  pub face_none : u ≡ false → v ≡ false → 0 ≡ face_of u v low
  unfolding face_of
  face_none e q = sym (rw (e, q))

-- ring_holds
sum_more : (g : Link Corner → ℕ) (d : Link Corner) (es : List (Link Corner)) (k : ℕ) → k < length es
    → sum_of g (take (suc k) es) ≡ sum_of g (take k es) + g (get_or es k d)
unfolding sum_of
sum_more g d [] k h = absurd (omega arith)
sum_more g d (e ∷ es) zero h = omega arith
sum_more g d (e ∷ es) (suc k) h = omega (arith, sum_more g d es k (omega arith))

sum_all : (g : Link Corner → ℕ) (es : List (Link Corner)) (k : ℕ) → length es ≤ k → sum_of g (take k es) ≡ sum_of g es
unfolding sum_of
sum_all g [] zero h = refl
sum_all g [] (suc k) h = refl
sum_all g (e ∷ es) zero h = absurd (omega arith)
sum_all g (e ∷ es) (suc k) h = omega (arith, sum_all g es k (omega arith))

odd-more : (n : ℕ) (hit : Bool) → turned (odd n) hit ≡ odd (n + only hit 1)
unfolding turned odd
odd-more n false = let z : n + 0 ≡ n = omega arith in sym (ap (λ m. eqb (m % 2) 1) z)
odd-more n true = elim (le-or (n % 2) 0) [
  | inl q ↦ (let a : n % 2 ≡ 0 = omega arith in let b : (n + 1) % 2 ≡ 1 = omega arith in rw (a, b))
  | inr q ↦ (let a : n % 2 ≡ 1 = omega arith in let b : (n + 1) % 2 ≡ 0 = omega arith in rw (a, b))
]

module _ (l : List ℕ) (x y : ℕ) where
  -- on the way: an odd number of the edges passed stand left of the square; the next edge leaves the corner start
  pub record Round (inside : Bool) (start k : ℕ) : Type 0 where
    pub told : inside ≡ inside_by l k x y
    pub leaves : start ≡ before k (length l / 2)
    pub fits : start < length l / 2

  pub round_none : 0 < length l / 2 → Round false (length l / 2 - 1) 0
  unfolding inside_by sum_of odd before
  round_none h = record { told = refl; leaves = refl; fits = omega arith }

  edge-link : (k : ℕ) → k < length l / 2
      → get_or (edges (corners l)) k (still origin)
      ≡ link (get_or l (2 * before k (length l / 2)) 0) (get_or l (2 * before k (length l / 2) + 1) 0) (get_or l (2 * k) 0) (get_or l (2 * k + 1) 0)
  unfolding edge link
  edge-link k h =
      edge_at l k h
      ∙ ap₂ (λ u v. record { from = u; to = v }) (corner-at l (before k (length l / 2)) (before_less k (length l / 2) h)) (corner-at l k h)

  pub round_more : (k start : ℕ) (inside hit r : Bool) → k < length l / 2 → Round inside start k
      → hit ≡ standing x y (link (get_or l (2 * start) 0) (get_or l (2 * start + 1) 0) (get_or l (2 * k) 0) (get_or l (2 * k + 1) 0))
      → r ≡ turned inside hit → Round r k (k + 1)
  unfolding inside_by before
  round_more k start inside hit r h i j q =
      record {
        told =
            q
            ∙ ap₂ turned i.told here
            ∙ odd-more (sum_of (λ e. only (standing x y e) 1) (take k (edges (corners l)))) (standing x y (get_or (edges (corners l)) k (still origin)))
            ∙ ap odd (sym (sum_more (λ e. only (standing x y e) 1) (still origin) (edges (corners l)) k (omega (arith, length-edges l))))
            ∙ ap (λ n. odd (sum_of (λ e. only (standing x y e) 1) (take n (edges (corners l))))) next;
        leaves = sym (ap (λ n. before n (length l / 2)) (sym next));
        fits = h;
      }
    where
      next : suc k ≡ k + 1
      next = omega arith

      here : hit ≡ standing x y (get_or (edges (corners l)) k (still origin))
      here =
          j
          ∙ ap (λ n. standing x y (link (get_or l (2 * n) 0) (get_or l (2 * n + 1) 0) (get_or l (2 * k) 0) (get_or l (2 * k + 1) 0))) i.leaves
          ∙ ap (standing x y) (sym (edge-link k h))

  pub round_all : (inside : Bool) (start n : ℕ) → length l / 2 ≤ n → Round inside start n → inside ≡ ring_holds l x y
  unfolding inside_by ring_holds within standing
  round_all inside start n h e =
      e.told
      ∙ ap odd
      (sum_all (λ e. only (standing x y e) 1) (edges (corners l)) n (omega (arith, length-edges l))
      ∙ sym (within_count (edges (corners l)) x y))

-- inside_at: what is passed turned by what is left
turned-turned : (a b c : Bool) → turned (turned a b) c ≡ turned a (turned c b)
unfolding turned
turned-turned true true true = refl
turned-turned true true false = refl
turned-turned true false true = refl
turned-turned true false false = refl
turned-turned false true true = refl
turned-turned false true false = refl
turned-turned false false true = refl
turned-turned false false false = refl

turned_none : (b : Bool) → turned false b ≡ b
unfolding turned
turned_none true = refl
turned_none false = refl

module _ (l ns : List ℕ) (x y : ℕ) where
  -- an odd number of the rings from the k-th on, whose numbers begin at from, hold the square
  unfoldable pub left : ℕ → ℕ → Bool
  left from k = odd (sum_of (λ r. only (ring_holds r x y) 1) (share (drop k ns) (drop from l)))

  pub record Turning (inside : Bool) (from k : ℕ) : Type 0 where
    pub told : inside_at (figure l ns) x y ≡ turned (left from k) inside
    pub reached : Reached l ns from k

  map_sum : (rs : List (List ℕ)) → sum_of (λ r. only (within (walls (edges r)) x y (suc y)) 1) (map corners rs) ≡ sum_of (λ r. only (ring_holds r x y) 1) rs
  unfolding sum_of ring_holds
  map_sum [] = refl
  map_sum (r ∷ rs) = ap (λ n. only (within (walls (edges (corners r))) x y (suc y)) 1 + n) (map_sum rs)

  pub turning_start : bad_figure (figure l ns) ≡ false → Turning false 0 0
  unfolding left turned
  turning_start h = record { told = inside-rings (figure l ns) x y ∙ ap odd (map_sum (share ns l)); reached = reached-start l ns h }

  module _ (inside : Bool) (from k n to : ℕ) (t : Turning inside from k) (here : k < length ns) (long : n ≡ get_or ns k 0) (ends : to ≡ from + 2 * n) where
    pub turning_room : (from ≤ to) × (to ≤ length l)
    turning_room = reached-room l ns from k n to here long ends t.reached

    pub turning_some : bad_figure (figure l ns) ≡ false → 0 < length (take (to - from) (drop from l)) / 2
    turning_some = reached-some l ns from k n to here long ends t.reached

    -- one ring more
    split : odd (sum_of (λ r. only (ring_holds r x y) 1) (share (drop k ns) (drop from l)))
        ≡ turned (odd (sum_of (λ r. only (ring_holds r x y) 1) (share (drop (k + 1) ns) (drop to l)))) (ring_holds (take (to - from) (drop from l)) x y)
    unfolding sum_of
    split =
        let m = sum_of (λ r. only (ring_holds r x y) 1) (share (drop (k + 1) ns) (drop to l)) in
        let b = ring_holds (take (to - from) (drop from l)) x y in
        let z : only b 1 + m ≡ m + only b 1 = omega arith in
        ap (λ rs. odd (sum_of (λ r. only (ring_holds r x y) 1) rs)) (share-next l ns from k n to here long ends)
        ∙ ap odd z
        ∙ sym (odd-more m b)

    pub turning_more : (hit r : Bool) → hit ≡ ring_holds (take (to - from) (drop from l)) x y → r ≡ turned inside hit → Turning r to (k + 1)
    turning_more hit r e q =
        record {
          told =
              t.told
              ∙ ap (λ b. turned b inside) (cons ∙ ap (turned (left to (k + 1))) (sym e))
              ∙ turned-turned (left to (k + 1)) hit inside
              ∙ ap (turned (left to (k + 1))) (sym q);
          reached = reached-next l ns from k n to here long ends t.reached;
        }
      where
        cons : left from k ≡ turned (left to (k + 1)) (ring_holds (take (to - from) (drop from l)) x y)
        cons = unfold left sum_of in split

  pub turning_end : (inside : Bool) (from k : ℕ) → Turning inside from k → length ns ≤ k → inside ≡ inside_at (figure l ns) x y
  unfolding left sum_of odd
  turning_end inside from k t h =
      sym
      (t.told
      ∙ ap (λ rs. turned (odd (sum_of (λ r. only (ring_holds r x y) 1) rs)) inside) (share-end l ns from k h)
      ∙ turned_none inside)

-- seen, beneath, side_at
pub seen-x : (a : Axis) (f : Figure) (p k : ℕ) (r : Bool) → a ≡ X → r ≡ inside_at f p k → r ≡ seen_by a f p k
unfolding seen_by
seen-x a f p k r e h = h ∙ sym (ap (λ a. seen_by a f p k) e)

pub seen-y : (a : Axis) (f : Figure) (p k : ℕ) (r : Bool) → a ≡ Y → r ≡ inside_at f k p → r ≡ seen_by a f p k
unfolding seen_by
seen-y a f p k r e h = h ∙ sym (ap (λ a. seen_by a f p k) e)

pub beneath-first : (a : Axis) (f : Figure) (p k : ℕ) → p ≡ 0 → false ≡ beneath_by a f p k
unfolding beneath_by beneath
beneath-first a f p k e = sym (ap (λ p. beneath_by a f p k) e)

pub beneath-next : (a : Axis) (f : Figure) (p k : ℕ) (r : Bool) → (p ≡ 0 → ⊥) → r ≡ seen_by a f (p - 1) k → r ≡ beneath_by a f p k
unfolding beneath_by beneath seen_by
beneath-next a f zero k r e h = absurd (e refl)
beneath-next a f (suc p) k r e h = let z : suc p - 1 ≡ p = omega arith in h ∙ ap (λ n. seen_by a f n k) z

faced : (a : Axis) (f : Figure) (p k : ℕ)
    → cond (exposed (seen_by a f p k) (beneath_by a f p k)) (low_side a) (cond (exposed (beneath_by a f p k) (seen_by a f p k)) (high_side a) 0)
    ≡ facing a (inside_at f) p k
unfolding facing seen_by beneath_by beyond
faced a f p k = refl

pub side-told : (a : Axis) (f : Figure) (p k : ℕ) (u v : Bool) (n r : ℕ) → u ≡ seen_by a f p k → v ≡ beneath_by a f p k → n ≡ low_of a
    → r ≡ face_of u v n → r ≡ facing a (inside_at f) p k
side-told a f p k u v n r d e g h = h ∙ go u v n a d e g
  where
    table : (a : Axis) (u v : Bool) → face_of u v (low_of a) ≡ cond (exposed u v) (low_side a) (cond (exposed v u) (high_side a) 0)
    table X true true = unfold face_of exposed in refl
    table X true false = unfold face_of exposed low_of in refl
    table X false true = unfold face_of exposed low_of in refl
    table X false false = unfold face_of exposed in refl
    table Y true true = unfold face_of exposed in refl
    table Y true false = unfold face_of exposed low_of in refl
    table Y false true = unfold face_of exposed low_of in refl
    table Y false false = unfold face_of exposed in refl

    go : (u v : Bool) (n : ℕ) (a : Axis) → u ≡ seen_by a f p k → v ≡ beneath_by a f p k → n ≡ low_of a
        → face_of u v n ≡ facing a (inside_at f) p k
    go u v n a d e g =
        ap (face_of u v) g
        ∙ table a u v
        ∙ ap₂ (λ u v. cond (exposed u v) (low_side a) (cond (exposed v u) (high_side a) 0)) d e
        ∙ faced a f p k

pub low_small : (a : Axis) (n : ℕ) → n ≡ low_of a → n ≤ 3
unfolding low_of
low_small X n e = omega arith
low_small Y n e = omega arith

-- landing_at
module _ (a : Axis) (F : ℕ → ℕ → Bool) (l : List Shot) (p k : ℕ) where
  solid_side : Solid a l → All (λ s. side_by a s p k ≡ facing a (shape s) p k) l
  unfolding Solid
  solid_side = go a
    where
      go : (a : Axis) → Solid a l → All (λ s. side_by a s p k ≡ facing a (shape s) p k) l
      go X h = All-imp (λ s w. side-facing X s p k w) l h
      go Y h = All-imp (λ s w. side-facing Y s p k w) l h

  pub landed_none : 0 ≡ facing a F p k → told a (record { shot = None; side = None }) ≡ landing a F l p k
  unfolding told landing shot_with shot_no side_no
  landed_none e = λ t. record { shot = sym shot t; side = e t }
    where
      shot : cond (eqb (facing a F p k) 0) 0 (first (λ s. eqb (facing a (shape s) p k) (facing a F p k)) l 1) ≡ 0
      shot = rw (eq-eqb (facing a F p k) 0 (sym e))

  pub landed_some : (end : Side) (on : Option ℕ) → Solid a l → side_no (low_of a) (Some end) ≡ facing a F p k
      → shot_no on ≡ shot_by (side_no (low_of a) (Some end)) a l p k → told a (record { shot = on; side = Some end }) ≡ landing a F l p k
  unfolding told landing shot_with shot_by
  landed_some end on solid e h = λ t. record { shot = (h ∙ same ∙ sym found) t; side = e t }
    where
      side : ℕ
      side = side_no (low_of a) (Some end)

      found : cond (eqb (facing a F p k) 0) 0 (first (λ s. eqb (facing a (shape s) p k) (facing a F p k)) l 1)
          ≡ first (λ s. eqb (facing a (shape s) p k) (facing a F p k)) l 1
      found = rw (ne_eqb (facing a F p k) 0 (λ z. absurd (omega (arith, side_some a end, e, z))))

      same : first (λ s. eqb (side_by a s p k) side) l 1 ≡ first (λ s. eqb (facing a (shape s) p k) (facing a F p k)) l 1
      same = first-same _ _ l 1 (All-imp (λ s w. ap₂ eqb w e) l (solid_side solid))

-- next_place
module _ (a : Axis) (l : List ℕ) (k high : ℕ) where
  pub free_none : k < high → Free a l 0 k high high
  free_none h = record { past = h; within = omega arith; none = λ j q. absurd (omega arith) }

  pub free_more : (n best place r : ℕ) → Free a l n k high best → place ≡ place_of a l n → Nearer place k best r → Free a l (n + 1) k high r
  free_more n best place r f e m = record {
    past = m.past;
    within = omega (arith, m.within, f.within);
    none = λ j q. go j (le-or n j) q;
  }
    where
      go : (j : ℕ) → (n ≤ j) ⊎ (j < n) → j < n + 1 → k < place_of a l j → place_of a l j < r → ⊥
      go j (inl z) q u v =
          let w : j ≡ n = omega arith in
          m.none (omega (arith, e, ap (place_of a l) w)) (omega (arith, e, ap (place_of a l) w))
      go j (inr z) q u v = f.none j z u (omega (arith, m.within))

  pub free_all : (n m r : ℕ) → m ≤ n → Free a l n k high r → Free a l m k high r
  free_all n m r h f = record { past = f.past; within = f.within; none = λ j q. f.none j (omega arith) }

-- run_at
alike-turn : (a b : Landing) → alike a b ≡ alike b a
alike-turn a b = go (alike b a) refl (alike a b) refl
  where
    go : (s : Bool) → alike b a ≡ s → (t : Bool) → alike a b ≡ t → t ≡ s
    go true e true q = refl
    go false e false q = refl
    go true e false q = absurd (true≢false (sym (same_alike a b (sym (alike_same b a e))) ∙ q))
    go false e true q = absurd (true≢false (sym (same_alike b a (sym (alike_same a b q))) ∙ e))

not-true : (t : Bool) → not t ≡ true → t ≡ false
not-true false h = refl
not-true true h = absurd (true≢false (sym h))

not-false : (t : Bool) → not t ≡ false → t ≡ true
not-false true h = refl
not-false false h = absurd (true≢false h)

-- what the loop has passed
pub record Onward (f : ℕ → Landing) (from high to shot side : ℕ) : Type 0 where
  pub past : from ≤ to
  pub within : to ≤ high
  pub says : (j : ℕ) → from ≤ j → j < to → f j ≡ record { shot = shot; side = side }

module _ (f : ℕ → Landing) (high shot side : ℕ) where
  abbrev lands : Landing
  lands = record { shot = shot; side = side }

  pub onward-none : (k from : ℕ) → Steady f k high from → Onward f from high from shot side
  onward-none k from h = record { past = omega arith; within = h.within; says = λ j p q. absurd (omega arith) }

  pub onward-more : (from to r : ℕ) (there : Landing) (t : Bool) → Onward f from high to shot side → there ≡ f to → t ≡ alike there lands → not t ≡ false
      → Steady f to high r → Onward f from high r shot side
  onward-more from to r there t h e q z g = record {
    past = omega (arith, h.past, g.past);
    within = g.within;
    says = λ j p w. elim (le-or to j) [
      | inl v ↦ g.same j v w ∙ sym e ∙ alike_same there lands (sym q ∙ not-false t z)
      | inr v ↦ h.says j p v
    ];
  }

  module _ (k from to : ℕ) (h : Steady f k high from) (e : lands ≡ f k) (o : Onward f from high to shot side) where
    said : (j : ℕ) → k ≤ j → j < to → f j ≡ lands
    said j p q = elim (le-or from j) [
      | inl v ↦ o.says j v q
      | inr v ↦ h.same j p v ∙ sym e
    ]

    pub whole-stop : (there : Landing) (t : Bool) → there ≡ f to → t ≡ alike there lands → not t ≡ true → Whole f k high to shot side
    whole-stop there t w q z = record {
      past = omega (arith, h.past, o.past);
      within = o.within;
      says = said;
      ends = λ v. alike-turn lands (f to) ∙ ap (λ a. alike a lands) (sym w) ∙ sym q ∙ not-true t z;
    }

    pub whole-end : high ≤ to → Whole f k high to shot side
    whole-end n = record {
      past = omega (arith, h.past, o.past);
      within = o.within;
      says = said;
      ends = λ v. absurd (omega arith);
    }

-- count_runs, and a pass that writes: the first run, then those that begin where it ends
module _ (f : ℕ → Landing) (high : ℕ) where
  pub runs-first : (k to shot side : ℕ) → Whole f k high to shot side
      → runs f k (high - k) ≡ record { from = k; to = to; lands = record { shot = shot; side = side } } ∷ runs f to (high - to)
  runs-first k to shot side w = runs_unique f k high (runs f k (high - k)) (r ∷ runs f to (high - to)) whole (joined (runs f to (high - to)) rest)
    where
      r : Run
      r = record { from = k; to = to; lands = record { shot = shot; side = side } }

      whole : Right f k high (runs f k (high - k))
      whole =
          let z : k + (high - k) ≡ high = omega (arith, w.past, w.within) in
          subst (λ m. Right f k m (runs f k (high - k))) z (runs-right f k (high - k))

      rest : Right f to high (runs f to (high - to))
      rest =
          let z : to + (high - to) ≡ high = omega (arith, w.within) in
          subst (λ m. Right f to m (runs f to (high - to))) z (runs-right f to (high - to))

      joined : (l : List Run) → Right f to high l → Right f k high (r ∷ l)
      joined [] h = record { shared = (refl, w.past, h.shared); says = (w.says, tt); apart = tt }
      joined (q ∷ l) h = record {
        shared = (refl, w.past, h.shared);
        says = (w.says, h.says);
        apart = (
          ap (alike (record { shot = shot; side = side })) (sym (h.says.0 to (omega (arith, h.shared.0)) h.shared.1))
              ∙ w.ends (omega (arith, h.shared.1, shared_le f q.to high l h.shared.2)),
          h.apart,
        );
      }

  pub count-start : (low : ℕ) → 0 + run_count f low high ≡ run_count f low high
  count-start low = omega arith

  pub count-more : (low k count to shot side : ℕ) → count + run_count f k high ≡ run_count f low high → Whole f k high to shot side
      → (count + 1) + run_count f to high ≡ run_count f low high
  unfolding run_count
  count-more low k count to shot side e w = omega (arith, e, ap length (runs-first k to shot side w))

  pub count-end : (low k count : ℕ) → high ≤ k → count + run_count f k high ≡ run_count f low high → count ≡ run_count f low high
  unfolding run_count runs
  count-end low k count h e =
      let z : high - k ≡ 0 = omega arith in
      omega (arith, e, ap (λ n. length (runs f k n)) z)
