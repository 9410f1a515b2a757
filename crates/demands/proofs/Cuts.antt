-- The cuts weighed over a grid are those of the figure at unit squares. Assumes nothing.
--
--   Marked x n on        == the places x 0 < x 1 < .. < x n, all below 65,536, are just the marked ones
--   marks-pairs          == a sum over pairs of marked places is one over pairs of lines
--   marks-between        == so many marked places lie strictly between two lines
--   kind_squares         == a piece has the kind that its rectangle has at unit squares
--   weighed-partly       == its cuts are weighed just where its rectangle is partly inside
--   weighed_squares      == the cuts weighed over the grid are those of the figure at unit squares
use Prim.Native.Nat.{ℕ, zero, suc, ◌+◌, ◌-◌, ◌≤◌, ◌<◌}
use mathlib.Core.Path.{◌≡◌, refl, sym, ◌∙◌, ap, ap₂}
use mathlib.Core.Bool.{Bool, true, false, ◌&&◌}
use mathlib.Core.Logic.{inl, inr}
use native.Mathlib.Omega.{arith}
use lib.Dec.{ltb}
use borrow.Author.Tests.{lt-ltb, le-ltb}
use Rattle.sum.specs.Sum.{only, over}
use Rattle.sum.proofs.Sum.{le-or, over_none, over-one, over_last, over-cut, over-same, over_zero, over_ones, rise}
use Rattle.recurrence.specs.Scheme.{Kind, outside, full, mixed}
use Rattle.outline.specs.Grid.{Grid, Sound}
use Rattle.piece.specs.Piece.{Piece, box, rectangle, cell_sum, cells, inside_cells, kind}
use Rattle.piece.proofs.Cells.{Within, cells-product}
use Rattle.piece.proofs.Kind.{outside-count, full-count, mixed-count, outside-cell, full-cell, kind-none, kind-all}
use Rattle.shot.specs.Shot.{Shot}
use Rattle.table.specs.Entry.{Valid}
use Rattle.demands.specs.Cuts.{lines_within, weighed, line_pairs, weighed_cuts, marks, squares_in, area, partly, pair_sum, square_cuts}
use Rattle.demands.proofs.Bounded.{pairs-same}
use Rattle.demands.proofs.Square.{Shows}
use Rattle.demands.proofs.Ways.{held, holding, square-cell, cell-square}

-- Marked places

pub record Marked (x : ℕ → ℕ) (n : ℕ) (on : ℕ → Bool) : Type 0 where
  pub up : (i : ℕ) → x i ≤ x (suc i)
  pub rises : (i : ℕ) → i < n → x i < x (suc i)
  pub most : x n < 65536
  pub line : (i : ℕ) → i ≤ n → on (x i) ≡ true
  pub place : (v : ℕ) → on v ≡ true → (i : ℕ) × (i ≤ n) × (x i ≡ v)

module _ (x : ℕ → ℕ) (n : ℕ) (on : ℕ → Bool) (m : Marked x n on) where
  -- no place is marked but the lines
  off : (v : ℕ) → ((i : ℕ) → i ≤ n → x i ≡ v → ⊥) → on v ≡ false
  off v h = go (on v) refl
    where
      go : (t : Bool) → on v ≡ t → t ≡ false
      go true e = let p = m.place v e in absurd (h p.0 p.1 p.2)
      go false e = refl

  off_between : (k v : ℕ) → x k < v → v < x (suc k) → on v ≡ false
  off_between k v h q = off v (λ i j e. elim (le-or i k) [
    | inl r ↦ omega (arith, rise x m.up i k r)
    | inr r ↦ omega (arith, rise x m.up (suc k) i r)
  ])

  module _ (f : ℕ → ℕ) where
    abbrev mark : ℕ → ℕ
    mark v = only (on v) (f v)

    none : (v : ℕ) → on v ≡ false → mark v ≡ 0
    none v e = ap (λ t. only t (f v)) e

    one : (k : ℕ) → k ≤ n → mark (x k) ≡ f (x k)
    one k h = ap (λ t. only t (f (x k))) (m.line k h)

    next : (k : ℕ) → k < n → over (suc (x k)) (suc (x (suc k))) mark ≡ f (x (suc k))
    next k h =
        omega (
          arith,
          over_last (suc (x k)) (x (suc k)) mark (m.rises k h),
          over_zero (suc (x k)) (x (suc k)) mark (λ v p q. none v (off_between k v p q)),
          one (suc k) h,
        )

    span : (a c : ℕ) → a ≤ c → c ≤ n → over (suc (x a)) (suc (x c)) mark ≡ over (suc a) (suc c) (λ k. f (x k))
    span a zero h q =
        let z : a ≡ 0 = omega arith in
        rw z (over_none (suc (x 0)) (suc (x 0)) mark (omega arith) ∙ sym (over_none 1 1 (λ k. f (x k)) (omega arith)))
    span a (suc c) h q = elim (le-or a c) [
      | inl r ↦
          omega (
            arith,
            over-cut (suc (x a)) (suc (x c)) (suc (x (suc c))) mark (omega (arith, rise x m.up a c r)) (omega (arith, m.up c)),
            span a c r (omega arith),
            next c q,
            over_last (suc a) (suc c) (λ k. f (x k)) (omega arith),
          )
      | inr r ↦
          let z : a ≡ suc c = omega arith in
          rw z (over_none (suc (x (suc c))) (suc (x (suc c))) mark (omega arith) ∙ sym (over_none (suc (suc c)) (suc (suc c)) (λ k. f (x k)) (omega arith)))
    ]

    tail : (a : ℕ) → a ≤ n → over (suc (x a)) 65536 mark ≡ over (suc a) (suc n) (λ k. f (x k))
    tail a h =
        omega (
          arith,
          over-cut (suc (x a)) (suc (x n)) 65536 mark (omega (arith, rise x m.up a n h)) m.most,
          span a n h (omega arith),
          over_zero (suc (x n)) 65536 mark (λ v p q. none v (off v (λ i j e. omega (arith, rise x m.up i n j)))),
        )

    whole : over 0 65536 mark ≡ over 0 (suc n) (λ k. f (x k))
    whole =
        omega (
          arith,
          over-cut 0 (suc (x 0)) 65536 mark (omega arith) (omega (arith, rise x m.up 0 n (omega arith), m.most)),
          over_last 0 (x 0) mark (omega arith),
          over_zero 0 (x 0) mark (λ v p q. none v (off v (λ i j e. omega (arith, rise x m.up 0 i (omega arith))))),
          one 0 (omega arith),
          tail 0 (omega arith),
          over-cut 0 1 (suc n) (λ k. f (x k)) (omega arith) (omega arith),
          over-one 0 (λ k. f (x k)),
        )

  pub marks-between : (a c : ℕ) → a < c → c ≤ n → marks on (suc (x a)) (x c) ≡ c - suc a
  unfolding marks
  marks-between a c h q =
      omega (
        arith,
        over_last (suc (x a)) (x c) (mark (λ v. 1)) (omega (arith, rise x m.up (suc a) c h, m.rises a (omega arith))),
        one (λ v. 1) c q,
        span (λ v. 1) a c (omega arith) q,
        over_ones (suc a) (suc c),
        over_none (suc c) (suc a) (λ k. 1) (omega arith),
      )

  pub marks-pairs : (f : ℕ → ℕ → ℕ) → pair_sum on f ≡ line_pairs n (λ i j. f (x i) (x j))
  unfolding pair_sum line_pairs
  marks-pairs f =
      whole (λ u. over (suc u) 65536 (λ v. only (on v) (f u v)))
      ∙ over-same 0 (suc n) _ (λ i. over (suc i) (suc n) (λ j. f (x i) (x j))) (λ i p q. tail (f (x i)) i (omega arith))
      ∙ over_last 0 n (λ i. over (suc i) (suc n) (λ j. f (x i) (x j))) (omega arith)
      ∙ omega (arith, over_none (suc n) (suc n) (λ j. f (x n) (x j)) (omega arith))

-- Kinds at unit squares

-- the grid of unit squares
abbrev unit : (ℕ → ℕ → Bool) → Grid
unit F = record { columns = 0; rows = 0; x = λ i. i; y = λ j. j; inside = F }

abbrev squares : Shot → Piece
squares s = box s.xlow s.xhigh s.ylow s.yhigh

module _ (g : Grid) (F : ℕ → ℕ → Bool) (sound : Sound g) (shows : Shows g F) (p : Piece) (v : Valid g.columns g.rows p) where
  abbrev q : Piece
  q = squares (rectangle g p)

  x-wide : g.x p.a < g.x p.c
  x-wide = omega (arith, rise g.x sound.x-up (suc p.a) p.c v.ac, sound.x_rises p.a (omega (arith, v.ac, v.cx)))

  y-wide : g.y p.b < g.y p.d
  y-wide = omega (arith, rise g.y sound.y-up (suc p.b) p.d v.bd, sound.y_rises p.b (omega (arith, v.bd, v.dy)))

  -- a unit square of the rectangle is as one of its cells is
  square-is : (t : Bool) → ((i j : ℕ) → Within p i j → g.inside i j ≡ t) → (x y : ℕ) → Within q x y → F x y ≡ t
  square-is t h x y w =
      let m = square-cell g F sound shows p v x y (holding x y (rectangle g p) w.a w.c w.b w.d) in
      m.3 ∙ h m.0 m.1 m.2

  -- and the other way
  cell-is : (t : Bool) → ((x y : ℕ) → Within q x y → F x y ≡ t) → (i j : ℕ) → Within p i j → g.inside i j ≡ t
  cell-is t h =
      cell-square g F sound shows p v t
      (λ x y e. let k = held x y (rectangle g p) e in h x y (record { a = k.0; c = k.1; b = k.2; d = k.3 }))

  pub kind_squares : kind g p ≡ kind (unit F) q
  kind_squares = go (kind (unit F) q) refl (kind g p) refl
    where
      go : (k : Kind) → kind (unit F) q ≡ k → (l : Kind) → kind g p ≡ l → l ≡ k
      go outside e l f = sym f ∙ kind-none g p (cell-is false (outside-cell (unit F) q e))
      go full e l f = sym f ∙ kind-all g p v.ac v.bd (cell-is true (full-cell (unit F) q e))
      go mixed e outside f = sym (kind-none (unit F) q (square-is false (outside-cell g p f))) ∙ e
      go mixed e full f = sym (kind-all (unit F) q x-wide y-wide (square-is true (full-cell g p f))) ∙ e
      go mixed e mixed f = refl

  pub weighed-partly : weighed g p ≡ only (partly F (rectangle g p)) (lines_within p)
  unfolding weighed partly
  weighed-partly = ap counted kind_squares ∙ go (kind (unit F) q) refl
    where
      counted : Kind → ℕ
      counted k = elim k [ outside ↦ 0 | full ↦ 0 | mixed ↦ lines_within p ]

      n : ℕ
      n = squares_in F (rectangle g p)

      same : inside_cells (unit F) q ≡ n
      same = unfold inside_cells cell_sum squares_in in refl

      all : cells q ≡ area (rectangle g p)
      all = unfold area in cells-product q (omega (arith, x-wide)) (omega (arith, y-wide))

      go : (k : Kind) → kind (unit F) q ≡ k → counted k ≡ only (ltb 0 n && ltb n (area (rectangle g p))) (lines_within p)
      go outside e = sym (rw (le-ltb 0 n (omega (arith, outside-count (unit F) q e, same))) refl)
      go full e = sym (ap (λ t. only (ltb 0 n && t) (lines_within p)) (le-ltb n (area (rectangle g p)) (omega (arith, (full-count (unit F) q e).0, same, all))) ∙ none (ltb 0 n))
        where
          none : (t : Bool) → only (t && false) (lines_within p) ≡ 0
          none true = refl
          none false = refl
      go mixed e =
          let h = mixed-count (unit F) q e in
          sym (ap₂ (λ s t. only (s && t) (lines_within p)) (lt-ltb 0 n (omega (arith, h.0, same))) (lt-ltb n (area (rectangle g p)) (omega (arith, h.1, same, all))))

-- The whole grid

pub weighed_squares : (g : Grid) (F : ℕ → ℕ → Bool) (onX onY : ℕ → Bool) → Sound g → Shows g F
    → Marked g.x g.columns onX → Marked g.y g.rows onY → weighed_cuts g ≡ square_cuts F onX onY
unfolding weighed_cuts square_cuts
weighed_squares g F onX onY sound shows mx my =
    sym
    (marks-pairs g.x g.columns onX mx (λ x u. pair_sum onY (cuts x u))
    ∙ pairs-same g.columns _ _
    (λ a c h k.
    marks-pairs g.y g.rows onY my (cuts (g.x a) (g.x c))
    ∙ pairs-same g.rows _ _ (λ b d s t. at_piece a c b d h k s t)))
  where
    cuts : ℕ → ℕ → ℕ → ℕ → ℕ
    cuts x u y v = only (partly F (record { xlow = x; ylow = y; xhigh = u; yhigh = v })) (marks onX (suc x) u + marks onY (suc y) v)

    at_piece : (a c b d : ℕ) → a < c → c ≤ g.columns → b < d → d ≤ g.rows → cuts (g.x a) (g.x c) (g.y b) (g.y d) ≡ weighed g (box a c b d)
    at_piece a c b d h k s t =
        unfold lines_within in
        ap₂ (λ m n. only (partly F (rectangle g (box a c b d))) (m + n)) (marks-between g.x g.columns onX mx a c h k) (marks-between g.y g.rows onY my b d s t)
        ∙ sym (weighed-partly g F sound shows (box a c b d) (record { ac = h; cx = k; bd = s; dy = t }))
