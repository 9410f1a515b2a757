-- Kinds are counts of inside cells. Assumes nothing.
--
--   kind-outside, kind-full, kind-mixed          == the kind of a piece, from its count of inside cells
--   outside-count, full-count, mixed-count       == and back
--   inside-most                                  == no more cells are inside than there are
--   outside-cell, full-cell                      == each cell of an outside piece is outside, of a full one inside
--   kind-none, kind-all                          == and back, from each cell
--   outside_sum, full_sum                        == whatever weight each cell has: none of an outside piece is inside, all of a full one
--   full_vertical, full_horizontal               == the parts of a full piece are full
use Prim.Native.Nat.{ℕ, ◌*◌, ◌≤◌, ◌<◌}
use mathlib.Core.Path.{◌≡◌, refl, sym, ◌∙◌, ap, subst}
use mathlib.Core.Bool.{Bool, true, false}
use mathlib.Core.Logic.{◌≢◌}
use native.Mathlib.Omega.{arith}
use lib.Dec.{eqb}
use borrow.Author.Tests.{eqb-true, eqb-false, eq-eqb, ne_eqb}
use Rattle.sum.specs.Sum.{only}
use Rattle.sum.proofs.Sum.{only-most}
use Rattle.recurrence.specs.Scheme.{Kind, outside, full, mixed}
use Rattle.outline.specs.Grid.{Grid}
use Rattle.piece.specs.Piece.{Piece, left_part, right_part, lower_part, upper_part, cell_sum, cells, kind_of, inside_cells, kind}
use Rattle.piece.proofs.Cells.{Within, sum_le, sum_same, sum_term, sum_tight, sum_mul, cells-some, cells-b}
use Rattle.piece.proofs.Turned.{turned, turn, kind-turn}

-- n inside cells of m are of the kind k
abbrev Says : ℕ → ℕ → Kind → Type 0
Says n m outside = n ≡ 0
Says n m full = (n ≡ m) × (0 < n)
Says n m mixed = (0 < n) × (n ≡ m → ⊥)

says : (n m : ℕ) → Says n m (kind_of n m)
unfolding kind_of
says n m = go (eqb n 0) refl (eqb n m) refl
  where
    go : (t : Bool) → eqb n 0 ≡ t → (u : Bool) → eqb n m ≡ u
        → Says n m (elim t [ true ↦ outside | false ↦ elim u [ true ↦ full | false ↦ mixed ] ])
    go true e u f = eqb-true n 0 e
    go false e true f = (eqb-true n m f, (let h : n ≢ 0 = eqb-false n 0 e in omega arith))
    go false e false f = ((let h : n ≢ 0 = eqb-false n 0 e in omega arith), eqb-false n m f)

module _ (g : Grid) where
  pub inside-most : (p : Piece) → inside_cells g p ≤ cells p
  unfolding inside_cells cells
  inside-most p = sum_le (λ i j. only (g.inside i j) 1) (λ i j. 1) p (λ i j w. only-most (g.inside i j) 1)

  said : (p : Piece) → Says (inside_cells g p) (cells p) (kind g p)
  unfolding kind
  said p = says (inside_cells g p) (cells p)

  pub outside-count : (p : Piece) → kind g p ≡ outside → inside_cells g p ≡ 0
  outside-count p e = subst (Says (inside_cells g p) (cells p)) e (said p)

  pub full-count : (p : Piece) → kind g p ≡ full → (inside_cells g p ≡ cells p) × (0 < inside_cells g p)
  full-count p e = subst (Says (inside_cells g p) (cells p)) e (said p)

  pub mixed-count : (p : Piece) → kind g p ≡ mixed → (0 < inside_cells g p) × (inside_cells g p < cells p)
  mixed-count p e =
      let s : Says (inside_cells g p) (cells p) mixed = subst (Says (inside_cells g p) (cells p)) e (said p) in
      let n : inside_cells g p ≢ cells p = s.1 in
      (s.0, omega (arith, inside-most p))

  pub kind-outside : (p : Piece) → inside_cells g p ≡ 0 → kind g p ≡ outside
  unfolding kind kind_of
  kind-outside p e = rw (eq-eqb (inside_cells g p) 0 e, kind_of)

  pub kind-mixed : (p : Piece) → 0 < inside_cells g p → inside_cells g p < cells p → kind g p ≡ mixed
  unfolding kind kind_of
  kind-mixed p h k =
      rw (ne_eqb (inside_cells g p) 0 (λ z. omega arith), kind_of) (rw (ne_eqb (inside_cells g p) (cells p) (λ z. omega arith)))

  pub kind-full : (p : Piece) → inside_cells g p ≡ cells p → 0 < cells p → kind g p ≡ full
  unfolding kind kind_of
  kind-full p e h = rw (ne_eqb (inside_cells g p) 0 (λ z. omega arith), kind_of) (rw (eq-eqb (inside_cells g p) (cells p) e))

  -- cell by cell
  pub outside-cell : (p : Piece) → kind g p ≡ outside → (i j : ℕ) → Within p i j → g.inside i j ≡ false
  unfolding inside_cells
  outside-cell p e i j w = go (g.inside i j) (omega (arith, outside-count p e, sum_term (λ i j. only (g.inside i j) 1) p i j w))
    where
      go : (t : Bool) → only t 1 ≤ 0 → t ≡ false
      go true h = absurd (omega arith)
      go false h = refl

  pub full-cell : (p : Piece) → kind g p ≡ full → (i j : ℕ) → Within p i j → g.inside i j ≡ true
  unfolding inside_cells cells
  full-cell p e i j w =
      go (g.inside i j)
      (sum_tight (λ i j. only (g.inside i j) 1) (λ i j. 1) p (λ i j q. only-most (g.inside i j) 1) (full-count p e).0 i j w)
    where
      go : (t : Bool) → only t 1 ≡ 1 → t ≡ true
      go true h = refl
      go false h = absurd (omega arith)

  -- whatever weight is given to each cell
  pub outside_sum : (w : ℕ → ℕ → ℕ) (p : Piece) → ((i j : ℕ) → Within p i j → g.inside i j ≡ false)
      → cell_sum (λ i j. only (g.inside i j) (w i j)) p ≡ 0
  outside_sum w p h =
      omega (
        arith,
        sum_same (λ i j. only (g.inside i j) (w i j)) (λ i j. 0 * w i j) p
            (λ i j q. ap (λ t. only t (w i j)) (h i j q) ∙ none (w i j)),
        sum_mul 0 w p,
      )
    where
      none : (n : ℕ) → 0 ≡ 0 * n
      none n = omega arith

  pub full_sum : (w : ℕ → ℕ → ℕ) (p : Piece) → ((i j : ℕ) → Within p i j → g.inside i j ≡ true)
      → cell_sum (λ i j. only (g.inside i j) (w i j)) p ≡ cell_sum w p
  full_sum w p h = sum_same (λ i j. only (g.inside i j) (w i j)) w p (λ i j q. ap (λ t. only t (w i j)) (h i j q))

  pub kind-none : (p : Piece) → ((i j : ℕ) → Within p i j → g.inside i j ≡ false) → kind g p ≡ outside
  unfolding inside_cells
  kind-none p h = kind-outside p (outside_sum (λ i j. 1) p h)

  pub kind-all : (p : Piece) → p.a < p.c → p.b < p.d → ((i j : ℕ) → Within p i j → g.inside i j ≡ true) → kind g p ≡ full
  unfolding inside_cells cells
  kind-all p ac bd h = kind-full p (full_sum (λ i j. 1) p h) (cells-some p ac bd)

-- the parts of a full piece are full
pub full_vertical : (g : Grid) (p : Piece) → kind g p ≡ full → (j : ℕ) → p.a < j → j < p.c
    → (kind g (left_part p j) ≡ full) × (kind g (right_part p j) ≡ full)
full_vertical g p e j h k =
    let f = full-count g p e in
    let m = inside-most g p in
    let o : p.b < p.d = cells-b p (omega arith) in (
      kind-all g (left_part p j) h o (λ u v w. full-cell g p e u v (record { a = w.a; c = omega (arith, w.c); b = w.b; d = w.d })),
      kind-all g (right_part p j) k o (λ u v w. full-cell g p e u v (record { a = omega (arith, w.a); c = w.c; b = w.b; d = w.d })),
    )

pub full_horizontal : (g : Grid) (p : Piece) → kind g p ≡ full → (j : ℕ) → p.b < j → j < p.d
    → (kind g (lower_part p j) ≡ full) × (kind g (upper_part p j) ≡ full)
full_horizontal g p e j h k =
    let f = full_vertical (turned g) (turn p) (sym (kind-turn g p) ∙ e) j h k in
    (kind-turn g (lower_part p j) ∙ f.0, kind-turn g (upper_part p j) ∙ f.1)
