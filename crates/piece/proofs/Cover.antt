-- Whatever the cuts: if each cut shares out each sum over cells, then so do the shots. Straight cuts are one case of this.
-- Assumes nothing.
--
--   cover        == whatever weight each cell has, the shots of a piece have together what its inside cells have
--   cell_once    == each cell of a piece is in one of its shots if inside, and in none if not
use Prim.Native.Nat.{ℕ}
use mathlib.Core.Path.{◌≡◌, refl, sym, ◌∙◌}
use mathlib.Core.Bool.{Bool, true, false}
use mathlib.Core.List.{List}
use lib.Dec.{eqb}
use borrow.Author.Tests.{eqb-true}
use Rattle.sum.specs.Sum.{only, sum_of, All}
use Rattle.sum.proofs.Lists.{All-imp, All-all, sum_of-same}
use Rattle.recurrence.specs.Scheme.{Scheme, Ends}
use Rattle.recurrence.proofs.Scheme.{shots_of, shots-all-full, shared}
use Rattle.outline.specs.Grid.{Grid}
use Rattle.piece.specs.Piece.{Piece, holds, cell_sum, cells, kind}
use Rattle.piece.proofs.Cells.{sum_same, sum_pick}
use Rattle.piece.proofs.Kind.{full-cell, outside-cell, full_sum, outside_sum}

module _
    (g : Grid)
    {K : Type 0}
    (charge : Piece → ℕ)
    (cuts : Piece → List K)
    (parts : Piece → K → List Piece)
    (E : Ends (record { kind = kind g; charge = charge; cuts = cuts; parts = parts }) cells)
    (shares : (f : ℕ → ℕ → ℕ) (p : Piece) → All (λ k. cell_sum f p ≡ sum_of (cell_sum f) (parts p k)) (cuts p))
  where
    abbrev scheme : Scheme Piece K
    scheme = record { kind = kind g; charge = charge; cuts = cuts; parts = parts }

    abbrev list : Piece → List Piece
    list p = shots_of scheme cells E p

    pub cover : (w : ℕ → ℕ → ℕ) (p : Piece) → sum_of (cell_sum w) (list p) ≡ cell_sum (λ i j. only (g.inside i j) (w i j)) p
    cover w p =
        sum_of-same (cell_sum w) (cell_sum w') (list p)
        (All-imp (λ s e. sym (full_sum g w s (full-cell g s e))) (list p) (shots-all-full scheme cells E p))
        ∙ shared scheme cells E (cell_sum w') (shares w') (λ q e. outside_sum g w q (outside-cell g q e)) p
      where
        w' : ℕ → ℕ → ℕ
        w' i j = only (g.inside i j) (w i j)

    pub cell_once : (p : Piece) (i j : ℕ) → sum_of (λ s. only (holds i j s) 1) (list p) ≡ only (holds i j p) (only (g.inside i j) 1)
    cell_once p i j =
        sum_of-same (λ s. only (holds i j s) 1) (cell_sum w) (list p) (All-all (λ s. sym (sum_pick i j 1 s)) (list p))
        ∙ cover w p
        ∙ sum_same _ _ p (λ u v q. move u v (eqb u i) refl (eqb v j) refl)
        ∙ sum_pick i j (only (g.inside i j) 1) p
      where
        w : ℕ → ℕ → ℕ
        w u v = only (eqb u i) (only (eqb v j) 1)

        none : (t : Bool) → only t 0 ≡ 0
        none true = refl
        none false = refl

        move : (u v : ℕ) (s : Bool) → eqb u i ≡ s → (t : Bool) → eqb v j ≡ t
            → only (g.inside u v) (only s (only t 1)) ≡ only s (only t (only (g.inside i j) 1))
        move u v true e true f = rw (eqb-true u i e, eqb-true v j f)
        move u v true e false f = none (g.inside u v)
        move u v false e t f = none (g.inside u v)
