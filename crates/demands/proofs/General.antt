-- How many cuts there are to weigh at most. Assumes nothing.
--
--   weighed-most         == no more cuts of a piece are weighed than there are lines within
--   weighed_general      == so all together are no more than the lines within all pieces
--   weighed_bound        == by the numbers of lines
--   weighed-limit        == with at most 16 lines each way they are at most 134,400
use Prim.Native.Nat.{suc, ◌+◌, ◌*◌, ◌≤◌}
use mathlib.Core.Path.{ap₂}
use native.Mathlib.Omega.{arith}
use Rattle.recurrence.specs.Scheme.{Kind, outside, full, mixed}
use Rattle.outline.specs.Grid.{Grid}
use Rattle.piece.specs.Piece.{Piece, box, kind}
use Rattle.demands.specs.Cuts.{lines_within, weighed, weighed_cuts, two, three}
use Rattle.demands.proofs.Bounded.{pairs-le, every_line, lines-all, lines-most, pairs-closed, lines-closed}

pub weighed-most : (g : Grid) (p : Piece) → weighed g p ≤ lines_within p
unfolding weighed
weighed-most g p = go (kind g p)
  where
    go : (k : Kind) → elim k [ outside ↦ 0 | full ↦ 0 | mixed ↦ lines_within p ] ≤ lines_within p
    go outside = omega arith
    go full = omega arith
    go mixed = omega arith

-- every grid has at most the lines within all pieces to weigh
pub weighed_general : (g : Grid) → weighed_cuts g ≤ every_line g.columns g.rows
unfolding weighed_cuts
weighed_general g =
    pairs-le g.columns _ _ (λ a c p q. pairs-le g.rows _ _ (λ b d s t. weighed-most g (box a c b d)))

pub weighed_bound : (g : Grid)
    → weighed_cuts g ≤ three (suc g.columns) * two (suc g.rows) + two (suc g.columns) * three (suc g.rows)
weighed_bound g =
    let m = g.columns in
    let n = g.rows in
    omega (
      arith,
      weighed_general g,
      lines-all m n,
      ap₂ ◌*◌ (lines-closed m) (pairs-closed n),
      ap₂ ◌*◌ (pairs-closed m) (lines-closed n),
    )

pub weighed-limit : (g : Grid) → g.columns ≤ 15 → g.rows ≤ 15 → weighed_cuts g ≤ 134400
weighed-limit g h k = omega (arith, weighed_general g, lines-most g.columns g.rows h k)
