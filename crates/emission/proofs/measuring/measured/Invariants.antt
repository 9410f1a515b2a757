-- `emission::measuring::measured` meets its contract. The invariant: the sum so far and that of the shots left are the whole. Assumes nothing.
use Prim.Native.Nat.{◌+◌}
use mathlib.Core.Path.{◌≡◌}
use mathlib.Core.List.{List}
use lib.ListN.{drop}
use Rattle.sum.specs.Sum.{sum_of}
use Rattle.outline.specs.Grid.{Grid}
use Rattle.piece.specs.Piece.{Piece, sliver}
use Rattle.emission.specs.Measuring.{Listed}
use Rattle.emission.proofs.measuring.measured.Given as goal

abbrev pub invariant-loop-k : goal.invariant-loop-k
invariant-loop-k now = (g : Grid) (l : List Piece) → Listed g now.cells now.xs now.ys now.list now.rule l now.shots → now.sum + sum_of (sliver g now.rule) (drop now.k l) ≡ sum_of (sliver g now.rule) l
