-- `shares::measuring::measure_cell` meets its contract. Assumes nothing.
use Rattle.std.proofs.Common.{refl, arith}
use Rattle.shares.proofs.Measured.{put-counted, owed-cell}
use Rattle.shares.proofs.measuring.measure_cell.Goals as goal

pub returns : goal.returns
returns c = record {
  put = put-counted _ _ _ _ _ _ _ _ _ _ _ refl c.sides_of-sides.ensures.bottom_value c.sides_of-sides.ensures.left_value _ _ _ c.put_shares.ensures;
  value = owed-cell _ _ _ _ _ _ _ _ _ _ _ _ c.requires.short_len.1 (omega (arith, c.from.ensures)) c.from.ensures c.sides_of-sides.ensures.bottom_value c.sides_of-sides.ensures.left_value c.sides_of-sides.ensures.bottom_bound;
}
