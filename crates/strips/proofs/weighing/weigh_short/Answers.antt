-- `strips::weighing::weigh_short` meets its contract. Assumes nothing.
use Prim.Native.Nat.{◌+◌, ◌-◌}
use native.Mathlib.Omega.{arith}
use Rattle.strips.proofs.Chunk.{lane_most, chunk_more, chunk_end}
use Rattle.strips.proofs.weighing.weigh_short.Goals as goal

pub weigh_chunk-requires : goal.weigh_chunk-requires
weigh_chunk-requires c = record { weighable = c.requires.weighable; side_len = (c.requires.side_len.0, (omega arith, omega (arith, c.requires.side_len.1.0))) }

pub weigh_chunk-requires-2 : goal.weigh_chunk-requires-2
weigh_chunk-requires-2 c = record { weighable = c.requires.weighable; side_len = (omega (arith, c.weigh_chunk.ensures.long, c.requires.side_len.0), (omega arith, omega (arith, c.requires.side_len.1.0))) }

pub returns : goal.returns
returns c =
    chunk_end _ _ _ _ _ (c.args.s.pairs - 8 + 8) _ _ (omega (arith, c.requires.side_len.1.0))
    (chunk_more _ _ _ _ _ 8 (c.args.s.pairs - 8) 8 _ _ _ (lane_most _ _ _ _ _ _ c.requires.weighable)
    (omega (arith, c.requires.side_len.1.1))
    (omega (arith, c.requires.side_len.1.0))
    c.weigh_chunk.ensures
    c.weigh_chunk-2.ensures)
