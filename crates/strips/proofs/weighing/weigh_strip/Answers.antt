-- `strips::weighing::weigh_strip` meets its contract. Assumes nothing.
use native.Mathlib.Omega.{arith}
use Rattle.strips.proofs.weighing.weigh_strip.Goals as goal

pub weigh_long-requires : goal.weigh_long-requires
weigh_long-requires c = record { weighable = c.requires.weighable; side_len = (c.requires.side_len, c.if-s-ge-CHUNK.true) }

pub weigh_short-requires : goal.weigh_short-requires
weigh_short-requires c = record { weighable = c.requires.weighable; side_len = (c.requires.side_len, (c.if-s-ge-HALF_CHUNK.true, omega (arith, c.if-s-ge-CHUNK.false))) }

pub weigh_chunk-requires : goal.weigh_chunk-requires
weigh_chunk-requires c = record { weighable = c.requires.weighable; side_len = (c.requires.side_len, (omega (arith, c.if-s-ge-HALF_CHUNK.false), omega arith)) }

pub returns-then-s-ge-CHUNK : goal.returns-then-s-ge-CHUNK
returns-then-s-ge-CHUNK c = c.weigh_long.ensures

pub returns-then-s-ge-HALF_CHUNK : goal.returns-then-s-ge-HALF_CHUNK
returns-then-s-ge-HALF_CHUNK c = c.weigh_short.ensures

pub returns-else-s-ge-HALF_CHUNK : goal.returns-else-s-ge-HALF_CHUNK
returns-else-s-ge-HALF_CHUNK c = c.weigh_chunk.ensures
