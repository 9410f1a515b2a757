-- `strips::weighing::weigh_long` meets its contract: the pieces below the e-th are weighed. Assumes nothing.
use Prim.Native.Nat.{◌+◌, ◌-◌}
use native.Mathlib.Omega.{arith}
use Rattle.strips.proofs.Chunk.{lane_most, chunk_none, chunk_more, chunk_end}
use Rattle.strips.proofs.weighing.weigh_long.Goals as goal
use Rattle.strips.proofs.weighing.weigh_long.Goals.{else-loop-e-test, then-loop-e-test+else-e-end-e-gt16}

pub loop-e-init : goal.loop-e-init
loop-e-init c = (omega arith, chunk_none _ _ _ _ _ _)

pub weigh_chunk-requires : goal.weigh_chunk-requires
weigh_chunk-requires c = record { weighable = c.requires.weighable; side_len = (omega (arith, c.loop-e.invariant.1.long, c.requires.side_len.0), (omega arith, omega (arith, c.loop-e-test.true))) }

pub loop-e-preserved : goal.loop-e-preserved
loop-e-preserved c = (
  omega (arith, c.loop-e-test.true),
  chunk_more _ _ _ _ _ c.loop-e.e c.loop-e.e 16 _ c.loop-e.side _ (lane_most _ _ _ _ _ _ c.requires.weighable) (omega arith) (omega arith) c.loop-e.invariant.1 c.weigh_chunk.ensures,
)

pub weigh_chunk-requires-2 : goal.weigh_chunk-requires-2
weigh_chunk-requires-2 c = record { weighable = c.requires.weighable; side_len = (omega (arith, c.loop-e.invariant.1.long, c.requires.side_len.0), (omega arith, omega (arith, c.requires.side_len.1))) }

pub returns : goal.returns
returns c = elim c.loop-e-test.branch [
  | else-loop-e-test w ↦
      chunk_end _ _ _ _ _ (c.args.s.pairs - 16 + 16) _ _ (omega (arith, c.requires.side_len.1))
      (chunk_more _ _ _ _ _ c.loop-e.e (c.args.s.pairs - 16) 16 _ c.loop-e.side _ (lane_most _ _ _ _ _ _ c.requires.weighable)
      (omega (arith, w.loop-e-test.false))
      (omega (arith, c.loop-e.invariant.0, c.requires.side_len.1))
      c.loop-e.invariant.1
      (rw w.side-is at c.weigh_chunk-2.ensures))
  | then-loop-e-test+else-e-end-e-gt16 w ↦
      chunk_end _ _ _ _ _ (c.args.s.pairs - 16 + 16) _ _ (omega (arith, c.requires.side_len.1))
      (chunk_more _ _ _ _ _ (c.loop-e.e + 16) (c.args.s.pairs - 16) 16 _ _ _ (lane_most _ _ _ _ _ _ c.requires.weighable)
      (omega (arith, w))
      (omega (arith, w.loop-e-test.true))
      (chunk_more _ _ _ _ _ c.loop-e.e c.loop-e.e 16 _ c.loop-e.side _ (lane_most _ _ _ _ _ _ c.requires.weighable) (omega arith) (omega arith) c.loop-e.invariant.1 w.weigh_chunk.ensures)
      (rw w.side-is at c.weigh_chunk-2.ensures))
]
