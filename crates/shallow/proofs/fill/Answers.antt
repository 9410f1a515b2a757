-- `shallow::fill` meets its contract: the strips that begin at the line a or above are filled. Assumes nothing.
use native.Mathlib.Omega.{arith}
use Rattle.table.proofs.Pairs.{first-all, first_back, first-enough}
use Rattle.table.proofs.Fill.{beyond-none, beyond_trans, ready_later, fill_limits, fill_none, fill_back, fill_all}
use Rattle.shallow.proofs.fill.Goals as goal

pub pair_count-first-requires : goal.pair_count-first-requires
pair_count-first-requires c = (fill_limits _ _ _ _ _ _ _ c.requires.ready).1.0

pub loop-a-init : goal.loop-a-init
loop-a-init c = (omega arith, (first-all _ _ c.pair_count-first.ensures.0, (fill_none _ _ _ _ _ _ _ c.requires.ready, beyond-none _ _)))

pub overflow_sub-first-in-loop-a : goal.overflow_sub-first-in-loop-a
overflow_sub-first-in-loop-a c = first-enough _ _ _ c.loop-a-test.true c.loop-a.invariant.1.0

pub fill_from-requires : goal.fill_from-requires
fill_from-requires c = record { ready = ready_later _ _ _ _ _ _ _ _ c.loop-a.invariant.1.1.1 c.requires.ready; rows_bound = (c.requires.rows_bound, (omega arith, first_back _ _ _ c.loop-a-test.true c.loop-a.invariant.1.0)); reached = fill_back _ _ _ _ _ _ _ c.requires.ready _ _ c.loop-a-test.true c.loop-a.invariant.1.1.0 }

pub loop-a-preserved : goal.loop-a-preserved
loop-a-preserved c = (omega arith, (first_back _ _ _ c.loop-a-test.true c.loop-a.invariant.1.0, (c.fill_from.ensures.reached_2, beyond_trans _ _ _ _ c.loop-a.invariant.1.1.1 c.fill_from.ensures.beyond)))

pub returns : goal.returns
returns c = fill_all _ _ _ _ _ _ _ c.requires.ready _ _ c.loop-a-test.false c.loop-a.invariant.1.1.1 c.loop-a.invariant.1.1.0
