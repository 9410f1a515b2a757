-- `eights::judging::judge_level` meets its contract. Assumes nothing.
use mathlib.Core.Path.{refl}
use native.Mathlib.Omega.{arith}
use Rattle.eights.proofs.Judge.{number_at, number-below, pairs-most, place-fits, place-room, level_tall, level_low}
use Rattle.eights.proofs.judging.judge_level.Goals as goal

pub overflow_add-e : goal.overflow_add-e
overflow_add-e c = record { fits = omega (arith, number_at c.args.level c.requires.stands.0, number-below c.args.level c.requires.stands.0, pairs-most c.args.level c.requires.stands.0) }

pub overflow_add-at : goal.overflow_add-at
overflow_add-at c = record { fits = omega (arith, place-fits c.args.level c.requires.stands.0, number_at c.args.level c.requires.stands.0, number-below c.args.level c.requires.stands.0, pairs-most c.args.level c.requires.stands.0) }

pub overflow_mul-at-2 : goal.overflow_mul-at-2
overflow_mul-at-2 c = record { fits = omega (arith, place-fits c.args.level c.requires.stands.0, number_at c.args.level c.requires.stands.0, number-below c.args.level c.requires.stands.0, pairs-most c.args.level c.requires.stands.0) }

pub overflow_add-at-2 : goal.overflow_add-at-2
overflow_add-at-2 c = record { fits = omega (arith, place-fits c.args.level c.requires.stands.0, number_at c.args.level c.requires.stands.0, number-below c.args.level c.requires.stands.0, pairs-most c.args.level c.requires.stands.0, c.requires.stands.1.1) }

pub judge-requires : goal.judge-requires
judge-requires c = (c.requires.count_len.0, (c.requires.count_len.1.0, place-room c.args.level c.requires.stands.0 c.args.g c.args.store.now c.requires.stands.1.0 c.requires.stands.1.1))

pub judge-requires-else-threshold-height : goal.judge-requires-else-threshold-height
judge-requires-else-threshold-height c = (c.requires.count_len.0, (c.slivers-sliver.ensures.result_len, place-room c.args.level c.requires.stands.0 c.args.g c.args.store.now c.requires.stands.1.0 c.requires.stands.1.1))

pub returns-then-threshold-height : goal.returns-then-threshold-height
returns-then-threshold-height c = level_tall c.args.level c.requires.stands.0 _ _ _ _ _ _ _ _ _ _ _ _ _ c.judge.ensures c.if-threshold-height.true refl

pub returns-else-threshold-height : goal.returns-else-threshold-height
returns-else-threshold-height c = level_low c.args.level c.requires.stands.0 _ _ _ _ _ _ _ _ _ _ _ _ _ c.judge-else-threshold-height.ensures c.if-threshold-height.false c.slivers-sliver.ensures.by_index
