-- `eights::settling::settle_level` meets its contract. Assumes nothing.
use native.Mathlib.Omega.{arith}
use Rattle.eights.proofs.Judge.{number_at, number-below, pairs-most, place-fits, place-room, settled-made}
use Rattle.eights.proofs.settling.settle_level.Goals as goal

pub overflow_add-e : goal.overflow_add-e
overflow_add-e c = record { fits = omega (arith, number_at c.args.level c.requires.stands.0, number-below c.args.level c.requires.stands.0, pairs-most c.args.level c.requires.stands.0) }

pub overflow_add-at : goal.overflow_add-at
overflow_add-at c = record { fits = omega (arith, place-fits c.args.level c.requires.stands.0, number_at c.args.level c.requires.stands.0, number-below c.args.level c.requires.stands.0, pairs-most c.args.level c.requires.stands.0) }

pub overflow_mul-at-2 : goal.overflow_mul-at-2
overflow_mul-at-2 c = record { fits = omega (arith, place-fits c.args.level c.requires.stands.0, number_at c.args.level c.requires.stands.0, number-below c.args.level c.requires.stands.0, pairs-most c.args.level c.requires.stands.0) }

pub overflow_add-at-2 : goal.overflow_add-at-2
overflow_add-at-2 c = record { fits = omega (arith, place-fits c.args.level c.requires.stands.0, number_at c.args.level c.requires.stands.0, number-below c.args.level c.requires.stands.0, pairs-most c.args.level c.requires.stands.0, c.requires.stands.1.1) }

pub eight_at-best-requires : goal.eight_at-best-requires
eight_at-best-requires c = place-room c.args.level c.requires.stands.0 c.args.g c.args.store.now c.requires.stands.1.0 c.requires.stands.1.1

pub returns : goal.returns
returns c = record { wrote = c.add.ensures; wrote_2 = c.add-2.ensures; settled = settled-made c.args.level _ _ _ _ _ _ _ _ c.eight_at-best.result _ _ _ _ c.requires.stands.0 c.eight_at-best.ensures.by_index c.weigh_horizontal.ensures c.judge_level.ensures }
