-- `eights::cuts::weigh_horizontal` meets its contract: the cuts below the line k are weighed. Assumes nothing.
use native.Mathlib.Omega.{arith}
use Rattle.eights.proofs.Cut.{level_most, level_first, level_base, level_behind, level_small, stacks_none, stacks_room, next_fits, stacks_more, stacks_all}
use Rattle.eights.proofs.cuts.weigh_horizontal.Goals as goal

pub overflow_add-first : goal.overflow_add-first
overflow_add-first c = record { fits = omega (arith, level_most c.args.level c.requires.stands.0, level_first c.args.level c.requires.stands.0) }

pub overflow_mul-lower : goal.overflow_mul-lower
overflow_mul-lower c = record { fits = omega (arith, level_most c.args.level c.requires.stands.0, level_first c.args.level c.requires.stands.0) }

pub overflow_add-lower : goal.overflow_add-lower
overflow_add-lower c = record { fits = omega (arith, level_most c.args.level c.requires.stands.0, level_first c.args.level c.requires.stands.0, c.requires.stands.1.1) }

pub overflow_add-upper : goal.overflow_add-upper
overflow_add-upper c = record { fits = omega (arith, level_most c.args.level c.requires.stands.0, level_first c.args.level c.requires.stands.0, c.requires.stands.0.rows-most, c.requires.stands.0.high-rows) }

pub overflow_add-upper-2 : goal.overflow_add-upper-2
overflow_add-upper-2 c = record { fits = omega (arith, level_most c.args.level c.requires.stands.0, level_first c.args.level c.requires.stands.0, c.requires.stands.0.rows-most, c.requires.stands.0.high-rows) }

pub overflow_mul-upper : goal.overflow_mul-upper
overflow_mul-upper c = record { fits = omega (arith, level_most c.args.level c.requires.stands.0, level_first c.args.level c.requires.stands.0, c.requires.stands.0.rows-most, c.requires.stands.0.high-rows) }

pub overflow_add-upper-3 : goal.overflow_add-upper-3
overflow_add-upper-3 c = record { fits = omega (arith, level_most c.args.level c.requires.stands.0, level_first c.args.level c.requires.stands.0, c.requires.stands.0.rows-most, c.requires.stands.0.high-rows, c.requires.stands.0.low-high, c.requires.stands.1.1) }

pub loop-k-init : goal.loop-k-init
loop-k-init c = stacks_none _ _ _ _ _ _ _ _ c.requires.stands.0.low-high c.requires.stands.0.high-rows c.requires.best_len (omega (arith, c.requires.stands.0.first-at))

pub weigh-requires : goal.weigh-requires
weigh-requires c =
    let m = stacks_room _ _ _ _ _ c.loop-k.k c.loop-k.lower c.loop-k.upper c.loop-k.invariant.some (omega arith) c.requires.stands.0.high-rows c.loop-k.invariant.low-at c.loop-k.invariant.high-at _
    c.requires.stands.1.1 (level_behind c.args.level c.args.store.now _ (level_base c.args.level c.requires.stands.0) c.requires.stands.0 c.requires.stands.1.0) in
    (c.loop-k.invariant.long, m)

pub overflow_add-lower-in-loop-k : goal.overflow_add-lower-in-loop-k
overflow_add-lower-in-loop-k c =
    let m = stacks_room _ _ _ _ _ c.loop-k.k c.loop-k.lower c.loop-k.upper c.loop-k.invariant.some (omega arith) c.requires.stands.0.high-rows c.loop-k.invariant.low-at c.loop-k.invariant.high-at _
    c.requires.stands.1.1 (level_behind c.args.level c.args.store.now _ (level_base c.args.level c.requires.stands.0) c.requires.stands.0 c.requires.stands.1.0) in
    record { fits = omega (arith, m.0) }

pub overflow_add-upper-in-loop-k : goal.overflow_add-upper-in-loop-k
overflow_add-upper-in-loop-k c =
    let m = stacks_room _ _ _ _ _ c.loop-k.k c.loop-k.lower c.loop-k.upper c.loop-k.invariant.some (omega arith) c.requires.stands.0.high-rows c.loop-k.invariant.low-at c.loop-k.invariant.high-at _
    c.requires.stands.1.1 (level_small c.args.level _ (level_base c.args.level c.requires.stands.0) c.requires.stands.0) in
    record { fits = next_fits _ _ _ c.requires.stands.0.rows-most m.1 }

pub loop-k-preserved : goal.loop-k-preserved
loop-k-preserved c =
    stacks_more _ _ _ _ _ c.loop-k.k c.loop-k.lower c.loop-k.upper c.loop-k.invariant.some (omega arith) c.requires.stands.0.high-rows c.loop-k.invariant.low-at c.loop-k.invariant.high-at _ _ c.loop-k.best _
    c.weigh.ensures c.loop-k.invariant

pub returns : goal.returns
returns c = stacks_all _ _ _ _ _ _ _ _ _ c.loop-k.k c.loop-k.lower c.loop-k.upper _ (level_base c.args.level c.requires.stands.0) (omega arith) c.loop-k.invariant
