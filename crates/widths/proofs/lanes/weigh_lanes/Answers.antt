-- `widths::lanes::weigh_lanes` meets its contract: the cuts below the line k are weighed. Assumes nothing.
use mathlib.Core.Path.{refl, ◌∙◌, subst}
use native.Mathlib.Omega.{arith}
use lib.ListN.{get_or}
use Rattle.table.specs.Run.{Lowest}
use Rattle.table.proofs.Entry.{below_next, below-most}
use Rattle.table.proofs.Run.{lowest-none}
use Rattle.widths.specs.Lane.{parts_at}
use Rattle.widths.proofs.Lane.{cut-room, cut_fits, cut-more, upper-next}
use Rattle.widths.proofs.lanes.weigh_lanes.Goals as goal

pub overflow_mul-lower : goal.overflow_mul-lower
overflow_mul-lower c = record { fits = omega (arith, below-most c.args.level.rows c.args.level.low c.requires.low_lt_high.1.1.0) }

pub overflow_add-upper : goal.overflow_add-upper
overflow_add-upper c = record { fits = omega (arith, below-most c.args.level.rows c.args.level.low c.requires.low_lt_high.1.1.0) }

pub overflow_add-upper-2 : goal.overflow_add-upper-2
overflow_add-upper-2 c = record { fits = omega (arith, below-most c.args.level.rows c.args.level.low c.requires.low_lt_high.1.1.0) }

pub overflow_mul-upper : goal.overflow_mul-upper
overflow_mul-upper c = record { fits = omega (arith, below-most c.args.level.rows c.args.level.low c.requires.low_lt_high.1.1.0) }

pub loop-k-init : goal.loop-k-init
loop-k-init c = (
  omega arith,
  (
    omega arith,
    (
      refl,
      (
        omega (arith, c.requires.low_lt_high.1.1.1),
        (omega (arith, c.requires.low_lt_high.1.1.1, below_next c.args.level.rows c.args.level.low), λ l h. lowest-none _ _ _),
      ),
    ),
  ),
)

pub weigh_apart-requires : goal.weigh_apart-requires
weigh_apart-requires c =
    let m = cut-room c.args.level.rows c.args.level.low c.args.level.high c.loop-k.k c.loop-k.lower c.loop-k.upper c.loop-k.invariant.0 c.loop-k-test.true c.requires.low_lt_high.1.0 c.requires.low_lt_high.1.1.0 c.loop-k.invariant.1.1.1.0 c.loop-k.invariant.1.1.1.1.0 in record {
      n_in_bounds = (omega (arith, c.loop-k.invariant.1.1.0, c.requires.best_len), (omega (arith, m, c.requires.best_len), omega (arith, m, c.requires.best_len)));
      by_index = cut_fits c.args.level.rows c.args.level.low c.args.level.high c.loop-k.k c.loop-k.lower c.loop-k.upper c.loop-k.invariant.0 c.loop-k-test.true c.requires.low_lt_high.1.0 c.requires.low_lt_high.1.1.0 c.loop-k.invariant.1.1.1.0 c.loop-k.invariant.1.1.1.1.0 c.args.side.now c.loop-k.best c.args.lanes
          c.requires.by_index;
    }

pub overflow_add-lower : goal.overflow_add-lower
overflow_add-lower c =
    let m = cut-room c.args.level.rows c.args.level.low c.args.level.high c.loop-k.k c.loop-k.lower c.loop-k.upper c.loop-k.invariant.0 c.loop-k-test.true c.requires.low_lt_high.1.0 c.requires.low_lt_high.1.1.0 c.loop-k.invariant.1.1.1.0 c.loop-k.invariant.1.1.1.1.0 in
    record { fits = omega (arith, m) }

pub overflow_add-upper-in-loop-k : goal.overflow_add-upper-in-loop-k
overflow_add-upper-in-loop-k c =
    let m = cut-room c.args.level.rows c.args.level.low c.args.level.high c.loop-k.k c.loop-k.lower c.loop-k.upper c.loop-k.invariant.0 c.loop-k-test.true c.requires.low_lt_high.1.0 c.requires.low_lt_high.1.1.0 c.loop-k.invariant.1.1.1.0 c.loop-k.invariant.1.1.1.1.0 in
    record { fits = omega (arith, m, c.requires.low_lt_high.1.1.0) }

pub loop-k-preserved : goal.loop-k-preserved
loop-k-preserved c = (
  omega arith,
  (
    omega arith,
    (
      c.weigh_apart.auto.best ∙ c.loop-k.invariant.1.1.0,
      (
        omega (arith, c.loop-k.invariant.0),
        (
          upper-next c.args.level.rows c.args.level.high c.loop-k.k c.loop-k.upper c.loop-k-test.true c.requires.low_lt_high.1.0 c.loop-k.invariant.1.1.1.1.0,
          cut-more c.args.level.rows c.args.level.low c.args.level.high c.loop-k.k c.loop-k.lower c.loop-k.upper c.loop-k.invariant.0 c.loop-k-test.true c.requires.low_lt_high.1.0 c.requires.low_lt_high.1.1.0 c.loop-k.invariant.1.1.1.0 c.loop-k.invariant.1.1.1.1.0 c.args.side.now c.loop-k.best c.args.lanes
              c.args.best.now
              _
              c.weigh_apart.ensures
              c.loop-k.invariant.1.1.1.1.1,
        ),
      ),
    ),
  ),
)

pub returns : goal.returns
returns c = λ i h. subst (λ n. Lowest (parts_at c.args.side.now c.args.level.rows i c.args.level.low c.args.level.high) c.args.level.low n (get_or c.args.best.now i 0) (get_or c.loop-k.best i 0)) (omega arith) (c.loop-k.invariant.1.1.1.1.1 i h)
