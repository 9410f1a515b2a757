-- `widths::lanes::settle_lanes` meets its contract. Assumes nothing.
use mathlib.Core.Path.{◌∙◌}
use native.Mathlib.Omega.{arith}
use Rattle.table.proofs.Entry.{below-most}
use Rattle.widths.proofs.Lane.{spot-first, spot-room, narrow-more, narrow-most, wrote_count, settled-made}
use Rattle.widths.proofs.lanes.settle_lanes.Goals as goal

pub overflow_add-at : goal.overflow_add-at
overflow_add-at c = record { fits = omega (arith, below-most c.args.level.rows c.args.level.low c.requires.low_lt_high.1.1.0, c.requires.low_lt_high) }

pub overflow_mul-at : goal.overflow_mul-at
overflow_mul-at c = record { fits = omega (arith, below-most c.args.level.rows c.args.level.low c.requires.low_lt_high.1.1.0, c.requires.low_lt_high) }

pub copy-requires : goal.copy-requires
copy-requires c = (omega (arith, c.requires.lanes_bound), omega (arith, c.requires.lanes_bound, c.requires.side_len.0, spot-first c.args.level.rows c.args.level.low c.args.level.high c.args.level.first c.requires.low_lt_high.0 c.requires.low_lt_high.1.1.1, spot-room c.args.level.rows 0 c.args.level.low c.args.level.high c.requires.low_lt_high.1.1.0 c.requires.low_lt_high.0 c.requires.low_lt_high.1.0))

pub weigh_lanes-requires : goal.weigh_lanes-requires
weigh_lanes-requires c = record { low_lt_high = c.requires.low_lt_high; best_len = (c.copy.ensures.long, (c.requires.side_len.0, omega (arith, c.requires.lanes_bound))); by_index = λ l k i p q. c.requires.by_index l k (omega (arith, c.requires.lanes_bound.0)) p q }

pub add-requires : goal.add-requires
add-requires c = record { n_in_bounds = (omega (arith, c.requires.lanes_bound, c.requires.side_len), omega (arith, c.requires.lanes_bound, c.requires.side_len, c.requires.low_lt_high)); by_index = λ i h. omega (arith, (c.requires.by_index_2 i (omega (arith, c.requires.lanes_bound))).0) }

pub add_flanks-requires : goal.add_flanks-requires
add_flanks-requires c = record { n_in_bounds = (omega (arith, c.requires.lanes_bound, c.requires.side_len), (omega (arith, c.requires.lanes_bound, c.requires.side_len, c.requires.low_lt_high), omega (arith, c.requires.lanes_bound, c.requires.side_len))); by_index = λ i h. omega (arith, (c.requires.by_index_2 i (omega (arith, c.requires.lanes_bound))).1.0) }

pub judge_lanes-requires : goal.judge_lanes-requires
judge_lanes-requires c =
    record {
      best_len = (c.weigh_lanes.auto.best ∙ c.copy.ensures.long, (c.requires.side_len.1.0, (c.requires.side_len.1.1.0, (c.add.ensures.long ∙ c.requires.side_len.1.1.1.0, c.add_flanks.ensures.long ∙ c.requires.side_len.1.1.1.1))));
      low_lt_high = (
        c.requires.low_lt_high.0,
        (
          omega (arith, c.requires.low_lt_high),
          (
            omega (arith, c.requires.lanes_bound),
            (omega (arith, c.requires.side_len.0, spot-first c.args.level.rows c.args.level.low c.args.level.high c.args.level.first c.requires.low_lt_high.0 c.requires.low_lt_high.1.1.1, spot-room c.args.level.rows 0 c.args.level.low c.args.level.high c.requires.low_lt_high.1.1.0 c.requires.low_lt_high.0 c.requires.low_lt_high.1.0), c.requires.lanes_bound.1.1),
          ),
        ),
      );
      by_index = λ l h.
          let o = c.requires.by_index_2 l (omega (arith, c.requires.lanes_bound)) in
          (omega (arith, narrow-most _ _ _ _ _ _ _ l h c.add_flanks.ensures, o.1.0), o.1.1);
      narrow = narrow-more _ _ _ _ _ _ _ _ (omega (arith, c.requires.lanes_bound)) c.requires.narrow c.add_flanks.ensures;
    }

pub returns : goal.returns
returns c = record { wrote = wrote_count _ _ _ _ _ c.requires.lanes_bound.1.0 c.add.ensures; wrote_2 = wrote_count _ _ _ _ _ c.requires.lanes_bound.1.0 c.add_flanks.ensures; settled = settled-made _ _ _ _ _ _ _ _ _ _ _ _ _ _ _ _ _ _ c.requires.low_lt_high.0 c.requires.low_lt_high.1.1.1 c.requires.lanes_bound.1.0 c.copy.ensures c.weigh_lanes.ensures c.judge_lanes.ensures }
