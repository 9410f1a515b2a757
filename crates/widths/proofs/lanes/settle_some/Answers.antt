-- `widths::lanes::settle_some` meets its contract: each of the four ways has lanes enough. Assumes nothing.
use mathlib.Core.Path.{refl}
use native.Mathlib.Omega.{arith}
use Rattle.widths.proofs.lanes.settle_some.Goals as goal

pub settle_lanes-requires : goal.settle_lanes-requires
settle_lanes-requires c = record { low_lt_high = c.requires.low_lt_high; side_len = c.requires.side_len; lanes_bound = (omega arith, (refl, c.requires.n_bound.1)); by_index = c.requires.by_index; by_index_2 = c.requires.by_index_2; narrow = c.requires.narrow }

pub settle_lanes-requires-then-n-le8 : goal.settle_lanes-requires-then-n-le8
settle_lanes-requires-then-n-le8 c = record { low_lt_high = c.requires.low_lt_high; side_len = c.requires.side_len; lanes_bound = (omega arith, (refl, c.requires.n_bound.1)); by_index = c.requires.by_index; by_index_2 = c.requires.by_index_2; narrow = c.requires.narrow }

pub settle_lanes-requires-then-n-le12 : goal.settle_lanes-requires-then-n-le12
settle_lanes-requires-then-n-le12 c = record { low_lt_high = c.requires.low_lt_high; side_len = c.requires.side_len; lanes_bound = (omega arith, (refl, c.requires.n_bound.1)); by_index = c.requires.by_index; by_index_2 = c.requires.by_index_2; narrow = c.requires.narrow }

pub settle_lanes-requires-else-n-le12 : goal.settle_lanes-requires-else-n-le12
settle_lanes-requires-else-n-le12 c = record { low_lt_high = c.requires.low_lt_high; side_len = c.requires.side_len; lanes_bound = (omega arith, (refl, c.requires.n_bound.1)); by_index = c.requires.by_index; by_index_2 = c.requires.by_index_2; narrow = c.requires.narrow }
