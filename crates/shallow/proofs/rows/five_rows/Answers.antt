-- `shallow::rows::five_rows` meets its contract: the three lower horizontal cuts first, then the highest. Assumes nothing.
use native.Mathlib.Omega.{arith}
use Rattle.table.proofs.Entry.{pair-below}
use Rattle.shallow.specs.Rows.{up4, up5}
use Rattle.shallow.proofs.Settling.{placed_cuttable, whole_ready, cost-fits, threes-fit, across-more, across-three, piece_cost}
use Rattle.shallow.proofs.rows.five_rows.Goals as goal

pub least_cut-best-requires : goal.least_cut-best-requires
least_cut-best-requires c = (
  placed_cuttable _ _ _ _ c.requires.2.placed,
  omega (arith, c.requires.2.placed.pairs_are, c.requires.2.entry-is, pair-below c.requires.0.rows c.requires.1 (up5 c.requires.1) (omega arith) c.requires.2.within),
)

pub three_cuts-lower-requires : goal.three_cuts-lower-requires
three_cuts-lower-requires c = threes-fit _ _ _ _ c.requires.2.placed _ _ _ _ (omega arith) c.requires.2.within c.requires.2.below-costs c.requires.2.above-costs

pub overflow_add-low : goal.overflow_add-low
overflow_add-low c =
    record {
      fits =
          cost-fits _ _ _ _ c.requires.2.placed c.requires.1 (up4 c.requires.1) (up4 c.requires.1) (up5 c.requires.1) _ _ (omega arith) (omega (arith, c.requires.2.within)) (omega arith) c.requires.2.within
          c.requires.2.low-is
          c.requires.2.high_is;
    }

pub settled-requires : goal.settled-requires
settled-requires c = (whole_ready _ _ _ _ c.requires.2.placed _ _ _ (omega arith) c.requires.2.within c.requires.2.sums, c.requires.2.placed.weight-most)

pub returns : goal.returns
returns c g b w =
    piece_cost g _ _ _ w.placed b (up5 b) _ _ _ _ _ (omega arith) w.within w.sums w.entry-is
    c.least_cut-best.ensures
    (across-more _ _ _ _ b _ (up4 b) _ _ _ _ _ (omega arith) w.low-is w.high_is c.min-cut.ensures
    (rw c.three_cuts-lower.ensures (across-three _ _ _ _ b _ _ _ _ w.below-costs w.above-costs)))
    c.settled.ensures
