-- `shallow::rows::four_rows` meets its contract. Assumes nothing.
use native.Mathlib.Omega.{arith}
use Rattle.table.proofs.Entry.{pair-below}
use Rattle.shallow.specs.Rows.{up4}
use Rattle.shallow.proofs.Settling.{placed_cuttable, whole_ready, threes-fit, across-three, piece_cost}
use Rattle.shallow.proofs.rows.four_rows.Goals as goal

pub least_cut-best-requires : goal.least_cut-best-requires
least_cut-best-requires c = (
  placed_cuttable _ _ _ _ c.requires.2.placed,
  omega (arith, c.requires.2.placed.pairs_are, c.requires.2.entry-is, pair-below c.requires.0.rows c.requires.1 (up4 c.requires.1) (omega arith) c.requires.2.within),
)

pub three_cuts-cut-requires : goal.three_cuts-cut-requires
three_cuts-cut-requires c = threes-fit _ _ _ _ c.requires.2.placed _ _ _ _ (omega arith) c.requires.2.within c.requires.2.below-costs c.requires.2.above-costs

pub settled-requires : goal.settled-requires
settled-requires c = (whole_ready _ _ _ _ c.requires.2.placed _ _ _ (omega arith) c.requires.2.within c.requires.2.sums, c.requires.2.placed.weight-most)

pub returns : goal.returns
returns c g b w =
    piece_cost g _ _ _ w.placed b (up4 b) _ _ _ _ _ (omega arith) w.within w.sums w.entry-is
    c.least_cut-best.ensures
    (rw c.three_cuts-cut.ensures (across-three _ _ _ _ b _ _ _ _ w.below-costs w.above-costs))
    c.settled.ensures
