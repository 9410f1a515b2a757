-- `shallow::rows::one_row` meets its contract. Assumes nothing.
use native.Mathlib.Omega.{arith}
use Rattle.shallow.proofs.Settling.{placed_cuttable, whole_ready, row-cost, pairs-one, low-pair}
use Rattle.shallow.proofs.rows.one_row.Goals as goal

pub least_cut-best-requires : goal.least_cut-best-requires
least_cut-best-requires c = (placed_cuttable _ _ _ _ c.requires.1.placed, omega (arith, c.requires.1.placed.pairs_are, pairs-one _ c.requires.1.rows_are))

pub settled-requires : goal.settled-requires
settled-requires c = (whole_ready _ _ _ _ c.requires.1.placed 0 1 _ (omega arith) (omega (arith, c.requires.1.rows_are)) c.requires.1.row-sums, c.requires.1.placed.weight-most)

pub returns : goal.returns
returns c g w =
    row-cost g _ _ _ w.placed 0 0 _ _ _ (omega (arith, w.rows_are)) w.row-sums (low-pair g.rows) c.least_cut-best.ensures
    c.settled.ensures
