-- `tally::measuring::widths` meets its contract: the strips before the a-th have their width. Assumes nothing.
use native.Mathlib.Omega.{arith}
use Rattle.tally.proofs.Shares.{widths-more, widths-all}
use Rattle.tally.proofs.measuring.widths.Goals as goal

pub loop-a-preserved : goal.loop-a-preserved
loop-a-preserved c = widths-more c.args.xs.now c.args.wide.now c.loop-a.wide c.args.w c.loop-a.a _ (omega (arith, c.loop-a.invariant.long, c.requires.0, c.requires.1.columns-most)) c.span.ensures.0 c.loop-a.invariant

pub returns : goal.returns
returns c = λ g ys cells e drawn. widths-all g _ ys cells _ _ _ _ _ c.requires.0 (omega arith) c.requires.1.wide-most e drawn c.loop-a.invariant
