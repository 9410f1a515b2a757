-- `outline::cells::turn_over` meets its contract. The invariant: of the cells right of the line those passed are turned over, all others are as they were. Assumes nothing.
use mathlib.Core.Path.{refl}
use borrow.Author.Rules.{rules}
use Rattle.outline.proofs.Turning.{turning_start, turning_bit, turning_more, turning_end}
use Rattle.outline.proofs.cells.turn_over.Goals as goal

pub loop-j-init : goal.loop-j-init
loop-j-init c = turning_start _ _ _ _ _ (search rules)

pub turned-requires : goal.turned-requires
turned-requires c = turning_bit _ _ _ _ _ _ _ c.loop-j.invariant _ c.requires.bits

pub loop-j-preserved : goal.loop-j-preserved
loop-j-preserved c =
    turning_more _ _ _ _ _ _ _ c.loop-j.invariant c.requires.listed _ _ _
    c.place_of.ensures
    c.covers-covered.ensures
    c.turned.ensures
    (search rules)
    (search rules)

pub returns : goal.returns
returns c = turning_end _ _ _ _ _ _ _ _ c.requires.bits refl c.loop-j.invariant (search rules)
