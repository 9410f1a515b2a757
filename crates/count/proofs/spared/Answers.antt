-- `count::spared` meets its contract: it chooses by the number of rows. Assumes nothing.
use mathlib.Core.Path.{sym, ◌∙◌, ap}
use Rattle.count.specs.Corners.{spared_all}
use Rattle.count.proofs.spared.Goals as goal

pub returns-then-rows-eq1 : goal.returns-then-rows-eq1
returns-then-rows-eq1 c = c.spared_of_one.ensures ∙ ap (spared_all _ _) (sym c.if-rows-eq1.true)

pub returns-then-rows-eq2 : goal.returns-then-rows-eq2
returns-then-rows-eq2 c = c.spared_of_two.ensures ∙ ap (spared_all _ _) (sym c.if-rows-eq2.true)

pub returns-then-rows-eq3 : goal.returns-then-rows-eq3
returns-then-rows-eq3 c = c.spared_of_three.ensures ∙ ap (spared_all _ _) (sym c.if-rows-eq3.true)
