-- `join::mate` meets its contract. Assumes nothing.
use mathlib.Core.Path.{refl, sym, ◌∙◌}
use Rattle.join.specs.Join.{at}
use Rattle.join.proofs.Tables.{search_starts, search_goes, mate_paired, mate_found, mate_alone}
use Rattle.join.proofs.mate.Goals as goal

pub returns-then-a-i : goal.returns-then-a-i
unfolding at
returns-then-a-i c = mate_paired _ _ _ _ refl c.if-a-i.true

pub loop-j-init : goal.loop-j-init
loop-j-init c = search_starts _ _ _ _

pub returns-then-takes : goal.returns-then-takes
unfolding at
returns-then-takes c = mate_found _ _ _ _ refl _ c.if-a-i.false c.loop-j.invariant c.loop-j-test.true (sym c.takes.ensures ∙ c.if-takes.true)

pub loop-j-preserved : goal.loop-j-preserved
unfolding at
loop-j-preserved c = search_goes _ _ _ _ _ c.loop-j.invariant c.loop-j-test.true (sym c.takes.ensures ∙ c.if-takes.false)

pub returns : goal.returns
unfolding at
returns c = mate_alone _ _ _ _ refl _ c.if-a-i.false c.loop-j.invariant c.loop-j-test.false
