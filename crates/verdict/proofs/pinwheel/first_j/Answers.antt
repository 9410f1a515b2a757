-- `verdict::pinwheel::first_j` meets its contract. The invariant: no line passed has one. Assumes nothing.
use mathlib.Core.Path.{sym, ◌∙◌}
use native.Mathlib.Omega.{arith}
use Rattle.verdict.proofs.Search.{passed_none, passed-more, first-here, first-none}
use Rattle.verdict.proofs.Hunting.{with_l, without-l}
use Rattle.verdict.proofs.pinwheel.first_j.Goals as goal

pub loop-j-init : goal.loop-j-init
loop-j-init c = passed_none _ _

pub first_l-requires : goal.first_l-requires
first_l-requires c = record { huntable = c.requires; a_lt_j = (omega arith, c.loop-j-test.true) }

pub returns-then-is_some : goal.returns-then-is_some
returns-then-is_some c = (first-here _ _ _ _ (omega arith) c.loop-j-test.true c.loop-j.invariant (with_l _ _ _ _ c.first_l.ensures (sym c.is_some.ensures ∙ c.if-is_some.true)), c.loop-j-test.true)

pub loop-j-preserved : goal.loop-j-preserved
loop-j-preserved c = passed-more _ _ _ c.loop-j.invariant (without-l _ _ _ _ c.first_l.ensures (sym c.is_some.ensures ∙ c.if-is_some.false))

pub returns : goal.returns
returns c = first-none _ _ _ _ (omega (arith, c.requires)) (omega arith) (omega arith) (λ i h k. c.loop-j.invariant i h (omega arith))
