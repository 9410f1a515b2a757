-- `verdict::pinwheel::first_l` meets its contract. The invariant: no line passed has one. Assumes nothing.
use mathlib.Core.Path.{sym, ◌∙◌}
use native.Mathlib.Omega.{arith}
use Rattle.verdict.proofs.Search.{passed_none, passed-more, first-here, first-none}
use Rattle.verdict.proofs.Hunting.{with_k, without-k}
use Rattle.verdict.proofs.pinwheel.first_l.Goals as goal

pub loop-l-init : goal.loop-l-init
loop-l-init c = passed_none _ _

pub first_k-requires : goal.first_k-requires
first_k-requires c = record { huntable = c.requires.huntable; a_lt_j = (c.requires.a_lt_j.0, (omega arith, c.loop-l-test.true)) }

pub returns-then-is_some : goal.returns-then-is_some
returns-then-is_some c = (first-here _ _ _ _ (omega arith) c.loop-l-test.true c.loop-l.invariant (with_k _ _ _ _ _ c.first_k.ensures (sym c.is_some.ensures ∙ c.if-is_some.true)), c.loop-l-test.true)

pub loop-l-preserved : goal.loop-l-preserved
loop-l-preserved c = passed-more _ _ _ c.loop-l.invariant (without-k _ _ _ _ _ c.first_k.ensures (sym c.is_some.ensures ∙ c.if-is_some.false))

pub returns : goal.returns
returns c = first-none _ _ _ _ (omega (arith, c.requires)) (omega arith) (omega arith) (λ i h k. c.loop-l.invariant i h (omega arith))
