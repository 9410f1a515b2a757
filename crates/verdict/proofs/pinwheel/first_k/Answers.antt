-- `verdict::pinwheel::first_k` meets its contract. The invariant: no line passed has one. Assumes nothing.
use mathlib.Core.Path.{sym, ◌∙◌}
use native.Mathlib.Omega.{arith}
use Rattle.verdict.proofs.Search.{passed_none, passed-more, first-here, first-none}
use Rattle.verdict.proofs.Hunting.{with_m, without-m}
use Rattle.verdict.proofs.pinwheel.first_k.Goals as goal

pub loop-k-init : goal.loop-k-init
loop-k-init c = passed_none _ _

pub first_m-requires : goal.first_m-requires
first_m-requires c = record { huntable = c.requires.huntable; a_lt_j = (c.requires.a_lt_j.0, (c.requires.a_lt_j.1.0, (c.requires.a_lt_j.1.1, (omega arith, c.loop-k-test.true)))) }

pub returns-then-is_some : goal.returns-then-is_some
returns-then-is_some c = (first-here _ _ _ _ (omega arith) c.loop-k-test.true c.loop-k.invariant (with_m _ _ _ _ _ _ c.first_m.ensures (sym c.is_some.ensures ∙ c.if-is_some.true)), c.loop-k-test.true)

pub loop-k-preserved : goal.loop-k-preserved
loop-k-preserved c = passed-more _ _ _ c.loop-k.invariant (without-m _ _ _ _ _ _ c.first_m.ensures (sym c.is_some.ensures ∙ c.if-is_some.false))

pub returns : goal.returns
returns c = first-none _ _ _ _ (omega (arith, c.requires)) (omega arith) (omega arith) (λ i h k. c.loop-k.invariant i h (omega arith))
