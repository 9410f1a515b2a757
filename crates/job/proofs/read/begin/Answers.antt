-- `begin` meets its contract: the number that 0 announces, or one ring. Assumes nothing.
use mathlib.Core.Path.{sym, ◌∙◌}
use native.Mathlib.Omega.{arith}
use Rattle.job.proofs.Job.{announces_true, begun-many, begun-one}
use Rattle.job.proofs.read.begin.Goals as goal

pub overflow_add-from : goal.overflow_add-from
overflow_add-from c = omega (arith, announces_true _ _ (sym c.announces.ensures ∙ c.if-announces.true))

pub returns-then-announces : goal.returns-then-announces
returns-then-announces c = c.value.ensures ∙ begun-many _ _ (sym c.announces.ensures ∙ c.if-announces.true)

pub returns : goal.returns
returns c = begun-one _ _ (sym c.announces.ensures ∙ c.if-announces.false)
