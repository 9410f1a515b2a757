-- `cutting::Priced::best_cut` meets its contract. Assumes nothing.
use native.Mathlib.Omega.{arith}
use Rattle.cutting.proofs.Search.{start, turn}
use Rattle.cutting.proofs.Priced.best_cut.Goals as goal

pub loop-x-init : goal.loop-x-init
loop-x-init c = (λ l. omega (arith, c.saturating_add-x.ensures), start _ _ (omega (arith, c.saturating_add-x.ensures)))

pub loop-y-init : goal.loop-y-init
loop-y-init c = (λ l. omega (arith, c.saturating_add-y.ensures), turn _ _ _ _ _ (omega arith) (omega (arith, c.saturating_add-y.ensures)) c.loop-x.invariant.1)
