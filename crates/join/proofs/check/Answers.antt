use native.Mathlib.Omega.{arith}
use mathlib.Core.Path.{sym, ◌∙◌}
use Rattle.join.proofs.Laws.{check_bad, check_room, check_all}
use Rattle.join.proofs.check.Goals as goal

pub returns-then-bad_shots : goal.returns-then-bad_shots
returns-then-bad_shots c = check_bad _ _ (sym c.if-bad_shots.true ∙ c.bad_shots.ensures)

pub returns-then-room-n : goal.returns-then-room-n
returns-then-room-n c = check_room _ _ (sym c.if-bad_shots.false ∙ c.bad_shots.ensures) (omega arith)

pub returns : goal.returns
returns c = check_all _ _ (sym c.if-bad_shots.false ∙ c.bad_shots.ensures) (omega arith)
