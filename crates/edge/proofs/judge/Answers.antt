-- `edge::judge` meets its contract: what the drawing answers. Assumes nothing.
use Rattle.std.specs.Prelude.{Err}
use mathlib.Core.Path.{◌≡◌}
use native.Mathlib.Omega.{arith}
use Rattle.outline.specs.Promise.{sheet}
use Rattle.edge.proofs.judge.Goals as goal

pub returns-in_err-draw : goal.returns-in_err-draw
unfolding sheet
returns-in_err-draw c =
    let handed : c.from_residual.result ≡ Err c.in_err-draw.field-0.0 = grind arith in
    rw handed c.in_err-draw.ensures.told

pub returns : goal.returns
unfolding sheet
returns c = c.in_ok-draw.ensures.told
