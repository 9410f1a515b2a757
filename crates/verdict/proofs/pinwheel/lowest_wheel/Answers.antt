-- `verdict::pinwheel::lowest_wheel` meets its contract. Assumes nothing.
use Rattle.std.specs.Prelude.{None}
use mathlib.Core.Path.{◌≡◌}
use native.Mathlib.Omega.{arith}
use Rattle.verdict.proofs.Hunting.{none_of, found_l, found_k, found_m, leads}
use Rattle.verdict.proofs.pinwheel.lowest_wheel.Goals as goal

pub returns-in_err-j : goal.returns-in_err-j
returns-in_err-j c =
    let handed : c.from_residual.result ≡ None = grind arith in
    rw handed (none_of _ _ c.in_err-j.ensures)

pub returns-in_err-l : goal.returns-in_err-l
returns-in_err-l c = absurd (found_l _ _ c.in_ok-j.ensures.0 c.in_ok-j.ensures.1 c.in_err-l.ensures)

pub returns-in_err-k : goal.returns-in_err-k
returns-in_err-k c =
    absurd (found_k _ _ c.in_ok-j.ensures.0 c.in_ok-j.ensures.1 c.in_ok-l.ensures.0 c.in_ok-l.ensures.1 c.in_err-k.ensures)

pub returns-in_err-m : goal.returns-in_err-m
returns-in_err-m c =
    absurd
    (found_m _ _ c.in_ok-j.ensures.0 c.in_ok-j.ensures.1 c.in_ok-l.ensures.0 c.in_ok-l.ensures.1 c.in_ok-k.ensures.0 c.in_ok-k.ensures.1
    c.in_err-m.ensures)

pub returns : goal.returns
returns c =
    leads _ _ c.in_ok-j.ensures.0 c.in_ok-j.ensures.1 c.in_ok-l.ensures.0 c.in_ok-l.ensures.1 c.in_ok-k.ensures.0 c.in_ok-k.ensures.1
    c.in_ok-m.ensures.0
    c.in_ok-m.ensures.1
    c.wheel_of.ensures
