-- `cif::write` meets its contract: each exit is a case of `cif_written`. Assumes nothing.
use native.Mathlib.Omega.{arith}
use mathlib.Core.Path.{sym, ◌∙◌}
use Rattle.std.proofs.lemmas.Result.{err_from_is_err_and}
use Rattle.cif.proofs.Putting.{write_bad, write_short, write_full, write_fits}
use Rattle.cif.proofs.write.Goals as goal

pub returns-then-bad_shots : goal.returns-then-bad_shots
returns-then-bad_shots c = write_bad _ _ (sym c.bad_shots.ensures ∙ c.if-bad_shots.true)

pub returns-then-room-lt-FRAME_BYTES : goal.returns-then-room-lt-FRAME_BYTES
returns-then-room-lt-FRAME_BYTES c =
    let good = sym c.bad_shots.ensures ∙ c.if-bad_shots.false in
    write_short _ _ good (omega arith)

pub returns-in_err-boxes : goal.returns-in_err-boxes
returns-in_err-boxes c =
    let good = sym c.bad_shots.ensures ∙ c.if-bad_shots.false in
    let k = c.in_err-boxes.ensures in
    let p = err_from_is_err_and c.from_residual.result c.from_residual.ensures.1 in
    rw (p.1, p.2) (write_full _ _ good _ k.0 (omega (arith, k.1)))

pub returns : goal.returns
returns c =
    let good = sym c.bad_shots.ensures ∙ c.if-bad_shots.false in
    let m = c.in_ok-boxes.ensures in
    write_fits _ _ good _ _ m.0 (omega (arith, m.1)) c.put_text.ensures
