-- `cif::read` meets its contract: each exit is a case of `ReadSays`. Assumes nothing.
use native.Mathlib.Omega.{arith}
use mathlib.Core.Path.{refl}
use Rattle.std.proofs.lemmas.Result.{err_from_is_err_and}
use Rattle.cif.specs.Calls.{room}
use Rattle.cif.proofs.Back.{text_room, read_done, read_fault}
use Rattle.cif.proofs.read.Goals as goal

pub returns-in_err-shots : goal.returns-in_err-shots
returns-in_err-shots c =
    let p = err_from_is_err_and c.from_residual.result c.from_residual.ensures.1 in
    rw (p.1, p.2) (read_fault c.args.text.now c.args.list.now _ c.in_err-shots.ensures)

pub returns-then-list-shots : goal.returns-then-list-shots
returns-then-list-shots c =
    let t = c.in_ok-shots.ensures in
    rw c.from.ensures (room t.0 t.1 t.2 (omega (arith, t.3)) refl)

pub store-requires : goal.store-requires
store-requires c =
    let t = c.in_ok-shots.ensures in
    (text_room c.args.text.now t.0 t.2, omega arith)

pub returns : goal.returns
returns c =
    let t = c.in_ok-shots.ensures in
    read_done c.args.text.now c.args.list.now _ _ t.0 t.1 t.2 t.3 (omega arith) c.store.ensures
