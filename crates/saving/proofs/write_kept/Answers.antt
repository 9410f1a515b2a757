-- `write_kept` meets its contract: the header is written to an array of its own first, so that its length is known before anything is put. Assumes nothing.
use mathlib.Core.Path.{◌∙◌, sym, ap}
use native.Mathlib.Omega.{arith}
use lib.ListN.{length}
use Rattle.index.proofs.Anew.{header-known, header_never}
use Rattle.saving.proofs.Saves.{kept-room, kept-fits}
use Rattle.saving.proofs.write_kept.Goals as goal

pub returns-in_err-first : goal.returns-in_err-first
returns-in_err-first c =
    absurd
    (header_never _ _ _ c.requires.in_range.threshold c.requires.in_range.weight c.requires.in_range.count _ _ (omega arith) c.in_err-first.field-0.0 c.in_err-first.ensures.settled)

pub overflow_add-bytes : goal.overflow_add-bytes
overflow_add-bytes c =
    let known = header-known _ _ _ c.requires.in_range.threshold c.requires.in_range.weight c.requires.in_range.count _ _ (omega arith) c.in_ok-first.ensures.settled in
    omega (arith, known, c.requires.body_len_bound)

pub returns-then-out-bytes : goal.returns-then-out-bytes
returns-then-out-bytes c =
    let known = header-known _ _ _ c.requires.in_range.threshold c.requires.in_range.weight c.requires.in_range.count _ _ (omega arith) c.in_ok-first.ensures.settled in
    kept-room _ _ _ _ _ _ known.0 (omega arith)

pub slice_bounds-header-end : goal.slice_bounds-header-end
slice_bounds-header-end c =
    let known = header-known _ _ _ c.requires.in_range.threshold c.requires.in_range.weight c.requires.in_range.count _ _ (omega arith) c.in_ok-first.ensures.settled in
    omega (arith, known)

pub slice_bounds-put-end : goal.slice_bounds-put-end
slice_bounds-put-end c =
    let known = header-known _ _ _ c.requires.in_range.threshold c.requires.in_range.weight c.requires.in_range.count _ _ (omega arith) c.in_ok-first.ensures.settled in
    sym (ap length known.1 ∙ sym known.0)

pub put-requires : goal.put-requires
put-requires c =
    let known = header-known _ _ _ c.requires.in_range.threshold c.requires.in_range.weight c.requires.in_range.count _ _ (omega arith) c.in_ok-first.ensures.settled in
    omega (arith, known.0, ap length known.1)

pub returns : goal.returns
returns c =
    let known = header-known _ _ _ c.requires.in_range.threshold c.requires.in_range.weight c.requires.in_range.count _ _ (omega arith) c.in_ok-first.ensures.settled in
    kept-fits _ _ _ _ _ _ known.0 (omega (arith, c.if-out-bytes.false)) _ _ _ known.1 c.put.ensures c.put-2.ensures
