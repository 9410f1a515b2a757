-- `write_anew` meets its contract: each exit is a case of `changed_for`; its header is not refused, and what is written reads well.
-- Assumes nothing.
use Prim.Native.Nat.{ℕ, ◌+◌}
use mathlib.Core.List.{List, ◌++◌}
use mathlib.Core.Path.{refl, ap, ◌∙◌, sym}
use native.Mathlib.Omega.{arith}
use lib.ListN.{length}
use Rattle.job.specs.Bytes.{header_bytes}
use Rattle.job.specs.Job.{most_bytes}
use lib.Seq.{length-sets, length-take-le, sets}
use Rattle.index.proofs.Anew.{header-known, header_never, parts-length, parts-fit, front-short, anew_long, anew_out, anew_index, anew_never, anew_done}
use Rattle.index.proofs.changing.write_anew.Goals as goal

pub returns-in_err-first : goal.returns-in_err-first
returns-in_err-first c =
    absurd
    (header_never _ _ _ c.requires.parted.threshold c.requires.parted.weight c.requires.parted.count _ _ (omega arith) c.in_err-first.field-0.0 c.in_err-first.ensures.settled)

pub overflow_add-bytes : goal.overflow_add-bytes
overflow_add-bytes c =
    let known = header-known _ _ _ c.requires.parted.threshold c.requires.parted.weight c.requires.parted.count _ _ (omega arith) c.in_ok-first.ensures.settled in
    omega (arith, known, c.requires.front_len_bound)

pub overflow_add-bytes-2 : goal.overflow_add-bytes-2
overflow_add-bytes-2 c =
    let known = header-known _ _ _ c.requires.parted.threshold c.requires.parted.weight c.requires.parted.count _ _ (omega arith) c.in_ok-first.ensures.settled in
    omega (arith, known, c.requires.front_len_bound)

pub returns-then-bytes-gt-MOST_BYTES : goal.returns-then-bytes-gt-MOST_BYTES
returns-then-bytes-gt-MOST_BYTES c =
    let known = header-known _ _ _ c.requires.parted.threshold c.requires.parted.weight c.requires.parted.count _ _ (omega arith) c.in_ok-first.ensures.settled in
    let m : ℕ = c.in_ok-first.first + length c.args.front.now + length c.args.back.now in
    let all = parts-length (header_bytes c.args.job.threshold c.args.job.weight c.args.job.outlines) c.args.front.now c.args.back.now in
    rw c.from.ensures (anew_long c.args.job.threshold c.args.job.weight c.args.job.outlines c.args.front.now c.args.back.now c.args.index.now c.args.out.now c.requires.parted m (omega (arith, known, all)) (omega arith))

pub returns-then-out-bytes : goal.returns-then-out-bytes
returns-then-out-bytes c =
    let known = header-known _ _ _ c.requires.parted.threshold c.requires.parted.weight c.requires.parted.count _ _ (omega arith) c.in_ok-first.ensures.settled in
    let m : ℕ = c.in_ok-first.first + length c.args.front.now + length c.args.back.now in
    let all = parts-length (header_bytes c.args.job.threshold c.args.job.weight c.args.job.outlines) c.args.front.now c.args.back.now in
    rw c.from-then-out-bytes.ensures
    (anew_out c.args.job.threshold c.args.job.weight c.args.job.outlines c.args.front.now c.args.back.now c.args.index.now c.args.out.now c.requires.parted m (omega (arith, known, all)) (omega arith) (omega arith))

pub returns-then-index-outlines : goal.returns-then-index-outlines
returns-then-index-outlines c =
    let known = header-known _ _ _ c.requires.parted.threshold c.requires.parted.weight c.requires.parted.count _ _ (omega arith) c.in_ok-first.ensures.settled in
    let m : ℕ = c.in_ok-first.first + length c.args.front.now + length c.args.back.now in
    let all = parts-length (header_bytes c.args.job.threshold c.args.job.weight c.args.job.outlines) c.args.front.now c.args.back.now in
    rw c.from-then-index-outlines.ensures
    (anew_index c.args.job.threshold c.args.job.weight c.args.job.outlines c.args.front.now c.args.back.now c.args.index.now c.args.out.now c.requires.parted m (omega (arith, known, all)) (omega arith) (omega arith) (omega arith))

pub slice_bounds-header-end : goal.slice_bounds-header-end
slice_bounds-header-end c =
    let known = header-known _ _ _ c.requires.parted.threshold c.requires.parted.weight c.requires.parted.count _ _ (omega arith) c.in_ok-first.ensures.settled in
    omega (arith, known)

pub slice_bounds-put_parts-end : goal.slice_bounds-put_parts-end
slice_bounds-put_parts-end c =
    let known = header-known _ _ _ c.requires.parted.threshold c.requires.parted.weight c.requires.parted.count _ _ (omega arith) c.in_ok-first.ensures.settled in
    sym (ap length known.1 ∙ sym known.0)

pub put_parts-requires : goal.put_parts-requires
put_parts-requires c =
    let known = header-known _ _ _ c.requires.parted.threshold c.requires.parted.weight c.requires.parted.count _ _ (omega arith) c.in_ok-first.ensures.settled in
    let m : ℕ = c.in_ok-first.first + length c.args.front.now + length c.args.back.now in
    let all = parts-length (header_bytes c.args.job.threshold c.args.job.weight c.args.job.outlines) c.args.front.now c.args.back.now in
    parts-fit _ _ c.args.front.now c.args.back.now c.in_ok-first.first (length c.args.out.now) known.1 (omega (arith, known, all))

pub slice_bounds-note-end-2 : goal.slice_bounds-note-end-2
slice_bounds-note-end-2 c = sym (length-take-le _ c.put_parts.new.out (omega (arith, simp length-sets at (ap length c.put_parts.ensures))))

pub note-requires : goal.note-requires
note-requires c =
    let m : ℕ = c.in_ok-first.first + length c.args.front.now + length c.args.back.now in
    (front-short m most_bytes c.put_parts.new.out (omega arith), omega arith)

pub returns-in_err-note : goal.returns-in_err-note
returns-in_err-note c =
    let known = header-known _ _ _ c.requires.parted.threshold c.requires.parted.weight c.requires.parted.count _ _ (omega arith) c.in_ok-first.ensures.settled in
    let m : ℕ = c.in_ok-first.first + length c.args.front.now + length c.args.back.now in
    let all = parts-length (header_bytes c.args.job.threshold c.args.job.weight c.args.job.outlines) c.args.front.now c.args.back.now in
    absurd
    (anew_never c.args.job.threshold c.args.job.weight c.args.job.outlines c.args.front.now c.args.back.now c.args.index.now c.args.out.now c.requires.parted m (omega (arith, known, all)) (omega (arith, c.if-bytes-gt-MOST_BYTES.false)) known.0 (omega (arith, c.if-out-bytes.false)) _ _
    (c.put_parts.ensures ∙ ap (λ (l : List ℕ). sets c.args.out.now 0 (l ++ (c.args.front.now ++ c.args.back.now))) known.1)
    refl
    c.in_err-note.ensures.result_value)

pub returns : goal.returns
returns c =
    let known = header-known _ _ _ c.requires.parted.threshold c.requires.parted.weight c.requires.parted.count _ _ (omega arith) c.in_ok-first.ensures.settled in
    let m : ℕ = c.in_ok-first.first + length c.args.front.now + length c.args.back.now in
    let all = parts-length (header_bytes c.args.job.threshold c.args.job.weight c.args.job.outlines) c.args.front.now c.args.back.now in
    anew_done c.args.job.threshold c.args.job.weight c.args.job.outlines c.args.front.now c.args.back.now c.args.index.now c.args.out.now c.requires.parted m (omega (arith, known, all)) (omega (arith, c.if-bytes-gt-MOST_BYTES.false)) known.0 (omega (arith, c.if-out-bytes.false)) (omega (arith, c.if-index-outlines.false)) _ _ _
    (c.put_parts.ensures ∙ ap (λ (l : List ℕ). sets c.args.out.now 0 (l ++ (c.args.front.now ++ c.args.back.now))) known.1)
    refl
    c.note.ensures.noted
