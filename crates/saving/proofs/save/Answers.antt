-- `save` meets its contract, by the way that it ends. Assumes nothing.
use mathlib.Core.Path.{sym}
use native.Mathlib.Omega.{arith}
use Rattle.number.proofs.Number.{passed}
use Rattle.number.proofs.Bytes.{AllBytes, bytes-typed}
use Rattle.saving.specs.Salvage.{save_told}
use Rattle.saving.proofs.Saves.{header-range, saves_long, saves_fault, saves_within, saves_range, saves_short, saves_room, saves_done}
use Rattle.saving.proofs.save.Goals as goal

pub returns-then-job-gt-MOST_BYTES : goal.returns-then-job-gt-MOST_BYTES
returns-then-job-gt-MOST_BYTES c = record { settled = rw c.from.ensures (saves_long _ _ (omega arith)) }

pub returns-in_err-head : goal.returns-in_err-head
returns-in_err-head c =
    record {
      settled = passed (λ u. save_told u c.args.out.now) c.from_residual.ensures.1 (saves_fault _ _ (omega arith) c.in_err-head.ensures);
    }

pub keep-count-requires : goal.keep-count-requires
keep-count-requires c = (header-range _ (sym c.in_ok-head.ensures)).2

pub slice_bounds-write_kept-count : goal.slice_bounds-write_kept-count
slice_bounds-write_kept-count c =
    let bytes : AllBytes c.args.job.now = bytes-typed _ c.type_inv.job in
    let e = c.in_ok-head.ensures in
    omega (arith, saves_within c.args.job.now c.args.out.now (omega arith) bytes e _ _ c.keep-count.ensures)

pub slice_bounds-write_kept-start : goal.slice_bounds-write_kept-start
slice_bounds-write_kept-start c =
    let bytes : AllBytes c.args.job.now = bytes-typed _ c.type_inv.job in
    let e = c.in_ok-head.ensures in
    omega (arith, saves_within c.args.job.now c.args.out.now (omega arith) bytes e _ _ c.keep-count.ensures)

pub slice_bounds-write_kept-end : goal.slice_bounds-write_kept-end
slice_bounds-write_kept-end c =
    let bytes : AllBytes c.args.job.now = bytes-typed _ c.type_inv.job in
    let e = c.in_ok-head.ensures in
    omega (arith, saves_within c.args.job.now c.args.out.now (omega arith) bytes e _ _ c.keep-count.ensures)

pub write_kept-requires : goal.write_kept-requires
write_kept-requires c =
    let bytes : AllBytes c.args.job.now = bytes-typed _ c.type_inv.job in
    let e = c.in_ok-head.ensures in
    record {
      in_range = saves_range c.args.job.now c.args.out.now (omega arith) bytes e _ _ c.keep-count.ensures;
      body_len_bound = saves_short c.args.job.now c.args.out.now (omega arith) bytes e _ _ c.keep-count.ensures;
    }

pub returns-in_err-bytes : goal.returns-in_err-bytes
returns-in_err-bytes c =
    let bytes : AllBytes c.args.job.now = bytes-typed _ c.type_inv.job in
    let e = c.in_ok-head.ensures in
    record {
      settled = passed (λ u. save_told u c.write_kept.new.out) c.from_residual-in_err-bytes.ensures.1
          (saves_room c.args.job.now c.args.out.now (omega arith) bytes e _ _ c.keep-count.ensures _ c.in_err-bytes.field-0.0 c.in_err-bytes.ensures);
    }

pub overflow_sub-result : goal.overflow_sub-result
overflow_sub-result c =
    let bytes : AllBytes c.args.job.now = bytes-typed _ c.type_inv.job in
    let e = c.in_ok-head.ensures in
    omega (arith, saves_within c.args.job.now c.args.out.now (omega arith) bytes e _ _ c.keep-count.ensures)

pub overflow_sub-result-2 : goal.overflow_sub-result-2
overflow_sub-result-2 c =
    let bytes : AllBytes c.args.job.now = bytes-typed _ c.type_inv.job in
    let e = c.in_ok-head.ensures in
    omega (arith, saves_within c.args.job.now c.args.out.now (omega arith) bytes e _ _ c.keep-count.ensures)

pub returns : goal.returns
returns c =
    let bytes : AllBytes c.args.job.now = bytes-typed _ c.type_inv.job in
    let e = c.in_ok-head.ensures in
    record {
      settled = saves_done c.args.job.now c.args.out.now (omega arith) bytes e _ _ c.keep-count.ensures _ c.in_ok-bytes.ensures;
    }
