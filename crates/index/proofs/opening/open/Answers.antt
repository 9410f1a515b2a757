-- `open` meets its contract: each exit is a case of `opened`. Assumes nothing.
use mathlib.Core.Path.{sym}
use native.Mathlib.Omega.{arith}
use Rattle.number.proofs.Number.{passed}
use Rattle.job.proofs.Accepted.{header-range}
use Rattle.job.proofs.Job.{job-long, job-header, job-outlines, job_extra}
use Rattle.index.specs.Index.{open_told}
use Rattle.index.proofs.Opens.{opened-fault, opened-front, opened-room, opened-fits}
use Rattle.index.proofs.opening.open.Goals as goal

pub returns-then-job-gt-MOST_BYTES : goal.returns-then-job-gt-MOST_BYTES
returns-then-job-gt-MOST_BYTES c = record { settled = rw c.from.ensures (opened-fault _ _ (job-long _ (omega arith))) }

pub returns-in_err-head : goal.returns-in_err-head
returns-in_err-head c =
    record {
      settled = passed (λ u. open_told u c.args.index.now) c.from_residual.ensures.1
          (opened-fault _ _ (job-header _ (omega arith) c.in_err-head.ensures));
    }

pub note-requires : goal.note-requires
note-requires c = let range = header-range _ (sym c.in_ok-head.ensures) in (omega arith, omega (arith, range.count))

pub returns-in_err-end : goal.returns-in_err-end
returns-in_err-end c =
    record {
      settled = passed (λ u. open_told u c.args.index.now) c.from_residual-in_err-end.ensures.1
          (opened-fault _ _ (job-outlines _ (omega arith) c.in_ok-head.ensures c.in_err-end.ensures.result_value));
    }

pub returns-then-at-job : goal.returns-then-at-job
returns-then-at-job c =
    record {
      settled = rw c.at.ensures
          (opened-fault _ _ (job_extra _ (omega arith) c.in_ok-head.ensures c.in_ok-end.ensures.result_value (omega arith)));
    }

pub returns-then-index-count : goal.returns-then-index-count
returns-then-index-count c =
    record {
      settled = rw c.from-then-index-count.ensures
          (opened-room _ _ (omega arith) c.in_ok-head.ensures c.in_ok-end.ensures.result_value (omega arith) (omega arith));
    }

pub slice_bounds-starts-end : goal.slice_bounds-starts-end
slice_bounds-starts-end c = let range = header-range _ (sym c.in_ok-head.ensures) in omega (arith, range.count)

pub slice_bounds-put-end : goal.slice_bounds-put-end
slice_bounds-put-end c =
    let head = c.in_ok-head.ensures in
    let range = header-range _ (sym head) in
    sym
    (opened-front _ c.args.index.now (omega arith) head c.in_ok-end.ensures.result_value (omega arith) _ _ (omega (arith, range.count)) c.note.ensures.noted)

pub put-requires : goal.put-requires
put-requires c =
    let head = c.in_ok-head.ensures in
    let range = header-range _ (sym head) in
    omega (
      arith,
      opened-front _ c.args.index.now (omega arith) head c.in_ok-end.ensures.result_value (omega arith) _ _ (omega (arith, range.count)) c.note.ensures.noted,
    )

pub returns : goal.returns
returns c =
    let head = c.in_ok-head.ensures in
    let range = header-range _ (sym head) in
    record {
      settled = opened-fits _ _ (omega arith) head c.in_ok-end.ensures.result_value (omega arith) (omega arith) _ _ _
          (omega (arith, range.count))
          c.note.ensures.noted
          c.put.ensures;
    }
