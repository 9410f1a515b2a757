-- `begin` tells what the check of the job tells, and leaves the true index of a job that is accepted; its inner fault is never met. Assumes nothing.
use Prim.Native.Nat.{ℕ}
use mathlib.Core.Path.{refl}
use mathlib.Core.List.{List}
use native.Mathlib.Omega.{arith}
use Rattle.std.proofs.lemmas.Result.{err_from_is_err_and}
use Rattle.number.proofs.Bytes.{AllBytes}
use Rattle.preparation.proofs.Opening.{begin_refused, begin_index, begin_never, begin_accepted}
use Rattle.preparation.proofs.outlines.begin.Goals as goal

pub returns-in_err-outlines : goal.returns-in_err-outlines
returns-in_err-outlines c =
    let s : List ℕ = c.args.job.now in
    let bytes : AllBytes s = λ i. omega (arith, c.shared_slice_known-1.given i) in
    let p = err_from_is_err_and c.from_residual.result c.from_residual.ensures.1 in
    rw (p.1, p.2) (begin_refused s _ _ bytes c.requires _ c.in_err-outlines.ensures.settled _ refl, tt)

pub returns-in_err-said : goal.returns-in_err-said
returns-in_err-said c =
    let s : List ℕ = c.args.job.now in
    let bytes : AllBytes s = λ i. omega (arith, c.shared_slice_known-1.given i) in
    absurd (begin_never s _ _ bytes c.requires _ c.in_ok-outlines.ensures.settled refl c.in_err-said.ensures)

pub returns : goal.returns
returns c =
    let s : List ℕ = c.args.job.now in
    let bytes : AllBytes s = λ i. omega (arith, c.shared_slice_known-1.given i) in (
      begin_accepted s _ _ bytes c.requires _ c.in_ok-outlines.ensures.settled refl c.in_ok-said.ensures,
      begin_index s _ _ bytes c.requires _ c.in_ok-outlines.ensures.settled refl,
    )
