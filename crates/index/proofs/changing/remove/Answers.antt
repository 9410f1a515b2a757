-- `remove` meets its contract: each exit is a case of `removed`. Assumes nothing.
use Prim.Native.Nat.{ℕ, ◌-◌}
use mathlib.Core.Path.{refl}
use native.Mathlib.Omega.{arith}
use lib.ListN.{length}
use Rattle.number.proofs.Number.{passed}
use Rattle.number.proofs.Bytes.{AllBytes, bytes-typed}
use Rattle.job.proofs.Calls.{read_whole, located-nth, taken_never}
use Rattle.index.specs.Index.{change_told}
use Rattle.index.proofs.Within.{found_within}
use Rattle.index.proofs.Made.{run_short, first-within, remove_parted, remove_is, remove_fault, remove_missing}
use Rattle.index.proofs.changing.remove.Goals as goal

pub returns-in_err-head : goal.returns-in_err-head
returns-in_err-head c =
    record {
      settled = passed (λ u. change_told u c.args.index.now c.args.out.now) c.from_residual.ensures.1
          (remove_fault _ _ _ _ c.in_err-head.ensures);
    }

pub returns-then-count-k : goal.returns-then-count-k
returns-then-count-k c = record { settled = rw c.from.ensures (remove_missing _ _ _ c.in_ok-head.ensures _ (omega arith)) }

pub returns-in_err-part : goal.returns-in_err-part
returns-in_err-part c = absurd (taken_never _ _ c.in_ok-head.ensures (omega arith) c.in_err-part.ensures)

pub slice_bounds-write_anew-count : goal.slice_bounds-write_anew-count
slice_bounds-write_anew-count c =
    let r = read_whole _ c.in_ok-head.ensures in
    let bytes : AllBytes c.args.job.now = bytes-typed _ c.type_inv.job in
    omega (arith, found_within _ _ _ (first-within _ bytes r.2 r.3) c.in_ok-part.ensures)

pub slice_bounds-write_anew-start : goal.slice_bounds-write_anew-start
slice_bounds-write_anew-start c =
    let r = read_whole _ c.in_ok-head.ensures in
    let bytes : AllBytes c.args.job.now = bytes-typed _ c.type_inv.job in
    omega (arith, found_within _ _ _ (first-within _ bytes r.2 r.3) c.in_ok-part.ensures)

pub slice_bounds-write_anew-end : goal.slice_bounds-write_anew-end
slice_bounds-write_anew-end c =
    let r = read_whole _ c.in_ok-head.ensures in
    let bytes : AllBytes c.args.job.now = bytes-typed _ c.type_inv.job in
    omega (arith, found_within _ _ _ (first-within _ bytes r.2 r.3) c.in_ok-part.ensures)

pub slice_bounds-write_anew-count-2 : goal.slice_bounds-write_anew-count-2
slice_bounds-write_anew-count-2 c =
    let r = read_whole _ c.in_ok-head.ensures in
    let bytes : AllBytes c.args.job.now = bytes-typed _ c.type_inv.job in
    omega (arith, found_within _ _ _ (first-within _ bytes r.2 r.3) c.in_ok-part.ensures)

pub slice_bounds-write_anew-start-2 : goal.slice_bounds-write_anew-start-2
slice_bounds-write_anew-start-2 c =
    let r = read_whole _ c.in_ok-head.ensures in
    let bytes : AllBytes c.args.job.now = bytes-typed _ c.type_inv.job in
    omega (arith, found_within _ _ _ (first-within _ bytes r.2 r.3) c.in_ok-part.ensures)

pub slice_bounds-write_anew-end-2 : goal.slice_bounds-write_anew-end-2
slice_bounds-write_anew-end-2 c =
    let r = read_whole _ c.in_ok-head.ensures in
    let bytes : AllBytes c.args.job.now = bytes-typed _ c.type_inv.job in
    omega (arith, found_within _ _ _ (first-within _ bytes r.2 r.3) c.in_ok-part.ensures)

pub write_anew-requires : goal.write_anew-requires
write_anew-requires c =
    let e = c.in_ok-head.ensures in
    let bytes : AllBytes c.args.job.now = bytes-typed _ c.type_inv.job in
    let n = located-nth _ c.args.k e (omega (arith, c.if-count-k.false)) in
    let next : ℕ = c.in_ok-head.head.next.at in
    let part = c.in_ok-part.part in
    record {
      front_len_bound = (run_short _ bytes n.2 (part.start - next) next, run_short _ bytes n.2 (length c.args.job.now - part.end) part.end);
      parted = remove_parted _ bytes n.2 (read_whole _ e).3 c.args.k (omega (arith, c.if-count-k.false)) n.4 c.in_ok-part.ensures _ _ refl refl;
    }

pub returns : goal.returns
returns c =
    let e = c.in_ok-head.ensures in
    let bytes : AllBytes c.args.job.now = bytes-typed _ c.type_inv.job in
    let n = located-nth _ c.args.k e (omega (arith, c.if-count-k.false)) in
    record {
      settled = remove_is _ bytes n.2 (read_whole _ e).3 c.args.k (omega (arith, c.if-count-k.false)) n.4 c.in_ok-part.ensures _ _ refl refl _ _
          c.write_anew.ensures;
    }
