-- `append` meets its contract: each exit is a case of `appended`. Assumes nothing.
use Prim.Native.Nat.{ℕ, ◌-◌}
use mathlib.Core.Path.{refl, sym, ap, ◌∙◌}
use native.Mathlib.Omega.{arith}
use lib.ListN.{length}
use Rattle.number.proofs.Number.{passed}
use Rattle.number.proofs.Bytes.{AllBytes, bytes-typed}
use Rattle.figure.specs.Figure.{figure}
use Rattle.job.specs.Job.{most_bytes}
use Rattle.job.proofs.Calls.{read_whole}
use Rattle.index.specs.Index.{change_told}
use Rattle.index.proofs.Anew.{front-short, figure-known, figure-refused}
use Rattle.index.proofs.Made.{all_words, run_short, first-within, append-parted, append-is, append-fault, append_bad, append-full}
use Rattle.index.proofs.changing.append.Goals as goal

pub returns-in_err-head : goal.returns-in_err-head
returns-in_err-head c =
    record {
      settled = passed (λ u. change_told u c.args.index.now c.args.out.now) c.from_residual.ensures.1
          (append-fault _ _ _ _ c.in_err-head.ensures);
    }

pub returns-in_err-n : goal.returns-in_err-n
returns-in_err-n c =
    let e = c.in_ok-head.ensures in
    let f = figure c.args.corners.now c.args.lengths.now in
    let bad = figure-refused f _ _ (omega arith) c.in_err-n.field-0.0 c.in_err-n.ensures.settled in
    record {
      settled = passed (λ u. change_told u c.args.index.now c.args.out.now) c.from_residual-in_err-n.ensures.1
          (append_bad _ _ _ e f bad.0 bad.1);
    }

pub returns-then-k-ge-MOST_OUTLINES : goal.returns-then-k-ge-MOST_OUTLINES
returns-then-k-ge-MOST_OUTLINES c =
    let e = c.in_ok-head.ensures in
    let f = figure c.args.corners.now c.args.lengths.now in
    let known = figure-known f _ _ (omega arith) c.in_ok-n.ensures.settled in
    record { settled = rw c.from.ensures (append-full _ _ _ e f known.0 (omega arith)) }

pub slice_bounds-write_anew-count : goal.slice_bounds-write_anew-count
slice_bounds-write_anew-count c =
    let e = c.in_ok-head.ensures in
    let r = read_whole _ e in
    let bytes : AllBytes c.args.job.now = bytes-typed _ c.type_inv.job in
    omega (arith, first-within _ bytes r.2 r.3)

pub slice_bounds-write_anew-start : goal.slice_bounds-write_anew-start
slice_bounds-write_anew-start c =
    let e = c.in_ok-head.ensures in
    let r = read_whole _ e in
    let bytes : AllBytes c.args.job.now = bytes-typed _ c.type_inv.job in
    omega (arith, first-within _ bytes r.2 r.3)

pub slice_bounds-bytes-end : goal.slice_bounds-bytes-end
slice_bounds-bytes-end c =
    let f = figure c.args.corners.now c.args.lengths.now in
    let known = figure-known f _ _ (omega arith) c.in_ok-n.ensures.settled in
    omega (arith, known.3)

pub slice_bounds-write_anew-end-2 : goal.slice_bounds-write_anew-end-2
slice_bounds-write_anew-end-2 c =
    let f = figure c.args.corners.now c.args.lengths.now in
    let known = figure-known f _ _ (omega arith) c.in_ok-n.ensures.settled in
    known.1 ∙ sym (ap length known.2)

pub write_anew-requires : goal.write_anew-requires
write_anew-requires c =
    let e = c.in_ok-head.ensures in
    let f = figure c.args.corners.now c.args.lengths.now in
    let known = figure-known f _ _ (omega arith) c.in_ok-n.ensures.settled in
    let r = read_whole _ e in
    let bytes : AllBytes c.args.job.now = bytes-typed _ c.type_inv.job in
    let words = all_words c.args.corners.now (λ i. omega (arith, c.type_inv.corners i)) in
    let next : ℕ = c.in_ok-head.head.next.at in
    record {
      front_len_bound = (run_short _ bytes r.2 (length c.args.job.now - next) next, front-short c.in_ok-n.n most_bytes _ (omega (arith, known)));
      parted = append-parted _ bytes r.2 r.3 f known.0 words _ _ refl known.2 (omega (arith, c.if-k-ge-MOST_OUTLINES.false));
    }

pub returns : goal.returns
returns c =
    let e = c.in_ok-head.ensures in
    let f = figure c.args.corners.now c.args.lengths.now in
    let known = figure-known f _ _ (omega arith) c.in_ok-n.ensures.settled in
    let r = read_whole _ e in
    let bytes : AllBytes c.args.job.now = bytes-typed _ c.type_inv.job in
    let words = all_words c.args.corners.now (λ i. omega (arith, c.type_inv.corners i)) in
    record {
      settled = append-is _ bytes r.2 r.3 f known.0 words _ _ refl known.2 (omega (arith, c.if-k-ge-MOST_OUTLINES.false)) _ _ c.write_anew.ensures;
    }
