-- `unpack` meets its contract: each exit is a case of `unpacked`. Assumes nothing.
use Prim.Native.Nat.{◌≤◌}
use mathlib.Core.Path.{◌≡◌, ◌∙◌, ap, subst}
use native.Mathlib.Omega.{arith}
use lib.ListN.{length, take, length-take}
use lib.Seq.{sets}
use Rattle.figure.specs.Figure.{most_corners}
use Rattle.job.specs.Job.{rings_from}
use Rattle.job.specs.Steps.{IsRead, numbers_of, lengths_of}
use Rattle.number.proofs.Number.{passed}
use Rattle.job.specs.Calls.{unpack_told}
use Rattle.job.proofs.Unpacking.{shown-reads, shown-numbers, unpacked-begun, unpacked-rings, unpacked_extra, unpacked-short, unpacked-narrow, unpacked-stored}
use Rattle.job.proofs.unpack.unpack.Goals as goal

pub returns-in_err-count : goal.returns-in_err-count
returns-in_err-count c =
    record {
      settled = passed (λ u. unpack_told u c.args.list.now c.args.lengths.now) c.from_residual.ensures.1
          (unpacked-begun _ _ _ c.in_err-count.ensures);
    }

pub returns-in_err-corners : goal.returns-in_err-corners
returns-in_err-corners c =
    record {
      settled = passed (λ u. unpack_told u c.args.list.now c.args.lengths.now) c.from_residual-in_err-corners.ensures.1
          (unpacked-rings _ _ _ c.in_ok-count.ensures c.in_err-corners.ensures);
    }

pub returns-then-at-part : goal.returns-then-at-part
returns-then-at-part c =
    record { settled = rw c.at.ensures (unpacked_extra _ _ _ c.in_ok-count.ensures c.in_ok-corners.ensures (omega arith)) }

pub returns-then-list-n : goal.returns-then-list-n
returns-then-list-n c =
    record { settled = rw c.from.ensures (unpacked-short _ _ _ c.in_ok-count.ensures c.in_ok-corners.ensures (omega arith) (omega arith)) }

pub returns-then-lengths-rings : goal.returns-then-lengths-rings
returns-then-lengths-rings c =
    record {
      settled = rw c.from-then-lengths-rings.ensures
          (unpacked-narrow _ _ _ c.in_ok-count.ensures c.in_ok-corners.ensures (omega arith) (omega arith));
    }

pub store_rings-requires : goal.store_rings-requires
store_rings-requires c =
    let told = c.in_ok-corners.ensures in
    let size : c.in_ok-count.count.value ≡ length (take c.in_ok-count.count.value c.args.lengths.now) =
    omega (arith, length-take c.in_ok-count.count.value c.args.lengths.now)
    in
    record {
      read = subst (λ k. IsRead (rings_from c.args.part.now k most_corners c.in_ok-count.count.next.at)) size (shown-reads _ _ _ told);
      at_in_bounds = subst (λ k. length (numbers_of (rings_from c.args.part.now k most_corners c.in_ok-count.count.next.at)) ≤ length c.args.list.now)
          size
          (omega (arith, shown-numbers _ _ _ told));
    }

pub returns : goal.returns
returns c =
    let size : length (take c.in_ok-count.count.value c.args.lengths.now) ≡ c.in_ok-count.count.value =
    omega (arith, length-take c.in_ok-count.count.value c.args.lengths.now)
    in
    record {
      settled = unpacked-stored _ _ _ c.in_ok-count.ensures c.in_ok-corners.ensures (omega arith) _ _
          (c.store_rings.ensures.list_after
          ∙ ap (λ k. sets c.args.list.now 0 (numbers_of (rings_from c.args.part.now k most_corners c.in_ok-count.count.next.at))) size)
          (c.store_rings.ensures.lengths_after
          ∙ ap (λ k. lengths_of (rings_from c.args.part.now k most_corners c.in_ok-count.count.next.at)) size)
          (omega arith)
          (omega arith);
    }
