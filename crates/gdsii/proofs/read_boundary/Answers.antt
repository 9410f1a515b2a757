-- `read_boundary` meets its contract: each exit by its law. Assumes nothing.
use mathlib.Core.Path.{sym}
use native.Mathlib.Omega.{arith}
use Rattle.number.proofs.Number.{passed}
use Rattle.gdsii.specs.Calls.{boundary_told}
use Rattle.gdsii.proofs.Measured.{measured-fit, read-refused}
use Rattle.gdsii.proofs.Answers.{stored-room, stored-front, exit_shape, exit_room, exit_stored}
use Rattle.gdsii.proofs.read_boundary.Goals as goal

pub returns-in_err-run : goal.returns-in_err-run
returns-in_err-run c = record { settled = passed (λ t. boundary_told t c.args.list.now) c.from_residual.ensures.1 (read-refused _ _ c.in_err-run.ensures) }

pub overflow_sub-corners : goal.overflow_sub-corners
overflow_sub-corners c = omega (arith, (measured-fit _ (sym c.in_ok-run.ensures)).0.within.some)

pub overflow_mul-n : goal.overflow_mul-n
overflow_mul-n c = omega (arith, (measured-fit _ (sym c.in_ok-run.ensures)).0.most)

pub store-requires : goal.store-requires
store-requires c =
    let f = (measured-fit _ (sym c.in_ok-run.ensures)).0 in
    record { fit = f; count_in_bounds = omega (arith, f.most) }

pub slice_bounds-numbers-end : goal.slice_bounds-numbers-end
slice_bounds-numbers-end c = stored-room _ c.in_ok-run.run' _ _ c.store.ensures (omega (arith, (measured-fit _ (sym c.in_ok-run.ensures)).0.most))

pub slice_bounds-judge-end : goal.slice_bounds-judge-end
slice_bounds-judge-end c = stored-front _ c.in_ok-run.run' _ _ c.store.ensures (omega (arith, (measured-fit _ (sym c.in_ok-run.ensures)).0.most))

pub overflow_cast-corners : goal.overflow_cast-corners
overflow_cast-corners c = omega (arith, (measured-fit _ (sym c.in_ok-run.ensures)).0.most)

pub returns-in_err-judge : goal.returns-in_err-judge
returns-in_err-judge c =
    record {
      settled = passed (λ t. boundary_told t c.args.list.now) c.from_residual-in_err-judge.ensures.1
          (exit_shape _ _ _ c.in_ok-run.ensures _ _ c.store.ensures (omega (arith, (measured-fit _ (sym c.in_ok-run.ensures)).0.most))
          _ c.in_err-judge.field-0.0 c.in_err-judge.ensures);
    }

pub returns-then-list-n : goal.returns-then-list-n
returns-then-list-n c =
    record {
      settled = rw c.at.ensures
          (exit_room _ _ _ c.in_ok-run.ensures _ _ c.store.ensures (omega (arith, (measured-fit _ (sym c.in_ok-run.ensures)).0.most))
          _ c.in_ok-judge.ensures (omega (arith, c.if-list-n.true)));
    }

pub store-requires-2 : goal.store-requires-2
store-requires-2 c = record { fit = (measured-fit _ (sym c.in_ok-run.ensures)).0; count_in_bounds = omega (arith, c.if-list-n.false) }

pub shift-shift_x-requires : goal.shift-shift_x-requires
shift-shift_x-requires c = (measured-fit _ (sym c.in_ok-run.ensures)).0.within

pub shift-shift_y-requires : goal.shift-shift_y-requires
shift-shift_y-requires c = (measured-fit _ (sym c.in_ok-run.ensures)).0.within

pub overflow_cast-result : goal.overflow_cast-result
overflow_cast-result c = omega (arith, (measured-fit _ (sym c.in_ok-run.ensures)).0.most)

pub returns : goal.returns
returns c =
    record {
      settled = exit_stored _ _ _ c.in_ok-run.ensures _ _ c.store.ensures (omega (arith, (measured-fit _ (sym c.in_ok-run.ensures)).0.most))
          _ c.in_ok-judge.ensures _ _ _ (omega (arith, c.if-list-n.false))
          c.store-2.ensures c.shift-shift_x.ensures c.shift-shift_y.ensures;
    }
