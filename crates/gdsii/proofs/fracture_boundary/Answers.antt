-- `fracture_boundary` meets its contract: each exit by its law. Assumes nothing.
use mathlib.Core.Path.{sym}
use native.Mathlib.Omega.{arith}
use Rattle.number.proofs.Number.{passed}
use Rattle.gdsii.specs.Calls.{plate_told}
use Rattle.gdsii.proofs.Measured.{measured-fit, fractured-refused}
use Rattle.gdsii.proofs.Answers.{stored-room, stored-front, exit_refused, exit_done}
use Rattle.gdsii.proofs.fracture_boundary.Goals as goal

pub returns-in_err-run : goal.returns-in_err-run
returns-in_err-run c =
    record { settled = passed (λ t. plate_told t c.args.table.now c.args.list.now) c.from_residual.ensures.1 (fractured-refused _ _ _ c.in_err-run.ensures) }

pub overflow_sub-corners : goal.overflow_sub-corners
overflow_sub-corners c = omega (arith, (measured-fit _ (sym c.in_ok-run.ensures)).0.within.some)

pub overflow_mul-n : goal.overflow_mul-n
overflow_mul-n c = omega (arith, (measured-fit _ (sym c.in_ok-run.ensures)).0.most)

pub store-requires : goal.store-requires
store-requires c =
    let f = (measured-fit _ (sym c.in_ok-run.ensures)).0 in
    record { fit = f; count_in_bounds = omega (arith, f.most) }

pub overflow_cast-lengths : goal.overflow_cast-lengths
overflow_cast-lengths c = omega (arith, (measured-fit _ (sym c.in_ok-run.ensures)).0.most)

pub slice_bounds-numbers-end : goal.slice_bounds-numbers-end
slice_bounds-numbers-end c = stored-room _ c.in_ok-run.run' _ _ c.store.ensures (omega (arith, (measured-fit _ (sym c.in_ok-run.ensures)).0.most))

pub slice_bounds-fracture_qualified-end : goal.slice_bounds-fracture_qualified-end
slice_bounds-fracture_qualified-end c =
    stored-front _ c.in_ok-run.run' _ _ c.store.ensures (omega (arith, (measured-fit _ (sym c.in_ok-run.ensures)).0.most))

pub returns-in_err-done : goal.returns-in_err-done
returns-in_err-done c =
    record {
      settled = passed (λ t. plate_told t c.fracture_qualified.new.table c.fracture_qualified.new.list) c.from_residual-in_err-done.ensures.1
          (exit_refused _ _ _ c.in_ok-run.ensures _ _ c.store.ensures (omega (arith, (measured-fit _ (sym c.in_ok-run.ensures)).0.most))
          _ _ _ _ _ c.in_err-done.ensures);
    }

pub shift-shift_x-requires : goal.shift-shift_x-requires
shift-shift_x-requires c = (measured-fit _ (sym c.in_ok-run.ensures)).0.within

pub shift-shift_y-requires : goal.shift-shift_y-requires
shift-shift_y-requires c = (measured-fit _ (sym c.in_ok-run.ensures)).0.within

pub returns : goal.returns
returns c =
    record {
      settled = exit_done _ _ _ c.in_ok-run.ensures _ _ c.store.ensures (omega (arith, (measured-fit _ (sym c.in_ok-run.ensures)).0.most))
          _ _ _ _ _ _ _ c.in_ok-done.ensures c.shift-shift_x.ensures c.shift-shift_y.ensures;
    }
