-- `fracture::fracture_by` meets its contract. Assumes nothing.
use mathlib.Core.Path.{◌≡◌, ◌∙◌}
use native.Mathlib.Omega.{arith}
use Rattle.rule.proofs.Rules.{range_true}
use Rattle.demands.proofs.Demands.{words_typed}
use Rattle.fracture.specs.Told.{denied}
use Rattle.fracture.proofs.Settled.{accepted, drawn-cells, told-refused, drawn-laid, told-grid}
use Rattle.fracture.proofs.fracture_by.Goals as goal

pub slice_bounds-of_grid-end : goal.slice_bounds-of_grid-end
slice_bounds-of_grid-end m c = drawn-cells _ _ _ _ _ c.in_ok-columns.ensures

pub of_grid-requires : goal.of_grid-requires
of_grid-requires m c =
    record { grid = _; laid = drawn-laid _ _ _ _ _ c.in_ok-columns.ensures; weight = (range_true _ _ c.requires).1 }

pub returns : goal.returns
returns m c =
    record {
      settled = c.of_grid.ensures _ (drawn-laid _ _ _ _ _ c.in_ok-columns.ensures)
          ∙ told-grid m.M.Manner.mode _ _ _ _ (accepted _ _ _ _ _ c.in_ok-columns.ensures);
      words = words_typed c.args.corners.now c.args.lengths.now (λ i. c.type_inv.corners i);
    }

pub returns-in_err-columns : goal.returns-in_err-columns
returns-in_err-columns m c =
    let handed : c.from_residual.result ≡ denied c.in_err-columns.field-0.0 0 = grind arith in
    record {
      settled = rw handed (told-refused _ _ _ _ _ c.in_err-columns.ensures m.M.Manner.mode _ _ _);
      words = words_typed c.args.corners.now c.args.lengths.now (λ i. c.type_inv.corners i);
    }
