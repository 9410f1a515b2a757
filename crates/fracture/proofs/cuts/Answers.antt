-- `fracture::cuts` meets its contract. Assumes nothing.
use Rattle.std.specs.Prelude.{Err}
use mathlib.Core.Path.{◌≡◌}
use native.Mathlib.Omega.{arith}
use Rattle.fracture.proofs.Settled.{accepted, drawn-cells, drawn-laid, laid-shaded, ahead-refused, ahead-cuts}
use Rattle.fracture.proofs.cuts.Goals as goal

pub slice_bounds-cuts-end : goal.slice_bounds-cuts-end
slice_bounds-cuts-end c = drawn-cells _ _ _ _ _ c.in_ok-drawing.ensures

pub cuts-requires : goal.cuts-requires
cuts-requires c = record { grid = _; shaded = laid-shaded _ _ (drawn-laid _ _ _ _ _ c.in_ok-drawing.ensures) }

pub returns : goal.returns
returns c =
    record {
      settled = ahead-cuts _ _ (accepted _ _ _ _ _ c.in_ok-drawing.ensures)
          (c.cuts.ensures _ (laid-shaded _ _ (drawn-laid _ _ _ _ _ c.in_ok-drawing.ensures)));
    }

pub returns-in_err-drawing : goal.returns-in_err-drawing
returns-in_err-drawing c =
    let handed : c.from_residual.result ≡ Err c.in_err-drawing.field-0.0 = grind arith in
    record { settled = rw handed (ahead-refused _ _ _ _ _ c.in_err-drawing.ensures) }
