-- `outline::trace` meets its contract. Lines and cells are those of the figure's grid. Assumes nothing.
use mathlib.Core.Path.{sym, ◌∙◌, ap}
use native.Mathlib.Omega.{arith}
use lib.ListN.{length}
use Rattle.figure.specs.declared.Axis.TheVariants.{X, Y}
use Rattle.figure.proofs.Sharing.{corners-whole}
use Rattle.outline.specs.Lines.{lines}
use Rattle.outline.proofs.Evens.{right_halved}
use Rattle.outline.proofs.Marking.{right-whole}
use Rattle.outline.proofs.Promise.{front-within, front-lines, front_length, sheet-whole}
use Rattle.outline.proofs.trace.Goals as goal

pub gather-across_x-requires : goal.gather-across_x-requires
gather-across_x-requires c = right_halved _ c.requires.right X _ (omega (arith, (right-whole _ c.requires.right X).1, ap length c.requires.clear.xs_clear))

pub gather-across_y-requires : goal.gather-across_y-requires
gather-across_y-requires c = right_halved _ c.requires.right Y _ (omega (arith, (right-whole _ c.requires.right Y).1, ap length c.requires.clear.ys_clear))

pub slice_bounds-shade-end : goal.slice_bounds-shade-end
slice_bounds-shade-end c = front-within _ _ _ _ _ c.gather-across_x.ensures

pub slice_bounds-shade-end-2 : goal.slice_bounds-shade-end-2
slice_bounds-shade-end-2 c = front_length _ _ _ _ _ c.gather-across_x.ensures

pub slice_bounds-shade-end-3 : goal.slice_bounds-shade-end-3
slice_bounds-shade-end-3 c = front-within _ _ _ _ _ c.gather-across_y.ensures

pub slice_bounds-shade-end-4 : goal.slice_bounds-shade-end-4
slice_bounds-shade-end-4 c = front_length _ _ _ _ _ c.gather-across_y.ensures

pub shade-requires : goal.shade-requires
shade-requires c =
    let w = sym (corners-whole _ c.requires.right.figure-good) in record {
      lined = record {
        right = c.requires.right;
        across-x = front-lines _ _ _ _ _ c.gather-across_x.ensures ∙ ap (lines X) w;
        across-y = front-lines _ _ _ _ _ c.gather-across_y.ensures ∙ ap (lines Y) w;
      };
      cells_value = c.requires.clear.cells_clear;
    }

pub overflow_sub-result : goal.overflow_sub-result
overflow_sub-result c = omega (arith, c.gather-across_x.ensures.number, (right-whole _ c.requires.right X).0)

pub overflow_sub-result-2 : goal.overflow_sub-result-2
overflow_sub-result-2 c = omega (arith, c.gather-across_y.ensures.number, (right-whole _ c.requires.right Y).0)

pub returns : goal.returns
returns c = sheet-whole _ _ _ _ c.requires.right c.requires.clear _ _ _ _ _ c.gather-across_x.ensures c.gather-across_y.ensures c.shade.ensures
