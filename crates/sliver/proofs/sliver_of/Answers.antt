-- `sliver::sliver_of` meets its contract. Assumes nothing.
use mathlib.Core.Path.{◌≡◌, ◌∙◌}
use Rattle.outline.specs.Grid.{Grid}
use Rattle.piece.specs.Meant.{meant}
use Rattle.piece.specs.Piece.{width, height}
use Rattle.sliver.specs.Sides.{Shown}
use Rattle.sliver.proofs.Lengths.{banded_x, banded_y, x-ordered, y-ordered, width_is, height-is, sliver-measured}
use Rattle.sliver.proofs.sliver_of.Goals as goal

pub overflow_sub-right : goal.overflow_sub-right
overflow_sub-right c = x-ordered _ _ _ _ _ c.requires.shown c.place_of-left.ensures c.place_of-right.ensures

pub overflow_sub-top : goal.overflow_sub-top
overflow_sub-top c = y-ordered _ _ _ _ _ c.requires.shown c.place_of-bottom.ensures c.place_of-top.ensures

pub counted_sides-upright-requires : goal.counted_sides-upright-requires
counted_sides-upright-requires c = banded_x _ _ _ _ _ c.requires.shown

pub counted_sides-level-requires : goal.counted_sides-level-requires
counted_sides-level-requires c = banded_y _ _ _ _ _ c.requires.shown

pub returns : goal.returns
returns c g w =
    let Of : Grid → Type 0 = λ g. Shown g c.args.xs.now c.args.ys.now c.args.cells.now (meant c.args.p) in
    let wide : (g : Grid) → Of g → c.from-width.result ≡ width g c.args.p.a.0 c.args.p.c.0 = λ g w. c.from-width.ensures ∙ width_is g _ _ _ _ w c.place_of-left.ensures c.place_of-right.ensures in
    let high : (g : Grid) → Of g → c.from-height.result ≡ height g c.args.p.b.0 c.args.p.d.0 = λ g w. c.from-height.ensures ∙ height-is g _ _ _ _ w c.place_of-bottom.ensures c.place_of-top.ensures in
    sliver-measured g _ _ _ _ w _ (wide g w) (high g w) c.spares-wide.ensures c.spares-high.ensures
    c.counted_sides-upright.ensures.0 c.counted_sides-level.ensures.0
    c.sliver.ensures
