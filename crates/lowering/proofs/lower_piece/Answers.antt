-- `lowering::lower_piece` meets its contract: each exit by one law of Costs. Assumes nothing.
use mathlib.Core.Path.{subst}
use native.Mathlib.Omega.{arith}
use Rattle.table.specs.Run.{Lowest}
use Rattle.verdict.specs.Search.{across}
use Rattle.verdict.specs.declared.Cuts.{Cuts}
use Rattle.verdict.proofs.Search.{inside-said}
use Rattle.lowering.proofs.Costs.{here-within, weighable_x, weighable_y, priced-outside, priced-full, priced-cut}
use Rattle.lowering.proofs.lower_piece.Goals as goal

pub offset_bounds-table-entry : goal.offset_bounds-table-entry
offset_bounds-table-entry c = omega (arith, here-within _ _ _ _ _ c.requires.here.between c.args.p.piece c.args.p.entry c.requires.here.known, c.well_formed.0)

pub bounds-table-entry : goal.bounds-table-entry
bounds-table-entry c = here-within _ _ _ _ _ c.requires.here.between c.args.p.piece c.args.p.entry c.requires.here.known

pub returns-then-table-entry-eq0 : goal.returns-then-table-entry-eq0
returns-then-table-entry-eq0 c g r w = priced-outside g r _ _ _ w.between c.args.p.piece c.args.p.entry w.known c.if-table-entry-eq0.true

pub returns-then-all_inside : goal.returns-then-all_inside
returns-then-all_inside c g r w =
    priced-full g r _ _ _ w.between c.args.p.piece c.args.p.entry w.known
    (inside-said _ c.args.p.piece c.if-all_inside.true c.all_inside.ensures)

pub least_cut-upright-requires : goal.least_cut-upright-requires
least_cut-upright-requires c = rw c.upright.ensures (weighable_x _ _ _ _ _ c.requires.here.between c.args.p.piece c.args.p.entry c.requires.here.known)

pub least_cut-level-requires : goal.least_cut-level-requires
least_cut-level-requires c = rw c.level.ensures (weighable_y _ _ _ _ _ c.requires.here.between c.args.p.piece c.args.p.entry c.requires.here.known)

pub offset_bounds-table-entry-2 : goal.offset_bounds-table-entry-2
offset_bounds-table-entry-2 c = omega (arith, here-within _ _ _ _ _ c.requires.here.between c.args.p.piece c.args.p.entry c.requires.here.known, c.well_formed.0)

pub bounds-table-entry-2 : goal.bounds-table-entry-2
bounds-table-entry-2 c = here-within _ _ _ _ _ c.requires.here.between c.args.p.piece c.args.p.entry c.requires.here.known

pub returns : goal.returns
returns c g r w =
    priced-cut g r _ _ _ w.between c.args.p.piece c.args.p.entry w.known w.begun w.raised _ w.least
    c.if-table-entry-eq0.false
    (inside-said _ c.args.p.piece c.if-all_inside.false c.all_inside.ensures)
    _
    _
    (subst (λ (s : Cuts). Lowest (across c.args.table.now s) s.low.0 s.high.0 c.args.wheel c.least_cut-upright.result) c.upright.ensures c.least_cut-upright.ensures)
    (subst (λ (s : Cuts). Lowest (across c.args.table.now s) s.low.0 s.high.0 c.least_cut-upright.result c.least_cut-level.result) c.level.ensures c.least_cut-level.ensures)
