-- `fracture::fracture_grid` meets its contract. Assumes nothing.
use Prim.Native.Nat.{◌≤◌}
use Rattle.std.specs.Prelude.{Err}
use mathlib.Core.Path.{◌≡◌}
use native.Mathlib.Omega.{arith}
use lib.ListN.{length}
use Rattle.outline.specs.Grid.{stored}
use Rattle.table.specs.Entry.{entry_count}
use Rattle.refusal.specs.declared.Refusal.TheVariants.{Table}
use Rattle.fracture.specs.Told.{denied}
use Rattle.fracture.proofs.Gridded.{laid-few, laid-ready, laid_filled, laid-walk, gridded-table, gridded-delivered}
use Rattle.fracture.proofs.fracture_grid.Goals as goal

pub entries-requires : goal.entries-requires
entries-requires m c = laid-few _ _ c.requires.laid

pub returns-then-table-entries : goal.returns-then-table-entries
returns-then-table-entries m c g w =
    let made : Err c.into.result ≡ denied Table 0 = grind arith in
    rw made (gridded-table m.M.Manner.mode g _ w _ _ _ (omega (arith, c.if-table-entries.true, c.entries.ensures)))

pub fill-requires : goal.fill-requires
fill-requires m c =
    let room : (entry_count c.args.columns c.args.rows ≤ length c.args.table.now) = omega (arith, c.if-table-entries.false, c.entries.ensures) in
    laid-ready _ _ c.requires.laid _ _ c.requires.weight (room)

pub pair_count-pairs-requires : goal.pair_count-pairs-requires
pair_count-pairs-requires m c = (laid-few _ _ c.requires.laid).1

pub deliver-requires : goal.deliver-requires
deliver-requires m c =
    let room : (entry_count c.args.columns c.args.rows ≤ length c.args.table.now) = omega (arith, c.if-table-entries.false, c.entries.ensures) in
    record {
      grid = c.requires.grid;
      rule = c.args.rule;
      walk = laid-walk m.M.Manner.mode _ _ c.requires.laid _ _ (laid_filled m.M.Manner.mode _ _ c.requires.laid _ _ (stored _ _ _ _ _) c.requires.laid.back c.fill.ensures) (room) _ c.pair_count-pairs.ensures.0 c.requires.weight;
    }

pub returns : goal.returns
returns m c g w =
    let room : (entry_count c.args.columns c.args.rows ≤ length c.args.table.now) = omega (arith, c.if-table-entries.false, c.entries.ensures) in
    let e = laid_filled m.M.Manner.mode g _ w _ _ (stored _ _ _ _ _) w.back c.fill.ensures in
    let k = room in
    gridded-delivered m.M.Manner.mode g _ w _ _ e k _ _ _ (c.deliver.ensures _ _ (laid-walk m.M.Manner.mode g _ w _ _ e k _ c.pair_count-pairs.ensures.0 c.requires.weight))
