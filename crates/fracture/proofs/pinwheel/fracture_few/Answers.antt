-- `fracture::pinwheel::fracture_few` meets its contract. Assumes nothing.
use Prim.Native.Nat.{◌≤◌}
use Rattle.std.specs.Prelude.{Err}
use native.Mathlib.Omega.{arith}
use lib.ListN.{length}
use mathlib.Core.Path.{◌≡◌}
use Rattle.outline.specs.Grid.{Grid, memory, stored}
use Rattle.piece.specs.declared.Mode.TheVariants.{Straight, Pinwheel}
use Rattle.table.specs.Entry.{entry_count, costs}
use Rattle.verdict.specs.declared.Plan.{Plan}
use Rattle.verdict.specs.Memory.{Costed}
use Rattle.demands.specs.Promise.{written}
use Rattle.fracture.specs.Delivery.{Laid}
use Rattle.refusal.specs.declared.Refusal.TheVariants.{Table}
use Rattle.fracture.specs.Told.{denied}
use Rattle.fracture.proofs.Gridded.{laid-few, laid-ready, laid_filled, laid-walk, laid-lowered, gridded-table, gridded-delivered}
use Rattle.fracture.proofs.pinwheel.fracture_few.Goals as goal

pub entries-requires : goal.entries-requires
entries-requires c = laid-few _ _ c.requires.fillable.laid

pub returns-then-table-entries : goal.returns-then-table-entries
returns-then-table-entries c g w =
    let made : Err c.into.result ≡ denied Table 0 = grind arith in
    rw made (gridded-table Pinwheel g _ w _ _ _ (omega (arith, c.if-table-entries.true, c.entries.ensures)))

pub fill-requires : goal.fill-requires
fill-requires c =
    let room : (entry_count c.args.columns c.args.rows ≤ length c.args.table.now) = omega (arith, c.if-table-entries.false, c.entries.ensures) in
    laid-ready _ _ c.requires.fillable.laid _ _ c.requires.fillable.weight (room)

pub pair_count-pairs-requires : goal.pair_count-pairs-requires
pair_count-pairs-requires c = (laid-few _ _ c.requires.fillable.laid).1

pub lower-requires : goal.lower-requires
lower-requires c =
    let room : (entry_count c.args.columns c.args.rows ≤ length c.args.table.now) = omega (arith, c.if-table-entries.false, c.entries.ensures) in
    let filled : (g : Grid) → (Laid g (memory c.args.columns c.args.rows c.args.xs.now c.args.ys.now c.args.cells.now)
    → c.fill.new.table ≡ written (costs Straight g c.args.rule) c.args.table.now) = λ g w. laid_filled Straight g _ w _ _ (stored _ _ _ _ _) w.back c.fill.ensures in
    let all : (entry_count c.args.columns c.args.rows ≤ length c.args.table.now) = room in
    let plan-of : Plan = record { columns = c.args.columns; rows = c.args.rows; pairs = c.pair_count-pairs.result; rule = c.args.rule } in
    let straight : (g : Grid) → (Laid g (memory c.args.columns c.args.rows c.args.xs.now c.args.ys.now c.args.cells.now)
    → Costed Straight g c.args.rule c.fill.new.table c.args.cells.now (plan-of)) = λ g w. (laid-walk Straight g _ w c.args.rule c.args.table.now (filled g w) (all) _ c.pair_count-pairs.ensures.0 c.requires.fillable.weight).costed in
    record {
      grid = c.requires.fillable.grid;
      rule = c.args.rule;
      costed = straight c.requires.fillable.grid c.requires.fillable.laid;
      sized = record { columns-some = c.requires.le_columns.0; rows-some = c.requires.le_columns.1.0; rows-most = c.requires.le_columns.1.1 };
    }

pub deliver-requires : goal.deliver-requires
deliver-requires c =
    let room : (entry_count c.args.columns c.args.rows ≤ length c.args.table.now) = omega (arith, c.if-table-entries.false, c.entries.ensures) in
    let filled : (g : Grid) → (Laid g (memory c.args.columns c.args.rows c.args.xs.now c.args.ys.now c.args.cells.now)
    → c.fill.new.table ≡ written (costs Straight g c.args.rule) c.args.table.now) = λ g w. laid_filled Straight g _ w _ _ (stored _ _ _ _ _) w.back c.fill.ensures in
    let all : (entry_count c.args.columns c.args.rows ≤ length c.args.table.now) = room in
    let plan-of : Plan = record { columns = c.args.columns; rows = c.args.rows; pairs = c.pair_count-pairs.result; rule = c.args.rule } in
    let straight : (g : Grid) → (Laid g (memory c.args.columns c.args.rows c.args.xs.now c.args.ys.now c.args.cells.now)
    → Costed Straight g c.args.rule c.fill.new.table c.args.cells.now (plan-of)) = λ g w. (laid-walk Straight g _ w c.args.rule c.args.table.now (filled g w) (all) _ c.pair_count-pairs.ensures.0 c.requires.fillable.weight).costed in
    let lowered : (g : Grid) → (Laid g (memory c.args.columns c.args.rows c.args.xs.now c.args.ys.now c.args.cells.now)
    → c.lower.new.table ≡ written (costs Pinwheel g c.args.rule) c.args.table.now) = λ g w. (laid-lowered Straight g _ w c.args.rule c.args.table.now (filled g w) (all) Pinwheel (plan-of)
    (c.lower.ensures.costed g c.args.rule (straight g w))
    c.lower.ensures.beyond) in
    record {
      grid = c.requires.fillable.grid;
      rule = c.args.rule;
      walk = laid-walk Pinwheel _ _ c.requires.fillable.laid _ _ (lowered c.requires.fillable.grid c.requires.fillable.laid) (all) _ c.pair_count-pairs.ensures.0 c.requires.fillable.weight;
    }

pub returns : goal.returns
returns c g w =
    let room : (entry_count c.args.columns c.args.rows ≤ length c.args.table.now) = omega (arith, c.if-table-entries.false, c.entries.ensures) in
    let filled : (g : Grid) → (Laid g (memory c.args.columns c.args.rows c.args.xs.now c.args.ys.now c.args.cells.now)
    → c.fill.new.table ≡ written (costs Straight g c.args.rule) c.args.table.now) = λ g w. laid_filled Straight g _ w _ _ (stored _ _ _ _ _) w.back c.fill.ensures in
    let all : (entry_count c.args.columns c.args.rows ≤ length c.args.table.now) = room in
    let plan-of : Plan = record { columns = c.args.columns; rows = c.args.rows; pairs = c.pair_count-pairs.result; rule = c.args.rule } in
    let straight : (g : Grid) → (Laid g (memory c.args.columns c.args.rows c.args.xs.now c.args.ys.now c.args.cells.now)
    → Costed Straight g c.args.rule c.fill.new.table c.args.cells.now (plan-of)) = λ g w. (laid-walk Straight g _ w c.args.rule c.args.table.now (filled g w) (all) _ c.pair_count-pairs.ensures.0 c.requires.fillable.weight).costed in
    let lowered : (g : Grid) → (Laid g (memory c.args.columns c.args.rows c.args.xs.now c.args.ys.now c.args.cells.now)
    → c.lower.new.table ≡ written (costs Pinwheel g c.args.rule) c.args.table.now) = λ g w. (laid-lowered Straight g _ w c.args.rule c.args.table.now (filled g w) (all) Pinwheel (plan-of)
    (c.lower.ensures.costed g c.args.rule (straight g w))
    c.lower.ensures.beyond) in
    gridded-delivered Pinwheel g _ w _ _ (lowered g w) (all) _ _ _
    (c.deliver.ensures _ _ (laid-walk Pinwheel g _ w _ _ (lowered g w) (all) _ c.pair_count-pairs.ensures.0 c.requires.fillable.weight))
