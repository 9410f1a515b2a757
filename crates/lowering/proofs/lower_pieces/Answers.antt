-- `lowering::lower_pieces` meets its contract. The loop's invariant: the pieces that begin at b and end below d are lowered. Assumes nothing.
use Prim.Native.Nat.{◌+◌, ◌*◌, ◌<◌}
use mathlib.Core.Path.{◌≡◌, ap}
use lib.ListN.{get_or}
use native.Mathlib.Omega.{arith}
use Rattle.outline.specs.Grid.{Grid}
use Rattle.rule.specs.declared.Rule.{Rule}
use Rattle.piece.specs.Piece.{box}
use Rattle.table.specs.Entry.{pair_no, entry_of, entry_count}
use Rattle.table.specs.Fill.{Beyond}
use Rattle.table.proofs.Fill.{beyond-none, beyond_trans}
use Rattle.lowering.specs.Lowering.{Standing}
use Rattle.lowering.proofs.Costs.{plan-small}
use Rattle.lowering.proofs.Steps.{number-few, strip_few, entry_at, at_piece, piece_step, standing-last}
use Rattle.lowering.proofs.lower_pieces.Goals as goal

pub pair_number-requires : goal.pair_number-requires
pair_number-requires c = ((plan-small _ _ _ _ _ c.requires.here.between).0, (c.requires.ac, c.requires.cx))

pub overflow_mul-strip : goal.overflow_mul-strip
overflow_mul-strip c = omega (arith, strip_few c.args.plan.pairs c.args.plan.rows _ c.requires.here.between.sized.rows-most c.requires.here.between.pairs c.pair_number.ensures.1)

pub loop-d-init : goal.loop-d-init
loop-d-init c = (omega arith, omega (arith, c.requires.room), λ g r s. s, beyond-none _ _)

pub pair_number-number-requires : goal.pair_number-number-requires
pair_number-number-requires c = ((plan-small _ _ _ _ _ c.requires.here.between).1, (omega (arith, c.loop-d.invariant.0), omega (arith, c.loop-d-test.true)))

pub overflow_add-entry : goal.overflow_add-entry
overflow_add-entry c =
    omega (
      arith,
      c.pair_number-number.ensures.1,
      strip_few c.args.plan.pairs c.args.plan.rows _ c.requires.here.between.sized.rows-most c.requires.here.between.pairs c.pair_number.ensures.1,
    )

pub offset_bounds-best-number : goal.offset_bounds-best-number
offset_bounds-best-number c = omega (arith, c.pair_number-number.ensures.1)

pub bounds-best-number : goal.bounds-best-number
bounds-best-number c =
    let above : c.args.b.0 < c.loop-d.d = omega (arith, c.loop-d.invariant.0) in
    number-few c.args.plan.rows c.args.b.0 c.loop-d.d _ c.requires.here.between.sized.rows-most (above) (omega (arith, c.loop-d-test.true))
    c.pair_number-number.ensures.0

pub lower_piece-requires : goal.lower_piece-requires
lower_piece-requires c =
    let above : c.args.b.0 < c.loop-d.d = omega (arith, c.loop-d.invariant.0) in
    let entry_here : (c.args.plan.pairs * c.pair_number.result + c.pair_number-number.result
    ≡ entry_of c.args.plan.columns c.args.plan.rows (box c.args.a.0 c.args.c.0 c.args.b.0 c.loop-d.d)) = (entry_at c.args.plan.columns c.args.plan.rows c.args.a.0 c.args.c.0 c.args.b.0 c.loop-d.d
    c.args.plan.pairs _ _ c.requires.here.between.pairs c.pair_number.ensures.0 c.pair_number-number.ensures.0) in
    let wheel-here : (get_or c.args.best.now c.pair_number-number.result 0
    ≡ get_or c.args.best.now (pair_no c.args.plan.rows c.args.b.0 c.loop-d.d) 0) = ap (λ n. get_or c.args.best.now n 0) c.pair_number-number.ensures.0 in
    record {
      grid = c.requires.grid;
      rule = c.requires.rule;
      here =
          at_piece c.requires.grid c.requires.rule c.args.cells.now c.args.plan c.loop-d.table c.args.best.now
          c.args.a c.args.c c.args.b (record { 0 = c.loop-d.d }) _ _
          (c.loop-d.invariant.2 c.requires.grid c.requires.rule c.requires.here) c.requires.ac c.requires.cx (above) (omega (arith, c.loop-d-test.true))
          (entry_here) (wheel-here);
    }

pub loop-d-preserved : goal.loop-d-preserved
loop-d-preserved c =
    let above : c.args.b.0 < c.loop-d.d = omega (arith, c.loop-d.invariant.0) in
    let entry_here : (c.args.plan.pairs * c.pair_number.result + c.pair_number-number.result
    ≡ entry_of c.args.plan.columns c.args.plan.rows (box c.args.a.0 c.args.c.0 c.args.b.0 c.loop-d.d)) = (entry_at c.args.plan.columns c.args.plan.rows c.args.a.0 c.args.c.0 c.args.b.0 c.loop-d.d
    c.args.plan.pairs _ _ c.requires.here.between.pairs c.pair_number.ensures.0 c.pair_number-number.ensures.0) in
    let wheel-here : (get_or c.args.best.now c.pair_number-number.result 0
    ≡ get_or c.args.best.now (pair_no c.args.plan.rows c.args.b.0 c.loop-d.d) 0) = ap (λ n. get_or c.args.best.now n 0) c.pair_number-number.ensures.0 in
    let step : (g : Grid) (r : Rule) → Standing g r c.args.table.now c.args.cells.now c.args.best.now c.args.plan c.args.a.0 c.args.c.0 c.args.b.0 (c.args.b.0 + 3)
    → Standing g r c.lower_piece.new.table c.args.cells.now c.args.best.now c.args.plan c.args.a.0 c.args.c.0 c.args.b.0 (c.loop-d.d + 1)
    × Beyond (entry_count c.args.plan.columns c.args.plan.rows) c.loop-d.table c.lower_piece.new.table
    = λ g r w.
    piece_step g r c.args.cells.now c.args.plan c.loop-d.table c.args.best.now
    c.args.a c.args.c c.args.b (record { 0 = c.loop-d.d }) _ _ c.lower_piece.new.table
    c.requires.ac c.requires.cx (above) (omega (arith, c.loop-d-test.true))
    (entry_here) (wheel-here) (c.lower_piece.ensures g r) (c.loop-d.invariant.2 g r w) in (
      omega (arith, above),
      omega (arith, c.loop-d-test.true),
      λ g r w. (step g r w).0,
      beyond_trans _ _ _ _ c.loop-d.invariant.3 (step c.requires.grid c.requires.rule c.requires.here).1,
    )

pub returns : goal.returns
returns c = record { standing = λ g r w. standing-last g r _ _ _ _ _ _ _ _ _ (omega (arith, c.loop-d-test, c.loop-d.invariant.1)) (c.loop-d.invariant.2 g r w); beyond = c.loop-d.invariant.3 }
