-- `lowering::weighing::weigh` meets its contract: the pinwheels with a lower x line below j are weighed. Assumes nothing.
use Prim.Native.Nat.{◌+◌}
use mathlib.Core.Path.{◌∙◌}
use native.Mathlib.Omega.{arith}
use Rattle.lowering.specs.Lowered.{OfLine}
use Rattle.lowering.proofs.Weighed.{among_none, among-more, among-end}
use Rattle.lowering.proofs.Wheels.{least-wheel}
use Rattle.lowering.proofs.weighing.weigh.Goals as goal

pub loop-j-init : goal.loop-j-init
loop-j-init c = (omega arith, (omega (arith, c.requires.weighable.ac), among_none _ _ _ _ (omega arith)))

pub weigh_line-requires : goal.weigh_line-requires
weigh_line-requires c = record { weighable = c.requires.weighable; pairs_value = (c.requires.pairs_value.0, (c.loop-j.invariant.1.1.long ∙ c.requires.pairs_value.1, (omega (arith, c.loop-j.invariant.0), c.loop-j-test.true))) }

pub loop-j-smaller : goal.loop-j-smaller
loop-j-smaller c = omega (arith, c.loop-j-test.true)

pub loop-j-preserved : goal.loop-j-preserved
loop-j-preserved c = (
  omega (arith, c.loop-j.invariant.0),
  (
    omega (arith, c.loop-j-test.true),
    among-more (c.args.a.0 + 1) c.loop-j.j (OfLine c.args.table.now c.args.columns c.args.rows c.args.a.0 c.args.c.0) c.args.best.now c.loop-j.best _ c.loop-j.invariant.0 c.loop-j.invariant.1.1 c.weigh_line.ensures,
  ),
)

pub returns : goal.returns
returns c =
    record {
      by_index = least-wheel _ _ _ _ _
          (among-end (c.args.a.0 + 1) c.loop-j.j c.args.c.0 (OfLine c.args.table.now c.args.columns c.args.rows c.args.a.0 c.args.c.0) c.args.best.now c.loop-j.best c.loop-j.invariant.1.0 c.loop-j-test.false c.loop-j.invariant.1.1);
      best_len = c.loop-j.invariant.1.1.long ∙ c.requires.pairs_value.1;
    }
