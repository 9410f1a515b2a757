-- `strips::weighing::weigh_strips` meets its contract: the strips that begin below the line a are weighed. Assumes nothing.
use Prim.Native.Nat.{◌+◌, ◌≤◌}
use native.Mathlib.Omega.{arith}
use Rattle.table.proofs.Entry.{below-zero, below_next, below-most}
use Rattle.strips.proofs.Chunk.{strips-none, strips-more, strips-all}
use Rattle.strips.proofs.weighing.weigh_strips.Goals as goal

pub loop-a-init : goal.loop-a-init
loop-a-init c = (omega arith, (omega (arith, below-zero c.args.columns), strips-none _ _ _ _ _))

pub weigh_strip-requires : goal.weigh_strip-requires
weigh_strip-requires c =
    let t : c.loop-a.a + c.args.w ≤ c.args.columns = omega (arith, c.loop-a-test.true) in record {
      weighable = record {
        columns-most = c.requires.columns_bound.0;
        pairs-most = c.requires.columns_bound.1.0;
        room = c.requires.columns_bound.1.1;
        wide = c.requires.le_w.0;
        within = t;
        first-at = c.loop-a.invariant.1.0;
        fit = λ j e h k m. c.requires.by_index c.loop-a.a j e t h k m;
      };
      side_len = omega (arith, c.loop-a.invariant.1.1.long, c.requires.le_w.1.1);
    }

pub overflow_add-first : goal.overflow_add-first
overflow_add-first c = omega (arith, below-most c.args.columns c.loop-a.a c.requires.columns_bound.0, c.loop-a.invariant.1.0)

pub loop-a-preserved : goal.loop-a-preserved
loop-a-preserved c = (
  omega (arith, c.loop-a-test.true),
  (
    omega (arith, below_next c.args.columns c.loop-a.a, c.loop-a.invariant.1.0),
    strips-more _ _ _ _ _ c.loop-a.a c.loop-a.side _ (omega (arith, c.loop-a-test.true, c.requires.columns_bound.0, c.requires.le_w.0)) c.loop-a.invariant.1.1 c.weigh_strip.ensures,
  ),
)

pub returns : goal.returns
returns c = strips-all _ _ _ _ _ c.loop-a.a c.loop-a.side c.loop-a.invariant.0 (omega (arith, c.loop-a-test.false)) c.loop-a.invariant.1.1
