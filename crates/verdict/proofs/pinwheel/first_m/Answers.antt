-- `verdict::pinwheel::first_m` meets its contract. The invariant: no line passed does. Assumes nothing.
use native.Mathlib.Omega.{arith}
use Rattle.piece.specs.Meant.{meant}
use Rattle.piece.specs.Cuts.{Inner}
use Rattle.verdict.proofs.Search.{passed_none, passed-more, first-here, first-none}
use Rattle.verdict.proofs.Hunting.{lines_of, addable, meets_so, meets-not}
use Rattle.verdict.proofs.pinwheel.first_m.Goals as goal

pub loop-m-init : goal.loop-m-init
loop-m-init c = passed_none _ _

pub wheel_of-wheel-requires : goal.wheel_of-wheel-requires
wheel_of-wheel-requires c =
    let lines : (Inner (meant c.args.s.piece) c.args.j.0 c.args.l.0 c.args.k.0 c.loop-m.m) = (record {
      aj = c.requires.a_lt_j.0;
      jl = c.requires.a_lt_j.1.0;
      lc = c.requires.a_lt_j.1.1.0;
      bk = c.requires.a_lt_j.1.1.1.0;
      km = omega arith;
      md = c.loop-m-test.true;
    }) in
    lines_of _ _ c.requires.huntable (lines)

pub weight_of-requires : goal.weight_of-requires
weight_of-requires c =
    let lines : (Inner (meant c.args.s.piece) c.args.j.0 c.args.l.0 c.args.k.0 c.loop-m.m) = (record {
      aj = c.requires.a_lt_j.0;
      jl = c.requires.a_lt_j.1.0;
      lc = c.requires.a_lt_j.1.1.0;
      bk = c.requires.a_lt_j.1.1.1.0;
      km = omega arith;
      md = c.loop-m-test.true;
    }) in
    addable _ _ c.requires.huntable (lines) c.wheel_of-wheel.ensures

pub returns-then-weight_of-s : goal.returns-then-weight_of-s
returns-then-weight_of-s c =
    (first-here _ _ _ _ (omega arith) c.loop-m-test.true c.loop-m.invariant (meets_so _ _ _ _ _ _ c.wheel_of-wheel.ensures c.weight_of.ensures c.if-weight_of-s.true), c.loop-m-test.true)

pub loop-m-preserved : goal.loop-m-preserved
loop-m-preserved c = passed-more _ _ _ c.loop-m.invariant (meets-not _ _ _ _ _ _ c.wheel_of-wheel.ensures c.weight_of.ensures c.if-weight_of-s.false)

pub returns : goal.returns
returns c = first-none _ _ _ _ (omega (arith, c.requires)) (omega arith) (omega arith) (λ i h k. c.loop-m.invariant i h (omega arith))
