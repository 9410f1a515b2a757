-- `verdict::pinwheel::wheel_of` meets its contract. Assumes nothing.
use native.Mathlib.Omega.{arith}
use Rattle.piece.specs.Meant.{meant}
use Rattle.verdict.proofs.Hunting.{box-valid, first-parts, second_parts}
use Rattle.verdict.proofs.pinwheel.wheel_of.Goals as goal

pub numbered-inner-requires : goal.numbered-inner-requires
numbered-inner-requires c = box-valid _ c.requires (omega (arith, c.requires.inner)) (omega (arith, c.requires.inner)) (omega (arith, c.requires.inner)) (omega (arith, c.requires.inner))

pub numbered-first-requires : goal.numbered-first-requires
numbered-first-requires c = box-valid _ c.requires (omega (arith, c.requires.inner)) (omega (arith, c.requires.inner)) (omega (arith, c.requires.inner)) (omega (arith, c.requires.inner))

pub numbered-second-requires : goal.numbered-second-requires
numbered-second-requires c = box-valid _ c.requires (omega (arith, c.requires.inner)) (omega (arith, c.requires.inner)) (omega (arith, c.requires.inner)) (omega (arith, c.requires.inner))

pub numbered-third-requires : goal.numbered-third-requires
numbered-third-requires c = box-valid _ c.requires (omega (arith, c.requires.inner)) (omega (arith, c.requires.inner)) (omega (arith, c.requires.inner)) (omega (arith, c.requires.inner))

pub numbered-fourth-requires : goal.numbered-fourth-requires
numbered-fourth-requires c = box-valid _ c.requires (omega (arith, c.requires.inner)) (omega (arith, c.requires.inner)) (omega (arith, c.requires.inner)) (omega (arith, c.requires.inner))

pub numbered-first-requires-in-Second : goal.numbered-first-requires-in-Second
numbered-first-requires-in-Second c = box-valid _ c.requires (omega (arith, c.requires.inner)) (omega (arith, c.requires.inner)) (omega (arith, c.requires.inner)) (omega (arith, c.requires.inner))

pub numbered-second-requires-in-Second : goal.numbered-second-requires-in-Second
numbered-second-requires-in-Second c = box-valid _ c.requires (omega (arith, c.requires.inner)) (omega (arith, c.requires.inner)) (omega (arith, c.requires.inner)) (omega (arith, c.requires.inner))

pub numbered-third-requires-in-Second : goal.numbered-third-requires-in-Second
numbered-third-requires-in-Second c = box-valid _ c.requires (omega (arith, c.requires.inner)) (omega (arith, c.requires.inner)) (omega (arith, c.requires.inner)) (omega (arith, c.requires.inner))

pub numbered-fourth-requires-in-Second : goal.numbered-fourth-requires-in-Second
numbered-fourth-requires-in-Second c = box-valid _ c.requires (omega (arith, c.requires.inner)) (omega (arith, c.requires.inner)) (omega (arith, c.requires.inner)) (omega (arith, c.requires.inner))

pub returns-in-First : goal.returns-in-First
returns-in-First c =
    first-parts c.args.s.plan.columns c.args.s.plan.rows (meant c.args.s.piece) c.args.j.0 c.args.l.0 c.args.k.0 c.args.m.0 c.in-First.is
    c.numbered-first.ensures c.numbered-second.ensures c.numbered-third.ensures c.numbered-fourth.ensures
    c.numbered-inner.ensures

pub returns-in-Second : goal.returns-in-Second
returns-in-Second c =
    second_parts c.args.s.plan.columns c.args.s.plan.rows (meant c.args.s.piece) c.args.j.0 c.args.l.0 c.args.k.0 c.args.m.0 c.in-Second.is
    c.numbered-first-in-Second.ensures c.numbered-second-in-Second.ensures c.numbered-third-in-Second.ensures c.numbered-fourth-in-Second.ensures
    c.numbered-inner.ensures
