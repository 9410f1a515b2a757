-- `emission::settle` meets its contract: each exit by one law of Emitted. Assumes nothing.
use mathlib.Core.Path.{sym, ◌∙◌, ap}
use native.Mathlib.Omega.{arith}
use Rattle.piece.specs.declared.Mode.TheVariants.{Straight}
use Rattle.piece.specs.Meant.{meant}
use Rattle.verdict.specs.Verdict.{kind_of}
use Rattle.emission.proofs.Emitted.{emit_one, written_one, settled-outside, settled-full, not-settled, full-one}
use Rattle.emission.proofs.settle.Goals as goal

pub sort_of-sort-requires : goal.sort_of-sort-requires
sort_of-sort-requires c =
    record {
      mode = Straight;
      plan = c.requires.plan;
      judgeable = record { grid = c.requires.emittable.grid; rule = c.requires.emittable.rule; costed = c.requires.emittable.walk.costed; known = c.requires.emittable.known };
    }

pub write_shot-behind-requires : goal.write_shot-behind-requires
write_shot-behind-requires c =
    let h = sym (c.sort_of-sort.ensures Straight c.requires.emittable.grid c.requires.emittable.rule c.requires.plan c.requires.emittable.walk.costed c.requires.emittable.known) ∙ ap kind_of c.in-Full.is in
    record { in_lists = emit_one _ _ _ _ _ _ _ _ c.requires.emittable.walk c.args.p.piece c.requires.emittable.known.valid; at_in_bounds = omega (arith, c.requires.emittable.fits, full-one c.requires.emittable.grid c.requires.emittable.rule (meant c.args.p.piece) h) }

pub returns-in-Outside : goal.returns-in-Outside
returns-in-Outside c g r plan w k = settled-outside g r _ _ _ (sym (c.sort_of-sort.ensures Straight g r plan w.costed k) ∙ ap kind_of c.in-Outside.is)

pub returns-in-Full : goal.returns-in-Full
returns-in-Full c g r plan w k =
    settled-full g r _ _ _ _ _ (sym (c.sort_of-sort.ensures Straight g r plan w.costed k) ∙ ap kind_of c.in-Full.is)
    (written_one g Straight r _ _ _ _ _ w _ k.valid _ _ _ c.write_shot-behind.ensures)

pub returns-in-Mixed : goal.returns-in-Mixed
returns-in-Mixed c g r plan w k = not-settled g r _ _ _ (sym (c.sort_of-sort.ensures Straight g r plan w.costed k) ∙ ap kind_of c.in-Mixed.is)
