-- `write_outline` meets its contract: each exit is a case of `outline_written`. Assumes nothing.
use mathlib.Core.Path.{sym, ◌∙◌, ap}
use native.Mathlib.Omega.{arith}
use lib.ListN.{length}
use lib.Seq.{length-sets}
use Rattle.figure.proofs.Fault.{rings-good}
use Rattle.job.proofs.Writing.{rings-length, outline_bad, outline-room, outline-fits}
use Rattle.job.proofs.write.write_outline.Goals as goal

pub returns-then-bad_figure : goal.returns-then-bad_figure
returns-then-bad_figure c = record { settled = outline_bad _ _ (sym c.bad_figure.ensures ∙ c.if-bad_figure.true) }

pub overflow_cast-count : goal.overflow_cast-count
overflow_cast-count c = omega (arith, (rings-good _ (sym c.bad_figure.ensures ∙ c.if-bad_figure.false)).few)

pub sizes-requires : goal.sizes-requires
sizes-requires c = omega (arith, (rings-good _ (sym c.bad_figure.ensures ∙ c.if-bad_figure.false)).few)

pub sizes-requires-2 : goal.sizes-requires-2
sizes-requires-2 c = let g = rings-good _ (sym c.bad_figure.ensures ∙ c.if-bad_figure.false) in omega (arith, g.numbers, g.most)

pub returns-then-out-need : goal.returns-then-out-need
returns-then-out-need c =
    record {
      settled = let good = sym c.bad_figure.ensures ∙ c.if-bad_figure.false in
          outline-room _ _ good c.announcement.ensures.0 c.sizes.ensures.0 c.sizes-2.ensures.0 (omega arith);
    }

pub put_announcement-at-requires : goal.put_announcement-at-requires
put_announcement-at-requires c =
    let g = rings-good _ (sym c.bad_figure.ensures ∙ c.if-bad_figure.false) in
    (omega (arith, g.few), omega (arith, c.announcement.ensures.0))

pub put_rings-requires : goal.put_rings-requires
put_rings-requires c =
    let good = sym c.bad_figure.ensures ∙ c.if-bad_figure.false in
    let rings = rings-length _ good c.sizes.ensures.0 c.sizes-2.ensures.0 in
    let same = simp length-sets at (ap length c.put_announcement-at.ensures.1) in
    record { lengths_value = good; corners_in_bounds = omega (arith, c.announcement.ensures.0, c.put_announcement-at.ensures.0, rings, same) }

pub returns : goal.returns
returns c =
    record {
      settled = let good = sym c.bad_figure.ensures ∙ c.if-bad_figure.false in
          outline-fits _ _ good c.announcement.ensures.0 c.sizes.ensures.0 c.sizes-2.ensures.0 _ _ _
          c.put_announcement-at.ensures.0
          c.put_announcement-at.ensures.1
          c.put_rings.ensures
          (omega arith);
    }
