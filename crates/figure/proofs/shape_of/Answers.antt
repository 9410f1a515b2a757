-- `figure::shape_of` meets its contract. Each test passed is one condition that does not hold. Assumes nothing.
use mathlib.Core.Path.{sym, ◌∙◌}
use borrow.Author.Tests.{not-true, not-false}
use Rattle.figure.proofs.Crooked.{fault-right_angled, fault-unturned}
use Rattle.figure.proofs.Fault.{fault_2, fault_3}
use Rattle.figure.proofs.shape_of.Goals as goal

pub returns-then-bad_figure : goal.returns-then-bad_figure
returns-then-bad_figure c = record { settled = fault_2 _ (sym c.bad_figure.ensures ∙ c.if-bad_figure.true) }

pub crooked-requires : goal.crooked-requires
crooked-requires c = sym c.bad_figure.ensures ∙ c.if-bad_figure.false

pub returns-then-not-crooked : goal.returns-then-not-crooked
returns-then-not-crooked c = record { settled = fault-right_angled _ (sym c.bad_figure.ensures ∙ c.if-bad_figure.false) (sym c.crooked.ensures ∙ not-true _ c.if-not-crooked.true-raw) }

pub slanted-requires : goal.slanted-requires
slanted-requires c = sym c.bad_figure.ensures ∙ c.if-bad_figure.false

pub returns-then-slanted : goal.returns-then-slanted
returns-then-slanted c = record { settled = fault_3 _ (sym c.bad_figure.ensures ∙ c.if-bad_figure.false) (sym c.slanted.ensures ∙ c.if-slanted.true) }

pub returns : goal.returns
returns c =
    record {
      settled = fault-unturned _
          (sym c.bad_figure.ensures ∙ c.if-bad_figure.false)
          (sym c.crooked.ensures ∙ not-false _ c.if-not-crooked.false-raw)
          (sym c.slanted.ensures ∙ c.if-slanted.false);
    }
