-- `run` is safe: no more bytes are written than the buffer has. It ends with what saving tells, or with 2. Assumes nothing.
use mathlib.Core.Path.{sym, ap, ◌∙◌}
use mathlib.Core.Logic.{inr}
use lib.Seq.{length-take-le}
use Rattle.saving.specs.Salvage.{save_told}
use Rattle.saving.proofs.Settled.{told_held}
use Rattle.rescue.proofs.Status.{status-refused, ends-saved}
use Rattle.rescue.proofs.run.Goals as goal

pub slice_bounds-print-end : goal.slice_bounds-print-end
slice_bounds-print-end c = told_held _ _ _ (sym (ap (λ u. save_told u c.save.new.out) c.in-Ok.is) ∙ c.save.ensures.settled)

pub slice_bounds-print-end-in-Ok : goal.slice_bounds-print-end-in-Ok
slice_bounds-print-end-in-Ok c =
    sym (length-take-le _ _ (told_held _ _ _ (sym (ap (λ u. save_told u c.save.new.out) c.in-Ok.is) ∙ c.save.ensures.settled)))

pub returns-in-Err : goal.returns-in-Err
returns-in-Err c = inr (c.refuse.ensures ∙ status-refused _ _ _ c.save.result c.save.ensures.settled _ c.in-Err.is)

pub returns-then-ne : goal.returns-then-ne
returns-then-ne c = ends-saved _ _ _ c.save.result c.save.ensures.settled c.in-Ok.is c.is_whole.ensures c.ended-ends.ensures

pub returns-else-ne : goal.returns-else-ne
returns-else-ne c = ends-saved _ _ _ c.save.result c.save.ensures.settled c.in-Ok.is c.is_whole.ensures c.ended-ends.ensures
