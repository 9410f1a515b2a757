-- `note` meets its contract: those read so far are read in a row, and their starts are stored. Assumes nothing.
use mathlib.Core.Path.{refl}
use native.Mathlib.Omega.{arith}
use lib.ListN.{length-take}
use Rattle.number.proofs.Number.{passed}
use Rattle.job.specs.Steps.{past_told}
use Rattle.index.proofs.Starts.{noting_start, noting_more, noting_fault, noting_done, here-within}
use Rattle.index.proofs.noting.note.Goals as goal

pub loop-start-init : goal.loop-start-init
loop-start-init c = noting_start _ _ _

pub returns-in_err-part : goal.returns-in_err-part
returns-in_err-part c =
    let size = length-take c.args.count c.args.starts.now in
    let stop = noting_fault _ _ _ _ _ _ c.loop-start.invariant _ c.in_err-part.ensures (omega arith) _ _ in
    record { result_value = passed past_told c.from_residual.ensures.1 stop.0; noted = stop.1 }

pub overflow_cast-start : goal.overflow_cast-start
overflow_cast-start c = omega (arith, here-within _ _ c.in_ok-part.ensures)

pub loop-start-preserved : goal.loop-start-preserved
loop-start-preserved c = noting_more _ _ _ _ _ _ c.loop-start.invariant c.in_ok-part.ensures

pub returns : goal.returns
returns c =
    let size = length-take c.args.count c.args.starts.now in
    let done = noting_done _ _ _ _ _ _ c.loop-start.invariant _ (omega arith) (omega arith) c.args.starts.now refl (omega arith) in
    record { result_value = done.0; noted = done.1 }
