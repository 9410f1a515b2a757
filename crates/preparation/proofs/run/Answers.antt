-- `run` ends with the job's status, or with 2: either sort of opening decides it. Assumes nothing.
use mathlib.Core.Path.{sym, ap, subst, ◌∙◌}
use Rattle.job.specs.Calls.{check_told}
use Rattle.preparation.specs.Outlines.{Indexed}
use Rattle.preparation.proofs.Status.{ends-refused, ends-accepted}
use Rattle.preparation.proofs.run.Goals as goal

pub run_outlines-ran-requires : goal.run_outlines-ran-requires
run_outlines-ran-requires c =
    record {
      admitted = record {
        sound = sym c.begin.ensures.0 ∙ ap check_told c.in-Ok.is;
        entries = subst (λ r. Indexed r c.args.job.now c.begin.new.index) c.in-Ok.is c.begin.ensures.1;
      };
      in_bounds = c.requires;
    }

pub returns-in-Err : goal.returns-in-Err
returns-in-Err c = ends-refused _ c.in-Err.fault.why _ _ (sym (ap check_told c.in-Err.is) ∙ c.begin.ensures.0) c.ended-in-Err.ensures

pub returns-in-Ok : goal.returns-in-Ok
returns-in-Ok c = ends-accepted _ c.in-Ok.header _ _ (sym c.begin.ensures.0 ∙ ap check_told c.in-Ok.is) c.run_outlines-ran.ensures.fact c.ended.ensures
