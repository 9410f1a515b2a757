-- `pw_job_outline` meets its contract: the job's fault, or 13, or the place that `locate` finds, which is outline k's. Assumes nothing.
use mathlib.Core.Path.{refl}
use native.Mathlib.Omega.{arith}
use Rattle.job.proofs.Calls.{located-within, taken_never}
use Rattle.capi.specs.Lent.{outline_lent}
use Rattle.capi.proofs.Lent.{refused_lent, outline-fault, outline_missing, outline-part}
use Rattle.capi.proofs.pw_job_outline.Goals as goal

pub returns-in-Err : goal.returns-in-Err
returns-in-Err c =
    record {
      settled = refused_lent (λ n p. outline_lent n 0 0 p) c.refuse.ensures.number c.refuse.ensures.place (outline-fault _ _ c.in-Err.ensures refl);
    }

pub returns-then-header-k : goal.returns-then-header-k
returns-then-header-k c = record { settled = outline_missing _ _ c.in-Ok.ensures (omega arith) c.from.ensures }

pub returns-in-Err-locate : goal.returns-in-Err-locate
returns-in-Err-locate c = record { settled = absurd (taken_never _ _ c.in-Ok.ensures (omega arith) c.in-Err-locate.ensures) }

pub overflow_sub-length : goal.overflow_sub-length
overflow_sub-length c = omega (arith, located-within _ _ _ c.in-Ok-locate.ensures)

pub returns-in-Ok-locate : goal.returns-in-Ok-locate
returns-in-Ok-locate c = record { settled = outline-part _ _ c.in-Ok.ensures (omega arith) c.in-Ok-locate.ensures }
