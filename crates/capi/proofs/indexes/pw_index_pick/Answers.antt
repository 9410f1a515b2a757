-- `indexes::pw_index_pick` meets its contract: the outline that the entry points at, or what refuses it. Assumes nothing.
use native.Mathlib.Omega.{arith}
use mathlib.Core.Path.{refl}
use Rattle.index.proofs.Starts.{picked-within}
use Rattle.capi.proofs.Lent.{refused_lent}
use Rattle.capi.specs.Lent.{outline_lent}
use Rattle.capi.proofs.IndexLent.{pick_fault, pick_part}
use Rattle.capi.proofs.indexes.pw_index_pick.Goals as goal

pub overflow_sub-length : goal.overflow_sub-length
overflow_sub-length c = omega (arith, picked-within _ _ _ _ (c.in-Ok.ensures.settled))

pub returns-in-Err : goal.returns-in-Err
returns-in-Err c =
    record {
      settled = refused_lent (λ n p. outline_lent n 0 0 p) c.refuse.ensures.number c.refuse.ensures.place (pick_fault _ _ _ _ c.in-Err.ensures.settled refl);
    }

pub returns-in-Ok : goal.returns-in-Ok
returns-in-Ok c = record { settled = pick_part _ _ _ _ c.in-Ok.ensures.settled }
