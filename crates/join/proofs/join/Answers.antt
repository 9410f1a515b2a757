-- `join::join` meets its contract. Assumes nothing.
use Rattle.std.proofs.lemmas.Result.{err_from_is_err_and}
use Rattle.join.proofs.Calls.{fillable, pairable, pairs-fit}
use Rattle.join.proofs.Promised.{call_refused, call_joined}
use Rattle.join.proofs.join.Goals as goal

pub returns-in_err-n : goal.returns-in_err-n
returns-in_err-n c = let p = err_from_is_err_and c.from_residual.result c.from_residual.ensures.1 in rw (p.1, p.2) (record { settled = call_refused _ _ _ c.in_err-n.ensures })

pub fill-requires : goal.fill-requires
fill-requires c = fillable _ _ _ c.in_ok-n.ensures

pub pair-pairs-requires : goal.pair-pairs-requires
pair-pairs-requires c = pairable _ _ _ c.in_ok-n.ensures _ c.fill.ensures

pub overflow_sub-result : goal.overflow_sub-result
overflow_sub-result c = pairs-fit _ _ _ c.pair-pairs.ensures.0

pub returns : goal.returns
returns c = record { settled = call_joined _ _ _ c.in_ok-n.ensures _ _ _ c.fill.ensures c.pair-pairs.ensures }
