-- `write_header` meets its contract: each exit is a case of `header_written`. Assumes nothing.
use mathlib.Core.Path.{ap}
use native.Mathlib.Omega.{arith}
use lib.ListN.{length}
use lib.Seq.{length-sets}
use Rattle.number.proofs.Number.{passed}
use Rattle.rule.proofs.Rules.{rule-made, range_true}
use Rattle.job.specs.Calls.{write_told}
use Rattle.job.proofs.Writing.{header-rule, header-many, header-room, header-fits, header-put}
use Rattle.job.proofs.write.write_header.Goals as goal

pub returns-in_err-new : goal.returns-in_err-new
returns-in_err-new c =
    record { settled = passed (λ r. write_told r c.args.out.now) c.from_residual.ensures.1 (header-rule _ _ _ _ _ c.in_err-new.ensures.settled) }

pub returns-then-outlines-gt-MOST_OUTLINES : goal.returns-then-outlines-gt-MOST_OUTLINES
returns-then-outlines-gt-MOST_OUTLINES c =
    let made = rule-made _ _ c.in_ok-new.ensures.settled in record { settled = header-many _ _ _ _ made.0 (omega arith) }

pub returns-then-out-n : goal.returns-then-out-n
returns-then-out-n c =
    let made = rule-made _ _ c.in_ok-new.ensures.settled in
    record {
      settled = header-room _ _ _ _ made.0 c.size.ensures.0 c.size-2.ensures.0 c.size-3.ensures.0 (omega arith) (omega arith);
    }

pub put-a-requires : goal.put-a-requires
put-a-requires c = let made = rule-made _ _ c.in_ok-new.ensures.settled in omega (arith, range_true _ _ made.0)

pub put-b-requires : goal.put-b-requires
put-b-requires c =
    let made = rule-made _ _ c.in_ok-new.ensures.settled in
    omega (arith, range_true _ _ made.0, simp length-sets at (ap length c.put-a.ensures.1))

pub returns : goal.returns
returns c =
    let made = rule-made _ _ c.in_ok-new.ensures.settled in
    let put =
    header-put _ _ _ _ _ _ _ _ _ c.put-a.ensures.0 c.put-a.ensures.1 c.put-b.ensures.0 c.put-b.ensures.1 c.put.ensures.1
    in
    record {
      settled = header-fits _ _ _ _ made.0 c.size.ensures.0 c.size-2.ensures.0 c.size-3.ensures.0 (omega arith) _ put (omega arith);
    }
