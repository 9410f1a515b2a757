-- `Cursor::number` meets its contract: each exit is a case of `number`. Assumes nothing.
use Prim.Native.Nat.{◌+◌}
use mathlib.Core.Path.{◌∙◌, ap}
use native.Mathlib.Omega.{arith}
use Rattle.number.specs.Reading.{read}
use Rattle.number.specs.Number.{read_told}
use Rattle.number.proofs.Number.{passed, number-none, number-one, number-ends-two, number_padded_two, number-two, number-ends-three, number-fourth, number_padded_three, number-three}
use Rattle.number.proofs.Cursor.number.Goals as goal

pub returns-in_err-a-clause-settled : goal.returns-in_err-a-clause-settled
returns-in_err-a-clause-settled c =
    let k = c.in_err-a.ensures.ends in passed read_told c.from_residual.ensures.1 (rw k.1 (number-none _ _ k.0))

pub returns-then-a-lt128-clause-settled : goal.returns-then-a-lt128-clause-settled
returns-then-a-lt128-clause-settled c =
    let a = c.in_ok-a.ensures.there in ap (λ v. read v (c.args.self.at + 1)) (c.from.ensures ∙ a.1) ∙ number-one _ _ a.0 (omega arith)

pub returns-in_err-b-clause-settled : goal.returns-in_err-b-clause-settled
returns-in_err-b-clause-settled c =
    let a = c.in_ok-a.ensures.there in
    let k = c.in_err-b.ensures.ends in
    passed read_told c.from_residual-in_err-b.ensures.1 (rw k.1 (number-ends-two _ _ a.0 (omega arith) k.0))

pub returns-then-b-eq0-clause-settled : goal.returns-then-b-eq0-clause-settled
returns-then-b-eq0-clause-settled c =
    let a = c.in_ok-a.ensures.there in
    let b = c.in_ok-b.ensures.there in
    rw c.at.ensures (number_padded_two _ _ a.0 (omega arith) b.0 (omega arith))

pub returns-then-b-lt128-clause-settled : goal.returns-then-b-lt128-clause-settled
returns-then-b-lt128-clause-settled c =
    let a = c.in_ok-a.ensures.there in
    let b = c.in_ok-b.ensures.there in
    number-two _ _ a.0 (omega arith) b.0 (omega arith) (omega arith) (omega arith)

pub returns-in_err-d-clause-settled : goal.returns-in_err-d-clause-settled
returns-in_err-d-clause-settled c =
    let a = c.in_ok-a.ensures.there in
    let b = c.in_ok-b.ensures.there in
    let k = c.in_err-d.ensures.ends in
    passed read_told c.from_residual-in_err-d.ensures.1 (rw k.1 (number-ends-three _ _ a.0 (omega arith) b.0 (omega arith) k.0))

pub returns-then-d-ge128-clause-settled : goal.returns-then-d-ge128-clause-settled
returns-then-d-ge128-clause-settled c =
    let a = c.in_ok-a.ensures.there in
    let b = c.in_ok-b.ensures.there in
    let d = c.in_ok-d.ensures.there in
    rw c.at-then-d-ge128.ensures (number-fourth _ _ a.0 (omega arith) b.0 (omega arith) d.0 (omega arith))

pub returns-then-d-eq0-clause-settled : goal.returns-then-d-eq0-clause-settled
returns-then-d-eq0-clause-settled c =
    let a = c.in_ok-a.ensures.there in
    let b = c.in_ok-b.ensures.there in
    let d = c.in_ok-d.ensures.there in
    rw c.at-then-d-eq0.ensures (number_padded_three _ _ a.0 (omega arith) b.0 (omega arith) d.0 (omega arith))

pub returns-else-d-eq0-clause-settled : goal.returns-else-d-eq0-clause-settled
returns-else-d-eq0-clause-settled c =
    let a = c.in_ok-a.ensures.there in
    let b = c.in_ok-b.ensures.there in
    let d = c.in_ok-d.ensures.there in
    number-three _ _ a.0 (omega arith) b.0 (omega arith) d.0 (omega arith) (omega arith) (omega arith)
