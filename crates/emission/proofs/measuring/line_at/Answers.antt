-- `emission::measuring::line_at` meets its contract: by what a walk over the lines tells. Assumes nothing.
use Prim.Native.Nat.{ℕ}
use Rattle.std.specs.Prelude.{Option}
use mathlib.Core.Path.{◌≡◌, subst}
use borrow.Author.Rules.{rules}
use borrow.Author.Tests.{tests}
use Rattle.std.proofs.lemmas.Iterator.{IsFirst-from_position, YieldsList-from_slice}
use Rattle.emission.proofs.Measured.{Walked, line-walked}
use Rattle.emission.proofs.measuring.line_at.Goals as goal

pub returns : goal.returns
returns c =
    subst (λ (o : Option ℕ). Walked c.args.lines.now c.args.place.0 o) c.in_ok-at.was
    (line-walked c.args.lines.now c.args.place.0 c.position.result
    (IsFirst-from_position _ _ _ (λ x. x ≡ c.args.place.0) (λ x. x ≡ c.args.place.0 → ⊥) c.position.ensures.ran
    (YieldsList-from_slice c.args.lines.now c.iter.ensures.rest)
    (λ x q k. search (rules, tests))
    (λ x q k. search (rules, tests))))

pub returns-in_err-at : goal.returns-in_err-at
returns-in_err-at c =
    rw c.from_residual.ensures
    (subst (λ (o : Option ℕ). Walked c.args.lines.now c.args.place.0 o) c.in_err-at.was
    (line-walked c.args.lines.now c.args.place.0 c.position.result
    (IsFirst-from_position _ _ _ (λ x. x ≡ c.args.place.0) (λ x. x ≡ c.args.place.0 → ⊥) c.position.ensures.ran
    (YieldsList-from_slice c.args.lines.now c.iter.ensures.rest)
    (λ x q k. search (rules, tests))
    (λ x q k. search (rules, tests)))))
