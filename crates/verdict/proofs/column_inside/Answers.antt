-- `verdict::column_inside` meets its contract: by what a walk over the column tells. Assumes nothing.
use borrow.Author.Rules.{rules}
use borrow.Author.Tests.{tests}
use mathlib.Core.Path.{◌≡◌}
use Rattle.std.proofs.lemmas.Iterator.{cases_from_all, YieldsList-from_slice}
use Rattle.verdict.proofs.Search.{column, column-told}
use Rattle.verdict.proofs.column_inside.Goals as goal

pub returns : goal.returns
returns c =
    column-told c.args.cells.now c.args.i c.args.b.0 c.args.d.0 c.requires.0 c.requires.1 _
    (cases_from_all _ _ _ (λ x. x ≡ 1) (λ x. x ≡ 1 → ⊥) c.all.ensures.ran
    (YieldsList-from_slice (column c.args.cells.now c.args.i c.args.b.0 c.args.d.0) c.iter.ensures.rest)
    (λ x q k. search (rules, tests))
    (λ x q k. search (rules, tests)))
