-- `verdict::all_inside` meets its contract: by what a walk over the columns tells. Assumes nothing.
use borrow.Author.Rules.{rules}
use borrow.Author.Tests.{tests}
use mathlib.Core.Bool.{true, false}
use mathlib.Core.Path.{refl}
use Rattle.std.proofs.lemmas.Iterator.{cases_from_all, YieldsList-from_range}
use Rattle.verdict.specs.Search.{ColumnInside}
use Rattle.verdict.proofs.Search.{all-told}
use Rattle.verdict.proofs.all_inside.Goals as goal

pub returns : goal.returns
returns c =
    all-told c.args.cells.now c.args.p _
    (cases_from_all _ _ _
    (λ i. ColumnInside c.args.cells.now i c.args.p.b.0 c.args.p.d.0 true)
    (λ i. ColumnInside c.args.cells.now i c.args.p.b.0 c.args.p.d.0 false)
    c.all.ensures.ran
    (YieldsList-from_range c.args.p.a.0 c.args.p.c.0 _ refl refl)
    (λ x q k. search (rules, tests))
    (λ x q k. search (rules, tests)))
