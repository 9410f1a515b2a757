-- `verdict::sort_of` meets its contract: each exit by one law of Judged. Assumes nothing.
use mathlib.Core.Path.{sym}
use native.Mathlib.Omega.{arith}
use Rattle.verdict.proofs.Search.{inside-said}
use Rattle.verdict.proofs.Judged.{entry-within, is-outside, is-full, is-mixed}
use Rattle.verdict.proofs.sort_of.Goals as goal

pub offset_bounds-costs-entry : goal.offset_bounds-costs-entry
offset_bounds-costs-entry c = omega (arith, entry-within _ _ _ _ _ _ c.requires.judgeable.costed c.args.p.piece c.args.p.entry c.requires.judgeable.known)

pub bounds-costs-entry : goal.bounds-costs-entry
bounds-costs-entry c = entry-within _ _ _ _ _ _ c.requires.judgeable.costed c.args.p.piece c.args.p.entry c.requires.judgeable.known

pub returns-then-cost-eq0 : goal.returns-then-cost-eq0
returns-then-cost-eq0 c mode g r plan f k = sym (is-outside mode g r _ _ _ f c.args.p.piece c.args.p.entry k c.if-cost-eq0.true)

pub returns-then-all_inside : goal.returns-then-all_inside
returns-then-all_inside c mode g r plan f k =
    sym
    (is-full mode g r _ _ _ f c.args.p.piece c.args.p.entry k
    (inside-said _ c.args.p.piece c.if-all_inside.true c.all_inside.ensures))

pub returns : goal.returns
returns c mode g r plan f k =
    sym
    (is-mixed mode g r _ _ _ f c.args.p.piece c.args.p.entry k c.if-cost-eq0.false
    (inside-said _ c.args.p.piece c.if-all_inside.false c.all_inside.ensures))
