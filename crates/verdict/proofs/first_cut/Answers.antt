-- `verdict::first_cut` meets its contract: each exit by one law of Judged. Assumes nothing.
use Rattle.std.specs.Prelude.{None}
use mathlib.Core.Path.{◌≡◌, sym, subst}
use lib.ListN.{get_or}
use native.Mathlib.Omega.{arith}
use Rattle.verdict.specs.declared.Cuts.{Cuts}
use Rattle.verdict.specs.Search.{Weighable, NoCut, FoundAt}
use Rattle.verdict.proofs.Judged.{entry-within, weighable_x, weighable_y, made_vertical, made_horizontal}
use Rattle.verdict.proofs.first_cut.Goals as goal

pub offset_bounds-costs-p : goal.offset_bounds-costs-p
offset_bounds-costs-p c = omega (arith, entry-within _ _ _ _ _ _ c.requires.judgeable.costed c.args.p.piece c.args.p.entry c.requires.judgeable.known)

pub bounds-costs-p : goal.bounds-costs-p
bounds-costs-p c = entry-within _ _ _ _ _ _ c.requires.judgeable.costed c.args.p.piece c.args.p.entry c.requires.judgeable.known

pub first_line-requires : goal.first_line-requires
first_line-requires c =
    subst (λ (s : Cuts). Weighable c.args.costs.now s) (sym c.upright.ensures)
    (weighable_x _ _ _ _ _ _ c.requires.judgeable.costed c.args.p.piece c.args.p.entry c.requires.judgeable.known)

pub returns-in-Some : goal.returns-in-Some
returns-in-Some c mode g r cells f m =
    made_vertical mode g r _ _ _ f c.args.p.piece c.args.p.entry c.requires.judgeable.known c.in-Some.found
    (subst (λ (s : Cuts). FoundAt c.args.costs.now s (get_or c.args.costs.now c.args.p.entry 0) c.in-Some.found) c.upright.ensures c.in-Some.ensures)

pub first_line-requires-2 : goal.first_line-requires-2
first_line-requires-2 c =
    subst (λ (s : Cuts). Weighable c.args.costs.now s) (sym c.level.ensures)
    (weighable_y _ _ _ _ _ _ c.requires.judgeable.costed c.args.p.piece c.args.p.entry c.requires.judgeable.known)

pub returns : goal.returns
returns c mode g r cells f m =
    made_horizontal mode g r _ _ _ f c.args.p.piece c.args.p.entry c.requires.judgeable.known
    (subst (λ (s : Cuts). NoCut c.args.costs.now s (get_or c.args.costs.now c.args.p.entry 0)) c.upright.ensures c.in_default.ensures)
    c.in_ok-found.found
    (subst (λ (s : Cuts). FoundAt c.args.costs.now s (get_or c.args.costs.now c.args.p.entry 0) c.in_ok-found.found) c.level.ensures c.in_ok-found.ensures)

pub returns-in_err-found : goal.returns-in_err-found
returns-in_err-found c mode g r cells f m =
    let handed : c.from_residual.result ≡ None = grind arith in
    rw handed
    (record {
      upright = subst (λ (s : Cuts). NoCut c.args.costs.now s (get_or c.args.costs.now c.args.p.entry 0)) c.upright.ensures c.in_default.ensures;
      level = subst (λ (s : Cuts). NoCut c.args.costs.now s (get_or c.args.costs.now c.args.p.entry 0)) c.level.ensures c.in_err-found.ensures;
    })
