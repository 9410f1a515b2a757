-- `verdict::halves` meets its contract: by straight cuts alone there always is a cut. Assumes nothing.
use mathlib.Core.Path.{refl}
use Rattle.piece.specs.declared.Mode.TheVariants.{Straight}
use Rattle.verdict.proofs.Search.{some-of, some-said}
use Rattle.verdict.proofs.Judged.{cut_straight}
use Rattle.verdict.proofs.halves.Goals as goal

pub first_cut-requires : goal.first_cut-requires
first_cut-requires c = record { mode = Straight; cells = c.requires.cells; judgeable = c.requires.judgeable }

pub unwrap-requires : goal.unwrap-requires
unwrap-requires c =
    some-of _ _ (λ u. cut_straight Straight _ _ _ _ _ c.requires.judgeable.costed c.args.p.piece c.args.p.entry c.requires.judgeable.known u refl c.requires.mixed)
    (c.first_cut.ensures Straight _ _ _ c.requires.judgeable.costed c.requires.mixed)

pub returns : goal.returns
returns c g r cells f m = some-said _ _ _ _ c.unwrap.ensures (c.first_cut.ensures Straight g r cells f m)
