-- `heading` meets its contract: BOUNDARY, ELFLAGS, PLEX, the first fault deciding. Assumes nothing.
use Rattle.number.proofs.Number.{passed}
use Rattle.gdsii.specs.Steps.{past_told}
use Rattle.gdsii.proofs.Records.{heading-first, heading-second, heading-third}
use Rattle.gdsii.proofs.stream.heading.Goals as goal

pub returns-in_err-flags : goal.returns-in_err-flags
returns-in_err-flags c = passed past_told c.from_residual.ensures.1 (heading-first _ c.in_err-flags.ensures)

pub returns-in_err-plex : goal.returns-in_err-plex
returns-in_err-plex c = passed past_told c.from_residual-in_err-plex.ensures.1 (heading-second _ c.in_ok-flags.ensures c.in_err-plex.ensures)

pub returns : goal.returns
returns c = heading-third _ c.in_ok-flags.ensures c.in_ok-plex.ensures c.optional-2.ensures
