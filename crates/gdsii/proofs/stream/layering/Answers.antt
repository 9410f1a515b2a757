-- `layering` meets its contract: LAYER, DATATYPE, the first fault deciding. Assumes nothing.
use Rattle.number.proofs.Number.{passed}
use Rattle.gdsii.specs.Steps.{past_told}
use Rattle.gdsii.proofs.Records.{layering-first, layering-second}
use Rattle.gdsii.proofs.stream.layering.Goals as goal

pub returns-in_err-next : goal.returns-in_err-next
returns-in_err-next c = passed past_told c.from_residual.ensures.1 (layering-first _ _ c.in_err-next.ensures)

pub returns : goal.returns
returns c = layering-second _ _ c.in_ok-next.ensures c.required-2.ensures
