-- `is` meets its contract: type, data type and length, one test after the other. Assumes nothing.
use Rattle.gdsii.proofs.Records.{is_type, is_form, is_last}
use Rattle.gdsii.proofs.stream.is.Goals as goal

pub returns-then-of_form : goal.returns-then-of_form
returns-then-of_form c =
    is_last _ _ _ _ _ c.has_type-of_type.ensures c.if-of_type.true c.if-of_form.true-raw _
    c.size_at.ensures

pub returns-else-of_form : goal.returns-else-of_form
returns-else-of_form c = is_form _ _ _ _ _ c.has_type-of_type.ensures c.if-of_type.true c.if-of_form.false-raw

pub returns-else-of_type : goal.returns-else-of_type
returns-else-of_type c = is_type _ _ _ _ _ c.has_type-of_type.ensures c.if-of_type.false
