-- `print_shots` goes over the numbers of its shots, which the list holds. Assumes nothing.
use borrow.Author.Rules.{rules}
use Rattle.preparation.proofs.lines.print_shots.Goals as goal

pub slice_bounds-listed-end : goal.slice_bounds-listed-end
slice_bounds-listed-end c = search rules
