-- `put` meets its contract: what is put and what is still to be put give what the whole gives. Assumes nothing.
use Rattle.std.proofs.Common.{◌≡◌, ◌≤◌, ◌+◌, length}
use lib.ListN.{drop}
use Rattle.std.proofs.lemmas.List.Edits.{sets}
use Rattle.copying.proofs.put.Given as goal

abbrev pub invariant-loop-i : goal.invariant-loop-i
invariant-loop-i g l = (l.i ≤ length l.items) × (length l.out ≡ length l.initial.out) × (sets l.out (l.at + l.i) (drop l.i l.items) ≡ sets l.initial.out l.at l.items)
