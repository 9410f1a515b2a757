-- `shares::growing::both` meets its contract. Assumes nothing.
use borrow.Author.Rules.{rules}
use Rattle.shares.specs.Shares.{wrap}
use Rattle.shares.proofs.growing.both.Goals as goal

pub returns : goal.returns
unfolding wrap
returns c = search rules
