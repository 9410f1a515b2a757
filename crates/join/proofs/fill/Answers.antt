-- `join::fill` meets its contract. Assumes nothing.
use mathlib.Core.Path.{refl}
use native.Mathlib.Omega.{arith}
use Rattle.join.specs.Steps.{filled}
use Rattle.join.proofs.Tables.{filled_more, filled-all}
use Rattle.join.proofs.fill.Goals as goal

pub loop-i-init : goal.loop-i-init
unfolding filled
loop-i-init c = refl

pub entry_of-requires : goal.entry_of-requires
entry_of-requires c = omega (arith, c.requires.numbers)

pub bounds-table-i : goal.bounds-table-i
bounds-table-i c = omega (arith, c.requires.room)

pub loop-i-preserved : goal.loop-i-preserved
loop-i-preserved c = filled_more _ _ _ _ _ c.loop-i.invariant c.entry_of.ensures

pub returns : goal.returns
returns c = filled-all _ _ _ _ _ c.loop-i.invariant (omega arith)
