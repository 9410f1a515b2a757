-- `count::cuts` meets its contract. Assumes nothing.
use native.Mathlib.Omega.{arith}
use Rattle.count.proofs.Climbing.{cuts-rest}
use Rattle.count.proofs.cuts.Goals as goal

pub all_lines-all-requires : goal.all_lines-all-requires
all_lines-all-requires c = ((c.requires.shaded.columns-some, c.requires.shaded.columns-most), (c.requires.shaded.rows-some, c.requires.shaded.rows-most))

pub spared-twice-requires : goal.spared-twice-requires
spared-twice-requires c = (c.requires.shaded.cells-length, (c.requires.shaded.columns-most, c.requires.shaded.rows-most))

pub overflow_sub-result : goal.overflow_sub-result
overflow_sub-result c = omega (arith, c.all_lines-all.ensures, c.spared-twice.ensures, cuts-rest c.requires.grid _ _ _ c.requires.shaded)

pub returns : goal.returns
returns c g w = omega (arith, c.all_lines-all.ensures, c.spared-twice.ensures, cuts-rest g _ _ _ w)
