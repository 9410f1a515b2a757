-- `short::fill_in` meets its contract. Assumes nothing.
use native.Mathlib.Omega.{arith}
use lib.ListN.{length-replicate}
use Rattle.short.proofs.fill_in.Goals as goal

pub whole_as_slice-fill_widths : goal.whole_as_slice-fill_widths
whole_as_slice-fill_widths g c = omega (arith, c.requires.rows_bound.1)

pub fill_widths-requires : goal.fill_widths-requires
fill_widths-requires g c = record { by_index = c.requires.by_index; rows_in_bounds = rw length-replicate c.requires.rows_bound.0 }

pub returns : goal.returns
returns g c = c.fill_widths.ensures
