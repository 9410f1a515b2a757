-- `lowered` meets its contract: the difference fits 64 bits, and then 32. Assumes nothing.
use mathlib.Core.Path.{◌∙◌, sym, subst, ap}
use lib.IntN.{ℤ, sub_ℕ}
use mir.Syntax.{w32, w64}
use mir.Val.{SFits, to_z, of_z}
use mir.ValLaws.{to_z-of_z}
use Rattle.gdsii.proofs.Shift.{low_narrow, low_wide, low-is, low-back}
use Rattle.gdsii.proofs.places.lowered.Goals as goal

pub overflow_sub-result : goal.overflow_sub-result
overflow_sub-result c =
    subst (SFits w64) (sym (low-is c.args.raised c.ranges.raised.fits))
    (low_wide c.args.raised c.ranges.raised.fits)

pub overflow_cast-result-2 : goal.overflow_cast-result-2
overflow_cast-result-2 c =
    subst (SFits w32) (sym (low-back c.args.raised c.ranges.raised.fits))
    (low_narrow c.args.raised c.ranges.raised.fits)

pub returns : goal.returns
returns c =
    ap (λ (z : ℤ). to_z w32 (of_z w32 z)) (low-back c.args.raised c.ranges.raised.fits) ∙ to_z-of_z w32
    (sub_ℕ c.args.raised 2147483648) (low_narrow c.args.raised c.ranges.raised.fits)
