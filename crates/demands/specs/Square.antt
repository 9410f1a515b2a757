-- To believe: shots at the nanometre, what the four numbers of a shot say of a figure, unit square by unit square. Nothing here knows
-- of lines, cells or pieces. The figure F says of each unit square, from (x, y) to (x + 1, y + 1), whether it is inside.
--
--   prior f k                  == whether the square before the k-th of a row is inside; before the first there is none
--   exposed u v                == a stretch of 1 nm is exposed: the square within is inside (u), the one across is not (v)
--   left_of, right_of, bottom_of, top_of  == the exposed length of each side of a shot: how many of its stretches are exposed
--   shot_sliver F r s           == the sliver length of the shot s of the figure F by the rule r
--   shot_charge F r s           == its charge, in thousandths of a shot
use Rattle.std.specs.Prelude.{ℕ, zero, suc, ◌+◌, ◌-◌, Bool, false, not, ◌&&◌}
use Rattle.sum.specs.Sum.{only, over}
use Rattle.rule.specs.declared.Rule.{Rule}
use Rattle.rule.specs.Charge.{sliver_of, charge_of}
use Rattle.shot.specs.Shot.{Shot}

abbrev pub prior : (ℕ → Bool) → ℕ → Bool
prior f zero = false
prior f (suc k) = f k

unfoldable pub exposed : Bool → Bool → Bool
exposed u v = u && not v

module _ (F : ℕ → ℕ → Bool) where
  unfoldable pub left_of : Shot → ℕ
  left_of s = over s.ylow s.yhigh (λ y. only (exposed (F s.xlow y) (prior (λ x. F x y) s.xlow)) 1)

  unfoldable pub right_of : Shot → ℕ
  right_of s = over s.ylow s.yhigh (λ y. only (exposed (prior (λ x. F x y) s.xhigh) (F s.xhigh y)) 1)

  unfoldable pub bottom_of : Shot → ℕ
  bottom_of s = over s.xlow s.xhigh (λ x. only (exposed (F x s.ylow) (prior (F x) s.ylow)) 1)

  unfoldable pub top_of : Shot → ℕ
  top_of s = over s.xlow s.xhigh (λ x. only (exposed (prior (F x) s.yhigh) (F x s.yhigh)) 1)

  unfoldable pub shot_sliver : Rule → Shot → ℕ
  shot_sliver r s = sliver_of r (s.xhigh - s.xlow) (s.yhigh - s.ylow) (left_of s + right_of s) (bottom_of s + top_of s)

  unfoldable pub shot_charge : Rule → Shot → ℕ
  shot_charge r s = charge_of r (shot_sliver r s)
