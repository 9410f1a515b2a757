-- To believe: what a shot is charged (docs/SCOPE.md, "Pieces, slivers, cost"), from its two extents and the exposed lengths of its two pairs of sides.
--
--   longer w h u l       == of a shot of width w and height h, its left and right sides being exposed over u nm together, its bottom and top
--                           over l nm: the exposed length of its two longer sides; of a square the greater of both
--   sliver_of r w h u l   == the sliver length of such a shot under the rule r: that of its longer sides where its shorter extent is below the
--                           threshold
--   spared r e           == two opposite sides that lie e nm apart never count, whatever is exposed
--   charge_of r n         == the charge of a shot of sliver length n, in thousandths of a shot
use Rattle.std.specs.Prelude.{ℕ, ◌+◌, ◌*◌, min, max, Bool, cond, leb, ltb}
use Rattle.sum.specs.Sum.{only}
use Rattle.rule.specs.declared.Rule.{Rule}

unfoldable pub longer : ℕ → ℕ → ℕ → ℕ → ℕ
longer w h u l = cond (ltb w h) u (cond (ltb h w) l (max u l))

unfoldable pub sliver_of : Rule → ℕ → ℕ → ℕ → ℕ → ℕ
sliver_of r w h u l = only (ltb (min w h) r.threshold) (longer w h u l)

unfoldable pub spared : Rule → ℕ → Bool
spared r e = leb r.threshold e

unfoldable pub charge_of : Rule → ℕ → ℕ
charge_of r n = 1000 + r.weight * n
