-- To believe: what the four numbers of a shot say. Nothing here knows of lines, cells, pieces or figures.
--
--   Shot           == x low, y low, x high, y high, in nm
--   holds x y s    == the shot s holds the unit square from (x, y) to (x + 1, y + 1)
--   four s         == its four numbers, in this order
--   numbers l      == four numbers for each shot of l
--   shots_in l      == the shots of a list of numbers, four by four; fewer than four at its end are none
use Rattle.std.specs.Prelude.{ℕ, Bool, ◌&&◌, List, [], ◌∷◌, leb, ltb}
use Rattle.sum.specs.Sum.{join}

pub record Shot : Type 0 where
  pub xlow : ℕ
  pub ylow : ℕ
  pub xhigh : ℕ
  pub yhigh : ℕ

unfoldable pub holds : ℕ → ℕ → Shot → Bool
holds x y s = (leb s.xlow x && ltb x s.xhigh) && (leb s.ylow y && ltb y s.yhigh)

abbrev pub four : Shot → List ℕ
four s = s.xlow ∷ s.ylow ∷ s.xhigh ∷ s.yhigh ∷ []

unfoldable pub numbers : List Shot → List ℕ
numbers l = join four l

unfoldable pub shots_in : List ℕ → List Shot
shots_in [] = []
shots_in (a ∷ []) = []
shots_in (a ∷ b ∷ []) = []
shots_in (a ∷ b ∷ c ∷ []) = []
shots_in (a ∷ b ∷ c ∷ d ∷ l) = record { xlow = a; ylow = b; xhigh = c; yhigh = d } ∷ shots_in l
