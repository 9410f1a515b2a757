-- To believe: the scope's refusal 21, a shot list whose length is no multiple of four, or a shot whose high x or y is not above its
-- low one.
--
--   shot_of a b c d == the shot of the four numbers x low, y low, x high, y high
--   empty s        == the high x or y of the shot s is not above its low one: it has no area
--   any_empty l     == some shot of l is empty
--   bad_shots l     == 21: the length of the list l is no multiple of four, or one of its shots is empty
use Rattle.std.specs.Prelude.{ℕ, ◌%◌, Bool, false, not, ◌||◌, List, [], ◌∷◌, leb, eqb, length}
use Rattle.shot.specs.Shot.{Shot, shots_in}

abbrev pub shot_of : ℕ → ℕ → ℕ → ℕ → Shot
shot_of a b c d = record { xlow = a; ylow = b; xhigh = c; yhigh = d }

unfoldable pub empty : Shot → Bool
empty s = leb s.xhigh s.xlow || leb s.yhigh s.ylow

unfoldable pub any_empty : List Shot → Bool
any_empty [] = false
any_empty (s ∷ l) = empty s || any_empty l

unfoldable pub bad_shots : List ℕ → Bool
bad_shots l = not (eqb (length l % 4) 0) || any_empty (shots_in l)
