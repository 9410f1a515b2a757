-- To believe: the same drawing, drawn otherwise or elsewhere (Item 14).
--
--   numbers_of r       == the numbers x, y, x, y, .. of the corners of a ring
--   of_rings rs        == the figure of these rings, as the calls take it
--   Redrawn rs qs     == qs are the rings rs: one starts at another corner, runs the other way, or they come in another order; any
--                        number of such changes, one after the other
--   moved dx dy c     == the corner c moved by dx to the right and by dy upwards
--   shifted dx dy rs  == the rings rs with each corner moved so
use Rattle.std.specs.Prelude.{ℕ, ◌+◌, List, [], ◌∷◌, ◌++◌, map, reverse, length}
use Rattle.sum.specs.Sum.{join}
use Rattle.figure.specs.Corners.{Corner}
use Rattle.figure.specs.Figure.{Figure, figure}

unfoldable pub numbers_of : List Corner → List ℕ
numbers_of r = join (λ c. c.x ∷ c.y ∷ []) r

unfoldable pub of_rings : List (List Corner) → Figure
of_rings rs = figure (join numbers_of rs) (map length rs)

pub data Redrawn : List (List Corner) → List (List Corner) → Type 0 where
  same : (rs : List (List Corner)) → Redrawn rs rs
  start : (c : Corner) (cs : List Corner) (rs : List (List Corner)) → Redrawn ((c ∷ cs) ∷ rs) ((cs ++ c ∷ []) ∷ rs)
  way : (cs : List Corner) (rs : List (List Corner)) → Redrawn (cs ∷ rs) (reverse cs ∷ rs)
  order : (a b : List Corner) (rs : List (List Corner)) → Redrawn (a ∷ b ∷ rs) (b ∷ a ∷ rs)
  under : (a : List Corner) {rs qs : List (List Corner)} → Redrawn rs qs → Redrawn (a ∷ rs) (a ∷ qs)
  then : {rs qs ps : List (List Corner)} → Redrawn rs qs → Redrawn qs ps → Redrawn rs ps

abbrev pub moved : ℕ → ℕ → Corner → Corner
moved dx dy c = record { x = c.x + dx; y = c.y + dy }

abbrev pub shifted : ℕ → ℕ → List (List Corner) → List (List Corner)
shifted dx dy rs = map (map (moved dx dy)) rs
