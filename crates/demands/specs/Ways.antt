-- To believe: any way to cut a figure into shots, at the nanometre. Nothing here knows of lines, cells, pieces or the recurrence. A cut is
-- that of piece/specs/Cuts.antt, its numbers being places in nm.
--
--   west_of, east_of s v     == the two parts of the rectangle s left and right of the place v
--   south_of, north_of s v   == the two parts of it below and above v
--   Whole F s              == every unit square of the rectangle s is inside the figure F
--   area a c b d           == the rectangle from a to c in x and from b to d in y
--   parts_of s k            == the parts of the rectangle s by the cut k, in list order: low and high; the five of a pinwheel as the paper's
--                             equation (3) has them
--   Between onX onY s j l k m
--                          == the places of a pinwheel of s: two strictly between the ends in x that onX allows, two in y that onY allows
--   Allowed s k            == the cut k is one of the mode: right across s, at a place in x that onX allows or one in y that onY allows; or, in
--                             the pinwheel mode, a pinwheel
--   Way mode F onX onY s   == a way to cut the rectangle s until no part is partly in the figure F and partly out: leave it where no unit
--                             square of it is inside; shoot it where all are; or, where it is not wholly inside, make an allowed cut and cut the
--                             parts in turn. What is wholly inside is kept whole
--   Ways                   == one for each rectangle of a list
--   shots_of, shots_among    == the shots of a way, part after part
--   total mode F onX onY r way
--                          == what they cost together: the sum of their charges
--   On a cs v              == v is the coordinate of a corner along the axis a
--   least_of, most_of l      == the least and the greatest number of a list
--   frame_of cs             == from the lowest coordinates of the corners to the highest
use Rattle.std.specs.Prelude.{ℕ, ◌<◌, min, max, ◌≡◌, Bool, true, false}
use mathlib.Core.List.{List, [], ◌∷◌, ◌++◌, map, Memᴰ as Member}
use Rattle.sum.specs.Sum.{sum_of}
use Rattle.figure.specs.declared.Axis.{Axis}
use Rattle.figure.specs.declared.Axis.TheVariants.{X, Y}
use Rattle.figure.specs.Corners.{Corner, coordinate}
use Rattle.rule.specs.declared.Rule.{Rule}
use Rattle.piece.specs.declared.Mode.{Mode}
use Rattle.piece.specs.declared.Mode.TheVariants.{Pinwheel}
use Rattle.piece.specs.declared.Turn.TheVariants.{First, Second}
use Rattle.piece.specs.Cuts.{Cut, vertical, horizontal, wheel}
use Rattle.shot.specs.Shot.{Shot, holds}
use Rattle.demands.specs.Square.{shot_charge}

abbrev pub west_of : Shot → ℕ → Shot
west_of s v = record { xlow = s.xlow; ylow = s.ylow; xhigh = v; yhigh = s.yhigh }

abbrev pub east_of : Shot → ℕ → Shot
east_of s v = record { xlow = v; ylow = s.ylow; xhigh = s.xhigh; yhigh = s.yhigh }

abbrev pub south_of : Shot → ℕ → Shot
south_of s v = record { xlow = s.xlow; ylow = s.ylow; xhigh = s.xhigh; yhigh = v }

abbrev pub north_of : Shot → ℕ → Shot
north_of s v = record { xlow = s.xlow; ylow = v; xhigh = s.xhigh; yhigh = s.yhigh }

abbrev pub Whole : (ℕ → ℕ → Bool) → Shot → Type 0
Whole F s = (x y : ℕ) → holds x y s ≡ true → F x y ≡ true

abbrev pub area : ℕ → ℕ → ℕ → ℕ → Shot
area a c b d = record { xlow = a; ylow = b; xhigh = c; yhigh = d }

unfoldable pub parts_of : Shot → Cut → List Shot
parts_of s (vertical v) = west_of s v ∷ east_of s v ∷ []
parts_of s (horizontal v) = south_of s v ∷ north_of s v ∷ []
parts_of s (wheel First j l k m) =
    area s.xlow l s.ylow k ∷ area l s.xhigh s.ylow m ∷ area s.xlow j k s.yhigh ∷ area j s.xhigh m s.yhigh
    ∷ area j l k m ∷ []
parts_of s (wheel Second j l k m) =
    area s.xlow j s.ylow m ∷ area j s.xhigh s.ylow k ∷ area s.xlow l m s.yhigh ∷ area l s.xhigh k s.yhigh
    ∷ area j l k m ∷ []

pub record Between (onX onY : ℕ → Type 0) (s : Shot) (j l k m : ℕ) : Type 0 where
  pub on_j : onX j
  pub on_l : onX l
  pub on_k : onY k
  pub on_m : onY m
  pub aj : s.xlow < j
  pub jl : j < l
  pub lc : l < s.xhigh
  pub bk : s.ylow < k
  pub km : k < m
  pub md : m < s.yhigh

module _ (mode : Mode) (F : ℕ → ℕ → Bool) (onX onY : ℕ → Type 0) where
  abbrev pub Allowed : Shot → Cut → Type 0
  Allowed s (vertical v) = onX v × (s.xlow < v) × (v < s.xhigh)
  Allowed s (horizontal v) = onY v × (s.ylow < v) × (v < s.yhigh)
  Allowed s (wheel t j l k m) = (mode ≡ Pinwheel) × Between onX onY s j l k m

  mutual
    pub data Way : Shot → Type 0 where
      leave : {s : Shot} → ((x y : ℕ) → holds x y s ≡ true → F x y ≡ false) → Way s
      shoot : {s : Shot} → Whole F s → Way s
      cut : {s : Shot} → (Whole F s → ⊥) → (k : Cut) → Allowed s k → Ways (parts_of s k) → Way s

    pub data Ways : List Shot → Type 0 where
      none : Ways []
      more : {s : Shot} {l : List Shot} → Way s → Ways l → Ways (s ∷ l)

  unfoldable mutual
    pub shots_of : {s : Shot} → Way s → List Shot
    shots_of (leave e) = []
    shots_of (shoot {s = s} e) = s ∷ []
    shots_of (cut m k a ways) = shots_among ways

    pub shots_among : {l : List Shot} → Ways l → List Shot
    shots_among none = []
    shots_among (more way ways) = shots_of way ++ shots_among ways

  unfoldable pub total : {s : Shot} → Rule → Way s → ℕ
  total r way = sum_of (shot_charge F r) (shots_of way)

abbrev pub On : Axis → List Corner → ℕ → Type 0
On a cs v = Member v (map (coordinate a) cs)

unfoldable pub least_of : List ℕ → ℕ
least_of [] = 0
least_of (v ∷ []) = v
least_of (v ∷ u ∷ l) = min v (least_of (u ∷ l))

unfoldable pub most_of : List ℕ → ℕ
most_of [] = 0
most_of (v ∷ l) = max v (most_of l)

unfoldable pub frame_of : List Corner → Shot
frame_of cs =
    record {
      xlow = least_of (map (coordinate X) cs);
      ylow = least_of (map (coordinate Y) cs);
      xhigh = most_of (map (coordinate X) cs);
      yhigh = most_of (map (coordinate Y) cs);
    }
