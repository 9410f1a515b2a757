-- One drawing and another of it, and a figure at fault, written out in numbers. Assumes nothing.
--
--   window_slanted_lem  == a frame whose window has a slanted edge is refused by 3, whichever ring comes first
--   frame_redrawn   == a frame of 60 nm with a window of 20 nm, and the same with the window first, its corners the other way round, and
--                      the frame from its second corner on: the two lists of numbers, and that the second is `Redrawn` of the first
use Prim.Native.Nat.{ℕ}
use mathlib.Core.Path.{◌≡◌, refl}
use mathlib.Core.List.{List, [], ◌∷◌}
use Rattle.sum.specs.Sum.{join, sum_of}
use Rattle.figure.specs.Corners.{Corner, any, slanted, edges, around, corners, steps, both, changes, coordinate, last}
use Rattle.figure.specs.Figure.{figure, fault, bad_figure, bad_length, share}
use Rattle.figure.specs.Redrawn.{numbers_of, of_rings, Redrawn, start, way, order, under, then}

abbrev corner : ℕ → ℕ → Corner
corner a b = record { x = a; y = b }

abbrev frame : List Corner
frame = corner 0 0 ∷ corner 60 0 ∷ corner 60 60 ∷ corner 0 60 ∷ []

abbrev window : List Corner
window = corner 20 20 ∷ corner 40 20 ∷ corner 40 40 ∷ corner 20 40 ∷ []

abbrev frame_later : List Corner
frame_later = corner 60 0 ∷ corner 60 60 ∷ corner 0 60 ∷ corner 0 0 ∷ []

abbrev window_back : List Corner
window_back = corner 20 40 ∷ corner 40 40 ∷ corner 40 20 ∷ corner 20 20 ∷ []

pub frame_redrawn : (of_rings (frame ∷ window ∷ []) ≡ figure (0 ∷ 0 ∷ 60 ∷ 0 ∷ 60 ∷ 60 ∷ 0 ∷ 60 ∷ 20 ∷ 20 ∷ 40 ∷ 20 ∷ 40 ∷ 40 ∷ 20 ∷ 40 ∷ []) (4 ∷ 4 ∷ []))
    × (of_rings (window_back ∷ frame_later ∷ []) ≡ figure (20 ∷ 40 ∷ 40 ∷ 40 ∷ 40 ∷ 20 ∷ 20 ∷ 20 ∷ 60 ∷ 0 ∷ 60 ∷ 60 ∷ 0 ∷ 60 ∷ 0 ∷ 0 ∷ []) (4 ∷ 4 ∷ []))
    × Redrawn (frame ∷ window ∷ []) (window_back ∷ frame_later ∷ [])
unfolding of_rings numbers_of join
frame_redrawn =
    (refl, refl, then (order frame window []) (then (way window (frame ∷ [])) (under window_back (start (corner 0 0) (corner 60 0 ∷ corner 60 60 ∷ corner 0 60 ∷ []) []))))

abbrev window_slanted : List Corner
window_slanted = corner 20 20 ∷ corner 40 20 ∷ corner 40 40 ∷ corner 20 30 ∷ []

pub window_slanted_lem : (fault (of_rings (frame ∷ window_slanted ∷ [])) ≡ 3) × (fault (of_rings (window_slanted ∷ frame ∷ [])) ≡ 3)
unfolding fault of_rings numbers_of join bad_figure any bad_length sum_of share slanted edges around corners steps both changes coordinate last
window_slanted_lem = (refl, refl)
