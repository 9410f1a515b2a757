-- The worked table, computed: what the definitions say of L, of a frame with a window, of an outline that crosses itself and of lists that
-- are no fracture's, and the order of the refusals. This stands before all other laws, so that a slip in a definition is refused here.
-- Assumes nothing.
--
--   L, own, framed, crossed  == the drawing of "The job program" and its shots; a frame with a window; an outline that crosses itself
--   numbers f shots k    == the numbers of the runs of an edge
--   worked               == an edge on two shots, one drawn from its high end, the one that closes the ring; two of the window's ring; an edge
--                           with the figure now on its left and now on its right; the first of two shots that have the side; a shot that
--                           goes on across the edge; no shot at all
--   order                == 21 before 23, 23 before 14
--   thrice               == the square drawn three times, one ring behind the other
--   has f shots c k      == the length that edge k has on the side c of the first shot
--   last_has_it          == of each three edges drawn over each other the last has the length, here of the bottom and the left side
use Prim.Native.Nat.{ℕ, suc}
use mathlib.Core.Path.{◌≡◌, refl}
use mathlib.Core.List.{List, [], ◌∷◌}
use Rattle.sum.specs.Sum.{sum_of, over, join}
use Rattle.figure.specs.Corners.{corners, coordinate, last, steps, around, any, edges, threes, last_but_one, turns, changes, odd, both, neither, same, alike as bends, slanted, unturned, still, origin}
use Rattle.figure.specs.Figure.{Figure, figure, share, bad_length, bad_figure, fault}
use Rattle.figure.specs.Inside.{wall, walls, covers, count, within, inside_at}
use Rattle.outline.specs.Inside.{grid_of, grid, inside_cells, empty}
use Rattle.outline.specs.Lines.{insert, rising, lines, place}
use Rattle.outline.specs.Promise.{refusal}
use Rattle.shot.specs.Shot.{holds, shots_in}
use Rattle.shot.specs.Bad.{bad_shots, any_empty, empty as emptyShot}
use Rattle.demands.specs.Square.{exposed}
use lib.ListN.{drop}
use Rattle.edge.specs.Edge.{leaving, numbered, edge_at, across, stands_at, low_along, high_along, low, high, drawn_over, beneath, beyond}
use Rattle.edge.specs.Landing.{facing, shape, first, shot_with, landing, alike, put, runs, edge_runs}
use Rattle.edge.specs.Owned.{on_top, owned_by}
use Rattle.edge.specs.Promise.{run_numbers, handed, edge_walked}

abbrev L : Figure
L = figure (0 ∷ 0 ∷ 10 ∷ 0 ∷ 10 ∷ 2 ∷ 6 ∷ 2 ∷ 6 ∷ 8 ∷ 0 ∷ 8 ∷ []) (6 ∷ [])

abbrev own : List ℕ
own = 0 ∷ 0 ∷ 6 ∷ 8 ∷ 6 ∷ 0 ∷ 10 ∷ 2 ∷ []

abbrev framed : Figure
framed = figure (0 ∷ 0 ∷ 10 ∷ 0 ∷ 10 ∷ 10 ∷ 0 ∷ 10 ∷ 3 ∷ 3 ∷ 7 ∷ 3 ∷ 7 ∷ 7 ∷ 3 ∷ 7 ∷ []) (4 ∷ 4 ∷ [])

abbrev sides : List ℕ
sides = 0 ∷ 0 ∷ 3 ∷ 10 ∷ 3 ∷ 0 ∷ 7 ∷ 3 ∷ 3 ∷ 7 ∷ 7 ∷ 10 ∷ 7 ∷ 0 ∷ 10 ∷ 10 ∷ []

abbrev crossed : Figure
crossed = figure (0 ∷ 0 ∷ 10 ∷ 0 ∷ 10 ∷ 20 ∷ 20 ∷ 20 ∷ 20 ∷ 10 ∷ 0 ∷ 10 ∷ []) (6 ∷ [])

pub numbers : Figure → List ℕ → ℕ → List ℕ
numbers f shots k = run_numbers (edge_runs (inside_at f) (shots_in shots) (edge_at f k))

pub worked : (numbers L own 0 ≡ 0 ∷ 6 ∷ 1 ∷ 3 ∷ 6 ∷ 10 ∷ 2 ∷ 3 ∷ [])
    × (numbers L own 2 ≡ 6 ∷ 10 ∷ 2 ∷ 4 ∷ [])
    × (numbers L own 5 ≡ 0 ∷ 8 ∷ 1 ∷ 1 ∷ [])
    × (numbers framed sides 5 ≡ 3 ∷ 7 ∷ 4 ∷ 1 ∷ [])
    × (numbers framed sides 7 ≡ 3 ∷ 7 ∷ 1 ∷ 2 ∷ [])
    × (numbers crossed (0 ∷ 0 ∷ 10 ∷ 10 ∷ 10 ∷ 10 ∷ 20 ∷ 20 ∷ []) 1 ≡ 0 ∷ 10 ∷ 1 ∷ 2 ∷ 10 ∷ 20 ∷ 2 ∷ 1 ∷ [])
    × (numbers L (0 ∷ 0 ∷ 10 ∷ 8 ∷ 0 ∷ 0 ∷ 6 ∷ 8 ∷ []) 5 ≡ 0 ∷ 8 ∷ 1 ∷ 1 ∷ [])
    × (numbers L (0 ∷ 0 ∷ 10 ∷ 8 ∷ []) 3 ≡ 2 ∷ 8 ∷ 0 ∷ 2 ∷ [])
    × (numbers L [] 0 ≡ 0 ∷ 10 ∷ 0 ∷ 3 ∷ [])
unfolding numbers run_numbers join edge_runs runs put alike landing shot_with first shape facing exposed beneath beyond across stands_at low_along high_along low high edge_at numbered leaving steps still origin share corners coordinate changes inside_at within walls wall covers count odd sum_of edges around last holds shots_in
worked = (refl, refl, refl, refl, refl, refl, refl, refl, refl)

-- seven numbers of shots and an edge too many; an edge too many and no room; no room
pub order : ((edge_walked L 6 (0 ∷ 0 ∷ 6 ∷ 8 ∷ 6 ∷ 0 ∷ 10 ∷ []) []).number ≡ 21) × ((edge_walked L 6 own []).number ≡ 23)
    × ((edge_walked L 0 own (9 ∷ 9 ∷ 9 ∷ 9 ∷ 9 ∷ 9 ∷ 9 ∷ [])).number ≡ 14)
unfolding edge_walked handed refusal fault bad_figure bad_length slanted unturned any both neither same bends turns threes last_but_one grid grid_of inside_cells empty lines rising insert place over bad_shots any_empty emptyShot run_numbers join edge_runs runs put alike landing shot_with first shape facing exposed beneath beyond across stands_at low_along high_along low high edge_at numbered leaving steps still origin share corners coordinate changes inside_at within walls wall covers count odd sum_of edges around last holds shots_in
order = (refl, refl, refl)

abbrev thrice : Figure
thrice = figure (0 ∷ 0 ∷ 4 ∷ 0 ∷ 4 ∷ 4 ∷ 0 ∷ 4 ∷ 0 ∷ 0 ∷ 4 ∷ 0 ∷ 4 ∷ 4 ∷ 0 ∷ 4 ∷ 0 ∷ 0 ∷ 4 ∷ 0 ∷ 4 ∷ 4 ∷ 0 ∷ 4 ∷ []) (4 ∷ 4 ∷ 4 ∷ [])

pub has : Figure → List ℕ → ℕ → ℕ → ℕ
has f shots c k =
    owned_by (λ a p i. alike (landing a (inside_at f) (shots_in shots) p i) (record { shot = 1; side = c })) (edge_at f k) (drop (suc k) (numbered f))

pub last_has_it : (has thrice (0 ∷ 0 ∷ 4 ∷ 4 ∷ []) 3 0 ≡ 0) × (has thrice (0 ∷ 0 ∷ 4 ∷ 4 ∷ []) 3 4 ≡ 0)
    × (has thrice (0 ∷ 0 ∷ 4 ∷ 4 ∷ []) 3 8 ≡ 4)
    × (has thrice (0 ∷ 0 ∷ 4 ∷ 4 ∷ []) 1 3 ≡ 0)
    × (has thrice (0 ∷ 0 ∷ 4 ∷ 4 ∷ []) 1 7 ≡ 0)
    × (has thrice (0 ∷ 0 ∷ 4 ∷ 4 ∷ []) 1 11 ≡ 4)
unfolding has over on_top any drawn_over landing alike shot_with first shape facing exposed beneath beyond across stands_at low_along high_along low high edge_at numbered leaving steps still origin share corners coordinate changes inside_at within walls wall covers count odd sum_of join edges around last holds shots_in
last_has_it = (refl, refl, refl, refl, refl, refl)
