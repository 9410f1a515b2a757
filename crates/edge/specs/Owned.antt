-- To believe: exposed length, edge by edge. Edges may be drawn over each other; then the last drawn of them, in the order of the corners that they
-- leave, lies on top and has the stretch.
--
--   on_top a p k es       == none of the edges es, which come later, is drawn over the stretch
--   owned_by P e es       == how many stretches that have the property P the edge e has, where the edges es come later
--   owned P es           == how many the edges es have, each stretch being had by one edge
--   length_on n c F l es  == the length that they have on the side c of the shot number n of the list l
--   run_length a rs       == how long those of the runs rs are together that end up at a
use Rattle.std.specs.Prelude.{ℕ, ◌+◌, ◌-◌, Bool, not, ◌&&◌, List, [], ◌∷◌}
use Rattle.sum.specs.Sum.{only, over, sum_of}
use Rattle.figure.specs.declared.Axis.{Axis}
use Rattle.figure.specs.Corners.{Corner, Link, any}
use Rattle.shot.specs.Shot.{Shot}
use Rattle.edge.specs.Edge.{across, stands_at, low, high, drawn_over}
use Rattle.edge.specs.Landing.{Landing, Run, landing, alike}

unfoldable pub on_top : Axis → ℕ → ℕ → List (Link Corner) → Bool
on_top a p k es = not (any (drawn_over a p k) es)

abbrev pub owned_by : (Axis → ℕ → ℕ → Bool) → Link Corner → List (Link Corner) → ℕ
owned_by P e es = over (low e) (high e) (λ k. only (P (across e) (stands_at e) k && on_top (across e) (stands_at e) k es) 1)

unfoldable pub owned : (Axis → ℕ → ℕ → Bool) → List (Link Corner) → ℕ
owned P [] = 0
owned P (e ∷ es) = owned_by P e es + owned P es

unfoldable pub length_on : ℕ → ℕ → (ℕ → ℕ → Bool) → List Shot → List (Link Corner) → ℕ
length_on n c F l es = owned (λ a p k. alike (landing a F l p k) (record { shot = n; side = c })) es

unfoldable pub run_length : Landing → List Run → ℕ
run_length a rs = sum_of (λ r. only (alike r.lands a) (r.to - r.from)) rs
