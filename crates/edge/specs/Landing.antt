-- To believe: where an edge ends up: the shot and side of each stretch of 1 nm, and the runs of stretches that end up alike.
--
--   low_side, high_side a  == the numbers of the sides: 1 left, 2 right, 3 bottom, 4 top
--   facing a F p k       == the side of the figure F that the stretch lies on: left or bottom where the square on its high side is inside
--                           and the one on its low side is not, right or top the other way round; 0 where it lies on none
--   shape s              == the shot s as a figure: the squares that it holds
--   first t l n          == the number of the first shot of l that passes the test t, the shots being numbered from n; 0 if none does
--   Landing              == a shot's number, from 1, or 0 for none; and a side, or 0 for none
--   shot_with c a l p k   == the number of the first shot of l that has the side c at the stretch, from 1; 0 if none does, or c is 0
--   landing a F l p k    == where the stretch ends up: on the first shot of l that it lies on the same side of as of the figure F
--   Run                  == a run of stretches: from, to, and where they end up
--   put k a l            == the stretch k, which ends up at a, before the runs l: with the first of them where that ends up alike
--   runs f k n           == the n stretches from k on, neighbours that end up alike being one run
--   edge_runs F l e       == the runs of the edge e, from its low end to its high end
use Rattle.std.specs.Prelude.{ℕ, zero, suc, ◌-◌, Bool, cond, ◌&&◌, List, [], ◌∷◌, eqb}
use Rattle.figure.specs.declared.Axis.{Axis}
use Rattle.figure.specs.declared.Axis.TheVariants.{X, Y}
use Rattle.figure.specs.Corners.{Corner, Link}
use Rattle.demands.specs.Square.{exposed}
use Rattle.shot.specs.Shot.{Shot, holds}
use Rattle.edge.specs.Edge.{across, stands_at, low, high, beneath, beyond}

-- left or bottom
abbrev pub low_side : Axis → ℕ
low_side X = 1
low_side Y = 3

-- right or top
abbrev pub high_side : Axis → ℕ
high_side X = 2
high_side Y = 4

unfoldable pub facing : Axis → (ℕ → ℕ → Bool) → ℕ → ℕ → ℕ
facing a F p k =
    cond (exposed (beyond a F p k) (beneath a F p k)) (low_side a)
    (cond (exposed (beneath a F p k) (beyond a F p k)) (high_side a)
    0)

unfoldable pub shape : Shot → ℕ → ℕ → Bool
shape s x y = holds x y s

unfoldable pub first : (Shot → Bool) → List Shot → ℕ → ℕ
first t [] n = 0
first t (s ∷ l) n = cond (t s) n (first t l (suc n))

pub record Landing : Type 0 where
  pub shot : ℕ
  pub side : ℕ

unfoldable pub shot_with : ℕ → Axis → List Shot → ℕ → ℕ → ℕ
shot_with c a l p k = cond (eqb c 0) 0 (first (λ s. eqb (facing a (shape s) p k) c) l 1)

unfoldable pub landing : Axis → (ℕ → ℕ → Bool) → List Shot → ℕ → ℕ → Landing
landing a F l p k = record { shot = shot_with (facing a F p k) a l p k; side = facing a F p k }

pub record Run : Type 0 where
  pub from : ℕ
  pub to : ℕ
  pub lands : Landing

unfoldable pub alike : Landing → Landing → Bool
alike a b = eqb a.shot b.shot && eqb a.side b.side

-- one stretch before the runs that begin where it ends
unfoldable pub put : ℕ → Landing → List Run → List Run
put k a [] = record { from = k; to = suc k; lands = a } ∷ []
put k a (r ∷ l) =
    cond (alike a r.lands) (record { from = k; to = r.to; lands = a } ∷ l)
    (record { from = k; to = suc k; lands = a } ∷ r ∷ l)

unfoldable pub runs : (ℕ → Landing) → ℕ → ℕ → List Run
runs f k zero = []
runs f k (suc n) = put k (f k) (runs f (suc k) n)

unfoldable pub edge_runs : (ℕ → ℕ → Bool) → List Shot → Link Corner → List Run
edge_runs F l e = runs (landing (across e) F l (stands_at e)) (low e) (high e - low e)
