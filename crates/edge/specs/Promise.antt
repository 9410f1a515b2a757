-- To believe: what asking for an edge promises, its answer and the lent buffer, for every input. The order is 2 to 5 by the figure, 21, 23,
-- 14.
--
--   EdgeSaid                   == what asking tells: the number of the refusal, 0 on success; how many runs; the buffer afterwards
--   run_numbers rs              == four numbers for each run: from, to, the shot's number, the side
--   unwalked n old             == refused by the number n: no run, and the buffer as it came in
--   handed rs old              == the runs at the front of the buffer, or 14 where it is too short for them
--   edge_walked f k shots old   == the runs of edge number k of the figure f by the list of shots, handed over in a buffer that held old
--   edge_told                   == the same for each case of an answer of the code, with the buffer afterwards
use Rattle.std.specs.Prelude.{ℕ, ◌*◌, cond, List, [], ◌∷◌, ltb, eqb, length, Result, Ok, Err}
use Rattle.sum.specs.Sum.{join}
use Rattle.refusal.specs.declared.Refusal.{Refusal}
use Rattle.refusal.specs.declared.Refusal.TheVariants as because
use Rattle.refusal.specs.Refusals.{refusal_no}
use Rattle.figure.specs.Figure.{Figure, corners_of}
use Rattle.figure.specs.Inside.{inside_at}
use Rattle.outline.specs.Promise.{refusal}
use Rattle.shot.specs.Shot.{shots_in}
use Rattle.shot.specs.Bad.{bad_shots}
use Rattle.demands.specs.Promise.{written}
use Rattle.edge.specs.Edge.{edge_at}
use Rattle.edge.specs.Landing.{Run, edge_runs}

pub record EdgeSaid : Type 0 where
  pub number : ℕ
  pub count : ℕ
  pub runs : List ℕ

abbrev pub four : Run → List ℕ
four r = r.from ∷ r.to ∷ r.lands.shot ∷ r.lands.side ∷ []

unfoldable pub run_numbers : List Run → List ℕ
run_numbers rs = join four rs

abbrev pub unwalked : ℕ → List ℕ → EdgeSaid
unwalked n old = record { number = n; count = 0; runs = old }

unfoldable pub handed : List Run → List ℕ → EdgeSaid
handed rs old =
    cond (ltb (length old) (4 * length rs)) (unwalked (refusal_no because.Room) old)
    (record { number = 0; count = length rs; runs = written (run_numbers rs) old })

unfoldable pub edge_walked : Figure → ℕ → List ℕ → List ℕ → EdgeSaid
edge_walked f k shots old =
    cond (eqb (refusal f) 0)
    (cond (bad_shots shots) (unwalked (refusal_no because.Shots) old)
    (cond (ltb k (length (corners_of f))) (handed (edge_runs (inside_at f) (shots_in shots) (edge_at f k)) old)
    (unwalked (refusal_no because.Edge) old)))
    (unwalked (refusal f) old)

abbrev pub edge_told : Result ℕ Refusal → List ℕ → EdgeSaid
edge_told (Ok n) runs = record { number = 0; count = n; runs = runs }
edge_told (Err why) runs = unwalked (refusal_no why) runs
