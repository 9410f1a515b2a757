-- To believe: what a fracture goes by, and the recurrence, over any sort of piece and cut: straight cuts are one scheme, straight cuts
-- and pinwheels another.
--
--   Kind             == a piece has no inside cell, or only inside cells, or cells of both sorts
--   Scheme P K       == the kind of a piece, its charge as a shot, the cuts to weigh in tie order, and a cut's parts in list order
--   one_step S f p    == the right side of the recurrence, the shots of the parts being f's: none outside; the piece itself where it is
--                       full; else those of the parts of its cheapest cut, of equals the first
--   Solves S f       == the recurrence, the paper's equation (2); with pinwheels among the cuts (2) and (3): f gives the shots of every
--                       piece so
--   Ends S size      == each cut of a mixed piece makes it smaller, and each mixed piece has a cut: so the recurrence ends, and has one
--                       solution (`solution`, `solution_only`)
--   shots_by S n p    == that solution at the piece p, by n steps, which is more than the depth of cuts
use Rattle.std.specs.Prelude.{ℕ, zero, suc, ◌<◌, ◌≡◌, List, [], ◌∷◌, map}
use Rattle.sum.specs.Sum.{All, Some, join}
use Rattle.recurrence.specs.Choice.{cheapest}

pub data Kind : Type 0 where
  outside full mixed : Kind

pub record Scheme (P K : Type 0) : Type 0 where
  pub kind : P → Kind
  pub charge : P → ℕ
  pub cuts : P → List K
  pub parts : P → K → List P

module _ {P K : Type 0} (S : Scheme P K) where
  abbrev pub one_step : (P → List P) → P → List P
  one_step f p =
      elim (S.kind p) [
        | outside ↦ []
        | full ↦ p ∷ []
        | mixed ↦ cheapest S.charge (map (λ k. join f (S.parts p k)) (S.cuts p))
      ]

  abbrev pub Solves : (P → List P) → Type 0
  Solves f = (p : P) → f p ≡ one_step f p

  unfoldable pub shots_by : ℕ → P → List P
  shots_by zero p = []
  shots_by (suc n) p = one_step (shots_by n) p

pub record Ends {P K : Type 0} (S : Scheme P K) (size : P → ℕ) : Type 0 where
  pub smaller : (p : P) → S.kind p ≡ mixed → All (λ k. All (λ q. size q < size p) (S.parts p k)) (S.cuts p)
  pub some : (p : P) → S.kind p ≡ mixed → Some (S.cuts p)
