-- Inner: the pieces between two y lines, in eight lanes from the lane g on (nobody has to believe these).
-- The sums of strips stand as tally/specs/Sums.antt says.
--
--   ends_at sums a b d    == the bottom and the top of the piece between the y lines b and d of the strip in lane a together
--   sliver_at t height wide flanks sums low high g l
--                        == the sliver length of such a piece in the lane g + l, t being the threshold: its flanks, or where it is low, its
--                           longer sides
--   Ruled price cells count sliver best at store made
--                        == made is the store with, from the place at on, a cost for each of eight lanes, by what is counted and the least
--                           of its cuts, and with all else as it was
--   RuledLevel level height cells t price sums wide count flanks best g store made
--                        == the same for the pieces of a level
--   Settled level height cells t price sums wide count flanks g store made
--                        == the same, the least being that of what the store has for each, the least of its vertical cuts, and of its
--                           horizontal cuts
use Rattle.std.specs.Prelude.{ℕ, ◌+◌, ◌*◌, ◌-◌, ◌≤◌, ◌<◌, ◌≡◌, cond, ◌⊎◌, List, leb, length, get_or}
use Rattle.rule.specs.Charge.{longer}
use Rattle.table.specs.Entry.{pair_no}
use Rattle.table.specs.Run.{Lowest}
use Rattle.table.specs.Cuts.{Judged}
use Rattle.shares.specs.Shares.{wrap}
use Rattle.eights.specs.declared.cuts.Level.{Level}
use Rattle.eights.specs.Store.{place_of, stacked}

unfoldable pub ends_at : List ℕ → ℕ → ℕ → ℕ → ℕ
ends_at sums a b d = wrap (get_or sums (256 + (16 * b + a)) 0) (get_or sums (512 + (16 * (d - 1) + a)) 0)

unfoldable pub sliver_at : ℕ → ℕ → List ℕ → List ℕ → List ℕ → ℕ → ℕ → ℕ → ℕ → ℕ
sliver_at t height wide flanks sums low high g l =
    cond (leb t height) (get_or flanks l 0) (longer (get_or wide (g + l) 0) height (get_or flanks l 0) (ends_at sums (g + l) low high))

pub record Ruled (price cells : ℕ) (count sliver best : List ℕ) (at : ℕ) (store made : List ℕ) : Type 0 where
  pub long : length made ≡ length store
  pub judged : (l : ℕ) → l < 8 → Judged (get_or count l 0) cells (wrap price (get_or sliver l 0)) (get_or best l 0) (get_or made (at + l) 0)
  pub kept : (k : ℕ) → (k < at) ⊎ (at + 8 ≤ k) → get_or made k 0 ≡ get_or store k 0

pub record RuledLevel (level : Level) (height cells t price : ℕ) (sums wide count flanks best : List ℕ) (g : ℕ) (store made : List ℕ) : Type 0 where
  pub long : length made ≡ length store
  pub judged : (l : ℕ) → l < 8
      → Judged (get_or count l 0) cells (wrap price (sliver_at t height wide flanks sums level.low level.high g l)) (get_or best l 0)
      (get_or made (place_of level.pairs level.width (pair_no level.rows level.low level.high) (g + l)) 0)
  pub kept : (k : ℕ) → ((l : ℕ) → l < 8 → k ≡ place_of level.pairs level.width (pair_no level.rows level.low level.high) (g + l) → ⊥)
      → get_or made k 0 ≡ get_or store k 0

pub record Settled (level : Level) (height cells t price : ℕ) (sums wide count flanks : List ℕ) (g : ℕ) (store made : List ℕ) : Type 0 where
  pub best : List ℕ
  pub least : (l : ℕ) → l < 8
      → Lowest (stacked store level.rows level.pairs level.width level.low level.high (g + l)) level.low level.high
      (get_or store (place_of level.pairs level.width (pair_no level.rows level.low level.high) (g + l)) 0) (get_or best l 0)
  pub ruled : RuledLevel level height cells t price sums wide count flanks best g store made
