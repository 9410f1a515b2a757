-- Inner: the pieces of one pair of y lines, of the strips side by side (nobody has to believe these).
-- A side store has, at 16 e + a, a number for the e-th piece, among the pairs of y lines, of the strip that begins at the x line a. The
-- sums of the strips are those of tally/specs/Sums.antt.
--
--   copied from at i         == the i-th number of a list from the place at on
--   added to from at i       == the same, added to the i-th number of another list
--   narrowed r wide to from at i
--                            == the same, only where the rule counts the flanks of a strip of the i-th width
--   Narrow r wide n flanks   == of n flanks those are 0 that the rule spares
--   spot rows a b d          == where the piece between the y lines b and d of the strip in lane a stands in a side store
--   parts_at side rows a b d k
--                            == what the side store has for its two parts together, cut at the line k
--   ends_at sums a b d        == its exposed bottom and top
--   Ruled r height cells low high sums wide count flanks best at lanes side made
--                            == made is the side store with, from the place at on, a cost for each of so many lanes, by what is counted
--                               and the least of its cuts, and with all else as it was
--   Settled r rows height cells low high sums wide count flanks lanes side made
--                            == the same for the pieces between the y lines low and high: the least is that of what the side store has
--                               for each, the least of its vertical cuts, and of its horizontal cuts
use Rattle.std.specs.Prelude.{ℕ, ◌+◌, ◌*◌, ◌-◌, ◌≤◌, ◌<◌, ◌≡◌, true, not, ◌⊎◌, List, length, get_or}
use Rattle.sum.specs.Sum.{only}
use Rattle.rule.specs.declared.Rule.{Rule}
use Rattle.rule.specs.Charge.{sliver_of, spared, charge_of}
use Rattle.table.specs.Entry.{pair_no}
use Rattle.table.specs.Run.{Wrote, Lowest}
use Rattle.table.specs.Cuts.{Judged}

unfoldable pub copied : List ℕ → ℕ → ℕ → ℕ
copied from at i = get_or from (at + i) 0

unfoldable pub added : List ℕ → List ℕ → ℕ → ℕ → ℕ
added to from at i = get_or to i 0 + get_or from (at + i) 0

unfoldable pub narrowed : Rule → List ℕ → List ℕ → List ℕ → ℕ → ℕ → ℕ
narrowed r wide to from at i = get_or to i 0 + only (not (spared r (get_or wide i 0))) (get_or from (at + i) 0)

pub record Narrow (r : Rule) (wide : List ℕ) (n : ℕ) (flanks : List ℕ) : Type 0 where
  pub none : (l : ℕ) → l < n → spared r (get_or wide l 0) ≡ true → get_or flanks l 0 ≡ 0

unfoldable pub spot : ℕ → ℕ → ℕ → ℕ → ℕ
spot rows a b d = 16 * pair_no rows b d + a

unfoldable pub parts_at : List ℕ → ℕ → ℕ → ℕ → ℕ → ℕ → ℕ
parts_at side rows a b d k = get_or side (spot rows a b k) 0 + get_or side (spot rows a k d) 0

unfoldable pub ends_at : List ℕ → ℕ → ℕ → ℕ → ℕ
ends_at sums a b d = get_or sums (256 + (16 * b + a)) 0 + get_or sums (512 + (16 * (d - 1) + a)) 0

pub record Ruled (r : Rule) (height cells low high : ℕ) (sums wide count flanks best : List ℕ) (at lanes : ℕ) (side made : List ℕ) : Type 0 where
  pub long : length made ≡ length side
  pub judged : (l : ℕ) → l < lanes
      → Judged (get_or count l 0) cells (charge_of r (sliver_of r (get_or wide l 0) height (get_or flanks l 0) (ends_at sums l low high))) (get_or best l 0)
      (get_or made (at + l) 0)
  pub kept : (k : ℕ) → (k < at) ⊎ (at + lanes ≤ k) → get_or made k 0 ≡ get_or side k 0

pub record Settled (r : Rule) (rows height cells low high : ℕ) (sums wide count flanks : List ℕ) (lanes : ℕ) (side made : List ℕ) : Type 0 where
  pub best : List ℕ
  pub least : (l : ℕ) → l < lanes
      → Lowest (parts_at side rows l low high) low high (get_or side (spot rows l low high) 0) (get_or best l 0)
  pub ruled : Ruled r height cells low high sums wide count flanks best (spot rows 0 low high) lanes side made

-- in enough lanes for n strips
pub record Enough (r : Rule) (rows height cells low high n : ℕ) (sums wide count count₂ flanks flanks₂ side made : List ℕ) : Type 0 where
  pub lanes : ℕ
  pub enough : n ≤ lanes
  pub most : lanes ≤ 16
  pub counted : Wrote (added count sums (16 * (high - 1))) 0 lanes count count₂
  pub flanked : Wrote (narrowed r wide flanks sums (768 + 16 * (high - 1))) 0 lanes flanks flanks₂
  pub settled : Settled r rows height cells low high sums wide count₂ flanks₂ lanes side made
