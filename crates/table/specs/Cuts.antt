-- Inner: the cuts of a piece, as a fill weighs them (nobody has to believe these).
-- The pieces of one x pair stand side by side in the table, a row of `pairs` costs.
--
--   uncut                           == what stands for the least of no cuts: no cost is so high
--   parted t columns pairs a c i j  == what the table t has for the two parts of the i-th piece between the x lines a and c,
--                                      cut at the line j
--   Judged n m shot best v          == v is the cost of a piece with n inside cells of m: 0 outside, `shot` where it is full, else `best`
use Rattle.std.specs.Prelude.{ℕ, ◌+◌, ◌*◌, ◌<◌, ◌≡◌, List, get_or}
use Rattle.table.specs.Entry.{pair_no}

abbrev pub uncut : ℕ
uncut = 4294967295

unfoldable pub parted : List ℕ → ℕ → ℕ → ℕ → ℕ → ℕ → ℕ → ℕ
parted t columns pairs a c i j = get_or t (pair_no columns a j * pairs + i) 0 + get_or t (pair_no columns j c * pairs + i) 0

pub record Judged (n m shot best v : ℕ) : Type 0 where
  pub none : n ≡ 0 → v ≡ 0
  pub full : 0 < n → n ≡ m → v ≡ shot
  pub cut : 0 < n → (n ≡ m → ⊥) → v ≡ best
