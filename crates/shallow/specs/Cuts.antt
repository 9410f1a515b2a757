-- Inner: the vertical cuts of a strip (nobody has to believe these).
--
--   Cuttable s t        == the strip s stands so in the table t, and what t has for the two parts of each of its cuts can be added
--   LeastThree t s i r  == r has the least of the vertical cuts of the three pieces of the strip s from the i-th on, by the table t
--                          (`uncut` where there is none)
use Rattle.std.specs.Prelude.{ℕ, ◌+◌, ◌*◌, ◌≤◌, ◌<◌, ◌^◌, ◌≡◌, List, length}
use Rattle.table.specs.Entry.{pairs_below, pair_count, pair_no}
use Rattle.table.specs.Run.{Lowest}
use Rattle.table.specs.Cuts.{uncut}
use Rattle.table.specs.Cuts.{parted}
use Rattle.shallow.specs.declared.cuts.Strip.{Strip}
use Rattle.shallow.specs.declared.cuts.Three.{Three}

pub record Cuttable (s : Strip) (t : List ℕ) : Type 0 where
  pub columns-most : s.columns ≤ 15
  pub pairs-most : s.pairs ≤ 225
  pub ac : s.a.0 < s.c.0
  pub cx : s.c.0 ≤ s.columns
  pub first-is : s.first ≡ pairs_below s.columns s.a.0 * s.pairs
  pub at-is : s.at ≡ pair_no s.columns s.a.0 s.c.0 * s.pairs
  pub room : pair_count s.columns * s.pairs ≤ length t
  pub fits : (j i : ℕ) → s.a.0 < j → j < s.c.0 → i < s.pairs → parted t s.columns s.pairs s.a.0 s.c.0 i j < 2 ^ 32

pub record LeastThree (t : List ℕ) (s : Strip) (i : ℕ) (r : Three) : Type 0 where
  pub first : Lowest (parted t s.columns s.pairs s.a.0 s.c.0 i) s.a.0 s.c.0 uncut r.first
  pub second : Lowest (parted t s.columns s.pairs s.a.0 s.c.0 (i + 1)) s.a.0 s.c.0 uncut r.second
  pub third : Lowest (parted t s.columns s.pairs s.a.0 s.c.0 (i + 2)) s.a.0 s.c.0 uncut r.third
