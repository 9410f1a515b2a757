-- Laws of the vertical cuts of a strip. Assumes nothing.
--
--   At                 == where the two parts of the i-th piece stand, cut at the line j
--   at-start, at_more  == at the strip's first cut, and at the next
--   at_read            == what stands there, three pieces side by side
--   at_small           == these places are small numbers
--   lowest-end         == with all cuts weighed
use Prim.Native.Nat.{ℕ, ◌+◌, ◌*◌, ◌-◌, ◌≤◌, ◌<◌, ◌^◌}
use mathlib.Core.Path.{◌≡◌, ap, ap₂, subst}
use mathlib.Core.List.{List}
use native.Mathlib.Omega.{arith}
use native.Mathlib.Nat.{add-mul, mul_comm, mul-le-mul, one-mul}
use lib.Arith.{digits_lt}
use lib.ListN.{length, get_or}
use Rattle.table.specs.Entry.{pairs_below, pair_no}
use Rattle.table.specs.Run.{Lowest}
use Rattle.table.specs.Cuts.{parted}
use Rattle.table.proofs.Entry.{below_next, pair-below, count_most}
use Rattle.shallow.specs.declared.cuts.Strip.{Strip}
use Rattle.shallow.specs.Cuts.{Cuttable}

pub record At (columns pairs a c i j lower upper : ℕ) : Type 0 where
  pub above : a < j
  pub most : j ≤ c
  pub lower-at : lower ≡ pair_no columns a j * pairs + i
  pub upper-at : j < c → upper ≡ pair_no columns j c * pairs + i

-- the pairs of the next line
high-next : (columns j c : ℕ) → j + 1 < c → c ≤ columns → pair_no columns (j + 1) c ≡ pair_no columns j c + (columns - j - 1)
unfolding pair_no
high-next columns j c h k = omega (arith, below_next columns j)

low-next : (columns a j : ℕ) → a < j → pair_no columns a (j + 1) ≡ pair_no columns a j + 1
unfolding pair_no
low-next columns a j h = omega arith

pub low_first : (columns a : ℕ) → pair_no columns a (a + 1) ≡ pairs_below columns a
unfolding pair_no
low_first columns a = omega arith

low-whole : (columns a c : ℕ) → pairs_below columns a ≤ pair_no columns a c
unfolding pair_no
low-whole columns a c = omega arith

-- and their entries
high-entry : (columns pairs j c i : ℕ) → j + 1 < c → c ≤ columns
    → pair_no columns j c * pairs + i + pairs * (columns - j - 1) ≡ pair_no columns (j + 1) c * pairs + i
high-entry columns pairs j c i h k =
    omega (
      arith,
      ap (λ n. n * pairs) (high-next columns j c h k),
      add-mul (pair_no columns j c) (columns - j - 1) pairs,
      mul_comm (columns - j - 1) pairs,
    )

pub low-entry : (columns pairs a j i : ℕ) → a < j → pair_no columns a j * pairs + i + pairs ≡ pair_no columns a (j + 1) * pairs + i
low-entry columns pairs a j i h =
    omega (arith, ap (λ n. n * pairs) (low-next columns a j h), add-mul (pair_no columns a j) 1 pairs, one-mul pairs)

module _ (s : Strip) (t : List ℕ) (k : Cuttable s t) where
  pub at-start : (i : ℕ)
      → At s.columns s.pairs s.a.0 s.c.0 i (s.a.0 + 1) (s.first + i) (s.at + s.pairs * (s.columns - s.a.0 - 1) + i)
  at-start i =
      record {
        above = omega arith;
        most = omega (arith, k.ac);
        lower-at = omega (arith, k.first-is, ap (λ n. n * s.pairs) (low_first s.columns s.a.0));
        upper-at = λ q. omega (arith, k.at-is, high-entry s.columns s.pairs s.a.0 s.c.0 i q k.cx);
      }

  pair-most : (a c : ℕ) → a < c → c ≤ s.columns → pair_no s.columns a c ≤ 225
  pair-most a c h l = omega (arith, pair-below s.columns a c h l, count_most s.columns k.columns-most)

  row-most : (n : ℕ) → n ≤ 225 → n * s.pairs ≤ 50625
  row-most n h = mul-le-mul {n₁ = n} {m₁ = s.pairs} {n₂ = 225} {m₂ = 225} h k.pairs-most

  step_most : (j : ℕ) → s.pairs * (s.columns - j - 1) ≤ 3375
  step_most j = mul-le-mul {n₁ = s.pairs} {m₁ = s.columns - j - 1} {n₂ = 225} {m₂ = 15} k.pairs-most (omega (arith, k.columns-most))

  -- the first places, and what is added
  pub start_small : (s.first ≤ 50625) × ((s.at ≤ 50625) × (s.pairs * (s.columns - s.a.0 - 1) ≤ 3375))
  start_small =
      let here = pair-most s.a.0 s.c.0 k.ac k.cx in (
        omega (arith, k.first-is, row-most (pairs_below s.columns s.a.0) (omega (arith, here, low-whole s.columns s.a.0 s.c.0))),
        (omega (arith, k.at-is, row-most (pair_no s.columns s.a.0 s.c.0) here), step_most s.a.0),
      )

  module _ (i j lower upper : ℕ) (q : j < s.c.0) (w : At s.columns s.pairs s.a.0 s.c.0 i j lower upper) where
    pub at_more : At s.columns s.pairs s.a.0 s.c.0 i (j + 1) (lower + s.pairs) (upper + s.pairs * (s.columns - j - 1))
    at_more =
        record {
          above = omega (arith, w.above);
          most = omega arith;
          lower-at = omega (arith, w.lower-at, low-entry s.columns s.pairs s.a.0 j i w.above);
          upper-at = λ p. omega (arith, w.upper-at q, high-entry s.columns s.pairs j s.c.0 i p k.cx);
        }

    pub at_small : i < s.pairs → (lower ≤ 51000) × ((upper ≤ 51000) × (s.pairs * (s.columns - j - 1) ≤ 3375))
    at_small l = (
      omega (
        arith,
        w.lower-at,
        row-most (pair_no s.columns s.a.0 j) (pair-most s.a.0 j w.above (omega (arith, k.cx))),
        k.pairs-most,
      ),
      (
        omega (arith, w.upper-at q, row-most (pair_no s.columns j s.c.0) (pair-most j s.c.0 q k.cx), k.pairs-most),
        step_most j,
      ),
    )

    pub at_read : (n l u : ℕ) → n < s.pairs → l + i ≡ lower + n → u + i ≡ upper + n
        → (get_or t l 0 + get_or t u 0 ≡ parted t s.columns s.pairs s.a.0 s.c.0 n j)
        × ((l < length t) × ((u < length t) × (get_or t l 0 + get_or t u 0 < 2 ^ 32)))
    unfolding parted
    at_read n l u h el eu =
        let low : l ≡ pair_no s.columns s.a.0 j * s.pairs + n = omega (arith, w.lower-at) in
        let high : u ≡ pair_no s.columns j s.c.0 * s.pairs + n = omega (arith, w.upper-at q) in
        let e = ap₂ (λ x y. get_or t x 0 + get_or t y 0) low high in (
          e,
          (
            omega (arith, k.room, digits_lt {c = s.pairs} (pair-below s.columns s.a.0 j w.above (omega (arith, k.cx))) h),
            (
              omega (arith, k.room, digits_lt {c = s.pairs} (pair-below s.columns j s.c.0 q k.cx) h),
              omega (arith, e, k.fits j n w.above q h),
            ),
          ),
        )

pub lowest-end : (f : ℕ → ℕ) (a j c m r : ℕ) → j ≤ c → c ≤ j → Lowest f a j m r → Lowest f a c m r
lowest-end f a j c m r h k l = (let e : j ≡ c = omega arith in subst (λ n. Lowest f a n m r) e l)
