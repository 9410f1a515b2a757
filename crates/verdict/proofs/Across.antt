-- Laws of the two parts of a cut in the table, as the line of the cut moves on.
--
--   At s j l u     == l and u are the entries of the two parts of the cut j: between (low, j) and (j, high)
--   strides        : so many strides on
--   entry-within   : the piece's own entry is the table's
--   lower-first    : the first line is no further than the piece's entry
--   at_first, at_next          : the first line, and the next one
--   upper-at                   : the entry of the high part
--   lower-within, upper-within : both entries are the table's
--   stride_few     : what the code multiplies is small
--   across-at      : what they have together
--   across-small   : and that is a number
-- Assumes nothing.
use Prim.Native.Nat.{ℕ, ◌+◌, ◌*◌, ◌-◌, ◌≤◌, ◌<◌, ◌^◌}
use mathlib.Core.Path.{◌≡◌, ap, ap₂, sym, ◌∙◌, subst}
use mathlib.Core.List.{List}
use native.Mathlib.Omega.{arith}
use native.Mathlib.Nat.{mul-add, mul-one, mul-le-mul}
use lib.ListN.{length, get_or}
use Rattle.table.specs.Entry.{pairs_below, pair_no}
use Rattle.table.proofs.Entry.{below_next}
use Rattle.verdict.specs.Search.{base_of, part_entry, across, Weighable}
use Rattle.verdict.specs.declared.Cuts.{Cuts}

pub record At (s : Cuts) (j l u : ℕ) : Type 0 where
  pub above : s.low.0 < j
  pub lower : l ≡ part_entry s s.low.0 j
  pub upper : u + s.stride ≡ base_of s + s.stride * (pairs_below s.last j + (s.high.0 - j))

-- n is m and k, so n strides are m strides and k strides
strides : (m n k d : ℕ) → n ≡ m + k → d * n ≡ d * m + d * k
strides m n k d e = ap (λ i. d * i) e ∙ mul-add d m k

module _ (t : List ℕ) (s : Cuts) (w : Weighable t s) where
  pub entry-within : s.entry < length t
  entry-within = subst (λ n. n < length t) (sym w.here) (w.within s.low.0 s.high.0 w.ordered w.some)

  pub stride_few : (m n : ℕ) → m ≤ 15 → s.stride * (m - n) ≤ 3375
  stride_few m n h = mul-le-mul {n₁ = s.stride} {m₁ = m - n} {n₂ = 225} {m₂ = 15} w.short (omega arith)

  first : part_entry s s.low.0 (s.low.0 + 1) + s.stride * (s.high.0 - (s.low.0 + 1)) ≡ s.entry
  unfolding part_entry pair_no
  first =
      omega (
        arith,
        w.here,
        strides (pair_no s.last s.low.0 (s.low.0 + 1)) (pair_no s.last s.low.0 s.high.0) (s.high.0 - (s.low.0 + 1)) s.stride
            (omega (arith, w.ordered)),
      )

  pub lower-first : s.stride * (s.high.0 - (s.low.0 + 1)) ≤ s.entry
  lower-first = omega (arith, first)

  pub at_first : At s (s.low.0 + 1) (s.entry - s.stride * (s.high.0 - (s.low.0 + 1))) (s.entry + s.stride * (s.last - (s.low.0 + 1)))
  unfolding part_entry pair_no
  at_first =
      record {
        above = omega arith;
        lower = omega (arith, first);
        upper =
            omega (
              arith,
              w.here,
              mul-one s.stride,
              strides (pair_no s.last s.low.0 s.high.0) (pair_no s.last s.low.0 s.high.0 + (s.last - (s.low.0 + 1)))
                  (s.last - (s.low.0 + 1))
                  s.stride
                  (omega arith),
              strides (pair_no s.last s.low.0 s.high.0 + (s.last - (s.low.0 + 1))) (pairs_below s.last (s.low.0 + 1) + (s.high.0 - (s.low.0 + 1)))
                  1
                  s.stride
                  (omega (arith, w.ordered, w.some, below_next s.last s.low.0)),
            );
      }

  module _ (j l u : ℕ) (at : At s j l u) (h : j < s.high.0) where
    pub at_next : At s (j + 1) (l + s.stride) (u + s.stride * (s.last - (j + 1)))
    unfolding part_entry pair_no
    at_next =
        record {
          above = omega (arith, at.above);
          lower =
              omega (
                arith,
                at.lower,
                mul-one s.stride,
                strides (pair_no s.last s.low.0 j) (pair_no s.last s.low.0 (j + 1)) 1 s.stride (omega (arith, at.above)),
              );
          upper =
              omega (
                arith,
                at.upper,
                strides (pairs_below s.last j + (s.high.0 - j)) (pairs_below s.last (j + 1) + (s.high.0 - (j + 1))) (s.last - (j + 1))
                    s.stride
                    (omega (arith, w.some, below_next s.last j)),
              );
        }

    pub upper-at : u ≡ part_entry s j s.high.0
    unfolding part_entry pair_no
    upper-at =
        omega (
          arith,
          at.upper,
          mul-one s.stride,
          strides (pair_no s.last j s.high.0) (pairs_below s.last j + (s.high.0 - j)) 1 s.stride (omega arith),
        )

    pub lower-within : l < length t
    lower-within =
        subst (λ n. n < length t) (sym at.lower) (w.within s.low.0 j at.above (omega (arith, w.some)))

    pub upper-within : u < length t
    upper-within = subst (λ n. n < length t) (sym upper-at) (w.within j s.high.0 h w.some)

    pub across-at : get_or t l 0 + get_or t u 0 ≡ across t s j
    unfolding across
    across-at = ap₂ (λ m n. get_or t m 0 + get_or t n 0) at.lower upper-at

    pub across-small : get_or t l 0 + get_or t u 0 < 2 ^ 32
    across-small = subst (λ n. n < 2 ^ 32) (sym across-at) (w.small j at.above h)
