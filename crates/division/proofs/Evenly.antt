-- One side, divided by a largest side. Assumes nothing.
--
--   count_low, count-high, count-some  == m x parts is at least the side, and less than the side and m together; one part or more
--   count-fewest                       == whoever divides the side into parts of at most m has no fewer
--   count-one                          == a side that is not longer than m is one part
--   start_first, start-last, start_up  == from the low end to the high end, rising
--   step_two                           == each part is side / n long, or one more while it is one of the first side % n
--   steps-even                         == an earlier part is no shorter than a later one, and at most 1 nm longer
--   step_most                          == none is longer than m
--   step_some                          == none is empty
--   step_wide                          == where the side is longer than m, and m twice t or more, none is shorter than t
use Prim.Native.Nat.{ℕ, suc, ◌+◌, ◌*◌, ◌-◌, ◌/◌, ◌%◌, ◌≤◌, ◌<◌}
use mathlib.Core.Path.{◌≡◌, sym, ◌∙◌, ap}
use mathlib.Core.List.{List, [], ◌∷◌}
use mathlib.Core.Logic.{◌⊎◌, inl, inr}
use native.Mathlib.Omega.{arith}
use native.Mathlib.Nat.{mod-lt, div-add-mod, mul-le-mul, mul-le-mul_left, mul_comm, mul-suc, mul_assoc}
use lib.ListN.{length}
use Rattle.sum.specs.Sum.{sum_of, All}
use Rattle.sum.proofs.Sum.{le-or}
use Rattle.division.specs.Division.{part_count, start}

module _ (m side : ℕ) (pos : 0 < m) (some : 0 < side) where
  pub count_low : side ≤ m * part_count m side
  unfolding part_count
  count_low = omega (arith, div-add-mod (side + (m - 1)) m, mod-lt (side + (m - 1)) pos)

  pub count-high : m * part_count m side < side + m
  unfolding part_count
  count-high = omega (arith, div-add-mod (side + (m - 1)) m)

  pub count-some : 0 < part_count m side
  count-some = elim (le-or (part_count m side) 0) [
    | inl q ↦ (let e : part_count m side ≡ 0 = omega arith in absurd (omega (arith, count_low, ap (λ n. m * n) e)))
    | inr q ↦ q
  ]

  -- parts of at most m, whatever they are
  longest : (l : List ℕ) → All (λ v. v ≤ m) l → sum_of (λ v. v) l ≤ m * length l
  unfolding sum_of
  longest [] h = omega arith
  longest (v ∷ l) h = omega (arith, h.0, longest l h.1)

  pub count-fewest : (l : List ℕ) → All (λ v. v ≤ m) l → sum_of (λ v. v) l ≡ side → part_count m side ≤ length l
  count-fewest l h e = elim (le-or (part_count m side) (length l)) [
    | inl q ↦ q
    | inr q ↦ absurd (omega (arith, count-high, longest l h, mul-le-mul_left m q))
  ]

  pub count-one : side ≤ m → part_count m side ≡ 1
  count-one short = elim (le-or 2 (part_count m side)) [
    | inl q ↦ absurd (omega (arith, count-high, mul-le-mul_left m q))
    | inr q ↦ omega (arith, count-some)
  ]

module _ (side n : ℕ) (some : 0 < n) where
  whole : n * (side / n) + side % n ≡ side
  whole = div-add-mod side n

  pub start_first : start side n 0 ≡ 0
  unfolding start
  start_first = omega arith

  pub start-last : start side n n ≡ side
  unfolding start
  start-last = omega (arith, whole, mod-lt side some)

  -- each part is side / n long, or one more
  pub step_two : (i : ℕ) → ((i < side % n) × (start side n (suc i) ≡ start side n i + (side / n + 1)))
      ⊎ ((side % n ≤ i) × (start side n (suc i) ≡ start side n i + side / n))
  unfolding start
  step_two i = elim (le-or (side % n) i) [
    | inl q ↦ inr (q, omega arith)
    | inr q ↦ inl (q, omega arith)
  ]

  -- an earlier part is no shorter than a later one, and at most 1 nm longer
  pub steps-even : (i j : ℕ) → i ≤ j
      → (start side n (suc j) - start side n j ≤ start side n (suc i) - start side n i)
      × (start side n (suc i) - start side n i ≤ (start side n (suc j) - start side n j) + 1)
  steps-even i j h = elim (step_two i) [
    | inl p ↦ elim (step_two j) [
      | inl q ↦ (omega (arith, p.1, q.1), omega (arith, p.1, q.1))
      | inr q ↦ (omega (arith, p.1, q.1), omega (arith, p.1, q.1))
    ]
    | inr p ↦ elim (step_two j) [
      | inl q ↦ absurd (omega (arith, p.0, q.0))
      | inr q ↦ (omega (arith, p.1, q.1), omega (arith, p.1, q.1))
    ]
  ]

  pub start_up : (i : ℕ) → start side n i ≤ start side n (suc i)
  unfolding start
  start_up i = omega arith

module _ (m side : ℕ) (pos : 0 < m) (some : 0 < side) where
  -- no part is longer than m
  pub step_most : (i : ℕ) → start side (part_count m side) (suc i) ≤ start side (part_count m side) i + m
  step_most i = elim (step_two side (part_count m side) (count-some m side pos some) i) [
    | inl q ↦ elim (le-or m (side / part_count m side)) [
      | inl z ↦ absurd (omega (arith, q.0, whole side (part_count m side) (count-some m side pos some), count_low m side pos some, mul-le-mul_left (part_count m side) z, mul_comm m (part_count m side)))
      | inr z ↦ omega (arith, q.1)
    ]
    | inr q ↦ elim (le-or (side / part_count m side) m) [
      | inl z ↦ omega (arith, q.1)
      | inr z ↦ absurd (omega (arith, whole side (part_count m side) (count-some m side pos some), count_low m side pos some, mul-le-mul_left (part_count m side) z, mul_comm m (part_count m side), count-some m side pos some))
    ]
  ]

  -- no part is empty: there are no more parts than nm
  pub step_some : (i : ℕ) → start side (part_count m side) i < start side (part_count m side) (suc i)
  step_some i = elim (le-or 1 (side / part_count m side)) [
    | inl z ↦ elim (step_two side (part_count m side) (count-some m side pos some) i) [
      | inl q ↦ omega (arith, q.1)
      | inr q ↦ omega (arith, q.1)
    ]
    | inr z ↦ absurd (none (part_count m side) (side / part_count m side) (side % part_count m side) (omega arith) (whole side (part_count m side) (count-some m side pos some)) (mod-lt side (count-some m side pos some)) (count-high m side pos some))
  ]
    where
      none : (n q r : ℕ) → q ≡ 0 → n * q + r ≡ side → r < n → m * n < side + m → ⊥
      none n q r z e s v =
          let k : suc (n - 1) ≡ n = omega arith in
          omega (arith, ap (λ q. n * q) z, ap (λ k. m * k) k, mul-suc m (n - 1), mul-le-mul {n₁ = 1} {m₁ = n - 1} {n₂ = m} {m₂ = n - 1} pos (omega arith))

  -- where the side is longer than m, and m at least twice t, no part is shorter than t
  pub step_wide : (t : ℕ) → 2 * t ≤ m → m < side → (i : ℕ) → start side (part_count m side) i + t ≤ start side (part_count m side) (suc i)
  step_wide t h long i = elim (le-or t (side / part_count m side)) [
    | inl z ↦ elim (step_two side (part_count m side) (count-some m side pos some) i) [
      | inl q ↦ omega (arith, q.1)
      | inr q ↦ omega (arith, q.1)
    ]
    | inr z ↦ absurd (short (part_count m side) (side / part_count m side) (side % part_count m side) z two (whole side (part_count m side) (count-some m side pos some)) (mod-lt side (count-some m side pos some)) (count-high m side pos some))
  ]
    where
      at_most_one : part_count m side < 2 → m * part_count m side ≤ m * 1
      at_most_one q = mul-le-mul_left m (omega arith)

      two : 2 ≤ part_count m side
      two = elim (le-or 2 (part_count m side)) [
        | inl q ↦ q
        | inr q ↦ absurd (omega (arith, count_low m side pos some, at_most_one q))
      ]

      -- n parts of q, and r more: too little for a side beyond (n - 1) x m
      short : (n q r : ℕ) → q < t → 2 ≤ n → n * q + r ≡ side → r < n → m * n < side + m → ⊥
      short n q r z u e s v =
          omega (
            arith,
            h,
            mul-le-mul_left n z,
            mul-le-mul_left t u,
            mul-le-mul {n₁ = 2 * t} {m₁ = n - 1} {n₂ = m} {m₂ = n - 1} h (omega arith),
            mul-suc n q,
            products n u,
          )
        where
          products : (n : ℕ) → 2 ≤ n → (m * n ≡ m * (n - 1) + m) × ((2 * t) * (n - 1) + 2 * t ≡ (2 * t) * n) × ((2 * t) * n ≡ 2 * (t * n)) × (t * n ≡ n * t)
          products n u = let e : suc (n - 1) ≡ n = omega arith in (
            ap (λ k. m * k) (sym e) ∙ mul-suc m (n - 1),
            sym (ap (λ k. (2 * t) * k) (sym e) ∙ mul-suc (2 * t) (n - 1)),
            mul_assoc 2 t n,
            mul_comm t n,
          )
