-- Laws of what one piece costs in each of eight lanes. Assumes nothing.
--
--   longer-made              == the longer sides, found without a branch
--   lane_sliver, sliver-*     == the sliver lengths, one lane after the other
--   Lanes, lanes-*           == the pieces settled lane by lane
--   add-more                 == eight numbers added, one after the other
--   place_at, place-room, place-fits
--                            == where the pieces of a level stand, and that the store has room for them
--   level-*                  == what eight lanes got is what the pieces of the level cost, where the rule spares their ends and where not
--   settled-made             == the steps of settling a level put together
use Prim.Native.Nat.{ℕ, suc, ◌+◌, ◌*◌, ◌-◌, ◌≤◌, ◌<◌, max}
use mathlib.Core.Path.{◌≡◌, refl, sym, ◌∙◌, ap, ap₂, subst}
use mathlib.Core.Logic.{◌⊎◌, inl, inr}
use mathlib.Core.List.{List}
use native.Mathlib.Omega.{arith}
use native.Mathlib.Nat.{mul-le-mul, mul-suc}
use lib.Dec.{leb}
use lib.ListN.{length, get_or, set, length-set}
use lib.Seq.{get_or-set_same, get_or-set_other}
use borrow.Author.Tests.{le-leb, lt-leb}
use Rattle.sum.specs.Sum.{only}
use Rattle.sum.proofs.Sum.{le-or}
use Rattle.rule.specs.Charge.{longer}
use Rattle.rule.proofs.Charge.{longer-upright, longer_level, longer-even}
use Rattle.table.specs.Entry.{pair_no}
use Rattle.table.specs.Run.{Wrote, Lowest}
use Rattle.table.specs.Cuts.{Judged}
use Rattle.table.proofs.Entry.{count_most, pair-below}
use Rattle.table.proofs.Run.{wrote_more}
use Rattle.shares.specs.Shares.{wrap}
use Rattle.shares.specs.Growth.{wrap_added}
use Rattle.eights.specs.declared.cuts.Level.{Level}
use Rattle.eights.specs.Store.{place_of, stacked, Stands, Room}
use Rattle.eights.specs.Eight.{ends_at, sliver_at, Ruled, RuledLevel, Settled}

pub longer-made : (w h u l v : ℕ) → v ≡ max (only (leb w h) u) (only (leb h w) l) → v ≡ longer w h u l
longer-made w h u l v e = elim (le-or w h) [
  | inr q ↦ e ∙ rw (lt-leb w h q, le-leb h w (omega arith)) (level ∙ sym (longer_level w h u l q))
  | inl q ↦ elim (le-or h w) [
    | inr p ↦ e ∙ rw (le-leb w h q, lt-leb h w p) (upright ∙ sym (longer-upright w h u l p))
    | inl p ↦ longer-even v w h u l q p (e ∙ rw (le-leb w h q, le-leb h w p))
  ]
]
  where
    level : max 0 l ≡ l
    level = omega arith

    upright : max u 0 ≡ u
    upright = omega arith

-- the sliver length in a lane, bottoms and tops standing from two places on
unfoldable pub lane_sliver : List ℕ → List ℕ → List ℕ → ℕ → ℕ → ℕ → ℕ → ℕ → ℕ
lane_sliver sums wide flanks height g bottom top l =
    longer (get_or wide (g + l) 0) height (get_or flanks l 0) (wrap (get_or sums (bottom + l) 0) (get_or sums (top + l) 0))

pub sliver-more : (sums wide flanks : List ℕ) (height g bottom top l ends v : ℕ) (t u : List ℕ) → length t ≡ 8 → l < 8
    → ends ≡ wrap (get_or sums (bottom + l) 0) (get_or sums (top + l) 0)
    → v ≡ longer (get_or wide (g + l) 0) height (get_or flanks l 0) ends
    → Wrote (lane_sliver sums wide flanks height g bottom top) 0 l t u
    → Wrote (lane_sliver sums wide flanks height g bottom top) 0 (l + 1) t (set u l v)
unfolding lane_sliver
sliver-more sums wide flanks height g bottom top l ends v t u n h e f w =
    let z : 0 + l ≡ l = omega arith in
    subst (λ k. Wrote (lane_sliver sums wide flanks height g bottom top) 0 (l + 1) t (set u k v)) z
    (wrote_more (lane_sliver sums wide flanks height g bottom top) 0 l t u v (omega (arith, w.long)) (f ∙ ap (longer (get_or wide (g + l) 0) height (get_or flanks l 0)) e) w)

pub wrote_at : (f : ℕ → ℕ) (n : ℕ) (t u : List ℕ) (l : ℕ) → l < n → Wrote f 0 n t u → get_or u l 0 ≡ f l
wrote_at f n t u l h w = (let z : 0 + l ≡ l = omega arith in ap (λ i. get_or u i 0) (sym z) ∙ w.made l h)

pub sliver-end : (sums wide flanks : List ℕ) (height g bottom top n low high : ℕ) (t u : List ℕ) → n ≤ 8 → 8 ≤ n
    → bottom ≡ 256 + 16 * low + g → top ≡ 512 + 16 * (high - 1) + g
    → Wrote (lane_sliver sums wide flanks height g bottom top) 0 n t u
    → (l : ℕ) → l < 8 → get_or u l 0 ≡ longer (get_or wide (g + l) 0) height (get_or flanks l 0) (ends_at sums (g + l) low high)
unfolding lane_sliver ends_at
sliver-end sums wide flanks height g bottom top n low high t u m k e f w l h =
    let x : bottom + l ≡ 256 + (16 * low + (g + l)) = omega arith in
    let y : top + l ≡ 512 + (16 * (high - 1) + (g + l)) = omega arith in
    wrote_at (lane_sliver sums wide flanks height g bottom top) n t u l (omega arith) w
    ∙ ap₂ (λ i j. longer (get_or wide (g + l) 0) height (get_or flanks l 0) (wrap (get_or sums i 0) (get_or sums j 0))) x y

-- so many lanes are settled
pub record Lanes (price cells : ℕ) (count sliver best : List ℕ) (at n : ℕ) (store made : List ℕ) : Type 0 where
  pub long : length made ≡ length store
  pub judged : (l : ℕ) → l < n → Judged (get_or count l 0) cells (wrap price (get_or sliver l 0)) (get_or best l 0) (get_or made (at + l) 0)
  pub kept : (k : ℕ) → (k < at) ⊎ (at + n ≤ k) → get_or made k 0 ≡ get_or store k 0

module _ (price cells : ℕ) (count sliver best : List ℕ) (at : ℕ) (store : List ℕ) where
  pub lanes-none : Lanes price cells count sliver best at 0 store store
  lanes-none = record { long = refl; judged = λ l h. absurd (omega arith); kept = λ k h. refl }

  pub lanes-more : (l charge v : ℕ) (made : List ℕ) → at + l < length store
      → charge ≡ wrap price (get_or sliver l 0)
      → Judged (get_or count l 0) cells charge (get_or best l 0) v
      → Lanes price cells count sliver best at l store made
      → Lanes price cells count sliver best at (l + 1) store (set made (at + l) v)
  lanes-more l charge v made room e j w =
      record {
        long = length-set made (at + l) v ∙ w.long;
        judged =
            λ i h. elim (le-or l i) [
              | inl q ↦
                  (let z : l ≡ i = omega arith in
                  subst (λ n. Judged (get_or count n 0) cells (wrap price (get_or sliver n 0)) (get_or best n 0) (get_or (set made (at + l) v) (at + n) 0)) z
                  (subst (λ n. Judged (get_or count l 0) cells (wrap price (get_or sliver l 0)) (get_or best l 0) n) (sym (get_or-set_same made (at + l) v 0 (omega (arith, w.long))))
                  (subst (λ n. Judged (get_or count l 0) cells n (get_or best l 0) v) e j)))
              | inr q ↦
                  subst (λ n. Judged (get_or count i 0) cells (wrap price (get_or sliver i 0)) (get_or best i 0) n)
                  (sym (get_or-set_other made (at + l) (at + i) v 0 (λ z. omega arith))) (w.judged i q)
            ];
        kept = λ k h. get_or-set_other made (at + l) k v 0 (λ z. apart k h z) ∙ w.kept k (before k h);
      }
    where
      apart : (k : ℕ) → (k < at) ⊎ (at + (l + 1) ≤ k) → k ≡ at + l → ⊥
      apart k (inl h) z = omega arith
      apart k (inr h) z = omega arith

      before : (k : ℕ) → (k < at) ⊎ (at + (l + 1) ≤ k) → (k < at) ⊎ (at + l ≤ k)
      before k (inl h) = inl h
      before k (inr h) = inr (omega arith)

  pub lanes_end : (n : ℕ) (made : List ℕ) → n ≤ 8 → 8 ≤ n → Lanes price cells count sliver best at n store made
      → Ruled price cells count sliver best at store made
  lanes_end n made h k w =
      record {
        long = w.long;
        judged = λ l i. w.judged l (omega arith);
        kept = λ j o. w.kept j (still j o);
      }
    where
      still : (j : ℕ) → (j < at) ⊎ (at + 8 ≤ j) → (j < at) ⊎ (at + n ≤ j)
      still j (inl z) = inl z
      still j (inr z) = inr (omega arith)

pub add-more : (t from u : List ℕ) (at l v : ℕ) → length t ≡ 8 → l < 8
    → v ≡ wrap (get_or u l 0) (get_or from (at + l) 0)
    → Wrote (wrap_added t from 0 at) 0 l t u
    → Wrote (wrap_added t from 0 at) 0 (l + 1) t (set u l v)
unfolding wrap_added
add-more t from u at l v n h e w =
    let z : 0 + l ≡ l = omega arith in
    subst (λ k. Wrote (wrap_added t from 0 at) 0 (l + 1) t (set u k v)) z
    (wrote_more (wrap_added t from 0 at) 0 l t u v (omega (arith, w.long))
    (e ∙ ap (λ i. wrap i (get_or from (at + l) 0)) (w.kept l (inr (omega arith)) ∙ ap (λ i. get_or t i 0) (sym z))) w)

-- a width more
pub pairs_wider : (pairs w : ℕ) → 1 ≤ w → pairs * (w - 1) + pairs ≡ pairs * w
pairs_wider pairs w h =
    let e : suc (w - 1) ≡ w = omega arith in
    omega (arith, mul-suc pairs (w - 1), ap (λ n. pairs * n) e)

-- where the pieces of a level stand
module _ (level : Level) (s : Stands level) where
  pub number_at : level.first + (level.high - level.low - 1) ≡ pair_no level.rows level.low level.high
  unfolding pair_no
  number_at = omega (arith, s.first-at, s.low-high)

  pub number-below : pair_no level.rows level.low level.high < level.pairs
  number-below = omega (arith, s.pairs_are, pair-below level.rows level.low level.high s.low-high s.high-rows)

  pub place_at : (g l : ℕ) → 16 * (level.pairs * (level.width - 1) + (level.first + (level.high - level.low - 1))) + g + l
      ≡ place_of level.pairs level.width (pair_no level.rows level.low level.high) (g + l)
  unfolding place_of
  place_at g l = omega (arith, number_at)

  pub place-room : (g : ℕ) (store : List ℕ) → Room level store → g + 8 ≤ 16
      → 16 * (level.pairs * (level.width - 1) + (level.first + (level.high - level.low - 1))) + g + 8 ≤ length store
  place-room g store r h = omega (arith, number_at, number-below, pairs_wider level.pairs level.width s.wide-some)

  pub pairs-most : level.pairs ≤ 225
  pairs-most = omega (arith, s.pairs_are, count_most level.rows s.rows-most)

  pub place-fits : level.pairs * (level.width - 1) ≤ 3150
  place-fits =
      let w : level.width - 1 ≤ 14 = omega (arith, s.wide-most) in
      mul-le-mul {n₁ = level.pairs} {m₁ = level.width - 1} {n₂ = 225} {m₂ = 14} pairs-most w

  -- what eight lanes got
  module _ (height cells t price : ℕ) (sums wide count flanks sliver best : List ℕ) (g : ℕ) (store made : List ℕ)
      (r : Ruled price cells count sliver best (16 * (level.pairs * (level.width - 1) + (level.first + (level.high - level.low - 1))) + g) store made) where
    level_ruled : ((l : ℕ) → l < 8 → get_or sliver l 0 ≡ sliver_at t height wide flanks sums level.low level.high g l)
        → RuledLevel level height cells t price sums wide count flanks best g store made
    level_ruled same =
        record {
          long = r.long;
          judged =
              λ l h. subst (λ n. Judged (get_or count l 0) cells (wrap price (sliver_at t height wide flanks sums level.low level.high g l)) (get_or best l 0) (get_or made n 0)) (place_at g l)
              (subst (λ n. Judged (get_or count l 0) cells (wrap price n) (get_or best l 0) (get_or made (16 * (level.pairs * (level.width - 1) + (level.first + (level.high - level.low - 1))) + g + l) 0)) (same l h) (r.judged l h));
          kept = λ k n. r.kept k (apart k n);
        }
      where
        apart : (k : ℕ) → ((l : ℕ) → l < 8 → k ≡ place_of level.pairs level.width (pair_no level.rows level.low level.high) (g + l) → ⊥)
            → (k < 16 * (level.pairs * (level.width - 1) + (level.first + (level.high - level.low - 1))) + g)
            ⊎ (16 * (level.pairs * (level.width - 1) + (level.first + (level.high - level.low - 1))) + g + 8 ≤ k)
        apart k n = elim (le-or (16 * (level.pairs * (level.width - 1) + (level.first + (level.high - level.low - 1))) + g) k) [
          | inr z ↦ inl z
          | inl z ↦ elim (le-or (16 * (level.pairs * (level.width - 1) + (level.first + (level.high - level.low - 1))) + g + 8) k) [
            | inl y ↦ inr y
            | inr y ↦
                absurd
                (n (k - (16 * (level.pairs * (level.width - 1) + (level.first + (level.high - level.low - 1))) + g)) (omega arith)
                (omega (arith, place_at g (k - (16 * (level.pairs * (level.width - 1) + (level.first + (level.high - level.low - 1))) + g)))))
          ]
        ]

    -- where the rule spares the ends
    pub level_tall : t ≤ height → sliver ≡ flanks → RuledLevel level height cells t price sums wide count flanks best g store made
    unfolding sliver_at
    level_tall h e = level_ruled (λ l i. ap (λ n. get_or n l 0) e ∙ rw (le-leb t height h))

    -- and where not
    pub level_low : height < t
        → ((l : ℕ) → l < 8 → get_or sliver l 0 ≡ longer (get_or wide (g + l) 0) height (get_or flanks l 0) (ends_at sums (g + l) level.low level.high))
        → RuledLevel level height cells t price sums wide count flanks best g store made
    unfolding sliver_at
    level_low h e = level_ruled (λ l i. e l i ∙ rw (lt-leb t height h))

pub settled-made : (level : Level) (height cells t price : ℕ) (sums wide count flanks upright best : List ℕ) (g : ℕ) (store made : List ℕ) → Stands level
    → ((l : ℕ) → l < 8
    → get_or upright l 0 ≡ get_or store (16 * (level.pairs * (level.width - 1) + (level.first + (level.high - level.low - 1))) + g + l) 0)
    → ((l : ℕ) → l < 8
    → Lowest (stacked store level.rows level.pairs level.width level.low level.high (g + l)) level.low level.high (get_or upright l 0) (get_or best l 0))
    → RuledLevel level height cells t price sums wide count flanks best g store made
    → Settled level height cells t price sums wide count flanks g store made
settled-made level height cells t price sums wide count flanks upright best g store made s u o r =
    record {
      best = best;
      least =
          λ l i. subst (λ n. Lowest (stacked store level.rows level.pairs level.width level.low level.high (g + l)) level.low level.high n (get_or best l 0))
          (u l i ∙ ap (λ n. get_or store n 0) (place_at level s g l)) (o l i);
      ruled = r;
    }
