-- Laws of weighing the vertical cuts of all pieces of one width. Assumes nothing.
--
--   laid-*                   == rows of eight numbers, laid one after the other; those of the pieces of one width
--   unweighed-row, line_row, lines-row
--                            == a row with no cut weighed, with one cut weighed, and with two
--   row-*                    == where the rows of the pieces stand, and that there is room
--   line-*, low_on, high_on  == where the parts of a cut and of the next one stand, and that they are narrower and there is room
--   max-*                    == two places before another, in one number
--   Lines, lines-*           == the cuts less than v columns from the first line are weighed
use Prim.Native.Nat.{ℕ, suc, ◌+◌, ◌*◌, ◌-◌, ◌≤◌, ◌<◌, min, max}
use mathlib.Core.Path.{◌≡◌, refl, sym, ◌∙◌, ap, ap₂, subst}
use mathlib.Core.Logic.{◌⊎◌, inl, inr}
use mathlib.Core.List.{List}
use native.Mathlib.Omega.{arith}
use native.Mathlib.Nat.{mul-suc, mul_assoc, mul-le-mul, mul-le-mul_left}
use lib.ListN.{get_or, replicate, get_or-replicate}
use Rattle.sum.proofs.Sum.{le-or}
use Rattle.table.specs.Run.{Wrote, Lowest}
use Rattle.table.proofs.Run.{lowest-none, lowest-more}
use Rattle.shares.specs.Shares.{wrap}
use Rattle.eights.specs.Store.{place_of, listed, weighed, unweighed, lowered, lowered_twice, Laid, besides, Within}
use Rattle.eights.proofs.Judge.{wrote_at, pairs_wider}
use Rattle.eights.proofs.Pricing.{place-narrow, within_same, within-join, within-below, besides-same, besides-least}

-- row by row
pub laid_none : (f : ℕ → ℕ) (limit at : ℕ) (t : List ℕ) → Laid f limit 0 at t t
laid_none f limit at t = record { long = refl; made = λ e l i j h. absurd (omega arith); kept = λ k n. refl }

pub laid_more : (f h : ℕ → ℕ) (limit e at : ℕ) (t u v : List ℕ)
    → ((l : ℕ) → l < 8 → 16 * e + l < limit → h l ≡ f (16 * e + l))
    → Wrote h (at + 16 * e) 8 u v
    → Laid f limit e at t u
    → Laid f limit (e + 1) at t v
laid_more f h limit e at t u v same w r =
    record {
      long = w.long ∙ r.long;
      made =
          λ d l i j k. elim (le-or e d) [
            | inl q ↦
                (let z : d ≡ e = omega arith in
                let y : at + (16 * d + l) ≡ at + 16 * e + l = omega arith in
                ap (λ n. get_or v n 0) y ∙ w.made l j ∙ same l j (omega arith) ∙ ap (λ n. f (16 * n + l)) (sym z))
            | inr q ↦ w.kept (at + (16 * d + l)) (inl (omega arith)) ∙ r.made d l q j k
          ];
      kept = λ k n. w.kept k (apart k n) ∙ r.kept k (λ d l i j z. n d l (omega arith) j z);
    }
  where
    apart : (k : ℕ) → ((d l : ℕ) → d < e + 1 → l < 8 → k ≡ at + (16 * d + l) → ⊥) → (k < at + 16 * e) ⊎ (at + 16 * e + 8 ≤ k)
    apart k n = elim (le-or (at + 16 * e) k) [
      | inr z ↦ inl z
      | inl z ↦ elim (le-or (at + 16 * e + 8) k) [
        | inl y ↦ inr y
        | inr y ↦ absurd (n e (k - (at + 16 * e)) (omega arith) (omega arith) (omega arith))
      ]
    ]

pub laid_end : (f : ℕ → ℕ) (limit e pairs at : ℕ) (t u : List ℕ) → e ≤ pairs → pairs ≤ e → Laid f limit e at t u → Laid f limit pairs at t u
laid_end f limit e pairs at t u h k r = subst (λ n. Laid f limit n at t u) (omega arith) r

-- what is not yet laid is as it was
laid-ahead : (f : ℕ → ℕ) (limit e at : ℕ) (t u : List ℕ) (l : ℕ) → Laid f limit e at t u → get_or u (at + (16 * e + l)) 0 ≡ get_or t (at + (16 * e + l)) 0
laid-ahead f limit e at t u l r = r.kept (at + (16 * e + l)) (λ d m i j z. omega arith)

laid-below : (f : ℕ → ℕ) (limit e at : ℕ) (t u : List ℕ) (k : ℕ) → k < at → Laid f limit e at t u → get_or u k 0 ≡ get_or t k 0
laid-below f limit e at t u k h r = r.kept k (λ d m i j z. omega arith)

-- a row
pub unweighed-row : (l k : ℕ) → l < 8 → listed (replicate 8 65535) l ≡ unweighed k
unfolding listed unweighed
unweighed-row l k h = get_or-replicate {A = ℕ} 8 l 65535 0 h

module _ (f : ℕ → ℕ) (limit e at low high : ℕ) (t u first best : List ℕ)
    (r : Laid f limit e at t u)
    (read : (l : ℕ) → l < 8 → get_or first l 0 ≡ get_or u (at + 16 * e + l) 0)
    (w : Wrote (weighed first u (low + 16 * e) (high + 16 * e)) 0 8 first best) where
  pub line_row : (l : ℕ) → l < 8 → 16 * e + l < at - max low high → listed best l ≡ lowered t at low high (16 * e + l)
  unfolding listed lowered weighed
  line_row l i h =
      let x : at + 16 * e + l ≡ at + (16 * e + l) = omega arith in
      let y : low + 16 * e + l ≡ low + (16 * e + l) = omega arith in
      let z : high + 16 * e + l ≡ high + (16 * e + l) = omega arith in
      wrote_at (weighed first u (low + 16 * e) (high + 16 * e)) 8 first best l i w
      ∙ ap₂ min (read l i ∙ ap (λ n. get_or u n 0) x ∙ laid-ahead f limit e at t u l r)
      (ap₂ wrap (ap (λ n. get_or u n 0) y ∙ laid-below f limit e at t u (low + (16 * e + l)) (omega arith) r)
      (ap (λ n. get_or u n 0) z ∙ laid-below f limit e at t u (high + (16 * e + l)) (omega arith) r))

  pub lines-row : (next further : ℕ) (last : List ℕ) → Wrote (weighed best u (next + 16 * e) (further + 16 * e)) 0 8 best last
      → (l : ℕ) → l < 8 → 16 * e + l < at - max (max low high) (max next further) → listed last l ≡ lowered_twice t at low high next further (16 * e + l)
  unfolding listed lowered_twice weighed
  lines-row next further last o l i h =
      let y : next + 16 * e + l ≡ next + (16 * e + l) = omega arith in
      let z : further + 16 * e + l ≡ further + (16 * e + l) = omega arith in
      wrote_at (weighed best u (next + 16 * e) (further + 16 * e)) 8 best last l i o
      ∙ ap₂ min (line_row l i (omega arith))
      (ap₂ wrap (ap (λ n. get_or u n 0) y ∙ laid-below f limit e at t u (next + (16 * e + l)) (omega arith) r)
      (ap (λ n. get_or u n 0) z ∙ laid-below f limit e at t u (further + (16 * e + l)) (omega arith) r))

-- where the rows of the pieces stand
row-place : (pairs w g at e l : ℕ) → at ≡ 16 * pairs * (w - 1) + g → at + (16 * e + l) ≡ place_of pairs w e (g + l)
unfolding place_of
row-place pairs w g at e l z = omega (arith, mul_assoc 16 pairs (w - 1))

pub row-most : (pairs w : ℕ) → pairs ≤ 225 → w ≤ 15 → 16 * (pairs * w) + 16 ≤ 54016
row-most pairs w h k =
    let z : pairs * w ≤ 3375 = mul-le-mul h k in
    omega arith

pub row_room : (pairs w g at long : ℕ) → at ≡ 16 * pairs * (w - 1) + g → 1 ≤ w → g + 8 ≤ 16 → 16 * (pairs * w) + 16 ≤ long → at + 16 * pairs ≤ long + 8
row_room pairs w g at long z h k room = omega (arith, mul_assoc 16 pairs (w - 1), pairs_wider pairs w h)

pub laid-within : (f : ℕ → ℕ) (limit pairs w g at : ℕ) (t u : List ℕ) → at ≡ 16 * pairs * (w - 1) + g → Laid f limit pairs at t u → Within pairs w g t u
laid-within f limit pairs w g at t u z r =
    record { long = r.long; kept = λ k n. r.kept k (λ e l i j y. n e l i j (y ∙ row-place pairs w g at e l z)) }

pub record Lines (pairs w g v low high : ℕ) (store₀ store : List ℕ) : Type 0 where
  pub some : 1 ≤ v
  pub most : v ≤ w
  pub low-at : low ≡ 16 * pairs * (v - 1) + g
  pub high-at : high ≡ 16 * pairs * (w - v) + g
  pub within : Within pairs w g store₀ store
  pub least : (e l : ℕ) → e < pairs → l < 8 → g + l + w ≤ 16
      → Lowest (besides store₀ pairs w e (g + l)) 0 v 65535 (get_or store (place_of pairs w e (g + l)) 0)

pub lines_none : (pairs w g at : ℕ) (t store : List ℕ) → at ≡ 16 * pairs * (w - 1) + g → 1 ≤ w → Laid unweighed (16 * pairs) pairs at t store
    → Lines pairs w g 1 g at store store
unfolding unweighed
lines_none pairs w g at t store z h r =
    record {
      some = omega arith;
      most = h;
      low-at = omega arith;
      high-at = z;
      within = within_same pairs w g store;
      least =
          λ e l i j k.
          subst (Lowest (besides store pairs w e (g + l)) 0 1 65535) (sym (r.made e l i j (omega arith)) ∙ ap (λ n. get_or store n 0) (row-place pairs w g at e l z))
          (lowest-none (besides store pairs w e (g + l)) 0 65535);
    }

-- the places of one cut
module _ (pairs w g v low high : ℕ) (some : 1 ≤ v) (more : v < w) (low-at : low ≡ 16 * pairs * (v - 1) + g) (high-at : high ≡ 16 * pairs * (w - v) + g) where
  pub line-high : high ≡ 16 * pairs * (w - v - 1) + g + 16 * pairs
  line-high =
      let x : suc (w - v - 1) ≡ w - v = omega arith in
      omega (arith, mul-suc (16 * pairs) (w - v - 1), ap (λ n. 16 * pairs * n) x)

  pub line-low_on : low + 16 * pairs ≡ 16 * pairs * (v + 1 - 1) + g
  line-low_on =
      let x : suc (v - 1) ≡ v + 1 - 1 = omega arith in
      omega (arith, mul-suc (16 * pairs) (v - 1), ap (λ n. 16 * pairs * n) x)

  pub line-high_on : high - 16 * pairs ≡ 16 * pairs * (w - (v + 1)) + g
  line-high_on =
      let x : w - v - 1 ≡ w - (v + 1) = omega arith in
      omega (arith, line-high, ap (λ n. 16 * pairs * n) x)

  line-left : (e l : ℕ) → low + (16 * e + l) ≡ place_of pairs v e (g + l)
  unfolding place_of
  line-left e l = omega (arith, mul_assoc 16 pairs (v - 1))

  line-right : (e l : ℕ) → high - 16 * pairs + v + (16 * e + l) ≡ place_of pairs (w - v) e (g + l + v)
  unfolding place_of
  line-right e l = omega (arith, line-high, mul_assoc 16 pairs (w - v - 1))

  pub line-room : (long : ℕ) → g + 8 ≤ 16 → 16 * (pairs * w) + 16 ≤ long → (low + 16 * pairs ≤ long + 8) × (high + 14 ≤ long + 8)
  line-room long h room =
      let x : v + 1 - 1 ≤ w = omega arith in
      let y : w - v ≤ w - 1 = omega arith in (
        omega (arith, line-low_on, mul-le-mul_left (16 * pairs) x, mul_assoc 16 pairs w),
        omega (arith, mul-le-mul_left (16 * pairs) y, mul_assoc 16 pairs (w - 1), pairs_wider pairs w (omega arith)),
      )

  line_before : (at e l : ℕ) → at ≡ 16 * pairs * (w - 1) + g → e < pairs → g + l + w ≤ 16
      → (low + (16 * e + l) < at) × (high - 16 * pairs + v + (16 * e + l) < at)
  line_before at e l z i h = (
    omega (arith, line-left e l, place-narrow pairs v w e (g + l) some more i (omega arith), mul_assoc 16 pairs (w - 1)),
    omega (arith, line-right e l, place-narrow pairs (w - v) w e (g + l + v) (omega arith) (omega arith) i (omega arith), mul_assoc 16 pairs (w - 1)),
  )

  line-cut : (store₀ store : List ℕ) (e l : ℕ) → Within pairs w g store₀ store → e < pairs → g + l + w ≤ 16
      → wrap (get_or store (low + (16 * e + l)) 0) (get_or store (high - 16 * pairs + v + (16 * e + l)) 0) ≡ besides store₀ pairs w e (g + l) v
  unfolding besides
  line-cut store₀ store e l n i h =
      ap₂ (λ a b. wrap (get_or store a 0) (get_or store b 0)) (line-left e l) (line-right e l)
      ∙ besides-same pairs w store₀ store (within-below pairs w g store₀ store n) e (g + l) v i h some more

-- and of the next
module _ (pairs w g v low high : ℕ) (some : 1 ≤ v) (more : v + 1 < w) (low-at : low ≡ 16 * pairs * (v - 1) + g) (high-at : high ≡ 16 * pairs * (w - v) + g) where
  low_on : low + 16 * pairs ≡ 16 * pairs * (v + 1 - 1) + g
  low_on = line-low_on pairs w g v low high some (omega arith) low-at high-at

  high_on : high - 16 * pairs ≡ 16 * pairs * (w - (v + 1)) + g
  high_on = line-high_on pairs w g v low high some (omega arith) low-at high-at

  pub line-high-two : 16 * pairs ≤ high - 16 * pairs
  line-high-two = omega (arith, line-high pairs w g (v + 1) (low + 16 * pairs) (high - 16 * pairs) (omega arith) more low_on high_on)

  pub line-room-two : (long : ℕ) → g + 8 ≤ 16 → 16 * (pairs * w) + 16 ≤ long
      → (low + 16 * pairs + 16 * pairs ≤ long + 8) × (high - 16 * pairs + 14 ≤ long + 8)
  line-room-two = line-room pairs w g (v + 1) (low + 16 * pairs) (high - 16 * pairs) (omega arith) more low_on high_on

max-under : (at k a b : ℕ) → a + k < at → b + k < at → max a b + k < at
max-under at k a b h i = omega arith

max-left : (at k m : ℕ) → m + k < at → k < at - m
max-left at k m h = omega arith

-- one cut more
module _ (pairs w g at v low high : ℕ) (store₀ store made : List ℕ) (z : at ≡ 16 * pairs * (w - 1) + g) (s : Lines pairs w g v low high store₀ store) where
  pub lines-one : v < w
      → Laid (lowered store at low (high - 16 * pairs + v)) (at - max low (high - 16 * pairs + v)) pairs at store made
      → Lines pairs w g (v + 1) (low + 16 * pairs) (high - 16 * pairs) store₀ made
  unfolding lowered
  lines-one more r =
      record {
        some = omega arith;
        most = omega arith;
        low-at = line-low_on pairs w g v low high s.some more s.low-at s.high-at;
        high-at = line-high_on pairs w g v low high s.some more s.low-at s.high-at;
        within = within-join pairs w g store₀ store made s.within (laid-within _ _ pairs w g at store made z r);
        least = least;
      }
    where
      value : (e l : ℕ) → e < pairs → l < 8 → g + l + w ≤ 16
          → get_or made (place_of pairs w e (g + l)) 0
          ≡ min (get_or store (place_of pairs w e (g + l)) 0) (wrap (get_or store (low + (16 * e + l)) 0) (get_or store (high - 16 * pairs + v + (16 * e + l)) 0))
      value e l i j k =
          let b = line_before pairs w g v low high s.some more s.low-at s.high-at at e l z i k in
          let y = row-place pairs w g at e l z in
          ap (λ n. get_or made n 0) (sym y) ∙ r.made e l i j (omega (arith, b.0, b.1))
          ∙ ap (λ n. min (get_or store n 0) (wrap (get_or store (low + (16 * e + l)) 0) (get_or store (high - 16 * pairs + v + (16 * e + l)) 0))) y

      least : (e l : ℕ) → e < pairs → l < 8 → g + l + w ≤ 16
          → Lowest (besides store₀ pairs w e (g + l)) 0 (v + 1) 65535 (get_or made (place_of pairs w e (g + l)) 0)
      least e l i j k =
          subst (Lowest (besides store₀ pairs w e (g + l)) 0 (v + 1) 65535) (sym (value e l i j k))
          (lowest-more (besides store₀ pairs w e (g + l)) 0 v 65535 (get_or store (place_of pairs w e (g + l)) 0)
          (wrap (get_or store (low + (16 * e + l)) 0) (get_or store (high - 16 * pairs + v + (16 * e + l)) 0)) s.some
          (line-cut pairs w g v low high s.some more s.low-at s.high-at store₀ store e l s.within i k) (s.least e l i j k))

  -- and two
  pub lines_two : v + 1 < w
      → Laid (lowered_twice store at low (high - 16 * pairs + v) (low + 16 * pairs) (high - 16 * pairs - 16 * pairs + (v + 1)))
      (at - max (max low (high - 16 * pairs + v)) (max (low + 16 * pairs) (high - 16 * pairs - 16 * pairs + (v + 1)))) pairs at store made
      → Lines pairs w g (v + 2) (low + 2 * (16 * pairs)) (high - 16 * pairs - 16 * pairs) store₀ made
  unfolding lowered lowered_twice
  lines_two more r =
      let x : v + 1 + 1 ≡ v + 2 = omega arith in
      let y : low + 16 * pairs + 16 * pairs ≡ low + 2 * (16 * pairs) = omega arith in
      record {
        some = omega arith;
        most = omega arith;
        low-at = sym y ∙ line-low_on pairs w g (v + 1) (low + 16 * pairs) (high - 16 * pairs) (omega arith) more lows highs ∙ ap (λ n. 16 * pairs * (n - 1) + g) x;
        high-at = line-high_on pairs w g (v + 1) (low + 16 * pairs) (high - 16 * pairs) (omega arith) more lows highs ∙ ap (λ n. 16 * pairs * (w - n) + g) x;
        within = within-join pairs w g store₀ store made s.within (laid-within _ _ pairs w g at store made z r);
        least = λ e l i j k. subst (λ n. Lowest (besides store₀ pairs w e (g + l)) 0 n 65535 (get_or made (place_of pairs w e (g + l)) 0)) x (least e l i j k);
      }
    where
      once : v < w
      once = omega arith

      lows : low + 16 * pairs ≡ 16 * pairs * (v + 1 - 1) + g
      lows = low_on pairs w g v low high s.some more s.low-at s.high-at

      highs : high - 16 * pairs ≡ 16 * pairs * (w - (v + 1)) + g
      highs = high_on pairs w g v low high s.some more s.low-at s.high-at

      reach : (e l : ℕ) → e < pairs → g + l + w ≤ 16
          → 16 * e + l < at - max (max low (high - 16 * pairs + v)) (max (low + 16 * pairs) (high - 16 * pairs - 16 * pairs + (v + 1)))
      reach e l i k =
          let b = line_before pairs w g v low high s.some once s.low-at s.high-at at e l z i k in
          let d = line_before pairs w g (v + 1) (low + 16 * pairs) (high - 16 * pairs) (omega arith) more lows highs at e l z i k in
          max-left at (16 * e + l) (max (max low (high - 16 * pairs + v)) (max (low + 16 * pairs) (high - 16 * pairs - 16 * pairs + (v + 1))))
          (max-under at (16 * e + l) (max low (high - 16 * pairs + v)) (max (low + 16 * pairs) (high - 16 * pairs - 16 * pairs + (v + 1)))
          (max-under at (16 * e + l) low (high - 16 * pairs + v) b.0 b.1)
          (max-under at (16 * e + l) (low + 16 * pairs) (high - 16 * pairs - 16 * pairs + (v + 1)) d.0 d.1))

      value : (e l : ℕ) → e < pairs → l < 8 → g + l + w ≤ 16
          → get_or made (place_of pairs w e (g + l)) 0
          ≡ min (min (get_or store (place_of pairs w e (g + l)) 0) (wrap (get_or store (low + (16 * e + l)) 0) (get_or store (high - 16 * pairs + v + (16 * e + l)) 0)))
          (wrap (get_or store (low + 16 * pairs + (16 * e + l)) 0) (get_or store (high - 16 * pairs - 16 * pairs + (v + 1) + (16 * e + l)) 0))
      value e l i j k =
          let y = row-place pairs w g at e l z in
          ap (λ n. get_or made n 0) (sym y) ∙ r.made e l i j (reach e l i k)
          ∙ ap (λ n. min (min (get_or store n 0) (wrap (get_or store (low + (16 * e + l)) 0) (get_or store (high - 16 * pairs + v + (16 * e + l)) 0)))
          (wrap (get_or store (low + 16 * pairs + (16 * e + l)) 0) (get_or store (high - 16 * pairs - 16 * pairs + (v + 1) + (16 * e + l)) 0))) y

      least : (e l : ℕ) → e < pairs → l < 8 → g + l + w ≤ 16
          → Lowest (besides store₀ pairs w e (g + l)) 0 (v + 1 + 1) 65535 (get_or made (place_of pairs w e (g + l)) 0)
      least e l i j k =
          subst (Lowest (besides store₀ pairs w e (g + l)) 0 (v + 1 + 1) 65535) (sym (value e l i j k))
          (lowest-more (besides store₀ pairs w e (g + l)) 0 (v + 1) 65535
          (min (get_or store (place_of pairs w e (g + l)) 0) (wrap (get_or store (low + (16 * e + l)) 0) (get_or store (high - 16 * pairs + v + (16 * e + l)) 0)))
          (wrap (get_or store (low + 16 * pairs + (16 * e + l)) 0) (get_or store (high - 16 * pairs - 16 * pairs + (v + 1) + (16 * e + l)) 0)) (omega arith)
          (line-cut pairs w g (v + 1) (low + 16 * pairs) (high - 16 * pairs) (omega arith) more lows highs store₀ store e l s.within i k)
          (lowest-more (besides store₀ pairs w e (g + l)) 0 v 65535 (get_or store (place_of pairs w e (g + l)) 0)
          (wrap (get_or store (low + (16 * e + l)) 0) (get_or store (high - 16 * pairs + v + (16 * e + l)) 0)) s.some
          (line-cut pairs w g v low high s.some once s.low-at s.high-at store₀ store e l s.within i k) (s.least e l i j k)))

pub lines_end : (pairs w g v low high : ℕ) (t store₀ store : List ℕ) → w ≤ v → Within pairs w g t store₀ → Lines pairs w g v low high store₀ store
    → (e l : ℕ) → e < pairs → l < 8 → g + l + w ≤ 16 → Lowest (besides t pairs w e (g + l)) 0 w 65535 (get_or store (place_of pairs w e (g + l)) 0)
lines_end pairs w g v low high t store₀ store h n s e l i j k =
    let x : v ≡ w = omega (arith, s.most) in
    besides-least pairs w t store₀ (within-below pairs w g t store₀ n) e (g + l) (get_or store (place_of pairs w e (g + l)) 0) (get_or store (place_of pairs w e (g + l)) 0) i k refl
    (subst (λ m. Lowest (besides store₀ pairs w e (g + l)) 0 m 65535 (get_or store (place_of pairs w e (g + l)) 0)) x (s.least e l i j k))
