-- Laws of weighing cuts in eight lanes. Assumes nothing.
--
--   read-*, put-more
--                 == eight numbers read and put, one after the other
--   weighed-more  == weighing a cut: one lane more
--   lanes-more    == the least of the cuts so far in each lane, with one cut more
--   level-*       == where the pieces between two y lines stand, and that the numbers fit
--   stack_cut, stack_cut_is
--                 == what the two parts of a horizontal cut cost together, by the places that the code reads
--   Stacks, stacks-*
--                 == the horizontal cuts below the line k are weighed
--   next_fits     == the place of the high parts of the next cut fits
use Prim.Native.Nat.{ℕ, suc, ◌+◌, ◌*◌, ◌-◌, ◌≤◌, ◌<◌, ◌^◌, min}
use mathlib.Core.Path.{◌≡◌, refl, sym, ◌∙◌, ap, ap₂, subst}
use mathlib.Core.Logic.{inr}
use mathlib.Core.List.{List}
use native.Mathlib.Omega.{arith}
use native.Mathlib.Nat.{mul-suc, mul-le-mul}
use lib.ListN.{length, get_or, set}
use Rattle.table.specs.Entry.{pairs_below, pair_count, pair_no}
use Rattle.table.specs.Run.{Wrote, Lowest}
use Rattle.table.proofs.Entry.{below_next, below-most, count_most, pair-below}
use Rattle.table.proofs.Run.{wrote_more, lowest-none, lowest-more, lowest-same}
use Rattle.shares.specs.Shares.{wrap}
use Rattle.eights.specs.declared.cuts.Level.{Level}
use Rattle.eights.specs.Store.{place_of, listed, weighed, stacked, Stands, Room}

pub read_more : (store t u : List ℕ) (at i v : ℕ) → length t ≡ 8 → i < 8 → v ≡ get_or store (at + i) 0
    → Wrote (λ k. get_or store (at + k) 0) 0 i t u
    → Wrote (λ k. get_or store (at + k) 0) 0 (i + 1) t (set u i v)
read_more store t u at i v n h e w =
    let z : 0 + i ≡ i = omega arith in
    subst (λ k. Wrote (λ k. get_or store (at + k) 0) 0 (i + 1) t (set u k v)) z
    (wrote_more (λ k. get_or store (at + k) 0) 0 i t u v (omega (arith, w.long)) e w)

pub read-end : (store t u : List ℕ) (at i : ℕ) → 8 ≤ i → Wrote (λ k. get_or store (at + k) 0) 0 i t u → (l : ℕ) → l < 8 → get_or u l 0 ≡ get_or store (at + l) 0
read-end store t u at i h w l k =
    let z : 0 + l ≡ l = omega arith in
    ap (λ j. get_or u j 0) (sym z) ∙ w.made l (omega arith)

pub put-more : (eight t u : List ℕ) (at i : ℕ) → at + 8 ≤ length t → i < 8
    → Wrote (listed eight) at i t u
    → Wrote (listed eight) at (i + 1) t (set u (at + i) (get_or eight i 0))
unfolding listed
put-more eight t u at i room h w = wrote_more (listed eight) at i t u (get_or eight i 0) (omega (arith, w.long)) refl w

pub weighed-more : (t store u : List ℕ) (low high i sum r : ℕ) → length t ≡ 8 → i < 8
    → sum ≡ wrap (get_or store (low + i) 0) (get_or store (high + i) 0) → r ≡ min (get_or u i 0) sum
    → Wrote (weighed t store low high) 0 i t u
    → Wrote (weighed t store low high) 0 (i + 1) t (set u i r)
unfolding weighed
weighed-more t store u low high i sum r m l es e w =
    let z : 0 + i ≡ i = omega arith in
    subst (λ k. Wrote (weighed t store low high) 0 (i + 1) t (set u k r)) z
    (wrote_more (weighed t store low high) 0 i t u r (omega (arith, w.long)) (e ∙ ap₂ min (w.kept i (inr (omega arith))) es) w)

lanes-more : (f : ℕ → ℕ → ℕ) (m : ℕ → ℕ) (a k lower upper : ℕ) (store best made : List ℕ) → a < k
    → ((l : ℕ) → l < 8 → wrap (get_or store (lower + l) 0) (get_or store (upper + l) 0) ≡ f l k)
    → Wrote (weighed best store lower upper) 0 8 best made
    → ((l : ℕ) → l < 8 → Lowest (f l) a k (m l) (get_or best l 0))
    → (l : ℕ) → l < 8 → Lowest (f l) a (k + 1) (m l) (get_or made l 0)
unfolding weighed
lanes-more f m a k lower upper store best made h e w o l i =
    let z : 0 + l ≡ l = omega arith in
    let v : get_or made l 0 ≡ min (get_or best l 0) (wrap (get_or store (lower + l) 0) (get_or store (upper + l) 0)) = ap (λ j. get_or made j 0) (sym z) ∙ w.made l i in
    subst (Lowest (f l) a (k + 1) (m l)) (sym v)
    (lowest-more (f l) a k (m l) (get_or best l 0) (wrap (get_or store (lower + l) 0) (get_or store (upper + l) 0)) h (e l i) (o l i))

-- the pieces between two y lines
pub level_most : (v : Level) → Stands v → v.pairs * (v.width - 1) ≤ 3150
level_most v s =
    let x : v.pairs ≤ 225 = omega (arith, s.pairs_are, count_most v.rows s.rows-most) in
    let y : v.width - 1 ≤ 14 = omega (arith, s.wide-most) in
    mul-le-mul x y

pub level_first : (v : Level) → Stands v → v.first ≤ 225
level_first v s = omega (arith, s.first-at, s.low-high, s.high-rows, s.rows-most, below-most v.rows v.low s.rows-most)

-- the pieces of all pairs of y lines stand behind those of the narrower strips
pub level_base : (v : Level) → Stands v → v.pairs * (v.width - 1) + v.first - pairs_below v.rows v.low ≡ v.pairs * (v.width - 1)
level_base v s = omega (arith, s.first-at)

pub level_behind : (v : Level) (store : List ℕ) (base : ℕ) → base ≡ v.pairs * (v.width - 1) → Stands v → Room v store → 16 * (base + pair_count v.rows) + 16 ≤ length store
level_behind v store base e s r =
    let x : suc (v.width - 1) ≡ v.width = omega (arith, s.wide-some) in
    omega (arith, s.pairs_are, mul-suc v.pairs (v.width - 1), ap (λ n. v.pairs * n) x)

pub level_small : (v : Level) (base : ℕ) → base ≡ v.pairs * (v.width - 1) → Stands v → 16 * (base + pair_count v.rows) + 16 ≤ 60000
level_small v base e s = omega (arith, level_most v s, count_most v.rows s.rows-most)

-- horizontal cuts
unfoldable pub stack_cut : List ℕ → ℕ → ℕ → ℕ → ℕ → ℕ → ℕ → ℕ
stack_cut store rows base low high x k = wrap (get_or store (16 * (base + pair_no rows low k) + x) 0) (get_or store (16 * (base + pair_no rows k high) + x) 0)

pub stack_cut_is : (store : List ℕ) (rows pairs w low high x k : ℕ) → stack_cut store rows (pairs * (w - 1)) low high x k ≡ stacked store rows pairs w low high x k
unfolding stack_cut stacked place_of
stack_cut_is store rows pairs w low high x k = refl

pub record Stacks (store first : List ℕ) (rows base g low high k lower upper : ℕ) (best : List ℕ) : Type 0 where
  pub some : low < k
  pub most : k ≤ high
  pub long : length best ≡ 8
  pub low-at : lower ≡ 16 * (base + (pairs_below rows low + (k - low - 1))) + g
  pub high-at : upper ≡ 16 * (base + (pairs_below rows k + (high - k) - 1)) + g
  pub least : (l : ℕ) → l < 8 → Lowest (stack_cut store rows base low high (g + l)) low k (get_or first l 0) (get_or best l 0)

pub stacks_none : (store first : List ℕ) (rows base at g low high : ℕ) → low < high → high ≤ rows → length first ≡ 8 → at ≡ base + pairs_below rows low
    → Stacks store first rows base g low high (low + 1) (16 * at + g) (16 * (at + (rows - low) + (high - low) - 2) + g) first
stacks_none store first rows base at g low high h k n e =
    record {
      some = omega arith;
      most = omega arith;
      long = n;
      low-at = omega arith;
      high-at = omega (arith, below_next rows low);
      least = λ l i. lowest-none (stack_cut store rows base low high (g + l)) low (get_or first l 0);
    }

-- where the high parts of the next cut stand
stacks_next : (rows base g high k upper : ℕ) → k < high → high ≤ rows → upper ≡ 16 * (base + (pairs_below rows k + (high - k) - 1)) + g
    → upper + 16 * (rows - k - 1) ≡ 16 * (base + (pairs_below rows (k + 1) + (high - (k + 1)) - 1)) + g
stacks_next rows base g high k upper h m e =
    let x : pairs_below rows k + (high - k) - 1 ≡ pairs_below rows k + (high - (k + 1)) = omega arith in
    let y : pairs_below rows (k + 1) + (high - (k + 1)) - 1 ≡ pairs_below rows k + (rows - k - 1) + (high - (k + 1)) = omega (arith, below_next rows k) in
    ap (λ i. i + 16 * (rows - k - 1)) (e ∙ ap (λ i. 16 * (base + i) + g) x)
    ∙ joined base (pairs_below rows k) (high - (k + 1)) (rows - k - 1) g
    ∙ ap (λ i. 16 * (base + i) + g) (sym y)
  where
    joined : (p a b d q : ℕ) → 16 * (p + (a + b)) + q + 16 * d ≡ 16 * (p + (a + d + b)) + q
    joined p a b d q = omega arith

pub next_fits : (rows k upper : ℕ) → rows ≤ 15 → upper + 8 ≤ 60000 → upper + 16 * (rows - k - 1) < 2 ^ 64
next_fits rows k upper h m = omega arith

module _ (rows base g low high k lower upper : ℕ) (some : low < k) (more : k < high) (within : high ≤ rows)
    (low-at : lower ≡ 16 * (base + (pairs_below rows low + (k - low - 1))) + g)
    (high-at : upper ≡ 16 * (base + (pairs_below rows k + (high - k) - 1)) + g) where
  stacks_low : (l : ℕ) → lower + l ≡ 16 * (base + pair_no rows low k) + (g + l)
  unfolding pair_no
  stacks_low l = omega arith

  stacks_high : (l : ℕ) → upper + l ≡ 16 * (base + pair_no rows k high) + (g + l)
  unfolding pair_no
  stacks_high l = omega arith

  pub stacks_room : (long : ℕ) → g + 8 ≤ 16 → 16 * (base + pair_count rows) + 16 ≤ long → (lower + 8 ≤ long) × (upper + 8 ≤ long)
  stacks_room long h room =
      let x = pair-below rows low k some (omega arith) in
      let y = pair-below rows k high more within in
      (omega (arith, x, stacks_low 0), omega (arith, y, stacks_high 0))

  pub stacks_more : (store first best made : List ℕ) → Wrote (weighed best store lower upper) 0 8 best made
      → Stacks store first rows base g low high k lower upper best
      → Stacks store first rows base g low high (k + 1) (lower + 16) (upper + 16 * (rows - k - 1)) made
  unfolding stack_cut
  stacks_more store first best made o s =
      record {
        some = omega arith;
        most = omega arith;
        long = o.long ∙ s.long;
        low-at = omega arith;
        high-at = stacks_next rows base g high k upper more within high-at;
        least =
            lanes-more (λ l. stack_cut store rows base low high (g + l)) (λ l. get_or first l 0) low k lower upper store best made some
            (λ l i. ap₂ (λ m n. wrap (get_or store m 0) (get_or store n 0)) (stacks_low l) (stacks_high l)) o s.least;
      }

pub stacks_all : (store first : List ℕ) (rows pairs w base g low high k lower upper : ℕ) (best : List ℕ) → base ≡ pairs * (w - 1) → high ≤ k
    → Stacks store first rows base g low high k lower upper best
    → (l : ℕ) → l < 8 → Lowest (stacked store rows pairs w low high (g + l)) low high (get_or first l 0) (get_or best l 0)
stacks_all store first rows pairs w base g low high k lower upper best z h s l i =
    let x : k ≡ high = omega (arith, s.most) in
    lowest-same (stack_cut store rows base low high (g + l)) (stacked store rows pairs w low high (g + l)) low high (get_or first l 0) (get_or first l 0) (get_or best l 0) (get_or best l 0)
    (λ j p q. ap (λ n. stack_cut store rows n low high (g + l) j) z ∙ stack_cut_is store rows pairs w low high (g + l) j) refl refl
    (subst (λ n. Lowest (stack_cut store rows base low high (g + l)) low n (get_or first l 0) (get_or best l 0)) x (s.least l i))
