-- Laws of the pieces of one pair of y lines, of the strips side by side. Assumes nothing.
--
--   copy_more, add-more, flank_more
--                        == a run that is copied or added, one number after the other
--   narrow-more, narrow-most
--                        == flanks that the rule spares stay 0, and the others are no more than all of them
--   pairs_small          == a side store has room for all pairs
--   cut-spots            == where the parts of a cut stand
--   upper-next           == where the high part of the next cut stands
--   cut_fits, cut-more   == weighing one cut in so many lanes: the sums fit, and one cut more
--   ruled-*              == the pieces settled lane by lane
--   sliver-fits, charge-most, judged-most
--                        == what a piece is charged, and what it costs, is bounded whatever lane it stands in
--   settled-made         == the steps of settling put together
use Prim.Native.Nat.{ℕ, ◌+◌, ◌*◌, ◌-◌, ◌≤◌, ◌<◌, ◌^◌, min}
use mathlib.Core.Path.{◌≡◌, refl, sym, ◌∙◌, ap, ap₂, subst}
use mathlib.Core.Bool.{not}
use mathlib.Core.Logic.{◌⊎◌, inl, inr}
use mathlib.Core.List.{List}
use native.Mathlib.Omega.{arith}
use native.Mathlib.Nat.{mul-le-mul}
use lib.ListN.{length, get_or, set, length-set}
use lib.Seq.{get_or-set_same, get_or-set_other}
use Rattle.sum.specs.Sum.{only}
use Rattle.sum.proofs.Sum.{le-or, only-most}
use Rattle.rule.specs.declared.Rule.{Rule}
use Rattle.rule.specs.Rules.{limit}
use Rattle.rule.specs.Charge.{sliver_of, spared, charge_of}
use Rattle.piece.specs.Piece.{most_cost}
use Rattle.table.specs.Entry.{pairs_below, pair_count, pair_no}
use Rattle.table.specs.Run.{Wrote, weighed_apart, Lowest}
use Rattle.table.specs.Cuts.{Judged}
use Rattle.table.proofs.Entry.{count-closed, pair-below, below_next}
use Rattle.table.proofs.Run.{wrote_more, lowest-more}
use Rattle.table.proofs.Pairs.{Dec-eq}
use Rattle.widths.specs.Lane.{copied, added, narrowed, Narrow, spot, parts_at, ends_at, Ruled, Settled}
use Rattle.rule.proofs.Charge.{sliver-most, narrow-none}

-- what stands at the front of a list that was written from there
pub wrote_at : (f : ℕ → ℕ) (n : ℕ) (t u : List ℕ) (l : ℕ) → l < n → Wrote f 0 n t u → get_or u l 0 ≡ f l
wrote_at f n t u l h w = (let z : 0 + l ≡ l = omega arith in ap (λ i. get_or u i 0) (sym z) ∙ w.made l h)

pub copy_more : (t from u : List ℕ) (at n i : ℕ) → n ≤ length t → i < n
    → Wrote (copied from at) 0 i t u
    → Wrote (copied from at) 0 (i + 1) t (set u i (get_or from (at + i) 0))
unfolding copied
copy_more t from u at n i m l w =
    let z : 0 + i ≡ i = omega arith in
    subst (λ k. Wrote (copied from at) 0 (i + 1) t (set u k (get_or from (at + i) 0))) z
    (wrote_more (copied from at) 0 i t u (get_or from (at + i) 0) (omega (arith, w.long)) refl w)

-- what is there is not yet touched
pub add-fits : (t from u : List ℕ) (at n i : ℕ) → i < n → ((k : ℕ) → k < n → added t from at k < 2 ^ 32)
    → Wrote (added t from at) 0 i t u
    → get_or u i 0 + get_or from (at + i) 0 < 2 ^ 32
unfolding added
add-fits t from u at n i l f w = omega (arith, w.kept i (inr (omega arith)), f i l)

pub add-more : (t from u : List ℕ) (at n i : ℕ) → n ≤ length t → i < n
    → Wrote (added t from at) 0 i t u
    → Wrote (added t from at) 0 (i + 1) t (set u i (get_or u i 0 + get_or from (at + i) 0))
unfolding added
add-more t from u at n i m l w =
    let z : 0 + i ≡ i = omega arith in
    subst (λ k. Wrote (added t from at) 0 (i + 1) t (set u k (get_or u i 0 + get_or from (at + i) 0))) z
    (wrote_more (added t from at) 0 i t u (get_or u i 0 + get_or from (at + i) 0) (omega (arith, w.long)) (omega (arith, w.kept i (inr (omega arith)))) w)

pub flank_fits : (r : Rule) (wide t from u : List ℕ) (at n i v : ℕ) → v ≡ only (not (spared r (get_or wide i 0))) (get_or from (at + i) 0) → i < n
    → ((k : ℕ) → k < n → added t from at k < 2 ^ 32)
    → Wrote (narrowed r wide t from at) 0 i t u
    → get_or u i 0 + v < 2 ^ 32
unfolding added
flank_fits r wide t from u at n i v e l f w =
    omega (arith, e, only-most (not (spared r (get_or wide i 0))) (get_or from (at + i) 0), w.kept i (inr (omega arith)), f i l)

pub flank_more : (r : Rule) (wide t from u : List ℕ) (at n i v : ℕ) → v ≡ only (not (spared r (get_or wide i 0))) (get_or from (at + i) 0) → n ≤ length t → i < n
    → Wrote (narrowed r wide t from at) 0 i t u
    → Wrote (narrowed r wide t from at) 0 (i + 1) t (set u i (get_or u i 0 + v))
unfolding narrowed
flank_more r wide t from u at n i v e m l w =
    let z : 0 + i ≡ i = omega arith in
    subst (λ k. Wrote (narrowed r wide t from at) 0 (i + 1) t (set u k (get_or u i 0 + v))) z
    (wrote_more (narrowed r wide t from at) 0 i t u (get_or u i 0 + v) (omega (arith, w.long)) (omega (arith, e, w.kept i (inr (omega arith)))) w)

-- no more is there than with all flanks added
pub narrow-most : (r : Rule) (wide t from u : List ℕ) (at n l : ℕ) → l < n → Wrote (narrowed r wide t from at) 0 n t u → get_or u l 0 ≤ added t from at l
unfolding added narrowed
narrow-most r wide t from u at n l i w =
    omega (arith, wrote_at (narrowed r wide t from at) n t u l i w, only-most (not (spared r (get_or wide l 0))) (get_or from (at + l) 0))

pub narrow-more : (r : Rule) (wide t from u : List ℕ) (at m n : ℕ) → n ≤ m → Narrow r wide m t
    → Wrote (narrowed r wide t from at) 0 n t u
    → Narrow r wide n u
unfolding narrowed
narrow-more r wide t from u at m n h k w =
    record { none = λ l i e. omega (arith, wrote_at (narrowed r wide t from at) n t u l i w, k.none l (omega arith) e, narrow-none r (get_or wide l 0) (get_or from (at + l) 0) e) }

-- 16 lines have 120 pairs
pub pairs_small : (m : ℕ) → m ≤ 15 → pair_count m ≤ 120
pairs_small m h =
    let k : m + 1 ≤ 16 = omega arith in
    omega (arith, count-closed m, mul-le-mul {n₁ = m} {m₁ = m + 1} {n₂ = 15} {m₂ = 16} h k)

-- a piece stands within the side store
pub spot-room : (rows a b d : ℕ) → rows ≤ 15 → b < d → d ≤ rows → spot rows a b d + 16 ≤ 1920 + a
unfolding spot
spot-room rows a b d m h k = omega (arith, pair-below rows b d h k, pairs_small rows m)

pub spot_lane : (rows l b d : ℕ) → spot rows 0 b d + l ≡ spot rows l b d
unfolding spot
spot_lane rows l b d = omega arith

pub spot-first : (rows b d first : ℕ) → b < d → first ≡ pairs_below rows b → 16 * (first + (d - b - 1)) ≡ spot rows 0 b d
unfolding spot pair_no
spot-first rows b d first h e = omega arith

-- where the parts of the cut at k stand
module _ (rows low high k lower upper : ℕ) (p : low < k) (q : k < high) (h : high ≤ rows) (m : rows ≤ 15)
    (el : lower ≡ 16 * (pairs_below rows low + (k - low - 1))) (eu : upper ≡ 16 * (pairs_below rows k + (high - k) - 1)) where
  pub cut_low : (l : ℕ) → lower + l ≡ spot rows l low k
  unfolding spot pair_no
  cut_low l = omega arith

  pub cut_high : (l : ℕ) → upper + l ≡ spot rows l k high
  unfolding spot pair_no
  cut_high l = omega arith

  pub cut-room : (lower + 16 ≤ 1920) × (upper + 16 ≤ 1920)
  cut-room =
      let x = cut_low 0 in
      let y = cut_high 0 in
      omega (arith, spot-room rows 0 low k m p (omega arith), spot-room rows 0 k high m q h)

  module _ (side best : List ℕ) (lanes : ℕ) where
    pub cut_fits : ((l j : ℕ) → l < lanes → low < j → j < high → parts_at side rows l low high j < 2 ^ 32)
        → (i : ℕ) → i < lanes → get_or side (lower + i) 0 + get_or side (upper + i) 0 < 2 ^ 32
    unfolding parts_at
    cut_fits f i l = omega (arith, f i k l p q, ap (λ j. get_or side j 0) (cut_low i), ap (λ j. get_or side j 0) (cut_high i))

    pub cut-more : (first : List ℕ) (made : List ℕ) → Wrote (weighed_apart best side lower upper) 0 lanes best made
        → ((l : ℕ) → l < lanes → Lowest (parts_at side rows l low high) low k (get_or first l 0) (get_or best l 0))
        → (l : ℕ) → l < lanes → Lowest (parts_at side rows l low high) low (k + 1) (get_or first l 0) (get_or made l 0)
    unfolding weighed_apart parts_at
    cut-more first made w o l i =
        let z : 0 + l ≡ l = omega arith in
        let v : get_or made l 0 ≡ min (get_or best l 0) (get_or side (lower + l) 0 + get_or side (upper + l) 0) = ap (λ j. get_or made j 0) (sym z) ∙ w.made l i in
        let e : get_or side (lower + l) 0 + get_or side (upper + l) 0 ≡ get_or side (spot rows l low k) 0 + get_or side (spot rows l k high) 0 =
        ap₂ (λ x y. get_or side x 0 + get_or side y 0) (cut_low l) (cut_high l) in
        subst (λ r. Lowest (parts_at side rows l low high) low (k + 1) (get_or first l 0) r) (sym v)
        (lowest-more (parts_at side rows l low high) low k (get_or first l 0) (get_or best l 0) (get_or side (lower + l) 0 + get_or side (upper + l) 0) p e (o l i))

-- the pieces settled lane by lane
module _ (r : Rule) (height cells low high : ℕ) (sums wide count flanks best : List ℕ) (at : ℕ) (side : List ℕ) where
  pub ruled-none : Ruled r height cells low high sums wide count flanks best at 0 side side
  ruled-none = record { long = refl; judged = λ l h. absurd (omega arith); kept = λ k h. refl }

  pub ruled-more : (l v : ℕ) (made : List ℕ) → at + l < length side
      → Judged (get_or count l 0) cells (charge_of r (sliver_of r (get_or wide l 0) height (get_or flanks l 0) (ends_at sums l low high))) (get_or best l 0) v
      → Ruled r height cells low high sums wide count flanks best at l side made
      → Ruled r height cells low high sums wide count flanks best at (l + 1) side (set made (at + l) v)
  ruled-more l v made room j w =
      record {
        long = length-set made (at + l) v ∙ w.long;
        judged =
            λ i h. elim (le-or l i) [
              | inl q ↦
                  (let z : l ≡ i = omega arith in
                  subst (λ n. Judged (get_or count n 0) cells (charge_of r (sliver_of r (get_or wide n 0) height (get_or flanks n 0) (ends_at sums n low high))) (get_or best n 0) (get_or (set made (at + l) v) (at + n) 0)) z
                  (subst (λ n. Judged (get_or count l 0) cells (charge_of r (sliver_of r (get_or wide l 0) height (get_or flanks l 0) (ends_at sums l low high))) (get_or best l 0) n) (sym (get_or-set_same made (at + l) v 0 (omega (arith, w.long)))) j))
              | inr q ↦
                  subst (λ n. Judged (get_or count i 0) cells (charge_of r (sliver_of r (get_or wide i 0) height (get_or flanks i 0) (ends_at sums i low high))) (get_or best i 0) n)
                  (sym (get_or-set_other made (at + l) (at + i) v 0 (λ z. omega arith))) (w.judged i q)
            ];
        kept = λ k h. get_or-set_other made (at + l) k v 0 (λ z. apart k h z) ∙ w.kept k (before k h);
      }
    where
      apart : (k : ℕ) → (k < at) ⊎ (at + (l + 1) ≤ k) → k ≡ at + l → ⊥
      apart k (inl h) z = omega arith
      apart k (inr h) z = omega arith

      before : (k : ℕ) → (k < at) ⊎ (at + (l + 1) ≤ k) → (k < at) ⊎ (at + l ≤ k)
      before k (inl h) = inl h
      before k (inr h) = inr (omega arith)

  pub ruled-end : (l lanes : ℕ) (made : List ℕ) → l ≤ lanes → lanes ≤ l → Ruled r height cells low high sums wide count flanks best at l side made
      → Ruled r height cells low high sums wide count flanks best at lanes side made
  ruled-end l lanes made h k w = subst (λ n. Ruled r height cells low high sums wide count flanks best at n side made) (omega arith) w

-- the exposed bottom and top of a lane
pub ends-here : (sums : List ℕ) (l low high bottom top : ℕ) → bottom ≡ 256 + 16 * low → top ≡ 512 + 16 * (high - 1)
    → get_or sums (bottom + l) 0 + get_or sums (top + l) 0 ≡ ends_at sums l low high
unfolding ends_at
ends-here sums l low high bottom top e f =
    let x : bottom + l ≡ 256 + (16 * low + l) = omega arith in
    let y : top + l ≡ 512 + (16 * (high - 1) + l) = omega arith in
    ap₂ (λ i j. get_or sums i 0 + get_or sums j 0) x y

-- what is said of a piece, by an equal charge
pub judged-shot : (n m shot shot₂ best v : ℕ) → shot ≡ shot₂ → Judged n m shot best v → Judged n m shot₂ best v
judged-shot n m shot shot₂ best v e j = subst (λ i. Judged n m i best v) e j

pub sliver-fits : (r : Rule) (w h u v n : ℕ) → n ≡ sliver_of r w h u v → u ≤ 131070 → v ≤ 131070 → n ≤ 262140
sliver-fits r w h u v n e p q = omega (arith, sliver-most r w h u v)

pub charge-most : (r : Rule) (n : ℕ) → r.weight ≤ limit → n ≤ 262140 → charge_of r n ≤ most_cost
unfolding charge_of
charge-most r n h k = omega (arith, mul-le-mul {n₁ = r.weight} {m₁ = n} {n₂ = 1000} {m₂ = 262140} h k)

pub judged-most : (n m shot best v top : ℕ) → shot ≤ top → best ≤ top → Judged n m shot best v → v ≤ top
judged-most n m shot best v top h k j = go (le-or n 0) (Dec-eq n m)
  where
    go : (n ≤ 0) ⊎ (0 < n) → (n ≡ m) ⊎ (n ≡ m → ⊥) → v ≤ top
    go (inl z) q = (let e : n ≡ 0 = omega arith in omega (arith, j.none e))
    go (inr z) (inl q) = omega (arith, j.full z q)
    go (inr z) (inr q) = omega (arith, j.cut z q)

pub wrote_count : (f : ℕ → ℕ) (n m : ℕ) (t u : List ℕ) → n ≡ m → Wrote f 0 n t u → Wrote f 0 m t u
wrote_count f n m t u e w = subst (λ i. Wrote f 0 i t u) e w

pub settled-made : (r : Rule) (rows height cells low high first lanes judged : ℕ) (sums wide count flanks none start best side made : List ℕ)
    → low < high → first ≡ pairs_below rows low → judged ≡ lanes
    → Wrote (copied side (16 * (first + (high - low - 1)))) 0 lanes none start
    → ((l : ℕ) → l < lanes → Lowest (parts_at side rows l low high) low high (get_or start l 0) (get_or best l 0))
    → Ruled r height cells low high sums wide count flanks best (16 * (first + (high - low - 1))) judged side made
    → Settled r rows height cells low high sums wide count flanks lanes side made
unfolding copied
settled-made r rows height cells low high first lanes judged sums wide count flanks none start best side made h e j w o u =
    record {
      best = best;
      least =
          λ l i.
          let z : get_or start l 0 ≡ get_or side (spot rows l low high) 0 =
          wrote_at (copied side (16 * (first + (high - low - 1)))) lanes none start l i w
          ∙ ap (λ n. get_or side (n + l) 0) (spot-first rows low high first h e)
          ∙ ap (λ n. get_or side n 0) (spot_lane rows l low high) in
          subst (λ n. Lowest (parts_at side rows l low high) low high n (get_or best l 0)) z (o l i);
      ruled =
          subst (λ n. Ruled r height cells low high sums wide count flanks best n lanes side made) (spot-first rows low high first h e)
          (subst (λ n. Ruled r height cells low high sums wide count flanks best (16 * (first + (high - low - 1))) n side made) j u);
    }

-- the high parts of the next cut
pub upper-next : (rows high k upper : ℕ) → k < high → high ≤ rows → upper ≡ 16 * (pairs_below rows k + (high - k) - 1)
    → upper + 16 * (rows - k - 1) ≡ 16 * (pairs_below rows (k + 1) + (high - (k + 1)) - 1)
upper-next rows high k upper p h e =
    let x : pairs_below rows k + (high - k) - 1 ≡ pairs_below rows k + (high - (k + 1)) = omega arith in
    let y : pairs_below rows (k + 1) + (high - (k + 1)) - 1 ≡ pairs_below rows k + (rows - k - 1) + (high - (k + 1)) = omega (arith, below_next rows k) in
    ap (λ i. i + 16 * (rows - k - 1)) (e ∙ ap (λ i. 16 * i) x)
    ∙ joined (pairs_below rows k) (high - (k + 1)) (rows - k - 1)
    ∙ ap (λ i. 16 * i) (sym y)
  where
    joined : (a b c : ℕ) → 16 * (a + b) + 16 * c ≡ 16 * (a + c + b)
    joined a b c = omega arith
