-- Laws of settling all strips of one width, eight at a time. Assumes nothing.
--
--   wrap-fits                == two numbers whose sum is short
--   count-*, flank-*         == the sums between two lines, one row of cells after the other
--   Running, running-*       == the counts and flanks that run along, lane by lane
--   level_of, level_stands    == the pieces of a sheet between two y lines
--   place_same, place-narrow == a place of the store is one piece's of one strip; narrower strips stand before
--   within-*                 == stores that differ in eight lanes of one width only
--   besides-*, prices_on     == vertical cuts, the least of them, and so the prices, are the same in stores whose narrower strips are
--   part_prices              == the two parts of a horizontal cut that are settled
--   price_step, ahead_step   == one pair of y lines more is settled, and one less is ahead
--   ahead-all                == all pieces are ahead, where their vertical cuts are weighed
--   ahead-*, known-*         == from low line to low line
--   Eights, eights-*         == from eight lanes to the next
use Prim.Native.Nat.{ℕ, suc, ◌+◌, ◌*◌, ◌-◌, ◌≤◌, ◌<◌, ◌^◌}
use mathlib.Core.Path.{◌≡◌, refl, sym, ◌∙◌, ap, ap₂, subst}
use mathlib.Core.Bool.{cond}
use mathlib.Core.Logic.{◌⊎◌, inl, inr}
use mathlib.Core.List.{List}
use native.Mathlib.Omega.{arith}
use native.Mathlib.Nat.{mul-le-mul_left}
use lib.Dec.{leb}
use lib.ListN.{length, get_or, replicate, get_or-replicate}
use Rattle.sum.specs.Sum.{over}
use Rattle.sum.proofs.Sum.{le-or, over_none, over_last}
use Rattle.rule.specs.Charge.{longer}
use Rattle.table.specs.Entry.{pairs_below, pair_no}
use Rattle.table.specs.Run.{Wrote, Lowest}
use Rattle.table.specs.Cuts.{Judged}
use Rattle.table.proofs.Entry.{pair-below, pair_same}
use Rattle.table.proofs.Run.{lowest-same}
use Rattle.table.proofs.Pairs.{Dec-eq}
use Rattle.shares.specs.Shares.{wrap}
use Rattle.shares.specs.Growth.{wrap_added}
use Rattle.eights.specs.declared.cuts.Level.{Level}
use Rattle.eights.specs.Store.{place_of, besides, stacked, Stands, Within}
use Rattle.eights.specs.Eight.{ends_at, sliver_at, Settled}
use Rattle.eights.specs.Price.{Sheet, count_in, flank_in, ends_in, sliver_in, shot_at, Measured, Prices, Ahead, Known}
use Rattle.eights.proofs.Judge.{wrote_at, pairs_wider, number-below}

pub wrap-fits : (a b : ℕ) → a + b < 2 ^ 16 → wrap a b ≡ a + b
unfolding wrap
wrap-fits a b h = omega arith

-- the sums from row to row
pub count_none : (sums : List ℕ) (a b d : ℕ) → d ≤ b → count_in sums a b d ≡ 0
unfolding count_in
count_none sums a b d h = over_none b d (λ j. get_or sums (16 * j + a) 0) h

pub flank_none : (sums : List ℕ) (a b d : ℕ) → d ≤ b → flank_in sums a b d ≡ 0
unfolding flank_in
flank_none sums a b d h = over_none b d (λ j. get_or sums (768 + (16 * j + a)) 0) h

pub count-last : (sums : List ℕ) (a b d : ℕ) → b < d → count_in sums a b (d - 1) + get_or sums (16 * (d - 1) + a) 0 ≡ count_in sums a b d
unfolding count_in
count-last sums a b d h =
    let e : suc (d - 1) ≡ d = omega arith in
    sym (over_last b (d - 1) (λ j. get_or sums (16 * j + a) 0) (omega arith)) ∙ ap (λ n. over b n (λ j. get_or sums (16 * j + a) 0)) e

pub flank_last : (sums : List ℕ) (a b d : ℕ) → b < d → flank_in sums a b (d - 1) + get_or sums (768 + (16 * (d - 1) + a)) 0 ≡ flank_in sums a b d
unfolding flank_in
flank_last sums a b d h =
    let e : suc (d - 1) ≡ d = omega arith in
    sym (over_last b (d - 1) (λ j. get_or sums (768 + (16 * j + a)) 0) (omega arith)) ∙ ap (λ n. over b n (λ j. get_or sums (768 + (16 * j + a)) 0)) e

-- the counts and flanks of the rows of cells between the lines b and d, right in the lanes of the strips
pub record Running (sums : List ℕ) (n g b d : ℕ) (count flanks : List ℕ) : Type 0 where
  pub count_long : length count ≡ 8
  pub flank_long : length flanks ≡ 8
  pub counted : (l : ℕ) → l < 8 → g + l < n → get_or count l 0 ≡ count_in sums (g + l) b d
  pub flanked : (l : ℕ) → l < 8 → g + l < n → get_or flanks l 0 ≡ flank_in sums (g + l) b d

pub running_none : (sums : List ℕ) (n g b : ℕ) → Running sums n g b (b + 1 - 1) (replicate 8 0) (replicate 8 0)
running_none sums n g b =
    record {
      count_long = refl;
      flank_long = refl;
      counted = λ l i h. omega (arith, get_or-replicate {A = ℕ} 8 l 0 0 i, count_none sums (g + l) b (b + 1 - 1) (omega arith));
      flanked = λ l i h. omega (arith, get_or-replicate {A = ℕ} 8 l 0 0 i, flank_none sums (g + l) b (b + 1 - 1) (omega arith));
    }

pub running_on : (sums : List ℕ) (n g b d : ℕ) (count flanks : List ℕ) → Running sums n g b d count flanks → Running sums n g b (d + 1 - 1) count flanks
running_on sums n g b d count flanks w = subst (λ i. Running sums n g b i count flanks) (omega arith) w

module _ (t : Sheet) (g b d : ℕ) (count flanks count₂ flanks₂ : List ℕ) (m : Measured t) (h : b < d) (dr : d ≤ t.rows)
    (w : Running t.sums t.strips g b (d - 1) count flanks)
    (wc : Wrote (wrap_added count t.sums 0 (16 * (d - 1) + g)) 0 8 count count₂)
    (wf : Wrote (wrap_added flanks t.sums 0 (768 + (16 * (d - 1) + g))) 0 8 flanks flanks₂) where
  count-here : (l : ℕ) → l < 8 → get_or count₂ l 0 ≡ wrap (get_or count l 0) (get_or t.sums (16 * (d - 1) + (g + l)) 0)
  unfolding wrap_added
  count-here l i =
      let x : 0 + l ≡ l = omega arith in
      let y : 16 * (d - 1) + g + l ≡ 16 * (d - 1) + (g + l) = omega arith in
      wrote_at (wrap_added count t.sums 0 (16 * (d - 1) + g)) 8 count count₂ l i wc
      ∙ ap₂ (λ u v. wrap (get_or count u 0) (get_or t.sums v 0)) x y

  flank_here : (l : ℕ) → l < 8 → get_or flanks₂ l 0 ≡ wrap (get_or flanks l 0) (get_or t.sums (768 + (16 * (d - 1) + (g + l))) 0)
  unfolding wrap_added
  flank_here l i =
      let x : 0 + l ≡ l = omega arith in
      let y : 768 + (16 * (d - 1) + g) + l ≡ 768 + (16 * (d - 1) + (g + l)) = omega arith in
      wrote_at (wrap_added flanks t.sums 0 (768 + (16 * (d - 1) + g))) 8 flanks flanks₂ l i wf
      ∙ ap₂ (λ u v. wrap (get_or flanks u 0) (get_or t.sums v 0)) x y

  pub running_more : Running t.sums t.strips g b d count₂ flanks₂
  running_more =
      record {
        count_long = wc.long ∙ w.count_long;
        flank_long = wf.long ∙ w.flank_long;
        counted =
            λ l i a.
            let z : get_or count l 0 + get_or t.sums (16 * (d - 1) + (g + l)) 0 ≡ count_in t.sums (g + l) b d =
            omega (arith, w.counted l i a, count-last t.sums (g + l) b d h) in
            count-here l i ∙ wrap-fits (get_or count l 0) (get_or t.sums (16 * (d - 1) + (g + l)) 0) (omega (arith, m.count_most (g + l) b d a h dr)) ∙ z;
        flanked =
            λ l i a.
            let z : get_or flanks l 0 + get_or t.sums (768 + (16 * (d - 1) + (g + l))) 0 ≡ flank_in t.sums (g + l) b d =
            omega (arith, w.flanked l i a, flank_last t.sums (g + l) b d h) in
            flank_here l i ∙ wrap-fits (get_or flanks l 0) (get_or t.sums (768 + (16 * (d - 1) + (g + l))) 0) (omega (arith, m.flank_most (g + l) b d a h dr)) ∙ z;
      }

-- the pieces of a sheet between two y lines
abbrev pub level_of : Sheet → ℕ → ℕ → ℕ → Level
level_of t b d first = record { rows = t.rows; pairs = t.pairs; width = t.width; low = b; high = d; first = first }

pub level_stands : (t : Sheet) (b d first : ℕ) → Measured t → 0 < t.strips → b < d → d ≤ t.rows → first ≡ pairs_below t.rows b → Stands (level_of t b d first)
level_stands t b d first m n h dr e =
    record {
      low-high = h;
      high-rows = dr;
      rows-most = m.rows-most;
      pairs_are = m.pairs_are;
      wide-some = m.wide-some;
      wide-most = omega (arith, m.within);
      first-at = e;
    }

-- places of the store
pub place_same : (pairs w e f x y : ℕ) → x < 16 → y < 16 → place_of pairs w e x ≡ place_of pairs w f y → (e ≡ f) × (x ≡ y)
unfolding place_of
place_same pairs w e f x y h k z = omega arith

pub place-narrow : (pairs v w e x : ℕ) → 0 < v → v < w → e < pairs → x < 16 → place_of pairs v e x < 16 * (pairs * (w - 1))
unfolding place_of
place-narrow pairs v w e x h k l i =
    let z : v ≤ w - 1 = omega arith in
    omega (arith, pairs_wider pairs v h, mul-le-mul_left pairs z)

-- stores that differ in eight lanes of one width
pub within_same : (pairs w g : ℕ) (t : List ℕ) → Within pairs w g t t
within_same pairs w g t = record { long = refl; kept = λ k n. refl }

pub within-join : (pairs w g : ℕ) (t u v : List ℕ) → Within pairs w g t u → Within pairs w g u v → Within pairs w g t v
within-join pairs w g t u v a b = record { long = b.long ∙ a.long; kept = λ k n. b.kept k n ∙ a.kept k n }

pub within-below : (pairs w g : ℕ) (t u : List ℕ) → Within pairs w g t u → (k : ℕ) → k < 16 * (pairs * (w - 1)) → get_or u k 0 ≡ get_or t k 0
unfolding place_of
within-below pairs w g t u a k h = a.kept k (λ e l i j z. omega arith)

pub within_lane : (pairs w g e a : ℕ) (t u : List ℕ) → Within pairs w g t u → g + 8 ≤ 16 → a < g → get_or u (place_of pairs w e a) 0 ≡ get_or t (place_of pairs w e a) 0
within_lane pairs w g e a t u n h k =
    n.kept (place_of pairs w e a) (λ f l i j z. let y = place_same pairs w e f a (g + l) (omega arith) (omega arith) z in omega (arith, y.1))

pub within-settled : (level : Level) (height cells thr price : ℕ) (sums wide count flanks : List ℕ) (g : ℕ) (store made : List ℕ) → Stands level
    → Settled level height cells thr price sums wide count flanks g store made
    → Within level.pairs level.width g store made
within-settled level height cells thr price sums wide count flanks g store made s w =
    record {
      long = w.ruled.long;
      kept = λ k n. w.ruled.kept k (λ l i z. n (pair_no level.rows level.low level.high) l (number-below level s) i z);
    }

-- vertical cuts lie in narrower strips
module _ (pairs w : ℕ) (store u : List ℕ) (same : (k : ℕ) → k < 16 * (pairs * (w - 1)) → get_or u k 0 ≡ get_or store k 0) where
  pub besides-same : (e x v : ℕ) → e < pairs → x + w ≤ 16 → 0 < v → v < w → besides u pairs w e x v ≡ besides store pairs w e x v
  unfolding besides
  besides-same e x v i j h k =
      ap₂ wrap
      (same (place_of pairs v e x) (place-narrow pairs v w e x h k i (omega arith)))
      (same (place_of pairs (w - v) e (x + v)) (place-narrow pairs (w - v) w e (x + v) (omega arith) (omega arith) i (omega arith)))

  pub besides-least : (e x r s : ℕ) → e < pairs → x + w ≤ 16 → r ≡ s → Lowest (besides u pairs w e x) 0 w 65535 r → Lowest (besides store pairs w e x) 0 w 65535 s
  besides-least e x r s i j z low =
      lowest-same (besides u pairs w e x) (besides store pairs w e x) 0 w 65535 65535 r s (λ v h k. besides-same e x v i j h k) refl z low

pub prices_on : (t : Sheet) → Measured t → (store u : List ℕ) → ((k : ℕ) → k < 16 * (t.pairs * (t.width - 1)) → get_or u k 0 ≡ get_or store k 0)
    → (s : ℕ → ℕ → ℕ → ℕ) → Prices s t store
    → Prices s t u
prices_on t m store u same s p =
    record {
      fits = p.fits;
      follow =
          λ a b d upright best v i h k low.
          p.follow a b d upright best v i h k
          (besides-least t.pairs t.width store u same (pair_no t.rows b d) a upright upright (omega (arith, m.pairs_are, pair-below t.rows b d h k)) (omega (arith, m.within)) refl low);
    }

-- both parts of a cut are settled
part_prices : (s : ℕ → ℕ → ℕ → ℕ) (t : Sheet) (store₀ store : List ℕ) (g b d : ℕ) → Prices s t store₀ → Known s t store g b d → b < d → d ≤ t.rows
    → (a j : ℕ) → g ≤ a → a < g + 8 → a < t.strips → b < j → j < d
    → stacked store t.rows t.pairs t.width b d a j ≡ s a b j + s a j d
unfolding stacked
part_prices s t store₀ store g b d p k h m a j x y i u v =
    ap₂ wrap (k.known a b j x y i u (omega arith) (inr (refl, v))) (k.known a j d x y i v m (inl u))
    ∙ wrap-fits (s a b j) (s a j d) (p.fits a b j d i u v m)

-- one piece less is ahead
module _ (t : Sheet) (store made : List ℕ) (g b d first height cells : ℕ) (count flanks : List ℕ)
    (m : Measured t) (h : b < d) (dr : d ≤ t.rows)
    (e : Settled (level_of t b d first) height cells t.threshold t.price t.sums t.wide count flanks g store made) where
  -- all else is as it was
  other : g + 8 ≤ 16 → (a u v : ℕ) → a < t.strips → u < v → v ≤ t.rows → ((u ≡ b) → (v ≡ d) → ⊥)
      → get_or made (place_of t.pairs t.width (pair_no t.rows u v) a) 0 ≡ get_or store (place_of t.pairs t.width (pair_no t.rows u v) a) 0
  other few a u v i uv vr n =
      e.ruled.kept (place_of t.pairs t.width (pair_no t.rows u v) a)
      (λ l j z.
      let y = place_same t.pairs t.width (pair_no t.rows u v) (pair_no t.rows b d) a (g + l) (omega (arith, m.within, m.wide-some)) (omega arith) z in
      let x = pair_same t.rows u v b d uv vr h dr y.0 in
      n x.0 x.1)

  -- the pieces ahead have the least of their vertical cuts still
  narrower : (k : ℕ) → k < 16 * (t.pairs * (t.width - 1)) → get_or store k 0 ≡ get_or made k 0
  unfolding place_of
  narrower k i = sym (e.ruled.kept k (λ l j z. omega arith))

  pub ahead_step : g + 8 ≤ 16 → Ahead t store g b d → Ahead t made g b (d + 1)
  ahead_step few f =
      record {
        ahead =
            λ a u v x y i uv vr o.
            besides-least t.pairs t.width made store narrower (pair_no t.rows u v) a
            (get_or store (place_of t.pairs t.width (pair_no t.rows u v) a) 0)
            (get_or made (place_of t.pairs t.width (pair_no t.rows u v) a) 0)
            (omega (arith, m.pairs_are, pair-below t.rows u v uv vr))
            (omega (arith, m.within))
            (sym (other few a u v i uv vr (apart u v o)))
            (f.ahead a u v x y i uv vr (still u v o));
      }
    where
      still : (u v : ℕ) → (u < b) ⊎ ((u ≡ b) × (d + 1 ≤ v)) → (u < b) ⊎ ((u ≡ b) × (d ≤ v))
      still u v (inl c) = inl c
      still u v (inr c) = inr (c.0, omega (arith, c.1))

      apart : (u v : ℕ) → (u < b) ⊎ ((u ≡ b) × (d + 1 ≤ v)) → (u ≡ b) → (v ≡ d) → ⊥
      apart u v (inl c) x y = omega arith
      apart u v (inr c) x y = omega (arith, c.1)

-- one pair of y lines more
module _ (s : ℕ → ℕ → ℕ → ℕ) (t : Sheet) (store₀ store made : List ℕ) (g b d first height cells : ℕ) (count flanks : List ℕ)
    (m : Measured t) (h : b < d) (dr : d ≤ t.rows) (ec : cells ≡ (d - b) * t.width)
    (eh : height ≡ get_or t.ys d 0 - get_or t.ys b 0)
    (r : Running t.sums t.strips g b d count flanks)
    (w : Within t.pairs t.width g store₀ store)
    (p : Prices s t store₀) (f : Ahead t store g b d) (k : Known s t store g b d)
    (e : Settled (level_of t b d first) height cells t.threshold t.price t.sums t.wide count flanks g store made) where
  ends-here : (a : ℕ) → a < t.strips → ends_at t.sums a b d ≡ ends_in t.sums a b d
  unfolding ends_at ends_in
  ends-here a i = wrap-fits (get_or t.sums (256 + (16 * b + a)) 0) (get_or t.sums (512 + (16 * (d - 1) + a)) 0) (m.ends-most a b d i h dr)

  sliver-here : (l : ℕ) → l < 8 → g + l < t.strips → sliver_at t.threshold height t.wide flanks t.sums b d g l ≡ sliver_in t (g + l) b d
  unfolding sliver_at sliver_in
  sliver-here l i j =
      ap (λ n. cond (leb t.threshold n) (get_or flanks l 0) (longer (get_or t.wide (g + l) 0) n (get_or flanks l 0) (ends_at t.sums (g + l) b d))) eh
      ∙ ap₂ (λ n o. cond (leb t.threshold (get_or t.ys d 0 - get_or t.ys b 0)) n (longer (get_or t.wide (g + l) 0) (get_or t.ys d 0 - get_or t.ys b 0) n o))
      (r.flanked l i j) (ends-here (g + l) j)

  shot-here : (l : ℕ) → l < 8 → g + l < t.strips → wrap t.price (sliver_at t.threshold height t.wide flanks t.sums b d g l) ≡ shot_at t (g + l) b d
  unfolding shot_at
  shot-here l i j =
      ap (wrap t.price) (sliver-here l i j)
      ∙ wrap-fits t.price (sliver_in t (g + l) b d) (m.shot-most (g + l) b d j h dr)

  -- what is stored is the price
  price_lane : (l : ℕ) → l < 8 → g + l < t.strips → get_or made (place_of t.pairs t.width (pair_no t.rows b d) (g + l)) 0 ≡ s (g + l) b d
  price_lane l i j =
      (prices_on t m store₀ store (within-below t.pairs t.width g store₀ store w) s p).follow (g + l) b d (get_or store (place_of t.pairs t.width (pair_no t.rows b d) (g + l)) 0) (get_or e.best l 0)
      (get_or made (place_of t.pairs t.width (pair_no t.rows b d) (g + l)) 0) j h dr
      (f.ahead (g + l) b d (omega arith) (omega arith) j h dr (inr (refl, omega arith)))
      (lowest-same (stacked store t.rows t.pairs t.width b d (g + l)) (λ n. s (g + l) b n + s (g + l) n d) b d (get_or store (place_of t.pairs t.width (pair_no t.rows b d) (g + l)) 0) (get_or store (place_of t.pairs t.width (pair_no t.rows b d) (g + l)) 0) (get_or e.best l 0) (get_or e.best l 0)
      (λ n x y. part_prices s t store₀ store g b d p k h dr (g + l) n (omega arith) (omega arith) j x y)
      refl
      refl
      (e.least l i))
      (subst (λ n. Judged n ((d - b) * t.width) (shot_at t (g + l) b d) (get_or e.best l 0) (get_or made (place_of t.pairs t.width (pair_no t.rows b d) (g + l)) 0)) (r.counted l i j)
      (subst (λ n. Judged (get_or count l 0) n (shot_at t (g + l) b d) (get_or e.best l 0) (get_or made (place_of t.pairs t.width (pair_no t.rows b d) (g + l)) 0)) ec
      (subst (λ n. Judged (get_or count l 0) cells n (get_or e.best l 0) (get_or made (place_of t.pairs t.width (pair_no t.rows b d) (g + l)) 0)) (shot-here l i j)
      (e.ruled.judged l i))))

  price-here : (a : ℕ) → g ≤ a → a < g + 8 → a < t.strips → get_or made (place_of t.pairs t.width (pair_no t.rows b d) a) 0 ≡ s a b d
  price-here a x y i =
      let z : g + (a - g) ≡ a = omega arith in
      subst (λ n. get_or made (place_of t.pairs t.width (pair_no t.rows b d) n) 0 ≡ s n b d) z (price_lane (a - g) (omega arith) (omega arith))

  pub price_step : g + 8 ≤ 16 → Known s t made g b (d + 1)
  price_step few = record { known = λ a u v x y i uv vr o. more a u v x y i uv vr o (Dec-eq u b) (Dec-eq v d) }
    where
      more : (a u v : ℕ) → g ≤ a → a < g + 8 → a < t.strips → u < v → v ≤ t.rows → (b < u) ⊎ ((u ≡ b) × (v < d + 1)) → (u ≡ b) ⊎ (u ≡ b → ⊥) → (v ≡ d) ⊎ (v ≡ d → ⊥)
          → get_or made (place_of t.pairs t.width (pair_no t.rows u v) a) 0 ≡ s a u v
      more a u v x y i uv vr o (inl f) (inl q) =
          ap₂ (λ c n. get_or made (place_of t.pairs t.width (pair_no t.rows c n) a) 0) f q ∙ price-here a x y i ∙ ap₂ (s a) (sym f) (sym q)
      more a u v x y i uv vr o (inl f) (inr q) = other t store made g b d first height cells count flanks m h dr e few a u v i uv vr (λ c n. q n) ∙ k.known a u v x y i uv vr (before o)
        where
          before : (b < u) ⊎ ((u ≡ b) × (v < d + 1)) → (b < u) ⊎ ((u ≡ b) × (v < d))
          before (inl c) = inl c
          before (inr c) = elim (le-or d v) [
            | inl n ↦ absurd (q (omega (arith, c.1)))
            | inr n ↦ inr (f, n)
          ]
      more a u v x y i uv vr o (inr f) q = other t store made g b d first height cells count flanks m h dr e few a u v i uv vr (λ c n. f c) ∙ k.known a u v x y i uv vr (before o)
        where
          before : (b < u) ⊎ ((u ≡ b) × (v < d + 1)) → (b < u) ⊎ ((u ≡ b) × (v < d))
          before (inl c) = inl c
          before (inr c) = absurd (f c.0)

-- from low line to low line
pub ahead-all : (t : Sheet) (store₀ store : List ℕ) (g : ℕ) → Measured t
    → Within t.pairs t.width g store₀ store
    → ((e l : ℕ) → e < t.pairs → l < 8 → g + l + t.width ≤ 16
    → Lowest (besides store₀ t.pairs t.width e (g + l)) 0 t.width 65535 (get_or store (place_of t.pairs t.width e (g + l)) 0))
    → Ahead t store g t.rows (t.rows + 1)
ahead-all t store₀ store g m w low =
    record {
      ahead =
          λ a u v x y i uv vr o.
          let z : g + (a - g) ≡ a = omega arith in
          let p : pair_no t.rows u v < t.pairs = omega (arith, m.pairs_are, pair-below t.rows u v uv vr) in
          besides-least t.pairs t.width store store₀ (λ k h. sym (within-below t.pairs t.width g store₀ store w k h)) (pair_no t.rows u v) a
          (get_or store (place_of t.pairs t.width (pair_no t.rows u v) a) 0)
          (get_or store (place_of t.pairs t.width (pair_no t.rows u v) a) 0)
          p
          (omega (arith, m.within))
          refl
          (subst (λ n. Lowest (besides store₀ t.pairs t.width (pair_no t.rows u v) n) 0 t.width 65535 (get_or store (place_of t.pairs t.width (pair_no t.rows u v) n) 0)) z
          (low (pair_no t.rows u v) (a - g) p (omega arith) (omega (arith, m.within))));
    }

module _ (t : Sheet) (store : List ℕ) (g : ℕ) where
  pub ahead-end : (b d : ℕ) → t.rows < d → d ≤ t.rows + 1 → Ahead t store g b d → Ahead t store g b (t.rows + 1)
  ahead-end b d h l k = subst (Ahead t store g b) (omega arith) k

  pub ahead-back : (b : ℕ) → 0 < b → Ahead t store g b (t.rows + 1) → Ahead t store g (b - 1) (b - 1 + 1)
  ahead-back b h k = record { ahead = λ a u v x y i uv vr o. k.ahead a u v x y i uv vr (inl (below u v o)) }
    where
      below : (u v : ℕ) → (u < b - 1) ⊎ ((u ≡ b - 1) × (b - 1 + 1 ≤ v)) → u < b
      below u v (inl c) = omega arith
      below u v (inr c) = omega (arith, c.0)

module _ (s : ℕ → ℕ → ℕ → ℕ) (t : Sheet) (store : List ℕ) (g : ℕ) where
  pub known-none : Known s t store g t.rows (t.rows + 1)
  known-none = record { known = λ a u v x y i uv vr o. absurd (none u v uv vr o) }
    where
      none : (u v : ℕ) → u < v → v ≤ t.rows → (t.rows < u) ⊎ ((u ≡ t.rows) × (v < t.rows + 1)) → ⊥
      none u v uv vr (inl c) = omega arith
      none u v uv vr (inr c) = omega (arith, c.0)

  pub known-end : (b d : ℕ) → t.rows < d → d ≤ t.rows + 1 → Known s t store g b d → Known s t store g b (t.rows + 1)
  known-end b d h l k = subst (Known s t store g b) (omega arith) k

  pub known-back : (b : ℕ) → 0 < b → Known s t store g b (t.rows + 1) → Known s t store g (b - 1) (b - 1 + 1)
  known-back b h k = record { known = λ a u v x y i uv vr o. k.known a u v x y i uv vr (done u v uv vr o) }
    where
      done : (u v : ℕ) → u < v → v ≤ t.rows → (b - 1 < u) ⊎ ((u ≡ b - 1) × (v < b - 1 + 1)) → (b < u) ⊎ ((u ≡ b) × (v < t.rows + 1))
      done u v uv vr (inr c) = absurd (omega (arith, c.0, c.1))
      done u v uv vr (inl c) = elim (le-or u b) [
        | inl z ↦ inr (omega arith, omega arith)
        | inr z ↦ inl z
      ]

  pub known-zero : (b : ℕ) → b ≤ 0 → Known s t store g b (t.rows + 1) → Known s t store g 0 (t.rows + 1)
  known-zero b h k = subst (λ n. Known s t store g n (t.rows + 1)) (omega arith) k

  known-all : Known s t store g 0 (t.rows + 1) → (a u v : ℕ) → g ≤ a → a < g + 8 → a < t.strips → u < v → v ≤ t.rows
      → get_or store (place_of t.pairs t.width (pair_no t.rows u v) a) 0 ≡ s a u v
  known-all k a u v x y i uv vr = k.known a u v x y i uv vr (elim (le-or u 0) [
    | inl z ↦ inr (omega arith, omega arith)
    | inr z ↦ inl z
  ])

-- the lanes below g are settled, and g is a multiple of eight
pub record Eights (t : Sheet) (store₀ store : List ℕ) (g : ℕ) : Type 0 where
  pub long : length store ≡ length store₀
  pub eight : ℕ
  pub eight_of : g ≡ 8 * eight
  pub eight_most : eight ≤ 2
  pub before : (k : ℕ) → k < 16 * (t.pairs * (t.width - 1)) → get_or store k 0 ≡ get_or store₀ k 0
  pub done : (s : ℕ → ℕ → ℕ → ℕ) → Prices s t store₀ → (a p q : ℕ) → a < g → a < t.strips → p < q → q ≤ t.rows
      → get_or store (place_of t.pairs t.width (pair_no t.rows p q) a) 0 ≡ s a p q

pub eights_none : (t : Sheet) (store : List ℕ) → Eights t store store 0
eights_none t store =
    record { long = refl; eight = 0; eight_of = omega arith; eight_most = omega arith; before = λ k h. refl; done = λ s p a u v h i uv vr. absurd (omega arith) }

-- there is room for eight lanes more
pub eights_room : (t : Sheet) (store₀ store : List ℕ) (g : ℕ) → Measured t → g < t.strips → Eights t store₀ store g → g + 8 ≤ 16
eights_room t store₀ store g m h e = omega (arith, m.within, m.wide-some, e.eight_of, e.eight_most)

pub eights_more : (t : Sheet) (store₀ store made : List ℕ) (g : ℕ) → Measured t → g < t.strips → Eights t store₀ store g
    → Within t.pairs t.width g store made
    → ((s : ℕ → ℕ → ℕ → ℕ) → Prices s t store → Known s t made g 0 (t.rows + 1))
    → Eights t store₀ made (g + 8)
eights_more t store₀ store made g m h e w f =
    let few = eights_room t store₀ store g m h e in
    record {
      long = w.long ∙ e.long;
      eight = e.eight + 1;
      eight_of = omega (arith, e.eight_of);
      eight_most = omega (arith, few, e.eight_of);
      before = λ k i. within-below t.pairs t.width g store made w k i ∙ e.before k i;
      done =
          λ s p a u v i j uv vr. elim (le-or g a) [
            | inl z ↦ known-all s t made g (f s (prices_on t m store₀ store e.before s p)) a u v z i j uv vr
            | inr z ↦ within_lane t.pairs t.width g (pair_no t.rows u v) a store made w few z ∙ e.done s p a u v z j uv vr
          ];
    }

pub eights_end : (t : Sheet) (store₀ store : List ℕ) (g : ℕ) → t.strips ≤ g → Eights t store₀ store g → (s : ℕ → ℕ → ℕ → ℕ) → Prices s t store₀
    → (a p q : ℕ) → a < t.strips → p < q → q ≤ t.rows → get_or store (place_of t.pairs t.width (pair_no t.rows p q) a) 0 ≡ s a p q
eights_end t store₀ store g h e s p a u v i uv vr = e.done s p a u v (omega arith) i uv vr
