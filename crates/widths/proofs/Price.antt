-- Laws of settling all strips of one width. Assumes nothing.
--
--   count-*, flank-*     == the sums between two lines, one row of cells after the other
--   Running, running-*   == the counts and flanks that run along, lane by lane
--   priced-fits          == the prices of a cut's two parts fit together, in all lanes
--   spot-apart           == no other piece stands among the lanes of a pair of y lines
--   price_step           == one pair of y lines more is settled
--   priced-*             == from low line to low line
use Prim.Native.Nat.{ℕ, suc, ◌+◌, ◌*◌, ◌-◌, ◌≤◌, ◌<◌, ◌^◌}
use mathlib.Core.Path.{◌≡◌, refl, sym, ◌∙◌, ap, ap₂, subst}
use mathlib.Core.Bool.{not}
use mathlib.Core.Logic.{◌⊎◌, inl, inr}
use mathlib.Core.List.{List}
use native.Mathlib.Omega.{arith}
use lib.ListN.{length, get_or, replicate, get_or-replicate}
use Rattle.sum.specs.Sum.{only, over}
use Rattle.sum.proofs.Sum.{le-or, over_none, over_last, only-add, only-most}
use Rattle.rule.specs.declared.Rule.{Rule}
use Rattle.rule.specs.Charge.{sliver_of, spared, charge_of}
use Rattle.piece.specs.Piece.{most_cost}
use Rattle.table.specs.Entry.{pair_no}
use Rattle.table.specs.Run.{Wrote, Lowest}
use Rattle.table.specs.Cuts.{Judged}
use Rattle.table.proofs.Entry.{pair_same}
use Rattle.table.proofs.Run.{lowest-same}
use Rattle.table.proofs.Pairs.{Dec-eq}
use Rattle.widths.specs.Lane.{added, narrowed, Narrow, spot, parts_at, ends_at, Enough}
use Rattle.widths.specs.Price.{Sheet, count_in, flank_in, shot_at, Measured, Done, Ahead, Priced}
use Rattle.rule.proofs.Charge.{sliver-most, narrow-same}
use Rattle.widths.proofs.Lane.{spot_lane, wrote_at, narrow-more, charge-most, judged-most}

-- the sums from row to row
pub count_none : (sums : List ℕ) (a b d : ℕ) → d ≤ b → count_in sums a b d ≡ 0
unfolding count_in
count_none sums a b d h = over_none b d (λ j. get_or sums (16 * j + a) 0) h

pub flank_none : (sums : List ℕ) (a b d : ℕ) → d ≤ b → flank_in sums a b d ≡ 0
unfolding flank_in
flank_none sums a b d h = over_none b d (λ j. get_or sums (768 + (16 * j + a)) 0) h

pub count-last : (sums : List ℕ) (a b d : ℕ) → b < d → count_in sums a b (d - 1) + get_or sums (16 * (d - 1) + a) 0 ≡ count_in sums a b d
unfolding count_in
count-last sums a b d h =
    let e : suc (d - 1) ≡ d = omega arith in
    sym (over_last b (d - 1) (λ j. get_or sums (16 * j + a) 0) (omega arith)) ∙ ap (λ n. over b n (λ j. get_or sums (16 * j + a) 0)) e

pub flank_last : (sums : List ℕ) (a b d : ℕ) → b < d → flank_in sums a b (d - 1) + get_or sums (768 + 16 * (d - 1) + a) 0 ≡ flank_in sums a b d
unfolding flank_in
flank_last sums a b d h =
    let e : suc (d - 1) ≡ d = omega arith in
    let z : 768 + 16 * (d - 1) + a ≡ 768 + (16 * (d - 1) + a) = omega arith in
    ap (λ n. over b (d - 1) (λ j. get_or sums (768 + (16 * j + a)) 0) + get_or sums n 0) z
    ∙ sym (over_last b (d - 1) (λ j. get_or sums (768 + (16 * j + a)) 0) (omega arith))
    ∙ ap (λ n. over b n (λ j. get_or sums (768 + (16 * j + a)) 0)) e

-- the counts and flanks of the rows of cells between the lines b and d: right in the lanes of the strips, bounded in all, and flanks only
-- where the rule counts them
pub record Running (r : Rule) (sums wide : List ℕ) (n b d : ℕ) (count flanks : List ℕ) : Type 0 where
  pub count_long : length count ≡ 16
  pub flank_long : length flanks ≡ 16
  pub counted : (l : ℕ) → l < n → get_or count l 0 ≡ count_in sums l b d
  pub count-up : (l : ℕ) → l < 16 → get_or count l 0 ≤ count_in sums l b d
  pub flanked : (l : ℕ) → l < n → get_or flanks l 0 ≡ only (not (spared r (get_or wide l 0))) (flank_in sums l b d)
  pub flank_up : (l : ℕ) → l < 16 → get_or flanks l 0 ≤ flank_in sums l b d
  pub narrow : Narrow r wide 16 flanks

pub running_none : (r : Rule) (sums wide : List ℕ) (n b : ℕ) → n ≤ 15 → Running r sums wide n b (b + 1 - 1) (replicate 16 0) (replicate 16 0)
running_none r sums wide n b h =
    record {
      count_long = refl;
      flank_long = refl;
      counted = λ l i. omega (arith, get_or-replicate {A = ℕ} 16 l 0 0 (omega arith), count_none sums l b (b + 1 - 1) (omega arith));
      count-up = λ l i. omega (arith, get_or-replicate {A = ℕ} 16 l 0 0 i);
      flanked =
          λ l i. omega (
            arith,
            get_or-replicate {A = ℕ} 16 l 0 0 (omega arith),
            flank_none sums l b (b + 1 - 1) (omega arith),
            only-most (not (spared r (get_or wide l 0))) (flank_in sums l b (b + 1 - 1)),
          );
      flank_up = λ l i. omega (arith, get_or-replicate {A = ℕ} 16 l 0 0 i);
      narrow = record { none = λ l i e. get_or-replicate {A = ℕ} 16 l 0 0 i };
    }

module _ (r : Rule) (sums wide : List ℕ) (n b d lanes : ℕ) (count flanks count₂ flanks₂ : List ℕ) (h : b < d) (few : n ≤ lanes) (most : lanes ≤ 16)
    (w : Running r sums wide n b (d - 1) count flanks)
    (wc : Wrote (added count sums (16 * (d - 1))) 0 lanes count count₂)
    (wf : Wrote (narrowed r wide flanks sums (768 + 16 * (d - 1))) 0 lanes flanks flanks₂) where
  count-here : (l : ℕ) → l < lanes → get_or count₂ l 0 ≡ get_or count l 0 + get_or sums (16 * (d - 1) + l) 0
  unfolding added
  count-here l i = wrote_at (added count sums (16 * (d - 1))) lanes count count₂ l i wc

  flank_here : (l : ℕ) → l < lanes → get_or flanks₂ l 0 ≡ get_or flanks l 0 + only (not (spared r (get_or wide l 0))) (get_or sums (768 + 16 * (d - 1) + l) 0)
  unfolding narrowed
  flank_here l i = wrote_at (narrowed r wide flanks sums (768 + 16 * (d - 1))) lanes flanks flanks₂ l i wf

  flank_all : (l : ℕ) → l < n → get_or flanks₂ l 0 ≡ only (not (spared r (get_or wide l 0))) (flank_in sums l b d)
  flank_all l i =
      flank_here l (omega arith)
      ∙ ap (λ m. m + only (not (spared r (get_or wide l 0))) (get_or sums (768 + 16 * (d - 1) + l) 0)) (w.flanked l i)
      ∙ sym (only-add (not (spared r (get_or wide l 0))) (flank_in sums l b (d - 1)) (get_or sums (768 + 16 * (d - 1) + l) 0))
      ∙ ap (only (not (spared r (get_or wide l 0)))) (flank_last sums l b d h)

  pub running_more : Running r sums wide n b d count₂ flanks₂
  running_more =
      record {
        count_long = wc.long ∙ w.count_long;
        flank_long = wf.long ∙ w.flank_long;
        counted = λ l i. omega (arith, count-here l (omega arith), w.counted l i, count-last sums l b d h);
        count-up = λ l i. elim (le-or lanes l) [
          | inl z ↦ omega (arith, wc.kept l (inr (omega arith)), w.count-up l i, count-last sums l b d h)
          | inr z ↦ omega (arith, count-here l z, w.count-up l i, count-last sums l b d h)
        ];
        flanked = flank_all;
        flank_up = λ l i. elim (le-or lanes l) [
          | inl z ↦ omega (arith, wf.kept l (inr (omega arith)), w.flank_up l i, flank_last sums l b d h)
          | inr z ↦ omega (arith, flank_here l z, only-most (not (spared r (get_or wide l 0))) (get_or sums (768 + 16 * (d - 1) + l) 0), w.flank_up l i, flank_last sums l b d h)
        ];
        narrow = record {
          none = λ l i e. elim (le-or lanes l) [
            | inl z ↦ wf.kept l (inr (omega arith)) ∙ w.narrow.none l i e
            | inr z ↦ (narrow-more r wide flanks sums flanks₂ (768 + 16 * (d - 1)) 16 lanes most w.narrow wf).none l z e
          ];
        };
      }

pub running_on : (r : Rule) (sums wide : List ℕ) (n b d : ℕ) (count flanks : List ℕ) → Running r sums wide n b d count flanks
    → Running r sums wide n b (d + 1 - 1) count flanks
running_on r sums wide n b d count flanks w = subst (λ i. Running r sums wide n b i count flanks) (omega arith) w

-- what is added is bounded in all lanes
pub running_most : (t : Sheet) (b d : ℕ) (count flanks : List ℕ) → Measured t → b < d → d ≤ t.rows
    → Running t.rule t.sums t.wide t.strips b (d - 1) count flanks
    → (l : ℕ) → l < 16
    → (added count t.sums (16 * (d - 1)) l ≤ 225) × ((added flanks t.sums (768 + 16 * (d - 1)) l ≤ 131070) × (ends_at t.sums l b d ≤ 131070))
unfolding added
running_most t b d count flanks m h k w l i = (
  omega (arith, w.count-up l i, count-last t.sums l b d h, m.count_most l b d i h k),
  (omega (arith, w.flank_up l i, flank_last t.sums l b d h, m.flank_most l b d i h k), m.ends-most l b d i h k),
)

-- both parts of a cut are settled
module _ (s : ℕ → ℕ → ℕ → ℕ) (t : Sheet) (side : List ℕ) (b d : ℕ) (k : Priced s t side b d) (h : b < d) (m : d ≤ t.rows) where
  part_prices : (a j : ℕ) → a < t.strips → b < j → j < d → parts_at side t.rows a b d j ≡ s a b j + s a j d
  unfolding parts_at
  part_prices a j i p q = ap₂ ◌+◌ (k.done a b j i p (omega arith) (inr (refl, q))) (k.done a j d i q m (inl p))

  pub priced-fits : (a j : ℕ) → a < 16 → b < j → j < d → parts_at side t.rows a b d j < 2 ^ 32
  unfolding parts_at
  priced-fits a j i p q = elim (le-or t.strips a) [
    | inr z ↦ omega (arith, part_prices a j z p q, k.most a b j z p (omega arith), k.most a j d z q m)
    | inl z ↦ spares z
  ]
    where
      spares : t.strips ≤ a → parts_at side t.rows a b d j < 2 ^ 32
      spares z = omega (arith, k.spare a b j z i p (omega arith), k.spare a j d z i q m)

-- another piece stands elsewhere
pub spot-apart : (rows a p q b d lanes : ℕ) → a < 16 → lanes ≤ 16 → p < q → q ≤ rows → b < d → d ≤ rows → ((p ≡ b) → (q ≡ d) → ⊥)
    → (spot rows a p q < spot rows 0 b d) ⊎ (spot rows 0 b d + lanes ≤ spot rows a p q)
unfolding spot
spot-apart rows a p q b d lanes i l pq qr bd dr n = elim (le-or (pair_no rows p q) (pair_no rows b d)) [
  | inr z ↦ inr (omega arith)
  | inl z ↦ elim (le-or (pair_no rows b d) (pair_no rows p q)) [
    | inr y ↦ inl (omega arith)
    | inl y ↦
        (let e : pair_no rows p q ≡ pair_no rows b d = omega arith in
        let x = pair_same rows p q b d pq qr bd dr e in
        absurd (n x.0 x.1))
  ]
]

-- one pair of y lines more
module _ (s : ℕ → ℕ → ℕ → ℕ) (t : Sheet) (side made : List ℕ) (b d height cells : ℕ) (count count₂ flanks flanks₂ : List ℕ)
    (m : Measured t) (k : Priced s t side b d) (h : b < d) (dr : d ≤ t.rows) (ec : cells ≡ (d - b) * t.width)
    (eh : height ≡ get_or t.ys d 0 - get_or t.ys b 0)
    (w : Running t.rule t.sums t.wide t.strips b d count₂ flanks₂)
    (e : Enough t.rule t.rows height cells b d t.strips t.sums t.wide count count₂ flanks flanks₂ side made) where
  -- what is stored in a lane
  stored_here : (a : ℕ) → a < e.lanes
      → Judged (get_or count₂ a 0) cells (charge_of t.rule (sliver_of t.rule (get_or t.wide a 0) height (get_or flanks₂ a 0) (ends_at t.sums a b d)))
      (get_or e.settled.best a 0) (get_or made (spot t.rows a b d) 0)
  stored_here a i =
      subst (λ n. Judged (get_or count₂ a 0) cells (charge_of t.rule (sliver_of t.rule (get_or t.wide a 0) height (get_or flanks₂ a 0) (ends_at t.sums a b d)))
      (get_or e.settled.best a 0) (get_or made n 0)) (spot_lane t.rows a b d) (e.settled.ruled.judged a i)

  -- it is the price, where there is a strip
  price-here : (a : ℕ) → a < t.strips → get_or made (spot t.rows a b d) 0 ≡ s a b d
  unfolding shot_at
  price-here a i =
      k.ahead a b d (get_or e.settled.best a 0) (get_or made (spot t.rows a b d) 0) i h dr (inr (refl, omega arith))
      (lowest-same (parts_at side t.rows a b d) (λ j. s a b j + s a j d) b d (get_or side (spot t.rows a b d) 0) (get_or side (spot t.rows a b d) 0) (get_or e.settled.best a 0) (get_or e.settled.best a 0)
      (λ j p q. part_prices s t side b d k h dr a j i p q)
      refl
      refl
      (e.settled.least a (omega (arith, e.enough))))
      (subst (λ n. Judged n ((d - b) * t.width) (shot_at t a b d) (get_or e.settled.best a 0) (get_or made (spot t.rows a b d) 0)) (w.counted a i)
      (subst (λ n. Judged (get_or count₂ a 0) n (shot_at t a b d) (get_or e.settled.best a 0) (get_or made (spot t.rows a b d) 0)) ec
      (subst (λ n. Judged (get_or count₂ a 0) cells n (get_or e.settled.best a 0) (get_or made (spot t.rows a b d) 0)) shot (stored_here a (omega (arith, e.enough))))))
    where
      shot : charge_of t.rule (sliver_of t.rule (get_or t.wide a 0) height (get_or flanks₂ a 0) (ends_at t.sums a b d)) ≡ shot_at t a b d
      shot =
          ap₂ (λ x y. charge_of t.rule (sliver_of t.rule (get_or t.wide a 0) x y (ends_at t.sums a b d))) eh (w.flanked a i)
          ∙ ap (charge_of t.rule) (narrow-same t.rule (get_or t.wide a 0) (get_or t.ys d 0 - get_or t.ys b 0) (flank_in t.sums a b d) (ends_at t.sums a b d))

  -- it is bounded, where there is none
  spare-here : (a : ℕ) → t.strips ≤ a → a < 16 → a < e.lanes → get_or made (spot t.rows a b d) 0 ≤ most_cost
  spare-here a z i l =
      judged-most _ _ _ _ _ most_cost
      (charge-most t.rule _ m.weight-most
      (omega (arith, sliver-most t.rule (get_or t.wide a 0) height (get_or flanks₂ a 0) (ends_at t.sums a b d), w.flank_up a i, m.flank_most a b d i h dr, m.ends-most a b d i h dr)))
      (omega (arith, (e.settled.least a l).first, k.spare a b d z i h dr))
      (stored_here a l)

  -- all else is as it was
  other : (a p q : ℕ) → a < 16 → p < q → q ≤ t.rows → ((p ≡ b) → (q ≡ d) → ⊥) → get_or made (spot t.rows a p q) 0 ≡ get_or side (spot t.rows a p q) 0
  other a p q i pq qr n = e.settled.ruled.kept (spot t.rows a p q) (spot-apart t.rows a p q b d e.lanes i e.most pq qr h dr n)

  past : (a : ℕ) → e.lanes ≤ a → a < 16 → get_or made (spot t.rows a b d) 0 ≡ get_or side (spot t.rows a b d) 0
  past a z i = e.settled.ruled.kept (spot t.rows a b d) (inr (omega (arith, spot_lane t.rows a b d)))

  pub price_step : Priced s t made b (d + 1)
  price_step =
      record {
        most = k.most;
        done = λ a p q i pq qr o. done_more a p q i pq qr o (Dec-eq p b) (Dec-eq q d);
        ahead =
            λ a p q best v i pq qr o low j. k.ahead a p q best v i pq qr (still p q o)
            (subst (λ n. Lowest (λ n. s a p n + s a n q) p q n best) (other a p q (omega (arith, m.strips-most)) pq qr (not-here p q o)) low)
            j;
        spare = λ a p q z i pq qr. spare_more a p q z i pq qr (Dec-eq p b) (Dec-eq q d);
      }
    where
      done_more : (a p q : ℕ) → a < t.strips → p < q → q ≤ t.rows → Done b (d + 1) p q → (p ≡ b) ⊎ (p ≡ b → ⊥) → (q ≡ d) ⊎ (q ≡ d → ⊥)
          → get_or made (spot t.rows a p q) 0 ≡ s a p q
      done_more a p q i pq qr o (inl x) (inl y) = ap₂ (λ f g. get_or made (spot t.rows a f g) 0) x y ∙ price-here a i ∙ ap₂ (s a) (sym x) (sym y)
      done_more a p q i pq qr o (inl x) (inr y) = other a p q (omega (arith, m.strips-most)) pq qr (λ f g. y g) ∙ k.done a p q i pq qr (before o)
        where
          before : Done b (d + 1) p q → Done b d p q
          before (inl u) = inl u
          before (inr u) = elim (le-or d q) [
            | inl v ↦ absurd (y (omega (arith, u.1)))
            | inr v ↦ inr (x, v)
          ]
      done_more a p q i pq qr o (inr x) y = other a p q (omega (arith, m.strips-most)) pq qr (λ f g. x f) ∙ k.done a p q i pq qr (before o)
        where
          before : Done b (d + 1) p q → Done b d p q
          before (inl u) = inl u
          before (inr u) = absurd (x u.0)

      still : (p q : ℕ) → Ahead b (d + 1) p q → Ahead b d p q
      still p q (inl u) = inl u
      still p q (inr u) = inr (u.0, omega (arith, u.1))

      not-here : (p q : ℕ) → Ahead b (d + 1) p q → (p ≡ b) → (q ≡ d) → ⊥
      not-here p q (inl u) f g = omega arith
      not-here p q (inr u) f g = omega (arith, u.1)

      spare_more : (a p q : ℕ) → t.strips ≤ a → a < 16 → p < q → q ≤ t.rows → (p ≡ b) ⊎ (p ≡ b → ⊥) → (q ≡ d) ⊎ (q ≡ d → ⊥)
          → get_or made (spot t.rows a p q) 0 ≤ most_cost
      spare_more a p q z i pq qr (inr x) y = omega (arith, other a p q i pq qr (λ f g. x f), k.spare a p q z i pq qr)
      spare_more a p q z i pq qr (inl x) (inr y) = omega (arith, other a p q i pq qr (λ f g. y g), k.spare a p q z i pq qr)
      spare_more a p q z i pq qr (inl x) (inl y) =
          subst (λ n. n ≤ most_cost) (ap₂ (λ f g. get_or made (spot t.rows a f g) 0) (sym x) (sym y)) (elim (le-or e.lanes a) [
            | inl v ↦ omega (arith, past a v i, k.spare a b d z i h dr)
            | inr v ↦ spare-here a z i v
          ])

-- from low line to low line
module _ (s : ℕ → ℕ → ℕ → ℕ) (t : Sheet) (side : List ℕ) where
  pub priced-end : (b d : ℕ) → t.rows < d → d ≤ t.rows + 1 → Priced s t side b d → Priced s t side b (t.rows + 1)
  priced-end b d h l k = subst (Priced s t side b) (omega arith) k

  pub priced-back : (b : ℕ) → 0 < b → Priced s t side b (t.rows + 1) → Priced s t side (b - 1) (b - 1 + 1)
  priced-back b h k =
      record {
        most = k.most;
        done = λ a p q i pq qr o. k.done a p q i pq qr (done p q pq qr o);
        ahead = λ a p q best v i pq qr o. k.ahead a p q best v i pq qr (ahead p q o);
        spare = k.spare;
      }
    where
      done : (p q : ℕ) → p < q → q ≤ t.rows → Done (b - 1) (b - 1 + 1) p q → Done b (t.rows + 1) p q
      done p q pq qr (inr u) = absurd (omega (arith, u.0, u.1))
      done p q pq qr (inl u) = elim (le-or p b) [
        | inl z ↦ inr (omega arith, omega arith)
        | inr z ↦ inl z
      ]

      ahead : (p q : ℕ) → Ahead (b - 1) (b - 1 + 1) p q → Ahead b (t.rows + 1) p q
      ahead p q (inl u) = inl (omega arith)
      ahead p q (inr u) = inl (omega (arith, u.0))

  pub priced-zero : (b : ℕ) → b ≤ 0 → Priced s t side b (t.rows + 1) → Priced s t side 0 (t.rows + 1)
  priced-zero b h k = subst (λ n. Priced s t side n (t.rows + 1)) (omega arith) k
