-- Laws of the fill in short numbers. Assumes nothing.
--
--   grown-none, grown-next       == of strips that have no column yet, all sums are 0; and the next width
--   kept-none, kept_more         == the store has the costs of all narrower strips, in weights: none yet, and one width more
--   stored_more, stored_past     == the table with the strips of one more width stored, and beyond its entries
--   Going, going_none, going_more, going_all
--                                == where the fill stands at a width: at the start, after one width more, and at the end
--   limits, rising-here, widths-here, asks_grow, grown-here, asks_settle, asks_store
--                                == what the steps of a width ask and tell
--   small-room, large_room, room_fits
--                                == the sizes of the stores
use Prim.Native.Nat.{ℕ, suc, ◌+◌, ◌*◌, ◌-◌, ◌≤◌, ◌<◌}
use mathlib.Core.Path.{◌≡◌, refl, sym, ◌∙◌, ap, subst}
use mathlib.Core.Bool.{Bool, true, false, not}
use mathlib.Core.Logic.{◌⊎◌, inl, inr}
use mathlib.Core.List.{List, map}
use native.Mathlib.Omega.{arith}
use native.Mathlib.Nat.{mul-le-mul, mul_comm, mul-zero}
use lib.ListN.{length, get_or, drop, replicate, length-replicate, get_or-replicate, get_or-map}
use lib.Seq.{get_or-drop}
use Rattle.sum.specs.Sum.{only}
use Rattle.sum.proofs.Sum.{le-or, over_none}
use Rattle.outline.specs.Grid.{Grid, Sound, Drawn, stored}
use Rattle.rule.specs.declared.Rule.{Rule}
use Rattle.rule.specs.Charge.{spared}
use Rattle.piece.specs.declared.Mode.TheVariants.{Straight}
use Rattle.piece.specs.Piece.{box, cell_sum, inside_cells, height, bottom, top}
use Rattle.piece.specs.Cuts.{cost}
use Rattle.table.specs.Entry.{pair_count, pair_no, entry_count}
use Rattle.table.specs.Fill.{Beyond}
use Rattle.table.proofs.Entry
use Rattle.table.proofs.Fill.{fill_limits}
use Rattle.table.proofs.Pairs.{row_before, row-most}
use Rattle.tally.specs.Sums.{Widths}
use Rattle.tally.specs.Units.{Rising}
use Rattle.tally.proofs.Shares.{rising-at, widths-at}
use Rattle.strips.specs.Lanes as lanes
use Rattle.widths.specs.Lane.{spot}
use Rattle.widths.proofs.Lane.{pairs_small}
use Rattle.widths.proofs.Fill.{FilledBelow, filled_more, stored-beyond, laid-here}
use Rattle.shares.specs.Growth.{Grown, Flanked, Ripe}
use Rattle.eights.specs.Store.{place_of, Stored}
use Rattle.eights.specs.Price.{sheet, Measured, Prices}
use Rattle.short.specs.Short.{Fillable, Filled}
use Rattle.short.proofs.Weights.{unit_cost, unit_cost_lem, KeptShort}
use Rattle.short.proofs.Prices.{measured-here, prices_here}

-- no column yet
pub grown-none : (g : Grid) (r : Rule) → Sound g → Grown g r 0 (replicate 1024 0)
unfolding inside_cells cell_sum bottom top
grown-none g r sound =
    record {
      long = length-replicate {A = ℕ} 1024 0;
      counts = λ a j l q. zeros (16 * j + a) (omega (arith, sound.rows-most)) ∙ sym (over_none a (a + 0) _ (omega arith));
      bottoms =
          λ a b d l q.
          zeros (256 + (16 * b + a)) (omega (arith, sound.rows-most))
          ∙ sym (ap (only (not (spared r (height g b (suc b))))) (over_none a (a + 0) _ (omega arith)) ∙ nothing (not (spared r (height g b (suc b)))));
      tops =
          λ a b d l q.
          zeros (512 + (16 * d + a)) (omega (arith, sound.rows-most))
          ∙ sym (ap (only (not (spared r (height g d (suc d))))) (over_none a (a + 0) _ (omega arith)) ∙ nothing (not (spared r (height g d (suc d)))));
    }
  where
    zeros : (k : ℕ) → k < 1024 → ◌≡◌ {A = ℕ} (get_or (replicate 1024 0) k 0) 0
    zeros k h = get_or-replicate 1024 k 0 0 h

    nothing : (b : Bool) → only b 0 ≡ 0
    nothing true = refl
    nothing false = refl

pub grown-next : (g : Grid) (r : Rule) (w : ℕ) (u : List ℕ) → Grown g r w u → Grown g r (w + 1 - 1) u
grown-next g r w u h =
    let z : w ≡ w + 1 - 1 = omega arith in
    subst (λ n. Grown g r n u) z h

-- the store
pub kept-none : (g : Grid) (r : Rule) (price : ℕ) (store : List ℕ) → 16 * (g.columns * pair_count g.rows) + 16 ≤ length store → KeptShort g r price 1 store
kept-none g r price store room =
    record { room = omega (arith, room, mul_comm g.columns (pair_count g.rows)); right = λ a v b d i j k l m. absurd (omega arith) }

pub kept_more : (g : Grid) (r : Rule) (price w : ℕ) (store u : List ℕ) → Sound g → 1 ≤ w → length u ≡ length store
    → ((k : ℕ) → k < 16 * (pair_count g.rows * (w - 1)) → get_or u k 0 ≡ get_or store k 0)
    → ((a b d : ℕ) → a + w ≤ g.columns → b < d → d ≤ g.rows → get_or u (place_of (pair_count g.rows) w (pair_no g.rows b d) a) 0 ≡ unit_cost g r price (box a (a + w) b d))
    → KeptShort g r price w store
    → KeptShort g r price (w + 1) u
unfolding place_of
kept_more g r price w store u sound some long same right kept =
    record { room = omega (arith, kept.room, long); right = λ a v b d i j k l m. go a v b d i j k l m (le-or w v) }
  where
    before : (a v b d : ℕ) → 1 ≤ v → v < w → a + v ≤ g.columns → b < d → d ≤ g.rows
        → place_of (pair_count g.rows) v (pair_no g.rows b d) a < 16 * (pair_count g.rows * (w - 1))
    before a v b d i z k l m =
        omega (
          arith,
          sound.columns-most,
          Entry.pair-below g.rows b d l m,
          row_before (v - 1) (w - 1) (pair_count g.rows) (omega arith),
          mul_comm (v - 1) (pair_count g.rows),
          mul_comm (w - 1) (pair_count g.rows),
        )

    go : (a v b d : ℕ) → 1 ≤ v → v < w + 1 → a + v ≤ g.columns → b < d → d ≤ g.rows → (w ≤ v) ⊎ (v < w)
        → get_or u (place_of (pair_count g.rows) v (pair_no g.rows b d) a) 0 ≡ unit_cost g r price (box a (a + v) b d)
    go a v b d i j k l m (inr z) =
        same (place_of (pair_count g.rows) v (pair_no g.rows b d) a) (before a v b d i z k l m)
        ∙ kept.right a v b d i z k l m
    go a v b d i j k l m (inl z) =
        let e : w ≡ v = omega arith in
        subst (λ n. get_or u (place_of (pair_count g.rows) n (pair_no g.rows b d) a) 0 ≡ unit_cost g r price (box a (a + n) b d)) e
        (right a b d (omega arith) l m)

-- the table: the strips of one width stored, each number of the store times the weight
module _ (g : Grid) (r : Rule) (price w : ℕ) (some : 1 ≤ w) (whole : price * r.weight ≡ 1000) (t : List ℕ) (f : FilledBelow (cost Straight g r) g w t)
    (store u : List ℕ) (rows : Stored g.columns (pair_count g.rows) w r.weight store t u)
    (right : (a b d : ℕ) → a + w ≤ g.columns → b < d → d ≤ g.rows
    → get_or store (place_of (pair_count g.rows) w (pair_no g.rows b d) a) 0 ≡ unit_cost g r price (box a (a + w) b d)) where
  -- the costs of these strips, side by side
  side : List ℕ
  side = map (λ n. r.weight * n) (drop (16 * (pair_count g.rows * (w - 1))) store)

  side-at : (e a : ℕ) → get_or side (16 * e + a) 0 ≡ r.weight * get_or store (place_of (pair_count g.rows) w e a) 0
  unfolding place_of side
  side-at e a =
      let z : 0 ≡ r.weight * 0 = sym (mul-zero r.weight) in
      let n : 16 * (pair_count g.rows * (w - 1)) + (16 * e + a) ≡ 16 * (pair_count g.rows * (w - 1) + e) + a = omega arith in
      ap (λ d. get_or side (16 * e + a) d) z
      ∙ get_or-map (λ n. r.weight * n) (drop (16 * (pair_count g.rows * (w - 1))) store) (16 * e + a) 0
      ∙ ap (λ n. r.weight * n) (get_or-drop (16 * (pair_count g.rows * (w - 1))) store (16 * e + a) 0 ∙ ap (λ k. get_or store k 0) n)

  side-rows : lanes.Stored g.columns (pair_count g.rows) w side t u
  side-rows = record { long = rows.long; made = λ a e l i. rows.made a e l i ∙ sym (side-at e a); kept = rows.kept }

  side_right : (a b d : ℕ) → a + w ≤ g.columns → b < d → d ≤ g.rows → get_or side (spot g.rows a b d) 0 ≡ cost Straight g r (box a (a + w) b d)
  unfolding spot
  side_right a b d l bd dy =
      side-at (pair_no g.rows b d) a ∙ ap (λ n. r.weight * n) (right a b d l bd dy) ∙ unit_cost_lem g r price (box a (a + w) b d) whole

  pub stored_more : FilledBelow (cost Straight g r) g (w + 1) u
  stored_more = filled_more (cost Straight g r) g w some t f side u side-rows side_right

  pub stored_past : (k : ℕ) → entry_count g.columns g.rows ≤ k → get_or u k 0 ≡ get_or t k 0
  stored_past = stored-beyond (cost Straight g r) g w some t f side u side-rows side_right

-- where the fill stands: all strips narrower than w are filled, and kept
pub record Going (g : Grid) (r : Rule) (price w : ℕ) (sums store t₀ t : List ℕ) : Type 0 where
  pub grown : Grown g r (w - 1) sums
  pub kept : KeptShort g r price w store
  pub filled : FilledBelow (cost Straight g r) g w t
  pub beyond : Beyond (entry_count g.columns g.rows) t₀ t

-- of the grid that lies in memory
module _ (columns rows : ℕ) (xs ys cs : List ℕ) (r : Rule) (price : ℕ) (short t₀ : List ℕ)
    (f : Fillable (stored columns rows xs ys cs) r price xs ys cs short t₀) where
  abbrev G : Grid
  G = stored columns rows xs ys cs

  pub limits : (1 ≤ columns) × ((columns ≤ 15) × ((1 ≤ rows) × (rows ≤ 15)))
  limits = fill_limits columns rows xs ys cs r t₀ f.ready

  pub going_none : (store : List ℕ) → 16 * (columns * pair_count rows) + 16 ≤ length store → Going G r price 1 (replicate 1024 0) store t₀ t₀
  unfolding stored
  going_none store room =
      record {
        grown = grown-none G r f.ready.sound;
        kept = kept-none G r price store room;
        filled = record { right = λ p v n. absurd (omega (arith, v.ac)) };
        beyond = record { long = refl; kept = λ k h. refl };
      }

  pub going_all : (w : ℕ) (sums store t : List ℕ) → columns < w → Going G r price w sums store t₀ t → Filled G r t₀ t
  unfolding stored
  going_all w sums store t h going =
      Entry.costs-whole Straight G r t₀ t (omega (arith, f.ready.room, going.beyond.long)) going.beyond.long
      (λ p v. going.filled.right p v (omega (arith, v.cx)))
      going.beyond.kept

  pub rising-here : (w : ℕ) → w ≤ columns → Rising xs columns w
  rising-here w most = rising-at columns rows xs ys cs (laid-here columns rows xs ys cs r t₀ f.ready) w most

  pub widths-here : (w : ℕ) (wide : List ℕ) → ((g : Grid) (ys cs : List ℕ) → g.columns ≡ columns → Drawn g xs ys cs → Widths g w wide) → Widths G w wide
  widths-here w wide h = widths-at columns rows xs ys cs (laid-here columns rows xs ys cs r t₀ f.ready) w wide h

  -- one width
  module _ (w : ℕ) (some : 1 ≤ w) (most : w ≤ columns) (sums store t : List ℕ) (going : Going G r price w sums store t₀ t) (wide : List ℕ) (widths : Widths G w wide) where
    pub asks_grow : ((length sums ≡ 1024) × ((length short ≡ 2560) × (length wide ≡ 16))) × ((rows ≤ 15) × ((1 ≤ w) × (w ≤ 15)))
    asks_grow = ((going.grown.long, (f.shares.long, widths.long)), (limits.1.1.1, (some, omega (arith, limits.1.0))))

    pub grown-here : (sums₂ : List ℕ)
        → ((g : Grid) (q : Rule) (p : ℕ) → Ripe g q p rows w r.threshold short wide sums → Grown g q w sums₂ × Flanked g q w sums₂)
        → Grown G r w sums₂ × Flanked G r w sums₂
    unfolding stored
    grown-here sums₂ h =
        h G r price
        (record {
          sound = f.ready.sound;
          rows_are = refl;
          wide-some = some;
          wide-most = most;
          threshold-is = refl;
          due_most = f.due_most;
          shares = f.shares;
          widths = widths;
          grown = going.grown;
        })

    module _ (pairs : ℕ) (e : pairs ≡ pair_count rows) (sums₂ : List ℕ) (grown : Grown G r w sums₂ × Flanked G r w sums₂) (n : ℕ) (en : n ≡ columns + 1 - w) where
      -- room for the strips of this width
      room-here : (m : ℕ) → m ≡ length store → 16 * (pairs * w) + 16 ≤ m
      unfolding stored
      room-here m h =
          let z : pairs * w ≤ pairs * columns = mul-le-mul {n₁ = pairs} {m₁ = w} {n₂ = pairs} {m₂ = columns} (omega arith) most in
          omega (arith, z, ap (λ k. k * columns) e, going.kept.room)

      pub asks_settle : Measured (sheet sums₂ wide ys r.threshold price rows pairs w n) × (16 * (pairs * w) + 16 ≤ length store)
      unfolding stored
      asks_settle = (
        subst (λ k. Measured (sheet sums₂ wide ys r.threshold price rows k w n)) (sym e)
            (measured-here G r price xs ys cs f.ready.sound f.ready.drawn w some most sums₂ wide grown.0 grown.1 widths r.threshold refl f.price-most f.due_most n en),
        room-here (length store) refl,
      )

      module _ (store₂ : List ℕ) (long : length store₂ ≡ length store) where
        pub asks_store : ((columns ≤ 15) × ((pairs ≤ 120) × (pair_count columns * pairs ≤ length t)))
            × ((1 ≤ w) × ((w ≤ columns) × ((r.weight ≤ 1000) × (16 * (pairs * w) + 16 ≤ length store₂))))
        unfolding stored entry_count
        asks_store = (
          (limits.1.0, (omega (arith, e, pairs_small rows limits.1.1.1), omega (arith, ap (λ k. pair_count columns * k) e, f.ready.room, going.beyond.long))),
          (some, (most, (f.ready.weight-most, room-here (length store₂) long))),
        )

        pub going_more : ((k : ℕ) → k < 16 * (pairs * (w - 1)) → get_or store₂ k 0 ≡ get_or store k 0)
            → ((s : ℕ → ℕ → ℕ → ℕ) → Prices s (sheet sums₂ wide ys r.threshold price rows pairs w n) store
            → (a p q : ℕ) → a < n → p < q → q ≤ rows → get_or store₂ (place_of pairs w (pair_no rows p q) a) 0 ≡ s a p q)
            → (u : List ℕ) → Stored columns pairs w r.weight store₂ t u
            → Going G r price (w + 1) sums₂ store₂ t₀ u
        unfolding stored
        going_more same settled u st =
            record {
              grown = grown-next G r w sums₂ grown.0;
              kept = kept_more G r price w store store₂ f.ready.sound some long (subst (λ k. (i : ℕ) → i < 16 * (k * (w - 1)) → get_or store₂ i 0 ≡ get_or store i 0) e same) right going.kept;
              filled = stored_more G r price w some f.whole t going.filled store₂ u strips right;
              beyond =
                  record {
                    long = st.long ∙ going.beyond.long;
                    kept = λ k h. stored_past G r price w some f.whole t going.filled store₂ u strips right k h ∙ going.beyond.kept k h;
                  };
            }
          where
            strips : Stored columns (pair_count rows) w r.weight store₂ t u
            strips = subst (λ k. Stored columns k w r.weight store₂ t u) e st

            priced : Prices (λ a p q. unit_cost G r price (box a (a + w) p q)) (sheet sums₂ wide ys r.threshold price rows pairs w n) store
            priced =
                subst (λ k. Prices (λ a p q. unit_cost G r price (box a (a + w) p q)) (sheet sums₂ wide ys r.threshold price rows k w n) store) (sym e)
                (prices_here G r price xs ys cs f.ready.sound f.ready.drawn w some most sums₂ wide grown.0 grown.1 widths r.threshold refl f.price-most f.due_most n en store
                going.kept f.whole f.ready.weight-most)

            right : (a b d : ℕ) → a + w ≤ columns → b < d → d ≤ rows → get_or store₂ (place_of (pair_count rows) w (pair_no rows b d) a) 0 ≡ unit_cost G r price (box a (a + w) b d)
            right a b d l bd dy =
                subst (λ k. get_or store₂ (place_of k w (pair_no rows b d) a) 0 ≡ unit_cost G r price (box a (a + w) b d)) e
                (settled (λ a p q. unit_cost G r price (box a (a + w) p q)) priced a b d (omega arith) bd dy)

-- the sizes of the stores
pub small-room : (columns rows : ℕ) → columns ≤ 7 → rows ≤ 7 → 16 * (columns * pair_count rows) + 16 ≤ 3152
small-room columns rows h k =
    let i : rows + 1 ≤ 8 = omega arith in
    let p : pair_count rows ≤ 28 = omega (arith, Entry.count-closed rows, mul-le-mul {n₁ = rows} {m₁ = rows + 1} {n₂ = 7} {m₂ = 8} k i) in
    omega (arith, mul-le-mul {n₁ = columns} {m₁ = pair_count rows} {n₂ = 7} {m₂ = 28} h p)

pub large_room : (columns rows : ℕ) → columns ≤ 15 → rows ≤ 15 → 16 * (columns * pair_count rows) + 16 ≤ 28816
large_room columns rows h k = omega (arith, mul-le-mul {n₁ = columns} {m₁ = pair_count rows} {n₂ = 15} {m₂ = 120} h (pairs_small rows k))

pub room_fits : (columns pairs : ℕ) → columns ≤ 15 → pairs ≤ 225 → columns * pairs ≤ 54000
room_fits columns pairs h k = row-most columns pairs (omega arith) k
