-- The strips of one width, as the fill in short numbers settles them. Assumes nothing.
--
--   wrap-fits       == what fits 16 bits does not wrap
--   count-inside, flank_in_lem, ends_in_lem
--                   == the sums between two y lines are the piece's count of inside cells, and its flanks and ends where the rule counts them
--   shot_unit       == what a piece costs as a shot, by the sums, is the price and its sliver
--   cells-all       == how many cells it has
--   measured-here   == the sums of the strips of one width are within bounds
--   prices_here     == the costs in weights are prices of a store that has those of all narrower strips
use Prim.Native.Nat.{ℕ, suc, ◌+◌, ◌*◌, ◌-◌, ◌≤◌, ◌<◌}
use mathlib.Core.Path.{◌≡◌, refl, sym, ◌∙◌, ap, ap₂, subst}
use mathlib.Core.Bool.{Bool, true, false, cond, not}
use mathlib.Core.Logic.{◌⊎◌, inl, inr}
use mathlib.Core.List.{List}
use native.Mathlib.Omega.{arith}
use native.Mathlib.Nat.{mod-eq_of_lt, mul_comm}
use lib.Dec.{leb}
use borrow.Author.Tests.{leb-false}
use lib.ListN.{get_or}
use Rattle.sum.specs.Sum.{over, only}
use Rattle.sum.proofs.Sum.{over-one, over-same, over_add, over_swap, only-over, rise}
use Rattle.outline.specs.Grid.{Grid, Sound, Drawn}
use Rattle.rule.specs.declared.Rule.{Rule}
use Rattle.rule.specs.Rules.{limit}
use Rattle.rule.specs.Charge.{longer, sliver_of, spared}
use Rattle.rule.proofs.Charge.{narrow-none, narrow-same, sliver_tall, sliver-low}
use Rattle.piece.specs.Piece.{box, cell_sum, cells, inside_cells, low_side, high_side, width, height, left, right, bottom, top, sliver}
use Rattle.piece.proofs.Cells.{cells-product}
use Rattle.piece.proofs.Turned.{turned, sound-turn}
use Rattle.table.specs.Entry.{pair_count, pair_no}
use Rattle.table.specs.Run.{Lowest}
use Rattle.tally.specs.Sums.{Widths}
use Rattle.tally.proofs.Sums.{inside_in}
use Rattle.shares.specs.Shares.{wrap, dues_of}
use Rattle.shares.specs.Growth.{Grown, Flanked}
use Rattle.eights.specs.Store.{besides}
use Rattle.eights.specs.Price.{sheet, count_in, flank_in, ends_in, sliver_in, shot_at, Measured, Prices}
use Rattle.short.proofs.Weights.{unit_cost, shared, narrow, bottom-owed, top-owed, flanks-owed, sliver-owed, due_sum, due_part, unit_parts_vertical, unit_parts_horizontal, judged-units}
pub use Rattle.short.proofs.Weights.{KeptShort}

pub wrap-fits : (m n : ℕ) → m + n ≤ 65535 → wrap m n ≡ m + n
unfolding wrap
wrap-fits m n h = mod-eq_of_lt (omega arith)

-- a sliver from flanks that are 0 where the rule spares them, and ends that are whole where it does not
sliver_masked : (r : Rule) (t w h f e W H U L : ℕ) → t ≡ r.threshold → w ≡ W → h ≡ H → f ≡ only (not (spared r W)) U → (spared r H ≡ false → e ≡ L)
    → cond (leb t h) f (longer w h f e) ≡ sliver_of r W H U L
unfolding spared
sliver_masked r t w h f e W H U L et ew eh ef ee =
    ap₂ (λ i j. cond (leb i j) f (longer w j f e)) et eh
    ∙ ap₂ (λ i j. cond (leb r.threshold H) j (longer i H j e)) ew ef
    ∙ go (spared r H) refl
  where
    go : (s : Bool) → spared r H ≡ s → cond s (only (not (spared r W)) U) (longer W H (only (not (spared r W)) U) e) ≡ sliver_of r W H U L
    go true q = sym (sliver_tall r W H (only (not (spared r W)) U) L q (λ p. narrow-none r W U p)) ∙ narrow-same r W H U L
    go false q = ap (longer W H (only (not (spared r W)) U)) (ee q) ∙ sym (sliver-low r W H (only (not (spared r W)) U) L q) ∙ narrow-same r W H U L

pub cells-all : (w a b d : ℕ) → b < d → (d - b) * w ≡ cells (box a (a + w) b d)
cells-all w a b d bd =
    let z : a + w - a ≡ w = omega arith in
    omega (arith, cells-product (box a (a + w) b d) (omega arith) (omega arith), mul_comm (d - b) w, ap (λ n. n * (d - b)) z)

module _ (g : Grid) (r : Rule) (price : ℕ) (xs ys cells : List ℕ) (sound : Sound g) (drawn : Drawn g xs ys cells) (w : ℕ) (some : 1 ≤ w) (most : w ≤ g.columns)
    (sums wide : List ℕ) (grown : Grown g r w sums) (flanked : Flanked g r w sums) (widths : Widths g w wide) (t : ℕ) (te : r.threshold ≡ t)
    (cheap : price ≤ 1000) (due : dues_of g r price ≤ 64535) (n : ℕ) (en : n ≡ g.columns + 1 - w) where
  strip_in : (a : ℕ) → a < n → a + w ≤ g.columns
  strip_in a i = omega arith

  pub count-inside : (a b d : ℕ) → a + w ≤ g.columns → d ≤ g.rows → count_in sums a b d ≡ inside_cells g (box a (a + w) b d)
  unfolding count_in inside_cells cell_sum
  count-inside a b d l dy =
      over-same b d (λ j. get_or sums (16 * j + a) 0) (λ j. over a (a + w) (λ i. only (g.inside i j) 1))
      (λ j p q. grown.counts a j (omega (arith, sound.columns-most)) (omega arith)
      ∙ over-same a (a + w) (λ i. over j (suc j) (λ n. only (g.inside i n) 1)) (λ i. only (g.inside i j) 1) (λ i x y. over-one j (λ n. only (g.inside i n) 1)))
      ∙ sym (over_swap a (a + w) b d (λ i j. only (g.inside i j) 1))

  pub flank_in_lem : (a b d : ℕ) → a + w ≤ g.columns → d ≤ g.rows
      → flank_in sums a b d ≡ only (not (spared r (width g a (a + w)))) (left g (box a (a + w) b d) + right g (box a (a + w) b d))
  unfolding flank_in left right
  flank_in_lem a b d l dy =
      over-same b d (λ j. get_or sums (768 + (16 * j + a)) 0) (λ j. only counted (L j + R j))
      (λ j p q. flanked.flanks a j l (omega arith) ∙ ap₂ (λ x y. only counted (x + y)) (over-one j L) (over-one j R))
      ∙ only-over counted b d (λ j. L j + R j)
      ∙ ap (only counted) (over_add b d L R)
    where
      counted : Bool
      counted = not (spared r (width g a (a + w)))

      L : ℕ → ℕ
      L j = only (low_side (λ i. g.inside i j) a) (height g j (suc j))

      R : ℕ → ℕ
      R j = only (high_side (λ i. g.inside i j) (a + w)) (height g j (suc j))

  pub ends_in_lem : (a b d : ℕ) → a + w ≤ g.columns → b < d → d ≤ g.rows
      → ends_in sums a b d
      ≡ only (not (spared r (height g b (suc b)))) (bottom g (box a (a + w) b d))
      + only (not (spared r (height g (d - 1) (suc (d - 1))))) (top g (box a (a + w) b d))
  unfolding ends_in
  ends_in_lem a b d l bd dy =
      let z : suc (d - 1) ≡ d = omega arith in
      ap₂ ◌+◌ (grown.bottoms a b d (omega (arith, sound.columns-most)) (omega arith))
      (grown.tops a b (d - 1) (omega (arith, sound.columns-most)) (omega arith)
      ∙ ap (λ n. only (not (spared r (height g (d - 1) (suc (d - 1))))) (top g (box a (a + w) b n))) z)

  -- the rows of a low piece are low
  low-row : (b d j : ℕ) → b ≤ j → j < d → spared r (height g b d) ≡ false → spared r (height g j (suc j)) ≡ false
  unfolding spared width height
  low-row b d j h k q = narrow (turned g) r (sound-turn g sound) b d j h k (leb-false r.threshold (height g b d) q)

  sliver_in_lem : (a b d : ℕ) → a + w ≤ g.columns → b < d → d ≤ g.rows
      → sliver_in (sheet sums wide ys t price g.rows (pair_count g.rows) w n) a b d ≡ sliver g r (box a (a + w) b d)
  unfolding sliver_in sliver
  sliver_in_lem a b d l bd dy =
      sliver_masked r t (get_or wide a 0) (get_or ys d 0 - get_or ys b 0) (flank_in sums a b d) (ends_in sums a b d) (width g a (a + w)) (height g b d)
      (left g (box a (a + w) b d) + right g (box a (a + w) b d)) (bottom g (box a (a + w) b d) + top g (box a (a + w) b d))
      (sym te)
      (widths.widths a l)
      high
      (flank_in_lem a b d l dy)
      (λ q.
      ends_in_lem a b d l bd dy
      ∙ ap₂ (λ s u. only (not s) (bottom g (box a (a + w) b d)) + only (not u) (top g (box a (a + w) b d)))
      (low-row b d b (omega arith) bd q) (low-row b d (d - 1) (omega arith) (omega arith) q))
    where
      high : get_or ys d 0 - get_or ys b 0 ≡ height g b d
      high = unfold height in ap₂ ◌-◌ (drawn.y-at d dy) (drawn.y-at b (omega arith))

  pub shot_unit : (a b d : ℕ) → a + w ≤ g.columns → b < d → d ≤ g.rows
      → shot_at (sheet sums wide ys t price g.rows (pair_count g.rows) w n) a b d ≡ price + sliver g r (box a (a + w) b d)
  unfolding shot_at
  shot_unit a b d l bd dy = ap (λ k. price + k) (sliver_in_lem a b d l bd dy)

  -- all that is counted of a strip fits 16 bits
  sides-most : (a b d : ℕ) → a + w ≤ g.columns → b < d → d ≤ g.rows
      → shared g r 1 (box a (a + w) b d) + shared g r 2 (box a (a + w) b d) + shared g r 3 (box a (a + w) b d) + shared g r 4 (box a (a + w) b d) ≤ 64535
  sides-most a b d l bd dy =
      omega (arith, due_sum g r price (box a (a + w) b d), due_part g r sound price (box a (a + w) b d) (omega arith) l (omega arith) dy)

  top_of : (a b d : ℕ) → b < d
      → only (not (spared r (height g (d - 1) (suc (d - 1))))) (top g (box a (a + w) b d)) ≤ shared g r 2 (box a (a + w) b d)
  top_of a b d bd =
      let z : suc (d - 1) ≡ d = omega arith in
      subst (λ m. only (not (spared r (height g (d - 1) (suc (d - 1))))) (top g (box a (a + w) b m)) ≤ shared g r 2 (box a (a + w) b m)) z
      (top-owed g r a (a + w) b (d - 1) (omega arith))

  pub measured-here : Measured (sheet sums wide ys t price g.rows (pair_count g.rows) w n)
  measured-here =
      record {
        sums-length = grown.long;
        wide-length = widths.long;
        ys-length = drawn.ys-length;
        rows-most = sound.rows-most;
        pairs_are = refl;
        wide-some = some;
        within = omega (arith, sound.columns-most);
        ys-up = λ b d p q. omega (arith, drawn.y-at b (omega arith), drawn.y-at d q, rise g.y sound.y-up b d p);
        count_most =
            λ a b d i p q.
            omega (arith, count-inside a b d (strip_in a i) q, inside_in g sound a w b d (omega (arith, sound.columns-most)) (omega arith) q);
        flank_most =
            λ a b d i p q.
            omega (
              arith,
              flank_in_lem a b d (strip_in a i) q,
              flanks-owed g r sound (box a (a + w) b d) (omega arith),
              sides-most a b d (strip_in a i) p q,
            );
        ends-most =
            λ a b d i p q.
            omega (
              arith,
              ends_in_lem a b d (strip_in a i) p q,
              bottom-owed g r a (a + w) b d p,
              top_of a b d p,
              sides-most a b d (strip_in a i) p q,
            );
        shot-most =
            λ a b d i p q.
            omega (
              arith,
              shot_unit a b d (strip_in a i) p q,
              sliver-owed g r sound (box a (a + w) b d) (omega arith) p,
              sides-most a b d (strip_in a i) p q,
            );
      }

  pub prices_here : (store : List ℕ) → KeptShort g r price w store → price * r.weight ≡ 1000 → r.weight ≤ limit
      → Prices (λ a p q. unit_cost g r price (box a (a + w) p q)) (sheet sums wide ys t price g.rows (pair_count g.rows) w n) store
  prices_here store kept whole hw =
      record {
        fits =
            λ a p k q i pk kq qr.
            omega (
              arith,
              unit_parts_horizontal g r sound price (box a (a + w) p q) (omega arith) (strip_in a i) (omega arith) qr k (omega arith) (omega arith),
            );
        follow =
            λ a p q upright best v i pq qr lv lh j.
            judged-units g r price sound whole due a (a + w) p q (omega arith) (strip_in a i) pq qr (count_in sums a p q) ((q - p) * w)
            (shot_at (sheet sums wide ys t price g.rows (pair_count g.rows) w n) a p q)
            upright
            best
            v
            (count-inside a p q (strip_in a i) qr)
            (cells-all w a p q pq)
            (shot_unit a p q (strip_in a i) pq qr)
            (upright-cuts a p q upright (strip_in a i) pq qr lv)
            lh
            j;
      }
    where
      -- what the store has for the two parts of a vertical cut
      parts-kept : (a p q v : ℕ) → a + w ≤ g.columns → p < q → q ≤ g.rows → 0 < v → v < w
          → besides store (pair_count g.rows) w (pair_no g.rows p q) a v
          ≡ unit_cost g r price (box a (a + v) p q) + unit_cost g r price (box (a + v) (a + w) p q)
      parts-kept a p q v l pq qr h k =
          unfold besides in
          let z : a + v + (w - v) ≡ a + w = omega arith in
          ap₂ wrap (kept.right a v p q h k (omega arith) pq qr)
          (kept.right (a + v) (w - v) p q (omega arith) (omega arith) (omega arith) pq qr ∙ ap (λ m. unit_cost g r price (box (a + v) m p q)) z)
          ∙ wrap-fits (unit_cost g r price (box a (a + v) p q)) (unit_cost g r price (box (a + v) (a + w) p q))
          (omega (
            arith,
            unit_parts_vertical g r sound price (box a (a + w) p q) (omega arith) l (omega arith) qr (a + v) (omega arith) (omega arith),
          ))

      upright-cuts : (a p q m : ℕ) → a + w ≤ g.columns → p < q → q ≤ g.rows
          → Lowest (besides store (pair_count g.rows) w (pair_no g.rows p q) a) 0 w 65535 m
          → Lowest (λ j. unit_cost g r price (box a j p q) + unit_cost g r price (box j (a + w) p q)) a (a + w) 65535 m
      upright-cuts a p q m l pq qr lv = record { first = lv.first; each = each; one = one lv.one }
        where
          each : (j : ℕ) → a < j → j < a + w → m ≤ unit_cost g r price (box a j p q) + unit_cost g r price (box j (a + w) p q)
          each j h k =
              let z : a + (j - a) ≡ j = omega arith in
              omega (
                arith,
                lv.each (j - a) (omega arith) (omega arith),
                parts-kept a p q (j - a) l pq qr (omega arith) (omega arith),
                ap (λ i. unit_cost g r price (box a i p q) + unit_cost g r price (box i (a + w) p q)) z,
              )

          one : (m ≡ 65535) ⊎ ((v : ℕ) × (0 < v) × (v < w) × (m ≡ besides store (pair_count g.rows) w (pair_no g.rows p q) a v))
              → (m ≡ 65535) ⊎ ((j : ℕ) × (a < j) × (j < a + w) × (m ≡ unit_cost g r price (box a j p q) + unit_cost g r price (box j (a + w) p q)))
          one (inl e) = inl e
          one (inr s) = inr (a + s.0, omega (arith, s.1), omega (arith, s.2), s.3 ∙ parts-kept a p q s.0 l pq qr s.1 s.2)
