-- Laws of the sums of the strips of one width. Assumes nothing.
--
--   grown-none, grown-next
--                      == of strips that have no column yet, all sums are 0; and the next width
--   count_in_lem, flank_in_lem, ends-at
--                      == the sums between two y lines are the piece's count of inside cells, its exposed flanks, and its exposed ends
--   count_most, bottom_in, top_in, flank_most, measured
--                      == they are within what places and cells allow: one lane's, and all
--   left-most, right-most, bottom-most, top-most, inside_in
--                      == and so are the exposed sides and the inside cells of pieces, also of those that end beyond the frame
use Prim.Native.Nat.{ℕ, suc, ◌+◌, ◌*◌, ◌-◌, ◌≤◌, ◌<◌}
use mathlib.Core.Path.{◌≡◌, sym, ◌∙◌, ap, ap₂, subst}
use mathlib.Core.List.{List}
use native.Mathlib.Omega.{arith}
use native.Mathlib.Nat.{mul-le-mul}
use lib.ListN.{get_or, replicate, length-replicate, get_or-replicate}
use Rattle.sum.specs.Sum.{only, over}
use Rattle.sum.proofs.Sum.{over_none, over-one, over-same, over_add, over_swap}
use Rattle.outline.specs.Grid.{Grid, Sound}
use Rattle.piece.specs.Piece.{box, low_side, high_side, cell_sum, inside_cells, width, height, left, right, bottom, top}
use Rattle.piece.proofs.Cells.{cells-product}
use Rattle.piece.proofs.Kind.{inside-most}
use Rattle.table.proofs.Side.{span-most}
use Rattle.tally.specs.Sums.{Grown, Flanked}
use Rattle.tally.specs.Bounds.{Measured}

-- of strips that have no column yet, all sums are 0
pub grown-none : (g : Grid) → Sound g → Grown g 0 (replicate 1024 0)
unfolding inside_cells cell_sum bottom top
grown-none g sound =
    record {
      long = length-replicate {A = ℕ} 1024 0;
      counts = λ a j l q. zeros (16 * j + a) (omega (arith, sound.rows-most)) ∙ sym (over_none a (a + 0) _ (omega arith));
      bottoms = λ a b d l q. zeros (256 + (16 * b + a)) (omega (arith, sound.rows-most)) ∙ sym (over_none a (a + 0) _ (omega arith));
      tops = λ a b d l q. zeros (512 + (16 * d + a)) (omega (arith, sound.rows-most)) ∙ sym (over_none a (a + 0) _ (omega arith));
    }
  where
    zeros : (k : ℕ) → k < 1024 → ◌≡◌ {A = ℕ} (get_or (replicate 1024 0) k 0) 0
    zeros k h = get_or-replicate 1024 k 0 0 h

-- as a loop over widths needs it
pub grown-next : (g : Grid) (w : ℕ) (u : List ℕ) → Grown g w u → Grown g (w + 1 - 1) u
grown-next g w u h = (let e : w ≡ w + 1 - 1 = omega arith in subst (λ n. Grown g n u) e h)

module _ (g : Grid) (sound : Sound g) where
  pub left-most : (a c b d : ℕ) → b ≤ d → left g (box a c b d) ≤ 65535
  unfolding left height
  left-most a c b d q = span-most g.y sound.y-up sound.y-most (λ j. low_side (λ i. g.inside i j) a) b d q

  pub right-most : (a c b d : ℕ) → b ≤ d → right g (box a c b d) ≤ 65535
  unfolding right height
  right-most a c b d q = span-most g.y sound.y-up sound.y-most (λ j. high_side (λ i. g.inside i j) c) b d q

  pub bottom-most : (a c b d : ℕ) → a ≤ c → bottom g (box a c b d) ≤ 65535
  unfolding bottom width
  bottom-most a c b d q = span-most g.x sound.x-up sound.x-most (λ i. low_side (g.inside i) b) a c q

  pub top-most : (a c b d : ℕ) → a ≤ c → top g (box a c b d) ≤ 65535
  unfolding top width
  top-most a c b d q = span-most g.x sound.x-up sound.x-most (λ i. high_side (g.inside i) d) a c q

  pub inside_in : (a w b d : ℕ) → w ≤ 15 → b ≤ d → d ≤ g.rows → inside_cells g (box a (a + w) b d) ≤ 225
  inside_in a w b d k q l =
      omega (
        arith,
        inside-most g (box a (a + w) b d),
        cells-product (box a (a + w) b d) (omega arith) q,
        mul-le-mul {n₁ = a + w - a} {m₁ = d - b} {n₂ = 15} {m₂ = 15} (omega arith) (omega (arith, sound.rows-most)),
      )

-- the sums between two y lines, in every lane
module _ (g : Grid) (sound : Sound g) (w : ℕ) (k : w ≤ g.columns) (u : List ℕ) (grown : Grown g w u) (a : ℕ) (l : a < 16) where
  pub count_in_lem : (b d : ℕ) → d ≤ g.rows → over b d (λ j. get_or u (16 * j + a) 0) ≡ inside_cells g (box a (a + w) b d)
  unfolding inside_cells cell_sum
  count_in_lem b d h =
      over-same b d (λ j. get_or u (16 * j + a) 0) (λ j. over a (a + w) (λ i. only (g.inside i j) 1))
      (λ j p q. grown.counts a j l (omega arith)
      ∙ over-same a (a + w) (λ i. over j (suc j) (λ n. only (g.inside i n) 1)) (λ i. only (g.inside i j) 1) (λ i x y. over-one j (λ n. only (g.inside i n) 1)))
      ∙ sym (over_swap a (a + w) b d (λ i j. only (g.inside i j) 1))

  pub count_most : (b d : ℕ) → b ≤ d → d ≤ g.rows → over b d (λ j. get_or u (16 * j + a) 0) ≤ 225
  count_most b d q h = omega (arith, count_in_lem b d h, inside_in g sound a w b d (omega (arith, sound.columns-most)) q h)

  pub ends-at : (b d : ℕ) → b < d → d ≤ g.rows
      → get_or u (256 + (16 * b + a)) 0 + get_or u (512 + (16 * (d - 1) + a)) 0 ≡ bottom g (box a (a + w) b d) + top g (box a (a + w) b d)
  ends-at b d q h =
      let z : suc (d - 1) ≡ d = omega arith in
      ap₂ ◌+◌ (grown.bottoms a b d l (omega arith)) (grown.tops a b (d - 1) l (omega arith) ∙ ap (λ n. top g (box a (a + w) b n)) z)

  pub bottom_in : (b : ℕ) → b < g.rows → get_or u (256 + (16 * b + a)) 0 ≤ 65535
  bottom_in b h = omega (arith, grown.bottoms a b b l h, bottom-most g sound a (a + w) b b (omega arith))

  pub top_in : (d : ℕ) → d < g.rows → get_or u (512 + (16 * d + a)) 0 ≤ 65535
  top_in d h = omega (arith, grown.tops a d d l h, top-most g sound a (a + w) d (suc d) (omega arith))

  module _ (f : Flanked g w u) where
    pub flank_in_lem : (b d : ℕ) → d ≤ g.rows
        → over b d (λ j. get_or u (768 + (16 * j + a)) 0) ≡ left g (box a (a + w) b d) + right g (box a (a + w) b d)
    unfolding left right
    flank_in_lem b d h =
        over-same b d (λ j. get_or u (768 + (16 * j + a)) 0) (λ j. L j + R j)
        (λ j p q. f.flanks a j l (omega arith) ∙ ap₂ ◌+◌ (over-one j L) (over-one j R))
        ∙ over_add b d L R
      where
        L : ℕ → ℕ
        L j = only (low_side (λ i. g.inside i j) a) (height g j (suc j))

        R : ℕ → ℕ
        R j = only (high_side (λ i. g.inside i j) (a + w)) (height g j (suc j))

    pub flank_most : (b d : ℕ) → b ≤ d → d ≤ g.rows → over b d (λ j. get_or u (768 + (16 * j + a)) 0) ≤ 131070
    flank_most b d q h = omega (arith, flank_in_lem b d h, left-most g sound a (a + w) b d q, right-most g sound a (a + w) b d q)

-- and in all lanes
pub measured : (g : Grid) → Sound g → (w : ℕ) → w ≤ g.columns → (u : List ℕ) → Grown g w u → Flanked g w u → Measured g.rows u
measured g sound w k u grown f =
    record {
      long = grown.long;
      count_most = λ a b d l. count_most g sound w k u grown a l b d;
      bottom-most = λ a b l. bottom_in g sound w k u grown a l b;
      top-most = λ a d l. top_in g sound w k u grown a l d;
      flank_most = λ a b d l. flank_most g sound w k u grown a l f b d;
    }
