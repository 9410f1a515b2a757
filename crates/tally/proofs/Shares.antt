-- Laws of measuring: the shares of the cells, and the widths of the strips. Assumes nothing.
--
--   neighbour-*        == the cell before the first, and before a later one
--   put_five, bare-same, put-shares
--                      == five numbers stored, and that they are the shares of a cell by the lists
--   share_are, share-none, share-most
--                      == the shares by the lists are those of the grid; beyond the frame they are 0; none is above 65535
--   units-*            == the shares as they are measured: none, one cell more, a row's end, all
--   measurable, row_at, units-end, limits_at
--                      == the same for the grid that lies in memory
--   widths-more, widths-all, rising
--                      == the widths of the strips: one more, all; places rise
--   rising-at, widths-at
--                      == the same for the grid that lies in memory: what a caller of `widths` hands in and gets
use Prim.Native.Nat.{ℕ, zero, suc, ◌+◌, ◌*◌, ◌-◌, ◌≤◌, ◌<◌}
use mathlib.Core.Path.{◌≡◌, refl, sym, ◌∙◌, ap, ap₂, subst}
use mathlib.Core.Bool.{Bool, false, not, ◌&&◌}
use mathlib.Core.Logic.{inl, inr}
use mathlib.Core.List.{List}
use native.Mathlib.Omega.{arith}
use lib.ListN.{length, get_or, set, replicate, length-set, length-replicate, get_or-replicate}
use lib.Seq.{get_or-set_same, get_or-set_other}
use Rattle.sum.specs.Sum.{only}
use Rattle.sum.proofs.Sum.{le-or, only-most, rise}
use Rattle.outline.specs.Grid.{Grid, Sound, Drawn, stored}
use Rattle.piece.specs.Piece.{low_side, high_side, width, height}
use Rattle.table.specs.Run.{Wrote, bare}
use Rattle.table.proofs.Run.{wrote_more}
use Rattle.table.proofs.Side.{bare-only}
use Rattle.tally.specs.Sums.{Widths}
use Rattle.tally.specs.Units.{five, share, low_neighbour, share_of, Measurable, Spans, Around, Put, Laid, Row, UnitsTo, Units, span_of, Rising}

-- the cell before
pub neighbour_first : (k here step beyond : ℕ) → k ≡ 0 → beyond < 256 → (beyond ≡ low_neighbour k here step beyond) × (beyond < 256)
unfolding low_neighbour
neighbour_first k here step beyond e h = (sym (ap (λ n. low_neighbour n here step beyond) e), h)

pub neighbour_later : (k here step beyond : ℕ) → (k ≡ 0 → ⊥) → here < 256 → (here - step ≡ low_neighbour k here step beyond) × (here - step < 256)
unfolding low_neighbour
neighbour_later zero here step beyond n h = absurd (n refl)
neighbour_later (suc k) here step beyond n h = (refl, omega arith)

pub neighbour_room : (k here step : ℕ) → (k ≡ 0 → ⊥) → (0 < k → step ≤ here) → step ≤ here
neighbour_room zero here step n h = absurd (n refl)
neighbour_room (suc k) here step n h = h (omega arith)

-- five stores
module _ (t : List ℕ) (at c b p l r : ℕ) (long : length t ≡ 2560) (h : at < 512) where
  abbrev one : List ℕ
  one = set t at c

  abbrev two : List ℕ
  two = set one (512 + at) b

  abbrev three : List ℕ
  three = set two (1024 + at) p

  abbrev four : List ℕ
  four = set three (1536 + at) l

  abbrev all : List ℕ
  all = set four (2048 + at) r

  made : (n : ℕ) → n < 5 → get_or all (512 * n + at) 0 ≡ five c b p l r n
  unfolding five
  made zero q =
      let e : 512 * 0 + at ≡ at = omega arith in
      ap (λ k. get_or all k 0) e
      ∙ get_or-set_other four (2048 + at) at r 0 (λ z. omega arith)
      ∙ get_or-set_other three (1536 + at) at l 0 (λ z. omega arith)
      ∙ get_or-set_other two (1024 + at) at p 0 (λ z. omega arith)
      ∙ get_or-set_other one (512 + at) at b 0 (λ z. omega arith)
      ∙ get_or-set_same t at c 0 (omega arith)
  made (suc zero) q =
      get_or-set_other four (2048 + at) (512 + at) r 0 (λ z. omega arith)
      ∙ get_or-set_other three (1536 + at) (512 + at) l 0 (λ z. omega arith)
      ∙ get_or-set_other two (1024 + at) (512 + at) p 0 (λ z. omega arith)
      ∙ get_or-set_same one (512 + at) b 0 (simp length-set (omega arith))
  made (suc (suc zero)) q =
      get_or-set_other four (2048 + at) (1024 + at) r 0 (λ z. omega arith)
      ∙ get_or-set_other three (1536 + at) (1024 + at) l 0 (λ z. omega arith)
      ∙ get_or-set_same two (1024 + at) p 0 (simp length-set (omega arith))
  made (suc (suc (suc zero))) q =
      get_or-set_other four (2048 + at) (1536 + at) r 0 (λ z. omega arith)
      ∙ get_or-set_same three (1536 + at) l 0 (simp length-set (omega arith))
  made (suc (suc (suc (suc zero)))) q = get_or-set_same four (2048 + at) r 0 (simp length-set (omega arith))
  made (suc (suc (suc (suc (suc n))))) q = absurd (omega arith)

  kept : (n k : ℕ) → k < 512 → (k ≡ at → ⊥) → get_or all (512 * n + k) 0 ≡ get_or t (512 * n + k) 0
  kept n k q ne =
      get_or-set_other four (2048 + at) (512 * n + k) r 0 (λ z. ne (omega arith))
      ∙ get_or-set_other three (1536 + at) (512 * n + k) l 0 (λ z. ne (omega arith))
      ∙ get_or-set_other two (1024 + at) (512 * n + k) p 0 (λ z. ne (omega arith))
      ∙ get_or-set_other one (512 + at) (512 * n + k) b 0 (λ z. ne (omega arith))
      ∙ get_or-set_other t at (512 * n + k) c 0 (λ z. ne (omega arith))

  pub put_five : Put (five c b p l r) at t (set (set (set (set (set t at c) (512 + at) b) (1024 + at) p) (1536 + at) l) (2048 + at) r)
  put_five = record { long = simp length-set; made = made; kept = kept }

pub five-same : (c b p l r c' b' p' l' r' n : ℕ) → c ≡ c' → b ≡ b' → p ≡ p' → l ≡ l' → r ≡ r' → five c b p l r n ≡ five c' b' p' l' r' n
five-same c b p l r c' b' p' l' r' n ec eb ep el er =
    ap (λ x. five x b p l r n) ec
    ∙ ap (λ x. five c' x p l r n) eb
    ∙ ap (λ x. five c' b' x l r n) ep
    ∙ ap (λ x. five c' b' p' x r n) el
    ∙ ap (λ x. five c' b' p' l' x n) er

pub five-none : (n : ℕ) → n < 5 → five 0 0 0 0 0 n ≡ 0
unfolding five
five-none zero h = refl
five-none (suc zero) h = refl
five-none (suc (suc zero)) h = refl
five-none (suc (suc (suc zero))) h = refl
five-none (suc (suc (suc (suc zero)))) h = refl
five-none (suc (suc (suc (suc (suc n))))) h = absurd (omega arith)

five-most : (c b p l r m n : ℕ) → c ≤ m → b ≤ m → p ≤ m → l ≤ m → r ≤ m → n < 5 → five c b p l r n ≤ m
unfolding five
five-most c b p l r m zero hc hb hp hl hr h = hc
five-most c b p l r m (suc zero) hc hb hp hl hr h = hb
five-most c b p l r m (suc (suc zero)) hc hb hp hl hr h = hp
five-most c b p l r m (suc (suc (suc zero))) hc hb hp hl hr h = hl
five-most c b p l r m (suc (suc (suc (suc zero)))) hc hb hp hl hr h = hr
five-most c b p l r m (suc (suc (suc (suc (suc n))))) hc hb hp hl hr h = absurd (omega arith)

-- the numbers stored are the shares of the cell (i, j) by the lists
pub bare-same : (near near' far far' len len' : ℕ) → near ≡ near' → far ≡ far' → len ≡ len' → bare near far len ≡ bare near' far' len'
bare-same near near' far far' len len' en ef el = ap (λ n. bare n far len) en ∙ ap₂ (bare near') ef el

pub put-shares : (xs ys cells : List ℕ) (i j at c under above before after wide high b p l r : ℕ) (t u : List ℕ)
    → Spans wide high xs ys i j
    → Around c under above before after cells i j
    → b ≡ bare c under wide
    → p ≡ bare c above wide
    → l ≡ bare c before high
    → r ≡ bare c after high
    → Put (five c b p l r) at t u
    → Put (share_of xs ys cells i j) at t u
unfolding share_of
put-shares xs ys cells i j at c under above before after wide high b p l r t u s n eb ep el er o =
    record {
      long = o.long;
      made =
          λ k h. o.made k h
          ∙ five-same c b p l r _ _ _ _ _ k n.cell-is
          (eb ∙ bare-same _ _ _ _ _ _ n.cell-is n.under-is s.wide-is)
          (ep ∙ bare-same _ _ _ _ _ _ n.cell-is n.above-is s.wide-is)
          (el ∙ bare-same _ _ _ _ _ _ n.cell-is n.before-is s.high-is)
          (er ∙ bare-same _ _ _ _ _ _ n.cell-is n.after-is s.high-is);
      kept = o.kept;
    }

-- a test that fails
off : (p q : Bool) (n : ℕ) → p ≡ false → only (p && q) n ≡ 0
off p q n e = ap (λ b. only (b && q) n) e

module _ (g : Grid) (sound : Sound g) where
  -- beyond the frame no cell has a share
  pub share-none : (r i j : ℕ) → r < 5 → g.columns ≤ i → share g r i j ≡ 0
  unfolding share low_side high_side
  share-none r i j h k =
      let e = sound.right-none i j k in
      five-same _ _ _ _ _ 0 0 0 0 0 r (ap (λ b. only b 1) e) (off (g.inside i j) _ _ e) (off (g.inside i j) _ _ e) (off (g.inside i j) _ _ e)
      (off (g.inside i j) _ _ e)
      ∙ five-none r h

  pub share-most : (r i j : ℕ) → r < 5 → share g r i j ≤ 65535
  unfolding share width height
  share-most r i j h =
      five-most _ _ _ _ _ 65535 r (omega (arith, only-most (g.inside i j) 1))
      (omega (arith, only-most (low_side (g.inside i) j) (g.x (suc i) - g.x i), sound.x-most (suc i)))
      (omega (arith, only-most (high_side (g.inside i) (suc j)) (g.x (suc i) - g.x i), sound.x-most (suc i)))
      (omega (arith, only-most (low_side (λ k. g.inside k j) i) (g.y (suc j) - g.y j), sound.y-most (suc j)))
      (omega (arith, only-most (high_side (λ k. g.inside k j) (suc i)) (g.y (suc j) - g.y j), sound.y-most (suc j))) h

module _ (g : Grid) (xs ys cs : List ℕ) (laid : Laid g xs ys cs) where
  -- a stretch between two cells
  stretch : (i j k l m n len : ℕ) → i < 16 → j < 16 → k < 16 → l < 16 → m ≡ 16 * i + j → n ≡ 16 * k + l
      → bare (get_or cs m 0) (get_or cs n 0) len ≡ only (g.inside i j && not (g.inside k l)) len
  stretch i j k l m n len hi hj hk hl em en =
      ap₂ (λ u v. bare u v len) (ap (λ u. get_or cs u 0) em ∙ laid.drawn.cell-at i j hi hj) (ap (λ u. get_or cs u 0) en ∙ laid.drawn.cell-at k l hk hl)
      ∙ bare-only (g.inside i j) (g.inside k l) len

  -- with the cell across beyond the frame
  alone : (i j k l m n len : ℕ) → i < 16 → j < 16 → k < 16 → l < 16 → m ≡ 16 * i + j → n ≡ 16 * k + l → g.inside k l ≡ false
      → bare (get_or cs m 0) (get_or cs n 0) len ≡ only (g.inside i j && not false) len
  alone i j k l m n len hi hj hk hl em en e =
      stretch i j k l m n len hi hj hk hl em en ∙ ap (λ b. only (g.inside i j && not b) len) e

  pub width-at : (i : ℕ) → i < g.columns → get_or xs (i + 1) 0 - get_or xs i 0 ≡ width g i (suc i)
  unfolding width
  width-at i h =
      let e : i + 1 ≡ suc i = omega arith in
      ap₂ ◌-◌ (ap (λ n. get_or xs n 0) e ∙ laid.drawn.x-at (suc i) h) (laid.drawn.x-at i (omega arith))

  pub height-at : (j : ℕ) → j < g.rows → get_or ys (j + 1) 0 - get_or ys j 0 ≡ height g j (suc j)
  unfolding height
  height-at j h =
      let e : j + 1 ≡ suc j = omega arith in
      ap₂ ◌-◌ (ap (λ n. get_or ys n 0) e ∙ laid.drawn.y-at (suc j) h) (laid.drawn.y-at j (omega arith))

  bottom-at : (i j len : ℕ) → i < 15 → j < 15
      → bare (get_or cs (16 * i + j) 0) (get_or cs (low_neighbour j (16 * i + j) 1 (16 * i + 15)) 0) len ≡ only (low_side (g.inside i) j) len
  unfolding low_neighbour low_side
  bottom-at i zero len hi hj =
      alone i 0 i 15 (16 * i + 0) (16 * i + 15) len (omega arith) (omega arith) (omega arith) (omega arith) refl refl
      (laid.sound.above-none i 15 laid.sound.rows-most)
  bottom-at i (suc j) len hi hj =
      stretch i (suc j) i j (16 * i + suc j) (16 * i + suc j - 1) len (omega arith) (omega arith) (omega arith) (omega arith) refl (omega arith)

  top-at : (i j len : ℕ) → i < 15 → j < 15 → bare (get_or cs (16 * i + j) 0) (get_or cs (16 * i + j + 1) 0) len ≡ only (high_side (g.inside i) (suc j)) len
  unfolding high_side
  top-at i j len hi hj =
      stretch i j i (suc j) (16 * i + j) (16 * i + j + 1) len (omega arith) (omega arith) (omega arith) (omega arith) refl (omega arith)

  left_at : (i j len : ℕ) → i < 15 → j < 15
      → bare (get_or cs (16 * i + j) 0) (get_or cs (low_neighbour i (16 * i + j) 16 (240 + j)) 0) len ≡ only (low_side (λ k. g.inside k j) i) len
  unfolding low_neighbour low_side
  left_at zero j len hi hj =
      alone 0 j 15 j (16 * 0 + j) (240 + j) len (omega arith) (omega arith) (omega arith) (omega arith) refl refl
      (laid.sound.right-none 15 j laid.sound.columns-most)
  left_at (suc i) j len hi hj =
      stretch (suc i) j i j (16 * suc i + j) (16 * suc i + j - 16) len (omega arith) (omega arith) (omega arith) (omega arith) refl (omega arith)

  right-at : (i j len : ℕ) → i < 15 → j < 15 → bare (get_or cs (16 * i + j) 0) (get_or cs (16 * i + j + 16) 0) len ≡ only (high_side (λ k. g.inside k j) (suc i)) len
  unfolding high_side
  right-at i j len hi hj =
      stretch i j (suc i) j (16 * i + j) (16 * i + j + 16) len (omega arith) (omega arith) (omega arith) (omega arith) refl (omega arith)

  -- the shares by the lists are those of the grid
  pub share_are : (r i j : ℕ) → i < g.columns → j < g.rows → share_of xs ys cs i j r ≡ share g r i j
  unfolding share_of share
  share_are r i j hi hj =
      let i15 : i < 15 = omega (arith, laid.sound.columns-most) in
      let j15 : j < 15 = omega (arith, laid.sound.rows-most) in
      five-same _ _ _ _ _ _ _ _ _ _ r (laid.drawn.cell-at i j (omega arith) (omega arith))
      (bottom-at i j _ i15 j15 ∙ ap (only (low_side (g.inside i) j)) (width-at i hi))
      (top-at i j _ i15 j15 ∙ ap (only (high_side (g.inside i) (suc j))) (width-at i hi))
      (left_at i j _ i15 j15 ∙ ap (only (low_side (λ k. g.inside k j) i)) (height-at j hj))
      (right-at i j _ i15 j15 ∙ ap (only (high_side (λ k. g.inside k j) (suc i))) (height-at j hj))

  pub cell_measurable : (i j : ℕ) → i < g.columns → j < g.rows → Measurable xs ys cs i j
  cell_measurable i j hi hj =
      let e : i + 1 ≡ suc i = omega arith in
      let z : j + 1 ≡ suc j = omega arith in
      record {
        xs-long = laid.drawn.xs-length;
        ys-long = laid.drawn.ys-length;
        cells-long = laid.drawn.cells-length;
        column = omega (arith, laid.sound.columns-most);
        row = omega (arith, laid.sound.rows-most);
        x-up = omega (arith, ap (λ n. get_or xs n 0) e, laid.drawn.x-at i (omega arith), laid.drawn.x-at (suc i) hi, laid.sound.x-up i);
        y-up = omega (arith, ap (λ n. get_or ys n 0) z, laid.drawn.y-at j (omega arith), laid.drawn.y-at (suc j) hj, laid.sound.y-up j);
      }

-- the shares as they are measured
pub units-at : (g : Grid) (n m : ℕ) (t : List ℕ) → n ≡ m → UnitsTo g n t → UnitsTo g m t
units-at g n m t e w = subst (λ k. UnitsTo g k t) e w

pub units-none : (g : Grid) (n : ℕ) (t : List ℕ) → n ≡ 0 → t ≡ replicate 2560 0 → UnitsTo g n t
units-none g n t z e =
    record {
      long = ap length e ∙ length-replicate {A = ℕ} 2560 0;
      done = λ r i j hr hi hj h. absurd (omega arith);
      none = λ r k hr hk h. zeros (512 * r + k) (omega arith);
      most = λ r k hr hk. omega (arith, zeros (512 * r + k) (omega arith));
    }
  where
    zeros : (k : ℕ) → k < 2560 → get_or t k 0 ≡ 0
    zeros k h = ap (λ l. get_or l k 0) e ∙ get_or-replicate {A = ℕ} 2560 k 0 0 h

module _ (g : Grid) (columns j : ℕ) (xs ys cs : List ℕ) (row : Row g columns j xs ys cs) where
  pub units-more : (i : ℕ) (t u : List ℕ) → i < columns → Put (share_of xs ys cs i j) (32 * j + i) t u → UnitsTo g (32 * j + i) t → UnitsTo g (32 * j + (i + 1)) u
  units-more i t u h o w = record { long = o.long ∙ w.long; done = done; none = none; most = most }
    where
      room : i < 15
      room = omega (arith, row.columns_are, row.laid.sound.columns-most)

      here : (r : ℕ) → r < 5 → get_or u (512 * r + (32 * j + i)) 0 ≡ share g r i j
      here r hr = o.made r hr ∙ share_are g xs ys cs row.laid r i j (omega (arith, row.columns_are)) row.row

      done : (r k l : ℕ) → r < 5 → k < 32 → l < g.rows → 32 * l + k < 32 * j + (i + 1) → get_or u (512 * r + (32 * l + k)) 0 ≡ share g r k l
      done r k l hr hk hl q = elim (le-or (32 * j + i) (32 * l + k)) [
        | inl s ↦
            (let e : 32 * l + k ≡ 32 * j + i = omega (arith, room) in
            let el : j ≡ l = omega (arith, room) in
            let ek : i ≡ k = omega (arith, room) in
            ap (λ n. get_or u (512 * r + n) 0) e ∙ here r hr ∙ ap₂ (share g r) ek el)
        | inr s ↦ o.kept r (32 * l + k) (omega (arith, row.laid.sound.rows-most)) (λ z. omega arith) ∙ w.done r k l hr hk hl s
      ]

      none : (r k : ℕ) → r < 5 → k < 512 → 32 * j + (i + 1) ≤ k → get_or u (512 * r + k) 0 ≡ 0
      none r k hr hk q = o.kept r k hk (λ z. omega arith) ∙ w.none r k hr hk (omega arith)

      most : (r k : ℕ) → r < 5 → k < 512 → get_or u (512 * r + k) 0 ≤ 65535
      most r k hr hk = elim (le-or k (32 * j + i)) [
        | inl p ↦ elim (le-or (32 * j + i) k) [
          | inl q ↦
              (let e : k ≡ 32 * j + i = omega arith in
              omega (arith, ap (λ n. get_or u (512 * r + n) 0) e, here r hr, share-most g row.laid.sound r i j hr))
          | inr q ↦ omega (arith, o.kept r k hk (λ z. omega arith), w.most r k hr hk)
        ]
        | inr p ↦ omega (arith, o.kept r k hk (λ z. omega arith), w.most r k hr hk)
      ]

  -- the row's end: the cells beyond the frame have no shares
  pub units_row : (i : ℕ) (t : List ℕ) → i ≤ columns → columns ≤ i → UnitsTo g (32 * j + i) t → UnitsTo g (32 * (j + 1)) t
  units_row i t h l w = record { long = w.long; done = done; none = none; most = w.most }
    where
      room : i < 16
      room = omega (arith, row.columns_are, row.laid.sound.columns-most)

      done : (r k n : ℕ) → r < 5 → k < 32 → n < g.rows → 32 * n + k < 32 * (j + 1) → get_or t (512 * r + (32 * n + k)) 0 ≡ share g r k n
      done r k n hr hk hn q = elim (le-or (32 * j + i) (32 * n + k)) [
        | inl s ↦
            w.none r (32 * n + k) hr (omega (arith, row.laid.sound.rows-most)) s
            ∙ sym (share-none g row.laid.sound r k n hr (omega (arith, row.columns_are)))
        | inr s ↦ w.done r k n hr hk hn s
      ]

      none : (r k : ℕ) → r < 5 → k < 512 → 32 * (j + 1) ≤ k → get_or t (512 * r + k) 0 ≡ 0
      none r k hr hk q = w.none r k hr hk (omega (arith, room))

-- the grid that lies in memory
module _ (columns rows : ℕ) (xs ys cs : List ℕ) (laid : Laid (stored columns rows xs ys cs) xs ys cs) where
  pub measurable : (i j : ℕ) → i < columns → j < rows → Measurable xs ys cs i j
  unfolding stored
  measurable i j hi hj = cell_measurable (stored columns rows xs ys cs) xs ys cs laid i j hi hj

  pub row_at : (j : ℕ) → j < rows → Row (stored columns rows xs ys cs) columns j xs ys cs
  unfolding stored
  row_at j h = record { laid = laid; columns_are = refl; row = h }

  pub units-end : (j : ℕ) (t : List ℕ) → rows ≤ j → UnitsTo (stored columns rows xs ys cs) (32 * j) t → Units (stored columns rows xs ys cs) t
  unfolding stored
  units-end j t h w = record { long = w.long; shares = λ r i l hr hi hl. w.done r i l hr hi hl (omega arith); most = w.most }

  pub limits_at : (columns ≤ 15) × (rows ≤ 15)
  unfolding stored
  limits_at = (laid.sound.columns-most, laid.sound.rows-most)

-- the widths
pub widths-more : (xs t u : List ℕ) (w a v : ℕ) → a < length u → v ≡ get_or xs (a + w) 0 - get_or xs a 0 → Wrote (span_of xs w) 0 a t u → Wrote (span_of xs w) 0 (a + 1) t (set u a v)
unfolding span_of
widths-more xs t u w a v room e o =
    let z : 0 + a ≡ a = omega arith in
    subst (λ k. Wrote (span_of xs w) 0 (a + 1) t (set u k v)) z (wrote_more (span_of xs w) 0 a t u v (omega arith) e o)

pub widths-all : (g : Grid) (xs ys cs t u : List ℕ) (columns w a : ℕ) → length t ≡ 16 → columns + 1 - w ≤ a → w ≤ columns → g.columns ≡ columns → Drawn g xs ys cs
    → Wrote (span_of xs w) 0 a t u
    → Widths g w u
unfolding span_of width
widths-all g xs ys cs t u columns w a long h k e drawn o =
    record {
      long = o.long ∙ long;
      widths =
          λ n q.
          let z : n ≡ 0 + n = omega arith in
          ap (λ m. get_or u m 0) z ∙ o.made n (omega arith) ∙ ap₂ ◌-◌ (drawn.x-at (n + w) q) (drawn.x-at n (omega arith));
    }

pub rising : (g : Grid) (xs ys cs : List ℕ) → Laid g xs ys cs → (w : ℕ) → w ≤ g.columns → Rising xs g.columns w
rising g xs ys cs laid w h =
    record {
      long = laid.drawn.xs-length;
      columns-most = laid.sound.columns-most;
      wide-most = h;
      up = λ a q. omega (arith, laid.drawn.x-at a (omega arith), laid.drawn.x-at (a + w) q, rise g.x laid.sound.x-up a (a + w) (omega arith));
    }

pub rising-at : (columns rows : ℕ) (xs ys cs : List ℕ) → Laid (stored columns rows xs ys cs) xs ys cs → (w : ℕ) → w ≤ columns → Rising xs columns w
unfolding stored
rising-at columns rows xs ys cs laid w h = rising (stored columns rows xs ys cs) xs ys cs laid w h

pub widths-at : (columns rows : ℕ) (xs ys cs : List ℕ) → Laid (stored columns rows xs ys cs) xs ys cs → (w : ℕ) (wide : List ℕ)
    → ((g : Grid) (ys cs : List ℕ) → g.columns ≡ columns → Drawn g xs ys cs → Widths g w wide)
    → Widths (stored columns rows xs ys cs) w wide
unfolding stored
widths-at columns rows xs ys cs laid w wide f = f (stored columns rows xs ys cs) ys cs refl laid.drawn
