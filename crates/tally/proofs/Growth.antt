-- Laws of growing: the strips of one width become one column wider. Assumes nothing.
--
--   add-fits, add-more, flank_fits, flank_more
--                      == 16 sums, one after the other
--   row-*              == one row of all strips
--   rows-*             == one row more, and all rows
--   growable           == sums and shares of a grid are small enough to be added
--   growable_at, grown-at
--                      == the same for the grid that lies in memory: what a caller of `grow` hands in and gets
use Prim.Native.Nat.{ℕ, zero, suc, ◌+◌, ◌*◌, ◌-◌, ◌≤◌, ◌<◌, ◌^◌}
use mathlib.Core.Path.{◌≡◌, refl, sym, ◌∙◌, ap, ap₂, subst}
use mathlib.Core.Logic.{◌⊎◌, inl, inr}
use mathlib.Core.List.{List}
use native.Mathlib.Omega.{arith}
use lib.ListN.{length, get_or, set}
use Rattle.sum.specs.Sum.{only, over}
use Rattle.sum.proofs.Sum.{le-or, over-one, over_last}
use Rattle.outline.specs.Grid.{Grid, stored}
use Rattle.piece.specs.Piece.{box, low_side, high_side, cell_sum, inside_cells, width, height, left, right, bottom, top}
use Rattle.table.specs.Run.{Wrote}
use Rattle.table.proofs.Run.{wrote_more}
use Rattle.tally.specs.Sums.{Grown, Flanked}
use Rattle.tally.specs.Units.{five, share, Laid, Units}
use Rattle.tally.specs.Growth.{added, flank_sum, Slight, RowFits, RowGrown, RowsGrown, Growable, Ripe}
use Rattle.tally.proofs.Sums.{inside_in, bottom_in, top_in}

-- 16 sums
module _ (t unit u : List ℕ) (at from l : ℕ) (w : Wrote (added t unit at from) at l t u) where
  pub add-fits : Slight unit → from + l < 2560 → get_or t (at + l) 0 ≤ 65535 → get_or u (at + l) 0 + get_or unit (from + l) 0 < 2 ^ 32
  add-fits s k h = omega (arith, s.most (from + l) k, w.kept (at + l) (inr (omega arith)))

  pub add-more : at + l < length t → Wrote (added t unit at from) at (l + 1) t (set u (at + l) (get_or u (at + l) 0 + get_or unit (from + l) 0))
  unfolding added
  add-more h =
      wrote_more (added t unit at from) at l t u _ (omega (arith, w.long)) (ap (λ n. n + get_or unit (from + l) 0) (w.kept (at + l) (inr (omega arith)))) w

pub flank_fits : (unit : List ℕ) (left right l : ℕ) → Slight unit → left + l < 2560 → right + l < 2560 → get_or unit (left + l) 0 + get_or unit (right + l) 0 < 2 ^ 32
flank_fits unit left right l s h k = omega (arith, s.most (left + l) h, s.most (right + l) k)

pub flank_more : (t unit u : List ℕ) (at left right l : ℕ) → at + l < length t → Wrote (flank_sum unit left right) at l t u
    → Wrote (flank_sum unit left right) at (l + 1) t (set u (at + l) (get_or unit (left + l) 0 + get_or unit (right + l) 0))
unfolding flank_sum
flank_more t unit u at left right l h w = wrote_more (flank_sum unit left right) at l t u _ (omega (arith, w.long)) refl w

-- one of three runs of a row is written
made_at : (s unit v : List ℕ) (at from l x y : ℕ) → x ≡ at + l → y ≡ from + l → l < 16 → Wrote (added s unit at from) at 16 s v
    → get_or v x 0 ≡ get_or s x 0 + get_or unit y 0
unfolding added
made_at s unit v at from l x y ex ey h w =
    ap (λ n. get_or v n 0) ex ∙ w.made l h ∙ ap₂ (λ m n. get_or s m 0 + get_or unit n 0) (sym ex) (sym ey)

module _ (unit t u₁ u₂ u₃ u : List ℕ) (last j : ℕ) (w₁ : Wrote (added t unit (16 * j) (32 * j + last)) (16 * j) 16 t u₁)
    (w₂ : Wrote (added u₁ unit (256 + 16 * j) (512 + (32 * j + last))) (256 + 16 * j) 16 u₁ u₂)
    (w₃ : Wrote (added u₂ unit (512 + 16 * j) (1024 + (32 * j + last))) (512 + 16 * j) 16 u₂ u₃)
    (w₄ : Wrote (flank_sum unit (1536 + 32 * j) (2048 + (32 * j + last))) (768 + 16 * j) 16 u₃ u) (h : j < 15) where
  grown : (r l : ℕ) → r < 3 → l < 16
      → get_or u (256 * r + (16 * j + l)) 0 ≡ get_or t (256 * r + (16 * j + l)) 0 + get_or unit (512 * r + (32 * j + (l + last))) 0
  grown zero l hr q =
      w₄.kept (256 * 0 + (16 * j + l)) (inl (omega arith))
      ∙ w₃.kept (256 * 0 + (16 * j + l)) (inl (omega arith))
      ∙ w₂.kept (256 * 0 + (16 * j + l)) (inl (omega arith))
      ∙ made_at t unit u₁ (16 * j) (32 * j + last) l (256 * 0 + (16 * j + l)) (512 * 0 + (32 * j + (l + last))) (omega arith) (omega arith) q w₁
  grown (suc zero) l hr q =
      w₄.kept (256 * 1 + (16 * j + l)) (inl (omega arith))
      ∙ w₃.kept (256 * 1 + (16 * j + l)) (inl (omega arith))
      ∙ made_at u₁ unit u₂ (256 + 16 * j) (512 + (32 * j + last)) l (256 * 1 + (16 * j + l)) (512 * 1 + (32 * j + (l + last))) (omega arith) (omega arith) q w₂
      ∙ ap (λ n. n + get_or unit (512 * 1 + (32 * j + (l + last))) 0) (w₁.kept (256 * 1 + (16 * j + l)) (inr (omega arith)))
  grown (suc (suc zero)) l hr q =
      w₄.kept (256 * 2 + (16 * j + l)) (inl (omega arith))
      ∙ made_at u₂ unit u₃ (512 + 16 * j) (1024 + (32 * j + last)) l (256 * 2 + (16 * j + l)) (512 * 2 + (32 * j + (l + last))) (omega arith) (omega arith) q w₃
      ∙ ap (λ n. n + get_or unit (512 * 2 + (32 * j + (l + last))) 0)
      (w₂.kept (256 * 2 + (16 * j + l)) (inr (omega arith)) ∙ w₁.kept (256 * 2 + (16 * j + l)) (inr (omega arith)))
  grown (suc (suc (suc r))) l hr q = absurd (omega arith)

  flanked : (l : ℕ) → l < 16 → get_or u (768 + (16 * j + l)) 0 ≡ get_or unit (1536 + (32 * j + l)) 0 + get_or unit (2048 + (32 * j + (l + last))) 0
  unfolding flank_sum
  flanked l q =
      let e : 768 + (16 * j + l) ≡ 768 + 16 * j + l = omega arith in
      let el : 1536 + 32 * j + l ≡ 1536 + (32 * j + l) = omega arith in
      let er : 2048 + (32 * j + last) + l ≡ 2048 + (32 * j + (l + last)) = omega arith in
      ap (λ n. get_or u n 0) e ∙ w₄.made l q ∙ ap₂ (λ m n. get_or unit m 0 + get_or unit n 0) el er

  -- a place of another row
  apart : (r i l at n : ℕ) → at ≡ 256 * n + 16 * j → i < 16 → l < 16 → (i ≡ j → ⊥) → (256 * r + (16 * i + l) < at) ⊎ (at + 16 ≤ 256 * r + (16 * i + l))
  apart r i l at n e hi hl ne = elim (le-or at (256 * r + (16 * i + l))) [
    | inl q ↦ elim (le-or (at + 16) (256 * r + (16 * i + l))) [ inl s ↦ inr s | inr s ↦ absurd (ne (omega (arith, h))) ]
    | inr q ↦ inl q
  ]

  kept : (r i l : ℕ) → i < 16 → l < 16 → (i ≡ j → ⊥) → get_or u (256 * r + (16 * i + l)) 0 ≡ get_or t (256 * r + (16 * i + l)) 0
  kept r i l hi hl ne =
      w₄.kept (256 * r + (16 * i + l)) (apart r i l (768 + 16 * j) 3 (omega arith) hi hl ne)
      ∙ w₃.kept (256 * r + (16 * i + l)) (apart r i l (512 + 16 * j) 2 (omega arith) hi hl ne)
      ∙ w₂.kept (256 * r + (16 * i + l)) (apart r i l (256 + 16 * j) 1 (omega arith) hi hl ne)
      ∙ w₁.kept (256 * r + (16 * i + l)) (apart r i l (16 * j) 0 (omega arith) hi hl ne)

  pub row-grown : RowGrown unit last j t u
  row-grown = record { long = w₄.long ∙ w₃.long ∙ w₂.long ∙ w₁.long; grown = grown; flanked = flanked; kept = kept }

-- the runs of a row have room, also where those before it have grown
module _ (unit t : List ℕ) (last j : ℕ) (f : RowFits unit last j t) where
  row_room : (r at l : ℕ) → r < 3 → at ≡ 256 * r + 16 * j → l < 16 → get_or t (at + l) 0 ≤ 65535
  row_room r at l h e q =
      let z : at + l ≡ 256 * r + (16 * j + l) = omega arith in
      omega (arith, ap (λ n. get_or t n 0) z, f.sum_most r l h q)

  pub row_first : (l : ℕ) → l < 16 → get_or t (16 * j + l) 0 ≤ 65535
  row_first l h = row_room 0 (16 * j) l (omega arith) (omega arith) h

  module _ (u : List ℕ) (h : ℕ → ℕ) (w : Wrote h (16 * j) 16 t u) where
    pub row-second : (l : ℕ) → l < 16 → get_or u (256 + 16 * j + l) 0 ≤ 65535
    row-second l q = omega (arith, w.kept (256 + 16 * j + l) (inr (omega arith)), row_room 1 (256 + 16 * j) l (omega arith) (omega arith) q)

    pub row-third : (v : List ℕ) (k : ℕ → ℕ) → Wrote k (256 + 16 * j) 16 u v → (l : ℕ) → l < 16 → get_or v (512 + 16 * j + l) 0 ≤ 65535
    row-third v k x l q =
        omega (
          arith,
          x.kept (512 + 16 * j + l) (inr (omega arith)),
          w.kept (512 + 16 * j + l) (inr (omega arith)),
          row_room 2 (512 + 16 * j) l (omega arith) (omega arith) q,
        )

-- row by row
pub rows_none : (unit : List ℕ) (last : ℕ) (t : List ℕ) → RowsGrown unit last 0 t t
rows_none unit last t =
    record { long = refl; grown = λ r j l hr h q. absurd (omega arith); flanked = λ j l h q. absurd (omega arith); kept = λ r j l h k q. refl }

module _ (unit : List ℕ) (last j : ℕ) (t u : List ℕ) (w : RowsGrown unit last j t u) where
  pub rows_fit : (rows wide next : ℕ) → Growable rows wide unit t → next ≤ wide → j < rows → RowFits unit next j u
  rows_fit rows wide next g e h =
      record {
        slight = g.slight;
        sums-long = w.long ∙ g.sums-long;
        row-most = omega (arith, g.rows-most);
        last-most = omega (arith, g.wide-most);
        sum_most = λ r l hr q. omega (arith, w.kept r j l (omega arith) (omega (arith, g.rows-most)) q, g.sum_most r j l hr h q);
      }

  pub rows_more : (v : List ℕ) → j < 15 → RowGrown unit last j u v → RowsGrown unit last (j + 1) t v
  rows_more v h o =
      record {
        long = o.long ∙ w.long;
        grown = λ r n l hr q hl. elim (le-or j n) [
          | inl s ↦
              (let z : j ≡ n = omega arith in
              subst (λ k. get_or v (256 * r + (16 * k + l)) 0 ≡ get_or t (256 * r + (16 * k + l)) 0 + get_or unit (512 * r + (32 * k + (l + last))) 0) z
              (o.grown r l hr hl ∙ ap (λ k. k + get_or unit (512 * r + (32 * j + (l + last))) 0) (w.kept r j l (omega arith) (omega arith) hl)))
          | inr s ↦ o.kept r n l (omega arith) hl (λ z. omega arith) ∙ w.grown r n l hr s hl
        ];
        flanked = λ n l q hl. elim (le-or j n) [
          | inl s ↦
              (let z : j ≡ n = omega arith in
              subst (λ k. get_or v (768 + (16 * k + l)) 0 ≡ get_or unit (1536 + (32 * k + l)) 0 + get_or unit (2048 + (32 * k + (l + last))) 0) z (o.flanked l hl))
          | inr s ↦ o.kept 3 n l (omega arith) hl (λ z. omega arith) ∙ w.flanked n l s hl
        ];
        kept = λ r n l q k hl. o.kept r n l k hl (λ z. omega arith) ∙ w.kept r n l (omega arith) k hl;
      }

-- the last column of a strip
module _ (g : Grid) (a c : ℕ) (h : a ≤ c) where
  count-column : (j : ℕ) → inside_cells g (box a (suc c) j (suc j)) ≡ inside_cells g (box a c j (suc j)) + share g 0 c j
  unfolding inside_cells cell_sum share five
  count-column j =
      over_last a c (λ i. over j (suc j) (λ l. only (g.inside i l) 1)) h
      ∙ ap (λ n. over a c (λ i. over j (suc j) (λ l. only (g.inside i l) 1)) + n) (over-one j (λ l. only (g.inside c l) 1))

  bottom-column : (b d : ℕ) → bottom g (box a (suc c) b d) ≡ bottom g (box a c b d) + share g 1 c b
  unfolding bottom share five
  bottom-column b d = over_last a c (λ i. only (low_side (g.inside i) b) (width g i (suc i))) h

  top-column : (b d : ℕ) → top g (box a (suc c) b (suc d)) ≡ top g (box a c b (suc d)) + share g 2 c d
  unfolding top share five
  top-column b d = over_last a c (λ i. only (high_side (g.inside i) (suc d)) (width g i (suc i))) h

  left-column : (j : ℕ) → left g (box a (suc c) j (suc j)) ≡ share g 3 a j
  unfolding left share five
  left-column j = over-one j (λ l. only (low_side (λ i. g.inside i l) a) (height g l (suc l)))

  right-column : (j : ℕ) → right g (box a (suc c) j (suc j)) ≡ share g 4 c j
  unfolding right share five
  right-column j = over-one j (λ l. only (high_side (λ i. g.inside i l) (suc c)) (height g l (suc l)))

-- a bound of each run is one of all
slight : (unit : List ℕ) → length unit ≡ 2560 → ((r k : ℕ) → r < 5 → k < 512 → get_or unit (512 * r + k) 0 ≤ 65535) → Slight unit
slight unit long most =
    record {
      long = long;
      most =
          λ k h. elim (le-or 512 k) [
            | inr q ↦ run 0 k (omega arith) q h
            | inl q ↦ elim (le-or 1024 k) [
              | inr s ↦ run 1 k q s h
              | inl s ↦ elim (le-or 1536 k) [
                | inr t ↦ run 2 k s t h
                | inl t ↦ elim (le-or 2048 k) [ inr u ↦ run 3 k t u h | inl u ↦ run 4 k u h h ]
              ]
            ]
          ];
    }
  where
    run : (r k : ℕ) → 512 * r ≤ k → k < 512 * r + 512 → k < 2560 → get_or unit k 0 ≤ 65535
    run r k h q l =
        let z : k ≡ 512 * r + (k - 512 * r) = omega arith in
        omega (arith, ap (λ n. get_or unit n 0) z, most r (k - 512 * r) (omega arith) (omega arith))

module _ (g : Grid) (rows w : ℕ) (unit t : List ℕ) (ripe : Ripe g rows w unit t) where
  -- sums and shares are small enough to be added
  sum_most : (r j l : ℕ) → r < 3 → j < g.rows → l < 16 → get_or t (256 * r + (16 * j + l)) 0 ≤ 65535
  sum_most zero j l hr h q =
      let e : 256 * 0 + (16 * j + l) ≡ 16 * j + l = omega arith in
      omega (
        arith,
        ap (λ n. get_or t n 0) e,
        ripe.grown.counts l j q h,
        inside_in g ripe.sound l (w - 1) j (suc j) (omega (arith, ripe.wide-most, ripe.sound.columns-most)) (omega arith) h,
      )
  sum_most (suc zero) j l hr h q = bottom_in g ripe.sound (w - 1) (omega (arith, ripe.wide-most)) t ripe.grown l q j h
  sum_most (suc (suc zero)) j l hr h q = top_in g ripe.sound (w - 1) (omega (arith, ripe.wide-most)) t ripe.grown l q j h
  sum_most (suc (suc (suc r))) j l hr h q = absurd (omega arith)

  pub growable : Growable rows w unit t
  growable =
      record {
        slight = slight unit ripe.units.long ripe.units.most;
        sums-long = ripe.grown.long;
        rows-most = omega (arith, ripe.rows_are, ripe.sound.rows-most);
        wide-some = ripe.wide-some;
        wide-most = omega (arith, ripe.wide-most, ripe.sound.columns-most);
        sum_most = λ r j l hr h q. sum_most r j l hr (omega (arith, ripe.rows_are)) q;
      }

  -- all rows are grown
  pub rows_all : (last j : ℕ) (u : List ℕ) → last ≡ w - 1 → rows ≤ j → RowsGrown unit last j t u → Grown g w u × Flanked g w u
  rows_all last j u e h o =
      (record { long = o.long ∙ ripe.grown.long; counts = counts; bottoms = bottoms; tops = tops }, record { flanks = flanks })
    where
      -- the line past the last column
      past : (a : ℕ) → suc (a + last) ≡ a + w
      past a = omega (arith, ripe.wide-some)

      before : (a : ℕ) → a + (w - 1) ≡ a + last
      before a = omega arith

      row : (n : ℕ) → n < g.rows → n < j
      row n q = omega (arith, ripe.rows_are)

      column : (a : ℕ) → a < 16 → a + last < 32
      column a l = omega (arith, ripe.wide-most, ripe.sound.columns-most)

      step : (r a n x : ℕ) → r < 3 → a < 16 → n < g.rows → x ≡ 256 * r + (16 * n + a) → get_or u x 0 ≡ get_or t x 0 + share g r (a + last) n
      step r a n x hr l q ex =
          ap (λ k. get_or u k 0) ex
          ∙ o.grown r n a hr (row n q) l
          ∙ ap₂ ◌+◌ (ap (λ k. get_or t k 0) (sym ex)) (ripe.units.shares r (a + last) n (omega arith) (column a l) q)

      counts : (a n : ℕ) → a < 16 → n < g.rows → get_or u (16 * n + a) 0 ≡ inside_cells g (box a (a + w) n (suc n))
      counts a n l q =
          step 0 a n (16 * n + a) (omega arith) l q (omega arith)
          ∙ ap (λ k. k + share g 0 (a + last) n) (ripe.grown.counts a n l q ∙ ap (λ c. inside_cells g (box a c n (suc n))) (before a))
          ∙ sym (count-column g a (a + last) (omega arith) n)
          ∙ ap (λ c. inside_cells g (box a c n (suc n))) (past a)

      bottoms : (a b d : ℕ) → a < 16 → b < g.rows → get_or u (256 + (16 * b + a)) 0 ≡ bottom g (box a (a + w) b d)
      bottoms a b d l q =
          step 1 a b (256 + (16 * b + a)) (omega arith) l q (omega arith)
          ∙ ap (λ k. k + share g 1 (a + last) b) (ripe.grown.bottoms a b d l q ∙ ap (λ c. bottom g (box a c b d)) (before a))
          ∙ sym (bottom-column g a (a + last) (omega arith) b d)
          ∙ ap (λ c. bottom g (box a c b d)) (past a)

      tops : (a b d : ℕ) → a < 16 → d < g.rows → get_or u (512 + (16 * d + a)) 0 ≡ top g (box a (a + w) b (suc d))
      tops a b d l q =
          step 2 a d (512 + (16 * d + a)) (omega arith) l q (omega arith)
          ∙ ap (λ k. k + share g 2 (a + last) d) (ripe.grown.tops a b d l q ∙ ap (λ c. top g (box a c b (suc d))) (before a))
          ∙ sym (top-column g a (a + last) (omega arith) b d)
          ∙ ap (λ c. top g (box a c b (suc d))) (past a)

      flanks : (a n : ℕ) → a < 16 → n < g.rows
          → get_or u (768 + (16 * n + a)) 0 ≡ left g (box a (a + w) n (suc n)) + right g (box a (a + w) n (suc n))
      flanks a n l q =
          o.flanked n a (row n q) l
          ∙ ap₂ ◌+◌ (ripe.units.shares 3 a n (omega arith) (omega arith) q) (ripe.units.shares 4 (a + last) n (omega arith) (column a l) q)
          ∙ ap₂ ◌+◌ (sym (left-column g a (a + last) (omega arith) n)) (sym (right-column g a (a + last) (omega arith) n))
          ∙ ap (λ c. left g (box a c n (suc n)) + right g (box a c n (suc n))) (past a)

-- the grid that lies in memory: what a caller of `grow` hands in and gets
module _ (columns rows : ℕ) (xs ys cs : List ℕ) (laid : Laid (stored columns rows xs ys cs) xs ys cs) (unit : List ℕ)
    (units : Units (stored columns rows xs ys cs) unit) (w : ℕ) (some : 1 ≤ w) (most : w ≤ columns) (t : List ℕ)
    (before : Grown (stored columns rows xs ys cs) (w - 1) t) where
  ripe_at : Ripe (stored columns rows xs ys cs) rows w unit t
  unfolding stored
  ripe_at = record { sound = laid.sound; rows_are = refl; wide-some = some; wide-most = most; units = units; grown = before }

  pub growable_at : Growable rows w unit t
  growable_at = growable (stored columns rows xs ys cs) rows w unit t ripe_at

  pub grown-at : (u : List ℕ) → ((g : Grid) → Ripe g rows w unit t → Grown g w u × Flanked g w u)
      → Grown (stored columns rows xs ys cs) w u × Flanked (stored columns rows xs ys cs) w u
  grown-at u f = f (stored columns rows xs ys cs) ripe_at
