-- Laws of growing: the strips of one width become one column wider, and no sum wraps. Assumes nothing.
--
--   add-more, flank_more == 16 sums, one after the other
--   row-grown            == one row of all strips
--   rows_none, rows_more, rows_all
--                        == no row yet, one row more, and all rows
--   wrap-fits            == what fits 16 bits does not wrap
use Rattle.std.proofs.Common.{◌≡◌, ℕ, zero, suc, ◌+◌, ◌-◌, ◌*◌, ◌<◌, ◌≤◌, not, ltb, ◌⊎◌, List, length, get_or, set, sym, refl, ap, ◌∙◌, subst, ap₂, inl, inr, mod-eq_of_lt, arith, le-ltb, lt-ltb, le-leb}
use borrow.Author.Tests.{lt-leb}
use Rattle.sum.specs.Sum.{only}
use Rattle.sum.proofs.Sum.{le-or, over_last, over-one}
use Rattle.outline.specs.Grid.{Grid}
use Rattle.rule.specs.declared.Rule.{Rule}
use Rattle.rule.specs.Charge.{spared}
use Rattle.piece.specs.Piece.{box, inside_cells, width, height, left, right, bottom, top}
use Rattle.table.specs.Run.{Wrote}
use Rattle.table.proofs.Run.{wrote_more}
use Rattle.tally.proofs.Sums.{inside_in}
use Rattle.shares.specs.Shares.{wrap, counted_share}
use Rattle.shares.specs.Growth.{wrap_added, narrow_flanks, RowGrown, RowsGrown, Grown, Flanked, Ripe}
use Rattle.shares.proofs.Dues.{along, count-along, bottom-along, top-along, left_along, right-along, bottom_due, top_due, flanks_due}

pub wrap-fits : (m n : ℕ) → m + n ≤ 65535 → wrap m n ≡ m + n
unfolding wrap
wrap-fits m n h = mod-eq_of_lt (omega arith)

-- 16 sums
pub add-more : (t unit u : List ℕ) (at from l v : ℕ) → v ≡ wrap (get_or u (at + l) 0) (get_or unit (from + l) 0) → at + l < length t
    → Wrote (wrap_added t unit at from) at l t u
    → Wrote (wrap_added t unit at from) at (l + 1) t (set u (at + l) v)
unfolding wrap_added
add-more t unit u at from l v e h w =
    wrote_more (wrap_added t unit at from) at l t u v (omega (arith, w.long))
    (e ∙ ap (λ n. wrap n (get_or unit (from + l) 0)) (w.kept (at + l) (inr (omega arith)))) w

pub flank_more : (t unit wide u : List ℕ) (threshold at left right l m v : ℕ)
    → m ≡ wrap (get_or unit (left + l) 0) (get_or unit (right + l) 0)
    → v ≡ only (ltb (get_or wide l 0) threshold) m
    → at + l < length t
    → Wrote (narrow_flanks unit wide threshold left right) at l t u
    → Wrote (narrow_flanks unit wide threshold left right) at (l + 1) t (set u (at + l) v)
unfolding narrow_flanks
flank_more t unit wide u threshold at left right l m v em ev h w =
    wrote_more (narrow_flanks unit wide threshold left right) at l t u v (omega (arith, w.long)) (ev ∙ ap (only (ltb (get_or wide l 0) threshold)) em) w

-- one of three runs of a row is written
made_at : (s unit v : List ℕ) (at from l x y : ℕ) → x ≡ at + l → y ≡ from + l → l < 16 → Wrote (wrap_added s unit at from) at 16 s v
    → get_or v x 0 ≡ wrap (get_or s x 0) (get_or unit y 0)
unfolding wrap_added
made_at s unit v at from l x y ex ey h w =
    ap (λ n. get_or v n 0) ex ∙ w.made l h ∙ ap₂ (λ m n. wrap (get_or s m 0) (get_or unit n 0)) (sym ex) (sym ey)

module _ (unit wide t u₁ u₂ u₃ u : List ℕ) (threshold last j : ℕ) (w₁ : Wrote (wrap_added t unit (16 * j) (32 * j + last)) (16 * j) 16 t u₁)
    (w₂ : Wrote (wrap_added u₁ unit (256 + 16 * j) (512 + (32 * j + last))) (256 + 16 * j) 16 u₁ u₂)
    (w₃ : Wrote (wrap_added u₂ unit (512 + 16 * j) (1024 + (32 * j + last))) (512 + 16 * j) 16 u₂ u₃)
    (w₄ : Wrote (narrow_flanks unit wide threshold (1536 + 32 * j) (2048 + (32 * j + last))) (768 + 16 * j) 16 u₃ u) (h : j < 15) where
  grown : (k l : ℕ) → k < 3 → l < 16
      → get_or u (256 * k + (16 * j + l)) 0 ≡ wrap (get_or t (256 * k + (16 * j + l)) 0) (get_or unit (512 * k + (32 * j + (l + last))) 0)
  grown zero l hk q =
      w₄.kept (256 * 0 + (16 * j + l)) (inl (omega arith))
      ∙ w₃.kept (256 * 0 + (16 * j + l)) (inl (omega arith))
      ∙ w₂.kept (256 * 0 + (16 * j + l)) (inl (omega arith))
      ∙ made_at t unit u₁ (16 * j) (32 * j + last) l (256 * 0 + (16 * j + l)) (512 * 0 + (32 * j + (l + last))) (omega arith) (omega arith) q w₁
  grown (suc zero) l hk q =
      w₄.kept (256 * 1 + (16 * j + l)) (inl (omega arith))
      ∙ w₃.kept (256 * 1 + (16 * j + l)) (inl (omega arith))
      ∙ made_at u₁ unit u₂ (256 + 16 * j) (512 + (32 * j + last)) l (256 * 1 + (16 * j + l)) (512 * 1 + (32 * j + (l + last))) (omega arith) (omega arith) q w₂
      ∙ ap (λ n. wrap n (get_or unit (512 * 1 + (32 * j + (l + last))) 0)) (w₁.kept (256 * 1 + (16 * j + l)) (inr (omega arith)))
  grown (suc (suc zero)) l hk q =
      w₄.kept (256 * 2 + (16 * j + l)) (inl (omega arith))
      ∙ made_at u₂ unit u₃ (512 + 16 * j) (1024 + (32 * j + last)) l (256 * 2 + (16 * j + l)) (512 * 2 + (32 * j + (l + last))) (omega arith) (omega arith) q w₃
      ∙ ap (λ n. wrap n (get_or unit (512 * 2 + (32 * j + (l + last))) 0))
      (w₂.kept (256 * 2 + (16 * j + l)) (inr (omega arith)) ∙ w₁.kept (256 * 2 + (16 * j + l)) (inr (omega arith)))
  grown (suc (suc (suc k))) l hk q = absurd (omega arith)

  flanked : (l : ℕ) → l < 16
      → get_or u (768 + (16 * j + l)) 0
      ≡ only (ltb (get_or wide l 0) threshold) (wrap (get_or unit (1536 + (32 * j + l)) 0) (get_or unit (2048 + (32 * j + (l + last))) 0))
  unfolding narrow_flanks
  flanked l q =
      let e : 768 + (16 * j + l) ≡ 768 + 16 * j + l = omega arith in
      let el : 1536 + 32 * j + l ≡ 1536 + (32 * j + l) = omega arith in
      let er : 2048 + (32 * j + last) + l ≡ 2048 + (32 * j + (l + last)) = omega arith in
      ap (λ n. get_or u n 0) e ∙ w₄.made l q ∙ ap₂ (λ m n. only (ltb (get_or wide l 0) threshold) (wrap (get_or unit m 0) (get_or unit n 0))) el er

  -- a place of another row
  apart : (k i l at n : ℕ) → at ≡ 256 * n + 16 * j → i < 16 → l < 16 → (i ≡ j → ⊥) → (256 * k + (16 * i + l) < at) ⊎ (at + 16 ≤ 256 * k + (16 * i + l))
  apart k i l at n e hi hl ne = elim (le-or at (256 * k + (16 * i + l))) [
    | inl q ↦ elim (le-or (at + 16) (256 * k + (16 * i + l))) [ inl s ↦ inr s | inr s ↦ absurd (ne (omega (arith, h))) ]
    | inr q ↦ inl q
  ]

  kept : (k i l : ℕ) → i < 16 → l < 16 → (i ≡ j → ⊥) → get_or u (256 * k + (16 * i + l)) 0 ≡ get_or t (256 * k + (16 * i + l)) 0
  kept k i l hi hl ne =
      w₄.kept (256 * k + (16 * i + l)) (apart k i l (768 + 16 * j) 3 (omega arith) hi hl ne)
      ∙ w₃.kept (256 * k + (16 * i + l)) (apart k i l (512 + 16 * j) 2 (omega arith) hi hl ne)
      ∙ w₂.kept (256 * k + (16 * i + l)) (apart k i l (256 + 16 * j) 1 (omega arith) hi hl ne)
      ∙ w₁.kept (256 * k + (16 * i + l)) (apart k i l (16 * j) 0 (omega arith) hi hl ne)

  pub row-grown : RowGrown unit wide threshold last j t u
  row-grown = record { long = w₄.long ∙ w₃.long ∙ w₂.long ∙ w₁.long; grown = grown; flanked = flanked; kept = kept }

-- row by row
pub rows_none : (unit wide : List ℕ) (threshold last : ℕ) (t : List ℕ) → RowsGrown unit wide threshold last 0 t t
rows_none unit wide threshold last t =
    record { long = refl; grown = λ k j l hk h q. absurd (omega arith); flanked = λ j l h q. absurd (omega arith); kept = λ k j l h i q. refl }

pub rows_more : (unit wide : List ℕ) (threshold last j : ℕ) (t u : List ℕ) → RowsGrown unit wide threshold last j t u → (v : List ℕ) → j < 15
    → RowGrown unit wide threshold last j u v
    → RowsGrown unit wide threshold last (j + 1) t v
rows_more unit wide threshold last j t u w v h o =
    record {
      long = o.long ∙ w.long;
      grown = λ k n l hk q hl. elim (le-or j n) [
        | inl s ↦
            (let z : j ≡ n = omega arith in
            subst (λ m. get_or v (256 * k + (16 * m + l)) 0 ≡ wrap (get_or t (256 * k + (16 * m + l)) 0) (get_or unit (512 * k + (32 * m + (l + last))) 0)) z
            (o.grown k l hk hl ∙ ap (λ m. wrap m (get_or unit (512 * k + (32 * j + (l + last))) 0)) (w.kept k j l (omega arith) (omega arith) hl)))
        | inr s ↦ o.kept k n l (omega arith) hl (λ z. omega arith) ∙ w.grown k n l hk s hl
      ];
      flanked = λ n l q hl. elim (le-or j n) [
        | inl s ↦
            (let z : j ≡ n = omega arith in
            subst
            (λ m. get_or v (768 + (16 * m + l)) 0
            ≡ only (ltb (get_or wide l 0) threshold) (wrap (get_or unit (1536 + (32 * m + l)) 0) (get_or unit (2048 + (32 * m + (l + last))) 0)))
            z
            (o.flanked l hl))
        | inr s ↦ o.kept 3 n l (omega arith) hl (λ z. omega arith) ∙ w.flanked n l s hl
      ];
      kept = λ k n l q i hl. o.kept k n l i hl (λ z. omega arith) ∙ w.kept k n l (omega arith) i hl;
    }

-- all rows are grown
module _ (g : Grid) (r : Rule) (price rows w t : ℕ) (short wide s : List ℕ) (ripe : Ripe g r price rows w t short wide s) where
  -- the flanks of a narrow strip are those of its first and its last column, and they do not wrap
  flank_row : (a last n : ℕ) → suc (a + last) ≡ a + w → n < g.rows
      → only (ltb (width g a (a + w)) r.threshold) (wrap (counted_share g r 3 a n) (counted_share g r 4 (a + last) n))
      ≡ only (not (spared r (width g a (a + w)))) (left g (box a (a + w) n (suc n)) + right g (box a (a + w) n (suc n)))
  unfolding spared
  flank_row a last n past q = go (le-or r.threshold (width g a (a + w)))
    where
      go : (r.threshold ≤ width g a (a + w)) ⊎ (width g a (a + w) < r.threshold)
          → only (ltb (width g a (a + w)) r.threshold) (wrap (counted_share g r 3 a n) (counted_share g r 4 (a + last) n))
          ≡ only (not (spared r (width g a (a + w)))) (left g (box a (a + w) n (suc n)) + right g (box a (a + w) n (suc n)))
      go (inl y) = rw (le-ltb (width g a (a + w)) r.threshold y, le-leb r.threshold (width g a (a + w)) y)
      go (inr y) =
          let el : left g (box a (a + w) n (suc n)) ≡ counted_share g r 3 a n = left_along g r ripe.sound a (a + w) n (omega arith) y in
          let er : right g (box a (a + w) n (suc n)) ≡ counted_share g r 4 (a + last) n =
          sym (ap (λ c. right g (box a c n (suc n))) past)
          ∙ right-along g r ripe.sound a (a + last) n (omega arith) (omega (arith, ap (width g a) past)) in
          let here : only (not (spared r (width g a (a + w)))) (left g (box a (a + w) n (suc n)) + right g (box a (a + w) n (suc n)))
          ≡ left g (box a (a + w) n (suc n)) + right g (box a (a + w) n (suc n)) = rw (lt-leb r.threshold (width g a (a + w)) y) in
          ap (λ b. only b (wrap (counted_share g r 3 a n) (counted_share g r 4 (a + last) n))) (lt-ltb (width g a (a + w)) r.threshold y)
          ∙ wrap-fits (counted_share g r 3 a n) (counted_share g r 4 (a + last) n)
          (omega (
            arith,
            over-one n (λ m. only (not (spared r (width g a (a + w)))) (left g (box a (a + w) m (suc m)) + right g (box a (a + w) m (suc m)))),
            flanks_due g r ripe.sound price a w n (suc n) ripe.wide-some (omega arith) q,
            ripe.due_most,
          ))
          ∙ omega arith

  pub rows_all : (last j : ℕ) (u : List ℕ) → last ≡ w - 1 → rows ≤ j → RowsGrown short wide t last j s u → Grown g r w u × Flanked g r w u
  rows_all last j u e h o =
      (record { long = o.long ∙ ripe.grown.long; counts = counts; bottoms = bottoms; tops = tops }, record { flanks = flanks })
    where
      -- the line past the last column
      past : (a : ℕ) → suc (a + last) ≡ a + w
      past a = omega (arith, ripe.wide-some)

      before : (a : ℕ) → a + (w - 1) ≡ a + last
      before a = omega arith

      row : (n : ℕ) → n < g.rows → n < j
      row n q = omega (arith, ripe.rows_are)

      column : (a : ℕ) → a < 16 → a + last < 32
      column a l = omega (arith, ripe.wide-most, ripe.sound.columns-most)

      -- the last column is added, and nothing wraps
      step : (k a n x : ℕ) → k < 3 → a < 16 → n < g.rows → x ≡ 256 * k + (16 * n + a) → get_or s x 0 ≡ along g r k a (a + last) n
          → along g r k a (a + w) n ≤ 65535
          → get_or u x 0 ≡ along g r k a (a + w) n
      step k a n x hk l q ex es most =
          let z : along g r k a (a + w) n ≡ along g r k a (a + last) n + counted_share g r k (a + last) n =
          sym (ap (λ c. along g r k a c n) (past a)) ∙ over_last a (a + last) (λ i. counted_share g r k i n) (omega arith) in
          ap (λ m. get_or u m 0) ex
          ∙ o.grown k n a hk (row n q) l
          ∙ ap₂ wrap (ap (λ m. get_or s m 0) (sym ex) ∙ es) (ripe.shares.shares k (a + last) n (omega arith) (column a l) q)
          ∙ wrap-fits (along g r k a (a + last) n) (counted_share g r k (a + last) n) (omega arith)
          ∙ sym z

      counts : (a n : ℕ) → a < 16 → n < g.rows → get_or u (16 * n + a) 0 ≡ inside_cells g (box a (a + w) n (suc n))
      counts a n l q =
          step 0 a n (16 * n + a) (omega arith) l q (omega arith)
          (ripe.grown.counts a n l q ∙ count-along g r a (a + (w - 1)) n ∙ ap (λ c. along g r 0 a c n) (before a))
          (omega (
            arith,
            count-along g r a (a + w) n,
            inside_in g ripe.sound a w n (suc n) (omega (arith, ripe.wide-most, ripe.sound.columns-most)) (omega arith) q,
          ))
          ∙ sym (count-along g r a (a + w) n)

      bottoms : (a b d : ℕ) → a < 16 → b < g.rows
          → get_or u (256 + (16 * b + a)) 0 ≡ only (not (spared r (height g b (suc b)))) (bottom g (box a (a + w) b d))
      bottoms a b d l q =
          step 1 a b (256 + (16 * b + a)) (omega arith) l q (omega arith)
          (ripe.grown.bottoms a b d l q ∙ bottom-along g r a (a + (w - 1)) b d ∙ ap (λ c. along g r 1 a c b) (before a))
          (omega (arith, bottom-along g r a (a + w) b d, bottom_due g r ripe.sound price a w b d q, ripe.due_most))
          ∙ sym (bottom-along g r a (a + w) b d)

      tops : (a b d : ℕ) → a < 16 → d < g.rows
          → get_or u (512 + (16 * d + a)) 0 ≡ only (not (spared r (height g d (suc d)))) (top g (box a (a + w) b (suc d)))
      tops a b d l q =
          step 2 a d (512 + (16 * d + a)) (omega arith) l q (omega arith)
          (ripe.grown.tops a b d l q ∙ top-along g r a (a + (w - 1)) b d ∙ ap (λ c. along g r 2 a c d) (before a))
          (omega (arith, top-along g r a (a + w) b d, top_due g r ripe.sound price a w b d q, ripe.due_most))
          ∙ sym (top-along g r a (a + w) b d)

      flanks : (a n : ℕ) → a + w ≤ g.columns → n < g.rows
          → get_or u (768 + (16 * n + a)) 0
          ≡ only (not (spared r (width g a (a + w)))) (left g (box a (a + w) n (suc n)) + right g (box a (a + w) n (suc n)))
      flanks a n k q =
          let lane : a < 16 = omega (arith, ripe.wide-some, ripe.sound.columns-most) in
          o.flanked n a (row n q) lane
          ∙ ap₂ (λ m x. only (ltb m t) x) (ripe.widths.widths a k)
          (ap₂ wrap (ripe.shares.shares 3 a n (omega arith) (omega arith) q) (ripe.shares.shares 4 (a + last) n (omega arith) (column a lane) q))
          ∙ ap (λ m. only (ltb (width g a (a + w)) m) (wrap (counted_share g r 3 a n) (counted_share g r 4 (a + last) n))) (sym ripe.threshold-is)
          ∙ flank_row a last n (past a) q
