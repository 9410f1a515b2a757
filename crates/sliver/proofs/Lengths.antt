-- The sliver length of a shot from what lies in memory. Assumes nothing.
--
--   lies-low, lies-high       : both sides of a band are within what is lent
--   side-low, side-high       : the exposed length of a side in memory is that of the grid, in either direction
--   banded_x, banded_y        : the two bands of a piece
--   x-ordered, y-ordered      : the places of its low lines are no higher than those of its high lines
--   width_is, height-is       : they are its width and its height apart
--   sliver-measured           : its sliver length is what the rule makes of its two extents and of the sides that it does not spare
use Prim.Native.Nat.{ℕ, zero, suc, ◌+◌, ◌*◌, ◌-◌, ◌%◌, ◌≤◌, ◌<◌}
use mathlib.Core.Path.{◌≡◌, refl, ap, ap₂, sym, ◌∙◌}
use mathlib.Core.Bool.{Bool, true, false, cond, ◌&&◌, not}
use mathlib.Core.List.{List}
use native.Mathlib.Omega.{arith}
use native.Mathlib.Nat.{one-mul}
use native.Mathlib.Numerals.{add-one}
use lib.ListN.{get_or}
use Rattle.sum.specs.Sum.{only, over}
use Rattle.sum.proofs.Sum.{over-same, rise}
use Rattle.outline.specs.Grid.{Grid}
use Rattle.rule.specs.declared.Rule.{Rule}
use Rattle.rule.specs.Charge.{sliver_of, spared}
use Rattle.rule.proofs.Charge.{spared-x, spared-y}
use Rattle.piece.specs.Piece.{Piece, low_side, high_side, width, height, left, right, bottom, top, sliver}
use Rattle.sliver.specs.declared.Band.{Band}
use Rattle.sliver.specs.Sides.{Shown, exposed_at, exposed_in, Lies, low_of, high_of, both_in, counted_in, Banded}

module _ (cells lines : List ℕ) (b : Band) (w : Banded cells lines b) where
  pub lies-low : Lies cells lines (low_of b)
  lies-low = record {
    near = λ k h. w.cell b.low.0 k (omega (arith, w.ordered, w.most)) (omega (arith, w.end));
    far = λ k h. w.cell ((b.low.0 + 15) % 16) k (omega arith) (omega (arith, w.end));
    ordered = w.along;
    most = w.end;
    crossed = omega (arith, w.end, w.count);
    rise = w.rise;
  }

  pub lies-high : Lies cells lines (high_of b)
  lies-high = record {
    near = λ k h. w.cell (b.high.0 - 1) k (omega (arith, w.most)) (omega (arith, w.end));
    far = λ k h. w.cell b.high.0 k (omega (arith, w.most)) (omega (arith, w.end));
    ordered = w.along;
    most = w.end;
    crossed = omega (arith, w.end, w.count);
    rise = w.rise;
  }

-- a stretch between two cells
stretch : (s t : Bool) (u v : ℕ) → exposed_at (only s 1) (only t 1) u v ≡ only (s && not t) (v - u)
unfolding exposed_at
stretch true true u v = refl
stretch true false u v = refl
stretch false t u v = refl

-- The cells f i j lie at across x i + along x j, and the places y k of the lines that they cross at k.
module _ (cells lines : List ℕ) (f : ℕ → ℕ → Bool) (y : ℕ → ℕ) (across along : ℕ)
    (cell-at : (i j : ℕ) → i < 16 → j < 16 → get_or cells (across * i + along * j) 0 ≡ only (f i j) 1)
    (end : ℕ)
    (few : end ≤ 15)
    (place_at : (k : ℕ) → k ≤ end → get_or lines k 0 ≡ y k)
    (from : ℕ) where
  at : (i o k : ℕ) → i < 16 → o < 16 → k < end
      → exposed_at (get_or cells (across * i + along * k) 0) (get_or cells (across * o + along * k) 0) (get_or lines k 0) (get_or lines (k + 1) 0)
      ≡ only (f i k && not (f o k)) (y (suc k) - y k)
  at i o k h q r =
      rw (
        cell-at i k h (omega arith),
        cell-at o k q (omega arith),
        place_at k (omega arith),
        add-one k,
        place_at (suc k) (omega arith),
      )
      (stretch (f i k) (f o k) (y k) (y (suc k)))

  pub side-low : (low : ℕ) → low < 15 → ((k : ℕ) → f 15 k ≡ false)
      → exposed_in cells lines (record { near = across * low; far = across * ((low + 15) % 16); step = along; from = record { 0 = from }; to = record { 0 = end } })
      ≡ over from end (λ k. only (low_side (λ i. f i k) low) (y (suc k) - y k))
  unfolding exposed_in low_side
  side-low zero h none =
      over-same from end _ _
      (λ k _ q. at 0 15 k (omega arith) (omega arith) q ∙ ap (λ t. only (f 0 k && not t) (y (suc k) - y k)) (none k))
  side-low (suc l) h none =
      let e : (suc l + 15) % 16 ≡ l = omega arith in
      over-same from end _ _
      (λ k _ q. rw e (at (suc l) l k (omega arith) (omega arith) q))

  pub side-high : (high : ℕ) → 0 < high → high ≤ 15
      → exposed_in cells lines (record { near = across * (high - 1); far = across * high; step = along; from = record { 0 = from }; to = record { 0 = end } })
      ≡ over from end (λ k. only (high_side (λ i. f i k) high) (y (suc k) - y k))
  unfolding exposed_in high_side
  side-high zero h q = absurd (omega arith)
  side-high (suc l) h q =
      let e : suc l - 1 ≡ l = omega arith in
      over-same from end _ _
      (λ k _ r. rw e (at l (suc l) k (omega arith) (omega arith) r))

module _ (g : Grid) (xs ys cells : List ℕ) (p : Piece) (w : Shown g xs ys cells p) where
  -- both directions of memory
  upright-at : (i j : ℕ) → i < 16 → j < 16 → get_or cells (16 * i + 1 * j) 0 ≡ only (g.inside i j) 1
  upright-at i j h k = ap (λ n. get_or cells (16 * i + n) 0) (one-mul j) ∙ w.drawn.cell-at i j h k

  level_at : (j i : ℕ) → j < 16 → i < 16 → get_or cells (1 * j + 16 * i) 0 ≡ only (g.inside i j) 1
  level_at j i h k =
      let e : 1 * j + 16 * i ≡ 16 * i + j = omega arith in
      ap (λ n. get_or cells n 0) e ∙ w.drawn.cell-at i j k h

  abbrev pub band_x : Band
  band_x = record {
    low = record { 0 = p.a };
    high = record { 0 = p.c };
    from = record { 0 = p.b };
    to = record { 0 = p.d };
    across = 16;
    along = 1;
  }

  abbrev pub band_y : Band
  band_y = record {
    low = record { 0 = p.b };
    high = record { 0 = p.d };
    from = record { 0 = p.a };
    to = record { 0 = p.c };
    across = 1;
    along = 16;
  }

  x_rises : (k : ℕ) → k < g.columns → get_or xs k 0 ≤ get_or xs (k + 1) 0
  x_rises k h =
      omega (
        arith,
        w.drawn.x-at k (omega arith),
        ap (λ n. get_or xs n 0) (add-one k),
        w.drawn.x-at (suc k) h,
        w.sound.x-up k,
      )

  y_rises : (k : ℕ) → k < g.rows → get_or ys k 0 ≤ get_or ys (k + 1) 0
  y_rises k h =
      omega (
        arith,
        w.drawn.y-at k (omega arith),
        ap (λ n. get_or ys n 0) (add-one k),
        w.drawn.y-at (suc k) h,
        w.sound.y-up k,
      )

  pub banded_x : Banded cells ys band_x
  banded_x =
      let v = w.valid in
      let s = w.sound in
      let d = w.drawn in
      record {
        ordered = v.ac;
        most = omega (arith, v.cx, s.columns-most);
        along = omega (arith, v.bd);
        end = omega (arith, v.dy, s.rows-most);
        cell = λ i j h k. omega (arith, d.cells-length);
        count = d.ys-length;
        rise = λ k h. y_rises k (omega (arith, v.dy));
      }

  pub banded_y : Banded cells xs band_y
  banded_y =
      let v = w.valid in
      let s = w.sound in
      let d = w.drawn in
      record {
        ordered = v.bd;
        most = omega (arith, v.dy, s.rows-most);
        along = omega (arith, v.ac);
        end = omega (arith, v.cx, s.columns-most);
        cell = λ i j h k. omega (arith, d.cells-length);
        count = d.xs-length;
        rise = λ k h. x_rises k (omega (arith, v.cx));
      }

  sides-x : (exposed_in cells ys (low_of band_x) ≡ left g p) × (exposed_in cells ys (high_of band_x) ≡ right g p)
  unfolding left right height
  sides-x =
      let v = w.valid in
      let s = w.sound in
      let place : (k : ℕ) → k ≤ p.d → get_or ys k 0 ≡ g.y k = λ k h. w.drawn.y-at k (omega (arith, v.dy)) in
      let few : p.d ≤ 15 = omega (arith, v.dy, s.rows-most) in (
        side-low cells ys g.inside g.y 16 1 upright-at p.d few place p.b p.a (omega (arith, v.ac, v.cx, s.columns-most))
            (λ k. s.right-none 15 k s.columns-most),
        side-high cells ys g.inside g.y 16 1 upright-at p.d few place p.b p.c (omega (arith, v.ac))
            (omega (arith, v.cx, s.columns-most)),
      )

  sides-y : (exposed_in cells xs (low_of band_y) ≡ bottom g p) × (exposed_in cells xs (high_of band_y) ≡ top g p)
  unfolding bottom top width
  sides-y =
      let v = w.valid in
      let s = w.sound in
      let place : (k : ℕ) → k ≤ p.c → get_or xs k 0 ≡ g.x k = λ k h. w.drawn.x-at k (omega (arith, v.cx)) in
      let few : p.c ≤ 15 = omega (arith, v.cx, s.columns-most) in (
        side-low cells xs (λ j i. g.inside i j) g.x 1 16 level_at p.c few place p.a p.b
            (omega (arith, v.bd, v.dy, s.rows-most))
            (λ k. s.above-none k 15 s.rows-most),
        side-high cells xs (λ j i. g.inside i j) g.x 1 16 level_at p.c few place p.a p.d (omega (arith, v.bd))
            (omega (arith, v.dy, s.rows-most)),
      )

  -- what the four places say
  pub x-ordered : {l r : ℕ} → l ≡ get_or xs p.a 0 → r ≡ get_or xs p.c 0 → l ≤ r
  x-ordered e f =
      let v = w.valid in
      let d = w.drawn in
      omega (
        arith,
        d.x-at p.a (omega (arith, v.ac, v.cx)),
        d.x-at p.c v.cx,
        rise g.x w.sound.x-up p.a p.c (omega (arith, v.ac)),
      )

  pub y-ordered : {l r : ℕ} → l ≡ get_or ys p.b 0 → r ≡ get_or ys p.d 0 → l ≤ r
  y-ordered e f =
      let v = w.valid in
      let d = w.drawn in
      omega (
        arith,
        d.y-at p.b (omega (arith, v.bd, v.dy)),
        d.y-at p.d v.dy,
        rise g.y w.sound.y-up p.b p.d (omega (arith, v.bd)),
      )

  pub width_is : {l r : ℕ} → l ≡ get_or xs p.a 0 → r ≡ get_or xs p.c 0 → r - l ≡ width g p.a p.c
  unfolding width
  width_is e f =
      let v = w.valid in
      ap₂ (λ m n. m - n) (f ∙ w.drawn.x-at p.c v.cx) (e ∙ w.drawn.x-at p.a (omega (arith, v.ac, v.cx)))

  pub height-is : {l r : ℕ} → l ≡ get_or ys p.b 0 → r ≡ get_or ys p.d 0 → r - l ≡ height g p.b p.d
  unfolding height
  height-is e f =
      let v = w.valid in
      ap₂ (λ m n. m - n) (f ∙ w.drawn.y-at p.d v.dy) (e ∙ w.drawn.y-at p.b (omega (arith, v.bd, v.dy)))

  module _ (r : Rule) {m n : ℕ} (x : m ≡ width g p.a p.c) (y : n ≡ height g p.b p.d) where
    -- the sides of one pair, or 0 where the rule spares them
    sliver-both : {s u v : ℕ} → u ≡ both_in cells ys band_x → v ≡ both_in cells xs band_y → s ≡ sliver_of r m n u v → s ≡ sliver g r p
    unfolding both_in sliver
    sliver-both e f k =
        k ∙ rw (x, y, e, f, sides-x.0, sides-x.1, sides-y.0, sides-y.1)

    pub sliver-measured : {s u v : ℕ} {t o : Bool} → t ≡ spared r m → o ≡ spared r n
        → u ≡ counted_in cells ys band_x t → v ≡ counted_in cells xs band_y o → s ≡ sliver_of r m n u v → s ≡ sliver g r p
    unfolding counted_in
    sliver-measured {s} {u} {v} {t} {o} h k e f q = go t o h k e f
      where
        go : (t o : Bool) → t ≡ spared r m → o ≡ spared r n → u ≡ cond t 0 (both_in cells ys band_x) → v ≡ cond o 0 (both_in cells xs band_y)
            → s ≡ sliver g r p
        go true true h k e f =
            sliver-both refl refl
            (q ∙ ap₂ (sliver_of r m n) e f ∙ spared-x r m n (both_in cells ys band_x) 0 (sym h) ∙ spared-y r m n (both_in cells ys band_x) (both_in cells xs band_y) (sym k))
        go true false h k e f =
            sliver-both refl refl (q ∙ ap₂ (sliver_of r m n) e f ∙ spared-x r m n (both_in cells ys band_x) (both_in cells xs band_y) (sym h))
        go false true h k e f =
            sliver-both refl refl (q ∙ ap₂ (sliver_of r m n) e f ∙ spared-y r m n (both_in cells ys band_x) (both_in cells xs band_y) (sym k))
        go false false h k e f = sliver-both e f q
