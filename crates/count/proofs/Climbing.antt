-- The pieces of one sort, by the cell at their low corner. Assumes nothing.
--
--   farther-same, farther-other      == a row that goes on with its sort, and one that does not
--   widen_more, reached-none, reached-more   == the reaches of a column, from those of the next one
--   Climbing, climbing-*             == the rows above a corner that are passed
--   corner-same                      == a corner sees the reaches of its column's rows only
--   spared-grid                      == twice the lines within the pieces of one sort
--   lines_thirds                     == the lines within all pieces, as the code has them
--   cuts-rest                        == all but those of one sort are those weighed
--   Passing, passing-*               == the columns passed, from the last one back
--   Widening, widening-*             == the same with the reaches of the rows in a list
use Prim.Native.Nat.{ℕ, zero, suc, ◌+◌, ◌*◌, ◌-◌, ◌/◌, ◌≤◌, ◌<◌, min}
use mathlib.Core.Path.{◌≡◌, refl, sym, ◌∙◌, ap, ap₂, subst}
use mathlib.Core.Bool.{Bool, true, false, cond}
use mathlib.Core.Logic.{◌⊎◌, inl, inr}
use mathlib.Core.List.{List}
use native.Mathlib.Omega.{arith}
use native.Mathlib.Nat.{mul-le-mul}
use lib.Dec.{eqb}
use lib.ListN.{length, get_or, set, replicate}
use borrow.Author.Tests.{eq-eqb, ne_eqb, eqb-true, eqb-false}
use Rattle.sum.specs.Sum.{only, over}
use Rattle.sum.proofs.Sum.{le-or, over_none, over-one, over_last, over-cut, over-same, over_zero, over-mul, over_swap}
use Rattle.recurrence.specs.Scheme.{Kind, outside, full, mixed}
use Rattle.outline.specs.Grid.{Grid}
use Rattle.piece.specs.Piece.{Piece, box, kind}
use Rattle.piece.proofs.Cells.{Within}
use Rattle.piece.proofs.Kind.{outside-cell, full-cell, kind-none, kind-all}
use Rattle.table.specs.Run.{Wrote}
use Rattle.table.specs.Entry.{pair_count}
use Rattle.table.proofs.Run.{wrote_more, zeros_at}
use Rattle.table.proofs.Entry.{count-closed}
use Rattle.demands.specs.Cuts.{lines_within, weighed, line_pairs, weighed_cuts}
use Rattle.demands.proofs.Bounded.{pairs-same, pairs-add, pairs_ones, pairs-lines, every_line, lines-all}
use Rattle.count.specs.Count.{Shaded}
use Rattle.count.specs.Corners.{cell_at, number_at, farther, widened, stretch, Widenable, Climbable, share, climb, corner, reach_at, spared, spared_all}

-- Reaches

pub farther-same : (cell next further : ℕ) → cell ≡ next → further + 1 ≡ farther cell next further
unfolding farther
farther-same cell next further e = rw (eq-eqb cell next e) (omega arith)

pub farther-other : (cell next further : ℕ) → (cell ≡ next → ⊥) → 1 ≡ farther cell next further
unfolding farther
farther-other cell next further n = rw (ne_eqb cell next n)

pub widen_more : (cells : List ℕ) (column j : ℕ) (t u : List ℕ) (v : ℕ) → length t ≡ 16 → j < 16
    → v ≡ farther (get_or cells (16 * column + j) 0) (get_or cells (16 * column + j + 16) 0) (get_or u j 0)
    → Wrote (widened cells column t) 0 j t u
    → Wrote (widened cells column t) 0 (j + 1) t (set u j v)
unfolding widened cell_at number_at
widen_more cells column j t u v long h e w =
    let z : 0 + j ≡ j = omega arith in
    let n : 16 * column + j + 16 ≡ 16 * suc column + j = omega arith in
    subst (λ k. Wrote (widened cells column t) 0 (j + 1) t (set u k v)) z
    (wrote_more (widened cells column t) 0 j t u v (omega (arith, w.long))
    (e ∙ ap₂ (λ k l. farther (get_or cells (16 * column + j) 0) (get_or cells k 0) l) n (w.kept j (inr (omega arith)))) w)

module _ (f : ℕ → ℕ) where
  pub stretch-most : (a n : ℕ) → stretch f a n ≤ n
  unfolding stretch farther
  stretch-most a zero = omega arith
  stretch-most a (suc n) = go (eqb (f a) (f (suc a))) (stretch-most (suc a) n)
    where
      go : (t : Bool) → stretch f (suc a) n ≤ n → cond t (suc (stretch f (suc a) n)) 1 ≤ suc n
      go true h = omega arith
      go false h = omega arith

  stretch-some : (a n : ℕ) → 1 ≤ stretch f a (suc n)
  unfolding stretch farther
  stretch-some a n = go (eqb (f a) (f (suc a)))
    where
      go : (t : Bool) → 1 ≤ cond t (suc (stretch f (suc a) n)) 1
      go true = omega arith
      go false = omega arith

  -- as far as it goes all are alike
  stretch-alike : (a n i : ℕ) → a ≤ i → i < a + stretch f a n → f i ≡ f a
  unfolding stretch farther
  stretch-alike a zero i h k = absurd (omega arith)
  stretch-alike a (suc n) i h k = go (stretch-alike (suc a) n i) (eqb (f a) (f (suc a))) refl k (le-or i a)
    where
      go : (suc a ≤ i → i < suc a + stretch f (suc a) n → f i ≡ f (suc a)) → (t : Bool) → eqb (f a) (f (suc a)) ≡ t
          → i < a + cond t (suc (stretch f (suc a) n)) 1 → (i ≤ a) ⊎ (a < i) → f i ≡ f a
      go rest t e k (inl q) = (let z : i ≡ a = omega arith in ap f z)
      go rest true e k (inr q) = rest q (omega arith) ∙ sym (eqb-true (f a) (f (suc a)) e)
      go rest false e k (inr q) = absurd (omega arith)

  -- and it goes as far as all are alike
  stretch-ends : (a n m : ℕ) → m ≤ n → ((i : ℕ) → a ≤ i → i < a + m → f i ≡ f a) → m ≤ stretch f a n
  unfolding stretch farther
  stretch-ends a zero m h k = omega arith
  stretch-ends a (suc n) zero h k = omega arith
  stretch-ends a (suc n) (suc m) h k = go (stretch-ends (suc a) n m (omega arith)) (eqb (f a) (f (suc a))) refl
    where
      go : (((i : ℕ) → suc a ≤ i → i < suc a + m → f i ≡ f (suc a)) → m ≤ stretch f (suc a) n) → (t : Bool) → eqb (f a) (f (suc a)) ≡ t
          → suc m ≤ cond t (suc (stretch f (suc a) n)) 1
      go rest true e =
          let q = rest (λ i p r. k i (omega arith) (omega arith) ∙ eqb-true (f a) (f (suc a)) e) in omega arith
      go rest false e = elim (le-or m 0) [
        | inl q ↦ omega arith
        | inr q ↦ absurd (eqb-false (f a) (f (suc a)) e (sym (k (suc a) (omega arith) (omega arith))))
      ]

-- the reaches of the rows at a column
pub record Reached (cells : List ℕ) (columns rows column : ℕ) (reaches : List ℕ) : Type 0 where
  pub long : length reaches ≡ 16
  pub each : (j : ℕ) → j < rows → number_at reaches j ≡ reach_at cells columns column j

pub reached-none : (cells : List ℕ) (columns rows : ℕ) (reaches : List ℕ) → length reaches ≡ 16 → ((j : ℕ) → get_or reaches j 0 ≡ 0)
    → Reached cells columns rows columns reaches
unfolding number_at reach_at
reached-none cells columns rows reaches long zeros =
    record { long = long; each = λ j h. zeros j ∙ sym (none j) }
  where
    none : (j : ℕ) → stretch (λ i. cell_at cells i j) columns (columns - columns) ≡ 0
    none j = omega (arith, stretch-most (λ i. cell_at cells i j) columns (columns - columns))

pub reached-more : (cells : List ℕ) (columns rows column : ℕ) (t u : List ℕ) → column < columns
    → Reached cells columns rows (suc column) t → Wrote (widened cells column t) 0 rows t u → Reached cells columns rows column u
unfolding number_at reach_at widened stretch
reached-more cells columns rows column t u h w v =
    record {
      long = v.long ∙ w.long;
      each = λ j k. (let z : 0 + j ≡ j = omega arith in ap (λ i. get_or u i 0) (sym z)) ∙ v.made j k ∙ ap (farther (cell_at cells column j) (cell_at cells (suc column) j)) (w.each j k) ∙ sym (one j);
    }
  where
    one : (j : ℕ) → stretch (λ i. cell_at cells i j) column (columns - column)
        ≡ farther (cell_at cells column j) (cell_at cells (suc column) j) (stretch (λ i. cell_at cells i j) (suc column) (columns - suc column))
    one j =
        let z : columns - column ≡ suc (columns - suc column) = omega arith in
        ap (stretch (λ i. cell_at cells i j) column) z

pub reached-few : (cells : List ℕ) (columns rows column : ℕ) (reaches : List ℕ) → columns ≤ 15 → Reached cells columns rows column reaches
    → (j : ℕ) → j < rows → number_at reaches j ≤ 15
unfolding reach_at
reached-few cells columns rows column reaches h w j k =
    omega (arith, w.each j k, stretch-most (λ i. cell_at cells i j) column (columns - column))

pub reach_some : (cells : List ℕ) (columns a j : ℕ) → a < columns → 1 ≤ reach_at cells columns a j
unfolding reach_at
reach_some cells columns a j h =
    let z : columns - a ≡ suc (columns - suc a) = omega arith in
    subst (λ n. 1 ≤ stretch (λ i. cell_at cells i j) a n) (sym z) (stretch-some (λ i. cell_at cells i j) a (columns - suc a))

pub reached_climbable : (cells : List ℕ) (columns rows column : ℕ) (reaches : List ℕ) → length cells ≡ 256 → columns ≤ 15 → rows ≤ 15 → column < columns
    → Reached cells columns rows column reaches → Climbable cells column rows reaches
reached_climbable cells columns rows column reaches long h k l w =
    record {
      cells-length = long;
      column-most = omega arith;
      rows-most = k;
      reaches_length = w.long;
      few = reached-few cells columns rows column reaches h w;
      some = λ j m. omega (arith, w.each j m, reach_some cells columns column j l);
    }

-- Climbing

-- what a row adds is small
pub share-fits : (m e : ℕ) → m ≤ 15 → e ≤ 14 → m * (m + 2 * e - 1) ≤ 660
share-fits m e h k = omega (arith, mul-le-mul {n₁ = m} {m₁ = m + 2 * e - 1} {n₂ = 15} {m₂ = 44} h (omega arith))

module _ (f r : ℕ → ℕ) where
  pub climb_go : (s j e m k : ℕ) → f j ≡ s → climb f r s j e m (suc k) ≡ share (min m (r j)) e + climb f r s (suc j) (suc e) (min m (r j)) k
  unfolding climb
  climb_go s j e m k h = rw (eq-eqb (f j) s h)

  climb-stop : (s j e m k : ℕ) → (f j ≡ s → ⊥) → climb f r s j e m k ≡ 0
  unfolding climb
  climb-stop s j e m zero h = refl
  climb-stop s j e m (suc k) h = rw (ne_eqb (f j) s h)

  pub record Climbing (rows b s j e m sum : ℕ) : Type 0 where
    pub from : e + b ≡ j
    pub to : j ≤ rows
    pub some : 1 ≤ m
    pub few : m ≤ 15
    pub small : sum ≤ 660 * e
    pub left : sum + climb f r s j e m (rows - j) ≡ corner f r rows b

  pub climbing_none : (rows b s m : ℕ) → s ≡ f b → m ≡ r b → b < rows → 1 ≤ r b → r b ≤ 15 → Climbing rows b s b 0 m 0
  unfolding corner
  climbing_none rows b s m e q h i k =
      record {
        from = omega arith;
        to = omega arith;
        some = omega arith;
        few = omega arith;
        small = omega arith;
        left = (let z : 0 + climb f r s b 0 m (rows - b) ≡ climb f r s b 0 m (rows - b) = omega arith in z ∙ ap₂ (λ s m. climb f r s b 0 m (rows - b)) e q);
      }

  pub climbing_more : {rows b s j e m sum v q n : ℕ} → Climbing rows b s j e m sum → rows ≤ 15 → j < rows → v ≡ s → v ≡ f j
      → q ≡ r j → 1 ≤ q → q ≤ 15 → n ≡ min m q
      → Climbing rows b s (j + 1) (e + 1) n (sum + n * (n + 2 * e - 1))
  unfolding share
  climbing_more {rows} {b} {s} {j} {e} {m} {sum} {v} {q} {n} c h k vs vf qr some few nm =
      let from = c.from in
      let z : rows - j ≡ suc (rows - (j + 1)) = omega arith in
      let jj : suc j ≡ j + 1 = omega arith in
      let ee : suc e ≡ e + 1 = omega arith in
      let nn : min m (r j) ≡ n = ap (min m) (sym qr) ∙ sym nm in
      record {
        from = omega arith;
        to = omega arith;
        some = omega (arith, c.some);
        few = omega (arith, c.few);
        small = omega (arith, c.small, share-fits n e (omega (arith, c.few)) (omega arith));
        left =
            omega (
              arith,
              c.left,
              ap (climb f r s j e m) z,
              climb_go s j e m (rows - (j + 1)) (sym vf ∙ vs),
              ap (λ x. x * (x + 2 * e - 1)) nn,
              ap₂ (λ (x y : ℕ). climb f r s x y (min m (r j)) (rows - (j + 1))) jj ee,
              ap (λ x. climb f r s (j + 1) (e + 1) x (rows - (j + 1))) nn,
            );
      }

  -- the two ends
  pub climbing_stop : {rows b s j e m sum v : ℕ} → Climbing rows b s j e m sum → rows ≤ 15 → v ≡ f j → (v ≡ s → ⊥)
      → (sum ≡ corner f r rows b) × (sum ≤ 9900)
  climbing_stop {rows} {b} {s} {j} {e} {m} c h vf n = (
    omega (arith, c.left, climb-stop s j e m (rows - j) (λ z. n (vf ∙ z))),
    omega (arith, c.small, c.from, c.to),
  )

  pub climbing_end : {rows b s j e m sum : ℕ} → Climbing rows b s j e m sum → rows ≤ 15 → rows ≤ j
      → (sum ≡ corner f r rows b) × (sum ≤ 9900)
  unfolding climb
  climbing_end {rows} {b} {s} {j} {e} {m} c h k =
      let z : rows - j ≡ 0 = omega arith in
      (omega (arith, c.left, ap (climb f r s j e m) z), omega (arith, c.small, c.from, c.to))

-- a corner sees the reaches of its column's rows only
climb-same : (f r t : ℕ → ℕ) (rows s e k j m : ℕ) → ((i : ℕ) → i < rows → r i ≡ t i) → j + k ≤ rows → climb f r s j e m k ≡ climb f t s j e m k
unfolding climb
climb-same f r t rows s e zero j m h q = refl
climb-same f r t rows s e (suc k) j m h q =
    let z : r j ≡ t j = h j (omega arith) in
    ap (λ x. cond (eqb (f j) s) x 0)
    (ap (λ x. share (min m x) e + climb f r s (suc j) (suc e) (min m x) k) z
    ∙ ap (λ x. share (min m (t j)) e + x) (climb-same f r t rows s (suc e) k (suc j) (min m (t j)) h (omega arith)))

pub corner-same : (f r t : ℕ → ℕ) (rows b : ℕ) → b < rows → ((i : ℕ) → i < rows → r i ≡ t i) → corner f r rows b ≡ corner f t rows b
unfolding corner
corner-same f r t rows b h e =
    ap (λ m. climb f r (f b) b 0 m (rows - b)) (e b h) ∙ climb-same f r t rows (f b) 0 (rows - b) b (t b) e (omega arith)

pub spared-at : (cells : List ℕ) (columns rows column : ℕ) (reaches : List ℕ) → Reached cells columns rows column reaches
    → over 0 rows (corner (cell_at cells column) (number_at reaches) rows) ≡ spared cells columns rows column
unfolding spared
spared-at cells columns rows column reaches w =
    over-same 0 rows _ _ (λ b p q. corner-same (cell_at cells column) (number_at reaches) (reach_at cells columns column) rows b q w.each)

pub over_first : (a c : ℕ) (f : ℕ → ℕ) → a < c → over a c f ≡ f a + over (suc a) c f
over_first a c f h = omega (arith, over-cut a (suc a) c f (omega arith) h, over-one a f)

pub widen_few : (cells : List ℕ) (column j : ℕ) (t u : List ℕ) → Wrote (widened cells column t) 0 j t u → number_at t j ≤ 15 → get_or u j 0 ≤ 15
unfolding number_at
widen_few cells column j t u w h = omega (arith, w.kept j (inr (omega arith)))

-- Of a grid

abbrev pub kept : Grid → Piece → ℕ
kept g p = elim (kind g p) [ outside ↦ lines_within p | full ↦ lines_within p | mixed ↦ 0 ]

only_one : (p q : Bool) → only p 1 ≡ only q 1 → p ≡ q
only_one true true e = refl
only_one true false e = absurd (omega arith)
only_one false true e = absurd (omega arith)
only_one false false e = refl

-- pieces of 1, 2, .. m columns
shares : (a e m : ℕ) → 2 * over (suc a) (suc (a + m)) (λ c. (c - suc a) + e) + m ≡ m * (m + 2 * e)
shares a e zero = omega (arith, over_none (suc a) (suc (a + 0)) (λ c. (c - suc a) + e) (omega arith))
shares a e (suc m) =
    let z : suc (a + suc m) ≡ suc (suc (a + m)) = omega arith in
    omega (
      arith,
      ap (λ k. over (suc a) k (λ c. (c - suc a) + e)) z,
      over_last (suc a) (suc (a + m)) (λ c. (c - suc a) + e) (omega arith),
      shares a e m,
    )

module _ (g : Grid) (cells : List ℕ) (columns rows : ℕ) (w : Shaded g cells columns rows) (a b : ℕ) (ha : a < columns) where
  abbrev f : ℕ → ℕ
  f = cell_at cells a

  abbrev r : ℕ → ℕ
  r = reach_at cells columns a

  abbrev n : ℕ
  n = columns - a

  -- the cells of m columns from the corner up to below the row j are alike
  abbrev Alike : ℕ → ℕ → Type 0
  Alike j m = (i k : ℕ) → a ≤ i → i < a + m → b ≤ k → k < j → cell_at cells i k ≡ f b

  -- and no more columns are
  abbrev Most : ℕ → ℕ → Type 0
  Most j m = (c : ℕ) → c ≤ n → Alike j c → c ≤ m

  cell-is : (i k : ℕ) → i < columns → k < rows → cell_at cells i k ≡ only (g.inside i k) 1
  unfolding cell_at
  cell-is i k h q = w.cell-at i k (omega (arith, w.columns-most)) (omega (arith, w.rows-most))

  -- up to m columns the pieces are of one sort, beyond they are not
  kept_near : (c d m : ℕ) → a < c → c ≤ a + m → m ≤ n → b < d → d ≤ rows → Alike d m → kept g (box a c b d) ≡ (c - suc a) + (d - suc b)
  unfolding lines_within
  kept_near c d m h k mn bd dr alike = go (g.inside a b) refl
    where
      like : (i j : ℕ) → Within (box a c b d) i j → g.inside i j ≡ g.inside a b
      like i j v =
          only_one _ _
          (sym (cell-is i j (omega (arith, v.c)) (omega (arith, v.d)))
          ∙ alike i j v.a (omega (arith, v.c)) v.b v.d
          ∙ cell-is a b ha (omega arith))

      go : (t : Bool) → g.inside a b ≡ t → kept g (box a c b d) ≡ (c - suc a) + (d - suc b)
      go true e =
          ap (λ k. elim k [ outside ↦ lines_within (box a c b d) | full ↦ lines_within (box a c b d) | mixed ↦ 0 ]) (kind-all g (box a c b d) h bd (λ i j v. like i j v ∙ e))
      go false e =
          ap (λ k. elim k [ outside ↦ lines_within (box a c b d) | full ↦ lines_within (box a c b d) | mixed ↦ 0 ]) (kind-none g (box a c b d) (λ i j v. like i j v ∙ e))

  kept-far : (c d m : ℕ) → a < c → a + m < c → c ≤ columns → b < d → d ≤ rows → Most d m → kept g (box a c b d) ≡ 0
  kept-far c d m h k cx bd dr most = go (kind g (box a c b d)) refl
    where
      alike : (t : Bool) → ((i j : ℕ) → Within (box a c b d) i j → g.inside i j ≡ t) → Alike d (c - a)
      alike t s i j p q u v =
          let at : g.inside i j ≡ t = s i j (record { a = p; c = omega arith; b = u; d = v }) in
          let corner : g.inside a b ≡ t = s a b (record { a = omega arith; c = h; b = omega arith; d = bd }) in
          cell-is i j (omega arith) (omega arith) ∙ ap (λ x. only x 1) (at ∙ sym corner) ∙ sym (cell-is a b ha (omega arith))

      of : Kind → ℕ
      of l = elim l [ outside ↦ lines_within (box a c b d) | full ↦ lines_within (box a c b d) | mixed ↦ 0 ]

      go : (l : Kind) → kind g (box a c b d) ≡ l → of l ≡ 0
      go outside e = absurd (omega (arith, most (c - a) (omega arith) (alike false (outside-cell g (box a c b d) e))))
      go full e = absurd (omega (arith, most (c - a) (omega arith) (alike true (full-cell g (box a c b d) e))))
      go mixed e = refl

  unfoldable pub kept_of : ℕ → ℕ
  kept_of d = over (suc a) (suc columns) (λ c. kept g (box a c b d))

  kept_row : (d m e : ℕ) → e + b ≡ d → suc d ≤ rows → 1 ≤ m → m ≤ n → Alike (suc d) m → Most (suc d) m → share m e ≡ 2 * kept_of (suc d)
  unfolding kept_of share
  kept_row d m e eb dr some mn alike most =
      omega (
        arith,
        over-cut (suc a) (suc (a + m)) (suc columns) (λ c. kept g (box a c b (suc d))) (omega arith) (omega arith),
        over-same (suc a) (suc (a + m)) (λ c. kept g (box a c b (suc d))) (λ c. (c - suc a) + e)
            (λ c p q. kept_near c (suc d) m p (omega arith) mn (omega arith) dr alike ∙ (let z : suc d - suc b ≡ e = omega arith in ap (λ x. (c - suc a) + x) z)),
        over_zero (suc (a + m)) (suc columns) (λ c. kept g (box a c b (suc d)))
            (λ c p q. kept-far c (suc d) m (omega arith) (omega arith) (omega arith) (omega arith) dr most),
        shares a e m,
        less m e some,
      )
    where
      less : (m e : ℕ) → 1 ≤ m → m * (m + 2 * e - 1) + m ≡ m * (m + 2 * e)
      less m e h = let z : m + 2 * e ≡ suc (m + 2 * e - 1) = omega arith in omega (arith, ap (λ k. m * k) z)

  row_more : (j m : ℕ) → f j ≡ f b → Alike j m → Alike (suc j) (min m (r j))
  unfolding reach_at
  row_more j m e alike i k p q u v = elim (le-or j k) [
    | inl h ↦
        (let z : k ≡ j = omega arith in
        ap (cell_at cells i) z ∙ stretch-alike (λ i. cell_at cells i j) a n i p (omega arith) ∙ e)
    | inr h ↦ alike i k p (omega arith) u h
  ]

  row-most : (j m : ℕ) → b ≤ j → f j ≡ f b → Most j m → Most (suc j) (min m (r j))
  unfolding reach_at
  row-most j m h e most c k alike =
      let x = most c k (λ i l p q u v. alike i l p q u (omega arith)) in
      let y = stretch-ends (λ i. cell_at cells i j) a n c k (λ i p q. alike i j p q h (omega arith) ∙ sym e) in
      omega arith

  climb-grid : (k j m e : ℕ) → e + b ≡ j → j + k ≡ rows → 1 ≤ m → m ≤ n → Alike j m → Most j m
      → climb f r (f b) j e m k ≡ 2 * over (suc j) (suc rows) kept_of
  unfolding climb
  climb-grid zero j m e eb jk some mn alike most = omega (arith, over_none (suc j) (suc rows) kept_of (omega arith))
  climb-grid (suc k) j m e eb jk some mn alike most =
      go (eqb (f j) (f b)) refl
      (λ q.
      climb-grid k (suc j) (min m (r j)) (suc e) (omega arith) (omega arith) (omega (arith, reach_some cells columns a j ha)) (omega arith)
      (row_more j m q alike) (row-most j m (omega arith) q most))
    where
      go : (t : Bool) → eqb (f j) (f b) ≡ t
          → (f j ≡ f b → climb f r (f b) (suc j) (suc e) (min m (r j)) k ≡ 2 * over (suc (suc j)) (suc rows) kept_of)
          → cond t (share (min m (r j)) e + climb f r (f b) (suc j) (suc e) (min m (r j)) k) 0 ≡ 2 * over (suc j) (suc rows) kept_of
      go true q rest =
          let z : f j ≡ f b = eqb-true (f j) (f b) q in
          omega (
            arith,
            rest z,
            kept_row j (min m (r j)) e eb (omega arith) (omega (arith, reach_some cells columns a j ha)) (omega arith) (row_more j m z alike) (row-most j m (omega arith) z most),
            over_first (suc j) (suc rows) kept_of (omega arith),
          )
      go false q rest =
          omega (
            arith,
            over_zero (suc j) (suc rows) kept_of
                (λ d p s.
                unfold kept_of in
                over_zero (suc a) (suc columns) (λ c. kept g (box a c b d))
                (λ c t u. kept-far c d 0 t (omega arith) (omega arith) (omega arith) (omega arith) (λ x y alike. other d x p alike q))),
          )
        where
          other : (d x : ℕ) → suc j ≤ d → Alike d x → eqb (f j) (f b) ≡ false → x ≤ 0
          other d x p alike q = elim (le-or x 0) [
            | inl h ↦ h
            | inr h ↦ absurd (eqb-false (f j) (f b) q (alike a j (omega arith) (omega arith) (omega arith) p))
          ]

  pub corner-grid : b < rows → corner f r rows b ≡ 2 * over (suc b) (suc rows) kept_of
  unfolding corner
  corner-grid h =
      let z : rows - b ≡ suc (rows - suc b) = omega arith in
      start
      ∙ climb-grid (rows - b) b n 0 (omega arith) (omega arith) (omega arith) (omega arith) (λ i k p q u v. absurd (omega arith)) (λ c k alike. k)
    where
      most : r b ≤ n
      most = unfold reach_at in stretch-most (λ i. cell_at cells i b) a n

      start : climb f r (f b) b 0 (r b) (rows - b) ≡ climb f r (f b) b 0 n (rows - b)
      start =
          let z : rows - b ≡ suc (rows - suc b) = omega arith in
          let e : min (r b) (r b) ≡ min n (r b) = omega (arith, most) in
          ap (climb f r (f b) b 0 (r b)) z
          ∙ climb_go f r (f b) b 0 (r b) (rows - suc b) refl
          ∙ ap (λ m. share m 0 + climb f r (f b) (suc b) 1 m (rows - suc b)) e
          ∙ sym (climb_go f r (f b) b 0 n (rows - suc b) refl)
          ∙ ap (climb f r (f b) b 0 n) (sym z)

-- The whole grid

pub lines_thirds : (m n p q : ℕ) → p ≡ pair_count m → q ≡ pair_count n → 1 ≤ m → 1 ≤ n → (p * q * (m + n - 2)) / 3 ≡ every_line m n
lines_thirds zero n p q e f h k = absurd (omega arith)
lines_thirds (suc m) zero p q e f h k = absurd (omega arith)
lines_thirds (suc m) (suc n) p q e f h k =
    let a = line_pairs (suc m) (λ i j. 1) in
    let b = line_pairs (suc n) (λ i j. 1) in
    let pa : p ≡ a = omega (arith, e, count-closed (suc m), pairs_ones (suc m)) in
    let qb : q ≡ b = omega (arith, f, count-closed (suc n), pairs_ones (suc n)) in
    let z : suc m + suc n - 2 ≡ m + n = omega arith in
    omega (
      arith,
      lines-all (suc m) (suc n),
      ap₂ (λ x y. x * y * (suc m + suc n - 2)) pa qb,
      ap (λ x. a * b * x) z,
      ap (λ x. x * b) (third m),
      ap (λ x. a * x) (third n),
    )
  where
    third : (m : ℕ) → 3 * line_pairs (suc m) (λ i j. j - suc i) ≡ m * line_pairs (suc m) (λ i j. 1)
    third m = omega (arith, pairs-lines (suc m), ap (λ x. m * x) (pairs_ones (suc m)))

module _ (g : Grid) (cells : List ℕ) (columns rows : ℕ) (w : Shaded g cells columns rows) where
  pub spared-grid : spared_all cells columns rows ≡ 2 * line_pairs columns (λ a c. line_pairs rows (λ b d. kept g (box a c b d)))
  unfolding spared_all spared line_pairs kept_of
  spared-grid =
      over-same 0 columns _ (λ a. 2 * over (suc a) (suc columns) (λ c. over 0 rows (λ b. over (suc b) (suc rows) (λ d. kept g (box a c b d)))))
      (λ a p q. at-column a q)
      ∙ over-mul 0 columns 2 _
    where
      at-column : (a : ℕ) → a < columns
          → over 0 rows (corner (cell_at cells a) (reach_at cells columns a) rows)
          ≡ 2 * over (suc a) (suc columns) (λ c. over 0 rows (λ b. over (suc b) (suc rows) (λ d. kept g (box a c b d))))
      at-column a h =
          over-same 0 rows _ (λ b. 2 * over (suc b) (suc rows) (λ d. over (suc a) (suc columns) (λ c. kept g (box a c b d))))
          (λ b p q. corner-grid g cells columns rows w a b h q)
          ∙ over-mul 0 rows 2 _
          ∙ ap (λ x. 2 * x)
          (over-same 0 rows _ (λ b. over (suc a) (suc columns) (λ c. over (suc b) (suc rows) (λ d. kept g (box a c b d))))
          (λ b p q. over_swap (suc b) (suc rows) (suc a) (suc columns) (λ d c. kept g (box a c b d)))
          ∙ over_swap 0 rows (suc a) (suc columns) (λ b c. over (suc b) (suc rows) (λ d. kept g (box a c b d))))

  weighed-kept : (p : Piece) → weighed g p + kept g p ≡ lines_within p
  unfolding weighed
  weighed-kept p = go (kind g p)
    where
      go : (k : Kind) → elim k [ outside ↦ 0 | full ↦ 0 | mixed ↦ lines_within p ] + elim k [ outside ↦ lines_within p | full ↦ lines_within p | mixed ↦ 0 ] ≡ lines_within p
      go outside = omega arith
      go full = omega arith
      go mixed = omega arith

  pub cuts-rest : 2 * weighed_cuts g + spared_all cells columns rows ≡ 2 * every_line columns rows
  unfolding weighed_cuts
  cuts-rest =
      omega (
        arith,
        spared-grid,
        ap₂ (λ m n. line_pairs m (λ a c. line_pairs n (λ b d. weighed g (box a c b d)))) w.across w.upright,
        pairs-add columns (λ a c. line_pairs rows (λ b d. weighed g (box a c b d))) (λ a c. line_pairs rows (λ b d. kept g (box a c b d))),
        pairs-same columns (λ a c. line_pairs rows (λ b d. weighed g (box a c b d)) + line_pairs rows (λ b d. kept g (box a c b d)))
            (λ a c. line_pairs rows (λ b d. lines_within (box a c b d)))
            (λ a c p q.
            sym (pairs-add rows (λ b d. weighed g (box a c b d)) (λ b d. kept g (box a c b d)))
            ∙ pairs-same rows _ _ (λ b d s t. weighed-kept (box a c b d))),
      )

-- The columns from the last one back

-- what is passed of the columns from this one on
pub record Passing (cells : List ℕ) (columns rows column sum : ℕ) : Type 0 where
  pub to : column ≤ columns
  pub passed : sum ≡ over column columns (spared cells columns rows)
  pub small : sum ≤ 148500 * (columns - column)

pub passing_none : (cells : List ℕ) (columns rows : ℕ) → Passing cells columns rows columns 0
passing_none cells columns rows =
    record {
      to = omega arith;
      passed = sym (over_none columns columns (spared cells columns rows) (omega arith));
      small = omega arith;
    }

pub passing_more : {cells : List ℕ} {columns rows column sum : ℕ} (n : ℕ) → Passing cells columns rows column sum → 0 < column
    → n ≡ spared cells columns rows (column - 1) → n ≤ 148500 → Passing cells columns rows (column - 1) (sum + n)
passing_more {cells} {columns} {rows} {column} n s some e few =
    let one-back : suc (column - 1) ≡ column = omega arith in
    record {
      to = omega (arith, s.to);
      passed =
          omega (
            arith,
            e,
            s.passed,
            over_first (column - 1) columns (spared cells columns rows) (omega (arith, s.to)),
            ap (λ k. over k columns (spared cells columns rows)) one-back,
          );
      small = omega (arith, few, s.small, s.to);
    }

pub passing_end : {cells : List ℕ} {columns rows column sum : ℕ} → Passing cells columns rows column sum → column ≤ 0 → sum ≡ spared_all cells columns rows
unfolding spared_all
passing_end {cells} {columns} {rows} {column} s h =
    let z : column ≡ 0 = omega arith in s.passed ∙ ap (λ k. over k columns (spared cells columns rows)) z

pub record Widening (cells : List ℕ) (columns rows column : ℕ) (reaches : List ℕ) (sum : ℕ) : Type 0 where
  pub passing : Passing cells columns rows column sum
  pub reached : Reached cells columns rows column reaches

pub widening_none : (cells : List ℕ) (columns rows : ℕ) → Widening cells columns rows columns (replicate 16 0) 0
widening_none cells columns rows =
    record {
      passing = passing_none cells columns rows;
      reached = reached-none cells columns rows (replicate 16 0) refl (zeros_at 16);
    }

module _ (cells : List ℕ) (columns rows column : ℕ) (t u : List ℕ) (sum : ℕ) (s : Widening cells columns rows column t sum) (some : 0 < column)
    (few : columns ≤ 15) (flat : rows ≤ 15) (long : length cells ≡ 256) where
  one-back : suc (column - 1) ≡ column
  one-back = omega arith

  pub widening_ready : Widenable cells (column - 1) rows t
  widening_ready =
      record {
        cells-length = long;
        column-most = omega (arith, s.passing.to);
        rows-most = flat;
        reaches_length = s.reached.long;
        few = reached-few cells columns rows column t few s.reached;
      }

  module _ (v : Wrote (widened cells (column - 1) t) 0 rows t u) where
    back : Reached cells columns rows (column - 1) u
    back =
        reached-more cells columns rows (column - 1) t u (omega (arith, s.passing.to))
        (subst (λ k. Reached cells columns rows k t) (sym one-back) s.reached) v

    pub widening_climbable : Climbable cells (column - 1) rows u
    widening_climbable = reached_climbable cells columns rows (column - 1) u long few flat (omega (arith, s.passing.to)) back

    pub widening_more : (n : ℕ) → (n ≡ over 0 rows (corner (cell_at cells (column - 1)) (number_at u) rows)) × (n ≤ 148500)
        → Widening cells columns rows (column - 1) u (sum + n)
    widening_more n e =
        record { passing = passing_more n s.passing some (e.0 ∙ spared-at cells columns rows (column - 1) u back) e.1; reached = back }
