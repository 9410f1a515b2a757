-- The marks that have reached to the right are the cells inside. Assumes nothing.
--
--   reaches xs ys i j w     == the wall w stands at or left of the x line i, and its span covers the row j
--   reaches_first, -next    == the walls that reach a column are those that reach the one before, and those that stand there
--   swept-count             == a swept mark is 1 where an odd number of walls reaches the cell
--   reaches_inside          == that is where the cell is inside
--   beyond-inside           == right of the last line no wall stands, and nothing is inside
use Prim.Native.Nat.{ℕ, zero, suc, ◌+◌, ◌*◌, ◌-◌, ◌/◌, ◌%◌, ◌≤◌, ◌<◌}
use native.Mathlib.Numerals.{add-one}
use mathlib.Core.Path.{◌≡◌, refl, sym, ◌∙◌, ap, ap₂}
use mathlib.Core.Bool.{Bool, true, false, ◌&&◌, and-false}
use mathlib.Core.List.{List}
use mathlib.Core.Logic.{inl, inr}
use native.Mathlib.Omega.{arith}
use lib.Dec.{leb, ltb, eqb}
use lib.ListN.{length, get_or}
use borrow.Author.Tests.{le-leb, lt-leb, lt-ltb, le-ltb, eq-eqb, ne_eqb, eqb-true, eqb-false}
use Rattle.sum.specs.Sum.{only, All}
use Rattle.sum.proofs.Sum.{le-or}
use Rattle.sum.proofs.Lists.{All-imp, All-all, sum_of-same, sum_of-add}
use Rattle.figure.specs.declared.Axis.TheVariants.{X, Y}
use Rattle.figure.specs.Corners.{Corner, any, odd, slanted, coordinate}
use Rattle.figure.specs.Figure.{Figure, rings, corners_of, edges_of}
use Rattle.figure.specs.Inside.{Wall, walls, covers, count, within}
use Rattle.figure.proofs.Inside.{Beside, count_same, count_none, even, passes, parity_all}
use Rattle.outline.specs.Lines.{lines, place}
use Rattle.outline.specs.Inside.{grid}
use Rattle.outline.specs.Steps.{covered, span, stands, swept}
use Rattle.outline.proofs.Lines.{beside, lowest, highest, place_at, place-past, place_rises}
use Rattle.outline.proofs.Inside.{corners-all, walls-lines, lines-up, grid-cell, grid-right, grid-above}

-- two counts, odd or even
odd-add : (a b : ℕ) → (only (odd a) 1 + only (odd b) 1) % 2 ≡ only (odd (a + b)) 1
unfolding odd
odd-add a b = go (eqb (a % 2) 1) refl (eqb (b % 2) 1) refl
  where
    zero_of : (n : ℕ) → eqb (n % 2) 1 ≡ false → n % 2 ≡ 0
    zero_of n e = elim (le-or 1 (n % 2)) [ inl q ↦ absurd (eqb-false (n % 2) 1 e (omega arith)) | inr q ↦ omega arith ]

    go : (s : Bool) → eqb (a % 2) 1 ≡ s → (t : Bool) → eqb (b % 2) 1 ≡ t → (only s 1 + only t 1) % 2 ≡ only (eqb ((a + b) % 2) 1) 1
    go true e true f =
        let p = eqb-true (a % 2) 1 e in
        let q = eqb-true (b % 2) 1 f in
        rw (ne_eqb ((a + b) % 2) 1 (λ z. omega arith))
    go true e false f =
        let p = eqb-true (a % 2) 1 e in
        let q = zero_of b f in
        rw (eq-eqb ((a + b) % 2) 1 (omega arith))
    go false e true f =
        let p = zero_of a e in
        let q = eqb-true (b % 2) 1 f in
        rw (eq-eqb ((a + b) % 2) 1 (omega arith))
    go false e false f =
        let p = zero_of a e in
        let q = zero_of b f in
        rw (ne_eqb ((a + b) % 2) 1 (λ z. omega arith))

module _ (xs ys : List ℕ) where
  unfoldable pub reaches : ℕ → ℕ → Wall → Bool
  reaches i j w = leb w.x (place xs i) && span ys w.lo w.hi j

  -- the cell of a number
  stands_at : (i j : ℕ) (w : Wall) → j < 16
      → stands xs ys (16 * i + j) w ≡ ((ltb i (length xs) && eqb w.x (place xs i)) && span ys w.lo w.hi j)
  unfolding stands
  stands_at i j w h =
      let p : (16 * i + j) / 16 ≡ i = omega arith in
      let q : (16 * i + j) % 16 ≡ j = omega arith in
      ap₂ (λ m n. (ltb m (length xs) && eqb w.x (place xs m)) && span ys w.lo w.hi n) p q

  reaches_first : (j : ℕ) (w : Wall) → j < 16 → 0 < length xs → place xs 0 ≤ w.x → stands xs ys (16 * 0 + j) w ≡ reaches 0 j w
  unfolding reaches
  reaches_first j w h s q =
      stands_at 0 j w h
      ∙ ap (λ b. b && span ys w.lo w.hi j)
      (ap (λ b. b && eqb w.x (place xs 0)) (lt-ltb 0 (length xs) s) ∙ low w.x (place xs 0) q)
    where
      low : (x p : ℕ) → p ≤ x → eqb x p ≡ leb x p
      low x p q = elim (le-or x p) [
        | inl r ↦ eq-eqb x p (omega arith) ∙ sym (le-leb x p r)
        | inr r ↦ ne_eqb x p (λ z. omega arith) ∙ sym (lt-leb x p r)
      ]

  reaches_next : (i j : ℕ) (w : Wall) → j < 16
      → (suc i < length xs → Beside (place xs i) (place xs (suc i)) w.x × (place xs i < place xs (suc i)))
      → only (reaches i j w) 1 + only (stands xs ys (16 * suc i + j) w) 1 ≡ only (reaches (suc i) j w) 1
  unfolding reaches
  reaches_next i j w h f =
      ap (λ b. only (leb w.x (place xs i) && span ys w.lo w.hi j) 1 + only b 1) (stands_at (suc i) j w h)
      ∙ elim (le-or (length xs) (suc i)) [
        | inl q ↦
            ap (λ b. only (leb w.x (place xs i) && span ys w.lo w.hi j) 1 + only ((b && eqb w.x (place xs (suc i))) && span ys w.lo w.hi j) 1) (le-ltb (suc i) (length xs) q)
            ∙ past (place-past xs i q ∙ sym (place-past xs (suc i) (omega arith)))
        | inr q ↦
            ap (λ b. only (leb w.x (place xs i) && span ys w.lo w.hi j) 1 + only ((b && eqb w.x (place xs (suc i))) && span ys w.lo w.hi j) 1) (lt-ltb (suc i) (length xs) q)
            ∙ within' (span ys w.lo w.hi j) (f q).0 (f q).1
      ]
    where
      past : place xs i ≡ place xs (suc i)
          → only (leb w.x (place xs i) && span ys w.lo w.hi j) 1 + 0 ≡ only (leb w.x (place xs (suc i)) && span ys w.lo w.hi j) 1
      past e = omega (arith, ap (λ p. only (leb w.x p && span ys w.lo w.hi j) 1) e)

      within' : (s : Bool) → Beside (place xs i) (place xs (suc i)) w.x → place xs i < place xs (suc i)
          → only (leb w.x (place xs i) && s) 1 + only (eqb w.x (place xs (suc i)) && s) 1 ≡ only (leb w.x (place xs (suc i)) && s) 1
      within' s (inl q) k =
          rw (le-leb w.x (place xs i) q, ne_eqb w.x (place xs (suc i)) (λ z. omega arith), le-leb w.x (place xs (suc i)) (omega arith)) (omega arith)
      within' s (inr q) k = rw (lt-leb w.x (place xs i) (omega arith)) (same w.x (place xs (suc i)) q)
        where
          same : (x p : ℕ) → p ≤ x → 0 + only (eqb x p && s) 1 ≡ only (leb x p && s) 1
          same x p q = elim (le-or x p) [
            | inl r ↦ rw (eq-eqb x p (omega arith), le-leb x p r) (omega arith)
            | inr r ↦ rw (ne_eqb x p (λ z. omega arith), lt-leb x p r)
          ]

module _ (f : Figure) (some : 0 < length (lines X (corners_of f))) where
  abbrev cs : List Corner
  cs = corners_of f

  abbrev xs : List ℕ
  xs = lines X cs

  abbrev ys : List ℕ
  ys = lines Y cs

  abbrev ws : List Wall
  ws = walls (edges_of f)

  count-first : (j : ℕ) → j < 16
      → count (stands xs ys (16 * 0 + j)) ws ≡ count (reaches xs ys 0 j) ws
  count-first j h =
      count_same _ _ ws
      (All-imp (λ w s. reaches_first xs ys j w h some s.0) ws
      (walls-lines (λ v. place xs 0 ≤ v) (λ v. Unit {0}) f (lowest xs (lines-up X cs)) (All-all (λ v. tt) ys)))

  -- where there is a next line, no wall stands between it and this one
  apart : (i : ℕ) → All (λ w. suc i < length xs → Beside (place xs i) (place xs (suc i)) w.x × (place xs i < place xs (suc i))) ws
  apart i = elim (le-or (length xs) (suc i)) [
    | inl q ↦ All-all (λ w k. absurd (omega arith)) ws
    | inr q ↦
        All-imp (λ w s k. (s.0, place_rises xs (lines-up X cs) i q)) ws
        (walls-lines (Beside (place xs i) (place xs (suc i))) (λ v. Unit {0}) f (beside xs (lines-up X cs) i q) (All-all (λ v. tt) ys))
  ]

  count_next : (i j : ℕ) → j < 16
      → count (reaches xs ys i j) ws + count (stands xs ys (16 * suc i + j)) ws
      ≡ count (reaches xs ys (suc i) j) ws
  unfolding count
  count_next i j h =
      sym (sum_of-add (λ w. only (reaches xs ys i j w) 1) (λ w. only (stands xs ys (16 * suc i + j) w) 1) ws)
      ∙ sum_of-same _ (λ w. only (reaches xs ys (suc i) j w) 1) ws
      (All-imp (λ w f. reaches_next xs ys i j w h f) ws (apart i))

  pub swept-count : (cells : List ℕ)
      → ((n : ℕ) → get_or cells n 0 ≡ only (odd (count (stands xs ys n) ws)) 1)
      → (i j : ℕ) → j < 16
      → swept cells i j ≡ only (odd (count (reaches xs ys i j) ws)) 1
  unfolding swept
  swept-count cells m zero j h =
      let z : j ≡ 16 * 0 + j = omega arith in
      ap (λ n. get_or cells n 0) z ∙ m (16 * 0 + j) ∙ ap (λ n. only (odd n) 1) (count-first j h)
  swept-count cells m (suc i) j h =
      ap₂ (λ a b. (a + b) % 2) (swept-count cells m i j h) (m (16 * suc i + j))
      ∙ odd-add (count (reaches xs ys i j) ws) (count (stands xs ys (16 * suc i + j)) ws)
      ∙ ap (λ n. only (odd n) 1) (count_next i j h)

  -- right of the last line no wall stands, and nothing is inside
  pub beyond-inside : (i j : ℕ) → j < 16 → length xs ≤ i → odd (count (stands xs ys (16 * i + j)) ws) ≡ (grid f).inside i j
  beyond-inside i j h q =
      ap odd
      (count_none _ ws
      (All-all
      (λ w. stands_at xs ys i j w h ∙ ap (λ b. (b && eqb w.x (place xs i)) && span ys w.lo w.hi j) (le-ltb i (length xs) q))
      ws))
      ∙ even 0 refl
      ∙ sym (grid-right f i j (omega arith))

  -- what reaches a cell covers it; beyond the frame that is nothing, or an even number
  reaches_cell : (i j : ℕ) → suc j < length ys → (w : Wall)
      → reaches xs ys i j w ≡ covers (place xs i) (place ys j) (place ys (suc j)) w
  unfolding reaches span covered covers
  reaches_cell i j q w =
      ap (λ b. leb w.x (place xs i) && (b && (leb w.lo (get_or ys j 0) && leb (get_or ys (j + 1) 0) w.hi))) (lt-ltb (j + 1) (length ys) (omega arith))
      ∙ ap₂ (λ a b. leb w.x (place xs i) && (leb w.lo a && leb b w.hi))
      (sym (place_at ys j (omega arith)))
      (ap (λ n. get_or ys n 0) (add-one j) ∙ sym (place_at ys (suc j) q))

  reaches_above : (i j : ℕ) → length ys ≤ suc j → (w : Wall) → reaches xs ys i j w ≡ false
  unfolding reaches span
  reaches_above i j q w =
      ap (λ b. leb w.x (place xs i) && (b && covered w.lo w.hi (get_or ys j 0) (get_or ys (j + 1) 0))) (le-ltb (j + 1) (length ys) (omega arith))
      ∙ and-false (leb w.x (place xs i))

  reaches_right : (i j : ℕ) → length xs ≤ suc i → suc j < length ys → (w : Wall) → w.x ≤ place xs (length xs - 1)
      → reaches xs ys i j w ≡ passes (place ys j) (place ys (suc j)) w
  unfolding covers passes
  reaches_right i j p q w h =
      reaches_cell i j q w
      ∙ ap (λ b. b && (leb w.lo (place ys j) && leb (place ys (suc j)) w.hi)) (le-leb w.x (place xs i) (omega (arith, place-past xs i p)))

  -- no corner lies between neighbouring y lines
  levels : (j : ℕ) → suc j < length ys → All (λ c. Beside (place ys j) (place ys (suc j)) c.y) cs
  unfolding coordinate
  levels j q = corners-all (Beside (place ys j) (place ys (suc j))) Y cs (beside ys (lines-up Y cs) j q)

  pub reaches_inside : any slanted (rings f) ≡ false → (i j : ℕ)
      → odd (count (reaches xs ys i j) ws) ≡ (grid f).inside i j
  unfolding within
  reaches_inside s i j = elim (le-or (length ys) (suc j)) [
    | inl q ↦
        ap odd (count_none _ ws (All-all (reaches_above i j q) ws))
        ∙ even 0 refl
        ∙ sym (grid-above f i j (omega arith))
    | inr q ↦
        elim (le-or (length xs) (suc i)) [
          | inl r ↦
              ap odd
              (count_same _ (passes (place ys j) (place ys (suc j))) ws
              (All-imp (λ w h. reaches_right i j r q w h.0) ws
              (walls-lines (λ v. v ≤ place xs (length xs - 1)) (λ v. Unit {0}) f (highest xs (lines-up X cs)) (All-all (λ v. tt) ys))))
              ∙ even _ (parity_all (place ys j) (place ys (suc j)) (place_rises ys (lines-up Y cs) j q) f s (levels j q))
              ∙ sym (grid-right f i j (omega arith))
          | inr r ↦
              ap odd (count_same _ _ ws (All-all (reaches_cell i j q) ws))
              ∙ sym (grid-cell f i j (omega arith) (omega arith))
        ]
  ]
