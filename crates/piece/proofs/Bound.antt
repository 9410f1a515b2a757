-- No total exceeds the scope's number: each cell pays for itself and for its own exposed sides. Assumes nothing.
--
--   sideways g i j     == the exposed left and right sides of the cell (i, j), in nm; of the turned grid: bottom and top
--   cost_due           == a piece costs at most 1,000 for each of its cells and the weight of their exposed sides
--   cost-most          == a piece of a sound grid costs at most `most_cost` under a rule in range
--   parts-most         == nor do all parts of a cut together, in either mode: so every sum of a fill fits 32 bits, also one of five entries
--   slivers_most       == its shots have at most 2,097,120 nm of sliver together
--   count_most         == and they are at most 225
use Prim.Native.Nat.{ℕ, zero, suc, ◌+◌, ◌*◌, ◌-◌, ◌≤◌, ◌<◌}
use mathlib.Core.Path.{◌≡◌, ◌∙◌, ap, ap₂}
use mathlib.Core.Bool.{Bool, true, false, ◌&&◌, not}
use native.Mathlib.Omega.{arith}
use native.Mathlib.Nat.{mul-le-mul_left, mul-le-mul}
use lib.ListN.{length}
use Rattle.sum.specs.Sum.{over, only, sum_of, All}
use Rattle.sum.proofs.Sum as sum
use Rattle.sum.proofs.Sum.{only-most}
use Rattle.sum.proofs.Lists.{sum_of-le, sum_of_ones, All-all, All-imp}
use Rattle.outline.specs.Grid.{Grid, Sound}
use Rattle.rule.specs.declared.Rule.{Rule}
use Rattle.rule.specs.Rules.{limit}
use Rattle.rule.specs.Charge.{charge_of}
use Rattle.rule.proofs.Charge.{sliver-most}
use Rattle.piece.specs.declared.Mode.{Mode}
use Rattle.piece.specs.Piece.{Piece, before, cell_sum, cells, charge, most_cost, sliver, left, right, bottom, top, width, height, low_side, high_side, frame}
use Rattle.piece.specs.Cuts.{cuts, parts, shots, cost}
use Rattle.piece.proofs.Cells.{sum_add, sum_mul, sum_le, sum_part, cells-some, cells-product}
use Rattle.piece.proofs.Turned.{turned, turn, sum_turn}
use Rattle.piece.proofs.Cuts.{sum_cuts, cover, shots-part}

unfoldable sideways : Grid → ℕ → ℕ → ℕ
sideways g i j =
    only (low_side (λ u. g.inside u j) i) (height g j (suc j)) + only (high_side (λ u. g.inside u j) (suc i)) (height g j (suc j))

-- the sides of a piece are sides of its cells
sides-cells : (g : Grid) (p : Piece) → p.a < p.c → left g p + right g p ≤ cell_sum (sideways g) p
unfolding left right cell_sum sideways
sides-cells g p h =
    omega (
      arith,
      sum_add lo hi p,
      sum.over_term p.a p.c p.a (λ i. over p.b p.d (lo i)) (omega arith) h,
      sum.over_term p.a p.c (p.c - 1) (λ i. over p.b p.d (hi i)) (omega arith) (omega arith),
      ap (λ c. over p.b p.d (λ j. only (high_side (λ u. g.inside u j) c) (height g j (suc j)))) back,
    )
  where
    lo : ℕ → ℕ → ℕ
    lo i j = only (low_side (λ u. g.inside u j) i) (height g j (suc j))

    hi : ℕ → ℕ → ℕ
    hi i j = only (high_side (λ u. g.inside u j) (suc i)) (height g j (suc j))

    back : suc (p.c - 1) ≡ p.c
    back = omega arith

-- along one row a line has at most one exposed side
line_once : (f : ℕ → Bool) (k h : ℕ) → only (low_side f k) h + only (high_side f k) h ≤ h
unfolding low_side high_side
line_once f k h = go (f k) (before f k)
  where
    go : (s t : Bool) → only (s && not t) h + only (t && not s) h ≤ h
    go true true = omega arith
    go true false = omega arith
    go false true = omega arith
    go false false = omega arith

row-most : (f : ℕ → Bool) (n h : ℕ) → over 0 n (λ u. only (low_side f u) h + only (high_side f (suc u)) h) + only (low_side f n) h ≤ suc n * h
row-most f zero h =
    omega (arith, sum.over_none 0 0 (λ u. only (low_side f u) h + only (high_side f (suc u)) h) (omega arith), only-most (low_side f 0) h)
row-most f (suc n) h =
    omega (
      arith,
      sum.over_last 0 n (λ u. only (low_side f u) h + only (high_side f (suc u)) h) (omega arith),
      row-most f n h,
      line_once f (suc n) h,
    )

-- so the frame's cells have at most the frame's height for each x line
frame-most : (g : Grid) (n m : ℕ) → ((j : ℕ) → g.y j ≤ g.y (suc j)) → over 0 n (λ i. over 0 m (sideways g i)) ≤ suc n * (g.y m - g.y 0)
unfolding sideways height
frame-most g n m up =
    omega (
      arith,
      sum.over_swap 0 n 0 m (sideways g),
      sum.over-le 0 m (λ j. over 0 n (λ i. sideways g i j)) (λ j. suc n * height g j (suc j))
          (λ j q r. omega (arith, row-most (λ u. g.inside u j) n (height g j (suc j)))),
      sum.over-mul 0 m (suc n) (λ j. height g j (suc j)),
      ap (λ k. suc n * k) total,
    )
  where
    total : over 0 m (λ j. height g j (suc j)) ≡ g.y m - g.y 0
    total = omega (arith, sum.over-steps m g.y up)

module _ (mode : Mode) (g : Grid) (r : Rule) where
  -- the sides of the cells, both ways
  sides : ℕ → ℕ → ℕ
  sides i j = sideways g i j + sideways (turned g) j i

  sides_sum : (p : Piece) → cell_sum sides p ≡ cell_sum (sideways g) p + cell_sum (sideways (turned g)) (turn p)
  unfolding sides
  sides_sum p =
      sum_add (sideways g) (λ i j. sideways (turned g) j i) p
      ∙ ap (λ n. cell_sum (sideways g) p + n) (sum_turn (λ i j. sideways (turned g) j i) p)

  -- what a cell pays at most
  due : ℕ → ℕ → ℕ
  due i j = 1000 + r.weight * sides i j

  due_sum : (p : Piece) → cell_sum due p ≡ 1000 * cells p + r.weight * cell_sum sides p
  unfolding due cells
  due_sum p =
      sum_add (λ i j. 1000) (λ i j. r.weight * sides i j) p
      ∙ ap₂ ◌+◌ (sum_mul 1000 (λ i j. 1) p) (sum_mul r.weight sides p)

  sliver-sides : (p : Piece) → p.a < p.c → p.b < p.d → sliver g r p ≤ cell_sum sides p
  unfolding sliver
  sliver-sides p ac bd =
      omega (
        arith,
        sliver-most r (width g p.a p.c) (height g p.b p.d) (left g p + right g p) (bottom g p + top g p),
        sides-cells g p ac,
        upright,
        sides_sum p,
      )
    where
      upright : bottom g p + top g p ≤ cell_sum (sideways (turned g)) (turn p)
      upright = unfold bottom top left right width height in sides-cells (turned g) (turn p) bd

  charge_due : (p : Piece) → p.a < p.c → p.b < p.d → charge g r p ≤ cell_sum due p
  unfolding charge charge_of
  charge_due p ac bd =
      omega (arith, due_sum p, cells-some p ac bd, mul-le-mul_left r.weight (sliver-sides p ac bd))

  -- what each shot has at most, summed over its cells, the shots of a piece have together at most, summed over the piece's
  shots-most : (f : Piece → ℕ) (w : ℕ → ℕ → ℕ) → ((s : Piece) → s.a < s.c → s.b < s.d → f s ≤ cell_sum w s)
      → (p : Piece) → sum_of f (shots mode g r p) ≤ cell_sum w p
  shots-most f w h p =
      omega (
        arith,
        sum_of-le f (cell_sum w) (shots mode g r p) (All-imp (λ s v. h s v.ac v.bd) (shots mode g r p) (shots-part mode g r p)),
        cover mode g r w p,
        sum_le (λ i j. only (g.inside i j) (w i j)) w p (λ i j q. only-most (g.inside i j) (w i j)),
      )

  cost_due : (p : Piece) → cost mode g r p ≤ 1000 * cells p + r.weight * cell_sum sides p
  unfolding cost
  cost_due p = omega (arith, shots-most (charge g r) due charge_due p, due_sum p)

  -- the parts of a cut share out what its cells pay
  cost_pays : (p : Piece) → cost mode g r p ≤ cell_sum due p
  cost_pays p = omega (arith, cost_due p, due_sum p)

  module _ (s : Sound g) (p : Piece) (ac : p.a ≤ p.c) (c : p.c ≤ g.columns) (bd : p.b ≤ p.d) (d : p.d ≤ g.rows) where
    part : (f : ℕ → ℕ → ℕ) → cell_sum f p ≤ cell_sum f (frame g)
    unfolding frame
    part f = sum_part f p (frame g) (omega arith) ac c (omega arith) bd d

    area : cells p ≤ g.columns * g.rows
    area = omega (arith, counted, all)
      where
        counted : cells p ≤ cells (frame g)
        counted = unfold cells in part (λ i j. 1)

        all : cells (frame g) ≡ g.columns * g.rows
        all = unfold frame in (cells-product (frame g) (omega arith) (omega arith) ∙ ap₂ ◌*◌ (whole g.columns) (whole g.rows))
          where
            whole : (n : ℕ) → n - 0 ≡ n
            whole n = omega arith

    area-most : cells p ≤ 225
    area-most = omega (arith, area, mul-le-mul s.columns-most s.rows-most)

    -- 16 lines each way, places up to 65,535
    sides-most : cell_sum sides p ≤ 2097120
    unfolding frame cell_sum
    sides-most =
        omega (
          arith,
          part sides,
          sides_sum (frame g),
          frame-most g g.columns g.rows s.y-up,
          frame-most (turned g) g.rows g.columns s.x-up,
          mul-le-mul {n₁ = suc g.columns} {m₁ = g.y g.rows - g.y 0} {n₂ = 16} {m₂ = 65535}
              (omega (arith, s.columns-most))
              (omega (arith, s.y-most g.rows)),
          mul-le-mul {n₁ = suc g.rows} {m₁ = g.x g.columns - g.x 0} {n₂ = 16} {m₂ = 65535}
              (omega (arith, s.rows-most))
              (omega (arith, s.x-most g.columns)),
        )

    pub cost-most : r.weight ≤ limit → cost mode g r p ≤ most_cost
    cost-most hw = omega (arith, cost_due p, area-most, mul-le-mul hw sides-most)

    pub parts-most : r.weight ≤ limit → All (λ k. sum_of (cost mode g r) (parts p k) ≤ most_cost) (cuts mode p)
    parts-most hw =
        All-imp
        (λ k e.
        omega (
          arith,
          sum_of-le (cost mode g r) (cell_sum due) (parts p k) (All-all cost_pays (parts p k)),
          e,
          due_sum p,
          area-most,
          mul-le-mul hw sides-most,
        ))
        (cuts mode p)
        (sum_cuts mode due p)

    pub slivers_most : sum_of (sliver g r) (shots mode g r p) ≤ 2097120
    slivers_most = omega (arith, shots-most (sliver g r) sides sliver-sides p, sides-most)

    pub count_most : length (shots mode g r p) ≤ 225
    unfolding cells
    count_most = omega (arith, sum_of_ones (shots mode g r p), shots-most (λ q. 1) (λ i j. 1) cells-some p, area-most)
