-- Costs by straight cuts, counted in weights where the price of a shot times the weight is 1,000. Assumes nothing.
--
--   unit_cost g r price p  == the cost of the piece p in weights: the price of each of its shots, and its sliver
--   due_at g r price i j   == what the cell (i, j) owes
--   shared g r k p        == the k-th shares of p's cells together, where the rule counts them
--   KeptShort g r price w store
--                         == the store has room for all strips, and the cost in weights of every piece narrower than w
--   unit_cost_lem             == the weight times the cost in weights is the cost
--   narrow                == the columns of a narrow piece are narrow
--   dues_cells, due_sum   == what all cells owe is a sum over the frame; what cells owe is a sum of shares
--   bottom-owed, top-owed == the bottom of a piece's lowest row and the top of its highest are sides that its cells owe, where the rule counts them
--   flanks-owed, ends-owed, sliver-owed
--                         == and so are its flanks, its bottom and top by its own height, and its sliver
--   unit_cells            == a piece costs at most what its cells owe
--   due_part, unit_due    == which is at most what all cells owe, and so does it
--   unit_parts_vertical, unit_parts_horizontal
--                         == nor do the two parts of a cut together cost more than all cells owe
--   judged-units          == a piece that is judged by its count of inside cells, its price as a shot and the least of its cuts has its cost
use Prim.Native.Nat.{ℕ, suc, ◌+◌, ◌*◌, ◌-◌, ◌≤◌, ◌<◌}
use mathlib.Core.Path.{◌≡◌, refl, sym, ◌∙◌, ap}
use mathlib.Core.Bool.{Bool, true, false, not}
use mathlib.Core.Logic.{◌⊎◌, inl, inr}
use mathlib.Core.List.{List, [], ◌∷◌}
use native.Mathlib.Omega.{arith}
use native.Mathlib.Nat.{mul-le-mul_left}
use lib.ListN.{length, get_or}
use borrow.Author.Tests.{le-leb, lt-leb}
use Rattle.sum.specs.Sum.{over, only, sum_of, All}
use Rattle.sum.proofs.Sum.{le-or, over-le, over-same, over_term, over_swap, only-over, only-most, rise}
use Rattle.sum.proofs.Lists.{sum_of-le, All-imp}
use Rattle.recurrence.specs.Scheme.{mixed}
use Rattle.outline.specs.Grid.{Grid, Sound}
use Rattle.rule.specs.declared.Rule.{Rule}
use Rattle.rule.specs.Charge.{sliver_of, spared, charge_of}
use Rattle.rule.proofs.Charge.{sliver_flecks, sliver-most, narrow-made}
use Rattle.piece.specs.declared.Mode.TheVariants.{Straight}
use Rattle.piece.specs.Piece.{Piece, box, frame, cell_sum, cells, inside_cells, kind, low_side, high_side, width, height, left, right, bottom, top, sliver, charge, left_part, right_part, lower_part, upper_part}
use Rattle.piece.specs.Cuts.{Cut, vertical, horizontal, wheel, cuts, parts, CutOf, shots, cost}
use Rattle.piece.proofs.Cells.{sum_add, sum_mul, sum_le, sum_term, sum_part, sum_vertical, sum_horizontal}
use Rattle.piece.proofs.Turned.{turned, turn, sum_turn, sound-turn}
use Rattle.piece.proofs.Cuts.{cover, shots-part, cuts-all, cuts-at, straight-only, cost-cuts, cost-one, across_vertical, across_horizontal}
use Rattle.table.specs.Entry.{pair_count, pair_no}
use Rattle.table.specs.Run.{Lowest}
use Rattle.table.specs.Cuts.{Judged}
use Rattle.table.proofs.Judging.{judged-cost}
use Rattle.tally.specs.Units.{five, share}
use Rattle.shares.specs.Shares.{counting, counted_share, owed, dues_of}
use Rattle.eights.specs.Store.{place_of}

unfoldable pub unit_cost : Grid → Rule → ℕ → Piece → ℕ
unit_cost g r price p = sum_of (λ q. price + sliver g r q) (shots Straight g r p)

unfoldable pub due_at : Grid → Rule → ℕ → ℕ → ℕ → ℕ
due_at g r price i j = owed price (λ n. counted_share g r n i j)

pub record KeptShort (g : Grid) (r : Rule) (price w : ℕ) (store : List ℕ) : Type 0 where
  pub room : 16 * (pair_count g.rows * g.columns) + 16 ≤ length store
  pub right : (a v b d : ℕ) → 1 ≤ v → v < w → a + v ≤ g.columns → b < d → d ≤ g.rows
      → get_or store (place_of (pair_count g.rows) v (pair_no g.rows b d) a) 0 ≡ unit_cost g r price (box a (a + v) b d)

-- a factor that is not 0 goes
less_cancel : (k m n : ℕ) → 1 ≤ k → k * m ≤ k * n → m ≤ n
less_cancel k m n h q = elim (le-or m n) [
  | inl p ↦ p
  | inr p ↦ absurd (omega (arith, mul-le-mul_left k p))
]

same_cancel : (k m n : ℕ) → 1 ≤ k → k * m ≡ k * n → m ≡ n
same_cancel k m n h e = omega (arith, less_cancel k m n h (omega arith), less_cancel k n m h (omega arith))

-- the shots of a list, in weights and in thousandths
units-charge : (g : Grid) (r : Rule) (price : ℕ) → price * r.weight ≡ 1000 → (l : List Piece)
    → r.weight * sum_of (λ q. price + sliver g r q) l ≡ sum_of (charge g r) l
unfolding sum_of charge charge_of
units-charge g r price e [] = omega arith
units-charge g r price e (s ∷ l) = omega (arith, units-charge g r price e l)

pub unit_cost_lem : (g : Grid) (r : Rule) (price : ℕ) (p : Piece) → price * r.weight ≡ 1000 → r.weight * unit_cost g r price p ≡ cost Straight g r p
unfolding unit_cost cost
unit_cost_lem g r price p e = units-charge g r price e (shots Straight g r p)

-- sides count only where the rule does not spare them
sliver-counted : (r : Rule) (w h u l : ℕ) → sliver_of r w h u l ≤ only (not (spared r w)) u + only (not (spared r h)) l
unfolding spared
sliver-counted r w h u l = go (le-or r.threshold w) (le-or r.threshold h)
  where
    apart : (r.threshold ≤ w) ⊎ (r.threshold ≤ h) → sliver_of r w h u l ≤ only (not (spared r w)) u + only (not (spared r h)) l
    apart q = omega (arith, sliver_flecks r w h u l q, narrow-made r w u, narrow-made r h l)

    go : (r.threshold ≤ w) ⊎ (w < r.threshold) → (r.threshold ≤ h) ⊎ (h < r.threshold)
        → sliver_of r w h u l ≤ only (not (spared r w)) u + only (not (spared r h)) l
    go (inl p) q = apart (inl p)
    go (inr p) (inl q) = apart (inr q)
    go (inr p) (inr q) = rw (lt-leb r.threshold w p, lt-leb r.threshold h q) (sliver-most r w h u l)

-- the left and right side of a cell, where its column is narrow
low : Grid → Rule → ℕ → ℕ → ℕ
low g r i j = only (not (spared r (width g i (suc i)))) (only (low_side (λ u. g.inside u j) i) (height g j (suc j)))

high : Grid → Rule → ℕ → ℕ → ℕ
high g r i j = only (not (spared r (width g i (suc i)))) (only (high_side (λ u. g.inside u j) (suc i)) (height g j (suc j)))

-- the columns of a narrow piece are narrow
pub narrow : (g : Grid) (r : Rule) → Sound g → (a c i : ℕ) → a ≤ i → i < c → width g a c < r.threshold → spared r (width g i (suc i)) ≡ false
unfolding spared width
narrow g r sound a c i h k q =
    lt-leb r.threshold (g.x (suc i) - g.x i)
    (omega (arith, rise g.x sound.x-up a i h, rise g.x sound.x-up (suc i) c k, sound.x-up i))

flanks-cells : (g : Grid) (r : Rule) → Sound g → (p : Piece) → p.a < p.c
    → only (not (spared r (width g p.a p.c))) (left g p + right g p) ≤ cell_sum (low g r) p + cell_sum (high g r) p
unfolding spared
flanks-cells g r sound p h = go (le-or r.threshold (width g p.a p.c))
  where
    go : (r.threshold ≤ width g p.a p.c) ⊎ (width g p.a p.c < r.threshold)
        → only (not (spared r (width g p.a p.c))) (left g p + right g p) ≤ cell_sum (low g r) p + cell_sum (high g r) p
    go (inl q) = rw (le-leb r.threshold (width g p.a p.c) q) (omega arith)
    go (inr q) =
        omega (
          arith,
          only-most (not (spared r (width g p.a p.c))) (left g p + right g p),
          lefts,
          rights,
        )
      where
        back : suc (p.c - 1) ≡ p.c
        back = omega arith

        lefts : left g p ≤ cell_sum (low g r) p
        lefts =
            unfold left cell_sum low in
            omega (
              arith,
              over-same p.b p.d (λ j. only (low_side (λ u. g.inside u j) p.a) (height g j (suc j))) (low g r p.a)
                  (λ j s t. sym (ap (λ b. only (not b) (only (low_side (λ u. g.inside u j) p.a) (height g j (suc j)))) (narrow g r sound p.a p.c p.a (omega arith) h q))),
              over_term p.a p.c p.a (λ i. over p.b p.d (low g r i)) (omega arith) h,
            )

        rights : right g p ≤ cell_sum (high g r) p
        rights =
            unfold right cell_sum high in
            omega (
              arith,
              ap (λ c. over p.b p.d (λ j. only (high_side (λ u. g.inside u j) c) (height g j (suc j)))) back,
              over-same p.b p.d (λ j. only (high_side (λ u. g.inside u j) (suc (p.c - 1))) (height g j (suc j))) (high g r (p.c - 1))
                  (λ j s t. sym (ap (λ b. only (not b) (only (high_side (λ u. g.inside u j) (suc (p.c - 1))) (height g j (suc j)))) (narrow g r sound p.a p.c (p.c - 1) (omega arith) (omega arith) q))),
              over_term p.a p.c (p.c - 1) (λ i. over p.b p.d (high g r i)) (omega arith) (omega arith),
            )

-- the counted shares of one kind of a piece's cells together
abbrev pub shared : Grid → Rule → ℕ → Piece → ℕ
shared g r k p = cell_sum (λ i j. counted_share g r k i j) p

module _ (g : Grid) (r : Rule) where
  pub dues_cells : (price : ℕ) → dues_of g r price ≡ cell_sum (due_at g r price) (frame g)
  unfolding dues_of cell_sum frame due_at
  dues_cells price = sym (over_swap 0 g.columns 0 g.rows (due_at g r price))

  pub due_sum : (price : ℕ) (p : Piece)
      → cell_sum (due_at g r price) p ≡ price * shared g r 0 p + shared g r 1 p + shared g r 2 p + shared g r 3 p + shared g r 4 p
  unfolding due_at owed
  due_sum price p =
      omega (
        arith,
        sum_add (λ i j. price * counted_share g r 0 i j + counted_share g r 1 i j + counted_share g r 2 i j + counted_share g r 3 i j) (counted_share g r 4) p,
        sum_add (λ i j. price * counted_share g r 0 i j + counted_share g r 1 i j + counted_share g r 2 i j) (counted_share g r 3) p,
        sum_add (λ i j. price * counted_share g r 0 i j + counted_share g r 1 i j) (counted_share g r 2) p,
        sum_add (λ i j. price * counted_share g r 0 i j) (counted_share g r 1) p,
        sum_mul price (counted_share g r 0) p,
      )

  -- the bottom of a piece's lowest row, and the top of its highest
  pub bottom-owed : (a c b d : ℕ) → b < d → only (not (spared r (height g b (suc b)))) (bottom g (box a c b d)) ≤ shared g r 1 (box a c b d)
  unfolding bottom cell_sum counted_share counting share five
  bottom-owed a c b d h =
      omega (
        arith,
        only-over (not (spared r (height g b (suc b)))) a c (λ i. only (low_side (g.inside i) b) (width g i (suc i))),
        over-le a c (λ i. counted_share g r 1 i b) (λ i. over b d (counted_share g r 1 i)) (λ i p q. over_term b d b (counted_share g r 1 i) (omega arith) h),
      )

  pub top-owed : (a c b d : ℕ) → b ≤ d → only (not (spared r (height g d (suc d)))) (top g (box a c b (suc d))) ≤ shared g r 2 (box a c b (suc d))
  unfolding top cell_sum counted_share counting share five
  top-owed a c b d h =
      omega (
        arith,
        only-over (not (spared r (height g d (suc d)))) a c (λ i. only (high_side (g.inside i) (suc d)) (width g i (suc i))),
        over-le a c (λ i. counted_share g r 2 i d) (λ i. over b (suc d) (counted_share g r 2 i)) (λ i p q. over_term b (suc d) d (counted_share g r 2 i) h (omega arith)),
      )

  module _ (sound : Sound g) where
    pub flanks-owed : (p : Piece) → p.a < p.c → only (not (spared r (width g p.a p.c))) (left g p + right g p) ≤ shared g r 3 p + shared g r 4 p
    unfolding counted_share counting share five low high
    flanks-owed p ac = flanks-cells g r sound p ac

    pub ends-owed : (p : Piece) → p.b < p.d → only (not (spared r (height g p.b p.d))) (bottom g p + top g p) ≤ shared g r 1 p + shared g r 2 p
    unfolding counted_share counting share five low high width height bottom top left right
    ends-owed p bd =
        omega (
          arith,
          flanks-cells (turned g) r (sound-turn g sound) (turn p) bd,
          sum_turn (λ i j. counted_share g r 1 i j) p,
          sum_turn (λ i j. counted_share g r 2 i j) p,
        )

    pub sliver-owed : (p : Piece) → p.a < p.c → p.b < p.d → sliver g r p ≤ shared g r 1 p + shared g r 2 p + shared g r 3 p + shared g r 4 p
    unfolding sliver
    sliver-owed p ac bd =
        omega (
          arith,
          sliver-counted r (width g p.a p.c) (height g p.b p.d) (left g p + right g p) (bottom g p + top g p),
          flanks-owed p ac,
          ends-owed p bd,
        )

    module _ (price : ℕ) where
      -- what a shot takes of each of its cells
      taken : ℕ → ℕ → ℕ
      taken i j = price + (counted_share g r 1 i j + counted_share g r 2 i j + counted_share g r 3 i j + counted_share g r 4 i j)

      shot-taken : (s : Piece) → s.a < s.c → s.b < s.d → price + sliver g r s ≤ cell_sum taken s
      unfolding taken
      shot-taken s ac bd =
          omega (
            arith,
            sliver-owed s ac bd,
            sum_term (λ i j. price) s s.a s.b (record { a = omega arith; c = ac; b = omega arith; d = bd }),
            sum_add (λ i j. price) (λ i j. counted_share g r 1 i j + counted_share g r 2 i j + counted_share g r 3 i j + counted_share g r 4 i j) s,
            sum_add (λ i j. counted_share g r 1 i j + counted_share g r 2 i j + counted_share g r 3 i j) (counted_share g r 4) s,
            sum_add (λ i j. counted_share g r 1 i j + counted_share g r 2 i j) (counted_share g r 3) s,
            sum_add (counted_share g r 1) (counted_share g r 2) s,
          )

      -- an inside cell owes it
      cell_owes : (i j : ℕ) → only (g.inside i j) (taken i j) ≤ due_at g r price i j
      unfolding taken due_at owed
      cell_owes i j =
          let n : ℕ = counted_share g r 1 i j + counted_share g r 2 i j + counted_share g r 3 i j + counted_share g r 4 i j in
          let h : only (g.inside i j) (taken i j) ≤ price * only (g.inside i j) 1 + n = one n in
          omega (arith, h, ap (λ m. price * m) inside)
        where
          inside : counted_share g r 0 i j ≡ only (g.inside i j) 1
          inside = unfold counted_share counting share five in refl

          one : (n : ℕ) → only (g.inside i j) (price + n) ≤ price * only (g.inside i j) 1 + n
          one n = go (g.inside i j)
            where
              go : (t : Bool) → only t (price + n) ≤ price * only t 1 + n
              go true = omega arith
              go false = omega arith

      pub unit_cells : (p : Piece) → unit_cost g r price p ≤ cell_sum (due_at g r price) p
      unfolding unit_cost
      unit_cells p =
          omega (
            arith,
            sum_of-le (λ q. price + sliver g r q) (cell_sum taken) (shots Straight g r p)
                (All-imp (λ s v. shot-taken s v.ac v.bd) (shots Straight g r p) (shots-part Straight g r p)),
            cover Straight g r taken p,
            sum_le (λ i j. only (g.inside i j) (taken i j)) (due_at g r price) p (λ i j q. cell_owes i j),
          )

      -- a piece of the frame
      module _ (p : Piece) (ac : p.a ≤ p.c) (cx : p.c ≤ g.columns) (bd : p.b ≤ p.d) (dy : p.d ≤ g.rows) where
        pub due_part : cell_sum (due_at g r price) p ≤ dues_of g r price
        unfolding frame
        due_part = omega (arith, dues_cells price, sum_part (due_at g r price) p (frame g) (omega arith) ac cx (omega arith) bd dy)

        pub unit_due : unit_cost g r price p ≤ dues_of g r price
        unit_due = omega (arith, unit_cells p, due_part)

        pub unit_parts_vertical : (j : ℕ) → p.a ≤ j → j ≤ p.c → unit_cost g r price (left_part p j) + unit_cost g r price (right_part p j) ≤ dues_of g r price
        unit_parts_vertical j h k =
            omega (arith, unit_cells (left_part p j), unit_cells (right_part p j), sum_vertical (due_at g r price) p j h k, due_part)

        pub unit_parts_horizontal : (j : ℕ) → p.b ≤ j → j ≤ p.d → unit_cost g r price (lower_part p j) + unit_cost g r price (upper_part p j) ≤ dues_of g r price
        unit_parts_horizontal j h k =
            omega (arith, unit_cells (lower_part p j), unit_cells (upper_part p j), sum_horizontal (due_at g r price) p j h k, due_part)

-- the cost of one piece, from what a fill knows of it
module _ (g : Grid) (r : Rule) (price : ℕ) (sound : Sound g) (whole : price * r.weight ≡ 1000) (due : dues_of g r price ≤ 64535)
    (a c b d : ℕ) (ac : a < c) (cx : c ≤ g.columns) (bd : b < d) (dy : d ≤ g.rows)
  where
    weight-some : 1 ≤ r.weight
    weight-some = elim (le-or r.weight 0) [
      | inl q ↦ absurd (let e : r.weight ≡ 0 = omega arith in omega (arith, ap (λ n. price * n) e))
      | inr q ↦ q
    ]

    scaled_sum : (p q : Piece) → cost Straight g r p + cost Straight g r q ≡ r.weight * (unit_cost g r price p + unit_cost g r price q)
    scaled_sum p q = omega (arith, unit_cost_lem g r price p whole, unit_cost_lem g r price q whole)

    -- the weight times the least of all cuts, for a mixed piece
    cut-units : kind g (box a c b d) ≡ mixed → (m v : ℕ)
        → Lowest (λ j. unit_cost g r price (box a j b d) + unit_cost g r price (box j c b d)) a c 65535 m
        → Lowest (λ j. unit_cost g r price (box a c b j) + unit_cost g r price (box a c j d)) b d m v
        → (cost Straight g r (box a c b d) ≤ r.weight * v) × All (λ k. r.weight * v ≤ sum_of (cost Straight g r) (parts (box a c b d) k)) (cuts Straight (box a c b d))
    cut-units e m v x y = (one y.one x.one, below)
      where
        each : (k : Cut) → CutOf Straight (box a c b d) k → r.weight * v ≤ sum_of (cost Straight g r) (parts (box a c b d) k)
        each (vertical j) h =
            let q : v ≤ unit_cost g r price (box a j b d) + unit_cost g r price (box j c b d) = omega (arith, y.first, x.each j h.0 h.1) in
            omega (arith, mul-le-mul_left r.weight q, scaled_sum (box a j b d) (box j c b d), across_vertical Straight g r (box a c b d) j)
        each (horizontal j) h =
            omega (arith, mul-le-mul_left r.weight (y.each j h.0 h.1), scaled_sum (box a c b j) (box a c j d), across_horizontal Straight g r (box a c b d) j)
        each (wheel t i j k l) h = absurd (straight-only h.0)

        below : All (λ k. r.weight * v ≤ sum_of (cost Straight g r) (parts (box a c b d) k)) (cuts Straight (box a c b d))
        below = cuts-all Straight _ (box a c b d) each

        up : v ≤ 64535
        up =
            omega (
              arith,
              less_cancel r.weight v (unit_cost g r price (box a c b d)) weight-some
                  (omega (arith, cost-one Straight g r (λ i. r.weight * v ≤ i) (box a c b d) e below, unit_cost_lem g r price (box a c b d) whole)),
              unit_due g r sound price (box a c b d) (omega arith) cx (omega arith) dy,
            )

        at_most : (k : Cut) → CutOf Straight (box a c b d) k → cost Straight g r (box a c b d) ≤ sum_of (cost Straight g r) (parts (box a c b d) k)
        at_most = cuts-at Straight _ (box a c b d) (cost-cuts Straight g r (box a c b d) e)

        one : (v ≡ m) ⊎ ((j : ℕ) × (b < j) × (j < d) × (v ≡ unit_cost g r price (box a c b j) + unit_cost g r price (box a c j d)))
            → (m ≡ 65535) ⊎ ((j : ℕ) × (a < j) × (j < c) × (m ≡ unit_cost g r price (box a j b d) + unit_cost g r price (box j c b d)))
            → cost Straight g r (box a c b d) ≤ r.weight * v
        one (inr z) _ =
            omega (
              arith,
              ap (λ n. r.weight * n) z.3,
              scaled_sum (box a c b z.0) (box a c z.0 d),
              at_most (horizontal z.0) (z.1, z.2),
              across_horizontal Straight g r (box a c b d) z.0,
            )
        one (inl z) (inl i) = absurd (omega (arith, up))
        one (inl z) (inr i) =
            omega (
              arith,
              ap (λ n. r.weight * n) (z ∙ i.3),
              scaled_sum (box a i.0 b d) (box i.0 c b d),
              at_most (vertical i.0) (i.1, i.2),
              across_vertical Straight g r (box a c b d) i.0,
            )

    pub judged-units : (n m shot v best x : ℕ) → n ≡ inside_cells g (box a c b d) → m ≡ cells (box a c b d) → shot ≡ price + sliver g r (box a c b d)
        → Lowest (λ j. unit_cost g r price (box a j b d) + unit_cost g r price (box j c b d)) a c 65535 v
        → Lowest (λ j. unit_cost g r price (box a c b j) + unit_cost g r price (box a c j d)) b d v best
        → Judged n m shot best x
        → x ≡ unit_cost g r price (box a c b d)
    judged-units n m shot v best x en em es lv lh j =
        same_cancel r.weight x (unit_cost g r price (box a c b d)) weight-some
        (judged-cost Straight g r (box a c b d) n m (r.weight * shot) (r.weight * best) (r.weight * x) en em charged (λ e. cut-units e v best lv lh) scaled
        ∙ sym (unit_cost_lem g r price (box a c b d) whole))
      where
        charged : r.weight * shot ≡ charge g r (box a c b d)
        charged = unfold charge charge_of in omega (arith, ap (λ k. r.weight * k) es)

        scaled : Judged n m (r.weight * shot) (r.weight * best) (r.weight * x)
        scaled =
            record {
              none = λ h. omega (arith, ap (λ k. r.weight * k) (j.none h));
              full = λ h k. ap (λ k. r.weight * k) (j.full h k);
              cut = λ h k. ap (λ k. r.weight * k) (j.cut h k);
            }
