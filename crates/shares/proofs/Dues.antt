-- No sum of a strip exceeds what all cells owe: each of its sides is the side of a cell of its own, counted there too. Assumes nothing.
--
--   along g r k a c j  == the k-th shares of the cells of row j between the x lines a and c together, where the rule counts them
--   total g r k a c    == the same of all rows
--   count-along, bottom-along, top-along
--                      == the inside cells, the bottom and the top of a strip are such shares
--   left_along, right-along
--                      == so are the left and right side of a row of a narrow strip: those of its first and of its last column
--   share-beyond       == beyond the frame no cell has a counted share
--   dues_cells         == what all cells owe is a sum over the cells of the frame
--   strip_total        == the cells between two x lines, also beyond the frame, owe at most that
--   bottom_due, top_due, ends_due, flanks_due
--                      == bottom, top, both, and flanks of a strip are at most that, where the rule counts them
--   strip_due          == and so are they all together, with the price of each inside cell
use Rattle.std.proofs.Common.{◌≡◌, ℕ, zero, suc, ◌+◌, ◌-◌, ◌*◌, ◌<◌, ◌≤◌, Bool, false, not, ◌⊎◌, sym, ap, ◌∙◌, inl, inr, mul-le-mul_left, arith, le-leb}
use borrow.Author.Tests.{lt-leb}
use Rattle.sum.specs.Sum.{over, only}
use Rattle.sum.proofs.Sum.{le-or, over-one, over-cut, over-part, over_term, over-le, over-same, over_add, over-mul, over_zero, over_swap, only-over, only-most, rise}
use Rattle.outline.specs.Grid.{Grid, Sound}
use Rattle.rule.specs.declared.Rule.{Rule}
use Rattle.rule.specs.Charge.{spared}
use Rattle.piece.specs.Piece.{box, frame, cell_sum, inside_cells, low_side, high_side, width, height, left, right, bottom, top}
use Rattle.tally.specs.Units.{five, share}
use Rattle.tally.proofs.Shares.{share-none}
use Rattle.shares.specs.Shares.{counting, counted_share, owed, dues_of}

abbrev pub along : Grid → Rule → ℕ → ℕ → ℕ → ℕ → ℕ
along g r k a c j = over a c (λ i. counted_share g r k i j)

abbrev pub total : Grid → Rule → ℕ → ℕ → ℕ → ℕ
total g r k a c = over 0 g.rows (λ j. along g r k a c j)

-- what owes nothing beyond a line
within : (f : ℕ → ℕ) (a c n : ℕ) → ((i : ℕ) → n ≤ i → f i ≡ 0) → a ≤ c → over a c f ≤ over 0 n f
within f a c n h q = elim (le-or c n) [
  | inl s ↦ over-part a c 0 n f (omega arith) q s
  | inr s ↦
      omega (
        arith,
        over-part a c 0 c f (omega arith) q (omega arith),
        over-cut 0 n c f (omega arith) (omega arith),
        over_zero n c f (λ i x y. h i x),
      )
]

-- what several owe is owed of their sums
owed-over : (price a c : ℕ) (f : ℕ → ℕ → ℕ) → over a c (λ i. owed price (λ n. f n i)) ≡ owed price (λ n. over a c (f n))
unfolding owed
owed-over price a c f =
    omega (
      arith,
      over_add a c (λ i. price * f 0 i + f 1 i + f 2 i + f 3 i) (f 4),
      over_add a c (λ i. price * f 0 i + f 1 i + f 2 i) (f 3),
      over_add a c (λ i. price * f 0 i + f 1 i) (f 2),
      over_add a c (λ i. price * f 0 i) (f 1),
      over-mul a c price (f 0),
    )

only_none : (t : Bool) → only t 0 ≡ 0
only_none t = omega (arith, only-most t 0)

module _ (g : Grid) (r : Rule) where
  -- the sides of a strip by the shares of its cells
  pub count-along : (a c j : ℕ) → inside_cells g (box a c j (suc j)) ≡ along g r 0 a c j
  unfolding inside_cells cell_sum counted_share counting share five
  count-along a c j =
      over-same a c (λ i. over j (suc j) (λ l. only (g.inside i l) 1)) (λ i. only (g.inside i j) 1) (λ i p q. over-one j (λ l. only (g.inside i l) 1))

  pub bottom-along : (a c b d : ℕ) → only (not (spared r (height g b (suc b)))) (bottom g (box a c b d)) ≡ along g r 1 a c b
  unfolding bottom counted_share counting share five
  bottom-along a c b d =
      sym (only-over (not (spared r (height g b (suc b)))) a c (λ i. only (low_side (g.inside i) b) (width g i (suc i))))

  pub top-along : (a c b d : ℕ) → only (not (spared r (height g d (suc d)))) (top g (box a c b (suc d))) ≡ along g r 2 a c d
  unfolding top counted_share counting share five
  top-along a c b d =
      sym (only-over (not (spared r (height g d (suc d)))) a c (λ i. only (high_side (g.inside i) (suc d)) (width g i (suc i))))

  pub dues_cells : (price : ℕ) → dues_of g r price ≡ cell_sum (λ i j. owed price (λ n. counted_share g r n i j)) (frame g)
  unfolding dues_of cell_sum frame
  dues_cells price = sym (over_swap 0 g.columns 0 g.rows (λ i j. owed price (λ n. counted_share g r n i j)))

  module _ (sound : Sound g) where
    pub share-beyond : (k i j : ℕ) → k < 5 → g.columns ≤ i → counted_share g r k i j ≡ 0
    unfolding counted_share counting five
    share-beyond zero i j h q = share-none g sound 0 i j h q
    share-beyond (suc zero) i j h q =
        ap (only (not (spared r (height g j (suc j))))) (share-none g sound 1 i j h q) ∙ only_none (not (spared r (height g j (suc j))))
    share-beyond (suc (suc zero)) i j h q =
        ap (only (not (spared r (height g j (suc j))))) (share-none g sound 2 i j h q) ∙ only_none (not (spared r (height g j (suc j))))
    share-beyond (suc (suc (suc zero))) i j h q =
        ap (only (not (spared r (width g i (suc i))))) (share-none g sound 3 i j h q) ∙ only_none (not (spared r (width g i (suc i))))
    share-beyond (suc (suc (suc (suc zero)))) i j h q =
        ap (only (not (spared r (width g i (suc i))))) (share-none g sound 4 i j h q) ∙ only_none (not (spared r (width g i (suc i))))
    share-beyond (suc (suc (suc (suc (suc k))))) i j h q = absurd (omega arith)

    -- the columns of a narrow strip are narrow
    narrow : (a c i : ℕ) → a ≤ i → i < c → width g a c < r.threshold → spared r (width g i (suc i)) ≡ false
    unfolding spared width
    narrow a c i h k q =
        lt-leb r.threshold (g.x (suc i) - g.x i)
        (omega (arith, rise g.x sound.x-up a i h, rise g.x sound.x-up (suc i) c k, sound.x-up i))

    pub left_along : (a c j : ℕ) → a < c → width g a c < r.threshold → left g (box a c j (suc j)) ≡ counted_share g r 3 a j
    unfolding left counted_share counting share five
    left_along a c j h q =
        over-one j (λ l. only (low_side (λ i. g.inside i l) a) (height g l (suc l)))
        ∙ sym (ap (λ t. only (not t) (only (low_side (λ i. g.inside i j) a) (height g j (suc j)))) (narrow a c a (omega arith) h q))

    pub right-along : (a c j : ℕ) → a ≤ c → width g a (suc c) < r.threshold → right g (box a (suc c) j (suc j)) ≡ counted_share g r 4 c j
    unfolding right counted_share counting share five
    right-along a c j h q =
        over-one j (λ l. only (high_side (λ i. g.inside i l) (suc c)) (height g l (suc l)))
        ∙ sym (ap (λ t. only (not t) (only (high_side (λ i. g.inside i j) (suc c)) (height g j (suc j)))) (narrow a (suc c) c h (omega arith) q))

    module _ (price : ℕ) where
      nothing_beyond : (i j : ℕ) → g.columns ≤ i → owed price (λ n. counted_share g r n i j) ≡ 0
      unfolding owed
      nothing_beyond i j h =
          omega (
            arith,
            ap (λ n. price * n) (share-beyond 0 i j (omega arith) h),
            share-beyond 1 i j (omega arith) h,
            share-beyond 2 i j (omega arith) h,
            share-beyond 3 i j (omega arith) h,
            share-beyond 4 i j (omega arith) h,
          )

      pub strip_total : (a c : ℕ) → a ≤ c → owed price (λ n. total g r n a c) ≤ dues_of g r price
      unfolding dues_of
      strip_total a c h =
          omega (
            arith,
            owed-over price 0 g.rows (λ n j. along g r n a c j),
            over-le 0 g.rows (λ j. owed price (λ n. along g r n a c j)) (λ j. over 0 g.columns (λ i. owed price (λ n. counted_share g r n i j)))
                (λ j p q.
                omega (
                  arith,
                  owed-over price a c (λ n i. counted_share g r n i j),
                  within (λ i. owed price (λ n. counted_share g r n i j)) a c g.columns (λ i s. nothing_beyond i j s) h,
                )),
          )

      -- the shares of one kind in one row are some of them
      row-total : (k a c j : ℕ) → j < g.rows → along g r k a c j ≤ total g r k a c
      row-total k a c j h = over_term 0 g.rows j (λ n. along g r k a c n) (omega arith) h

      -- the flanks of a strip are those of its first and its last column, where the rule counts them
      flank_row : (a w j : ℕ) → 1 ≤ w
          → only (not (spared r (width g a (a + w)))) (left g (box a (a + w) j (suc j)) + right g (box a (a + w) j (suc j)))
          ≤ along g r 3 a (a + w) j + along g r 4 a (a + w) j
      unfolding spared
      flank_row a w j some = go (le-or r.threshold (width g a (a + w)))
        where
          go : (r.threshold ≤ width g a (a + w)) ⊎ (width g a (a + w) < r.threshold)
              → only (not (spared r (width g a (a + w)))) (left g (box a (a + w) j (suc j)) + right g (box a (a + w) j (suc j)))
              ≤ along g r 3 a (a + w) j + along g r 4 a (a + w) j
          go (inl q) = rw (le-leb r.threshold (width g a (a + w)) q) (omega arith)
          go (inr q) =
              let e : suc (a + w - 1) ≡ a + w = omega arith in
              omega (
                arith,
                only-most (not (spared r (width g a (a + w)))) (left g (box a (a + w) j (suc j)) + right g (box a (a + w) j (suc j))),
                left_along a (a + w) j (omega arith) q,
                right-along a (a + w - 1) j (omega arith) (omega (arith, ap (width g a) e)),
                ap (λ c. right g (box a c j (suc j))) e,
                over_term a (a + w) a (λ i. counted_share g r 3 i j) (omega arith) (omega arith),
                over_term a (a + w) (a + w - 1) (λ i. counted_share g r 4 i j) (omega arith) (omega arith),
              )

      flanks-total : (a w b d : ℕ) → 1 ≤ w → b ≤ d → d ≤ g.rows
          → over b d (λ j. only (not (spared r (width g a (a + w)))) (left g (box a (a + w) j (suc j)) + right g (box a (a + w) j (suc j))))
          ≤ total g r 3 a (a + w) + total g r 4 a (a + w)
      flanks-total a w b d some q h =
          omega (
            arith,
            over-le b d (λ j. only (not (spared r (width g a (a + w)))) (left g (box a (a + w) j (suc j)) + right g (box a (a + w) j (suc j))))
                (λ j. along g r 3 a (a + w) j + along g r 4 a (a + w) j) (λ j x y. flank_row a w j some),
            over_add b d (λ j. along g r 3 a (a + w) j) (λ j. along g r 4 a (a + w) j),
            over-part b d 0 g.rows (λ j. along g r 3 a (a + w) j) (omega arith) q h,
            over-part b d 0 g.rows (λ j. along g r 4 a (a + w) j) (omega arith) q h,
          )

      count-total : (a c b d : ℕ) → b ≤ d → d ≤ g.rows → inside_cells g (box a c b d) ≤ total g r 0 a c
      unfolding inside_cells cell_sum counted_share counting share five
      count-total a c b d q h =
          omega (
            arith,
            over_swap a c b d (λ i j. only (g.inside i j) 1),
            over-part b d 0 g.rows (λ j. along g r 0 a c j) (omega arith) q h,
          )

      pub bottom_due : (a w b d : ℕ) → b < g.rows → only (not (spared r (height g b (suc b)))) (bottom g (box a (a + w) b d)) ≤ dues_of g r price
      unfolding owed
      bottom_due a w b d h =
          omega (arith, bottom-along a (a + w) b d, row-total 1 a (a + w) b h, strip_total a (a + w) (omega arith))

      pub top_due : (a w b d : ℕ) → d < g.rows → only (not (spared r (height g d (suc d)))) (top g (box a (a + w) b (suc d))) ≤ dues_of g r price
      unfolding owed
      top_due a w b d h =
          omega (arith, top-along a (a + w) b d, row-total 2 a (a + w) d h, strip_total a (a + w) (omega arith))

      pub ends_due : (a w b d : ℕ) → b < g.rows → d < g.rows
          → only (not (spared r (height g b (suc b)))) (bottom g (box a (a + w) b (suc d)))
          + only (not (spared r (height g d (suc d)))) (top g (box a (a + w) b (suc d)))
          ≤ dues_of g r price
      unfolding owed
      ends_due a w b d h k =
          omega (
            arith,
            bottom-along a (a + w) b (suc d),
            top-along a (a + w) b d,
            row-total 1 a (a + w) b h,
            row-total 2 a (a + w) d k,
            strip_total a (a + w) (omega arith),
          )

      pub flanks_due : (a w b d : ℕ) → 1 ≤ w → b ≤ d → d ≤ g.rows
          → over b d (λ j. only (not (spared r (width g a (a + w)))) (left g (box a (a + w) j (suc j)) + right g (box a (a + w) j (suc j))))
          ≤ dues_of g r price
      unfolding owed
      flanks_due a w b d some q h = omega (arith, flanks-total a w b d some q h, strip_total a (a + w) (omega arith))

      pub strip_due : (a w b d : ℕ) → 1 ≤ w → b ≤ d → d < g.rows
          → price * inside_cells g (box a (a + w) b (suc d))
          + only (not (spared r (height g b (suc b)))) (bottom g (box a (a + w) b (suc d)))
          + only (not (spared r (height g d (suc d)))) (top g (box a (a + w) b (suc d)))
          + over b (suc d) (λ j. only (not (spared r (width g a (a + w)))) (left g (box a (a + w) j (suc j)) + right g (box a (a + w) j (suc j))))
          ≤ dues_of g r price
      unfolding owed
      strip_due a w b d some q h =
          omega (
            arith,
            mul-le-mul_left price (count-total a (a + w) b (suc d) (omega arith) h),
            bottom-along a (a + w) b (suc d),
            top-along a (a + w) b d,
            row-total 1 a (a + w) b (omega arith),
            row-total 2 a (a + w) d h,
            flanks-total a w b (suc d) some (omega arith) h,
            strip_total a (a + w) (omega arith),
          )
