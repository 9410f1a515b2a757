-- Laws of the strips that begin at one x line. Assumes nothing.
--
--   Strips                 == the strips that end below the line c are filled; the next has its entries from `at` on
--   turn-start, turn_more, turn_end
--                          == before the first strip, with one more, and with all
--   turn-room              == the next strip has its entries in the table
--   turn-first, turn-first-small
--                          == where the first strip stands
--   asks-*, pairs-few      == what the steps of a turn ask
--   row-empty, row_next    == a row of cells before the first column, and before the next turn
--   Turn                   == a strip in its turn
--   turn-at                == the one that ends at the next line
--   turn-settled           == what is known of its rows once they have grown by its last column
--   settled-one, settled-two, settled-three, settled-four, settled-five
--                          == what the costs of their pieces ask of them
--   room-settled, pairs-settled
--                          == where these have room, and how many there are
--   one_right, two-right, three-right, four-right, five-right
--                          == the costs of a strip by the numbers of its y pairs
--   to-ready, to-reached, back-filled, five-left
--                          == one to five rows, as the choice among them finds their count
use Prim.Native.Nat.{ℕ, zero, suc, ◌+◌, ◌*◌, ◌-◌, ◌≤◌, ◌<◌}
use mathlib.Core.Path.{◌≡◌, refl, sym, ◌∙◌, ap, ap₂, subst}
use mathlib.Core.Logic.{◌⊎◌, inl, inr}
use mathlib.Core.List.{List}
use native.Mathlib.Omega.{arith}
use native.Mathlib.Nat.{mul_comm}
use lib.ListN.{length, get_or}
use Rattle.sum.proofs.Sum.{le-or, rise}
use Rattle.outline.specs.Grid.{Grid, Sound, stored}
use Rattle.rule.specs.declared.Rule.{Rule}
use Rattle.piece.specs.declared.Mode.TheVariants.{Straight}
use Rattle.piece.specs.Piece.{Piece, box, width}
use Rattle.piece.specs.Cuts.{cost}
use Rattle.table.specs.Entry.{pairs_below, pair_count, pair_no, entry_count, entry_of, Valid}
use Rattle.table.specs.Run.{Wrote}
use Rattle.table.specs.Fill.{Ready, Reached, Beyond}
use Rattle.table.proofs.Entry.{pair-below, pair_same, entry-made, below-most, count_most}
use Rattle.table.proofs.Pairs.{row_before, row-most}
use Rattle.table.proofs.Fill.{beyond-none, beyond_trans, reached-at}
use Rattle.shallow.specs.declared.cuts.Strip.{Strip}
use Rattle.shallow.specs.declared.cuts.Three.{Three}
use Rattle.shallow.specs.declared.rows.Five.{Five}
use Rattle.shallow.specs.declared.rows.Four.{Four}
use Rattle.shallow.specs.declared.sums.Sums.{Sums}
use Rattle.shallow.specs.Sums.{Summed, Whole, Small, empty_of, grown_row}
use Rattle.shallow.specs.Rows.{Placed, Settled, OneRow, TwoRows, TopTwo, ThreeRows, LowThree, FourRows, LowFour, FifthRow, LowFive, up2, up3, up4, three_at, ten_at}
use Rattle.shallow.proofs.Parting.{low-entry, low_first}
use Rattle.shallow.proofs.Settling.{six_at, fifteen_at, low-pair}
use Rattle.shallow.proofs.Summing.{summed-small, summed-none, whole-grown}

-- a strip stored
module _ (g : Grid) (r : Rule) (a c : ℕ) (h : a < c) (k : c ≤ g.columns) (t : List ℕ) (done : Reached Straight g r t a c) (u : List ℕ) (f : ℕ → ℕ)
    (w : Wrote f (pair_no g.columns a c * pair_count g.rows) (pair_count g.rows) t u)
    (right : (b d : ℕ) → b < d → d ≤ g.rows → f (pair_no g.rows b d) ≡ cost Straight g r (box a c b d)) where
  here : (b d : ℕ) → b < d → d ≤ g.rows → get_or u (entry_of g.columns g.rows (box a c b d)) 0 ≡ cost Straight g r (box a c b d)
  here b d q l =
      ap (λ n. get_or u n 0) (entry-made g.columns g.rows a c b d)
      ∙ w.made (pair_no g.rows b d) (pair-below g.rows b d q l)
      ∙ right b d q l

  -- the pieces of another strip
  away : (p : Piece) → Valid g.columns g.rows p → (pair_no g.columns p.a p.c ≡ pair_no g.columns a c → ⊥)
      → get_or u (entry_of g.columns g.rows p) 0 ≡ get_or t (entry_of g.columns g.rows p) 0
  unfolding entry_of
  away p v o = w.kept (pair_no g.columns p.a p.c * pair_count g.rows + pair_no g.rows p.b p.d) (side (le-or (pair_no g.columns a c) (pair_no g.columns p.a p.c)))
    where
      i : pair_no g.rows p.b p.d < pair_count g.rows
      i = pair-below g.rows p.b p.d v.bd v.dy

      more : pair_no g.columns a c ≤ pair_no g.columns p.a p.c → pair_no g.columns a c < pair_no g.columns p.a p.c
      more z = elim (le-or (pair_no g.columns p.a p.c) (pair_no g.columns a c)) [
        | inl y ↦ absurd (o (omega arith))
        | inr y ↦ y
      ]

      side : (pair_no g.columns a c ≤ pair_no g.columns p.a p.c) ⊎ (pair_no g.columns p.a p.c < pair_no g.columns a c)
          → (pair_no g.columns p.a p.c * pair_count g.rows + pair_no g.rows p.b p.d < pair_no g.columns a c * pair_count g.rows)
          ⊎ (pair_no g.columns a c * pair_count g.rows + pair_count g.rows
          ≤ pair_no g.columns p.a p.c * pair_count g.rows + pair_no g.rows p.b p.d)
      side (inr z) = inl (omega (arith, i, row_before (pair_no g.columns p.a p.c) (pair_no g.columns a c) (pair_count g.rows) z))
      side (inl z) = inr (omega (arith, row_before (pair_no g.columns a c) (pair_no g.columns p.a p.c) (pair_count g.rows) (more z)))

  stored-reached : Reached Straight g r u a (c + 1)
  stored-reached = record { right = λ p v o. go p v o }
    where
      apart : (p : Piece) → (p.a ≡ a) × (p.c ≡ c) → (a < p.a) ⊎ ((p.a ≡ a) × (p.c < c)) → ⊥
      apart p z (inl i) = omega (arith, z.0)
      apart p z (inr i) = omega (arith, z.1, i.1)

      other : (p : Piece) → Valid g.columns g.rows p → (a < p.a) ⊎ ((p.a ≡ a) × (p.c < c)) → get_or u (entry_of g.columns g.rows p) 0 ≡ cost Straight g r p
      other p v o = away p v (λ e. apart p (pair_same g.columns p.a p.c a c v.ac v.cx h k e) o) ∙ done.right p v o

      go : (p : Piece) → Valid g.columns g.rows p → (a < p.a) ⊎ ((p.a ≡ a) × (p.c < c + 1)) → get_or u (entry_of g.columns g.rows p) 0 ≡ cost Straight g r p
      go p v (inl i) = other p v (inl i)
      go p v (inr i) = elim (le-or c p.c) [
        | inr z ↦ other p v (inr (i.0, z))
        | inl z ↦
            (let e : p.c ≡ c = omega (arith, i.1) in
            let f : box a c p.b p.d ≡ p = (λ n. record { a = sym i.0 n; c = sym e n; b = p.b; d = p.d }) in
            subst (λ q. get_or u (entry_of g.columns g.rows q) 0 ≡ cost Straight g r q) f (here p.b p.d v.bd v.dy))
      ]

  stored-beyond : Beyond (entry_count g.columns g.rows) t u
  unfolding entry_count
  stored-beyond =
      record {
        long = w.long;
        kept =
            λ m q. w.kept m
            (inr (omega (arith, row_before (pair_no g.columns a c) (pair_count g.columns) (pair_count g.rows) (pair-below g.columns a c h k))));
      }

pub record Strips (g : Grid) (r : Rule) (a c at : ℕ) (t u : List ℕ) : Type 0 where
  pub above : a < c
  pub most : c ≤ g.columns + 1
  pub at-is : at ≡ pair_no g.columns a c * pair_count g.rows
  pub done : Reached Straight g r u a c
  pub beyond : Beyond (entry_count g.columns g.rows) t u

pub strips-start : (g : Grid) (r : Rule) (a start : ℕ) (t : List ℕ) → a < g.columns → start ≡ pairs_below g.columns a * pair_count g.rows
    → Reached Straight g r t a (a + 1)
    → Strips g r a (a + 1) start t t
strips-start g r a start t h e f =
    record {
      above = omega arith;
      most = omega arith;
      at-is = e ∙ ap (λ n. n * pair_count g.rows) (sym (low_first g.columns a));
      done = f;
      beyond = beyond-none _ t;
    }

module _ (g : Grid) (r : Rule) (a c at : ℕ) (t u : List ℕ) (s : Strips g r a c at t u) where
  pub strips-more : (v : List ℕ) (f : ℕ → ℕ) (n : ℕ) → c ≤ g.columns → n ≡ pair_count g.rows → Wrote f at n u v
      → ((b d : ℕ) → b < d → d ≤ g.rows → f (pair_no g.rows b d) ≡ cost Straight g r (box a c b d))
      → Strips g r a (c + 1) (at + n) t v
  strips-more v f n k p w right =
      record {
        above = omega (arith, s.above);
        most = omega arith;
        at-is = omega (arith, s.at-is, low-entry g.columns (pair_count g.rows) a c 0 s.above);
        done = stored-reached g r a c s.above k u s.done v f wrote right;
        beyond = beyond_trans _ t u v s.beyond (stored-beyond g r a c s.above k u s.done v f wrote right);
      }
    where
      wrote : Wrote f (pair_no g.columns a c * pair_count g.rows) (pair_count g.rows) u v
      wrote = subst (λ m. Wrote f m (pair_count g.rows) u v) s.at-is (subst (λ m. Wrote f at m u v) p w)

  pub strips-end : g.columns < c → Reached Straight g r u a (g.columns + 1)
  strips-end h = reached-at Straight g r u a c (g.columns + 1) (omega (arith, s.most)) s.done

  pub strips-room : Sound g → c ≤ g.columns → entry_count g.columns g.rows ≤ length t → (at + pair_count g.rows ≤ length u) × (at ≤ 54000)
  unfolding entry_count
  strips-room sound k room =
      let q = pair-below g.columns a c s.above k in (
        omega (arith, s.at-is, row_before (pair_no g.columns a c) (pair_count g.columns) (pair_count g.rows) q, s.beyond.long),
        omega (
          arith,
          s.at-is,
          row-most (pair_no g.columns a c) (pair_count g.rows)
              (omega (arith, q, count_most g.columns sound.columns-most))
              (count_most g.rows sound.rows-most),
        ),
      )

-- the steps of a turn, of the grid that lies in memory
module _ (columns rows : ℕ) (xs ys cs : List ℕ) (r : Rule) (t : List ℕ) (ready : Ready (stored columns rows xs ys cs) r xs ys cs t) where
  abbrev G : Grid
  G = stored columns rows xs ys cs

  pub asks_empty : (j : ℕ) → j < rows → (j + 1 < length ys) × (get_or ys j 0 ≤ get_or ys (j + 1) 0)
  unfolding stored
  asks_empty j h = (
    omega (arith, ready.drawn.ys-length, ready.sound.rows-most),
    omega (arith, ready.drawn.y-at j (omega arith), ready.drawn.y-at (j + 1) (omega arith), rise G.y ready.sound.y-up j (j + 1) (omega arith)),
  )

  pub asks_span : (a c : ℕ) → a ≤ c → c ≤ columns → (a < length xs) × ((c < length xs) × (get_or xs a 0 ≤ get_or xs c 0))
  unfolding stored
  asks_span a c h k = (
    omega (arith, ready.drawn.xs-length, ready.sound.columns-most),
    (
      omega (arith, ready.drawn.xs-length, ready.sound.columns-most),
      omega (arith, ready.drawn.x-at a (omega arith), ready.drawn.x-at c k, rise G.x ready.sound.x-up a c h),
    ),
  )

  pub columns-few : columns ≤ 15
  unfolding stored
  columns-few = ready.sound.columns-most

  pub pairs-few : pair_count rows ≤ 225
  unfolding stored
  pairs-few = count_most rows ready.sound.rows-most

  pub row-empty : (a j : ℕ) (row : Sums) → j < rows → row ≡ empty_of (get_or ys (j + 1) 0 - get_or ys j 0) → Summed G a (a + 1 - 1) j (suc j) row
  unfolding stored
  row-empty a j row h e =
      let z : a ≡ a + 1 - 1 = omega arith in
      subst (λ n. Summed G a n j (suc j) row) z
      (subst (Summed G a a j (suc j)) (sym e) (summed-none G xs ys cs ready.sound ready.drawn a j h))

  wide : (a c w : ℕ) → a ≤ columns → c ≤ columns → w ≡ get_or xs c 0 - get_or xs a 0 → w ≡ width G a c
  unfolding width stored
  wide a c w p q e = e ∙ ap₂ ◌-◌ (ready.drawn.x-at c q) (ready.drawn.x-at a p)

  -- what `grown` asks
  pub asks_within : (a c : ℕ) → a < c → c ≤ columns → (length cs ≡ 256) × ((a < c) × ((c ≤ 15) × (rows ≤ 15)))
  unfolding stored
  asks_within a c h k = (ready.drawn.cells-length, (h, (omega (arith, columns-few), ready.sound.rows-most)))

  pub asks_small : (a c : ℕ) (row : ℕ → Sums) → a < c → c ≤ columns → ((j : ℕ) → j < rows → Summed G a (c - 1) j (suc j) (row j)) → (j : ℕ) → j < rows → Small (row j)
  unfolding stored
  asks_small a c row h k w j q = summed-small G ready.sound a (c - 1) j (suc j) (row j) (omega arith) (omega arith) (omega arith) q (w j q)

  row-grown : (strip : Strip) (step j : ℕ) (row new : Sums) → strip.a.0 < strip.c.0 → strip.c.0 ≤ columns → j < rows
      → strip.width ≡ get_or xs strip.c.0 0 - get_or xs strip.a.0 0 → step ≡ get_or xs strip.c.0 0 - get_or xs (strip.c.0 - 1) 0
      → Summed G strip.a.0 (strip.c.0 - 1) j (suc j) row → new ≡ grown_row cs r strip step j row
      → Whole G r strip.a.0 strip.c.0 j (suc j) new
  unfolding stored
  row-grown strip step j row new h k q ew es w e =
      subst (Whole G r strip.a.0 strip.c.0 j (suc j)) (sym e)
      (whole-grown G xs ys cs ready.sound ready.drawn r strip h k (wide strip.a.0 strip.c.0 strip.width (omega arith) k ew) step es j q row w)

  strip_placed : (u : List ℕ) (strip : Strip) (at : ℕ) → strip.columns ≡ columns → strip.pairs ≡ pair_count rows → strip.c.0 ≤ columns
      → strip.first ≡ pairs_below columns strip.a.0 * pair_count rows → strip.at ≡ at
      → strip.width ≡ get_or xs strip.c.0 0 - get_or xs strip.a.0 0
      → Strips G r strip.a.0 strip.c.0 at t u
      → Placed G r strip u
  unfolding stored
  strip_placed u strip at ec ep k ef ea ew s =
      record {
        sound = ready.sound;
        weight-most = ready.weight-most;
        columns_are = ec;
        pairs_are = ep;
        ac = s.above;
        cx = k;
        first-is = ef;
        at-is = ea ∙ s.at-is;
        width_is = wide strip.a.0 strip.c.0 strip.width (omega (arith, s.above)) k ew;
        room = omega (arith, ready.room, s.beyond.long);
        done = s.done;
      }

  -- the turns
  pub turn-first : (a first n start : ℕ) → first ≡ pairs_below columns a → n ≡ pair_count rows → start ≡ n * first
      → start ≡ pairs_below columns a * pair_count rows
  turn-first a first n start e p z = z ∙ ap₂ ◌*◌ p e ∙ mul_comm (pair_count rows) (pairs_below columns a)

  pub turn-first-small : (a first n : ℕ) → a < columns → first ≡ pairs_below columns a → n ≡ pair_count rows → n * first ≤ 54000
  unfolding stored
  turn-first-small a first n h e p =
      omega (
        arith,
        mul_comm n first,
        row-most first n (omega (arith, e, below-most columns a columns-few, h, columns-few)) (omega (arith, p, count_most rows ready.sound.rows-most)),
      )

  pub turn-start : (a start : ℕ) → a < columns → start ≡ pairs_below columns a * pair_count rows → Reached Straight G r t a (a + 1) → Strips G r a (a + 1) start t t
  unfolding stored
  turn-start a start h e f = strips-start G r a start t h e f

  module _ (a c at : ℕ) (u : List ℕ) (s : Strips G r a c at t u) where
    pub turn_more : (v : List ℕ) (f : ℕ → ℕ) (n : ℕ) → c ≤ columns → n ≡ pair_count rows → Wrote f at n u v
        → ((b d : ℕ) → b < d → d ≤ rows → f (pair_no rows b d) ≡ cost Straight G r (box a c b d))
        → Strips G r a (c + 1) (at + n) t v
    unfolding stored
    turn_more v f n k p w right = strips-more G r a c at t u s v f n k p w right

    pub turn_end : columns < c → Reached Straight G r u a (columns + 1) × Beyond (entry_count columns rows) t u
    unfolding stored
    turn_end h = (strips-end G r a c at t u s h, s.beyond)

    pub turn-room : c ≤ columns → (at + pair_count rows ≤ length u) × (at ≤ 54000)
    unfolding stored
    turn-room k = strips-room G r a c at t u s ready.sound k ready.room

-- the width of the strip's last column, between the lines c - 1 and c
step-back : (xs : List ℕ) (last step : ℕ) → step ≡ get_or xs (last + 1) 0 - get_or xs last 0 → step ≡ get_or xs (last + 1) 0 - get_or xs (last + 1 - 1) 0
step-back xs last step e = (let z : last ≡ last + 1 - 1 = omega arith in e ∙ ap (λ n. get_or xs (last + 1) 0 - get_or xs n 0) z)

-- before the next turn
pub row_next : (g : Grid) (r : Rule) (a c b d : ℕ) (row : Sums) → Whole g r a c b d row → Summed g a (c + 1 - 1) b d row
row_next g r a c b d row w = (let z : c ≡ c + 1 - 1 = omega arith in subst (λ n. Summed g a n b d row) z w.summed)

-- the costs by the numbers of the y pairs
module _ (g : Grid) (r : Rule) (a c : ℕ) where
  pub one_right : (x : ℕ) → x ≡ cost Straight g r (box a c 0 1) → (b d : ℕ) → b < d → d ≤ 1 → x ≡ cost Straight g r (box a c b d)
  one_right x e zero (suc zero) h k = e
  one_right x e zero zero h k = absurd (omega arith)
  one_right x e zero (suc (suc d)) h k = absurd (omega arith)
  one_right x e (suc b) d h k = absurd (omega arith)

  pub two-right : (x : Three) → TopTwo g r a c 0 x → (b d : ℕ) → b < d → d ≤ 2 → three_at x (pair_no 2 b d) ≡ cost Straight g r (box a c b d)
  unfolding three_at pair_no pairs_below
  two-right x w zero zero h k = absurd (omega arith)
  two-right x w zero (suc zero) h k = w.first-is
  two-right x w zero (suc (suc zero)) h k = w.second_is
  two-right x w zero (suc (suc (suc d))) h k = absurd (omega arith)
  two-right x w (suc zero) zero h k = absurd (omega arith)
  two-right x w (suc zero) (suc zero) h k = absurd (omega arith)
  two-right x w (suc zero) (suc (suc zero)) h k = w.third-is
  two-right x w (suc zero) (suc (suc (suc d))) h k = absurd (omega arith)
  two-right x w (suc (suc b)) d h k = absurd (omega arith)

  pub three-right : (x y : Three) → LowThree g r a c 0 x → TopTwo g r a c 1 y → (b d : ℕ) → b < d → d ≤ 3 → six_at x y (pair_no 3 b d) ≡ cost Straight g r (box a c b d)
  unfolding six_at pair_no pairs_below
  three-right x y w v zero zero h k = absurd (omega arith)
  three-right x y w v zero (suc zero) h k = w.first-is
  three-right x y w v zero (suc (suc zero)) h k = w.second_is
  three-right x y w v zero (suc (suc (suc zero))) h k = w.third-is
  three-right x y w v zero (suc (suc (suc (suc d)))) h k = absurd (omega arith)
  three-right x y w v (suc zero) zero h k = absurd (omega arith)
  three-right x y w v (suc zero) (suc zero) h k = absurd (omega arith)
  three-right x y w v (suc zero) (suc (suc zero)) h k = v.first-is
  three-right x y w v (suc zero) (suc (suc (suc zero))) h k = v.second_is
  three-right x y w v (suc zero) (suc (suc (suc (suc d)))) h k = absurd (omega arith)
  three-right x y w v (suc (suc zero)) zero h k = absurd (omega arith)
  three-right x y w v (suc (suc zero)) (suc zero) h k = absurd (omega arith)
  three-right x y w v (suc (suc zero)) (suc (suc zero)) h k = absurd (omega arith)
  three-right x y w v (suc (suc zero)) (suc (suc (suc zero))) h k = v.third-is
  three-right x y w v (suc (suc zero)) (suc (suc (suc (suc d)))) h k = absurd (omega arith)
  three-right x y w v (suc (suc (suc b))) d h k = absurd (omega arith)

  pub four-right : (x : Four) (y z : Three) → LowFour g r a c 0 x → LowThree g r a c 1 y → TopTwo g r a c 2 z → (b d : ℕ) → b < d → d ≤ 4 → ten_at x y z (pair_no 4 b d) ≡ cost Straight g r (box a c b d)
  unfolding ten_at pair_no pairs_below
  four-right x y z w v u zero zero h k = absurd (omega arith)
  four-right x y z w v u zero (suc zero) h k = w.three_are.first-is
  four-right x y z w v u zero (suc (suc zero)) h k = w.three_are.second_is
  four-right x y z w v u zero (suc (suc (suc zero))) h k = w.three_are.third-is
  four-right x y z w v u zero (suc (suc (suc (suc zero)))) h k = w.whole_is
  four-right x y z w v u zero (suc (suc (suc (suc (suc d))))) h k = absurd (omega arith)
  four-right x y z w v u (suc zero) zero h k = absurd (omega arith)
  four-right x y z w v u (suc zero) (suc zero) h k = absurd (omega arith)
  four-right x y z w v u (suc zero) (suc (suc zero)) h k = v.first-is
  four-right x y z w v u (suc zero) (suc (suc (suc zero))) h k = v.second_is
  four-right x y z w v u (suc zero) (suc (suc (suc (suc zero)))) h k = v.third-is
  four-right x y z w v u (suc zero) (suc (suc (suc (suc (suc d))))) h k = absurd (omega arith)
  four-right x y z w v u (suc (suc zero)) zero h k = absurd (omega arith)
  four-right x y z w v u (suc (suc zero)) (suc zero) h k = absurd (omega arith)
  four-right x y z w v u (suc (suc zero)) (suc (suc zero)) h k = absurd (omega arith)
  four-right x y z w v u (suc (suc zero)) (suc (suc (suc zero))) h k = u.first-is
  four-right x y z w v u (suc (suc zero)) (suc (suc (suc (suc zero)))) h k = u.second_is
  four-right x y z w v u (suc (suc zero)) (suc (suc (suc (suc (suc d))))) h k = absurd (omega arith)
  four-right x y z w v u (suc (suc (suc zero))) zero h k = absurd (omega arith)
  four-right x y z w v u (suc (suc (suc zero))) (suc zero) h k = absurd (omega arith)
  four-right x y z w v u (suc (suc (suc zero))) (suc (suc zero)) h k = absurd (omega arith)
  four-right x y z w v u (suc (suc (suc zero))) (suc (suc (suc zero))) h k = absurd (omega arith)
  four-right x y z w v u (suc (suc (suc zero))) (suc (suc (suc (suc zero)))) h k = u.third-is
  four-right x y z w v u (suc (suc (suc zero))) (suc (suc (suc (suc (suc d))))) h k = absurd (omega arith)
  four-right x y z w v u (suc (suc (suc (suc b)))) d h k = absurd (omega arith)

  pub five-right : (n : Five) (x : Four) (y z : Three) → LowFive g r a c n → LowFour g r a c 1 x → LowThree g r a c 2 y → TopTwo g r a c 3 z → (b d : ℕ) → b < d → d ≤ 5 → fifteen_at n x y z (pair_no 5 b d) ≡ cost Straight g r (box a c b d)
  unfolding fifteen_at pair_no pairs_below
  five-right n x y z o w v u zero zero h k = absurd (omega arith)
  five-right n x y z o w v u zero (suc zero) h k = o.four_are.three_are.first-is
  five-right n x y z o w v u zero (suc (suc zero)) h k = o.four_are.three_are.second_is
  five-right n x y z o w v u zero (suc (suc (suc zero))) h k = o.four_are.three_are.third-is
  five-right n x y z o w v u zero (suc (suc (suc (suc zero)))) h k = o.four_are.whole_is
  five-right n x y z o w v u zero (suc (suc (suc (suc (suc zero))))) h k = o.whole_is
  five-right n x y z o w v u zero (suc (suc (suc (suc (suc (suc d)))))) h k = absurd (omega arith)
  five-right n x y z o w v u (suc zero) zero h k = absurd (omega arith)
  five-right n x y z o w v u (suc zero) (suc zero) h k = absurd (omega arith)
  five-right n x y z o w v u (suc zero) (suc (suc zero)) h k = w.three_are.first-is
  five-right n x y z o w v u (suc zero) (suc (suc (suc zero))) h k = w.three_are.second_is
  five-right n x y z o w v u (suc zero) (suc (suc (suc (suc zero)))) h k = w.three_are.third-is
  five-right n x y z o w v u (suc zero) (suc (suc (suc (suc (suc zero))))) h k = w.whole_is
  five-right n x y z o w v u (suc zero) (suc (suc (suc (suc (suc (suc d)))))) h k = absurd (omega arith)
  five-right n x y z o w v u (suc (suc zero)) zero h k = absurd (omega arith)
  five-right n x y z o w v u (suc (suc zero)) (suc zero) h k = absurd (omega arith)
  five-right n x y z o w v u (suc (suc zero)) (suc (suc zero)) h k = absurd (omega arith)
  five-right n x y z o w v u (suc (suc zero)) (suc (suc (suc zero))) h k = v.first-is
  five-right n x y z o w v u (suc (suc zero)) (suc (suc (suc (suc zero)))) h k = v.second_is
  five-right n x y z o w v u (suc (suc zero)) (suc (suc (suc (suc (suc zero))))) h k = v.third-is
  five-right n x y z o w v u (suc (suc zero)) (suc (suc (suc (suc (suc (suc d)))))) h k = absurd (omega arith)
  five-right n x y z o w v u (suc (suc (suc zero))) zero h k = absurd (omega arith)
  five-right n x y z o w v u (suc (suc (suc zero))) (suc zero) h k = absurd (omega arith)
  five-right n x y z o w v u (suc (suc (suc zero))) (suc (suc zero)) h k = absurd (omega arith)
  five-right n x y z o w v u (suc (suc (suc zero))) (suc (suc (suc zero))) h k = absurd (omega arith)
  five-right n x y z o w v u (suc (suc (suc zero))) (suc (suc (suc (suc zero)))) h k = u.first-is
  five-right n x y z o w v u (suc (suc (suc zero))) (suc (suc (suc (suc (suc zero))))) h k = u.second_is
  five-right n x y z o w v u (suc (suc (suc zero))) (suc (suc (suc (suc (suc (suc d)))))) h k = absurd (omega arith)
  five-right n x y z o w v u (suc (suc (suc (suc zero)))) zero h k = absurd (omega arith)
  five-right n x y z o w v u (suc (suc (suc (suc zero)))) (suc zero) h k = absurd (omega arith)
  five-right n x y z o w v u (suc (suc (suc (suc zero)))) (suc (suc zero)) h k = absurd (omega arith)
  five-right n x y z o w v u (suc (suc (suc (suc zero)))) (suc (suc (suc zero))) h k = absurd (omega arith)
  five-right n x y z o w v u (suc (suc (suc (suc zero)))) (suc (suc (suc (suc zero)))) h k = absurd (omega arith)
  five-right n x y z o w v u (suc (suc (suc (suc zero)))) (suc (suc (suc (suc (suc zero))))) h k = u.third-is
  five-right n x y z o w v u (suc (suc (suc (suc zero)))) (suc (suc (suc (suc (suc (suc d)))))) h k = absurd (omega arith)
  five-right n x y z o w v u (suc (suc (suc (suc (suc b))))) d h k = absurd (omega arith)

-- a strip in its turn, and the rows of which have grown by its last column
pub record Turn (columns rows : ℕ) (xs ys cs : List ℕ) (r : Rule) (t u : List ℕ) (strip : Strip) (at step : ℕ) : Type 0 where
  pub ready : Ready (stored columns rows xs ys cs) r xs ys cs t
  pub strips : Strips (stored columns rows xs ys cs) r strip.a.0 strip.c.0 at t u
  pub cx : strip.c.0 ≤ columns
  pub columns_are : strip.columns ≡ columns
  pub pairs_are : strip.pairs ≡ pair_count rows
  pub first-is : strip.first ≡ pairs_below columns strip.a.0 * pair_count rows
  pub at-is : strip.at ≡ at
  pub width_is : strip.width ≡ get_or xs strip.c.0 0 - get_or xs strip.a.0 0
  pub step_is : step ≡ get_or xs strip.c.0 0 - get_or xs (strip.c.0 - 1) 0

module _ (columns rows : ℕ) (xs ys cs : List ℕ) (r : Rule) (t u : List ℕ) (strip : Strip) (at step : ℕ) (k : Turn columns rows xs ys cs r t u strip at step) where
  placed : Placed (stored columns rows xs ys cs) r strip u
  placed = strip_placed columns rows xs ys cs r t k.ready u strip at k.columns_are k.pairs_are k.cx k.first-is k.at-is k.width_is k.strips

  -- the rows, once they have grown by its last column
  pub turn-settled : (row new : ℕ → Sums)
      → ((j : ℕ) → j < rows → Summed (stored columns rows xs ys cs) strip.a.0 (strip.c.0 - 1) j (suc j) (row j))
      → ((j : ℕ) → j < rows → new j ≡ grown_row cs r strip step j (row j))
      → Settled (stored columns rows xs ys cs) r strip rows new u
  unfolding stored
  turn-settled row new w e =
      record {
        placed = placed;
        rows_are = refl;
        sums = λ j h. row-grown columns rows xs ys cs r t k.ready strip step j (row j) (new j) k.strips.above k.cx h k.width_is k.step_is (w j h) (e j h);
      }

-- the strip between the lines a and last + 1
pub turn-at : (columns rows : ℕ) (xs ys cs : List ℕ) (r : Rule) (t : List ℕ) → Ready (stored columns rows xs ys cs) r xs ys cs t
    → (a first last at n m w step : ℕ) (u : List ℕ) → first ≡ pairs_below columns a → n ≡ pair_count rows → m ≡ pair_count rows
    → Strips (stored columns rows xs ys cs) r a (last + 1) at t u
    → last < columns
    → w ≡ get_or xs (last + 1) 0 - get_or xs a 0
    → step ≡ get_or xs (last + 1) 0 - get_or xs last 0
    → Turn columns rows xs ys cs r t u
    (record { columns = columns; pairs = m; a = record { 0 = a }; c = record { 0 = last + 1 }; first = n * first; at = at; width = w })
    at
    step
turn-at columns rows xs ys cs r t ready a first last at n m w step u e p q s h width-is step-is =
    record {
      ready = ready;
      strips = s;
      cx = omega arith;
      columns_are = refl;
      pairs_are = q;
      first-is = turn-first columns rows xs ys cs r t ready a first n (n * first) e p refl;
      at-is = refl;
      width_is = width-is;
      step_is = step-back xs last step step-is;
    }

-- what the rows of a strip are asked for, from the highest down
module _ (g : Grid) (r : Rule) (s : Strip) (row : ℕ → Sums) (t : List ℕ) where
  pub room-settled : (n : ℕ) → Settled g r s n row t → (s.at + pair_count n ≤ length t) × (s.at ≤ 54000)
  unfolding entry_count
  room-settled n k =
      let most = pair-below g.columns s.a.0 s.c.0 k.placed.ac k.placed.cx in
      let room : (s.at + pair_count g.rows ≤ length t) × (s.at ≤ 54000) = (
        omega (arith, k.placed.at-is, row_before (pair_no g.columns s.a.0 s.c.0) (pair_count g.columns) (pair_count g.rows) most, k.placed.room),
        omega (
          arith,
          k.placed.at-is,
          row-most (pair_no g.columns s.a.0 s.c.0) (pair_count g.rows)
              (omega (arith, most, count_most g.columns k.placed.sound.columns-most))
              (count_most g.rows k.placed.sound.rows-most),
        ),
      ) in
      subst (λ m. (s.at + pair_count m ≤ length t) × (s.at ≤ 54000)) k.rows_are room

  pub pairs-settled : (n : ℕ) → Settled g r s n row t → pair_count n ≡ s.pairs
  pairs-settled n k = sym (k.placed.pairs_are ∙ ap pair_count k.rows_are)

  pub settled-one : Settled g r s 1 row t → OneRow g r s (row 0) t
  settled-one k = record { placed = k.placed; rows_are = k.rows_are; row-sums = k.sums 0 (omega arith) }

  pub settled-two : (b : ℕ) → Settled g r s (up2 b) row t → TwoRows g r s b (row b) (row (suc b)) t
  settled-two b k =
      record {
        placed = k.placed;
        rows_are = k.rows_are;
        low_sums = k.sums b (omega arith);
        high_sums = k.sums (suc b) (omega arith);
      }

  pub settled-three : Settled g r s 3 row t → (above : Three) → TopTwo g r s.a.0 s.c.0 1 above → ThreeRows g r s 0 0 (row 0) (row 1) (row 2) above t
  settled-three k above costs =
      record {
        placed = k.placed;
        within = omega (arith, k.rows_are);
        entry-is = low-pair g.rows;
        low_sums = k.sums 0 (omega arith);
        middle-sums = k.sums 1 (omega arith);
        high_sums = k.sums 2 (omega arith);
        above-costs = costs;
      }

  pub settled-four : (b : ℕ) → Settled g r s (up4 b) row t → FourRows g r s b (row b) (row (suc b)) (row (up2 b)) (row (up3 b)) t
  settled-four b k =
      record {
        placed = k.placed;
        rows_are = k.rows_are;
        sums =
            record {
              sound = k.placed.sound;
              ac = omega (arith, k.placed.ac);
              cx = k.placed.cx;
              within = omega (arith, k.rows_are);
              lowest-sums = k.sums b (omega arith);
              second-sums = k.sums (suc b) (omega arith);
              third-sums = k.sums (up2 b) (omega arith);
              highest-sums = k.sums (up3 b) (omega arith);
            };
      }

  pub settled-five : Settled g r s 5 row t → (middle : Four) (upper top : Three)
      → LowFour g r s.a.0 s.c.0 1 middle
      → LowThree g r s.a.0 s.c.0 2 upper
      → TopTwo g r s.a.0 s.c.0 3 top
      → FifthRow g r s (row 0) (row 1) (row 2) (row 3) (row 4) middle upper top t
  settled-five k middle upper top x y z =
      record {
        placed = k.placed;
        rows_are = k.rows_are;
        lowest-sums = k.sums 0 (omega arith);
        upper-sums = (settled-four 1 k).sums;
        middle-costs = x;
        upper-costs = y;
        top-costs = z;
      }

-- the count of rows, as it was found
module _ (columns count n : ℕ) (e : count ≡ n) (xs ys cs : List ℕ) (r : Rule) where
  pub to-ready : (t : List ℕ) → Ready (stored columns count xs ys cs) r xs ys cs t → Ready (stored columns n xs ys cs) r xs ys cs t
  to-ready t w = subst (λ m. Ready (stored columns m xs ys cs) r xs ys cs t) e w

  pub to-reached : (t : List ℕ) (a c : ℕ) → Reached Straight (stored columns count xs ys cs) r t a c → Reached Straight (stored columns n xs ys cs) r t a c
  to-reached t a c w = subst (λ m. Reached Straight (stored columns m xs ys cs) r t a c) e w

  pub back-filled : (t u : List ℕ) (a c : ℕ) → Reached Straight (stored columns n xs ys cs) r u a c × Beyond (entry_count columns n) t u
      → Reached Straight (stored columns count xs ys cs) r u a c × Beyond (entry_count columns count) t u
  back-filled t u a c w = subst (λ m. Reached Straight (stored columns m xs ys cs) r u a c × Beyond (entry_count columns m) t u) (sym e) w

pub five-left : (n : ℕ) → 1 ≤ n → n ≤ 5 → (n ≡ 1 → ⊥) → (n ≡ 2 → ⊥) → (n ≡ 3 → ⊥) → (n ≡ 4 → ⊥) → n ≡ 5
five-left zero h k p q r s = absurd (omega arith)
five-left (suc zero) h k p q r s = absurd (p refl)
five-left (suc (suc zero)) h k p q r s = absurd (q refl)
five-left (suc (suc (suc zero))) h k p q r s = absurd (r refl)
five-left (suc (suc (suc (suc zero)))) h k p q r s = absurd (s refl)
five-left (suc (suc (suc (suc (suc zero))))) h k p q r s = refl
five-left (suc (suc (suc (suc (suc (suc n)))))) h k p q r s = absurd (omega arith)
