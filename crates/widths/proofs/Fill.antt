-- Laws of the fill by widths. Assumes nothing.
--
--   parted-fits          == the costs of a vertical cut's two parts fit together
--   sheet-measured       == the sums of the strips of one width are within bounds
--   priced-start         == the costs are prices of a side store from whose numbers they follow, in either mode
--   vertical, as_before  == what it has where the vertical cuts are weighed
--   filled_more          == the table with the strips of one more width stored
--   straight-start       == the costs are prices where the vertical cuts are weighed, in the straight-cut mode
--   State, state-*       == all strips narrower than w are filled, and no number of the side store is above `most_cost`
use Prim.Native.Nat.{ℕ, ◌+◌, ◌*◌, ◌-◌, ◌≤◌, ◌<◌, ◌^◌}
use mathlib.Core.Path.{◌≡◌, refl, sym, ◌∙◌, ap, ap₂, subst}
use mathlib.Core.Logic.{◌⊎◌, inl, inr}
use mathlib.Core.List.{List, ◌++◌}
use native.Mathlib.Omega.{arith}
use native.Mathlib.Nat.{mul_comm}
use lib.ListN.{length, get_or, drop, replicate}
use Rattle.sum.proofs.Sum.{le-or, rise}
use Rattle.outline.specs.Grid.{Grid, Sound, Drawn, stored}
use Rattle.rule.specs.declared.Rule.{Rule}
use Rattle.rule.specs.Rules.{limit}
use Rattle.rule.specs.Charge.{sliver_of, charge_of}
use Rattle.piece.specs.declared.Mode.{Mode}
use Rattle.piece.specs.declared.Mode.TheVariants.{Straight}
use Rattle.piece.specs.Piece.{Piece, box, most_cost, cells, inside_cells, width, height, sliver, charge}
use Rattle.piece.specs.Cuts.{cost}
use Rattle.piece.proofs.Cells.{cells-product}
use Rattle.piece.proofs.Bound.{cost-most}
use Rattle.table.specs.Entry.{pair_count, pair_no, entry_count, entry_of, Valid, costs}
use Rattle.table.specs.Run.{Lowest}
use Rattle.table.specs.Cuts.{uncut, Judged}
use Rattle.table.specs.Cuts.{parted}
use Rattle.table.specs.Fill.{Ready, Beyond}
use Rattle.table.proofs.Entry
use Rattle.table.proofs.Run.{lowest-same, zeros_at}
use Rattle.table.proofs.Pairs.{row_before}
use Rattle.table.proofs.Judging.{judged_piece}
use Rattle.tally.specs.Sums.{Grown, Flanked, Widths}
use Rattle.tally.specs.Units.{Laid}
use Rattle.tally.proofs.Sums as sums-of
use Rattle.strips.specs.Lanes.{Weighed, Stored}
use Rattle.widths.specs.Lane.{spot, ends_at}
use Rattle.widths.specs.Price.{sheet, count_in, flank_in, shot_at, Measured, Done, Priced, Priceable}
use Rattle.widths.proofs.Lane.{pairs_small}

-- the price of a piece of the strip that begins at the x line a
unfoldable pub price_of : Mode → Grid → Rule → ℕ → ℕ → ℕ → ℕ → ℕ
price_of mode g r w a b d = cost mode g r (box a (a + w) b d)

-- each piece narrower than w has its price
pub record FilledBelow (price : Piece → ℕ) (g : Grid) (w : ℕ) (t : List ℕ) : Type 0 where
  pub right : (p : Piece) → Valid g.columns g.rows p → p.c < p.a + w → get_or t (entry_of g.columns g.rows p) 0 ≡ price p

-- the strips of one width are stored, whatever the price of a piece is
module _ (price : Piece → ℕ) (g : Grid) (w : ℕ) (some : 1 ≤ w) (t : List ℕ) (f : FilledBelow price g w t) where
  module _ (side u : List ℕ) (store : Stored g.columns (pair_count g.rows) w side t u)
      (right : (a b d : ℕ) → a + w ≤ g.columns → b < d → d ≤ g.rows → get_or side (spot g.rows a b d) 0 ≡ price (box a (a + w) b d)) where
    here : (a b d : ℕ) → a + w ≤ g.columns → b < d → d ≤ g.rows → get_or u (entry_of g.columns g.rows (box a (a + w) b d)) 0 ≡ price (box a (a + w) b d)
    unfolding spot
    here a b d l bd dy =
        ap (λ n. get_or u n 0) (Entry.entry-made g.columns g.rows a (a + w) b d)
        ∙ store.made a (pair_no g.rows b d) l (Entry.pair-below g.rows b d bd dy)
        ∙ right a b d l bd dy

    away : (p : Piece) → Valid g.columns g.rows p → p.c < p.a + w → get_or u (entry_of g.columns g.rows p) 0 ≡ get_or t (entry_of g.columns g.rows p) 0
    unfolding entry_of
    away p v n = store.kept (pair_no g.columns p.a p.c * pair_count g.rows + pair_no g.rows p.b p.d) (λ a l. apart a l (le-or (pair_no g.columns a (a + w)) (pair_no g.columns p.a p.c)))
      where
        i : pair_no g.rows p.b p.d < pair_count g.rows
        i = Entry.pair-below g.rows p.b p.d v.bd v.dy

        other : (a : ℕ) → a + w ≤ g.columns → pair_no g.columns a (a + w) ≡ pair_no g.columns p.a p.c → ⊥
        other a l e =
            let z = Entry.pair_same g.columns a (a + w) p.a p.c (omega arith) l v.ac v.cx e in
            omega (arith, z.0, z.1)

        less : (x y : ℕ) → x ≤ y → (x ≡ y → ⊥) → x < y
        less x y h z = elim (le-or y x) [
          | inl k ↦ absurd (z (omega arith))
          | inr k ↦ k
        ]

        apart : (a : ℕ) → a + w ≤ g.columns
            → (pair_no g.columns a (a + w) ≤ pair_no g.columns p.a p.c) ⊎ (pair_no g.columns p.a p.c < pair_no g.columns a (a + w))
            → (pair_no g.columns p.a p.c * pair_count g.rows + pair_no g.rows p.b p.d < pair_no g.columns a (a + w) * pair_count g.rows)
            ⊎ (pair_no g.columns a (a + w) * pair_count g.rows + pair_count g.rows ≤ pair_no g.columns p.a p.c * pair_count g.rows + pair_no g.rows p.b p.d)
        apart a l (inr z) = inl (omega (arith, i, row_before (pair_no g.columns p.a p.c) (pair_no g.columns a (a + w)) (pair_count g.rows) z))
        apart a l (inl z) = inr (omega (arith, row_before (pair_no g.columns a (a + w)) (pair_no g.columns p.a p.c) (pair_count g.rows) (less _ _ z (other a l))))

    pub filled_more : FilledBelow price g (w + 1) u
    filled_more = record { right = λ p v n. go p v n (le-or (p.a + w) p.c) }
      where
        go : (p : Piece) → Valid g.columns g.rows p → p.c < p.a + (w + 1) → (p.a + w ≤ p.c) ⊎ (p.c < p.a + w) → get_or u (entry_of g.columns g.rows p) 0 ≡ price p
        go p v n (inr z) = away p v z ∙ f.right p v z
        go p v n (inl z) =
            let e : p.a + w ≡ p.c = omega arith in
            let q : box p.a (p.a + w) p.b p.d ≡ p = (λ i. record { a = p.a; c = e i; b = p.b; d = p.d }) in
            subst (λ x. get_or u (entry_of g.columns g.rows x) 0 ≡ price x) q (here p.a p.b p.d (omega (arith, v.cx)) v.bd v.dy)

    pub stored-beyond : (k : ℕ) → entry_count g.columns g.rows ≤ k → get_or u k 0 ≡ get_or t k 0
    unfolding entry_count
    stored-beyond k h =
        store.kept k
        (λ a l. inr (omega (arith, row_before (pair_no g.columns a (a + w)) (pair_count g.columns) (pair_count g.rows) (Entry.pair-below g.columns a (a + w) (omega arith) l))))

module _ (mode : Mode) (g : Grid) (r : Rule) (xs ys cs : List ℕ) (sound : Sound g) (drawn : Drawn g xs ys cs) (hw : r.weight ≤ limit) where
  pub cost-up : (a c b d : ℕ) → a < c → c ≤ g.columns → b < d → d ≤ g.rows → cost mode g r (box a c b d) ≤ most_cost
  cost-up a c b d ac cx bd dy = cost-most mode g r sound (box a c b d) (omega arith) cx (omega arith) dy hw

  module _ (w : ℕ) (some : 1 ≤ w) (most : w ≤ g.columns) (t : List ℕ) (f : FilledBelow (cost mode g r) g w t) where
    part : (a c b d : ℕ) → a < c → c ≤ g.columns → c < a + w → b < d → d ≤ g.rows
        → get_or t (pair_no g.columns a c * pair_count g.rows + pair_no g.rows b d) 0 ≡ cost mode g r (box a c b d)
    part a c b d ac cx n bd dy =
        ap (λ i. get_or t i 0) (sym (Entry.entry-made g.columns g.rows a c b d))
        ∙ f.right (box a c b d) (record { ac = ac; cx = cx; bd = bd; dy = dy }) n

    pub parted-cost : (a b d j : ℕ) → a + w ≤ g.columns → b < d → d ≤ g.rows → a < j → j < a + w
        → parted t g.columns (pair_count g.rows) a (a + w) (pair_no g.rows b d) j ≡ cost mode g r (box a j b d) + cost mode g r (box j (a + w) b d)
    unfolding parted
    parted-cost a b d j l bd dy p q = ap₂ ◌+◌ (part a j b d p (omega arith) q bd dy) (part j (a + w) b d q l (omega arith) bd dy)

    pub parted-fits : (a j e : ℕ) → a + w ≤ g.columns → a < j → j < a + w → e < pair_count g.rows
        → parted t g.columns (pair_count g.rows) a (a + w) e j < 2 ^ 32
    parted-fits a j e l p q i =
        let y = Entry.pair_of g.rows g.rows e (omega arith) (Entry.counted g.rows e i) in
        let z : parted t g.columns (pair_count g.rows) a (a + w) (pair_no g.rows y.0 y.1) j < 2 ^ 32 =
        omega (
          arith,
          parted-cost a y.0 y.1 j l y.2 y.3 p q,
          cost-up a j y.0 y.1 p (omega arith) y.2 y.3,
          cost-up j (a + w) y.0 y.1 q l y.2 y.3,
        ) in
        subst (λ n. parted t g.columns (pair_count g.rows) a (a + w) n j < 2 ^ 32) y.4 z

    module _ (sums wide : List ℕ) (grown : Grown g w sums) (flanked : Flanked g w sums) (widths : Widths g w wide) where
      pub sheet-measured : (n : ℕ) → n ≤ 15 → Measured (sheet sums wide ys r g.rows w n)
      unfolding count_in flank_in ends_at
      sheet-measured n h =
          record {
            sums-length = grown.long;
            wide-length = widths.long;
            ys-length = drawn.ys-length;
            rows-most = sound.rows-most;
            width-most = omega (arith, sound.columns-most);
            strips-most = h;
            weight-most = hw;
            ys-up = λ b d p q. omega (arith, drawn.y-at b (omega arith), drawn.y-at d q, rise g.y sound.y-up b d p);
            count_most = λ a b d i p q. sums-of.count_most g sound w most sums grown a i b d (omega arith) q;
            flank_most = λ a b d i p q. sums-of.flank_most g sound w most sums grown a i flanked b d (omega arith) q;
            ends-most =
                λ a b d i p q. omega (
                  arith,
                  sums-of.bottom_in g sound w most sums grown a i b (omega arith),
                  sums-of.top_in g sound w most sums grown a i (d - 1) (omega arith),
                );
          }

      -- what the sums say of a piece
      pub shot-charge : (n a b d : ℕ) → a + w ≤ g.columns → b < d → d ≤ g.rows
          → shot_at (sheet sums wide ys r g.rows w n) a b d ≡ charge g r (box a (a + w) b d)
      unfolding shot_at flank_in ends_at charge sliver height
      shot-charge n a b d l bd dy =
          let i : a < 16 = omega (arith, sound.columns-most) in
          let u : get_or ys d 0 - get_or ys b 0 ≡ g.y d - g.y b = ap₂ ◌-◌ (drawn.y-at d dy) (drawn.y-at b (omega arith)) in
          ap₂ (λ x y. charge_of r (sliver_of r x y (flank_in sums a b d) (ends_at sums a b d))) (widths.widths a l) u
          ∙ ap₂ (λ x y. charge_of r (sliver_of r (width g a (a + w)) (g.y d - g.y b) x y)) (sums-of.flank_in_lem g sound w most sums grown a i flanked b d dy)
          (sums-of.ends-at g sound w most sums grown a i b d bd dy)

      pub count-inside : (a b d : ℕ) → a + w ≤ g.columns → d ≤ g.rows → count_in sums a b d ≡ inside_cells g (box a (a + w) b d)
      unfolding count_in
      count-inside a b d l dy = sums-of.count_in_lem g sound w most sums grown a (omega (arith, sound.columns-most)) b d dy

      pub cells-all : (a b d : ℕ) → b < d → (d - b) * w ≡ cells (box a (a + w) b d)
      cells-all a b d bd =
          let z : a + w - a ≡ w = omega arith in
          omega (arith, cells-product (box a (a + w) b d) (omega arith) (omega arith), mul_comm (d - b) w, ap (λ n. n * (d - b)) z)

      -- a side store from whose numbers the costs follow has prices
      pub priced-start : (made : List ℕ) (n : ℕ) → n ≡ g.columns + 1 - w
          → ((a p q best v : ℕ) → a + w ≤ g.columns → p < q → q ≤ g.rows
          → Lowest (λ k. cost mode g r (box a (a + w) p k) + cost mode g r (box a (a + w) k q)) p q (get_or made (spot g.rows a p q) 0) best
          → Judged (inside_cells g (box a (a + w) p q)) (cells (box a (a + w) p q)) (charge g r (box a (a + w) p q)) best v
          → v ≡ cost mode g r (box a (a + w) p q))
          → ((a p q : ℕ) → g.columns < a + w → a < 16 → p < q → q ≤ g.rows → get_or made (spot g.rows a p q) 0 ≤ most_cost)
          → Priced (price_of mode g r w) (sheet sums wide ys r g.rows w n) made g.rows (g.rows + 1)
      unfolding price_of
      priced-start made n e settles cheap =
          record {
            most = λ a p q i pq qr. cost-up a (a + w) p q (omega arith) (within a i) pq qr;
            done = λ a p q i pq qr o. absurd (none p q pq qr o);
            ahead =
                λ a p q best v i pq qr o low j.
                settles a p q best v (within a i) pq qr low
                (judged_as (count-inside a p q (within a i) qr) (cells-all a p q pq) (shot-charge n a p q (within a i) pq qr) j);
            spare = λ a p q z i pq qr. cheap a p q (omega arith) i pq qr;
          }
        where
          within : (a : ℕ) → a < n → a + w ≤ g.columns
          within a i = omega arith

          none : (p q : ℕ) → p < q → q ≤ g.rows → Done g.rows (g.rows + 1) p q → ⊥
          none p q pq qr (inl u) = omega arith
          none p q pq qr (inr u) = omega (arith, u.0)

          judged_as : {m₁ m₂ n₁ n₂ s₁ s₂ best v : ℕ} → m₁ ≡ m₂ → n₁ ≡ n₂ → s₁ ≡ s₂ → Judged m₁ n₁ s₁ best v → Judged m₂ n₂ s₂ best v
          judged_as x y z j = record { none = λ h. j.none (x ∙ h); full = λ h k. j.full (omega (arith, x)) (x ∙ k ∙ sym y) ∙ z; cut = λ h k. j.cut (omega (arith, x)) (λ i. k (sym x ∙ i ∙ y)) }

    -- the strips whose vertical cuts are weighed
    module _ (side made : List ℕ) (weighed : Weighed g.columns (pair_count g.rows) w t side made) where
      pub vertical : (a b d : ℕ) → a + w ≤ g.columns → b < d → d ≤ g.rows
          → Lowest (λ j. cost mode g r (box a j b d) + cost mode g r (box j (a + w) b d)) a (a + w) uncut (get_or made (spot g.rows a b d) 0)
      unfolding spot
      vertical a b d l bd dy =
          lowest-same (parted t g.columns (pair_count g.rows) a (a + w) (pair_no g.rows b d)) (λ j. cost mode g r (box a j b d) + cost mode g r (box j (a + w) b d)) a (a + w) uncut uncut
          (get_or made (16 * pair_no g.rows b d + a) 0) (get_or made (16 * pair_no g.rows b d + a) 0)
          (λ j p q. parted-cost a b d j l bd dy p q)
          refl
          refl
          (weighed.least a (pair_no g.rows b d) l (Entry.pair-below g.rows b d bd dy))

      pub as_before : (a p q : ℕ) → g.columns < a + w → a < 16 → get_or made (spot g.rows a p q) 0 ≡ get_or side (spot g.rows a p q) 0
      unfolding spot
      as_before a p q z i = weighed.kept a (pair_no g.rows p q) i (inl z)

-- where the fill stands
pub record State (mode : Mode) (g : Grid) (r : Rule) (w : ℕ) (t₀ t side : List ℕ) : Type 0 where
  pub filled : FilledBelow (cost mode g r) g w t
  pub beyond : Beyond (entry_count g.columns g.rows) t₀ t
  pub side-long : length side ≡ 1920
  pub cheap : (a p q : ℕ) → a < 16 → p < q → q ≤ g.rows → get_or side (spot g.rows a p q) 0 ≤ most_cost

pub state_none : (mode : Mode) (g : Grid) (r : Rule) (t : List ℕ) → State mode g r 1 t t (replicate 1920 0)
state_none mode g r t =
    record {
      filled = record { right = λ p v n. absurd (omega (arith, v.ac)) };
      beyond = record { long = refl; kept = λ k h. refl };
      side-long = refl;
      cheap = λ a p q i pq qr. omega (arith, zeros_at 1920 (spot g.rows a p q));
    }

pub laid-here : (columns rows : ℕ) (xs ys cs : List ℕ) (r : Rule) (t₀ : List ℕ) → Ready (stored columns rows xs ys cs) r xs ys cs t₀ → Laid (stored columns rows xs ys cs) xs ys cs
laid-here columns rows xs ys cs r t₀ ready = record { sound = ready.sound; drawn = ready.drawn }

-- what the steps of a width ask and tell, of the grid that lies in memory
module _ (mode : Mode) (columns rows : ℕ) (xs ys cs : List ℕ) (r : Rule) (t₀ : List ℕ) (ready : Ready (stored columns rows xs ys cs) r xs ys cs t₀) where
  abbrev G : Grid
  G = stored columns rows xs ys cs

  module _ (w : ℕ) (some : 1 ≤ w) (most : w ≤ columns) (t side : List ℕ) (state : State mode G r w t₀ t side) (pairs : ℕ) (e : pairs ≡ pair_count rows) where
    pub asks_weigh : ((columns ≤ 15) × ((pairs ≤ 120) × (pair_count columns * pairs ≤ length t)))
        × (((1 ≤ w) × ((w ≤ columns) × (length side ≡ 1920)))
        × ((a j i : ℕ) → a + w ≤ columns → a < j → j < a + w → i < pairs → parted t columns pairs a (a + w) i j < 2 ^ 32))
    unfolding stored entry_count
    asks_weigh =
        subst (λ n. ((columns ≤ 15) × ((n ≤ 120) × (pair_count columns * n ≤ length t)))
        × (((1 ≤ w) × ((w ≤ columns) × (length side ≡ 1920))) × ((a j i : ℕ) → a + w ≤ columns → a < j → j < a + w → i < n → parted t columns n a (a + w) i j < 2 ^ 32))) (sym e) (
          (ready.sound.columns-most, (pairs_small rows ready.sound.rows-most, omega (arith, ready.room, state.beyond.long))),
          ((some, (most, state.side-long)), parted-fits mode G r xs ys cs ready.sound ready.drawn ready.weight-most w some most t state.filled),
        )

    module _ (sums wide : List ℕ) (grown : Grown G w sums × Flanked G w sums) (widths : Widths G w wide) (made : List ℕ) (made-long : length made ≡ 1920)
        (n : ℕ) (en : n ≡ columns + 1 - w) (start : Priced (price_of mode G r w) (sheet sums wide ys r rows w n) made rows (rows + 1)) where
      pub asks_settle : Measured (sheet sums wide ys r rows w n)
          × (((pairs ≡ pair_count rows) × (length made ≡ 1920)) × Priceable (sheet sums wide ys r rows w n) made rows (rows + 1))
      unfolding stored
      asks_settle = (
        sheet-measured mode G r xs ys cs ready.sound ready.drawn ready.weight-most w some most t state.filled sums wide grown.0 grown.1 widths n (omega (arith, ready.sound.columns-most)),
        ((e, made-long), record { price = price_of mode G r w; priced = start }),
      )

      pub told-width : (made₂ u : List ℕ) → length made₂ ≡ length made
          → ((s : ℕ → ℕ → ℕ → ℕ) → Priced s (sheet sums wide ys r rows w n) made rows (rows + 1) → Priced s (sheet sums wide ys r rows w n) made₂ 0 (rows + 1))
          → Stored columns pairs w made₂ t u
          → State mode G r (w + 1) t₀ u made₂
      unfolding stored price_of
      told-width made₂ u long settled store =
          record {
            filled = filled_more (cost mode G r) G w some t state.filled made₂ u stored-rows right;
            beyond =
                record {
                  long = store.long ∙ state.beyond.long;
                  kept = λ k h. stored-beyond (cost mode G r) G w some t state.filled made₂ u stored-rows right k h ∙ state.beyond.kept k h;
                };
            side-long = long ∙ made-long;
            cheap =
                λ a p q i pq qr. elim (le-or n a) [
                  | inl z ↦ end.spare a p q z i pq qr
                  | inr z ↦ omega (arith, end.done a p q z pq qr (all p q qr), end.most a p q z pq qr)
                ];
          }
        where
          end : Priced (price_of mode G r w) (sheet sums wide ys r rows w n) made₂ 0 (rows + 1)
          end = settled (price_of mode G r w) start

          all : (p q : ℕ) → q ≤ rows → Done 0 (rows + 1) p q
          all p q h = elim (le-or p 0) [
            | inl z ↦ inr (omega arith, omega arith)
            | inr z ↦ inl z
          ]

          stored-rows : Stored columns (pair_count rows) w made₂ t u
          stored-rows = subst (λ i. Stored columns i w made₂ t u) e store

          right : (a b d : ℕ) → a + w ≤ columns → b < d → d ≤ rows → get_or made₂ (spot rows a b d) 0 ≡ cost mode G r (box a (a + w) b d)
          right a b d l bd dy = end.done a b d (omega arith) bd dy (all b d dy)

  pub state_all : (w : ℕ) (t side : List ℕ) → columns < w → State mode G r w t₀ t side
      → t ≡ costs mode G r ++ drop (length (costs mode G r)) t₀
  unfolding stored
  state_all w t side h state =
      Entry.costs-whole mode G r t₀ t (omega (arith, ready.room, state.beyond.long)) state.beyond.long (λ p v. state.filled.right p v (omega (arith, v.cx))) state.beyond.kept

-- in the straight-cut mode the costs follow from the least of the vertical cuts
module _ (columns rows : ℕ) (xs ys cs : List ℕ) (r : Rule) (t₀ : List ℕ) (ready : Ready (stored columns rows xs ys cs) r xs ys cs t₀)
    (w : ℕ) (some : 1 ≤ w) (most : w ≤ columns) (t side : List ℕ) (state : State Straight (stored columns rows xs ys cs) r w t₀ t side) (pairs : ℕ) (e : pairs ≡ pair_count rows)
    (sums wide : List ℕ) (grown : Grown (stored columns rows xs ys cs) w sums × Flanked (stored columns rows xs ys cs) w sums) (widths : Widths (stored columns rows xs ys cs) w wide)
    (made : List ℕ) (weighed : Weighed columns pairs w t side made) (n : ℕ) (en : n ≡ columns + 1 - w) where
  pub straight-start : Priced (price_of Straight (stored columns rows xs ys cs) r w) (sheet sums wide ys r rows w n) made rows (rows + 1)
  unfolding stored
  straight-start =
      priced-start Straight (stored columns rows xs ys cs) r xs ys cs ready.sound ready.drawn ready.weight-most w some most t state.filled sums wide grown.0 grown.1 widths made n en
      (λ a p q best v l pq qr low j.
      judged_piece (stored columns rows xs ys cs) r ready.sound ready.weight-most a (a + w) p q (omega arith) l pq qr _ _ _ (get_or made (spot rows a p q) 0) best v refl refl refl
      (vertical Straight (stored columns rows xs ys cs) r xs ys cs ready.sound ready.drawn ready.weight-most w some most t state.filled side made all a p q l pq qr)
      low
      j)
      (λ a p q z i pq qr.
      omega (arith, as_before Straight (stored columns rows xs ys cs) r xs ys cs ready.sound ready.drawn ready.weight-most w some most t state.filled side made all a p q z i, state.cheap a p q i pq qr))
    where
      all : Weighed columns (pair_count rows) w t side made
      all = subst (λ i. Weighed columns i w t side made) e weighed
