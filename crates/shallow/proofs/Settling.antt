-- Laws of the pieces of a strip of few rows of cells. Assumes nothing.
--
--   placed_cuttable        == the vertical cuts of a strip of the grid can be weighed
--   whole_ready            == the sums of its pieces are small
--   cost-fits              == two costs together fit
--   threes-fit             == and so do three and three
--   across, across-none, across-more, across-three, least-made
--                          == the horizontal cuts of a piece, and the least of them so far
--   piece_cost, row-cost   == the cost of a piece, and of one of one row
--   pairs-*                == how many pieces a strip has
--   low-pair, next-pairs, next-room, fourth-pair, fifth_pair
--                          == where the pieces that begin at one line stand
--   top-pairs, four-pairs  == where the pieces of the two and of the four highest rows stand
--   four-top, four-upper, four-lowest
--                          == what is known of them
--   six_at, fifteen_at, one_wrote, three_wrote, threes-*, six_wrote, four_wrote, five_wrote, ten_wrote, fifteen_wrote
--                          == what the stores of a strip write
use Prim.Native.Nat.{ℕ, zero, suc, ◌+◌, ◌*◌, ◌-◌, ◌≤◌, ◌<◌, ◌^◌, min}
use mathlib.Core.Path.{◌≡◌, refl, sym, ◌∙◌, ap, ap₂, subst}
use mathlib.Core.Logic.{◌⊎◌, inl, inr}
use mathlib.Core.List.{List, [], ◌∷◌}
use native.Mathlib.Omega.{arith}
use native.Mathlib.Nat.{add-zero}
use lib.ListN.{length, get_or, set}
use Rattle.sum.proofs.Sum.{le-or}
use Rattle.outline.specs.Grid.{Grid}
use Rattle.rule.specs.declared.Rule.{Rule}
use Rattle.piece.specs.declared.Mode.TheVariants.{Straight}
use Rattle.piece.specs.Piece.{box, most_cost}
use Rattle.piece.specs.Cuts.{cost}
use Rattle.piece.proofs.Bound.{cost-most}
use Rattle.table.specs.Entry.{pairs_below, pair_count, pair_no, entry_count}
use Rattle.table.specs.Run.{Wrote, Lowest}
use Rattle.table.specs.Cuts.{uncut, Judged}
use Rattle.table.specs.Cuts.{parted}
use Rattle.table.proofs.Entry.{below-zero, below_suc, pair-below, pair_of, counted, entry-made, count_most}
use Rattle.table.proofs.Run.{wrote_none, wrote_more, lowest-more, lowest-same, lowest-between}
use Rattle.table.proofs.Judging.{judged_piece}
use Rattle.shallow.specs.declared.cuts.Strip.{Strip}
use Rattle.shallow.specs.declared.cuts.Three.{Three}
use Rattle.shallow.specs.declared.rows.Five.{Five}
use Rattle.shallow.specs.declared.rows.Four.{Four}
use Rattle.shallow.specs.declared.sums.Sums.{Sums}
use Rattle.shallow.specs.Sums.{Whole, Small, shot_of}
use Rattle.shallow.specs.Cuts.{Cuttable}
use Rattle.shallow.specs.Rows.{Placed, TwoRows, TopTwo, ThreeRows, LowThree, HighThree, FourRows, FourthRow, Addable, least_of, up2, up3, up4, three_at, four_at, five_at, ten_at}
use Rattle.shallow.proofs.Summing.{whole-small, whole-shot}

-- what the two parts of the piece between the y lines b and d cost together, cut at the line j
unfoldable pub across : Grid → Rule → ℕ → ℕ → ℕ → ℕ → ℕ → ℕ
across g r a c b d j = cost Straight g r (box a c b j) + cost Straight g r (box a c j d)

-- the least of its horizontal cuts, with no line weighed yet, and with one more
pub across-none : (g : Grid) (r : Rule) (a c b d v : ℕ) → Lowest (across g r a c b d) b (suc b) v v
across-none g r a c b d v = lowest-between (across g r a c b d) b (suc b) v (omega arith)

pub across-more : (g : Grid) (r : Rule) (a c b d j v m y z x : ℕ) → b < j → y ≡ cost Straight g r (box a c b j) → z ≡ cost Straight g r (box a c j d)
    → x ≡ min m (y + z) → Lowest (across g r a c b d) b j v m
    → Lowest (across g r a c b d) b (suc j) v x
unfolding across
across-more g r a c b d j v m y z x h ey ez e w =
    let n : j + 1 ≡ suc j = omega arith in
    rw e (subst (λ l. Lowest (across g r a c b d) b l v (min m (y + z))) n
    (lowest-more (across g r a c b d) b j v m (y + z) h (ap₂ ◌+◌ ey ez) w))

-- with the three lowest lines, and as the code weighs them
pub least-made : (v p q n : ℕ) (x y : Three) → p ≡ min v (x.first + y.first) → q ≡ min p (x.second + y.second) → n ≡ min q (x.third + y.third)
    → n ≡ least_of v x y
unfolding least_of
least-made v p q n x y e f h = h ∙ ap (λ m. min m (x.third + y.third)) (f ∙ ap (λ m. min m (x.second + y.second)) e)

pub across-three : (g : Grid) (r : Rule) (a c b d v : ℕ) (x y : Three) → LowThree g r a c b x → HighThree g r a c (suc b) d y
    → Lowest (across g r a c b d) b (up4 b) v (least_of v x y)
unfolding least_of
across-three g r a c b d v x y low high =
    across-more g r a c b d (up3 b) v _ x.third y.third _ (omega arith) low.third-is high.third-is refl
    (across-more g r a c b d (up2 b) v _ x.second y.second _ (omega arith) low.second_is high.second_is refl
    (across-more g r a c b d (suc b) v v x.first y.first _ (omega arith) low.first-is high.first-is refl
    (across-none g r a c b d v)))

module _ (g : Grid) (r : Rule) (s : Strip) (t : List ℕ) (k : Placed g r s t) where
  abbrev a : ℕ
  a = s.a.0

  abbrev c : ℕ
  c = s.c.0

  -- the costs of the parts are in the table
  part_low : (b d j : ℕ) → b < d → d ≤ g.rows → a < j → j < c
      → get_or t (pair_no g.columns a j * pair_count g.rows + pair_no g.rows b d) 0 ≡ cost Straight g r (box a j b d)
  part_low b d j q l p x =
      ap (λ n. get_or t n 0) (sym (entry-made g.columns g.rows a j b d))
      ∙ k.done.right (box a j b d) (record { ac = p; cx = omega (arith, k.cx); bd = q; dy = l }) (inr (refl, x))

  part-high : (b d j : ℕ) → b < d → d ≤ g.rows → a < j → j < c
      → get_or t (pair_no g.columns j c * pair_count g.rows + pair_no g.rows b d) 0 ≡ cost Straight g r (box j c b d)
  part-high b d j q l p x =
      ap (λ n. get_or t n 0) (sym (entry-made g.columns g.rows j c b d))
      ∙ k.done.right (box j c b d) (record { ac = x; cx = k.cx; bd = q; dy = l }) (inl p)

  parted-cost : (b d j : ℕ) → b < d → d ≤ g.rows → a < j → j < c
      → parted t s.columns s.pairs a c (pair_no g.rows b d) j ≡ cost Straight g r (box a j b d) + cost Straight g r (box j c b d)
  unfolding parted
  parted-cost b d j q l p x =
      ap₂ (λ m n. parted t m n a c (pair_no g.rows b d) j) k.columns_are k.pairs_are
      ∙ ap₂ ◌+◌ (part_low b d j q l p x) (part-high b d j q l p x)

  price-most : (u v b d : ℕ) → u < v → v ≤ g.columns → b < d → d ≤ g.rows → cost Straight g r (box u v b d) ≤ most_cost
  price-most u v b d h l p q = cost-most Straight g r k.sound (box u v b d) (omega arith) l (omega arith) q k.weight-most

  parted-fits : (j i : ℕ) → a < j → j < c → i < s.pairs → parted t s.columns s.pairs a c i j < 2 ^ 32
  parted-fits j i p x q =
      let y = pair_of g.rows g.rows i (omega arith) (counted g.rows i (omega (arith, k.pairs_are))) in
      let e : parted t s.columns s.pairs a c (pair_no g.rows y.0 y.1) j < 2 ^ 32 =
      omega (
        arith,
        parted-cost y.0 y.1 j y.2 y.3 p x,
        price-most a j y.0 y.1 p (omega (arith, k.cx)) y.2 y.3,
        price-most j c y.0 y.1 x k.cx y.2 y.3,
      ) in
      subst (λ n. parted t s.columns s.pairs a c n j < 2 ^ 32) y.4 e

  pub placed_cuttable : Cuttable s t
  unfolding entry_count
  placed_cuttable =
      record {
        columns-most = omega (arith, k.columns_are, k.sound.columns-most);
        pairs-most = omega (arith, k.pairs_are, count_most g.rows k.sound.rows-most);
        ac = k.ac;
        cx = omega (arith, k.columns_are, k.cx);
        first-is = k.first-is ∙ sym (ap₂ (λ m n. pairs_below m a * n) k.columns_are k.pairs_are);
        at-is = k.at-is ∙ sym (ap₂ (λ m n. pair_no m a c * n) k.columns_are k.pairs_are);
        room = omega (arith, k.room, ap₂ (λ m n. pair_count m * n) k.columns_are k.pairs_are);
        fits = parted-fits;
      }

  pub whole_ready : (b d : ℕ) (sums : Sums) → b ≤ d → d ≤ g.rows → Whole g r a c b d sums → Small sums × (sums.flanks ≤ 131070)
  whole_ready b d sums q l w = whole-small g k.sound r a c b d sums (omega (arith, k.ac)) k.cx q l w

  -- two costs together fit
  pub cost-fits : (b d x y : ℕ) (e f : ℕ) → b < d → d ≤ g.rows → x < y → y ≤ g.rows → e ≡ cost Straight g r (box a c b d) → f ≡ cost Straight g r (box a c x y)
      → e + f < 2 ^ 32
  cost-fits b d x y e f h l p q m n = omega (arith, price-most a c b d k.ac k.cx h l, price-most a c x y k.ac k.cx p q)

  pub threes-fit : (b d : ℕ) (x y : Three) → up4 b ≤ d → d ≤ g.rows → LowThree g r a c b x → HighThree g r a c (suc b) d y → Addable x y
  threes-fit b d x y h l low high =
      record {
        first = cost-fits b (suc b) (suc b) d x.first y.first (omega arith) (omega arith) (omega arith) l low.first-is high.first-is;
        second = cost-fits b (up2 b) (up2 b) d x.second y.second (omega arith) (omega arith) (omega arith) l low.second_is high.second_is;
        third = cost-fits b (up3 b) (up3 b) d x.third y.third (omega arith) (omega arith) (omega arith) l low.third-is high.third-is;
      }

  -- the cost of a piece, from its sums, its vertical cuts and its horizontal ones
  pub piece_cost : (b d i v best x : ℕ) (sums : Sums) → b < d → d ≤ g.rows → Whole g r a c b d sums → i ≡ pair_no g.rows b d
      → Lowest (parted t s.columns s.pairs a c i) a c uncut v
      → Lowest (across g r a c b d) b d v best
      → Judged sums.inside sums.cells (shot_of r s.width sums) best x
      → x ≡ cost Straight g r (box a c b d)
  unfolding across
  piece_cost b d i v best x sums h l w e low across j =
      judged_piece g r k.sound k.weight-most a c b d k.ac k.cx h l sums.inside sums.cells (shot_of r s.width sums) v best x
      w.summed.inside_are
      w.summed.cells_are
      (whole-shot g k.sound r a c b d s.width sums k.width_is w)
      (lowest-same (parted t s.columns s.pairs a c i) (λ j. cost Straight g r (box a j b d) + cost Straight g r (box j c b d)) a c uncut uncut v v
      (λ j p q. ap (λ n. parted t s.columns s.pairs a c n j) e ∙ parted-cost b d j h l p q)
      refl
      refl
      low)
      across
      j

  -- a row has no horizontal cut
  pub row-cost : (b i v x : ℕ) (sums : Sums) → suc b ≤ g.rows → Whole g r a c b (suc b) sums → i ≡ pair_no g.rows b (suc b)
      → Lowest (parted t s.columns s.pairs a c i) a c uncut v
      → Judged sums.inside sums.cells (shot_of r s.width sums) v x
      → x ≡ cost Straight g r (box a c b (suc b))
  row-cost b i v x sums l w e low j = piece_cost b (suc b) i v v x sums (omega arith) l w e low (across-none g r a c b (suc b) v) j

-- how many pieces a strip has
pub pairs-one : (rows : ℕ) → rows ≡ 1 → pair_count rows ≡ 1
unfolding pair_count pairs_below
pairs-one rows e = ap pair_count e

pub pairs-two : (rows : ℕ) → rows ≡ 2 → pair_count rows ≡ 3
unfolding pair_count pairs_below
pairs-two rows e = ap pair_count e

pub pairs-three : (rows : ℕ) → rows ≡ 3 → pair_count rows ≡ 6
unfolding pair_count pairs_below
pairs-three rows e = ap pair_count e

pub pairs-five : (rows : ℕ) → rows ≡ 5 → pair_count rows ≡ 15
unfolding pair_count pairs_below
pairs-five rows e = ap pair_count e

pub pairs-four : (rows : ℕ) → rows ≡ 4 → pair_count rows ≡ 10
unfolding pair_count pairs_below
pairs-four rows e = ap pair_count e

-- where the pieces that begin at one line stand
pub low-pair : (rows : ℕ) → 0 ≡ pair_no rows 0 1
unfolding pair_no
low-pair rows = omega (arith, below-zero rows)

pub next-pairs : (rows b i : ℕ) → i ≡ pair_no rows b (suc b) → (i + 1 ≡ pair_no rows b (up2 b)) × (i + 2 ≡ pair_no rows b (up3 b))
unfolding pair_no
next-pairs rows b i e = omega arith

pub next-room : (rows b i : ℕ) → up3 b ≤ rows → i ≡ pair_no rows b (suc b) → i + 3 ≤ pair_count rows
next-room rows b i h e = omega (arith, (next-pairs rows b i e).1, pair-below rows b (up3 b) (omega arith) h)

pub fourth-pair : (rows b i : ℕ) → i ≡ pair_no rows b (suc b) → i + 3 ≡ pair_no rows b (up4 b)
unfolding pair_no
fourth-pair rows b i e = omega arith

pub fifth_pair : (rows : ℕ) → 4 ≡ pair_no rows 0 5
unfolding pair_no
fifth_pair rows = omega (arith, below-zero rows)

-- where the pieces of the two highest rows stand
pub top-pairs : (rows b : ℕ) → rows ≡ up2 b
    → (pair_count rows ≡ 3 + pair_no rows b (suc b)) × ((pair_count rows ≡ 2 + pair_no rows b (up2 b)) × (pair_count rows ≡ 1 + pair_no rows (suc b) (up2 b)))
unfolding pair_count pair_no
top-pairs rows b e = omega (arith, ap (pairs_below rows) e, below_suc rows b, below_suc rows (suc b))

-- and of the four highest
pub four-pairs : (rows b : ℕ) → rows ≡ up4 b
    → (pair_count rows ≡ 10 + pair_no rows b (suc b)) × (pair_count rows ≡ 6 + pair_no rows (suc b) (up2 b))
unfolding pair_count pair_no
four-pairs rows b e =
    omega (arith, ap (pairs_below rows) e, below_suc rows b, below_suc rows (suc b), below_suc rows (up2 b), below_suc rows (up3 b))

-- the four highest rows: the two highest of them, with the second, and all
module _ (g : Grid) (r : Rule) (s : Strip) (b : ℕ) (lowest second third highest : Sums) (t : List ℕ) (w : FourRows g r s b lowest second third highest t) where
  pub four-top : TwoRows g r s (up2 b) third highest t
  four-top = record { placed = w.placed; rows_are = w.rows_are; low_sums = w.sums.third-sums; high_sums = w.sums.highest-sums }

  pub four-upper : (i : ℕ) (top : Three) → i + 6 ≡ s.pairs → TopTwo g r s.a.0 s.c.0 (up2 b) top → ThreeRows g r s (suc b) i second third highest top t
  four-upper i top e x =
      record {
        placed = w.placed;
        within = w.sums.within;
        entry-is = omega (arith, w.placed.pairs_are, four-pairs g.rows b w.rows_are);
        low_sums = w.sums.second-sums;
        middle-sums = w.sums.third-sums;
        high_sums = w.sums.highest-sums;
        above-costs = x;
      }

  pub four-lowest : (i : ℕ) (upper top : Three) → i + 10 ≡ s.pairs → LowThree g r s.a.0 s.c.0 (suc b) upper
      → TopTwo g r s.a.0 s.c.0 (up2 b) top
      → FourthRow g r s b i lowest second third highest upper top t
  four-lowest i upper top e x y =
      record {
        placed = w.placed;
        entry-is = omega (arith, w.placed.pairs_are, four-pairs g.rows b w.rows_are);
        sums = w.sums;
        upper-costs = x;
        top-costs = y;
      }

-- what the stores of a strip write
pub one_wrote : (t : List ℕ) (at x : ℕ) → at < length t → Wrote (λ i. x) at 1 t (set t at x)
one_wrote t at x h =
    subst (λ n. Wrote (λ i. x) at 1 t (set t n x)) (add-zero at) (wrote_more (λ i. x) at 0 t t x (omega arith) refl (wrote_none (λ i. x) at t))

pub three_wrote : (t : List ℕ) (at : ℕ) (x : Three) → at + 3 ≤ length t
    → Wrote (three_at x) at 3 t (set (set (set t at x.first) (at + 1) x.second) (at + 2) x.third)
unfolding three_at
three_wrote t at x h =
    let w₁ : Wrote (three_at x) at 1 t (set t at x.first) =
    subst (λ n. Wrote (three_at x) at 1 t (set t n x.first)) (add-zero at)
    (wrote_more (three_at x) at 0 t t x.first (omega arith) refl (wrote_none (three_at x) at t)) in
    let w₂ = wrote_more (three_at x) at 1 t (set t at x.first) x.second (omega (arith, w₁.long)) refl w₁ in
    wrote_more (three_at x) at 2 t (set (set t at x.first) (at + 1) x.second) x.third (omega (arith, w₂.long)) refl w₂

-- in two goes
wrote_both : (f g h : ℕ → ℕ) (at m n : ℕ) (t v u : List ℕ) → Wrote f at m t v → Wrote g (at + m) n v u
    → ((i : ℕ) → i < m → f i ≡ h i) → ((i : ℕ) → i < n → g i ≡ h (m + i))
    → Wrote h at (m + n) t u
wrote_both f g h at m n t v u w o low high =
    record {
      long = o.long ∙ w.long;
      made =
          λ i q. elim (le-or m i) [
            | inr p ↦ o.kept (at + i) (inl (omega arith)) ∙ w.made i p ∙ low i p
            | inl p ↦
                (let e : at + i ≡ at + m + (i - m) = omega arith in
                let z : m + (i - m) ≡ i = omega arith in
                let j : i - m < n = omega arith in
                ap (λ l. get_or u l 0) e ∙ o.made (i - m) j ∙ high (i - m) j ∙ ap h z)
          ];
      kept = λ l q. o.kept l (over l q) ∙ w.kept l (under l q);
    }
  where
    over : (l : ℕ) → (l < at) ⊎ (at + (m + n) ≤ l) → (l < at + m) ⊎ (at + m + n ≤ l)
    over l (inl q) = inl (omega arith)
    over l (inr q) = inr (omega arith)

    under : (l : ℕ) → (l < at) ⊎ (at + (m + n) ≤ l) → (l < at) ⊎ (at + m ≤ l)
    under l (inl q) = inl q
    under l (inr q) = inr (omega arith)

-- three numbers among others
three-same : (x : Three) (h : ℕ → ℕ) (m : ℕ) → x.first ≡ h m → x.second ≡ h (m + 1) → x.third ≡ h (m + 2) → (i : ℕ) → i < 3 → three_at x i ≡ h (m + i)
unfolding three_at
three-same x h m p q r zero l = p ∙ ap h (sym (add-zero m))
three-same x h m p q r (suc zero) l = q
three-same x h m p q r (suc (suc zero)) l = r
three-same x h m p q r (suc (suc (suc i))) l = absurd (omega arith)

pub threes-more : (h : ℕ → ℕ) (at m : ℕ) (t v u : List ℕ) (x : Three) → Wrote h at m t v → Wrote (three_at x) (at + m) 3 v u
    → x.first ≡ h m → x.second ≡ h (m + 1) → x.third ≡ h (m + 2)
    → Wrote h at (m + 3) t u
threes-more h at m t v u x w o p q r = wrote_both h (three_at x) h at m 3 t v u w o (λ i l. refl) (three-same x h m p q r)

pub threes-first : (h : ℕ → ℕ) (at : ℕ) (t u : List ℕ) (x : Three) → Wrote (three_at x) at 3 t u → x.first ≡ h 0 → x.second ≡ h 1 → x.third ≡ h 2
    → Wrote h at 3 t u
threes-first h at t u x w p q r =
    threes-more h at 0 t t u x (wrote_none h at t) (subst (λ n. Wrote (three_at x) n 3 t u) (sym (add-zero at)) w) p q r

-- the i-th of twice three numbers
unfoldable pub six_at : Three → Three → ℕ → ℕ
six_at x y i = get_or (x.first ∷ x.second ∷ x.third ∷ y.first ∷ y.second ∷ y.third ∷ []) i 0

pub six_wrote : (t v u : List ℕ) (at : ℕ) (x y : Three) → Wrote (three_at x) at 3 t v → Wrote (three_at y) (at + 3) 3 v u → Wrote (six_at x y) at 6 t u
unfolding six_at
six_wrote t v u at x y w o =
    threes-more (six_at x y) at 3 t v u y (threes-first (six_at x y) at t v x w refl refl refl) o refl refl refl

-- the four and the five that begin at one line
pub four_wrote : (t v : List ℕ) (at : ℕ) (x : Four) → at + 4 ≤ length t → Wrote (three_at x.three) at 3 t v → Wrote (four_at x) at 4 t (set v (at + 3) x.whole)
unfolding four_at
four_wrote t v at x h l =
    wrote_more (four_at x) at 3 t v x.whole (omega (arith, l.long)) refl (threes-first (four_at x) at t v x.three l refl refl refl)

four_same : (x : Four) (h : ℕ → ℕ) → x.three.first ≡ h 0 → x.three.second ≡ h 1 → x.three.third ≡ h 2 → x.whole ≡ h 3 → (i : ℕ) → i < 4 → four_at x i ≡ h i
unfolding four_at
four_same x h p q r s zero l = p
four_same x h p q r s (suc zero) l = q
four_same x h p q r s (suc (suc zero)) l = r
four_same x h p q r s (suc (suc (suc zero))) l = s
four_same x h p q r s (suc (suc (suc (suc i)))) l = absurd (omega arith)

fours_first : (h : ℕ → ℕ) (at : ℕ) (t u : List ℕ) (x : Four) → Wrote (four_at x) at 4 t u
    → x.three.first ≡ h 0 → x.three.second ≡ h 1 → x.three.third ≡ h 2 → x.whole ≡ h 3
    → Wrote h at 4 t u
fours_first h at t u x w p q r s = record { long = w.long; made = λ i l. w.made i l ∙ four_same x h p q r s i l; kept = w.kept }

pub five_wrote : (t v : List ℕ) (at : ℕ) (x : Five) → at + 5 ≤ length t → Wrote (four_at x.four) at 4 t v → Wrote (five_at x) at 5 t (set v (at + 4) x.whole)
unfolding five_at
five_wrote t v at x h l =
    wrote_more (five_at x) at 4 t v x.whole (omega (arith, l.long)) refl (fours_first (five_at x) at t v x.four l refl refl refl refl)

-- the ten of four rows
pub ten_wrote : (t v w u : List ℕ) (at : ℕ) (x : Four) (y z : Three) → Wrote (four_at x) at 4 t v → Wrote (three_at y) (at + 4) 3 v w → Wrote (three_at z) (at + 7) 3 w u
    → Wrote (ten_at x y z) at 10 t u
unfolding ten_at
ten_wrote t v w u at x y z l m n =
    let seven = threes-more (ten_at x y z) at 4 t v w y (fours_first (ten_at x y z) at t v x l refl refl refl refl) m refl refl refl in
    threes-more (ten_at x y z) at 7 t w u z seven n refl refl refl

-- the i-th of five and ten numbers
unfoldable pub fifteen_at : Five → Four → Three → Three → ℕ → ℕ
fifteen_at x y z w i =
    get_or
    (x.four.three.first
    ∷ x.four.three.second
    ∷ x.four.three.third
    ∷ x.four.whole
    ∷ x.whole
    ∷ y.three.first
    ∷ y.three.second
    ∷ y.three.third
    ∷ y.whole
    ∷ z.first
    ∷ z.second
    ∷ z.third
    ∷ w.first
    ∷ w.second
    ∷ w.third
    ∷ [])
    i
    0

fifteen_low : (x : Five) (y : Four) (z w : Three) (i : ℕ) → i < 5 → five_at x i ≡ fifteen_at x y z w i
unfolding five_at fifteen_at
fifteen_low x y z w zero h = refl
fifteen_low x y z w (suc zero) h = refl
fifteen_low x y z w (suc (suc zero)) h = refl
fifteen_low x y z w (suc (suc (suc zero))) h = refl
fifteen_low x y z w (suc (suc (suc (suc zero)))) h = refl
fifteen_low x y z w (suc (suc (suc (suc (suc i))))) h = absurd (omega arith)

fifteen_high : (x : Five) (y : Four) (z w : Three) (i : ℕ) → i < 10 → ten_at y z w i ≡ fifteen_at x y z w (5 + i)
unfolding ten_at fifteen_at
fifteen_high x y z w i h = (let e : suc (up4 i) ≡ 5 + i = omega arith in ap (fifteen_at x y z w) e)

pub fifteen_wrote : (t v u : List ℕ) (at : ℕ) (x : Five) (y : Four) (z w : Three) → Wrote (five_at x) at 5 t v → Wrote (ten_at y z w) (at + 5) 10 v u
    → Wrote (fifteen_at x y z w) at 15 t u
fifteen_wrote t v u at x y z w m n =
    wrote_both (five_at x) (ten_at y z w) (fifteen_at x y z w) at 5 10 t v u m n (fifteen_low x y z w) (fifteen_high x y z w)
