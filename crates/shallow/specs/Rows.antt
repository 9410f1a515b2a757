-- Inner: the pieces of a strip of few rows of cells (nobody has to believe these). A strip lies between the x lines a and c.
--
--   up2 b .. up5 b          == the second to the fifth y line above the line b
--   Placed g r s t          == the strip s is one of the grid g, stands so in the table t, and t has the costs of all that its cuts make
--   OneRow g r s row t      == the strip has one row of cells, with these sums
--   TwoRows g r s b low high t
--                           == its two highest rows, which begin at the y line b, have these sums
--   TopTwo g r a c b x      == x has the costs of the three pieces of the two rows from the y line b on
--   ThreeRows g r s b i low middle high above t
--                           == the three rows from the y line b on have these sums, and `above` the costs of the pieces of the upper
--                              two; the pieces that begin at b stand from the i-th of the strip on
--   LowThree g r a c b x    == x has the costs of the pieces of one, two and three rows that begin at the y line b
--   HighThree g r a c b d x == x has the costs of the three pieces that end at the y line d and begin at b and the two lines above it
--   WholeFour g r s b i all below above t
--                           == the piece of four rows from the y line b on is the i-th of the strip and has these sums, and `below` and
--                              `above` have the costs of the two parts of each of its horizontal cuts
--   WholeFive g r s b i all below low above high t
--                           == the same of five rows: `low` and `high` have the costs of the two parts of its highest cut
--   Addable x y             == each of three numbers can be added to the one of three others
--   least_of v x y           == the least of v and of the three sums
--   FourSums g r a c b lowest second third highest
--                           == the four rows from the y line b on have these sums
--   FourRows g r s b lowest second third highest t
--                           == the same of the four highest rows of the strip
--   FourthRow g r s b i lowest second third highest upper top t
--                           == the same of four rows of the strip, and `upper` has the costs of the pieces that begin at the line above b,
--                              `top` those of the pieces of the two highest; the pieces that begin at b stand from the i-th of the strip on
--   LowFour g r a c b x     == x has the costs of the pieces of one to four rows that begin at the y line b
--   FifthRow g r s lowest second third fourth highest middle upper top t
--                           == the strip has five rows with these sums; `middle`, `upper` and `top` have the costs of the pieces that begin
--                              at the second line, at the third, and of the two highest rows
--   LowFive g r a c x       == x has the costs of the five pieces that begin at the lowest line
--   row_of rows j           == the j-th of the rows of a strip
--   Settled g r s n row t   == the strip has n rows of cells, of which the j-th has the sums `row j`
--   Costed g r s n pairs t u
--                           == the table u is t with the costs of the pieces of the strip of n rows, `pairs` in number, put where it stands
--   pairs_of_one .. pairs_of_five
--                           == how many pieces a strip of one to five rows has
--   three_at x i, four_at x i, five_at x i, ten_at x y z i
--                           == the i-th of three, four and five numbers, and of four and three and three
use Rattle.std.specs.Prelude.{ℕ, suc, ◌+◌, ◌*◌, ◌≤◌, ◌<◌, ◌^◌, min, ◌≡◌, refl, List, [], ◌∷◌, length, get_or}
use Rattle.outline.specs.Grid.{Grid, Sound}
use Rattle.rule.specs.declared.Rule.{Rule}
use Rattle.rule.specs.Rules.{limit}
use Rattle.piece.specs.declared.Mode.TheVariants.{Straight}
use Rattle.piece.specs.Piece.{box, width}
use Rattle.piece.specs.Cuts.{cost}
use Rattle.table.specs.Entry.{pairs_below, pair_count, pair_no, entry_count}
use Rattle.table.specs.Run.{Wrote}
use Rattle.table.specs.Fill.{Reached}
use Rattle.shallow.specs.declared.cuts.Strip.{Strip}
use Rattle.shallow.specs.declared.cuts.Three.{Three}
use Rattle.shallow.specs.declared.rows.Five.{Five}
use Rattle.shallow.specs.declared.rows.Four.{Four}
use Rattle.shallow.specs.declared.sums.Sums.{Sums}
use Rattle.shallow.specs.Sums.{Whole}

abbrev pub up2 : ℕ → ℕ
up2 b = suc (suc b)

abbrev pub up3 : ℕ → ℕ
up3 b = suc (up2 b)

abbrev pub up4 : ℕ → ℕ
up4 b = suc (up3 b)

abbrev pub up5 : ℕ → ℕ
up5 b = suc (up4 b)

pub record Placed (g : Grid) (r : Rule) (s : Strip) (t : List ℕ) : Type 0 where
  pub sound : Sound g
  pub weight-most : r.weight ≤ limit
  pub columns_are : s.columns ≡ g.columns
  pub pairs_are : s.pairs ≡ pair_count g.rows
  pub ac : s.a.0 < s.c.0
  pub cx : s.c.0 ≤ g.columns
  pub first-is : s.first ≡ pairs_below g.columns s.a.0 * pair_count g.rows
  pub at-is : s.at ≡ pair_no g.columns s.a.0 s.c.0 * pair_count g.rows
  pub width_is : s.width ≡ width g s.a.0 s.c.0
  pub room : entry_count g.columns g.rows ≤ length t
  pub done : Reached Straight g r t s.a.0 s.c.0

pub record OneRow (g : Grid) (r : Rule) (s : Strip) (row : Sums) (t : List ℕ) : Type 0 where
  pub placed : Placed g r s t
  pub rows_are : g.rows ≡ 1
  pub row-sums : Whole g r s.a.0 s.c.0 0 1 row

pub record TwoRows (g : Grid) (r : Rule) (s : Strip) (b : ℕ) (low high : Sums) (t : List ℕ) : Type 0 where
  pub placed : Placed g r s t
  pub rows_are : g.rows ≡ up2 b
  pub low_sums : Whole g r s.a.0 s.c.0 b (suc b) low
  pub high_sums : Whole g r s.a.0 s.c.0 (suc b) (up2 b) high

pub record TopTwo (g : Grid) (r : Rule) (a c b : ℕ) (x : Three) : Type 0 where
  pub first-is : x.first ≡ cost Straight g r (box a c b (suc b))
  pub second_is : x.second ≡ cost Straight g r (box a c b (up2 b))
  pub third-is : x.third ≡ cost Straight g r (box a c (suc b) (up2 b))

pub record ThreeRows (g : Grid) (r : Rule) (s : Strip) (b i : ℕ) (low middle high : Sums) (above : Three) (t : List ℕ) : Type 0 where
  pub placed : Placed g r s t
  pub within : up3 b ≤ g.rows
  pub entry-is : i ≡ pair_no g.rows b (suc b)
  pub low_sums : Whole g r s.a.0 s.c.0 b (suc b) low
  pub middle-sums : Whole g r s.a.0 s.c.0 (suc b) (up2 b) middle
  pub high_sums : Whole g r s.a.0 s.c.0 (up2 b) (up3 b) high
  pub above-costs : TopTwo g r s.a.0 s.c.0 (suc b) above

pub record LowThree (g : Grid) (r : Rule) (a c b : ℕ) (x : Three) : Type 0 where
  pub first-is : x.first ≡ cost Straight g r (box a c b (suc b))
  pub second_is : x.second ≡ cost Straight g r (box a c b (up2 b))
  pub third-is : x.third ≡ cost Straight g r (box a c b (up3 b))

pub record HighThree (g : Grid) (r : Rule) (a c b d : ℕ) (x : Three) : Type 0 where
  pub first-is : x.first ≡ cost Straight g r (box a c b d)
  pub second_is : x.second ≡ cost Straight g r (box a c (suc b) d)
  pub third-is : x.third ≡ cost Straight g r (box a c (up2 b) d)

pub record WholeFour (g : Grid) (r : Rule) (s : Strip) (b i : ℕ) (all : Sums) (below above : Three) (t : List ℕ) : Type 0 where
  pub placed : Placed g r s t
  pub within : up4 b ≤ g.rows
  pub entry-is : i ≡ pair_no g.rows b (up4 b)
  pub sums : Whole g r s.a.0 s.c.0 b (up4 b) all
  pub below-costs : LowThree g r s.a.0 s.c.0 b below
  pub above-costs : HighThree g r s.a.0 s.c.0 (suc b) (up4 b) above

pub record WholeFive (g : Grid) (r : Rule) (s : Strip) (b i : ℕ) (all : Sums) (below : Three) (low : ℕ) (above : Three) (high : ℕ) (t : List ℕ) : Type 0 where
  pub placed : Placed g r s t
  pub within : up5 b ≤ g.rows
  pub entry-is : i ≡ pair_no g.rows b (up5 b)
  pub sums : Whole g r s.a.0 s.c.0 b (up5 b) all
  pub below-costs : LowThree g r s.a.0 s.c.0 b below
  pub above-costs : HighThree g r s.a.0 s.c.0 (suc b) (up5 b) above
  pub low-is : low ≡ cost Straight g r (box s.a.0 s.c.0 b (up4 b))
  pub high_is : high ≡ cost Straight g r (box s.a.0 s.c.0 (up4 b) (up5 b))

pub record Addable (x y : Three) : Type 0 where
  pub first : x.first + y.first < 2 ^ 32
  pub second : x.second + y.second < 2 ^ 32
  pub third : x.third + y.third < 2 ^ 32

unfoldable pub least_of : ℕ → Three → Three → ℕ
least_of v x y = min (min (min v (x.first + y.first)) (x.second + y.second)) (x.third + y.third)

pub record FourSums (g : Grid) (r : Rule) (a c b : ℕ) (lowest second third highest : Sums) : Type 0 where
  pub sound : Sound g
  pub ac : a ≤ c
  pub cx : c ≤ g.columns
  pub within : up4 b ≤ g.rows
  pub lowest-sums : Whole g r a c b (suc b) lowest
  pub second-sums : Whole g r a c (suc b) (up2 b) second
  pub third-sums : Whole g r a c (up2 b) (up3 b) third
  pub highest-sums : Whole g r a c (up3 b) (up4 b) highest

pub record FourRows (g : Grid) (r : Rule) (s : Strip) (b : ℕ) (lowest second third highest : Sums) (t : List ℕ) : Type 0 where
  pub placed : Placed g r s t
  pub rows_are : g.rows ≡ up4 b
  pub sums : FourSums g r s.a.0 s.c.0 b lowest second third highest

pub record FourthRow (g : Grid) (r : Rule) (s : Strip) (b i : ℕ) (lowest second third highest : Sums) (upper top : Three) (t : List ℕ) : Type 0 where
  pub placed : Placed g r s t
  pub entry-is : i ≡ pair_no g.rows b (suc b)
  pub sums : FourSums g r s.a.0 s.c.0 b lowest second third highest
  pub upper-costs : LowThree g r s.a.0 s.c.0 (suc b) upper
  pub top-costs : TopTwo g r s.a.0 s.c.0 (up2 b) top

pub record LowFour (g : Grid) (r : Rule) (a c b : ℕ) (x : Four) : Type 0 where
  pub three_are : LowThree g r a c b x.three
  pub whole_is : x.whole ≡ cost Straight g r (box a c b (up4 b))

pub record FifthRow (g : Grid) (r : Rule) (s : Strip) (lowest second third fourth highest : Sums) (middle : Four) (upper top : Three) (t : List ℕ) : Type 0 where
  pub placed : Placed g r s t
  pub rows_are : g.rows ≡ 5
  pub lowest-sums : Whole g r s.a.0 s.c.0 0 1 lowest
  pub upper-sums : FourSums g r s.a.0 s.c.0 1 second third fourth highest
  pub middle-costs : LowFour g r s.a.0 s.c.0 1 middle
  pub upper-costs : LowThree g r s.a.0 s.c.0 2 upper
  pub top-costs : TopTwo g r s.a.0 s.c.0 3 top

pub record LowFive (g : Grid) (r : Rule) (a c : ℕ) (x : Five) : Type 0 where
  pub four_are : LowFour g r a c 0 x.four
  pub whole_is : x.whole ≡ cost Straight g r (box a c 0 5)

unfoldable pub three_at : Three → ℕ → ℕ
three_at x i = get_or (x.first ∷ x.second ∷ x.third ∷ []) i 0

unfoldable pub four_at : Four → ℕ → ℕ
four_at x i = get_or (x.three.first ∷ x.three.second ∷ x.three.third ∷ x.whole ∷ []) i 0

unfoldable pub five_at : Five → ℕ → ℕ
five_at x i = get_or (x.four.three.first ∷ x.four.three.second ∷ x.four.three.third ∷ x.four.whole ∷ x.whole ∷ []) i 0

unfoldable pub ten_at : Four → Three → Three → ℕ → ℕ
ten_at x y z i =
    get_or
    (x.three.first
    ∷ x.three.second
    ∷ x.three.third
    ∷ x.whole
    ∷ y.first
    ∷ y.second
    ∷ y.third
    ∷ z.first
    ∷ z.second
    ∷ z.third
    ∷ [])
    i
    0

-- the j-th of the rows of a strip
abbrev pub row_of : List Sums → ℕ → Sums
row_of rows j = get_or rows j (record { cells = 0; inside = 0; height = 0; bottom = 0; top = 0; flanks = 0 })

pub record Settled (g : Grid) (r : Rule) (s : Strip) (n : ℕ) (row : ℕ → Sums) (t : List ℕ) : Type 0 where
  pub placed : Placed g r s t
  pub rows_are : g.rows ≡ n
  pub sums : (j : ℕ) → j < n → Whole g r s.a.0 s.c.0 j (suc j) (row j)

pub record Costed (g : Grid) (r : Rule) (s : Strip) (n pairs : ℕ) (t u : List ℕ) : Type 0 where
  pub costs : ℕ → ℕ
  pub wrote : Wrote costs s.at pairs t u
  pub right : (b d : ℕ) → b < d → d ≤ n → costs (pair_no n b d) ≡ cost Straight g r (box s.a.0 s.c.0 b d)

-- how many pieces a strip has
pub pairs_of_one : 1 ≡ pair_count 1
unfolding pair_count pairs_below
pairs_of_one = refl

pub pairs_of_two : 3 ≡ pair_count 2
unfolding pair_count pairs_below
pairs_of_two = refl

pub pairs_of_three : 6 ≡ pair_count 3
unfolding pair_count pairs_below
pairs_of_three = refl

pub pairs_of_four : 10 ≡ pair_count 4
unfolding pair_count pairs_below
pairs_of_four = refl

pub pairs_of_five : 15 ≡ pair_count 5
unfolding pair_count pairs_below
pairs_of_five = refl
