-- Inner: settling all strips of one width (nobody has to believe these).
-- The pieces are settled from the highest low line down, and of those that begin at one line the lowest first.
--
--   Sheet, sheet ..          == what is known of the strips of one width: their sums, their widths in nm, the places of the y lines, the rule,
--                               the count of rows of cells, the width in columns, and how many strips there are
--   count_in, flank_in sums a b d
--                            == the inside cells, and the exposed flanks, between the y lines b and d of the strip in lane a
--   shot_at t a b d           == the charge of that piece as a shot
--   Measured t               == the sums and places are within what places and cells allow, in all 16 lanes
--   Done b d p q             == the piece between the y lines p and q begins above b, or it begins at b and ends below d
--   Ahead b d p q            == it begins below b, or it begins at b and ends at d or above
--   Priced s t side b d      == s a p q being the price of the piece between p and q of the strip a: each that is done has its price in the
--                               side store; of each that is ahead it has the least of the vertical cuts, from which the price follows by the
--                               recurrence; and no number of a lane without a strip is above `most_cost`
--   Priceable t side b d     == there are such prices
use Rattle.std.specs.Prelude.{ℕ, ◌+◌, ◌*◌, ◌-◌, ◌≤◌, ◌<◌, ◌≡◌, ◌⊎◌, List, length, get_or}
use Rattle.sum.specs.Sum.{over}
use Rattle.rule.specs.declared.Rule.{Rule}
use Rattle.rule.specs.Rules.{limit}
use Rattle.rule.specs.Charge.{sliver_of, charge_of}
use Rattle.piece.specs.Piece.{most_cost}
use Rattle.table.specs.Run.{Lowest}
use Rattle.table.specs.Cuts.{Judged}
use Rattle.widths.specs.Lane.{spot, ends_at}

pub record Sheet : Type 0 where
  pub sums : List ℕ
  pub wide : List ℕ
  pub ys : List ℕ
  pub rule : Rule
  pub rows : ℕ
  pub width : ℕ
  pub strips : ℕ

abbrev pub sheet : List ℕ → List ℕ → List ℕ → Rule → ℕ → ℕ → ℕ → Sheet
sheet sums wide ys r rows w n = record { sums = sums; wide = wide; ys = ys; rule = r; rows = rows; width = w; strips = n }

unfoldable pub count_in : List ℕ → ℕ → ℕ → ℕ → ℕ
count_in sums a b d = over b d (λ j. get_or sums (16 * j + a) 0)

unfoldable pub flank_in : List ℕ → ℕ → ℕ → ℕ → ℕ
flank_in sums a b d = over b d (λ j. get_or sums (768 + (16 * j + a)) 0)

unfoldable pub shot_at : Sheet → ℕ → ℕ → ℕ → ℕ
shot_at t a b d =
    charge_of t.rule
    (sliver_of t.rule (get_or t.wide a 0) (get_or t.ys d 0 - get_or t.ys b 0) (flank_in t.sums a b d) (ends_at t.sums a b d))

pub record Measured (t : Sheet) : Type 0 where
  pub sums-length : length t.sums ≡ 1024
  pub wide-length : length t.wide ≡ 16
  pub ys-length : length t.ys ≡ 16
  pub rows-most : t.rows ≤ 15
  pub width-most : t.width ≤ 15
  pub strips-most : t.strips ≤ 15
  pub weight-most : t.rule.weight ≤ limit
  pub ys-up : (b d : ℕ) → b ≤ d → d ≤ t.rows → get_or t.ys b 0 ≤ get_or t.ys d 0
  pub count_most : (a b d : ℕ) → a < 16 → b < d → d ≤ t.rows → count_in t.sums a b d ≤ 225
  pub flank_most : (a b d : ℕ) → a < 16 → b < d → d ≤ t.rows → flank_in t.sums a b d ≤ 131070
  pub ends-most : (a b d : ℕ) → a < 16 → b < d → d ≤ t.rows → ends_at t.sums a b d ≤ 131070

abbrev pub Done : ℕ → ℕ → ℕ → ℕ → Type 0
Done b d p q = (b < p) ⊎ ((p ≡ b) × (q < d))

abbrev pub Ahead : ℕ → ℕ → ℕ → ℕ → Type 0
Ahead b d p q = (p < b) ⊎ ((p ≡ b) × (d ≤ q))

pub record Priced (s : ℕ → ℕ → ℕ → ℕ) (t : Sheet) (side : List ℕ) (b d : ℕ) : Type 0 where
  pub most : (a p q : ℕ) → a < t.strips → p < q → q ≤ t.rows → s a p q ≤ most_cost
  pub done : (a p q : ℕ) → a < t.strips → p < q → q ≤ t.rows → Done b d p q → get_or side (spot t.rows a p q) 0 ≡ s a p q
  pub ahead : (a p q best v : ℕ) → a < t.strips → p < q → q ≤ t.rows → Ahead b d p q
      → Lowest (λ k. s a p k + s a k q) p q (get_or side (spot t.rows a p q) 0) best
      → Judged (count_in t.sums a p q) ((q - p) * t.width) (shot_at t a p q) best v
      → v ≡ s a p q
  pub spare : (a p q : ℕ) → t.strips ≤ a → a < 16 → p < q → q ≤ t.rows → get_or side (spot t.rows a p q) 0 ≤ most_cost

pub record Priceable (t : Sheet) (side : List ℕ) (b d : ℕ) : Type 0 where
  pub price : ℕ → ℕ → ℕ → ℕ
  pub priced : Priced price t side b d
