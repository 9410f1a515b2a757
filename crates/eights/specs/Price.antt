-- Inner: settling all strips of one width (nobody has to believe these).
-- The pieces are settled from the highest low line down, and of those that begin at one line the lowest first.
--
--   Sheet, sheet .., sheet_of
--                           == what is known of the strips of one width: their sums, their widths in nm, the places of the y lines, the
--                              threshold, the price of a shot, the count of rows of cells and of pairs of y lines, the width in columns,
--                              and how many strips there are
--   count_in, flank_in, ends_in sums a b d
--                           == the inside cells, the exposed flanks, and the exposed bottom and top together, between the y lines b and d
--                              of the strip in lane a
--   sliver_in t a b d        == the sliver length of that piece, flanks and ends being 0 where the rule spares them
--   shot_at t a b d          == what it costs as a shot
--   Measured t              == the lists are as long as they are, and of each strip what is counted fits 16 bits
--   Prices s t store        == s a p q being the price of the piece between p and q of the strip a: it follows from the store's
--                              narrower strips by the recurrence, and the prices of two parts fit 16 bits together
--   Ahead t store g b d     == in the lanes from g on, the store has the least of the vertical cuts of the pieces that begin below b, or
--                              at b and do not end below d
--   Known s t store g b d   == in the lanes from g on, the store has the prices of the pieces that begin above b, or at b and end below d
use Rattle.std.specs.Prelude.{ℕ, ◌+◌, ◌*◌, ◌-◌, ◌≤◌, ◌<◌, ◌^◌, ◌≡◌, cond, ◌⊎◌, List, leb, length, get_or}
use Rattle.sum.specs.Sum.{over}
use Rattle.rule.specs.Charge.{longer}
use Rattle.table.specs.Entry.{pair_count, pair_no}
use Rattle.table.specs.Run.{Lowest}
use Rattle.table.specs.Cuts.{Judged}
use Rattle.eights.specs.declared.settling.Strips.{Strips}
use Rattle.eights.specs.Store.{place_of, besides}

pub record Sheet : Type 0 where
  pub sums : List ℕ
  pub wide : List ℕ
  pub ys : List ℕ
  pub threshold : ℕ
  pub price : ℕ
  pub rows : ℕ
  pub pairs : ℕ
  pub width : ℕ
  pub strips : ℕ

abbrev pub sheet : List ℕ → List ℕ → List ℕ → ℕ → ℕ → ℕ → ℕ → ℕ → ℕ → Sheet
sheet sums wide ys t price rows pairs w n =
    record { sums = sums; wide = wide; ys = ys; threshold = t; price = price; rows = rows; pairs = pairs; width = w; strips = n }

abbrev pub sheet_of : Strips → Sheet
sheet_of s = sheet s.sums.now s.wide.now s.ys.now s.tariff.threshold s.tariff.price s.rows s.pairs s.width s.count

unfoldable pub count_in : List ℕ → ℕ → ℕ → ℕ → ℕ
count_in sums a b d = over b d (λ j. get_or sums (16 * j + a) 0)

unfoldable pub flank_in : List ℕ → ℕ → ℕ → ℕ → ℕ
flank_in sums a b d = over b d (λ j. get_or sums (768 + (16 * j + a)) 0)

unfoldable pub ends_in : List ℕ → ℕ → ℕ → ℕ → ℕ
ends_in sums a b d = get_or sums (256 + (16 * b + a)) 0 + get_or sums (512 + (16 * (d - 1) + a)) 0

unfoldable pub sliver_in : Sheet → ℕ → ℕ → ℕ → ℕ
sliver_in t a b d =
    cond (leb t.threshold (get_or t.ys d 0 - get_or t.ys b 0)) (flank_in t.sums a b d)
    (longer (get_or t.wide a 0) (get_or t.ys d 0 - get_or t.ys b 0) (flank_in t.sums a b d) (ends_in t.sums a b d))

unfoldable pub shot_at : Sheet → ℕ → ℕ → ℕ → ℕ
shot_at t a b d = t.price + sliver_in t a b d

pub record Measured (t : Sheet) : Type 0 where
  pub sums-length : length t.sums ≡ 1024
  pub wide-length : length t.wide ≡ 16
  pub ys-length : length t.ys ≡ 16
  pub rows-most : t.rows ≤ 15
  pub pairs_are : t.pairs ≡ pair_count t.rows
  pub wide-some : 1 ≤ t.width
  pub within : t.strips + t.width ≤ 16
  pub ys-up : (b d : ℕ) → b ≤ d → d ≤ t.rows → get_or t.ys b 0 ≤ get_or t.ys d 0
  pub count_most : (a b d : ℕ) → a < t.strips → b < d → d ≤ t.rows → count_in t.sums a b d < 2 ^ 16
  pub flank_most : (a b d : ℕ) → a < t.strips → b < d → d ≤ t.rows → flank_in t.sums a b d < 2 ^ 16
  pub ends-most : (a b d : ℕ) → a < t.strips → b < d → d ≤ t.rows → ends_in t.sums a b d < 2 ^ 16
  pub shot-most : (a b d : ℕ) → a < t.strips → b < d → d ≤ t.rows → shot_at t a b d < 2 ^ 16

pub record Prices (s : ℕ → ℕ → ℕ → ℕ) (t : Sheet) (store : List ℕ) : Type 0 where
  pub fits : (a p k q : ℕ) → a < t.strips → p < k → k < q → q ≤ t.rows → s a p k + s a k q < 2 ^ 16
  pub follow : (a p q upright best v : ℕ) → a < t.strips → p < q → q ≤ t.rows
      → Lowest (besides store t.pairs t.width (pair_no t.rows p q) a) 0 t.width 65535 upright
      → Lowest (λ k. s a p k + s a k q) p q upright best
      → Judged (count_in t.sums a p q) ((q - p) * t.width) (shot_at t a p q) best v
      → v ≡ s a p q

pub record Ahead (t : Sheet) (store : List ℕ) (g b d : ℕ) : Type 0 where
  pub ahead : (a p q : ℕ) → g ≤ a → a < g + 8 → a < t.strips → p < q → q ≤ t.rows → (p < b) ⊎ ((p ≡ b) × (d ≤ q))
      → Lowest (besides store t.pairs t.width (pair_no t.rows p q) a) 0 t.width 65535
      (get_or store (place_of t.pairs t.width (pair_no t.rows p q) a) 0)

pub record Known (s : ℕ → ℕ → ℕ → ℕ) (t : Sheet) (store : List ℕ) (g b d : ℕ) : Type 0 where
  pub known : (a p q : ℕ) → g ≤ a → a < g + 8 → a < t.strips → p < q → q ≤ t.rows → (b < p) ⊎ ((p ≡ b) × (q < d))
      → get_or store (place_of t.pairs t.width (pair_no t.rows p q) a) 0 ≡ s a p q
