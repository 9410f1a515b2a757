-- What the numbers of the store are: costs of narrower pieces, and of a pinwheel's parts. Assumes nothing.
--
--   inner-low, inner-high        == the inner parts on either side of the line
--   Kept, kept-none, kept_more   == the store has the costs of all narrower strips; one width more
--   held                         == a number of the store is the cost of its piece
--   first-total, second-total    == the five numbers of a pinwheel are the costs of its parts, as equation (3) has them
use Rattle.std.proofs.Common.{◌≡◌, ℕ, ◌+◌, ◌-◌, ◌*◌, ◌<◌, ◌≤◌, min, ◌⊎◌, List, length, get_or, sym, refl, ap, ◌∙◌, ap₂, inl, inr, arith}
use Rattle.sum.specs.Sum.{sum_of}
use Rattle.sum.proofs.Sum.{le-or}
use Rattle.outline.specs.Grid.{Grid}
use Rattle.rule.specs.declared.Rule.{Rule}
use Rattle.piece.specs.declared.Mode.TheVariants.{Pinwheel}
use Rattle.piece.specs.declared.Turn.{Turn}
use Rattle.piece.specs.declared.Turn.TheVariants.{First, Second}
use Rattle.piece.specs.Piece.{Piece, box}
use Rattle.piece.specs.Cuts.{wheel, parts, cost}
use Rattle.table.specs.Entry.{pair_count, pair_no}
use Rattle.table.specs.Run.{Wrote}
use Rattle.table.proofs.Entry.{pair-below}
use Rattle.table.proofs.Pairs.{row_before}
use Rattle.strips.specs.Chunk.{listed}
use Rattle.widths.specs.Lane.{spot}
use Rattle.wheels.specs.declared.lanes.Strips.{Strips}
use Rattle.wheels.specs.Wheel.{spot_of, inner_at, arm_at, rest_at, first_arms, second_arms}

pub inner-low : (pairs line x e : ℕ) → x < line → spot_of pairs (line - x) e x ≡ inner_at pairs line x e
unfolding inner_at
inner-low pairs line x e h =
    let p : line - x ≡ line - x + (x - line) = omega arith in
    let q : x ≡ min x line = omega arith in
    ap₂ (λ v n. spot_of pairs v e n) p q

pub inner-high : (pairs line x e : ℕ) → line < x → spot_of pairs (x - line) e line ≡ inner_at pairs line x e
unfolding inner_at
inner-high pairs line x e h =
    let p : x - line ≡ line - x + (x - line) = omega arith in
    let q : line ≡ min x line = omega arith in
    ap₂ (λ v n. spot_of pairs v e n) p q

-- the store has the price of each piece narrower than w
pub record Kept (price : Piece → ℕ) (columns rows pairs w : ℕ) (store : List ℕ) : Type 0 where
  pub room : 16 * (columns * pairs) + 16 ≤ length store
  pub right : (a v b d : ℕ) → 1 ≤ v → v < w → a + v ≤ columns → b < d → d ≤ rows
      → get_or store (spot_of pairs v (pair_no rows b d) 0 + a) 0 ≡ price (box a (a + v) b d)

pub kept-none : (price : Piece → ℕ) (columns rows pairs : ℕ) (store : List ℕ) → 16 * (columns * pairs) + 16 ≤ length store → Kept price columns rows pairs 1 store
kept-none price columns rows pairs store room = record { room = room; right = λ a v b d i j k l m. absurd (omega arith) }

pub kept_more : (price : Piece → ℕ) (columns rows pairs w at : ℕ) (side store u : List ℕ) → columns ≤ 15 → pairs ≡ pair_count rows → 1 ≤ w → at ≡ 16 * ((w - 1) * pairs)
    → ((a b d : ℕ) → a + w ≤ columns → b < d → d ≤ rows → get_or side (spot rows a b d) 0 ≡ price (box a (a + w) b d))
    → Wrote (listed side) at (16 * pairs) store u → Kept price columns rows pairs w store → Kept price columns rows pairs (w + 1) u
unfolding spot_of spot listed
kept_more price columns rows pairs w at side store u most e some ea right wrote kept =
    record { room = omega (arith, kept.room, wrote.long); right = λ a v b d i j k l m. go a v b d i j k l m (le-or w v) }
  where
    go : (a v b d : ℕ) → 1 ≤ v → v < w + 1 → a + v ≤ columns → b < d → d ≤ rows → (w ≤ v) ⊎ (v < w)
        → get_or u (16 * ((v - 1) * pairs + pair_no rows b d) + 0 + a) 0 ≡ price (box a (a + v) b d)
    go a v b d i j k l m (inr z) =
        wrote.kept (16 * ((v - 1) * pairs + pair_no rows b d) + 0 + a)
        (inl (omega (arith, ea, e, pair-below rows b d l m, row_before (v - 1) (w - 1) pairs (omega arith))))
        ∙ kept.right a v b d i z k l m
    go a v b d i j k l m (inl z) =
        let ev : v ≡ w = omega arith in
        let en : 16 * ((v - 1) * pairs + pair_no rows b d) + 0 + a ≡ at + (16 * pair_no rows b d + a) =
        omega (arith, ea, ap (λ n. (n - 1) * pairs) ev) in
        ap (λ n. get_or u n 0) en ∙ wrote.made (16 * pair_no rows b d + a) (omega (arith, e, pair-below rows b d l m))
        ∙ right a b d (omega arith) l m ∙ ap (λ n. price (box a (a + n) b d)) (sym ev)

pub held : (price : Piece → ℕ) (columns rows pairs w : ℕ) (store : List ℕ) → Kept price columns rows pairs w store
    → (v x a p q b d : ℕ) → p ≡ x + a → q ≡ p + v → 1 ≤ v → v < w → q ≤ columns → b < d → d ≤ rows
    → get_or store (spot_of pairs v (pair_no rows b d) x + a) 0 ≡ price (box p q b d)
unfolding spot_of
held price columns rows pairs w store kept v x a p q b d ep eq some less most bd dy =
    let e : 16 * ((v - 1) * pairs + pair_no rows b d) + x + a ≡ 16 * ((v - 1) * pairs + pair_no rows b d) + 0 + p = omega arith in
    ap (λ n. get_or store n 0) e ∙ kept.right p v b d some less (omega arith) bd dy ∙ ap (λ n. price (box p n b d)) (sym eq)

module _ (g : Grid) (r : Rule) (pairs w : ℕ) (store : List ℕ) (kept : Kept (cost Pinwheel g r) g.columns g.rows pairs w store) (count : ℕ) where
  abbrev s : Strips
  s = record { rows = g.rows; pairs = pairs; width = w; count = count }

  -- what the parts of a pinwheel cost
  abbrev total : Turn → ℕ → ℕ → ℕ → ℕ → ℕ → ℕ → ℕ → ℕ
  total t a b d j l k m = sum_of (cost Pinwheel g r) (parts (box a (a + w) b d) (wheel t j l k m))

  at-cost : (v x a p q b d : ℕ) → p ≡ x + a → q ≡ p + v → 1 ≤ v → v < w → q ≤ g.columns → b < d → d ≤ g.rows
      → get_or store (spot_of pairs v (pair_no g.rows b d) x + a) 0 ≡ cost Pinwheel g r (box p q b d)
  at-cost = held (cost Pinwheel g r) g.columns g.rows pairs w store kept

  pub first-total : (a b d x line k m : ℕ) → a + w ≤ g.columns → 0 < x → x < line → line < w → b < k → k < m → m < d → d ≤ g.rows
      → arm_at store s (first_arms s line k m) b a + rest_at store s (first_arms s line k m) d a x ≡ total First a b d (a + x) (a + line) k m
  unfolding arm_at rest_at parts sum_of
  first-total a b d x line k m aw x0 xl lw bk km md dy =
      omega (
        arith,
        at-cost line 0 a a (a + line) b k (omega arith) refl (omega arith) lw (omega arith) bk (omega arith),
        at-cost (w - line) line a (a + line) (a + w) b m (omega arith) (omega arith) (omega arith) (omega arith) aw (omega arith) (omega arith),
        at-cost x 0 a a (a + x) k d (omega arith) refl x0 (omega arith) (omega arith) (omega arith) dy,
        at-cost (w - x) x a (a + x) (a + w) m d (omega arith) (omega arith) (omega arith) (omega arith) aw md dy,
        at-cost (line - x) x a (a + x) (a + line) k m (omega arith) (omega arith) (omega arith) (omega arith) (omega arith) km (omega arith),
        ap (λ n. get_or store (n + a) 0) (inner-low pairs line x (pair_no g.rows k m) xl),
      )

  pub second-total : (a b d x line k m : ℕ) → a + w ≤ g.columns → 0 < line → line < x → x < w → b < k → k < m → m < d → d ≤ g.rows
      → arm_at store s (second_arms s line k m) b a + rest_at store s (second_arms s line k m) d a x ≡ total Second a b d (a + line) (a + x) k m
  unfolding arm_at rest_at parts sum_of
  second-total a b d x line k m aw l0 lx xw bk km md dy =
      omega (
        arith,
        at-cost line 0 a a (a + line) b m (omega arith) refl l0 (omega arith) (omega arith) (omega arith) (omega arith),
        at-cost (w - line) line a (a + line) (a + w) b k (omega arith) (omega arith) (omega arith) (omega arith) aw bk (omega arith),
        at-cost x 0 a a (a + x) m d (omega arith) refl (omega arith) xw (omega arith) md dy,
        at-cost (w - x) x a (a + x) (a + w) k d (omega arith) (omega arith) (omega arith) (omega arith) aw (omega arith) dy,
        at-cost (x - line) line a (a + line) (a + x) k m (omega arith) (omega arith) (omega arith) (omega arith) (omega arith) km (omega arith),
        ap (λ n. get_or store (n + a) 0) (inner-high pairs line x (pair_no g.rows k m) lx),
      )
