-- Inner: the pinwheels of the strips of one width, side by side (nobody has to believe these).
-- The strip that begins at the x line a stands in lane a, and its lines are counted from its own first. A side store has, at 16 e + a, a
-- number for the e-th piece of that strip. The store of narrower strips has such a part for each width v, the first for v = 1.
--
--   wrapped a b c          == three numbers together, modulo 2 ^ 32 after each sum
--   gathered, joined, lowered
--                          == what the steps along the lanes store: the least of what is there and of three numbers of the store;
--                             two numbers of the store and one of a list; the lesser of what is there and of a list's number
--   spot_of pairs v e x     == where the store has the e-th piece of the strips v columns wide, from the strip on that begins at x
--   inner_at pairs line x e == the same of the strips between the x lines `line` and x, whichever is the lower
--   arm_at store s arms b a == what the two lower arms of a pinwheel from the low line b cost in lane a
--   rest_at store s arms d a x
--                          == what its two upper arms and its inner part cost there, x being the other x line and d the high line
--   LeastRest store s arms d lanes x start best
--                          == in the first lanes, best has the least of what start has and of the rests of the other lines below x
--   StartsFit store s arms best
--                          == the lower arms and what best has are below 2 ^ 32 together
--   Weighed n S t u        == u is the side store t, in the first n lanes each number lowered to the least of what it was and of what S
--                             has for it: S e a v says that v was weighed for the e-th piece in lane a. No number is raised anywhere
--   Among lo hi S          == what S j has, for a j from lo up to, and without, hi
--   StartAt, WheelsFrom    == what is weighed for the pieces from b to d: the lower arms and a number of a list; each pinwheel
--   EndsAt, FromTo         == the pinwheels with these arms that end at the line d; of both turns whose lower arms meet at a line, from k
--                             to any m above it
--   Turned, BothTurns, OfLine, Wheeled
--                          == the pinwheels with these arms; of both turns from k to m; whose lower arms meet at a line; all of them
--   first_arms, second_arms  == the arms of the two turns (equation (3)): lower arms that meet at the line l and end at k and m, the
--                             other line below; that meet at j and end at m and k, the other line above
--   WeighedBy, WroteBy     == by straight cuts nothing is weighed or kept; in the pinwheel mode it is
--   Ground, Turning        == the store has all narrower strips; the arms are those of pinwheels
--   FitsAt, Fitting, AllFit
--                          == five costs of a pinwheel are below 2 ^ 32 together: of those that end at d, with these arms, of all
use Rattle.std.specs.Prelude.{◌≡◌, ℕ, ◌+◌, ◌-◌, ◌*◌, ◌%◌, ◌^◌, ◌<◌, ◌≤◌, min, ◌⊎◌, List, length, slice_index}
use Rattle.piece.specs.declared.Mode.{Mode}
use Rattle.piece.specs.declared.Mode.TheVariants.{Straight, Pinwheel}
use Rattle.table.specs.Entry.{pair_count, pair_no}
use Rattle.table.specs.Run.{Lowest, Wrote}
use Rattle.wheels.specs.declared.lanes.Strips.{Strips}
use Rattle.wheels.specs.declared.lanes.Arms.{Arms}

unfoldable pub wrapped : ℕ → ℕ → ℕ → ℕ
wrapped a b c = ((a + b) % 2 ^ 32 + c) % 2 ^ 32

unfoldable pub gathered : List ℕ → List ℕ → ℕ → ℕ → ℕ → ℕ → ℕ
gathered best store left right inner l =
    min (slice_index best l) (wrapped (slice_index store (left + l)) (slice_index store (right + l)) (slice_index store (inner + l)))

unfoldable pub joined : List ℕ → ℕ → ℕ → List ℕ → ℕ → ℕ
joined store left right best l = wrapped (slice_index store (left + l)) (slice_index store (right + l)) (slice_index best l)

unfoldable pub lowered : List ℕ → ℕ → List ℕ → ℕ → ℕ
lowered side at sums l = min (slice_index side (at + l)) (slice_index sums l)

unfoldable pub spot_of : ℕ → ℕ → ℕ → ℕ → ℕ
spot_of pairs v e x = 16 * ((v - 1) * pairs + e) + x

unfoldable pub inner_at : ℕ → ℕ → ℕ → ℕ → ℕ
inner_at pairs line x e = spot_of pairs (line - x + (x - line)) e (min x line)

unfoldable pub arm_at : List ℕ → Strips → Arms → ℕ → ℕ → ℕ
arm_at store s arms b a =
    slice_index store (spot_of s.pairs arms.line (pair_no s.rows b arms.near) 0 + a)
    + slice_index store (spot_of s.pairs (s.width - arms.line) (pair_no s.rows b arms.far) arms.line + a)

unfoldable pub rest_at : List ℕ → Strips → Arms → ℕ → ℕ → ℕ → ℕ
rest_at store s arms d a x =
    slice_index store (spot_of s.pairs x (pair_no s.rows arms.near d) 0 + a)
    + slice_index store (spot_of s.pairs (s.width - x) (pair_no s.rows arms.far d) x + a)
    + slice_index store (inner_at s.pairs arms.line x (pair_no s.rows arms.low arms.high) + a)

unfoldable pub LeastRest : List ℕ → Strips → Arms → ℕ → ℕ → ℕ → List ℕ → List ℕ → Type 0
LeastRest store s arms d lanes x start best =
    (a : ℕ) → a < lanes → a < s.count → Lowest (rest_at store s arms d a) arms.after x (slice_index start a) (slice_index best a)

unfoldable pub StartsFit : List ℕ → Strips → Arms → List ℕ → Type 0
StartsFit store s arms best = (b a : ℕ) → b < arms.low → a < s.count → arm_at store s arms b a + slice_index best a < 2 ^ 32

pub record Weighed (n : ℕ) (S : ℕ → ℕ → ℕ → Type 0) (t u : List ℕ) : Type 0 where
  pub long : length u ≡ length t
  pub below : (i : ℕ) → slice_index u i ≤ slice_index t i
  pub under : (e a v : ℕ) → a < n → S e a v → slice_index u (16 * e + a) ≤ v
  pub above : (e a m : ℕ) → a < n → m ≤ slice_index t (16 * e + a) → ((v : ℕ) → S e a v → m ≤ v) → m ≤ slice_index u (16 * e + a)

unfoldable pub Among : ℕ → ℕ → (ℕ → ℕ → ℕ → ℕ → Type 0) → ℕ → ℕ → ℕ → Type 0
Among lo hi S e a v = (j : ℕ) × (lo ≤ j) × (j < hi) × S j e a v

unfoldable pub StartAt : List ℕ → Strips → Arms → ℕ → List ℕ → ℕ → ℕ → ℕ → ℕ → Type 0
StartAt store s arms d best b e a v = (e ≡ pair_no s.rows b d) × (v ≡ arm_at store s arms b a + slice_index best a)

unfoldable pub WheelsFrom : List ℕ → Strips → Arms → ℕ → ℕ → ℕ → ℕ → ℕ → Type 0
WheelsFrom store s arms d b e a v =
    (x : ℕ) × (arms.after < x) × (x < arms.before) × (e ≡ pair_no s.rows b d) × (v ≡ arm_at store s arms b a + rest_at store s arms d a x)

unfoldable pub EndsAt : List ℕ → Strips → Arms → ℕ → ℕ → ℕ → ℕ → Type 0
EndsAt store s arms d = Among 0 arms.low (WheelsFrom store s arms d)

unfoldable pub Turned : List ℕ → Strips → Arms → ℕ → ℕ → ℕ → Type 0
Turned store s arms = Among (arms.high + 1) (s.rows + 1) (EndsAt store s arms)

abbrev pub first_arms : Strips → ℕ → ℕ → ℕ → Arms
first_arms s l k m = record { line = l; after = 0; before = l; near = k; far = m; low = k; high = m }

abbrev pub second_arms : Strips → ℕ → ℕ → ℕ → Arms
second_arms s j k m = record { line = j; after = j; before = s.width; near = m; far = k; low = k; high = m }

unfoldable pub BothTurns : List ℕ → Strips → ℕ → ℕ → ℕ → ℕ → ℕ → ℕ → Type 0
BothTurns store s line k m e a v = Turned store s (first_arms s line k m) e a v ⊎ Turned store s (second_arms s line k m) e a v

unfoldable pub FromTo : List ℕ → Strips → ℕ → ℕ → ℕ → ℕ → ℕ → Type 0
FromTo store s line k = Among (k + 1) s.rows (BothTurns store s line k)

unfoldable pub OfLine : List ℕ → Strips → ℕ → ℕ → ℕ → ℕ → Type 0
OfLine store s line = Among 1 s.rows (FromTo store s line)

unfoldable pub Wheeled : List ℕ → Strips → ℕ → ℕ → ℕ → Type 0
Wheeled store s = Among 1 s.width (OfLine store s)

pub record Ground (s : Strips) (store : List ℕ) : Type 0 where
  pub rows-some : 1 ≤ s.rows
  pub rows-most : s.rows ≤ 15
  pub width_some : 1 ≤ s.width
  pub width-most : s.width ≤ 15
  pub pairs-all : s.pairs ≡ pair_count s.rows
  pub count_most : s.count ≤ 16
  pub room : 16 * (s.width * s.pairs) + 16 ≤ length store

pub record Turning (s : Strips) (arms : Arms) : Type 0 where
  pub line-some : 0 < arms.line
  pub line-most : arms.line < s.width
  pub some-between : arms.after < arms.before
  pub before-most : arms.before ≤ s.width
  pub beside : (arms.before ≤ arms.line) ⊎ (arms.line ≤ arms.after)
  pub low-some : 0 < arms.low
  pub low_near : arms.low ≤ arms.near
  pub low-far : arms.low ≤ arms.far
  pub near-high : arms.near ≤ arms.high
  pub far-high : arms.far ≤ arms.high
  pub low-high : arms.low < arms.high
  pub high-most : arms.high < s.rows

unfoldable pub FitsAt : List ℕ → Strips → Arms → ℕ → Type 0
FitsAt store s arms d =
    (b a x : ℕ) → b < arms.low → a < s.count → arms.after < x → x < arms.before
    → arm_at store s arms b a + rest_at store s arms d a x < 2 ^ 32

unfoldable pub Fitting : List ℕ → Strips → Arms → Type 0
Fitting store s arms = (d : ℕ) → arms.high < d → d ≤ s.rows → FitsAt store s arms d

unfoldable pub AllFit : List ℕ → Strips → Type 0
AllFit store s =
    (line k m : ℕ) → 0 < line → line < s.width → 0 < k → k < m → m < s.rows
    → Fitting store s (first_arms s line k m) × Fitting store s (second_arms s line k m)

pub record WeighedBy (mode : Mode) (n : ℕ) (S : ℕ → ℕ → ℕ → Type 0) (t u : List ℕ) : Type 0 where
  pub long : length u ≡ length t
  pub straight : mode ≡ Straight → u ≡ t
  pub pinwheel : mode ≡ Pinwheel → Weighed n S t u

pub record WroteBy (mode : Mode) (f : ℕ → ℕ) (at n : ℕ) (t u : List ℕ) : Type 0 where
  pub long : length u ≡ length t
  pub pinwheel : mode ≡ Pinwheel → Wrote f at n t u
