-- Inner: the pinwheels of a strip, as the steps of the weighing lower the numbers of its pieces (nobody has to believe these).
--
--   Lines rows b k m d          == the y lines of a pinwheel of the piece from b to d
--   Addable t i j k l           == the four entries are the table's, and their sum is a number
--   weight_in t rows s turn b k m d
--                               == what the table t has for its five parts, s having where the entries of their strips begin
--   Placed t rows s             == those entries are the table's, and no five of them are more together than a number holds
--   Lowered S t u               == u is the list t, each number lowered to the least of what it was and of what S has for it: S e v says that
--                                  v was weighed for the e-th piece. No number is raised
--   Among lo hi S               == what S j has, for a j from lo up to, and without, hi
--   WheelsAt t rows s b k m d   == the pinwheels of these lines, of both turns
--   WheelsUpTo t rows s b top   == those of the pieces from b to a line up to top
--   EveryWheel t rows s         == those of all pieces
--   OfLines t columns rows a c j l
--                               == the pinwheels of the pieces between the x lines a and c that have the x lines j and l
--   OfLine t columns rows a c j == those that have the lower x line j
use Rattle.std.specs.Prelude.{ℕ, ◌+◌, ◌≤◌, ◌<◌, ◌^◌, ◌≡◌, List, length, get_or}
use Rattle.piece.specs.declared.Turn.{Turn}
use Rattle.piece.specs.declared.Turn.TheVariants.{First, Second}
use Rattle.piece.specs.Piece.{box}
use Rattle.piece.specs.Cuts.{wheel}
use Rattle.table.specs.Entry.{pair_count, pair_no}
use Rattle.verdict.specs.Verdict.{wheel_in}
use Rattle.verdict.specs.Pinwheels.{weight_of}
use Rattle.lowering.specs.declared.weighing.Strips.{Strips}

pub record Lines (rows b k m d : ℕ) : Type 0 where
  pub bk : b < k
  pub km : k < m
  pub md : m < d
  pub dy : d ≤ rows

pub record Addable (t : List ℕ) (i j k l : ℕ) : Type 0 where
  pub first : i < length t
  pub second : j < length t
  pub third : k < length t
  pub fourth : l < length t
  pub small : get_or t i 0 + get_or t j 0 + get_or t k 0 + get_or t l 0 < 2 ^ 32

unfoldable pub weight_in : List ℕ → ℕ → Strips → Turn → ℕ → ℕ → ℕ → ℕ → ℕ
weight_in t rows s First b k m d =
    get_or t (s.left + pair_no rows b k) 0
    + get_or t (s.end + pair_no rows b m) 0
    + get_or t (s.start + pair_no rows k d) 0
    + get_or t (s.right + pair_no rows m d) 0
    + get_or t (s.middle + pair_no rows k m) 0
weight_in t rows s Second b k m d =
    get_or t (s.start + pair_no rows b m) 0
    + get_or t (s.right + pair_no rows b k) 0
    + get_or t (s.left + pair_no rows m d) 0
    + get_or t (s.end + pair_no rows k d) 0
    + get_or t (s.middle + pair_no rows k m) 0

pub record Placed (t : List ℕ) (rows : ℕ) (s : Strips) : Type 0 where
  pub rows-most : rows ≤ 5
  pub left : s.left + pair_count rows ≤ length t
  pub end : s.end + pair_count rows ≤ length t
  pub start : s.start + pair_count rows ≤ length t
  pub right : s.right + pair_count rows ≤ length t
  pub middle : s.middle + pair_count rows ≤ length t
  pub sums : (turn : Turn) (b k m d : ℕ) → Lines rows b k m d → weight_in t rows s turn b k m d < 2 ^ 32

pub record Lowered (S : ℕ → ℕ → Type 0) (t u : List ℕ) : Type 0 where
  pub long : length u ≡ length t
  pub below : (i : ℕ) → get_or u i 0 ≤ get_or t i 0
  pub under : (e v : ℕ) → S e v → get_or u e 0 ≤ v
  pub above : (e n : ℕ) → n ≤ get_or t e 0 → ((v : ℕ) → S e v → n ≤ v) → n ≤ get_or u e 0

unfoldable pub Among : ℕ → ℕ → (ℕ → ℕ → ℕ → Type 0) → ℕ → ℕ → Type 0
Among lo hi S e v = (j : ℕ) × (lo ≤ j) × (j < hi) × S j e v

unfoldable pub WheelsAt : List ℕ → ℕ → Strips → ℕ → ℕ → ℕ → ℕ → ℕ → ℕ → Type 0
WheelsAt t rows s b k m d e v = (turn : Turn) × (e ≡ pair_no rows b d) × (v ≡ weight_in t rows s turn b k m d)

unfoldable pub WheelsUpTo : List ℕ → ℕ → Strips → ℕ → ℕ → ℕ → ℕ → Type 0
WheelsUpTo t rows s b top e v = (k : ℕ) × (m : ℕ) × (d : ℕ) × Lines top b k m d × WheelsAt t rows s b k m d e v

unfoldable pub EveryWheel : List ℕ → ℕ → Strips → ℕ → ℕ → Type 0
EveryWheel t rows s e v = (b : ℕ) × WheelsUpTo t rows s b rows e v

unfoldable pub OfLines : List ℕ → ℕ → ℕ → ℕ → ℕ → ℕ → ℕ → ℕ → ℕ → Type 0
OfLines t columns rows a c j l e v =
    (turn : Turn) × (b : ℕ) × (k : ℕ) × (m : ℕ) × (d : ℕ) × Lines rows b k m d
    × (e ≡ pair_no rows b d) × (v ≡ weight_of t (wheel_in columns rows (box a c b d) (wheel turn j l k m)))

unfoldable pub OfLine : List ℕ → ℕ → ℕ → ℕ → ℕ → ℕ → ℕ → ℕ → Type 0
OfLine t columns rows a c j = Among (j + 1) c (OfLines t columns rows a c j)
