-- Inner: what the search for a pinwheel finds (nobody has to believe these).
--
--   sought plan p t n      == the pinwheels of the piece p of the turn t that cost n
--   weight_of t w           == what the table t has for the five parts of w together
--   Addable t w            == the parts have entries in the table t, and their sum is a number
--   Small plan             == the plan has the size of a grid
--   Lines s j l k m        == these are lines of a pinwheel of the piece that is searched, which is one of the grid's
--   Huntable t s           == the piece of s is one of a grid whose costs the table t has, and every sum of five is a number
--   Meets t s j l k m      == the pinwheel of these lines costs what is sought
--   WithM, WithK, WithL    == there is one with the first three of these lines, with the first two, with the first
--   None t s               == there is none
--   Leads t s w            == w has the parts of the lowest, by j, l, k, m
--   Leading t s o          == o has the parts of the lowest, or there is none
--   Turnable t plan p n    == both turns may be searched, and one of them has a pinwheel that costs n
--   FirstWheel t plan p n w == w is the lowest of the first turn; or of the second, and the first has none
use Rattle.std.specs.Prelude.{ℕ, ◌+◌, ◌≤◌, ◌<◌, ◌^◌, ◌≡◌, ◌⊎◌, List, length, get_or, Option, MatchOption}
use Rattle.piece.specs.declared.Turn.{Turn}
use Rattle.piece.specs.declared.Turn.TheVariants.{First, Second}
use Rattle.piece.specs.declared.Piece as stored
use Rattle.piece.specs.Meant.{meant}
use Rattle.piece.specs.Cuts.{wheel, Inner, Lower}
use Rattle.table.specs.Entry.{Valid, entry_count}
use Rattle.verdict.specs.declared.Plan.{Plan}
use Rattle.verdict.specs.declared.pinwheel.Wheel.{Wheel}
use Rattle.verdict.specs.declared.pinwheel.Sought.{Sought}
use Rattle.verdict.specs.Verdict.{wheel_in}

abbrev pub sought : Plan → stored.Piece → Turn → ℕ → Sought
sought plan p t n = record { plan = plan; piece = p; turn = t; cost = n }

unfoldable pub weight_of : List ℕ → Wheel → ℕ
weight_of t w =
    get_or t w.first.entry 0 + get_or t w.second.entry 0 + get_or t w.third.entry 0 + get_or t w.fourth.entry 0 + get_or t w.inner.entry 0

pub record Addable (t : List ℕ) (w : Wheel) : Type 0 where
  pub first : w.first.entry < length t
  pub second : w.second.entry < length t
  pub third : w.third.entry < length t
  pub fourth : w.fourth.entry < length t
  pub inner : w.inner.entry < length t
  pub small : weight_of t w < 2 ^ 32

pub record Small (plan : Plan) : Type 0 where
  pub columns : plan.columns ≤ 15
  pub rows : plan.rows ≤ 15

pub record Lines (s : Sought) (j l k m : ℕ) : Type 0 where
  pub small : Small s.plan
  pub valid : Valid s.plan.columns s.plan.rows (meant s.piece)
  pub inner : Inner (meant s.piece) j l k m

pub record Huntable (t : List ℕ) (s : Sought) : Type 0 where
  pub small : Small s.plan
  pub valid : Valid s.plan.columns s.plan.rows (meant s.piece)
  pub entries : entry_count s.plan.columns s.plan.rows ≤ length t
  pub sums : (j l k m : ℕ) → Inner (meant s.piece) j l k m
      → weight_of t (wheel_in s.plan.columns s.plan.rows (meant s.piece) (wheel s.turn j l k m)) < 2 ^ 32

module _ (t : List ℕ) (s : Sought) where
  unfoldable pub Meets : ℕ → ℕ → ℕ → ℕ → Type 0
  Meets j l k m = weight_of t (wheel_in s.plan.columns s.plan.rows (meant s.piece) (wheel s.turn j l k m)) ≡ s.cost

  pub record WithM (j l k : ℕ) : Type 0 where
    pub m : ℕ
    pub above : k < m
    pub below : m < s.piece.d.0
    pub meets : Meets j l k m

  pub record WithK (j l : ℕ) : Type 0 where
    pub k : ℕ
    pub above : s.piece.b.0 < k
    pub below : k < s.piece.d.0
    pub rest : WithM j l k

  pub record WithL (j : ℕ) : Type 0 where
    pub l : ℕ
    pub above : j < l
    pub below : l < s.piece.c.0
    pub rest : WithK j l

  abbrev pub None : Type 0
  None = (j l k m : ℕ) → Inner (meant s.piece) j l k m → Meets j l k m → ⊥

  pub record Leads (w : Wheel) : Type 0 where
    pub j : ℕ
    pub l : ℕ
    pub k : ℕ
    pub m : ℕ
    pub inner : Inner (meant s.piece) j l k m
    pub is : w ≡ wheel_in s.plan.columns s.plan.rows (meant s.piece) (wheel s.turn j l k m)
    pub meets : Meets j l k m
    pub passed : (j' l' k' m' : ℕ) → Inner (meant s.piece) j' l' k' m' → Lower j' l' k' m' j l k m → Meets j' l' k' m' → ⊥

  abbrev pub Leading : Option Wheel → Type 0
  Leading o = MatchOption o None (λ w. Leads w)

pub record Turnable (t : List ℕ) (plan : Plan) (p : stored.Piece) (n : ℕ) : Type 0 where
  pub first : Huntable t (sought plan p First n)
  pub second : Huntable t (sought plan p Second n)
  pub some : None t (sought plan p First n) → None t (sought plan p Second n) → ⊥

abbrev pub FirstWheel : List ℕ → Plan → stored.Piece → ℕ → Wheel → Type 0
FirstWheel t plan p n w =
    Leads t (sought plan p First n) w ⊎ (None t (sought plan p First n) × Leads t (sought plan p Second n) w)
