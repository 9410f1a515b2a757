-- Inner: what the searches of a verdict find (nobody has to believe these).
--
--   FirstWith Q a c r == r is the first number from a on, and below c, that has the property Q; c if none has
--   FirstLine Q a c o == o is the first line from a on, and below c, that has the property Q, or none has it
--   Within p i j      == the cell (i, j) lies between the lines of the piece p
--   ColumnInside c i b d t == the answer t to whether the cells of the column i between the rows b and d are all inside, c being the cells
--   AllInside c p t   == the answer t to whether every cell of the piece p is inside, c being the cells
--   cuts-x plan p n, cuts-y plan p n == the cuts of the piece p in each direction, n being its entry
--   base_of s          == where the costs of the cuts s begin: the entry of the pair of lines with the number 0
--   part_entry s a c   == the entry of the part between the lines a and c, s being the cuts in its direction
--   across t s j      == what the table t has for the two parts of the cut at the line j together
--   Weighable t s     == the cuts s lie within the table t, and no two parts cost more together than a number holds
--   NoCut t s n        == no cut of s has parts that have n together
--   FoundAt t s n f    == f is the first cut of s whose parts have n together, with their entries
--   Finds t s n o      == o is the first such cut, or there is none
--   Uncut t plan p     == no straight cut of the piece p has parts that have together what it has
use Rattle.std.specs.Prelude.{ℕ, ◌+◌, ◌*◌, ◌-◌, ◌≤◌, ◌<◌, ◌^◌, ◌≡◌, Bool, true, false, List, length, get_or, Option, MatchOption}
use Rattle.table.specs.Entry.{pair_no}
use Rattle.outline.specs.declared.Line.{Line}
use Rattle.piece.specs.declared.Piece.{Piece}
use Rattle.verdict.specs.declared.Plan.{Plan}
use Rattle.verdict.specs.declared.Numbered.{Numbered}
use Rattle.verdict.specs.declared.Cuts.{Cuts}
use Rattle.verdict.specs.declared.Found.{Found}

pub record FirstWith (Q : ℕ → Type 0) (a c r : ℕ) : Type 0 where
  pub least : a ≤ r
  pub most : r ≤ c
  pub passed : (j : ℕ) → a ≤ j → j < r → Q j → ⊥
  pub found : r < c → Q r

abbrev pub FirstLine : (ℕ → Type 0) → ℕ → ℕ → Option Line → Type 0
FirstLine Q a c o = MatchOption o (FirstWith Q a c c) (λ l. FirstWith Q a c l.0 × (l.0 < c))

pub record Within (p : Piece) (i j : ℕ) : Type 0 where
  pub a : p.a.0 ≤ i
  pub c : i < p.c.0
  pub b : p.b.0 ≤ j
  pub d : j < p.d.0

-- yes for every cell, or no for one of them
abbrev pub ColumnInside : List ℕ → ℕ → ℕ → ℕ → Bool → Type 0
ColumnInside cells i b d true = (j : ℕ) → b ≤ j → j < d → get_or cells (16 * i + j) 0 ≡ 1
ColumnInside cells i b d false = (j : ℕ) × (b ≤ j) × (j < d) × (get_or cells (16 * i + j) 0 ≡ 1 → ⊥)

-- the same of a piece
abbrev pub AllInside : List ℕ → Piece → Bool → Type 0
AllInside cells p true = (i j : ℕ) → Within p i j → get_or cells (16 * i + j) 0 ≡ 1
AllInside cells p false = (i : ℕ) × (j : ℕ) × Within p i j × (get_or cells (16 * i + j) 0 ≡ 1 → ⊥)

abbrev pub cuts-x : Plan → Piece → ℕ → Cuts
cuts-x plan p n = record { last = plan.columns; low = p.a; high = p.c; entry = n; stride = plan.pairs }

abbrev pub cuts-y : Plan → Piece → ℕ → Cuts
cuts-y plan p n = record { last = plan.rows; low = p.b; high = p.d; entry = n; stride = 1 }

unfoldable pub base_of : Cuts → ℕ
base_of s = s.entry - s.stride * pair_no s.last s.low.0 s.high.0

unfoldable pub part_entry : Cuts → ℕ → ℕ → ℕ
part_entry s a c = base_of s + s.stride * pair_no s.last a c

unfoldable pub across : List ℕ → Cuts → ℕ → ℕ
across t s j = get_or t (part_entry s s.low.0 j) 0 + get_or t (part_entry s j s.high.0) 0

pub record Weighable (t : List ℕ) (s : Cuts) : Type 0 where
  pub ordered : s.low.0 < s.high.0
  pub some : s.high.0 ≤ s.last
  pub few : s.last ≤ 15
  pub short : s.stride ≤ 225
  pub here : s.entry ≡ part_entry s s.low.0 s.high.0
  pub within : (a c : ℕ) → a < c → c ≤ s.last → part_entry s a c < length t
  pub small : (j : ℕ) → s.low.0 < j → j < s.high.0 → across t s j < 2 ^ 32

abbrev pub NoCut : List ℕ → Cuts → ℕ → Type 0
NoCut t s n = FirstWith (λ j. across t s j ≡ n) (s.low.0 + 1) s.high.0 s.high.0

pub record FoundAt (t : List ℕ) (s : Cuts) (n : ℕ) (f : Found) : Type 0 where
  pub first : FirstWith (λ j. across t s j ≡ n) (s.low.0 + 1) s.high.0 f.line.0
  pub below : f.line.0 < s.high.0
  pub lower : f.lower ≡ part_entry s s.low.0 f.line.0
  pub upper : f.upper ≡ part_entry s f.line.0 s.high.0

abbrev pub Finds : List ℕ → Cuts → ℕ → Option Found → Type 0
Finds t s n o = MatchOption o (NoCut t s n) (λ f. FoundAt t s n f)

pub record Uncut (t : List ℕ) (plan : Plan) (p : Numbered) : Type 0 where
  pub upright : NoCut t (cuts-x plan p.piece p.entry) (get_or t p.entry 0)
  pub level : NoCut t (cuts-y plan p.piece p.entry) (get_or t p.entry 0)
