-- Inner: what emission writes (nobody has to believe these).
--
--   InLists xs ys p          == the lines of the piece p are lines of the lists xs and ys
--   Written g u v at l n     == by writing the shots l from the index at on the list u becomes v, and n is the index behind them
--   Walk mode g r ..         == the table, the cells, the places and the plan are those of the grid g and the rule r in that mode
--   Emittable mode .. at p   == they are those of some grid and rule in that mode, p is one of its pieces with its entry, and from the index
--                               at on there is room for the shots of p
--   Settleable .. at p       == the same by straight cuts, by some plan
--   Settles g r u v at p s   == s says what became of the piece p: by writing its shots from the index at on the list u becomes v, and s is
--                               the index behind them; or s is none, it is mixed, and the list is as it was
--   EmittableMixed .. at p   == as Emittable by straight cuts, and p is mixed
use Rattle.std.specs.Prelude.{ℕ, ◌+◌, ◌*◌, ◌≤◌, ◌<◌, ◌≡◌, List, length, Option, Some, None}
use Rattle.std.proofs.lemmas.List.Edits.{sets}
use Rattle.recurrence.specs.Scheme.{mixed}
use Rattle.outline.specs.Grid.{Grid, Drawn}
use Rattle.rule.specs.declared.Rule.{Rule}
use Rattle.piece.specs.declared.Mode.{Mode}
use Rattle.piece.specs.declared.Mode.TheVariants.{Straight}
use Rattle.piece.specs.declared.Piece as stored
use Rattle.piece.specs.Piece.{Piece, kind}
use Rattle.piece.specs.Meant.{meant}
use Rattle.piece.specs.Cuts.{shots, numbers_of}
use Rattle.verdict.specs.declared.Plan.{Plan}
use Rattle.verdict.specs.declared.Numbered.{Numbered}
use Rattle.verdict.specs.Memory.{Costed, Known}

pub record InLists (xs ys : List ℕ) (p : stored.Piece) : Type 0 where
  pub a : p.a.0 < length xs
  pub c : p.c.0 < length xs
  pub b : p.b.0 < length ys
  pub d : p.d.0 < length ys

pub record Written (g : Grid) (u v : List ℕ) (at : ℕ) (l : List Piece) (n : ℕ) : Type 0 where
  pub behind : n ≡ at + 4 * length l
  pub list : v ≡ sets u at (numbers_of g l)

pub record Walk (mode : Mode) (g : Grid) (r : Rule) (table cells xs ys : List ℕ) (plan : Plan) : Type 0 where
  pub costed : Costed mode g r table cells plan
  pub drawn : Drawn g xs ys cells
  pub rule : plan.rule ≡ r

pub record Emittable (mode : Mode) (table cells xs ys : List ℕ) (room : ℕ) (plan : Plan) (at : ℕ) (p : Numbered) : Type 0 where
  pub grid : Grid
  pub rule : Rule
  pub walk : Walk mode grid rule table cells xs ys plan
  pub known : Known plan p
  pub fits : at + 4 * length (shots mode grid rule (meant p.piece)) ≤ room

pub record Settleable (table cells xs ys : List ℕ) (room : ℕ) (at : ℕ) (p : Numbered) : Type 0 where
  pub plan : Plan
  pub emittable : Emittable Straight table cells xs ys room plan at p

unfoldable pub Settles : Grid → Rule → List ℕ → List ℕ → ℕ → Piece → Option ℕ → Type 0
Settles g r u v at p (Some n) = Written g u v at (shots Straight g r p) n
Settles g r u v at p None = (kind g p ≡ mixed) × (v ≡ u)

pub record EmittableMixed (table cells xs ys : List ℕ) (room : ℕ) (plan : Plan) (at : ℕ) (p : Numbered) : Type 0 where
  pub emittable : Emittable Straight table cells xs ys room plan at p
  pub mixed : kind emittable.grid (meant p.piece) ≡ mixed
