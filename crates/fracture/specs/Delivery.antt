-- Inner: what the call delivers once it has a grid (nobody has to believe these).
--
--   Enough, Short m          == the list has room; or it has not, and m shots are needed
--   room_of n m              == whether n numbers have room for m shots, four for each
--   Sized plan               == the plan's size is that of a grid, and it has the count of its pairs of y lines
--   Walkable mode ..         == what is lent speaks of some grid and rule in that mode
--   Laid g m                 == the sound grid g lies in memory as m, and is read back as itself
--   Fillable m r             == there is such a grid, and the weight of the rule r is within its limit
--   Sizes t columns rows     == what the answer t tells of the size of a grid
use Rattle.std.specs.Prelude.{ℕ, ◌*◌, ◌≤◌, ◌≡◌, cond, ◌⊎◌, List, ltb, Result, Ok, Err, ⊤}
use Rattle.refusal.specs.declared.Refusal.TheVariants as because
use Rattle.outline.specs.Grid.{Grid, Sound, Drawn, Memory, stored}
use Rattle.rule.specs.declared.Rule.{Rule}
use Rattle.rule.specs.Rules.{limit}
use Rattle.piece.specs.declared.Mode.{Mode}
use Rattle.table.specs.Entry.{pair_count}
use Rattle.verdict.specs.declared.Plan.{Plan}
use Rattle.emission.specs.Emission.{Walk}
use Rattle.fracture.specs.declared.pinwheel.Turns.{Turns}
use Rattle.fracture.specs.declared.pinwheel.Turns.TheVariants.{None, Few, Wide, High}
use Rattle.fracture.specs.declared.Denial.{Denial}

abbrev pub Enough : Result ⊤ Denial
Enough = Ok tt

abbrev pub Short : ℕ → Result ⊤ Denial
Short m = Err (record { why = because.List; needed = m })

unfoldable pub room_of : ℕ → ℕ → Result ⊤ Denial
room_of n m = cond (ltb n (4 * m)) (Short m) Enough

pub record Sized (plan : Plan) : Type 0 where
  pub columns-some : 1 ≤ plan.columns
  pub columns-most : plan.columns ≤ 15
  pub rows-some : 1 ≤ plan.rows
  pub rows-most : plan.rows ≤ 15
  pub pairs : plan.pairs ≡ pair_count plan.rows

pub record Walkable (mode : Mode) (table cells xs ys : List ℕ) (plan : Plan) : Type 0 where
  pub grid : Grid
  pub rule : Rule
  pub walk : Walk mode grid rule table cells xs ys plan

pub record Laid (g : Grid) (m : Memory) : Type 0 where
  pub sound : Sound g
  pub columns : m.columns ≡ g.columns
  pub rows : m.rows ≡ g.rows
  pub drawn : Drawn g m.xs m.ys m.cells
  pub back : stored m.columns m.rows m.xs m.ys m.cells ≡ g

pub record Fillable (m : Memory) (r : Rule) : Type 0 where
  pub grid : Grid
  pub laid : Laid grid m
  pub weight : r.weight ≤ limit

abbrev pub Sizes : Turns → ℕ → ℕ → Type 0
Sizes None columns rows = (columns ≤ 2) ⊎ (rows ≤ 2)
Sizes Few columns rows = (3 ≤ columns) × ((3 ≤ rows) × (rows ≤ 5))
Sizes Wide columns rows = Unit {0}
Sizes High columns rows = Unit {0}
