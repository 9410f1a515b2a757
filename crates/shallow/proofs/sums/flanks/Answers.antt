-- `shallow::sums::flanks` meets its contract. Assumes nothing.
use Prim.Native.Nat.{ℕ, ◌+◌, ◌*◌, ◌-◌, ◌≤◌}
use mathlib.Core.Path.{◌≡◌, sym, ◌∙◌, ap, ap₂}
use mathlib.Core.Bool.{Bool, true, false, not}
use mathlib.Core.List.{List}
use native.Mathlib.Omega.{arith}
use lib.ListN.{get_or}
use Rattle.sum.specs.Sum.{only}
use Rattle.table.specs.Run.{bare}
use Rattle.table.specs.Side.{before_at}
use Rattle.shallow.specs.Sums.{flanks_at}
use Rattle.shallow.proofs.sums.flanks.Goals as goal

spared-none : (t u : Bool) (n : ℕ) → t ≡ true → t ≡ u → (0 ≡ only (not u) n) × (0 ≤ 131070)
spared-none t u n e z = (ap (λ b. only (not b) n) (sym e ∙ z), omega arith)

measured : (t u : Bool) (cs : List ℕ) (a c j h before low high : ℕ) → t ≡ false → t ≡ u → before ≡ before_at a → h ≤ 65535
    → (low ≡ bare (get_or cs (16 * a + j) 0) (get_or cs (before + j) 0) h) × (low ≤ h)
    → (high ≡ bare (get_or cs (16 * (c - 1) + j) 0) (get_or cs (16 * c + j) 0) h) × (high ≤ h)
    → (low + high ≡ only (not u) (flanks_at cs a c j h)) × (low + high ≤ 131070)
unfolding flanks_at
measured t u cs a c j h before low high e z eb m el eh = (
  ap₂ ◌+◌ (el.0 ∙ ap (λ n. bare (get_or cs (16 * a + j) 0) (get_or cs (n + j) 0) h) eb) eh.0
      ∙ ap (λ b. only (not b) (flanks_at cs a c j h)) (sym e ∙ z),
  omega (arith, el.1, eh.1),
)

pub returns-then-spares : goal.returns-then-spares
returns-then-spares k = spared-none _ _ _ k.if-spares.true k.spares.ensures

pub returns : goal.returns
returns k =
    measured _ _ k.args.cells.now k.args.strip.a.0 k.args.strip.c.0 k.args.j k.args.height _ _ _ k.if-spares.false
    k.spares.ensures
    k.column_before-before.ensures.0
    k.requires.1.1.1.1
    k.exposed-low_side.ensures
    k.exposed-high_side.ensures
