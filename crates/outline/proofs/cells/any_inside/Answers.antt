-- `outline::cells::any_inside` meets its contract: a cell that is not 0 was found, or every cell is 0. Assumes nothing.
use Rattle.std.proofs.Common.{◌≡◌, ℕ, ◌<◌, Bool, true, false, List, length, MatchBool, rules, tests, arith}
use Rattle.std.specs.List.{HoldsAt, AllWithin}
use Rattle.std.proofs.lemmas.Iterator.{cases_from_any, YieldsList-from_slice}
use Rattle.figure.specs.Corners.{any}
use Rattle.outline.specs.Steps.{lit}
use Rattle.outline.proofs.Sweeping.{lit-some, lit-none}
use Rattle.outline.proofs.cells.any_inside.Goals as goal

found : (r : Bool) (cells : List ℕ) → MatchBool r ((k : ℕ) × (k < length cells) × HoldsAt (λ n. n ≡ 0 → ⊥) cells k) (AllWithin (λ n. n ≡ 0) cells 0 (length cells))
    → r ≡ any lit cells
found true cells h = lit-some cells h.0 h.1 (h.2 0)
found false cells h = lit-none cells (λ k q. h k 0 (omega arith) q)

pub returns : goal.returns
returns c =
    found _ c.args.cells.now
    (cases_from_any _ _ _ (λ n. n ≡ 0 → ⊥) (λ n. n ≡ 0) c.any.ensures.ran (YieldsList-from_slice c.args.cells.now cc)
    (λ n q k. search (rules, tests)) (λ n q k. search (rules, tests)))
