-- To believe: sums over a run of line numbers, and over a list.
--
--   only t n       == n where the test t passes, 0 where not
--   over a c f     == the sum of f k for a ≤ k < c
--   sum_of f l      == the sum of f s over the members s of l
--   join f l       == the lists f s, one after the other, for the members s of l
--   All Q l        == each member of l has the property Q
--   Some l         == l has a member
use Rattle.std.specs.Prelude.{ℕ, zero, suc, ◌+◌, Bool, true, false, List, [], ◌∷◌, ◌++◌, leb}

abbrev pub only : Bool → ℕ → ℕ
only true n = n
only false n = 0

unfoldable pub over : ℕ → ℕ → (ℕ → ℕ) → ℕ
over a zero f = 0
over a (suc k) f = over a k f + only (leb a k) (f k)

module _ {A : Type 0} where
  unfoldable pub sum_of : (A → ℕ) → List A → ℕ
  sum_of f [] = 0
  sum_of f (s ∷ l) = f s + sum_of f l

  abbrev pub All : (A → Type 0) → List A → Type 0
  All Q [] = Unit {0}
  All Q (s ∷ l) = Q s × All Q l

  abbrev pub Some : List A → Type 0
  Some [] = ⊥
  Some (s ∷ l) = Unit {0}

module _ {A B : Type 0} where
  unfoldable pub join : (A → List B) → List A → List B
  join f [] = []
  join f (s ∷ l) = f s ++ join f l
