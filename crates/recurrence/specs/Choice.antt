-- To believe: of several, the one of least value; of equals, the first. The tie order is the order of the list.
--
--   lower f a b      == b where its value is below a's, strictly; else a
--   least f a l      == the first of a ∷ l that has the least value
--   first f v z l    == the first of l that has the value v; z if none has
--   cheapest w ls    == of some shot lists the first of those that cost least, each shot costing what w says
use Rattle.std.specs.Prelude.{ℕ, true, false, List, [], ◌∷◌, ltb, eqb}
use Rattle.sum.specs.Sum.{sum_of}

module _ {A : Type 0} (f : A → ℕ) where
  abbrev pub lower : A → A → A
  lower a b = elim (ltb (f b) (f a)) [ true ↦ b | false ↦ a ]

  unfoldable pub least : A → List A → A
  least a [] = a
  least a (b ∷ l) = least (lower a b) l

  unfoldable pub first : ℕ → A → List A → A
  first v z [] = z
  first v z (a ∷ l) = elim (eqb (f a) v) [ true ↦ a | false ↦ first v z l ]

module _ {P : Type 0} (charge : P → ℕ) where
  unfoldable pub cheapest : List (List P) → List P
  cheapest [] = []
  cheapest (l ∷ ls) = least (sum_of charge) l ls
