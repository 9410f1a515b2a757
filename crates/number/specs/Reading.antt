-- To believe: what reading bytes at a place finds.
--
--   Reading A      == something of sort A, with the place past it; or the first fault, with its offset
--   and_then r f    == what r finds, and then what f finds from there; the first fault decides
--   many f n at    == n of what f finds, one after another
--   past r         == only the place past what is read
use Rattle.std.specs.Prelude.{ℕ, zero, suc, List, [], ◌∷◌}
use Rattle.refusal.specs.declared.Refusal.{Refusal}

pub data Reading (A : Type 0) : Type 0 where
  read : A → ℕ → Reading A
  fault : Refusal → ℕ → Reading A

module _ {A B : Type 0} where
  abbrev pub and_then : Reading A → (A → ℕ → Reading B) → Reading B
  and_then (read a next) f = f a next
  and_then (fault r at) f = fault r at

module _ {A : Type 0} where
  unfoldable pub many : (ℕ → Reading A) → ℕ → ℕ → Reading (List A)
  many f zero at = read [] at
  many f (suc n) at = and_then (f at) (λ a next. and_then (many f n next) (λ l last. read (a ∷ l) last))

abbrev pub past : {A : Type 0} → Reading A → Reading (Unit {0})
past r = and_then r (λ a next. read tt next)
