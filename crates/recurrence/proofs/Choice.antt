-- Laws of `least`, `first` and `cheapest`. Assumes nothing.
--
--   least-low, least-one     == the least is at most each, and is one of them
--   first-yes, first-no      == the first of a list whose head has the value, and has it not
--   least_first              == the least is the first that has the least value
--   least-map, least-same    == the least of a map is the map at the least; the same values give the same least
--   cheapest-low, cheapest-one   == the cheapest list costs at most what each costs, and is one of them
use Prim.Native.Nat.{ℕ, ◌≤◌}
use mathlib.Core.Path.{◌≡◌, refl, sym, ◌∙◌, ap, ap₂}
use mathlib.Core.Bool.{Bool, true, false}
use mathlib.Core.List.{List, [], ◌∷◌, map}
use mathlib.Core.Logic.{◌≢◌}
use native.Mathlib.Omega.{arith}
use lib.Dec.{ltb, eqb}
use borrow.Author.Tests.{ltb-true, ltb-false, eqb-true, eqb-false, eq-eqb, ne_eqb}
use Rattle.sum.specs.Sum.{sum_of, All, Some}
use Rattle.recurrence.specs.Choice.{lower, least, first, cheapest}

module _ {A : Type 0} where
  module _ (f : A → ℕ) where
    lower-low : (a b : A) → (f (lower f a b) ≤ f a) × (f (lower f a b) ≤ f b)
    lower-low a b = go (ltb (f b) (f a)) refl
      where
        pick : Bool → A
        pick t = elim t [ true ↦ b | false ↦ a ]

        go : (t : Bool) → ltb (f b) (f a) ≡ t → (f (pick t) ≤ f a) × (f (pick t) ≤ f b)
        go true e = omega (arith, ltb-true (f b) (f a) e)
        go false e = omega (arith, ltb-false (f b) (f a) e)

    -- the least is at most each
    pub least-low : (a : A) (l : List A) → (f (least f a l) ≤ f a) × All (λ b. f (least f a l) ≤ f b) l
    unfolding least
    least-low a [] = (omega arith, tt)
    least-low a (b ∷ l) =
        let h = lower-low a b in
        let i = least-low (lower f a b) l in
        (omega arith, (omega arith, i.1))

    -- and one of them
    pub least-one : (Q : A → Type 0) (a : A) (l : List A) → Q a → All Q l → Q (least f a l)
    unfolding least
    least-one Q a [] h k = h
    least-one Q a (b ∷ l) h k = least-one Q (lower f a b) l (go (ltb (f b) (f a))) k.1
      where
        go : (t : Bool) → Q (elim t [ true ↦ b | false ↦ a ])
        go true = k.0
        go false = h

    pub first-yes : (v : ℕ) (z a : A) (l : List A) → f a ≡ v → first f v z (a ∷ l) ≡ a
    unfolding first
    first-yes v z a l e = rw (eq-eqb (f a) v e, first)

    pub first-no : (v : ℕ) (z a : A) (l : List A) → (f a ≡ v → ⊥) → first f v z (a ∷ l) ≡ first f v z l
    unfolding first
    first-no v z a l e = rw (ne_eqb (f a) v e, first)

    -- the least is the first that has the least value
    pub least_first : (z a : A) (l : List A) → first f (f (least f a l)) z (a ∷ l) ≡ least f a l
    unfolding least
    least_first z a [] = first-yes (f a) z a [] refl
    least_first z a (b ∷ l) = go (ltb (f b) (f a)) refl (λ a. least_first z a l)
      where
        pick : Bool → A
        pick t = elim t [ true ↦ b | false ↦ a ]

        go : (t : Bool) → ltb (f b) (f a) ≡ t → ((a : A) → first f (f (least f a l)) z (a ∷ l) ≡ least f a l)
            → first f (f (least f (pick t) l)) z (a ∷ b ∷ l) ≡ least f (pick t) l
        go true e i =
            let h = ltb-true (f b) (f a) e in
            let k = least-low b l in
            first-no (f (least f b l)) z a (b ∷ l) (λ q. omega arith) ∙ i b
        go false e i = same (eqb (f a) (f (least f a l))) refl
          where
            h : f a ≤ f b
            h = ltb-false (f b) (f a) e

            k : f (least f a l) ≤ f a
            k = (least-low a l).0

            same : (t : Bool) → eqb (f a) (f (least f a l)) ≡ t → first f (f (least f a l)) z (a ∷ b ∷ l) ≡ least f a l
            same true q =
                first-yes (f (least f a l)) z a (b ∷ l) (eqb-true _ _ q) ∙ sym (first-yes (f (least f a l)) z a l (eqb-true _ _ q)) ∙ i a
            same false q =
                let n : f a ≢ f (least f a l) = eqb-false _ _ q in
                first-no (f (least f a l)) z a (b ∷ l) n
                ∙ first-no (f (least f a l)) z b l (λ w. omega (arith, h, k))
                ∙ sym (first-no (f (least f a l)) z a l n)
                ∙ i a

module _ {A : Type 0} (charge : A → ℕ) where
  pub cheapest-low : (ls : List (List A)) → All (λ l. sum_of charge (cheapest charge ls) ≤ sum_of charge l) ls
  unfolding cheapest
  cheapest-low [] = tt
  cheapest-low (l ∷ ls) = least-low (sum_of charge) l ls

  pub cheapest-one : (Q : List A → Type 0) (ls : List (List A)) → Some ls → All Q ls → Q (cheapest charge ls)
  unfolding cheapest
  cheapest-one Q [] h k = absurd h
  cheapest-one Q (l ∷ ls) h k = least-one (sum_of charge) Q l ls k.0 k.1

module _ {A B : Type 0} where
  -- the least of a map is the map at the least
  pub least-map : (v : B → ℕ) (h : A → B) (a : A) (l : List A) → least v (h a) (map h l) ≡ h (least (λ k. v (h k)) a l)
  unfolding least
  least-map v h a [] = refl
  least-map v h a (b ∷ l) = ap (λ s. least v s (map h l)) (go (ltb (v (h b)) (v (h a)))) ∙ least-map v h (lower (λ k. v (h k)) a b) l
    where
      go : (t : Bool) → ◌≡◌ {A = B} (elim t [ true ↦ h b | false ↦ h a ]) (h (elim t [ true ↦ b | false ↦ a ]))
      go true = refl
      go false = refl

-- member by member the same values: the same least
pub least-same : {A : Type 0} (f g : A → ℕ) (a : A) (l : List A) → f a ≡ g a → All (λ b. f b ≡ g b) l → least f a l ≡ least g a l
unfolding least
least-same f g a [] h k = refl
least-same f g a (b ∷ l) h k =
    ap (λ t. least f (elim t [ true ↦ b | false ↦ a ]) l) (ap₂ ltb k.0 h) ∙ go (ltb (g b) (g a)) (least-same f g b l k.0 k.1) (least-same f g a l h k.1)
  where
    go : (t : Bool) → least f b l ≡ least g b l → least f a l ≡ least g a l
        → least f (elim t [ true ↦ b | false ↦ a ]) l ≡ least g (elim t [ true ↦ b | false ↦ a ]) l
    go true i j = i
    go false i j = j
