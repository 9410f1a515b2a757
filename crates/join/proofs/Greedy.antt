-- One list has one greedy pairing.
--
--   greedy-one   == two pairings in which each free shot took the first later free one that it can join are the same
--   none_left    == no two free shots could still be joined
use Prim.Native.Nat.{ℕ, zero, suc, ◌<◌, ◌≤◌}
use native.Mathlib.Omega.{arith}
use mathlib.Core.Path.{◌≡◌, refl, sym, ◌∙◌, ap}
use mathlib.Core.Bool.{Bool, true, false}
use mathlib.Core.List.{List}
use lib.Dec.{ltb}
use lib.ListN.{length}
use borrow.Author.Tests.{ltb-true, ltb-false}
use Rattle.shot.specs.Shot.{Shot}
use Rattle.join.specs.Join.{nth, can_join, Greedy}
use Rattle.join.proofs.Fairness.{can_join_swap}

module _ (l : List Shot) (p : ℕ → ℕ) (g : Greedy l p) where
  left_by : (i j : ℕ) → i < j → j < length l → p i ≡ i → p j ≡ j → (b : Bool) → can_join (nth l i) (nth l j) ≡ b → can_join (nth l i) (nth l j) ≡ false
  left_by i j h k e f true z = let w = g.first i j h k (omega arith) (omega arith) z in absurd (omega (arith, w.0))
  left_by i j h k e f false z = z

  either_way : (i j : ℕ) → i < length l → j < length l → (i ≡ j → ⊥) → p i ≡ i → p j ≡ j → (b : Bool) → ltb i j ≡ b → can_join (nth l i) (nth l j) ≡ false
  either_way i j h k d e f true z = left_by i j (ltb-true i j z) k e f (can_join (nth l i) (nth l j)) refl
  either_way i j h k d e f false z =
      can_join_swap (nth l i) (nth l j) ∙ left_by j i (omega (arith, ltb-false i j z)) h f e (can_join (nth l j) (nth l i)) refl

  pub none_left : (i j : ℕ) → i < length l → j < length l → (i ≡ j → ⊥) → p i ≡ i → p j ≡ j → can_join (nth l i) (nth l j) ≡ false
  none_left i j h k d e f = either_way i j h k d e f (ltb i j) refl

-- where p and q agree on the shots before i
module _ (l : List Shot) (p q : ℕ → ℕ) (g : Greedy l p) (h : Greedy l q) (i : ℕ) (low : i < length l) (same : (k : ℕ) → k < i → p k ≡ q k) where
  -- a shot that has an earlier partner in p has it in q
  earlier : (m : ℕ) → m < length l → p m < i → q m ≡ p m
  earlier m k e = ap q (sym (g.back m k) ∙ same (p m) e) ∙ h.back (p m) (omega (arith, g.within m k))

-- a shot that is free at turn i in p and takes one there takes one in q, and none later
later : (l : List Shot) (p q : ℕ → ℕ) → Greedy l p → Greedy l q → (i : ℕ) → i < length l → ((k : ℕ) → k < i → p k ≡ q k) → i < p i → i ≤ q i → (i < q i) × (q i ≤ p i)
later l p q g h i low same e f = h.first i (p i) e (g.within i low) f (free (ltb (q (p i)) i) refl) (g.joins i low (λ z. omega arith))
  where
    free : (b : Bool) → ltb (q (p i)) i ≡ b → i ≤ q (p i)
    free true z =
        let k = ltb-true (q (p i)) i z in
        absurd (omega (arith, k, earlier l q p h g i low (λ m w. sym (same m w)) (p i) (g.within i low) k, g.back i low))
    free false z = ltb-false (q (p i)) i z

one-by : (l : List Shot) (p q : ℕ → ℕ) → Greedy l p → Greedy l q → (i : ℕ) → i < length l → ((k : ℕ) → k < i → p k ≡ q k) → (a b c d : Bool) → ltb (p i) i ≡ a → ltb (q i) i ≡ b → ltb i (p i) ≡ c → ltb i (q i) ≡ d → p i ≡ q i
one-by l p q g h i low same true b c d e f x y = sym (earlier l p q g h i low same i low (ltb-true (p i) i e))
one-by l p q g h i low same false true c d e f x y = earlier l q p h g i low (λ m w. sym (same m w)) i low (ltb-true (q i) i f)
one-by l p q g h i low same false false true d e f x y =
    let u = later l p q g h i low same (ltb-true i (p i) x) (ltb-false (q i) i f) in
    let w = later l q p h g i low (λ m w. sym (same m w)) u.0 (ltb-false (p i) i e) in
    omega (arith, u.1, w.1)
one-by l p q g h i low same false false false true e f x y =
    let w = later l q p h g i low (λ m w. sym (same m w)) (ltb-true i (q i) y) (ltb-false (p i) i e) in
    absurd (omega (arith, w.0, ltb-false i (p i) x))
one-by l p q g h i low same false false false false e f x y =
    omega (arith, ltb-false (p i) i e, ltb-false (q i) i f, ltb-false i (p i) x, ltb-false i (q i) y)

one_more : (l : List Shot) (p q : ℕ → ℕ) → Greedy l p → Greedy l q → (i : ℕ) → i < length l → ((k : ℕ) → k < i → p k ≡ q k) → (k : ℕ) → k < suc i → (b : Bool) → ltb k i ≡ b → p k ≡ q k
one_more l p q g h i m same k e true z = same k (ltb-true k i z)
one_more l p q g h i m same k e false z =
    let w : k ≡ i = omega (arith, ltb-false k i z) in
    ap p w ∙ one-by l p q g h i m same (ltb (p i) i) (ltb (q i) i) (ltb i (p i)) (ltb i (q i)) refl refl refl refl ∙ ap q (sym w)

-- all shots before i, by the number of turns
before : (l : List Shot) (p q : ℕ → ℕ) → Greedy l p → Greedy l q → (i : ℕ) → i ≤ length l → (k : ℕ) → k < i → p k ≡ q k
before l p q g h zero m k e = absurd (omega arith)
before l p q g h (suc i) m k e = one_more l p q g h i m (λ n v. before l p q g h i (omega arith) n v) k e (ltb k i) refl

pub greedy-one : (l : List Shot) (p q : ℕ → ℕ) → Greedy l p → Greedy l q → (i : ℕ) → i < length l → p i ≡ q i
greedy-one l p q g h i k = before l p q g h (length l) (omega arith) i k
