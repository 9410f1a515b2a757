-- One pass over a ring tells whether it is right_angled. Assumes nothing.
--
--   Square l across k        == on the way: each of the first k edges changes one coordinate, and not the one that the edge before it
--                               does; across tells whether the edge before the edge k changes x
--   square-start, square-more, square-end   == no edge yet; one more; all of them, so neither 3 nor 4 holds of the ring
--   crooked-edge, crooked-turn              == an edge that changes both or neither; one that changes x where the one before it does,
--                                              or neither of them
--   crooked-any              == a ring of a figure is crooked where 3 holds of one or 4 of one
--   fault-right_angled, fault-unturned      == so the fault is told: none; 4
use Prim.Native.Nat.{ℕ, ◌+◌, ◌-◌, ◌/◌, ◌≤◌, ◌<◌}
use mathlib.Core.Path.{◌≡◌, refl, sym, ◌∙◌, ap, ap₂}
use mathlib.Core.Bool.{Bool, true, false, not, ◌&&◌, ◌||◌, beq, or-true, true≢false}
use mathlib.Core.List.{List}
use native.Mathlib.Omega.{arith}
use lib.ListN.{length}
use borrow.Author.Count.{below_more}
use Rattle.figure.specs.declared.Axis.TheVariants.{X, Y}
use Rattle.figure.specs.Corners.{corners, any, changes, both, neither, same, alike, slanted, unturned}
use Rattle.figure.specs.Figure.{Figure, rings, bad_figure, fault}
use Rattle.figure.specs.Steps.{edge, turn, before, crooked}
use Rattle.figure.proofs.Corners.{before_less, before-some, turn-from, turn-to, slanted-at, slanted-none, unturned-neither, unturned-alike, unturned-none}
use Rattle.figure.proofs.Fault.{fault_0, fault_4}
use Rattle.figure.proofs.Together.{any-or}
use Rattle.figure.proofs.Turns.{or-false}

pub record Square (l : List ℕ) (across : Bool) (k : ℕ) : Type 0 where
  pub one : (i : ℕ) → i < k → changes Y (edge l i) ≡ not (changes X (edge l i))
  pub turned : (i : ℕ) → i < k → changes X (edge l i) ≡ not (changes X (edge l (before i (length l / 2))))
  pub last : across ≡ changes X (edge l (before k (length l / 2)))

pub square-start : (l : List ℕ) (across : Bool) → across ≡ changes X (edge l (length l / 2 - 1)) → Square l across 0
unfolding before
square-start l across e = record { one = λ i h. absurd (omega arith); turned = λ i h. absurd (omega arith); last = e }

-- two answers that are the same, or differ
equal : (p q : Bool) → beq p q ≡ true → p ≡ q
equal true true e = refl
equal true false e = absurd (true≢false (sym e))
equal false true e = absurd (true≢false (sym e))
equal false false e = refl

differ : (p q : Bool) → beq p q ≡ false → (p ≡ not q) × (q ≡ not p)
differ true true e = absurd (true≢false e)
differ true false e = (refl, refl)
differ false true e = (refl, refl)
differ false false e = absurd (true≢false e)

crooked-slanted : (l : List ℕ) → true ≡ slanted (corners l) → true ≡ crooked (corners l)
unfolding crooked
crooked-slanted l e = ap (λ b. b || unturned (corners l)) e

crooked-unturned : (l : List ℕ) → true ≡ unturned (corners l) → true ≡ crooked (corners l)
unfolding crooked
crooked-unturned l e = sym (or-true (slanted (corners l))) ∙ ap (λ b. slanted (corners l) || b) e

module _ (l : List ℕ) (k : ℕ) (h : k < length l / 2) (x y : Bool) (ex : x ≡ changes X (edge l k)) (ey : y ≡ changes Y (edge l k)) where
  pub crooked-edge : beq x y ≡ true → true ≡ crooked (corners l)
  unfolding both neither
  crooked-edge e = go (changes X (edge l k)) (changes Y (edge l k)) refl refl (sym ex ∙ equal x y e ∙ ey)
    where
      go : (p q : Bool) → changes X (edge l k) ≡ p → changes Y (edge l k) ≡ q → changes X (edge l k) ≡ changes Y (edge l k) → true ≡ crooked (corners l)
      go true q u v w = crooked-slanted l (slanted-at l k h {t = true} (sym (ap₂ ◌&&◌ u (sym w ∙ u))) refl)
      go false q u v w =
          crooked-unturned l (unturned-neither l k h {t = true} (sym (ap₂ (λ a b. not a && not b) u (sym w ∙ u))) refl)

  module _ (across : Bool) (s : Square l across k) where
    pub crooked-turn : beq x y ≡ false → beq x across ≡ true → true ≡ crooked (corners l)
    crooked-turn d e = go (changes X (edge l k)) refl (changes Y (edge l b)) refl
      where
        b : ℕ
        b = before k (length l / 2)

        first : changes X (edge l b) ≡ changes X (edge l k)
        first = sym s.last ∙ sym (equal x across e) ∙ ex

        other : changes Y (edge l k) ≡ not (changes X (edge l k))
        other = sym ey ∙ (differ x y d).1 ∙ ap not ex

        alike_is : (a c : Bool) → changes X (edge l b) ≡ a → changes X (edge l k) ≡ a → changes Y (edge l b) ≡ c → changes Y (edge l k) ≡ not a
            → ((a && a) || (c && not a)) ≡ alike (turn l k)
        alike_is a c p q r t =
            unfold alike same in
            ap₂ ◌||◌
            (ap₂ ◌&&◌ (turn-from X l k b a h refl (sym p)) (turn-to X l k b a h (sym q)))
            (ap₂ ◌&&◌ (turn-from Y l k b c h refl (sym r)) (turn-to Y l k b (not a) h (sym t)))

        go : (a : Bool) → changes X (edge l k) ≡ a → (c : Bool) → changes Y (edge l b) ≡ c → true ≡ crooked (corners l)
        go true p c q =
            crooked-unturned l (unturned-alike l k h {t = true} (alike_is true c (first ∙ p) p q (other ∙ ap not p)) refl)
        go false p true q =
            crooked-unturned l (unturned-alike l k h {t = true} (alike_is false true (first ∙ p) p q (other ∙ ap not p)) refl)
        go false p false q =
            crooked-unturned l
            (unturned-neither l b (before_less k (length l / 2) h) {t = true}
            (unfold neither in sym (ap₂ (λ a c. not a && not c) (first ∙ p) q))
            refl)

    pub square-more : beq x y ≡ false → beq x across ≡ false → Square l x (k + 1)
    square-more d e =
        record {
          one = below_more _ _ s.one (sym ey ∙ (differ x y d).1 ∙ ap not ex);
          turned = below_more _ _ s.turned (sym ex ∙ (differ x across e).0 ∙ ap not s.last);
          last = ex ∙ ap (λ i. changes X (edge l i)) here;
        }
      where
        here : k ≡ before (k + 1) (length l / 2)
        here = let z : k ≡ k + 1 - 1 = omega arith in z ∙ before-some (k + 1) (length l / 2) (λ e. omega arith)

pub square-end : (l : List ℕ) (across : Bool) (k : ℕ) → Square l across k → length l / 2 ≤ k → false ≡ crooked (corners l)
unfolding crooked
square-end l across k s h = ap₂ ◌||◌ (slanted-none l no_both) (unturned-none l no-neither no-alike)
  where
    no_both : (i : ℕ) → i < length l / 2 → both (edge l i) ≡ false
    no_both i q = unfold both in ap (λ t. changes X (edge l i) && t) (s.one i (omega arith)) ∙ go (changes X (edge l i))
      where
        go : (a : Bool) → (a && not a) ≡ false
        go true = refl
        go false = refl

    no-neither : (i : ℕ) → i < length l / 2 → neither (edge l i) ≡ false
    no-neither i q = unfold neither in ap (λ t. not (changes X (edge l i)) && not t) (s.one i (omega arith)) ∙ go (changes X (edge l i))
      where
        go : (a : Bool) → (not a && not (not a)) ≡ false
        go true = refl
        go false = refl

    no-alike : (i : ℕ) → i < length l / 2 → alike (turn l i) ≡ false
    no-alike i q =
        unfold alike same in
        sym
        (ap₂ ◌||◌
        (ap₂ ◌&&◌ (turn-from X l i b a q refl refl) (turn-to X l i b (not a) q (sym (s.turned i (omega arith)))))
        (ap₂ ◌&&◌
        (turn-from Y l i b (not a) q refl (sym (s.one b (omega (arith, before_less i (length l / 2) q)))))
        (turn-to Y l i b (not (not a)) q (sym (s.one i (omega arith) ∙ ap not (s.turned i (omega arith)))))))
        ∙ go a
      where
        b : ℕ
        b = before i (length l / 2)

        a : Bool
        a = changes X (edge l b)

        go : (a : Bool) → ((a && not a) || (not a && not (not a))) ≡ false
        go true = refl
        go false = refl

pub crooked-any : (f : Figure) → any crooked (rings f) ≡ (any slanted (rings f) || any unturned (rings f))
unfolding crooked
crooked-any f = any-or slanted unturned (rings f)

module _ (f : Figure) (good : bad_figure f ≡ false) where
  pub fault-right_angled : any crooked (rings f) ≡ false → 0 ≡ fault f
  fault-right_angled e =
      let n = or-false (any slanted (rings f)) (any unturned (rings f)) (sym (crooked-any f) ∙ e) in
      fault_0 f (record { figure-good = good; slanted-none = n.0; unturned-none = n.1 })

  pub fault-unturned : any crooked (rings f) ≡ true → any slanted (rings f) ≡ false → 4 ≡ fault f
  fault-unturned e s = fault_4 f good s (ap (λ b. b || any unturned (rings f)) (sym s) ∙ sym (crooked-any f) ∙ e)
