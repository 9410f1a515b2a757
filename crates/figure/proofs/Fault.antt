-- Which of 2, 3, 4 is given when. Assumes nothing.
--
--   fault_2, fault_3, fault_4, fault_0   == the fault, by the tests in their order
--   fault-right                          == a figure without a fault passes 2, 3 and 4
--   Good, rings-good                     == what passing 2 says of a figure
--   bad_lengths, good-lengths, lengths_bad   == 2 holds exactly when a ring count, a ring length or the total is bad, in words
--   or_elim                              == a disjunction of tests that holds, by its two ways
--   shape_one                            == two answers that tell the same are the same
use Rattle.std.specs.Prelude.{Result, Ok, Err, ⊤}
use Prim.Native.Nat.{ℕ, ◌*◌, ◌≤◌, ◌<◌}
use mathlib.Core.Path.{◌≡◌, refl, sym, ◌∙◌, ap}
use mathlib.Core.Bool.{Bool, true, false, not, cond, ◌||◌, true≢false}
use mathlib.Core.List.{List, [], ◌∷◌, Memᴰ as Member}
use mathlib.Core.Logic.{◌⊎◌, inl, inr}
use native.Mathlib.Omega.{arith}
use lib.Dec.{ltb, eqb}
use lib.ListN.{length}
use borrow.Author.Tests.{ltb-true, ltb-false, eqb-false, eqb-true, eq-eqb, not-false}
use Rattle.sum.specs.Sum.{All}
use Rattle.sum.proofs.Sum.{le-or}
use Rattle.sum.proofs.Lists.{All-imp, All-at}
use Rattle.refusal.specs.declared.Refusal.{Refusal}
use Rattle.refusal.specs.Refusals.{refusal_no}
use Rattle.refusal.proofs.Refusals.{refusal-one, refusal-some}
use Rattle.figure.specs.Corners.{any, slanted, unturned}
use Rattle.figure.specs.Figure.{Figure, rings, total, most_rings, most_corners, bad_length, bad_figure, BadLengths, fault, shape_no}
use Rattle.figure.specs.Steps.{Right}
use Rattle.figure.proofs.Turns.{or-false, any-all}

pub length-good : (n : ℕ) → bad_length n ≡ false → (4 ≤ n) × (n ≤ most_corners)
unfolding bad_length
length-good n e = let k = or-false (ltb n 4) (ltb most_corners n) e in (ltb-false _ _ k.0, ltb-false _ _ k.1)

-- what passing 2 says of a figure
pub record Good (f : Figure) : Type 0 where
  pub some : 0 < length f.lengths
  pub few : length f.lengths ≤ most_rings
  pub each : All (λ n. (4 ≤ n) × (n ≤ most_corners)) f.lengths
  pub most : total f ≤ most_corners
  pub numbers : length f.numbers ≡ 2 * total f

module _ (f : Figure) where
  pub fault_2 : bad_figure f ≡ true → 2 ≡ fault f
  unfolding fault
  fault_2 a = rw a

  pub fault_3 : bad_figure f ≡ false → any slanted (rings f) ≡ true → 3 ≡ fault f
  unfolding fault
  fault_3 a b = rw (a, b)

  pub fault_4 : bad_figure f ≡ false → any slanted (rings f) ≡ false → any unturned (rings f) ≡ true → 4 ≡ fault f
  unfolding fault
  fault_4 a b c = rw (a, b, c)

  pub fault_0 : Right f → 0 ≡ fault f
  unfolding fault
  fault_0 r = rw (r.figure-good, r.slanted-none, r.unturned-none)

  pub fault-right : fault f ≡ 0 → Right f
  unfolding fault
  fault-right e = go (bad_figure f) refl (any slanted (rings f)) refl (any unturned (rings f)) refl e
    where
      go : (a : Bool) → bad_figure f ≡ a → (b : Bool) → any slanted (rings f) ≡ b → (c : Bool) → any unturned (rings f) ≡ c
          → ◌≡◌ {A = ℕ} (cond a 2 (cond b 3 (cond c 4 0))) 0
          → Right f
      go true p b q c r h = absurd (omega arith)
      go false p true q c r h = absurd (omega arith)
      go false p false q true r h = absurd (omega arith)
      go false p false q false r h = record { figure-good = p; slanted-none = q; unturned-none = r }

  pub rings-good : bad_figure f ≡ false → Good f
  unfolding bad_figure
  rings-good h =
      let a = or-false (eqb (length f.lengths) 0 || ltb most_rings (length f.lengths)) _ h in
      let b = or-false (eqb (length f.lengths) 0) _ a.0 in
      let c = or-false (any bad_length f.lengths) _ a.1 in
      let d = or-false (ltb most_corners (total f)) _ c.1 in
      record {
        some = some (length f.lengths) (eqb-false _ _ b.0);
        few = ltb-false _ _ b.1;
        each = All-imp length-good f.lengths (any-all bad_length f.lengths c.0);
        most = ltb-false _ _ d.0;
        numbers = eqb-true _ _ (not-false _ d.1);
      }
    where
      some : (n : ℕ) → (n ≡ 0 → ⊥) → 0 < n
      some n h = elim (le-or 1 n) [ inl q ↦ q | inr q ↦ absurd (h (omega arith)) ]

not_right : (why : Refusal) → 0 ≡ refusal_no why → ⊥
not_right why e = omega (arith, refusal-some why)

pub shape_one : (u v : Result ⊤ Refusal) → shape_no u ≡ shape_no v → u ≡ v
shape_one (Ok s) (Ok t) e = refl
shape_one (Ok s) (Err why) e = absurd (not_right why e)
shape_one (Err why) (Ok t) e = absurd (not_right why (sym e))
shape_one (Err u) (Err v) e = ap Err (refusal-one u v e)

pub or_elim : {P : Type 0} (a b : Bool) → (a || b) ≡ true → (a ≡ true → P) → (b ≡ true → P) → P
or_elim true b e f g = f refl
or_elim false b e f g = g e

-- 2 in words: the test passes exactly when a length is bad
any_member : (t : ℕ → Bool) (l : List ℕ) → any t l ≡ true → (s : ℕ) × Member s l × (t s ≡ true)
unfolding any
any_member t [] e = absurd (true≢false (sym e))
any_member t (s ∷ l) e = go (t s) refl e (any_member t l)
  where
    go : (b : Bool) → t s ≡ b → (b || any t l) ≡ true → (any t l ≡ true → (u : ℕ) × Member u l × (t u ≡ true))
        → (u : ℕ) × Member u (s ∷ l) × (t u ≡ true)
    go true x h i = (s, Member.head refl, x)
    go false x h i = let m = i h in (m.0, Member.tail m.1, m.2)

module _ (f : Figure) where
  pub bad_lengths : bad_figure f ≡ true → BadLengths f
  unfolding bad_figure
  bad_lengths e =
      or_elim _ _ e
      (λ h. or_elim _ _ h (λ k. inl (eqb-true _ _ k)) (λ k. inr (inl (ltb-true _ _ k))))
      (λ h.
      or_elim _ _ h
      (λ k. let m = any_member bad_length f.lengths k in inr (inr (inl (m.0, m.1, bad m.0 m.2))))
      (λ k. inr (inr (inr (or_elim _ _ k (λ i. inl (ltb-true _ _ i)) (λ i. inr (λ z. true≢false (sym i ∙ ap not (eq-eqb _ _ z)))))))))
    where
      bad : (n : ℕ) → bad_length n ≡ true → (n < 4) ⊎ (32 < n)
      bad n e = unfold bad_length in or_elim _ _ e (λ h. inl (ltb-true _ _ h)) (λ h. inr (ltb-true _ _ h))

  pub good-lengths : bad_figure f ≡ false → BadLengths f → ⊥
  good-lengths e b = go (rings-good f e) b
    where
      out_of : (n : ℕ) → (4 ≤ n) × (n ≤ 32) → (n < 4) ⊎ (32 < n) → ⊥
      out_of n g (inl h) = omega (arith, g.0)
      out_of n g (inr h) = omega (arith, g.1)

      go : Good f → BadLengths f → ⊥
      go g (inl h) = omega (arith, g.some)
      go g (inr (inl h)) = omega (arith, g.few)
      go g (inr (inr (inl m))) = out_of m.0 (All-at (λ n. (4 ≤ n) × (n ≤ 32)) m.1 g.each) m.2
      go g (inr (inr (inr (inl h)))) = omega (arith, g.most)
      go g (inr (inr (inr (inr h)))) = h g.numbers

  pub lengths_bad : BadLengths f → bad_figure f ≡ true
  lengths_bad b = go (bad_figure f) refl
    where
      go : (t : Bool) → bad_figure f ≡ t → t ≡ true
      go true e = refl
      go false e = absurd (good-lengths e b)
