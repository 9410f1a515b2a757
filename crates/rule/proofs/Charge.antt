-- Laws of the charge: all that anybody above knows of how it is reckoned. Assumes nothing.
--
--   sliver-square    == of a square below the threshold the greater exposed length counts
--   sliver_flecks    == where not both extents are below the threshold it is the length without Item 4
--   sliver-turn      == x for y
--   sliver-most      == no more than what is exposed
--   spared-x, spared-y == sides that are spared have no influence on it
--   narrow-none, narrow-same == left and right taken as 0 where the rule spares them, without influence on it
--   sliver_tall, sliver-low == where they are: it is left and right where the rule spares bottom and top, and the longer sides where not
--   charge-least     == a shot costs something
--   charge-cut       == a shorter sliver than two others together costs no more than they
--   charge-most      == a longer sliver costs no less
--   sliver_dearer    == a greater threshold gives no shorter sliver
--   charge_dearer    == nor does a greater weight, with no shorter a sliver, cost less
use Prim.Native.Nat.{ℕ, ◌+◌, ◌<◌, ◌≤◌, min, max}
use mathlib.Core.Path.{◌≡◌, refl, sym, ◌∙◌, ap, ap₂}
use mathlib.Core.Bool.{Bool, true, false, cond, not}
use mathlib.Core.Logic.{◌⊎◌, inl, inr}
use native.Mathlib.Omega.{arith}
use native.Mathlib.Nat.{mul-le-mul, mul-le-mul_left}
use lib.Dec.{ltb}
use borrow.Author.Tests.{ltb-true, lt-ltb, le-ltb, leb-true, leb-false, le-leb, lt-leb}
use Rattle.sum.specs.Sum.{only}
use Rattle.sum.proofs.Sum.{only-most, le-or}
use Rattle.rule.specs.declared.Rule.{Rule}
use Rattle.rule.specs.Charge.{longer, sliver_of, spared, charge_of}

-- the longer sides, by which extent is the lesser
pub longer-upright : (w h u l : ℕ) → w < h → longer w h u l ≡ u
unfolding longer
longer-upright w h u l q = rw (lt-ltb w h q)

pub longer_level : (w h u l : ℕ) → h < w → longer w h u l ≡ l
unfolding longer
longer_level w h u l q = rw (le-ltb w h (omega arith), lt-ltb h w q)

pub longer-square : (w u l : ℕ) → longer w w u l ≡ max u l
unfolding longer
longer-square w u l = rw (le-ltb w w (omega arith))

-- of two extents that are not apart the greater exposed length
pub longer-even : (v w h u l : ℕ) → w ≤ h → h ≤ w → v ≡ max u l → v ≡ longer w h u l
longer-even v w h u l p q e =
    let z : h ≡ w = omega arith in
    e ∙ sym (longer-square w u l) ∙ ap (λ n. longer w n u l) (sym z)

longer-turn : (w h u l : ℕ) → longer w h u l ≡ longer h w l u
longer-turn w h u l = elim (le-or h w) [
  | inl p ↦ elim (le-or w h) [
    | inl q ↦ (
        let e : w ≡ h = omega arith in
        rw e (longer-square h u l ∙ (let m : max u l ≡ max l u = omega arith in m) ∙ sym (longer-square h l u))
        )
    | inr q ↦ longer_level w h u l q ∙ sym (longer-upright h w l u q)
  ]
  | inr p ↦ longer-upright w h u l p ∙ sym (longer_level h w l u p)
]

longer-most : (w h u l : ℕ) → longer w h u l ≤ u + l
unfolding longer
longer-most w h u l = go (ltb w h) (ltb h w)
  where
    go : (a b : Bool) → cond a u (cond b l (max u l)) ≤ u + l
    go true b = omega arith
    go false true = omega arith
    go false false = omega arith

module _ (r : Rule) where
  pub sliver-square : (w u l : ℕ) → w < r.threshold → sliver_of r w w u l ≡ max u l
  unfolding sliver_of
  sliver-square w u l h =
      let e : min w w ≡ w = omega arith in
      rw (e, lt-ltb w r.threshold h) (longer-square w u l)

  pub sliver_flecks : (w h u l : ℕ) → (r.threshold ≤ w) ⊎ (r.threshold ≤ h)
      → sliver_of r w h u l ≡ only (ltb w r.threshold) u + only (ltb h r.threshold) l
  unfolding sliver_of
  sliver_flecks w h u l (inl p) = elim (le-or r.threshold h) [
    | inl q ↦ rw (le-ltb (min w h) r.threshold (omega arith), le-ltb w r.threshold p, le-ltb h r.threshold q)
    | inr q ↦ rw (lt-ltb (min w h) r.threshold (omega arith), le-ltb w r.threshold p, lt-ltb h r.threshold q) (longer_level w h u l (omega arith) ∙ (let e : l ≡ 0 + l = omega arith in e))
  ]
  sliver_flecks w h u l (inr q) = elim (le-or r.threshold w) [
    | inl p ↦ rw (le-ltb (min w h) r.threshold (omega arith), le-ltb w r.threshold p, le-ltb h r.threshold q)
    | inr p ↦ rw (lt-ltb (min w h) r.threshold (omega arith), lt-ltb w r.threshold p, le-ltb h r.threshold q)
        (longer-upright w h u l (omega arith) ∙ (let e : u ≡ u + 0 = omega arith in e))
  ]

  -- as the code has it
  pub sliver-made : (w h u l m n : ℕ) → m ≡ min w h → n ≡ longer w h u l → only (ltb m r.threshold) n ≡ sliver_of r w h u l
  unfolding sliver_of
  sliver-made w h u l m n e f = ap₂ (λ i j. only (ltb i r.threshold) j) e f

  pub sliver-turn : (w h u l : ℕ) → sliver_of r w h u l ≡ sliver_of r h w l u
  unfolding sliver_of
  sliver-turn w h u l =
      let e : min w h ≡ min h w = omega arith in
      rw (e, longer-turn w h u l)

  pub sliver-most : (w h u l : ℕ) → sliver_of r w h u l ≤ u + l
  unfolding sliver_of
  sliver-most w h u l = omega (arith, only-most (ltb (min w h) r.threshold) (longer w h u l), longer-most w h u l)

  pub spared-x : (w h u l : ℕ) → spared r w ≡ true → sliver_of r w h 0 l ≡ sliver_of r w h u l
  unfolding spared
  spared-x w h u l e =
      let p = leb-true r.threshold w e in
      sliver_flecks w h 0 l (inl p) ∙ (rw (le-ltb w r.threshold p) refl) ∙ sym (sliver_flecks w h u l (inl p))

  pub spared-y : (w h u l : ℕ) → spared r h ≡ true → sliver_of r w h u 0 ≡ sliver_of r w h u l
  unfolding spared
  spared-y w h u l e =
      let p = leb-true r.threshold h e in
      sliver_flecks w h u 0 (inr p) ∙ (rw (le-ltb h r.threshold p) refl) ∙ sym (sliver_flecks w h u l (inr p))

  pub narrow-none : (w u : ℕ) → spared r w ≡ true → only (not (spared r w)) u ≡ 0
  narrow-none w u e = ap (λ t. only (not t) u) e

  pub narrow-same : (w h u l : ℕ) → sliver_of r w h (only (not (spared r w)) u) l ≡ sliver_of r w h u l
  narrow-same w h u l = go (spared r w) refl
    where
      go : (t : Bool) → spared r w ≡ t → sliver_of r w h (only (not (spared r w)) u) l ≡ sliver_of r w h u l
      go true e = ap (λ t. sliver_of r w h (only (not t) u) l) e ∙ spared-x w h u l e
      go false e = ap (λ t. sliver_of r w h (only (not t) u) l) e

  -- as the code has it
  pub narrow-made : (w u : ℕ) → only (ltb w r.threshold) u ≡ only (not (spared r w)) u
  unfolding spared
  narrow-made w u = elim (le-or r.threshold w) [
    | inl p ↦ rw (le-ltb w r.threshold p, le-leb r.threshold w p) refl
    | inr p ↦ rw (lt-ltb w r.threshold p, lt-leb r.threshold w p) refl
  ]

  pub sliver_tall : (w h u l : ℕ) → spared r h ≡ true → (spared r w ≡ true → u ≡ 0) → sliver_of r w h u l ≡ u
  unfolding sliver_of spared
  sliver_tall w h u l e none =
      let q = leb-true r.threshold h e in
      elim (le-or r.threshold w) [
        | inl p ↦ rw (le-ltb (min w h) r.threshold (omega arith)) (sym (none (le-leb r.threshold w p)))
        | inr p ↦ rw (lt-ltb (min w h) r.threshold (omega arith)) (longer-upright w h u l (omega arith))
      ]

  pub sliver-low : (w h u l : ℕ) → spared r h ≡ false → sliver_of r w h u l ≡ longer w h u l
  unfolding sliver_of spared
  sliver-low w h u l e =
      let q = leb-false r.threshold h e in
      rw (lt-ltb (min w h) r.threshold (omega arith)) refl

  pub charge-least : (n : ℕ) → 1000 ≤ charge_of r n
  unfolding charge_of
  charge-least n = omega arith

  pub charge-most : (m n : ℕ) → m ≤ n → charge_of r m ≤ charge_of r n
  unfolding charge_of
  charge-most m n h = omega (arith, mul-le-mul_left r.weight h)

  pub charge-cut : (n a b : ℕ) → n ≤ a + b → charge_of r n ≤ charge_of r a + charge_of r b
  unfolding charge_of
  charge-cut n a b h = omega (arith, mul-le-mul_left r.weight h)

-- a greater threshold, and a greater weight
pub sliver_dearer : (r s : Rule) → r.threshold ≤ s.threshold → (w h u l : ℕ) → sliver_of r w h u l ≤ sliver_of s w h u l
unfolding sliver_of
sliver_dearer r s e w h u l = go (ltb (min w h) r.threshold) refl
  where
    go : (t : Bool) → ltb (min w h) r.threshold ≡ t → only t (longer w h u l) ≤ only (ltb (min w h) s.threshold) (longer w h u l)
    go false q = omega arith
    go true q =
        let z = ltb-true (min w h) r.threshold q in
        omega (arith, ap (λ b. only b (longer w h u l)) (lt-ltb (min w h) s.threshold (omega (arith, e, z))))

pub charge_dearer : (r s : Rule) → r.weight ≤ s.weight → (m n : ℕ) → m ≤ n → charge_of r m ≤ charge_of s n
unfolding charge_of
charge_dearer r s e m n h = omega (arith, mul-le-mul e h)
