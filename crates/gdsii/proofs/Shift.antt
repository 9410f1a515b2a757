-- Laws of a signed number that is one less 2^31, and of differences in the integers. Assumes nothing.
--
--   sub_plus                      == a less b, plus d, is a plus d, less b
--   sub_same                      == two numbers of which the same is taken are the same where their differences are
--   signed-raise                  == a raised word less 2^31 is the word as a signed number
--   low_mag, low_narrow, low_wide == it fits 32 bits, and 64
--   low-is, low-back              == the difference is reckoned in 64 bits, and read back
use Prim.Native.Nat.{ℕ, suc, ◌+◌, ◌-◌, ◌<◌, ◌≤◌}
use mathlib.Core.Path.{◌≡◌, ◌∙◌, ap, refl}
use mathlib.Core.Bool.{Bool, true, false, cond}
use native.Mathlib.Omega.{arith}
use lib.Dec.{ltb}
use borrow.Author.Tests.{ltb-true, ltb-false}
use lib.IntN.{ℤ, pos, negsuc, sub_ℕ, ◌+ℤ◌, ◌-ℤ◌}
use lib.Signed.{mag}
use mir.Syntax.{w32, w64}
use mir.Val.{SFits, to_z, of_z}
use mir.ValLaws.{to_z_pos, to_z-of_z}
use Rattle.gdsii.specs.Boundary.{half, raise}

pub low_mag : (n : ℕ) → n < 4294967296 → mag (sub_ℕ n 2147483648) < 2147483648
low_mag n h = go (ltb n 2147483648) refl
  where
    go : (t : Bool) → ltb n 2147483648 ≡ t → mag (cond t (negsuc (2147483648 - suc n)) (pos (n - 2147483648))) < 2147483648
    go true e = omega (arith, ltb-true n 2147483648 e)
    go false e = omega (arith, ltb-false n 2147483648 e)

pub low_narrow : (n : ℕ) → n < 4294967296 → SFits w32 (sub_ℕ n 2147483648)
low_narrow n h = record { sfits = low_mag n h }

pub low_wide : (n : ℕ) → n < 4294967296 → SFits w64 (sub_ℕ n 2147483648)
low_wide n h = record { sfits = omega (arith, low_mag n h) }

pub low-is : (n : ℕ) → n < 4294967296 → to_z w64 n -ℤ pos 2147483648 ≡ sub_ℕ n 2147483648
low-is n h = ap (λ (z : ℤ). z -ℤ pos 2147483648) (to_z_pos w64 n (omega arith))

pub low-back : (n : ℕ) → n < 4294967296 → to_z w64 (of_z w64 (to_z w64 n -ℤ pos 2147483648)) ≡ sub_ℕ n 2147483648
low-back n h = ap (λ (z : ℤ). to_z w64 (of_z w64 z)) (low-is n h) ∙ to_z-of_z w64 (sub_ℕ n 2147483648) (low_wide n h)

-- Differences

pub sub_plus : (a b d : ℕ) → sub_ℕ a b +ℤ pos d ≡ sub_ℕ (a + d) b
sub_plus a b d = go (ltb a b) refl
  where
    -- below 0 at first: it may get above
    under : a < b → (p : Bool) → ltb d (suc (b - suc a)) ≡ p → (q : Bool) → ltb (a + d) b ≡ q
        → cond p (negsuc (suc (b - suc a) - suc d)) (pos (d - suc (b - suc a))) ≡ cond q (negsuc (b - suc (a + d))) (pos (a + d - b))
    under h true e true f = let z : suc (b - suc a) - suc d ≡ b - suc (a + d) = omega arith in ap negsuc z
    under h true e false f = absurd (omega (arith, ltb-true d (suc (b - suc a)) e, ltb-false (a + d) b f))
    under h false e true f = absurd (omega (arith, ltb-false d (suc (b - suc a)) e, ltb-true (a + d) b f))
    under h false e false f = let z : d - suc (b - suc a) ≡ a + d - b = omega (arith, ltb-false (a + d) b f) in ap pos z

    over : b ≤ a → (q : Bool) → ltb (a + d) b ≡ q → pos (a - b + d) ≡ cond q (negsuc (b - suc (a + d))) (pos (a + d - b))
    over h true f = absurd (omega (arith, ltb-true (a + d) b f))
    over h false f = let z : a - b + d ≡ a + d - b = omega arith in ap pos z

    go : (t : Bool) → ltb a b ≡ t → cond t (negsuc (b - suc a)) (pos (a - b)) +ℤ pos d ≡ sub_ℕ (a + d) b
    go true e = under (ltb-true a b e) (ltb d (suc (b - suc a))) refl (ltb (a + d) b) refl
    go false e = over (ltb-false a b e) (ltb (a + d) b) refl

pub sub_same : (a b h : ℕ) → sub_ℕ a h ≡ sub_ℕ b h → a ≡ b
sub_same a b h e = go (ltb a h) refl (ltb b h) refl e
  where
    go : (p : Bool) → ltb a h ≡ p → (q : Bool) → ltb b h ≡ q
        → cond p (negsuc (h - suc a)) (pos (a - h)) ≡ cond q (negsuc (h - suc b)) (pos (b - h)) → a ≡ b
    go true x true y f =
        let z : h - suc a ≡ h - suc b = cc in omega (arith, ltb-true a h x, ltb-true b h y)
    go true x false y f = absurd (never f)
      where
        never : {m n : ℕ} → negsuc m ≡ pos n → ⊥
        never e = let z : ◌≡◌ {A = ℕ} 0 1 = cc in omega arith
    go false x true y f = absurd (never f)
      where
        never : {m n : ℕ} → pos m ≡ negsuc n → ⊥
        never e = let z : ◌≡◌ {A = ℕ} 0 1 = cc in omega arith
    go false x false y f =
        let z : a - h ≡ b - h = cc in omega (arith, ltb-false a h x, ltb-false b h y)

pub signed-raise : (v : ℕ) → sub_ℕ (raise v) half ≡ cond (ltb v 2147483648) (pos v) (sub_ℕ v 4294967296)
unfolding raise
signed-raise v = go (ltb v 2147483648) refl
  where
    upper : 2147483648 ≤ v → (p : Bool) → ltb (v - 2147483648) 2147483648 ≡ p → (q : Bool) → ltb v 4294967296 ≡ q
        → cond p (negsuc (2147483648 - suc (v - 2147483648))) (pos (v - 2147483648 - 2147483648)) ≡ cond q (negsuc (4294967296 - suc v)) (pos (v - 4294967296))
    upper h true e true f = let z : 2147483648 - suc (v - 2147483648) ≡ 4294967296 - suc v = omega arith in ap negsuc z
    upper h true e false f = absurd (omega (arith, ltb-true (v - 2147483648) 2147483648 e, ltb-false v 4294967296 f))
    upper h false e true f = absurd (omega (arith, ltb-false (v - 2147483648) 2147483648 e, ltb-true v 4294967296 f))
    upper h false e false f = let z : v - 2147483648 - 2147483648 ≡ v - 4294967296 = omega arith in ap pos z

    lower : (p : Bool) → ltb (v + 2147483648) 2147483648 ≡ p
        → cond p (negsuc (2147483648 - suc (v + 2147483648))) (pos (v + 2147483648 - 2147483648)) ≡ pos v
    lower true e = absurd (omega (arith, ltb-true (v + 2147483648) 2147483648 e))
    lower false e = let z : v + 2147483648 - 2147483648 ≡ v = omega arith in ap pos z

    go : (t : Bool) → ltb v 2147483648 ≡ t
        → sub_ℕ (cond t (v + 2147483648) (v - 2147483648)) 2147483648 ≡ cond t (pos v) (sub_ℕ v 4294967296)
    go true e = lower (ltb (v + 2147483648) 2147483648) refl
    go false e = upper (ltb-false v 2147483648 e) (ltb (v - 2147483648) 2147483648) refl (ltb v 4294967296) refl
