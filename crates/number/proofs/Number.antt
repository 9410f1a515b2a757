-- The number reader, exactly, and its laws. Assumes nothing.
--
--   cond_cases       == what holds of both ways that a test can go
--   Shown s at r p   == what byte the place p is, where the number at a place is refused by r
--   fault_byte       == a fault of a number shows the byte at fault: 8 the end of the bytes, 9 a zero byte past the number's first, 10 the
--                       number's third byte, whose top bit is set
--   number-told      == what reading a number finds is what the scope's words say of the bytes there
--   number-none      == no byte at the place
--   number-one, number-two, number-three == a number of so many bytes
--   number-ends-two, number-ends-three   == the bytes end before the second, the third byte
--   number_padded_two, number_padded_three == the last byte is 0 and not the only one
--   number-fourth    == the third byte says that a fourth follows
--   goes_first, goes_at == the bytes that have their top bit set, the first, and one of them
--   number_exactly   == reading a number finds u exactly when the bytes say u: the fault r with the offset p exactly when r's condition
--                       holds and p is the byte at fault, and a value with the place past it exactly when a sound number stands there
--   fault_exactly, sound_exactly == the same of a fault, and of a number
--   faulty_one       == the conditions of two refusals never hold of one number, and one byte is at fault
--   none_faulty      == a sound number stands there exactly when no condition holds
--   number-zero      == a number that is 0 is a byte 0
--   apart            == a value is no fault
--   passed           == what an answer tells where `?` has handed an error on
--   fault_one        == two faults that tell the same are the same
--   read_one         == two answers of the reader that tell the same are the same
use Prim.Native.Nat.{ℕ, zero, suc, ◌+◌, ◌-◌, ◌*◌, ◌<◌, ◌≤◌}
use mathlib.Core.Path.{◌≡◌, ◌∙◌, refl, sym, subst, ap, ap₂}
use mathlib.Core.Logic.{◌↔◌}
use mathlib.Core.List.{List}
use mathlib.Core.Bool.{Bool, true, false, cond}
use native.Mathlib.Nat.{add-zero, not-suc-le-zero}
use native.Mathlib.Omega.{arith}
use lib.Dec.{ltb, leb, eqb}
use Rattle.std.specs.Prelude.{Result, Ok, Err, IsErrAnd}
use Rattle.std.proofs.lemmas.Result.{err_from_is_err_and}
use lib.ListN.{length, get_or}
use borrow.Author.Tests.{ltb-true, ltb-false, leb-true, leb-false, eqb-true, eqb-false, le-ltb, lt-ltb, le-leb, lt-leb, eq-eqb, ne_eqb}
use Rattle.refusal.specs.declared.Refusal.{Refusal}
use Rattle.refusal.specs.declared.Refusal.TheVariants as because
use Rattle.refusal.specs.declared.Refusal.TheVariants.{Ends, Padded, Range}
use Rattle.refusal.specs.declared.Fault.{Fault}
use Rattle.number.specs.declared.Read.{Read}
use Rattle.number.specs.Reading.{Reading, read, fault}
use Rattle.number.specs.Number.{number, read_told}
use Rattle.number.specs.Faults.{GoesOn, Faulty, worth, Sound, Told}

pub cond_cases : {A : Type 0} (P : A → Type 0) (b : Bool) (x y : A) → (b ≡ true → P x) → (b ≡ false → P y) → P (cond b x y)
cond_cases P true x y f g = f refl
cond_cases P false x y f g = g refl

-- a value and a fault are never the same
pub apart : {A : Type 0} {a : A} {n p : ℕ} {r : Refusal} → read a n ≡ fault r p → ⊥
apart e = let z : ◌≡◌ {A = ℕ} 0 1 = cc in omega arith

-- The byte at fault

pub data Shown (s : List ℕ) (at : ℕ) : Refusal → ℕ → Type 0 where
  -- the bytes end there
  end_of_bytes : {p : ℕ} → p ≡ length s → Shown s at because.Ends p
  -- it is 0, and not the number's first
  zero_byte : {p : ℕ} → at < p → p < length s → get_or s p 0 ≡ 0 → Shown s at because.Padded p
  -- it is the number's third, and its top bit is set
  third_byte : {p : ℕ} → p ≡ at + 2 → p < length s → 128 ≤ get_or s p 0 → Shown s at because.Range p

module _ (s : List ℕ) (at : ℕ) where
  abbrev ShownBy : Reading ℕ → Type 0
  ShownBy (read v next) = Unit {0}
  ShownBy (fault r p) = Shown s at r p

  pub fault_byte : {r : Refusal} {p : ℕ} → number s at ≡ fault r p → Shown s at r p
  unfolding number
  fault_byte e =
      subst ShownBy e
      (cond_cases ShownBy (leb (length s) at) _ _ (λ f. end_of_bytes refl)
      (λ f. cond_cases ShownBy (ltb (get_or s at 0) 128) _ _ (λ a. tt)
      (λ a. cond_cases ShownBy (leb (length s) (at + 1)) _ _ (λ k. end_of_bytes refl)
      (λ k. cond_cases ShownBy (eqb (get_or s (at + 1) 0) 0) _ _
      (λ z. zero_byte (omega arith) (leb-false (length s) (at + 1) k) (eqb-true (get_or s (at + 1) 0) 0 z))
      (λ z. cond_cases ShownBy (ltb (get_or s (at + 1) 0) 128) _ _ (λ b. tt)
      (λ b. cond_cases ShownBy (leb (length s) (at + 2)) _ _ (λ m. end_of_bytes refl)
      (λ m. let h = leb-false (length s) (at + 2) m in
      cond_cases ShownBy (leb 128 (get_or s (at + 2) 0)) _ _ (λ d. third_byte refl h (leb-true 128 (get_or s (at + 2) 0) d))
      (λ d. cond_cases ShownBy (eqb (get_or s (at + 2) 0) 0) _ _
      (λ w. zero_byte (omega arith) h (eqb-true (get_or s (at + 2) 0) 0 w)) (λ w. tt)))))))))

-- What is found is so

module _ (s : List ℕ) (at : ℕ) where
  goes_none : GoesOn s at 0
  unfolding GoesOn
  goes_none i h = absurd (not-suc-le-zero h)

  goes-more : (n : ℕ) → GoesOn s at n → at + n < length s → 128 ≤ get_or s (at + n) 0 → GoesOn s at (suc n)
  unfolding GoesOn
  goes-more n g h k i q = go (ltb i n) refl
    where
      go : (b : Bool) → ltb i n ≡ b → (at + i < length s) × (128 ≤ get_or s (at + i) 0)
      go true e = g i (ltb-true i n e)
      go false e =
          let z : n ≡ i = omega (arith, ltb-false i n e) in
          subst (λ j. (at + j < length s) × (128 ≤ get_or s (at + j) 0)) z (h, k)

  module _ (h : at < length s) (a : 128 ≤ get_or s at 0) where
    goes_one : GoesOn s at 1
    goes_one = goes-more 0 goes_none (omega arith) (rw add-zero a)

    module _ (k : at + 1 < length s) (b : 128 ≤ get_or s (at + 1) 0) where
      goes-two : GoesOn s at 2
      goes-two = goes-more 1 goes_one k b

  sound-one : at < length s → get_or s at 0 < 128 → Sound s at (get_or s at 0) (at + 1)
  unfolding worth
  sound-one h a =
      record {
        before = 0;
        few = omega arith;
        goes = goes_none;
        there = omega arith;
        last = rw add-zero a;
        fewest = λ z. absurd (not-suc-le-zero z);
        value = refl;
        past = omega arith;
      }

  sound-two : at < length s → 128 ≤ get_or s at 0 → at + 1 < length s → 0 < get_or s (at + 1) 0 → get_or s (at + 1) 0 < 128
      → Sound s at ((get_or s at 0 - 128) + 128 * get_or s (at + 1) 0) (at + 2)
  unfolding worth
  sound-two h a k z b =
      record {
        before = 1;
        few = omega arith;
        goes = goes_one h a;
        there = k;
        last = b;
        fewest = λ q. z;
        value = refl;
        past = omega arith;
      }

  sound-three : at < length s → 128 ≤ get_or s at 0 → at + 1 < length s → 128 ≤ get_or s (at + 1) 0 → at + 2 < length s
      → 0 < get_or s (at + 2) 0 → get_or s (at + 2) 0 < 128
      → Sound s at ((get_or s at 0 - 128) + 128 * (get_or s (at + 1) 0 - 128) + 16384 * get_or s (at + 2) 0) (at + 3)
  unfolding worth
  sound-three h a k b m z d =
      let p : at + 2 ≡ at + 1 + 1 = omega arith in
      let q = ap (λ i. get_or s i 0) p in
      record {
        before = 2;
        few = omega arith;
        goes = goes-two h a k b;
        there = m;
        last = d;
        fewest = λ q. z;
        value = omega (arith, q);
        past = omega arith;
      }

-- each condition, by how many bytes stand before the one at fault
module _ (s : List ℕ) (at n : ℕ) (h : n < 3) (g : GoesOn s at n) where
  ends_so : length s ≤ at + n → Faulty s at Ends (length s)
  unfolding Faulty
  ends_so e = (n, h, g, e, refl)

  padded_so : 0 < n → at + n < length s → get_or s (at + n) 0 ≡ 0 → Faulty s at Padded (at + n)
  unfolding Faulty
  padded_so p k z = (n, p, h, g, k, z, refl)

fourth_so : (s : List ℕ) (at : ℕ) → GoesOn s at 2 → at + 2 < length s → 128 ≤ get_or s (at + 2) 0 → Faulty s at Range (at + 2)
unfolding Faulty
fourth_so s at g m d = (goes-more s at 2 g m d, refl)

pub number-told : (s : List ℕ) (at : ℕ) → Told s at (number s at)
unfolding number
number-told s at =
    cond_cases (Told s at) (leb (length s) at) _ _
    (λ e. ends_so s at 0 (omega arith) (goes_none s at) (omega (arith, leb-true (length s) at e)))
    (λ e. let h = leb-false (length s) at e in
    cond_cases (Told s at) (ltb (get_or s at 0) 128) _ _
    (λ f. sound-one s at h (ltb-true (get_or s at 0) 128 f))
    (λ f. let a = ltb-false (get_or s at 0) 128 f in
    cond_cases (Told s at) (leb (length s) (at + 1)) _ _
    (λ g. ends_so s at 1 (omega arith) (goes_one s at h a) (leb-true (length s) (at + 1) g))
    (λ g. let k = leb-false (length s) (at + 1) g in
    cond_cases (Told s at) (eqb (get_or s (at + 1) 0) 0) _ _
    (λ z. padded_so s at 1 (omega arith) (goes_one s at h a) (omega arith) k (eqb-true (get_or s (at + 1) 0) 0 z))
    (λ z. let y = some (get_or s (at + 1) 0) (eqb-false (get_or s (at + 1) 0) 0 z) in
    cond_cases (Told s at) (ltb (get_or s (at + 1) 0) 128) _ _
    (λ i. sound-two s at h a k y (ltb-true (get_or s (at + 1) 0) 128 i))
    (λ i. let b = ltb-false (get_or s (at + 1) 0) 128 i in
    cond_cases (Told s at) (leb (length s) (at + 2)) _ _
    (λ j. ends_so s at 2 (omega arith) (goes-two s at h a k b) (leb-true (length s) (at + 2) j))
    (λ j. let m = leb-false (length s) (at + 2) j in
    cond_cases (Told s at) (leb 128 (get_or s (at + 2) 0)) _ _
    (λ d. fourth_so s at (goes-two s at h a k b) m (leb-true 128 (get_or s (at + 2) 0) d))
    (λ d. let c = leb-false 128 (get_or s (at + 2) 0) d in
    cond_cases (Told s at) (eqb (get_or s (at + 2) 0) 0) _ _
    (λ w. padded_so s at 2 (omega arith) (goes-two s at h a k b) (omega arith) m (eqb-true (get_or s (at + 2) 0) 0 w))
    (λ w. sound-three s at h a k b m (some (get_or s (at + 2) 0) (eqb-false (get_or s (at + 2) 0) 0 w)) c))))))))
  where
    some : (n : ℕ) → (n ≡ 0 → ⊥) → 0 < n
    some zero h = absurd (h refl)
    some (suc n) h = omega arith

-- What is so is found

module _ (s : List ℕ) (at : ℕ) where
  pub number-none : length s ≤ at → fault Ends (length s) ≡ number s at
  unfolding number
  number-none h = simp le-leb

  module _ (h : at < length s) where
    pub number-one : get_or s at 0 < 128 → read (get_or s at 0) (at + 1) ≡ number s at
    unfolding number
    number-one k = simp (lt-leb, lt-ltb)

    module _ (a : 128 ≤ get_or s at 0) where
      pub number-ends-two : length s ≤ at + 1 → fault Ends (length s) ≡ number s at
      unfolding number
      number-ends-two k = simp (lt-leb, le-ltb, le-leb)

      module _ (k : at + 1 < length s) where
        pub number_padded_two : get_or s (at + 1) 0 ≡ 0 → fault Padded (at + 1) ≡ number s at
        unfolding number
        number_padded_two z = simp (lt-leb, le-ltb, eq-eqb)

        pub number-two : {v : ℕ} → 0 < get_or s (at + 1) 0 → get_or s (at + 1) 0 < 128 → v ≡ (get_or s at 0 - 128) + 128 * get_or s (at + 1) 0
            → read v (at + 2) ≡ number s at
        unfolding number
        number-two z b e =
            ap (λ v. read v (at + 2)) e ∙ simp (lt-leb, le-ltb, lt-ltb, ne_eqb (get_or s (at + 1) 0) 0 (λ q. omega arith))

        module _ (b : 128 ≤ get_or s (at + 1) 0) where
          pub number-ends-three : length s ≤ at + 2 → fault Ends (length s) ≡ number s at
          unfolding number
          number-ends-three m = simp (lt-leb, le-ltb, le-leb, ne_eqb (get_or s (at + 1) 0) 0 (λ q. omega arith))

          module _ (m : at + 2 < length s) where
            pub number-fourth : 128 ≤ get_or s (at + 2) 0 → fault Range (at + 2) ≡ number s at
            unfolding number
            number-fourth d = simp (lt-leb, le-ltb, le-leb, ne_eqb (get_or s (at + 1) 0) 0 (λ q. omega arith))

            pub number_padded_three : get_or s (at + 2) 0 ≡ 0 → fault Padded (at + 2) ≡ number s at
            unfolding number
            number_padded_three z =
                let d : get_or s (at + 2) 0 < 128 = omega arith in
                simp (lt-leb, le-ltb, eq-eqb, ne_eqb (get_or s (at + 1) 0) 0 (λ q. omega arith))

            pub number-three : {v : ℕ} → 0 < get_or s (at + 2) 0 → get_or s (at + 2) 0 < 128
                → v ≡ (get_or s at 0 - 128) + 128 * (get_or s (at + 1) 0 - 128) + 16384 * get_or s (at + 2) 0
                → read v (at + 3) ≡ number s at
            unfolding number
            number-three z d e =
                ap (λ v. read v (at + 3)) e
                ∙ simp (lt-leb, le-ltb, ne_eqb (get_or s (at + 1) 0) 0 (λ q. omega arith), ne_eqb (get_or s (at + 2) 0) 0 (λ q. omega arith))

module _ (s : List ℕ) (at : ℕ) where
  pub goes_first : (n : ℕ) → GoesOn s at (suc n) → (at < length s) × (128 ≤ get_or s at 0)
  unfolding GoesOn
  goes_first n g = let a = g 0 (omega arith) in (omega (arith, a.0), subst (λ i. 128 ≤ get_or s i 0) (add-zero at) a.1)

  pub goes_at : (n : ℕ) → GoesOn s at n → (i : ℕ) → i < n → (at + i < length s) × (128 ≤ get_or s (at + i) 0)
  unfolding GoesOn
  goes_at n g = g

  ends-told : (n : ℕ) → n < 3 → GoesOn s at n → length s ≤ at + n → fault Ends (length s) ≡ number s at
  ends-told zero h g e = number-none s at (omega arith)
  ends-told (suc zero) h g e = let a = goes_first 0 g in number-ends-two s at a.0 a.1 e
  ends-told (suc (suc zero)) h g e =
      let a = goes_first 1 g in let b = goes_at 2 g 1 (omega arith) in number-ends-three s at a.0 a.1 b.0 b.1 e
  ends-told (suc (suc (suc n))) h g e = absurd (omega arith)

  padded_told : (n : ℕ) → 0 < n → n < 3 → GoesOn s at n → at + n < length s → get_or s (at + n) 0 ≡ 0 → fault Padded (at + n) ≡ number s at
  padded_told zero p h g k z = absurd (omega arith)
  padded_told (suc zero) p h g k z = let a = goes_first 0 g in number_padded_two s at a.0 a.1 k z
  padded_told (suc (suc zero)) p h g k z =
      let a = goes_first 1 g in let b = goes_at 2 g 1 (omega arith) in number_padded_three s at a.0 a.1 b.0 b.1 k z
  padded_told (suc (suc (suc n))) p h g k z = absurd (omega arith)

  faulty_told : (r : Refusal) (p : ℕ) → Faulty s at r p → fault r p ≡ number s at
  unfolding Faulty
  faulty_told because.Ends p f = ap (fault because.Ends) f.4 ∙ ends-told f.0 f.1 f.2 f.3
  faulty_told because.Padded p f = ap (fault because.Padded) f.6 ∙ padded_told f.0 f.1 f.2 f.3 f.4 f.5
  faulty_told because.Range p f =
      let g = f.0 in
      let a = goes_first 2 g in
      let b = goes_at 3 g 1 (omega arith) in
      let d = goes_at 3 g 2 (omega arith) in
      ap (fault because.Range) f.1 ∙ number-fourth s at a.0 a.1 b.0 b.1 d.0 d.1
  faulty_told because.Rule p f = absurd f
  faulty_told because.Length p f = absurd f
  faulty_told because.Slanted p f = absurd f
  faulty_told because.Unturned p f = absurd f
  faulty_told because.Empty p f = absurd f
  faulty_told because.Table p f = absurd f
  faulty_told because.List p f = absurd f
  faulty_told because.Extra p f = absurd f
  faulty_told because.Long p f = absurd f
  faulty_told because.Missing p f = absurd f
  faulty_told because.Room p f = absurd f
  faulty_told because.Preset p f = absurd f
  faulty_told because.Record p f = absurd f
  faulty_told because.Unclosed p f = absurd f
  faulty_told because.Extent p f = absurd f
  faulty_told because.Largest p f = absurd f
  faulty_told because.Full p f = absurd f
  faulty_told because.Shots p f = absurd f
  faulty_told because.Text p f = absurd f
  faulty_told because.Edge p f = absurd f

  module _ {v next : ℕ} where
    sound-by : (n : ℕ) → n < 3 → GoesOn s at n → at + n < length s → get_or s (at + n) 0 < 128 → (0 < n → 0 < get_or s (at + n) 0)
        → v ≡ worth s at n → next ≡ at + n + 1 → read v next ≡ number s at
    unfolding worth
    sound-by zero h g k b f e o =
        let p : next ≡ at + 1 = omega arith in
        ap₂ read e p ∙ number-one s at (omega arith) (subst (λ i. get_or s i 0 < 128) (add-zero at) b)
    sound-by (suc zero) h g k b f e o =
        let a = goes_first 0 g in
        let p : next ≡ at + 2 = omega arith in
        ap (read v) p ∙ number-two s at a.0 a.1 k (f (omega arith)) b e
    sound-by (suc (suc zero)) h g k d f e o =
        let a = goes_first 1 g in
        let b = goes_at 2 g 1 (omega arith) in
        let p : next ≡ at + 3 = omega arith in
        let q : at + 2 ≡ at + 1 + 1 = omega arith in
        let w = ap (λ i. get_or s i 0) q in
        ap (read v) p ∙ number-three s at a.0 a.1 b.0 b.1 k (f (omega arith)) d (omega (arith, w, e))
    sound-by (suc (suc (suc n))) h g k b f e o = absurd (omega arith)

  told-number : (u : Reading ℕ) → Told s at u → number s at ≡ u
  told-number (read v next) k = sym (sound-by k.before k.few k.goes k.there k.last k.fewest k.value k.past)
  told-number (fault r p) k = sym (faulty_told r p k)

  -- Exactly when

  pub number_exactly : (u : Reading ℕ) → (number s at ≡ u) ↔ Told s at u
  number_exactly u = ((λ e. subst (Told s at) e (number-told s at)), told-number u)

  pub fault_exactly : (r : Refusal) (p : ℕ) → (number s at ≡ fault r p) ↔ Faulty s at r p
  fault_exactly r p = number_exactly (fault r p)

  pub sound_exactly : (v next : ℕ) → (number s at ≡ read v next) ↔ Sound s at v next
  sound_exactly v next = number_exactly (read v next)

  pub faulty_one : (r t : Refusal) (p q : ℕ) → Faulty s at r p → Faulty s at t q → (r ≡ t) × (p ≡ q)
  faulty_one r t p q f g =
      let e = faulty_told r p f ∙ sym (faulty_told t q g) in
      let a : r ≡ t = cc in
      let b : p ≡ q = cc in
      (a, b)

  pub none_faulty : ((r : Refusal) (p : ℕ) → Faulty s at r p → ⊥) ↔ ((v : ℕ) × (next : ℕ) × Sound s at v next)
  none_faulty = (go (number s at) (number-told s at), λ k r p f. apart (sym ((sound_exactly k.0 k.1).1 k.2) ∙ sym (faulty_told r p f)))
    where
      go : (u : Reading ℕ) → Told s at u → ((r : Refusal) (p : ℕ) → Faulty s at r p → ⊥) → (v : ℕ) × (next : ℕ) × Sound s at v next
      go (read v next) k f = (v, next, k)
      go (fault r p) k f = absurd (f r p k)

-- a number is 0 only where a byte 0 stands

module _ (s : List ℕ) where
  worth-some : (n at : ℕ) → 0 < get_or s (at + n) 0 → 0 < worth s at n
  unfolding worth
  worth-some zero at h = subst (λ i. 0 < get_or s i 0) (add-zero at) h
  worth-some (suc n) at h =
      let p : at + suc n ≡ at + 1 + n = omega arith in
      let w = worth-some n (at + 1) (subst (λ i. 0 < get_or s i 0) p h) in
      omega (arith, w)

  zero-by : (at n : ℕ) → at + n < length s → (0 < n → 0 < get_or s (at + n) 0) → 0 ≡ worth s at n → (at < length s) × (get_or s at 0 ≡ 0)
  unfolding worth
  zero-by at zero h f e = (omega arith, sym e)
  zero-by at (suc n) h f e = absurd (omega (arith, worth-some (suc n) at (f (omega arith)), e))

  pub number-zero : (at : ℕ) {next : ℕ} → number s at ≡ read 0 next → (at < length s) × (get_or s at 0 ≡ 0)
  number-zero at {next} e = let k = (sound_exactly s at 0 next).0 e in zero-by at k.before k.there k.fewest k.value

-- what an answer tells where `?` has handed an error on: that error
pub passed : {A E B : Type 0} (tell : Result A E → B) {e : E} {r : Result A E} {b : B} → IsErrAnd r (λ d. d ≡ e) → tell (Err e) ≡ b
    → tell r ≡ b
passed tell {e} {r} h told = let p = err_from_is_err_and r h in ap tell (p.1 ∙ ap Err p.2) ∙ told

-- two faults that tell the same are the same
pub fault_one : {A : Type 0} (d e : Fault) → ◌≡◌ {A = Reading A} (fault d.why d.at) (fault e.why e.at) → d ≡ e
fault_one d e same =
    let a : d.why ≡ e.why = cc in
    let b : d.at ≡ e.at = cc in
    ap₂ (λ (r : Refusal) (p : ℕ). record { why = r; at = p }) a b

-- two answers of the reader that tell the same are the same
pub read_one : (u v : Result Read Fault) → read_told u ≡ read_told v → u ≡ v
read_one (Ok r) (Ok t) e =
    let p : r.value ≡ t.value = cc in
    let q : r.next.at ≡ t.next.at = cc in
    ap₂ (λ (k a : ℕ). Ok (record { value = k; next = record { at = a } })) p q
read_one (Ok r) (Err d) e = absurd (apart e)
read_one (Err d) (Ok r) e = absurd (apart (sym e))
read_one (Err d) (Err d') e = ap Err (fault_one d d' e)
