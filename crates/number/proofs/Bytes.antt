-- The bytes of a number and the reading of a number are each other's inverse. Assumes nothing.
--
--   Stands s at l    == the bytes l stand in s at a place
--   stands_at        == what stands at a place, one byte of it
--   stands-join, stands-front, stands-back == the two parts of what stands at a place
--   stands-whole     == the whole of some bytes stands at their front
--   bytes_one, bytes-two, bytes-three == the cases of `number_bytes`
--   bytes-typed      == every list of numbers of the type u8 has `AllBytes`
--   bytes-length     == a number has 1 to 3 bytes
--   bytes-all        == each of them is a byte
--   number-back      == a number's bytes are read as that number, up to the place past them
--   number-only      == what is read as a number is that number's bytes: it has one form
--   number-onward    == a number that is read ends within the bytes, past its start
use Prim.Native.Nat.{ℕ, zero, suc, ◌+◌, ◌-◌, ◌*◌, ◌/◌, ◌%◌, ◌<◌, ◌≤◌}
use mathlib.Core.Path.{◌≡◌, ◌∙◌, subst, ap, ap₂, sym}
use mathlib.Core.List.{List, [], ◌∷◌, ◌++◌}
use native.Mathlib.Nat.{add-zero}
use native.Mathlib.Numerals.{add-one}
use native.Mathlib.Omega.{arith}
use lib.Dec.{ltb}
use lib.ListN.{length, get_or, take, drop, length-take, length-drop, length-append}
use lib.Seq.{drop-cons, get_or-take, get_or-drop, take-add, take-append_seam, drop-append_seam, take-take, take-length, drop-drop, drop_at}
use borrow.Author.Tests.{ltb-true, ltb-false, lt-ltb, le-ltb}
use mir.Syntax.{w8}
use mir.Val.{Fits}
use Rattle.number.specs.Reading.{read}
pub use Rattle.number.specs.Faults.{AllBytes}
use Rattle.number.specs.Faults.{GoesOn, worth}
use Rattle.number.specs.Number.{most, number, number_bytes}
use Rattle.number.proofs.Number.{cond_cases, goes_first, goes_at, sound_exactly, number-one, number-two, number-three}

pub bytes-typed : (s : List ℕ) → ((i : ℕ) → Fits w8 (get_or s i 0)) → AllBytes s
bytes-typed s h i = omega (arith, h i)

-- what stands at a place

abbrev pub Stands : List ℕ → ℕ → List ℕ → Type 0
Stands s at l = take (length l) (drop at s) ≡ l

module _ (s : List ℕ) (at : ℕ) (l : List ℕ) (e : Stands s at l) where
  pub stands_at : (i : ℕ) → i < length l → get_or s (at + i) 0 ≡ get_or l i 0
  stands_at i h = sym (get_or-drop at s i 0) ∙ sym (get_or-take (length l) (drop at s) i 0 h) ∙ ap (λ (m : List ℕ). get_or m i 0) e

  pub stands-first : 0 < length l → get_or s at 0 ≡ get_or l 0 0
  stands-first h = ap (λ i. get_or s i 0) (sym (add-zero at)) ∙ stands_at 0 h

  pub stands-room : length l ≤ length s - at
  stands-room = omega (arith, simp (length-take, length-drop) at (ap length e))

module _ (s : List ℕ) (at : ℕ) (a b : List ℕ) where
  -- the bytes at a place, in two parts
  two-parts : take (length (a ++ b)) (drop at s) ≡ take (length a) (drop at s) ++ take (length b) (drop (at + length a) s)
  two-parts =
      ap (λ n. take n (drop at s)) (length-append a b)
      ∙ take-add (length a) (length b) (drop at s)
      ∙ ap (λ (l : List ℕ). take (length a) (drop at s) ++ take (length b) l) (drop-drop (length a) at s)

  pub stands-join : Stands s at a → Stands s (at + length a) b → Stands s at (a ++ b)
  stands-join e f = two-parts ∙ ap₂ (λ (l m : List ℕ). l ++ m) e f

  module _ (e : Stands s at (a ++ b)) where
    pub stands-front : Stands s at a
    stands-front =
        sym (take-take (length a) (length (a ++ b)) (drop at s) (omega (arith, length-append a b)))
        ∙ ap (take (length a)) e
        ∙ take-append_seam a b

    pub stands-back : Stands s (at + length a) b
    stands-back =
        sym (drop_at (take (length a) (drop at s)) (take (length b) (drop (at + length a) s)) (length a) (ap length stands-front))
        ∙ ap (drop (length a)) (sym two-parts ∙ e)
        ∙ drop-append_seam a b

-- the whole of some bytes stands at their front
pub stands-whole : (s : List ℕ) → Stands s 0 s
stands-whole s = take-length s

-- the cases of a number's bytes

pub bytes_one : (n : ℕ) → n < 128 → number_bytes n ≡ n ∷ []
unfolding number_bytes
bytes_one n h = simp lt-ltb

pub bytes-two : (n : ℕ) → 128 ≤ n → n < 16384 → number_bytes n ≡ (128 + n % 128) ∷ n / 128 ∷ []
unfolding number_bytes
bytes-two n h k = simp (le-ltb, lt-ltb)

pub bytes-three : (n : ℕ) → 16384 ≤ n → number_bytes n ≡ (128 + n % 128) ∷ (128 + n / 128 % 128) ∷ n / 16384 ∷ []
unfolding number_bytes
bytes-three n h = let k : 128 ≤ n = omega arith in simp le-ltb

-- a number has one byte, two, or three
pub bytes_cases : (P : List ℕ → Type 0) (n : ℕ) → (n < 128 → P (n ∷ [])) → (128 ≤ n → n < 16384 → P ((128 + n % 128) ∷ n / 128 ∷ []))
    → (16384 ≤ n → P ((128 + n % 128) ∷ (128 + n / 128 % 128) ∷ n / 16384 ∷ [])) → P (number_bytes n)
unfolding number_bytes
bytes_cases P n f g h =
    cond_cases P (ltb n 128) _ _ (λ e. f (ltb-true n 128 e))
    (λ e. cond_cases P (ltb n 16384) _ _ (λ k. g (ltb-false n 128 e) (ltb-true n 16384 k)) (λ k. h (ltb-false n 16384 k)))

pub bytes-length : (n : ℕ) → (0 < length (number_bytes n)) × (length (number_bytes n) ≤ 3)
bytes-length n = bytes_cases (λ l. (0 < length l) × (length l ≤ 3)) n (λ h. omega arith) (λ h k. omega arith) (λ h. omega arith)

-- what is written are bytes
pub bytes-all : (n : ℕ) → n ≤ most → AllBytes (number_bytes n)
bytes-all n m =
    bytes_cases AllBytes n
    (λ h. byte_more n [] (omega arith) byte_none)
    (λ h k. byte_more (128 + n % 128) (n / 128 ∷ []) (omega arith) (byte_more (n / 128) [] (omega arith) byte_none))
    (λ h.
    byte_more (128 + n % 128) ((128 + n / 128 % 128) ∷ n / 16384 ∷ []) (omega arith)
    (byte_more (128 + n / 128 % 128) (n / 16384 ∷ []) (omega arith) (byte_more (n / 16384) [] (omega arith) byte_none)))
  where
    byte_none : AllBytes []
    byte_none i = omega arith

    byte_more : (b : ℕ) (l : List ℕ) → b < 256 → AllBytes l → AllBytes (b ∷ l)
    byte_more b l h k zero = omega arith
    byte_more b l h k (suc i) = k i

-- reading gives the number back
pub number-back : (s : List ℕ) (at n : ℕ) → n ≤ most → Stands s at (number_bytes n) → number s at ≡ read n (at + length (number_bytes n))
number-back s at n m =
    bytes_cases (λ l. Stands s at l → number s at ≡ read n (at + length l)) n
    (λ h e.
    let r = stands-room s at _ e in
    let a : get_or s at 0 ≡ n = stands-first s at _ e (omega arith) in
    sym (number-one s at (omega arith) (omega arith)) ∙ ap (λ v. read v (at + 1)) a)
    (λ h k e.
    let r = stands-room s at _ e in
    let a : get_or s at 0 ≡ 128 + n % 128 = stands-first s at _ e (omega arith) in
    let b : get_or s (at + 1) 0 ≡ n / 128 = stands_at s at _ e 1 (omega arith) in
    sym (number-two s at (omega arith) (omega arith) (omega arith) (omega arith) (omega arith) (omega arith)))
    (λ h e.
    let r = stands-room s at _ e in
    let a : get_or s at 0 ≡ 128 + n % 128 = stands-first s at _ e (omega arith) in
    let b : get_or s (at + 1) 0 ≡ 128 + n / 128 % 128 = stands_at s at _ e 1 (omega arith) in
    let d : get_or s (at + 2) 0 ≡ n / 16384 = stands_at s at _ e 2 (omega arith) in
    sym (number-three s at (omega arith) (omega arith) (omega arith) (omega arith) (omega arith) (omega arith) (omega arith) (omega arith)))

-- what was read has one form

-- the first bytes at a place, one by one
take_more : (s : List ℕ) (at n : ℕ) → at < length s → take (suc n) (drop at s) ≡ get_or s at 0 ∷ take n (drop (at + 1) s)
take_more s at n h = rw (add-one, drop-cons s at 0)

take-two : (s : List ℕ) (at : ℕ) → at + 1 < length s → take 2 (drop at s) ≡ get_or s at 0 ∷ get_or s (at + 1) 0 ∷ []
take-two s at h = take_more s at 1 (omega arith) ∙ ap (λ (l : List ℕ). get_or s at 0 ∷ l) (take_more s (at + 1) 0 h)

take-three : (s : List ℕ) (at : ℕ) → at + 2 < length s → take 3 (drop at s) ≡ get_or s at 0 ∷ get_or s (at + 1) 0 ∷ get_or s (at + 2) 0 ∷ []
take-three s at h =
    take_more s at 2 (omega arith)
    ∙ ap (λ (l : List ℕ). get_or s at 0 ∷ l) (take-two s (at + 1) (omega arith))
    ∙ ap (λ i. get_or s at 0 ∷ get_or s (at + 1) 0 ∷ get_or s i 0 ∷ []) (omega arith)

-- a number that is read: it is small enough, its bytes stand there, and the next place is past them
pub record Formed (s : List ℕ) (at n next : ℕ) : Type 0 where
  pub few : n ≤ most
  pub stands : Stands s at (number_bytes n)
  pub onward : next ≡ at + length (number_bytes n)

formed_by : (s : List ℕ) (at n next : ℕ) (l : List ℕ) → number_bytes n ≡ l → n ≤ most → Stands s at l → next ≡ at + length l → Formed s at n next
formed_by s at n next l e m st o =
    record { few = m; stands = subst (λ k. Stands s at k) (sym e) st; onward = o ∙ ap (λ (k : List ℕ). at + length k) (sym e) }

module _ (s : List ℕ) (at n next : ℕ) where
  formed_one : at < length s → get_or s at 0 < 128 → n ≡ get_or s at 0 → next ≡ at + 1 → Formed s at n next
  formed_one h a e o = formed_by s at n next _ (bytes_one n (omega arith) ∙ ap (λ v. v ∷ []) e) (omega arith) (take_more s at 0 h) o

  formed_two : at + 1 < length s → 128 ≤ get_or s at 0 → get_or s at 0 < 256 → 0 < get_or s (at + 1) 0 → get_or s (at + 1) 0 < 128
      → n ≡ (get_or s at 0 - 128) + 128 * get_or s (at + 1) 0 → next ≡ at + 2 → Formed s at n next
  formed_two h a a' z b e o =
      formed_by s at n next _
      (bytes-two n (omega arith) (omega arith) ∙ ap₂ (λ u v. u ∷ v ∷ []) (omega arith) (omega arith))
      (omega arith)
      (take-two s at h)
      o

  formed_three : at + 2 < length s → 128 ≤ get_or s at 0 → get_or s at 0 < 256 → 128 ≤ get_or s (at + 1) 0 → get_or s (at + 1) 0 < 256
      → 0 < get_or s (at + 2) 0 → get_or s (at + 2) 0 < 128
      → n ≡ (get_or s at 0 - 128) + 128 * (get_or s (at + 1) 0 - 128) + 16384 * get_or s (at + 2) 0 → next ≡ at + 3 → Formed s at n next
  formed_three h a a' b b' z d e o =
      formed_by s at n next _
      (bytes-three n (omega arith)
      ∙ ap₂ (λ u (l : List ℕ). u ∷ l) (omega arith) (ap₂ (λ u v. u ∷ v ∷ []) (omega arith) (omega arith)))
      (omega arith)
      (take-three s at h)
      o

module _ (s : List ℕ) (at : ℕ) {n next : ℕ} (bs : AllBytes s) where
  formed : (m : ℕ) → m < 3 → GoesOn s at m → at + m < length s → get_or s (at + m) 0 < 128 → (0 < m → 0 < get_or s (at + m) 0)
      → n ≡ worth s at m → next ≡ at + m + 1 → Formed s at n next
  unfolding worth
  formed zero h g k b f e o =
      formed_one s at n next (omega arith) (subst (λ i. get_or s i 0 < 128) (add-zero at) b) e (omega arith)
  formed (suc zero) h g k b f e o =
      let a = goes_first s at 0 g in formed_two s at n next k a.1 (bs at) (f (omega arith)) b e (omega arith)
  formed (suc (suc zero)) h g k d f e o =
      let a = goes_first s at 1 g in
      let b = goes_at s at 2 g 1 (omega arith) in
      let q : at + 2 ≡ at + 1 + 1 = omega arith in
      let w = ap (λ i. get_or s i 0) q in
      formed_three s at n next k a.1 (bs at) b.1 (bs (at + 1)) (f (omega arith)) d (omega (arith, w, e)) (omega arith)
  formed (suc (suc (suc m))) h g k b f e o = absurd (omega arith)

pub number-only : (s : List ℕ) (at : ℕ) {n next : ℕ} → AllBytes s → number s at ≡ read n next → Formed s at n next
number-only s at {n} {next} bs e =
    let k = (sound_exactly s at n next).0 e in
    formed s at bs k.before k.few k.goes k.there k.last k.fewest k.value k.past

-- a number that is read ends within the bytes, past its start
pub number-onward : (s : List ℕ) (at : ℕ) {n next : ℕ} → number s at ≡ read n next → (at < next) × (next ≤ length s) × (next ≤ at + 3)
number-onward s at {n} {next} e = let k = (sound_exactly s at n next).0 e in omega arith
