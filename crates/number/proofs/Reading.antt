-- Laws of readings: one after another, and many. Assumes nothing.
--
--   then_same        == what follows a reading goes by what it found
--   then_assoc, then_ext, then-end == what follows what follows; what follows the same way; what follows and does nothing
--   past-then        == the place past a reading stays where only its value is put to use
--   many-none, many_go, many-fault, many-cons == the ways that reading n + 1 in a row can go
--   many_more, many-stop == the same by the place that reading got to
--   one-less         == how many of n are left after i, by those left after one more
--   many-more-left, many-stop-left, many-done-left == the same once more, by how many of n are left after i
--   past-fault, past-read == a reading, by the place that it got to
--   many-first, many-length == what many in a row begin with, and how many they are
--   many-nth         == one of many: those before it are read, and then it
--   many-onward      == many in a row go on within the bytes where each does
--   then_inv         == a reading after another that found something: both did
use Prim.Native.Nat.{ℕ, zero, suc, ◌+◌, ◌-◌, ◌<◌, ◌≤◌}
use mathlib.Core.Path.{◌≡◌, ◌∙◌, refl, sym, ap, ap₂}
use mathlib.Core.List.{List, [], ◌∷◌}
use native.Mathlib.Omega.{arith}
use native.Mathlib.Nat.{le_of_suc-le-suc, not-suc-le-zero}
use lib.ListN.{length, get_or}
use Rattle.refusal.specs.declared.Refusal.{Refusal}
use Rattle.number.specs.Reading.{Reading, read, fault, and_then, many, past}
use Rattle.number.proofs.Number.{apart}

module _ {A : Type 0} where
  -- where a reading got to, and what it then found
  pub past-fault : (u : Reading A) {r : Refusal} {p : ℕ} → fault r p ≡ past u → u ≡ fault r p
  past-fault (read a next) e = absurd (apart (sym e))
  past-fault (fault t q) {r} {p} e = let k : t ≡ r = cc in let m : q ≡ p = cc in ap₂ fault k m

  pub past-read : (u : Reading A) {n : ℕ} → read tt n ≡ past u → (a : A) × (u ≡ read a n)
  past-read (read a next) {n} e = let z : next ≡ n = cc in (a, ap (read a) z)
  past-read (fault r p) e = absurd (apart e)

module _ {A B : Type 0} where
  pub then_same : (f : A → ℕ → Reading B) {u v : Reading A} → u ≡ v → and_then u f ≡ and_then v f
  then_same f e = ap (λ u. and_then u f) e

  pub past-then : (f : A → B) (r : Reading A) → past (and_then r (λ a next. read (f a) next)) ≡ past r
  past-then f (read a next) = refl
  past-then f (fault r p) = refl

  -- a reading that went on to the end
  pub then_inv : (f : A → ℕ → Reading B) (u : Reading A) {b : B} {last : ℕ} → and_then u f ≡ read b last
      → (a : A) × (next : ℕ) × (u ≡ read a next) × (f a next ≡ read b last)
  then_inv f (read a next) e = (a, next, refl, e)
  then_inv f (fault r p) e = absurd (apart (sym e))

module _ {A B C : Type 0} where
  pub then_assoc : (u : Reading A) (f : A → ℕ → Reading B) (g : B → ℕ → Reading C)
      → and_then (and_then u f) g ≡ and_then u (λ a n. and_then (f a n) g)
  then_assoc (read a n) f g = refl
  then_assoc (fault r p) f g = refl

module _ {A B : Type 0} where
  pub then_ext : (u : Reading A) (f g : A → ℕ → Reading B) → ((a : A) (n : ℕ) → u ≡ read a n → f a n ≡ g a n) → and_then u f ≡ and_then u g
  then_ext (read a n) f g h = h a n refl
  then_ext (fault r p) f g h = refl

pub then-end : (u : Reading (Unit {0})) → and_then u (λ t next. read tt next) ≡ u
then-end (read t next) = refl
then-end (fault r p) = refl

pub one_less : (n i : ℕ) → i < n → n - i ≡ suc (n - (i + 1))
one_less n i h = omega arith

module _ {A : Type 0} (f : ℕ → Reading A) (at : ℕ) where
  pub many-none : many f 0 at ≡ read [] at
  unfolding many
  many-none = refl

  onward : (n : ℕ) → A → ℕ → Reading (List A)
  onward n a next = and_then (many f n next) (λ l last. read (a ∷ l) last)

  pub many_go : (n : ℕ) {a : A} {next : ℕ} → f at ≡ read a next
      → many f (suc n) at ≡ and_then (many f n next) (λ l last. read (a ∷ l) last)
  unfolding many onward
  many_go n e = then_same (onward n) e

  pub many-fault : (n : ℕ) {r : Refusal} {p : ℕ} → f at ≡ fault r p → many f (suc n) at ≡ fault r p
  unfolding many onward
  many-fault n e = then_same (onward n) e

  pub many-cons : (n : ℕ) {a : A} {next last : ℕ} {l : List A} → f at ≡ read a next → many f n next ≡ read l last
      → many f (suc n) at ≡ read (a ∷ l) last
  many-cons n {a} e rest = many_go n e ∙ then_same (λ l last. read (a ∷ l) last) rest

  pub many_more : (n : ℕ) {next : ℕ} → read tt next ≡ past (f at) → past (many f (suc n) at) ≡ past (many f n next)
  many_more n {next} e =
      let u = past-read (f at) e in ap past (many_go n u.1) ∙ past-then (λ l. u.0 ∷ l) (many f n next)

  pub many-stop : (n : ℕ) {r : Refusal} {p : ℕ} → fault r p ≡ past (f at) → past (many f (suc n) at) ≡ fault r p
  many-stop n e = ap past (many-fault n (past-fault (f at) e))

  module _ (n i : ℕ) (h : i < n) where
    pub many-more-left : {next : ℕ} → read tt next ≡ past (f at) → past (many f (n - i) at) ≡ past (many f (n - (i + 1)) next)
    many-more-left e = ap (λ m. past (many f m at)) (one_less n i h) ∙ many_more (n - (i + 1)) e

    pub many-stop-left : {r : Refusal} {p : ℕ} → fault r p ≡ past (f at) → past (many f (n - i) at) ≡ fault r p
    many-stop-left e = ap (λ m. past (many f m at)) (one_less n i h) ∙ many-stop (n - (i + 1)) e

  pub many-done-left : (n i : ℕ) → n ≤ i → past (many f (n - i) at) ≡ read tt at
  many-done-left n i h = ap (λ m. past (many f m at)) (let z : n - i ≡ 0 = omega arith in z) ∙ ap past many-none

module _ {A : Type 0} (f : ℕ → Reading A) where
  -- what many in a row begin with
  pub many-first : (n at : ℕ) {l : List A} {last : ℕ} → many f (suc n) at ≡ read l last
      → (a : A) × (next : ℕ) × (m : List A) × (f at ≡ read a next) × (many f n next ≡ read m last) × (l ≡ a ∷ m)
  unfolding many
  many-first n at {l} {last} e =
      let i = then_inv (λ a next. and_then (many f n next) (λ m k. read (a ∷ m) k)) (f at) e in
      let j = then_inv (λ m k. read (i.0 ∷ m) k) (many f n i.1) i.3 in
      let p : i.0 ∷ j.0 ≡ l = cc in
      let q : j.1 ≡ last = cc in
      (i.0, i.1, j.0, i.2, j.2 ∙ ap (read j.0) q, sym p)

  pub many-length : (n at : ℕ) {l : List A} {last : ℕ} → many f n at ≡ read l last → length l ≡ n
  unfolding many
  many-length zero at {l} e = let z : l ≡ [] = cc in ap length z
  many-length (suc n) at e =
      let i = many-first n at e in ap length i.5 ∙ ap suc (many-length n i.1 i.4)

  -- one of many: those before it are read, and then it
  pub many-nth : (n at k : ℕ) (d : A) {l : List A} {last : ℕ} → many f n at ≡ read l last → k < n
      → (m : List A) × (start : ℕ) × (end : ℕ) × (many f k at ≡ read m start) × (f start ≡ read (get_or l k d) end)
  unfolding many
  many-nth zero at k d e h = absurd (not-suc-le-zero h)
  many-nth (suc n) at zero d e h =
      let i = many-first n at e in ([], at, i.1, many-none f at, i.3 ∙ ap (λ (l : List A). read (get_or l 0 d) i.1) (sym i.5))
  many-nth (suc n) at (suc k) d e h =
      let i = many-first n at e in
      let j = many-nth n i.1 k d i.4 (le_of_suc-le-suc h) in
      (i.0 ∷ j.0, j.1, j.2, many-cons f at k i.3 j.3, j.4 ∙ ap (λ (l : List A). read (get_or l (suc k) d) j.2) (sym i.5))

  -- many in a row lie in a range where each of them goes on within it
  pub many-onward : (most : ℕ) → ((at : ℕ) (a : A) (next : ℕ) → f at ≡ read a next → (at ≤ next) × (next ≤ most))
      → (n at : ℕ) {l : List A} {last : ℕ} → at ≤ most → many f n at ≡ read l last → (at ≤ last) × (last ≤ most)
  unfolding many
  many-onward most step zero at {l} {last} h e = let z : at ≡ last = cc in omega arith
  many-onward most step (suc n) at h e =
      let i = many-first n at e in
      let s = step at i.0 i.1 i.3 in
      let r = many-onward most step n i.1 s.1 i.4 in
      omega arith
