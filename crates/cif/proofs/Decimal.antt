-- The digits of a number. Assumes nothing.
--
--   tens k           == 1, 10, 100, ..
--   decimal-more     == one digit more
--   value l          == what digits are worth;   decimal-value == the digits of n are worth n
--   decimal-one      == no two numbers have the same digits
--   decimal_digits   == each byte is a digit
--   decimal-first    == a number above 0 has no 0 in front
--   decimal-length, decimal-some, decimal-few, decimal-five == how many digits a number has
use Prim.Native.Nat.{ℕ, zero, suc, ◌+◌, ◌-◌, ◌*◌, ◌/◌, ◌%◌, ◌<◌, ◌≤◌}
use mathlib.Core.Path.{◌≡◌, ◌∙◌, refl, sym, ap, ap₂}
use mathlib.Core.Bool.{Bool, true, false}
use mathlib.Core.List.{List, [], ◌∷◌, ◌++◌}
use native.Mathlib.Omega.{arith}
use lib.Dec.{ltb}
use lib.ListN.{length, get_or, length-append, get_or-append}
use borrow.Author.Tests.{ltb-true, ltb-false, lt-ltb, le-ltb}
use Rattle.sum.specs.Sum.{All}
use Rattle.sum.proofs.Lists.{All-append}
use Rattle.cif.specs.Text.{decimal_in, decimal}

unfoldable pub tens : ℕ → ℕ
tens zero = 1
tens (suc k) = 10 * tens k

-- one digit, and more than one

one_digit : (k n : ℕ) → n < 10 → decimal_in k n ≡ (48 + n) ∷ []
unfolding decimal_in
one_digit zero n h = refl
one_digit (suc k) n h = rw (lt-ltb n 10 h)

more_digits : (k n : ℕ) → 10 ≤ n → decimal_in (suc k) n ≡ decimal_in k (n / 10) ++ ((48 + n % 10) ∷ [])
unfolding decimal_in
more_digits k n h = rw (le-ltb n 10 h)

-- a number that has few digits, by cases
by_digits : (P : ℕ → ℕ → Type 0) → ((k n : ℕ) → n < 10 → P k n)
    → ((k n : ℕ) → 10 ≤ n → P k (n / 10) → P (suc k) n) → (k n : ℕ) → n < tens (suc k) → P k n
unfolding tens
by_digits P one more zero n h = one zero n (omega arith)
by_digits P one more (suc k) n h = go (ltb n 10) refl (λ q. by_digits P one more k (n / 10) q)
  where
    go : (t : Bool) → ltb n 10 ≡ t → (n / 10 < tens (suc k) → P k (n / 10)) → P (suc k) n
    go true e next = one (suc k) n (ltb-true n 10 e)
    go false e next = more k n (ltb-false n 10 e) (next (omega arith))

-- one digit more allowed changes nothing where fewer suffice
more_room : (k n : ℕ) → n < tens (suc k) → decimal_in k n ≡ decimal_in (suc k) n
more_room =
    by_digits (λ k n. decimal_in k n ≡ decimal_in (suc k) n)
    (λ k n h. one_digit k n h ∙ sym (one_digit (suc k) n h))
    (λ k n h e. more_digits k n h ∙ ap (λ (l : List ℕ). l ++ ((48 + n % 10) ∷ [])) e ∙ sym (more_digits (suc k) n h))

pub decimal-small : (n : ℕ) → n < 10 → decimal n ≡ (48 + n) ∷ []
unfolding decimal
decimal-small n h = one_digit 5 n h

pub decimal_split : (n : ℕ) → 10 ≤ n → n < 1000000 → decimal n ≡ decimal (n / 10) ++ ((48 + n % 10) ∷ [])
unfolding decimal tens
decimal_split n h k =
    more_digits 4 n h ∙ ap (λ (l : List ℕ). l ++ ((48 + n % 10) ∷ [])) (more_room 4 (n / 10) (omega arith))

pub decimal-more : (v d : ℕ) → 0 < v → v < 100000 → d < 10 → decimal (10 * v + d) ≡ decimal v ++ ((48 + d) ∷ [])
decimal-more v d h k q =
    let e : (10 * v + d) / 10 ≡ v = omega arith in
    let f : (10 * v + d) % 10 ≡ d = omega arith in
    decimal_split (10 * v + d) (omega arith) (omega arith) ∙ ap₂ (λ n m. decimal n ++ ((48 + m) ∷ [])) e f

-- what digits are worth

worth : ℕ → List ℕ → ℕ
worth v [] = v
worth v (b ∷ l) = worth (10 * v + (b - 48)) l

pub value : List ℕ → ℕ
value l = worth 0 l

worth-append : (v : ℕ) (l m : List ℕ) → worth v (l ++ m) ≡ worth (worth v l) m
unfolding worth
worth-append v [] m = refl
worth-append v (b ∷ l) m = worth-append (10 * v + (b - 48)) l m

pub decimal-value : (n : ℕ) → n < 1000000 → value (decimal n) ≡ n
unfolding decimal value tens worth
decimal-value n h =
    by_digits (λ k m. worth 0 (decimal_in k m) ≡ m)
    (λ k m q. ap (worth 0) (one_digit k m q) ∙ omega arith)
    (λ k m q e.
    ap (worth 0) (more_digits k m q)
    ∙ worth-append 0 (decimal_in k (m / 10)) ((48 + m % 10) ∷ [])
    ∙ ap (λ v. 10 * v + ((48 + m % 10) - 48)) e
    ∙ omega arith)
    5 n h

pub decimal-one : (v w : ℕ) → v < 1000000 → w < 1000000 → decimal v ≡ decimal w → v ≡ w
decimal-one v w h k e = sym (decimal-value v h) ∙ ap value e ∙ decimal-value w k

-- each byte is a digit

pub IsDigit : ℕ → Type 0
IsDigit b = (48 ≤ b) × (b ≤ 57)

all-at : (l : List ℕ) (i : ℕ) → All IsDigit l → i < length l → IsDigit (get_or l i 0)
all-at [] i a h = absurd (omega arith)
all-at (b ∷ l) zero a h = a.0
all-at (b ∷ l) (suc i) a h = all-at l i a.1 (omega arith)

pub decimal_digits : (n i : ℕ) → n < 1000000 → i < length (decimal n) → (48 ≤ get_or (decimal n) i 0) × (get_or (decimal n) i 0 ≤ 57)
unfolding decimal tens IsDigit
decimal_digits n i h k =
    all-at (decimal n) i
    (by_digits (λ k m. All IsDigit (decimal_in k m))
    (λ k m q. subst_all (sym (one_digit k m q)) ((omega arith, omega arith), tt))
    (λ k m q a.
    subst_all (sym (more_digits k m q))
    (All-append IsDigit (decimal_in k (m / 10)) ((48 + m % 10) ∷ []) a ((omega arith, omega arith), tt)))
    5 n h)
    k
  where
    subst_all : {l m : List ℕ} → l ≡ m → All IsDigit l → All IsDigit m
    subst_all e a = rw e at a

-- how many digits there are, and the first

some_digit : (k n : ℕ) → n < tens (suc k) → 0 < length (decimal_in k n)
some_digit =
    by_digits (λ k m. 0 < length (decimal_in k m))
    (λ k m q. omega (arith, ap length (one_digit k m q)))
    (λ k m q e. omega (arith, ap length (more_digits k m q), length-append (decimal_in k (m / 10)) ((48 + m % 10) ∷ [])))

pub decimal-some : (n : ℕ) → n < 1000000 → 0 < length (decimal n)
unfolding decimal tens
decimal-some n h = some_digit 5 n h

first_digit : (k n : ℕ) → n < tens (suc k) → 0 < n → 48 < get_or (decimal_in k n) 0 0
unfolding tens
first_digit zero n h p = omega (arith, ap (λ (l : List ℕ). get_or l 0 0) (one_digit zero n (omega arith)))
first_digit (suc k) n h p = go (ltb n 10) refl (λ q r. first_digit k (n / 10) q r)
  where
    go : (t : Bool) → ltb n 10 ≡ t → (n / 10 < tens (suc k) → 0 < n / 10 → 48 < get_or (decimal_in k (n / 10)) 0 0)
        → 48 < get_or (decimal_in (suc k) n) 0 0
    go true e next = omega (arith, ap (λ (l : List ℕ). get_or l 0 0) (one_digit (suc k) n (ltb-true n 10 e)))
    go false e next =
        let ten = ltb-false n 10 e in
        let f = next (omega arith) (omega arith) in
        omega (
          arith,
          ap (λ (l : List ℕ). get_or l 0 0) (more_digits k n ten),
          get_or-append (decimal_in k (n / 10)) ((48 + n % 10) ∷ []) 0 0 (some_digit k (n / 10) (omega arith)),
        )

pub decimal-first : (n : ℕ) → n < 1000000 → 0 < n → 48 < get_or (decimal n) 0 0
unfolding decimal tens
decimal-first n h p = first_digit 5 n h p

tens_some : (j : ℕ) → 1 ≤ tens j
unfolding tens
tens_some zero = omega arith
tens_some (suc j) = omega (arith, tens_some j)

digits_length : (j k n : ℕ) → j ≤ k → tens j ≤ n → n < tens (suc j) → length (decimal_in k n) ≡ suc j
unfolding tens
digits_length zero k n h a b = ap length (one_digit k n (omega arith))
digits_length (suc j) zero n h a b = absurd (omega arith)
digits_length (suc j) (suc k) n h a b =
    let p = tens_some j in
    let r = digits_length j k (n / 10) (omega arith) (omega arith) (omega arith) in
    ap length (more_digits k n (omega arith)) ∙ length-append (decimal_in k (n / 10)) ((48 + n % 10) ∷ []) ∙ omega (arith, r)

pub decimal-length : (j n : ℕ) → j ≤ 5 → tens j ≤ n → n < tens (suc j) → suc j ≡ length (decimal n)
unfolding decimal
decimal-length j n h a b = sym (digits_length j 5 n h a b)

pub decimal_six : (n : ℕ) → 100000 ≤ n → n < 1000000 → length (decimal n) ≡ 6
unfolding tens
decimal_six n a b = sym (decimal-length 5 n (omega arith) a b)

few_digits : (k n : ℕ) → n < tens (suc k) → length (decimal_in k n) ≤ suc k
few_digits =
    by_digits (λ k m. length (decimal_in k m) ≤ suc k)
    (λ k m q. omega (arith, ap length (one_digit k m q)))
    (λ k m q e. omega (arith, ap length (more_digits k m q), length-append (decimal_in k (m / 10)) ((48 + m % 10) ∷ [])))

pub decimal-few : (n : ℕ) → n < 1000000 → length (decimal n) ≤ 6
unfolding decimal tens
decimal-few n h = few_digits 5 n h

pub decimal-five : (n : ℕ) → n < 100000 → length (decimal n) ≤ 5
unfolding decimal tens
decimal-five n h = omega (arith, ap length (more_room 4 n h), few_digits 4 n h)

pub size_of : (j n : ℕ) → j ≤ 5 → tens j ≤ n → n < tens (suc j) → (suc j ≡ length (decimal n)) × (suc j ≤ 6)
size_of j n h a b = (decimal-length j n h a b, omega arith)

pub size_small : (n : ℕ) → n < 10 → (1 ≡ length (decimal n)) × (1 ≤ 6)
size_small n h = (sym (ap length (decimal-small n h)), omega arith)
