-- Reading a number, two numbers, and the words of a text. Assumes nothing.
--
--   stands_by        == bytes that are equal one by one stand at the place
--   stands_byte      == one byte
--   digit-none, digit-here == the cases of a digit at a place
--   number-only      == a number that stands at a place and cannot go on is the only one that does
--   number_missing, number-zero, number-start, number_more, number_six, number-ended == the ways of reading a number
--   spaced-..        == the same behind a space
--   two-..           == two numbers, one behind the other
use Prim.Native.Nat.{ℕ, zero, suc, ◌+◌, ◌-◌, ◌*◌, ◌<◌, ◌≤◌}
use mathlib.Core.Path.{◌≡◌, ◌∙◌, refl, sym, ap, subst}
use mathlib.Core.Logic.{◌⊎◌, inl, inr}
use mathlib.Core.List.{List, [], ◌∷◌, ◌++◌}
use native.Mathlib.Omega.{arith}
use native.Mathlib.Nat.{add-zero}
use lib.ListN.{length, get_or, take, drop, length-append, length-take, length-drop}
use lib.Seq.{ext_get_or, get_or-take, get_or-drop}
use Rattle.sum.proofs.Sum.{le-or}
use Rattle.number.proofs.Bytes.{stands_at, stands-first, stands-room, stands-join, stands-front, stands-back}
use Rattle.cif.specs.Text.{decimal, field}
use Rattle.cif.specs.Faults.{Stands}
use Rattle.cif.specs.declared.numeral.Numeral.{Numeral}
use Rattle.std.specs.Prelude.{Option, Some, None}
use Rattle.cif.specs.Steps.{Digit, DigitAt, NoDigit, Apart, Found, Absent, NumeralTold, Two}
use Rattle.cif.proofs.Decimal.{decimal-small, decimal-more, decimal-one, decimal_digits, decimal-first, decimal-some, decimal_six, decimal-few}

-- bytes at a place

pub stands_by : (s : List ℕ) (at : ℕ) (l : List ℕ) → at + length l ≤ length s → ((i : ℕ) → i < length l → get_or s (at + i) 0 ≡ get_or l i 0)
    → Stands s at l
stands_by s at l h e =
    let n : length (take (length l) (drop at s)) ≡ length l = omega (arith, length-take (length l) (drop at s), length-drop at s) in
    ext_get_or 0 (take (length l) (drop at s)) l n
    (λ i k. get_or-take (length l) (drop at s) i 0 (omega arith) ∙ get_or-drop at s i 0 ∙ e i (omega arith))

pub stands_byte : (s : List ℕ) (at b : ℕ) → at < length s → get_or s at 0 ≡ b → Stands s at (b ∷ [])
stands_byte s at b h e = stands_by s at (b ∷ []) (omega arith) one
  where
    one : (i : ℕ) → i < 1 → get_or s (at + i) 0 ≡ get_or (b ∷ []) i 0
    one zero q = ap (λ n. get_or s n 0) (add-zero at) ∙ e
    one (suc i) q = absurd (omega arith)

-- what stands at a place ends within the bytes
pub stands-within : (s : List ℕ) (at : ℕ) (l : List ℕ) → 0 < length l → Stands s at l → at + length l ≤ length s
stands-within s at l h e = omega (arith, stands-room s at l e)

-- digits

module _ (s : List ℕ) (at : ℕ) where
  pub digit_past : length s ≤ at → NoDigit s at
  unfolding NoDigit
  digit_past h d k p e = omega arith

  pub digit_there : (r : Option ℕ) → at < length s → Digit (get_or s at 0) r → DigitAt s at r
  unfolding NoDigit
  digit_there (Some r) h d = (d.0, h, d.1)
  digit_there None h d = λ k m p e. d k m e

-- a number that stands at a place and cannot go on

module _ (s : List ℕ) (at v : ℕ) (small : v < 1000000) (stands : Stands s at (decimal v)) where
  abbrev Ends : Type 0
  Ends = (v ≡ 0) ⊎ ((100000 ≤ v) ⊎ NoDigit s (at + length (decimal v)))

  pub number-only : Ends → (w : ℕ) (rest : List ℕ) → w < 1000000 → Apart rest → Stands s at (decimal w ++ rest) → v ≡ w
  unfolding Apart NoDigit
  number-only ends w rest tiny apart there = by_length (le-or (length (decimal v)) (length (decimal w)))
    where
      here : Stands s at (decimal w)
      here = stands-front s at (decimal w) rest there

      room : at + (length (decimal w) + length rest) ≤ length s
      room =
          omega (
            arith,
            stands-room s at (decimal w ++ rest) there,
            length-append (decimal w) rest,
            apart.0,
          )

      -- the byte behind w is no digit
      behind : get_or s (at + length (decimal w)) 0 ≡ get_or rest 0 0
      behind = stands-first s (at + length (decimal w)) rest (stands-back s at (decimal w) rest there) apart.0

      -- v goes no further than w
      not-longer : length (decimal w) < length (decimal v) → ⊥
      not-longer h =
          let d = decimal_digits v (length (decimal w)) small h in
          let e = stands_at s at (decimal v) stands (length (decimal w)) h in
          apart.1 (get_or (decimal v) (length (decimal w)) 0 - 48) (omega arith) (omega (arith, e, behind))

      same : length (decimal v) ≡ length (decimal w) → v ≡ w
      same e = decimal-one v w small tiny (sym stands ∙ ap (λ n. take n (drop at s)) e ∙ here)

      zero-front : v ≡ 0 → length (decimal v) < length (decimal w) → ⊥
      zero-front e h =
          let z = ap (λ n. get_or (decimal n) 0 0) e ∙ ap (λ (l : List ℕ). get_or l 0 0) (decimal-small 0 (omega arith)) in
          let one = ap (λ n. length (decimal n)) e ∙ ap length (decimal-small 0 (omega arith)) in
          let a = stands-first s at (decimal v) stands (omega arith) in
          let b = stands-first s at (decimal w) here (omega arith) in
          w_small w (omega arith) (omega (arith, z, a, b)) h one
        where
          w_small : (n : ℕ) → n < 1000000 → get_or (decimal n) 0 0 ≡ 48 → length (decimal v) < length (decimal n) → length (decimal v) ≡ 1 → ⊥
          w_small zero k q r t = omega (arith, ap length (decimal-small 0 (omega arith)))
          w_small (suc n) k q r t = omega (arith, decimal-first (suc n) k (omega arith))

      goes_on : NoDigit s (at + length (decimal v)) → length (decimal v) < length (decimal w) → ⊥
      goes_on none h =
          let d = decimal_digits w (length (decimal v)) tiny h in
          let e = stands_at s at (decimal w) here (length (decimal v)) h in
          none (get_or (decimal w) (length (decimal v)) 0 - 48) (omega arith) (omega (arith, room)) (omega (arith, e))

      not-shorter : Ends → length (decimal v) < length (decimal w) → ⊥
      not-shorter (inl z) h = zero-front z h
      not-shorter (inr (inl six)) h = omega (arith, decimal_six v six small, decimal-few w tiny)
      not-shorter (inr (inr none)) h = goes_on none h

      by_length : (length (decimal v) ≤ length (decimal w)) ⊎ (length (decimal w) < length (decimal v)) → v ≡ w
      by_length (inr h) = absurd (not-longer h)
      by_length (inl h) = by_equal (le-or (length (decimal w)) (length (decimal v)))
        where
          by_equal : (length (decimal w) ≤ length (decimal v)) ⊎ (length (decimal v) < length (decimal w)) → v ≡ w
          by_equal (inl k) = same (omega arith)
          by_equal (inr k) = absurd (not-shorter ends k)

-- reading a number

-- on the way: the digits so far are those of a number above 0
pub record Reading (s : List ℕ) (at v next : ℕ) : Type 0 where
  pub some : 0 < v
  pub small : v < 1000000
  pub stands : Stands s at (decimal v)
  pub past : next ≡ at + length (decimal v)
  pub within : next ≤ length s

module _ (s : List ℕ) (at : ℕ) where
  -- the digits of a number below ten
  one-stands : (r : ℕ) → r < 10 → at < length s → get_or s at 0 ≡ 48 + r → Stands s at (decimal r)
  one-stands r h k e = subst (λ l. Stands s at l) (sym (decimal-small r h)) (stands_byte s at (48 + r) k e)

  pub number_missing : NoDigit s at → Absent decimal s at
  unfolding NoDigit
  number_missing d w h there =
      let a = stands-first s at (decimal w) there (decimal-some w h) in
      let q = decimal_digits w 0 h (decimal-some w h) in
      d (get_or (decimal w) 0 0 - 48) (omega arith) (omega (arith, stands-room s at (decimal w) there, decimal-some w h)) (omega (arith, a))

  pub number-zero : (r : ℕ) → DigitAt s at (Some r) → r ≡ 0 → Found decimal s at 0 (at + 1)
  number-zero r k e =
      let st = one-stands 0 (omega arith) k.1 (k.2 ∙ ap (λ n. 48 + n) e) in
      record {
        small = omega arith;
        stands = st;
        past = omega (arith, ap length (decimal-small 0 (omega arith)));
        within = omega (arith, k.1);
        only = number-only s at 0 (omega arith) st (inl refl);
      }

  pub number-start : (r : ℕ) → DigitAt s at (Some r) → (r ≡ 0 → ⊥) → Reading s at r (at + 1)
  number-start r k f =
      let h : r < 10 = k.0 in
      record {
        some = omega arith;
        small = omega arith;
        stands = one-stands r h k.1 k.2;
        past = omega (arith, ap length (decimal-small r h));
        within = omega (arith, k.1);
      }

  module _ (v next : ℕ) (g : Reading s at v next) where
    pub number_more : (d : ℕ) → v < 100000 → DigitAt s next (Some d) → Reading s at (10 * v + d) (next + 1)
    number_more d h k =
        let few : d < 10 = k.0 in
        let within : next < length s = k.1 in
        let e = decimal-more v d g.some h few in
        record {
          some = omega (arith, g.some);
          small = omega arith;
          stands =
              subst (λ l. Stands s at l) (sym e)
              (stands-join s at (decimal v) ((48 + d) ∷ []) g.stands
              (subst (λ n. Stands s n ((48 + d) ∷ [])) g.past (stands_byte s next (48 + d) within k.2)));
          past = omega (arith, g.past, ap length e, length-append (decimal v) ((48 + d) ∷ []));
          within = omega arith;
        }

    found : (v ≡ 0) ⊎ ((100000 ≤ v) ⊎ NoDigit s (at + length (decimal v))) → Found decimal s at v next
    found ends =
        record { small = g.small; stands = g.stands; past = g.past; within = g.within; only = number-only s at v g.small g.stands ends }

    pub number_six : 100000 ≤ v → Found decimal s at v next
    number_six h = found (inr (inl h))

    pub number-ended : NoDigit s next → Found decimal s at v next
    number-ended q = found (inr (inr (subst (λ n. NoDigit s n) g.past q)))

-- a number behind a space

module _ (s : List ℕ) (at : ℕ) where
  pub spaced_past : length s ≤ at → Absent field s at
  spaced_past h w small there = omega (arith, stands-room s at (field w) there)

  pub spaced_other : (get_or s at 0 ≡ 32 → ⊥) → Absent field s at
  spaced_other f w small there = f (stands-first s at (field w) there (omega arith))

  spaced_back : (l : List ℕ) → Stands s at (32 ∷ l) → Stands s (at + 1) l
  spaced_back l e = stands-back s at (32 ∷ []) l e

  pub spaced_missing : Absent decimal s (at + 1) → Absent field s at
  spaced_missing f w small there = f w small (spaced_back (decimal w) there)

  pub spaced_found : (v next : ℕ) → at < length s → get_or s at 0 ≡ 32 → Found decimal s (at + 1) v next → Found field s at v next
  spaced_found v next h e f =
      record {
        small = f.small;
        stands = stands-join s at (32 ∷ []) (decimal v) (stands_byte s at 32 h e) f.stands;
        past = omega (arith, f.past);
        within = f.within;
        only = λ w rest small apart there. f.only w rest small apart (spaced_back (decimal w ++ rest) there);
      }

-- two numbers

-- what follows a field begins with a space
field_apart : (w : ℕ) (rest : List ℕ) → Apart (field w ++ rest)
unfolding Apart
field_apart w rest = (omega arith, λ d h e. omega arith)

module _ (s : List ℕ) (at : ℕ) where
  pub two_none : Absent field s at → (a b : ℕ) (rest : List ℕ) → a < 1000000 → b < 1000000 → Apart rest
      → Stands s at (field a ++ (field b ++ rest)) → ⊥
  two_none f a b rest ha hb apart there = f a ha (stands-front s at (field a) (field b ++ rest) there)

  module _ (v next : ℕ) (f : Found field s at v next) where
    -- the first is v, and what follows stands at next
    onward : (a : ℕ) (more : List ℕ) → a < 1000000 → Apart more → Stands s at (field a ++ more) → (v ≡ a) × Stands s next more
    onward a more h apart there =
        let e = f.only a more h apart there in
        let k : next ≡ at + length (field a) = f.past ∙ ap (λ n. at + length (field n)) e in
        (e, subst (λ n. Stands s n more) (sym k) (stands-back s at (field a) more there))

    pub two-one : Absent field s next → (a b : ℕ) (rest : List ℕ) → a < 1000000 → b < 1000000 → Apart rest
        → Stands s at (field a ++ (field b ++ rest)) → ⊥
    two-one g a b rest ha hb apart there =
        g b hb (stands-front s next (field b) rest (onward a (field b ++ rest) ha (field_apart b rest) there).1)

    pub two-found : (w last : ℕ) → Found field s next w last → Two s at v w last
    two-found w last g =
        record {
          small = (f.small, g.small);
          stands = stands-join s at (field v) (field w) f.stands (subst (λ n. Stands s n (field w)) f.past g.stands);
          past = omega (arith, f.past, g.past, length-append (field v) (field w));
          within = g.within;
          only =
              λ a b rest ha hb apart there.
              let o = onward a (field b ++ rest) ha (field_apart b rest) there in (o.0, g.only b rest hb apart o.1);
        }

pub spaced_told : (s : List ℕ) (at : ℕ) (r : Option Numeral) → at < length s → get_or s at 0 ≡ 32 → NumeralTold decimal s (at + 1) r → NumeralTold field s at r
spaced_told s at (Some n) h e t = spaced_found s at n.value n.next h e t
spaced_told s at None h e t = spaced_missing s at t
