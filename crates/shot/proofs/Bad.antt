-- Refusal 21 of a shot list. Assumes nothing.
--
--   Good l           == in the scope's words, place by place: the length of l is a multiple of four, and the high x and y of each of
--                       its shots are above its low ones
--   Bad l            == its length is no multiple of four; or shot i of it has a high x or y that is not above the low one
--   good-shots, shots-good == a list passes 21 exactly when it is good
--   bad_shots_lem, shots_bad   == a list is refused by 21 exactly when it is bad
--   bad_numbers, numbers-shots == 21 of the numbers of some shots; a good list is the numbers of its shots
--   full, full-only  == a shot is not empty exactly when both its high numbers are above its low ones
--   empty-narrow, empty-wide == the two tests of a shot, one after the other
--   four-at          == the four numbers at a place, and those after them
--   Passed l at      == on the way: what 21 says is told by the shots from a place on
--   passed_start, passed-room, passed-empty, passed-more, passed-end, uneven_bad == no shot yet; four numbers are there; the next shot is
--                       empty; it is not; all; the first test
use Prim.Native.Nat.{ℕ, zero, suc, ◌+◌, ◌*◌, ◌%◌, ◌≤◌, ◌<◌}
use mathlib.Core.Path.{◌≡◌, ◌∙◌, refl, sym, ap, ap₂}
use mathlib.Core.Bool.{Bool, true, false, not, ◌||◌, or-true, true≢false}
use mathlib.Core.List.{List, [], ◌∷◌}
use native.Mathlib.Omega.{arith}
use lib.Dec.{leb, eqb}
use lib.ListN.{length, get_or, drop, drop_of_length-le}
use lib.Seq.{drop-cons}
use borrow.Author.Tests.{leb-true, leb-false, lt-leb, le-leb, eq-eqb, ne_eqb, eqb-false, not-true}
use Rattle.sum.specs.Sum.{join}
use Rattle.shot.specs.Shot.{Shot, numbers, shots_in}
use Rattle.shot.specs.Bad.{shot_of, empty, any_empty, bad_shots}
use Rattle.shot.proofs.Shot.{numbers-length, shots-numbers}

pub record Good (l : List ℕ) : Type 0 where
  pub fours : length l % 4 ≡ 0
  pub wide : (i : ℕ) → 4 * i + 4 ≤ length l → get_or l (4 * i) 0 < get_or l (4 * i + 2) 0
  pub high : (i : ℕ) → 4 * i + 4 ≤ length l → get_or l (4 * i + 1) 0 < get_or l (4 * i + 3) 0

pub data Bad (l : List ℕ) : Type 0 where
  uneven : (length l % 4 ≡ 0 → ⊥) → Bad l
  narrow : (i : ℕ) → 4 * i + 4 ≤ length l → get_or l (4 * i + 2) 0 ≤ get_or l (4 * i) 0 → Bad l
  low : (i : ℕ) → 4 * i + 4 ≤ length l → get_or l (4 * i + 3) 0 ≤ get_or l (4 * i + 1) 0 → Bad l

-- shot i of a list
abbrev shot_at : List ℕ → ℕ → Shot
shot_at l i = shot_of (get_or l (4 * i) 0) (get_or l (4 * i + 1) 0) (get_or l (4 * i + 2) 0) (get_or l (4 * i + 3) 0)

-- shot i + 1 is shot i of what stands behind the first
shot-next : (a b c d : ℕ) (l : List ℕ) (i : ℕ) → shot_at (a ∷ b ∷ c ∷ d ∷ l) (suc i) ≡ shot_at l i
shot-next a b c d l i =
    let w : 4 * suc i ≡ suc (suc (suc (suc (4 * i)))) = omega arith in
    let x : 4 * suc i + 1 ≡ suc (suc (suc (suc (4 * i + 1)))) = omega arith in
    let y : 4 * suc i + 2 ≡ suc (suc (suc (suc (4 * i + 2)))) = omega arith in
    let z : 4 * suc i + 3 ≡ suc (suc (suc (suc (4 * i + 3)))) = omega arith in
    same (at w) (at x) (at y) (at z)
  where
    at : {m n : ℕ} → m ≡ suc (suc (suc (suc n))) → get_or (a ∷ b ∷ c ∷ d ∷ l) m 0 ≡ get_or l n 0
    at e = ap (λ k. get_or (a ∷ b ∷ c ∷ d ∷ l) k 0) e

    same : {p q r s t u v w : ℕ} → p ≡ t → q ≡ u → r ≡ v → s ≡ w → shot_of p q r s ≡ shot_of t u v w
    same e f g h = cc

-- some shot is empty exactly when the one at some place is

Found : List ℕ → Type 0
Found l = (i : ℕ) × (4 * i + 4 ≤ length l) × (empty (shot_at l i) ≡ true)

found : (l : List ℕ) → any_empty (shots_in l) ≡ true → Found l
unfolding any_empty shots_in Found
found [] e = absurd (true≢false (sym e))
found (a ∷ []) e = absurd (true≢false (sym e))
found (a ∷ b ∷ []) e = absurd (true≢false (sym e))
found (a ∷ b ∷ c ∷ []) e = absurd (true≢false (sym e))
found (a ∷ b ∷ c ∷ d ∷ l) e = go (empty (shot_of a b c d)) refl e (found l)
  where
    go : (t : Bool) → empty (shot_of a b c d) ≡ t → (t || any_empty (shots_in l)) ≡ true → (any_empty (shots_in l) ≡ true → Found l)
        → Found (a ∷ b ∷ c ∷ d ∷ l)
    go true f h next = (0, omega arith, f)
    go false f h next = let r = next h in (suc r.0, omega (arith, r.1), ap empty (shot-next a b c d l r.0) ∙ r.2)

told : (l : List ℕ) (i : ℕ) → 4 * i + 4 ≤ length l → empty (shot_at l i) ≡ true → any_empty (shots_in l) ≡ true
unfolding any_empty shots_in
told [] i h e = absurd (omega arith)
told (a ∷ []) i h e = absurd (omega arith)
told (a ∷ b ∷ []) i h e = absurd (omega arith)
told (a ∷ b ∷ c ∷ []) i h e = absurd (omega arith)
told (a ∷ b ∷ c ∷ d ∷ l) zero h e = ap (λ t. t || any_empty (shots_in l)) e
told (a ∷ b ∷ c ∷ d ∷ l) (suc i) h e =
    let r = told l i (omega arith) (sym (ap empty (shot-next a b c d l i)) ∙ e) in
    ap (λ t. empty (shot_of a b c d) || t) r ∙ or-true (empty (shot_of a b c d))

-- a shot is empty exactly when a high number is not above the low one

either : {P : Type 0} (a b : Bool) → (a || b) ≡ true → (a ≡ true → P) → (b ≡ true → P) → P
either true b e f g = f refl
either false b e f g = g e

neither : (a b : Bool) → (a || b) ≡ false → (a ≡ false) × (b ≡ false)
neither true b e = absurd (true≢false e)
neither false b e = (refl, e)

pub full : (s : Shot) → empty s ≡ false → (s.xlow < s.xhigh) × (s.ylow < s.yhigh)
unfolding empty
full s e =
    let r = neither (leb s.xhigh s.xlow) (leb s.yhigh s.ylow) e in
    (leb-false s.xhigh s.xlow r.0, leb-false s.yhigh s.ylow r.1)

pub full-only : (s : Shot) → s.xlow < s.xhigh → s.ylow < s.yhigh → empty s ≡ false
unfolding empty
full-only s h k = ap₂ ◌||◌ (lt-leb s.xhigh s.xlow h) (lt-leb s.yhigh s.ylow k)

-- the two tests of a shot, one after the other
pub empty-narrow : (s : Shot) → s.xhigh ≤ s.xlow → leb s.xhigh s.xlow ≡ empty s
unfolding empty
empty-narrow s h =
    let e = le-leb s.xhigh s.xlow h in e ∙ sym (ap (λ t. t || leb s.yhigh s.ylow) e)

pub empty-wide : (s : Shot) → s.xlow < s.xhigh → leb s.yhigh s.ylow ≡ empty s
unfolding empty
empty-wide s h = sym (ap (λ t. t || leb s.yhigh s.ylow) (lt-leb s.xhigh s.xlow h))

-- 21 in the scope's words, both ways

module _ (l : List ℕ) where
  pub bad_shots_lem : bad_shots l ≡ true → Bad l
  unfolding bad_shots empty Found
  bad_shots_lem e =
      either (not (eqb (length l % 4) 0)) (any_empty (shots_in l)) e
      (λ u. uneven (eqb-false (length l % 4) 0 (not-true (eqb (length l % 4) 0) u)))
      (λ a.
      let r = found l a in
      let i = r.0 in
      either (leb (get_or l (4 * i + 2) 0) (get_or l (4 * i) 0)) (leb (get_or l (4 * i + 3) 0) (get_or l (4 * i + 1) 0)) r.2
      (λ x. narrow i r.1 (leb-true (get_or l (4 * i + 2) 0) (get_or l (4 * i) 0) x))
      (λ y. low i r.1 (leb-true (get_or l (4 * i + 3) 0) (get_or l (4 * i + 1) 0) y)))

  pub shots_bad : Bad l → bad_shots l ≡ true
  unfolding bad_shots empty
  shots_bad (uneven u) = ap (λ t. not t || any_empty (shots_in l)) (ne_eqb (length l % 4) 0 u)
  shots_bad (narrow i h x) =
      ap (λ t. not (eqb (length l % 4) 0) || t)
      (told l i h (ap (λ t. t || leb (get_or l (4 * i + 3) 0) (get_or l (4 * i + 1) 0)) (le-leb (get_or l (4 * i + 2) 0) (get_or l (4 * i) 0) x)))
      ∙ or-true (not (eqb (length l % 4) 0))
  shots_bad (low i h y) =
      ap (λ t. not (eqb (length l % 4) 0) || t)
      (told l i h
      (ap (λ t. leb (get_or l (4 * i + 2) 0) (get_or l (4 * i) 0) || t) (le-leb (get_or l (4 * i + 3) 0) (get_or l (4 * i + 1) 0) y)
      ∙ or-true (leb (get_or l (4 * i + 2) 0) (get_or l (4 * i) 0))))
      ∙ or-true (not (eqb (length l % 4) 0))

  pub good-shots : bad_shots l ≡ false → Good l
  good-shots e =
      record {
        fours = fours (length l % 4) (λ u. no (uneven u));
        wide = λ i h. above (get_or l (4 * i) 0) (get_or l (4 * i + 2) 0) (λ x. no (narrow i h x));
        high = λ i h. above (get_or l (4 * i + 1) 0) (get_or l (4 * i + 3) 0) (λ y. no (low i h y));
      }
    where
      no : Bad l → ⊥
      no b = true≢false (sym (shots_bad b) ∙ e)

      fours : (n : ℕ) → ((n ≡ 0 → ⊥) → ⊥) → n ≡ 0
      fours zero f = refl
      fours (suc n) f = absurd (f (λ z. omega arith))

      above : (x y : ℕ) → (y ≤ x → ⊥) → x < y
      above x y f = go (leb y x) refl
        where
          go : (t : Bool) → leb y x ≡ t → x < y
          go true z = absurd (f (leb-true y x z))
          go false z = leb-false y x z

  pub shots-good : Good l → bad_shots l ≡ false
  shots-good g = go (bad_shots l) refl
    where
      not_bad : Bad l → ⊥
      not_bad (uneven u) = u g.fours
      not_bad (narrow i h x) = let k = g.wide i h in omega arith
      not_bad (low i h y) = let k = g.high i h in omega arith

      go : (t : Bool) → bad_shots l ≡ t → t ≡ false
      go true e = absurd (not_bad (bad_shots_lem e))
      go false e = refl

-- the numbers of some shots, and the shots of some numbers

pub bad_numbers : (l : List Shot) → bad_shots (numbers l) ≡ any_empty l
unfolding bad_shots
bad_numbers l =
    let e : length (numbers l) % 4 ≡ 0 = omega (arith, numbers-length l) in
    ap₂ (λ t m. not t || any_empty m) (eq-eqb (length (numbers l) % 4) 0 e) (shots-numbers l)

pub numbers-shots : (l : List ℕ) → length l % 4 ≡ 0 → numbers (shots_in l) ≡ l
unfolding numbers join shots_in
numbers-shots [] h = refl
numbers-shots (a ∷ []) h = absurd (omega arith)
numbers-shots (a ∷ b ∷ []) h = absurd (omega arith)
numbers-shots (a ∷ b ∷ c ∷ []) h = absurd (omega arith)
numbers-shots (a ∷ b ∷ c ∷ d ∷ l) h = ap (λ (m : List ℕ). a ∷ b ∷ c ∷ d ∷ m) (numbers-shots l (omega arith))

-- a walk over the shots of a list

pub four-at : (l : List ℕ) (at : ℕ) → at + 3 < length l
    → drop at l ≡ get_or l at 0 ∷ get_or l (at + 1) 0 ∷ get_or l (at + 2) 0 ∷ get_or l (at + 3) 0 ∷ drop (at + 4) l
four-at l at h =
    let p : suc at ≡ at + 1 = omega arith in
    let q : suc (at + 1) ≡ at + 2 = omega arith in
    let r : suc (at + 2) ≡ at + 3 = omega arith in
    let s : suc (at + 3) ≡ at + 4 = omega arith in
    drop-cons l at 0 (omega arith)
    ∙ ap (λ n. get_or l at 0 ∷ drop n l) p
    ∙ ap (λ (m : List ℕ). get_or l at 0 ∷ m)
    (drop-cons l (at + 1) 0 (omega arith)
    ∙ ap (λ n. get_or l (at + 1) 0 ∷ drop n l) q
    ∙ ap (λ (m : List ℕ). get_or l (at + 1) 0 ∷ m)
    (drop-cons l (at + 2) 0 (omega arith)
    ∙ ap (λ n. get_or l (at + 2) 0 ∷ drop n l) r
    ∙ ap (λ (m : List ℕ). get_or l (at + 2) 0 ∷ m) (drop-cons l (at + 3) 0 h ∙ ap (λ n. get_or l (at + 3) 0 ∷ drop n l) s)))

-- on the way: what 21 says is told by the shots from a place on
pub record Passed (l : List ℕ) (at : ℕ) : Type 0 where
  pub left : length l % 4 ≡ 0
  pub fours : at % 4 ≡ 0
  pub within : at ≤ length l
  pub says : bad_shots l ≡ any_empty (shots_in (drop at l))

module _ (l : List ℕ) where
  pub passed_start : length l % 4 ≡ 0 → Passed l 0
  unfolding bad_shots
  passed_start h =
      record { left = h; fours = omega arith; within = omega arith; says = ap (λ t. not t || any_empty (shots_in l)) (eq-eqb (length l % 4) 0 h) }

  module _ (at : ℕ) (p : Passed l at) (h : at < length l) where
    pub passed-room : at + 3 < length l
    passed-room = omega (arith, p.left, p.fours)

    says-next : bad_shots l ≡ (empty (shot_of (get_or l at 0) (get_or l (at + 1) 0) (get_or l (at + 2) 0) (get_or l (at + 3) 0)) || any_empty (shots_in (drop (at + 4) l)))
    unfolding any_empty shots_in
    says-next = p.says ∙ ap (λ (m : List ℕ). any_empty (shots_in m)) (four-at l at passed-room)

    module _ {t : Bool} (e : t ≡ empty (shot_of (get_or l at 0) (get_or l (at + 1) 0) (get_or l (at + 2) 0) (get_or l (at + 3) 0))) where
      pub passed-empty : t ≡ true → true ≡ bad_shots l
      passed-empty f = sym (says-next ∙ ap (λ b. b || any_empty (shots_in (drop (at + 4) l))) (sym e ∙ f))

      pub passed-more : t ≡ false → Passed l (at + 4)
      passed-more f =
          record {
            left = p.left;
            fours = omega (arith, p.fours);
            within = omega (arith, passed-room);
            says = says-next ∙ ap (λ b. b || any_empty (shots_in (drop (at + 4) l))) (sym e ∙ f);
          }

  pub passed-end : (at : ℕ) → Passed l at → length l ≤ at → false ≡ bad_shots l
  unfolding any_empty shots_in
  passed-end at p h = sym (p.says ∙ ap (λ (m : List ℕ). any_empty (shots_in m)) (drop_of_length-le l {i = at} h))

  pub uneven_bad : (length l % 4 ≡ 0 → ⊥) → true ≡ bad_shots l
  uneven_bad u = sym (shots_bad l (uneven u))
