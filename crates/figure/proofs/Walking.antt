-- Walks over the rings of a figure. Assumes nothing.
--
--   All-get_d             == what holds of all members holds of the one at a place
--   Reached l ns from k  == on the way: the numbers of ring k begin at from
--   reached-start, reached-room, reached-some, reached-next, share-next, share-end   == no ring yet; the next one's numbers are there; it has
--                           a corner; it is passed; it and those after it; all
--   Left t l ns from k   == on the way: whether some ring passes the test t is told by the rings from the k-th on, whose numbers
--                           begin at from
--   left-start, left-room, left-some, left-more, left_hit, left_end   == no ring yet; the next one's numbers are there; it has a corner; it
--                           does not pass; it does; all
--   Added ns total k     == on the way: the first k ring lengths are good, and total is their sum
--   added-start, added_more, added-few, added-many, added-end   == none yet; one more; one that is too short; one that is too long; all
use Prim.Native.Nat.{ℕ, zero, suc, ◌+◌, ◌*◌, ◌-◌, ◌/◌, ◌≤◌, ◌<◌}
use native.Mathlib.Numerals.{add-one}
use mathlib.Core.Path.{◌≡◌, refl, sym, ◌∙◌, ap, ap₂, subst}
use mathlib.Core.Bool.{Bool, true, false, not, ◌||◌}
use mathlib.Core.List.{List, [], ◌∷◌, map}
use native.Mathlib.Omega.{arith}
use lib.Dec.{ltb, eqb}
use lib.ListN.{length, get_or, take, drop, length-drop, drop_of_length-le}
use lib.Seq.{drop-cons, drop-drop, length-take-le}
use borrow.Author.Tests.{lt-ltb, le-ltb, eq-eqb, ne_eqb}
use mathlib.Core.Logic.{inl, inr}
use Rattle.sum.specs.Sum.{sum_of, All}
use Rattle.sum.proofs.Sum.{le-or}
use Rattle.figure.specs.Corners.{Corner, corners, any}
use Rattle.figure.specs.Figure.{figure, share, most_corners, most_rings, bad_length, bad_figure}
use Rattle.figure.proofs.Corners.{any_at, any_none}
use Rattle.figure.proofs.Fault.{rings-good}

pub All-get_d : {A : Type 0} (Q : A → Type 0) (d : A) (l : List A) (k : ℕ) → k < length l → All Q l → Q (get_or l k d)
All-get_d Q d [] k h a = absurd (omega arith)
All-get_d Q d (s ∷ l) zero h a = a.0
All-get_d Q d (s ∷ l) (suc k) h a = All-get_d Q d l k (omega arith) a.1

-- the lengths from the k-th on
pub rest : List ℕ → ℕ → ℕ
rest ns k = sum_of (λ n. n) (drop k ns)

rest-cons : (ns : List ℕ) (k : ℕ) → k < length ns → rest ns k ≡ get_or ns k 0 + rest ns (k + 1)
unfolding rest sum_of
rest-cons ns k h = ap (sum_of (λ n. n)) (drop-cons ns k 0 h) ∙ ap (λ m. get_or ns k 0 + sum_of (λ n. n) (drop m ns)) (sym (add-one k))

rest-none : (ns : List ℕ) (k : ℕ) → length ns ≤ k → rest ns k ≡ 0
unfolding rest sum_of
rest-none ns k h = ap (sum_of (λ n. n)) (drop_of_length-le ns {i = k} h)

-- how far a walk got: ring k begins at the number from
pub record Reached (l ns : List ℕ) (from k : ℕ) : Type 0 where
  pub numbers : from + 2 * rest ns k ≡ length l

module _ (l ns : List ℕ) where
  pub reached-start : bad_figure (figure l ns) ≡ false → Reached l ns 0 0
  unfolding rest
  reached-start h = let g = rings-good (figure l ns) h in record { numbers = omega (arith, g.numbers) }

  module _ (from k n to : ℕ) (here : k < length ns) (long : n ≡ get_or ns k 0) (ends : to ≡ from + 2 * n) where
    pub reached-room : Reached l ns from k → (from ≤ to) × (to ≤ length l)
    reached-room h = (omega arith, omega (arith, h.numbers, rest-cons ns k here))

    -- it has four corners at least
    pub reached-some : Reached l ns from k → bad_figure (figure l ns) ≡ false → 0 < length (take (to - from) (drop from l)) / 2
    reached-some r h =
        let g = All-get_d (λ n. (4 ≤ n) × (n ≤ most_corners)) 0 ns k here (rings-good (figure l ns) h).each in
        omega (arith, g.0, length-take-le (to - from) (drop from l) (omega (arith, reached-room r, length-drop {A = ℕ} from l)))

    pub reached-next : Reached l ns from k → Reached l ns to (k + 1)
    reached-next h = record { numbers = omega (arith, h.numbers, rest-cons ns k here) }

    -- the ring at hand, and those after it
    pub share-next : share (drop k ns) (drop from l) ≡ take (to - from) (drop from l) ∷ share (drop (k + 1) ns) (drop to l)
    unfolding share
    share-next =
        let z : 2 * get_or ns k 0 ≡ to - from = omega arith in
        let y : from + (to - from) ≡ to = omega arith in
        ap (λ m. share m (drop from l)) (drop-cons ns k 0 here)
        ∙ ap (λ m. take m (drop from l) ∷ share (drop (suc k) ns) (drop m (drop from l))) z
        ∙ ap₂ (λ m i. take (to - from) (drop from l) ∷ share (drop i ns) m)
        (drop-drop (to - from) from l ∙ ap (λ i. drop i l) y)
        (sym (add-one k))

  pub share-end : (from k : ℕ) → length ns ≤ k → share (drop k ns) (drop from l) ≡ []
  unfolding share
  share-end from k h = ap (λ m. share m (drop from l)) (drop_of_length-le ns {i = k} h)

pub record Left (t : List Corner → Bool) (l ns : List ℕ) (from k : ℕ) : Type 0 where
  pub told : any t (map corners (share ns l)) ≡ any t (map corners (share (drop k ns) (drop from l)))
  pub reached : Reached l ns from k

module _ (t : List Corner → Bool) (l ns : List ℕ) where
  pub left-start : bad_figure (figure l ns) ≡ false → Left t l ns 0 0
  left-start h = record { told = refl; reached = reached-start l ns h }

  module _ (from k n to : ℕ) (left : Left t l ns from k) (here : k < length ns) (long : n ≡ get_or ns k 0) (ends : to ≡ from + 2 * n) where
    cons : any t (map corners (share (drop k ns) (drop from l)))
        ≡ (t (corners (take (to - from) (drop from l))) || any t (map corners (share (drop (k + 1) ns) (drop to l))))
    unfolding any
    cons = ap (λ rs. any t (map corners rs)) (share-next l ns from k n to here long ends)

    pub left-room : (from ≤ to) × (to ≤ length l)
    left-room = reached-room l ns from k n to here long ends left.reached

    pub left-some : bad_figure (figure l ns) ≡ false → 0 < length (take (to - from) (drop from l)) / 2
    left-some = reached-some l ns from k n to here long ends left.reached

    pub left-more : t (corners (take (to - from) (drop from l))) ≡ false → Left t l ns to (k + 1)
    left-more e =
        record {
          told = left.told ∙ cons ∙ ap (λ b. b || any t (map corners (share (drop (k + 1) ns) (drop to l)))) e;
          reached = reached-next l ns from k n to here long ends left.reached;
        }

    pub left_hit : t (corners (take (to - from) (drop from l))) ≡ true → true ≡ any t (map corners (share ns l))
    left_hit e =
        sym (left.told ∙ cons ∙ ap (λ b. b || any t (map corners (share (drop (k + 1) ns) (drop to l)))) e)

  pub left_end : (from k : ℕ) → Left t l ns from k → length ns ≤ k → false ≡ any t (map corners (share ns l))
  unfolding any
  left_end from k left h = sym (left.told ∙ ap (λ rs. any t (map corners rs)) (share-end l ns from k h))

-- 2

pub record Added (ns : List ℕ) (total k : ℕ) : Type 0 where
  pub most : k ≤ length ns
  pub sum : total + rest ns k ≡ rest ns 0
  pub small : total ≤ 32 * k
  pub good : (i : ℕ) → i < k → bad_length (get_or ns i 0) ≡ false

module _ (ns : List ℕ) where
  pub added-start : Added ns 0 0
  added-start = record { most = omega arith; sum = omega arith; small = omega arith; good = λ i h. absurd (omega arith) }

  module _ (total k n : ℕ) (a : Added ns total k) (here : k < length ns) (long : n ≡ get_or ns k 0) where
    pub added_more : 4 ≤ n → n ≤ most_corners → Added ns (total + n) (k + 1)
    added_more g h =
        record {
          most = omega arith;
          sum = omega (arith, a.sum, rest-cons ns k here);
          small = omega (arith, a.small);
          good = λ i q. elim (le-or k i) [
            | inl p ↦ (let e : k ≡ i = omega arith in subst (λ j. bad_length (get_or ns j 0) ≡ false) e (good_now (get_or ns k 0) (omega arith) (omega arith)))
            | inr p ↦ a.good i p
          ];
        }
      where
        good_now : (n : ℕ) → 4 ≤ n → n ≤ most_corners → bad_length n ≡ false
        good_now n g h = unfold bad_length in ap₂ ◌||◌ (le-ltb n 4 g) (le-ltb most_corners n h)

module _ (l ns : List ℕ) where
  pub bad_none : length ns ≡ 0 → true ≡ bad_figure (figure l ns)
  unfolding bad_figure
  bad_none h = rw (eq-eqb (length ns) 0 h)

  pub bad_many : (length ns ≡ 0 → ⊥) → most_rings < length ns → true ≡ bad_figure (figure l ns)
  unfolding bad_figure
  bad_many d h = rw (ne_eqb (length ns) 0 d, lt-ltb most_rings (length ns) h)

  module _ (d : length ns ≡ 0 → ⊥) (few : length ns ≤ most_rings) where
    -- one length that is bad
    bad_at : (k : ℕ) → k < length ns → bad_length (get_or ns k 0) ≡ true → true ≡ bad_figure (figure l ns)
    unfolding bad_figure
    bad_at k h e = rw (ne_eqb (length ns) 0 d, le-ltb most_rings (length ns) few, any_at bad_length 0 ns k h e)

    module _ (total k n : ℕ) (a : Added ns total k) (here : k < length ns) (long : n ≡ get_or ns k 0) where
      pub added-few : n < 4 → true ≡ bad_figure (figure l ns)
      added-few h = bad_at k here (few_bad (get_or ns k 0) (omega arith))
        where
          few_bad : (n : ℕ) → n < 4 → bad_length n ≡ true
          few_bad n h = unfold bad_length in ap (λ b. b || ltb most_corners n) (lt-ltb n 4 h)

      pub added-many : 4 ≤ n → most_corners < n → true ≡ bad_figure (figure l ns)
      added-many g h = bad_at k here (many_bad (get_or ns k 0) (omega arith) (omega arith))
        where
          many_bad : (n : ℕ) → 4 ≤ n → most_corners < n → bad_length n ≡ true
          many_bad n g h = unfold bad_length in ap₂ ◌||◌ (le-ltb n 4 g) (lt-ltb most_corners n h)

    module _ (total k : ℕ) (a : Added ns total k) (all : length ns ≤ k) where
      total-is : rest ns 0 ≡ total
      total-is = omega (arith, a.sum, rest-none ns k all)

      none : any bad_length ns ≡ false
      none = any_none bad_length 0 ns (λ i h. a.good i (omega (arith, a.most)))

      tail : bad_figure (figure l ns) ≡ (ltb most_corners total || not (eqb (length l) (2 * total)))
      unfolding bad_figure rest
      tail = rw (ne_eqb (length ns) 0 d, le-ltb most_rings (length ns) few, none, total-is)

      pub added-over : most_corners < total → ltb most_corners total ≡ bad_figure (figure l ns)
      added-over h = lt-ltb most_corners total h ∙ sym (tail ∙ ap (λ b. b || not (eqb (length l) (2 * total))) (lt-ltb most_corners total h))

      pub added-end : total ≤ most_corners → not (eqb (length l) (2 * total)) ≡ bad_figure (figure l ns)
      added-end h = sym (tail ∙ ap (λ b. b || not (eqb (length l) (2 * total))) (le-ltb most_corners total h))
