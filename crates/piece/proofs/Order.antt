-- The tie order: the cuts of a piece are listed in it, so that the first cut of the list is the first in the scope's words. Assumes
-- nothing.
--
--   run-all                          == what holds of each number of a run holds of the run
--   Sorted R l                       == each of the list l stands before all that follow it, R saying what stands before what
--   sorted_append, sorted_run, sorted_join   == of two lists, of a run of lines, of lists for each of a run of lines
--   first-is                         == in such a list, what has the value where nothing before it has is the first to have it
--   first-passed                     == and nothing before the first has the value
--   before_once                      == of two cuts one at most comes before the other
--   cuts-order                       == the cuts of a piece are listed in the tie order, in either mode
use Prim.Native.Nat.{ℕ, zero, suc, ◌+◌, ◌-◌, ◌≤◌, ◌<◌}
use mathlib.Core.Path.{◌≡◌, refl, sym, ◌∙◌, ap, subst}
use mathlib.Core.Bool.{Bool, true, false}
use mathlib.Core.List.{List, [], ◌∷◌, ◌++◌, map, Memᴰ as Member}
use mathlib.Core.Logic.{◌⊎◌, inl, inr}
use native.Mathlib.Omega.{arith}
use lib.Dec.{eqb}
use borrow.Author.Tests.{eqb-true, eqb-false}
use Rattle.sum.specs.Sum.{All, join}
use Rattle.sum.proofs.Lists.{All-all, All-imp, All-append, All-map, All-at, All-join}
use Rattle.recurrence.specs.Choice.{first}
use Rattle.recurrence.proofs.Choice.{first-yes, first-no}
use Rattle.piece.specs.declared.Mode.{Mode}
use Rattle.piece.specs.declared.Mode.TheVariants.{Straight, Pinwheel}
use Rattle.piece.specs.declared.Turn.{Turn}
use Rattle.piece.specs.declared.Turn.TheVariants.{First, Second}
use Rattle.piece.specs.Piece.{Piece}
use Rattle.piece.specs.Cuts.{turns, Cut, vertical, horizontal, wheel, run, between, straight_cuts, wheels, cuts, Then, Lower, Before}

-- Lists in an order

pub run-all : (Q : ℕ → Type 0) (k n : ℕ) → ((j : ℕ) → k ≤ j → j < k + n → Q j) → All Q (run k n)
unfolding run
run-all Q k zero h = tt
run-all Q k (suc n) h = (h k (omega arith) (omega arith), run-all Q (suc k) n (λ j q r. h j (omega arith) (omega arith)))

module _ {A : Type 0} (R : A → A → Type 0) where
  abbrev pub Sorted : List A → Type 0
  Sorted [] = Unit {0}
  Sorted (s ∷ l) = All (R s) l × Sorted l

  sorted_append : (l m : List A) → Sorted l → Sorted m → All (λ s. All (R s) m) l → Sorted (l ++ m)
  sorted_append [] m h k c = k
  sorted_append (s ∷ l) m h k c = (All-append (R s) l m h.0 c.0, sorted_append l m h.1 k c.1)

  sorted_run : (f : ℕ → A) → ((i j : ℕ) → i < j → R (f i) (f j)) → (k n : ℕ) → Sorted (map f (run k n))
  unfolding run
  sorted_run f up k zero = tt
  sorted_run f up k (suc n) =
      (All-map (R (f k)) f (run (suc k) n) (run-all _ (suc k) n (λ j h q. up k j h)), sorted_run f up (suc k) n)

  -- for each of the list: before all of each later row
  rows-after : (k : ℕ) (g : ℕ → List A) (l : List A) → ((i : ℕ) → k < i → All (λ s. All (R s) (g i)) l)
      → All (λ s. (i : ℕ) → k < i → All (R s) (g i)) l
  rows-after k g [] h = tt
  rows-after k g (s ∷ l) h = (λ i q. (h i q).0, rows-after k g l (λ i q. (h i q).1))

  sorted_join : (g : ℕ → List A) → ((i : ℕ) → Sorted (g i)) → ((i j : ℕ) → i < j → All (λ s. All (R s) (g j)) (g i))
      → (k n : ℕ) → Sorted (join g (run k n))
  unfolding run join
  sorted_join g row up k zero = tt
  sorted_join g row up k (suc n) =
      sorted_append (g k) (join g (run (suc k) n)) (row k) (sorted_join g row up (suc k) n)
      (All-imp {P = λ s. (i : ℕ) → k < i → All (R s) (g i)} {Q = λ s. All (R s) (join g (run (suc k) n))}
      (λ s h. All-join (R s) g (run (suc k) n) (run-all _ (suc k) n (λ j q _. h j q)))
      (g k)
      (rows-after k g (g k) (λ i q. up k i q)))

  module _ (f : A → ℕ) (v : ℕ) (z : A) where
    pub first-is : (l : List A) → Sorted l → (a : A) → Member a l → f a ≡ v → ((b : A) → Member b l → R b a → f b ≡ v → ⊥) → first f v z l ≡ a
    first-is [] h a x4 m none = elim x4 [ ]
    first-is (s ∷ l) h a (Member.head e) m none = first-yes f v z s l (ap f (sym e) ∙ m) ∙ sym e
    first-is (s ∷ l) h a (Member.tail i) m none =
        first-no f v z s l (none s (Member.head refl) (All-at (R s) i h.0))
        ∙ first-is l h.1 a i m (λ b j. none b (Member.tail j))

    -- whatever has the value is the first, or comes after it
    pub first-passed : (l : List A) → Sorted l → (b : A) → Member b l → f b ≡ v → (first f v z l ≡ b) ⊎ R (first f v z l) b
    first-passed [] h b i m = elim i [ ]
    first-passed (s ∷ l) h b i m = go (λ j. first-passed l h.1 b j m) (eqb (f s) v) refl i
      where
        go : (Member b l → (first f v z l ≡ b) ⊎ R (first f v z l) b) → (t : Bool) → eqb (f s) v ≡ t → Member b (s ∷ l)
            → (first f v z (s ∷ l) ≡ b) ⊎ R (first f v z (s ∷ l)) b
        go more true w (Member.head e) = inl (first-yes f v z s l (eqb-true _ _ w) ∙ sym e)
        go more true w (Member.tail i) =
            inr (subst (λ c. R c b) (sym (first-yes f v z s l (eqb-true _ _ w))) (All-at (R s) i h.0))
        go more false w (Member.head e) = absurd (eqb-false _ _ w (ap f (sym e) ∙ m))
        go more false w (Member.tail i) =
            subst (λ c. (c ≡ b) ⊎ R c b) (sym (first-no f v z s l (eqb-false _ _ w))) (more i)

-- The order of cuts

then_once : {R S : Type 0} (i j : ℕ) → (R → S → ⊥) → Then i j R → Then j i S → ⊥
then_once i j c (inl h) (inl k) = omega arith
then_once i j c (inl h) (inr k) = omega (arith, k.0)
then_once i j c (inr h) (inl k) = omega (arith, h.0)
then_once i j c (inr h) (inr k) = c h.1 k.1

lower_once : (j l k m j' l' k' m' : ℕ) → Lower j l k m j' l' k' m' → Lower j' l' k' m' j l k m → ⊥
lower_once j l k m j' l' k' m' =
    then_once j j' (then_once l l' (then_once k k' (λ (p : m < m') (q : m' < m). omega arith)))

pub before_once : (i k : Cut) → Before i k → Before k i → ⊥
before_once (vertical i) (vertical j) p q = omega arith
before_once (vertical i) (horizontal j) p q = q
before_once (vertical i) (wheel t j l k m) p q = q
before_once (horizontal i) (vertical j) p q = p
before_once (horizontal i) (horizontal j) p q = omega arith
before_once (horizontal i) (wheel t j l k m) p q = q
before_once (wheel t j l k m) (vertical i) p q = p
before_once (wheel t j l k m) (horizontal i) p q = p
before_once (wheel First j l k m) (wheel First j' l' k' m') p q = lower_once j l k m j' l' k' m' p q
before_once (wheel First j l k m) (wheel Second j' l' k' m') p q = q
before_once (wheel Second j l k m) (wheel First j' l' k' m') p q = p
before_once (wheel Second j l k m) (wheel Second j' l' k' m') p q = lower_once j l k m j' l' k' m' p q

straight-order : (p : Piece) → Sorted Before (straight_cuts p)
unfolding straight_cuts between
straight-order p =
    sorted_append Before (map vertical (between p.a p.c)) (map horizontal (between p.b p.d))
    (sorted_run Before vertical (λ i j h. h) (suc p.a) (p.c - suc p.a))
    (sorted_run Before horizontal (λ i j h. h) (suc p.b) (p.d - suc p.b))
    (All-map _ vertical (between p.a p.c)
    (All-all (λ i. All-map (Before (vertical i)) horizontal (between p.b p.d) (All-all (λ j. tt) (between p.b p.d))) (between p.a p.c)))

-- the pinwheels of a turn with their first lines given
module _ (t : Turn) (p : Piece) where
  with_k : ℕ → ℕ → ℕ → List Cut
  with_k j l k = map (λ m. wheel t j l k m) (between k p.d)

  with_l : ℕ → ℕ → List Cut
  with_l j l = join (with_k j l) (between p.b p.d)

  with_j : ℕ → List Cut
  with_j j = join (with_l j) (between j p.c)

  all-k : (Q : Cut → Type 0) (j l k : ℕ) → ((m : ℕ) → Q (wheel t j l k m)) → All Q (with_k j l k)
  unfolding with_k
  all-k Q j l k h = All-map Q (λ m. wheel t j l k m) (between k p.d) (All-all h (between k p.d))

  all-l : (Q : Cut → Type 0) (j l : ℕ) → ((k m : ℕ) → Q (wheel t j l k m)) → All Q (with_l j l)
  unfolding with_l
  all-l Q j l h = All-join Q (with_k j l) (between p.b p.d) (All-all (λ k. all-k Q j l k (h k)) (between p.b p.d))

  all-j : (Q : Cut → Type 0) (j : ℕ) → ((l k m : ℕ) → Q (wheel t j l k m)) → All Q (with_j j)
  unfolding with_j
  all-j Q j h = All-join Q (with_l j) (between j p.c) (All-all (λ l. all-l Q j l (h l)) (between j p.c))

  all-wheels : (Q : Cut → Type 0) → ((j l k m : ℕ) → Q (wheel t j l k m)) → All Q (wheels t p)
  unfolding wheels with_j with_l with_k
  all-wheels Q h = All-join Q with_j (between p.a p.c) (All-all (λ j. all-j Q j (h j)) (between p.a p.c))

  lower-before : (j l k m j' l' k' m' : ℕ) → Lower j l k m j' l' k' m' → Before (wheel t j l k m) (wheel t j' l' k' m')
  lower-before j l k m j' l' k' m' h = go t
    where
      go : (u : Turn) → Before (wheel u j l k m) (wheel u j' l' k' m')
      go First = h
      go Second = h

  wheels-order : Sorted Before (wheels t p)
  unfolding wheels with_j with_l with_k between
  wheels-order =
      sorted_join Before with_j
      (λ j.
      sorted_join Before (with_l j)
      (λ l.
      sorted_join Before (with_k j l)
      (λ k. sorted_run Before (λ m. wheel t j l k m) (λ m m' h. lower-before j l k m j l k m' (inr (refl, inr (refl, inr (refl, h))))) (suc k) (p.d - suc k))
      (λ k k' h. all-k _ j l k (λ m. all-k _ j l k' (λ m'. lower-before j l k m j l k' m' (inr (refl, inr (refl, inl h))))))
      (suc p.b) (p.d - suc p.b))
      (λ l l' h. all-l _ j l (λ k m. all-l _ j l' (λ k' m'. lower-before j l k m j l' k' m' (inr (refl, inl h)))))
      (suc j) (p.c - suc j))
      (λ j j' h. all-j _ j (λ l k m. all-j _ j' (λ l' k' m'. lower-before j l k m j' l' k' m' (inl h))))
      (suc p.a) (p.c - suc p.a)

-- the first turn before the second
turns-order : (p : Piece) → Sorted Before (join (λ t. wheels t p) turns)
unfolding turns join
turns-order p =
    sorted_append Before (wheels First p) (wheels Second p ++ []) (wheels-order First p)
    (sorted_append Before (wheels Second p) [] (wheels-order Second p) tt (All-all (λ s. tt) (wheels Second p)))
    (all-wheels First p _ (λ j l k m. All-append _ (wheels Second p) [] (all-wheels Second p _ (λ j' l' k' m'. tt)) tt))

pub cuts-order : (mode : Mode) (p : Piece) → Sorted Before (cuts mode p)
unfolding cuts
cuts-order Straight p = straight-order p
cuts-order Pinwheel p =
    sorted_append Before (straight_cuts p) (join (λ t. wheels t p) turns) (straight-order p) (turns-order p) after
  where
    wheels-after : (k : Cut) → ((t : Turn) (j l i m : ℕ) → Before k (wheel t j l i m)) → All (Before k) (join (λ t. wheels t p) turns)
    wheels-after k h = All-join (Before k) (λ t. wheels t p) turns (All-all (λ t. all-wheels t p (Before k) (h t)) turns)

    after : All (λ s. All (Before s) (join (λ t. wheels t p) turns)) (straight_cuts p)
    after =
        unfold straight_cuts in
        All-append _ (map vertical (between p.a p.c)) (map horizontal (between p.b p.d))
        (All-map _ vertical (between p.a p.c) (All-all (λ i. wheels-after (vertical i) (λ t j l k m. tt)) (between p.a p.c)))
        (All-map _ horizontal (between p.b p.d) (All-all (λ i. wheels-after (horizontal i) (λ t j l k m. tt)) (between p.b p.d)))
