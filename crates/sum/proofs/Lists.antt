-- Laws of lists: sums, joins, properties of members, runs of stores. Assumes nothing.
--
--   sum_of-append, sum_of-one, sum_of-join, sum_of-map   == the sum over two lists, over one member, over joined lists, over a map
--   sum_of-le, sum_of-same                 == member by member: at most, the same
--   sum_of-add, sum_of_ones                == a sum of sums, the length
--   sum_of_member, sum_of-at, sum_of-two, sum_of-some   == one member's summand, two members'; a member that has a summand
--   All-all, All-imp, All-append, All-map, All-unmap, All-join, All-parts   == a property of all members of ..
--   All-at, All-of                       == .. and of each member
--   Some-map, Some-left, Some-right      == a member of a map, of two lists
--   map_same, join-same, join-append     == member by member the same; the join of two lists
--   sets_append, sets_front              == a run of stores after another; a run from the front on
use Prim.Native.Nat.{ℕ, zero, suc, ◌+◌, ◌≤◌, ◌<◌}
use mathlib.Core.Path.{◌≡◌, refl, sym, ◌∙◌, ap, subst}
use mathlib.Core.List.{List, [], ◌∷◌, ◌++◌, map, append_assoc, Memᴰ as Member}
use native.Mathlib.Omega.{arith}
use native.Mathlib.Nat.{add-zero, zero-add}
use lib.ListN.{length, get_or, drop, set}
use lib.Seq.{sets, sets-eq}
use Rattle.sum.specs.Sum.{sum_of, All, Some, join}

module _ {A : Type 0} where
  pub sum_of-append : (f : A → ℕ) (l m : List A) → sum_of f (l ++ m) ≡ sum_of f l + sum_of f m
  unfolding sum_of
  sum_of-append f [] m = omega arith
  sum_of-append f (s ∷ l) m = omega (arith, sum_of-append f l m)

  pub sum_of-one : (f : A → ℕ) (s : A) → sum_of f (s ∷ []) ≡ f s
  unfolding sum_of
  sum_of-one f s = omega arith

  pub sum_of-le : (f g : A → ℕ) (l : List A) → All (λ s. f s ≤ g s) l → sum_of f l ≤ sum_of g l
  unfolding sum_of
  sum_of-le f g [] h = omega arith
  sum_of-le f g (s ∷ l) h = omega (arith, h.0, sum_of-le f g l h.1)

  pub sum_of-same : (f g : A → ℕ) (l : List A) → All (λ s. f s ≡ g s) l → sum_of f l ≡ sum_of g l
  unfolding sum_of
  sum_of-same f g [] h = refl
  sum_of-same f g (s ∷ l) h = omega (arith, h.0, sum_of-same f g l h.1)

  pub All-imp : {P Q : A → Type 0} → ((s : A) → P s → Q s) → (l : List A) → All P l → All Q l
  All-imp f [] h = tt
  All-imp f (s ∷ l) h = (f s h.0, All-imp f l h.1)

  pub All-append : (P : A → Type 0) (l m : List A) → All P l → All P m → All P (l ++ m)
  All-append P [] m h k = k
  All-append P (s ∷ l) m h k = (h.0, All-append P l m h.1 k)

  pub All-all : {P : A → Type 0} → ((s : A) → P s) → (l : List A) → All P l
  All-all f [] = tt
  All-all f (s ∷ l) = (f s, All-all f l)

  pub sum_of_ones : (l : List A) → sum_of (λ s. 1) l ≡ length l
  unfolding sum_of
  sum_of_ones [] = refl
  sum_of_ones (s ∷ l) = omega (arith, sum_of_ones l)

  pub sum_of-add : (f g : A → ℕ) (l : List A) → sum_of (λ s. f s + g s) l ≡ sum_of f l + sum_of g l
  unfolding sum_of
  sum_of-add f g [] = refl
  sum_of-add f g (s ∷ l) = omega (arith, sum_of-add f g l)

  pub All-parts : (Q : A → Type 0) (l m : List A) → All Q (l ++ m) → All Q l × All Q m
  All-parts Q [] m h = (tt, h)
  All-parts Q (s ∷ l) m h = let i = All-parts Q l m h.1 in ((h.0, i.0), i.1)

  pub Some-left : (l m : List A) → Some l → Some (l ++ m)
  Some-left [] m h = absurd h
  Some-left (s ∷ l) m h = tt

  pub Some-right : (l m : List A) → Some m → Some (l ++ m)
  Some-right [] m h = h
  Some-right (s ∷ l) m h = tt

  pub All-at : (Q : A → Type 0) {s : A} {l : List A} → Member s l → All Q l → Q s
  All-at Q (Member.head e) h = subst Q (sym e) h.0
  All-at Q (Member.tail m) h = All-at Q m h.1

  -- one member's summand, two members' summands, and a member that has one
  pub sum_of_member : (f : A → ℕ) {s : A} {l : List A} → Member s l → f s ≤ sum_of f l
  unfolding sum_of
  sum_of_member f (Member.head e) = omega (arith, ap f e)
  sum_of_member f (Member.tail m) = omega (arith, sum_of_member f m)

  pub sum_of-at : (f : A → ℕ) (d : A) (l : List A) (i : ℕ) → i < length l → f (get_or l i d) ≤ sum_of f l
  unfolding sum_of
  sum_of-at f d [] i h = absurd (omega arith)
  sum_of-at f d (s ∷ l) zero h = omega arith
  sum_of-at f d (s ∷ l) (suc i) h = omega (arith, sum_of-at f d l i (omega arith))

  pub sum_of-two : (f : A → ℕ) (d : A) (l : List A) (i j : ℕ) → i < j → j < length l → f (get_or l i d) + f (get_or l j d) ≤ sum_of f l
  unfolding sum_of
  sum_of-two f d [] i j h k = absurd (omega arith)
  sum_of-two f d (s ∷ l) zero (suc j) h k = omega (arith, sum_of-at f d l j (omega arith))
  sum_of-two f d (s ∷ l) (suc i) (suc j) h k = omega (arith, sum_of-two f d l i j (omega arith) (omega arith))
  sum_of-two f d (s ∷ l) i zero h k = absurd (omega arith)

  pub sum_of-some : (f : A → ℕ) (l : List A) → 0 < sum_of f l → (s : A) × Member s l × (0 < f s)
  unfolding sum_of
  sum_of-some f [] h = absurd (omega arith)
  sum_of-some f (s ∷ l) h = go (f s) refl (λ k. sum_of-some f l k)
    where
      go : (n : ℕ) → f s ≡ n → (0 < sum_of f l → (u : A) × Member u l × (0 < f u)) → (u : A) × Member u (s ∷ l) × (0 < f u)
      go zero e i = let m = i (omega arith) in (m.0, Member.tail m.1, m.2)
      go (suc n) e i = (s, Member.head refl, omega arith)

  -- what holds of each member holds of all
  pub All-of : (Q : A → Type 0) (l : List A) → ((s : A) → Member s l → Q s) → All Q l
  All-of Q [] h = tt
  All-of Q (s ∷ l) h = (h s (Member.head refl), All-of Q l (λ t m. h t (Member.tail m)))

module _ {A B : Type 0} where
  pub Some-map : (f : A → B) (l : List A) → Some l → Some (map f l)
  Some-map f [] h = h
  Some-map f (s ∷ l) h = tt

  pub map_same : (f g : A → B) (l : List A) → All (λ s. f s ≡ g s) l → map f l ≡ map g l
  map_same f g [] h = refl
  map_same f g (s ∷ l) h = rw (h.0, map_same f g l h.1)

  pub All-map : (Q : B → Type 0) (f : A → B) (l : List A) → All (λ s. Q (f s)) l → All Q (map f l)
  All-map Q f [] h = tt
  All-map Q f (s ∷ l) h = (h.0, All-map Q f l h.1)

  pub All-unmap : (Q : B → Type 0) (f : A → B) (l : List A) → All Q (map f l) → All (λ s. Q (f s)) l
  All-unmap Q f [] h = tt
  All-unmap Q f (s ∷ l) h = (h.0, All-unmap Q f l h.1)

  pub join-same : (f g : A → List B) (l : List A) → All (λ s. f s ≡ g s) l → join f l ≡ join g l
  unfolding join
  join-same f g [] h = refl
  join-same f g (s ∷ l) h = rw (h.0, join-same f g l h.1)

  pub sum_of-join : (v : B → ℕ) (f : A → List B) (l : List A) → sum_of v (join f l) ≡ sum_of (λ s. sum_of v (f s)) l
  unfolding join sum_of
  sum_of-join v f [] = refl
  sum_of-join v f (s ∷ l) = sum_of-append v (f s) (join f l) ∙ ap (λ n. sum_of v (f s) + n) (sum_of-join v f l)

  pub sum_of-map : (v : B → ℕ) (f : A → B) (l : List A) → sum_of v (map f l) ≡ sum_of (λ s. v (f s)) l
  unfolding sum_of
  sum_of-map v f [] = refl
  sum_of-map v f (s ∷ l) = ap (λ n. v (f s) + n) (sum_of-map v f l)

  pub All-join : (Q : B → Type 0) (f : A → List B) (l : List A) → All (λ s. All Q (f s)) l → All Q (join f l)
  unfolding join
  All-join Q f [] h = tt
  All-join Q f (s ∷ l) h = All-append Q (f s) (join f l) h.0 (All-join Q f l h.1)

  pub join-append : (f : A → List B) (l m : List A) → join f (l ++ m) ≡ join f l ++ join f m
  unfolding join
  join-append f [] m = refl
  join-append f (s ∷ l) m = ap (λ k. f s ++ k) (join-append f l m) ∙ sym (append_assoc (f s) (join f l) (join f m))

pub sets_append : (l : List ℕ) (i : ℕ) (u v : List ℕ) → sets l i (u ++ v) ≡ sets (sets l i u) (i + length u) v
sets_append l i [] v = rw add-zero
sets_append l i (x ∷ u) v =
    let e : i + suc (length u) ≡ suc i + length u = omega arith in
    sets_append (set l i x) (suc i) u v ∙ ap (λ n. sets (sets (set l i x) (suc i) u) n v) (sym e)

pub sets_front : (l u : List ℕ) → length u ≤ length l → sets l 0 u ≡ u ++ drop (length u) l
sets_front l u h = sets-eq u l 0 (omega arith) ∙ rw zero-add
