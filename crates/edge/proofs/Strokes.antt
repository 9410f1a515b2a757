-- The edges drawn over a stretch, and the squares on either side of it. Assumes nothing.
--
--   rings-even           == once round each ring, what each edge has is even in all, if it is the sum of what its two ends have, but for an even
--                           number
--   odd-third            == of three numbers that are even together
--   within_count         == the odd count at a square, edge by edge
--   strokes-odd          == an odd number of edges is drawn over a stretch exactly if one of the squares beside it is inside and the other not:
--                           of upright stretches from the odd count, of level ones because rings close
use Prim.Native.Nat.{ℕ, zero, suc, ◌+◌, ◌%◌, ◌≤◌, ◌<◌, min, max}
use mathlib.Core.Path.{◌≡◌, refl, ◌∙◌, ap, ap₂}
use mathlib.Core.Bool.{Bool, true, false, not, cond, ◌&&◌, ◌||◌, true≢false}
use mathlib.Core.List.{List, [], ◌∷◌}
use mathlib.Core.Logic.{◌⊎◌, inl, inr}
use native.Mathlib.Omega.{arith}
use lib.Dec.{leb, eqb}
use borrow.Author.Tests.{eqb-true, eq-eqb, ne_eqb, le-leb, lt-leb}
use Rattle.sum.specs.Sum.{only, sum_of, All, join}
use Rattle.sum.proofs.Sum.{le-or}
use Rattle.sum.proofs.Lists.{sum_of-append, sum_of-same, sum_of-join, sum_of-add, All-all}
use Rattle.figure.specs.declared.Axis.{Axis}
use Rattle.figure.specs.declared.Axis.TheVariants.{X, Y}
use Rattle.figure.specs.Corners.{Corner, Link, coordinate, last, steps, around, edges, changes, both, slanted, odd}
use Rattle.figure.specs.Figure.{Figure, rings, edges_of}
use Rattle.figure.specs.Inside.{Wall, wall, walls, covers, count, within, inside_at}
use Rattle.figure.proofs.Turns.{any-all}
use Rattle.demands.specs.Square.{exposed}
use Rattle.edge.specs.Steps.{standing}
use Rattle.edge.specs.Edge.{low_along, high_along, drawn_over, strokes, beneath, beyond, wall_at}

-- Once round, what each edge has is even in all, if it is the sum of what its two ends have, but for an even number
module _ (f : Link Corner → ℕ) (ends : Corner → ℕ) (each : (e : Link Corner) → both e ≡ false → f e % 2 ≡ (ends e.from + ends e.to) % 2) where
  steps-even : (p : Corner) (l : List Corner) → All (λ e. both e ≡ false) (steps p l)
      → sum_of f (steps p l) % 2 ≡ (ends p + ends (last p l)) % 2
  unfolding steps last sum_of
  steps-even p [] h = omega arith
  steps-even p (q ∷ l) h =
      let e : Link Corner = record { from = p; to = q } in
      omega (arith, each e h.0, steps-even q l h.1)

  around-even : (cs : List Corner) → slanted cs ≡ false → sum_of f (edges cs) % 2 ≡ 0
  unfolding edges around last sum_of slanted
  around-even [] s = refl
  around-even (c ∷ cs) s = omega (arith, steps-even (last c cs) (c ∷ cs) (any-all both (around (c ∷ cs)) s))

  pub rings-even : (rs : List (List Corner)) → All (λ r. slanted r ≡ false) rs → sum_of f (join edges rs) % 2 ≡ 0
  unfolding join sum_of
  rings-even [] h = refl
  rings-even (r ∷ rs) h = omega (arith, sum_of-append f (edges r) (join edges rs), around-even r h.0, rings-even rs h.1)

-- of three numbers that are even together
bit : (n : ℕ) → (n % 2 ≡ 0) ⊎ (n % 2 ≡ 1)
bit n = elim (le-or (n % 2) 0) [
  | inl q ↦ inl (omega arith)
  | inr q ↦ inr (omega arith)
]

pub odd-third : (a b c : ℕ) → (a + b + c) % 2 ≡ 0 → odd c ≡ wall_at (odd a) (odd b)
unfolding odd wall_at exposed
odd-third a b c h = go (bit a) (bit b)
  where
    go : (a % 2 ≡ 0) ⊎ (a % 2 ≡ 1) → (b % 2 ≡ 0) ⊎ (b % 2 ≡ 1)
        → eqb (c % 2) 1 ≡ ((eqb (a % 2) 1 && not (eqb (b % 2) 1)) || (eqb (b % 2) 1 && not (eqb (a % 2) 1)))
    go (inl e) (inl q) = let z : c % 2 ≡ 0 = omega arith in rw (e, q, z)
    go (inl e) (inr q) = let z : c % 2 ≡ 1 = omega arith in rw (e, q, z)
    go (inr e) (inl q) = let z : c % 2 ≡ 1 = omega arith in rw (e, q, z)
    go (inr e) (inr q) = let z : c % 2 ≡ 0 = omega arith in rw (e, q, z)

-- how many walls of an edge cover the square at (x, y)
standing-count : (x y : ℕ) (e : Link Corner) → count (covers x y (suc y)) (wall e) ≡ only (standing x y e) 1
unfolding count wall covers sum_of standing low_along high_along coordinate
standing-count x y e = go (changes X e)
  where
    w : Wall
    w = record { x = e.to.x; lo = min e.from.y e.to.y; hi = max e.from.y e.to.y }

    go : (t : Bool) → sum_of (λ w. only (covers x y (suc y) w) 1) (cond t [] (w ∷ []))
        ≡ only (not t && (leb e.to.x x && (leb (low_along Y e) y && leb (suc y) (high_along Y e)))) 1
    go true = refl
    go false = omega arith

pub within_count : (es : List (Link Corner)) (x y : ℕ) → count (covers x y (suc y)) (walls es) ≡ sum_of (λ e. only (standing x y e) 1) es
unfolding count walls
within_count es x y =
    sum_of-join (λ w. only (covers x y (suc y) w) 1) wall es
    ∙ sum_of-same _ (λ e. only (standing x y e) 1) es (All-all (standing-count x y) es)

-- a span from u to v, either way round, takes in the stretch y exactly if one of its ends is at or below y and the other is not
span_parity : (u v y : ℕ) → only (leb (min u v) y && leb (suc y) (max u v)) 1 % 2 ≡ (only (leb u y) 1 + only (leb v y) 1) % 2
span_parity u v y = go (le-or u y) (le-or v y)
  where
    go : (u ≤ y) ⊎ (y < u) → (v ≤ y) ⊎ (y < v)
        → only (leb (min u v) y && leb (suc y) (max u v)) 1 % 2 ≡ (only (leb u y) 1 + only (leb v y) 1) % 2
    go (inl a) (inl b) = rw (le-leb (min u v) y (omega arith), lt-leb (suc y) (max u v) (omega arith), le-leb u y a, le-leb v y b)
    go (inl a) (inr b) = rw (le-leb (min u v) y (omega arith), le-leb (suc y) (max u v) (omega arith), le-leb u y a, lt-leb v y b)
    go (inr a) (inl b) = rw (le-leb (min u v) y (omega arith), le-leb (suc y) (max u v) (omega arith), lt-leb u y a, le-leb v y b)
    go (inr a) (inr b) = rw (lt-leb (min u v) y (omega arith), lt-leb u y a, lt-leb v y b)

-- at or below the next place: at or below this one, or there
next_place : (u y : ℕ) → only (leb u (suc y)) 1 ≡ only (leb u y) 1 + only (eqb u (suc y)) 1
next_place u y = go (le-or u y) (le-or u (suc y))
  where
    go : (u ≤ y) ⊎ (y < u) → (u ≤ suc y) ⊎ (suc y < u) → only (leb u (suc y)) 1 ≡ only (leb u y) 1 + only (eqb u (suc y)) 1
    go (inl a) q = rw (le-leb u y a, le-leb u (suc y) (omega arith), ne_eqb u (suc y) (λ z. omega arith))
    go (inr a) (inl b) = rw (lt-leb u y a, le-leb u (suc y) b, eq-eqb u (suc y) (omega arith))
    go (inr a) (inr b) = rw (lt-leb u y a, lt-leb u (suc y) b, ne_eqb u (suc y) (λ z. omega arith))

first-place : (u : ℕ) → only (leb u 0) 1 ≡ only (eqb u 0) 1
first-place zero = refl
first-place (suc u) = rw (lt-leb (suc u) 0 (omega arith), ne_eqb (suc u) 0 (λ z. omega arith))

both_parity : (p q n m : ℕ) → p % 2 ≡ n % 2 → q % 2 ≡ (n + m) % 2 → (p + q) % 2 ≡ m % 2
both_parity p q n m h k = omega arith

span-next : (u v y : ℕ)
    → only (leb (min u v) (suc y) && leb (suc (suc y)) (max u v)) 1 % 2
    ≡ ((only (leb u y) 1 + only (leb v y) 1) + (only (eqb u (suc y)) 1 + only (eqb v (suc y)) 1)) % 2
span-next u v y =
    span_parity u v (suc y)
    ∙ ap₂ (λ m n. (m + n) % 2) (next_place u y) (next_place v y)
    ∙ ap (λ n. n % 2) (four (only (leb u y) 1) (only (eqb u (suc y)) 1) (only (leb v y) 1) (only (eqb v (suc y)) 1))
  where
    four : (a b c d : ℕ) → (a + b) + (c + d) ≡ (a + c) + (b + d)
    four a b c d = omega arith

and-true : (t : Bool) → only (t && true) 1 ≡ only t 1
and-true true = refl
and-true false = refl

and_none : (t : Bool) → only (t && false) 1 ≡ 0
and_none true = refl
and_none false = refl

-- Upright stretches
upright-next : (x y : ℕ) (e : Link Corner)
    → (only (standing x y e) 1 + only (standing (suc x) y e) 1 + only (drawn_over X (suc x) y e) 1) % 2 ≡ 0
unfolding standing drawn_over coordinate
upright-next x y e = go (not (changes X e)) (leb (low_along Y e) y && leb (suc y) (high_along Y e))
  where
    go : (s t : Bool)
        → (only (s && (leb e.to.x x && t)) 1 + only (s && (leb e.to.x (suc x) && t)) 1 + only (s && (eqb e.to.x (suc x) && t)) 1) % 2 ≡ 0
    go false t = refl
    go true true = omega (arith, next_place e.to.x x, and-true (leb e.to.x x), and-true (leb e.to.x (suc x)), and-true (eqb e.to.x (suc x)))
    go true false = omega (arith, and_none (leb e.to.x x), and_none (leb e.to.x (suc x)), and_none (eqb e.to.x (suc x)))

upright-first : (y : ℕ) (e : Link Corner) → (only (standing 0 y e) 1 + only (drawn_over X 0 y e) 1) % 2 ≡ 0
unfolding standing drawn_over coordinate
upright-first y e = go (not (changes X e)) (leb (low_along Y e) y && leb (suc y) (high_along Y e))
  where
    go : (s t : Bool) → (only (s && (leb e.to.x 0 && t)) 1 + only (s && (eqb e.to.x 0 && t)) 1) % 2 ≡ 0
    go false t = refl
    go true true = omega (arith, first-place e.to.x, and-true (leb e.to.x 0), and-true (eqb e.to.x 0))
    go true false = omega (arith, and_none (leb e.to.x 0), and_none (eqb e.to.x 0))

-- Level stretches: what an edge has is what its two ends have, an end being counted where it is at the height, at or left of x
at_height : ℕ → ℕ → Corner → ℕ
at_height x h c = only (leb c.x x && eqb c.y h) 1

-- an upright edge is drawn over no level stretch
no_span : (u x : ℕ) (s t : Bool) → only (s && (t && (leb (min u u) x && leb (suc x) (max u u)))) 1 ≡ 0
no_span u x s t = elim (le-or u x) [
  | inl q ↦ go s t (leb (min u u) x) (leb (suc x) (max u u)) (inr (lt-leb (suc x) (max u u) (omega arith)))
  | inr q ↦ go s t (leb (min u u) x) (leb (suc x) (max u u)) (inl (lt-leb (min u u) x (omega arith)))
]
  where
    go : (s t u v : Bool) → (u ≡ false) ⊎ (v ≡ false) → only (s && (t && (u && v))) 1 ≡ 0
    go false t u v h = refl
    go true false u v h = refl
    go true true false v h = refl
    go true true true false h = refl
    go true true true true (inl h) = absurd (true≢false h)
    go true true true true (inr h) = absurd (true≢false h)

level_next : (x y : ℕ) (e : Link Corner) → both e ≡ false
    → (only (standing x y e) 1 + only (standing x (suc y) e) 1 + only (drawn_over Y (suc y) x e) 1) % 2
    ≡ (at_height x (suc y) e.from + at_height x (suc y) e.to) % 2
unfolding standing drawn_over at_height both changes coordinate low_along high_along
level_next x y e h = go (eqb e.from.x e.to.x) refl (eqb e.from.y e.to.y) refl h
  where
    a : ℕ
    a = e.from.x

    b : ℕ
    b = e.from.y

    c : ℕ
    c = e.to.x

    d : ℕ
    d = e.to.y

    upright : (s : Bool)
        → (only (s && (leb (min b d) y && leb (suc y) (max b d))) 1 + only (s && (leb (min b d) (suc y) && leb (suc (suc y)) (max b d))) 1) % 2
        ≡ (only (s && eqb b (suc y)) 1 + only (s && eqb d (suc y)) 1) % 2
    upright false = refl
    upright true =
        both_parity _ _ (only (leb b y) 1 + only (leb d y) 1) (only (eqb b (suc y)) 1 + only (eqb d (suc y)) 1) (span_parity b d y) (span-next b d y)

    level : (s : Bool) → only (s && (leb (min a c) x && leb (suc x) (max a c))) 1 % 2 ≡ (only (leb a x && s) 1 + only (leb c x && s) 1) % 2
    level false = omega (arith, and_none (leb a x), and_none (leb c x))
    level true = omega (arith, span_parity a c x, and-true (leb a x), and-true (leb c x))

    go : (s : Bool) → eqb a c ≡ s → (t : Bool) → eqb b d ≡ t → (not s && not t) ≡ false
        → (only (not (not s) && (leb c x && (leb (min b d) y && leb (suc y) (max b d)))) 1
        + only (not (not s) && (leb c x && (leb (min b d) (suc y) && leb (suc (suc y)) (max b d)))) 1
        + only (not (not t) && (eqb d (suc y) && (leb (min a c) x && leb (suc x) (max a c)))) 1) % 2
        ≡ (only (leb a x && eqb b (suc y)) 1 + only (leb c x && eqb d (suc y)) 1) % 2
    go true e t q k = let z : a ≡ c = eqb-true a c e in rw z (omega (arith, upright (leb c x), no_span c x (not (not t)) (eqb d (suc y))))
    go false e true q k = let z : b ≡ d = eqb-true b d q in rw z (omega (arith, level (eqb d (suc y))))
    go false e false q k = absurd (true≢false k)

level_first : (x : ℕ) (e : Link Corner) → both e ≡ false
    → (only (standing x 0 e) 1 + only (drawn_over Y 0 x e) 1) % 2 ≡ (at_height x 0 e.from + at_height x 0 e.to) % 2
unfolding standing drawn_over at_height both changes coordinate low_along high_along
level_first x e h = go (eqb e.from.x e.to.x) refl (eqb e.from.y e.to.y) refl h
  where
    a : ℕ
    a = e.from.x

    b : ℕ
    b = e.from.y

    c : ℕ
    c = e.to.x

    d : ℕ
    d = e.to.y

    upright : (s : Bool) → only (s && (leb (min b d) 0 && leb 1 (max b d))) 1 % 2 ≡ (only (s && eqb b 0) 1 + only (s && eqb d 0) 1) % 2
    upright false = refl
    upright true = span_parity b d 0 ∙ ap₂ (λ m n. (m + n) % 2) (first-place b) (first-place d)

    level : (s : Bool) → only (s && (leb (min a c) x && leb (suc x) (max a c))) 1 % 2 ≡ (only (leb a x && s) 1 + only (leb c x && s) 1) % 2
    level false = omega (arith, and_none (leb a x), and_none (leb c x))
    level true = omega (arith, span_parity a c x, and-true (leb a x), and-true (leb c x))

    go : (s : Bool) → eqb a c ≡ s → (t : Bool) → eqb b d ≡ t → (not s && not t) ≡ false
        → (only (not (not s) && (leb c x && (leb (min b d) 0 && leb 1 (max b d)))) 1
        + only (not (not t) && (eqb d 0 && (leb (min a c) x && leb (suc x) (max a c)))) 1) % 2
        ≡ (only (leb a x && eqb b 0) 1 + only (leb c x && eqb d 0) 1) % 2
    go true e t q k = let z : a ≡ c = eqb-true a c e in rw z (omega (arith, upright (leb c x), no_span c x (not (not t)) (eqb d 0)))
    go false e true q k = let z : b ≡ d = eqb-true b d q in rw z (omega (arith, level (eqb d 0)))
    go false e false q k = absurd (true≢false k)

-- The theorem: the number of edges drawn over a stretch is odd exactly if one of the two squares beside it is inside and the other not
module _ (fig : Figure) (none : All (λ r. slanted r ≡ false) (rings fig)) where
  covering : ℕ → ℕ → ℕ
  covering x y = count (covers x y (suc y)) (walls (edges_of fig))

  two : (f g : Link Corner → ℕ) → sum_of (λ e. f e + g e) (edges_of fig) % 2 ≡ 0 → (sum_of f (edges_of fig) + sum_of g (edges_of fig)) % 2 ≡ 0
  two f g h = omega (arith, h, sum_of-add f g (edges_of fig))

  three : (f g i : Link Corner → ℕ) → sum_of (λ e. f e + g e + i e) (edges_of fig) % 2 ≡ 0
      → (sum_of f (edges_of fig) + sum_of g (edges_of fig) + sum_of i (edges_of fig)) % 2 ≡ 0
  three f g i h = omega (arith, h, sum_of-add (λ e. f e + g e) i (edges_of fig), sum_of-add f g (edges_of fig))

  upright-evens : (x y : ℕ) → (covering x y + covering (suc x) y + strokes X (suc x) y (edges_of fig)) % 2 ≡ 0
  unfolding covering strokes
  upright-evens x y =
      ap₂ (λ m n. (m + n + strokes X (suc x) y (edges_of fig)) % 2) (within_count (edges_of fig) x y) (within_count (edges_of fig) (suc x) y)
      ∙ three _ _ _ (rings-even _ (λ c. 0) (λ e h. upright-next x y e) (rings fig) none)

  upright-even : (y : ℕ) → (covering 0 y + strokes X 0 y (edges_of fig)) % 2 ≡ 0
  unfolding covering strokes
  upright-even y =
      ap (λ m. (m + strokes X 0 y (edges_of fig)) % 2) (within_count (edges_of fig) 0 y)
      ∙ two _ _ (rings-even _ (λ c. 0) (λ e h. upright-first y e) (rings fig) none)

  level_evens : (x y : ℕ) → (covering x y + covering x (suc y) + strokes Y (suc y) x (edges_of fig)) % 2 ≡ 0
  unfolding covering strokes
  level_evens x y =
      ap₂ (λ m n. (m + n + strokes Y (suc y) x (edges_of fig)) % 2) (within_count (edges_of fig) x y) (within_count (edges_of fig) x (suc y))
      ∙ three _ _ _ (rings-even _ (at_height x (suc y)) (level_next x y) (rings fig) none)

  level_even : (x : ℕ) → (covering x 0 + strokes Y 0 x (edges_of fig)) % 2 ≡ 0
  unfolding covering strokes
  level_even x =
      ap (λ m. (m + strokes Y 0 x (edges_of fig)) % 2) (within_count (edges_of fig) x 0)
      ∙ two _ _ (rings-even _ (at_height x 0) (level_first x) (rings fig) none)

  pub strokes-odd : (a : Axis) (p k : ℕ)
      → odd (strokes a p k (edges_of fig)) ≡ wall_at (beneath a (inside_at fig) p k) (beyond a (inside_at fig) p k)
  unfolding beneath beyond inside_at within covering odd
  strokes-odd X zero k = odd-third 0 (covering 0 k) (strokes X 0 k (edges_of fig)) (omega (arith, upright-even k))
  strokes-odd X (suc x) k = odd-third (covering x k) (covering (suc x) k) (strokes X (suc x) k (edges_of fig)) (upright-evens x k)
  strokes-odd Y zero k = odd-third 0 (covering k 0) (strokes Y 0 k (edges_of fig)) (omega (arith, level_even k))
  strokes-odd Y (suc y) k = odd-third (covering k y) (covering k (suc y)) (strokes Y (suc y) k (edges_of fig)) (level_evens k y)
