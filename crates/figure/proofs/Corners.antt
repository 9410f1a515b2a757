-- Laws of corners, edges and turns: how many there are, and which is which. Assumes nothing.
--
--   length-corners, length-edges, length-turns   == a list has half as many corners as numbers, and as many edges and turns
--   corner-at, edge_at, turn_at                  == the corner k, the edge that ends at it, the turn that does: that edge with the one before
--   link, turns_links                            == a turn as two edges; all turns are the edges, once round
--   around-at, length-around                     == the same of any list, once round
--   any_at, any_none                             == a test that one member passes; one that none does
use Prim.Native.Nat.{ℕ, zero, suc, ◌+◌, ◌*◌, ◌-◌, ◌/◌, ◌<◌}
use mathlib.Core.Path.{◌≡◌, refl, sym, ◌∙◌, ap, ap₂}
use mathlib.Core.Bool.{Bool, true, false, not, ◌&&◌, ◌||◌, or-true, true≢false}
use mathlib.Core.List.{List, [], ◌∷◌, map}
use native.Mathlib.Omega.{arith}
use lib.Dec.{eqb}
use lib.ListN.{length, get_or, length-map, get_or-map}
use Rattle.figure.specs.declared.Axis.{Axis}
use Rattle.figure.specs.declared.Axis.TheVariants.{X, Y}
use Rattle.figure.specs.Corners.{corners, coordinate, last, steps, around, any, edges, turns, changes, both, neither, alike, slanted, unturned, Corner, Link, Turn, into, onward, threes, last_but_one, origin, still}
use Rattle.figure.specs.Steps.{stop, corner, edge, turn, before}

pub length-corners : (l : List ℕ) → length (corners l) ≡ length l / 2
unfolding corners
length-corners [] = refl
length-corners (u ∷ []) = refl
length-corners (u ∷ v ∷ l) = omega (arith, length-corners l)

pub corner-at : (l : List ℕ) (k : ℕ) → k < length l / 2 → corner l k ≡ record { x = get_or l (2 * k) 0; y = get_or l (2 * k + 1) 0 }
unfolding corner corners
corner-at [] k h = absurd (omega arith)
corner-at (u ∷ []) k h = absurd (omega arith)
corner-at (u ∷ v ∷ l) zero h = refl
corner-at (u ∷ v ∷ l) (suc k) h =
    corner-at l k (omega arith)
    ∙ ap₂ (λ m n. record { x = get_or (u ∷ v ∷ l) m 0; y = get_or (u ∷ v ∷ l) n 0 }) (low k) (high k)
  where
    low : (k : ℕ) → suc (suc (2 * k)) ≡ 2 * suc k
    low k = omega arith

    high : (k : ℕ) → suc (suc (2 * k + 1)) ≡ 2 * suc k + 1
    high k = omega arith

module _ {A : Type 0} where
  length-steps : (p : A) (l : List A) → length (steps p l) ≡ length l
  unfolding steps
  length-steps p [] = refl
  length-steps p (q ∷ l) = ap suc (length-steps q l)

  pub length-around : (l : List A) → length (around l) ≡ length l
  unfolding around
  length-around [] = refl
  length-around (s ∷ l) = length-steps _ (s ∷ l)

  last-at : (d s : A) (l : List A) → last s l ≡ get_or (s ∷ l) (length l) d
  unfolding last
  last-at d s [] = refl
  last-at d s (q ∷ l) = last-at d q l

  steps-at : (d p q : A) (l : List A) (k : ℕ) → k < length l
      → get_or (steps p (q ∷ l)) (suc k) (still d) ≡ record { from = get_or (q ∷ l) k d; to = get_or l k d }
  unfolding steps still
  steps-at d p q [] k h = absurd (omega arith)
  steps-at d p q (r ∷ l) zero h = refl
  steps-at d p q (r ∷ l) (suc k) h = steps-at d q r l k (omega arith)

  pub around-at : (d : A) (l : List A) (k : ℕ) → k < length l
      → get_or (around l) k (still d) ≡ record { from = get_or l (before k (length l)) d; to = get_or l k d }
  unfolding around before steps
  around-at d [] k h = absurd (omega arith)
  around-at d (s ∷ l) zero h =
      ap (λ p. record { from = p; to = s }) (last-at d s l ∙ ap (λ n. get_or (s ∷ l) n d) (same (length l)))
    where
      same : (n : ℕ) → n ≡ suc n - 1
      same n = omega arith
  around-at d (s ∷ l) (suc k) h = steps-at d (last s l) s l k (omega arith)

  pub any_at : (t : A → Bool) (d : A) (l : List A) (k : ℕ) → k < length l → t (get_or l k d) ≡ true → any t l ≡ true
  unfolding any
  any_at t d [] k h e = absurd (omega arith)
  any_at t d (s ∷ l) zero h e = rw e
  any_at t d (s ∷ l) (suc k) h e = go (t s) (any_at t d l k (omega arith) e)
    where
      go : (b : Bool) → any t l ≡ true → (b || any t l) ≡ true
      go true i = refl
      go false i = i

  pub any_none : (t : A → Bool) (d : A) (l : List A) → ((k : ℕ) → k < length l → t (get_or l k d) ≡ false) → any t l ≡ false
  unfolding any
  any_none t d [] h = refl
  any_none t d (s ∷ l) h = rw (h 0 (omega arith)) (any_none t d l (λ k q. h (suc k) (omega arith)))

  -- some member passes
  pub any_some : (t : A → Bool) (d : A) (l : List A) (R : Type 0) → any t l ≡ true → ((k : ℕ) → k < length l → t (get_or l k d) ≡ true → R) → R
  unfolding any
  any_some t d [] R e f = absurd (true≢false (sym e))
  any_some t d (s ∷ l) R e f = go (t s) refl e (λ i. any_some t d l R i (λ k q. f (suc k) (omega arith)))
    where
      go : (b : Bool) → t s ≡ b → (b || any t l) ≡ true → (any t l ≡ true → R) → R
      go true z i g = f 0 (omega arith) z
      go false z i g = g i

  -- what a test that none passes says of each
  pub none-at : (t : A → Bool) (d : A) (l : List A) (k : ℕ) → any t l ≡ false → k < length l → t (get_or l k d) ≡ false
  none-at t d l k e h = go (t (get_or l k d)) refl
    where
      go : (b : Bool) → t (get_or l k d) ≡ b → b ≡ false
      go true f = sym (any_at t d l k h f) ∙ e
      go false f = refl

pub length-edges : (l : List ℕ) → length (edges (corners l)) ≡ length l / 2
unfolding edges
length-edges l = length-around (corners l) ∙ length-corners l

-- a turn as two edges, and all turns as the edges once round
abbrev pub link : Turn → Link (Link Corner)
link t = record { from = into t; to = onward t }

threes_links : (p q : Corner) (l : List Corner) → steps (record { from = p; to = q }) (steps q l) ≡ map link (threes p q l)
unfolding steps threes
threes_links p q [] = refl
threes_links p q (r ∷ l) = ap (λ m. link (record { before = p; at = q; after = r }) ∷ m) (threes_links q r l)

last-edge : (p q : Corner) (l : List Corner)
    → last (record { from = p; to = q }) (steps q l) ≡ record { from = last_but_one p q l; to = last q l }
unfolding steps last last_but_one
last-edge p q [] = refl
last-edge p q (r ∷ l) = last-edge q r l

first_edge : (s : Corner) (l : List Corner)
    → last (record { from = last s l; to = s }) (steps s l) ≡ record { from = last_but_one s s l; to = last s l }
unfolding last last_but_one steps
first_edge s [] = refl
first_edge s (r ∷ l) = last-edge s r l

pub turns_links : (cs : List Corner) → around (edges cs) ≡ map link (turns cs)
unfolding edges around turns steps threes
turns_links [] = refl
turns_links (s ∷ l) =
    ap (λ e. steps e (steps (last s l) (s ∷ l))) (first_edge s l)
    ∙ threes_links (last_but_one s s l) (last s l) (s ∷ l)

pub length-turns : (l : List ℕ) → length (turns (corners l)) ≡ length l / 2
length-turns l =
    sym (length-map (turns (corners l)) link)
    ∙ ap length (sym (turns_links (corners l)))
    ∙ length-around (edges (corners l))
    ∙ length-edges l

pub edge_at : (l : List ℕ) (k : ℕ) → k < length l / 2
    → edge l k ≡ record { from = corner l (before k (length l / 2)); to = corner l k }
unfolding edge corner edges
edge_at l k h =
    around-at origin (corners l) k (omega (arith, length-corners l))
    ∙ ap (λ n. record { from = get_or (corners l) (before k n) origin; to = get_or (corners l) k origin }) (length-corners l)

pub turn_at : (l : List ℕ) (k : ℕ) → k < length l / 2
    → link (turn l k) ≡ record { from = edge l (before k (length l / 2)); to = edge l k }
unfolding turn edge stop still
turn_at l k h =
    sym (get_or-map link (turns (corners l)) k stop)
    ∙ ap (λ m. get_or m k (link stop)) (sym (turns_links (corners l)))
    ∙ around-at (still origin) (edges (corners l)) k (omega (arith, length-edges l))
    ∙ ap (λ n. record { from = get_or (edges (corners l)) (before k n) (still origin); to = get_or (edges (corners l)) k (still origin) }) (length-edges l)

pub before_less : (k n : ℕ) → k < n → before k n < n
unfolding before
before_less zero n h = omega arith
before_less (suc k) n h = omega arith

pub before-none : (k n : ℕ) → k ≡ 0 → n - 1 ≡ before k n
unfolding before
before-none k n e = rw e refl

pub before-some : (k n : ℕ) → (k ≡ 0 → ⊥) → k - 1 ≡ before k n
unfolding before
before-some zero n h = absurd (h refl)
before-some (suc k) n h = omega arith

-- the coordinates as they stand in the list
pub coordinate-x : (a : Axis) (l : List ℕ) (k : ℕ) → k < length l / 2 → a ≡ X → get_or l (2 * k) 0 ≡ coordinate a (corner l k)
unfolding coordinate
coordinate-x a l k h e = sym (ap₂ coordinate e (corner-at l k h))

pub coordinate-y : (a : Axis) (l : List ℕ) (k : ℕ) → k < length l / 2 → a ≡ Y → get_or l (2 * k + 1) 0 ≡ coordinate a (corner l k)
unfolding coordinate
coordinate-y a l k h e = sym (ap₂ coordinate e (corner-at l k h))

pub changes-at : (a : Axis) (l : List ℕ) (k b u v : ℕ) → k < length l / 2
    → b ≡ before k (length l / 2)
    → u ≡ coordinate a (corner l b)
    → v ≡ coordinate a (corner l k)
    → not (eqb u v) ≡ changes a (edge l k)
unfolding changes
changes-at a l k b u v h e p q =
    ap₂ (λ m n. not (eqb m n)) (p ∙ ap (λ i. coordinate a (corner l i)) e) q
    ∙ sym (ap (λ e. not (eqb (coordinate a e.from) (coordinate a e.to))) (edge_at l k h))

-- the two edges of a turn
module _ (a : Axis) (l : List ℕ) (k b : ℕ) (t : Bool) (h : k < length l / 2) where
  pub turn-from : b ≡ before k (length l / 2) → t ≡ changes a (edge l b) → t ≡ changes a (into (turn l k))
  turn-from e p = p ∙ ap (λ i. changes a (edge l i)) e ∙ sym (ap (λ u. changes a u.from) (turn_at l k h))

  pub turn-to : t ≡ changes a (edge l k) → t ≡ changes a (onward (turn l k))
  turn-to p = p ∙ sym (ap (λ u. changes a u.to) (turn_at l k h))

-- what one edge or turn shows of the ring, and what all of them show
module _ (l : List ℕ) (k : ℕ) (h : k < length l / 2) where
  pub slanted-at : {t : Bool} → t ≡ both (edge l k) → t ≡ true → true ≡ slanted (corners l)
  unfolding slanted edge
  slanted-at e t = sym (any_at both (still origin) (edges (corners l)) k (omega (arith, length-edges l)) (sym e ∙ t))

  pub unturned-neither : {t : Bool} → t ≡ neither (edge l k) → t ≡ true → true ≡ unturned (corners l)
  unfolding unturned edge
  unturned-neither e t =
      ap (λ b. b || any alike (turns (corners l)))
      (sym (any_at neither (still origin) (edges (corners l)) k (omega (arith, length-edges l)) (sym e ∙ t)))

  pub unturned-alike : {t : Bool} → t ≡ alike (turn l k) → t ≡ true → true ≡ unturned (corners l)
  unfolding unturned turn
  unturned-alike e t =
      sym (or-true (any neither (edges (corners l))))
      ∙ ap (λ b. any neither (edges (corners l)) || b)
      (sym (any_at alike stop (turns (corners l)) k (omega (arith, length-turns l)) (sym e ∙ t)))

pub slanted-none : (l : List ℕ) → ((k : ℕ) → k < length l / 2 → both (edge l k) ≡ false) → false ≡ slanted (corners l)
unfolding slanted edge
slanted-none l h =
    sym (any_none both (still origin) (edges (corners l)) (λ k q. h k (omega (arith, length-edges l))))

pub unturned-none : (l : List ℕ) → ((k : ℕ) → k < length l / 2 → neither (edge l k) ≡ false)
    → ((k : ℕ) → k < length l / 2 → alike (turn l k) ≡ false)
    → false ≡ unturned (corners l)
unfolding unturned edge turn
unturned-none l h g =
    sym
    (ap₂ ◌||◌ (any_none neither (still origin) (edges (corners l)) (λ k q. h k (omega (arith, length-edges l))))
    (any_none alike stop (turns (corners l)) (λ k q. g k (omega (arith, length-turns l)))))

-- two tests one after the other, the second made where the first does not decide
module _ (p q x : Bool) where
  pub and-taken : (y : Bool) → x ≡ p → y ≡ q → x ≡ true → y ≡ (p && q)
  and-taken y e f t = f ∙ ap (λ b. b && q) (sym t ∙ e)

  pub and_left : x ≡ p → x ≡ false → x ≡ (p && q)
  and_left e t = t ∙ ap (λ b. b && q) (sym t ∙ e)
