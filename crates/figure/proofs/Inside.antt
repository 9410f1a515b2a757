-- Laws of the odd count on the raw corners. Assumes nothing.
--
--   min-max                           == the lesser and the greater of two have what both have
--   Set, Seat, walls-set              == the coordinates of the walls are those of the corners
--   count-append, count_none, count_same, even, none_within   == how many walls of two lists, of none; an even number is not odd
--   Beside lo hi v                    == v does not lie strictly between lo and hi
--   passes, parity                    == a ring whose edges lie along the axes passes each height an even number of times
--   walls-rings, walls-all, parity_all   == the same of all rings of a figure
--   inside-left, inside-right, inside-below, inside-above   == beyond all corners of a figure nothing is inside
use Prim.Native.Nat.{ℕ, suc, ◌+◌, ◌%◌, ◌≤◌, ◌<◌, min, max}
use mathlib.Core.Path.{◌≡◌, refl, sym, ◌∙◌, ap, subst}
use mathlib.Core.Bool.{Bool, true, false, not, cond, ◌&&◌, and-false}
use mathlib.Core.List.{List, [], ◌∷◌, ◌++◌}
use mathlib.Core.Logic.{◌⊎◌, inl, inr}
use native.Mathlib.Omega.{arith}
use lib.Dec.{leb, eqb}
use borrow.Author.Tests.{eqb-true, le-leb, lt-leb, not-false}
use Rattle.sum.specs.Sum.{only, sum_of, All, join}
use Rattle.sum.proofs.Sum.{le-or}
use Rattle.sum.proofs.Lists.{sum_of-append, sum_of-same, All-imp, All-join, All-all, All-parts}
use Rattle.figure.specs.declared.Axis.TheVariants.{X}
use Rattle.figure.specs.Corners.{Corner, Link, coordinate, last, steps, around, edges, changes, both, any, slanted, odd}
use Rattle.figure.specs.Figure.{Figure, rings, corners_of, edges_of}
use Rattle.figure.specs.Inside.{Wall, wall, walls, covers, count, within, inside_at}
use Rattle.figure.proofs.ByRings.{walls-rings}
use Rattle.figure.proofs.Turns.{any-all, All-both, around-all}

pub min-max : (Q : ℕ → Type 0) (a b : ℕ) → Q a → Q b → Q (min a b) × Q (max a b)
min-max Q a b h k = elim (le-or a b) [
  | inl q ↦ (subst Q (low a b q) h, subst Q (high a b q) k)
  | inr q ↦ (subst Q (low' a b q) k, subst Q (high' a b q) h)
]
  where
    low : (a b : ℕ) → a ≤ b → a ≡ min a b
    low a b q = omega arith

    high : (a b : ℕ) → a ≤ b → b ≡ max a b
    high a b q = omega arith

    low' : (a b : ℕ) → b < a → b ≡ min a b
    low' a b q = omega arith

    high' : (a b : ℕ) → b < a → a ≡ max a b
    high' a b q = omega arith

-- the coordinates of the walls are those of the corners
module _ (Qx Qy : ℕ → Type 0) where
  abbrev pub Set : Wall → Type 0
  Set w = Qx w.x × (Qy w.lo × Qy w.hi)

  abbrev pub Seat : Corner → Type 0
  Seat c = Qx c.x × Qy c.y

  wall-set : (e : Link Corner) → Seat e.from × Seat e.to → All Set (wall e)
  unfolding wall
  wall-set e h = go (changes X e)
    where
      go : (t : Bool) → All Set (cond t [] (record { x = e.to.x; lo = min e.from.y e.to.y; hi = max e.from.y e.to.y } ∷ []))
      go true = tt
      go false = ((h.1.0, min-max Qy e.from.y e.to.y h.0.1 h.1.1), tt)

  pub walls-set : (cs : List Corner) → All Seat cs → All Set (walls (edges cs))
  unfolding walls edges
  walls-set cs h = All-join Set wall (around cs) (All-imp wall-set (around cs) (around-all Seat cs h))

-- how many walls
pub count-append : (t : Wall → Bool) (l m : List Wall) → count t (l ++ m) ≡ count t l + count t m
unfolding count
count-append t l m = sum_of-append (λ w. only (t w) 1) l m

pub count_none : (t : Wall → Bool) (ws : List Wall) → All (λ w. t w ≡ false) ws → count t ws ≡ 0
unfolding count sum_of
count_none t [] h = refl
count_none t (w ∷ ws) h = omega (arith, ap (λ b. only b 1) h.0, count_none t ws h.1)

pub count_same : (t u : Wall → Bool) (ws : List Wall) → All (λ w. t w ≡ u w) ws → count t ws ≡ count u ws
unfolding count
count_same t u ws h = sum_of-same (λ w. only (t w) 1) (λ w. only (u w) 1) ws (All-imp (λ w e. ap (λ b. only b 1) e) ws h)

pub even : (n : ℕ) → n % 2 ≡ 0 → odd n ≡ false
unfolding odd
even n h = rw h

pub none_within : (ws : List Wall) (x lo hi : ℕ) → All (λ w. covers x lo hi w ≡ false) ws → within ws x lo hi ≡ false
unfolding within odd
none_within ws x lo hi h = rw (count_none (covers x lo hi) ws h)

abbrev pub Beside : ℕ → ℕ → ℕ → Type 0
Beside lo hi v = (v ≤ lo) ⊎ (hi ≤ v)

-- a ring passes each stretch of heights an even number of times, if no corner lies within it
module _ (lo hi : ℕ) where
  -- the wall's span covers the stretch
  unfoldable pub passes : Wall → Bool
  passes w = leb w.lo lo && leb hi w.hi

  below : Corner → ℕ
  below p = only (leb p.y lo) 1

  module _ (some : lo < hi) where
    wall_parity : (e : Link Corner) → both e ≡ false → Beside lo hi e.from.y → Beside lo hi e.to.y
        → count passes (wall e) % 2 ≡ (below e.from + below e.to) % 2
    unfolding wall count sum_of passes below both changes coordinate
    wall_parity e h p q = go (eqb e.from.x e.to.x) h
      where
        four : (u v : ℕ) → Beside lo hi u → Beside lo hi v
            → (only (leb (min u v) lo && leb hi (max u v)) 1 + 0) % 2 ≡ (only (leb u lo) 1 + only (leb v lo) 1) % 2
        four u v (inl a) (inl b) =
            rw (le-leb (min u v) lo (omega arith), lt-leb hi (max u v) (omega arith), le-leb u lo a, le-leb v lo b)
        four u v (inl a) (inr b) =
            rw (le-leb (min u v) lo (omega arith), le-leb hi (max u v) (omega arith), le-leb u lo a, lt-leb v lo (omega arith))
        four u v (inr a) (inl b) =
            rw (le-leb (min u v) lo (omega arith), le-leb hi (max u v) (omega arith), lt-leb u lo (omega arith), le-leb v lo b)
        four u v (inr a) (inr b) =
            rw (lt-leb (min u v) lo (omega arith), lt-leb u lo (omega arith), lt-leb v lo (omega arith))

        go : (t : Bool) → (not t && not (eqb e.from.y e.to.y)) ≡ false
            → sum_of (λ w. only (passes w) 1) (cond (not t) [] (record { x = e.to.x; lo = min e.from.y e.to.y; hi = max e.from.y e.to.y } ∷ [])) % 2
            ≡ (below e.from + below e.to) % 2
        go true k = four e.from.y e.to.y p q
        go false k =
            let z = eqb-true e.from.y e.to.y (not-false (eqb e.from.y e.to.y) k) in
            omega (arith, ap (λ v. only (leb v lo) 1) z)

    abbrev Clear : Link Corner → Type 0
    Clear e = (both e ≡ false) × (Beside lo hi e.from.y × Beside lo hi e.to.y)

    steps_parity : (p : Corner) (l : List Corner) → All Clear (steps p l)
        → count passes (walls (steps p l)) % 2 ≡ (below p + below (last p l)) % 2
    unfolding steps last walls join count sum_of
    steps_parity p [] h = omega arith
    steps_parity p (q ∷ l) h =
        let e : Link Corner = record { from = p; to = q } in
        omega (
          arith,
          count-append passes (wall e) (walls (steps q l)),
          wall_parity e h.0.0 h.0.1.0 h.0.1.1,
          steps_parity q l h.1,
        )

    pub parity : (cs : List Corner) → slanted cs ≡ false → All (λ c. Beside lo hi c.y) cs → count passes (walls (edges cs)) % 2 ≡ 0
    unfolding edges around walls join count sum_of last slanted
    parity [] s h = refl
    parity (c ∷ cs) s h =
        omega (
          arith,
          steps_parity (last c cs) (c ∷ cs)
              (All-both (λ e. both e ≡ false) (λ e. Beside lo hi e.from.y × Beside lo hi e.to.y) (around (c ∷ cs))
              (any-all both (around (c ∷ cs)) s)
              (around-all (λ p. Beside lo hi p.y) (c ∷ cs) h)),
        )

-- of all rings

-- what all corners of a figure have, all corners of each ring have
rings-all : {A : Type 0} (Q : A → Type 0) (rs : List (List A)) → All Q (join (λ r. r) rs) → All (All Q) rs
unfolding join
rings-all Q [] h = tt
rings-all Q (r ∷ rs) h = let k = All-parts Q r (join (λ r. r) rs) h in (k.0, rings-all Q rs k.1)

pub walls-all : (Qx Qy : ℕ → Type 0) (f : Figure) → All (Seat Qx Qy) (corners_of f) → All (Set Qx Qy) (walls (edges_of f))
walls-all Qx Qy f h =
    subst (All (Set Qx Qy)) (sym (walls-rings (rings f)))
    (All-join (Set Qx Qy) (λ r. walls (edges r)) (rings f)
    (All-imp (walls-set Qx Qy) (rings f) (rings-all (Seat Qx Qy) (rings f) h)))

-- each ring passes a stretch of heights an even number of times, so all of them do
parity_rings : (lo hi : ℕ) → lo < hi → (rs : List (List Corner)) → All (λ r. slanted r ≡ false) rs → All (All (λ c. Beside lo hi c.y)) rs
    → count (passes lo hi) (join (λ r. walls (edges r)) rs) % 2 ≡ 0
unfolding join count sum_of
parity_rings lo hi some [] s h = refl
parity_rings lo hi some (r ∷ rs) s h =
    omega (
      arith,
      count-append (passes lo hi) (walls (edges r)) (join (λ r. walls (edges r)) rs),
      parity lo hi some r s.0 h.0,
      parity_rings lo hi some rs s.1 h.1,
    )

pub parity_all : (lo hi : ℕ) → lo < hi → (f : Figure) → any slanted (rings f) ≡ false → All (λ c. Beside lo hi c.y) (corners_of f)
    → count (passes lo hi) (walls (edges_of f)) % 2 ≡ 0
parity_all lo hi some f s h =
    ap (λ ws. count (passes lo hi) ws % 2) (walls-rings (rings f))
    ∙ parity_rings lo hi some (rings f) (any-all slanted (rings f) s) (rings-all (λ c. Beside lo hi c.y) (rings f) h)

-- beyond all corners
module _ (f : Figure) (x y : ℕ) where
  abbrev ws : List Wall
  ws = walls (edges_of f)

  pub inside-left : All (λ c. x < c.x) (corners_of f) → inside_at f x y ≡ false
  unfolding inside_at covers
  inside-left h =
      none_within ws x y (suc y)
      (All-imp (λ w k. ap (λ b. b && (leb w.lo y && leb (suc y) w.hi)) (lt-leb w.x x k.0)) ws
      (walls-all (λ v. x < v) (λ v. Unit {0}) f (All-imp (λ c k. (k, tt)) (corners_of f) h)))

  pub inside-below : All (λ c. y < c.y) (corners_of f) → inside_at f x y ≡ false
  unfolding inside_at covers
  inside-below h =
      none_within ws x y (suc y)
      (All-imp
      (λ w k. ap (λ b. leb w.x x && (b && leb (suc y) w.hi)) (lt-leb w.lo y k.1.0) ∙ and-false (leb w.x x))
      ws
      (walls-all (λ v. Unit {0}) (λ v. y < v) f (All-imp (λ c k. (tt, k)) (corners_of f) h)))

  pub inside-above : All (λ c. c.y ≤ y) (corners_of f) → inside_at f x y ≡ false
  unfolding inside_at covers
  inside-above h =
      none_within ws x y (suc y)
      (All-imp
      (λ w k.
      ap (λ b. leb w.x x && (leb w.lo y && b)) (lt-leb (suc y) w.hi (omega (arith, k.1.1)))
      ∙ ap (λ b. leb w.x x && b) (and-false (leb w.lo y))
      ∙ and-false (leb w.x x))
      ws
      (walls-all (λ v. Unit {0}) (λ v. v ≤ y) f (All-imp (λ c k. (tt, k)) (corners_of f) h)))

  pub inside-right : any slanted (rings f) ≡ false → All (λ c. c.x ≤ x) (corners_of f) → inside_at f x y ≡ false
  unfolding inside_at within covers passes
  inside-right s h =
      ap odd
      (count_same (covers x y (suc y)) (passes y (suc y)) ws
      (All-imp (λ w k. ap (λ b. b && (leb w.lo y && leb (suc y) w.hi)) (le-leb w.x x k.0)) ws
      (walls-all (λ v. v ≤ x) (λ v. Unit {0}) f (All-imp (λ c k. (k, tt)) (corners_of f) h))))
      ∙ even (count (passes y (suc y)) ws)
      (parity_all y (suc y) (omega arith) f s (All-all (λ c. le-or c.y y) (corners_of f)))
