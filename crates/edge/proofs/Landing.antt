-- Where stretches end up. Assumes nothing.
--
--   wall-odd             == an odd number of edges is drawn over a stretch exactly if it lies on a side of the figure
--   landed               == whatever the list: a stretch that ends up on a shot lies on that side of it, and no shot before it in the
--                           list has that side there; one that ends up on none lies so on no shot of the list
--   wall-lands           == with a list that covers the figure, each stretch on a side of the figure ends up on a shot, and no other
--                           shot has that side there
--   not_landed           == one that lies on no side of the figure ends up on none
use Prim.Native.Nat.{ℕ, zero, suc, ◌+◌, ◌<◌}
use mathlib.Core.Path.{◌≡◌, refl, sym, ◌∙◌, ap}
use mathlib.Core.Bool.{Bool, true, false, not, cond}
use mathlib.Core.List.{List, [], ◌∷◌, Memᴰ as Member}
use mathlib.Core.Logic.{◌⊎◌, inl, inr}
use native.Mathlib.Omega.{arith}
use lib.Dec.{eqb}
use lib.ListN.{length, get_or}
use borrow.Author.Tests.{eqb-true, eqb-false, eq-eqb, ne_eqb}
use Rattle.sum.specs.Sum.{only, sum_of, All}
use Rattle.sum.proofs.Sum.{le-or}
use Rattle.sum.proofs.Lists.{sum_of-some, sum_of_member, sum_of-two}
use Rattle.figure.specs.declared.Axis.{Axis}
use Rattle.figure.specs.declared.Axis.TheVariants.{X, Y}
use Rattle.figure.specs.Corners.{slanted, odd}
use Rattle.figure.specs.Figure.{Figure, rings, edges_of}
use Rattle.figure.specs.Inside.{inside_at}
use Rattle.demands.specs.Square.{exposed}
use Rattle.shot.specs.Shot.{Shot, holds}
use Rattle.edge.specs.Edge.{strokes, seen, beneath, beyond, wall_at}
use Rattle.edge.specs.Landing.{low_side, high_side, facing, shape, first, shot_with, landing}
use Rattle.edge.proofs.Strokes.{strokes-odd}

-- the side by the two squares: u beyond, v beneath
face : Axis → Bool → Bool → ℕ
face a u v = cond (exposed u v) (low_side a) (cond (exposed v u) (high_side a) 0)

face_wall : (a : Axis) (u v : Bool) → wall_at v u ≡ not (eqb (face a u v) 0)
unfolding face wall_at exposed
face_wall X true true = refl
face_wall X true false = refl
face_wall X false true = refl
face_wall X false false = refl
face_wall Y true true = refl
face_wall Y true false = refl
face_wall Y false true = refl
face_wall Y false false = refl

pub wall-odd : (f : Figure) → All (λ r. slanted r ≡ false) (rings f) → (a : Axis) (p k : ℕ)
    → odd (strokes a p k (edges_of f)) ≡ not (eqb (facing a (inside_at f) p k) 0)
unfolding facing face
wall-odd f none a p k = strokes-odd f none a p k ∙ face_wall a (beyond a (inside_at f) p k) (beneath a (inside_at f) p k)

-- The first shot that passes

module _ (t : Shot → Bool) (d : Shot) where
  abbrev pub Hit : List Shot → ℕ → ℕ → Type 0
  Hit l n m = (i : ℕ) × (i < length l) × (m ≡ n + i) × (t (get_or l i d) ≡ true) × ((j : ℕ) → j < i → t (get_or l j d) ≡ false)

  pub first_found : (l : List Shot) (n : ℕ) → (All (λ s. t s ≡ false) l × (first t l n ≡ 0)) ⊎ Hit l n (first t l n)
  unfolding first
  first_found [] n = inl (tt, refl)
  first_found (s ∷ l) n = go (t s) refl (first_found l (suc n))
    where
      go : (b : Bool) → t s ≡ b → (All (λ s. t s ≡ false) l × (first t l (suc n) ≡ 0)) ⊎ Hit l (suc n) (first t l (suc n))
          → (All (λ s. t s ≡ false) (s ∷ l) × (cond b n (first t l (suc n)) ≡ 0)) ⊎ Hit (s ∷ l) n (cond b n (first t l (suc n)))
      go true e q = inr (0, omega arith, omega arith, e, λ j h. absurd (omega arith))
      go false e (inl q) = inl ((e, q.0), q.1)
      go false e (inr q) = inr (suc q.0, omega (arith, q.1), omega (arith, q.2), q.3, none)
        where
          none : (j : ℕ) → j < suc q.0 → t (get_or (s ∷ l) j d) ≡ false
          none zero h = e
          none (suc j) h = q.4 j (omega arith)

pub All-get : (Q : Shot → Type 0) (d : Shot) (l : List Shot) (i : ℕ) → i < length l → All Q l → Q (get_or l i d)
All-get Q d [] i z h = absurd (omega arith)
All-get Q d (s ∷ l) zero z h = h.0
All-get Q d (s ∷ l) (suc i) z h = All-get Q d l i (omega arith) h.1

member_at : (d : Shot) (l : List Shot) (s : Shot) → Member s l → (i : ℕ) × (i < length l) × (get_or l i d ≡ s)
member_at d [] s x' = elim x' [ ]
member_at d (q ∷ l) s (Member.head e) = (0, omega arith, sym e)
member_at d (q ∷ l) s (Member.tail m) = let i = member_at d l s m in (suc i.0, omega (arith, i.1), i.2)

face_beyond : (a : Axis) (u v : Bool) → face a u v ≡ face a true false → u ≡ true
unfolding face exposed
face_beyond a true v h = refl
face_beyond X false true h = absurd (omega arith)
face_beyond X false false h = absurd (omega arith)
face_beyond Y false true h = absurd (omega arith)
face_beyond Y false false h = absurd (omega arith)

face_beneath : (a : Axis) (u v : Bool) → face a u v ≡ face a false true → v ≡ true
unfolding face exposed
face_beneath a u true h = refl
face_beneath X true false h = absurd (omega arith)
face_beneath X false false h = absurd (omega arith)
face_beneath Y true false h = absurd (omega arith)
face_beneath Y false false h = absurd (omega arith)

-- Whatever the list

module _ (a : Axis) (F : ℕ → ℕ → Bool) (l : List Shot) (p k : ℕ) (d : Shot) where
  -- the shot s has the side there that the figure has
  abbrev pub Fits : Shot → Type 0
  Fits s = facing a (shape s) p k ≡ facing a F p k

  abbrev fits : Shot → Bool
  fits s = eqb (facing a (shape s) p k) (facing a F p k)

  -- on the shot of that number and on none before it, or on none at all
  pub landed : (facing a F p k ≡ 0 → ⊥)
      → (((landing a F l p k).shot ≡ 0) × ((i : ℕ) → i < length l → Fits (get_or l i d) → ⊥))
      ⊎ ((i : ℕ) × (i < length l) × ((landing a F l p k).shot ≡ suc i) × Fits (get_or l i d) × ((j : ℕ) → j < i → Fits (get_or l j d) → ⊥))
  unfolding landing shot_with
  landed h = rw (ne_eqb (facing a F p k) 0 h) (go (first fits l 1) refl (first_found fits d l 1))
    where
      go : (m : ℕ) → first fits l 1 ≡ m → (All (λ s. fits s ≡ false) l × (first fits l 1 ≡ 0)) ⊎ Hit fits d l 1 (first fits l 1)
          → ((first fits l 1 ≡ 0) × ((i : ℕ) → i < length l → Fits (get_or l i d) → ⊥))
          ⊎ ((i : ℕ) × (i < length l) × (first fits l 1 ≡ suc i) × Fits (get_or l i d) × ((j : ℕ) → j < i → Fits (get_or l j d) → ⊥))
      go m e (inl q) =
          inl (q.1, λ i z f. eqb-false (facing a (shape (get_or l i d)) p k) (facing a F p k) (All-get (λ s. fits s ≡ false) d l i z q.0) f)
      go m e (inr q) =
          inr (
            q.0,
            q.1,
            omega (arith, q.2),
            eqb-true (facing a (shape (get_or l q.0 d)) p k) (facing a F p k) q.3,
            λ j z f. eqb-false (facing a (shape (get_or l j d)) p k) (facing a F p k) (q.4 j z) f,
          )

  -- no wall, no shot
  pub not_landed : facing a F p k ≡ 0 → ((landing a F l p k).shot ≡ 0) × ((landing a F l p k).side ≡ 0)
  unfolding landing shot_with
  not_landed h = (rw (eq-eqb (facing a F p k) 0 h), h)

-- With a list that covers the figure

abbrev pub Covers : (ℕ → ℕ → Bool) → List Shot → Type 0
Covers F l = (x y : ℕ) → sum_of (λ s. only (holds x y s) 1) l ≡ only (F x y) 1

module _ (F : ℕ → ℕ → Bool) (l : List Shot) (covers : Covers F l) where
  seen_covers : (a : Axis) (q k : ℕ) → sum_of (λ s. only (seen a (shape s) q k) 1) l ≡ only (seen a F q k) 1
  unfolding shape
  seen_covers X q k = covers q k
  seen_covers Y q k = covers k q

  nothing : (l : List Shot) → sum_of (λ s. 0) l ≡ 0
  unfolding sum_of
  nothing [] = refl
  nothing (s ∷ l) = omega (arith, nothing l)

  beyond-covers : (a : Axis) (p k : ℕ) → sum_of (λ s. only (beyond a (shape s) p k) 1) l ≡ only (beyond a F p k) 1
  unfolding beyond
  beyond-covers a p k = seen_covers a p k

  beneath-covers : (a : Axis) (p k : ℕ) → sum_of (λ s. only (beneath a (shape s) p k) 1) l ≡ only (beneath a F p k) 1
  unfolding beneath
  beneath-covers a zero k = nothing l
  beneath-covers a (suc p) k = seen_covers a p k

  -- what none of the sum has, none of the members has
  no_member : (t : Shot → Bool) → sum_of (λ s. only (t s) 1) l ≡ 0 → {s : Shot} → Member s l → t s ≡ false
  no_member t h {s} m = go (t s) refl
    where
      go : (b : Bool) → t s ≡ b → b ≡ false
      go false e = refl
      go true e = absurd (omega (arith, h, sum_of_member (λ s. only (t s) 1) m, ap (λ b. only b 1) e))

  one_true : (b : Bool) → 0 < only b 1 → b ≡ true
  one_true true h = refl
  one_true false h = absurd (omega arith)

  -- a member that has what the figure has, and not what it has not
  some_fits : (t u : Shot → Bool) → sum_of (λ s. only (t s) 1) l ≡ 1 → sum_of (λ s. only (u s) 1) l ≡ 0
      → (s : Shot) × Member s l × (t s ≡ true) × (u s ≡ false)
  some_fits t u h g =
      let m = sum_of-some (λ s. only (t s) 1) l (omega arith) in
      (m.0, m.1, one_true (t m.0) m.2, no_member u g m.1)

  module _ (a : Axis) (p k : ℕ) where
    shot-fits : (facing a F p k ≡ 0 → ⊥) → (s : Shot) × Member s l × (facing a (shape s) p k ≡ facing a F p k)
    unfolding facing
    shot-fits = go (beyond a F p k) refl (beneath a F p k) refl
      where
        go : (u : Bool) → beyond a F p k ≡ u → (v : Bool) → beneath a F p k ≡ v
            → (cond (exposed u v) (low_side a) (cond (exposed v u) (high_side a) 0) ≡ 0 → ⊥)
            → (s : Shot) × Member s l × (facing a (shape s) p k ≡ cond (exposed u v) (low_side a) (cond (exposed v u) (high_side a) 0))
        go true e true q h = absurd (h (unfold exposed in refl))
        go false e false q h = absurd (h (unfold exposed in refl))
        go true e false q h =
            let m = some_fits (λ s. beyond a (shape s) p k) (λ s. beneath a (shape s) p k)
            (beyond-covers a p k ∙ ap (λ b. only b 1) e) (beneath-covers a p k ∙ ap (λ b. only b 1) q) in
            (m.0, m.1, rw (m.2, m.3))
        go false e true q h =
            let m = some_fits (λ s. beneath a (shape s) p k) (λ s. beyond a (shape s) p k)
            (beneath-covers a p k ∙ ap (λ b. only b 1) q) (beyond-covers a p k ∙ ap (λ b. only b 1) e) in
            (m.0, m.1, rw (m.2, m.3))

    -- two shots that have the side share a square
    pub fits_once : (d : Shot) (i j : ℕ) → i < j → j < length l → (facing a F p k ≡ 0 → ⊥)
        → facing a (shape (get_or l i d)) p k ≡ facing a F p k → facing a (shape (get_or l j d)) p k ≡ facing a F p k → ⊥
    unfolding facing face
    fits_once d i j h g = go (beyond a F p k) refl (beneath a F p k) refl
      where
        s : Shot
        s = get_or l i d

        q : Shot
        q = get_or l j d

        go : (u : Bool) → beyond a F p k ≡ u → (v : Bool) → beneath a F p k ≡ v
            → (face a u v ≡ 0 → ⊥)
            → face a (beyond a (shape s) p k) (beneath a (shape s) p k) ≡ face a u v
            → face a (beyond a (shape q) p k) (beneath a (shape q) p k) ≡ face a u v
            → ⊥
        go true e true f n m w = n (unfold face exposed in refl)
        go false e false f n m w = n (unfold face exposed in refl)
        go true e false f n m w =
            omega (
              arith,
              sum_of-two (λ s. only (beyond a (shape s) p k) 1) d l i j h g,
              beyond-covers a p k,
              ap (λ b. only b 1) e,
              ap (λ b. only b 1) (face_beyond a (beyond a (shape s) p k) (beneath a (shape s) p k) m),
              ap (λ b. only b 1) (face_beyond a (beyond a (shape q) p k) (beneath a (shape q) p k) w),
            )
        go false e true f n m w =
            omega (
              arith,
              sum_of-two (λ s. only (beneath a (shape s) p k) 1) d l i j h g,
              beneath-covers a p k,
              ap (λ b. only b 1) f,
              ap (λ b. only b 1) (face_beneath a (beyond a (shape s) p k) (beneath a (shape s) p k) m),
              ap (λ b. only b 1) (face_beneath a (beyond a (shape q) p k) (beneath a (shape q) p k) w),
            )

    pub wall-lands : (d : Shot) → (facing a F p k ≡ 0 → ⊥)
        → (i : ℕ) × (i < length l) × ((landing a F l p k).shot ≡ suc i) × (facing a (shape (get_or l i d)) p k ≡ facing a F p k)
        × ((j : ℕ) → j < length l → facing a (shape (get_or l j d)) p k ≡ facing a F p k → j ≡ i)
    wall-lands d h = go (landed a F l p k d h)
      where
        go : (((landing a F l p k).shot ≡ 0) × ((i : ℕ) → i < length l → Fits a F l p k d (get_or l i d) → ⊥))
            ⊎ ((i : ℕ) × (i < length l) × ((landing a F l p k).shot ≡ suc i) × Fits a F l p k d (get_or l i d) × ((j : ℕ) → j < i → Fits a F l p k d (get_or l j d) → ⊥))
            → (i : ℕ) × (i < length l) × ((landing a F l p k).shot ≡ suc i) × (facing a (shape (get_or l i d)) p k ≡ facing a F p k)
            × ((j : ℕ) → j < length l → facing a (shape (get_or l j d)) p k ≡ facing a F p k → j ≡ i)
        go (inl q) =
            let s = shot-fits h in
            let i = member_at d l s.0 s.1 in
            absurd (q.1 i.0 i.1 (ap (λ s. facing a (shape s) p k) i.2 ∙ s.2))
        go (inr q) = (q.0, q.1, q.2, q.3, one)
          where
            one : (j : ℕ) → j < length l → facing a (shape (get_or l j d)) p k ≡ facing a F p k → j ≡ q.0
            one j z f = elim (le-or j q.0) [
              | inr w ↦ absurd (fits_once d q.0 j w z h q.3 f)
              | inl w ↦ elim (le-or q.0 j) [
                | inl v ↦ omega arith
                | inr v ↦ absurd (q.4 j v f)
              ]
            ]
