-- How the numbers of a figure are shared out to its rings. Assumes nothing.
--
--   corners-whole   == the corners of all rings, one after the other, are the corners of the whole list
--   one-ring ..     == a figure of one ring is the scope's outline: bad by the length of its list alone, its corners, edges and turns
--                      those of the list, and so its faults and what is inside
use Prim.Native.Nat.{ℕ, zero, suc, ◌+◌, ◌*◌, ◌/◌, ◌%◌, ◌<◌}
use mathlib.Core.Path.{◌≡◌, refl, sym, ◌∙◌, ap}
use mathlib.Core.Bool.{Bool, true, false, not, cond, ◌||◌, or-true, or-false}
use mathlib.Core.List.{List, [], ◌∷◌, ◌++◌, map, append-nil}
use mathlib.Core.Logic.{inl, inr}
use native.Mathlib.Omega.{arith}
use lib.Dec.{ltb, eqb}
use lib.ListN.{length, take, drop, length-drop}
use borrow.Author.Tests.{lt-ltb, le-ltb, eq-eqb, ne_eqb}
use Rattle.sum.specs.Sum.{sum_of, join}
use Rattle.sum.proofs.Sum.{le-or}
use Rattle.figure.specs.Corners.{Corner, corners, edges, turns, any, odd, slanted, unturned}
use Rattle.figure.specs.Figure.{Figure, figure, share, rings, corners_of, edges_of, turns_of, bad_length, bad_figure, fault}
use Rattle.figure.specs.Inside.{walls, within, inside_at}
use Rattle.figure.proofs.Fault.{rings-good}

-- the corners of a list, from its first n corners and the rest
parts_more : (m : ℕ) (l : List ℕ) → ((l : List ℕ) → corners (take m l) ++ corners (drop m l) ≡ corners l)
    → corners (take (suc (suc m)) l) ++ corners (drop (suc (suc m)) l) ≡ corners l
unfolding corners
parts_more m [] h = refl
parts_more m (u ∷ []) h = refl
parts_more m (u ∷ v ∷ l) h = ap (λ cs. record { x = u; y = v } ∷ cs) (h l)

corners-part : (n : ℕ) (l : List ℕ) → corners (take (2 * n) l) ++ corners (drop (2 * n) l) ≡ corners l
unfolding corners
corners-part zero l = refl
corners-part (suc n) l =
    let z : 2 * suc n ≡ suc (suc (2 * n)) = omega arith in
    ap (λ m. corners (take m l) ++ corners (drop m l)) z ∙ parts_more (2 * n) l (corners-part n)

share-whole : (ns l : List ℕ) → length l ≡ 2 * sum_of (λ n. n) ns → join (λ r. r) (map corners (share ns l)) ≡ corners l
unfolding share join sum_of corners
share-whole [] [] h = refl
share-whole [] (u ∷ l) h = absurd (omega arith)
share-whole (n ∷ ns) l h =
    ap (λ cs. corners (take (2 * n) l) ++ cs) (share-whole ns (drop (2 * n) l) (omega (arith, length-drop {A = ℕ} (2 * n) l)))
    ∙ corners-part n l

pub corners-whole : (f : Figure) → bad_figure f ≡ false → corners_of f ≡ corners f.numbers
corners-whole f h = share-whole f.lengths f.numbers (rings-good f h).numbers

-- A figure of one ring
module _ (l : List ℕ) where
  abbrev one : Figure
  one = figure l (length l / 2 ∷ [])

  -- a number too many makes no corner
  rest-none : (m : List ℕ) → length m < 2 → corners m ≡ []
  unfolding corners
  rest-none [] h = refl
  rest-none (u ∷ []) h = refl
  rest-none (u ∷ v ∷ m) h = absurd (omega arith)

  pub one-ring : rings one ≡ corners l ∷ []
  unfolding share
  one-ring =
      ap (λ cs. cs ∷ [])
      (sym (append-nil (corners (take (2 * (length l / 2)) l)))
      ∙ ap (λ cs. corners (take (2 * (length l / 2)) l) ++ cs)
      (sym (rest-none (drop (2 * (length l / 2)) l) (omega (arith, length-drop {A = ℕ} (2 * (length l / 2)) l))))
      ∙ corners-part (length l / 2) l)

  pub one-ring-corners : corners_of one ≡ corners l
  unfolding join
  one-ring-corners = ap (join (λ r. r)) one-ring ∙ append-nil (corners l)

  pub one-ring-edges : edges_of one ≡ edges (corners l)
  unfolding join
  one-ring-edges = ap (join edges) one-ring ∙ append-nil (edges (corners l))

  pub one-ring-turns : turns_of one ≡ turns (corners l)
  unfolding join
  one-ring-turns = ap (join turns) one-ring ∙ append-nil (turns (corners l))

  -- 2: an odd number of numbers, under 8 or over 64
  pub one-ring_bad : bad_figure one ≡ (odd (length l) || (ltb (length l) 8 || ltb 64 (length l)))
  unfolding bad_figure bad_length any odd sum_of
  one-ring_bad = go (length l)
    where
      go : (m : ℕ) → (((ltb (m / 2) 4 || ltb 32 (m / 2)) || false) || (ltb 32 (m / 2 + 0) || not (eqb m (2 * (m / 2 + 0)))))
          ≡ (eqb (m % 2) 1 || (ltb m 8 || ltb 64 m))
      go m = elim (le-or 8 m) [
        | inr p ↦ rw (lt-ltb (m / 2) 4 (omega arith), lt-ltb m 8 p) (sym (or-true (eqb (m % 2) 1)))
        | inl p ↦
            elim (le-or 1 (m % 2)) [
              | inl q ↦
                  rw (le-ltb (m / 2) 4 (omega arith), ne_eqb m (2 * (m / 2 + 0)) (λ z. omega arith), eq-eqb (m % 2) 1 (omega arith)) (wrong (ltb 32 (m / 2)) (ltb 32 (m / 2 + 0)))
              | inr q ↦
                  rw (le-ltb (m / 2) 4 (omega arith), eq-eqb m (2 * (m / 2 + 0)) (omega arith), ne_eqb (m % 2) 1 (λ z. omega arith), le-ltb m 8 p) (over m (omega arith))
            ]
      ]
        where
          wrong : (b c : Bool) → ((b || false) || (c || true)) ≡ true
          wrong true c = refl
          wrong false true = refl
          wrong false false = refl

          over : (m : ℕ) → m % 2 ≡ 0 → ((ltb 32 (m / 2) || false) || (ltb 32 (m / 2 + 0) || false)) ≡ ltb 64 m
          over m e = elim (le-or 65 m) [
            | inl q ↦ rw (lt-ltb 32 (m / 2) (omega arith), lt-ltb 64 m (omega arith))
            | inr q ↦ rw (le-ltb 32 (m / 2) (omega arith), le-ltb 32 (m / 2 + 0) (omega arith), le-ltb 64 m (omega arith))
          ]

  one-any : (t : List Corner → Bool) → any t (rings one) ≡ t (corners l)
  unfolding any
  one-any t = ap (any t) one-ring ∙ or-false (t (corners l))

  pub one-ring-fault : fault one
      ≡ cond (odd (length l) || (ltb (length l) 8 || ltb 64 (length l))) 2
      (cond (slanted (corners l)) 3
      (cond (unturned (corners l)) 4
      0))
  unfolding fault
  one-ring-fault = rw (one-ring_bad, one-any slanted, one-any unturned)

  pub one-ring-inside : (x y : ℕ) → inside_at one x y ≡ within (walls (edges (corners l))) x y (suc y)
  unfolding inside_at
  one-ring-inside x y = ap (λ es. within (walls es) x y (suc y)) one-ring-edges
