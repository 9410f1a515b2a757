-- Inside, ring by ring. This stands before all other laws of walls, so that rings joined or left out are refused here. Assumes nothing.
--
--   walls-rings     == the walls of all rings are those of each ring, one after the other
--   odd-bit         == a number is odd where its remainder by two is one
--   inside-rings    == a unit square is inside a figure where an odd number of its rings hold it
use Prim.Native.Nat.{ℕ, zero, suc, ◌%◌, ◌<◌}
use mathlib.Core.Path.{◌≡◌, refl, ◌∙◌, ap}
use mathlib.Core.List.{List, [], ◌∷◌, ◌++◌}
use native.Mathlib.Omega.{arith}
use lib.Dec.{eqb}
use Rattle.sum.specs.Sum.{only, sum_of, join}
use Rattle.sum.proofs.Lists.{sum_of-join, join-append}
use Rattle.figure.specs.Corners.{Corner, edges, odd}
use Rattle.figure.specs.Figure.{Figure, rings}
use Rattle.figure.specs.Inside.{wall, walls, within, inside_at, covers, count}

pub walls-rings : (rs : List (List Corner)) → walls (join edges rs) ≡ join (λ r. walls (edges r)) rs
unfolding walls join
walls-rings [] = refl
walls-rings (r ∷ rs) = join-append wall (edges r) (join edges rs) ∙ ap (λ ws. join wall (edges r) ++ ws) (walls-rings rs)

-- an odd sum has an odd number of odd members
pub odd-bit : (n : ℕ) → only (odd n) 1 ≡ n % 2
unfolding odd
odd-bit n = go (n % 2) (omega arith)
  where
    go : (m : ℕ) → m < 2 → only (eqb m 1) 1 ≡ m
    go zero h = refl
    go (suc zero) h = refl
    go (suc (suc m)) h = absurd (omega arith)

parities : {A : Type 0} (c : A → ℕ) (l : List A) → sum_of c l % 2 ≡ sum_of (λ s. only (odd (c s)) 1) l % 2
unfolding sum_of
parities c [] = refl
parities c (s ∷ l) = omega (arith, odd-bit (c s), parities c l)

-- A unit square is inside where an odd number of rings hold it
pub inside-rings : (f : Figure) (x y : ℕ) → inside_at f x y ≡ odd (sum_of (λ r. only (within (walls (edges r)) x y (suc y)) 1) (rings f))
unfolding inside_at within odd count
inside-rings f x y =
    ap (λ ws. odd (count (covers x y (suc y)) ws)) (walls-rings (rings f))
    ∙ ap odd (sum_of-join (λ w. only (covers x y (suc y) w) 1) (λ r. walls (edges r)) (rings f))
    ∙ ap (λ n. eqb n 1) (parities (λ r. count (covers x y (suc y)) (walls (edges r))) (rings f))
