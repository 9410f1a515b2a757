-- Laws of the four numbers of a shot. Assumes nothing.
--
--   numbers-length, numbers-append   == how many numbers a list of shots has; those of two lists one after the other
--   shots-numbers                    == the numbers of a list of shots say these shots
use Prim.Native.Nat.{◌*◌}
use mathlib.Core.Path.{◌≡◌, refl, ap}
use mathlib.Core.List.{List, [], ◌∷◌, ◌++◌}
use native.Mathlib.Omega.{arith}
use lib.ListN.{length}
use Rattle.sum.specs.Sum.{join}
use Rattle.sum.proofs.Lists.{join-append}
use Rattle.shot.specs.Shot.{Shot, four, numbers, shots_in}

pub numbers-length : (l : List Shot) → length (numbers l) ≡ 4 * length l
unfolding numbers join
numbers-length [] = refl
numbers-length (s ∷ l) = omega (arith, numbers-length l)

pub numbers-append : (l m : List Shot) → numbers (l ++ m) ≡ numbers l ++ numbers m
unfolding numbers
numbers-append l m = join-append four l m

pub shots-numbers : (l : List Shot) → shots_in (numbers l) ≡ l
unfolding numbers join shots_in
shots-numbers [] = refl
shots-numbers (s ∷ l) = ap (λ m. s ∷ m) (shots-numbers l)
