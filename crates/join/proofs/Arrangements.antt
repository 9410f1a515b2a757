-- The rows of Item 13, computed: which shots can be joined, who is whose partner, how many flashes they take, and how many corners the union
-- of two shots has.
--
--   all-joined, none-joined   == shots on all four sides of one: with both ends in common, or the low ones, or the high ones; and with no
--                                end in common, in a point, apart, one over the other
--   row_is                    == the promise of a list and a table allows just one outcome, which the steps compute
--   rows                      == lists with their partners and flashes; the last has four rectangles that take two flashes, as Hoshi and Fujiyoshi's paper
--                                says of its Figure 3 (its text gives no sizes: these are ours)
--   union-corners             == of one rectangle 4; of two that touch in a point 8, whichever way they lie; of a T 8; of two apart 8
use Prim.Native.Nat.{ℕ, ◌/◌}
use mathlib.Core.Path.{◌≡◌, refl}
use mathlib.Core.Bool.{true, false}
use mathlib.Core.List.{List, [], ◌∷◌, map}
use lib.ListN.{length, replicate}
use Rattle.sum.specs.Sum.{over}
use Rattle.shot.specs.Shot.{Shot, holds, shots_in}
use Rattle.shot.specs.Bad.{bad_shots, empty, any_empty}
use Rattle.join.specs.declared.Joined.{Joined}
use Rattle.join.specs.Join.{touches, beside, below, can_join, no_entry, at, as_shot, JoinSaid, Promise}
use Rattle.join.specs.Union.{union, corners_at, corners}
use Rattle.join.specs.Steps.{mated, takes, first, settled, mate_of, set_partner, linked, paired, counted, pairs_to, entry_of, filled, checked}
use Rattle.join.proofs.Promised.{outcome, says}
use Rattle.join.proofs.Settled.{join-settled}

abbrev shot : ℕ → ℕ → ℕ → ℕ → Shot
shot a b c d = record { xlow = a; ylow = b; xhigh = c; yhigh = d }

abbrev one : Shot
one = shot 20 20 40 50

abbrev near : List Shot
near =
    shot 40 20 60 50 ∷ shot 40 20 60 30 ∷ shot 40 10 60 50
    ∷ shot 10 20 20 50 ∷ shot 10 20 20 90 ∷ shot 10 45 20 50
    ∷ shot 20 50 40 60 ∷ shot 20 50 21 60 ∷ shot 0 50 40 60
    ∷ shot 20 10 40 20 ∷ shot 20 10 99 20 ∷ shot 39 10 40 20
    ∷ []

abbrev far : List Shot
far =
    shot 40 21 60 49 ∷ shot 10 10 20 60 ∷ shot 10 50 50 60 ∷ shot 25 10 39 20
    ∷ shot 40 50 60 60 ∷ shot 10 10 20 20 ∷ shot 40 10 60 20 ∷ shot 10 50 20 60
    ∷ shot 41 20 60 50 ∷ shot 20 51 40 60
    ∷ shot 20 20 40 50 ∷ shot 39 20 60 50 ∷ shot 20 20 30 50
    ∷ []

pub all-joined : (map (can_join one) near ≡ replicate 12 true) × (map (λ b. can_join b one) near ≡ replicate 12 true)
unfolding can_join beside below touches
all-joined = (refl, refl)

pub none-joined : (map (can_join one) far ≡ replicate 13 false) × (map (λ b. can_join b one) far ≡ replicate 13 false)
unfolding can_join beside below touches
none-joined = (refl, refl)

-- ---- corners, counted at the grid points below 8
abbrev corners_of : Shot → Shot → ℕ
corners_of a b = corners (union a b) 8

pub union-corners : corners_of (shot 1 2 4 7) (shot 1 2 4 7)
    ∷ corners_of (shot 0 0 3 3) (shot 3 3 6 5) ∷ corners_of (shot 0 3 3 5) (shot 3 0 6 3)
    ∷ corners_of (shot 0 3 6 5) (shot 2 0 4 3) ∷ corners_of (shot 0 0 2 2) (shot 4 1 6 5) ∷ []
    ≡ 4 ∷ 8 ∷ 8 ∷ 8 ∷ 8 ∷ []
unfolding corners corners_at union holds over
union-corners = refl

-- ---- lists
pub row_is : (l : List ℕ) (t : List Joined) (s : JoinSaid) → Promise l t s → s ≡ outcome l t (checked l (length t))
row_is l t s p = join-settled l t s (outcome l t (checked l (length t))) p (says l t)

-- the number, the flashes, and the partners in a table of as many entries as there are shots
abbrev told : List ℕ → List ℕ
told l = let t = replicate (length l / 4) no_entry in let o = outcome l t (checked l (length t)) in o.number ∷ o.flashes ∷ map (λ (e : Joined). e.partner) o.table

abbrev lists : List (List ℕ)
lists =
    (0 ∷ 0 ∷ 60 ∷ 80 ∷ 60 ∷ 0 ∷ 100 ∷ 20 ∷ [])
    ∷ (0 ∷ 0 ∷ 200 ∷ 50 ∷ 0 ∷ 50 ∷ 210 ∷ 150 ∷ 0 ∷ 150 ∷ 200 ∷ 200 ∷ [])
    ∷ (0 ∷ 0 ∷ 10 ∷ 10 ∷ 10 ∷ 10 ∷ 20 ∷ 20 ∷ [])
    ∷ (0 ∷ 0 ∷ 10 ∷ 30 ∷ 10 ∷ 10 ∷ 20 ∷ 20 ∷ [])
    ∷ (0 ∷ 0 ∷ 10 ∷ 10 ∷ 10 ∷ 0 ∷ 20 ∷ 10 ∷ 20 ∷ 0 ∷ 30 ∷ 10 ∷ [])
    ∷ []
    ∷ (0 ∷ 0 ∷ 0 ∷ 10 ∷ [])
    ∷ (0 ∷ 0 ∷ 20 ∷ 60 ∷ 20 ∷ 0 ∷ 60 ∷ 20 ∷ 20 ∷ 40 ∷ 60 ∷ 60 ∷ 60 ∷ 20 ∷ 80 ∷ 60 ∷ [])
    ∷ []

pub rows : map told lists
    ≡ (0 ∷ 1 ∷ 1 ∷ 0 ∷ []) ∷ (0 ∷ 2 ∷ 1 ∷ 0 ∷ 2 ∷ []) ∷ (0 ∷ 2 ∷ 0 ∷ 1 ∷ []) ∷ (0 ∷ 2 ∷ 0 ∷ 1 ∷ []) ∷ (0 ∷ 2 ∷ 1 ∷ 0 ∷ 2 ∷ []) ∷ (0 ∷ 0 ∷ [])
    ∷ (21 ∷ 0 ∷ 0 ∷ []) ∷ (0 ∷ 2 ∷ 1 ∷ 0 ∷ 3 ∷ 2 ∷ []) ∷ []
unfolding can_join beside below touches as_shot at mated takes first settled mate_of set_partner linked paired counted pairs_to entry_of filled checked bad_shots empty any_empty shots_in
rows = refl
