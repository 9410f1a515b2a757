-- A grid that is moved: the same kinds, slivers, charges, cuts, shots and costs; only the places of the lines move. Assumes nothing.
--
--   sliver-moved, charge-moved, shots-moved, cost-moved   == of each piece the same as before the move, in either mode
use Prim.Native.Nat.{ℕ, suc, ◌+◌, ◌-◌}
use mathlib.Core.Path.{◌≡◌, refl, ap}
use native.Mathlib.Omega.{arith}
use Rattle.sum.specs.Sum.{only, over, sum_of}
use Rattle.recurrence.specs.Scheme.{shots_by}
use Rattle.rule.specs.declared.Rule.{Rule}
use Rattle.rule.specs.Charge.{sliver_of, charge_of}
use Rattle.outline.specs.Grid.{Grid}
use Rattle.outline.proofs.Shifted.{carried}
use Rattle.piece.specs.declared.Mode.{Mode}
use Rattle.piece.specs.Piece.{Piece, cells, inside_cells, kind, width, height, left, right, bottom, top, low_side, high_side, sliver, charge}
use Rattle.piece.specs.Cuts.{cuts, parts, scheme, shots, cost}

less_moved : (a c d : ℕ) → (c + d) - (a + d) ≡ c - a
less_moved a c d = omega arith

module _ (dx dy : ℕ) (g : Grid) (r : Rule) where
  pub sliver-moved : (p : Piece) → sliver (carried dx dy g) r p ≡ sliver g r p
  unfolding sliver left right bottom top width height
  sliver-moved p = λ z.
      sliver_of r (less_moved (g.x p.a) (g.x p.c) dx z) (less_moved (g.y p.b) (g.y p.d) dy z)
      (over p.b p.d (λ j. only (low_side (λ i. g.inside i j) p.a) (less_moved (g.y j) (g.y (suc j)) dy z))
      + over p.b p.d (λ j. only (high_side (λ i. g.inside i j) p.c) (less_moved (g.y j) (g.y (suc j)) dy z)))
      (over p.a p.c (λ i. only (low_side (g.inside i) p.b) (less_moved (g.x i) (g.x (suc i)) dx z))
      + over p.a p.c (λ i. only (high_side (g.inside i) p.d) (less_moved (g.x i) (g.x (suc i)) dx z)))

  pub charge-moved : (p : Piece) → charge (carried dx dy g) r p ≡ charge g r p
  unfolding charge
  charge-moved p = ap (charge_of r) (sliver-moved p)

  kind-moved : (p : Piece) → kind (carried dx dy g) p ≡ kind g p
  unfolding kind inside_cells
  kind-moved p = refl

  module _ (mode : Mode) where
    scheme-moved : scheme mode (carried dx dy g) r ≡ scheme mode g r
    scheme-moved = λ z. record { kind = λ p. kind-moved p z; charge = λ p. charge-moved p z; cuts = cuts mode; parts = parts }

    pub shots-moved : (p : Piece) → shots mode (carried dx dy g) r p ≡ shots mode g r p
    unfolding shots
    shots-moved p = ap (λ S. shots_by S (suc (cells p)) p) scheme-moved

    pub cost-moved : (p : Piece) → cost mode (carried dx dy g) r p ≡ cost mode g r p
    unfolding cost
    cost-moved p = λ z. sum_of (λ q. charge-moved q z) (shots-moved p z)
