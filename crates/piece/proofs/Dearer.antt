-- A greater threshold and a greater weight: no charge falls, and so no cost, in either mode. Assumes nothing.
--
--   cost_dearer   == no piece costs less
use Prim.Native.Nat.{◌≤◌}
use mathlib.Core.Path.{refl}
use Rattle.recurrence.proofs.Scheme.{cost-no_higher}
use Rattle.rule.specs.declared.Rule.{Rule}
use Rattle.rule.proofs.Charge.{sliver_dearer, charge_dearer}
use Rattle.outline.specs.Grid.{Grid}
use Rattle.piece.specs.declared.Mode.{Mode}
use Rattle.piece.specs.Piece.{Piece, cells, width, height, sliver, charge}
use Rattle.piece.specs.Cuts.{scheme, shots, cost}
use Rattle.piece.proofs.Cuts.{ends}

module _ (mode : Mode) (g : Grid) (r s : Rule) (threshold : r.threshold ≤ s.threshold) (weight : r.weight ≤ s.weight) where
  charge-up : (p : Piece) → charge g r p ≤ charge g s p
  unfolding charge sliver
  charge-up p =
      charge_dearer r s weight _ _ (sliver_dearer r s threshold (width g p.a p.c) (height g p.b p.d) _ _)

  pub cost_dearer : (p : Piece) → cost mode g r p ≤ cost mode g s p
  unfolding cost shots
  cost_dearer p =
      cost-no_higher (scheme mode g s) (scheme mode g r) cells cells (ends mode g s) (ends mode g r) (λ p. refl) charge-up (λ p k m. (k, m, refl)) p
