-- How many lines a figure has that passes 3 and 4. Assumes nothing.
--
--   lines-some     == 2 at least across each axis
--   lines-most     == and no more than half as many as it has corners
use Prim.Native.Nat.{◌*◌, ◌≤◌, ◌<◌}
use mathlib.Core.List.Memᴰ
use mathlib.Core.List.{map, Memᴰ as Member}
use native.Mathlib.Omega.{arith}
use lib.ListN.{length}
use Rattle.sum.proofs.Lists.{All-at, All-map}
use Rattle.figure.specs.declared.Axis.{Axis}
use Rattle.figure.specs.Corners.{coordinate, changes}
use Rattle.figure.specs.Figure.{Figure, corners_of, edges_of}
use Rattle.figure.specs.Steps.{Right}
use Rattle.figure.proofs.Turns.{kept, length-kept, tally_some, changed}
use Rattle.figure.proofs.Together.{length-edges-all, edges-half-all, corners-kept-all, ends-all}
use Rattle.outline.specs.Lines.{rising, lines}
use Rattle.outline.proofs.Lines.{rising-most, rising-two}

module _ (f : Figure) (right : Right f) where
  pub lines-most : (a : Axis) → 2 * length (lines a (corners_of f)) ≤ length (corners_of f)
  unfolding lines
  lines-most a =
      omega (
        arith,
        rising-most (map (coordinate a) (corners_of f)) (kept a (edges_of f)) (All-map (λ v. Member v (kept a (edges_of f))) (coordinate a) (corners_of f) (corners-kept-all f right a)),
        length-kept a (edges_of f),
        edges-half-all f right a,
        length-edges-all f right,
      )

  pub lines-some : (a : Axis) → 0 < length (corners_of f) → 2 ≤ length (lines a (corners_of f))
  unfolding lines
  lines-some a h =
      tally_some (changes a) (edges_of f) (2 ≤ length (rising (map (coordinate a) (corners_of f)))) (omega (arith, edges-half-all f right a))
      (λ e m c.
      let i = All-at (λ e. Member e.from (corners_of f) × Member e.to (corners_of f)) m (ends-all f right) in
      rising-two (map (coordinate a) (corners_of f)) (coordinate a e.from) (coordinate a e.to) (Memᴰ.map (coordinate a) i.0) (Memᴰ.map (coordinate a) i.1) (changed a e c))
