-- `sliver::exposed` meets its contract. The loop's invariant: the sum is the exposed length of the stretches passed.
-- Assumes nothing.
use Prim.Native.Nat.{◌≤◌, ◌*◌}
use mathlib.Core.Path.{◌≡◌}
use Rattle.sliver.specs.Sides.{exposed_in}
use Rattle.sliver.proofs.exposed.Given as goal

abbrev pub invariant-loop-k : goal.invariant-loop-k
invariant-loop-k l = (l.fn.side.from.0 ≤ l.k) × (l.k ≤ l.to) × (l.sum ≤ 65535 * l.k)
    × (l.sum ≡ exposed_in l.cells l.lines (record { near = l.near; far = l.far; step = l.step; from = record { 0 = l.fn.side.from.0 }; to = record { 0 = l.k } }))
