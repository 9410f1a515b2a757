-- `pw_edge` is settled: two ways to keep its promise are one. Assumes nothing.
--
--   edge-one                    == pw_edge
use Prim.Native.Nat.{ℕ}
use mathlib.Core.Path.{◌≡◌, sym, ◌∙◌, ap}
use mathlib.Core.List.{List}
use Rattle.edge.specs.Promise.{EdgeSaid}
use Rattle.capi.specs.EdgeLent.{edge_lent}

pub edge-one : (said : EdgeSaid) (n count n' count' : ℕ) (runs runs' : List ℕ)
    → edge_lent n count runs ≡ said → edge_lent n' count' runs' ≡ said
    → (n ≡ n') × (count ≡ count') × (runs ≡ runs')
edge-one said n count n' count' runs runs' p q =
    let e = p ∙ sym q in (
      ap (λ (o : EdgeSaid). o.number) e,
      ap (λ (o : EdgeSaid). o.count) e,
      ap (λ (o : EdgeSaid). o.runs) e,
    )
