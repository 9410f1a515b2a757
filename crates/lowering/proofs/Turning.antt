-- The pinwheels of a strip, whose parts are narrower and so have been lowered before it. Assumes nothing.
--
--   strip_weighable   == they may be weighed
--   strip_turns       == what is the least by the table is the least by the costs
use Prim.Native.Nat.{ℕ, ◌≤◌, ◌<◌}
use mathlib.Core.Path.{◌≡◌, refl}
use mathlib.Core.Logic.{◌⊎◌, inl, inr}
use mathlib.Core.List.{List}
use native.Mathlib.Omega.{arith}
use lib.ListN.{get_or}
use Rattle.sum.specs.Sum.{sum_of}
use Rattle.sum.proofs.Sum.{le-or}
use Rattle.outline.specs.Grid.{Grid}
use Rattle.rule.specs.declared.Rule.{Rule}
use Rattle.piece.specs.declared.Mode.TheVariants.{Pinwheel}
use Rattle.piece.specs.declared.Turn.{Turn}
use Rattle.piece.specs.declared.Turn.TheVariants.{First, Second}
use Rattle.piece.specs.Piece.{Piece, box, most_cost}
use Rattle.piece.specs.Cuts.{wheel, parts, Inner, cost}
use Rattle.piece.proofs.Cuts.{Part, cuts-at}
use Rattle.piece.proofs.Bound.{parts-most}
use Rattle.table.specs.Entry.{pair_no, entry_of}
use Rattle.table.specs.Cuts.{uncut}
use Rattle.verdict.specs.declared.Plan.{Plan}
use Rattle.verdict.specs.Verdict.{part_no, wheel_in}
use Rattle.verdict.specs.Pinwheels.{weight_of}
use Rattle.verdict.proofs.Hunting.{each_part}
use Rattle.lowering.specs.Least.{LeastWheel, Weighable}
use Rattle.lowering.specs.Lowering.{LeastTurn, Turns, Lowering}
use Rattle.lowering.proofs.Costs.{plan-small}
use Rattle.lowering.proofs.Steps.{number-few}

module _ (g : Grid) (r : Rule) (t cells : List ℕ) (plan : Plan) (a c : ℕ) (s : Lowering g r t cells plan a c) (ac : a < c) (cx : c ≤ plan.columns) where
  -- a part that is narrower than the strip is lowered
  part-cost : (b d : ℕ) → d ≤ plan.rows → (q : Piece) → Part q (box a c b d) → (a < q.a) ⊎ (q.c < c)
      → get_or t (entry_of plan.columns plan.rows q) 0 ≡ cost Pinwheel g r q
  part-cost b d dy q w o =
      s.begun.done q (record { ac = w.ac; cx = omega (arith, w.c); bd = w.bd; dy = omega (arith, w.d) }) (go o)
    where
      go : (a < q.a) ⊎ (q.c < c) → (a < q.a) ⊎ ((q.a ≡ a) × (q.c < c))
      go (inl h) = inl h
      go (inr h) = elim (le-or q.a a) [
        | inl k ↦ inr (omega (arith, w.a), h)
        | inr k ↦ inl k
      ]

  -- what the five parts of a pinwheel cost together
  weight-cost : (turn : Turn) (b d j l k m : ℕ) → d ≤ plan.rows → Inner (box a c b d) j l k m
      → weight_of t (wheel_in plan.columns plan.rows (box a c b d) (wheel turn j l k m))
      ≡ sum_of (cost Pinwheel g r) (parts (box a c b d) (wheel turn j l k m))
  unfolding weight_of wheel_in part_no parts sum_of
  weight-cost First b d j l k m dy q =
      let h = each_part (box a c b d) First j l k m q in
      omega (
        arith,
        part-cost b d dy (box a l b k) h.0 (inr q.lc),
        part-cost b d dy (box l c b m) h.1 (inl (omega (arith, q.aj, q.jl))),
        part-cost b d dy (box a j k d) h.2 (inr (omega (arith, q.jl, q.lc))),
        part-cost b d dy (box j c m d) h.3 (inl q.aj),
        part-cost b d dy (box j l k m) h.4 (inl q.aj),
      )
  weight-cost Second b d j l k m dy q =
      let h = each_part (box a c b d) Second j l k m q in
      omega (
        arith,
        part-cost b d dy (box a j b m) h.0 (inr (omega (arith, q.jl, q.lc))),
        part-cost b d dy (box j c b k) h.1 (inl q.aj),
        part-cost b d dy (box a l m d) h.2 (inr q.lc),
        part-cost b d dy (box l c k d) h.3 (inl (omega (arith, q.aj, q.jl))),
        part-cost b d dy (box j l k m) h.4 (inl q.aj),
      )

  pub strip_weighable : Weighable t plan.columns plan.rows a c
  strip_weighable =
      let w = s.between in
      record {
        columns-most = (plan-small g r t cells plan w).0;
        rows-some = w.sized.rows-some;
        rows-most = w.sized.rows-most;
        ac = ac;
        cx = cx;
        entries = w.entries;
        sums = λ turn b d j l k m dy q.
            omega (
              arith,
              weight-cost turn b d j l k m dy q,
              cuts-at Pinwheel (λ i. sum_of (cost Pinwheel g r) (parts (box a c b d) i) ≤ most_cost) (box a c b d)
                  (parts-most Pinwheel g r w.sound (box a c b d) (omega arith) (omega (arith, w.columns)) (omega (arith, q.bk, q.km, q.md)) (omega (arith, w.rows)) w.weight)
                  (wheel turn j l k m)
                  (refl, q),
            );
      }

  pub strip_turns : (first best : List ℕ) → ((i : ℕ) → i < 16 → get_or first i 0 ≡ uncut)
      → ((b d : ℕ) → b < d → d ≤ plan.rows
      → LeastWheel t plan.columns plan.rows (box a c b d) (get_or first (pair_no plan.rows b d) 0) (get_or best (pair_no plan.rows b d) 0))
      → Turns g r best plan a c
  strip_turns first best all told = record { least = least }
    where
      least : (b d : ℕ) → b < d → d ≤ plan.rows → LeastTurn g r (box a c b d) (get_or best (pair_no plan.rows b d) 0)
      least b d bd dy =
          let w = told b d bd dy in
          let e = all (pair_no plan.rows b d) (number-few plan.rows b d _ s.between.sized.rows-most bd dy refl) in
          record {
            under = λ turn j l k m q. omega (arith, w.under turn j l k m q, weight-cost turn b d j l k m dy q);
            above = λ n u each. w.above n (omega (arith, e)) (λ turn j l k m q. omega (arith, each turn j l k m q, weight-cost turn b d j l k m dy q));
          }
