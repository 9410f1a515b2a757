-- `edge::edge_shots` meets its contract: each exit by its law. Assumes nothing.
use Rattle.std.specs.Prelude.{Err}
use mathlib.Core.Path.{◌≡◌, sym, ◌∙◌}
use native.Mathlib.Omega.{arith}
use Rattle.edge.proofs.Answers.{accepted-right, good_solid, spanned_order, walk-figure, walk-shots, walk-edge, walk-room, walk-fits, walk-runs}
use Rattle.edge.proofs.edge_shots.Goals as goal

pub returns-then-bad_shots : goal.returns-then-bad_shots
returns-then-bad_shots c = record { settled = walk-shots _ _ _ _ _ c.in_ok-judge.ensures (sym c.bad_shots.ensures ∙ c.if-bad_shots.true) }

pub returns-then-corners-edge : goal.returns-then-corners-edge
returns-then-corners-edge c =
    record {
      settled = walk-edge _ _ _ _ _ c.in_ok-judge.ensures
          (sym c.bad_shots.ensures ∙ c.if-bad_shots.false) c.if-corners-edge.true;
    }

pub next_corner-requires : goal.next_corner-requires
next_corner-requires c = record { lengths_value = (accepted-right _ c.in_ok-judge.ensures).figure-good; edge_in_bounds = c.if-corners-edge.false }

pub span_of-span-requires : goal.span_of-span-requires
span_of-span-requires c = (c.if-corners-edge.false, c.next_corner.ensures.within)

pub count_runs-count-requires : goal.count_runs-count-requires
count_runs-count-requires c = record { low_le_high = spanned_order _ c.span_of-span.ensures; right = accepted-right _ c.in_ok-judge.ensures; solid = good_solid _ _ (sym c.bad_shots.ensures ∙ c.if-bad_shots.false) }

pub returns-then-runs-count : goal.returns-then-runs-count
returns-then-runs-count c =
    record {
      settled = walk-room _ _ _ _ _ c.in_ok-judge.ensures
          (sym c.bad_shots.ensures ∙ c.if-bad_shots.false) c.if-corners-edge.false _ c.next_corner.ensures _ _ _ _ c.span_of-span.ensures
          _ c.count_runs-count.ensures c.if-runs-count.true;
    }

pub write_runs-requires : goal.write_runs-requires
write_runs-requires c =
    record {
      low_le_high = spanned_order _ c.span_of-span.ensures;
      right = accepted-right _ c.in_ok-judge.ensures;
      solid = good_solid _ _ (sym c.bad_shots.ensures ∙ c.if-bad_shots.false);
      high_in_bounds = walk-fits _ _ _ _ c.args.runs.now c.in_ok-judge.ensures
          (sym c.bad_shots.ensures ∙ c.if-bad_shots.false) c.if-corners-edge.false _ c.next_corner.ensures _ _ _ _ c.span_of-span.ensures
          _ c.count_runs-count.ensures c.if-runs-count.false;
    }

pub returns-in_err-judge : goal.returns-in_err-judge
returns-in_err-judge c =
    let handed : c.from_residual.result ≡ Err c.in_err-judge.field-0.0 = grind arith in
    record { settled = rw handed (walk-figure _ _ _ _ _ c.in_err-judge.field-0.0 c.in_err-judge.ensures) }

pub returns : goal.returns
returns c =
    record {
      settled = walk-runs _ _ _ _ _ c.in_ok-judge.ensures
          (sym c.bad_shots.ensures ∙ c.if-bad_shots.false) c.if-corners-edge.false _ c.next_corner.ensures _ _ _ _ c.span_of-span.ensures
          _ c.count_runs-count.ensures c.if-runs-count.false _ c.write_runs.ensures;
    }
