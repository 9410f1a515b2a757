-- `edge::ending::shot_with` meets its contract. The invariant: no shot passed so far has the side there. Assumes nothing.
use mathlib.Core.Path.{sym, ◌∙◌}
use borrow.Author.Count.{below_none, below_more}
use borrow.Author.Rules.{rules}
use borrow.Author.Tests.{eqb-true, eqb-false}
use Rattle.edge.specs.Steps.{shot_no}
use Rattle.edge.proofs.Laws.{found_at, passed-at, not_found, side_eq, from_one, none_one}
use Rattle.edge.proofs.ending.shot_with.Goals as goal

pub loop-i-init : goal.loop-i-init
loop-i-init c = below_none _

pub returns-then-eq : goal.returns-then-eq
unfolding shot_no
returns-then-eq c =
    record {
      number = found_at _ _ _ _ _ _ _ (search rules) c.loop-i.invariant c.side_of.ensures
          (eqb-true _ _ (sym (side_eq _ _ _) ∙ sym c.eq.ensures ∙ c.if-eq.true));
      from_1 = from_one _;
    }

pub loop-i-preserved : goal.loop-i-preserved
loop-i-preserved c =
    below_more _ _ c.loop-i.invariant
    (passed-at _ _ _ _ _ _ _ (search rules) c.side_of.ensures (eqb-false _ _ (sym (side_eq _ _ _) ∙ sym c.eq.ensures ∙ c.if-eq.false)))

pub returns : goal.returns
unfolding shot_no
returns c = record { number = not_found _ _ _ _ _ (λ k h. c.loop-i.invariant k (search rules)); from_1 = none_one }
