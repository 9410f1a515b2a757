-- `run_outlines` says whether one of the outlines is refused, unless a write failed: the loop knows it of those that it passed. Assumes nothing.
use mathlib.Core.Logic.{inl, inr}
use mathlib.Core.Path.{◌≡◌, ◌∙◌, ap}
use native.Mathlib.Omega.{arith}
use borrow.Author.Rules.{rules}
use Rattle.preparation.specs.Outlines.{any_refused}
use Rattle.preparation.proofs.Status.{any-more}
use Rattle.preparation.proofs.outlines.run_outlines.Goals as goal

pub loop-k-init : goal.loop-k-init
unfolding any_refused
loop-k-init c = search rules

pub run_outline-ran-requires : goal.run_outline-ran-requires
run_outline-ran-requires c = record { admitted = c.requires.admitted; k_lt_outlines = search rules; in_bounds = (omega arith, omega arith) }

pub loop-k-preserved : goal.loop-k-preserved
loop-k-preserved c = (
  search rules,
  search rules,
  search rules,
  any-more _ _ c.loop-k.invariant.3 c.run_outline-ran.ensures.refused_value c.either-refused.ensures,
  λ e. c.run_outline-ran.ensures.remembers (c.loop-k.invariant.4 e),
)

pub returns-after-loop-k : goal.returns-after-loop-k
returns-after-loop-k c =
    let all : c.loop-k.k ≡ c.args.header.outlines = omega arith in
    record { fact = inr (c.loop-k.invariant.3 ∙ ap (any_refused _) all); remembers = c.loop-k.invariant.4 }

pub returns-then-next : goal.returns-then-next
returns-then-next c = record { fact = inl c.if-next.true; remembers = λ e. c.run_outline-ran.ensures.remembers (c.loop-k.invariant.4 e) }
