-- `ended` gives 2 where a write failed, and else what was refused. Assumes nothing.
use mathlib.Core.Logic.{inl, inr}
use mathlib.Core.Path.{refl}
use borrow.Author.Rules.{rules}
use Rattle.preparation.proofs.ended.Goals as goal

pub returns-then-not-finish : goal.returns-then-not-finish
returns-then-not-finish c = record { failed = λ e. refl; ended = inl refl }

pub returns-then-refused : goal.returns-then-refused
returns-then-refused c =
    record {
      failed = λ e. let no = c.finish.ensures e in cc;
      ended = inr (search rules);
    }

pub returns : goal.returns
returns c =
    record {
      failed = λ e. let no = c.finish.ensures e in cc;
      ended = inr (search rules);
    }
