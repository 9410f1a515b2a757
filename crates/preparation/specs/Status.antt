-- To believe: the status that the job program ends with.
--
--   status s         == where nothing fails that is read or written: 0 if the job s is accepted and every outline of it is fractured; else 1
--   Ends out b n     == the program ends with the number n after the output out: 2 where a write failed before, or fails now; else 1 or 0,
--                       as b says that something was refused
use Rattle.std.specs.Prelude.{ℕ, ◌≡◌, ◌⊎◌, Bool, true, cond, List, eqb}
use Rattle.job.specs.Calls.{checked}
use Rattle.terminal.specs.declared.output.Output.{Output}
use Rattle.preparation.specs.Outlines.{any_refused}

unfoldable pub status : List ℕ → ℕ
status s = cond (eqb (checked s).number 0) (cond (any_refused s (checked s).outlines) 1 0) 1

pub record Ends (out : Output) (b : Bool) (n : ℕ) : Type 0 where
  pub failed : out.failed ≡ true → n ≡ 2
  pub ended : (n ≡ 2) ⊎ (n ≡ cond b 1 0)
