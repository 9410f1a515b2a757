-- Inner: what the steps on the way tell. Nobody has to believe these.
--
--   Keeps l n end    == so many outlines are left, and they end there
--   InRange t w n    == a header for n outlines can be written
use Rattle.std.specs.Prelude.{ℕ, ◌≤◌, ◌≡◌, length}
use Rattle.rule.specs.Rules.{limit}
use Rattle.job.specs.Job.{most_outlines}
use Rattle.saving.specs.Salvage.{Left}

pub record Keeps (l : Left) (n end : ℕ) : Type 0 where
  pub count : n ≡ length l.parts
  pub ends : end ≡ l.end

pub record InRange (t w n : ℕ) : Type 0 where
  pub threshold : t ≤ limit
  pub weight : w ≤ limit
  pub count : n ≤ most_outlines
