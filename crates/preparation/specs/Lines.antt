-- Inner: what the lines of a fracture ask of the answer, and of the list beside it.
--
--   Listed a n       == a list of n numbers holds the shots of the answer a
use Rattle.std.specs.Prelude.{ℕ, ◌*◌, ◌≤◌, Result, Ok, Err}
use Rattle.fracture.specs.declared.Fractured.{Fractured}
use Rattle.fracture.specs.declared.Denial.{Denial}

abbrev pub Listed : Result Fractured Denial → ℕ → Type 0
Listed (Ok f) n = 4 * f.shots ≤ n
Listed (Err d) n = Unit {0}
