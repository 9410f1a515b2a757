-- To believe: the numbers that a program ends with.
--
--   status_no s    == the number of the status s
use Rattle.std.specs.Prelude.{ℕ}
use Rattle.terminal.specs.declared.status.Status.{Status}
use Rattle.terminal.specs.declared.status.Status.TheVariants as ends

abbrev pub status_no : Status → ℕ
-- all was done
status_no ends.Done = 0
-- the job, or something of it, was refused
status_no ends.Refused = 1
-- reading or writing failed, or the words ask for nothing that there is
status_no ends.Failed = 2
