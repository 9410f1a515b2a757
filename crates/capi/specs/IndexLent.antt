-- To believe: the promises of the calls on an index, said of the numbers that the C interface lends.
--
--   open_lent           == the number returned, the numbers lent, and what the index holds then
--   change_lent         == the same of a change, with what the buffer holds
--   part_found r        == where a part lies that is read, and how long it is, or the refusal and the offset
--   pick_said s index n k == where the outline lies that entry k points at, and how long it is, or the refusal and the offset
use Rattle.std.specs.Prelude.{ℕ, List}
use Rattle.refusal.specs.Refusals.{refusal_no}
use Rattle.number.specs.Reading.{Reading, read, fault}
use Rattle.job.specs.Job.{Part}
use Rattle.index.specs.Index.{OpenSaid, ChangeSaid, found}
use Rattle.capi.specs.Lent.{OutlineSaid, outline_lent, part_said}

abbrev pub open_lent : ℕ → ℕ → ℕ → List ℕ → OpenSaid
open_lent n outlines at index = record { number = n; outlines = outlines; offset = at; index = index }

abbrev pub change_lent : ℕ → ℕ → ℕ → ℕ → List ℕ → List ℕ → ChangeSaid
change_lent n bytes outlines at index out =
    record { number = n; bytes = bytes; outlines = outlines; offset = at; index = index; out = out }

abbrev pub part_found : Reading Part → OutlineSaid
part_found (read p next) = part_said p
part_found (fault r at) = outline_lent (refusal_no r) 0 0 at

unfoldable pub pick_said : List ℕ → List ℕ → ℕ → ℕ → OutlineSaid
pick_said s index n k = part_found (found s index n k)
