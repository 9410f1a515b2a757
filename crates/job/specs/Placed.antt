-- To believe: where the part lies that `take` hands back, among the job's own bytes. A reference points into a block of memory, at an
-- offset in bytes.
--
--   Lies p q at      == the pointer p points into the block that q points into, so many bytes further on
--   start_of k r      == where figure k starts of a job that is read; 0 where it is refused
--   taken_at s k      == where the part starts that taking figure k of the job s hands back: where figure k stands, also among figures of
--                       equal bytes; beside a refusal, at the job's first byte
use Rattle.std.specs.Prelude.{ℕ, ◌+◌, ◌≡◌, List, cond, ltb, length, get_or}
use Rattle.number.specs.Reading.{Reading, read, fault}
use Rattle.job.specs.Job.{Job, job}
use Rattle.job.specs.Calls.{no_part}

abbrev pub Lies : ℕ × ℕ → ℕ × ℕ → ℕ → Type 0
Lies p q at = (p.0 ≡ q.0) × (p.1 ≡ q.1 + at)

abbrev pub start_of : ℕ → Reading Job → ℕ
start_of k (read j last) = cond (ltb k (length j.parts)) (get_or j.parts k no_part).start 0
start_of k (fault r at) = 0

unfoldable pub taken_at : List ℕ → ℕ → ℕ
taken_at s k = start_of k (job s)
