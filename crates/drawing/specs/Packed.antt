-- To believe: what packing a drawing promises.
--
--   Packs r l    == where the answer r is a job of n bytes, the front of the buffer l holds a sound job of n bytes, 4,096 at most
use Rattle.std.specs.Prelude.{ℕ, ◌≤◌, List, ◌≡◌, length, take, Result, Ok, Err}
use Rattle.job.specs.Calls.{checked}
use Rattle.drawing.specs.declared.expected.BadLine.{BadLine}

abbrev pub Packs : Result ℕ BadLine → List ℕ → Type 0
Packs (Ok n) l = (n ≤ 4096) × (n ≤ length l) × ((checked (take n l)).number ≡ 0)
Packs (Err bad) l = Unit {0}
