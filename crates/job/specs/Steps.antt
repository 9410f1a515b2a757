-- Inner: what the steps on the way through a job tell, each case of their answers as a reading. Nobody has to believe these.
--
--   past_told         == the place that reading got to, or the first fault
--   head_told         == a header's three numbers and the place of the first figure, or the first fault
--   located_told      == where a figure starts, and as the place past it where it ends; or the first fault
--   begun s at       == how many rings a figure has, and the place of the first
--   sized r          == how many corners a ring has that is read
--   summed r         == how many corners rings have together that are read
--   whole s          == the header, where the whole job is sound; else the job's first fault
--   located s k at   == where figure k stands, with the figures from a place on: past k of them, and then past one more
--   IsRead r         == something is read, and no fault
--   values_of r       == the numbers, or the rings, that are read
--   numbers_of r, lengths_of r == the two lists of the rings that are read
--   announce_bytes n  == what stands before n rings: nothing before one, else 0 and n
use Rattle.std.specs.Prelude.{ℕ, ◌+◌, ◌/◌, cond, List, [], ◌++◌, eqb, length, Result, Ok, Err}
use Rattle.refusal.specs.declared.Fault.{Fault}
use Rattle.number.specs.Reading.{Reading, read, fault, and_then}
use Rattle.number.specs.Number.{number_bytes}
use Rattle.figure.specs.Figure.{most_rings, total}
use Rattle.job.specs.Job.{Header, header, job, least_rings, value, announces, figure_of, outlines, outline}
use Rattle.number.specs.declared.Cursor.{Cursor}
use Rattle.job.specs.declared.Header.{Header as Head}
use Rattle.job.specs.declared.read.Part.{Part}

abbrev pub past_told : Result Cursor Fault → Reading (Unit {0})
past_told (Ok c) = read tt c.at
past_told (Err e) = fault e.why e.at

abbrev pub head_told : Result Head Fault → Reading Header
head_told (Ok h) = read (record { threshold = h.threshold; weight = h.weight; count = h.outlines }) h.next.at
head_told (Err e) = fault e.why e.at

abbrev pub located_told : Result Part Fault → Reading ℕ
located_told (Ok p) = read p.start p.end
located_told (Err e) = fault e.why e.at

unfoldable pub begun : List ℕ → ℕ → Reading ℕ
begun s at = cond (announces s at) (value s least_rings most_rings (at + 1)) (read 1 at)

unfoldable pub sized : Reading (List ℕ) → Reading ℕ
sized r = and_then r (λ l next. read (length l / 2) next)

unfoldable pub summed : Reading (List (List ℕ)) → Reading ℕ
summed r = and_then r (λ ls next. read (total (figure_of ls)) next)

unfoldable pub whole : List ℕ → Reading Header
whole s = and_then (job s) (λ j last. header s)

unfoldable pub located : List ℕ → ℕ → ℕ → Reading ℕ
located s k at = and_then (outlines s k at) (λ ps start. and_then (outline s start) (λ l end. read start end))

abbrev pub IsRead : {A : Type 0} → Reading A → Type 0
IsRead (read a last) = Unit {0}
IsRead (fault r at) = ⊥

abbrev pub values_of : {A : Type 0} → Reading (List A) → List A
values_of (read l last) = l
values_of (fault r at) = []

abbrev pub numbers_of : Reading (List (List ℕ)) → List ℕ
numbers_of r = (figure_of (values_of r)).numbers

abbrev pub lengths_of : Reading (List (List ℕ)) → List ℕ
lengths_of r = (figure_of (values_of r)).lengths

unfoldable pub announce_bytes : ℕ → List ℕ
announce_bytes n = cond (eqb n 1) [] (number_bytes 0 ++ number_bytes n)
