-- To believe: an index beside a job, a list of offsets with its count: what the calls on it promise, for all inputs.
--
--   starts_of j             == where each outline of a job that is read begins, counted from the job's first byte
--   TrueIndex s index n    == s is an accepted job of n outlines, and the first n entries are where a full reading finds them
--   OpenSaid               == what opening a job tells: number, K, offset, and the index afterwards
--   unopened n at index    == refused by the number n at a place: the index as it came in
--   opened_by index r       == a job that is read or not: its starts at the front of the index, or 14 where they do not fit
--   opened s index         == opening the job s
--   ChangeSaid             == what a change tells: number, the bytes written, K afterwards, offset, and the index and the buffer afterwards
--   unchanged n at index out == refused by the number n at a place: index and buffer as they came in
--   changed_by b index out r == the new job b, which is read or not: its bytes at the front of the buffer and its starts, by a full reading,
--                             at the front of the index; or 14 where either is too short
--   changed_to b index out  == the same of the bytes b
--   figures j              == the rings of each outline of a job that is read
--   with_outline j f, without_outline j k == the bytes of a job with one outline more at its end, or without outline k
--   appended s f index out == appending the figure f to the job s: the job's fault, 2, 20, 12, 14
--   removed s k index out  == removing outline k of the job s: the job's fault, 13, 14
--   appended_to f index out r, removed_from k index out r == the same by the job that is read or not
--   found s index n k      == the outline that entry k of the index points at: 12, 13 where k reaches the count or the room, then what
--                             reading an outline there finds
--   picked_by s r           == the bytes of an outline that is found; with a refusal none
--   picked s index n k     == picking outline k of the job s by an index of n entries
--   start_in r              == where an outline that is found starts; with a refusal 0
--   picked_at s index n k   == where the part starts that is handed back; beside a refusal, at the job's first byte
--   open_told, change_told   == the same for each case of an answer of the code, with the lent memory afterwards
use Rattle.std.specs.Prelude.{ℕ, suc, ◌≡◌, List, [], ◌∷◌, ◌++◌, map, cond, ◌&&◌, length, get_or, take, drop, ltb, leb, Result, Ok, Err}
use Rattle.refusal.specs.declared.Refusal.TheVariants as because
use Rattle.refusal.specs.declared.Fault.{Fault}
use Rattle.refusal.specs.Refusals.{refusal_no}
use Rattle.number.specs.Reading.{Reading, read, fault}
use Rattle.figure.specs.Figure.{Figure, share, bad_figure}
use Rattle.job.specs.Bytes.{job_bytes}
use Rattle.job.specs.Job.{most_bytes, most_outlines, Part, part, Job, job}
use Rattle.job.specs.Calls.{TakeSaid, told, part_bytes}
use Rattle.index.specs.declared.changing.Changed.{Changed}

abbrev pub starts_of : Job → List ℕ
starts_of j = map (λ (p : Part). p.start) j.parts

pub record TrueIndex (s index : List ℕ) (n : ℕ) : Type 0 where
  pub says : Job
  pub last : ℕ
  pub accepted : job s ≡ read says last
  pub count : n ≡ length says.parts
  pub starts : take n index ≡ starts_of says

-- open

pub record OpenSaid : Type 0 where
  pub number : ℕ
  pub outlines : ℕ
  pub offset : ℕ
  pub index : List ℕ

abbrev pub unopened : ℕ → ℕ → List ℕ → OpenSaid
unopened n at index = record { number = n; outlines = 0; offset = at; index = index }

abbrev pub opened_by : List ℕ → Reading Job → OpenSaid
opened_by index (read j last) =
    cond (leb (length j.parts) (length index))
    (record { number = 0; outlines = length j.parts; offset = 0; index = starts_of j ++ drop (length j.parts) index })
    (unopened (refusal_no because.Room) 0 index)
opened_by index (fault r at) = unopened (refusal_no r) at index

unfoldable pub opened : List ℕ → List ℕ → OpenSaid
opened s index = opened_by index (job s)

abbrev pub open_told : Result ℕ Fault → List ℕ → OpenSaid
open_told (Ok n) index = record { number = 0; outlines = n; offset = 0; index = index }
open_told (Err e) index = unopened (refusal_no e.why) e.at index

-- append, remove

pub record ChangeSaid : Type 0 where
  pub number : ℕ
  pub bytes : ℕ
  pub outlines : ℕ
  pub offset : ℕ
  pub index : List ℕ
  pub out : List ℕ

abbrev pub unchanged : ℕ → ℕ → List ℕ → List ℕ → ChangeSaid
unchanged n at index out = record { number = n; bytes = 0; outlines = 0; offset = at; index = index; out = out }

abbrev pub changed_by : List ℕ → List ℕ → List ℕ → Reading Job → ChangeSaid
changed_by b index out (read j last) =
    cond (leb (length b) (length out) && leb (length j.parts) (length index))
    (record {
      number = 0;
      bytes = length b;
      outlines = length j.parts;
      offset = 0;
      index = starts_of j ++ drop (length j.parts) index;
      out = b ++ drop (length b) out;
    })
    (unchanged (refusal_no because.Room) 0 index out)
changed_by b index out (fault r at) = unchanged (refusal_no r) at index out

unfoldable pub changed_to : List ℕ → List ℕ → List ℕ → ChangeSaid
changed_to b index out = changed_by b index out (job b)

abbrev pub figures : Job → List (List (List ℕ))
figures j = map (λ (p : Part). p.rings) j.parts

unfoldable pub with_outline : Job → Figure → List ℕ
with_outline j f = job_bytes j.threshold j.weight (figures j ++ (share f.lengths f.numbers ∷ []))

unfoldable pub without_outline : Job → ℕ → List ℕ
without_outline j k = job_bytes j.threshold j.weight (take k (figures j) ++ drop (suc k) (figures j))

abbrev pub appended_to : Figure → List ℕ → List ℕ → Reading Job → ChangeSaid
appended_to f index out (read j last) =
    cond (bad_figure f) (unchanged (refusal_no because.Length) 0 index out)
    (cond (leb most_outlines (length j.parts)) (unchanged (refusal_no because.Full) 0 index out)
    (cond (ltb most_bytes (length (with_outline j f))) (unchanged (refusal_no because.Long) 0 index out)
    (changed_to (with_outline j f) index out)))
appended_to f index out (fault r at) = unchanged (refusal_no r) at index out

unfoldable pub appended : List ℕ → Figure → List ℕ → List ℕ → ChangeSaid
appended s f index out = appended_to f index out (job s)

abbrev pub removed_from : ℕ → List ℕ → List ℕ → Reading Job → ChangeSaid
removed_from k index out (read j last) =
    cond (ltb k (length j.parts)) (changed_to (without_outline j k) index out)
    (unchanged (refusal_no because.Missing) 0 index out)
removed_from k index out (fault r at) = unchanged (refusal_no r) at index out

unfoldable pub removed : List ℕ → ℕ → List ℕ → List ℕ → ChangeSaid
removed s k index out = removed_from k index out (job s)

abbrev pub change_told : Result Changed Fault → List ℕ → List ℕ → ChangeSaid
change_told (Ok c) index out = record { number = 0; bytes = c.bytes; outlines = c.outlines; offset = 0; index = index; out = out }
change_told (Err e) index out = unchanged (refusal_no e.why) e.at index out

-- pick

unfoldable pub found : List ℕ → List ℕ → ℕ → ℕ → Reading Part
found s index n k =
    cond (ltb most_bytes (length s)) (fault because.Long 0)
    (cond (ltb k n && ltb k (length index)) (part s (get_or index k 0)) (fault because.Missing 0))

abbrev pub picked_by : List ℕ → Reading Part → TakeSaid
picked_by s (read p next) = told 0 0 (part_bytes s p)
picked_by s (fault r at) = told (refusal_no r) at []

unfoldable pub picked : List ℕ → List ℕ → ℕ → ℕ → TakeSaid
picked s index n k = picked_by s (found s index n k)

abbrev pub start_in : Reading Part → ℕ
start_in (read p next) = p.start
start_in (fault r at) = 0

unfoldable pub picked_at : List ℕ → List ℕ → ℕ → ℕ → ℕ
picked_at s index n k = start_in (found s index n k)
