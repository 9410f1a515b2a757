-- To believe: what the calls on job bytes promise, the scope's numbers and what the lent memory holds, for all inputs.
--
--   CheckSaid            == what checking a job tells: number, threshold, weight, K, offset
--   job_said r            == the same of a job that is read or not: a refusal has zeros beside its number and offset
--   checked s            == checking the job s
--   TakeSaid             == what taking a figure tells: number, offset, and the bytes of the part
--   told n at l          == a number, an offset, and the bytes of a part
--   part_bytes s p        == the bytes of s from the start of the part p to its end
--   no_part               == what stands past the last part
--   part_taken s k r      == figure k of a job that is read or not: with a refusal the part is empty, and 13 comes last
--   taken s k            == taking figure k of the job s, as that part of its own bytes
--   UnpackSaid           == what unpacking tells: number, corners in all, rings, offset, and the two lists afterwards
--   unfilled n at l ns   == refused by the number n at a place: both lists as they came in
--   filled_by f l ns      == the figure f at the front of the two lists, or 14 where either is too short for it
--   part_unpacked l ns r  == a figure that is read or not, to the lists l and ns
--   unpacked p l ns      == unpacking the one figure that must fill the part p exactly, its numbers to l, its ring lengths to ns
--   WriteSaid            == what a writer tells: number, the bytes written, and the buffer afterwards
--   unwritten n out      == refused by the number n: nothing is written
--   written_to out b      == the bytes b at the front of the buffer, or 14 where they do not fit
--   header_written t w k out == writing a header: 1, 10 for K above 255, 14
--   outline_written f out == writing the figure f: 2 for a bad ring count, ring length or total, 14
--   check_told, take_told, unpack_told, write_told == the same for each case of an answer of the code, with the lent memory
--                           afterwards
use Rattle.std.specs.Prelude.{ℕ, ◌-◌, List, [], ◌++◌, cond, ◌&&◌, length, get_or, take, drop, ltb, leb, Result, Ok, Err}
use Rattle.std.specs.Borrow.{Bor}
use Rattle.refusal.specs.declared.Refusal.{Refusal}
use Rattle.refusal.specs.declared.Fault.{Fault}
use Rattle.refusal.specs.declared.Refusal.TheVariants as because
use Rattle.refusal.specs.Refusals.{refusal_no}
use Rattle.number.specs.Reading.{Reading, read, fault}
use Rattle.rule.specs.Rules.{in_range}
use Rattle.figure.specs.Figure.{Figure, share, total, bad_figure}
use Rattle.job.specs.Bytes.{header_bytes, figure_bytes}
use Rattle.job.specs.Job.{most_outlines, Part, Job, figure_of, outline, filled, job}
use Rattle.job.specs.declared.read.Job.{Job as Checked}
use Rattle.job.specs.declared.unpack.Unpacked.{Unpacked}

-- check a whole job

pub record CheckSaid : Type 0 where
  pub number : ℕ
  pub threshold : ℕ
  pub weight : ℕ
  pub outlines : ℕ
  pub offset : ℕ

abbrev pub job_said : Reading Job → CheckSaid
job_said (read j last) =
    record { number = 0; threshold = j.threshold; weight = j.weight; outlines = length j.parts; offset = 0 }
job_said (fault r at) = record { number = refusal_no r; threshold = 0; weight = 0; outlines = 0; offset = at }

unfoldable pub checked : List ℕ → CheckSaid
checked s = job_said (job s)

abbrev pub check_told : Result Checked Fault → CheckSaid
check_told (Ok j) = record { number = 0; threshold = j.threshold; weight = j.weight; outlines = j.outlines; offset = 0 }
check_told (Err e) = record { number = refusal_no e.why; threshold = 0; weight = 0; outlines = 0; offset = e.at }

-- take figure k

pub record TakeSaid : Type 0 where
  pub number : ℕ
  pub offset : ℕ
  pub part : List ℕ

abbrev pub told : ℕ → ℕ → List ℕ → TakeSaid
told n at l = record { number = n; offset = at; part = l }

abbrev pub part_bytes : List ℕ → Part → List ℕ
part_bytes s p = take (p.end - p.start) (drop p.start s)

abbrev pub no_part : Part
no_part = record { start = 0; end = 0; rings = [] }

abbrev pub part_taken : List ℕ → ℕ → Reading Job → TakeSaid
part_taken s k (read j last) =
    cond (ltb k (length j.parts))
    (record { number = 0; offset = 0; part = part_bytes s (get_or j.parts k no_part) })
    (record { number = refusal_no because.Missing; offset = 0; part = [] })
part_taken s k (fault r at) = record { number = refusal_no r; offset = at; part = [] }

unfoldable pub taken : List ℕ → ℕ → TakeSaid
taken s k = part_taken s k (job s)

abbrev pub take_told : Result (Bor (List ℕ)) Fault → TakeSaid
take_told (Ok part) = told 0 0 part.now
take_told (Err e) = told (refusal_no e.why) e.at []

-- unpack a part

pub record UnpackSaid : Type 0 where
  pub number : ℕ
  pub corners : ℕ
  pub rings : ℕ
  pub offset : ℕ
  pub list : List ℕ
  pub lengths : List ℕ

abbrev pub unfilled : ℕ → ℕ → List ℕ → List ℕ → UnpackSaid
unfilled n at l ns = record { number = n; corners = 0; rings = 0; offset = at; list = l; lengths = ns }

unfoldable pub filled_by : Figure → List ℕ → List ℕ → UnpackSaid
filled_by f l ns =
    cond (leb (length f.numbers) (length l) && leb (length f.lengths) (length ns))
    (record {
      number = 0;
      corners = total f;
      rings = length f.lengths;
      offset = 0;
      list = f.numbers ++ drop (length f.numbers) l;
      lengths = f.lengths ++ drop (length f.lengths) ns;
    })
    (unfilled (refusal_no because.Room) 0 l ns)

abbrev pub part_unpacked : List ℕ → List ℕ → Reading (List (List ℕ)) → UnpackSaid
part_unpacked l ns (read ls last) = filled_by (figure_of ls) l ns
part_unpacked l ns (fault r at) = unfilled (refusal_no r) at l ns

unfoldable pub unpacked : List ℕ → List ℕ → List ℕ → UnpackSaid
unpacked p l ns = part_unpacked l ns (filled p (outline p 0))

abbrev pub unpack_told : Result Unpacked Fault → List ℕ → List ℕ → UnpackSaid
unpack_told (Ok u) l ns = record { number = 0; corners = u.corners; rings = u.rings; offset = 0; list = l; lengths = ns }
unpack_told (Err e) l ns = unfilled (refusal_no e.why) e.at l ns

-- write

pub record WriteSaid : Type 0 where
  pub number : ℕ
  pub bytes : ℕ
  pub out : List ℕ

abbrev pub unwritten : ℕ → List ℕ → WriteSaid
unwritten n out = record { number = n; bytes = 0; out = out }

abbrev pub written_to : List ℕ → List ℕ → WriteSaid
written_to out b =
    cond (leb (length b) (length out))
    (record { number = 0; bytes = length b; out = b ++ drop (length b) out })
    (unwritten (refusal_no because.Room) out)

unfoldable pub header_written : ℕ → ℕ → ℕ → List ℕ → WriteSaid
header_written t w k out =
    cond (in_range t w)
    (cond (ltb most_outlines k) (unwritten (refusal_no because.Range) out) (written_to out (header_bytes t w k)))
    (unwritten (refusal_no because.Rule) out)

unfoldable pub outline_written : Figure → List ℕ → WriteSaid
outline_written f out =
    cond (bad_figure f) (unwritten (refusal_no because.Length) out) (written_to out (figure_bytes (share f.lengths f.numbers)))

abbrev pub write_told : Result ℕ Refusal → List ℕ → WriteSaid
write_told (Ok n) out = record { number = 0; bytes = n; out = out }
write_told (Err why) out = unwritten (refusal_no why) out
