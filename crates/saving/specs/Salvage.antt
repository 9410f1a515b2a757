-- To believe: what is left of a job: the outlines before the first fault, a sound job of them, and what is lost and dropped.
--
--   Left                 == outlines that read well one after another, and where the last of them ends
--   left_by r at rest     == by the outline that is read at a place or not: it and the rest behind it, or none
--   kept_from s k at      == of k outlines from a place on, those before the first that does not read at its place
--   saved_bytes s h first l == the job of what is left: the header with the right count, and the kept outlines' own bytes
--   SaveSaid             == what saving tells: number, the bytes written, outlines kept, outlines lost of those declared, bytes dropped, offset,
--                           and the buffer afterwards
--   unsaved n at out     == refused by the number n at a place: the buffer as it came in
--   saved_as s out h first l == what is left of the job s, behind its header: written at the front of the buffer, or 14
--   saved_by s out r      == by the header that is read or not
--   saved s out          == saving the job s: 12, the header's fault, 14
--   save_told             == the same for each case of an answer of the code, with the lent memory afterwards
use Rattle.std.specs.Prelude.{ℕ, zero, suc, ◌-◌, List, [], ◌∷◌, ◌++◌, cond, length, take, drop, ltb, leb, Result, Ok, Err}
use Rattle.refusal.specs.declared.Refusal.TheVariants as because
use Rattle.refusal.specs.declared.Fault.{Fault}
use Rattle.refusal.specs.Refusals.{refusal_no}
use Rattle.number.specs.Reading.{Reading, read, fault}
use Rattle.job.specs.Bytes.{header_bytes}
use Rattle.job.specs.Job.{most_bytes, Part, part, Header, header}
use Rattle.saving.specs.declared.Saved.{Saved}

pub record Left : Type 0 where
  pub parts : List Part
  pub end : ℕ

abbrev pub left_by : Reading Part → ℕ → (ℕ → Left) → Left
left_by (fault r o) at rest = record { parts = []; end = at }
left_by (read p next) at rest = record { parts = p ∷ (rest next).parts; end = (rest next).end }

unfoldable pub kept_from : List ℕ → ℕ → ℕ → Left
kept_from s zero at = record { parts = []; end = at }
kept_from s (suc k) at = left_by (part s at) at (λ next. kept_from s k next)

abbrev pub saved_bytes : List ℕ → Header → ℕ → Left → List ℕ
saved_bytes s h first l = header_bytes h.threshold h.weight (length l.parts) ++ take (l.end - first) (drop first s)

pub record SaveSaid : Type 0 where
  pub number : ℕ
  pub bytes : ℕ
  pub kept : ℕ
  pub lost : ℕ
  pub dropped : ℕ
  pub offset : ℕ
  pub out : List ℕ

abbrev pub unsaved : ℕ → ℕ → List ℕ → SaveSaid
unsaved n at out = record { number = n; bytes = 0; kept = 0; lost = 0; dropped = 0; offset = at; out = out }

abbrev pub saved_as : List ℕ → List ℕ → Header → ℕ → Left → SaveSaid
saved_as s out h first l =
    cond (leb (length (saved_bytes s h first l)) (length out))
    (record {
      number = 0;
      bytes = length (saved_bytes s h first l);
      kept = length l.parts;
      lost = h.count - length l.parts;
      dropped = length s - l.end;
      offset = 0;
      out = saved_bytes s h first l ++ drop (length (saved_bytes s h first l)) out;
    })
    (unsaved (refusal_no because.Room) 0 out)

abbrev pub saved_by : List ℕ → List ℕ → Reading Header → SaveSaid
saved_by s out (read h first) = saved_as s out h first (kept_from s h.count first)
saved_by s out (fault r at) = unsaved (refusal_no r) at out

unfoldable pub saved : List ℕ → List ℕ → SaveSaid
saved s out = cond (ltb most_bytes (length s)) (unsaved (refusal_no because.Long) 0 out) (saved_by s out (header s))

abbrev pub save_told : Result Saved Fault → List ℕ → SaveSaid
save_told (Ok s) out =
    record { number = 0; bytes = s.bytes; kept = s.kept; lost = s.lost; dropped = s.dropped; offset = 0; out = out }
save_told (Err e) out = unsaved (refusal_no e.why) e.at out
