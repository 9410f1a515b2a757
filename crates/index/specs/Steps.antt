-- Inner: what the steps on the way tell. Nobody has to believe these.
--
--   starts_in r           == where the figures begin that are read
--   Noted r before after == where the figures begin that are read stands at the front of a list, the rest as it came in
--   Parted t w n l       == a header for n figures and the bytes l behind it are a job of n figures, where they are no more than a job may have
--   changed_for b index out == the new job b: 12, else as `changed_to` says
--   place_of r            == where a part starts, and as the place past it where it ends
use Rattle.std.specs.Prelude.{ℕ, ◌≤◌, ◌≡◌, List, ◌++◌, map, cond, length, ltb}
use Rattle.std.proofs.lemmas.List.Edits.{sets}
use Rattle.refusal.specs.declared.Refusal.TheVariants as because
use Rattle.refusal.specs.Refusals.{refusal_no}
use Rattle.number.specs.Reading.{Reading, read, fault, and_then}
use Rattle.rule.specs.Rules.{limit}
use Rattle.job.specs.Bytes.{header_bytes}
use Rattle.job.specs.Job.{most_bytes, most_outlines, Part, Job, job}
use Rattle.index.specs.Index.{ChangeSaid, unchanged, changed_to}

abbrev pub starts_in : List Part → List ℕ
starts_in ps = map (λ (p : Part). p.start) ps

abbrev pub Noted : Reading (List Part) → List ℕ → List ℕ → Type 0
Noted (read ps last) before after = after ≡ sets before 0 (starts_in ps)
Noted (fault r at) before after = Unit {0}

pub record Parted (t w n : ℕ) (l : List ℕ) : Type 0 where
  pub threshold : t ≤ limit
  pub weight : w ≤ limit
  pub count : n ≤ most_outlines
  pub reads : length (header_bytes t w n ++ l) ≤ most_bytes
      → (j : Job) × (last : ℕ) × (job (header_bytes t w n ++ l) ≡ read j last) × (length j.parts ≡ n)

unfoldable pub changed_for : List ℕ → List ℕ → List ℕ → ChangeSaid
changed_for b index out =
    cond (ltb most_bytes (length b)) (unchanged (refusal_no because.Long) 0 index out) (changed_to b index out)

unfoldable pub place_of : Reading Part → Reading ℕ
place_of r = and_then r (λ p next. read p.start next)
