-- To believe: the outlines of a job that is accepted.
--
--   Sound s h            == the job s is accepted, and h is what it says before its outlines
--   parts_of r            == the outlines of a job that is read; none of one that is refused
--   said s k             == the figure that the job s says of outline k
--   is_refused s k        == the fracture of outline k of the job s is refused
--   any_refused s n       == that of one of its first n outlines is
-- Inner
--   Indexed a s index    == beside a job that is accepted stands its true index
--   Admitted s index h   == the job s is accepted, h is what it says before its outlines, and beside it stands its true index
--   Fronts f v r l ns    == the figure f stands at the front of two lists: 2v numbers of the one, and r of the other
use Rattle.std.specs.Prelude.{ℕ, zero, suc, ◌*◌, ◌≤◌, ◌≡◌, Bool, false, not, ◌||◌, List, [], eqb, length, take, get_or, Result, Ok, Err}
use Rattle.number.specs.Reading.{Reading, read, fault}
use Rattle.figure.specs.Figure.{Figure}
use Rattle.outline.specs.Promise.{refusal}
use Rattle.job.specs.Job.{Part, Job, figure_of, job}
use Rattle.job.specs.Calls.{no_part, checked}
use Rattle.refusal.specs.declared.Fault.{Fault}
use Rattle.job.specs.declared.read.Job.{Job as Header}
use Rattle.index.specs.Index.{TrueIndex}

abbrev pub Sound : List ℕ → Header → Type 0
Sound s h =
    checked s
    ≡ record { number = 0; threshold = h.threshold; weight = h.weight; outlines = h.outlines; offset = 0 }

abbrev pub Indexed : Result Header Fault → List ℕ → List ℕ → Type 0
Indexed (Ok h) s index = TrueIndex s index h.outlines
Indexed (Err e) s index = Unit {0}

pub record Admitted (s index : List ℕ) (h : Header) : Type 0 where
  pub sound : Sound s h
  pub entries : TrueIndex s index h.outlines

abbrev pub parts_of : Reading Job → List Part
parts_of (read j last) = j.parts
parts_of (fault r at) = []

unfoldable pub said : List ℕ → ℕ → Figure
said s k = figure_of (get_or (parts_of (job s)) k no_part).rings

unfoldable pub is_refused : List ℕ → ℕ → Bool
is_refused s k = not (eqb (refusal (said s k)) 0)

unfoldable pub any_refused : List ℕ → ℕ → Bool
any_refused s zero = false
any_refused s (suc n) = any_refused s n || is_refused s n

pub record Fronts (f : Figure) (v r : ℕ) (l ns : List ℕ) : Type 0 where
  pub most : v ≤ 32
  pub numbers : take (2 * v) l ≡ f.numbers
  pub lengths : take r ns ≡ f.lengths
  pub few : 2 * v ≤ length l
  pub some : r ≤ length ns
