-- To believe: the promises of the calls, said of the numbers that the C interface lends them. A slice is lent as it is; a part of a job is told
-- by where it starts and how long it is.
--
--   preset_lent n t w           == the number returned, and the threshold and weight lent
--   fracture_lent               == the number returned, the four numbers lent, and what the table and the list hold then
--   cuts_lent n cuts            == the number returned, and the cuts lent
--   NumberSaid, number_said     == what reading a number tells: the scope's number, the value, the place past it, the offset
--   number_lent, check_lent, unpack_lent, write_lent  == the number returned, the numbers lent, and what the slice lent holds then
--   OutlineSaid, outline_said s k  == where outline k of the job s starts and how long it is, or the refusal and the offset
--   part_said p, job_part k r    == the same of a part; of part k of a job that is read or not
--   outline_lent                == the number returned and the numbers lent
--   boundary_lent, plate_lent    == the number returned, the numbers lent, and what the slices lent hold then
--   flashes_of, pairing_no       == the flashes and the number of a pairing's answer; what is lent of it is `join_lent`
use Rattle.std.specs.Prelude.{ℕ, ◌-◌, List, cond, ltb, length, get_or, ℤ, Result, Ok, Err}
use Rattle.rule.specs.Rules.{Told}
use Rattle.demands.specs.Promise.{Outcome}
use Rattle.demands.specs.Cuts.{Ahead}
use Rattle.refusal.specs.declared.Refusal.{Refusal}
use Rattle.refusal.specs.declared.Refusal.TheVariants.{Missing}
use Rattle.refusal.specs.Refusals.{refusal_no}
use Rattle.number.specs.Reading.{Reading, read, fault}
use Rattle.job.specs.Job.{Job, Part, job}
use Rattle.job.specs.Calls.{CheckSaid, UnpackSaid, WriteSaid, no_part}
use Rattle.gdsii.specs.Calls.{BoundarySaid, PlateSaid}

abbrev pub preset_lent : ℕ → ℕ → ℕ → Told
preset_lent n t w = record { number = n; threshold = t; weight = w }

abbrev pub fracture_lent : ℕ → ℕ → ℕ → ℕ → ℕ → List ℕ → List ℕ → Outcome
fracture_lent n shots cost sliver cuts table list =
    record { number = n; shots = shots; cost = cost; sliver = sliver; cuts = cuts; table = table; list = list }

abbrev pub cuts_lent : ℕ → ℕ → Ahead
cuts_lent n cuts = record { number = n; cuts = cuts }

pub record NumberSaid : Type 0 where
  pub number : ℕ
  pub value : ℕ
  pub next : ℕ
  pub offset : ℕ

abbrev pub number_lent : ℕ → ℕ → ℕ → ℕ → NumberSaid
number_lent n value next offset = record { number = n; value = value; next = next; offset = offset }

-- a refusal has zeros beside its number and offset
abbrev pub number_said : Reading ℕ → NumberSaid
number_said (read v next) = number_lent 0 v next 0
number_said (fault r at) = number_lent (refusal_no r) 0 0 at

abbrev pub check_lent : ℕ → ℕ → ℕ → ℕ → ℕ → CheckSaid
check_lent n t w k at = record { number = n; threshold = t; weight = w; outlines = k; offset = at }

pub record OutlineSaid : Type 0 where
  pub number : ℕ
  pub start : ℕ
  pub size : ℕ
  pub offset : ℕ

abbrev pub outline_lent : ℕ → ℕ → ℕ → ℕ → OutlineSaid
outline_lent n start size at = record { number = n; start = start; size = size; offset = at }

-- a part, from its V to past its last coordinate
abbrev pub part_said : Part → OutlineSaid
part_said p = outline_lent 0 p.start (p.end - p.start) 0

-- the part k of a job that is read, or 13; else the job's first fault
abbrev pub job_part : ℕ → Reading Job → OutlineSaid
job_part k (read j last) =
    cond (ltb k (length j.parts)) (part_said (get_or j.parts k no_part)) (outline_lent (refusal_no Missing) 0 0 0)
job_part k (fault r at) = outline_lent (refusal_no r) 0 0 at

unfoldable pub outline_said : List ℕ → ℕ → OutlineSaid
outline_said s k = job_part k (job s)

abbrev pub unpack_lent : ℕ → ℕ → ℕ → ℕ → List ℕ → List ℕ → UnpackSaid
unpack_lent n corners rings at list lengths =
    record { number = n; corners = corners; rings = rings; offset = at; list = list; lengths = lengths }

abbrev pub write_lent : ℕ → ℕ → List ℕ → WriteSaid
write_lent n bytes out = record { number = n; bytes = bytes; out = out }

abbrev pub boundary_lent : ℕ → ℕ → ℤ → ℤ → ℕ → List ℕ → BoundarySaid
boundary_lent n corners x y at list =
    record { number = n; corners = corners; shift-x = x; shift-y = y; offset = at; list = list }

abbrev pub plate_lent : ℕ → ℕ → ℕ → ℕ → ℕ → ℤ → ℤ → ℕ → List ℕ → List ℕ → PlateSaid
plate_lent n shots cost sliver cuts x y at table list =
    record {
      number = n;
      shots = shots;
      cost = cost;
      sliver = sliver;
      cuts = cuts;
      shift-x = x;
      shift-y = y;
      offset = at;
      table = table;
      list = list;
    }

abbrev pub flashes_of : Result ℕ Refusal → ℕ
flashes_of (Ok n) = n
flashes_of (Err why) = 0

abbrev pub pairing_no : Result ℕ Refusal → ℕ
pairing_no (Ok n) = 0
pairing_no (Err why) = refusal_no why
