-- To believe: the numbers that a job wants, one after another, and when its bytes are at fault, in the scope's words and not by the
-- reader.
--
--   Want                   == a number that is wanted, by what it is for
--   allowed w v            == whether v lies in the range of what is wanted
--   coordinates_of v        == 2V coordinates
--   rings_of n left         == n rings, with so many corners together at most
--   after w v              == what is wanted next where v was read for w
--   job_wants, figure_wants  == what is wanted at the front of a job, and at the front of the part that a figure fills
--   Legal s at ws last end == sound numbers stand in s from one place to the other, each in range; ws is wanted at the first, end at the last
--   Ranged s low high at u == the bytes at a place say u of a number from low to high
--   Bad s at w r o         == the number at a place, which w wants, is refused by r, and o is the byte at fault: by its bytes; or as a sound
--                             number out of range, and o is its last byte
--   FaultAt s ws r o       == the first fault: legal numbers, and after them a bad one whose byte at fault is o; or all that is wanted, and
--                             a byte more, at o
--   JobFault s r o         == the fault of a job: 12 before everything else
--   JobSays s t w k        == a job without fault, and its first three numbers
--   TakeFault s k r o      == the fault of taking figure k: the job's; else 13, where k is not below K
--   Holds p ls             == the part p is the bytes of the figure with the rings ls
--   UnpackFault p l ns r o == the fault of unpacking: the part's; else 14, where one of the two lists is too short for its figure
--   HeaderFault t w k out  == the scope's conditions of a header writer
--   OutlineFault f out     == the scope's conditions of a figure's writer
--   filled_with f l ns      == the figure f at the front of the two lists, the rest as it came in
--   fronted b out          == the bytes b at the front of the buffer, the rest as it came in
--   First C c              == the condition of c holds, and none of a lower number does
use Rattle.std.specs.Prelude.{ℕ, zero, suc, ◌+◌, ◌-◌, ◌*◌, ◌<◌, ◌≤◌, ◌≡◌, ◌⊎◌, List, [], ◌∷◌, ◌++◌, Bool, true, false, cond, ◌&&◌, ◌||◌, length, drop, replicate, leb, eqb}
use Rattle.refusal.specs.declared.Refusal.{Refusal}
use Rattle.refusal.specs.declared.Refusal.TheVariants as because
use Rattle.refusal.specs.Refusals.{refusal_no}
use Rattle.sum.specs.Sum.{All}
use Rattle.number.specs.Reading.{Reading, read, fault}
use Rattle.number.specs.Faults.{Faulty, Sound}
use Rattle.figure.specs.Figure.{Figure, share, total, BadLengths, bad_figure}
use Rattle.job.specs.Bytes.{header_bytes, figure_bytes}
use Rattle.job.specs.Job.{figure_of}
use Rattle.job.specs.Calls.{UnpackSaid, WriteSaid}

pub data Want : Type 0 where
  -- threshold, weight, or a coordinate: 0 to so many
  up_to : ℕ → Want
  -- K, the number of figures
  count : Want
  -- the leading V of a figure, or 0, which announces rings
  leading : Want
  -- R, the number of rings that are announced
  announced : Want
  -- the V of a ring: so many corners are left, and so many rings follow it
  corners : ℕ → ℕ → Want

-- V may be odd here
unfoldable pub allowed : Want → ℕ → Bool
allowed (up_to most) v = leb v most
allowed count v = leb v 255
allowed leading v = eqb v 0 || (leb 4 v && leb v 32)
allowed announced v = leb 2 v && leb v 8
allowed (corners left n) v = leb 4 v && leb v left

abbrev pub coordinates_of : ℕ → List Want
coordinates_of v = replicate (2 * v) (up_to 65535)

abbrev pub rings_of : ℕ → ℕ → List Want
rings_of zero left = []
rings_of (suc n) left = corners left n ∷ []

unfoldable pub after : Want → ℕ → List Want
after (up_to most) v = []
after count k = replicate k leading
after leading v = cond (eqb v 0) (announced ∷ []) (coordinates_of v)
after announced r = rings_of r 32
after (corners left n) v = coordinates_of v ++ rings_of n (left - v)

-- threshold, weight, K
abbrev pub job_wants : List Want
job_wants = up_to 1000 ∷ up_to 1000 ∷ count ∷ []

abbrev pub figure_wants : List Want
figure_wants = leading ∷ []

pub data Legal (s : List ℕ) : ℕ → List Want → ℕ → List Want → Type 0 where
  none : {at : ℕ} {ws : List Want} → Legal s at ws at ws
  more : {at v next last : ℕ} {w : Want} {ws end : List Want} → Sound s at v next → allowed w v ≡ true
      → Legal s next (after w v ++ ws) last end → Legal s at (w ∷ ws) last end

abbrev pub Ranged : List ℕ → ℕ → ℕ → ℕ → Reading ℕ → Type 0
Ranged s low high at (read v next) = Sound s at v next × ((low ≤ v) × (v ≤ high))
Ranged s low high at (fault r o) =
    Faulty s at r o ⊎ ((r ≡ because.Range) × ((v : ℕ) × Sound s at v (o + 1) × ((v < low) ⊎ (high < v))))

unfoldable pub Bad : List ℕ → ℕ → Want → Refusal → ℕ → Type 0
Bad s at w r o = Faulty s at r o ⊎ ((r ≡ because.Range) × ((v : ℕ) × Sound s at v (o + 1) × (allowed w v ≡ false)))

unfoldable pub FaultAt : List ℕ → List Want → Refusal → ℕ → Type 0
FaultAt s ws r o =
    ((at : ℕ) × (w : Want) × (rest : List Want) × Legal s 0 ws at (w ∷ rest) × Bad s at w r o)
    ⊎ ((r ≡ because.Extra) × Legal s 0 ws o [] × (o < length s))

unfoldable pub JobFault : List ℕ → Refusal → ℕ → Type 0
JobFault s r o =
    ((r ≡ because.Long) × (o ≡ 0) × (4096 < length s))
    ⊎ ((length s ≤ 4096) × FaultAt s job_wants r o)

pub record JobSays (s : List ℕ) (t w k : ℕ) : Type 0 where
  pub short : length s ≤ 4096
  pub all : Legal s 0 job_wants (length s) []
  pub after-threshold : ℕ
  pub after-weight : ℕ
  pub after-count : ℕ
  pub threshold : Sound s 0 t after-threshold
  pub weight : Sound s after-threshold w after-weight
  pub count : Sound s after-weight k after-count

unfoldable pub TakeFault : List ℕ → ℕ → Refusal → ℕ → Type 0
TakeFault s k r o =
    JobFault s r o
    ⊎ ((r ≡ because.Missing) × (o ≡ 0) × ((t : ℕ) × (w : ℕ) × (n : ℕ) × JobSays s t w n × (n ≤ k)))

-- the part p is the bytes of a figure with these rings, and 2, or a place above 65,535, is not its fault
pub record Holds (p : List ℕ) (ls : List (List ℕ)) : Type 0 where
  pub bytes : p ≡ figure_bytes ls
  pub good : bad_figure (figure_of ls) ≡ false
  pub places : All (λ n. n ≤ 65535) (figure_of ls).numbers

unfoldable pub UnpackFault : List ℕ → List ℕ → List ℕ → Refusal → ℕ → Type 0
UnpackFault p l ns r o =
    FaultAt p figure_wants r o
    ⊎ ((r ≡ because.Room) × (o ≡ 0)
    × ((ls : List (List ℕ)) × Holds p ls × ((length l < length (figure_of ls).numbers) ⊎ (length ns < length (figure_of ls).lengths))))

pub data HeaderFault (t w k : ℕ) (out : List ℕ) : Refusal → Type 0 where
  -- threshold or weight above 1,000
  rule : (1000 < t) ⊎ (1000 < w) → HeaderFault t w k out because.Rule
  -- K above 255
  range : 255 < k → HeaderFault t w k out because.Range
  -- buffer too short for what would be written
  room : length out < length (header_bytes t w k) → HeaderFault t w k out because.Room

pub data OutlineFault (f : Figure) (out : List ℕ) : Refusal → Type 0 where
  -- a bad ring count, ring length or total
  lengths : BadLengths f → OutlineFault f out because.Length
  -- buffer too short for what would be written
  space : length out < length (figure_bytes (share f.lengths f.numbers)) → OutlineFault f out because.Room

pub record First (C : Refusal → Type 0) (c : Refusal) : Type 0 where
  pub holds : C c
  pub before : (s : Refusal) → refusal_no s < refusal_no c → C s → ⊥

abbrev pub filled_with : Figure → List ℕ → List ℕ → UnpackSaid
filled_with f l ns =
    record {
      number = 0;
      corners = total f;
      rings = length f.lengths;
      offset = 0;
      list = f.numbers ++ drop (length f.numbers) l;
      lengths = f.lengths ++ drop (length f.lengths) ns;
    }

abbrev pub fronted : List ℕ → List ℕ → WriteSaid
fronted b out = record { number = 0; bytes = length b; out = b ++ drop (length b) out }
