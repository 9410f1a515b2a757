-- To believe: when the calls on an index are refused, each condition with those before it in the scope's order, and not by the reader.
--
--   grown k                == how many bytes a header for k + 1 outlines is longer than one for k: one exactly at 127
--   figure_size f           == how many bytes the figure f has in a job
--   longer s f n           == how many bytes the job s of n outlines has with the figure f at its end
--   shorter s k n          == how many bytes it has without outline k
--   Unread s at r o        == reading an outline at a place finds r, and o is the byte at fault: legal numbers, and after them a bad one
--   OpenFault s index r o  == opening the job s: its fault; else 14, where the index is too short for its outlines
--   AppendFault s f index out r o == appending the figure f: the job's fault; 2; 20; 12; 14
--   RemoveFault s k index out r o == removing outline k: the job's fault; 13; 14
--   PickFault s index n k r o == picking outline k by an index of n entries: 12; 13; the fault of reading an outline there
use Rattle.std.specs.Prelude.{ℕ, ◌+◌, ◌-◌, ◌<◌, ◌≤◌, ◌⊎◌, List, ◌∷◌, cond, length, get_or, eqb}
use Rattle.refusal.specs.declared.Refusal.{Refusal}
use Rattle.refusal.specs.declared.Refusal.TheVariants as because
use Rattle.figure.specs.Figure.{Figure, share, BadLengths}
use Rattle.job.specs.Bytes.{figure_bytes}
use Rattle.job.specs.Calls.{taken}
use Rattle.job.specs.Faults.{Want, figure_wants, Legal, Bad, JobFault, JobSays}

abbrev pub grown : ℕ → ℕ
grown k = cond (eqb k 127) 1 0

abbrev pub figure_size : Figure → ℕ
figure_size f = length (figure_bytes (share f.lengths f.numbers))

abbrev pub longer : List ℕ → Figure → ℕ → ℕ
longer s f n = length s + grown n + figure_size f

abbrev pub shorter : List ℕ → ℕ → ℕ → ℕ
shorter s k n = length s - (grown (n - 1) + length (taken s k).part)

unfoldable pub Unread : List ℕ → ℕ → Refusal → ℕ → Type 0
Unread s at r o = (start : ℕ) × (w : Want) × (rest : List Want) × Legal s at figure_wants start (w ∷ rest) × Bad s start w r o

pub data OpenFault (s index : List ℕ) : Refusal → ℕ → Type 0 where
  -- 12, 8 to 11: those of reading the job
  not_opened : {r : Refusal} {o : ℕ} → JobFault s r o → OpenFault s index r o
  -- 14: the index is shorter than the job's outlines are many
  open_room : {t w n : ℕ} → JobSays s t w n → length index < n → OpenFault s index because.Room 0

pub data AppendFault (s : List ℕ) (f : Figure) (index out : List ℕ) : Refusal → ℕ → Type 0 where
  -- 12, 8 to 11: those of reading the job
  not-read : {r : Refusal} {o : ℕ} → JobFault s r o → AppendFault s f index out r o
  -- 2: a bad ring count, ring length or total
  append-lengths : {t w n : ℕ} → JobSays s t w n → BadLengths f → AppendFault s f index out because.Length 0
  -- 20: 255 outlines
  append-full : {t w n : ℕ} → JobSays s t w n → (BadLengths f → ⊥) → 255 ≤ n → AppendFault s f index out because.Full 0
  -- 12: the job would pass 4,096 bytes
  append-long : {t w n : ℕ} → JobSays s t w n → (BadLengths f → ⊥) → n < 255 → 4096 < longer s f n → AppendFault s f index out because.Long 0
  -- 14: the buffer is shorter than the new job, or the index than its outlines are many
  append-room : {t w n : ℕ} → JobSays s t w n → (BadLengths f → ⊥) → n < 255 → longer s f n ≤ 4096
      → (length out < longer s f n) ⊎ (length index < n + 1) → AppendFault s f index out because.Room 0

pub data RemoveFault (s : List ℕ) (k : ℕ) (index out : List ℕ) : Refusal → ℕ → Type 0 where
  -- 12, 8 to 11: those of reading the job
  not_taken : {r : Refusal} {o : ℕ} → JobFault s r o → RemoveFault s k index out r o
  -- 13: there is no outline k
  remove_missing : {t w n : ℕ} → JobSays s t w n → n ≤ k → RemoveFault s k index out because.Missing 0
  -- 14: the buffer is shorter than the new job, or the index than its outlines are many
  remove_room : {t w n : ℕ} → JobSays s t w n → k < n → (length out < shorter s k n) ⊎ (length index < n - 1)
      → RemoveFault s k index out because.Room 0

pub data PickFault (s index : List ℕ) (n k : ℕ) : Refusal → ℕ → Type 0 where
  -- 12: over 4,096 bytes
  pick_long : 4096 < length s → PickFault s index n k because.Long 0
  -- 13: k reaches the count or the room
  pick_missing : length s ≤ 4096 → (n ≤ k) ⊎ (length index ≤ k) → PickFault s index n k because.Missing 0
  -- 8 to 10: reading an outline where the entry points
  pick_unread : {r : Refusal} {o : ℕ} → length s ≤ 4096 → k < n → k < length index → Unread s (get_or index k 0) r o → PickFault s index n k r o
