-- To believe: when saving is refused, each condition with those before it in the scope's order.
--
--   head_wants            == the three numbers of a header
--   HeadFault s r o      == the first fault of the header, in the scope's words: legal numbers, and after them a bad one whose byte at fault is o
--   SaveFault s out r o  == saving the job s: 12; the header's fault; 14, where the buffer is shorter than the sound job
use Rattle.std.specs.Prelude.{ℕ, ◌<◌, ◌≤◌, ◌≡◌, List, [], ◌∷◌, length}
use Rattle.refusal.specs.declared.Refusal.{Refusal}
use Rattle.refusal.specs.declared.Refusal.TheVariants as because
use Rattle.number.specs.Reading.{read}
use Rattle.job.specs.Job.{Header, header}
use Rattle.job.specs.Faults.{Want, up_to, Legal, Bad}
use Rattle.saving.specs.Salvage.{kept_from, saved_bytes}

-- threshold, weight, K
abbrev pub head_wants : List Want
head_wants = up_to 1000 ∷ up_to 1000 ∷ up_to 255 ∷ []

unfoldable pub HeadFault : List ℕ → Refusal → ℕ → Type 0
HeadFault s r o = (start : ℕ) × (w : Want) × (rest : List Want) × Legal s 0 head_wants start (w ∷ rest) × Bad s start w r o

pub data SaveFault (s out : List ℕ) : Refusal → ℕ → Type 0 where
  -- 12: over 4,096 bytes
  save_long : 4096 < length s → SaveFault s out because.Long 0
  -- 8 to 10: whatever the header's three numbers give
  save_unread : {r : Refusal} {o : ℕ} → length s ≤ 4096 → HeadFault s r o → SaveFault s out r o
  -- 14: the buffer is shorter than the sound job
  save_room : {h : Header} {first : ℕ} → length s ≤ 4096 → header s ≡ read h first
      → length out < length (saved_bytes s h first (kept_from s h.count first)) → SaveFault s out because.Room 0
