-- To believe: what an accepted call reports, in the scope's words.
--
--   Report s u       == u tells of the bytes s: the outlines kept read well one after another from the header on; they are all that are
--                       declared, or the next does not read at its place; lost are the others declared; dropped is every byte after the
--                       last that is kept, or after the header if none is
use Rattle.std.specs.Prelude.{ℕ, ◌-◌, ◌<◌, ◌≡◌, ◌⊎◌, List, length}
use Rattle.refusal.specs.declared.Refusal.{Refusal}
use Rattle.number.specs.Reading.{read, fault}
use Rattle.job.specs.Job.{Part, part, outlines, Header, header}
use Rattle.saving.specs.Salvage.{SaveSaid}

pub record Report (s : List ℕ) (u : SaveSaid) : Type 0 where
  pub head : Header
  pub first : ℕ
  pub header_is : header s ≡ read head first
  pub parts : List Part
  pub end : ℕ
  pub reads : outlines s u.kept first ≡ read parts end
  pub stops : (u.kept ≡ head.count) ⊎ ((u.kept < head.count) × ((r : Refusal) × (o : ℕ) × (part s end ≡ fault r o)))
  pub lost-is : u.lost ≡ head.count - u.kept
  pub dropped-is : u.dropped ≡ length s - end
