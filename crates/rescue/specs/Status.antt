-- To believe: the status that salvage ends with, where nothing fails that is read or written.
--
--   nothing_lost u      == saving told no refusal, no outline lost and no byte dropped
--   status s room      == of the job s, saved to this room: 0 if nothing is lost; else 1
use Rattle.std.specs.Prelude.{ℕ, Bool, cond, ◌&&◌, List, eqb}
use Rattle.saving.specs.Salvage.{SaveSaid, saved}

abbrev pub nothing_lost : SaveSaid → Bool
nothing_lost u = eqb u.number 0 && (eqb u.lost 0 && eqb u.dropped 0)

unfoldable pub status : List ℕ → List ℕ → ℕ
status s room = cond (nothing_lost (saved s room)) 0 1
