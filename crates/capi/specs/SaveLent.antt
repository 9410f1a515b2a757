-- To believe: the promise of `pw_salvage`, said of the numbers that the C interface lends.
--
--   save_lent           == the number returned, the numbers lent, and what the buffer holds then
use Rattle.std.specs.Prelude.{ℕ, List}
use Rattle.saving.specs.Salvage.{SaveSaid}

abbrev pub save_lent : ℕ → ℕ → ℕ → ℕ → ℕ → ℕ → List ℕ → SaveSaid
save_lent n bytes kept lost dropped at out =
    record { number = n; bytes = bytes; kept = kept; lost = lost; dropped = dropped; offset = at; out = out }
