-- To believe: the promises of `pw_cif_write` and `pw_cif_read`, said of the numbers that the C interface lends.
--
--   text_lent           == the number returned, the count of bytes lent, and what the buffer holds then
--   shots_lent          == the number returned, the count of shots and the offset lent, and what the list holds then
use Rattle.std.specs.Prelude.{ℕ, List}
use Rattle.cif.specs.Calls.{WriteSaid, ReadSaid}

abbrev pub text_lent : ℕ → ℕ → List ℕ → WriteSaid
text_lent n bytes out = record { number = n; bytes = bytes; out = out }

abbrev pub shots_lent : ℕ → ℕ → ℕ → List ℕ → ReadSaid
shots_lent n shots at list = record { number = n; shots = shots; offset = at; list = list }
