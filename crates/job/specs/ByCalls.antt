-- To believe: a job as the writing calls leave it, each lent what is left of one buffer behind the bytes that those before it wrote.
--
--   front b               == the bytes that are written: they stand at the front of the buffer
--   after b c             == the call that tells c, lent the buffer behind the bytes that b tells: both together
--   behind call b         == one call more behind b; after a refusal it is not made
--   figures_written fs b   == a call of `write_outline` for each figure, one behind the other
--   job_written t w fs out == `write_header` for so many figures, and then each figure
use Rattle.std.specs.Prelude.{ℕ, ◌+◌, List, [], ◌∷◌, ◌++◌, cond, eqb, length, take, drop}
use Rattle.figure.specs.Figure.{Figure}
use Rattle.job.specs.Calls.{WriteSaid, header_written, outline_written}

abbrev pub front : WriteSaid → List ℕ
front b = take b.bytes b.out

abbrev pub after : WriteSaid → WriteSaid → WriteSaid
after b c = record { number = c.number; bytes = b.bytes + c.bytes; out = front b ++ c.out }

unfoldable pub behind : (List ℕ → WriteSaid) → WriteSaid → WriteSaid
behind call b = cond (eqb b.number 0) (after b (call (drop b.bytes b.out))) b

unfoldable pub figures_written : List Figure → WriteSaid → WriteSaid
figures_written [] b = b
figures_written (f ∷ fs) b = figures_written fs (behind (outline_written f) b)

unfoldable pub job_written : ℕ → ℕ → List Figure → List ℕ → WriteSaid
job_written t w fs out = figures_written fs (header_written t w (length fs) out)
