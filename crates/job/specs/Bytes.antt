-- To believe: the bytes of a job, as they are written.
--
--   coordinate_bytes l    == the bytes of some numbers, one after another
--   header_bytes t w k    == threshold, weight, and the number of figures
--   ring_bytes l          == a ring: V, which is half as many as its coordinates, and the 2V coordinates x, y, x, y, ..
--   announced_bytes ls    == rings that are announced: 0, their number, and the rings
--   figure_bytes ls       == a figure: one ring alone stands as it is, all others are announced
--   outlines_bytes fs     == figures, one after another
--   job_bytes t w fs      == a whole job: the header, and the figures, each as its rings; nothing follows the last figure
use Rattle.std.specs.Prelude.{ℕ, ◌/◌, List, [], ◌∷◌, ◌++◌, length}
use Rattle.sum.specs.Sum.{join}
use Rattle.number.specs.Number.{number_bytes}

unfoldable pub coordinate_bytes : List ℕ → List ℕ
coordinate_bytes [] = []
coordinate_bytes (n ∷ l) = number_bytes n ++ coordinate_bytes l

unfoldable pub header_bytes : ℕ → ℕ → ℕ → List ℕ
header_bytes t w k = number_bytes t ++ (number_bytes w ++ number_bytes k)

unfoldable pub ring_bytes : List ℕ → List ℕ
ring_bytes l = number_bytes (length l / 2) ++ coordinate_bytes l

abbrev pub announced_bytes : List (List ℕ) → List ℕ
announced_bytes ls = number_bytes 0 ++ (number_bytes (length ls) ++ join ring_bytes ls)

unfoldable pub figure_bytes : List (List ℕ) → List ℕ
figure_bytes [] = announced_bytes []
figure_bytes (l ∷ []) = ring_bytes l
figure_bytes (l ∷ m ∷ ls) = announced_bytes (l ∷ m ∷ ls)

unfoldable pub outlines_bytes : List (List (List ℕ)) → List ℕ
outlines_bytes [] = []
outlines_bytes (ls ∷ fs) = figure_bytes ls ++ outlines_bytes fs

unfoldable pub job_bytes : ℕ → ℕ → List (List (List ℕ)) → List ℕ
job_bytes t w fs = header_bytes t w (length fs) ++ outlines_bytes fs
