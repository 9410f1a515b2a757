-- To believe: the largest shot (Item 9): a shot divided into parts no side of which is longer than m, in nm. Nothing here
-- knows of figures, lines, cells or pieces.
--
--   across s, upward s == the two sides of a shot
--   part_count m side   == in how many parts a side is divided: the fewest that fit
--   start side n i     == where the i-th of n parts begins, from the low end on: parts differ by at most 1 nm, longer ones first
--   part s n k i j     == of n parts across and k upward, the one in the column j of the row i
--   divided m s        == the parts of the shot s: rows from the bottom, left to right in a row
--   product m s        == the product of its numbers of parts
use Rattle.std.specs.Prelude.{ℕ, suc, ◌+◌, ◌*◌, ◌-◌, ◌/◌, ◌%◌, min, List, map}
use Rattle.sum.specs.Sum.{join}
use Rattle.shot.specs.Shot.{Shot}
use Rattle.shot.specs.Bad.{shot_of}
use Rattle.piece.specs.Cuts.{run}

abbrev pub across : Shot → ℕ
across s = s.xhigh - s.xlow

abbrev pub upward : Shot → ℕ
upward s = s.yhigh - s.ylow

unfoldable pub part_count : ℕ → ℕ → ℕ
part_count m side = (side + (m - 1)) / m

unfoldable pub start : ℕ → ℕ → ℕ → ℕ
start side n i = i * (side / n) + min i (side % n)

unfoldable pub part : Shot → ℕ → ℕ → ℕ → ℕ → Shot
part s n k i j =
    shot_of (s.xlow + start (across s) n j) (s.ylow + start (upward s) k i)
    (s.xlow + start (across s) n (suc j)) (s.ylow + start (upward s) k (suc i))

unfoldable pub divided : ℕ → Shot → List Shot
divided m s =
    join (λ i. map (λ j. part s (part_count m (across s)) (part_count m (upward s)) i j) (run 0 (part_count m (across s))))
    (run 0 (part_count m (upward s)))

unfoldable pub product : ℕ → Shot → ℕ
product m s = part_count m (across s) * part_count m (upward s)
