-- Inner: what the functions on the way do (nobody has to believe these).
--
--   side_of m low high      == a side from low to high, as it is divided
--   edge x i               == where its i-th part begins, and the one before it ends
--   row_of x bottom top n   == the first n parts of a row between bottom and top
--   rows_of x y k           == the first k rows
--   in_front list n         == the first n shots of a list of numbers
--   Wrote u v at l n       == by writing the shots l from the index at on the list u becomes v, and n is the index behind them
--   Solid list k m         == shot k of a list of numbers has area, and m is a largest side
--   Parted list k m x y    == x and y are its two sides, divided by m
--   Divisible list n m     == the list begins with n shots that have area and, divided by m, few parts
use Rattle.std.specs.Prelude.{ℕ, suc, ◌+◌, ◌*◌, ◌-◌, ◌/◌, ◌%◌, ◌≤◌, ◌<◌, min, ◌≡◌, List, map, length, take, get_or}
use Rattle.std.proofs.lemmas.List.Edits.{sets}
use Rattle.sum.specs.Sum.{All, sum_of, join}
use Rattle.shot.specs.Shot.{Shot, numbers, shots_in}
use Rattle.shot.specs.Bad.{shot_of}
use Rattle.piece.specs.Cuts.{run}
use Rattle.division.specs.declared.side.Side.{Side}
use Rattle.division.specs.Division.{part_count, product}

unfoldable pub side_of : ℕ → ℕ → ℕ → Side
side_of m low high =
    record {
      low = low;
      count = part_count m (high - low);
      length = (high - low) / part_count m (high - low);
      longer = (high - low) % part_count m (high - low);
    }

unfoldable pub edge : Side → ℕ → ℕ
edge x i = x.low + (i * x.length + min i x.longer)

unfoldable pub row_of : Side → ℕ → ℕ → ℕ → List Shot
row_of x bottom top n = map (λ j. shot_of (edge x j) bottom (edge x (suc j)) top) (run 0 n)

unfoldable pub rows_of : Side → Side → ℕ → List Shot
rows_of x y k = join (λ i. row_of x (edge y i) (edge y (suc i)) x.count) (run 0 k)

unfoldable pub in_front : List ℕ → ℕ → List Shot
in_front list n = shots_in (take (4 * n) list)

pub record Wrote (u v : List ℕ) (at : ℕ) (l : List Shot) (n : ℕ) : Type 0 where
  pub behind : n ≡ at + 4 * length l
  pub list : v ≡ sets u at (numbers l)

pub record Solid (list : List ℕ) (k m : ℕ) : Type 0 where
  pub within : 4 * k + 3 < length list
  pub across : get_or list (4 * k) 0 < get_or list (4 * k + 2) 0
  pub upward : get_or list (4 * k + 1) 0 < get_or list (4 * k + 3) 0
  pub some : 0 < m
  pub most : m ≤ 65535

pub record Parted (list : List ℕ) (k m : ℕ) (x y : Side) : Type 0 where
  pub across : x ≡ side_of m (get_or list (4 * k) 0) (get_or list (4 * k + 2) 0)
  pub upward : y ≡ side_of m (get_or list (4 * k + 1) 0) (get_or list (4 * k + 3) 0)
  pub x-place : edge x x.count ≤ 65535
  pub y-place : edge y y.count ≤ 65535

pub record Divisible (list : List ℕ) (n m : ℕ) : Type 0 where
  pub least : 200 ≤ m
  pub most : m ≤ 65535
  pub room : 4 * n ≤ length list
  pub area : All (λ s. (s.xlow < s.xhigh) × (s.ylow < s.yhigh)) (in_front list n)
  pub few : sum_of (product m) (in_front list n) ≤ 116964
