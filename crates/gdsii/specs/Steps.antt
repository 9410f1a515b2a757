-- Inner: what the steps through an element tell, each case of their answers as a reading. Nobody has to believe these.
--
--   past_told         == the place that a step got to, or the first fault
--   scan_told         == a run of points with the place past it, or the first fault
--   Within s run     == the points of the run stand in the bytes, and there is one at least
--   limited s run    == 17, 18 and 2 of a run of points, or the run
--   measured s       == the points of an element that passes 8, 16, 17, 18 and 2
--   Fit s run        == what is known of such a run: the points stand in the bytes, 4 to 32 of them are corners, and they fit 16 bits
--   qualified ..     == what the fracture of a ring is asked: straight cuts by preset 0
use Rattle.std.specs.Prelude.{ℕ, ◌+◌, ◌*◌, ◌-◌, ◌≤◌, ◌≡◌, false, cond, ◌||◌, List, length, Result, Ok, Err}
use Rattle.refusal.specs.declared.Fault.{Fault}
use Rattle.refusal.specs.declared.Refusal.TheVariants as because
use Rattle.rule.specs.Rules.{preset_told}
use Rattle.figure.specs.declared.Axis.TheVariants.{X, Y}
use Rattle.figure.specs.Figure.{most_corners, bad_length}
use Rattle.piece.specs.declared.Mode.TheVariants.{Straight}
use Rattle.demands.specs.Promise.{Asked, asked}
use Rattle.gdsii.specs.declared.stream.Run.{Run}
use Rattle.number.specs.Reading.{Reading, read, fault, and_then}
use Rattle.gdsii.specs.Record.{reached, end_of, element}
use Rattle.gdsii.specs.Boundary.{points, unclosed, broad}

abbrev pub past_told : Result ℕ Fault → Reading (Unit {0})
past_told (Ok next) = reached next
past_told (Err f) = fault f.why f.at

abbrev pub scan_told : Result Run Fault → Reading Run
scan_told (Ok run) = read run (end_of run)
scan_told (Err f) = fault f.why f.at

pub record Within (s : List ℕ) (run : Run) : Type 0 where
  pub some : 1 ≤ run.count
  pub bytes : run.first + 8 * run.count ≤ length s

unfoldable pub limited : List ℕ → Run → ℕ → Reading Run
limited s run next =
    cond (unclosed (points s run)) (fault because.Unclosed 0)
    (cond (broad X (points s run) || broad Y (points s run)) (fault because.Extent 0)
    (cond (bad_length (run.count - 1)) (fault because.Length 0) (read run next)))

unfoldable pub measured : List ℕ → Reading Run
measured s = and_then (element s) (λ run next. limited s run next)

pub record Fit (s : List ℕ) (run : Run) : Type 0 where
  pub within : Within s run
  pub least : 4 ≤ run.count - 1
  pub most : run.count - 1 ≤ most_corners
  pub narrow : broad X (points s run) ≡ false
  pub low : broad Y (points s run) ≡ false

abbrev pub qualified : List ℕ → List ℕ → List ℕ → List ℕ → Asked
qualified corners lengths table list =
    asked Straight corners lengths (preset_told 0).threshold (preset_told 0).weight table list
