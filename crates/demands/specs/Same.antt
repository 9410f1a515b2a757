-- To believe: what stays of an answer when a drawing is moved, and what is dearer (Item 14).
--
--   shift_shot dx dy s   == the shot s moved by dx to the right and by dy upwards
--   bare o              == the outcome o without its list: number, shots, cost, sliver length, cuts and table
--   Dearer ask other    == the same figure in the same mode by a threshold and a weight that are no less, whatever is lent
use Rattle.std.specs.Prelude.{ℕ, ◌+◌, ◌≤◌, ◌≡◌, []}
use Rattle.shot.specs.Shot.{Shot}
use Rattle.demands.specs.Promise.{Asked, Outcome}

abbrev pub shift_shot : ℕ → ℕ → Shot → Shot
shift_shot dx dy s = record { xlow = s.xlow + dx; ylow = s.ylow + dy; xhigh = s.xhigh + dx; yhigh = s.yhigh + dy }

unfoldable pub bare : Outcome → Outcome
bare o = record { number = o.number; shots = o.shots; cost = o.cost; sliver = o.sliver; cuts = o.cuts; table = o.table; list = [] }

pub record Dearer (ask other : Asked) : Type 0 where
  pub mode : other.mode ≡ ask.mode
  pub figure : other.figure ≡ ask.figure
  pub threshold : ask.threshold ≤ other.threshold
  pub weight : ask.weight ≤ other.weight
