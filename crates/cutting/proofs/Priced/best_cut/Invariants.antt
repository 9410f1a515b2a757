-- `cutting::Priced::best_cut` meets its contract: what was found is the cheapest of the cuts passed. Assumes nothing.
use Rattle.std.proofs.Common.{◌<◌}
use Rattle.cutting.specs.Cutting.{weight_of, CheapestOf}
use Rattle.cutting.proofs.Search.{BelowX, BelowY}
use Rattle.cutting.proofs.Priced.best_cut.Given as goal

abbrev pub invariant-loop-x : goal.invariant-loop-x
invariant-loop-x l = (l.x < l.p.c → l.p.a < l.x) × CheapestOf (BelowX l.p l.x) (weight_of l.self.columns l.self.rows l.self.table.now l.p) l.best

abbrev pub invariant-loop-y : goal.invariant-loop-y
invariant-loop-y l = (l.y < l.p.d → l.p.b < l.y) × CheapestOf (BelowY l.p l.y) (weight_of l.self.columns l.self.rows l.self.table.now l.p) l.best
