-- `wheels::lanes::weigh_lanes` meets its contract. Assumes nothing.
use Rattle.std.proofs.Common.{replicate, arith}
use lib.ListN.{get_or-replicate}
use Rattle.wheels.proofs.Steps.{start_fits, wheels-weighed}
use Rattle.wheels.proofs.lanes.weigh_lanes.Goals as goal

pub lower_starts-requires : goal.lower_starts-requires
lower_starts-requires c = record { ground = c.requires.ground; side_len = (c.requires.side_len.0, (c.gather_lines.auto.best, (omega (arith, c.requires.side_len), omega (arith, c.requires.side_len)))); starts_fit = start_fits c.args.store.now (replicate 16 4294967295) _ c.args.s c.args.arms c.args.d c.requires.after_bound.0 c.requires.after_bound.1 c.args.lanes c.requires.side_len.1.0 (λ a i. get_or-replicate 16 a 4294967295 0 (omega (arith, c.requires.side_len))) c.gather_lines.ensures }

pub returns : goal.returns
returns c = wheels-weighed c.args.store.now (replicate 16 4294967295) _ c.args.s c.args.arms c.args.d c.requires.after_bound.0 c.requires.after_bound.1 c.args.lanes c.requires.side_len.1.0 (λ a i. get_or-replicate 16 a 4294967295 0 (omega (arith, c.requires.side_len))) c.gather_lines.ensures _ _ c.requires.ground.1.0.low-some c.lower_starts.ensures
