-- `emission::emit` meets its contract: a piece is settled, or it is mixed. Assumes nothing.
use mathlib.Core.Path.{refl}
use Rattle.emission.proofs.Emitted.{ask_mixed, settled-behind, settled-mixed, written_met}
use Rattle.emission.proofs.emit.Goals as goal

pub settle-settled-requires : goal.settle-settled-requires
settle-settled-requires c = record { plan = c.args.plan; emittable = c.requires }

pub emit_mixed-requires : goal.emit_mixed-requires
emit_mixed-requires c =
    let k = settled-mixed _ _ _ _ _ _ _ c.in-None.is (c.settle-settled.ensures c.requires.grid c.requires.rule c.args.plan c.requires.walk c.requires.known) in
    ask_mixed _ _ _ _ _ _ _ _ c.requires _ c.requires.known c.settle-settled.auto.list c.requires.fits k.0

pub returns-in-Some : goal.returns-in-Some
returns-in-Some c g r w = settled-behind g r _ _ _ _ _ _ c.in-Some.is (c.settle-settled.ensures g r c.args.plan w c.requires.known)

pub returns-in-None : goal.returns-in-None
returns-in-None c g r w =
    let k = settled-mixed g r _ _ _ _ _ c.in-None.is (c.settle-settled.ensures g r c.args.plan w c.requires.known) in
    written_met g _ _ k.1 refl refl (c.emit_mixed.ensures g r w k.0)
