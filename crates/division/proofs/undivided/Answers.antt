-- `division::undivided` meets its contract: each mode has its call, and the corners are numbers of the type u16. Assumes nothing.
use Rattle.figure.specs.Figure.{figure}
use Rattle.piece.specs.declared.Mode.TheVariants.{Straight, Pinwheel}
use Rattle.demands.specs.Demands.{Words}
use Rattle.demands.proofs.Demands.{words_typed}
use Rattle.division.proofs.Settled.{by_mode}
use Rattle.division.proofs.undivided.Goals as goal

pub returns-in-Straight : goal.returns-in-Straight
returns-in-Straight c =
    let typed : Words (figure c.args.corners.now c.args.lengths.now) = words_typed c.args.corners.now c.args.lengths.now (λ i. c.type_inv.corners i) in
    record { settled = by_mode _ Straight c.args.mode c.args.corners.now c.args.lengths.now c.args.threshold c.args.weight c.args.table.now c.args.list.now c.fracture.ensures.settled c.in-Straight.is; words = typed }

pub returns-in-Pinwheel : goal.returns-in-Pinwheel
returns-in-Pinwheel c =
    let typed : Words (figure c.args.corners.now c.args.lengths.now) = words_typed c.args.corners.now c.args.lengths.now (λ i. c.type_inv.corners i) in
    record { settled = by_mode _ Pinwheel c.args.mode c.args.corners.now c.args.lengths.now c.args.threshold c.args.weight c.args.table.now c.args.list.now c.fracture_pinwheel.ensures.settled c.in-Pinwheel.is; words = typed }
