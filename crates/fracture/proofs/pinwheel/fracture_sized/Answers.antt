-- `fracture::pinwheel::fracture_sized` meets its contract. Assumes nothing.
use mathlib.Core.Path.{◌∙◌, sym, subst}
use Rattle.demands.proofs.Few.{few-gridded}
use Rattle.fracture.specs.Delivery.{Sizes}
use Rattle.fracture.proofs.Handed.{few-laid}
use Rattle.fracture.proofs.pinwheel.fracture_sized.Goals as goal

pub fracture_grid-requires : goal.fracture_grid-requires
fracture_grid-requires c = c.requires

pub fracture_few-requires : goal.fracture_few-requires
fracture_few-requires c = record { fillable = c.requires; le_columns = subst (λ x. Sizes x c.args.columns c.args.rows) c.in-Few.is c.turns_of-turns.ensures }

pub fracture_grid-requires-in-Wide : goal.fracture_grid-requires-in-Wide
fracture_grid-requires-in-Wide c = c.requires

pub fracture_grid-requires-in-High : goal.fracture_grid-requires-in-High
fracture_grid-requires-in-High c = c.requires

pub returns-in-None : goal.returns-in-None
returns-in-None c g w =
    c.fracture_grid.ensures g w
    ∙ sym
    (few-gridded g c.args.rule
    (few-laid _ _ w (subst (λ x. Sizes x c.args.columns c.args.rows) c.in-None.is c.turns_of-turns.ensures))
    c.args.table.now c.args.list.now)

pub returns-in-Few : goal.returns-in-Few
returns-in-Few c = c.fracture_few.ensures

pub returns-in-Wide : goal.returns-in-Wide
returns-in-Wide c = c.fracture_grid-in-Wide.ensures

pub returns-in-High : goal.returns-in-High
returns-in-High c = c.fracture_grid-in-High.ensures
