-- `lowering::lower_strip` meets its contract. Assumes nothing.
use Prim.Native.Nat.{◌+◌}
use mathlib.Core.Path.{refl}
use lib.ListN.{replicate, get_or-replicate}
use Rattle.outline.specs.Grid.{Grid}
use Rattle.rule.specs.declared.Rule.{Rule}
use Rattle.table.specs.Cuts.{uncut}
use Rattle.lowering.specs.Lowering.{Lowering, Standing}
use Rattle.lowering.proofs.Steps.{standing-none}
use Rattle.lowering.proofs.Turning.{strip_weighable, strip_turns}
use Rattle.lowering.proofs.lower_strip.Goals as goal

pub weigh-requires : goal.weigh-requires
weigh-requires c = record { weighable = strip_weighable _ _ _ _ _ _ _ c.requires.here c.requires.ac c.requires.cx; pairs_value = (c.requires.here.between.pairs, refl) }

pub lower_weighed-requires : goal.lower_weighed-requires
lower_weighed-requires c =
    let Turned : (g : Grid) → (r : Rule) → (Lowering g r c.args.table.now c.args.cells.now c.args.plan c.args.a.0 c.args.c.0
    → Standing g r c.args.table.now c.args.cells.now c.weigh.new.best c.args.plan c.args.a.0 c.args.c.0 c.args.plan.rows (c.args.plan.rows + 1)) = λ g r w. (standing-none g r _ _ _ _ _ _ w
    (strip_turns g r c.args.table.now c.args.cells.now c.args.plan c.args.a.0 c.args.c.0 w c.requires.ac c.requires.cx
    (replicate 16 uncut)
    c.weigh.new.best
    (λ i h. get_or-replicate 16 i uncut 0 h)
    c.weigh.ensures.by_index)) in
    record { grid = c.requires.grid; rule = c.requires.rule; here = Turned c.requires.grid c.requires.rule c.requires.here; ac = c.requires.ac; cx = c.requires.cx }

pub returns : goal.returns
returns c =
    let Turned : (g : Grid) → (r : Rule) → (Lowering g r c.args.table.now c.args.cells.now c.args.plan c.args.a.0 c.args.c.0
    → Standing g r c.args.table.now c.args.cells.now c.weigh.new.best c.args.plan c.args.a.0 c.args.c.0 c.args.plan.rows (c.args.plan.rows + 1)) = λ g r w. (standing-none g r _ _ _ _ _ _ w
    (strip_turns g r c.args.table.now c.args.cells.now c.args.plan c.args.a.0 c.args.c.0 w c.requires.ac c.requires.cx
    (replicate 16 uncut)
    c.weigh.new.best
    (λ i h. get_or-replicate 16 i uncut 0 h)
    c.weigh.ensures.by_index)) in
    record { lowering = λ g r w. c.lower_weighed.ensures.lowering g r (Turned g r w); beyond = c.lower_weighed.ensures.beyond }
