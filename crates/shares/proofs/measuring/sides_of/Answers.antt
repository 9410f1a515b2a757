-- `shares::measuring::sides_of` meets its contract. Assumes nothing.
use Rattle.shares.proofs.Measured.{sides_are}
use Rattle.shares.proofs.measuring.sides_of.Goals as goal

pub returns : goal.returns
returns c =
    let s = sides_are _ _ _ _ _ _ _ _ _ _ _ _ _ _ _ _ _ _ _ c.look_around-around.ensures.spans c.look_around-around.ensures.around c.spares.ensures c.spares-2.ensures c.side_of.ensures c.side_of-2.ensures c.side_of-3.ensures c.side_of-4.ensures in
    record { bottom_value = s.0; left_value = s.1.0; bottom_bound = s.1.1 }
