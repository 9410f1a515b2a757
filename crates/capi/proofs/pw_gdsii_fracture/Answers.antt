-- `pw_gdsii_fracture` meets its contract: it lends on what the fracture of an element tells. Assumes nothing.
use Rattle.refusal.proofs.Refusals.{told_as}
use Rattle.capi.proofs.Lent.{renumbered, signed_lent}
use Rattle.gdsii.specs.Calls.{plate_told}
use Rattle.capi.specs.Lent.{plate_lent}
use lib.IntN.{pos}
use borrow.Author.Rules.{rules}
use Rattle.capi.proofs.pw_gdsii_fracture.Goals as goal

pub returns-in-Ok : goal.returns-in-Ok
returns-in-Ok c =
    let p = c.in-Ok.plate in
    record {
      settled = signed_lent
          (λ x y. plate_lent 0 p.shots p.cost p.sliver p.cuts x y 0 c.fracture_boundary.new.table c.fracture_boundary.new.list)
          {x = p.shift_x} {y = p.shift_y}
          (search rules)
          (search rules)
          (told_as (λ t. plate_told t c.fracture_boundary.new.table c.fracture_boundary.new.list) c.in-Ok.is c.fracture_boundary.ensures.settled);
    }

pub returns-in-Err : goal.returns-in-Err
returns-in-Err c =
    record {
      settled = renumbered
          (λ n. plate_lent n c.in-Err.none.needed 0 0 0 (pos 0) (pos 0) c.in-Err.none.at c.fracture_boundary.new.table c.fracture_boundary.new.list)
          c.from.ensures
          (told_as (λ t. plate_told t c.fracture_boundary.new.table c.fracture_boundary.new.list) c.in-Err.is c.fracture_boundary.ensures.settled);
    }
