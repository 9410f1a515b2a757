-- `pw_gdsii_read` meets its contract: it lends on what reading an element tells. Assumes nothing.
use Rattle.refusal.proofs.Refusals.{told_as}
use Rattle.capi.proofs.Lent.{refused_lent, signed_lent}
use Rattle.gdsii.specs.Calls.{boundary_told}
use Rattle.capi.specs.Lent.{boundary_lent}
use lib.IntN.{pos}
use borrow.Author.Rules.{rules}
use Rattle.capi.proofs.pw_gdsii_read.Goals as goal

pub returns-in-Ok : goal.returns-in-Ok
returns-in-Ok c =
    record {
      settled = signed_lent (λ x y. boundary_lent 0 c.in-Ok.boundary.corners x y 0 c.read_boundary.new.list)
          {x = c.in-Ok.boundary.shift_x} {y = c.in-Ok.boundary.shift_y}
          (search rules)
          (search rules)
          (told_as (λ t. boundary_told t c.read_boundary.new.list) c.in-Ok.is c.read_boundary.ensures.settled);
    }

pub returns-in-Err : goal.returns-in-Err
returns-in-Err c =
    record {
      settled = refused_lent (λ n p. boundary_lent n 0 (pos 0) (pos 0) p c.read_boundary.new.list) c.refuse.ensures.number c.refuse.ensures.place
          (told_as (λ t. boundary_told t c.read_boundary.new.list) c.in-Err.is c.read_boundary.ensures.settled);
    }
