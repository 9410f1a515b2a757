-- To believe: what the two calls on a boundary element promise, the number, the values beside it and what the lent memory holds, for
-- all inputs. The order is 8 and 16 record by record, 17, 18, 2 to 5 by the figure, and then 14, or 6 and 7.
--
--   BoundarySaid             == what reading tells: number, corners, shift in x and y, offset, and the list afterwards
--   unread n at l            == refused by the number n: zeros beside it but for the offset, the list as it came in
--   handed ps l              == the corners at the front of the list, or 14 where it is too short for them
--   points_read l r           == the same of points that are read or not, 2 to 5 by their figure before 14
--   boundary_read s l         == reading the element s to the list l
--   PlateSaid                == what a fracture tells: number, shots, cost, sliver, cuts, shift in x and y, offset, and both buffers afterwards
--   unplated n shots at table list
--                            == refused by the number n, with the shots needed beside 7: zeros beside it but for the offset
--   fractured ps table list  == the fracture of the ring by preset 0, which is named here: no change of a default moves it
--   shift_beside n z          == a shift, 0 beside every refusal
--   plated_by ps o            == an outcome of that fracture, with the shift
--   points_fractured table list r == the same of points that are read or not
--   boundary_fractured s table list == fracturing the element s
--   boundary_told, plate_told  == the same for each case of an answer of the code, with the lent memory afterwards
use Rattle.std.specs.Prelude.{ℕ, cond, List, [], ◌∷◌, ltb, eqb, length, ℤ, pos, Result, Ok, Err}
use Rattle.refusal.specs.declared.Refusal.TheVariants as because
use Rattle.refusal.specs.Refusals.{refusal_no}
use Rattle.rule.specs.Rules.{preset_told}
use Rattle.figure.specs.declared.Axis.TheVariants.{X, Y}
use Rattle.outline.specs.Promise.{refusal}
use Rattle.piece.specs.declared.Mode.TheVariants.{Straight}
use Rattle.demands.specs.Promise.{asked, Outcome, outcome, written}
use Rattle.gdsii.specs.declared.Boundary.{Boundary}
use Rattle.gdsii.specs.declared.Plate.{Plate}
use Rattle.gdsii.specs.declared.Unplated.{Unplated}
use Rattle.refusal.specs.declared.Fault.{Fault}
use Rattle.number.specs.Reading.{Reading, read, fault}
use Rattle.gdsii.specs.Boundary.{Point, ring_of, moved, shift, figure_of, boundary}

-- read

pub record BoundarySaid : Type 0 where
  pub number : ℕ
  pub corners : ℕ
  pub shift-x : ℤ
  pub shift-y : ℤ
  pub offset : ℕ
  pub list : List ℕ

abbrev pub unread : ℕ → ℕ → List ℕ → BoundarySaid
unread n at l = record { number = n; corners = 0; shift-x = pos 0; shift-y = pos 0; offset = at; list = l }

unfoldable pub handed : List Point → List ℕ → BoundarySaid
handed ps l =
    cond (ltb (length l) (length (moved ps))) (unread (refusal_no because.Room) 0 l)
    (record {
      number = 0;
      corners = length (ring_of ps);
      shift-x = shift X ps;
      shift-y = shift Y ps;
      offset = 0;
      list = written (moved ps) l;
    })

abbrev pub points_read : List ℕ → Reading (List Point) → BoundarySaid
points_read l (read ps next) = cond (eqb (refusal (figure_of ps)) 0) (handed ps l) (unread (refusal (figure_of ps)) 0 l)
points_read l (fault r at) = unread (refusal_no r) at l

unfoldable pub boundary_read : List ℕ → List ℕ → BoundarySaid
boundary_read s l = points_read l (boundary s)

abbrev pub boundary_told : Result Boundary Fault → List ℕ → BoundarySaid
boundary_told (Ok b) l = record { number = 0; corners = b.corners; shift-x = b.shift_x; shift-y = b.shift_y; offset = 0; list = l }
boundary_told (Err f) l = unread (refusal_no f.why) f.at l

-- fracture

pub record PlateSaid : Type 0 where
  pub number : ℕ
  pub shots : ℕ
  pub cost : ℕ
  pub sliver : ℕ
  pub cuts : ℕ
  pub shift-x : ℤ
  pub shift-y : ℤ
  pub offset : ℕ
  pub table : List ℕ
  pub list : List ℕ

abbrev pub unplated : ℕ → ℕ → ℕ → List ℕ → List ℕ → PlateSaid
unplated n shots at table list =
    record {
      number = n;
      shots = shots;
      cost = 0;
      sliver = 0;
      cuts = 0;
      shift-x = pos 0;
      shift-y = pos 0;
      offset = at;
      table = table;
      list = list;
    }

unfoldable pub fractured : List Point → List ℕ → List ℕ → Outcome
fractured ps table list =
    outcome (asked Straight (moved ps) (length (ring_of ps) ∷ []) (preset_told 0).threshold (preset_told 0).weight table list)

abbrev pub shift_beside : ℕ → ℤ → ℤ
shift_beside n z = cond (eqb n 0) z (pos 0)

abbrev pub plated_by : List Point → Outcome → PlateSaid
plated_by ps o =
    record {
      number = o.number;
      shots = o.shots;
      cost = o.cost;
      sliver = o.sliver;
      cuts = o.cuts;
      shift-x = shift_beside o.number (shift X ps);
      shift-y = shift_beside o.number (shift Y ps);
      offset = 0;
      table = o.table;
      list = o.list;
    }

abbrev pub points_fractured : List ℕ → List ℕ → Reading (List Point) → PlateSaid
points_fractured table list (read ps next) = plated_by ps (fractured ps table list)
points_fractured table list (fault r at) = unplated (refusal_no r) 0 at table list

unfoldable pub boundary_fractured : List ℕ → List ℕ → List ℕ → PlateSaid
boundary_fractured s table list = points_fractured table list (boundary s)

abbrev pub plate_told : Result Plate Unplated → List ℕ → List ℕ → PlateSaid
plate_told (Ok p) table list =
    record {
      number = 0;
      shots = p.shots;
      cost = p.cost;
      sliver = p.sliver;
      cuts = p.cuts;
      shift-x = p.shift_x;
      shift-y = p.shift_y;
      offset = 0;
      table = table;
      list = list;
    }
plate_told (Err u) table list = unplated (refusal_no u.why) u.needed u.at table list
