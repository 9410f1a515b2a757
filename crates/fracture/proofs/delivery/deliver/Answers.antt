-- `fracture::delivery::deliver` meets its contract. Assumes nothing.
use Rattle.std.specs.Prelude.{Err}
use mathlib.Core.Path.{◌≡◌}
use native.Mathlib.Omega.{arith}
use Rattle.fracture.proofs.Delivered.{walk-sized, count-written, frame-few-shots, frame-aside, frame-emittable, frame-within, frame-listed, frame_charged, walk-shaded, told_lacking, told-listed}
use Rattle.fracture.proofs.delivery.deliver.Goals as goal

pub frame_of-frame-requires : goal.frame_of-frame-requires
frame_of-frame-requires m c = walk-sized _ _ _ _ _ _ c.requires.walk.costed

pub room_for-requires : goal.room_for-requires
room_for-requires m c = frame-aside _ _ _ _ _ _ _ _ c.requires.walk _ c.frame_of-frame.ensures

pub emit-end-requires : goal.emit-end-requires
emit-end-requires m c =
    frame-emittable _ _ _ _ _ _ _ _ c.requires.walk _ c.frame_of-frame.ensures
    (c.in_ok-room_for.ensures c.requires.grid c.requires.rule c.requires.walk)

pub offset_bounds-costs-frame : goal.offset_bounds-costs-frame
offset_bounds-costs-frame m c = omega (arith, frame-within _ _ _ _ _ _ _ _ c.requires.walk _ c.frame_of-frame.ensures, c.well_formed.0)

pub bounds-costs-frame : goal.bounds-costs-frame
bounds-costs-frame m c = frame-within _ _ _ _ _ _ _ _ c.requires.walk _ c.frame_of-frame.ensures

pub slivers-sliver-requires : goal.slivers-sliver-requires
slivers-sliver-requires m c =
    let h = c.in_ok-room_for.ensures c.requires.grid c.requires.rule c.requires.walk in
    record {
      grid = c.requires.grid;
      shots = _;
      listed = frame-listed _ _ _ _ _ _ _ _ c.requires.walk _ c.frame_of-frame.ensures _ _ h (c.emit-end.ensures c.requires.grid c.requires.rule c.requires.walk);
      cost = frame_charged _ _ _ _ _ _ _ _ c.requires.walk _ c.frame_of-frame.ensures;
    }

pub cuts-cuts-requires : goal.cuts-cuts-requires
cuts-cuts-requires m c = record { grid = c.requires.grid; shaded = walk-shaded _ _ _ _ _ _ c.requires.walk.costed }

pub overflow_cast-result : goal.overflow_cast-result
overflow_cast-result m c =
    omega (
      arith,
      count-written _ (c.emit-end.ensures c.requires.grid c.requires.rule c.requires.walk),
      frame-few-shots _ _ _ _ _ _ _ _ c.requires.walk _ c.frame_of-frame.ensures,
    )

pub returns : goal.returns
returns m c g r w =
    let h = c.in_ok-room_for.ensures g r w in
    let v = c.emit-end.ensures g r w in
    told-listed _ _ _ _ _ _ _ _ w _ c.frame_of-frame.ensures _ _ h v
    (c.slivers-sliver.ensures g _ (frame-listed _ _ _ _ _ _ _ _ w _ c.frame_of-frame.ensures _ _ h v) (frame_charged _ _ _ _ _ _ _ _ w _ c.frame_of-frame.ensures))
    (c.cuts-cuts.ensures g (walk-shaded _ _ _ _ _ _ w.costed))

pub returns-in_err-room_for : goal.returns-in_err-room_for
returns-in_err-room_for m c g r w =
    let handed : c.from_residual.result ≡ Err c.in_err-room_for.field-0.0 = grind arith in
    rw handed (told_lacking _ _ _ _ _ _ _ _ w _ c.frame_of-frame.ensures _ (c.in_err-room_for.ensures g r w))
