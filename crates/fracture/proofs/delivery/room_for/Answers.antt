-- `fracture::delivery::room_for` meets its contract. Assumes nothing.
use native.Mathlib.Omega.{arith}
use Rattle.fracture.proofs.Delivered.{area-few, room-all, room_fits, room-short, count-written}
use Rattle.fracture.proofs.delivery.room_for.Goals as goal

pub overflow_mul-columns : goal.overflow_mul-columns
overflow_mul-columns m c = omega (arith, area-few _ _ _ _ _ _ c.requires.walk.costed)

pub overflow_mul-columns-2 : goal.overflow_mul-columns-2
overflow_mul-columns-2 m c = omega (arith, area-few _ _ _ _ _ _ c.requires.walk.costed)

pub returns-then-columns-rows : goal.returns-then-columns-rows
returns-then-columns-rows m c g r w = room-all _ g r _ _ _ w.costed _ c.requires.known.valid _ c.if-columns-rows.true

pub overflow_cast-result : goal.overflow_cast-result
overflow_cast-result m c = omega (arith, count-written _ (c.emit-end.ensures c.requires.grid c.requires.rule c.requires.walk), c.requires.fits)

pub returns-then-numbers-needed : goal.returns-then-numbers-needed
returns-then-numbers-needed m c g r w = room-short _ (count-written g (c.emit-end.ensures g r w)) c.if-numbers-needed.true

pub returns : goal.returns
returns m c g r w = room_fits _ (count-written g (c.emit-end.ensures g r w)) c.if-numbers-needed.false
