-- `cif::writing::put_box` meets its contract: its parts are put one behind the other, and the room is that of the whole. Assumes nothing.
use mathlib.Core.Path.{ap}
use native.Mathlib.Omega.{arith}
use lib.ListN.{length}
use lib.Seq.{length-sets}
use Rattle.cif.proofs.Putting.{box-room, box-put, box-written}
use Rattle.cif.proofs.writing.put_box.Goals as goal

pub put_word-sides-requires : goal.put_word-sides-requires
put_word-sides-requires c = omega (arith, box-room c.doubled-n.ensures _ _ c.requires.y_high_in_bounds)

pub put_spaced-second-requires : goal.put_spaced-second-requires
put_spaced-second-requires c = (
  c.doubled-n.ensures.small.one,
  omega (arith, box-room c.doubled-n.ensures _ _ c.requires.y_high_in_bounds, c.put_word-sides.ensures.0, simp length-sets at (ap length c.put_word-sides.ensures.1)),
)

pub put_spaced-centre-requires : goal.put_spaced-centre-requires
put_spaced-centre-requires c = (
  c.doubled-n.ensures.small.two,
  omega (
    arith,
    box-room c.doubled-n.ensures _ _ c.requires.y_high_in_bounds,
    c.put_word-sides.ensures.0,
    simp length-sets at (ap length c.put_word-sides.ensures.1),
    c.put_spaced-second.ensures.0,
    simp length-sets at (ap length c.put_spaced-second.ensures.1),
  ),
)

pub put_spaced-fourth-requires : goal.put_spaced-fourth-requires
put_spaced-fourth-requires c = (
  c.doubled-n.ensures.small.three,
  omega (
    arith,
    box-room c.doubled-n.ensures _ _ c.requires.y_high_in_bounds,
    c.put_word-sides.ensures.0,
    simp length-sets at (ap length c.put_word-sides.ensures.1),
    c.put_spaced-second.ensures.0,
    simp length-sets at (ap length c.put_spaced-second.ensures.1),
    c.put_spaced-centre.ensures.0,
    simp length-sets at (ap length c.put_spaced-centre.ensures.1),
  ),
)

pub put_spaced-last-requires : goal.put_spaced-last-requires
put_spaced-last-requires c = (
  c.doubled-n.ensures.small.four,
  omega (
    arith,
    box-room c.doubled-n.ensures _ _ c.requires.y_high_in_bounds,
    c.put_word-sides.ensures.0,
    simp length-sets at (ap length c.put_word-sides.ensures.1),
    c.put_spaced-second.ensures.0,
    simp length-sets at (ap length c.put_spaced-second.ensures.1),
    c.put_spaced-centre.ensures.0,
    simp length-sets at (ap length c.put_spaced-centre.ensures.1),
    c.put_spaced-fourth.ensures.0,
    simp length-sets at (ap length c.put_spaced-fourth.ensures.1),
  ),
)

pub put_word-requires : goal.put_word-requires
put_word-requires c =
    omega (
      arith,
      box-room c.doubled-n.ensures _ _ c.requires.y_high_in_bounds,
      c.put_word-sides.ensures.0,
      simp length-sets at (ap length c.put_word-sides.ensures.1),
      c.put_spaced-second.ensures.0,
      simp length-sets at (ap length c.put_spaced-second.ensures.1),
      c.put_spaced-centre.ensures.0,
      simp length-sets at (ap length c.put_spaced-centre.ensures.1),
      c.put_spaced-fourth.ensures.0,
      simp length-sets at (ap length c.put_spaced-fourth.ensures.1),
      c.put_spaced-last.ensures.0,
      simp length-sets at (ap length c.put_spaced-last.ensures.1),
    )

pub returns : goal.returns
returns c =
    record {
      value = (box-written c.doubled-n.ensures _ _ _ _
          (box-put _ _ _ _ _ _ _ _ _ _ _ _ _ _ _ _ _ _ c.put_word-sides.ensures.0 c.put_word-sides.ensures.1 c.put_spaced-second.ensures.0
          c.put_spaced-second.ensures.1
          c.put_spaced-centre.ensures.0
          c.put_spaced-centre.ensures.1
          c.put_spaced-fourth.ensures.0
          c.put_spaced-fourth.ensures.1
          c.put_spaced-last.ensures.0
          c.put_spaced-last.ensures.1
          c.put_word.ensures.0
          c.put_word.ensures.1)).0;
      out_after = (box-written c.doubled-n.ensures _ _ _ _
          (box-put _ _ _ _ _ _ _ _ _ _ _ _ _ _ _ _ _ _ c.put_word-sides.ensures.0 c.put_word-sides.ensures.1 c.put_spaced-second.ensures.0
          c.put_spaced-second.ensures.1
          c.put_spaced-centre.ensures.0
          c.put_spaced-centre.ensures.1
          c.put_spaced-fourth.ensures.0
          c.put_spaced-fourth.ensures.1
          c.put_spaced-last.ensures.0
          c.put_spaced-last.ensures.1
          c.put_word.ensures.0
          c.put_word.ensures.1)).1;
    }
