-- Room that suffices for a text. Assumes nothing.
--
--   box-most         == the box line of a shot has at most 29 bytes
--   text_most        == the text of n shots has at most 28 + 29 n bytes
--   ample            == 6,553 bytes are enough for the text of any good list of up to 225 shots
use Prim.Native.Nat.{ℕ, ◌+◌, ◌*◌, ◌<◌, ◌≤◌}
use mathlib.Core.Path.{◌≡◌, ◌∙◌, sym, ap}
use mathlib.Core.Logic.{◌⊎◌, inl, inr}
use mathlib.Core.List.{List, [], ◌∷◌, ◌++◌}
use native.Mathlib.Omega.{arith}
use lib.ListN.{length, get_or, length-append}
use Rattle.sum.specs.Sum.{join, All}
use Rattle.sum.proofs.Sum.{le-or}
use Rattle.shot.specs.Shot.{Shot, shots_in}
use Rattle.shot.proofs.Shot.{numbers-length}
use Rattle.shot.proofs.Bad.{Good, shots-good, numbers-shots}
use Rattle.cif.specs.Text.{decimal, doubled_side, doubled_centre, box_line, finish, call, end, cif_text, Fit}
use Rattle.cif.specs.Calls.{cif_written}
use Rattle.cif.proofs.Decimal.{decimal-few, decimal-five}
use Rattle.cif.proofs.Putting.{box-length}
use Rattle.cif.proofs.Back.{fits}
use Rattle.cif.proofs.Exactly.{written_exactly}

-- a doubled side and its doubled centre have eleven digits at most: of a side from 50,000 nm on the centre has five
side-most : (low high : ℕ) → low < high → high ≤ 65535
    → length (decimal (doubled_side low high)) + length (decimal (doubled_centre low high)) ≤ 11
side-most low high h k = by (le-or 100000 (doubled_side low high))
  where
    by : (100000 ≤ doubled_side low high) ⊎ (doubled_side low high < 100000)
        → length (decimal (doubled_side low high)) + length (decimal (doubled_centre low high)) ≤ 11
    by (inl w) = omega (arith, decimal-few (doubled_side low high) (omega arith), decimal-five (doubled_centre low high) (omega arith))
    by (inr w) = omega (arith, decimal-five (doubled_side low high) w, decimal-few (doubled_centre low high) (omega arith))

pub box-most : (b : Shot) → Fit b → length (box_line b) ≤ 29
unfolding box_line
box-most b f =
    omega (
      arith,
      box-length (doubled_side b.xlow b.xhigh) (doubled_side b.ylow b.yhigh) (doubled_centre b.xlow b.xhigh) (doubled_centre b.ylow b.yhigh),
      side-most b.xlow b.xhigh f.wide f.right,
      side-most b.ylow b.yhigh f.high f.top,
    )

boxes-most : (l : List Shot) → All Fit l → length (join box_line l) ≤ 29 * length l
unfolding join
boxes-most [] f = omega arith
boxes-most (b ∷ l) f =
    omega (arith, length-append (box_line b) (join box_line l), box-most b f.0, boxes-most l f.1)

pub text_most : (l : List Shot) → All Fit l → length (cif_text l) ≤ 28 + 29 * length l
unfolding cif_text
text_most l f =
    omega (arith, length-append (join box_line l) (finish ++ (call ++ end)), boxes-most l f)

pub ample : (l out : List ℕ) → Good l → ((i : ℕ) → get_or l i 0 ≤ 65535) → length l ≤ 900 → 6553 ≤ length out → (cif_written l out).number ≡ 0
ample l out g w few h =
    let good = shots-good l g in
    let size : 4 * length (shots_in l) ≡ length l = sym (numbers-length (shots_in l)) ∙ ap length (numbers-shots l g.fours) in
    (written_exactly l out).1 (g, omega (arith, size, text_most (shots_in l) (fits l good w)))
