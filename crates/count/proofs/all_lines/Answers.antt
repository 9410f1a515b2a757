-- `count::all_lines` meets its contract. Assumes nothing.
use Prim.Native.Nat.{◌*◌, ◌+◌, ◌-◌, ◌≤◌}
use native.Mathlib.Omega.{arith}
use native.Mathlib.Nat.{mul-le-mul}
use Rattle.count.proofs.Climbing.{lines_thirds}
use Rattle.count.proofs.all_lines.Goals as goal

pub overflow_mul-lines : goal.overflow_mul-lines
overflow_mul-lines c =
    let pairs : c.pair_count-across.result * c.pair_count-upright.result ≤ 50625 = mul-le-mul {n₂ = 225} {m₂ = 225} c.pair_count-across.ensures.1 c.pair_count-upright.ensures.1 in
    omega (arith, pairs)

pub overflow_mul-lines-2 : goal.overflow_mul-lines-2
overflow_mul-lines-2 c =
    let pairs : c.pair_count-across.result * c.pair_count-upright.result ≤ 50625 = mul-le-mul {n₂ = 225} {m₂ = 225} c.pair_count-across.ensures.1 c.pair_count-upright.ensures.1 in
    let product : c.pair_count-across.result * c.pair_count-upright.result * (c.args.columns + c.args.rows - 2) ≤ 1417500 = mul-le-mul {n₂ = 50625} {m₂ = 28} (pairs) (omega (arith, c.requires.0.1, c.requires.1.1)) in
    omega (arith, product)

pub overflow_cast-result : goal.overflow_cast-result
overflow_cast-result c =
    let pairs : c.pair_count-across.result * c.pair_count-upright.result ≤ 50625 = mul-le-mul {n₂ = 225} {m₂ = 225} c.pair_count-across.ensures.1 c.pair_count-upright.ensures.1 in
    let product : c.pair_count-across.result * c.pair_count-upright.result * (c.args.columns + c.args.rows - 2) ≤ 1417500 = mul-le-mul {n₂ = 50625} {m₂ = 28} (pairs) (omega (arith, c.requires.0.1, c.requires.1.1)) in
    omega (arith, product)

pub returns : goal.returns
returns c = (lines_thirds _ _ _ _ c.pair_count-across.ensures.0 c.pair_count-upright.ensures.0 c.requires.0.0 c.requires.1.0)
