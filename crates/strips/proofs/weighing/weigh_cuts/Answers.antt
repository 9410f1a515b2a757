-- `strips::weighing::weigh_cuts` meets its contract: the cuts below the line j are weighed. Assumes nothing.
use Prim.Native.Nat.{◌-◌}
use native.Mathlib.Omega.{arith}
use Rattle.table.proofs.Pairs.{row-most}
use Rattle.strips.proofs.Chunk.{cut-rows, row_fits, piece_fits, first-most, lower-first, lower-next, upper_first, upper-next, cuts-none, cuts_fit, cuts-more, cuts-all}
use Rattle.strips.proofs.weighing.weigh_cuts.Goals as goal

pub overflow_mul-lower : goal.overflow_mul-lower
overflow_mul-lower c = row_fits _ _ (omega (arith, first-most _ _ _ _ _ _ c.requires.weighable, c.requires.weighable.wide, c.requires.weighable.within, c.requires.weighable.columns-most)) c.requires.weighable.pairs-most

pub overflow_add-lower : goal.overflow_add-lower
overflow_add-lower c = piece_fits _ _ _ (omega (arith, first-most _ _ _ _ _ _ c.requires.weighable, c.requires.weighable.wide, c.requires.weighable.within, c.requires.weighable.columns-most)) c.requires.weighable.pairs-most (omega (arith, c.requires.n_in_bounds.1))

pub overflow_add-upper : goal.overflow_add-upper
overflow_add-upper c = omega (arith, first-most _ _ _ _ _ _ c.requires.weighable, c.requires.weighable.within, c.requires.weighable.columns-most)

pub overflow_add-upper-2 : goal.overflow_add-upper-2
overflow_add-upper-2 c = omega (arith, first-most _ _ _ _ _ _ c.requires.weighable, c.requires.weighable.within, c.requires.weighable.columns-most)

pub overflow_mul-upper : goal.overflow_mul-upper
overflow_mul-upper c = row_fits _ _ (omega (arith, first-most _ _ _ _ _ _ c.requires.weighable, c.requires.weighable.wide, c.requires.weighable.within, c.requires.weighable.columns-most)) c.requires.weighable.pairs-most

pub overflow_add-upper-3 : goal.overflow_add-upper-3
overflow_add-upper-3 c = piece_fits _ _ _ (omega (arith, first-most _ _ _ _ _ _ c.requires.weighable, c.requires.weighable.wide, c.requires.weighable.within, c.requires.weighable.columns-most)) c.requires.weighable.pairs-most (omega (arith, c.requires.n_in_bounds.1))

pub loop-j-init : goal.loop-j-init
loop-j-init c = (omega arith, (omega (arith, c.requires.weighable.wide), (lower-first _ _ _ _, (upper_first _ _ _ _ _ _ _ c.requires.weighable, cuts-none _ _ _ _ _ _ _ _))))

pub weigh_apart-requires : goal.weigh_apart-requires
weigh_apart-requires c = let r = cut-rows _ _ _ _ c.loop-j.j _ _ _ c.loop-j.lower c.loop-j.upper _ c.requires.weighable c.requires.n_in_bounds.1 c.loop-j.invariant.0 c.loop-j-test.true c.loop-j.invariant.1.1.0 c.loop-j.invariant.1.1.1.0 in record { n_in_bounds = (omega (arith, c.loop-j.invariant.1.1.1.1.long, c.requires.n_in_bounds.0), (r.lower-room, r.upper-room)); by_index = cuts_fit _ _ _ _ _ _ c.args.table.now c.args.best.now c.loop-j.j c.loop-j.lower c.loop-j.upper r.lower-at r.upper-at c.loop-j.invariant.0 c.loop-j-test.true c.requires.n_in_bounds.1 c.requires.weighable.fit }

pub overflow_add-lower-in-loop-j : goal.overflow_add-lower-in-loop-j
overflow_add-lower-in-loop-j c =
    let r = cut-rows _ _ _ _ c.loop-j.j _ _ _ c.loop-j.lower c.loop-j.upper _ c.requires.weighable c.requires.n_in_bounds.1 c.loop-j.invariant.0 c.loop-j-test.true c.loop-j.invariant.1.1.0 c.loop-j.invariant.1.1.1.0 in
    record { fits = omega (arith, r.lower-most, c.requires.weighable.pairs-most) }

pub overflow_add-upper-in-loop-j : goal.overflow_add-upper-in-loop-j
overflow_add-upper-in-loop-j c =
    let r = cut-rows _ _ _ _ c.loop-j.j _ _ _ c.loop-j.lower c.loop-j.upper _ c.requires.weighable c.requires.n_in_bounds.1 c.loop-j.invariant.0 c.loop-j-test.true c.loop-j.invariant.1.1.0 c.loop-j.invariant.1.1.1.0 in
    record { fits = omega (arith, r.upper-most, row-most (c.args.s.columns - c.loop-j.j - 1) c.args.s.pairs (omega (arith, c.requires.weighable.columns-most)) (omega (arith, c.requires.weighable.pairs-most))) }

pub loop-j-preserved : goal.loop-j-preserved
loop-j-preserved c =
    let r = cut-rows _ _ _ _ c.loop-j.j _ _ _ c.loop-j.lower c.loop-j.upper _ c.requires.weighable c.requires.n_in_bounds.1 c.loop-j.invariant.0 c.loop-j-test.true c.loop-j.invariant.1.1.0 c.loop-j.invariant.1.1.1.0 in (
      omega arith,
      (
        omega (arith, c.loop-j-test.true),
        (
          lower-next _ c.args.s.a c.loop-j.j _ _ c.loop-j.lower c.loop-j.invariant.0 c.loop-j.invariant.1.1.0,
          (
            upper-next _ _ _ c.loop-j.j _ c.loop-j.upper c.loop-j-test.true c.requires.weighable.within c.loop-j.invariant.1.1.1.0,
            cuts-more _ _ _ _ _ _ _ _ c.loop-j.j c.loop-j.lower c.loop-j.upper r.lower-at r.upper-at c.loop-j.best _ c.loop-j.invariant.0 c.weigh_apart.ensures c.loop-j.invariant.1.1.1.1,
          ),
        ),
      ),
    )

pub returns : goal.returns
returns c = cuts-all _ _ _ _ _ _ _ _ c.loop-j.j c.loop-j.best c.loop-j.invariant.1.0 c.loop-j-test.false c.loop-j.invariant.1.1.1.1
