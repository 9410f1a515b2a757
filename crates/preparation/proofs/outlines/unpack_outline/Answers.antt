-- `unpack_outline` leaves the figure that the job says at the front of the two lists: neither of its two calls is refused. Assumes nothing.
use Prim.Native.Nat.{ℕ}
use mathlib.Core.Path.{◌∙◌, sym, ap}
use mathlib.Core.List.{List}
use native.Mathlib.Omega.{arith}
use Rattle.number.proofs.Bytes.{AllBytes}
use Rattle.job.specs.Calls.{take_told}
use Rattle.preparation.proofs.Accepted.{ok_unless, taken-whole, refused_never, unpacked_fronts}
use Rattle.preparation.proofs.Opening.{picked-taken}
use Rattle.preparation.proofs.outlines.unpack_outline.Goals as goal

pub unwrap-part-requires : goal.unwrap-part-requires
unwrap-part-requires c =
    let s : List ℕ = c.args.job.now in
    let bytes : AllBytes s = λ i. omega (arith, c.shared_slice_known-1.given i) in
    let taking = picked-taken s c.args.index.now c.args.header.outlines c.args.k c.requires.admitted.entries c.pick.result c.pick.ensures.settled in
    taken-whole s c.args.header c.requires.admitted.sound bytes c.args.k c.requires.k_lt_outlines c.pick.result taking

pub unwrap-requires : goal.unwrap-requires
unwrap-requires c =
    let s : List ℕ = c.args.job.now in
    let bytes : AllBytes s = λ i. omega (arith, c.shared_slice_known-1.given i) in
    let taking = sym (ap take_told c.unwrap-part.ensures) ∙ picked-taken s c.args.index.now c.args.header.outlines c.args.k c.requires.admitted.entries c.pick.result c.pick.ensures.settled in
    ok_unless c.unpack.result (refused_never s c.args.header c.requires.admitted.sound bytes c.args.k c.requires.k_lt_outlines taking c.unpack.result _ _ _ _ c.unpack.ensures.settled c.requires.in_bounds.0 c.requires.in_bounds.1)

pub returns : goal.returns
returns c =
    let s : List ℕ = c.args.job.now in
    let bytes : AllBytes s = λ i. omega (arith, c.shared_slice_known-1.given i) in
    let taking = sym (ap take_told c.unwrap-part.ensures) ∙ picked-taken s c.args.index.now c.args.header.outlines c.args.k c.requires.admitted.entries c.pick.result c.pick.ensures.settled in
    unpacked_fronts s c.args.header c.requires.admitted.sound bytes c.args.k c.requires.k_lt_outlines taking c.unpack.result _ _ _ _ c.unpack.ensures.settled c.requires.in_bounds.0 c.requires.in_bounds.1 _ c.unwrap.ensures
