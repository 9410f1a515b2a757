-- `run_outline` says that the outline is refused exactly where its figure is: its room is ample. Assumes nothing.
use Prim.Native.Nat.{ℕ}
use mathlib.Core.List.{List}
use mathlib.Core.Path.{◌∙◌}
use native.Mathlib.Omega.{arith}
use Rattle.number.proofs.Bytes.{AllBytes}
use Rattle.preparation.specs.Outlines.{is_refused}
use Rattle.preparation.proofs.Accepted.{sound-accepted, figure_words}
use Rattle.preparation.proofs.Fracturing.{told-listed, told-refused}
use Rattle.preparation.proofs.outlines.run_outline.Goals as goal

pub print_listed_outline-requires : goal.print_listed_outline-requires
print_listed_outline-requires c = told-listed _ c.fracture_outline-answer.result _ _ c.fracture_outline-answer.ensures

pub returns : goal.returns
unfolding is_refused
returns c =
    let s : List ℕ = c.args.job.now in
    let bytes : AllBytes s = λ i. omega (arith, c.shared_slice_known-1.given i) in
    let words = figure_words s c.args.header c.requires.admitted.sound bytes c.args.k c.requires.k_lt_outlines in
    let range = (sound-accepted s c.args.header c.requires.admitted.sound).range in record {
      refused_value = c.is_err.ensures.value
          ∙ told-refused _ range words c.requires.in_bounds.0 c.requires.in_bounds.1 c.fracture_outline-answer.result _ _ c.fracture_outline-answer.ensures;
      remembers = c.print_listed_outline.ensures;
    }
