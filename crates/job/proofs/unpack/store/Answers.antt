-- `store` meets its contract: what is stored and what is still to be read give the whole. Assumes nothing.
use mathlib.Core.Path.{◌∙◌, refl, sym, ap}
use native.Mathlib.Omega.{arith}
use Rattle.number.specs.Number.{read_told}
use Rattle.figure.specs.Figure.{most_place}
use Rattle.job.proofs.Job.{value_read}
use Rattle.job.proofs.Unpacking.{no_fault, storing_start, storing_more, storing_never, storing_done}
use Rattle.job.proofs.unpack.store.Goals as goal

pub loop-place-init : goal.loop-place-init
loop-place-init c = storing_start _ _ _ _ c.requires.read

pub unwrap-read-requires : goal.unwrap-read-requires
unwrap-read-requires c =
    no_fault _ c.value.ensures (λ r p e. storing_never _ _ _ _ _ _ _ c.loop-place.invariant (omega arith) e)

pub overflow_cast-place : goal.overflow_cast-place
overflow_cast-place c =
    let told = sym (ap read_told c.unwrap-read.ensures) ∙ c.value.ensures in
    omega (arith, (value_read _ 0 most_place _ (sym told)).2)

pub loop-place-preserved : goal.loop-place-preserved
loop-place-preserved c =
    storing_more _ _ _ _ _ _ _ c.loop-place.invariant (omega arith) (sym (ap read_told c.unwrap-read.ensures) ∙ c.value.ensures)

pub returns : goal.returns
returns c =
    let all = storing_done _ _ _ _ _ _ _ c.loop-place.invariant (omega arith) refl c.requires.read in
    record { at_value = all.0; list_after = all.1 }
