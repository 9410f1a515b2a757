-- Where an outline lies, whatever its number. Assumes nothing.
--
--   found_within     == an outline that is found lies behind where the outlines begin, and within the bytes
use Prim.Native.Nat.{ℕ, ◌≤◌}
use mathlib.Core.Path.{◌≡◌, sym}
use mathlib.Core.List.{List}
use native.Mathlib.Omega.{arith}
use lib.ListN.{length}
use Rattle.number.specs.Reading.{read, and_then}
use Rattle.number.proofs.Reading.{then_inv, many-onward}
use Rattle.job.specs.Job.{part, outline, outlines}
use Rattle.job.specs.Steps.{located}
use Rattle.job.proofs.Job.{part-read, outline-onward}
use Rattle.job.proofs.Calls.{located-within}

pub found_within : (s : List ℕ) (k at : ℕ) {start end : ℕ} → at ≤ length s → read start end ≡ located s k at
    → (at ≤ start) × (start ≤ length s) × (end ≤ length s)
unfolding located outlines
found_within s k at {start} h e =
    let i = then_inv (λ ps start. and_then (outline s start) (λ l end. read start end)) (outlines s k at) (sym e) in
    let j = then_inv (λ l end. read i.1 end) (outline s i.1) i.3 in
    let o = many-onward (part s) (length s) (λ at p next r. outline-onward s at (part-read s at r).0) k at h i.2 in
    let a : i.1 ≡ start = cc in
    omega (arith, o, located-within s k at e)
