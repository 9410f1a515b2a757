-- `store_ring` meets its contract: V is read, and then the coordinates are stored. Assumes nothing.
use Prim.Native.Nat.{ℕ, ◌+◌, ◌-◌, ◌*◌}
use mathlib.Core.Path.{◌≡◌, ◌∙◌, sym, ap, subst}
use native.Mathlib.Omega.{arith}
use lib.ListN.{length, take, drop, length-take, length-drop}
use lib.Seq.{sets}
use Rattle.number.specs.Reading.{past}
use Rattle.number.specs.Number.{read_told}
use Rattle.job.specs.Job.{coordinates}
use Rattle.job.specs.Steps.{IsRead, values_of}
use Rattle.job.proofs.Job.{sized-read}
use Rattle.job.proofs.Unpacking.{no_fault, ring_never, ring-reads, ring-room, ring-long, ring-stored, part_stored}
use Rattle.job.proofs.unpack.store_ring.Goals as goal

pub unwrap-v-requires : goal.unwrap-v-requires
unwrap-v-requires c = no_fault _ c.value.ensures (λ r p e. ring_never _ _ _ c.requires.read e)

pub slice_bounds-store-end : goal.slice_bounds-store-end
slice_bounds-store-end c =
    let told = sym (ap read_told c.unwrap-v.ensures) ∙ c.value.ensures in
    ring-room _ _ _ c.requires.read told _ _ c.requires.at_in_bounds

pub store-end-requires : goal.store-end-requires
store-end-requires c =
    let told = sym (ap read_told c.unwrap-v.ensures) ∙ c.value.ensures in
    let n : ℕ = 2 * c.unwrap-v.result.value in
    let room = ring-room _ _ _ c.requires.read told _ _ c.requires.at_in_bounds in
    let size : n ≡ length (take (c.args.to + n - c.args.to) (drop c.args.to c.args.list.now)) =
    omega (arith, room, length-take (c.args.to + n - c.args.to) (drop c.args.to c.args.list.now), length-drop c.args.to c.args.list.now)
    in
    record { read = subst (λ k. IsRead (coordinates c.args.part.now k c.unwrap-v.result.next.at)) size (ring-reads _ _ _ c.requires.read told) }

pub returns : goal.returns
returns c =
    let told = sym (ap read_told c.unwrap-v.ensures) ∙ c.value.ensures in
    let n : ℕ = 2 * c.unwrap-v.result.value in
    let room = ring-room _ _ _ c.requires.read told _ _ c.requires.at_in_bounds in
    let size : n ≡ length (take (c.args.to + n - c.args.to) (drop c.args.to c.args.list.now)) =
    omega (arith, room, length-take (c.args.to + n - c.args.to) (drop c.args.to c.args.list.now), length-drop c.args.to c.args.list.now)
    in
    let stored = c.store-end.ensures.list_after ∙ ap (λ k. values_of (coordinates c.args.part.now k c.unwrap-v.result.next.at)) (sym size) in
    record {
      at_value = sized-read _ _ _ told
          (c.store-end.ensures.at_value ∙ ap (λ k. past (coordinates c.args.part.now k c.unwrap-v.result.next.at)) (sym size));
      list_after = part_stored _ _ _ n (ap length stored ∙ ring-long _ _ _ c.requires.read told) room
          ∙ ap (sets c.args.list.now c.args.to) stored
          ∙ ring-stored _ _ _ c.requires.read told _ _;
    }
