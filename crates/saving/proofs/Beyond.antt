-- Behind what is written everything is as it came in, place by place. Assumes nothing.
--
--   SaveKept out u   == what saving leaves of a buffer: the places behind the bytes written are as they came in; and a job that is saved has
--                       the offset 0 beside it
--   save_beyond      == that holds of `save`
use Prim.Native.Nat.{ℕ, ◌≤◌}
use mathlib.Core.Path.{◌≡◌, refl}
use mathlib.Core.List.{List}
use native.Mathlib.Omega.{arith}
use lib.Dec.{leb, ltb}
use lib.ListN.{length, get_or}
use Rattle.refusal.specs.declared.Refusal.{Refusal}
use Rattle.refusal.specs.declared.Refusal.TheVariants.{Long, Room}
use Rattle.refusal.specs.Refusals.{refusal_no}
use Rattle.refusal.proofs.Refusals.{refusal-some}
use Rattle.number.specs.Reading.{Reading, read, fault}
use Rattle.number.proofs.Number.{cond_cases}
use Rattle.job.specs.Job.{most_bytes, Header, header}
use Rattle.job.proofs.Beyond.{written-beyond}
use Rattle.saving.specs.Salvage.{SaveSaid, kept_from, saved_bytes, unsaved, saved_by, saved}

pub record SaveKept (out : List ℕ) (u : SaveSaid) : Type 0 where
  pub beyond : (i d : ℕ) → u.bytes ≤ i → get_or u.out i d ≡ get_or out i d
  pub done : u.number ≡ 0 → u.offset ≡ 0

pub save_beyond : (s out : List ℕ) → SaveKept out (saved s out)
unfolding saved
save_beyond s out = cond_cases (SaveKept out) (ltb most_bytes (length s)) _ _ (λ e. no Long 0) (λ e. go (header s))
  where
    no : (r : Refusal) (at : ℕ) → SaveKept out (unsaved (refusal_no r) at out)
    no r at = record { beyond = λ i d h. refl; done = λ e. absurd (omega (arith, refusal-some r, e)) }

    go : (u : Reading Header) → SaveKept out (saved_by s out u)
    go (fault r at) = no r at
    go (read h first) =
        let b : List ℕ = saved_bytes s h first (kept_from s h.count first) in
        cond_cases (SaveKept out) (leb (length b) (length out)) _ _
        (λ e. record { beyond = written-beyond b out; done = λ z. refl })
        (λ e. no Room 0)
