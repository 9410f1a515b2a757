-- The promise settles its call: two outcomes that satisfy it are equal, answer and lent memory. Assumes nothing.
--
--   save_settled     == for `save`
--   saved-fits, told-fits, told_held == no more bytes are written than the buffer has, and than it has then
use Prim.Native.Nat.{ℕ, ◌≤◌}
use mathlib.Core.Path.{◌≡◌, ◌∙◌, refl, sym, ap, ap₂}
use mathlib.Core.List.{List}
use mathlib.Core.Bool.{Bool, true, false, cond}
use native.Mathlib.Omega.{arith}
use lib.Dec.{leb, ltb}
use lib.ListN.{length, drop, length-append}
use borrow.Author.Tests.{leb-true}
use Rattle.refusal.specs.declared.Refusal.TheVariants.{Long, Room}
use Rattle.refusal.specs.Refusals.{refusal_no}
use Rattle.std.specs.Prelude.{Result, Ok, Err}
use Rattle.refusal.specs.declared.Fault.{Fault}
use Rattle.refusal.proofs.Refusals.{never}
use Rattle.number.specs.Reading.{Reading, read, fault}
use Rattle.job.specs.Job.{most_bytes, Header, header}
use Rattle.job.proofs.Settled.{same_fault}
use Rattle.saving.specs.declared.Saved.{Saved}
use Rattle.saving.specs.Salvage.{SaveSaid, unsaved, kept_from, saved_bytes, saved_by, saved, save_told}

save_one : (u v : Result Saved Fault) (l m : List ℕ) → save_told u l ≡ save_told v m → (u ≡ v) × (l ≡ m)
save_one (Ok a) (Ok b) l m e =
    let p = ap (λ (s : SaveSaid). s.bytes) e in
    let q = ap (λ (s : SaveSaid). s.kept) e in
    let y = ap (λ (s : SaveSaid). s.lost) e in
    let z = ap (λ (s : SaveSaid). s.dropped) e in (
      ap₂ (λ (v k : ℕ). Ok (record { bytes = v; kept = k; lost = a.lost; dropped = a.dropped })) p q
          ∙ ap₂ (λ (x d : ℕ). Ok (record { bytes = b.bytes; kept = b.kept; lost = x; dropped = d })) y z,
      ap (λ (s : SaveSaid). s.out) e,
    )
save_one (Ok a) (Err d) l m e = absurd (never d.why (ap (λ (s : SaveSaid). s.number) e))
save_one (Err d) (Ok a) l m e = absurd (never d.why (sym (ap (λ (s : SaveSaid). s.number) e)))
save_one (Err d) (Err d') l m e = (
  ap Err (same_fault d d' (ap (λ (s : SaveSaid). s.number) e) (ap (λ (s : SaveSaid). s.offset) e)),
  ap (λ (s : SaveSaid). s.out) e,
)

pub save_settled : (s out : List ℕ) (u v : Result Saved Fault) (l m : List ℕ) → save_told u l ≡ saved s out → save_told v m ≡ saved s out → (u ≡ v) × (l ≡ m)
save_settled s out u v l m e f = save_one u v l m (e ∙ sym f)

pub saved-fits : (s out : List ℕ) → (saved s out).bytes ≤ length out
unfolding saved
saved-fits s out = go (ltb most_bytes (length s)) (header s)
  where
    fits : (b : Bool) (u : SaveSaid) (n : ℕ) → leb n (length out) ≡ b → u.bytes ≡ n → (cond b u (unsaved (refusal_no Room) 0 out)).bytes ≤ length out
    fits true u n e f = omega (arith, leb-true n (length out) e, f)
    fits false u n e f = omega arith

    go : (a : Bool) (u : Reading Header) → (cond a (unsaved (refusal_no Long) 0 out) (saved_by s out u)).bytes ≤ length out
    go true u = omega arith
    go false (fault r o) = omega arith
    go false (read h first) =
        let n : ℕ = length (saved_bytes s h first (kept_from s h.count first)) in
        fits (leb n (length out)) _ n refl refl

pub told-fits : (s out after : List ℕ) {a : Saved} → save_told (Ok a) after ≡ saved s out → a.bytes ≤ length out
told-fits s out after e = omega (arith, saved-fits s out, ap (λ (v : SaveSaid). v.bytes) e)

saved_held : (s out : List ℕ) → (saved s out).bytes ≤ length (saved s out).out
unfolding saved
saved_held s out = go (ltb most_bytes (length s)) (header s)
  where
    fits : (b : Bool) (u : SaveSaid) → u.bytes ≤ length u.out
        → (cond b u (unsaved (refusal_no Room) 0 out)).bytes ≤ length (cond b u (unsaved (refusal_no Room) 0 out)).out
    fits true u e = e
    fits false u e = omega arith

    go : (a : Bool) (u : Reading Header)
        → (cond a (unsaved (refusal_no Long) 0 out) (saved_by s out u)).bytes ≤ length (cond a (unsaved (refusal_no Long) 0 out) (saved_by s out u)).out
    go true u = omega arith
    go false (fault r o) = omega arith
    go false (read h first) =
        let b : List ℕ = saved_bytes s h first (kept_from s h.count first) in
        fits (leb (length b) (length out)) _ (omega (arith, length-append b (drop (length b) out)))

pub told_held : (s out after : List ℕ) {a : Saved} → save_told (Ok a) after ≡ saved s out → a.bytes ≤ length after
told_held s out after e =
    omega (arith, saved_held s out, ap (λ (v : SaveSaid). v.bytes) e, ap (λ (v : SaveSaid). length v.out) e)
