-- What the public steps of reading promise settles them too: two answers that tell the same are the same. Assumes nothing.
--
--   head-settled     == the header of a job with the place of its first figure, or its first fault: one answer
--   whole-settled    == the header of a sound job with the place of its first figure, or the first fault: one answer
--   locate_settled   == where figure k starts and ends, also among figures of equal bytes: one answer
use Prim.Native.Nat.{ℕ}
use mathlib.Core.Path.{◌≡◌, ◌∙◌, sym, ap, ap₂}
use mathlib.Core.List.{List}
use Rattle.std.specs.Prelude.{Result, Ok, Err}
use Rattle.refusal.specs.declared.Fault.{Fault}
use Rattle.number.proofs.Number.{apart, fault_one}
use Rattle.job.specs.Job.{Header, header}
use Rattle.job.specs.Steps.{head_told, located_told, whole, located}
use Rattle.job.specs.declared.Header.{Header as Head}
use Rattle.job.specs.declared.read.Part.{Part}

head-one : (u v : Result Head Fault) → head_told u ≡ head_told v → u ≡ v
head-one (Ok g) (Ok h) e =
    let made : ℕ → ℕ → ℕ → Header = λ x y z. record { threshold = x; weight = y; count = z } in
    let same : made g.threshold g.weight g.outlines ≡ made h.threshold h.weight h.outlines = cc in
    let a : g.threshold ≡ h.threshold = ap (λ (k : Header). k.threshold) same in
    let b : g.weight ≡ h.weight = ap (λ (k : Header). k.weight) same in
    let d : g.outlines ≡ h.outlines = ap (λ (k : Header). k.count) same in
    let q : g.next.at ≡ h.next.at = cc in
    ap₂ (λ (x y : ℕ). Ok (record { threshold = x; weight = y; outlines = g.outlines; next = g.next })) a b
    ∙ ap₂ (λ (z p : ℕ). Ok (record { threshold = h.threshold; weight = h.weight; outlines = z; next = record { at = p } })) d q
head-one (Ok h) (Err d) e = absurd (apart e)
head-one (Err d) (Ok h) e = absurd (apart (sym e))
head-one (Err d) (Err d') e = ap Err (fault_one d d' e)

pub located-one : (u v : Result Part Fault) → located_told u ≡ located_told v → u ≡ v
located-one (Ok p) (Ok q) e =
    let a : p.start ≡ q.start = cc in
    let b : p.end ≡ q.end = cc in
    ap₂ (λ (x y : ℕ). Ok (record { start = x; end = y })) a b
located-one (Ok p) (Err d) e = absurd (apart e)
located-one (Err d) (Ok p) e = absurd (apart (sym e))
located-one (Err d) (Err d') e = ap Err (fault_one d d' e)

pub head-settled : (s : List ℕ) (u v : Result Head Fault) → head_told u ≡ header s → head_told v ≡ header s → u ≡ v
head-settled s u v e f = head-one u v (e ∙ sym f)

pub whole-settled : (s : List ℕ) (u v : Result Head Fault) → head_told u ≡ whole s → head_told v ≡ whole s → u ≡ v
whole-settled s u v e f = head-one u v (e ∙ sym f)

pub locate_settled : (s : List ℕ) (k at : ℕ) (u v : Result Part Fault) → located_told u ≡ located s k at → located_told v ≡ located s k at → u ≡ v
locate_settled s k at u v e f = located-one u v (e ∙ sym f)
