-- Each promise settles its call: two outcomes that satisfy it are equal, answer and lent memory. Assumes nothing.
--
--   open_settled, append-settled, remove_settled, pick_settled, pick_same, find_settled == for each call of the crate
use Prim.Native.Nat.{ℕ}
use mathlib.Core.Path.{◌≡◌, ◌∙◌, sym, ap, ap₂}
use mathlib.Core.List.{List}
use Rattle.std.specs.Prelude.{Result, Ok, Err}
use Rattle.std.specs.Borrow.{Bor}
use Rattle.refusal.specs.declared.Fault.{Fault}
use Rattle.refusal.proofs.Refusals.{never}
use Rattle.figure.specs.Figure.{Figure}
use Rattle.job.specs.Calls.{TakeSaid, told, take_told}
use Rattle.job.specs.Steps.{located_told}
use Rattle.job.specs.declared.read.Part.{Part}
use Rattle.job.proofs.Answers.{located-one}
use Rattle.job.proofs.Settled.{same_fault, SameTaken, take_one}
use Rattle.index.specs.declared.changing.Changed.{Changed}
use Rattle.index.specs.Index.{OpenSaid, opened, open_told, ChangeSaid, appended, removed, change_told, found, picked}
use Rattle.index.specs.Steps.{place_of}

open_one : (u v : Result ℕ Fault) (l m : List ℕ) → open_told u l ≡ open_told v m → (u ≡ v) × (l ≡ m)
open_one (Ok n) (Ok n') l m e = (ap Ok (ap (λ (s : OpenSaid). s.outlines) e), ap (λ (s : OpenSaid). s.index) e)
open_one (Ok n) (Err d) l m e = absurd (never d.why (ap (λ (s : OpenSaid). s.number) e))
open_one (Err d) (Ok n) l m e = absurd (never d.why (sym (ap (λ (s : OpenSaid). s.number) e)))
open_one (Err d) (Err d') l m e = (
  ap Err (same_fault d d' (ap (λ (s : OpenSaid). s.number) e) (ap (λ (s : OpenSaid). s.offset) e)),
  ap (λ (s : OpenSaid). s.index) e,
)

pub open_settled : (s index : List ℕ) (u v : Result ℕ Fault) (l m : List ℕ) → open_told u l ≡ opened s index → open_told v m ≡ opened s index
    → (u ≡ v) × (l ≡ m)
open_settled s index u v l m e f = open_one u v l m (e ∙ sym f)

change_one : (u v : Result Changed Fault) (l m o p : List ℕ) → change_told u l o ≡ change_told v m p → (u ≡ v) × (l ≡ m) × (o ≡ p)
change_one (Ok c) (Ok d) l m o p e = (
  ap₂ (λ (x y : ℕ). Ok (record { bytes = x; outlines = y })) (ap (λ (s : ChangeSaid). s.bytes) e) (ap (λ (s : ChangeSaid). s.outlines) e),
  ap (λ (s : ChangeSaid). s.index) e,
  ap (λ (s : ChangeSaid). s.out) e,
)
change_one (Ok c) (Err d) l m o p e = absurd (never d.why (ap (λ (s : ChangeSaid). s.number) e))
change_one (Err d) (Ok c) l m o p e = absurd (never d.why (sym (ap (λ (s : ChangeSaid). s.number) e)))
change_one (Err d) (Err d') l m o p e = (
  ap Err (same_fault d d' (ap (λ (s : ChangeSaid). s.number) e) (ap (λ (s : ChangeSaid). s.offset) e)),
  ap (λ (s : ChangeSaid). s.index) e,
  ap (λ (s : ChangeSaid). s.out) e,
)

pub append-settled : (s : List ℕ) (f : Figure) (index out : List ℕ) (u v : Result Changed Fault) (l m o p : List ℕ)
    → change_told u l o ≡ appended s f index out → change_told v m p ≡ appended s f index out → (u ≡ v) × (l ≡ m) × (o ≡ p)
append-settled s f index out u v l m o p e g = change_one u v l m o p (e ∙ sym g)

pub remove_settled : (s : List ℕ) (k : ℕ) (index out : List ℕ) (u v : Result Changed Fault) (l m o p : List ℕ)
    → change_told u l o ≡ removed s k index out → change_told v m p ≡ removed s k index out → (u ≡ v) × (l ≡ m) × (o ≡ p)
remove_settled s k index out u v l m o p e g = change_one u v l m o p (e ∙ sym g)

pub pick_settled : (s index : List ℕ) (c k n at n' at' : ℕ) (l l' : List ℕ) → told n at l ≡ picked s index c k → told n' at' l' ≡ picked s index c k
    → (n ≡ n') × (at ≡ at') × (l ≡ l')
pick_settled s index c k n at n' at' l l' e f =
    let g = e ∙ sym f in
    (ap (λ (s : TakeSaid). s.number) g, ap (λ (s : TakeSaid). s.offset) g, ap (λ (s : TakeSaid). s.part) g)

pub pick_same : (s index : List ℕ) (c k : ℕ) (u v : Result (Bor (List ℕ)) Fault) → take_told u ≡ picked s index c k
    → take_told v ≡ picked s index c k → SameTaken u v
pick_same s index c k u v e f = take_one u v (e ∙ sym f)

pub find_settled : (s index : List ℕ) (c k : ℕ) (u v : Result Part Fault) → located_told u ≡ place_of (found s index c k)
    → located_told v ≡ place_of (found s index c k) → u ≡ v
find_settled s index c k u v e f = located-one u v (e ∙ sym f)
