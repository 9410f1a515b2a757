-- Laws of how the run of a job ends. Assumes nothing.
--
--   any-more          == one outline more, and whether one was refused
--   status-refused    == the status of a job that is refused
--   status-accepted   == the status of a job that is accepted, by whether an outline was refused
--   ends-refused, ends-accepted   == how the program ends after a job of either sort
use Prim.Native.Nat.{ℕ, ◌+◌}
use mathlib.Core.Path.{◌≡◌, sym, ◌∙◌, ap, ap₂}
use mathlib.Core.Logic.{◌⊎◌, inl, inr, ⊎_elim}
use mathlib.Core.Bool.{Bool, true, cond, ◌||◌}
use mathlib.Core.List.{List}
use native.Mathlib.Numerals.{add-one}
use native.Mathlib.Omega.{arith}
use lib.Dec.{eqb}
use borrow.Author.Tests.{ne_eqb}
use Rattle.refusal.specs.declared.Refusal.{Refusal}
use Rattle.refusal.specs.Refusals.{refusal_no}
use Rattle.refusal.proofs.Refusals.{refusal-some}
use Rattle.job.specs.Calls.{CheckSaid, checked}
use Rattle.job.specs.declared.read.Job.{Job as Header}
use Rattle.terminal.specs.declared.output.Output.{Output}
use Rattle.preparation.specs.Outlines.{Sound, is_refused, any_refused}
use Rattle.preparation.specs.Status.{status, Ends}

pub any-more : (s : List ℕ) (k : ℕ) {a b r : Bool} → a ≡ any_refused s k → b ≡ is_refused s k → r ≡ (a || b) → r ≡ any_refused s (k + 1)
unfolding any_refused
any-more s k e f g = g ∙ ap₂ (λ (x y : Bool). x || y) e f ∙ ap (any_refused s) (sym (add-one k))

-- the status of each sort of check
abbrev by_check : List ℕ → CheckSaid → ℕ
by_check s u = cond (eqb u.number 0) (cond (any_refused s u.outlines) 1 0) 1

pub status-refused : (s : List ℕ) (r : Refusal) {at : ℕ}
    → record { number = refusal_no r; threshold = 0; weight = 0; outlines = 0; offset = at } ≡ checked s → 1 ≡ status s
unfolding status
status-refused s r e =
    let some = refusal-some r in
    sym (ap (λ (b : Bool). cond b (cond (any_refused s 0) 1 0) 1) (ne_eqb (refusal_no r) 0 (λ z. omega arith))) ∙ ap (by_check s) e

pub status-accepted : (s : List ℕ) (h : Header) (b : Bool) → Sound s h → b ≡ any_refused s h.outlines → cond b 1 0 ≡ status s
unfolding status
status-accepted s h b e f = ap (λ (a : Bool). cond a 1 0) f ∙ sym (ap (by_check s) e)

pub ends-refused : (s : List ℕ) (r : Refusal) (at : ℕ) (out : Output) {n : ℕ}
    → record { number = refusal_no r; threshold = 0; weight = 0; outlines = 0; offset = at } ≡ checked s → Ends out true n
    → (n ≡ 2) ⊎ (n ≡ status s)
ends-refused s r at out e ends = ⊎_elim inl (λ f. inr (f ∙ status-refused s r e)) ends.ended

pub ends-accepted : (s : List ℕ) (h : Header) (out : Output) (b : Bool) {n : ℕ} → Sound s h
    → (out.failed ≡ true) ⊎ (b ≡ any_refused s h.outlines) → Ends out b n → (n ≡ 2) ⊎ (n ≡ status s)
ends-accepted s h out b sound ran ends =
    ⊎_elim (λ f. inl (ends.failed f))
    (λ e. ⊎_elim inl (λ f. inr (f ∙ status-accepted s h b sound e)) ends.ended)
    ran
