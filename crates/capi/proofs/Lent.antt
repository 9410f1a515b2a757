-- Laws of the promises said of lent numbers. Assumes nothing.
--
--   refused_lent      == a fault said by its number and its place, where both are known
--   renumbered        == a refusal said by its number, where the number is known
--   outline-fault     == a job that is refused as a whole refuses outline k
--   outline_missing   == 13, for k not below the count of a sound job
--   outline-part      == where outline k of a sound job stands
--   signed_lent       == two signed numbers that are lent on as they are, read back from their bits
--   pairing_lent      == a pairing's answer, said by its number and its flashes
use Prim.Native.Nat.{ℕ, ◌-◌, ◌<◌, ◌≤◌}
use mathlib.Core.Path.{◌≡◌, refl, ◌∙◌, sym, ap, ap₂}
use mathlib.Core.List.{List}
use native.Mathlib.Omega.{arith}
use lib.ListN.{length, get_or}
use borrow.Author.Tests.{le-ltb, lt-ltb}
use lib.IntN.{ℤ}
use mir.Syntax.{w32}
use mir.Val.{SFits, to_z, of_z}
use mir.ValLaws.{to_z-of_z}
use Rattle.std.specs.Prelude.{Result, Ok, Err}
use Rattle.refusal.specs.declared.Refusal.{Refusal}
use Rattle.refusal.specs.Refusals.{refusal_no}
use Rattle.number.specs.Reading.{read, fault}
use Rattle.job.specs.Job.{Header, Job, job}
use Rattle.job.specs.Steps.{whole, located}
use Rattle.job.specs.Calls.{no_part}
use Rattle.job.proofs.Calls.{fault-whole, read_whole, job-said, located-nth}
use Rattle.join.specs.declared.Joined.{Joined}
use Rattle.join.specs.Join.{join_lent, join_told, Promise}
use Rattle.capi.specs.Lent.{outline_lent, job_part, part_said, outline_said, flashes_of, pairing_no}

pub renumbered : {A : Type 0} (said : ℕ → A) {n m : ℕ} {b : A} → n ≡ m → said m ≡ b → said n ≡ b
renumbered said e f = ap said e ∙ f

pub refused_lent : {A : Type 0} (said : ℕ → ℕ → A) {n m p q : ℕ} {b : A} → n ≡ m → p ≡ q → said m q ≡ b → said n p ≡ b
refused_lent said e f g = ap₂ said e f ∙ g

pub signed_lent : {A : Type 0} (said : ℤ → ℤ → A) {x y : ℤ} {b : A} → SFits w32 x → SFits w32 y → said x y ≡ b
    → said (to_z w32 (of_z w32 x)) (to_z w32 (of_z w32 y)) ≡ b
signed_lent said {x} {y} f g e = ap₂ said (to_z-of_z w32 x f) (to_z-of_z w32 y g) ∙ e

told_lent : (answer : Result ℕ Refusal) (u : List Joined) → join_told answer u ≡ join_lent (pairing_no answer) (flashes_of answer) u
told_lent (Ok n) u = refl
told_lent (Err why) u = refl

pub pairing_lent : (l : List ℕ) (t u : List Joined) (answer : Result ℕ Refusal) (n f : ℕ) → Promise l t (join_told answer u) → f ≡ flashes_of answer → n ≡ pairing_no answer
    → Promise l t (join_lent n f u)
pairing_lent l t u answer n f p e g = simp (e, g) (rw (sym (told_lent answer u)) p)

module _ (s : List ℕ) (k : ℕ) where
  pub outline-fault : {r : Refusal} {p n : ℕ} → fault r p ≡ whole s → n ≡ refusal_no r → outline_lent n 0 0 p ≡ outline_said s k
  unfolding outline_said
  outline-fault {r} {p} e f = ap (λ n. outline_lent n 0 0 p) f ∙ sym (ap (job_part k) (fault-whole s e))

  module _ {h : Header} {next : ℕ} (e : read h next ≡ whole s) where
    pub outline_missing : {n : ℕ} → h.count ≤ k → n ≡ 13 → outline_lent n 0 0 0 ≡ outline_said s k
    unfolding outline_said
    outline_missing c is =
        let w = read_whole s e in
        let j = job-said s w.2 w.3 in
        let p : outline_lent 13 0 0 0 ≡ job_part k (read w.0 w.1) = simp (le-ltb k (length w.0.parts) (omega arith)) in
        ap (λ n. outline_lent n 0 0 0) is ∙ p ∙ sym (ap (job_part k) w.2)

    pub outline-part : {start end : ℕ} → k < h.count → read start end ≡ located s k next
        → outline_lent 0 start (end - start) 0 ≡ outline_said s k
    unfolding outline_said
    outline-part {start} {end} c f = go (located-nth s k e c)
      where
        go : (j : Job) × (last : ℕ) × (job s ≡ read j last) × (k < length j.parts)
            × (located s k next ≡ read (get_or j.parts k no_part).start (get_or j.parts k no_part).end)
            → outline_lent 0 start (end - start) 0 ≡ job_part k (job s)
        go (j, last, q, room, g) =
            let z = f ∙ g in
            let a : start ≡ (get_or j.parts k no_part).start = cc in
            let b : end ≡ (get_or j.parts k no_part).end = cc in
            let p : part_said (get_or j.parts k no_part) ≡ job_part k (read j last) = simp lt-ltb in
            ap₂ (λ x y. outline_lent 0 x (y - x) 0) a b ∙ p ∙ sym (ap (job_part k) q)
