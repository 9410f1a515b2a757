-- Both calls are settled: two outcomes that keep the promise of a call are equal, answer and lent memory. Assumes nothing.
--
--   write_settled, read-settled == for each call
use Prim.Native.Nat.{ℕ}
use mathlib.Core.Path.{◌≡◌, ◌∙◌, sym, ap}
use mathlib.Core.List.{List}
use Rattle.refusal.proofs.Refusals.{refusal-one, never}
use Rattle.cif.specs.Calls.{WriteSaid, cif_written, write_told, ReadSaid, ReadSays, read_told}
use Rattle.std.specs.Prelude.{Result, Ok, Err}
use Rattle.refusal.specs.declared.Refusal.{Refusal}
use Rattle.refusal.specs.declared.Fault.{Fault}
use Rattle.cif.proofs.Back.{read_one}

write_same : (u v : Result ℕ Refusal) (o p : List ℕ) → write_told u o ≡ write_told v p → (u ≡ v) × (o ≡ p)
write_same (Ok n) (Ok m) o p e =
    (ap (λ (k : ℕ). Ok k) (ap (λ (s : WriteSaid). s.bytes) e), ap (λ (s : WriteSaid). s.out) e)
write_same (Ok n) (Err r) o p e = absurd (never r (ap (λ (s : WriteSaid). s.number) e))
write_same (Err r) (Ok n) o p e = absurd (never r (sym (ap (λ (s : WriteSaid). s.number) e)))
write_same (Err r) (Err q) o p e =
    (ap (λ (w : Refusal). Err w) (refusal-one r q (ap (λ (s : WriteSaid). s.number) e)), ap (λ (s : WriteSaid). s.out) e)

pub write_settled : (l out : List ℕ) (u v : Result ℕ Refusal) (o p : List ℕ) → write_told u o ≡ cif_written l out → write_told v p ≡ cif_written l out
    → (u ≡ v) × (o ≡ p)
write_settled l out u v o p e f = write_same u v o p (e ∙ sym f)

fault_same : (f g : Fault) → f.why ≡ g.why → f.at ≡ g.at → f ≡ g
fault_same f g p q = λ i. record { why = p i; at = q i }

read_same : (u v : Result ℕ Fault) (l m : List ℕ) → read_told u l ≡ read_told v m → (u ≡ v) × (l ≡ m)
read_same (Ok n) (Ok k) l m e =
    (ap (λ (j : ℕ). Ok j) (ap (λ (s : ReadSaid). s.shots) e), ap (λ (s : ReadSaid). s.list) e)
read_same (Ok n) (Err f) l m e = absurd (never f.why (ap (λ (s : ReadSaid). s.number) e))
read_same (Err f) (Ok n) l m e = absurd (never f.why (sym (ap (λ (s : ReadSaid). s.number) e)))
read_same (Err f) (Err g) l m e = (
  ap (λ (h : Fault). Err h) (fault_same f g (refusal-one f.why g.why (ap (λ (s : ReadSaid). s.number) e)) (ap (λ (s : ReadSaid). s.offset) e)),
  ap (λ (s : ReadSaid). s.list) e,
)

pub read-settled : (s before : List ℕ) (u v : Result ℕ Fault) (l m : List ℕ) → ReadSays s before (read_told u l) → ReadSays s before (read_told v m)
    → (u ≡ v) × (l ≡ m)
read-settled s before u v l m e f = read_same u v l m (read_one s before (read_told u l) (read_told v m) e f)
