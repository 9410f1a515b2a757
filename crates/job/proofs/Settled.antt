-- Each promise settles its call: two outcomes that satisfy it are equal, answer and lent memory. Assumes nothing.
--
--   same_fault       == a fault, by its number and its offset
--   SameTaken        == two answers to taking: parts of the same bytes, or the same fault
--   check_settled, take-settled, take_same, unpack_settled, header-settled, outline-settled == for each call of the crate
use Prim.Native.Nat.{ℕ}
use mathlib.Core.Path.{◌≡◌, ◌∙◌, refl, sym, ap, ap₂}
use mathlib.Core.List.{List}
use Rattle.std.specs.Prelude.{Result, Ok, Err}
use Rattle.std.specs.Borrow.{Bor}
use Rattle.refusal.specs.declared.Refusal.{Refusal}
use Rattle.refusal.specs.declared.Fault.{Fault}
use Rattle.refusal.specs.Refusals.{refusal_no}
use Rattle.refusal.proofs.Refusals.{refusal-one, never}
use Rattle.figure.specs.Figure.{Figure}
use Rattle.job.specs.declared.read.Job.{Job}
use Rattle.job.specs.declared.unpack.Unpacked.{Unpacked}
use Rattle.job.specs.Calls.{CheckSaid, checked, check_told, TakeSaid, taken, told, take_told, UnpackSaid, unpacked, unpack_told, WriteSaid, header_written, outline_written, write_told}

-- a fault, by its number and its offset
pub same_fault : (d e : Fault) → refusal_no d.why ≡ refusal_no e.why → d.at ≡ e.at → d ≡ e
same_fault d e p q = ap₂ (λ (r : Refusal) (at : ℕ). record { why = r; at = at }) (refusal-one d.why e.why p) q

check_one : (u v : Result Job Fault) → check_told u ≡ check_told v → u ≡ v
check_one (Ok j) (Ok k) e =
    let a : j.threshold ≡ k.threshold = ap (λ (s : CheckSaid). s.threshold) e in
    let b : j.weight ≡ k.weight = ap (λ (s : CheckSaid). s.weight) e in
    let c : j.outlines ≡ k.outlines = ap (λ (s : CheckSaid). s.outlines) e in
    ap₂ (λ (x y : ℕ). Ok (record { threshold = x; weight = y; outlines = j.outlines })) a b
    ∙ ap (λ (z : ℕ). Ok (record { threshold = k.threshold; weight = k.weight; outlines = z })) c
check_one (Ok j) (Err d) e = absurd (never d.why (ap (λ (s : CheckSaid). s.number) e))
check_one (Err d) (Ok j) e = absurd (never d.why (sym (ap (λ (s : CheckSaid). s.number) e)))
check_one (Err d) (Err d') e = ap Err (same_fault d d' (ap (λ (s : CheckSaid). s.number) e) (ap (λ (s : CheckSaid). s.offset) e))

pub check_settled : (s : List ℕ) (u v : Result Job Fault) → check_told u ≡ checked s → check_told v ≡ checked s → u ≡ v
check_settled s u v e f = check_one u v (e ∙ sym f)

-- of two answers: either both are a part, of the same bytes, or both are a refusal, for the same fault
abbrev pub SameTaken : Result (Bor (List ℕ)) Fault → Result (Bor (List ℕ)) Fault → Type 0
SameTaken (Ok p) (Ok q) = p.now ≡ q.now
SameTaken (Ok p) (Err e) = ⊥
SameTaken (Err d) (Ok q) = ⊥
SameTaken (Err d) (Err e) = d ≡ e

pub take_one : (u v : Result (Bor (List ℕ)) Fault) → take_told u ≡ take_told v → SameTaken u v
take_one (Ok p) (Ok q) e = ap (λ (s : TakeSaid). s.part) e
take_one (Ok p) (Err d) e = absurd (never d.why (ap (λ (s : TakeSaid). s.number) e))
take_one (Err d) (Ok p) e = absurd (never d.why (sym (ap (λ (s : TakeSaid). s.number) e)))
take_one (Err d) (Err d') e = same_fault d d' (ap (λ (s : TakeSaid). s.number) e) (ap (λ (s : TakeSaid). s.offset) e)

pub take_same : (s : List ℕ) (k : ℕ) (u v : Result (Bor (List ℕ)) Fault) → take_told u ≡ taken s k → take_told v ≡ taken s k → SameTaken u v
take_same s k u v e f = take_one u v (e ∙ sym f)

pub take-settled : (s : List ℕ) (k n at n' at' : ℕ) (l l' : List ℕ) → told n at l ≡ taken s k → told n' at' l' ≡ taken s k
    → (n ≡ n') × (at ≡ at') × (l ≡ l')
take-settled s k n at n' at' l l' e f =
    let g = e ∙ sym f in
    (ap (λ (s : TakeSaid). s.number) g, ap (λ (s : TakeSaid). s.offset) g, ap (λ (s : TakeSaid). s.part) g)

unpack_one : (u v : Result Unpacked Fault) (l m ns ms : List ℕ) → unpack_told u l ns ≡ unpack_told v m ms → u ≡ v
unpack_one (Ok u) (Ok v) l m ns ms e =
    ap₂ (λ (x y : ℕ). Ok (record { corners = x; rings = y })) (ap (λ (s : UnpackSaid). s.corners) e) (ap (λ (s : UnpackSaid). s.rings) e)
unpack_one (Ok u) (Err d) l m ns ms e = absurd (never d.why (ap (λ (s : UnpackSaid). s.number) e))
unpack_one (Err d) (Ok v) l m ns ms e = absurd (never d.why (sym (ap (λ (s : UnpackSaid). s.number) e)))
unpack_one (Err d) (Err d') l m ns ms e =
    ap Err (same_fault d d' (ap (λ (s : UnpackSaid). s.number) e) (ap (λ (s : UnpackSaid). s.offset) e))

-- an answer leaves both lists as it says
told-list : (u : Result Unpacked Fault) (l ns : List ℕ) → ((unpack_told u l ns).list ≡ l) × ((unpack_told u l ns).lengths ≡ ns)
told-list (Ok u) l ns = (refl, refl)
told-list (Err d) l ns = (refl, refl)

pub unpack_settled : (p l ns : List ℕ) (u v : Result Unpacked Fault) (m m' ms ms' : List ℕ) → unpack_told u m ms ≡ unpacked p l ns
    → unpack_told v m' ms' ≡ unpacked p l ns → (u ≡ v) × (m ≡ m') × (ms ≡ ms')
unpack_settled p l ns u v m m' ms ms' e f =
    let g = e ∙ sym f in
    let a = told-list u m ms in
    let b = told-list v m' ms' in (
      unpack_one u v m m' ms ms' g,
      sym a.0 ∙ ap (λ (s : UnpackSaid). s.list) g ∙ b.0,
      sym a.1 ∙ ap (λ (s : UnpackSaid). s.lengths) g ∙ b.1,
    )

write_one : (u v : Result ℕ Refusal) (o p : List ℕ) → write_told u o ≡ write_told v p → (u ≡ v) × (o ≡ p)
write_one (Ok n) (Ok n') o p e = (ap Ok (ap (λ (s : WriteSaid). s.bytes) e), ap (λ (s : WriteSaid). s.out) e)
write_one (Ok n) (Err r) o p e = absurd (never r (ap (λ (s : WriteSaid). s.number) e))
write_one (Err r) (Ok n) o p e = absurd (never r (sym (ap (λ (s : WriteSaid). s.number) e)))
write_one (Err r) (Err r') o p e =
    (ap Err (refusal-one r r' (ap (λ (s : WriteSaid). s.number) e)), ap (λ (s : WriteSaid). s.out) e)

pub header-settled : (t w k : ℕ) (out : List ℕ) (u v : Result ℕ Refusal) (o p : List ℕ)
    → write_told u o ≡ header_written t w k out → write_told v p ≡ header_written t w k out → (u ≡ v) × (o ≡ p)
header-settled t w k out u v o p e f = write_one u v o p (e ∙ sym f)

pub outline-settled : (f : Figure) (out : List ℕ) (u v : Result ℕ Refusal) (o p : List ℕ)
    → write_told u o ≡ outline_written f out → write_told v p ≡ outline_written f out → (u ≡ v) × (o ≡ p)
outline-settled f out u v o p e g = write_one u v o p (e ∙ sym g)
