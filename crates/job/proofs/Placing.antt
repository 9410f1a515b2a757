-- Laws of where the part lies that `take` hands back. Assumes nothing.
--
--   placed-fault, placed_missing, placed-part == where it starts, by `whole` and `located`
--   lies             == a part that starts there lies there
--   take-placed      == two parts that are handed back for the same figure point at the same byte
--   placed-apart     == the parts of two figures have no byte in common, the earlier stands in front, and none is empty: so the place of
--                       a part tells which figure it is, also among figures of equal bytes
use Prim.Native.Nat.{ℕ, zero, suc, ◌+◌, ◌<◌, ◌≤◌}
use mathlib.Core.Path.{◌≡◌, ◌∙◌, refl, sym, ap, subst}
use mathlib.Core.List.{List, [], ◌∷◌, ◌++◌}
use native.Mathlib.Nat.{le_of_suc-le-suc, not-suc-le-zero}
use native.Mathlib.Omega.{arith}
use lib.ListN.{length, get_or, length-append}
use borrow.Author.Tests.{lt-ltb, le-ltb}
use Rattle.refusal.specs.declared.Refusal.{Refusal}
use Rattle.sum.specs.Sum.{join}
use Rattle.number.specs.Reading.{read, fault, many}
use Rattle.number.specs.Number.{number_bytes}
use Rattle.number.proofs.Bytes.{AllBytes, stands-room, bytes-length}
use Rattle.number.proofs.Reading.{many-first, many-length, many-nth, many-onward}
use Rattle.job.specs.Bytes.{coordinate_bytes, header_bytes, ring_bytes, figure_bytes}
use Rattle.job.specs.Job.{Part, part, outlines, Header, Job, job}
use Rattle.job.specs.Steps.{whole, located}
use Rattle.job.specs.Calls.{no_part, TakeSaid, taken}
use Rattle.job.specs.Placed.{Lies, start_of, taken_at}
use Rattle.job.proofs.Job.{job-whole, part-read, outline-onward}
use Rattle.job.proofs.RoundTrip.{header-only, part-only, said-taken}
use Rattle.job.proofs.Calls.{fault-whole, read_whole, job-said, located-nth}

module _ (s : List ℕ) (k : ℕ) where
  pub placed-fault : {r : Refusal} {p : ℕ} → fault r p ≡ whole s → taken_at s k ≡ 0
  unfolding taken_at
  placed-fault e = ap (start_of k) (fault-whole s e)

  -- so many bytes past where the job's bytes begin, which is how a part's pointer is made
  pub lies : (b o start : ℕ) → taken_at s k ≡ start → Lies (b, start + o) (b, o) (taken_at s k)
  lies b o start e = (refl, omega (arith, e))

  module _ {h : Header} {next : ℕ} (e : read h next ≡ whole s) where
    pub placed_missing : h.count ≤ k → taken_at s k ≡ 0
    unfolding taken_at
    placed_missing c =
        let w = read_whole s e in
        let n = (job-said s w.2 w.3).2 in
        let p : start_of k (read w.0 w.1) ≡ 0 = simp (le-ltb k (length w.0.parts) (omega (arith, c, n))) in
        ap (start_of k) w.2 ∙ p

    pub placed-part : {start end : ℕ} → k < h.count → read start end ≡ located s k next → taken_at s k ≡ start
    unfolding taken_at
    placed-part {start} {end} c f =
        let n = located-nth s k e c in
        let j : Job = n.0 in
        let z = f ∙ n.4 in
        let a : start ≡ (get_or j.parts k no_part).start = cc in
        let p : start_of k (read j n.1) ≡ (get_or j.parts k no_part).start = simp (lt-ltb k (length j.parts) n.3) in
        ap (start_of k) n.2 ∙ p ∙ sym a

-- two parts that are handed back for the same figure point at the same byte
pub take-placed : (s : List ℕ) (k : ℕ) (job part other : ℕ × ℕ) → Lies part job (taken_at s k) → Lies other job (taken_at s k)
    → (part.0 ≡ other.0) × (part.1 ≡ other.1)
take-placed s k job part other p q = (p.0 ∙ sym q.0, p.1 ∙ sym q.1)

-- no figure has no bytes
number-some : (n : ℕ) (l : List ℕ) → 0 < length (number_bytes n ++ l)
number-some n l = omega (arith, (bytes-length n).0, length-append (number_bytes n) l)

figure-some : (ls : List (List ℕ)) → 0 < length (figure_bytes ls)
unfolding figure_bytes ring_bytes
figure-some [] = number-some 0 (number_bytes 0 ++ join ring_bytes [])
figure-some (l ∷ []) = number-some _ (coordinate_bytes l)
figure-some (l ∷ m ∷ ls) = number-some 0 (number_bytes (length (l ∷ m ∷ ls)) ++ join ring_bytes (l ∷ m ∷ ls))

-- the parts of a job stand one behind the other
module _ (s : List ℕ) where
  part-onward : (at : ℕ) (p : Part) (next : ℕ) → part s at ≡ read p next → (at ≤ next) × (next ≤ length s)
  part-onward at p next e = outline-onward s at (part-read s at e).0

  parts_from : (n at m : ℕ) {ps : List Part} {last : ℕ} → at ≤ length s → many (part s) n at ≡ read ps last → m < n
      → at ≤ (get_or ps m no_part).start
  parts_from n at m h e c =
      let i = many-nth (part s) n at m no_part e c in
      let o = many-onward (part s) (length s) part-onward m at h i.3 in
      omega (arith, o.0, (part-read s i.1 i.4).1)

  parts-apart : (n at k m : ℕ) {ps : List Part} {last : ℕ} → at ≤ length s → many (part s) n at ≡ read ps last → k < m → m < n
      → (get_or ps k no_part).end ≤ (get_or ps m no_part).start
  parts-apart zero at k m h e c d = absurd (not-suc-le-zero d)
  parts-apart (suc n) at k zero h e c d = absurd (not-suc-le-zero c)
  parts-apart (suc n) at zero (suc m) h e c d =
      let i = many-first (part s) n at e in
      let o = part-onward at i.0 i.1 i.3 in
      let b = parts_from n i.1 m o.1 i.4 (le_of_suc-le-suc d) in
      subst (λ (qs : List Part). (get_or qs 0 no_part).end ≤ (get_or qs (suc m) no_part).start) (sym i.5) (omega (arith, b, (part-read s at i.3).2))
  parts-apart (suc n) at (suc k) (suc m) h e c d =
      let i = many-first (part s) n at e in
      let o = part-onward at i.0 i.1 i.3 in
      subst (λ (qs : List Part). (get_or qs (suc k) no_part).end ≤ (get_or qs (suc m) no_part).start) (sym i.5)
      (parts-apart n i.1 k m o.1 i.4 (le_of_suc-le-suc c) (le_of_suc-le-suc d))

  module _ (bytes : AllBytes s) {j : Job} {last : ℕ} (e : job s ≡ read j last) where
    started : (k : ℕ) → k < length j.parts → taken_at s k ≡ (get_or j.parts k no_part).start
    unfolding taken_at
    started k h =
        let p : start_of k (read j last) ≡ (get_or j.parts k no_part).start = simp (lt-ltb k (length j.parts) h) in ap (start_of k) e ∙ p

    pub placed-apart : (k m : ℕ) → k < m → m < length j.parts
        → (0 < length (taken s k).part) × (taken_at s k + length (taken s k).part ≤ taken_at s m)
    unfolding outlines
    placed-apart k m c d =
        let w = job-whole s e in
        let h : Header = w.head in
        let H : List ℕ = header_bytes h.threshold h.weight h.count in
        let front = header-only s bytes w.header_is in
        let room = stands-room s 0 H front.0 in
        let n = many-length (part s) h.count w.first w.parts_are in
        let here = (part-only s bytes e k (omega (arith, c, d))).0.1 in
        let q : Part = get_or j.parts k no_part in
        let size = ap (λ (u : TakeSaid). length u.part) (said-taken s bytes e k (omega (arith, c, d))).0 in
        let apart = parts-apart h.count w.first k m (omega (arith, room, front.1)) w.parts_are c (omega (arith, d, n)) in (
          omega (arith, size, figure-some q.rings),
          omega (arith, size, here, apart, started k (omega (arith, c, d)), started m d),
        )
