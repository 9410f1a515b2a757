-- Every fault of a job shows the byte at fault, whichever number it is of. Assumes nothing.
--
--   Shown s r p      == what byte the place p of the bytes s is, where they are refused by r
--   ShownBy s u      == a reading of the bytes s shows that byte where it finds a fault
--   then-shown, many-shown == readings one after another do, where each does
--   filled-shown     == so does reading to the end of the bytes
--   job_byte         == the fault of a job shows the byte at fault: 8 the end of the bytes, 9 a zero byte, 10 the last byte of its number,
--                       11 the first byte too many, 12 nothing but 0
--   part_byte        == so does the fault of a part that is unpacked, of the part's own bytes
use Prim.Native.Nat.{ℕ, zero, suc, ◌+◌, ◌*◌, ◌<◌, ◌≤◌}
use mathlib.Core.Path.{◌≡◌, sym, subst}
use mathlib.Core.Logic.{inl, inr}
use mathlib.Core.List.{List}
use native.Mathlib.Omega.{arith}
use lib.Dec.{ltb}
use lib.ListN.{length, get_or}
use borrow.Author.Tests.{ltb-true}
use Rattle.refusal.specs.declared.Refusal.{Refusal}
use Rattle.refusal.specs.declared.Refusal.TheVariants as because
use Rattle.rule.specs.Rules.{limit}
use Rattle.figure.specs.Figure.{least_corners, most_corners, most_rings, most_place}
use Rattle.number.specs.Reading.{Reading, read, fault, and_then, many}
use Rattle.number.specs.Faults.{Sound}
use Rattle.number.proofs.Number.{cond_cases, Shown as NumberShown, end_of_bytes, zero_byte, third_byte, fault_byte, fault_exactly}
use Rattle.job.specs.Job.{most_bytes, most_outlines, least_rings, left_after, value, coordinates, ring, rings_from, announces, outline, part, outlines, header, filled, body, job}
use Rattle.job.specs.Faults.{Ranged}
use Rattle.job.proofs.Bounds.{value-told}

pub data Shown (s : List ℕ) : Refusal → ℕ → Type 0 where
  -- the bytes end there
  ends : {p : ℕ} → p ≡ length s → Shown s because.Ends p
  -- it is 0
  padded : {p : ℕ} → p < length s → get_or s p 0 ≡ 0 → Shown s because.Padded p
  -- it is the third of a number, and its top bit is set
  third : {p : ℕ} (at : ℕ) → p < length s → p ≡ at + 2 → 128 ≤ get_or s p 0 → Shown s because.Range p
  -- it is the last of a sound number
  last : {p at v : ℕ} → p < length s → Sound s at v (p + 1) → Shown s because.Range p
  -- it follows what is wanted
  extra : {p : ℕ} → p < length s → Shown s because.Extra p
  -- it is none in particular
  long : Shown s because.Long 0

module _ (s : List ℕ) where
  abbrev pub ShownBy : {A : Type 0} → Reading A → Type 0
  ShownBy (read a next) = Unit {0}
  ShownBy (fault r p) = Shown s r p

  -- readings one after another

  then-shown : {A B : Type 0} (u : Reading A) (f : A → ℕ → Reading B) → ShownBy u → ((a : A) (next : ℕ) → ShownBy (f a next)) → ShownBy (and_then u f)
  then-shown (read a next) f h k = k a next
  then-shown (fault r p) f h k = h

  many-shown : {A : Type 0} (f : ℕ → Reading A) → ((at : ℕ) → ShownBy (f at)) → (n at : ℕ) → ShownBy (many f n at)
  unfolding many
  many-shown f h zero at = tt
  many-shown f h (suc n) at =
      then-shown (f at) _ (h at) (λ a next. then-shown (many f n next) _ (many-shown f h n next) (λ l last. tt))

  -- from a number to a job

  value-shown : (low high at : ℕ) → ShownBy (value s low high at)
  value-shown low high at = go (value s low high at) (value-told s low high at)
    where
      held : {r : Refusal} {p : ℕ} → NumberShown s at r p → Shown s r p
      held (end_of_bytes e) = ends e
      held (zero_byte h k z) = padded k z
      held (third_byte e k b) = third at k e b

      go : (u : Reading ℕ) → Ranged s low high at u → ShownBy u
      go (read v next) h = tt
      go (fault r p) (inl f) = held (fault_byte s at ((fault_exactly s at r p).1 f))
      go (fault r p) (inr f) =
          let k = f.1.1 in
          subst (λ t. Shown s t p) (sym f.0) (last (omega (arith, k.there, k.past)) k)

  ring-shown : (most at : ℕ) → ShownBy (ring s most at)
  unfolding ring coordinates
  ring-shown most at =
      then-shown (value s least_corners most at) _ (value-shown least_corners most at) (λ v next. many-shown _ (value-shown 0 most_place) (2 * v) next)

  rings-shown : (r left at : ℕ) → ShownBy (rings_from s r left at)
  unfolding rings_from
  rings-shown zero left at = tt
  rings-shown (suc r) left at =
      then-shown (ring s left at) _ (ring-shown left at)
      (λ l next. then-shown (rings_from s r (left_after left l) next) _ (rings-shown r (left_after left l) next) (λ ls last. tt))

  outline-shown : (at : ℕ) → ShownBy (outline s at)
  unfolding outline
  outline-shown at =
      cond_cases ShownBy (announces s at) _ _
      (λ e. then-shown (value s least_rings most_rings (at + 1)) _ (value-shown least_rings most_rings (at + 1)) (λ r next. rings-shown r most_corners next))
      (λ e. then-shown (ring s most_corners at) _ (ring-shown most_corners at) (λ l next. tt))

  body-shown : ShownBy (body s)
  unfolding body header outlines part
  body-shown =
      then-shown (header s) _
      (then-shown (value s 0 limit 0) _ (value-shown 0 limit 0)
      (λ t p. then-shown (value s 0 limit p) _ (value-shown 0 limit p)
      (λ w q. then-shown (value s 0 most_outlines q) _ (value-shown 0 most_outlines q) (λ k next. tt))))
      (λ h next. then-shown (outlines s h.count next) _
      (many-shown (part s) (λ at. then-shown (outline s at) _ (outline-shown at) (λ ls next. tt)) h.count next)
      (λ ps last. tt))

  filled-shown : {A : Type 0} (u : Reading A) → ShownBy u → ShownBy (filled s u)
  unfolding filled
  filled-shown u h =
      then-shown u _ h (λ a last. cond_cases ShownBy (ltb last (length s)) _ _ (λ e. extra (ltb-true last (length s) e)) (λ e. tt))

  pub job_byte : {r : Refusal} {p : ℕ} → job s ≡ fault r p → Shown s r p
  unfolding job
  job_byte e = subst ShownBy e (cond_cases ShownBy (ltb most_bytes (length s)) _ _ (λ k. long) (λ k. filled-shown (body s) body-shown))

  pub part_byte : {r : Refusal} {p : ℕ} → filled s (outline s 0) ≡ fault r p → Shown s r p
  part_byte e = subst ShownBy e (filled-shown (outline s 0) (outline-shown 0))
