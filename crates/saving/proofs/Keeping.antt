-- Laws of keeping: what reads well one after another. Assumes nothing.
--
--   kept-reads       == what is kept is read in a row, and all of it, or up to one that does not read
--   kept-all, kept_broken  == what is kept, by those that are read in a row: all, or up to one that does not read
--   kept-within      == it lies in the bytes, and is no more than was asked
--   Keeping          == the state of the loop: those read so far
--   keeping_start, keeping_more, keeping_fault, keeping_done == the loop's ways
use Prim.Native.Nat.{ℕ, zero, suc, ◌+◌, ◌<◌, ◌≤◌, suc-le-suc}
use mathlib.Core.Path.{◌≡◌, ◌∙◌, refl, sym, ap, ap₂}
use mathlib.Core.Logic.{◌⊎◌, inl, inr}
use mathlib.Core.List.{List, [], ◌∷◌, ◌++◌}
use native.Mathlib.Nat.{le_of_suc-le-suc, not-suc-le-zero}
use native.Mathlib.Numerals.{add-one}
use native.Mathlib.Omega.{arith}
use lib.ListN.{length}
use Rattle.refusal.specs.declared.Refusal.{Refusal}
use Rattle.number.specs.Reading.{Reading, read, fault, many}
use Rattle.number.proofs.Reading.{many-none, many-cons, many-first, many-length}
use Rattle.job.specs.Job.{Part, part, outlines}
use Rattle.job.specs.Steps.{located}
use Rattle.job.proofs.Job.{part-read, outline-onward}
use Rattle.index.proofs.Starts.{many-more-last, here-part, here-fault}
use Rattle.saving.specs.Salvage.{Left, left_by, kept_from}
use Rattle.saving.specs.Steps.{Keeps}

module _ (s : List ℕ) where
  pub kept-reads : (k at : ℕ) → (outlines s (length (kept_from s k at).parts) at ≡ read (kept_from s k at).parts (kept_from s k at).end)
      × ((length (kept_from s k at).parts ≡ k) ⊎ ((length (kept_from s k at).parts < k) × ((r : Refusal) × (o : ℕ) × (part s (kept_from s k at).end ≡ fault r o))))
  unfolding outlines many kept_from
  kept-reads zero at = (refl, inl refl)
  kept-reads (suc k) at = go (part s at) refl (λ next. kept-reads k next)
    where
      go : (u : Reading Part) → part s at ≡ u
          → ((next : ℕ)
          → (outlines s (length (kept_from s k next).parts) next ≡ read (kept_from s k next).parts (kept_from s k next).end)
          × ((length (kept_from s k next).parts ≡ k) ⊎ ((length (kept_from s k next).parts < k) × ((r : Refusal) × (o : ℕ) × (part s (kept_from s k next).end ≡ fault r o)))))
          → (outlines s (length (left_by u at (λ next. kept_from s k next)).parts) at
          ≡ read (left_by u at (λ next. kept_from s k next)).parts (left_by u at (λ next. kept_from s k next)).end)
          × ((length (left_by u at (λ next. kept_from s k next)).parts ≡ suc k)
          ⊎ ((length (left_by u at (λ next. kept_from s k next)).parts < suc k)
          × ((r : Refusal) × (o : ℕ) × (part s (left_by u at (λ next. kept_from s k next)).end ≡ fault r o))))
      go (fault r o) e rest = (refl, inr (omega arith, (r, o, e)))
      go (read p next) e rest =
          let i = rest next in (
            many-cons (part s) at (length (kept_from s k next).parts) e i.0,
            elim i.1 [
              | inl z ↦ inl (ap suc z)
              | inr z ↦ inr (suc-le-suc z.0, z.1)
            ],
          )

  pub kept-all : (n at : ℕ) {ps : List Part} {end : ℕ} → outlines s n at ≡ read ps end → kept_from s n at ≡ record { parts = ps; end = end }
  unfolding outlines many kept_from
  kept-all zero at {ps} {end} e =
      let a : [] ≡ ps = cc in
      let b : at ≡ end = cc in
      ap₂ (λ (l : List Part) m. record { parts = l; end = m }) a b
  kept-all (suc n) at {ps} {end} e =
      let i = many-first (part s) n at e in
      ap (λ (u : Reading Part). left_by u at (λ next. kept_from s n next)) i.3
      ∙ ap (λ (l : Left). record { parts = i.0 ∷ l.parts; end = l.end }) (kept-all n i.1 i.4)
      ∙ ap (λ (l : List Part). record { parts = l; end = end }) (sym i.5)

  pub kept_broken : (n at m : ℕ) {ps : List Part} {end p : ℕ} {r : Refusal} → outlines s n at ≡ read ps end → part s end ≡ fault r p → n < m
      → kept_from s m at ≡ record { parts = ps; end = end }
  unfolding outlines many kept_from
  kept_broken n at zero e g h = absurd (not-suc-le-zero h)
  kept_broken zero at (suc m) {ps} {end} e g h =
      let a : [] ≡ ps = cc in
      let b : at ≡ end = cc in
      ap (λ (u : Reading Part). left_by u at (λ next. kept_from s m next)) (ap (part s) b ∙ g) ∙ ap₂ (λ (l : List Part) m. record { parts = l; end = m }) a b
  kept_broken (suc n) at (suc m) {ps} {end} e g h =
      let i = many-first (part s) n at e in
      ap (λ (u : Reading Part). left_by u at (λ next. kept_from s m next)) i.3
      ∙ ap (λ (l : Left). record { parts = i.0 ∷ l.parts; end = l.end }) (kept_broken n i.1 m i.4 g (le_of_suc-le-suc h))
      ∙ ap (λ (l : List Part). record { parts = l; end = end }) (sym i.5)

  pub kept-within : (k at : ℕ) → at ≤ length s
      → (at ≤ (kept_from s k at).end) × ((kept_from s k at).end ≤ length s) × (length (kept_from s k at).parts ≤ k)
  unfolding kept_from
  kept-within zero at h = (omega arith, h, omega arith)
  kept-within (suc k) at h = go (part s at) refl (λ next m. kept-within k next m)
    where
      go : (u : Reading Part) → part s at ≡ u
          → ((next : ℕ) → next ≤ length s
          → (next ≤ (kept_from s k next).end) × ((kept_from s k next).end ≤ length s) × (length (kept_from s k next).parts ≤ k))
          → (at ≤ (left_by u at (λ next. kept_from s k next)).end) × ((left_by u at (λ next. kept_from s k next)).end ≤ length s)
          × (length (left_by u at (λ next. kept_from s k next)).parts ≤ suc k)
      go (fault r o) e rest = (omega arith, h, omega arith)
      go (read p next) e rest =
          let o = outline-onward s at (part-read s at e).0 in
          let i = rest next o.1 in
          (omega (arith, o.0, i.0), i.1, suc-le-suc i.2)

-- the loop that keeps

pub record Keeping (s : List ℕ) (from n at : ℕ) : Type 0 where
  pub done : List Part
  pub reads : outlines s n from ≡ read done at

module _ (s : List ℕ) (from : ℕ) where
  pub keeping_start : Keeping s from 0 from
  unfolding outlines
  keeping_start = record { done = []; reads = many-none (part s) from }

  module _ (n at : ℕ) (g : Keeping s from n at) where
    long : n ≡ length g.done
    unfolding outlines
    long = sym (many-length (part s) n from g.reads)

    pub keeping_more : {start end : ℕ} → read start end ≡ located s 0 at → Keeping s from (n + 1) end
    unfolding outlines
    keeping_more e =
        let h = here-part s at e in
        record {
          done = g.done ++ (h.0 ∷ []);
          reads = ap (λ m. many (part s) m from) (add-one n) ∙ many-more-last (part s) n from g.reads h.1;
        }

    pub keeping_fault : (k : ℕ) {r : Refusal} {p : ℕ} → fault r p ≡ located s 0 at → n < k → Keeps (kept_from s k from) n at
    keeping_fault k e h =
        let b = kept_broken s n from k g.reads (here-fault s at e) h in
        record { count = long ∙ sym (ap (λ (l : Left). length l.parts) b); ends = sym (ap (λ (l : Left). l.end) b) }

    pub keeping_done : (k : ℕ) → n ≤ k → k ≤ n → Keeps (kept_from s k from) k at
    keeping_done k h m =
        let z : n ≡ k = omega arith in
        let b = ap (λ i. kept_from s i from) (sym z) ∙ kept-all s n from g.reads in
        record { count = sym z ∙ long ∙ sym (ap (λ (l : Left). length l.parts) b); ends = sym (ap (λ (l : Left). l.end) b) }
