-- The writers are refused exactly when the scope says so, by the first condition that holds, and write nothing then. Assumes nothing.
--
--   Ends C n, first_exactly, none_exactly == a number that tells the first condition that holds, or that none does
--   header_exactly   == a header's writer tells c exactly when c is the first of 1, 10 for K above 255, 14 that holds
--   header-keeps     == and then no bytes, and the buffer as it came in
--   header-accepted, header_writes == it tells 0 exactly when none holds; the header then stands at the front, the rest as it came in
--   outline_exactly, outline-keeps, outline-accepted, outline_writes == the same of a figure's writer: 2, 14
use Prim.Native.Nat.{ℕ, ◌<◌}
use mathlib.Core.Path.{◌≡◌, ◌∙◌, refl, sym, ap, subst}
use mathlib.Core.Logic.{◌⊎◌, ◌↔◌, inl, inr}
use mathlib.Core.List.{List}
use mathlib.Core.Bool.{Bool, true, false, ◌&&◌}
use native.Mathlib.Omega.{arith}
use lib.Dec.{leb, ltb}
use lib.ListN.{length}
use borrow.Author.Tests.{leb-true, leb-false, ltb-true, ltb-false}
use Rattle.refusal.specs.declared.Refusal.{Refusal}
use Rattle.refusal.specs.declared.Refusal.TheVariants.{Rule, Length, Range, Room}
use Rattle.refusal.specs.Refusals.{refusal_no}
use Rattle.refusal.proofs.Refusals.{refusal-one, refusal-some}
use Rattle.number.proofs.Number.{cond_cases}
use Rattle.rule.specs.Rules.{in_range}
use Rattle.figure.specs.Figure.{Figure, share, BadLengths, bad_figure}
use Rattle.figure.proofs.Fault.{bad_lengths, good-lengths}
use Rattle.job.specs.Bytes.{header_bytes, figure_bytes}
use Rattle.job.specs.Calls.{WriteSaid, unwritten, header_written, outline_written}
use Rattle.job.proofs.Bounds.{some-lt, none_lt}
use Rattle.job.specs.Faults.{HeaderFault, rule, range, room, OutlineFault, lengths, space, fronted, First}

-- The first that holds

module _ (C : Refusal → Type 0) where
  -- nothing of a lower number holds
  abbrev None : ℕ → Type 0
  None n = (s : Refusal) → C s → refusal_no s < n → ⊥

  abbrev pub Ends : ℕ → Type 0
  Ends n = ((c : Refusal) × C c × None (refusal_no c) × (n ≡ refusal_no c)) ⊎ (((c : Refusal) → C c → ⊥) × (n ≡ 0))

  one-first : (c d : Refusal) → First C c → C d → None (refusal_no d) → d ≡ c
  one-first c d f h less = go (ltb (refusal_no c) (refusal_no d)) refl (ltb (refusal_no d) (refusal_no c)) refl
    where
      go : (a : Bool) → ltb (refusal_no c) (refusal_no d) ≡ a → (b : Bool) → ltb (refusal_no d) (refusal_no c) ≡ b → d ≡ c
      go true x b y = absurd (less c f.holds (ltb-true (refusal_no c) (refusal_no d) x))
      go false x true y = absurd (f.before d (ltb-true (refusal_no d) (refusal_no c) y) h)
      go false x false y =
          refusal-one d c (omega (arith, ltb-false (refusal_no c) (refusal_no d) x, ltb-false (refusal_no d) (refusal_no c) y))

  pub first_exactly : (n : ℕ) → Ends n → (c : Refusal) → (n ≡ refusal_no c) ↔ First C c
  first_exactly n (inl e) c = (
    (λ z. let same : e.0 ≡ c = refusal-one e.0 c (sym e.3 ∙ z) in
        record {
          holds = subst C same e.1;
          before = λ s k h. e.2 s h (subst (λ d. refusal_no s < refusal_no d) (sym same) k);
        }),
    λ f. e.3 ∙ ap refusal_no (one-first c e.0 f e.1 e.2),
  )
  first_exactly n (inr e) c = ((λ z. absurd (omega (arith, z, e.1, refusal-some c))), λ f. absurd (e.0 c f.holds))

  pub none_exactly : (n : ℕ) → Ends n → (n ≡ 0) ↔ ((c : Refusal) → C c → ⊥)
  none_exactly n (inl e) = ((λ z. absurd (omega (arith, z, e.3, refusal-some e.0))), λ f. absurd (f e.0 e.1))
  none_exactly n (inr e) = ((λ z. e.0), λ f. e.1)

-- a writer ends by the first condition that holds and writes nothing, or by none and writes all
module _ (C : Refusal → Type 0) (b out : List ℕ) where
  abbrev pub Done : WriteSaid → Type 0
  Done u =
      ((c : Refusal) × C c × None C (refusal_no c) × (u ≡ unwritten (refusal_no c) out)) ⊎ (((c : Refusal) → C c → ⊥) × (u ≡ fronted b out))

  done-ends : (u : WriteSaid) → Done u → Ends C u.number
  done-ends u (inl d) = inl (d.0, d.1, d.2, ap (λ (v : WriteSaid). v.number) d.3)
  done-ends u (inr d) = inr (d.0, ap (λ (v : WriteSaid). v.number) d.1)

  done-keeps : (u : WriteSaid) → Done u → (c : Refusal) → u.number ≡ refusal_no c → u ≡ unwritten (refusal_no c) out
  done-keeps u (inl d) c n = d.3 ∙ ap (λ m. unwritten m out) (sym (ap (λ (v : WriteSaid). v.number) d.3) ∙ n)
  done-keeps u (inr d) c n = absurd (omega (arith, ap (λ (v : WriteSaid). v.number) d.1, n, refusal-some c))

  done_writes : (u : WriteSaid) → Done u → u.number ≡ 0 → u ≡ fronted b out
  done_writes u (inl d) n = absurd (omega (arith, ap (λ (v : WriteSaid). v.number) d.3, n, refusal-some d.0))
  done_writes u (inr d) n = d.1

-- A header

module _ (t w k : ℕ) (out : List ℕ) where
  -- no condition of a lower number holds, by each of them
  header-none : (n : ℕ) → (1 < n → (1000 < t) ⊎ (1000 < w) → ⊥) → (10 < n → 255 < k → ⊥) → (14 < n → length out < length (header_bytes t w k) → ⊥)
      → None (HeaderFault t w k out) n
  header-none n f g h s (rule x) q = f q x
  header-none n f g h s (range x) q = g q x
  header-none n f g h s (room x) q = h q x

  header-few : (c : Refusal) → HeaderFault t w k out c → refusal_no c < 15
  header-few c (rule x) = omega arith
  header-few c (range x) = omega arith
  header-few c (room x) = omega arith

  header-done : Done (HeaderFault t w k out) (header_bytes t w k) out (header_written t w k out)
  unfolding header_written in_range
  header-done =
      cond_cases D (leb t 1000 && leb w 1000) _ _
      (λ a.
      let small = none_lt t 1000 w 1000 a in
      cond_cases D (ltb 255 k) _ _
      (λ b. inl (Range, range (ltb-true 255 k b), header-none 10 (λ q. small) (λ q. absurd (omega arith)) (λ q. absurd (omega arith)), refl))
      (λ b.
      let few : 255 < k → ⊥ = λ h. omega (arith, ltb-false 255 k b) in
      cond_cases D (leb (length (header_bytes t w k)) (length out)) _ _
      (λ d.
      let fits : length out < length (header_bytes t w k) → ⊥ = λ h. omega (arith, leb-true (length (header_bytes t w k)) (length out) d) in
      inr ((λ c h. header-none 15 (λ q. small) (λ q. few) (λ q. fits) c h (header-few c h)), refl))
      (λ d.
      inl (
        Room,
        room (leb-false (length (header_bytes t w k)) (length out) d),
        header-none 14 (λ q. small) (λ q. few) (λ q. absurd (omega arith)),
        refl,
      ))))
      (λ a.
      inl (
        Rule,
        rule (some-lt t 1000 w 1000 a),
        header-none 1 (λ q. absurd (omega arith)) (λ q. absurd (omega arith)) (λ q. absurd (omega arith)),
        refl,
      ))
    where
      D : WriteSaid → Type 0
      D = Done (HeaderFault t w k out) (header_bytes t w k) out

  pub header_exactly : (c : Refusal) → ((header_written t w k out).number ≡ refusal_no c) ↔ First (HeaderFault t w k out) c
  header_exactly c =
      first_exactly (HeaderFault t w k out) (header_written t w k out).number (done-ends (HeaderFault t w k out) (header_bytes t w k) out (header_written t w k out) header-done) c

  pub header-keeps : (c : Refusal) → (header_written t w k out).number ≡ refusal_no c → header_written t w k out ≡ unwritten (refusal_no c) out
  header-keeps c n = done-keeps (HeaderFault t w k out) (header_bytes t w k) out (header_written t w k out) header-done c n

  pub header-accepted : ((header_written t w k out).number ≡ 0) ↔ ((c : Refusal) → HeaderFault t w k out c → ⊥)
  header-accepted =
      none_exactly (HeaderFault t w k out) (header_written t w k out).number (done-ends (HeaderFault t w k out) (header_bytes t w k) out (header_written t w k out) header-done)

  pub header_writes : (header_written t w k out).number ≡ 0 → header_written t w k out ≡ fronted (header_bytes t w k) out
  header_writes n = done_writes (HeaderFault t w k out) (header_bytes t w k) out (header_written t w k out) header-done n

-- A figure

module _ (f : Figure) (out : List ℕ) where
  abbrev written : List ℕ
  written = figure_bytes (share f.lengths f.numbers)

  outline-none : (n : ℕ) → (2 < n → BadLengths f → ⊥) → (14 < n → length out < length written → ⊥) → None (OutlineFault f out) n
  outline-none n g h s (lengths x) q = g q x
  outline-none n g h s (space x) q = h q x

  outline-few : (c : Refusal) → OutlineFault f out c → refusal_no c < 15
  outline-few c (lengths x) = omega arith
  outline-few c (space x) = omega arith

  outline-done : Done (OutlineFault f out) written out (outline_written f out)
  unfolding outline_written
  outline-done =
      cond_cases D (bad_figure f) _ _
      (λ a. inl (Length, lengths (bad_lengths f a), outline-none 2 (λ q. absurd (omega arith)) (λ q. absurd (omega arith)), refl))
      (λ a.
      cond_cases D (leb (length written) (length out)) _ _
      (λ b.
      let fits : length out < length written → ⊥ = λ h. omega (arith, leb-true (length written) (length out) b) in
      inr ((λ c h. outline-none 15 (λ q. good-lengths f a) (λ q. fits) c h (outline-few c h)), refl))
      (λ b.
      inl (Room, space (leb-false (length written) (length out) b), outline-none 14 (λ q. good-lengths f a) (λ q. absurd (omega arith)), refl)))
    where
      D : WriteSaid → Type 0
      D = Done (OutlineFault f out) written out

  pub outline_exactly : (c : Refusal) → ((outline_written f out).number ≡ refusal_no c) ↔ First (OutlineFault f out) c
  outline_exactly c =
      first_exactly (OutlineFault f out) (outline_written f out).number (done-ends (OutlineFault f out) written out (outline_written f out) outline-done) c

  pub outline-keeps : (c : Refusal) → (outline_written f out).number ≡ refusal_no c → outline_written f out ≡ unwritten (refusal_no c) out
  outline-keeps c n = done-keeps (OutlineFault f out) written out (outline_written f out) outline-done c n

  pub outline-accepted : ((outline_written f out).number ≡ 0) ↔ ((c : Refusal) → OutlineFault f out c → ⊥)
  outline-accepted =
      none_exactly (OutlineFault f out) (outline_written f out).number (done-ends (OutlineFault f out) written out (outline_written f out) outline-done)

  pub outline_writes : (outline_written f out).number ≡ 0
      → outline_written f out ≡ fronted (figure_bytes (share f.lengths f.numbers)) out
  outline_writes n = done_writes (OutlineFault f out) written out (outline_written f out) outline-done n
