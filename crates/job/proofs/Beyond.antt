-- Behind what is written everything is as it came in, place by place, and all of it beside a refusal. Assumes nothing.
--
--   written-beyond   == bytes at the front of a buffer: every place behind them is as it was
--   Kept out u       == what a writer leaves of a buffer: the places behind the bytes written as they came in, all of them beside a
--                       refusal, and its length
--   header-rule      == 1 comes before 10: a rule that is out of range is told whatever the count is
--   header-beyond, outline-beyond == that holds of `write_header` and of `write_outline`
--   Unspoiled l ns u == the same of the two lists of `unpack`: behind the two numbers of each corner, and behind one for each ring
--   unpack_beyond    == that holds of `unpack`
use Prim.Native.Nat.{ℕ, ◌+◌, ◌-◌, ◌*◌, ◌≤◌}
use mathlib.Core.Path.{◌≡◌, ◌∙◌, refl, sym, ap}
use mathlib.Core.List.{List, ◌++◌}
use mathlib.Core.Bool.{Bool, true, false, ◌&&◌, false≢true}
use native.Mathlib.Omega.{arith}
use lib.Dec.{leb, ltb}
use lib.ListN.{length, get_or, drop, length-append, length-drop}
use lib.Seq.{get_or-append-add, get_or-drop}
use borrow.Author.Tests.{leb-true}
use Rattle.number.specs.Reading.{Reading, read, fault}
use Rattle.number.proofs.Bytes.{AllBytes}
use Rattle.number.proofs.Number.{cond_cases}
use Rattle.rule.specs.Rules.{in_range}
use Rattle.figure.specs.Figure.{Figure, total, bad_figure}
use Rattle.figure.proofs.Fault.{rings-good}
use Rattle.job.specs.Bytes.{header_bytes, figure_bytes}
use Rattle.job.specs.Job.{most_outlines, figure_of, outline, filled}
use Rattle.job.specs.Calls.{UnpackSaid, filled_by, part_unpacked, unpacked, WriteSaid, written_to, header_written, outline_written}
use Rattle.job.proofs.Job.{filled_inv}
use Rattle.job.proofs.RoundTrip.{outline-only}

module _ (b out : List ℕ) where
  pub written-beyond : (i d : ℕ) → length b ≤ i → get_or (b ++ drop (length b) out) i d ≡ get_or out i d
  written-beyond i d h =
      let n : ℕ = i - length b in
      let z : i ≡ length b + n = omega arith in
      ap (λ k. get_or (b ++ drop (length b) out) k d) z
      ∙ get_or-append-add b (drop (length b) out) n d
      ∙ get_or-drop (length b) out n d
      ∙ ap (λ k. get_or out k d) (sym z)

  written-length : length b ≤ length out → length (b ++ drop (length b) out) ≡ length out
  written-length h = omega (arith, h, length-append b (drop (length b) out), length-drop (length b) out)

-- the writers

pub record Kept (out : List ℕ) (u : WriteSaid) : Type 0 where
  pub beyond : (i d : ℕ) → u.bytes ≤ i → get_or u.out i d ≡ get_or out i d
  pub refused : (u.number ≡ 0 → ⊥) → u.out ≡ out
  pub same : length u.out ≡ length out

-- a buffer as it came in
untouched : (out : List ℕ) (u : WriteSaid) → u.out ≡ out → Kept out u
untouched out u e = record { beyond = λ i d h. ap (λ (l : List ℕ). get_or l i d) e; refused = λ h. e; same = ap length e }

written-kept : (out b : List ℕ) → Kept out (written_to out b)
written-kept out b =
    cond_cases (Kept out) (leb (length b) (length out)) _ _
    (λ p. record {
      beyond = written-beyond b out;
      refused = λ h. absurd (h refl);
      same = written-length b out (leb-true (length b) (length out) p);
    })
    (λ p. untouched out _ refl)

-- 1 comes before 10: a rule that is out of range is told whatever the count is
pub header-rule : (t w k : ℕ) (out : List ℕ) → in_range t w ≡ false → (header_written t w k out).number ≡ 1
unfolding header_written
header-rule t w k out e = rw e

pub header-beyond : (t w k : ℕ) (out : List ℕ) → Kept out (header_written t w k out)
unfolding header_written
header-beyond t w k out =
    cond_cases (Kept out) (in_range t w) _ _
    (λ p. cond_cases (Kept out) (ltb most_outlines k) _ _ (λ q. untouched out _ refl) (λ q. written-kept out (header_bytes _ _ _)))
    (λ p. untouched out _ refl)

pub outline-beyond : (f : Figure) (out : List ℕ) → Kept out (outline_written f out)
unfolding outline_written
outline-beyond f out = cond_cases (Kept out) (bad_figure f) _ _ (λ p. untouched out _ refl) (λ p. written-kept out (figure_bytes _))

-- `unpack`

pub record Unspoiled (l ns : List ℕ) (u : UnpackSaid) : Type 0 where
  pub list-beyond : (i d : ℕ) → 2 * u.corners ≤ i → get_or u.list i d ≡ get_or l i d
  pub lengths-beyond : (i d : ℕ) → u.rings ≤ i → get_or u.lengths i d ≡ get_or ns i d
  pub list-refused : (u.number ≡ 0 → ⊥) → u.list ≡ l
  pub lengths-refused : (u.number ≡ 0 → ⊥) → u.lengths ≡ ns
  pub list_same : length u.list ≡ length l
  pub lengths-same : length u.lengths ≡ length ns

-- both lists as they came in
unchanged : (l ns : List ℕ) (u : UnpackSaid) → u.list ≡ l → u.lengths ≡ ns → Unspoiled l ns u
unchanged l ns u p q =
    record {
      list-beyond = λ i d h. ap (λ (m : List ℕ). get_or m i d) p;
      lengths-beyond = λ i d h. ap (λ (m : List ℕ). get_or m i d) q;
      list-refused = λ h. p;
      lengths-refused = λ h. q;
      list_same = ap length p;
      lengths-same = ap length q;
    }

-- two tests that both pass
passed : (a b : Bool) → (a && b) ≡ true → (a ≡ true) × (b ≡ true)
passed true true e = (refl, refl)
passed true false e = absurd (false≢true e)
passed false b e = absurd (false≢true e)

filled-kept : (f : Figure) (l ns : List ℕ) → length f.numbers ≡ 2 * total f → Unspoiled l ns (filled_by f l ns)
unfolding filled_by
filled-kept f l ns twice =
    let a : Bool = leb (length f.numbers) (length l) in
    let b : Bool = leb (length f.lengths) (length ns) in
    cond_cases (Unspoiled l ns) (a && b) _ _
    (λ p. record {
      list-beyond = λ i d h. written-beyond f.numbers l i d (omega (arith, h, twice));
      lengths-beyond = written-beyond f.lengths ns;
      list-refused = λ h. absurd (h refl);
      lengths-refused = λ h. absurd (h refl);
      list_same = written-length f.numbers l (leb-true (length f.numbers) (length l) (passed a b p).0);
      lengths-same = written-length f.lengths ns (leb-true (length f.lengths) (length ns) (passed a b p).1);
    })
    (λ p. unchanged l ns _ refl refl)

pub unpack_beyond : (p l ns : List ℕ) → AllBytes p → Unspoiled l ns (unpacked p l ns)
unfolding unpacked
unpack_beyond p l ns bs = go (filled p (outline p 0)) refl
  where
    go : (u : Reading (List (List ℕ))) → filled p (outline p 0) ≡ u → Unspoiled l ns (part_unpacked l ns u)
    go (read ls last) e =
        let o = outline-only p bs 0 (filled_inv p (outline p 0) e).0 in
        filled-kept (figure_of ls) l ns (rings-good (figure_of ls) o.1.good).numbers
    go (fault r at) e = unchanged l ns _ refl refl
