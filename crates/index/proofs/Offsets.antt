-- Where the outlines stand after an append or a remove, by where they stood, and how long the new job is. Assumes nothing.
--
--   header-grown     == a header for k + 1 outlines is one byte longer than one for k exactly at 127
--   starts-last, starts-moved, take-starts, drop-starts == where figures begin with one more behind them, some bytes further on, and of a part
--   with_back, without_back   == the new job, as it is read
--   with_long, without-long, with_count, without-count == how long it is, and how many outlines it has
--   append_offsets   == after an append every outline stands where it stood, one byte further on where K was 127, and the new one stands where
--                       the job ended
--   remove_offsets   == before a remove the outlines before outline k stood where they stand now, one byte further on where K was 128; those
--                       behind it stood as many bytes more further on as outline k has
use Prim.Native.Nat.{ℕ, zero, suc, ◌+◌, ◌-◌, ◌<◌, ◌≤◌}
use mathlib.Core.Path.{◌≡◌, ◌∙◌, refl, sym, ap, ap₂, subst}
use mathlib.Core.Logic.{inl, inr}
use mathlib.Core.List.{List, [], ◌∷◌, ◌++◌, map}
use mathlib.Core.Bool.{Bool, true, false, cond}
use native.Mathlib.Nat.{add-zero}
use native.Mathlib.Omega.{arith}
use lib.Dec.{ltb}
use lib.ListN.{length, get_or, take, drop, length-append, length-take, length-drop, get_or-map}
use lib.Seq.{take_at, drop_at, take-suc, length-take-le}
use borrow.Author.Tests.{lt-ltb, le-ltb, eq-eqb, ne_eqb}
use Rattle.sum.specs.Sum.{All}
use Rattle.sum.proofs.Lists.{All-append}
use Rattle.sum.proofs.Sum.{le-or}
use Rattle.number.specs.Reading.{read}
use Rattle.number.specs.Number.{number_bytes}
use Rattle.number.proofs.Bytes.{AllBytes}
use Rattle.figure.specs.Figure.{Figure, share, bad_figure}
use Rattle.job.specs.Bytes.{header_bytes, figure_bytes, outlines_bytes, job_bytes}
use Rattle.job.specs.Job.{most_bytes, most_outlines, figure_of, Part, Job, job}
use Rattle.job.specs.Calls.{no_part, TakeSaid, part_bytes, part_taken, taken}
use Rattle.job.proofs.Job.{job-whole}
use Rattle.job.proofs.Rings.{share_back}
use Rattle.job.proofs.RoundTrip.{Drawable, parts_of, job-back, job_only, part-only}
use Rattle.job.proofs.Anew.{accepted-range}
use Rattle.index.specs.Index.{starts_of, figures, with_outline, without_outline}
use Rattle.index.specs.Faults.{grown, longer, shorter}
use Rattle.index.specs.Steps.{starts_in}
use Rattle.index.proofs.Made.{outlines-last, outlines_split, outlines-append, header-length, parts-long, figures-long, figures-drawn, without-drawn, parts-written, writable_job}

module _ (t w k : ℕ) (few : k < most_outlines) where
  two : (n : ℕ) (b : Bool) → n ≤ most_outlines → ltb n 128 ≡ b → length (header_bytes t w n) ≡ length (number_bytes t) + length (number_bytes w) + cond b 1 2
  two n b m e = header-length t w n m ∙ ap (λ (c : Bool). length (number_bytes t) + length (number_bytes w) + cond c 1 2) e

  none-grown : (k ≡ 127 → ⊥) → grown k ≡ 0
  none-grown n = ap (λ (b : Bool). cond b 1 0) (ne_eqb k 127 n)

  pub header-grown : length (header_bytes t w (k + 1)) ≡ length (header_bytes t w k) + grown k
  header-grown = elim (le-or k 126) [
    | inl h ↦ (let z = none-grown (λ e. omega (arith, e, h)) in
        omega (arith, z, two k true (omega (arith, few)) (lt-ltb k 128 (omega (arith, h))), two (k + 1) true (omega (arith, few)) (lt-ltb (k + 1) 128 (omega (arith, h)))))
    | inr h ↦ elim (le-or 128 k) [
      | inl g ↦ (let z = none-grown (λ e. omega (arith, e, g)) in
          omega (arith, z, two k false (omega (arith, few)) (le-ltb k 128 g), two (k + 1) false (omega (arith, few)) (le-ltb (k + 1) 128 (omega (arith, g)))))
      | inr g ↦ (let z : grown k ≡ 1 = ap (λ (b : Bool). cond b 1 0) (eq-eqb k 127 (omega (arith, g, h))) in
          omega (arith, z, two k true (omega (arith, few)) (lt-ltb k 128 g), two (k + 1) false (omega (arith, few)) (le-ltb (k + 1) 128 (omega (arith, h)))))
    ]
  ]

starts-last : (at : ℕ) (fs : List (List (List ℕ))) (g : List (List ℕ))
    → starts_in (parts_of at (fs ++ (g ∷ []))) ≡ starts_in (parts_of at fs) ++ ((at + length (outlines_bytes fs)) ∷ [])
unfolding outlines_bytes
starts-last at [] g = ap (λ n. n ∷ []) (sym (add-zero at))
starts-last at (f ∷ fs) g =
    let n : at + length (figure_bytes f) + length (outlines_bytes fs) ≡ at + length (figure_bytes f ++ outlines_bytes fs) =
    omega (arith, length-append (figure_bytes f) (outlines_bytes fs))
    in
    ap (λ (l : List ℕ). at ∷ l)
    (starts-last (at + length (figure_bytes f)) fs g ∙ ap (λ m. starts_in (parts_of (at + length (figure_bytes f)) fs) ++ (m ∷ [])) n)

starts-moved : (at d : ℕ) (fs : List (List (List ℕ))) → starts_in (parts_of (at + d) fs) ≡ map (λ a. a + d) (starts_in (parts_of at fs))
starts-moved at d [] = refl
starts-moved at d (f ∷ fs) =
    let n : at + d + length (figure_bytes f) ≡ at + length (figure_bytes f) + d = omega arith in
    ap (λ (l : List ℕ). (at + d) ∷ l)
    (ap (λ m. starts_in (parts_of m fs)) n ∙ starts-moved (at + length (figure_bytes f)) d fs)

take-starts : (at k : ℕ) (fs : List (List (List ℕ))) → take k (starts_in (parts_of at fs)) ≡ starts_in (parts_of at (take k fs))
take-starts at zero fs = refl
take-starts at (suc k) [] = refl
take-starts at (suc k) (f ∷ fs) = ap (λ (l : List ℕ). at ∷ l) (take-starts (at + length (figure_bytes f)) k fs)

drop-starts : (at k : ℕ) (fs : List (List (List ℕ)))
    → drop k (starts_in (parts_of at fs)) ≡ starts_in (parts_of (at + length (outlines_bytes (take k fs))) (drop k fs))
unfolding outlines_bytes
drop-starts at zero fs = ap (λ n. starts_in (parts_of n fs)) (sym (add-zero at))
drop-starts at (suc k) [] = refl
drop-starts at (suc k) (f ∷ fs) =
    let n : at + length (figure_bytes f) + length (outlines_bytes (take k fs)) ≡ at + length (figure_bytes f ++ outlines_bytes (take k fs)) =
    omega (arith, length-append (figure_bytes f) (outlines_bytes (take k fs)))
    in
    drop-starts (at + length (figure_bytes f)) k fs ∙ ap (λ m. starts_in (parts_of m (drop k fs))) n

module _ (s : List ℕ) (bytes : AllBytes s) {j : Job} {last : ℕ} (q : job s ≡ read j last) where
  abbrev H : ℕ → ℕ
  H n = length (header_bytes j.threshold j.weight n)

  whole_long : length s ≡ H (length j.parts) + length (outlines_bytes (figures j))
  unfolding job_bytes
  whole_long =
      omega (
        arith,
        ap length (job_only s bytes q),
        length-append (header_bytes j.threshold j.weight (length (figures j))) (outlines_bytes (figures j)),
        ap H (figures-long s bytes q),
      )

  -- an outline more
  module _ (f : Figure) (few : length j.parts < most_outlines) where
    abbrev more : List (List (List ℕ))
    more = figures j ++ (share f.lengths f.numbers ∷ [])

    more-count : length more ≡ length j.parts + 1
    more-count = omega (arith, length-append (figures j) (share f.lengths f.numbers ∷ []), figures-long s bytes q)

    more-head : H (length more) ≡ H (length j.parts) + grown (length j.parts)
    more-head = ap H more-count ∙ header-grown j.threshold j.weight (length j.parts) few

    pub with_long : length (with_outline j f) ≡ longer s f (length j.parts)
    unfolding with_outline job_bytes
    with_long =
        let g : List (List ℕ) = share f.lengths f.numbers in
        omega (
          arith,
          whole_long,
          more-head,
          length-append (header_bytes j.threshold j.weight (length more)) (outlines_bytes more),
          ap length (outlines-last (figures j) g),
          length-append (outlines_bytes (figures j)) (figure_bytes g),
        )

    pub with_back : bad_figure f ≡ false → All (λ n. n ≤ 65535) f.numbers → length (with_outline j f) ≤ most_bytes
        → job (with_outline j f)
        ≡ read
        (record {
          threshold = j.threshold;
          weight = j.weight;
          parts = parts_of (H (length more)) more;
        })
        (length (with_outline j f))
    unfolding with_outline
    with_back good words short =
        let r = accepted-range s bytes q in
        let drawn : Drawable (figure_of (share f.lengths f.numbers)) = subst Drawable (sym (share_back f good)) (record { good = good; each = words }) in
        job-back j.threshold j.weight more
        (writable_job j.threshold j.weight more r.threshold r.weight (omega (arith, more-count, few))
        (All-append (λ (ls : List (List ℕ)). Drawable (figure_of ls)) (figures j) (share f.lengths f.numbers ∷ []) (figures-drawn s bytes q) (drawn, tt))
        short)

    pub with_count : length (parts_of (H (length more)) more) ≡ length j.parts + 1
    with_count = parts-long (H (length more)) more ∙ more-count

    pub append_offsets : bad_figure f ≡ false → All (λ n. n ≤ 65535) f.numbers → {i : Job} {m : ℕ} → job (with_outline j f) ≡ read i m
        → starts_of i ≡ map (λ a. a + grown (length j.parts)) (starts_of j) ++ ((length s + grown (length j.parts)) ∷ [])
    append_offsets good words {i} {m} e =
        let fs : List (List (List ℕ)) = figures j in
        let g : List (List ℕ) = share f.lengths f.numbers in
        let z = sym e ∙ with_back good words (job-whole (with_outline j f) e).short in
        let made : Job = record { threshold = j.threshold; weight = j.weight; parts = parts_of (H (length more)) more } in
        let y : i ≡ made = cc in
        let d : ℕ = grown (length j.parts) in
        let G : ℕ = H (length j.parts) in
        let size : G + d + length (outlines_bytes fs) ≡ length s + d = omega (arith, whole_long) in
        let old : starts_in (parts_of G fs) ≡ starts_of j =
        ap (λ n. starts_in (parts_of (H n) fs)) (sym (figures-long s bytes q)) ∙ ap (λ (ps : List Part). starts_in ps) (sym (parts-written s bytes q))
        in
        ap starts_of y
        ∙ ap (λ k. starts_in (parts_of k more)) more-head
        ∙ starts-last (G + d) fs g
        ∙ ap₂ (λ (l : List ℕ) k. l ++ (k ∷ [])) (starts-moved G d fs ∙ ap (map (λ a. a + d)) old) size

  -- one outline less
  module _ (k : ℕ) (here : k < length j.parts) where
    abbrev less : List (List (List ℕ))
    less = take k (figures j) ++ drop (suc k) (figures j)

    abbrev A : List (List (List ℕ))
    A = take k (figures j)

    abbrev B : List (List (List ℕ))
    B = drop (suc k) (figures j)

    abbrev F : List ℕ
    F = figure_bytes (get_or (figures j) k [])

    in_figures : k < length (figures j)
    in_figures = omega (arith, here, figures-long s bytes q)

    less_count : length less ≡ length j.parts - 1
    less_count = omega (arith, length-append A B, length-take k (figures j), length-drop (suc k) (figures j), in_figures, figures-long s bytes q)

    less_head : H (length j.parts) ≡ H (length less) + grown (length j.parts - 1)
    less_head =
        let r = accepted-range s bytes q in
        let n : length j.parts ≡ length j.parts - 1 + 1 = omega (arith, here) in
        ap H n
        ∙ header-grown j.threshold j.weight (length j.parts - 1) (omega (arith, r.count, here))
        ∙ ap (λ x. H x + grown (length j.parts - 1)) (sym less_count)

    -- the removed outline's bytes
    removed-bytes : length (taken s k).part ≡ length F
    unfolding taken
    removed-bytes =
        let p : (part_taken s k (read j last)).part ≡ part_bytes s (get_or j.parts k no_part) = simp (lt-ltb k (length j.parts) here) in
        let o = (part-only s bytes q k here).0 in
        let fits : (get_or j.parts k no_part).end ≡ (get_or j.parts k no_part).start + length (figure_bytes (get_or j.parts k no_part).rings) = o.1 in
        let n : (get_or j.parts k no_part).end - (get_or j.parts k no_part).start ≡ length (figure_bytes (get_or j.parts k no_part).rings) = omega (arith, fits) in
        ap (λ (u : TakeSaid). length u.part) (ap (part_taken s k) q)
        ∙ ap length (p ∙ ap (λ m. take m (drop (get_or j.parts k no_part).start s)) n ∙ o.0)
        ∙ ap (λ (ls : List (List ℕ)). length (figure_bytes ls)) (sym (get_or-map (λ (p : Part). p.rings) j.parts k no_part))

    pub without-long : length (without_outline j k) ≡ shorter s k (length j.parts)
    unfolding without_outline job_bytes
    without-long =
        omega (
          arith,
          whole_long,
          less_head,
          removed-bytes,
          length-append (header_bytes j.threshold j.weight (length less)) (outlines_bytes less),
          ap length (outlines-append A B),
          length-append (outlines_bytes A) (outlines_bytes B),
          ap length (outlines_split (figures j) k in_figures),
          length-append (outlines_bytes A) (F ++ outlines_bytes B),
          length-append F (outlines_bytes B),
        )

    pub without-short : length (without_outline j k) ≤ most_bytes
    without-short = let r = accepted-range s bytes q in omega (arith, without-long, r.bytes)

    pub without_back : job (without_outline j k)
        ≡ read
        (record {
          threshold = j.threshold;
          weight = j.weight;
          parts = parts_of (H (length less)) less;
        })
        (length (without_outline j k))
    unfolding without_outline
    without_back =
        let r = accepted-range s bytes q in
        job-back j.threshold j.weight less
        (writable_job j.threshold j.weight less r.threshold r.weight (omega (arith, less_count, r.count)) (without-drawn s bytes q k) without-short)

    pub without-count : length (parts_of (H (length less)) less) ≡ length j.parts - 1
    without-count = parts-long (H (length less)) less ∙ less_count

    pub remove_offsets : {i : Job} {m : ℕ} → job (without_outline j k) ≡ read i m
        → (take k (starts_of j) ≡ map (λ a. a + grown (length j.parts - 1)) (take k (starts_of i)))
        × (drop (suc k) (starts_of j) ≡ map (λ a. a + (grown (length j.parts - 1) + length (taken s k).part)) (drop k (starts_of i)))
    remove_offsets {i} {m} e =
        let fs : List (List (List ℕ)) = figures j in
        let z = sym e ∙ without_back in
        let made : Job = record { threshold = j.threshold; weight = j.weight; parts = parts_of (H (length less)) less } in
        let y : i ≡ made = cc in
        let d : ℕ = grown (length j.parts - 1) in
        let G : ℕ = H (length less) in
        let la : length A ≡ k = length-take-le k fs (omega (arith, in_figures)) in
        let old : starts_of j ≡ starts_in (parts_of (G + d) fs) =
        ap (λ (ps : List Part). starts_in ps) (parts-written s bytes q) ∙ ap (λ n. starts_in (parts_of (H n) fs)) (figures-long s bytes q) ∙ ap (λ x. starts_in (parts_of x fs)) less_head
        in
        let front : take k (starts_of i) ≡ starts_in (parts_of G A) =
        ap (λ (l : Job). take k (starts_of l)) y ∙ take-starts G k less ∙ ap (λ (l : List (List (List ℕ))). starts_in (parts_of G l)) (take_at A B k la)
        in
        let rear : drop k (starts_of i) ≡ starts_in (parts_of (G + length (outlines_bytes A)) B) =
        ap (λ (l : Job). drop k (starts_of l)) y
        ∙ drop-starts G k less
        ∙ ap₂ (λ (l u : List (List (List ℕ))). starts_in (parts_of (G + length (outlines_bytes l)) u)) (take_at A B k la) (drop_at A B k la)
        in
        let upto : length (outlines_bytes (take (suc k) fs)) ≡ length (outlines_bytes A) + length F =
        ap (λ (l : List (List (List ℕ))). length (outlines_bytes l)) (take-suc fs k [] in_figures)
        ∙ ap length (outlines-last A (get_or fs k []))
        ∙ length-append (outlines_bytes A) F
        in
        let at : G + d + length (outlines_bytes (take (suc k) fs)) ≡ G + length (outlines_bytes A) + (d + length (taken s k).part) =
        omega (arith, upto, removed-bytes)
        in (
          ap (take k) old ∙ take-starts (G + d) k fs ∙ starts-moved G d A ∙ ap (map (λ a. a + d)) (sym front),
          ap (drop (suc k)) old
              ∙ drop-starts (G + d) (suc k) fs
              ∙ ap (λ x. starts_in (parts_of x B)) at
              ∙ starts-moved (G + length (outlines_bytes A)) (d + length (taken s k).part) B
              ∙ ap (map (λ a. a + (d + length (taken s k).part))) (sym rear),
        )
