-- An accepted job is a job that was written, and so is one with an outline more or one less. Assumes nothing.
--
--   each_all, all-nth  == a property of all members, by their places
--   outlines-append, outlines-last, outlines_split == the bytes of figures in two runs
--   header-length, header_less == how long a header is
--   parts-long, parts_at == where figures stand that are written one after another
--   parted-written   == bytes of figures that can be written, behind a header, are a job
--   figures-drawn, without-drawn, parts-written, header-same, first-is, run_short == what is known of an accepted job by its bytes
--   append-parted, append-is, remove_front, remove_back, remove_parted, remove_is == the two runs of bytes of the new job, and what is said of it
use Prim.Native.Nat.{ℕ, zero, suc, ◌+◌, ◌-◌, ◌<◌, ◌≤◌, suc-le-suc}
use mathlib.Core.Path.{◌≡◌, ◌∙◌, refl, sym, ap, ap₂, subst}
use mathlib.Core.List.{List, [], ◌∷◌, ◌++◌, append_assoc, append-nil}
use mathlib.Core.Bool.{Bool, true, false, cond}
use native.Mathlib.Nat.{add-zero, le_of_suc-le-suc, not-suc-le-zero}
use native.Mathlib.Omega.{arith}
use lib.ListN.{length, get_or, take, drop, length-append, length-map, length-take, length-drop, take-append-drop, get_or-map}
use lib.Seq.{take_all, take_at, drop_at, split_at, drop-append-add}
use lib.Dec.{ltb}
use borrow.Author.Tests.{le-leb, lt-leb, lt-ltb, le-ltb, ltb-true, ltb-false}
use Rattle.sum.specs.Sum.{All}
use Rattle.sum.proofs.Lists.{All-append, All-parts}
use Rattle.refusal.specs.declared.Refusal.TheVariants.{Length, Full, Missing}
use Rattle.refusal.specs.declared.Refusal.{Refusal}
use Rattle.refusal.specs.Refusals.{refusal_no}
use Rattle.rule.specs.Rules.{limit}
use Rattle.number.specs.Reading.{read, fault}
use Rattle.number.specs.Number.{number_bytes}
use Rattle.number.proofs.Bytes.{AllBytes, bytes_one, bytes-two}
use Rattle.figure.specs.Figure.{Figure, share, bad_figure}
use Rattle.job.specs.Bytes.{header_bytes, figure_bytes, outlines_bytes, job_bytes}
use Rattle.job.specs.Job.{most_bytes, most_outlines, figure_of, Part, Header, header, Job, job}
use Rattle.job.specs.Steps.{whole, located}
use Rattle.job.specs.Calls.{no_part}
use Rattle.job.proofs.Rings.{share_back}
use Rattle.job.proofs.Calls.{fault-whole, read_whole, job-said, located-within}
use Rattle.job.proofs.RoundTrip.{Drawable, Writable, parts_of, job-back, job_only, part-only, header-only}
use Rattle.job.proofs.Anew.{accepted-range}
use Rattle.index.specs.Index.{figures, ChangeSaid, unchanged, with_outline, without_outline, appended_to, appended, removed_from, removed}
use Rattle.index.specs.Steps.{Parted, changed_for}

-- all of a list, by each place of it
module _ {A : Type 0} (Q : A → Type 0) where
  each_all : (l : List A) (d : A) → ((k : ℕ) → k < length l → Q (get_or l k d)) → All Q l
  each_all [] d h = tt
  each_all (a ∷ l) d h = (h zero (omega arith), each_all l d (λ k m. h (suc k) (suc-le-suc m)))

  all-nth : (l : List A) (d : A) → All Q l → (k : ℕ) → k < length l → Q (get_or l k d)
  all-nth [] d h k m = absurd (not-suc-le-zero m)
  all-nth (a ∷ l) d h zero m = h.0
  all-nth (a ∷ l) d h (suc k) m = all-nth l d h.1 k (le_of_suc-le-suc m)

-- each number is a place
pub all_words : (l : List ℕ) → ((i : ℕ) → get_or l i 0 ≤ 65535) → All (λ n. n ≤ 65535) l
all_words l h = each_all (λ n. n ≤ 65535) l 0 (λ k m. h k)

-- the bytes of figures, in two runs

pub outlines-append : (fs gs : List (List (List ℕ))) → outlines_bytes (fs ++ gs) ≡ outlines_bytes fs ++ outlines_bytes gs
unfolding outlines_bytes
outlines-append [] gs = refl
outlines-append (f ∷ fs) gs =
    ap (λ (b : List ℕ). figure_bytes f ++ b) (outlines-append fs gs) ∙ sym (append_assoc (figure_bytes f) (outlines_bytes fs) (outlines_bytes gs))

pub outlines-last : (fs : List (List (List ℕ))) (g : List (List ℕ)) → outlines_bytes (fs ++ (g ∷ [])) ≡ outlines_bytes fs ++ figure_bytes g
unfolding outlines_bytes
outlines-last fs g = outlines-append fs (g ∷ []) ∙ ap (λ (b : List ℕ). outlines_bytes fs ++ b) (append-nil (figure_bytes g))

pub outlines_split : (fs : List (List (List ℕ))) (k : ℕ) → k < length fs
    → outlines_bytes fs ≡ outlines_bytes (take k fs) ++ (figure_bytes (get_or fs k []) ++ outlines_bytes (drop (suc k) fs))
unfolding outlines_bytes
outlines_split fs k h = ap outlines_bytes (split_at fs k [] h) ∙ outlines-append (take k fs) (get_or fs k [] ∷ drop (suc k) fs)

-- a header's length, by its K: one byte more from 128 on

count-length : (n : ℕ) → n ≤ most_outlines → length (number_bytes n) ≡ cond (ltb n 128) 1 2
count-length n h = go (ltb n 128) refl
  where
    go : (b : Bool) → ltb n 128 ≡ b → length (number_bytes n) ≡ cond b 1 2
    go true e = ap length (bytes_one n (ltb-true n 128 e))
    go false e = ap length (bytes-two n (ltb-false n 128 e) (omega (arith, h)))

pub header-length : (t w n : ℕ) → n ≤ most_outlines → length (header_bytes t w n) ≡ length (number_bytes t) + length (number_bytes w) + cond (ltb n 128) 1 2
unfolding header_bytes
header-length t w n h =
    let T : List ℕ = number_bytes t in
    let W : List ℕ = number_bytes w in
    omega (arith, length-append T (W ++ number_bytes n), length-append W (number_bytes n), count-length n h)

pub header_less : (t w n : ℕ) → n ≤ most_outlines → length (header_bytes t w (n - 1)) ≤ length (header_bytes t w n)
header_less t w n h = go (ltb (n - 1) 128) refl (ltb n 128) refl
  where
    go : (a : Bool) → ltb (n - 1) 128 ≡ a → (b : Bool) → ltb n 128 ≡ b → length (header_bytes t w (n - 1)) ≤ length (header_bytes t w n)
    go a p b q =
        let x = header-length t w (n - 1) (omega (arith, h)) ∙ ap (λ (c : Bool). length (number_bytes t) + length (number_bytes w) + cond c 1 2) p in
        let y = header-length t w n h ∙ ap (λ (c : Bool). length (number_bytes t) + length (number_bytes w) + cond c 1 2) q in
        least a p b q x y
      where
        least : (a : Bool) → ltb (n - 1) 128 ≡ a → (b : Bool) → ltb n 128 ≡ b
            → length (header_bytes t w (n - 1)) ≡ length (number_bytes t) + length (number_bytes w) + cond a 1 2
            → length (header_bytes t w n) ≡ length (number_bytes t) + length (number_bytes w) + cond b 1 2
            → length (header_bytes t w (n - 1)) ≤ length (header_bytes t w n)
        least true p true q x y = omega (arith, x, y)
        least true p false q x y = omega (arith, x, y)
        least false p true q x y = absurd (omega (arith, ltb-false (n - 1) 128 p, ltb-true n 128 q))
        least false p false q x y = omega (arith, x, y)

-- where figures stand

pub parts-long : (at : ℕ) (fs : List (List (List ℕ))) → length (parts_of at fs) ≡ length fs
parts-long at [] = refl
parts-long at (g ∷ fs) = ap suc (parts-long (at + length (figure_bytes g)) fs)

pub parts_at : (at : ℕ) (fs : List (List (List ℕ))) (k : ℕ) → k < length fs
    → ((get_or (parts_of at fs) k no_part).start ≡ at + length (outlines_bytes (take k fs)))
    × ((get_or (parts_of at fs) k no_part).end ≡ at + length (outlines_bytes (take k fs)) + length (figure_bytes (get_or fs k [])))
unfolding outlines_bytes
parts_at at [] k h = absurd (not-suc-le-zero h)
parts_at at (g ∷ fs) zero h = (sym (add-zero at), ap (λ n. n + length (figure_bytes g)) (sym (add-zero at)))
parts_at at (g ∷ fs) (suc k) h =
    let i = parts_at (at + length (figure_bytes g)) fs k (le_of_suc-le-suc h) in
    let n = length-append (figure_bytes g) (outlines_bytes (take k fs)) in
    (omega (arith, i.0, n), omega (arith, i.1, n))

-- figures that can be written

abbrev pub Writables : List (List (List ℕ)) → Type 0
Writables fs = All (λ (ls : List (List ℕ)). Drawable (figure_of ls)) fs

pub writable_job : (t w : ℕ) (fs : List (List (List ℕ))) → t ≤ limit → w ≤ limit → length fs ≤ most_outlines → Writables fs
    → length (job_bytes t w fs) ≤ most_bytes → Writable t w fs
writable_job t w fs ht hw hn all short =
    record {
      threshold = ht;
      weight = hw;
      count = hn;
      outlines = all-nth (λ (ls : List (List ℕ)). Drawable (figure_of ls)) fs [] all;
      short = short;
    }

parted-written : (t w n : ℕ) (l : List ℕ) (fs : List (List (List ℕ))) → t ≤ limit → w ≤ limit → n ≤ most_outlines → length fs ≡ n
    → l ≡ outlines_bytes fs → Writables fs → Parted t w n l
unfolding job_bytes
parted-written t w n l fs ht hw hn long e all =
    let same : header_bytes t w n ++ l ≡ job_bytes t w fs = ap₂ (λ m (b : List ℕ). header_bytes t w m ++ b) (sym long) e in
    record {
      threshold = ht;
      weight = hw;
      count = hn;
      reads = λ short. (
        record { threshold = t; weight = w; parts = parts_of (length (header_bytes t w (length fs))) fs },
        length (job_bytes t w fs),
        ap job same ∙ job-back t w fs (writable_job t w fs ht hw (omega (arith, long)) all (omega (arith, ap length same))),
        parts-long (length (header_bytes t w (length fs))) fs ∙ long,
      );
    }

-- an accepted job

module _ (s : List ℕ) (bytes : AllBytes s) {j : Job} {last : ℕ} (q : job s ≡ read j last) where
  pub figures-long : length (figures j) ≡ length j.parts
  figures-long = length-map j.parts (λ (p : Part). p.rings)

  pub figures-drawn : Writables (figures j)
  figures-drawn =
      each_all (λ (ls : List (List ℕ)). Drawable (figure_of ls)) (figures j) []
      (λ k m.
      subst (λ (ls : List (List ℕ)). Drawable (figure_of ls)) (sym (get_or-map (λ (p : Part). p.rings) j.parts k no_part))
      (part-only s bytes q k (omega (arith, figures-long))).1)

  -- without one of them
  pub without-drawn : (k : ℕ) → Writables (take k (figures j) ++ drop (suc k) (figures j))
  without-drawn k =
      let D : List (List ℕ) → Type 0 = λ (ls : List (List ℕ)). Drawable (figure_of ls) in
      let x = All-parts D (take k (figures j)) (drop k (figures j)) (subst (λ (l : List (List (List ℕ))). All D l) (sym (take-append-drop k (figures j))) figures-drawn) in
      let y = All-parts D (take (suc k) (figures j)) (drop (suc k) (figures j)) (subst (λ (l : List (List (List ℕ))). All D l) (sym (take-append-drop (suc k) (figures j))) figures-drawn) in
      All-append D (take k (figures j)) (drop (suc k) (figures j)) x.0 y.1

  -- no run of its bytes is longer than a job may be
  pub run_short : (n m : ℕ) → length (take n (drop m s)) ≤ most_bytes
  run_short n m = let a = accepted-range s bytes q in omega (arith, a.bytes, length-take n (drop m s), length-drop m s)

  -- the job's parts are where its figures were written
  pub parts-written : j.parts ≡ parts_of (length (header_bytes j.threshold j.weight (length (figures j)))) (figures j)
  parts-written =
      let a = accepted-range s bytes q in
      let same = job_only s bytes q in
      let back =
      job-back j.threshold j.weight (figures j)
      (writable_job j.threshold j.weight (figures j) a.threshold a.weight (omega (arith, a.count, figures-long)) figures-drawn
      (omega (arith, a.bytes, ap length same)))
      in
      let z = sym q ∙ ap job same ∙ back in
      let made : Job =
      record {
        threshold = j.threshold;
        weight = j.weight;
        parts = parts_of (length (header_bytes j.threshold j.weight (length (figures j)))) (figures j);
      }
      in
      let y : j ≡ made = cc in
      ap (λ (i : Job). i.parts) y

  module _ {h : Header} {next : ℕ} (hd : header s ≡ read h next) where
    said : (j.threshold ≡ h.threshold) × (j.weight ≡ h.weight) × (length j.parts ≡ h.count)
    said = job-said s q hd

    pub header-same : header_bytes j.threshold j.weight (length (figures j)) ≡ header_bytes h.threshold h.weight h.count
    header-same =
        ap₂ (λ t w. header_bytes t w (length (figures j))) said.0 said.1
        ∙ ap (header_bytes h.threshold h.weight) (figures-long ∙ said.2)

    pub first-is : length (header_bytes j.threshold j.weight (length (figures j))) ≡ next
    first-is = let z = (header-only s bytes hd).1 in omega (arith, z, ap length header-same)

    pub first-within : next ≤ length s
    unfolding job_bytes
    first-within =
        let z = job_only s bytes q in
        omega (
          arith,
          first-is,
          ap length z,
          length-append (header_bytes j.threshold j.weight (length (figures j))) (outlines_bytes (figures j)),
        )

    body_is : drop next s ≡ outlines_bytes (figures j)
    unfolding job_bytes
    body_is =
        ap (drop next) (job_only s bytes q)
        ∙ drop_at (header_bytes j.threshold j.weight (length (figures j))) (outlines_bytes (figures j)) next first-is

    -- an outline more
    module _ (f : Figure) (good : bad_figure f ≡ false) (words : All (λ n. n ≤ 65535) f.numbers) (front back : List ℕ)
        (a : front ≡ take (length s - next) (drop next s)) (b : back ≡ figure_bytes (share f.lengths f.numbers)) (few : h.count < most_outlines) where
      abbrev more : List (List (List ℕ))
      more = figures j ++ (share f.lengths f.numbers ∷ [])

      more-long : length more ≡ h.count + 1
      more-long = omega (arith, length-append (figures j) (share f.lengths f.numbers ∷ []), figures-long, said.2)

      more_bytes : front ++ back ≡ outlines_bytes more
      more_bytes =
          ap₂ (λ (u v : List ℕ). u ++ v) (a ∙ take_all (length s - next) (drop next s) (omega (arith, length-drop next s)) ∙ body_is) b
          ∙ sym (outlines-last (figures j) (share f.lengths f.numbers))

      pub append-parted : Parted h.threshold h.weight (h.count + 1) (front ++ back)
      append-parted =
          let r = accepted-range s bytes q in
          let drawn : Drawable (figure_of (share f.lengths f.numbers)) = subst Drawable (sym (share_back f good)) (record { good = good; each = words }) in
          parted-written h.threshold h.weight (h.count + 1) (front ++ back) more (omega (arith, r.threshold, said.0)) (omega (arith, r.weight, said.1))
          (omega (arith, few)) more-long more_bytes (All-append (λ (ls : List (List ℕ)). Drawable (figure_of ls)) (figures j) (share f.lengths f.numbers ∷ []) figures-drawn (drawn, tt))

      more-is : header_bytes h.threshold h.weight (h.count + 1) ++ (front ++ back) ≡ with_outline j f
      unfolding with_outline job_bytes
      more-is =
          ap₂ (λ n (l : List ℕ). header_bytes h.threshold h.weight n ++ l) (sym more-long) more_bytes
          ∙ ap₂ (λ t w. header_bytes t w (length more) ++ outlines_bytes more) (sym said.0) (sym said.1)

      pub append-is : {u : ChangeSaid} (index out : List ℕ)
          → u ≡ changed_for (header_bytes h.threshold h.weight (h.count + 1) ++ (front ++ back)) index out → u ≡ appended s f index out
      unfolding changed_for appended
      append-is {u} index out e =
          let p : changed_for (with_outline j f) index out ≡ appended_to f index out (read j last) =
          simp (good, lt-leb most_outlines (length j.parts) (omega (arith, few, said.2)))
          in e ∙ ap (λ (l : List ℕ). changed_for l index out) more-is ∙ p ∙ sym (ap (appended_to f index out) q)

    -- one outline less
    module _ (k : ℕ) (here : k < h.count) {start end : ℕ} (at : located s k next ≡ read (get_or j.parts k no_part).start (get_or j.parts k no_part).end)
        (found : read start end ≡ located s k next) where
      abbrev less : List (List (List ℕ))
      less = take k (figures j) ++ drop (suc k) (figures j)

      in_figures : k < length (figures j)
      in_figures = omega (arith, here, figures-long, said.2)

      less_long : length less ≡ h.count - 1
      less_long =
          omega (
            arith,
            length-append (take k (figures j)) (drop (suc k) (figures j)),
            length-take k (figures j),
            length-drop (suc k) (figures j),
            in_figures,
            figures-long,
            said.2,
          )

      abbrev A : List ℕ
      A = outlines_bytes (take k (figures j))

      abbrev F : List ℕ
      F = figure_bytes (get_or (figures j) k [])

      abbrev B : List ℕ
      B = outlines_bytes (drop (suc k) (figures j))

      stands : (start ≡ next + length A) × (end ≡ next + length A + length F)
      stands =
          let H : ℕ = length (header_bytes j.threshold j.weight (length (figures j))) in
          let p = parts_at H (figures j) k in_figures in
          let z = found ∙ at in
          let x : start ≡ (get_or j.parts k no_part).start = cc in
          let y : end ≡ (get_or j.parts k no_part).end = cc in
          let v : get_or j.parts k no_part ≡ get_or (parts_of H (figures j)) k no_part = ap (λ (ps : List Part). get_or ps k no_part) parts-written in
          (omega (arith, x, ap (λ (i : Part). i.start) v, p.0, first-is), omega (arith, y, ap (λ (i : Part). i.end) v, p.1, first-is))

      rest-is : drop next s ≡ A ++ (F ++ B)
      rest-is = body_is ∙ outlines_split (figures j) k in_figures

      pub remove_within : (next ≤ start) × (start ≤ length s) × (end ≤ length s)
      remove_within =
          let w = located-within s k next found in
          (omega (arith, stands.0), omega (arith, w), omega (arith, w))

      remove_front : take (start - next) (drop next s) ≡ A
      remove_front =
          let n : length A ≡ start - next = omega (arith, stands.0) in ap (take (start - next)) rest-is ∙ take_at A (F ++ B) (start - next) n

      remove_back : take (length s - end) (drop end s) ≡ B
      unfolding job_bytes
      remove_back =
          let H : List ℕ = header_bytes j.threshold j.weight (length (figures j)) in
          let e : end ≡ length H + (length A + length F) = omega (arith, stands.1, first-is) in
          take_all (length s - end) (drop end s) (omega (arith, length-drop end s))
          ∙ ap₂ (λ n (l : List ℕ). drop n l) e (job_only s bytes q)
          ∙ drop-append-add H (outlines_bytes (figures j)) (length A + length F)
          ∙ ap (drop (length A + length F)) (outlines_split (figures j) k in_figures)
          ∙ drop-append-add A (F ++ B) (length F)
          ∙ drop_at F B (length F) refl

      module _ (front back : List ℕ) (a : front ≡ take (start - next) (drop next s)) (b : back ≡ take (length s - end) (drop end s)) where
        less_bytes : front ++ back ≡ outlines_bytes less
        less_bytes =
            ap₂ (λ (u v : List ℕ). u ++ v) (a ∙ remove_front) (b ∙ remove_back) ∙ sym (outlines-append (take k (figures j)) (drop (suc k) (figures j)))

        pub remove_parted : Parted h.threshold h.weight (h.count - 1) (front ++ back)
        remove_parted =
            let r = accepted-range s bytes q in
            parted-written h.threshold h.weight (h.count - 1) (front ++ back) less (omega (arith, r.threshold, said.0)) (omega (arith, r.weight, said.1))
            (omega (arith, r.count, said.2)) less_long less_bytes (without-drawn k)

        less_is : header_bytes h.threshold h.weight (h.count - 1) ++ (front ++ back) ≡ without_outline j k
        unfolding without_outline job_bytes
        less_is =
            ap₂ (λ n (l : List ℕ). header_bytes h.threshold h.weight n ++ l) (sym less_long) less_bytes
            ∙ ap₂ (λ t w. header_bytes t w (length less) ++ outlines_bytes less) (sym said.0) (sym said.1)

        -- it is no longer than the job was
        pub remove_is : {u : ChangeSaid} (index out : List ℕ)
            → u ≡ changed_for (header_bytes h.threshold h.weight (h.count - 1) ++ (front ++ back)) index out → u ≡ removed s k index out
        unfolding changed_for removed
        remove_is {u} index out e =
            let r = accepted-range s bytes q in
            let small = header_less h.threshold h.weight h.count (omega (arith, r.count, said.2)) in
            let fits : length (without_outline j k) ≤ most_bytes =
            omega (
              arith,
              small,
              first-is,
              ap length header-same,
              ap length less_is,
              length-append (header_bytes h.threshold h.weight (h.count - 1)) (front ++ back),
              length-append front back,
              ap length a,
              ap length b,
              length-take (start - next) (drop next s),
              length-drop next s,
              length-take (length s - end) (drop end s),
              length-drop end s,
              stands,
              r.bytes,
              remove_within,
            )
            in
            let p : changed_for (without_outline j k) index out ≡ removed_from k index out (read j last) =
            simp (le-ltb most_bytes (length (without_outline j k)) fits, lt-ltb k (length j.parts) (omega (arith, here, said.2)))
            in e ∙ ap (λ (l : List ℕ). changed_for l index out) less_is ∙ p ∙ sym (ap (removed_from k index out) q)

-- the refusals that come before

module _ (s index out : List ℕ) where
  pub append-fault : (f : Figure) {r : Refusal} {p : ℕ} → fault r p ≡ whole s → unchanged (refusal_no r) p index out ≡ appended s f index out
  unfolding appended
  append-fault f e = sym (ap (appended_to f index out) (fault-whole s e))

  pub remove_fault : (k : ℕ) {r : Refusal} {p : ℕ} → fault r p ≡ whole s → unchanged (refusal_no r) p index out ≡ removed s k index out
  unfolding removed
  remove_fault k e = sym (ap (removed_from k index out) (fault-whole s e))

  module _ {h : Header} {next : ℕ} (e : read h next ≡ whole s) where
    pub append_bad : (f : Figure) {why : Refusal} → bad_figure f ≡ true → why ≡ Length → unchanged (refusal_no why) 0 index out ≡ appended s f index out
    unfolding appended
    append_bad f {why} bad w =
        let r = read_whole s e in
        let p : unchanged (refusal_no Length) 0 index out ≡ appended_to f index out (read r.0 r.1) = simp bad in
        ap (λ (v : Refusal). unchanged (refusal_no v) 0 index out) w ∙ p ∙ sym (ap (appended_to f index out) r.2)

    pub append-full : (f : Figure) → bad_figure f ≡ false → most_outlines ≤ h.count → unchanged (refusal_no Full) 0 index out ≡ appended s f index out
    unfolding appended
    append-full f good full =
        let r = read_whole s e in
        let n = (job-said s r.2 r.3).2 in
        let p : unchanged (refusal_no Full) 0 index out ≡ appended_to f index out (read r.0 r.1) =
        simp (good, le-leb most_outlines (length r.0.parts) (omega (arith, full, n)))
        in p ∙ sym (ap (appended_to f index out) r.2)

    pub remove_missing : (k : ℕ) → h.count ≤ k → unchanged (refusal_no Missing) 0 index out ≡ removed s k index out
    unfolding removed
    remove_missing k c =
        let r = read_whole s e in
        let n = (job-said s r.2 r.3).2 in
        let p : unchanged (refusal_no Missing) 0 index out ≡ removed_from k index out (read r.0 r.1) =
        simp (le-ltb k (length r.0.parts) (omega (arith, c, n)))
        in p ∙ sym (ap (removed_from k index out) r.2)
