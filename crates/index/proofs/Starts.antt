-- Laws of noting where figures begin, and of finding one by its entry. Assumes nothing.
--
--   many-more-last, many_broken == one more behind those in a row that are read; a fault behind them
--   located_here     == past no figure and then past one: the figure at a place
--   here-part, here-within, here-fault == what is known of it
--   Noting           == the state of the loop that notes: those read so far, and their starts stored
--   noting_start, noting_fault, noting_more, noting_done == the loop's ways
--   found-long, found-count, found-room, found_here == the ways of `found`, by what `locate` tells
--   found-read       == an outline that is found is read where the entry points
--   none_found, one_found == what is found, by where it stands
--   picked-fault, picked-part, picked-within, at-fault, at_part == picking, by where it is found
use Prim.Native.Nat.{ℕ, zero, suc, ◌+◌, ◌-◌, ◌<◌, ◌≤◌}
use mathlib.Core.Path.{◌≡◌, ◌∙◌, refl, sym, ap, ap₂, subst}
use mathlib.Core.List.{List, [], ◌∷◌, ◌++◌, map}
use mathlib.Core.Bool.{Bool, true, false, cond, ◌&&◌}
use native.Mathlib.Nat.{le_of_suc-le-suc, not-suc-le-zero}
use native.Mathlib.Numerals.{add-one}
use native.Mathlib.Omega.{arith}
use lib.Dec.{ltb}
use lib.ListN.{length, get_or, take, drop, set, length-map, length-take}
use lib.Seq.{sets}
use borrow.Author.Tests.{lt-ltb, le-ltb, ltb-true}
use Rattle.sum.proofs.Lists.{sets_append, sets_front}
use Rattle.refusal.specs.declared.Refusal.{Refusal}
use Rattle.refusal.specs.declared.Refusal.TheVariants.{Long, Missing}
use Rattle.refusal.specs.Refusals.{refusal_no}
use Rattle.number.specs.Reading.{Reading, read, fault, and_then, many, past}
use Rattle.number.proofs.Number.{apart}
use Rattle.number.proofs.Reading.{then_same, many-none, many_go, many-fault, many-cons, many-first, many-length}
use Rattle.job.specs.Job.{most_bytes, outline, Part, part, outlines}
use Rattle.job.specs.Steps.{located}
use Rattle.job.specs.Calls.{told}
use Rattle.job.specs.Placed.{Lies}
use Rattle.job.proofs.Job.{told-fault, told-read, part-read, outline-onward}
use Rattle.job.proofs.Unpacking.{sets_all}
use Rattle.index.specs.Index.{found, picked_by, picked, start_in, picked_at}
use Rattle.index.specs.Steps.{starts_in, Noted, place_of}

-- many in a row

module _ {A : Type 0} (f : ℕ → Reading A) where
  pub many-more-last : (n at : ℕ) {l : List A} {next last : ℕ} {a : A} → many f n at ≡ read l next → f next ≡ read a last
      → many f (suc n) at ≡ read (l ++ (a ∷ [])) last
  unfolding many
  many-more-last zero at {l} {next} {last} {a} e g =
      let z : [] ≡ l = cc in
      let y : at ≡ next = cc in
      many-cons f at 0 (ap f y ∙ g) (many-none f last) ∙ ap (λ (m : List A). read (m ++ (a ∷ [])) last) z
  many-more-last (suc n) at {l} {next} {last} {a} e g =
      let i = many-first f n at e in
      many-cons f at (suc n) i.3 (many-more-last n i.1 i.4 g)
      ∙ ap (λ (m : List A). read (m ++ (a ∷ [])) last) (sym i.5)

  pub many_broken : (n at m : ℕ) {l : List A} {next p : ℕ} {r : Refusal} → many f n at ≡ read l next → f next ≡ fault r p → n < m
      → many f m at ≡ fault r p
  unfolding many
  many_broken n at zero e g h = absurd (not-suc-le-zero h)
  many_broken zero at (suc m) {l} {next} e g h = let y : at ≡ next = cc in many-fault f at m (ap f y ∙ g)
  many_broken (suc n) at (suc m) e g h =
      let i = many-first f n at e in
      many_go f at m i.3 ∙ then_same (λ l last. read (i.0 ∷ l) last) (many_broken n i.1 m i.4 g (le_of_suc-le-suc h))

map_last : {A B : Type 0} (f : A → B) (l : List A) (a : A) → map f (l ++ (a ∷ [])) ≡ map f l ++ (f a ∷ [])
map_last f [] a = refl
map_last f (b ∷ l) a = ap (λ m. f b ∷ m) (map_last f l a)

-- the figure at a place

module _ (s : List ℕ) (at : ℕ) where
  pub located_here : located s 0 at ≡ place_of (part s at)
  unfolding located outlines many part place_of
  located_here = go (outline s at)
    where
      go : (u : Reading (List (List ℕ)))
          → and_then u (λ l end. read at end)
          ≡ and_then (and_then u (λ ls next. read (record { start = at; end = next; rings = ls }) next)) (λ (p : Part) next. read p.start next)
      go (read l next) = refl
      go (fault r p) = refl

  pub here-part : {start end : ℕ} → read start end ≡ located s 0 at → (p : Part) × (part s at ≡ read p end) × (p.start ≡ start)
  unfolding place_of
  here-part e = told-read (λ (p : Part). p.start) (part s at) (e ∙ located_here)

  pub here-fault : {r : Refusal} {p : ℕ} → fault r p ≡ located s 0 at → part s at ≡ fault r p
  unfolding place_of
  here-fault e = told-fault (λ (p : Part). p.start) (part s at) (e ∙ located_here)

  pub here-within : {start end : ℕ} → read start end ≡ located s 0 at → (start ≤ end) × (end ≤ length s)
  here-within e =
      let h = here-part e in
      let r = part-read s at h.1 in
      let o = outline-onward s at r.0 in
      omega (arith, h.2, r.1, o)

-- the loop that notes

pub record Noting (s : List ℕ) (from : ℕ) (before : List ℕ) (i at : ℕ) (starts : List ℕ) : Type 0 where
  pub done : List Part
  pub reads : outlines s i from ≡ read done at
  pub stored : starts ≡ sets before 0 (starts_in done)

module _ (s : List ℕ) (from : ℕ) (before : List ℕ) where
  pub noting_start : Noting s from before 0 from before
  unfolding outlines
  noting_start = record { done = []; reads = many-none (part s) from; stored = refl }

  module _ (i at : ℕ) (starts : List ℕ) (g : Noting s from before i at starts) where
    pub noting_more : {start end : ℕ} → read start end ≡ located s 0 at → Noting s from before (i + 1) end (set starts i start)
    unfolding outlines
    noting_more {start} {end} e =
        let h = here-part s at e in
        let n : length (starts_in g.done) ≡ i = length-map g.done (λ (p : Part). p.start) ∙ many-length (part s) i from g.reads in
        let z : 0 + length (starts_in g.done) ≡ i = omega (arith, n) in
        record {
          done = g.done ++ (h.0 ∷ []);
          reads = ap (λ m. many (part s) m from) (add-one i) ∙ many-more-last (part s) i from g.reads h.1;
          stored =
              ap₂ (λ (l : List ℕ) v. set l i v) g.stored (sym h.2)
              ∙ ap (λ m. sets (sets before 0 (starts_in g.done)) m (h.0.start ∷ [])) (sym z)
              ∙ sym (sets_append before 0 (starts_in g.done) (h.0.start ∷ []))
              ∙ ap (sets before 0) (sym (map_last (λ (p : Part). p.start) g.done h.0));
        }

    pub noting_fault : (n : ℕ) {r : Refusal} {p : ℕ} → fault r p ≡ located s 0 at → i < n → (l m : List ℕ)
        → (fault r p ≡ past (outlines s n from)) × Noted (outlines s n from) l m
    unfolding outlines
    noting_fault n e h l m =
        let b = many_broken (part s) i from n g.reads (here-fault s at e) h in
        (sym (ap past b), subst (λ u. Noted u l m) (sym b) tt)

    -- what was noted is the front of a list
    pub noting_done : (n : ℕ) → n ≤ i → i ≤ n → (l : List ℕ) → before ≡ take n l → n ≤ length l
        → (read tt at ≡ past (outlines s n from)) × Noted (outlines s n from) l (starts ++ drop n l)
    unfolding outlines
    noting_done n h k l front room =
        let z : n ≡ i = omega arith in
        let b = ap (λ m. outlines s m from) z ∙ g.reads in
        let S : List ℕ = starts_in g.done in
        let m : length S ≡ i = length-map g.done (λ (p : Part). p.start) ∙ many-length (part s) i from g.reads in
        let y : n ≡ length S = omega arith in
        let stored : starts ≡ S = g.stored ∙ ap (λ (t : List ℕ). sets t 0 S) front ∙ sets_all (take n l) S (omega (arith, length-take n l)) in
        let all : starts ++ drop n l ≡ sets l 0 S =
        ap₂ (λ (t : List ℕ) q. t ++ drop q l) stored y ∙ sym (sets_front l S (omega arith))
        in (sym (ap past b), subst (λ u. Noted u l (starts ++ drop n l)) (sym b) all)

-- finding by an entry

module _ (s index : List ℕ) (n k : ℕ) where
  pub found-long : most_bytes < length s → fault Long 0 ≡ place_of (found s index n k)
  unfolding place_of found
  found-long h = simp (lt-ltb most_bytes (length s) h)

  module _ (short : length s ≤ most_bytes) where
    pub found-count : n ≤ k → fault Missing 0 ≡ place_of (found s index n k)
    unfolding place_of found
    found-count h = simp (le-ltb most_bytes (length s) short, le-ltb k n h)

    pub found-room : k < n → length index ≤ k → fault Missing 0 ≡ place_of (found s index n k)
    unfolding place_of found
    found-room c h = simp (le-ltb most_bytes (length s) short, lt-ltb k n c, le-ltb k (length index) h)

    found-there : k < n → k < length index → found s index n k ≡ part s (get_or index k 0)
    unfolding found
    found-there c h = simp (le-ltb most_bytes (length s) short, lt-ltb k n c, lt-ltb k (length index) h)

    pub found_here : k < n → k < length index → {at : ℕ} {u : Reading ℕ} → at ≡ get_or index k 0 → u ≡ located s 0 at
        → u ≡ place_of (found s index n k)
    found_here c h {at} e f = f ∙ located_here s at ∙ ap (λ m. place_of (part s m)) e ∙ ap place_of (sym (found-there c h))

  -- an outline that is found is read where the entry points
  pub found-read : {p : Part} {next : ℕ} → found s index n k ≡ read p next → (part s (get_or index k 0) ≡ read p next) × (k < n) × (k < length index)
  unfolding found
  found-read {p} {next} e = go (ltb most_bytes (length s)) (ltb k n) refl (ltb k (length index)) refl e
    where
      go : (a b : Bool) → ltb k n ≡ b → (d : Bool) → ltb k (length index) ≡ d
          → cond a (fault Long 0) (cond (b && d) (part s (get_or index k 0)) (fault Missing 0)) ≡ read p next
          → (part s (get_or index k 0) ≡ read p next) × (k < n) × (k < length index)
      go true b x d y f = absurd (apart (sym f))
      go false true x true y f = (f, ltb-true k n x, ltb-true k (length index) y)
      go false true x false y f = absurd (apart (sym f))
      go false false x d y f = absurd (apart (sym f))

  module _ {r : Refusal} {p : ℕ} (e : fault r p ≡ place_of (found s index n k)) where
    pub none_found : found s index n k ≡ fault r p
    unfolding place_of
    none_found = told-fault (λ (q : Part). q.start) (found s index n k) e

    pub picked-fault : {m : ℕ} → m ≡ refusal_no r → told m p [] ≡ picked s index n k
    unfolding picked
    picked-fault f = ap (λ m. told m p []) f ∙ sym (ap (picked_by s) none_found)

    pub at-fault : (b o : ℕ) → Lies (b, 0 + o) (b, o) (picked_at s index n k)
    unfolding picked_at
    at-fault b o = let z : picked_at s index n k ≡ 0 = ap start_in none_found in (refl, omega (arith, z))

  module _ {start end : ℕ} (e : read start end ≡ place_of (found s index n k)) where
    pub one_found : (p : Part) × (found s index n k ≡ read p end) × (p.start ≡ start) × (p.end ≡ end) × (start ≤ end) × (end ≤ length s)
    unfolding place_of
    one_found =
        let u = told-read (λ (q : Part). q.start) (found s index n k) e in
        let f = found-read u.1 in
        let r = part-read s (get_or index k 0) f.0 in
        let o = outline-onward s (get_or index k 0) r.0 in
        (u.0, u.1, u.2, r.2, omega (arith, u.2, r.1, o), omega (arith, o))

    pub picked-within : (start ≤ end) × (end ≤ length s)
    picked-within = (one_found.4, one_found.5)

    pub picked-part : told 0 0 (take (end - start) (drop start s)) ≡ picked s index n k
    unfolding picked
    picked-part =
        let u = one_found in
        ap₂ (λ x y. told 0 0 (take (y - x) (drop x s))) (sym u.2) (sym u.3) ∙ sym (ap (picked_by s) u.1)

    pub at_part : (b o : ℕ) → Lies (b, start + o) (b, o) (picked_at s index n k)
    unfolding picked_at
    at_part b o = let u = one_found in let z : picked_at s index n k ≡ start = ap start_in u.1 ∙ u.2 in (refl, omega (arith, z))
