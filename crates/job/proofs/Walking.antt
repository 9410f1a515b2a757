-- Laws of the walk over the rings of a figure, which counts their corners. Assumes nothing.
--
--   Counting         == the state of the loop over rings: the corners so far, and the rings still to be read
--   counting-start, counting-stop, counting_more, counting-done == the loop's ways
use Prim.Native.Nat.{ℕ, ◌+◌, ◌-◌, ◌/◌, ◌<◌, ◌≤◌}
use mathlib.Core.Path.{◌≡◌, ◌∙◌, refl, sym, ap, ap₂}
use mathlib.Core.List.{List, ◌∷◌}
use native.Mathlib.Nat.{sub-zero}
use native.Mathlib.Omega.{arith}
use lib.ListN.{length}
use Rattle.sum.specs.Sum.{sum_of}
use Rattle.refusal.specs.declared.Refusal.{Refusal}
use Rattle.number.specs.Reading.{Reading, read, fault, and_then}
use Rattle.number.proofs.Reading.{one_less}
use Rattle.figure.specs.Figure.{most_corners, total}
use Rattle.job.specs.Job.{left_after, ring, rings_from, figure_of}
use Rattle.job.specs.Steps.{sized, summed}
use Rattle.job.proofs.Job.{told-fault, ring-sized, rings-fault, rings_go}

-- how many corners rings have together that are read, with so many before them
abbrev after : ℕ → Reading (List (List ℕ)) → Reading ℕ
after m u = and_then u (λ ls next. read (m + total (figure_of ls)) next)

after_none : (u : Reading (List (List ℕ))) → summed u ≡ after 0 u
unfolding summed
after_none (read ls next) = let e : total (figure_of ls) ≡ 0 + total (figure_of ls) = omega arith in ap (λ k. read k next) e
after_none (fault r p) = refl

after-cons : (m : ℕ) (l : List ℕ) (u : Reading (List (List ℕ))) → after m (and_then u (λ ls last. read (l ∷ ls) last)) ≡ after (m + length l / 2) u
unfolding sum_of
after-cons m l (read ls next) =
    let e : m + (length l / 2 + total (figure_of ls)) ≡ m + length l / 2 + total (figure_of ls) = omega arith in ap (λ k. read k next) e
after-cons m l (fault r p) = refl

-- on the way: what is told of all rings is told by those from the i-th on, and the corners so far
pub record Counting (s : List ℕ) (n from total i at : ℕ) : Type 0 where
  pub most : i ≤ n
  pub few : total ≤ most_corners
  pub all : summed (rings_from s n most_corners from) ≡ after total (rings_from s (n - i) (most_corners - total) at)

module _ (s : List ℕ) (n from : ℕ) where
  pub counting-start : Counting s n from 0 0 from
  counting-start =
      record { most = omega arith; few = omega arith; all = rw sub-zero (after_none (rings_from s n most_corners from)) }

  module _ (total i at : ℕ) (h : Counting s n from total i at) where
    module _ (k : i < n) where
      pub counting-stop : {r : Refusal} {p : ℕ} → fault r p ≡ sized (ring s (most_corners - total) at)
          → fault r p ≡ summed (rings_from s n most_corners from)
      unfolding sized
      counting-stop e =
          let u = told-fault (λ (l : List ℕ). length l / 2) (ring s (most_corners - total) at) e in
          sym
          (h.all
          ∙ ap (λ m. after total (rings_from s m (most_corners - total) at)) (one_less n i k)
          ∙ ap (after total) (rings-fault s (n - (i + 1)) (most_corners - total) at u))

      pub counting_more : {v next : ℕ} → read v next ≡ sized (ring s (most_corners - total) at) → Counting s n from (total + v) (i + 1) next
      counting_more {v} {next} e =
          let u = ring-sized s (most_corners - total) at e in
          let l : List ℕ = u.0 in
          let few : total ≤ most_corners = h.few in
          let left : left_after (most_corners - total) l ≡ most_corners - (total + v) = omega (arith, u.3) in
          record {
            most = omega arith;
            few = omega (arith, u.4);
            all =
                h.all
                ∙ ap (λ m. after total (rings_from s m (most_corners - total) at)) (one_less n i k)
                ∙ ap (after total) (rings_go s (n - (i + 1)) (most_corners - total) at u.1)
                ∙ after-cons total l (rings_from s (n - (i + 1)) (left_after (most_corners - total) l) next)
                ∙ ap₂ (λ w m. after (total + w) (rings_from s (n - (i + 1)) m next)) u.3 left;
          }

    pub counting-done : n ≤ i → read total at ≡ summed (rings_from s n most_corners from)
    unfolding rings_from sum_of
    counting-done k =
        let z : n - i ≡ 0 = omega arith in
        let y : total + 0 ≡ total = omega arith in
        sym
        (h.all
        ∙ ap (λ m. after total (rings_from s m (most_corners - total) at)) z
        ∙ ap (λ m. read m at) y)
