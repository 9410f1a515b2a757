-- The pass that writes: what is written and what is still to come give the whole. Assumes nothing.
--
--   run-numbers-length   == four numbers for each run
--   stored-four          == four stores in a row
--   Ahead, ahead-start, ahead-room, ahead_more, ahead-length, ahead-end   == on the way: i numbers written, the stretches from k on still to come
use Rattle.std.specs.Prelude.{Option, Some, None}
use Rattle.std.specs.Option.{unwrap_or}
use Prim.Native.Nat.{ℕ, zero, suc, ◌+◌, ◌*◌, ◌-◌, ◌≤◌}
use mathlib.Core.Path.{◌≡◌, refl, sym, ◌∙◌, ap, ap₂}
use mathlib.Core.List.{List, [], ◌∷◌, ◌++◌, append_assoc}
use native.Mathlib.Omega.{arith}
use lib.ListN.{length, take, drop, set, length-append}
use lib.Seq.{sets-eq, take_at, drop_at, drop-drop, length-take-le}
use Rattle.sum.specs.Sum.{join}
use Rattle.demands.specs.Promise.{written}
use Rattle.edge.specs.Landing.{Landing, Run, runs}
use Rattle.edge.specs.Promise.{run_numbers}
use Rattle.edge.specs.Steps.{put4, run_count, runs_written, Whole, shot_no}
use Rattle.edge.proofs.Laws.{runs-first}

take-drop : (i : ℕ) (l : List ℕ) → take i l ++ drop i l ≡ l
take-drop zero l = refl
take-drop (suc i) [] = refl
take-drop (suc i) (a ∷ l) = ap (λ m. a ∷ m) (take-drop i l)

length_rest : (i : ℕ) (l : List ℕ) → i ≤ length l → length (drop i l) + i ≡ length l
length_rest zero l h = omega arith
length_rest (suc i) [] h = absurd (omega arith)
length_rest (suc i) (a ∷ l) h = omega (arith, length_rest i l (omega arith))

pub run-numbers-length : (l : List Run) → length (run_numbers l) ≡ 4 * length l
unfolding run_numbers join
run-numbers-length [] = refl
run-numbers-length (r ∷ l) = omega (arith, run-numbers-length l)

-- store
-- no shot is written as 0
pub or_none : (s : Option ℕ) → unwrap_or s 0 ≡ shot_no s
unfolding shot_no
or_none None = refl
or_none (Some n) = refl

pub stored-four : (t : List ℕ) (i a b c d : ℕ) → i + 4 ≤ length t
    → set (set (set (set t i a) (i + 1) b) (i + 2) c) (i + 3) d ≡ put4 t i a b c d
unfolding put4
stored-four t i a b c d h =
    let x : i + 1 ≡ suc i = omega arith in
    let y : i + 2 ≡ suc (suc i) = omega arith in
    let z : i + 3 ≡ suc (suc (suc i)) = omega arith in
    ap (λ n. set (set (set (set t i a) n b) (i + 2) c) (i + 3) d) x
    ∙ ap (λ n. set (set (set (set t i a) (suc i) b) n c) (i + 3) d) y
    ∙ ap (λ n. set (set (set (set t i a) (suc i) b) (suc (suc i)) c) n d) z
    ∙ sets-eq (a ∷ b ∷ c ∷ d ∷ []) t i h
    ∙ append_assoc (take i t) (a ∷ b ∷ c ∷ d ∷ []) (drop (i + 4) t)

module _ (f : ℕ → Landing) (high : ℕ) where
  -- i numbers written, the stretches from k on still to come
  pub record Ahead (i k : ℕ) (u goal : List ℕ) : Type 0 where
    pub room : i + 4 * run_count f k high ≤ length u
    pub whole : take i u ++ (run_numbers (runs f k (high - k)) ++ drop (i + 4 * run_count f k high) u) ≡ goal

  pub ahead-start : (low : ℕ) (t : List ℕ) → 4 * run_count f low high ≤ length t → Ahead 0 low t (runs_written f low high t)
  unfolding runs_written written run_count
  ahead-start low t h =
      let z : 0 + 4 * run_count f low high ≡ length (run_numbers (runs f low (high - low))) = omega (arith, run-numbers-length (runs f low (high - low))) in
      record { room = omega arith; whole = ap (λ n. run_numbers (runs f low (high - low)) ++ drop n t) z }

  pub ahead-end : (i k : ℕ) (u goal : List ℕ) → high ≤ k → Ahead i k u goal → u ≡ goal
  unfolding run_count run_numbers join runs
  ahead-end i k u goal h a =
      let z : high - k ≡ 0 = omega arith in
      let n : i + 4 * length (runs f k (high - k)) ≡ i = omega (arith, ap (λ n. length (runs f k n)) z) in
      sym (take-drop i u)
      ∙ ap₂ (λ m k. take i u ++ (m ++ drop k u)) (sym (ap (λ n. run_numbers (runs f k n)) z)) (sym n)
      ∙ a.whole

  pub ahead-room : (i k to shot side : ℕ) (u goal : List ℕ) → Whole f k high to shot side → Ahead i k u goal → i + 4 ≤ length u
  unfolding run_count
  ahead-room i k to shot side u goal w a = omega (arith, a.room, ap length (runs-first f high k to shot side w))

  pub ahead_more : (i k to shot side : ℕ) (u v goal : List ℕ) → Whole f k high to shot side → Ahead i k u goal
      → v ≡ put4 u i k to shot side → Ahead (i + 4) to v goal
  unfolding run_count run_numbers join put4
  ahead_more i k to shot side u v goal w a e = record {
    room = omega (arith, a.room, count, longer);
    whole = ap₂ ◌++◌ front (ap (λ m. run_numbers (runs f to (high - to)) ++ m) back) ∙ joined ∙ a.whole;
  }
    where
      q : List ℕ
      q = k ∷ to ∷ shot ∷ side ∷ []

      m : ℕ
      m = 4 * length (runs f to (high - to))

      count : length (runs f k (high - k)) ≡ suc (length (runs f to (high - to)))
      count = ap length (runs-first f high k to shot side w)

      head : length (take i u ++ q) ≡ i + 4
      head = omega (arith, length-append (take i u) q, length-take-le i u (omega (arith, a.room)))

      split : v ≡ (take i u ++ q) ++ drop (i + 4) u
      split = e ∙ sym (append_assoc (take i u) q (drop (i + 4) u))

      front : take (i + 4) v ≡ take i u ++ q
      front = ap (take (i + 4)) split ∙ take_at (take i u ++ q) (drop (i + 4) u) (i + 4) head

      after : drop (i + 4) v ≡ drop (i + 4) u
      after = ap (drop (i + 4)) split ∙ drop_at (take i u ++ q) (drop (i + 4) u) (i + 4) head

      back : drop (i + 4 + m) v ≡ drop (i + 4 * length (runs f k (high - k))) u
      back =
          let z : i + 4 + m ≡ i + 4 * length (runs f k (high - k)) = omega (arith, count) in
          sym (drop-drop m (i + 4) v) ∙ ap (drop m) after ∙ drop-drop m (i + 4) u ∙ ap (λ n. drop n u) z

      longer : length v ≡ length u
      longer = ap length split ∙ omega (arith, length-append (take i u ++ q) (drop (i + 4) u), head, length_rest (i + 4) u (omega (arith, a.room, count)))

      joined : (take i u ++ q) ++ (run_numbers (runs f to (high - to)) ++ drop (i + 4 * length (runs f k (high - k))) u)
          ≡ take i u ++ (run_numbers (runs f k (high - k)) ++ drop (i + 4 * length (runs f k (high - k))) u)
      joined =
          append_assoc (take i u) q (run_numbers (runs f to (high - to)) ++ drop (i + 4 * length (runs f k (high - k))) u)
          ∙ ap (λ n. take i u ++ n) (sym (ap (λ l. run_numbers l ++ drop (i + 4 * length (runs f k (high - k))) u) (runs-first f high k to shot side w)))

  pub ahead-length : (i k to shot side : ℕ) (u v goal : List ℕ) → Whole f k high to shot side → Ahead i k u goal
      → v ≡ put4 u i k to shot side → length v ≡ length u
  unfolding put4
  ahead-length i k to shot side u v goal w a e =
      let h = ahead-room i k to shot side u goal w a in
      ap length (e ∙ sym (append_assoc (take i u) (k ∷ to ∷ shot ∷ side ∷ []) (drop (i + 4) u)))
      ∙ omega (
        arith,
        length-append (take i u ++ (k ∷ to ∷ shot ∷ side ∷ [])) (drop (i + 4) u),
        length-append (take i u) (k ∷ to ∷ shot ∷ side ∷ []),
        length-take-le i u (omega arith),
        length_rest (i + 4) u h,
      )
