-- To believe: a job and its index, as runs of the calls leave them.
--
--   Reached s index n == the job s, its index and its count, after any run of calls from an opened job: a call that is accepted gives the
--                        next job, at the front of the buffer, with its index and count; a refused one leaves the job and its count, also
--                        where other bytes were to be opened in the same index
use Rattle.std.specs.Prelude.{ℕ, ◌≡◌, List, take}
use Rattle.figure.specs.Figure.{Figure}
use Rattle.index.specs.Index.{opened, appended, removed}

pub data Reached : List ℕ → List ℕ → ℕ → Type 0 where
  by_open : (s index : List ℕ) → (opened s index).number ≡ 0 → Reached s (opened s index).index (opened s index).outlines
  by_append : (s index out : List ℕ) (n : ℕ) (f : Figure) → Reached s index n → (appended s f index out).number ≡ 0
      → Reached (take (appended s f index out).bytes (appended s f index out).out) (appended s f index out).index (appended s f index out).outlines
  by_remove : (s index out : List ℕ) (n k : ℕ) → Reached s index n → (removed s k index out).number ≡ 0
      → Reached (take (removed s k index out).bytes (removed s k index out).out) (removed s k index out).index (removed s k index out).outlines
  not_opened : (s index : List ℕ) (n : ℕ) (b : List ℕ) → Reached s index n → ((opened b index).number ≡ 0 → ⊥) → Reached s (opened b index).index n
  not-appended : (s index out : List ℕ) (n : ℕ) (f : Figure) → Reached s index n → ((appended s f index out).number ≡ 0 → ⊥)
      → Reached s (appended s f index out).index n
  not-removed : (s index out : List ℕ) (n k : ℕ) → Reached s index n → ((removed s k index out).number ≡ 0 → ⊥)
      → Reached s (removed s k index out).index n
