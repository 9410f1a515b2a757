-- How the marks reach to the right, column by column and cell by cell. Assumes nothing.
--
--   Sweeping cells first now j  == on the way: of the column whose cells begin at first, the first j have taken in those left of them; all
--                                  others are as they were
--   sweeping_start, -more, -end == none yet; one more cell; all of them, so one more column is swept
--   sweeping_bits               == what is added are bits
--   swept-start, -end           == the first column stays; all of them
--   swept-marks                 == what is swept is marks again
--   swept-bit                   == so is what comes of it
--   lit-some, lit-none          == a cell that is inside is found, or there is none
use Prim.Native.Nat.{ℕ, zero, suc, ◌+◌, ◌*◌, ◌-◌, ◌/◌, ◌%◌, ◌≤◌, ◌<◌}
use mathlib.Core.Path.{◌≡◌, refl, sym, ◌∙◌, ap, ap₂, subst}
use mathlib.Core.Bool.{true, false, not}
use mathlib.Core.List.{List}
use mathlib.Core.Logic.{◌⊎◌, inl, inr}
use native.Mathlib.Omega.{arith}
use lib.ListN.{length, get_or, set, length-set}
use lib.Seq.{get_or-set_same, get_or-set_other}
use borrow.Author.Tests.{eq-eqb, ne_eqb}
use Rattle.sum.proofs.Sum.{le-or}
use Rattle.figure.specs.Corners.{any}
use Rattle.outline.specs.Steps.{Marks, swept, Swept, lit}
use Rattle.figure.proofs.Corners.{any_at, any_none}

pub swept-bit : (cells : List ℕ) → Marks cells → (i j : ℕ) → swept cells i j ≤ 1
unfolding swept
swept-bit cells h zero j = h.bit j
swept-bit cells h (suc i) j = omega arith

-- one column
pub record Sweeping (cells : List ℕ) (first : ℕ) (now : List ℕ) (j : ℕ) : Type 0 where
  pub most : j ≤ 16
  pub same : length now ≡ length cells
  pub done : (k : ℕ) → k < j → get_or now (first + k) 0 ≡ (get_or cells (first + k - 16) 0 + get_or cells (first + k) 0) % 2
  pub rest : (n : ℕ) → (n < first) ⊎ (first + j ≤ n) → get_or now n 0 ≡ get_or cells n 0

pub sweeping_start : (cells : List ℕ) (first : ℕ) → Sweeping cells first cells 0
sweeping_start cells first = record { most = omega arith; same = refl; done = λ k q. absurd (omega arith); rest = λ n q. refl }

module _ (cells : List ℕ) (first : ℕ) (now : List ℕ) (j : ℕ) (h : Sweeping cells first now j) where
  -- the cell and the one on its left are as they were
  left : 16 ≤ first → j < 16 → get_or now (first + j - 16) 0 ≡ get_or cells (first + j - 16) 0
  left s q = h.rest (first + j - 16) (inl (omega arith))

  here : get_or now (first + j) 0 ≡ get_or cells (first + j) 0
  here = h.rest (first + j) (inr (omega arith))

  pub sweeping_bits : Marks cells → 16 ≤ first → j < 16 → (get_or now (first + j - 16) 0 ≤ 1) × (get_or now (first + j) 0 ≤ 1)
  sweeping_bits marks s q = (omega (arith, left s q, marks.bit (first + j - 16)), omega (arith, here, marks.bit (first + j)))

  pub sweeping_more : 16 ≤ first → j < 16 → first + j < length cells
      → Sweeping cells first (set now (first + j) ((get_or now (first + j - 16) 0 + get_or now (first + j) 0) % 2)) (j + 1)
  sweeping_more s q t =
      record {
        most = omega arith;
        same = length-set now (first + j) v ∙ h.same;
        done = done';
        rest = λ n p. other n (away n p) ∙ h.rest n (part n p);
      }
    where
      v : ℕ
      v = (get_or now (first + j - 16) 0 + get_or now (first + j) 0) % 2

      other : (n : ℕ) → (n ≡ first + j → ⊥) → get_or (set now (first + j) v) n 0 ≡ get_or now n 0
      other n d = get_or-set_other now (first + j) n v 0 d

      away : (n : ℕ) → (n < first) ⊎ (first + (j + 1) ≤ n) → n ≡ first + j → ⊥
      away n (inl p) z = omega arith
      away n (inr p) z = omega arith

      part : (n : ℕ) → (n < first) ⊎ (first + (j + 1) ≤ n) → (n < first) ⊎ (first + j ≤ n)
      part n (inl p) = inl p
      part n (inr p) = inr (omega arith)

      done' : (k : ℕ) → k < j + 1 → get_or (set now (first + j) v) (first + k) 0 ≡ (get_or cells (first + k - 16) 0 + get_or cells (first + k) 0) % 2
      done' k p = elim (le-or j k) [
        | inl r ↦
            (let z : k ≡ j = omega arith in
            rw z (get_or-set_same now (first + j) v 0 (omega (arith, h.same)) ∙ ap₂ (λ a b. (a + b) % 2) (left s q) here))
        | inr r ↦ other (first + k) (λ z. omega arith) ∙ h.done k r
      ]

  -- so one more column is swept
  pub sweeping_end : (i : ℕ) → first ≡ 16 * i → 1 ≤ i → 16 ≤ j → (start : List ℕ) → Swept i start cells → Swept (i + 1) start now
  unfolding swept
  sweeping_end i e s q start w =
      record {
        at = λ m k p r. elim (le-or i m) [
          | inl t ↦ (let z : m ≡ i = omega arith in column m k z r)
          | inr t ↦ h.rest (16 * m + k) (inl (omega arith)) ∙ w.at m k t r
        ];
        rest = λ n p. h.rest n (inr (omega (arith, h.most))) ∙ w.rest n (omega arith);
      }
    where
      column : (m k : ℕ) → m ≡ i → k < 16 → get_or now (16 * m + k) 0 ≡ swept start m k
      column zero k z r = absurd (omega arith)
      column (suc m) k z r =
          let a : 16 * suc m + k ≡ first + k = omega arith in
          let b : first + k - 16 ≡ 16 * m + k = omega arith in
          let c : first + k ≡ 16 * suc m + k = omega arith in
          ap (λ n. get_or now n 0) a
          ∙ h.done k (omega arith)
          ∙ ap₂ (λ u v. (u + v) % 2)
          (ap (λ n. get_or cells n 0) b ∙ w.at m k (omega arith) r)
          (ap (λ n. get_or cells n 0) c ∙ w.rest (16 * suc m + k) (omega arith))

-- all columns
pub swept-start : (cells : List ℕ) → Swept 1 cells cells
unfolding swept
swept-start cells = record { at = first; rest = λ n q. refl }
  where
    first : (i j : ℕ) → i < 1 → j < 16 → get_or cells (16 * i + j) 0 ≡ swept cells i j
    first zero j h q = let z : 16 * 0 + j ≡ j = omega arith in ap (λ n. get_or cells n 0) z
    first (suc i) j h q = absurd (omega arith)

pub swept-marks : (cells now : List ℕ) (i : ℕ) → Marks cells → length now ≡ length cells → Swept i cells now → Marks now
swept-marks cells now i marks same w =
    record {
      length-cells = same ∙ marks.length-cells;
      bit = λ n. elim (le-or (16 * i) n) [
        | inl q ↦ omega (arith, w.rest n q, marks.bit n)
        | inr q ↦
            (let z : 16 * (n / 16) + n % 16 ≡ n = omega arith in
            omega (arith, ap (λ m. get_or now m 0) z, w.at (n / 16) (n % 16) (omega arith) (omega arith), swept-bit cells marks (n / 16) (n % 16)))
      ];
    }

pub swept-end : (cells now : List ℕ) (i lines : ℕ) → i ≤ lines → lines ≤ i → Swept i cells now → Swept lines cells now
swept-end cells now i lines p q w = let z : i ≡ lines = omega arith in subst (λ n. Swept n cells now) z w

-- a search of the cells
pub lit-some : (cells : List ℕ) (k : ℕ) → k < length cells → (get_or cells k 0 ≡ 0 → ⊥) → true ≡ any lit cells
unfolding lit
lit-some cells k h d = sym (any_at lit 0 cells k h (ap not (ne_eqb (get_or cells k 0) 0 d)))

pub lit-none : (cells : List ℕ) → ((k : ℕ) → k < length cells → get_or cells k 0 ≡ 0) → false ≡ any lit cells
unfolding lit
lit-none cells h = sym (any_none lit 0 cells (λ k q. ap not (eq-eqb (get_or cells k 0) 0 (h k q))))
