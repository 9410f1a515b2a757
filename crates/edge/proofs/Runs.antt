-- The runs of any landing: they share out the stretches, each says where its stretches end up, neighbours differ; and no other list of
-- runs does so. Assumes nothing.
--
--   Shared, Says, Apart, Right   == these three, and all of them
--   alike_same, same_alike       == two stretches end up alike exactly if they end up on the same
--   runs-right, runs_unique      == the runs do all three, and no other list does
--   shared_le                    == they go upwards
--   runs-most                    == one more than there are marks, if a mark stands wherever neighbours end up differently
use Prim.Native.Nat.{ℕ, zero, suc, ◌+◌, ◌≤◌, ◌<◌}
use mathlib.Core.Path.{◌≡◌, refl, sym, ◌∙◌, ap, ap₂, subst}
use mathlib.Core.Bool.{Bool, true, false, cond, ◌&&◌, true≢false}
use mathlib.Core.List.{List, [], ◌∷◌}
use mathlib.Core.Logic.{inl, inr}
use native.Mathlib.Omega.{arith}
use lib.Dec.{eqb}
use lib.ListN.{length}
use borrow.Author.Tests.{eqb-true, eq-eqb}
use Rattle.sum.specs.Sum.{All, over}
use Rattle.sum.proofs.Sum.{le-or, over-cut, over-one}
use Rattle.edge.specs.Landing.{Landing, Run, alike, put, runs}

-- they share out what lies from k to m: each begins where the one before ends, and none is empty
abbrev pub Shared : ℕ → ℕ → List Run → Type 0
Shared k m [] = k ≡ m
Shared k m (r ∷ l) = (r.from ≡ k) × (k < r.to) × Shared r.to m l

-- each says where its stretches end up
abbrev pub Says : (ℕ → Landing) → Run → Type 0
Says f r = (k : ℕ) → r.from ≤ k → k < r.to → f k ≡ r.lands

-- neighbours differ
abbrev pub Apart : List Run → Type 0
Apart [] = Unit {0}
Apart (r ∷ []) = Unit {0}
Apart (r ∷ q ∷ l) = (alike r.lands q.lands ≡ false) × Apart (q ∷ l)

pub alike_same : (a b : Landing) → alike a b ≡ true → a ≡ b
unfolding alike
alike_same a b h = go (eqb a.shot b.shot) refl (eqb a.side b.side) refl h
  where
    go : (s : Bool) → eqb a.shot b.shot ≡ s → (t : Bool) → eqb a.side b.side ≡ t → (s && t) ≡ true → a ≡ b
    go true e true q k = let z = eqb-true a.shot b.shot e in let v = eqb-true a.side b.side q in λ i. record { shot = z i; side = v i }
    go true e false q k = absurd (true≢false (sym k))
    go false e t q k = absurd (true≢false (sym k))

pub same_alike : (a b : Landing) → a ≡ b → alike a b ≡ true
unfolding alike
same_alike a b h = rw (eq-eqb a.shot b.shot (ap (λ c. c.shot) h), eq-eqb a.side b.side (ap (λ c. c.side) h))

module _ (f : ℕ → Landing) where
  pub record Right (k m : ℕ) (l : List Run) : Type 0 where
    pub shared : Shared k m l
    pub says : All (Says f) l
    pub apart : Apart l

  put_right : (k m : ℕ) (l : List Run) → Right (suc k) m l → Right k m (put k (f k) l)
  unfolding put
  put_right k m [] h = record {
    shared = (refl, omega arith, h.shared);
    says = ((λ j p q. ap f (at j p q)), tt);
    apart = tt;
  }
    where
      at : (j : ℕ) → k ≤ j → j < suc k → j ≡ k
      at j p q = omega arith
  put_right k m (r ∷ l) h = go (alike (f k) r.lands) refl
    where
      at : (j : ℕ) → k ≤ j → j < suc k → j ≡ k
      at j p q = omega arith

      one : Run
      one = record { from = k; to = suc k; lands = f k }

      more : Run
      more = record { from = k; to = r.to; lands = f k }

      said : f k ≡ r.lands → (j : ℕ) → k ≤ j → j < r.to → f j ≡ f k
      said e j p q = elim (le-or (suc k) j) [
        | inl z ↦ h.says.0 j (omega (arith, h.shared.0)) q ∙ sym e
        | inr z ↦ ap f (at j p z)
      ]

      kept : (l : List Run) → f k ≡ r.lands → Apart (r ∷ l) → Apart (more ∷ l)
      kept [] e a = tt
      kept (q ∷ l) e a = (ap (λ c. alike c q.lands) e ∙ a.0, a.1)

      go : (t : Bool) → alike (f k) r.lands ≡ t → Right k m (cond t (more ∷ l) (one ∷ r ∷ l))
      go true e =
          let z = alike_same (f k) r.lands e in
          record {
            shared = (refl, omega (arith, h.shared.1), h.shared.2);
            says = (said z, h.says.1);
            apart = kept l z h.apart;
          }
      go false e = record {
        shared = (refl, omega arith, h.shared);
        says = ((λ j p q. ap f (at j p q)), h.says);
        apart = (e, h.apart);
      }

  pub runs-right : (k n : ℕ) → Right k (k + n) (runs f k n)
  unfolding runs
  runs-right k zero = record { shared = omega arith; says = tt; apart = tt }
  runs-right k (suc n) =
      let z : suc k + n ≡ k + suc n = omega arith in
      put_right k (k + suc n) (runs f (suc k) n) (subst (λ m. Right (suc k) m (runs f (suc k) n)) z (runs-right (suc k) n))

  -- Settled: no other list does so

  pub shared_le : (k m : ℕ) (l : List Run) → Shared k m l → k ≤ m
  shared_le k m [] h = omega arith
  shared_le k m (r ∷ l) h = omega (arith, h.1, shared_le r.to m l h.2)

  -- the first run of the one list is no shorter than that of the other
  no-shorter : (k m : ℕ) (r q : Run) (l j : List Run) → Right k m (r ∷ l) → Right k m (q ∷ j) → r.to < q.to → ⊥
  no-shorter k m r q [] j h i z = omega (arith, h.shared.2, shared_le q.to m j i.shared.2)
  no-shorter k m r q (p ∷ l) j h i z =
      true≢false
      (sym
      (same_alike r.lands p.lands
      (sym (h.says.0 k (omega (arith, h.shared.0)) h.shared.1)
      ∙ i.says.0 k (omega (arith, i.shared.0)) i.shared.1
      ∙ sym (i.says.0 r.to (omega (arith, h.shared.1, i.shared.0)) z)
      ∙ h.says.1.0 r.to (omega (arith, h.shared.2.0)) h.shared.2.1))
      ∙ h.apart.0)

  tail_apart : (r : Run) (l : List Run) → Apart (r ∷ l) → Apart l
  tail_apart r [] h = tt
  tail_apart r (q ∷ l) h = h.1

  tail-right : (k m : ℕ) (r : Run) (l : List Run) → Right k m (r ∷ l) → Right r.to m l
  tail-right k m r l h = record { shared = h.shared.2; says = h.says.1; apart = tail_apart r l h.apart }

  pub runs_unique : (k m : ℕ) (l j : List Run) → Right k m l → Right k m j → l ≡ j
  runs_unique k m [] [] h i = refl
  runs_unique k m [] (q ∷ j) h i = absurd (omega (arith, h.shared, i.shared.1, shared_le q.to m j i.shared.2))
  runs_unique k m (r ∷ l) [] h i = absurd (omega (arith, i.shared, h.shared.1, shared_le r.to m l h.shared.2))
  runs_unique k m (r ∷ l) (q ∷ j) h i =
      ap₂ ◌∷◌ same (runs_unique r.to m l j (tail-right k m r l h) (subst (λ n. Right n m j) (sym ends) (tail-right k m q j i)))
    where
      ends : r.to ≡ q.to
      ends = elim (le-or r.to q.to) [
        | inr z ↦ absurd (no-shorter k m q r j l i h z)
        | inl z ↦ elim (le-or q.to r.to) [
          | inl w ↦ omega arith
          | inr w ↦ absurd (no-shorter k m r q l j h i w)
        ]
      ]

      lands : r.lands ≡ q.lands
      lands = sym (h.says.0 k (omega (arith, h.shared.0)) h.shared.1) ∙ i.says.0 k (omega (arith, i.shared.0)) i.shared.1

      begins : r.from ≡ q.from
      begins = h.shared.0 ∙ sym i.shared.0

      same : r ≡ q
      same = λ t. record { from = begins t; to = ends t; lands = lands t }

  -- how many: one more than there are marks between the ends, if a mark stands wherever neighbours end up differently
  pub runs-most : (marks : ℕ → ℕ) (k n : ℕ) → ((j : ℕ) → k ≤ j → suc j < k + n → alike (f j) (f (suc j)) ≡ false → 1 ≤ marks (suc j))
      → length (runs f k n) ≤ suc (over (suc k) (k + n) marks)
  unfolding runs put
  runs-most marks k zero h = omega arith
  runs-most marks k (suc zero) h = omega arith
  runs-most marks k (suc (suc n)) h =
      go (runs-most marks (suc k) (suc n) (λ j p q. h j (omega arith) (omega arith))) (runs f (suc k) (suc n)) refl
      (runs-right (suc k) (suc n))
    where
      sum : over (suc k) (k + suc (suc n)) marks ≡ marks (suc k) + over (suc (suc k)) (suc k + suc n) marks
      sum =
          let z : k + suc (suc n) ≡ suc k + suc n = omega arith in
          ap (λ m. over (suc k) m marks) z
          ∙ over-cut (suc k) (suc (suc k)) (suc k + suc n) marks (omega arith) (omega arith)
          ∙ ap (λ m. m + over (suc (suc k)) (suc k + suc n) marks) (over-one (suc k) marks)

      go : length (runs f (suc k) (suc n)) ≤ suc (over (suc (suc k)) (suc k + suc n) marks)
          → (l : List Run) → runs f (suc k) (suc n) ≡ l → Right (suc k) (suc k + suc n) (runs f (suc k) (suc n))
          → length (put k (f k) l) ≤ suc (over (suc k) (k + suc (suc n)) marks)
      go rest [] e r = omega arith
      go rest (q ∷ l) e r = test (alike (f k) q.lands) refl
        where
          had : length (runs f (suc k) (suc n)) ≡ suc (length l)
          had = ap length e

          w : Right (suc k) (suc k + suc n) (q ∷ l)
          w = subst (Right (suc k) (suc k + suc n)) e r

          lands : f (suc k) ≡ q.lands
          lands = w.says.0 (suc k) (omega (arith, w.shared.0)) w.shared.1

          test : (t : Bool) → alike (f k) q.lands ≡ t
              → length (cond t (record { from = k; to = q.to; lands = f k } ∷ l) (record { from = k; to = suc k; lands = f k } ∷ q ∷ l))
              ≤ suc (over (suc k) (k + suc (suc n)) marks)
          test true z = omega (arith, had, rest, sum)
          test false z = omega (arith, had, rest, sum, h k (omega arith) (omega arith) (ap (alike (f k)) lands ∙ z))
