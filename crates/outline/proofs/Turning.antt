-- How the cells right of a line are turned over, one after the other. Assumes nothing.
--
--   Turning cells ys first lo hi now j   == on the way: of the cells from `first` on, the first j are turned over in `now`
--   turning_start, -more, -end           == none; one more; all of them
--   begins-both, begins-not              == the test of a row's bottom, by the low end of the span first
--   begins-covered                       == a row that begins below a line ends there or below
use Prim.Native.Nat.{ℕ, suc, ◌+◌, ◌*◌, ◌-◌, ◌/◌, ◌%◌, ◌≤◌, ◌<◌}
use native.Mathlib.Numerals.{add-one}
use mathlib.Core.Path.{◌≡◌, refl, sym, ◌∙◌, ap, ap₂}
use mathlib.Core.Bool.{Bool, true, false, ◌&&◌, and-false}
use mathlib.Core.List.{List}
use mathlib.Core.Logic.{◌⊎◌, inl, inr}
use native.Mathlib.Omega.{arith}
use lib.Dec.{leb, ltb, eqb}
use lib.ListN.{length, get_or, set, length-set}
use lib.Seq.{get_or-set_same, get_or-set_other}
use borrow.Author.Tests.{le-leb, lt-leb, lt-ltb, le-ltb, eq-eqb, ne_eqb}
use Rattle.sum.proofs.Sum.{le-or}
use Rattle.sum.proofs.Lists.{All-at}
use Rattle.figure.proofs.Inside.{Beside}
use Rattle.outline.specs.Lines.{place}
use Rattle.outline.specs.Steps.{flip, covered, begins, span, Listed, Bits, Turned}
use Rattle.outline.proofs.Lines.{beside, place_at, place_rises}

module _ (lo hi bottom : ℕ) where
  pub begins-both : lo ≤ bottom → ltb bottom hi ≡ begins lo hi bottom
  unfolding begins
  begins-both h = sym (ap (λ t. t && ltb bottom hi) (le-leb lo bottom h))

  pub begins-not : bottom < lo → leb lo bottom ≡ begins lo hi bottom
  unfolding begins
  begins-not h = lt-leb lo bottom h ∙ sym (ap (λ t. t && ltb bottom hi) (lt-leb lo bottom h))

begins-covered : (ys : List ℕ) (lo hi j : ℕ) → Listed ys hi → j + 1 < length ys
    → begins lo hi (get_or ys j 0) ≡ covered lo hi (get_or ys j 0) (get_or ys (j + 1) 0)
unfolding begins covered
begins-covered ys lo hi j listed h =
    ap (λ t. leb lo (get_or ys j 0) && t)
    (go (All-at (Beside (place ys j) (place ys (suc j))) listed.among (beside ys listed.rise j (omega arith))))
  where
    bottom : place ys j ≡ get_or ys j 0
    bottom = place_at ys j (omega arith)

    top : place ys (suc j) ≡ get_or ys (j + 1) 0
    top = place_at ys (suc j) (omega arith) ∙ ap (λ n. get_or ys n 0) (sym (add-one j))

    rises : place ys j < place ys (suc j)
    rises = place_rises ys listed.rise j (omega arith)

    go : Beside (place ys j) (place ys (suc j)) hi → ltb (get_or ys j 0) hi ≡ leb (get_or ys (j + 1) 0) hi
    go (inl q) =
        le-ltb (get_or ys j 0) hi (omega (arith, bottom))
        ∙ sym (lt-leb (get_or ys (j + 1) 0) hi (omega (arith, bottom, top, rises)))
    go (inr q) =
        lt-ltb (get_or ys j 0) hi (omega (arith, bottom, top, rises))
        ∙ sym (le-leb (get_or ys (j + 1) 0) hi (omega (arith, top)))

pub flip_true : (t : Bool) (n : ℕ) → t ≡ true → 1 - n ≡ flip t n
unfolding flip
flip_true t n h = sym (ap (λ b. flip b n) h)

pub flip_false : (t : Bool) (n : ℕ) → t ≡ false → n ≡ flip t n
unfolding flip
flip_false t n h = sym (ap (λ b. flip b n) h)

pub record Turning (cells ys : List ℕ) (first lo hi : ℕ) (now : List ℕ) (j : ℕ) : Type 0 where
  pub most : j + 1 ≤ length ys
  pub same : length now ≡ length cells
  pub done : (k : ℕ) → k < j → get_or now (first + k) 0 ≡ flip (covered lo hi (get_or ys k 0) (get_or ys (k + 1) 0)) (get_or cells (first + k) 0)
  pub rest : (n : ℕ) → (n < first) ⊎ (first + j ≤ n) → get_or now n 0 ≡ get_or cells n 0

pub turning_start : (cells ys : List ℕ) (first lo hi : ℕ) → 1 ≤ length ys → Turning cells ys first lo hi cells 0
turning_start cells ys first lo hi h =
    record { most = omega arith; same = refl; done = λ k q. absurd (omega arith); rest = λ n q. refl }

module _ (cells ys : List ℕ) (first lo hi : ℕ) (now : List ℕ) (j : ℕ) (h : Turning cells ys first lo hi now j) where
  pub turning_here : get_or now (first + j) 0 ≡ get_or cells (first + j) 0
  turning_here = h.rest (first + j) (inr (omega arith))

  pub turning_bit : (line : ℕ) → Bits cells ys line → get_or now (first + j) 0 ≤ 1
  turning_bit line b = omega (arith, turning_here, b.bit (first + j))

  pub turning_more : Listed ys hi → (b : Bool) (v bottom : ℕ) → bottom ≡ get_or ys j 0 → b ≡ begins lo hi bottom
      → v ≡ flip b (get_or now (first + j) 0)
      → first + j < length cells → j + 1 < length ys
      → Turning cells ys first lo hi (set now (first + j) v) (j + 1)
  turning_more listed b v bottom eb e f k m =
      record {
        most = omega arith;
        same = length-set now (first + j) v ∙ h.same;
        done = λ i q. done' i q;
        rest = λ n q. other n (away n q) ∙ h.rest n (part n q);
      }
    where
      other : (n : ℕ) → (n ≡ first + j → ⊥) → get_or (set now (first + j) v) n 0 ≡ get_or now n 0
      other n d = get_or-set_other now (first + j) n v 0 d

      away : (n : ℕ) → (n < first) ⊎ (first + (j + 1) ≤ n) → n ≡ first + j → ⊥
      away n (inl q) z = omega arith
      away n (inr q) z = omega arith

      part : (n : ℕ) → (n < first) ⊎ (first + (j + 1) ≤ n) → (n < first) ⊎ (first + j ≤ n)
      part n (inl q) = inl q
      part n (inr q) = inr (omega arith)

      done' : (i : ℕ) → i < j + 1 → get_or (set now (first + j) v) (first + i) 0 ≡ flip (covered lo hi (get_or ys i 0) (get_or ys (i + 1) 0)) (get_or cells (first + i) 0)
      done' i q = elim (le-or j i) [
        | inl r ↦
            (let z : i ≡ j = omega arith in
            rw z (get_or-set_same now (first + j) v 0 (omega (arith, h.same)) ∙ f ∙ ap₂ flip (e ∙ ap (begins lo hi) eb ∙ begins-covered ys lo hi j listed m) turning_here))
        | inr r ↦ other (first + i) (λ z. omega arith) ∙ h.done i r
      ]

pub turning_end : (cells ys : List ℕ) (line first lo hi : ℕ) (now : List ℕ) (j : ℕ) → Bits cells ys line → first ≡ 16 * line
    → Turning cells ys first lo hi now j → length ys ≤ j + 1
    → Turned cells ys line lo hi now
unfolding span
turning_end cells ys line first lo hi now j bits e h k = record { at = at }
  where
    row : ℕ → Bool
    row n = covered lo hi (get_or ys (n % 16) 0) (get_or ys (n % 16 + 1) 0)

    beyond : (n : ℕ) → first ≤ n → first + j ≤ n → (eqb (n / 16) line && (ltb (n % 16 + 1) (length ys) && row n)) ≡ false
    beyond n p q = elim (le-or (first + 16) n) [
      | inl r ↦ ap (λ b. b && (ltb (n % 16 + 1) (length ys) && row n)) (ne_eqb (n / 16) line (λ z. omega arith))
      | inr r ↦ ap (λ b. eqb (n / 16) line && (b && row n)) (le-ltb (n % 16 + 1) (length ys) (omega arith)) ∙ and-false (eqb (n / 16) line)
    ]

    here : (n : ℕ) → first ≤ n → n < first + j → (eqb (n / 16) line && (ltb (n % 16 + 1) (length ys) && row n)) ≡ row n
    here n p q =
        let m : j ≤ 15 = omega (arith, h.most, bits.most) in
        ap₂ (λ a b. a && (b && row n)) (eq-eqb (n / 16) line (omega arith)) (lt-ltb (n % 16 + 1) (length ys) (omega (arith, h.most)))

    at : (n : ℕ) → get_or now n 0 ≡ flip (eqb (n / 16) line && (ltb (n % 16 + 1) (length ys) && row n)) (get_or cells n 0)
    at n = elim (le-or first n) [
      | inl p ↦
          elim (le-or (first + j) n) [
            | inl q ↦ h.rest n (inr q) ∙ flip_false _ (get_or cells n 0) (beyond n p q)
            | inr q ↦
                let m : j ≤ 15 = omega (arith, h.most, bits.most) in
                let z : first + n % 16 ≡ n = omega arith in
                ap (λ i. get_or now i 0) (sym z)
                ∙ h.done (n % 16) (omega arith)
                ∙ ap₂ (λ t i. flip t (get_or cells i 0)) (sym (here n p q)) z
          ]
      | inr p ↦
          h.rest n (inl p)
          ∙ flip_false _ (get_or cells n 0) (ap (λ b. b && (ltb (n % 16 + 1) (length ys) && row n)) (ne_eqb (n / 16) line (λ z. omega arith)))
    ]
