-- Laws of searches from low to high.
--
--   Passed Q a j  == no number from a to below j has the property Q
--   passed_none   : from a to below a
--   passed-more   : one more that does not have it
--   first-here    : the first that has it
--   first-none    : none has it
--   some-of, some-said : where there cannot be none there is one, and what is said of it
--   some-line, no-line : whether a line was found
--   column, column-told : the cells of a column, and what a walk over them tells
--   all-told      : what a walk over the columns of a piece tells
--   inside-said    : by what a test says of the answer
-- Assumes nothing.
use Prim.Native.Nat.{ℕ, ◌+◌, ◌*◌, ◌-◌, ◌≤◌, ◌<◌}
use mathlib.Core.Path.{◌≡◌, refl, ap, sym, ◌∙◌, subst}
use mathlib.Core.Logic.{inl, inr}
use native.Mathlib.Omega.{arith}
use Rattle.sum.proofs.Sum.{le-or}
use mathlib.Core.Bool.{Bool, true, false}
use mathlib.Core.List.{List}
use lib.ListN.{length, get_or, take, drop}
use Rattle.std.specs.Prelude.{Option, Some, None, is_some, MatchOption, IsSome}
use Rattle.std.specs.Bool.{MatchBool}
use Rattle.std.proofs.lemmas.Bool.{false≢true}
use Rattle.std.proofs.lemmas.List.{get_or-take, get_or-drop, length-drop, length-take-le}
use Rattle.std.proofs.lemmas.List.FromFn.{length-range_with_len, get_or-range_with_len}
use Rattle.std.specs.List.{AllWithin, HoldsAt, range_with_len}
use Rattle.outline.specs.declared.Line.{Line}
use Rattle.piece.specs.declared.Piece.{Piece}
use Rattle.verdict.specs.Search.{FirstWith, FirstLine, ColumnInside, AllInside}

module _ (Q : ℕ → Type 0) (a : ℕ) where
  abbrev pub Passed : ℕ → Type 0
  Passed j = (k : ℕ) → a ≤ k → k < j → Q k → ⊥

  pub passed_none : Passed a
  passed_none k h i q = omega arith

  pub passed-more : (j : ℕ) → Passed j → (Q j → ⊥) → Passed (j + 1)
  passed-more j p n k h i q = elim (le-or j k) [
    | inl w ↦ n (subst Q (omega arith) q)
    | inr w ↦ p k h w q
  ]

  pub first-here : (j c : ℕ) → a ≤ j → j < c → Passed j → Q j → FirstWith Q a c j
  first-here j c h i p q = record { least = h; most = omega arith; passed = p; found = λ w. q }

  pub first-none : (j c : ℕ) → a ≤ j → j ≤ c → c ≤ j → Passed j → FirstWith Q a c j
  first-none j c h i k p = record { least = h; most = i; passed = p; found = λ w. absurd (omega arith) }

-- what a search says of whether it found a line
module _ {Q : ℕ → Type 0} {a c : ℕ} where
  pub some-line : (o : Option Line) → FirstLine Q a c o → is_some o ≡ true → (n : ℕ) × FirstWith Q a c n × (n < c)
  some-line None f h = absurd (false≢true h)
  some-line (Some l) f h = (l.0, f.0, f.1)

  pub no-line : (o : Option Line) → FirstLine Q a c o → is_some o ≡ false → FirstWith Q a c c
  no-line None f h = f
  no-line (Some l) f h = absurd (false≢true (sym h))

-- the cells of the column i from the row b to below the row d
abbrev pub column : List ℕ → ℕ → ℕ → ℕ → List ℕ
column cells i b d = take (16 * i + d - (16 * i + b)) (drop (16 * i + b) cells)

module _ (cells : List ℕ) (i b d : ℕ) (h : 16 * i + d ≤ length cells) (w : b ≤ d) where
  column_length : length (column cells i b d) ≡ d - b
  column_length = length-take-le _ (drop (16 * i + b) cells) (omega (arith, length-drop (16 * i + b) cells)) ∙ omega arith

  column_at : (k : ℕ) → k < d - b → get_or (column cells i b d) k 0 ≡ get_or cells (16 * i + (b + k)) 0
  column_at k u =
      get_or-take _ (drop (16 * i + b) cells) k 0 (omega arith)
      ∙ get_or-drop (16 * i + b) cells k 0
      ∙ ap (λ (n : ℕ). get_or cells n 0) (omega arith)

  -- by what a walk over them says
  pub column-told : (t : Bool)
      → MatchBool t (AllWithin (λ x. x ≡ 1) (column cells i b d) 0 (length (column cells i b d)))
      ((k : ℕ) × (k < length (column cells i b d)) × HoldsAt (λ x. x ≡ 1 → ⊥) (column cells i b d) k)
      → ColumnInside cells i b d t
  column-told true f = λ j u v.
      ap (λ (n : ℕ). get_or cells (16 * i + n) 0) (omega arith)
      ∙ sym (column_at (j - b) (omega arith))
      ∙ f (j - b) 0 (omega arith) (omega (arith, column_length))
  column-told false f =
      let k = f.0 in
      let u = f.1 in
      (b + k, omega arith, omega (arith, u, column_length), λ e. f.2 0 (column_at k (omega (arith, u, column_length)) ∙ e))

module _ (cells : List ℕ) (p : Piece) where
  -- by what a walk over its columns says
  pub all-told : (t : Bool)
      → MatchBool t (AllWithin (λ i. ColumnInside cells i p.b.0 p.d.0 true) (range_with_len p.a.0 (p.c.0 - p.a.0)) 0 (length (range_with_len p.a.0 (p.c.0 - p.a.0))))
      ((k : ℕ) × (k < length (range_with_len p.a.0 (p.c.0 - p.a.0))) × HoldsAt (λ i. ColumnInside cells i p.b.0 p.d.0 false) (range_with_len p.a.0 (p.c.0 - p.a.0)) k)
      → AllInside cells p t
  all-told true f = λ i j w.
      let k = i - p.a.0 in
      let e : get_or (range_with_len p.a.0 (p.c.0 - p.a.0)) k 0 ≡ i = get_or-range_with_len p.a.0 (p.c.0 - p.a.0) k 0 (omega (arith, w.a, w.c)) ∙ omega (arith, w.a) in
      subst (λ n. ColumnInside cells n p.b.0 p.d.0 true) e (f k 0 (omega arith) (omega (arith, w.a, w.c, length-range_with_len p.a.0 (p.c.0 - p.a.0)))) j w.b w.d
  all-told false f =
      let k = f.0 in
      let u : k < p.c.0 - p.a.0 = omega (arith, f.1, length-range_with_len p.a.0 (p.c.0 - p.a.0)) in
      let h = subst (λ n. ColumnInside cells n p.b.0 p.d.0 false) (get_or-range_with_len p.a.0 (p.c.0 - p.a.0) k 0 u) (f.2 0) in
      (p.a.0 + k, h.0, record { a = omega arith; c = omega (arith, u); b = h.1; d = h.2 }, h.3)

  pub inside-said : {s t : Bool} → s ≡ t → AllInside cells p s → AllInside cells p t
  inside-said e h = subst (AllInside cells p) e h

-- where there cannot be none there is one, and what is said of it
pub some-of : {T U : Type 0} (Q : T → Type 0) (o : Option T) → (U → ⊥) → MatchOption o U Q → IsSome o
some-of Q None n h = absurd (n h)
some-of Q (Some x) n h = refl

pub some-said : {T : Type 0} (U : Type 0) (Q : T → Type 0) (o : Option T) (x : T) → o ≡ Some x → MatchOption o U Q → Q x
some-said U Q o x e h = subst (λ (o : Option _). MatchOption o U Q) e h
