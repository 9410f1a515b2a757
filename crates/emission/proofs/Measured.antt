-- Laws of the sliver length of shots that were written. Assumes nothing.
--
--   line-found, shot-found     : the first line at a line's place is that line; the piece that stands in a list
--   left-some, .. top-some     : its four lines are found
--   line-is, line-walked       : the line that was found; by what a walk over the lines tells
--   left-next, left-none       : the sum over the shots that are left; over none
--   shot-shown, sum_next       : a shot of the list can be measured, and joins the sum
--   charges                    : shots are charged 1,000 each, and the weight for each nm of sliver
--   sliver-told                : so the charge tells the sliver length, by a weight above 0
--   numbers-at                 : a list that begins with the numbers of shots has those of each
use Rattle.std.specs.Prelude.{Option, Some, None, MatchOption, IsSome, option_map}
use Rattle.std.specs.List.{AllWithin, HoldsAt}
use Rattle.outline.specs.declared.Line.{Line}
use Prim.Native.Nat.{ℕ, zero, suc, ◌+◌, ◌*◌, ◌-◌, ◌/◌, ◌≤◌, ◌<◌}
use mathlib.Core.Path.{◌≡◌, refl, ap, ap₂, sym, ◌∙◌, subst}
use mathlib.Core.Logic.{inl, inr}
use mathlib.Core.List.{List, [], ◌∷◌, ◌++◌}
use native.Mathlib.Omega.{arith}
use native.Mathlib.Numerals.{add-one}
use native.Mathlib.Nat.{mul-add, mul-zero, div-eq_of_eq-mul_right}
use lib.ListN.{length, get_or, drop}
use Rattle.sum.specs.Sum.{sum_of}
use Rattle.sum.proofs.Sum.{le-or}
use Rattle.outline.specs.Grid.{Grid}
use Rattle.rule.specs.declared.Rule.{Rule}
use Rattle.rule.specs.Charge.{charge_of}
use Rattle.piece.specs.Piece.{Piece, sliver, charge}
use Rattle.piece.specs.Meant.{meant}
use Rattle.piece.specs.Cuts.{numbers_of}
use Rattle.piece.specs.declared.Piece as stored
use Rattle.piece.proofs.Choice.{numbers-one, numbers-append}
use Rattle.table.specs.Entry.{Valid}
use Rattle.verdict.specs.Search.{FirstWith, FirstLine}
use Rattle.verdict.proofs.Search.{some-of}
use Rattle.sliver.specs.Sides.{Shown}
use Rattle.emission.specs.Measuring.{shot_no, Stands, Listed}

-- places that rise
rises : (f : ℕ → ℕ) (n : ℕ) → ((i : ℕ) → i < n → f i < f (suc i)) → (r a : ℕ) → r < a → a ≤ n → f r < f a
rises f n up r zero h k = absurd (omega arith)
rises f n up r (suc a) h k = elim (le-or a r) [
  | inl q ↦ (let e : r ≡ a = omega arith in subst (λ i. f i < f (suc a)) (sym e) (up a (omega arith)))
  | inr q ↦ omega (arith, rises f n up r a q (omega arith), up a (omega arith))
]

pub line-found : (f : ℕ → ℕ) (n : ℕ) (l : List ℕ) → ((i : ℕ) → i ≤ n → get_or l i 0 ≡ f i) → ((i : ℕ) → i < n → f i < f (suc i)) → n < length l
    → (a r v : ℕ) → a ≤ n → v ≡ f a
    → FirstWith (λ j. get_or l j 0 ≡ v) 0 (length l) r
    → r ≡ a
line-found f n l at up room a r v h e w = elim (le-or r a) [
  | inr q ↦ absurd (w.passed a (omega arith) q (at a h ∙ sym e))
  | inl q ↦ elim (le-or a r) [
    | inl p ↦ omega arith
    | inr p ↦ absurd (omega (arith, w.found (omega arith), at r (omega arith), e, rises f n up r a p h))
  ]
]

module _ (g : Grid) (xs ys cells list : List ℕ) (at : ℕ) (s : Piece) (z : Stands g xs ys cells list at s) where
  shown-at : {q : Piece} → q ≡ s → Shown g xs ys cells q
  shown-at e = record { sound = z.sound; drawn = z.drawn; valid = subst (Valid g.columns g.rows) (sym e) z.valid }

  module _ (p : stored.Piece)
      (a : FirstWith (λ j. get_or xs j 0 ≡ get_or list at 0) 0 (length xs) p.a.0)
      (b : FirstWith (λ j. get_or ys j 0 ≡ get_or list (at + 1) 0) 0 (length ys) p.b.0)
      (c : FirstWith (λ j. get_or xs j 0 ≡ get_or list (at + 2) 0) 0 (length xs) p.c.0)
      (d : FirstWith (λ j. get_or ys j 0 ≡ get_or list (at + 3) 0) 0 (length ys) p.d.0) where
    x-found : (i r v : ℕ) → i ≤ g.columns → v ≡ g.x i → FirstWith (λ j. get_or xs j 0 ≡ v) 0 (length xs) r → r ≡ i
    x-found i r v h e w =
        line-found g.x g.columns xs z.drawn.x-at z.sound.x_rises (omega (arith, z.drawn.xs-length, z.sound.columns-most)) i r v h e w

    y-found : (i r v : ℕ) → i ≤ g.rows → v ≡ g.y i → FirstWith (λ j. get_or ys j 0 ≡ v) 0 (length ys) r → r ≡ i
    y-found i r v h e w =
        line-found g.y g.rows ys z.drawn.y-at z.sound.y_rises (omega (arith, z.drawn.ys-length, z.sound.rows-most)) i r v h e w

    pub shot-found : meant p ≡ s
    shot-found =
        let v = z.valid in
        let ea = x-found s.a p.a.0 (get_or list at 0) (omega (arith, v.ac, v.cx)) z.a a in
        let ec = x-found s.c p.c.0 (get_or list (at + 2) 0) v.cx z.c c in
        let eb = y-found s.b p.b.0 (get_or list (at + 1) 0) (omega (arith, v.bd, v.dy)) z.b b in
        let ed = y-found s.d p.d.0 (get_or list (at + 3) 0) v.dy z.d d in
        λ i. record { a = ea i; c = ec i; b = eb i; d = ed i }

  -- each of its lines is found
  on-x : (i v : ℕ) → i ≤ g.columns → v ≡ g.x i → (o : Option Line) → FirstLine (λ j. get_or xs j 0 ≡ v) 0 (length xs) o → IsSome o
  on-x i v h e o w =
      some-of _ o (λ n. n.passed i (omega arith) (omega (arith, z.drawn.xs-length, z.sound.columns-most)) (z.drawn.x-at i h ∙ sym e)) w

  on-y : (i v : ℕ) → i ≤ g.rows → v ≡ g.y i → (o : Option Line) → FirstLine (λ j. get_or ys j 0 ≡ v) 0 (length ys) o → IsSome o
  on-y i v h e o w =
      some-of _ o (λ n. n.passed i (omega arith) (omega (arith, z.drawn.ys-length, z.sound.rows-most)) (z.drawn.y-at i h ∙ sym e)) w

  pub left-some : (o : Option Line) → FirstLine (λ j. get_or xs j 0 ≡ get_or list at 0) 0 (length xs) o → IsSome o
  left-some o w = on-x s.a _ (omega (arith, z.valid.ac, z.valid.cx)) z.a o w

  pub right-some : (o : Option Line) → FirstLine (λ j. get_or xs j 0 ≡ get_or list (at + 2) 0) 0 (length xs) o → IsSome o
  right-some o w = on-x s.c _ z.valid.cx z.c o w

  pub bottom-some : (o : Option Line) → FirstLine (λ j. get_or ys j 0 ≡ get_or list (at + 1) 0) 0 (length ys) o → IsSome o
  bottom-some o w = on-y s.b _ (omega (arith, z.valid.bd, z.valid.dy)) z.b o w

  pub top-some : (o : Option Line) → FirstLine (λ j. get_or ys j 0 ≡ get_or list (at + 3) 0) 0 (length ys) o → IsSome o
  top-some o w = on-y s.d _ z.valid.dy z.d o w

-- the line that was found
pub line-is : {Q : ℕ → Type 0} {a c : ℕ} {o : Option Line} {l : Line} → o ≡ Some l → FirstLine Q a c o → FirstWith Q a c l.0
line-is {Q} {a} {c} e h = (subst (FirstLine Q a c) e h).0

-- by what a walk over the lines tells
abbrev pub Walked : List ℕ → ℕ → Option ℕ → Type 0
Walked lines v o = FirstLine (λ j. get_or lines j 0 ≡ v) 0 (length lines) (option_map (λ n. record { 0 = n }) o)

pub line-walked : (lines : List ℕ) (v : ℕ) (o : Option ℕ)
    → MatchOption o (AllWithin (λ x. x ≡ v → ⊥) lines 0 (length lines)) (λ i. (i < length lines) × HoldsAt (λ x. x ≡ v) lines i × AllWithin (λ x. x ≡ v → ⊥) lines 0 i)
    → Walked lines v o
line-walked lines v None h = record { least = omega arith; most = omega arith; passed = λ j u w. h j 0 u w; found = λ w. absurd (omega arith) }
line-walked lines v (Some n) h =
    (record { least = omega arith; most = omega (arith, h.0); passed = λ j u w. h.2 j 0 u w; found = λ w. h.1 0 }, h.0)

-- the shots that are left

left-suc : (f : Piece → ℕ) (l : List Piece) (k : ℕ) → k < length l → sum_of f (drop k l) ≡ f (shot_no l k) + sum_of f (drop (suc k) l)
unfolding sum_of shot_no
left-suc f [] k h = absurd (omega arith)
left-suc f (s ∷ l) zero h = refl
left-suc f (s ∷ l) (suc k) h = left-suc f l k (omega arith)

pub left-next : (f : Piece → ℕ) (l : List Piece) (k : ℕ) → k < length l → sum_of f (drop k l) ≡ f (shot_no l k) + sum_of f (drop (k + 1) l)
left-next f l k h = left-suc f l k h ∙ ap (λ i. f (shot_no l k) + sum_of f (drop i l)) (sym (add-one k))

pub left-none : (f : Piece → ℕ) (l : List Piece) (k : ℕ) → length l ≤ k → sum_of f (drop k l) ≡ 0
unfolding sum_of
left-none f [] zero h = refl
left-none f [] (suc k) h = refl
left-none f (s ∷ l) zero h = absurd (omega arith)
left-none f (s ∷ l) (suc k) h = left-none f l k (omega arith)

module _ (g : Grid) (cells xs ys list : List ℕ) (r : Rule) (l : List Piece) (n : ℕ) (z : Listed g cells xs ys list r l n) where
  pub shot-shown : (k : ℕ) → k < n → {q : Piece} → q ≡ shot_no l k → Shown g xs ys cells q
  shot-shown k h e = shown-at g xs ys cells list (4 * k) (shot_no l k) (z.each k h) e

  pub sum_next : (k u : ℕ) → k < n → {q : Piece} → q ≡ shot_no l k → {m : ℕ} → m ≡ sliver g r q
      → u + sum_of (sliver g r) (drop k l) ≡ sum_of (sliver g r) l
      → u + m + sum_of (sliver g r) (drop (k + 1) l) ≡ sum_of (sliver g r) l
  sum_next k u h e f i = omega (arith, f, i, left-next (sliver g r) l k (omega (arith, z.count)), ap (sliver g r) e)

-- the charge

pub charges : (g : Grid) (r : Rule) (l : List Piece) → sum_of (charge g r) l ≡ 1000 * length l + r.weight * sum_of (sliver g r) l
unfolding sum_of charge charge_of
charges g r [] = omega (arith, mul-zero r.weight)
charges g r (s ∷ l) = omega (arith, charges g r l, mul-add r.weight (sliver g r s) (sum_of (sliver g r) l))

pub sliver-told : (g : Grid) (r : Rule) (l : List Piece) {n c : ℕ} → n ≡ length l → c ≡ sum_of (charge g r) l → (r.weight ≡ 0 → ⊥)
    → (c - 1000 * n) / r.weight ≡ sum_of (sliver g r) l
sliver-told g r l {n} {c} e f h = div-eq_of_eq-mul_right (omega arith) (omega (arith, charges g r l))

-- the numbers in the list

module _ (g : Grid) (u : List ℕ) where
  numbers_more : (s : Piece) (l : List Piece)
      → numbers_of g (s ∷ l) ≡ g.x s.a ∷ g.y s.b ∷ g.x s.c ∷ g.y s.d ∷ numbers_of g l
  numbers_more s l = numbers-append g (s ∷ []) l ∙ ap (λ n. n ++ numbers_of g l) (numbers-one g s)

  -- the first four, and those behind them
  here : (s : Piece) (l : List Piece) (i : ℕ)
      → get_or (numbers_of g (s ∷ l) ++ u) i 0 ≡ get_or ((g.x s.a ∷ g.y s.b ∷ g.x s.c ∷ g.y s.d ∷ numbers_of g l) ++ u) i 0
  here s l i = ap (λ (n : List ℕ). get_or (n ++ u) i 0) (numbers_more s l)

  behind : (s : Piece) (l : List Piece) (m n : ℕ) → m ≡ suc (suc (suc (suc n))) → get_or (numbers_of g (s ∷ l) ++ u) m 0 ≡ get_or (numbers_of g l ++ u) n 0
  behind s l m n e = ap₂ (λ (v : List ℕ) (i : ℕ). get_or (v ++ u) i 0) (numbers_more s l) e

  pub numbers-at : (l : List Piece) (k : ℕ) → k < length l
      → (get_or (numbers_of g l ++ u) (4 * k) 0 ≡ g.x (shot_no l k).a)
      × (get_or (numbers_of g l ++ u) (4 * k + 1) 0 ≡ g.y (shot_no l k).b)
      × (get_or (numbers_of g l ++ u) (4 * k + 2) 0 ≡ g.x (shot_no l k).c)
      × (get_or (numbers_of g l ++ u) (4 * k + 3) 0 ≡ g.y (shot_no l k).d)
  unfolding shot_no
  numbers-at [] k h = absurd (omega arith)
  numbers-at (s ∷ l) zero h = (here s l 0, here s l 1, here s l 2, here s l 3)
  numbers-at (s ∷ l) (suc k) h =
      let t = numbers-at l k (omega arith) in (
        behind s l (4 * suc k) (4 * k) (omega arith) ∙ t.0,
        behind s l (4 * suc k + 1) (4 * k + 1) (omega arith) ∙ t.1,
        behind s l (4 * suc k + 2) (4 * k + 2) (omega arith) ∙ t.2,
        behind s l (4 * suc k + 3) (4 * k + 3) (omega arith) ∙ t.3,
      )
