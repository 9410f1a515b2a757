-- The tests say the conditions, and the number is that of the first that holds. Assumes nothing.
--
--   order, test, first_of     == the scope's order; whether a refusal's condition holds; the number of the first that does
--   test_true, true_test     == where a refusal's test passes its condition holds, and back
--   test_false               == where the condition does not hold the test fails
--   number_of, outcome-number == the number of the first test that passes is the outcome's
--   number-first, first-number   == the number n is given exactly when n is the first condition that holds
--   number-none, none_number     == 0 is given exactly when none holds
--   number-known             == no other number is given
use Prim.Native.Nat.{ℕ, ◌*◌, ◌≤◌, ◌<◌}
use mathlib.Core.Path.{◌≡◌, refl, sym, ◌∙◌, ap, subst}
use mathlib.Core.Logic.{◌⊎◌, inl, inr}
use mathlib.Core.Bool.{Bool, true, false, cond, not, ◌&&◌, ◌||◌, true≢false}
use mathlib.Core.List.Memᴰ
use mathlib.Core.List.{List, [], ◌∷◌, Memᴰ as Member}
use native.Mathlib.Omega.{arith}
use lib.Dec.{leb, ltb, eqb}
use lib.ListN.{length}
use borrow.Author.Tests.{leb-false, ltb-true, eqb-true, lt-leb, lt-ltb, eq-eqb, ne_eqb}
use Rattle.sum.specs.Sum.{over, only, All}
use Rattle.sum.proofs.Sum.{le-or, over_term, over_zero}
use Rattle.sum.proofs.Lists.{All-imp}
use Rattle.refusal.specs.declared.Refusal.{Refusal}
use Rattle.refusal.specs.declared.Refusal.TheVariants as because
use Rattle.refusal.specs.Refusals.{refusal_no}
use Rattle.refusal.proofs.Refusals.{refusal-one, refusal-some}
use Rattle.rule.specs.declared.Rule.{Rule}
use Rattle.rule.specs.Rules.{in_range}
use Rattle.figure.specs.declared.Axis.{Axis}
use Rattle.figure.specs.declared.Axis.TheVariants.{X, Y}
use Rattle.figure.specs.Corners.{Corner, Link, any, changes, both, neither, same, alike, slanted, unturned, Turn, into, onward}
use Rattle.figure.specs.Figure.{rings, edges_of, turns_of, bad_figure, fault}
use Rattle.figure.proofs.Fault.{bad_lengths, lengths_bad, or_elim}
use Rattle.figure.proofs.Together.{slanted-all, unturned-all}
use Rattle.outline.specs.Grid.{Grid}
use Rattle.outline.specs.Inside.{grid, inside_cells, empty}
use Rattle.outline.specs.Promise.{refusal}
use Rattle.table.specs.Entry.{entry_count, costs}
use Rattle.demands.specs.Cuts.{weighed_cuts}
use Rattle.demands.specs.Promise.{Asked, drawn, rule_of, frame_shots, frame_cost, frame_sliver, frame_numbers, written, refused, delivered, gridded, ruled, outcome}
use Rattle.demands.specs.Refusals.{Changes, Keeps, Condition, First}

-- "A fracture checks 1 to 7 in that order"
unfoldable pub order : List Refusal
order =
    because.Rule ∷ because.Length ∷ because.Slanted ∷ because.Unturned ∷ because.Empty ∷ because.Table ∷ because.List ∷ []

-- the number of the first of a list that holds, 0 if none does
unfoldable pub first_of : (Refusal → Bool) → List Refusal → ℕ
first_of holds [] = 0
first_of holds (c ∷ cs) = cond (holds c) (refusal_no c) (first_of holds cs)

module _ (ask : Asked) where
  unfoldable pub test : Refusal → Bool
  test because.Rule = not (in_range ask.threshold ask.weight)
  test because.Length = bad_figure ask.figure
  test because.Slanted = any slanted (rings ask.figure)
  test because.Unturned = any unturned (rings ask.figure)
  test because.Empty = empty (drawn ask)
  test because.Table = ltb (length ask.table) (entry_count (drawn ask).columns (drawn ask).rows)
  test because.List = ltb (length ask.list) (4 * length (frame_shots ask.mode (drawn ask) (rule_of ask)))
  test because.Ends = false
  test because.Padded = false
  test because.Range = false
  test because.Extra = false
  test because.Long = false
  test because.Missing = false
  test because.Room = false
  test because.Preset = false
  test because.Record = false
  test because.Unclosed = false
  test because.Extent = false
  test because.Largest = false
  test because.Full = false
  test because.Shots = false
  test because.Text = false
  test because.Edge = false

  unfoldable pub number_of : ℕ
  number_of = first_of test order

  -- the stages of the outcome try the tests in that order
  pub outcome-number : (outcome ask).number ≡ number_of
  unfolding outcome ruled gridded delivered refused refusal fault number_of first_of order test drawn
  outcome-number =
      go (in_range ask.threshold ask.weight) (bad_figure ask.figure) (any slanted (rings ask.figure))
      (any unturned (rings ask.figure)) (empty (grid ask.figure))
      (ltb (length ask.table) (entry_count (grid ask.figure).columns (grid ask.figure).rows))
      (ltb (length ask.list) (4 * length (frame_shots ask.mode (grid ask.figure) (rule_of ask))))
    where
      G : Grid
      G = grid ask.figure

      R : Rule
      R = rule_of ask

      no : Bool → Bool → Bool → Bool → ℕ
      no a b c d = cond (eqb (cond a 2 (cond b 3 (cond c 4 0))) 0) (cond d 5 0) (cond a 2 (cond b 3 (cond c 4 0)))

      go : (r a b c d e f : Bool)
          → (cond r
          (cond (eqb (no a b c d) 0)
          (cond e (refused 6 ask.table ask.list)
          (cond f
          (record { number = 7; shots = length (frame_shots ask.mode G R); cost = 0; sliver = 0; cuts = 0; table = written (costs ask.mode G R) ask.table; list = ask.list })
          (record {
            number = 0;
            shots = length (frame_shots ask.mode G R);
            cost = frame_cost ask.mode G R;
            sliver = frame_sliver ask.mode G R;
            cuts = weighed_cuts G;
            table = written (costs ask.mode G R) ask.table;
            list = written (frame_numbers ask.mode G R) ask.list;
          })))
          (refused (no a b c d) ask.table ask.list))
          (refused 1 ask.table ask.list)).number
          ≡ cond (not r) 1 (cond a 2 (cond b 3 (cond c 4 (cond d 5 (cond e 6 (cond f 7 0))))))
      go false a b c d e f = refl
      go true true b c d e f = refl
      go true false true c d e f = refl
      go true false false true d e f = refl
      go true false false false true e f = refl
      go true false false false false true f = refl
      go true false false false false false true = refl
      go true false false false false false false = refl

-- Tests

pub and-true : (a b : Bool) → (a && b) ≡ true → (a ≡ true) × (b ≡ true)
and-true true b e = (refl, e)
and-true false b e = absurd (true≢false (sym e))

or-true : (a b : Bool) → (a || b) ≡ true → (a ≡ true) ⊎ (b ≡ true)
or-true true b e = inl refl
or-true false b e = inr e

or_left : (a b : Bool) → a ≡ true → (a || b) ≡ true
or_left a b e = ap (λ a. a || b) e

or_right : (a b : Bool) → b ≡ true → (a || b) ≡ true
or_right true b e = refl
or_right false b e = e

module _ {A : Type 0} (t : A → Bool) where
  any_some : (l : List A) → any t l ≡ true → (s : A) × Member s l × (t s ≡ true)
  unfolding any
  any_some [] e = absurd (true≢false (sym e))
  any_some (s ∷ l) e = go (or-true (t s) (any t l) e) (any_some l)
    where
      go : (t s ≡ true) ⊎ (any t l ≡ true) → (any t l ≡ true → (u : A) × Member u l × (t u ≡ true)) → (u : A) × Member u (s ∷ l) × (t u ≡ true)
      go (inl h) i = (s, Member.head refl, h)
      go (inr h) i = let m = i h in (m.0, Member.tail m.1, m.2)

  any_of : (s : A) (l : List A) → Member s l → t s ≡ true → any t l ≡ true
  unfolding any
  any_of s [] m h = absurd (Memᴰ.not-nil m)
  any_of s (u ∷ l) (Member.head e) h = or_left (t u) (any t l) (ap t (sym e) ∙ h)
  any_of s (u ∷ l) (Member.tail m) h = or_right (t u) (any t l) (any_of s l m h)

changes_true : (a : Axis) (e : Link Corner) → changes a e ≡ true → Changes a e
unfolding changes
changes_true a e h k = true≢false (sym h ∙ ap not (eq-eqb _ _ k))

true_changes : (a : Axis) (e : Link Corner) → Changes a e → changes a e ≡ true
unfolding changes
true_changes a e h = ap not (ne_eqb _ _ h)

not-true : (b : Bool) → not b ≡ true → b ≡ false
not-true true e = sym e
not-true false e = refl

keeps_true : (a : Axis) (e : Link Corner) → not (changes a e) ≡ true → Keeps a e
unfolding changes
keeps_true a e h = eqb-true _ _ (twice _ (not-true _ h))
  where
    twice : (b : Bool) → not b ≡ false → b ≡ true
    twice true e = refl
    twice false e = sym e

true_keeps : (a : Axis) (e : Link Corner) → Keeps a e → not (changes a e) ≡ true
unfolding changes
true_keeps a e h = ap (λ b. not (not b)) (eq-eqb _ _ h)

and_both : (a b : Bool) → a ≡ true → b ≡ true → (a && b) ≡ true
and_both a b e f = ap (λ a. a && b) e ∙ f

module _ (ask : Asked) where
  abbrev Holds : Refusal → Type 0
  Holds c = Condition ask c

  pub test_true : (c : Refusal) → test ask c ≡ true → Holds c
  unfolding test Condition in_range both neither alike same empty inside_cells
  test_true because.Rule e = high (leb ask.threshold 1000) refl (leb ask.weight 1000) refl e
    where
      high : (a : Bool) → leb ask.threshold 1000 ≡ a → (b : Bool) → leb ask.weight 1000 ≡ b → not (a && b) ≡ true
          → (1000 < ask.threshold) ⊎ (1000 < ask.weight)
      high false p b q h = inl (leb-false _ _ p)
      high true p false q h = inr (leb-false _ _ q)
      high true p true q h = absurd (true≢false (sym h))
  test_true because.Length e = bad_lengths ask.figure e
  test_true because.Slanted e =
      let m = any_some both (edges_of ask.figure) (sym (slanted-all ask.figure) ∙ e) in
      let k = and-true _ _ m.2 in
      (m.0, m.1, changes_true X m.0 k.0, changes_true Y m.0 k.1)
  test_true because.Unturned e =
      or_elim _ _ (sym (unturned-all ask.figure) ∙ e)
      (λ h.
      let m = any_some neither (edges_of ask.figure) h in
      let k = and-true _ _ m.2 in
      inl (m.0, m.1, keeps_true X m.0 k.0, keeps_true Y m.0 k.1))
      (λ h. let m = any_some alike (turns_of ask.figure) h in inr (m.0, m.1, two m.0 (or-true _ _ m.2)))
    where
      two : (n : Turn) → (same X n ≡ true) ⊎ (same Y n ≡ true)
          → (Changes X (into n) × Changes X (onward n)) ⊎ (Changes Y (into n) × Changes Y (onward n))
      two n (inl h) = let k = and-true _ _ (unfold same in h) in inl (changes_true X (into n) k.0, changes_true X (onward n) k.1)
      two n (inr h) = let k = and-true _ _ (unfold same in h) in inr (changes_true Y (into n) k.0, changes_true Y (onward n) k.1)
  test_true because.Empty e = λ i j hi hj. no ((drawn ask).inside i j) (omega (arith, eqb-true (inside_cells (drawn ask)) 0 e, row i hi, cell i j hj))
    where
      row : (i : ℕ) → i < (drawn ask).columns → over 0 (drawn ask).rows (λ j. only ((drawn ask).inside i j) 1) ≤ inside_cells (drawn ask)
      row i hi = unfold inside_cells in over_term 0 (drawn ask).columns i (λ i. over 0 (drawn ask).rows (λ j. only ((drawn ask).inside i j) 1)) (omega arith) hi

      cell : (i j : ℕ) → j < (drawn ask).rows → only ((drawn ask).inside i j) 1 ≤ over 0 (drawn ask).rows (λ j. only ((drawn ask).inside i j) 1)
      cell i j hj = over_term 0 (drawn ask).rows j (λ j. only ((drawn ask).inside i j) 1) (omega arith) hj

      no : (b : Bool) → only b 1 ≤ 0 → b ≡ false
      no true h = absurd (omega arith)
      no false h = refl
  test_true because.Table e = ltb-true _ _ e
  test_true because.List e = ltb-true _ _ e
  test_true because.Ends e = absurd (true≢false (sym e))
  test_true because.Padded e = absurd (true≢false (sym e))
  test_true because.Range e = absurd (true≢false (sym e))
  test_true because.Extra e = absurd (true≢false (sym e))
  test_true because.Long e = absurd (true≢false (sym e))
  test_true because.Missing e = absurd (true≢false (sym e))
  test_true because.Room e = absurd (true≢false (sym e))
  test_true because.Preset e = absurd (true≢false (sym e))
  test_true because.Record e = absurd (true≢false (sym e))
  test_true because.Unclosed e = absurd (true≢false (sym e))
  test_true because.Extent e = absurd (true≢false (sym e))
  test_true because.Largest e = absurd (true≢false (sym e))
  test_true because.Full e = absurd (true≢false (sym e))
  test_true because.Shots e = absurd (true≢false (sym e))
  test_true because.Text e = absurd (true≢false (sym e))
  test_true because.Edge e = absurd (true≢false (sym e))

  pub true_test : (c : Refusal) → Holds c → test ask c ≡ true
  unfolding test Condition in_range both neither alike same empty inside_cells
  true_test because.Rule (inl h) = ap (λ b. not (b && leb ask.weight 1000)) (lt-leb ask.threshold 1000 h)
  true_test because.Rule (inr h) = ap (λ b. not (leb ask.threshold 1000 && b)) (lt-leb ask.weight 1000 h) ∙ none (leb ask.threshold 1000)
    where
      none : (b : Bool) → not (b && false) ≡ true
      none true = refl
      none false = refl
  true_test because.Length h = lengths_bad ask.figure h
  true_test because.Slanted m =
      slanted-all ask.figure
      ∙ any_of both m.0 (edges_of ask.figure) m.1 (and_both _ _ (true_changes X m.0 m.2) (true_changes Y m.0 m.3))
  true_test because.Unturned (inl m) =
      unturned-all ask.figure
      ∙ or_left _ _ (any_of neither m.0 (edges_of ask.figure) m.1 (and_both _ _ (true_keeps X m.0 m.2) (true_keeps Y m.0 m.3)))
  true_test because.Unturned (inr m) =
      unturned-all ask.figure
      ∙ or_right (any neither (edges_of ask.figure)) _ (any_of alike m.0 (turns_of ask.figure) m.1 (two m.0 m.2))
    where
      two : (n : Turn) → (Changes X (into n) × Changes X (onward n)) ⊎ (Changes Y (into n) × Changes Y (onward n)) → alike n ≡ true
      two n (inl h) = unfold alike same in or_left (same X n) (same Y n) (and_both _ _ (true_changes X (into n) h.0) (true_changes X (onward n) h.1))
      two n (inr h) = unfold alike same in or_right (same X n) (same Y n) (and_both _ _ (true_changes Y (into n) h.0) (true_changes Y (onward n) h.1))
  true_test because.Empty h =
      eq-eqb _ _
      (over_zero 0 (drawn ask).columns _
      (λ i p q. over_zero 0 (drawn ask).rows _ (λ j r s. ap (λ b. only b 1) (h i j q s))))
  true_test because.Table h = lt-ltb _ _ h
  true_test because.List h = lt-ltb _ _ h
  true_test because.Ends h = absurd h
  true_test because.Padded h = absurd h
  true_test because.Range h = absurd h
  true_test because.Extra h = absurd h
  true_test because.Long h = absurd h
  true_test because.Missing h = absurd h
  true_test because.Room h = absurd h
  true_test because.Preset h = absurd h
  true_test because.Record h = absurd h
  true_test because.Unclosed h = absurd h
  true_test because.Extent h = absurd h
  true_test because.Largest h = absurd h
  true_test because.Full h = absurd h
  true_test because.Shots h = absurd h
  true_test because.Text h = absurd h
  true_test because.Edge h = absurd h

  pub test_false : (c : Refusal) → (Holds c → ⊥) → test ask c ≡ false
  test_false c h = go (test ask c) refl
    where
      go : (b : Bool) → test ask c ≡ b → b ≡ false
      go false e = refl
      go true e = absurd (h (test_true c e))

-- The first of several

-- numbers rise along the list
abbrev Rises : List Refusal → Type 0
Rises [] = Unit {0}
Rises (c ∷ cs) = All (λ s. refusal_no c < refusal_no s) cs × Rises cs

order_rises : Rises order
unfolding order
order_rises = omega arith

-- what holds of all refusals in the order holds of each whose condition can hold
listed : (ask : Asked) (Q : Refusal → Type 0) → All Q order → (c : Refusal) → Condition ask c → Q c
unfolding order Condition
listed ask Q h because.Rule k = h.0
listed ask Q h because.Length k = h.1.0
listed ask Q h because.Slanted k = h.1.1.0
listed ask Q h because.Unturned k = h.1.1.1.0
listed ask Q h because.Empty k = h.1.1.1.1.0
listed ask Q h because.Table k = h.1.1.1.1.1.0
listed ask Q h because.List k = h.1.1.1.1.1.1.0
listed ask Q h because.Ends k = absurd k
listed ask Q h because.Padded k = absurd k
listed ask Q h because.Range k = absurd k
listed ask Q h because.Extra k = absurd k
listed ask Q h because.Long k = absurd k
listed ask Q h because.Missing k = absurd k
listed ask Q h because.Room k = absurd k
listed ask Q h because.Preset k = absurd k
listed ask Q h because.Record k = absurd k
listed ask Q h because.Unclosed k = absurd k
listed ask Q h because.Extent k = absurd k
listed ask Q h because.Largest k = absurd k
listed ask Q h because.Full k = absurd k
listed ask Q h because.Shots k = absurd k
listed ask Q h because.Text k = absurd k
listed ask Q h because.Edge k = absurd k

module _ (holds : Refusal → Bool) where
  -- none holds and the number is 0; or one holds, the number is its number, and none of a lower refusal_no does
  abbrev Told : List Refusal → ℕ → Type 0
  Told l n =
      ((n ≡ 0) × All (λ c. holds c ≡ false) l)
      ⊎ ((c : Refusal) × (n ≡ refusal_no c) × (holds c ≡ true) × All (λ s. refusal_no s < refusal_no c → holds s ≡ false) l)

  told : (l : List Refusal) → Rises l → Told l (first_of holds l)
  unfolding first_of
  told [] h = inl (refl, tt)
  told (c ∷ l) h = go (holds c) refl (told l h.1)
    where
      go : (b : Bool) → holds c ≡ b → Told l (first_of holds l) → Told (c ∷ l) (cond b (refusal_no c) (first_of holds l))
      go true e i =
          inr (c, refl, e, ((λ k. absurd (omega arith)), All-imp (λ s p q. absurd (omega arith)) l h.0))
      go false e (inl i) = inl (i.0, (e, i.1))
      go false e (inr i) = inr (i.0, i.1, i.2, ((λ q. e), i.3))

-- The number is that of the first condition that holds

module _ (ask : Asked) where
  -- a test that fails, and a condition that does not hold
  fails : (c : Refusal) → test ask c ≡ false → Condition ask c → ⊥
  fails c e h = true≢false (sym (true_test ask c h) ∙ e)

  said : Told (test ask) order (number_of ask)
  unfolding number_of
  said = told (test ask) order order_rises

  pub number-first : (c : Refusal) → number_of ask ≡ refusal_no c → First ask c
  number-first c e = go said
    where
      go : Told (test ask) order (number_of ask) → First ask c
      go (inl h) = absurd (omega (arith, h.0, refusal-some c))
      go (inr h) =
          let z : h.0 ≡ c = refusal-one h.0 c (sym h.1 ∙ e) in
          record {
            holds = test_true ask c (subst (λ d. test ask d ≡ true) z h.2);
            before = λ s k hs. fails s (listed ask (λ s. refusal_no s < refusal_no h.0 → test ask s ≡ false) h.3 s hs (subst (λ d. refusal_no s < refusal_no d) (sym z) k)) hs;
          }

  pub first-number : (c : Refusal) → First ask c → number_of ask ≡ refusal_no c
  first-number c f = go said
    where
      go : Told (test ask) order (number_of ask) → number_of ask ≡ refusal_no c
      go (inl h) = absurd (fails c (listed ask (λ c. test ask c ≡ false) h.1 c f.holds) f.holds)
      go (inr h) = elim (le-or (refusal_no h.0) (refusal_no c)) [
        | inl p ↦ elim (le-or (refusal_no c) (refusal_no h.0)) [
          | inl q ↦ omega (arith, h.1)
          | inr q ↦ absurd (f.before h.0 q (test_true ask h.0 h.2))
        ]
        | inr p ↦ absurd (fails c (listed ask (λ s. refusal_no s < refusal_no h.0 → test ask s ≡ false) h.3 c f.holds p) f.holds)
      ]

  pub number-none : number_of ask ≡ 0 → (c : Refusal) → Condition ask c → ⊥
  number-none e c = go said
    where
      go : Told (test ask) order (number_of ask) → Condition ask c → ⊥
      go (inl h) k = fails c (listed ask (λ c. test ask c ≡ false) h.1 c k) k
      go (inr h) k = absurd (omega (arith, h.1, refusal-some h.0))

  -- a fracture is refused by the first seven numbers only
  seven : All (λ c. refusal_no c ≤ 7) order
  unfolding order
  seven = omega arith

  pub number-known : (number_of ask ≡ 0) ⊎ ((c : Refusal) × (refusal_no c ≤ 7) × (number_of ask ≡ refusal_no c))
  number-known = go said
    where
      go : Told (test ask) order (number_of ask)
          → (number_of ask ≡ 0) ⊎ ((c : Refusal) × (refusal_no c ≤ 7) × (number_of ask ≡ refusal_no c))
      go (inl h) = inl h.0
      go (inr h) = inr (h.0, listed ask (λ c. refusal_no c ≤ 7) seven h.0 (test_true ask h.0 h.2), h.1)

  pub none_number : ((c : Refusal) → Condition ask c → ⊥) → number_of ask ≡ 0
  none_number f = go said
    where
      go : Told (test ask) order (number_of ask) → number_of ask ≡ 0
      go (inl h) = h.0
      go (inr h) = absurd (f h.0 (test_true ask h.0 h.2))
