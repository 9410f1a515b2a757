-- The divided outcome, stage by stage, and what the fracture before division gives. Assumes nothing.
--
--   largest_bad, bad_largest_lem, bad_above, largest-good    == 19 in numbers
--   aside-room                   == before division 7 is never given: there is room aside for the shots of every figure
--   outcome-rule, outcome-largest, outcome-after   == the outcome by the first stage that ends it
--   after-refused, after-short, after-done         == what comes after the fracture
--   short_of, done_of              == what 7 gives, and a success
--   Stage, stage                 == every outcome is one of five
--   Accepted, accepted           == a success, with all that it says; Short, short: 7 likewise
use Prim.Native.Nat.{ℕ, ◌+◌, ◌*◌, ◌≤◌, ◌<◌}
use mathlib.Core.Path.{◌≡◌, refl, sym, ◌∙◌, ap, ap₂}
use mathlib.Core.Bool.{Bool, true, false, cond, ◌||◌, true≢false}
use mathlib.Core.Logic.{◌⊎◌, inl, inr}
use native.Mathlib.Omega.{arith}
use lib.Dec.{ltb}
use lib.ListN.{length, length-replicate}
use borrow.Author.Tests.{lt-ltb, le-ltb, ltb-true, ltb-false, eq-eqb, ne_eqb}
use Rattle.sum.proofs.Sum.{le-or}
use Rattle.outline.specs.Grid.{Sound}
use Rattle.refusal.specs.declared.Refusal.{Refusal}
use Rattle.refusal.specs.declared.Refusal.TheVariants as because
use Rattle.refusal.specs.Refusals.{refusal_no}
use Rattle.refusal.proofs.Refusals.{refusal-some}
use Rattle.rule.specs.Rules.{in_range}
use Rattle.shot.specs.Shot.{numbers}
use Rattle.piece.specs.Piece.{frame}
use Rattle.piece.proofs.Bound.{count_most}
use Rattle.demands.specs.Promise.{Asked, drawn, rule_of, frame_shots, Outcome, written, refused, outcome}
use Rattle.demands.specs.Refusals as undivided
use Rattle.demands.specs.Demands.{Words}
use Rattle.demands.proofs.Refusals.{test, test_false}
use Rattle.demands.proofs.Figure.{figure-sound}
use Rattle.demands.proofs.Demands as demands
use Rattle.division.specs.Promise.{bad_largest, room_aside, aside, parts, listed, after, divided_outcome}

-- 19

module _ (t m : ℕ) where
  abbrev pub Outside : Type 0
  Outside = (m < 200) ⊎ ((m < 2 * t) ⊎ (65535 < m))

  pub largest_bad : bad_largest t m ≡ true → Outside
  unfolding bad_largest
  largest_bad e = go (ltb m 200) refl (ltb m (2 * t)) refl e
    where
      go : (a : Bool) → ltb m 200 ≡ a → (b : Bool) → ltb m (2 * t) ≡ b → ((a || b) || ltb 65535 m) ≡ true → Outside
      go true p b q h = inl (ltb-true m 200 p)
      go false p true q h = inr (inl (ltb-true m (2 * t) q))
      go false p false q h = inr (inr (ltb-true 65535 m h))

  pub bad_largest_lem : Outside → bad_largest t m ≡ true
  unfolding bad_largest
  bad_largest_lem (inl h) = ap (λ a. (a || ltb m (2 * t)) || ltb 65535 m) (lt-ltb m 200 h)
  bad_largest_lem (inr (inl h)) = ap (λ b. (ltb m 200 || b) || ltb 65535 m) (lt-ltb m (2 * t) h) ∙ some (ltb m 200)
    where
      some : (a : Bool) → ((a || true) || ltb 65535 m) ≡ true
      some true = refl
      some false = refl
  bad_largest_lem (inr (inr h)) = ap (λ c. (ltb m 200 || ltb m (2 * t)) || c) (lt-ltb 65535 m h) ∙ some (ltb m 200 || ltb m (2 * t))
    where
      some : (a : Bool) → (a || true) ≡ true
      some true = refl
      some false = refl

  pub bad_above : 200 ≤ m → 2 * t ≤ m → ltb 65535 m ≡ bad_largest t m
  unfolding bad_largest
  bad_above h k = sym (ap₂ (λ a b. (a || b) || ltb 65535 m) (le-ltb m 200 h) (le-ltb m (2 * t) k))

  pub largest-good : bad_largest t m ≡ false → (200 ≤ m) × (2 * t ≤ m) × (m ≤ 65535)
  unfolding bad_largest
  largest-good e = go (ltb m 200) refl (ltb m (2 * t)) refl e
    where
      go : (a : Bool) → ltb m 200 ≡ a → (b : Bool) → ltb m (2 * t) ≡ b → ((a || b) || ltb 65535 m) ≡ false → (200 ≤ m) × (2 * t ≤ m) × (m ≤ 65535)
      go true p b q h = absurd (true≢false h)
      go false p true q h = absurd (true≢false h)
      go false p false q h = (ltb-false m 200 p, ltb-false m (2 * t) q, ltb-false 65535 m h)

-- Before division

pub room-aside : length room_aside ≡ 900
unfolding room_aside
room-aside = length-replicate {A = ℕ} 900 0

module _ (ask : Asked) (words : Words ask.figure) where
  pub aside-room : (outcome (aside ask)).number ≡ 7 → ⊥
  unfolding undivided.Condition frame_shots frame drawn test
  aside-room e =
      let f = (demands.refused_exactly (aside ask) because.List).0 e in
      let s : Sound (drawn ask) =
      figure-sound ask.figure words
      (record {
        figure-good = test_false (aside ask) because.Length (f.before because.Length (omega arith));
        slanted-none = test_false (aside ask) because.Slanted (f.before because.Slanted (omega arith));
        unturned-none = test_false (aside ask) because.Unturned (f.before because.Unturned (omega arith));
      })
      in
      omega (
        arith,
        room-aside,
        f.holds,
        count_most ask.mode (drawn ask) (rule_of ask) s (frame (drawn ask)) (omega arith) (omega arith) (omega arith) (omega arith),
      )

-- Stage by stage

module _ (ask : Asked) (m : ℕ) where
  abbrev u : Outcome
  u = outcome (aside ask)

  abbrev o : Outcome
  o = divided_outcome ask m

  unfoldable pub short_of : Outcome
  short_of = record { number = 7; shots = length (parts m u); cost = 0; sliver = 0; cuts = 0; table = u.table; list = ask.list }

  unfoldable pub done_of : Outcome
  done_of =
      record {
        number = 0;
        shots = length (parts m u);
        cost = 1000 * length (parts m u) + ask.weight * u.sliver;
        sliver = u.sliver;
        cuts = u.cuts;
        table = u.table;
        list = written (numbers (parts m u)) ask.list;
      }

  abbrev largest-or-after : Bool → Outcome
  largest-or-after b = cond b (refused 19 ask.table ask.list) (after m ask.weight u ask.list)

  pub outcome-rule : in_range ask.threshold ask.weight ≡ false → o ≡ refused 1 ask.table ask.list
  unfolding divided_outcome
  outcome-rule e = ap (λ b. cond b (largest-or-after (bad_largest ask.threshold m)) (refused 1 ask.table ask.list)) e

  module _ (range : in_range ask.threshold ask.weight ≡ true) where
    by-largest : o ≡ largest-or-after (bad_largest ask.threshold m)
    unfolding divided_outcome
    by-largest = ap (λ b. cond b (largest-or-after (bad_largest ask.threshold m)) (refused 1 ask.table ask.list)) range

    pub outcome-largest : bad_largest ask.threshold m ≡ true → o ≡ refused 19 ask.table ask.list
    outcome-largest e = by-largest ∙ ap largest-or-after e

    pub outcome-after : bad_largest ask.threshold m ≡ false → o ≡ after m ask.weight u ask.list
    outcome-after e = by-largest ∙ ap largest-or-after e

  abbrev by_number : Bool → Outcome
  by_number b = cond b (listed ask.weight (parts m u) u.sliver u.cuts u.table ask.list) (refused u.number u.table ask.list)

  pub after-refused : 0 < u.number → after m ask.weight u ask.list ≡ refused u.number u.table ask.list
  unfolding after
  after-refused h = ap by_number (ne_eqb u.number 0 (λ z. omega arith))

  module _ (fractured : u.number ≡ 0) where
    pub after-listed : after m ask.weight u ask.list ≡ listed ask.weight (parts m u) u.sliver u.cuts u.table ask.list
    unfolding after
    after-listed = ap by_number (eq-eqb u.number 0 fractured)

    pub after-short : length ask.list < 4 * length (parts m u) → after m ask.weight u ask.list ≡ short_of
    unfolding listed short_of done_of
    after-short h = after-listed ∙ ap (λ b. cond b short_of done_of) (lt-ltb (length ask.list) (4 * length (parts m u)) h)

    pub after-done : 4 * length (parts m u) ≤ length ask.list → after m ask.weight u ask.list ≡ done_of
    unfolding listed short_of done_of
    after-done h = after-listed ∙ ap (λ b. cond b short_of done_of) (le-ltb (length ask.list) (4 * length (parts m u)) h)

  -- The five ways

  pub record Passed : Type 0 where
    pub range : in_range ask.threshold ask.weight ≡ true
    pub fits : bad_largest ask.threshold m ≡ false

  pub record Short : Type 0 where
    pub passed : Passed
    pub fractured : u.number ≡ 0
    pub room : length ask.list < 4 * length (parts m u)
    pub is : o ≡ short_of

  pub record Accepted : Type 0 where
    pub passed : Passed
    pub fractured : u.number ≡ 0
    pub room : 4 * length (parts m u) ≤ length ask.list
    pub is : o ≡ done_of

  pub data Stage : Type 0 where
    at-rule : in_range ask.threshold ask.weight ≡ false → o ≡ refused 1 ask.table ask.list → Stage
    at-largest : in_range ask.threshold ask.weight ≡ true → bad_largest ask.threshold m ≡ true → o ≡ refused 19 ask.table ask.list → Stage
    at-figure : Passed → (c : Refusal) → refusal_no c < 7 → u.number ≡ refusal_no c → o ≡ refused (refusal_no c) ask.table ask.list → Stage
    at-list : Short → Stage
    at-end : Accepted → Stage

  module _ (words : Words ask.figure) where
    -- after 1 and 19
    from-fracture : Passed → Stage
    unfolding refused
    from-fracture p = go (demands.number-listed (aside ask))
      where
        is : o ≡ after m ask.weight u ask.list
        is = outcome-after p.range p.fits

        go : (u.number ≡ 0) ⊎ ((c : Refusal) × (refusal_no c ≤ 7) × (u.number ≡ refusal_no c)) → Stage
        go (inl e) = elim (le-or (4 * length (parts m u)) (length ask.list)) [
          | inl h ↦ at-end (record { passed = p; fractured = e; room = h; is = is ∙ after-done e h })
          | inr h ↦ at-list (record { passed = p; fractured = e; room = h; is = is ∙ after-short e h })
        ]
        go (inr c) = elim (le-or 7 (refusal_no c.0)) [
          | inl h ↦ absurd (aside-room ask words (omega (arith, c.1, c.2)))
          | inr h ↦
              (let k = demands.refusal-keeps (aside ask) c.0 h c.2 in
              at-figure p c.0 h c.2
              (is
              ∙ after-refused (omega (arith, refusal-some c.0, c.2))
              ∙ ap (λ n. refused n u.table ask.list) c.2
              ∙ ap (λ l. refused (refusal_no c.0) l ask.list) k.3))
        ]

    pub stage : Stage
    stage = go (in_range ask.threshold ask.weight) refl (bad_largest ask.threshold m) refl
      where
        go : (a : Bool) → in_range ask.threshold ask.weight ≡ a → (b : Bool) → bad_largest ask.threshold m ≡ b → Stage
        go false e b f = at-rule e (outcome-rule e)
        go true e true f = at-largest e f (outcome-largest e f)
        go true e false f = from-fracture (record { range = e; fits = f })

    pub accepted : o.number ≡ 0 → Accepted
    unfolding refused short_of
    accepted e = go stage
      where
        not-zero : {x : Outcome} (n : ℕ) → o ≡ x → x.number ≡ n → 0 < n → ⊥
        not-zero n q k h = omega (arith, e, ap (λ (o : Outcome). o.number) q, k)

        go : Stage → Accepted
        go (at-rule p q) = absurd (not-zero 1 q refl (omega arith))
        go (at-largest p f q) = absurd (not-zero 19 q refl (omega arith))
        go (at-figure p c h f q) = absurd (not-zero (refusal_no c) q refl (refusal-some c))
        go (at-list s) = absurd (not-zero 7 s.is refl (omega arith))
        go (at-end a) = a

    pub short : o.number ≡ 7 → Short
    unfolding refused done_of
    short e = go stage
      where
        not_seven : {x : Outcome} (n : ℕ) → o ≡ x → x.number ≡ n → (n ≡ 7 → ⊥) → ⊥
        not_seven n q k h = h (omega (arith, e, ap (λ (o : Outcome). o.number) q, k))

        go : Stage → Short
        go (at-rule p q) = absurd (not_seven 1 q refl (λ z. omega arith))
        go (at-largest p f q) = absurd (not_seven 19 q refl (λ z. omega arith))
        go (at-figure p c h f q) = absurd (not_seven (refusal_no c) q refl (λ z. omega arith))
        go (at-list s) = s
        go (at-end a) = absurd (not_seven 0 a.is refl (λ z. omega arith))
