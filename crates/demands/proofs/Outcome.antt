-- Laws of a buffer that was written, and of the outcome stage by stage. Assumes nothing.
--
--   written-past         == a buffer after it was written: behind what is written every number is as it was
--   written-length, written-front, written_at   == its length, its front, one of the numbers written
--   accepted ask, short ask   == a success, and what 7 gives, with the costs in the table
--   outcome-rule, outcome-figure, outcome-table, outcome-list, outcome-accepted   == the outcome by the first stage that ends it
--   Ended, ended         == every outcome is accepted, short or refused
--   outcome-zero, outcome_seven, outcome-other   == the outcome by its number
--   outcome-seen         == of a figure a fracture sees nothing but its refusal and its grid
--   answer-same          == the answer goes by the lengths of the buffers, not by what they held
--   outcome_unique       == two outcomes that are what was promised are equal
use Prim.Native.Nat.{ℕ, ◌+◌, ◌*◌, ◌-◌, ◌≤◌, ◌<◌}
use mathlib.Core.Path.{◌≡◌, refl, sym, ◌∙◌, ap, ap₂}
use mathlib.Core.Bool.{Bool, true, false, cond}
use mathlib.Core.Logic.{◌⊎◌, inl, inr}
use mathlib.Core.List.{List, []}
use native.Mathlib.Omega.{arith}
use lib.Dec.{ltb, eqb}
use lib.ListN.{length, drop, take, get_or, length-append, length-drop, get_or-append}
use lib.Seq.{take_at, get_or-append-add, get_or-drop}
use borrow.Author.Tests.{lt-ltb, le-ltb, eq-eqb, ne_eqb, eqb-true, eqb-false, ltb-true, ltb-false}
use Rattle.sum.proofs.Sum.{le-or}
use Rattle.rule.specs.declared.Rule.{Rule}
use Rattle.rule.specs.Rules.{in_range}
use Rattle.figure.specs.Figure.{Figure}
use Rattle.outline.specs.Grid.{Grid}
use Rattle.outline.specs.Inside.{grid}
use Rattle.outline.specs.Promise.{refusal}
use Rattle.outline.proofs.Promise.{refusal-most}
use Rattle.piece.specs.declared.Mode.{Mode}
use Rattle.table.specs.Entry.{entry_count, costs}
use Rattle.demands.specs.Cuts.{weighed_cuts}
use Rattle.demands.specs.Promise.{Asked, drawn, rule_of, frame_shots, frame_cost, frame_sliver, frame_numbers, Outcome, written, refused, delivered, gridded, ruled, outcome}
use Rattle.demands.specs.Demands.{answer}

pub written-past : (front old : List ℕ) (i : ℕ) → length front ≤ i → get_or (written front old) i 0 ≡ get_or old i 0
unfolding written
written-past front old i h =
    let k : ℕ = i - length front in
    let e : i ≡ length front + k = omega arith in
    let behind : get_or (written front old) (length front + k) 0 ≡ get_or old (length front + k) 0 = simp (get_or-append-add, get_or-drop) in
    ap (λ n. get_or (written front old) n 0) e ∙ behind ∙ ap (λ n. get_or old n 0) (sym e)

pub written-length : (front old : List ℕ) → length front ≤ length old → length (written front old) ≡ length old
unfolding written
written-length front old h = simp (length-append, length-drop) (omega arith)

pub written-front : (front old : List ℕ) → take (length front) (written front old) ≡ front
unfolding written
written-front front old = take_at front (drop (length front) old) (length front) refl

pub written_at : (front old : List ℕ) (i : ℕ) → i < length front → get_or (written front old) i 0 ≡ get_or front i 0
unfolding written
written_at front old i h = get_or-append front (drop (length front) old) 0 i h

module _ (ask : Asked) where
  unfoldable pub accepted : Outcome
  accepted =
      record {
        number = 0;
        shots = length (frame_shots ask.mode (drawn ask) (rule_of ask));
        cost = frame_cost ask.mode (drawn ask) (rule_of ask);
        sliver = frame_sliver ask.mode (drawn ask) (rule_of ask);
        cuts = weighed_cuts (drawn ask);
        table = written (costs ask.mode (drawn ask) (rule_of ask)) ask.table;
        list = written (frame_numbers ask.mode (drawn ask) (rule_of ask)) ask.list;
      }

  unfoldable pub short : Outcome
  short =
      record {
        number = 7;
        shots = length (frame_shots ask.mode (drawn ask) (rule_of ask));
        cost = 0;
        sliver = 0;
        cuts = 0;
        table = written (costs ask.mode (drawn ask) (rule_of ask)) ask.table;
        list = ask.list;
      }

  -- Stage by stage

  pub outcome-rule : in_range ask.threshold ask.weight ≡ false → outcome ask ≡ refused 1 ask.table ask.list
  unfolding outcome
  outcome-rule e = ap (λ b. cond b (ruled ask.mode ask.figure (rule_of ask) ask.table ask.list) (refused 1 ask.table ask.list)) e

  module _ (range : in_range ask.threshold ask.weight ≡ true) where
    by-rule : outcome ask ≡ ruled ask.mode ask.figure (rule_of ask) ask.table ask.list
    unfolding outcome
    by-rule = ap (λ b. cond b (ruled ask.mode ask.figure (rule_of ask) ask.table ask.list) (refused 1 ask.table ask.list)) range

    pub outcome-figure : 0 < refusal ask.figure → outcome ask ≡ refused (refusal ask.figure) ask.table ask.list
    unfolding ruled
    outcome-figure h =
        by-rule
        ∙ ap (λ b. cond b (gridded ask.mode (grid ask.figure) (rule_of ask) ask.table ask.list) (refused (refusal ask.figure) ask.table ask.list))
        (ne_eqb (refusal ask.figure) 0 (λ z. omega arith))

    module _ (good : refusal ask.figure ≡ 0) where
      by-grid : outcome ask ≡ gridded ask.mode (drawn ask) (rule_of ask) ask.table ask.list
      unfolding ruled drawn
      by-grid =
          by-rule
          ∙ ap (λ b. cond b (gridded ask.mode (grid ask.figure) (rule_of ask) ask.table ask.list) (refused (refusal ask.figure) ask.table ask.list))
          (eq-eqb (refusal ask.figure) 0 good)

      -- the table filled, and the shots delivered
      abbrev rest : Outcome
      rest = delivered ask.mode (drawn ask) (rule_of ask) (written (costs ask.mode (drawn ask) (rule_of ask)) ask.table) ask.list

      pub outcome-table : length ask.table < entry_count (drawn ask).columns (drawn ask).rows → outcome ask ≡ refused 6 ask.table ask.list
      unfolding gridded
      outcome-table k = by-grid ∙ ap (λ b. cond b (refused 6 ask.table ask.list) rest) (lt-ltb _ _ k)

      module _ (entries : entry_count (drawn ask).columns (drawn ask).rows ≤ length ask.table) where
        by-table : outcome ask ≡ rest
        unfolding gridded
        by-table = by-grid ∙ ap (λ b. cond b (refused 6 ask.table ask.list) rest) (le-ltb _ _ entries)

        pub outcome-list : length ask.list < 4 * length (frame_shots ask.mode (drawn ask) (rule_of ask)) → outcome ask ≡ short
        unfolding delivered short accepted
        outcome-list m = by-table ∙ ap (λ b. cond b short accepted) (lt-ltb _ _ m)

        pub outcome-accepted : 4 * length (frame_shots ask.mode (drawn ask) (rule_of ask)) ≤ length ask.list → outcome ask ≡ accepted
        unfolding delivered short accepted
        outcome-accepted m = by-table ∙ ap (λ b. cond b short accepted) (le-ltb _ _ m)

  -- By the number

  -- every outcome is one of these
  abbrev pub Ended : Type 0
  Ended = (outcome ask ≡ accepted) ⊎ ((outcome ask ≡ short) ⊎ ((n : ℕ) × (0 < n) × (n < 7) × (outcome ask ≡ refused n ask.table ask.list)))

  pub ended : Ended
  ended =
      go (in_range ask.threshold ask.weight) refl (eqb (refusal ask.figure) 0) refl
      (ltb (length ask.table) (entry_count (drawn ask).columns (drawn ask).rows)) refl
      (ltb (length ask.list) (4 * length (frame_shots ask.mode (drawn ask) (rule_of ask)))) refl
    where
      some : (n : ℕ) → (n ≡ 0 → ⊥) → 0 < n
      some n h = elim (le-or 1 n) [ inl q ↦ q | inr q ↦ absurd (h (omega arith)) ]

      go : (a : Bool) → in_range ask.threshold ask.weight ≡ a → (b : Bool) → eqb (refusal ask.figure) 0 ≡ b
          → (c : Bool) → ltb (length ask.table) (entry_count (drawn ask).columns (drawn ask).rows) ≡ c
          → (d : Bool) → ltb (length ask.list) (4 * length (frame_shots ask.mode (drawn ask) (rule_of ask))) ≡ d
          → Ended
      go false e b f c g d h = inr (inr (1, omega arith, omega arith, outcome-rule e))
      go true e false f c g d h =
          let k = some (refusal ask.figure) (eqb-false _ _ f) in
          inr (inr (refusal ask.figure, k, omega (arith, refusal-most ask.figure), outcome-figure e k))
      go true e true f true g d h = inr (inr (6, omega arith, omega arith, outcome-table e (eqb-true _ _ f) (ltb-true _ _ g)))
      go true e true f false g true h = inr (inl (outcome-list e (eqb-true _ _ f) (ltb-false _ _ g) (ltb-true _ _ h)))
      go true e true f false g false h = inl (outcome-accepted e (eqb-true _ _ f) (ltb-false _ _ g) (ltb-false _ _ h))

  -- an outcome has one number
  not-both : {x : Outcome} (m n : ℕ) → (outcome ask).number ≡ m → outcome ask ≡ x → x.number ≡ n → (m ≡ n → ⊥) → ⊥
  not-both m n e q k d = d (sym e ∙ ap (λ (o : Outcome). o.number) q ∙ k)

  pub outcome-zero : (outcome ask).number ≡ 0 → outcome ask ≡ accepted
  unfolding accepted short refused
  outcome-zero e = go ended
    where
      go : Ended → outcome ask ≡ accepted
      go (inl q) = q
      go (inr (inl q)) = absurd (not-both 0 7 e q refl (λ z. omega arith))
      go (inr (inr q)) = absurd (not-both 0 q.0 e q.3 refl (λ z. omega (arith, q.1)))

  pub outcome_seven : (outcome ask).number ≡ 7 → outcome ask ≡ short
  unfolding accepted short refused
  outcome_seven e = go ended
    where
      go : Ended → outcome ask ≡ short
      go (inl q) = absurd (not-both 7 0 e q refl (λ z. omega arith))
      go (inr (inl q)) = q
      go (inr (inr q)) = absurd (not-both 7 q.0 e q.3 refl (λ z. omega (arith, q.2)))

  pub outcome-other : (n : ℕ) → 0 < n → n < 7 → (outcome ask).number ≡ n → outcome ask ≡ refused n ask.table ask.list
  unfolding accepted short refused
  outcome-other n h k e = go ended
    where
      go : Ended → outcome ask ≡ refused n ask.table ask.list
      go (inl q) = absurd (not-both n 0 e q refl (λ z. omega arith))
      go (inr (inl q)) = absurd (not-both n 7 e q refl (λ z. omega arith))
      go (inr (inr q)) =
          let z : q.0 ≡ n = sym (ap (λ (o : Outcome). o.number) q.3) ∙ e in
          q.3 ∙ ap (λ m. refused m ask.table ask.list) z

  pub outcome_unique : (u v : Outcome) → u ≡ outcome ask → v ≡ outcome ask → u ≡ v
  outcome_unique u v e f = e ∙ sym f

-- Of a figure a fracture sees nothing but its refusal and its grid

abbrev pub with_figure : Asked → Figure → Asked
with_figure ask f = record { mode = ask.mode; figure = f; threshold = ask.threshold; weight = ask.weight; table = ask.table; list = ask.list }

pub outcome-seen : (ask : Asked) (f : Figure) → refusal ask.figure ≡ refusal f → grid ask.figure ≡ grid f
    → outcome ask ≡ outcome (with_figure ask f)
unfolding outcome ruled
outcome-seen ask f e h =
    ap₂
    (λ n g.
    cond (in_range ask.threshold ask.weight)
    (cond (eqb n 0) (gridded ask.mode g (rule_of ask) ask.table ask.list) (refused n ask.table ask.list))
    (refused 1 ask.table ask.list))
    e
    h

-- The same in another mode

abbrev pub in_mode : Mode → Asked → Asked
in_mode mode ask = record { mode = mode; figure = ask.figure; threshold = ask.threshold; weight = ask.weight; table = ask.table; list = ask.list }

-- What the buffers held before does not count

abbrev pub with_buffers : Asked → List ℕ → List ℕ → Asked
with_buffers ask table list = record { mode = ask.mode; figure = ask.figure; threshold = ask.threshold; weight = ask.weight; table = table; list = list }

module _ (ask : Asked) where
  -- the answer by what each stage finds
  said : Bool → Bool → Bool → Bool → Outcome
  said a b c d =
      cond a
      (cond b (cond c (refused 6 [] []) (cond d (answer (short ask)) (answer (accepted ask)))) (refused (refusal ask.figure) [] []))
      (refused 1 [] [])

  answer-by : (table list : List ℕ) → answer (outcome (with_buffers ask table list))
      ≡ said (in_range ask.threshold ask.weight) (eqb (refusal ask.figure) 0)
      (ltb (length table) (entry_count (drawn ask).columns (drawn ask).rows))
      (ltb (length list) (4 * length (frame_shots ask.mode (drawn ask) (rule_of ask))))
  unfolding answer outcome ruled gridded delivered said accepted short refused drawn
  answer-by table list =
      go (in_range ask.threshold ask.weight) (eqb (refusal ask.figure) 0)
      (ltb (length table) (entry_count (grid ask.figure).columns (grid ask.figure).rows))
      (ltb (length list) (4 * length (frame_shots ask.mode (grid ask.figure) (rule_of ask))))
    where
      g : Grid
      g = grid ask.figure

      r : Rule
      r = rule_of ask

      go : (a b c d : Bool)
          → answer (cond a
          (cond b
          (cond c (refused 6 table list)
          (cond d
          (record { number = 7; shots = length (frame_shots ask.mode g r); cost = 0; sliver = 0; cuts = 0; table = written (costs ask.mode g r) table; list = list })
          (record { number = 0; shots = length (frame_shots ask.mode g r); cost = frame_cost ask.mode g r; sliver = frame_sliver ask.mode g r; cuts = weighed_cuts g; table = written (costs ask.mode g r) table; list = written (frame_numbers ask.mode g r) list })))
          (refused (refusal ask.figure) table list))
          (refused 1 table list))
          ≡ said a b c d
      go true true true d = refl
      go true true false true = refl
      go true true false false = refl
      go true false c d = refl
      go false b c d = refl

  pub answer-same : (table list : List ℕ) → length ask.table ≡ length table → length ask.list ≡ length list
      → answer (outcome ask) ≡ answer (outcome (with_buffers ask table list))
  answer-same table list entries room =
      answer-by ask.table ask.list
      ∙ ap₂
      (λ m n.
      said (in_range ask.threshold ask.weight) (eqb (refusal ask.figure) 0)
      (ltb m (entry_count (drawn ask).columns (drawn ask).rows))
      (ltb n (4 * length (frame_shots ask.mode (drawn ask) (rule_of ask)))))
      entries
      room
      ∙ sym (answer-by table list)
