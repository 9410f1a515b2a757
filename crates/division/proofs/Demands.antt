-- The demands of a fracture with a largest side, as theorems about the outcome that its call promises. Assumes nothing.
--
-- For all that it can be asked (ask, and the largest side m); o is the outcome, u that of the same question before division, with room
-- aside for every shot, and F the figure at the nanometre. Words says that the figure is given by 16-bit numbers, as every figure is.
-- Demand 3 and the scope's bound on totals speak of the list before division: they are the theorems `never_cheaper`, `attained`,
-- `frame-entry` and `bound` of demands/proofs/Demands.antt, of u, whose table is the one that is left (`before_division`).
--
-- Demand 1
--   refused_exactly      == the number of the refusal c is given exactly when c's condition is the first in the order 1, 19, 2 to 7 that holds
--   accepted_exactly     == 0 is given exactly when no condition holds
--   number-listed        == nothing else is given
--   refusal-keeps        == beside 1, 19 and 2 to 6: zeros, and both buffers as they came in
--   short-keeps          == beside 7: the divided shots needed, zeros, the list as it came in, the table filled
--   lengths-kept, written-beyond == buffers keep their lengths; behind what is written every number is as it came in, and every number of a
--                           buffer that is not written
--   divided-same         == what the buffers held before has no influence on the answer (proofs/Influence.antt)
--   divided_unique       == two outcomes that are what was promised are equal
-- The list
--   reported-is          == the reported shots are those before division, each replaced by its parts, in their order (Division: parts-at,
--                           neighbours; Evenly: count-fewest, steps-even)
--   shots-fit            == no side of a reported shot is longer than m, and each has area
--   shots_writable       == so the list passes 21: it can be written and joined
--   cover; shots-inside, shots-apart, shots_cover   == each unit square is in exactly one reported shot if it is inside, and in none if not
--   these_shots          == count, sliver length and cost, worked out anew from the four numbers of each reported shot, at unit squares
--   before_division      == the sliver length is that before division, the cuts and the table too; the shots are the sum of the products of
--                           parts over the shots before division; the frame's entry is the cost before division
--   shots-most, cost-most == at most 116,964 shots and a cost of 2,214,084,000: both fit 32 bits
use Prim.Native.Nat.{ℕ, suc, ◌+◌, ◌*◌, ◌≤◌, ◌<◌}
use mathlib.Core.Path.{◌≡◌, refl, sym, ◌∙◌, ap, subst}
use mathlib.Core.Bool.{Bool, true, false}
use mathlib.Core.Logic.{◌⊎◌, inl, inr}
use mathlib.Core.List.{List, [], ◌∷◌, Memᴰ as Member}
use native.Mathlib.Omega.{arith}
use native.Mathlib.Nat.{mul-le-mul, mul-add}
use lib.ListN.{length, take, get_or}
use Rattle.sum.specs.Sum.{only, sum_of, All, join}
use Rattle.sum.proofs.Sum.{only-most, rise}
use Rattle.sum.proofs.Lists.{sum_of_member, sum_of-two, sum_of-some, sum_of-join, sum_of-map, sum_of-same, All-imp, All-map, All-join, All-at}
use Rattle.refusal.specs.declared.Refusal.{Refusal}
use Rattle.refusal.specs.declared.Refusal.TheVariants as because
use Rattle.refusal.specs.Refusals.{refusal_no}
use Rattle.refusal.proofs.Refusals.{refusal-one, refusal-some}
use Rattle.rule.specs.declared.Rule.{Rule}
use Rattle.rule.specs.Charge.{charge_of}
use Rattle.shot.specs.Shot.{Shot, holds, numbers, shots_in}
use Rattle.shot.specs.Bad.{bad_shots}
use Rattle.shot.proofs.Shot.{numbers-length, shots-numbers}
use Rattle.shot.proofs.Bad.{full-only, bad_numbers}
use Rattle.figure.specs.Inside.{inside_at}
use Rattle.outline.specs.Grid.{Grid, Sound}
use Rattle.piece.specs.Piece.{rectangle, frame}
use Rattle.piece.proofs.Cuts.{Part, shots-part}
use Rattle.piece.proofs.Bound.{slivers_most}
use Rattle.table.specs.Entry.{entry_count}
use Rattle.demands.specs.Promise.{Asked, drawn, rule_of, frame_shots, frame_sliver, Outcome, written, refused, outcome}
use Rattle.demands.specs.Square.{shot_sliver, shot_charge}
use Rattle.demands.specs.Demands.{Words, reported, entry, Filled}
use Rattle.demands.proofs.Outcome as undivided
use Rattle.demands.proofs.Outcome.{written-past, written-length, written-front}
use Rattle.demands.proofs.Square.{held_one}
use Rattle.demands.proofs.Accepted.{sound, light}
use Rattle.demands.proofs.Writable.{none-empty}
use Rattle.demands.proofs.Demands as demands
use Rattle.demands.proofs.Room as room
use Rattle.division.specs.Division.{across, upward, divided, product}
use Rattle.division.specs.Promise.{aside, parts, divided_outcome, Condition, First}
use Rattle.division.proofs.Division.{divided_cover, divided-fit, divided-sliver}
use Rattle.division.proofs.Room.{divided-most}
use Rattle.division.proofs.Written.{joined_length}
use Rattle.division.proofs.Outcome.{largest-good, short_of, done_of, Passed, Accepted, Stage, at-rule, at-largest, at-figure, at-list, at-end, stage, accepted, short}
use Rattle.division.proofs.Refusals.{first_one, Answered, none, some, answered}

-- the charges of some shots: a thousand each, and their sliver lengths by the weight
charge_sum : (F : ℕ → ℕ → Bool) (r : Rule) (l : List Shot) → sum_of (shot_charge F r) l ≡ 1000 * length l + r.weight * sum_of (shot_sliver F r) l
unfolding sum_of shot_charge charge_of
charge_sum F r [] = omega arith
charge_sum F r (s ∷ l) = omega (arith, charge_sum F r l, mul-add r.weight (shot_sliver F r s) (sum_of (shot_sliver F r) l))

module _ (ask : Asked) (m : ℕ) where
  abbrev u : Outcome
  u = outcome (aside ask)

  abbrev o : Outcome
  o = divided_outcome ask m

  abbrev F : ℕ → ℕ → Bool
  F = inside_at ask.figure

  abbrev g : Grid
  g = drawn ask

  -- a shot that has area, and one that fits
  abbrev Area : Shot → Type 0
  Area s = (s.xlow < s.xhigh) × (s.ylow < s.yhigh)

  abbrev Fit : Shot → Type 0
  Fit s = ((s.xlow < s.xhigh) × (across s ≤ m)) × ((s.ylow < s.yhigh) × (upward s ≤ m))

  pub divided_unique : (a b : Outcome) → a ≡ o → b ≡ o → a ≡ b
  divided_unique a b e f = e ∙ sym f

  module _ (words : Words ask.figure) where
    -- Demand 1

    pub refused_exactly : (c : Refusal) → (o.number ≡ refusal_no c → First ask m c) × (First ask m c → o.number ≡ refusal_no c)
    refused_exactly c = (to (answered ask m words), from (answered ask m words))
      where
        to : Answered ask m → o.number ≡ refusal_no c → First ask m c
        to (none e h) q = absurd (omega (arith, refusal-some c))
        to (some d e f) q = subst (First ask m) (refusal-one d c (sym e ∙ q)) f

        from : Answered ask m → First ask m c → o.number ≡ refusal_no c
        from (none e h) f = absurd (h c f.holds)
        from (some d e g) f = e ∙ ap refusal_no (first_one ask m d c g f)

    pub accepted_exactly : (o.number ≡ 0 → (c : Refusal) → Condition ask m c → ⊥) × (((c : Refusal) → Condition ask m c → ⊥) → o.number ≡ 0)
    accepted_exactly = (to (answered ask m words), from (answered ask m words))
      where
        to : Answered ask m → o.number ≡ 0 → (c : Refusal) → Condition ask m c → ⊥
        to (none e h) q = h
        to (some d e f) q = absurd (omega (arith, refusal-some d))

        from : Answered ask m → ((c : Refusal) → Condition ask m c → ⊥) → o.number ≡ 0
        from (none e h) q = e
        from (some d e f) q = absurd (q d f.holds)

    pub number-listed : (o.number ≡ 0) ⊎ ((c : Refusal) × ((refusal_no c ≤ 7) ⊎ (refusal_no c ≡ 19)) × (o.number ≡ refusal_no c))
    unfolding refused short_of done_of
    number-listed = go (stage ask m words)
      where
        go : Stage ask m → (o.number ≡ 0) ⊎ ((c : Refusal) × ((refusal_no c ≤ 7) ⊎ (refusal_no c ≡ 19)) × (o.number ≡ refusal_no c))
        go (at-rule e q) = inr (because.Rule, inl (omega arith), ap (λ (o : Outcome). o.number) q)
        go (at-largest e f q) = inr (because.Largest, inr refl, ap (λ (o : Outcome). o.number) q)
        go (at-figure p c h e q) = inr (c, inl (omega arith), ap (λ (o : Outcome). o.number) q)
        go (at-list s) = inr (because.List, inl (omega arith), ap (λ (o : Outcome). o.number) s.is)
        go (at-end a) = inl (ap (λ (o : Outcome). o.number) a.is)

    pub refusal-keeps : (n : ℕ) → 0 < n → (n ≡ 7 → ⊥) → o.number ≡ n → o ≡ refused n ask.table ask.list
    unfolding refused short_of done_of
    refusal-keeps n h k e = go (stage ask m words)
      where
        same : (i : ℕ) → o ≡ refused i ask.table ask.list → o ≡ refused n ask.table ask.list
        same i q = q ∙ ap (λ i. refused i ask.table ask.list) (sym (ap (λ (o : Outcome). o.number) q) ∙ e)

        go : Stage ask m → o ≡ refused n ask.table ask.list
        go (at-rule f q) = same 1 q
        go (at-largest f g q) = same 19 q
        go (at-figure p c i f q) = same (refusal_no c) q
        go (at-list s) = absurd (k (omega (arith, e, ap (λ (o : Outcome). o.number) s.is)))
        go (at-end a) = absurd (omega (arith, e, ap (λ (o : Outcome). o.number) a.is))

    pub short-keeps : o.number ≡ 7
        → (o.shots ≡ sum_of (product m) (reported u)) × (o.cost ≡ 0) × (o.sliver ≡ 0) × (o.cuts ≡ 0)
        × ((u.number ≡ 0) × (o.table ≡ u.table)) × (o.list ≡ ask.list)
    unfolding short_of parts
    short-keeps e =
        let s = short ask m words e in
        let q = s.is in (
          ap (λ (o : Outcome). o.shots) q ∙ joined_length m (reported u),
          ap (λ (o : Outcome). o.cost) q,
          ap (λ (o : Outcome). o.sliver) q,
          ap (λ (o : Outcome). o.cuts) q,
          (s.fractured, ap (λ (o : Outcome). o.table) q),
          ap (λ (o : Outcome). o.list) q,
        )

    -- Before division

    -- each shot has area
    pub areas : u.number ≡ 0 → All (λ s. (s.xlow < s.xhigh) × (s.ylow < s.yhigh)) (reported u)
    unfolding frame_shots frame drawn
    areas e =
        subst (All Area) (sym (demands.reported-is (aside ask) e))
        (All-map Area (rectangle g) (frame_shots ask.mode g (rule_of ask))
        (All-imp {P = λ p. Part p (frame g)}
        (λ p w. (
          omega (arith, s.x_rises p.a (omega (arith, w.ac, w.c)), rise g.x s.x-up (suc p.a) p.c w.ac),
          omega (arith, s.y_rises p.b (omega (arith, w.bd, w.d)), rise g.y s.y-up (suc p.b) p.d w.bd),
        ))
        (frame_shots ask.mode g (rule_of ask))
        (shots-part ask.mode g (rule_of ask) (frame g))))
      where
        s : Sound (drawn ask)
        s = sound (aside ask) words (inl e)

    -- a sum over the parts, shot by shot
    parts_same : Passed ask m → u.number ≡ 0 → (f : Shot → ℕ)
        → ((s : Shot) → 0 < m → s.xlow < s.xhigh → s.ylow < s.yhigh → sum_of f (divided m s) ≡ f s)
        → sum_of f (parts m u) ≡ sum_of f (reported u)
    unfolding parts
    parts_same p e f h =
        let k = largest-good ask.threshold m p.fits in
        sum_of-join f (divided m) (reported u)
        ∙ sum_of-same (λ s. sum_of f (divided m s)) f (reported u)
        (All-imp {P = λ s. (s.xlow < s.xhigh) × (s.ylow < s.yhigh)} (λ s q. h s (omega (arith, k.0)) q.0 q.1) (reported u) (areas e))

    pub few-parts : Passed ask m → u.number ≡ 0 → sum_of (product m) (reported u) ≤ 116964
    unfolding frame_shots drawn
    few-parts p e =
        let s = sound (aside ask) words (inl e) in
        let k = largest-good ask.threshold m p.fits in
        omega (
          arith,
          ap (sum_of (product m)) (demands.reported-is (aside ask) e),
          sum_of-map (product m) (rectangle (drawn ask)) (frame_shots ask.mode (drawn ask) (rule_of ask)),
          divided-most ask.mode (drawn ask) (rule_of ask) s m k.0,
        )

    pub few_slivers : u.number ≡ 0 → u.sliver ≤ 2097120
    unfolding undivided.accepted frame_sliver frame_shots frame drawn
    few_slivers e =
        let s = sound (aside ask) words (inl e) in
        omega (
          arith,
          ap (λ (o : Outcome). o.sliver) (undivided.outcome-zero (aside ask) e),
          slivers_most ask.mode (drawn ask) (rule_of ask) s (frame (drawn ask)) (omega arith) (omega arith) (omega arith) (omega arith),
        )

    -- The list

    pub reported-is : o.number ≡ 0 → reported o ≡ join (divided m) (reported u)
    unfolding done_of reported parts
    reported-is e =
        let a = accepted ask m words e in
        ap reported a.is
        ∙ ap (λ n. shots_in (take n (written (numbers (parts m u)) ask.list))) (sym (numbers-length (parts m u)))
        ∙ ap shots_in (written-front (numbers (parts m u)) ask.list)
        ∙ shots-numbers (parts m u)

    is-parts : o.number ≡ 0 → reported o ≡ parts m u
    unfolding parts
    is-parts = reported-is

    all_fit : o.number ≡ 0 → All Fit (reported o)
    all_fit e =
        subst (All Fit) (sym (reported-is e))
        (All-join Fit (divided m) (reported u)
        (All-imp {P = λ s. (s.xlow < s.xhigh) × (s.ylow < s.yhigh)} (λ s q. divided-fit m s (omega (arith, k.0)) q.0 q.1) (reported u) (areas a.fractured)))
      where
        a : Accepted ask m
        a = accepted ask m words e

        k : (200 ≤ m) × (2 * ask.threshold ≤ m) × (m ≤ 65535)
        k = largest-good ask.threshold m a.passed.fits

    pub shots-fit : o.number ≡ 0 → (s : Shot) → Member s (reported o)
        → ((s.xlow < s.xhigh) × (across s ≤ m)) × ((s.ylow < s.yhigh) × (upward s ≤ m))
    shots-fit e s v = All-at Fit v (all_fit e)

    pub shots_writable : o.number ≡ 0 → bad_shots (take (4 * o.shots) o.list) ≡ false
    unfolding done_of
    shots_writable e =
        ap bad_shots
        (ap (λ (o : Outcome). take (4 * o.shots) o.list) (accepted ask m words e).is
        ∙ ap (λ n. take n (written (numbers (parts m u)) ask.list)) (sym (numbers-length (parts m u)))
        ∙ written-front (numbers (parts m u)) ask.list)
        ∙ bad_numbers (parts m u)
        ∙ none-empty (parts m u)
        (All-imp {P = Fit} (λ s q. full-only s q.0.0 q.1.0) (parts m u) (subst (All Fit) (is-parts e) (all_fit e)))

    pub cover : o.number ≡ 0 → (x y : ℕ) → sum_of (λ s. only (holds x y s) 1) (reported o) ≡ only (F x y) 1
    cover e x y =
        let a = accepted ask m words e in
        ap (sum_of (λ s. only (holds x y s) 1)) (is-parts e)
        ∙ parts_same a.passed a.fractured (λ s. only (holds x y s) 1) (λ s pos h k. divided_cover m s pos h k x y)
        ∙ demands.cover (aside ask) words a.fractured x y

    pub shots-inside : o.number ≡ 0 → (s : Shot) → Member s (reported o) → (x y : ℕ) → holds x y s ≡ true → F x y ≡ true
    shots-inside e s v x y h =
        held_one (F x y) (omega (arith, sum_of_member (λ s. only (holds x y s) 1) v, ap (λ b. only b 1) h, cover e x y))

    pub shots-apart : o.number ≡ 0 → (d : Shot) (i j : ℕ) → i < j → j < length (reported o)
        → (x y : ℕ) → holds x y (get_or (reported o) i d) ≡ true → holds x y (get_or (reported o) j d) ≡ true → ⊥
    shots-apart e d i j h k x y p q =
        omega (
          arith,
          sum_of-two (λ s. only (holds x y s) 1) d (reported o) i j h k,
          ap (λ b. only b 1) p,
          ap (λ b. only b 1) q,
          cover e x y,
          only-most (F x y) 1,
        )

    pub shots_cover : o.number ≡ 0 → (x y : ℕ) → F x y ≡ true → (s : Shot) × Member s (reported o) × (holds x y s ≡ true)
    shots_cover e x y h =
        let v = sum_of-some (λ s. only (holds x y s) 1) (reported o) (omega (arith, cover e x y, ap (λ b. only b 1) h)) in
        (v.0, v.1, held_one (holds x y v.0) v.2)

    pub these_shots : o.number ≡ 0
        → (o.shots ≡ length (reported o)) × (o.sliver ≡ sum_of (shot_sliver F (rule_of ask)) (reported o)) × (o.cost ≡ sum_of (shot_charge F (rule_of ask)) (reported o))
    unfolding done_of
    these_shots e = (
      ap (λ (o : Outcome). o.shots) a.is ∙ ap length (sym (is-parts e)),
      ap (λ (o : Outcome). o.sliver) a.is ∙ anew,
      ap (λ (o : Outcome). o.cost) a.is ∙ charged,
    )
      where
        a : Accepted ask m
        a = accepted ask m words e

        k : (200 ≤ m) × (2 * ask.threshold ≤ m) × (m ≤ 65535)
        k = largest-good ask.threshold m a.passed.fits

        -- the sliver length of the parts
        anew : u.sliver ≡ sum_of (shot_sliver F (rule_of ask)) (reported o)
        anew =
            (demands.these_shots (aside ask) words a.fractured).1
            ∙ sym
            (ap (sum_of (shot_sliver F (rule_of ask))) (is-parts e)
            ∙ parts_same a.passed a.fractured (shot_sliver F (rule_of ask)) (λ s pos h i. divided-sliver m s pos h i F (rule_of ask) k.1))

        charged : 1000 * length (parts m u) + ask.weight * u.sliver ≡ sum_of (shot_charge F (rule_of ask)) (reported o)
        charged =
            sym
            (charge_sum F (rule_of ask) (reported o)
            ∙ ap (λ l. 1000 * length l + ask.weight * sum_of (shot_sliver F (rule_of ask)) (reported o)) (is-parts e)
            ∙ ap (λ v. 1000 * length (parts m u) + ask.weight * v) (sym anew))

    pub before_division : o.number ≡ 0
        → (u.number ≡ 0) × (o.shots ≡ sum_of (product m) (reported u)) × (o.sliver ≡ u.sliver) × (o.cuts ≡ u.cuts) × (o.table ≡ u.table)
        × (entry o (drawn ask) (frame (drawn ask)) ≡ u.cost)
    unfolding done_of parts entry drawn
    before_division e =
        let a = accepted ask m words e in
        let q = a.is in (
          a.fractured,
          ap (λ (o : Outcome). o.shots) q ∙ joined_length m (reported u),
          ap (λ (o : Outcome). o.sliver) q,
          ap (λ (o : Outcome). o.cuts) q,
          ap (λ (o : Outcome). o.table) q,
          ap (λ (o : Outcome). entry o (drawn ask) (frame (drawn ask))) q ∙ demands.frame-entry (aside ask) words a.fractured,
        )

    pub shots-most : o.shots ≤ 116964
    unfolding refused short_of done_of parts
    shots-most = go (stage ask m words)
      where
        go : Stage ask m → o.shots ≤ 116964
        go (at-rule e q) = omega (arith, ap (λ (o : Outcome). o.shots) q)
        go (at-largest e f q) = omega (arith, ap (λ (o : Outcome). o.shots) q)
        go (at-figure p c h e q) = omega (arith, ap (λ (o : Outcome). o.shots) q)
        go (at-list s) = omega (arith, ap (λ (o : Outcome). o.shots) s.is, joined_length m (reported u), few-parts s.passed s.fractured)
        go (at-end a) = omega (arith, ap (λ (o : Outcome). o.shots) a.is, joined_length m (reported u), few-parts a.passed a.fractured)

    pub cost-most : o.cost ≤ 2214084000
    unfolding refused short_of done_of parts
    cost-most = go (stage ask m words)
      where
        go : Stage ask m → o.cost ≤ 2214084000
        go (at-rule e q) = omega (arith, ap (λ (o : Outcome). o.cost) q)
        go (at-largest e f q) = omega (arith, ap (λ (o : Outcome). o.cost) q)
        go (at-figure p c h e q) = omega (arith, ap (λ (o : Outcome). o.cost) q)
        go (at-list s) = omega (arith, ap (λ (o : Outcome). o.cost) s.is)
        go (at-end a) =
            omega (
              arith,
              ap (λ (o : Outcome). o.cost) a.is,
              joined_length m (reported u),
              few-parts a.passed a.fractured,
              mul-le-mul {n₁ = ask.weight} {m₁ = u.sliver} {n₂ = 1000} {m₂ = 2097120} (light (aside ask) (inl a.fractured)) (few_slivers a.fractured),
            )

    -- The buffers

    list-room : (a : Accepted ask m) → length (numbers (parts m u)) ≤ length ask.list
    list-room a = omega (arith, numbers-length (parts m u), a.room)

    pub lengths-kept : (length o.table ≡ length ask.table) × (length o.list ≡ length ask.list)
    unfolding refused short_of done_of
    lengths-kept = go (stage ask m words)
      where
        table_kept : length u.table ≡ length ask.table
        table_kept = (room.lengths-kept (aside ask)).0

        go : Stage ask m → (length o.table ≡ length ask.table) × (length o.list ≡ length ask.list)
        go (at-rule e q) = (ap (λ (o : Outcome). length o.table) q, ap (λ (o : Outcome). length o.list) q)
        go (at-largest e f q) = (ap (λ (o : Outcome). length o.table) q, ap (λ (o : Outcome). length o.list) q)
        go (at-figure p c h e q) = (ap (λ (o : Outcome). length o.table) q, ap (λ (o : Outcome). length o.list) q)
        go (at-list s) = (ap (λ (o : Outcome). length o.table) s.is ∙ table_kept, ap (λ (o : Outcome). length o.list) s.is)
        go (at-end a) = (
          ap (λ (o : Outcome). length o.table) a.is ∙ table_kept,
          ap (λ (o : Outcome). length o.list) a.is ∙ written-length (numbers (parts m u)) ask.list (list-room a),
        )

    pub written-beyond : (i : ℕ)
        → ((o.number ≡ 0 → 4 * o.shots ≤ i) → get_or o.list i 0 ≡ get_or ask.list i 0)
        × ((Filled o → entry_count (drawn ask).columns (drawn ask).rows ≤ i) → get_or o.table i 0 ≡ get_or ask.table i 0)
    unfolding refused short_of done_of drawn
    written-beyond i = go (stage ask m words)
      where
        table-past : u.number ≡ 0 → entry_count (drawn ask).columns (drawn ask).rows ≤ i → get_or u.table i 0 ≡ get_or ask.table i 0
        table-past e h = (room.written-beyond (aside ask) i).1 (λ f. unfold drawn in h)

        go : Stage ask m → ((o.number ≡ 0 → 4 * o.shots ≤ i) → get_or o.list i 0 ≡ get_or ask.list i 0)
            × ((Filled o → entry_count (drawn ask).columns (drawn ask).rows ≤ i) → get_or o.table i 0 ≡ get_or ask.table i 0)
        go (at-rule e q) = (λ h. ap (λ (o : Outcome). get_or o.list i 0) q, λ h. ap (λ (o : Outcome). get_or o.table i 0) q)
        go (at-largest e f q) = (λ h. ap (λ (o : Outcome). get_or o.list i 0) q, λ h. ap (λ (o : Outcome). get_or o.table i 0) q)
        go (at-figure p c k e q) = (λ h. ap (λ (o : Outcome). get_or o.list i 0) q, λ h. ap (λ (o : Outcome). get_or o.table i 0) q)
        go (at-list s) = (
          λ h. ap (λ (o : Outcome). get_or o.list i 0) s.is,
          λ h. ap (λ (o : Outcome). get_or o.table i 0) s.is ∙ table-past s.fractured (h (inr (ap (λ (o : Outcome). o.number) s.is))),
        )
        go (at-end a) = (
          λ h. ap (λ (o : Outcome). get_or o.list i 0) a.is
              ∙ written-past (numbers (parts m u)) ask.list i (omega (arith, numbers-length (parts m u), ap (λ (o : Outcome). o.shots) a.is, h (ap (λ (o : Outcome). o.number) a.is))),
          λ h. ap (λ (o : Outcome). get_or o.table i 0) a.is ∙ table-past a.fractured (h (inl (ap (λ (o : Outcome). o.number) a.is))),
        )
