-- The buffers: they keep their lengths, and what room always suffices. Assumes nothing.
--
--   lengths-kept         == the table and the list are as long as they were, whatever the outcome
--   written-beyond       == number by number: the list beyond the shots of a success, and all of it beside a refusal, is as it came in;
--                           the table beyond its entries where it was filled, and all of it beside 1 to 6, is as it came in
--   entries-closed       == how many pieces a grid has, by a formula: m (m + 1) / 2 x n (n + 1) / 2 of m columns and n rows
--   entries-most         == a grid of at most 15 columns and rows has at most 14,400 pieces
--   ample                == with 14,400 entries and room for 225 shots neither 6 nor 7 is given
use Prim.Native.Nat.{ℕ, zero, suc, ◌+◌, ◌*◌, ◌/◌, ◌≤◌, ◌<◌}
use mathlib.Core.Path.{◌≡◌, sym, ◌∙◌, ap, ap₂}
use mathlib.Core.Logic.{◌⊎◌, inl, inr}
use native.Mathlib.Omega.{arith}
use native.Mathlib.Nat.{le_trans, mul-le-mul}
use lib.ListN.{length, get_or}
use Rattle.sum.proofs.Sum.{le-or}
use Rattle.outline.specs.Grid.{Sound}
use Rattle.piece.specs.Piece.{frame}
use Rattle.piece.proofs.Choice.{numbers-length}
use Rattle.piece.proofs.Bound.{count_most}
use Rattle.refusal.specs.declared.Refusal.{Refusal}
use Rattle.refusal.specs.declared.Refusal.TheVariants as because
use Rattle.refusal.specs.Refusals.{refusal_no}
use Rattle.refusal.proofs.Refusals.{refusal-some}
use Rattle.table.specs.Entry.{pairs_below, pair_count, entry_count, costs}
use Rattle.table.proofs.Entry.{below-zero, below_suc, below_up, count-closed, costs-length}
use Rattle.demands.specs.Promise.{Asked, drawn, rule_of, frame_shots, frame_numbers, Outcome, refused, outcome}
use Rattle.demands.specs.Refusals.{Condition, First}
use Rattle.demands.specs.Demands.{Words, Filled}
use Rattle.demands.proofs.Outcome.{accepted, short, written-past, written-length, outcome-zero, outcome_seven, outcome-other}
use Rattle.demands.proofs.Refusals.{test, number_of, outcome-number, number-first, number-none, number-known, test_false}
use Rattle.demands.proofs.Figure.{figure-sound}
use Rattle.demands.proofs.Accepted.{filled-table, table-room}

module _ (ask : Asked) where
  abbrev o : Outcome
  o = outcome ask

  list-room : o.number ≡ 0 → length (frame_numbers ask.mode (drawn ask) (rule_of ask)) ≤ length ask.list
  unfolding frame_numbers Condition
  list-room e = elim (le-or (4 * length (frame_shots ask.mode (drawn ask) (rule_of ask))) (length ask.list)) [
    | inl h ↦ omega (arith, numbers-length (drawn ask) (frame_shots ask.mode (drawn ask) (rule_of ask)))
    | inr h ↦ absurd (number-none ask (sym (outcome-number ask) ∙ e) because.List h)
  ]

  -- a table that was filled keeps its length
  table-length : Filled o → length o.table ≡ length ask.table
  table-length f = ap length (filled-table ask f) ∙ written-length (costs ask.mode (drawn ask) (rule_of ask)) ask.table (table-room ask f)

  -- an outcome is a success, or 7, or a refusal that changes nothing
  by_number : {P : Type 0} → (o.number ≡ 0 → P) → (o.number ≡ 7 → P) → ((n : ℕ) → o ≡ refused n ask.table ask.list → P) → P
  by_number {P} none seven other = go (number-known ask)
    where
      known : (n : ℕ) → number_of ask ≡ n → o.number ≡ n
      known n e = outcome-number ask ∙ e

      go : (number_of ask ≡ 0) ⊎ ((c : Refusal) × (refusal_no c ≤ 7) × (number_of ask ≡ refusal_no c)) → P
      go (inl e) = none (known 0 e)
      go (inr c) = elim (le-or 7 (refusal_no c.0)) [
        | inl h ↦ seven (known 7 (omega (arith, c.1, c.2)))
        | inr h ↦ other (refusal_no c.0) (outcome-other ask (refusal_no c.0) (refusal-some c.0) h (known (refusal_no c.0) c.2))
      ]

  pub lengths-kept : (length o.table ≡ length ask.table) × (length o.list ≡ length ask.list)
  unfolding accepted short refused
  lengths-kept =
      by_number
      (λ e. (
        table-length (inl e),
        ap (λ o. length o.list) (outcome-zero ask e) ∙ written-length (frame_numbers ask.mode (drawn ask) (rule_of ask)) ask.list (list-room e),
      ))
      (λ e. (table-length (inr e), ap (λ o. length o.list) (outcome_seven ask e)))
      (λ n q. (ap (λ o. length o.table) q, ap (λ o. length o.list) q))

  -- behind the shots of a success, and behind the entries of a table that was filled
  list-past : o.number ≡ 0 → (i : ℕ) → 4 * o.shots ≤ i → get_or o.list i 0 ≡ get_or ask.list i 0
  unfolding accepted frame_numbers
  list-past e i h =
      let q = outcome-zero ask e in
      ap (λ o. get_or o.list i 0) q
      ∙ written-past (frame_numbers ask.mode (drawn ask) (rule_of ask)) ask.list i
      (omega (arith, ap (λ o. o.shots) q, numbers-length (drawn ask) (frame_shots ask.mode (drawn ask) (rule_of ask))))

  table-past : Filled o → (i : ℕ) → entry_count (drawn ask).columns (drawn ask).rows ≤ i → get_or o.table i 0 ≡ get_or ask.table i 0
  table-past f i h =
      ap (λ m. get_or m i 0) (filled-table ask f)
      ∙ written-past (costs ask.mode (drawn ask) (rule_of ask)) ask.table i (omega (arith, costs-length ask.mode (drawn ask) (rule_of ask)))

  pub written-beyond : (i : ℕ)
      → ((o.number ≡ 0 → 4 * o.shots ≤ i) → get_or o.list i 0 ≡ get_or ask.list i 0)
      × ((Filled o → entry_count (drawn ask).columns (drawn ask).rows ≤ i) → get_or o.table i 0 ≡ get_or ask.table i 0)
  unfolding short refused
  written-beyond i =
      by_number
      (λ e. (λ h. list-past e i (h e), λ h. table-past (inl e) i (h (inl e))))
      (λ e. (λ h. ap (λ o. get_or o.list i 0) (outcome_seven ask e), λ h. table-past (inr e) i (h (inr e))))
      (λ n q. (λ h. ap (λ o. get_or o.list i 0) q, λ h. ap (λ o. get_or o.table i 0) q))

-- Room that always suffices

below_less : (m n a : ℕ) → m ≤ n → pairs_below m a ≤ pairs_below n a
below_less m n zero h = omega (arith, below-zero m, below-zero n)
below_less m n (suc a) h = omega (arith, below_suc m a, below_suc n a, below_less m n a h)

pairs-most : (m : ℕ) → m ≤ 15 → pair_count m ≤ 120
unfolding pair_count pairs_below
pairs-most m h = le_trans (below_less m 15 m h) (below_up 15 m 15 h)

pub entries-closed : (m n : ℕ) → entry_count m n ≡ ((m * (m + 1)) / 2) * ((n * (n + 1)) / 2)
unfolding entry_count
entries-closed m n = ap₂ ◌*◌ (count-closed m) (count-closed n)

pub entries-most : (m n : ℕ) → m ≤ 15 → n ≤ 15 → entry_count m n ≤ 14400
unfolding entry_count
entries-most m n h k = mul-le-mul (pairs-most m h) (pairs-most n k)

module _ (ask : Asked) (words : Words ask.figure) (entries : 14400 ≤ length ask.table) (room : 900 ≤ length ask.list) where
  -- a refusal that comes after 4 is of a sound grid
  late : (c : Refusal) → 4 < refusal_no c → First ask c → Sound (drawn ask)
  unfolding drawn test
  late c h f =
      figure-sound ask.figure words
      (record {
        figure-good = test_false ask because.Length (f.before because.Length (omega arith));
        slanted-none = test_false ask because.Slanted (f.before because.Slanted (omega arith));
        unturned-none = test_false ask because.Unturned (f.before because.Unturned (omega arith));
      })

  pub ample : ((outcome ask).number ≡ 6 → ⊥) × ((outcome ask).number ≡ 7 → ⊥)
  unfolding Condition frame_shots frame
  ample = (
    λ e.
        let f = number-first ask because.Table (sym (outcome-number ask) ∙ e) in
        let s = late because.Table (omega arith) f in
        omega (arith, f.holds, entries-most (drawn ask).columns (drawn ask).rows s.columns-most s.rows-most),
    λ e.
        let f = number-first ask because.List (sym (outcome-number ask) ∙ e) in
        let s = late because.List (omega arith) f in
        omega (
          arith,
          f.holds,
          count_most ask.mode (drawn ask) (rule_of ask) s (frame (drawn ask)) (omega arith) (omega arith) (omega arith) (omega arith),
        ),
  )
