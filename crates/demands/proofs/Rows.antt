-- The proved rows: one test that is computed over the whole table, and what it says of each row. Assumes nothing.
--
--   right row      == the test of a row, which computes
--   right-says     == a row that passes it holds
--   rows-hold      == all of them hold
--   new_rows-hold, wheel-rows-hold == and those by the default rule, and those of pinwheels
--   entries_of_L, new_entries_of_L == the nine entries of L's table by 25 nm and 40, and by 10 nm and 100, in their order
use Prim.Native.Nat.{ℕ, ◌*◌, ◌≤◌, ◌<◌}
use mathlib.Core.Path.{◌≡◌, refl, sym, ◌∙◌, ap, ap₂, subst}
use mathlib.Core.Bool.{Bool, true, false, ◌&&◌, true≢false}
use mathlib.Core.List.{List, [], ◌∷◌}
use native.Mathlib.Omega.{arith}
use native.Mathlib.Nat.{le_trans}
use lib.Dec.{leb, ltb, eqb}
use lib.ListN.{length, take}
use borrow.Author.Tests.{leb-true, ltb-true, eqb-true}
use Rattle.sum.specs.Sum.{sum_of, All, over, join}
use Rattle.rule.specs.Rules.{in_range}
use Rattle.recurrence.specs.Scheme.{shots_by}
use Rattle.recurrence.specs.Choice.{cheapest, least}
use Rattle.rule.specs.declared.Rule.{Rule}
use Rattle.rule.specs.Charge.{longer, sliver_of, charge_of}
use Rattle.shot.specs.Shot.{numbers}
use Rattle.figure.specs.Corners.{corners, coordinate, last, steps, around, any, edges, threes, last_but_one, turns, changes, odd, slanted, unturned, both, neither, alike, same as same-coordinate}
use Rattle.figure.specs.Figure.{Figure, share, bad_length, bad_figure, fault}
use Rattle.figure.specs.Inside.{wall, walls, covers, count, within}
use Rattle.outline.specs.Grid.{Grid}
use Rattle.outline.specs.Lines.{insert, rising, lines, place}
use Rattle.outline.specs.Inside.{grid_of, grid, empty}
use Rattle.outline.specs.Inside as inside
use Rattle.outline.specs.Promise.{refusal}
use Rattle.piece.specs.declared.Mode.{Mode}
use Rattle.piece.specs.declared.Mode.TheVariants.{Straight}
use Rattle.piece.specs.Piece as piece
use Rattle.piece.specs.Piece.{Piece, frame, cells, cell_sum, kind_of, kind, low_side, high_side, width, height, left, right, bottom, top}
use Rattle.piece.specs.Cuts.{turns as turns_of, run, between, straight_cuts, wheels, cuts, parts, shots, cost, numbers_of}
use Rattle.piece.proofs.Choice.{numbers-length}
use Rattle.table.specs.Entry.{pairs_below, pair_count, pairs, entry_count, tabled, costs}
use Rattle.demands.specs.Promise.{Asked, drawn, rule_of, frame_shots, frame_cost, frame_sliver, frame_numbers, written, refused, outcome}
use Rattle.demands.specs.Demands.{Filled}
use Rattle.demands.specs.Rows.{By, only-by, any as any-rule, Meant, Rival, Row, Says, Holds, L, entries_of_l, new_entries_of_l, rows, new_rows, wheel_rows}
use Rattle.demands.proofs.Outcome.{accepted, written-front, outcome-seen, outcome-accepted, outcome-figure}
use Rattle.demands.proofs.Refusals.{and-true}
use Rattle.demands.proofs.Accepted.{front-table}

-- the rule of two numbers
abbrev rule : ℕ → ℕ → Rule
rule t w = record { threshold = t; weight = w }

unfoldable same : List ℕ → List ℕ → Bool
same [] [] = true
same [] (v ∷ m) = false
same (u ∷ l) [] = false
same (u ∷ l) (v ∷ m) = eqb u v && same l m

unfoldable weighed : Mode → Figure → Rule → List Rival → Bool
weighed mode f r [] = true
weighed mode f r (k ∷ ks) = eqb (sum_of (cost mode (grid f) r) (parts (frame (grid f)) k.cut)) k.cost && weighed mode f r ks

-- what a row of an accepted outline says of the shots l of its frame
unfoldable told : Row → Rule → List Piece → Bool
told row r l =
    leb (4 * length l) 900
    && (eqb row.number 0
    && (eqb (sum_of (piece.charge (grid row.figure) r) l) row.cost
    && (eqb (sum_of (piece.sliver (grid row.figure) r) l) row.sliver
    && (same (numbers_of (grid row.figure) l) row.list && weighed row.mode row.figure r row.rivals))))

-- a row of an accepted outline, and of one that is refused whatever the rule
unfoldable right_by : By → Row → Bool
right_by (only-by t w) row =
    eqb (refusal row.figure) 0
    && (leb (entry_count (grid row.figure).columns (grid row.figure).rows) 14400
    && told row (rule t w) (frame_shots row.mode (grid row.figure) (rule t w)))
right_by any-rule row =
    eqb (refusal row.figure) row.number
    && (ltb 0 row.number && (eqb 0 row.cost && (eqb 0 row.sliver && (eqb 0 (length row.list) && eqb 0 (length row.rivals)))))

unfoldable right-all : List Row → Bool
right-all [] = true
right-all (row ∷ l) = right_by row.by row && right-all l

same-is : (l m : List ℕ) → same l m ≡ true → l ≡ m
unfolding same
same-is [] [] e = refl
same-is [] (v ∷ m) e = absurd (true≢false (sym e))
same-is (u ∷ l) [] e = absurd (true≢false (sym e))
same-is (u ∷ l) (v ∷ m) e = let s = and-true (eqb u v) (same l m) e in rw (eqb-true u v s.0, same-is l m s.1)

weighed-all : (mode : Mode) (f : Figure) (r : Rule) (ks : List Rival) → weighed mode f r ks ≡ true
    → All (λ k. sum_of (cost mode (grid f) r) (parts (frame (grid f)) k.cut) ≡ k.cost) ks
unfolding weighed
weighed-all mode f r [] e = tt
weighed-all mode f r (k ∷ ks) e =
    let s = and-true (eqb (sum_of (cost mode (grid f) r) (parts (frame (grid f)) k.cut)) k.cost) (weighed mode f r ks) e in
    (eqb-true _ _ s.0, weighed-all mode f r ks s.1)

rows_pass : (right-all rows && same (costs Straight (grid L) (rule 25 40)) entries_of_l) ≡ true
unfolding right-all right_by told same weighed refusal fault frame_shots frame_cost frame_sliver frame_numbers entry_count pair_count pairs_below pairs tabled costs sum_of over join shots_by cheapest least cells kind frame cell_sum kind_of width height left right bottom top low_side high_side cost shots straight_cuts cuts parts between run numbers_of numbers grid grid_of corners coordinate last steps around any edges threes last_but_one turns changes odd share bad_length bad_figure slanted unturned both neither alike same-coordinate insert rising lines place wall walls covers count within empty inside.inside_cells piece.inside_cells piece.sliver piece.charge longer sliver_of charge_of
rows_pass = refl

new_rows_pass : (right-all new_rows && same (costs Straight (grid L) (rule 10 100)) new_entries_of_l) ≡ true
unfolding right-all right_by told same weighed refusal fault frame_shots frame_cost frame_sliver frame_numbers entry_count pair_count pairs_below pairs tabled costs sum_of over join shots_by cheapest least cells kind frame cell_sum kind_of width height left right bottom top low_side high_side cost shots straight_cuts cuts parts between run numbers_of numbers grid grid_of corners coordinate last steps around any edges threes last_but_one turns changes odd share bad_length bad_figure slanted unturned both neither alike same-coordinate insert rising lines place wall walls covers count within empty inside.inside_cells piece.inside_cells piece.sliver piece.charge longer sliver_of charge_of
new_rows_pass = refl

wheel-rows_pass : right-all wheel_rows ≡ true
unfolding right-all right_by told same weighed refusal fault frame_shots frame_cost frame_sliver frame_numbers entry_count pair_count pairs_below pairs tabled costs sum_of over join shots_by cheapest least cells kind frame cell_sum kind_of width height left right bottom top low_side high_side cost shots turns_of straight_cuts wheels cuts parts between run numbers_of numbers grid grid_of corners coordinate last steps around any edges threes last_but_one turns changes odd share bad_length bad_figure slanted unturned both neither alike same-coordinate insert rising lines place wall walls covers count within empty inside.inside_cells piece.inside_cells piece.sliver piece.charge longer sliver_of charge_of
wheel-rows_pass = refl

list_length : (mode : Mode) (g : Grid) (r : Rule) → length (frame_numbers mode g r) ≡ 4 * length (frame_shots mode g r)
unfolding frame_numbers
list_length mode g r = numbers-length g (frame_shots mode g r)

module _ (ask : Asked) (row : Row) (way : ask.mode ≡ row.mode) (of : ask.figure ≡ row.figure) (range : in_range ask.threshold ask.weight ≡ true)
    (entries : 14400 ≤ length ask.table) (room : 900 ≤ length ask.list) where
  -- the row's figure is the one asked
  abbrev g : Grid
  g = grid row.figure

  abbrev r : Rule
  r = rule_of ask

  -- asked as the row has it
  abbrev same_ask : Asked
  same_ask = record { mode = row.mode; figure = row.figure; threshold = ask.threshold; weight = ask.weight; table = ask.table; list = ask.list }

  seen : outcome ask ≡ outcome same_ask
  seen =
      outcome-seen ask row.figure (ap refusal of) (ap grid of)
      ∙ ap (λ (m : Mode). outcome (record { mode = m; figure = row.figure; threshold = ask.threshold; weight = ask.weight; table = ask.table; list = ask.list })) way

  good-says : right_by (only-by ask.threshold ask.weight) row ≡ true → Says row r (outcome ask)
  unfolding right_by told accepted drawn frame_cost frame_sliver frame_numbers
  good-says e =
      let s₀ = and-true _ _ e in
      let s₁ = and-true _ _ s₀.1 in
      let s₂ = and-true _ _ s₁.1 in
      let s₃ = and-true _ _ s₂.1 in
      let s₄ = and-true _ _ s₃.1 in
      let s₅ = and-true _ _ s₄.1 in
      let s₆ = and-true _ _ s₅.1 in
      let front : frame_numbers row.mode g r ≡ row.list = same-is _ _ s₆.0 in
      subst (Says row r)
      (sym
      (seen
      ∙ outcome-accepted same_ask range (eqb-true _ _ s₀.0)
      (le_trans (leb-true _ _ s₁.0) entries)
      (le_trans (leb-true _ _ s₂.0) room)))
      record {
        number = sym (eqb-true _ _ s₃.0);
        cost = eqb-true _ _ s₄.0;
        sliver = eqb-true _ _ s₅.0;
        count = sym (list_length row.mode g r) ∙ ap length front;
        list =
            ap (λ n. take n (written (frame_numbers row.mode g r) ask.list)) (sym (list_length row.mode g r))
            ∙ written-front (frame_numbers row.mode g r) ask.list
            ∙ front;
        rivals = weighed-all row.mode row.figure r row.rivals s₆.1;
      }

  refused_says : right_by any-rule row ≡ true → Says row r (outcome ask)
  unfolding right_by refused
  refused_says e =
      let s₀ = and-true _ _ e in
      let s₁ = and-true _ _ s₀.1 in
      let s₂ = and-true _ _ s₁.1 in
      let s₃ = and-true _ _ s₂.1 in
      let s₄ = and-true _ _ s₃.1 in
      let n : refusal row.figure ≡ row.number = eqb-true _ _ s₀.0 in
      let k : 0 < row.number = ltb-true _ _ s₁.0 in
      subst (Says row r)
      (sym (seen ∙ outcome-figure same_ask range (omega arith)))
      record {
        number = n;
        cost = eqb-true _ _ s₂.0;
        sliver = eqb-true _ _ s₃.0;
        count = eqb-true _ _ s₄.0;
        list = sym (none row.list (eqb-true _ _ s₄.0));
        rivals = alone row.rivals (eqb-true _ _ s₄.1);
      }
    where
      none : (l : List ℕ) → 0 ≡ length l → l ≡ []
      none [] e = refl
      none (v ∷ l) e = absurd (omega arith)

      alone : (l : List Rival) → 0 ≡ length l
          → All (λ k. sum_of (cost row.mode g r) (parts (frame g) k.cut) ≡ k.cost) l
      alone [] e = tt
      alone (v ∷ l) e = absurd (omega arith)

right-says : (b : By) (row : Row) → row.by ≡ b → right_by b row ≡ true → Holds row
right-says (only-by t₀ w₀) row by e ask way of m range k n =
    let z : Meant (only-by t₀ w₀) ask.threshold ask.weight = subst (λ b. Meant b ask.threshold ask.weight) by m in
    good-says ask row way of range k n (ap₂ (λ t w. right_by (only-by t w) row) z.0 z.1 ∙ e)
right-says any-rule row by e ask way of m range k n = refused_says ask row way of range k n e

all_say : (l : List Row) → right-all l ≡ true → All Holds l
unfolding right-all
all_say [] e = tt
all_say (row ∷ l) e = let s = and-true _ _ e in (right-says row.by row refl s.0, all_say l s.1)

pub rows-hold : All Holds rows
rows-hold = all_say rows (and-true _ _ rows_pass).0

pub new_rows-hold : All Holds new_rows
new_rows-hold = all_say new_rows (and-true _ _ new_rows_pass).0

pub wheel-rows-hold : All Holds wheel_rows
wheel-rows-hold = all_say wheel_rows wheel-rows_pass

-- the entries of L's table by a rule, which were computed
entries_by : (t w : ℕ) (l : List ℕ) → costs Straight (grid L) (rule t w) ≡ l
    → (ask : Asked) → ask.mode ≡ Straight → ask.figure ≡ L → ask.threshold ≡ t → ask.weight ≡ w → Filled (outcome ask)
    → take (length l) (outcome ask).table ≡ l
unfolding drawn
entries_by t w l made ask way of et ew f =
    let e : costs ask.mode (drawn ask) (rule_of ask) ≡ l =
    ap (λ m. costs m (drawn ask) (rule_of ask)) way ∙ ap₂ (λ f r. costs Straight (grid f) r) of (ap₂ rule et ew) ∙ made
    in
    ap (λ l. take (length l) (outcome ask).table) (sym e) ∙ front-table ask f ∙ e

pub entries_of_L : (ask : Asked) → ask.mode ≡ Straight → ask.figure ≡ L → ask.threshold ≡ 25 → ask.weight ≡ 40 → Filled (outcome ask)
    → take 9 (outcome ask).table ≡ entries_of_l
entries_of_L = entries_by 25 40 entries_of_l (same-is _ _ (and-true (right-all rows) _ rows_pass).1)

pub new_entries_of_L : (ask : Asked) → ask.mode ≡ Straight → ask.figure ≡ L → ask.threshold ≡ 10 → ask.weight ≡ 100 → Filled (outcome ask)
    → take 9 (outcome ask).table ≡ new_entries_of_l
new_entries_of_L = entries_by 10 100 new_entries_of_l (same-is _ _ (and-true (right-all new_rows) _ new_rows_pass).1)
