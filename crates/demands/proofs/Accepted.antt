-- What an outcome that filled the table gives, for the demands. Assumes nothing.
--
--   passed               == it has passed 1 to 6
--   shown, right, sound, light, framed_piece   == so the grid shows the figure and is sound, the weight is in range, the frame is a piece
--   filled-table, front-table, table-room, entry_at   == the table begins with the costs; what it has for a piece is the piece's cost
--   measured, sliver-at, charge-at   == measures at unit squares and measures of pieces agree
--   lined, framed        == the grid's lines are the corners' coordinates, and its frame is the corners' frame
--   parts-cost           == what the table has for the parts of a cut is what they cost
--   chosen_first         == at every mixed piece a cut is made that costs least, and the first such in the tie order
--   recurrent            == the recurrence of the costs holds of the table
use Prim.Native.Nat.{ℕ, suc, ◌≤◌, ◌<◌}
use mathlib.Core.Path.{◌≡◌, refl, sym, ◌∙◌, ap}
use mathlib.Core.Bool.{Bool, true, false, not, ◌&&◌, true≢false}
use mathlib.Core.Logic.{inl, inr}
use mathlib.Core.List.{List, map}
use native.Mathlib.Omega.{arith}
use lib.Dec.{leb}
use borrow.Author.Tests.{leb-true, ltb-false}
use lib.ListN.{length, take, get_or}
use Rattle.sum.specs.Sum.{sum_of, All}
use Rattle.sum.proofs.Sum.{le-or}
use Rattle.sum.proofs.Lists.{sum_of-same, sum_of-map, All-imp}
use Rattle.recurrence.specs.Scheme.{mixed}
use Rattle.refusal.specs.declared.Refusal.{Refusal}
use Rattle.refusal.specs.declared.Refusal.TheVariants as because
use Rattle.refusal.specs.Refusals.{refusal_no}
use Rattle.rule.specs.declared.Rule.{Rule}
use Rattle.rule.specs.Rules.{in_range}
use Rattle.shot.specs.Shot.{Shot}
use Rattle.figure.specs.declared.Axis.TheVariants.{X, Y}
use Rattle.figure.specs.Figure.{corners_of}
use Rattle.figure.specs.Inside.{inside_at}
use Rattle.figure.specs.Steps.{Right}
use Rattle.outline.specs.Grid.{Grid, Sound}
use Rattle.piece.specs.Piece.{Piece, rectangle, frame, kind, sliver, charge}
use Rattle.piece.specs.Cuts.{Cut, parts, CutOf, Before, shots, cost, choice}
use Rattle.piece.proofs.Cuts.{cuts-at, Part, parts-part, shots-outside, shots-full, cost-outside, cost-full, cost-cuts, shots-part}
use Rattle.piece.proofs.Choice.{choice_in, choice-cost, passed_over, shots-choice}
use Rattle.table.specs.Entry.{entry_count, entry_of, costs}
use Rattle.table.proofs.Entry.{entry-below, costs-length, costs-at}
use Rattle.demands.specs.Promise.{Asked, drawn, rule_of, Outcome, written, outcome}
use Rattle.demands.specs.Square.{shot_sliver, shot_charge}
use Rattle.demands.specs.Ways.{On, frame_of}
use Rattle.demands.specs.Demands.{Words, PieceOf, entry, Filled, parts_cost, Chosen, Recurrence}
use Rattle.demands.proofs.Outcome.{accepted, short, written-front, written_at, outcome-zero, outcome_seven}
use Rattle.demands.proofs.Refusals.{test, outcome-number, test_true, number-first, number-none}
use Rattle.demands.proofs.Square.{Shows, sliver_squares, charge_squares}
use Rattle.demands.proofs.Ways as ways
use Rattle.demands.proofs.Figure.{figure-sound, figure_shows, figure_lined, figure-frame}

module _ (ask : Asked) where
  abbrev o : Outcome
  o = outcome ask

  abbrev F : ℕ → ℕ → Bool
  F = inside_at ask.figure

  abbrev E : Piece → ℕ
  E = entry o (drawn ask)

  pub passed : Filled o → (c : Refusal) → refusal_no c < 7 → test ask c ≡ false
  passed f c h = go (test ask c) refl f
    where
      go : (b : Bool) → test ask c ≡ b → Filled o → b ≡ false
      go false e f = refl
      go true e (inl q) = absurd (number-none ask (sym (outcome-number ask) ∙ q) c (test_true ask c e))
      go true e (inr q) = absurd ((number-first ask because.List (sym (outcome-number ask) ∙ q)).before c h (test_true ask c e))

  pub shown : Filled o → Shows (drawn ask) F
  unfolding drawn test
  shown f = figure_shows ask.figure (passed f because.Slanted (omega arith))

  pub right : Filled o → Right ask.figure
  unfolding test
  right f =
      record {
        figure-good = passed f because.Length (omega arith);
        slanted-none = passed f because.Slanted (omega arith);
        unturned-none = passed f because.Unturned (omega arith);
      }

  pub sound : Words ask.figure → Filled o → Sound (drawn ask)
  unfolding drawn test
  sound words f = figure-sound ask.figure words (right f)

  pub light : Filled o → ask.weight ≤ 1000
  unfolding test in_range
  light f = go (leb ask.threshold 1000) (leb ask.weight 1000) refl (passed f because.Rule (omega arith))
    where
      go : (a b : Bool) → leb ask.weight 1000 ≡ b → not (a && b) ≡ false → ask.weight ≤ 1000
      go a true e h = leb-true _ _ e
      go true false e h = absurd (true≢false h)
      go false false e h = absurd (true≢false h)

  pub framed_piece : Words ask.figure → Filled o → PieceOf (drawn ask) (frame (drawn ask))
  unfolding frame
  framed_piece words f =
      let s = sound words f in record { ac = s.columns-some; cx = omega arith; bd = s.rows-some; dy = omega arith }

  -- The table

  pub filled-table : Filled o → o.table ≡ written (costs ask.mode (drawn ask) (rule_of ask)) ask.table
  unfolding accepted short
  filled-table (inl e) = ap (λ o. o.table) (outcome-zero ask e)
  filled-table (inr e) = ap (λ o. o.table) (outcome_seven ask e)

  pub entry_at : Filled o → (p : Piece) → PieceOf (drawn ask) p → E p ≡ cost ask.mode (drawn ask) (rule_of ask) p
  unfolding entry
  entry_at f p v =
      ap (λ m. get_or m (entry_of (drawn ask).columns (drawn ask).rows p) 0) (filled-table f)
      ∙ written_at (costs ask.mode (drawn ask) (rule_of ask)) ask.table (entry_of (drawn ask).columns (drawn ask).rows p)
      (omega (arith, entry-below (drawn ask).columns (drawn ask).rows p v, costs-length ask.mode (drawn ask) (rule_of ask)))
      ∙ costs-at ask.mode (drawn ask) (rule_of ask) p v

  pub front-table : Filled o → take (length (costs ask.mode (drawn ask) (rule_of ask))) o.table ≡ costs ask.mode (drawn ask) (rule_of ask)
  front-table f = ap (take (length (costs ask.mode (drawn ask) (rule_of ask)))) (filled-table f) ∙ written-front (costs ask.mode (drawn ask) (rule_of ask)) ask.table

  pub table-room : Filled o → length (costs ask.mode (drawn ask) (rule_of ask)) ≤ length ask.table
  unfolding test
  table-room f = omega (arith, costs-length ask.mode (drawn ask) (rule_of ask), ltb-false (length ask.table) (entry_count (drawn ask).columns (drawn ask).rows) (passed f because.Table (omega arith)))

  -- The shots

  -- a measure of shots at unit squares that agrees with one of pieces, over the shots of a piece
  pub measured : (f : Shot → ℕ) (h : Piece → ℕ)
      → ((p : Piece) → PieceOf (drawn ask) p → f (rectangle (drawn ask) p) ≡ h p)
      → (p : Piece) → p.c ≤ (drawn ask).columns → p.d ≤ (drawn ask).rows
      → sum_of f (map (rectangle (drawn ask)) (shots ask.mode (drawn ask) (rule_of ask) p)) ≡ sum_of h (shots ask.mode (drawn ask) (rule_of ask) p)
  measured f h same p hc hd =
      sum_of-map f (rectangle (drawn ask)) (shots ask.mode (drawn ask) (rule_of ask) p)
      ∙ sum_of-same _ h (shots ask.mode (drawn ask) (rule_of ask) p)
      (All-imp
      (λ s q. same s (record { ac = q.ac; cx = omega (arith, q.c); bd = q.bd; dy = omega (arith, q.d) }))
      (shots ask.mode (drawn ask) (rule_of ask) p)
      (shots-part ask.mode (drawn ask) (rule_of ask) p))

  pub sliver-at : Words ask.figure → Filled o → (p : Piece) → PieceOf (drawn ask) p
      → shot_sliver F (rule_of ask) (rectangle (drawn ask) p) ≡ sliver (drawn ask) (rule_of ask) p
  sliver-at words f p v =
      let ac = v.ac in
      let bd = v.bd in
      sliver_squares (drawn ask) F (sound words f) (shown f) (rule_of ask) p (omega arith) v.cx (omega arith) v.dy

  pub charge-at : Words ask.figure → Filled o → (p : Piece) → PieceOf (drawn ask) p
      → shot_charge F (rule_of ask) (rectangle (drawn ask) p) ≡ charge (drawn ask) (rule_of ask) p
  charge-at words f p v =
      let ac = v.ac in
      let bd = v.bd in
      charge_squares (drawn ask) F (sound words f) (shown f) (rule_of ask) p (omega arith) v.cx (omega arith) v.dy

  -- The recurrence

  -- the table's own sums are those of the costs
  sums_at : Filled o → (p : Piece) (l : List Piece) → PieceOf (drawn ask) p → All (λ q. Part q p) l → sum_of E l ≡ sum_of (cost ask.mode (drawn ask) (rule_of ask)) l
  sums_at f p l v h =
      sum_of-same E (cost ask.mode (drawn ask) (rule_of ask)) l
      (All-imp {P = λ q. Part q p}
      (λ q w. entry_at f q (record { ac = w.ac; cx = omega (arith, w.c, v.cx); bd = w.bd; dy = omega (arith, w.d, v.dy) }))
      l
      h)

  pub parts-cost : Filled o → (p : Piece) → PieceOf (drawn ask) p → (k : Cut) → CutOf ask.mode p k
      → parts_cost E p k ≡ sum_of (cost ask.mode (drawn ask) (rule_of ask)) (parts p k)
  unfolding parts_cost
  parts-cost f p v k w =
      sums_at f p (parts p k) v (cuts-at ask.mode (λ k. All (λ q. Part q p) (parts p k)) p (parts-part ask.mode p v.ac v.bd) k w)

  pub chosen_first : Filled o → (p : Piece) → PieceOf (drawn ask) p → kind (drawn ask) p ≡ mixed
      → (k : Cut) × Chosen ask.mode (drawn ask) (rule_of ask) E p k
  chosen_first f p v e = (
    k,
    record {
      lies = lies;
      shots_of = shots-choice ask.mode g r p e;
      cost_of = entry_at f p v ∙ choice-cost ask.mode g r p e ∙ sym (parts-cost f p v k lies);
      no_less = no_less;
      earlier_dearer = dearer;
    },
  )
    where
      g : Grid
      g = drawn ask

      r : Rule
      r = rule_of ask

      k : Cut
      k = choice ask.mode g r p

      lies : CutOf ask.mode p k
      lies = choice_in ask.mode g r p e

      no_less : (i : Cut) → CutOf ask.mode p i → E p ≤ parts_cost E p i
      no_less i w = omega (arith, entry_at f p v, parts-cost f p v i w, cuts-at ask.mode _ p (cost-cuts ask.mode g r p e) i w)

      dearer : (i : Cut) → CutOf ask.mode p i → Before i k → E p < parts_cost E p i
      dearer i w h = elim (le-or (suc (E p)) (parts_cost E p i)) [
        | inl q ↦ q
        | inr q ↦ absurd (passed_over ask.mode g r p k refl i w h (omega (arith, entry_at f p v, parts-cost f p v i w, no_less i w)))
      ]

  pub recurrent : Filled o → (p : Piece) → PieceOf (drawn ask) p → Recurrence ask.mode (drawn ask) (rule_of ask) E p
  recurrent f p v =
      record {
        outside = λ e. (entry_at f p v ∙ cost-outside ask.mode (drawn ask) (rule_of ask) p e, shots-outside ask.mode (drawn ask) (rule_of ask) p e);
        full = λ e. (entry_at f p v ∙ cost-full ask.mode (drawn ask) (rule_of ask) p e, shots-full ask.mode (drawn ask) (rule_of ask) p e);
        mixed = chosen_first f p v;
      }

  -- Lines and frame

  abbrev OnX : ℕ → Type 0
  OnX = On X (corners_of ask.figure)

  abbrev OnY : ℕ → Type 0
  OnY = On Y (corners_of ask.figure)

  pub lined : Words ask.figure → Filled o → ways.Lined (drawn ask) OnX OnY
  unfolding drawn
  lined words f = let s = sound words f in figure_lined ask.figure s.columns-some s.rows-some

  pub framed : Words ask.figure → Filled o → rectangle (drawn ask) (frame (drawn ask)) ≡ frame_of (corners_of ask.figure)
  unfolding drawn
  framed words f = let s = sound words f in figure-frame ask.figure s.columns-some s.rows-some
