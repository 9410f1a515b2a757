-- The demands, as theorems about the outcome that the fracture calls promise. Assumes nothing.
--
-- For all that a fracture can be asked (ask: the mode, a figure, threshold and weight, and the lent table and list); o is the outcome, E p its
-- table's entry for the piece p, and F the figure at the nanometre: inside at the unit square by the odd count on the raw corners.
-- Words says that the figure is given by 16-bit numbers, as every figure is; Filled o that the table was filled, on success and beside 7.
-- Of the call itself, with no premise but its contract and the type of its corners, demands 2 and 3 stand in fracture/proofs/Demands.antt.
--   words_typed          == every list of numbers of the type u16 makes a figure of which Words holds
--
-- Demand 1: what is bad is refused by number, exactly when the scope's list says so, and the list fixes what stays in each buffer
--   refused_exactly      == the number of the refusal c is given exactly when c's condition is the first in the order that holds
--   accepted_exactly     == 0 is given exactly when no condition holds
--   number-listed        == every outcome is accepted, or has the number of a refusal
--   nothing_inside       == of a figure that passes 2, 3 and 4: no cell is inside exactly when no unit square is
--   refusal-keeps        == beside 1 to 6: zeros, and both buffers as they came in
--   short-keeps          == beside 7: the shots needed, zeros, the list as it came in, the table as on success
--   accepted_fills       == on success: the costs at the front of the table, the shots at the front of the list, the rest as it came in
--   lengths-kept         == both buffers keep their lengths, whatever the outcome (proofs/Room.antt)
--   written-beyond       == behind what is written every number of both buffers is as it came in, and every number of a buffer that is
--                           not written (proofs/Room.antt)
--   entries-closed       == how many entries there are, by a formula: m (m + 1) / 2 x n (n + 1) / 2 of m columns and n rows
--                           (proofs/Room.antt)
--   ample                == with 14,400 entries and room for 225 shots neither 6 nor 7 is given (proofs/Room.antt)
--   no_influence         == what the buffers held before has no influence: with others of the same lengths the answer is the same, and
--                           so is what is written
--   outcome-seen         == of a figure a fracture sees nothing but its refusal and its grid (proofs/Outcome.antt)
--   outcome_unique       == two outcomes that are what was promised are equal (proofs/Outcome.antt)
-- Demand 2: the shots lie inside, share no area and cover; count, sliver length and cost are those of these very shots
--   cover                == each unit square is in exactly one reported shot if it is inside, and in none if not
--   shots-inside, shots-apart, shots_cover   == so shots lie inside, no two hold the same square, and each inside square is held
--   these_shots          == count, sliver length and cost, worked out anew from the four numbers of each shot, at unit squares
--   entry-cost, frame-entry   == each table entry is its piece's cost, and the frame's is the reported cost
--   entry_place          == the entry of the piece between the x lines a < c and the y lines b < d stands, of m columns and n rows, at the
--                           number of its x pair times n (n + 1) / 2 plus the number of its y pair
--   reported-is          == the reported shots are those of the frame, in its list order
--   recurrence           == the paper's equation (2), in the pinwheel mode (2) and (3), with the scope's tie order and order of the list,
--                           holds of the table
--   tie_order            == the cut made at a mixed piece: of those that cost least it is vertical if any is, else horizontal if any is, and no
--                           lower line of its direction costs the same; else it is a pinwheel, of the first turn if any is, and no lower one of
--                           its turn, by j, l, k, m, costs the same (so the laws choice-first, choice-second of piece/proofs/Choice.antt)
-- Demand 3: no way to cut is cheaper
--   never_cheaper        == no way to cut the frame at the nanometre, each cut at a corner's coordinate and right across, or in the pinwheel
--                           mode a pinwheel at corners' coordinates, what is wholly inside being kept whole, totals less than the reported
--                           cost (proofs/Ways.antt)
--   entry_whole          == the entry of a piece that is wholly inside is its charge as one shot, though cut again it might be cheaper (the
--                           row of the bar of 30 by 20 nm)
--   attained             == one such way has the reported shots, and totals the reported cost
--   entry_never_cheaper, entry_attained == so is each table entry for its piece: the least total of any way to cut it
--   never_cheaper_grid, attained_grid   == the same of cuttings of the grid by its lines
-- Two modes
--   pinwheel-not-above   == of two accepted calls, all else equal but what is lent, the one with pinwheels costs no more than the one by
--                           straight cuts alone
--   pinwheel-entry-not-above  == and no entry is above that of the other
--   pinwheel-cuts        == both report the same cuts: those are counted of straight cuts in either mode
-- Bound and rows
--   bound, bound_cost    == no table entry, and no reported cost, exceeds 2,097,345,000
--   bound_parts          == nor do the entries of all parts of a cut together, the five of a pinwheel among them
--   rows-hold            == the proved rows of the scope, those with rings, and one that only the order of lines decides (proofs/Rows.antt)
--   wheel-rows-hold      == rows of two drawings that pinwheels cut best, and of a tie that goes to the straight cut (proofs/Rows.antt)
--   new_rows-hold        == rows by the default rule (proofs/Rows.antt)
--   entries_of_L, new_entries_of_L == the whole table of L by the first rule of the table and by the default (proofs/Rows.antt)
use Prim.Native.Nat.{ℕ, suc, ◌+◌, ◌*◌, ◌/◌, ◌≤◌, ◌<◌}
use mathlib.Core.Path.{◌≡◌, refl, sym, ◌∙◌, ap, subst}
use mathlib.Core.Bool.{Bool, true, false}
use mathlib.Core.Logic.{◌⊎◌, inl, inr, ⊎_elim}
use mathlib.Core.List.{List, [], ◌∷◌, map, Memᴰ as Member}
use native.Mathlib.Omega.{arith}
use mir.Syntax.{w16}
use mir.Val.{Fits}
use lib.ListN.{length, take, get_or, length-map}
use Rattle.sum.specs.Sum.{only, sum_of}
use Rattle.sum.proofs.Sum.{only-most, rise}
use Rattle.sum.proofs.Lists.{sum_of_member, sum_of-two, sum_of-some}
use Rattle.recurrence.specs.Scheme.{full, mixed}
use Rattle.recurrence.specs.Cutting.{Cutting, shots_in as shotsOfCutting, price}
use Rattle.refusal.specs.declared.Refusal.{Refusal}
use Rattle.refusal.specs.declared.Refusal.TheVariants as because
use Rattle.refusal.specs.Refusals.{refusal_no}
use Rattle.refusal.proofs.Refusals.{refusal-some}
use Rattle.shot.specs.Shot.{Shot, holds, shots_in}
use Rattle.figure.specs.declared.Axis.TheVariants.{X, Y}
use Rattle.figure.specs.Figure.{figure, corners_of}
use Rattle.figure.specs.Inside.{inside_at}
use Rattle.figure.specs.Steps.{Right}
use Rattle.piece.specs.Piece.{Piece, box, rectangle, frame, kind, sliver, charge}
use Rattle.piece.specs.declared.Mode.TheVariants.{Straight, Pinwheel}
use Rattle.piece.specs.Cuts.{Cut, CutOf, scheme, shots, cost}
use Rattle.piece.proofs.Kind.{mixed-count, full-count}
use Rattle.piece.proofs.Cuts.{cuts-at, no_cheaper, attained as attained-by, not-above}
use Rattle.piece.proofs.Choice.{numbers-length, numbers-shots}
use Rattle.piece.proofs.Bound.{cost-most, parts-most}
use Rattle.table.specs.Entry.{costs}
use Rattle.table.proofs.Entry.{pair-closed, count-closed, entry-join}
use Rattle.demands.specs.Promise.{Asked, drawn, rule_of, frame_shots, frame_cost, frame_sliver, frame_numbers, Outcome, written, refused, outcome}
use Rattle.demands.specs.Refusals.{Condition, First}
use Rattle.demands.specs.Square.{shot_sliver, shot_charge}
use Rattle.demands.specs.Ways.{Whole, Way, shots_of, total, On, frame_of}
use Rattle.demands.specs.Demands.{Words, PieceOf, reported, entry, pair_at, answer, Filled, parts_cost, Chosen, Recurrence}
use Rattle.demands.proofs.Outcome.{accepted, short, written-front, outcome-zero, outcome_seven, outcome-other, with_buffers, in_mode, answer-same}
use Rattle.demands.proofs.Refusals.{test, outcome-number, test_false, number-first, first-number, number-none, none_number, number-known}
use Rattle.demands.proofs.Square.{held_one, cover_squares}
use Rattle.demands.proofs.Ways as ways
use Rattle.demands.proofs.Figure.{figure-sound, figure_shows}
use Rattle.demands.proofs.Counted.{cuts-same}
use Rattle.demands.proofs.Accepted.{shown, sound, light, framed_piece, entry_at, front-table, measured, sliver-at, charge-at, parts-cost, chosen_first, recurrent, lined, framed}

pub words_typed : (l ns : List ℕ) → ((i : ℕ) → Fits w16 (get_or l i 0)) → Words (figure l ns)
words_typed [] ns h = tt
words_typed (v ∷ l) ns h = (omega (arith, h 0), words_typed l ns (λ i. h (suc i)))

module _ (ask : Asked) where
  abbrev o : Outcome
  o = outcome ask

  abbrev F : ℕ → ℕ → Bool
  F = inside_at ask.figure

  abbrev E : Piece → ℕ
  E = entry o (drawn ask)

  abbrev Holds : Refusal → Type 0
  Holds c = Condition ask c

  -- a place that a cut may lie at: the coordinate of a corner
  abbrev OnX : ℕ → Type 0
  OnX = On X (corners_of ask.figure)

  abbrev OnY : ℕ → Type 0
  OnY = On Y (corners_of ask.figure)

  -- Demand 1

  pub refused_exactly : (c : Refusal) → (o.number ≡ refusal_no c → First ask c) × (First ask c → o.number ≡ refusal_no c)
  refused_exactly c = (
    λ e. number-first ask c (sym (outcome-number ask) ∙ e),
    λ f. outcome-number ask ∙ first-number ask c f,
  )

  pub accepted_exactly : (o.number ≡ 0 → (c : Refusal) → Holds c → ⊥) × (((c : Refusal) → Holds c → ⊥) → o.number ≡ 0)
  accepted_exactly = (
    λ e. number-none ask (sym (outcome-number ask) ∙ e),
    λ f. outcome-number ask ∙ none_number ask f,
  )

  pub number-listed : (o.number ≡ 0) ⊎ ((c : Refusal) × (refusal_no c ≤ 7) × (o.number ≡ refusal_no c))
  number-listed =
      ⊎_elim (λ e. inl (outcome-number ask ∙ e)) (λ e. inr (e.0, e.1, outcome-number ask ∙ e.2))
      (number-known ask)

  pub nothing_inside : Words ask.figure → (Holds because.Length → ⊥) → (Holds because.Slanted → ⊥) → (Holds because.Unturned → ⊥)
      → (Holds because.Empty → (x y : ℕ) → F x y ≡ false) × (((x y : ℕ) → F x y ≡ false) → Holds because.Empty)
  unfolding Condition drawn test
  nothing_inside words a b c =
      let right : Right ask.figure =
      record {
        figure-good = test_false ask because.Length a;
        slanted-none = test_false ask because.Slanted b;
        unturned-none = test_false ask because.Unturned c;
      }
      in
      let s = figure-sound ask.figure words right in
      let v = figure_shows ask.figure right.slanted-none in
      (λ h. ways.nothing_squares (drawn ask) F s v h, λ h. ways.squares_nothing (drawn ask) F s v h)

  pub refusal-keeps : (c : Refusal) → refusal_no c < 7 → o.number ≡ refusal_no c
      → (o.shots ≡ 0) × (o.cost ≡ 0) × (o.sliver ≡ 0) × (o.table ≡ ask.table) × (o.list ≡ ask.list)
  unfolding refused
  refusal-keeps c h e =
      let q = outcome-other ask (refusal_no c) (refusal-some c) h e in
      (ap (λ o. o.shots) q, ap (λ o. o.cost) q, ap (λ o. o.sliver) q, ap (λ o. o.table) q, ap (λ o. o.list) q)

  pub short-keeps : o.number ≡ 7
      → (o.shots ≡ length (frame_shots ask.mode (drawn ask) (rule_of ask))) × (o.cost ≡ 0) × (o.sliver ≡ 0)
      × (o.table ≡ written (costs ask.mode (drawn ask) (rule_of ask)) ask.table) × (o.list ≡ ask.list)
  unfolding short
  short-keeps e =
      let q = outcome_seven ask e in
      (ap (λ o. o.shots) q, ap (λ o. o.cost) q, ap (λ o. o.sliver) q, ap (λ o. o.table) q, ap (λ o. o.list) q)

  pub accepted_fills : o.number ≡ 0 → (o.table ≡ written (costs ask.mode (drawn ask) (rule_of ask)) ask.table) × (o.list ≡ written (frame_numbers ask.mode (drawn ask) (rule_of ask)) ask.list)
  unfolding accepted
  accepted_fills e = let q = outcome-zero ask e in (ap (λ o. o.table) q, ap (λ o. o.list) q)

  -- Demand 2

  pub reported-is : o.number ≡ 0 → reported o ≡ map (rectangle (drawn ask)) (frame_shots ask.mode (drawn ask) (rule_of ask))
  unfolding reported accepted frame_numbers
  reported-is e =
      ap reported (outcome-zero ask e)
      ∙ ap (λ n. shots_in (take n (written (frame_numbers ask.mode (drawn ask) (rule_of ask)) ask.list))) (sym (numbers-length (drawn ask) (frame_shots ask.mode (drawn ask) (rule_of ask))))
      ∙ ap shots_in (written-front (frame_numbers ask.mode (drawn ask) (rule_of ask)) ask.list)
      ∙ numbers-shots (drawn ask) (frame_shots ask.mode (drawn ask) (rule_of ask))

  pub cover : Words ask.figure → o.number ≡ 0 → (x y : ℕ) → sum_of (λ s. only (holds x y s) 1) (reported o) ≡ only (F x y) 1
  unfolding frame_shots
  cover words e x y =
      ap (sum_of (λ s. only (holds x y s) 1)) (reported-is e)
      ∙ cover_squares (drawn ask) F (sound ask words (inl e)) (shown ask (inl e)) x y ask.mode (rule_of ask)

  pub shots-inside : Words ask.figure → o.number ≡ 0 → (s : Shot) → Member s (reported o) → (x y : ℕ) → holds x y s ≡ true → F x y ≡ true
  shots-inside words e s m x y h =
      held_one (F x y) (omega (arith, sum_of_member (λ s. only (holds x y s) 1) m, ap (λ b. only b 1) h, cover words e x y))

  pub shots-apart : Words ask.figure → o.number ≡ 0 → (d : Shot) (i j : ℕ) → i < j → j < length (reported o)
      → (x y : ℕ) → holds x y (get_or (reported o) i d) ≡ true → holds x y (get_or (reported o) j d) ≡ true → ⊥
  shots-apart words e d i j h k x y p q =
      omega (
        arith,
        sum_of-two (λ s. only (holds x y s) 1) d (reported o) i j h k,
        ap (λ b. only b 1) p,
        ap (λ b. only b 1) q,
        cover words e x y,
        only-most (F x y) 1,
      )

  pub shots_cover : Words ask.figure → o.number ≡ 0 → (x y : ℕ) → F x y ≡ true → (s : Shot) × Member s (reported o) × (holds x y s ≡ true)
  shots_cover words e x y h =
      let m = sum_of-some (λ s. only (holds x y s) 1) (reported o) (omega (arith, cover words e x y, ap (λ b. only b 1) h)) in
      (m.0, m.1, held_one (holds x y m.0) m.2)

  -- over the reported shots
  measured-all : o.number ≡ 0 → (f : Shot → ℕ) (h : Piece → ℕ)
      → ((p : Piece) → PieceOf (drawn ask) p → f (rectangle (drawn ask) p) ≡ h p)
      → sum_of h (frame_shots ask.mode (drawn ask) (rule_of ask)) ≡ sum_of f (reported o)
  unfolding frame_shots frame
  measured-all e f h same =
      sym (ap (sum_of f) (reported-is e) ∙ measured ask f h same (frame (drawn ask)) (omega arith) (omega arith))

  pub these_shots : Words ask.figure → o.number ≡ 0
      → (o.shots ≡ length (reported o)) × (o.sliver ≡ sum_of (shot_sliver F (rule_of ask)) (reported o)) × (o.cost ≡ sum_of (shot_charge F (rule_of ask)) (reported o))
  unfolding accepted frame_sliver frame_cost
  these_shots words e =
      let q = outcome-zero ask e in
      let n = reported-is e in (
        ap (λ o. o.shots) q ∙ sym (ap length n ∙ length-map (frame_shots ask.mode (drawn ask) (rule_of ask)) (rectangle (drawn ask))),
        ap (λ o. o.sliver) q ∙ measured-all e (shot_sliver F (rule_of ask)) (sliver (drawn ask) (rule_of ask)) (sliver-at ask words (inl e)),
        ap (λ o. o.cost) q ∙ measured-all e (shot_charge F (rule_of ask)) (charge (drawn ask) (rule_of ask)) (charge-at ask words (inl e)),
      )

  pub entry-cost : Filled o → (p : Piece) → PieceOf (drawn ask) p → E p ≡ cost ask.mode (drawn ask) (rule_of ask) p
  entry-cost = entry_at ask

  pub entry_place : Filled o → (a c b d : ℕ) → PieceOf (drawn ask) (box a c b d)
      → (let m = (drawn ask).columns in
      let n = (drawn ask).rows in
      get_or o.table (pair_at m a c * ((n * (n + 1)) / 2) + pair_at n b d) 0 ≡ cost ask.mode (drawn ask) (rule_of ask) (box a c b d))
  unfolding entry
  entry_place f a c b d v =
      let m = (drawn ask).columns in
      let n = (drawn ask).rows in
      let e =
      entry-join m n a c b d (pair_at m a c) ((n * (n + 1)) / 2) (pair_at n b d)
      (sym (pair-closed m a c v.ac v.cx))
      (sym (count-closed n))
      (sym (pair-closed n b d v.bd v.dy))
      v
      in
      ap (λ k. get_or o.table k 0) e.0 ∙ entry-cost f (box a c b d) v

  pub cost-frame : o.number ≡ 0 → o.cost ≡ cost ask.mode (drawn ask) (rule_of ask) (frame (drawn ask))
  unfolding accepted frame_cost frame_shots cost
  cost-frame e = ap (λ o. o.cost) (outcome-zero ask e)

  pub frame-entry : Words ask.figure → o.number ≡ 0 → E (frame (drawn ask)) ≡ o.cost
  frame-entry words e = entry-cost (inl e) (frame (drawn ask)) (framed_piece ask words (inl e)) ∙ sym (cost-frame e)

  pub recurrence : Filled o → (p : Piece) → PieceOf (drawn ask) p → Recurrence ask.mode (drawn ask) (rule_of ask) E p
  recurrence = recurrent ask

  pub tie_order : Filled o → (p : Piece) → PieceOf (drawn ask) p → kind (drawn ask) p ≡ mixed
      → (k : Cut) × Chosen ask.mode (drawn ask) (rule_of ask) E p k
  tie_order = chosen_first ask

  -- Demand 3

  pub entry_never_cheaper : Words ask.figure → Filled o → (p : Piece) → PieceOf (drawn ask) p
      → (way : Way ask.mode F OnX OnY (rectangle (drawn ask) p)) → E p ≤ total ask.mode F OnX OnY (rule_of ask) way
  unfolding total
  entry_never_cheaper words f p v way =
      let s = sound ask words f in
      let n = lined ask words f in
      omega (arith, entry-cost f p v, ways.never_cheaper (drawn ask) F s (shown ask f) OnX OnY n ask.mode (rule_of ask) way p v refl)

  pub entry_attained : Words ask.figure → Filled o → (p : Piece) → PieceOf (drawn ask) p
      → (way : Way ask.mode F OnX OnY (rectangle (drawn ask) p))
      × (shots_of ask.mode F OnX OnY way ≡ map (rectangle (drawn ask)) (shots ask.mode (drawn ask) (rule_of ask) p))
      × (total ask.mode F OnX OnY (rule_of ask) way ≡ E p)
  unfolding total cost
  entry_attained words f p v =
      let s = sound ask words f in
      let n = lined ask words f in
      let m = ways.way_attained (drawn ask) F s (shown ask f) OnX OnY n ask.mode (rule_of ask) p v in
      let c = charge-at ask words f in (
        m.0,
        m.1,
        ap (sum_of (shot_charge F (rule_of ask))) m.1
            ∙ measured ask (shot_charge F (rule_of ask)) (charge (drawn ask) (rule_of ask)) c p v.cx v.dy
            ∙ sym (entry-cost f p v),
      )

  pub entry_whole : Words ask.figure → Filled o → (p : Piece) → PieceOf (drawn ask) p
      → (let s = rectangle (drawn ask) p in Whole F s → E p ≡ shot_charge F (rule_of ask) s)
  unfolding total sum_of
  entry_whole words f p v whole =
      let g = sound ask words f in
      let m = entry_attained words f p v in
      let x : (drawn ask).x p.a < (drawn ask).x p.c =
      omega (arith, g.x_rises p.a (omega (arith, v.ac, v.cx)), rise (drawn ask).x g.x-up (suc p.a) p.c v.ac)
      in
      let y : (drawn ask).y p.b < (drawn ask).y p.d =
      omega (arith, g.y_rises p.b (omega (arith, v.bd, v.dy)), rise (drawn ask).y g.y-up (suc p.b) p.d v.bd)
      in
      omega (arith, m.2, ap (sum_of (shot_charge F (rule_of ask))) (ways.kept_whole ask.mode F OnX OnY (rectangle (drawn ask) p) whole x y m.0))

  pub never_cheaper : Words ask.figure → o.number ≡ 0 → (way : Way ask.mode F OnX OnY (frame_of (corners_of ask.figure))) → o.cost ≤ total ask.mode F OnX OnY (rule_of ask) way
  never_cheaper words e =
      let v = framed_piece ask words (inl e) in
      subst (λ s. (way : Way ask.mode F OnX OnY s) → o.cost ≤ total ask.mode F OnX OnY (rule_of ask) way) (framed ask words (inl e))
      (λ way. omega (arith, frame-entry words e, entry_never_cheaper words (inl e) (frame (drawn ask)) v way))

  pub attained : Words ask.figure → o.number ≡ 0
      → (way : Way ask.mode F OnX OnY (frame_of (corners_of ask.figure))) × (shots_of ask.mode F OnX OnY way ≡ reported o) × (total ask.mode F OnX OnY (rule_of ask) way ≡ o.cost)
  unfolding frame_shots
  attained words e =
      let m = entry_attained words (inl e) (frame (drawn ask)) (framed_piece ask words (inl e)) in
      subst (λ s. (way : Way ask.mode F OnX OnY s) × (shots_of ask.mode F OnX OnY way ≡ reported o) × (total ask.mode F OnX OnY (rule_of ask) way ≡ o.cost))
      (framed ask words (inl e))
      (m.0, m.1 ∙ sym (reported-is e), m.2 ∙ frame-entry words e)

  -- a piece that is wholly inside is kept whole; every other one may be cut
  abbrev Keeps : Piece → Type 0
  Keeps p = kind (drawn ask) p ≡ full → ⊥

  pub never_cheaper_grid : o.number ≡ 0
      → (c : Cutting (scheme ask.mode (drawn ask) (rule_of ask)) Keeps (frame (drawn ask))) → o.cost ≤ price (scheme ask.mode (drawn ask) (rule_of ask)) Keeps c
  never_cheaper_grid e c =
      omega (arith, cost-frame e, no_cheaper ask.mode (drawn ask) (rule_of ask) Keeps (λ p u. u) (frame (drawn ask)) c)

  pub attained_grid : o.number ≡ 0
      → (c : Cutting (scheme ask.mode (drawn ask) (rule_of ask)) Keeps (frame (drawn ask)))
      × (map (rectangle (drawn ask)) (shotsOfCutting (scheme ask.mode (drawn ask) (rule_of ask)) Keeps c) ≡ reported o)
      × (price (scheme ask.mode (drawn ask) (rule_of ask)) Keeps c ≡ o.cost)
  unfolding price frame_shots cost
  attained_grid e =
      let m = attained-by ask.mode (drawn ask) (rule_of ask) Keeps (λ p e f. omega (arith, mixed-count (drawn ask) p e, full-count (drawn ask) p f)) (frame (drawn ask)) in (
        m.0,
        ap (map (rectangle (drawn ask))) m.1 ∙ sym (reported-is e),
        ap (sum_of (charge (drawn ask) (rule_of ask))) m.1 ∙ sym (cost-frame e),
      )

  -- Bound

  pub bound : Words ask.figure → Filled o → (p : Piece) → PieceOf (drawn ask) p → E p ≤ 2097345000
  bound words f p v =
      let ac = v.ac in
      let bd = v.bd in
      let s = sound ask words f in
      omega (
        arith,
        entry-cost f p v,
        cost-most ask.mode (drawn ask) (rule_of ask) s p (omega arith) v.cx (omega arith) v.dy (light ask f),
      )

  pub bound_parts : Words ask.figure → Filled o → (p : Piece) → PieceOf (drawn ask) p → (k : Cut) → CutOf ask.mode p k
      → parts_cost E p k ≤ 2097345000
  bound_parts words f p v k w =
      let ac = v.ac in
      let bd = v.bd in
      let s = sound ask words f in
      omega (
        arith,
        parts-cost ask f p v k w,
        cuts-at ask.mode _ p (parts-most ask.mode (drawn ask) (rule_of ask) s p (omega arith) v.cx (omega arith) v.dy (light ask f)) k w,
      )

  pub bound_cost : Words ask.figure → o.number ≡ 0 → o.cost ≤ 2097345000
  bound_cost words e = omega (arith, frame-entry words e, bound words (inl e) (frame (drawn ask)) (framed_piece ask words (inl e)))

-- Two modes: the same figure and rule, with whatever is lent

module _ (ask : Asked) (table list : List ℕ) where
  abbrev straight : Asked
  straight = in_mode Straight ask

  abbrev pinwheel : Asked
  pinwheel = in_mode Pinwheel (with_buffers ask table list)

  pub pinwheel-not-above : (outcome pinwheel).number ≡ 0 → (outcome straight).number ≡ 0 → (outcome pinwheel).cost ≤ (outcome straight).cost
  unfolding drawn
  pinwheel-not-above e f =
      omega (arith, cost-frame pinwheel e, cost-frame straight f, not-above (drawn ask) (rule_of ask) (frame (drawn ask)))

  pub pinwheel-entry-not-above : Filled (outcome pinwheel) → Filled (outcome straight) → (p : Piece) → PieceOf (drawn ask) p
      → entry (outcome pinwheel) (drawn ask) p ≤ entry (outcome straight) (drawn ask) p
  unfolding drawn
  pinwheel-entry-not-above e f p v =
      omega (arith, entry-cost pinwheel e p v, entry-cost straight f p v, not-above (drawn ask) (rule_of ask) p)

  pub pinwheel-cuts : (outcome pinwheel).number ≡ 0 → (outcome straight).number ≡ 0 → (outcome pinwheel).cuts ≡ (outcome straight).cuts
  pinwheel-cuts e f = cuts-same pinwheel straight refl e f

-- Demand 1 once more: nothing in a lent buffer steers the outcome

module _ (ask : Asked) (table list : List ℕ) (entries : length ask.table ≡ length table) (room : length ask.list ≡ length list) where
  -- the same with other buffers
  abbrev other : Asked
  other = with_buffers ask table list

  pub no_influence : (answer (outcome ask) ≡ answer (outcome other))
      × (Filled (outcome ask)
      → take (length (costs ask.mode (drawn ask) (rule_of ask))) (outcome ask).table ≡ take (length (costs ask.mode (drawn ask) (rule_of ask))) (outcome other).table)
      × ((outcome ask).number ≡ 0 → reported (outcome ask) ≡ reported (outcome other))
  unfolding answer drawn
  no_influence =
      let same = ap (λ o. o.number) (answer-same ask table list entries room) in (
        answer-same ask table list entries room,
        λ f. front-table ask f ∙ sym (front-table other (subst (λ n. (n ≡ 0) ⊎ (n ≡ 7)) same f)),
        λ e. reported-is ask e ∙ sym (reported-is other (sym same ∙ e)),
      )
