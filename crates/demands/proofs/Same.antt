-- Same drawing, same shots (Item 14), in either mode. Assumes nothing.
--
--   redrawn_same      == the same drawing, drawn otherwise, has the same outcome: answer, table and list, refusals among them
--   moved_same        == a drawing that is moved has the same answer, cuts and table, refusals among them
--   moved-shots       == and each of its shots moves along
--   moved-either      == so a drawing that is moved in any direction, too
--   dearer            == of two accepted fractures with all else equal, that by a greater weight and a greater threshold costs no less
--   dearer_entry      == nor does any entry of the table
use Prim.Native.Nat.{ℕ, ◌*◌, ◌<◌, ◌≤◌}
use mathlib.Core.Path.{◌≡◌, refl, sym, ◌∙◌, ap, ap₂, subst}
use mathlib.Core.Bool.{Bool, true, false, cond}
use mathlib.Core.Logic.{inl, inr}
use mathlib.Core.List.{List, [], ◌∷◌, map}
use native.Mathlib.Omega.{arith}
use lib.Dec.{ltb, eqb}
use lib.ListN.{length}
use borrow.Author.Tests.{eqb-true, eqb-false}
use Rattle.sum.specs.Sum.{sum_of}
use Rattle.sum.proofs.Sum.{le-or}
use Rattle.rule.specs.declared.Rule.{Rule}
use Rattle.rule.specs.Rules.{in_range}
use Rattle.figure.specs.Corners.{Corner}
use Rattle.figure.specs.Figure.{fault}
use Rattle.figure.specs.Redrawn.{of_rings, Redrawn, shifted}
use Rattle.outline.specs.Grid.{Grid}
use Rattle.outline.specs.Inside.{grid, empty}
use Rattle.outline.specs.Promise.{refusal}
use Rattle.outline.proofs.Redrawn.{grid_redrawn, refusal_redrawn}
use Rattle.outline.proofs.Shifted.{carried, some-corner, grid-shifted, refusal-shifted}
use Rattle.piece.specs.declared.Mode.{Mode}
use Rattle.piece.specs.Piece.{Piece, frame, kind, inside_cells, rectangle}
use Rattle.piece.specs.Cuts.{cost}
use Rattle.piece.proofs.Moved.{sliver-moved, charge-moved, shots-moved, cost-moved}
use Rattle.piece.proofs.Dearer.{cost_dearer}
use Rattle.table.specs.Entry.{entry_count, tabled, costs}
use Rattle.demands.specs.Cuts.{weighed, weighed_cuts}
use Rattle.demands.specs.Promise.{Asked, drawn, rule_of, Outcome, frame_shots, frame_cost, frame_sliver, written, refused, delivered, gridded, ruled, outcome}
use Rattle.demands.specs.Demands.{PieceOf, reported, entry, Filled}
use Rattle.demands.specs.Same.{shift_shot, bare, Dearer}
use Rattle.demands.proofs.Outcome.{with_figure, outcome-seen, outcome-rule, outcome-figure}
use Rattle.demands.proofs.Demands.{reported-is, entry-cost, cost-frame}

pub redrawn_same : (ask : Asked) {rs qs : List (List Corner)} → Redrawn rs qs
    → outcome (with_figure ask (of_rings rs)) ≡ outcome (with_figure ask (of_rings qs))
redrawn_same ask {rs} {qs} r = outcome-seen (with_figure ask (of_rings rs)) (of_rings qs) (refusal_redrawn r) (grid_redrawn r)

bare-cond : (b : Bool) (x y : Outcome) → bare (cond b x y) ≡ cond b (bare x) (bare y)
bare-cond true x y = refl
bare-cond false x y = refl

-- what is delivered, without the list
tallied : ℕ → ℕ → ℕ → ℕ → List ℕ → ℕ → Outcome
tallied n c s k table room =
    cond (ltb room (4 * n))
    (record { number = 7; shots = n; cost = 0; sliver = 0; cuts = 0; table = table; list = [] })
    (record { number = 0; shots = n; cost = c; sliver = s; cuts = k; table = table; list = [] })

bare-delivered : (mode : Mode) (g : Grid) (r : Rule) (table list : List ℕ)
    → bare (delivered mode g r table list) ≡ tallied (length (frame_shots mode g r)) (frame_cost mode g r) (frame_sliver mode g r) (weighed_cuts g) table (length list)
unfolding delivered bare tallied
bare-delivered mode g r table list = bare-cond (ltb (length list) (4 * length (frame_shots mode g r))) _ _

module _ (dx dy : ℕ) (mode : Mode) (g : Grid) (r : Rule) where
  tallied_moved : (table : List ℕ) (room : ℕ)
      → tallied (length (frame_shots mode (carried dx dy g) r)) (frame_cost mode (carried dx dy g) r) (frame_sliver mode (carried dx dy g) r) (weighed_cuts (carried dx dy g)) table room
      ≡ tallied (length (frame_shots mode g r)) (frame_cost mode g r) (frame_sliver mode g r) (weighed_cuts g) table room
  unfolding frame_shots frame_cost frame_sliver frame weighed_cuts weighed kind inside_cells
  tallied_moved table room = λ z.
      tallied (length (shots-moved dx dy g r mode (frame g) z))
      (sum_of (λ p. charge-moved dx dy g r p z) (shots-moved dx dy g r mode (frame g) z))
      (sum_of (λ p. sliver-moved dx dy g r p z) (shots-moved dx dy g r mode (frame g) z))
      (weighed_cuts g)
      table
      room

  costs-moved : costs mode (carried dx dy g) r ≡ costs mode g r
  unfolding costs
  costs-moved = λ z. tabled (λ p. cost-moved dx dy g r mode p z) g.columns g.rows

  gridded-moved : (table list : List ℕ) → bare (gridded mode (carried dx dy g) r table list) ≡ bare (gridded mode g r table list)
  unfolding gridded
  gridded-moved table list =
      bare-cond (ltb (length table) (entry_count g.columns g.rows)) _ _
      ∙ ap (cond (ltb (length table) (entry_count g.columns g.rows)) (bare (refused 6 table list)))
      (bare-delivered mode (carried dx dy g) r (written (costs mode (carried dx dy g) r) table) list
      ∙ tallied_moved (written (costs mode (carried dx dy g) r) table) (length list)
      ∙ ap (λ t. tallied (length (frame_shots mode g r)) (frame_cost mode g r) (frame_sliver mode g r) (weighed_cuts g) (written t table) (length list)) costs-moved
      ∙ sym (bare-delivered mode g r (written (costs mode g r) table) list))
      ∙ sym (bare-cond (ltb (length table) (entry_count g.columns g.rows)) _ _)

-- an accepted figure has no refusal of its own
no-refusal : (ask : Asked) → (outcome ask).number ≡ 0 → refusal ask.figure ≡ 0
unfolding refused
no-refusal ask e = go (in_range ask.threshold ask.weight) refl (eqb (refusal ask.figure) 0) refl
  where
    some : (n : ℕ) → (n ≡ 0 → ⊥) → 0 < n
    some n h = elim (le-or 1 n) [ inl q ↦ q | inr q ↦ absurd (h (omega arith)) ]

    go : (a : Bool) → in_range ask.threshold ask.weight ≡ a → (b : Bool) → eqb (refusal ask.figure) 0 ≡ b → refusal ask.figure ≡ 0
    go false q b z = absurd (omega (arith, e, ap (λ o. o.number) (outcome-rule ask q)))
    go true q true z = eqb-true (refusal ask.figure) 0 z
    go true q false z =
        let k = some (refusal ask.figure) (eqb-false (refusal ask.figure) 0 z) in
        absurd (omega (arith, e, k, ap (λ o. o.number) (outcome-figure ask q k)))

module _ (ask : Asked) (dx dy : ℕ) (rs : List (List Corner)) where
  abbrev here : Asked
  here = with_figure ask (of_rings rs)

  abbrev there : Asked
  there = with_figure ask (of_rings (shifted dx dy rs))

  -- a figure without a refusal has a corner
  right : refusal (of_rings rs) ≡ 0 → fault (of_rings rs) ≡ 0
  unfolding refusal
  right e = go (fault (of_rings rs)) refl
    where
      go : (n : ℕ) → fault (of_rings rs) ≡ n → n ≡ 0
      go n q = decide (eqb n 0) refl
        where
          decide : (b : Bool) → eqb n 0 ≡ b → n ≡ 0
          decide true z = eqb-true n 0 z
          decide false z = sym q ∙ sym (ap (λ b. cond b (cond (empty (grid (of_rings rs))) 5 0) (fault (of_rings rs))) (ap (λ m. eqb m 0) q ∙ z)) ∙ e

  moved-grid : refusal (of_rings rs) ≡ 0 → grid (of_rings (shifted dx dy rs)) ≡ carried dx dy (grid (of_rings rs))
  moved-grid e = grid-shifted dx dy rs (some-corner rs (right e))

  pub moved_same : bare (outcome there) ≡ bare (outcome here)
  unfolding outcome ruled
  moved_same =
      bare-cond (in_range ask.threshold ask.weight) _ _
      ∙ ap (λ o. cond (in_range ask.threshold ask.weight) o (bare (refused 1 ask.table ask.list))) ruled-moved
      ∙ sym (bare-cond (in_range ask.threshold ask.weight) _ _)
    where
      stage : (n : ℕ) (g : Grid) → Outcome
      stage n g = cond (eqb n 0) (gridded ask.mode g (rule_of ask) ask.table ask.list) (refused n ask.table ask.list)

      known : (b : Bool) → eqb (refusal (of_rings rs)) 0 ≡ b
          → cond b (bare (gridded ask.mode (grid (of_rings (shifted dx dy rs))) (rule_of ask) ask.table ask.list)) (bare (refused (refusal (of_rings rs)) ask.table ask.list))
          ≡ cond b (bare (gridded ask.mode (grid (of_rings rs)) (rule_of ask) ask.table ask.list)) (bare (refused (refusal (of_rings rs)) ask.table ask.list))
      known false e = refl
      known true e =
          ap (λ g. bare (gridded ask.mode g (rule_of ask) ask.table ask.list)) (moved-grid (eqb-true (refusal (of_rings rs)) 0 e))
          ∙ gridded-moved dx dy ask.mode (grid (of_rings rs)) (rule_of ask) ask.table ask.list

      ruled-moved : bare (stage (refusal (of_rings (shifted dx dy rs))) (grid (of_rings (shifted dx dy rs)))) ≡ bare (stage (refusal (of_rings rs)) (grid (of_rings rs)))
      ruled-moved =
          ap (λ n. bare (stage n (grid (of_rings (shifted dx dy rs))))) (refusal-shifted dx dy rs)
          ∙ bare-cond (eqb (refusal (of_rings rs)) 0) _ _
          ∙ known (eqb (refusal (of_rings rs)) 0) refl
          ∙ sym (bare-cond (eqb (refusal (of_rings rs)) 0) _ _)

  map-map : {A B C : Type 0} (f : B → C) (h : A → B) (l : List A) → map f (map h l) ≡ map (λ s. f (h s)) l
  map-map f h [] = refl
  map-map f h (s ∷ l) = ap (λ m. f (h s) ∷ m) (map-map f h l)

  pub moved-shots : (outcome here).number ≡ 0 → reported (outcome there) ≡ map (shift_shot dx dy) (reported (outcome here))
  unfolding drawn frame_shots frame bare
  moved-shots e =
      let n : (outcome there).number ≡ 0 = ap (λ o. o.number) moved_same ∙ e in
      let h : grid (of_rings (shifted dx dy rs)) ≡ carried dx dy (grid (of_rings rs)) = moved-grid (no-refusal here e) in
      reported-is there n
      ∙ ap (λ g. map (rectangle g) (frame_shots ask.mode g (rule_of ask))) h
      ∙ ap (map (rectangle (carried dx dy (grid (of_rings rs))))) (shots-moved dx dy (grid (of_rings rs)) (rule_of ask) ask.mode (frame (grid (of_rings rs))))
      ∙ sym (map-map (shift_shot dx dy) (rectangle (grid (of_rings rs))) (frame_shots ask.mode (grid (of_rings rs)) (rule_of ask)))
      ∙ ap (map (shift_shot dx dy)) (sym (reported-is here e))

-- a move in any direction: both drawings moved to the same place
pub moved-either : (ask : Asked) (dx dy ex ey : ℕ) (rs qs : List (List Corner)) → shifted dx dy rs ≡ shifted ex ey qs
    → bare (outcome (with_figure ask (of_rings rs))) ≡ bare (outcome (with_figure ask (of_rings qs)))
moved-either ask dx dy ex ey rs qs e =
    sym (moved_same ask dx dy rs)
    ∙ ap (λ l. bare (outcome (with_figure ask (of_rings l)))) e
    ∙ moved_same ask ex ey qs

pub moved-either-shots : (ask : Asked) (dx dy ex ey : ℕ) (rs qs : List (List Corner)) → shifted dx dy rs ≡ shifted ex ey qs
    → (outcome (with_figure ask (of_rings rs))).number ≡ 0
    → map (shift_shot dx dy) (reported (outcome (with_figure ask (of_rings rs)))) ≡ map (shift_shot ex ey) (reported (outcome (with_figure ask (of_rings qs))))
unfolding bare
moved-either-shots ask dx dy ex ey rs qs e n =
    let m : (outcome (with_figure ask (of_rings qs))).number ≡ 0 = sym (ap (λ o. o.number) (moved-either ask dx dy ex ey rs qs e)) ∙ n in
    sym (moved-shots ask dx dy rs n)
    ∙ ap (λ l. reported (outcome (with_figure ask (of_rings l)))) e
    ∙ moved-shots ask ex ey qs m

module _ (ask other : Asked) (d : Dearer ask other) where
  cost-up : (p : Piece) → cost ask.mode (drawn ask) (rule_of ask) p ≤ cost other.mode (drawn other) (rule_of other) p
  unfolding drawn
  cost-up p =
      let up = cost_dearer ask.mode (drawn ask) (rule_of ask) (rule_of other) d.threshold d.weight p in
      let same : cost other.mode (grid other.figure) (rule_of other) p ≡ cost ask.mode (grid ask.figure) (rule_of other) p =
      ap₂ (λ m f. cost m (grid f) (rule_of other) p) d.mode d.figure in
      omega (arith, up, same)

  pub dearer : (outcome ask).number ≡ 0 → (outcome other).number ≡ 0 → (outcome ask).cost ≤ (outcome other).cost
  unfolding drawn
  dearer e f = omega (arith, cost-frame ask e, cost-frame other f, framed)
    where
      framed : cost ask.mode (drawn ask) (rule_of ask) (frame (drawn ask)) ≤ cost other.mode (drawn other) (rule_of other) (frame (drawn other))
      framed =
          let z : frame (drawn other) ≡ frame (drawn ask) = ap (λ f. frame (grid f)) d.figure in
          omega (arith, cost-up (frame (drawn ask)), ap (cost other.mode (drawn other) (rule_of other)) z)

  pub dearer_entry : Filled (outcome ask) → Filled (outcome other) → (p : Piece) → PieceOf (drawn ask) p
      → entry (outcome ask) (drawn ask) p ≤ entry (outcome other) (drawn other) p
  unfolding drawn
  dearer_entry e f p v =
      let w : PieceOf (drawn other) p = subst (λ f. PieceOf (grid f) p) (sym d.figure) v in
      omega (arith, entry-cost ask e p v, entry-cost other f p w, cost-up p)
