-- Where a grid has fewer than four lines in a direction no piece has a pinwheel, so both modes are one. Assumes nothing.
--
--   few-cuts        == a piece of at most two columns or rows of cells has the same cuts in both modes
--   few-shots       == so it has the same shots ..
--   few-cost        == .. and costs the same
--   few-gridded     == a grid of at most two columns or rows of cells gives the same in both modes: answer, table and list
--   few-same        == of a figure with at most three lines in a direction the outcome is the same in both modes: answer, table and list
use Prim.Native.Nat.{ℕ, zero, suc, ◌+◌, ◌*◌, ◌-◌, ◌≤◌, ◌<◌}
use mathlib.Core.Path.{◌≡◌, refl, sym, ◌∙◌, ap, ap₂}
use mathlib.Core.Bool.{cond}
use mathlib.Core.Logic.{◌⊎◌, inl, inr}
use mathlib.Core.List.{List, [], ◌∷◌, ◌++◌, map}
use native.Mathlib.Omega.{arith}
use lib.Dec.{ltb, eqb}
use lib.ListN.{length, get_or}
use lib.Seq.{ext_get_or}
use Rattle.sum.specs.Sum.{sum_of, All, join}
use Rattle.sum.proofs.Lists.{All-imp, map_same, join-same}
use Rattle.recurrence.specs.Choice.{cheapest}
use Rattle.recurrence.specs.Scheme.{Kind, outside, full, mixed, shots_by}
use Rattle.outline.specs.Grid.{Grid}
use Rattle.outline.specs.Inside.{grid}
use Rattle.outline.specs.Promise.{refusal}
use Rattle.rule.specs.declared.Rule.{Rule}
use Rattle.rule.specs.Rules.{in_range}
use Rattle.piece.specs.declared.Mode.TheVariants.{Straight, Pinwheel}
use Rattle.piece.specs.declared.Turn.{Turn}
use Rattle.piece.specs.declared.Turn.TheVariants.{First, Second}
use Rattle.piece.specs.Piece.{Piece, cells, kind, sliver, charge, frame}
use Rattle.piece.specs.Cuts.{turns, Cut, vertical, horizontal, wheel, run, between, straight_cuts, wheels, cuts, parts, CutOf, scheme, shots, cost, numbers_of}
use Rattle.piece.proofs.Order.{run-all}
use Rattle.piece.proofs.Cuts.{cuts-all, straight-only}
use Rattle.table.specs.Entry.{entry_count, Valid, costs}
use Rattle.table.proofs.Entry.{costs-length, costs-at, piece_of}
use Rattle.demands.specs.Cuts.{weighed_cuts}
use Rattle.demands.specs.Promise.{Asked, drawn, rule_of, frame_shots, frame_cost, frame_sliver, frame_numbers, Outcome, written, refused, delivered, gridded, ruled, outcome}
use Rattle.demands.proofs.Outcome.{in_mode}

-- the piece has at most two columns or two rows of cells
abbrev pub Few : Piece → Type 0
Few p = (p.c ≤ p.a + 2) ⊎ (p.d ≤ p.b + 2)

module _ {A B : Type 0} where
  join-none : (f : A → List B) (l : List A) → All (λ s. f s ≡ []) l → join f l ≡ []
  unfolding join
  join-none f [] h = refl
  join-none f (s ∷ l) h = ap₂ ◌++◌ h.0 (join-none f l h.1)

between_none : (a c : ℕ) → c ≤ suc a → between a c ≡ []
unfolding between run
between_none a c h = ap (run (suc a)) (let e : c - suc a ≡ 0 = omega arith in e)

between-each : (Q : ℕ → Type 0) (a c : ℕ) → ((j : ℕ) → a < j → Q j) → All Q (between a c)
unfolding between
between-each Q a c h = run-all Q (suc a) (c - suc a) (λ j q r. h j q)

-- no pinwheel
few-wheels : (t : Turn) (p : Piece) → Few p → wheels t p ≡ []
unfolding wheels join
few-wheels t p (inl h) =
    join-none _ (between p.a p.c)
    (between-each _ p.a p.c
    (λ j aj.
    ap (join (λ l. join (λ k. map (λ m. wheel t j l k m) (between k p.d)) (between p.b p.d))) (between_none j p.c (omega arith))))
few-wheels t p (inr h) =
    join-none _ (between p.a p.c)
    (between-each _ p.a p.c
    (λ j aj.
    join-none _ (between j p.c)
    (between-each _ j p.c
    (λ l jl.
    join-none _ (between p.b p.d)
    (between-each _ p.b p.d (λ k bk. ap (map (λ m. wheel t j l k m)) (between_none k p.d (omega arith))))))))

append-nil : {A : Type 0} (l : List A) → l ++ [] ≡ l
append-nil [] = refl
append-nil (s ∷ l) = ap (λ m. s ∷ m) (append-nil l)

pub few-cuts : (p : Piece) → Few p → cuts Pinwheel p ≡ cuts Straight p
unfolding cuts turns join
few-cuts p h =
    ap₂ (λ l m. straight_cuts p ++ (l ++ (m ++ []))) (few-wheels First p h) (few-wheels Second p h) ∙ append-nil (straight_cuts p)

-- a part of a straight cut ends no higher
few-parts : (p : Piece) → Few p → All (λ k. All Few (parts p k)) (cuts Straight p)
unfolding parts
few-parts p h = cuts-all Straight _ p each
  where
    each : (k : Cut) → CutOf Straight p k → All Few (parts p k)
    each (vertical j) w = elim h [
      | inl q ↦ (inl (omega (arith, w.1)), (inl (omega (arith, w.0)), tt))
      | inr q ↦ (inr q, (inr q, tt))
    ]
    each (horizontal j) w = elim h [
      | inl q ↦ (inl q, (inl q, tt))
      | inr q ↦ (inr (omega (arith, w.1)), (inr (omega (arith, w.0)), tt))
    ]
    each (wheel t j l k m) w = absurd (straight-only w.0)

module _ (g : Grid) (r : Rule) where
  -- one step of the recurrence: the parts of every cut have the same shots, so the cheapest cut has
  few_step : (f s : Piece → List Piece) (p : Piece) → Few p → ((q : Piece) → Few q → f q ≡ s q)
      → map (λ k. join f (parts p k)) (cuts Pinwheel p) ≡ map (λ k. join s (parts p k)) (cuts Straight p)
  few_step f s p h same =
      ap (map (λ k. join f (parts p k))) (few-cuts p h)
      ∙ map_same _ _ (cuts Straight p)
      (All-imp (λ k w. join-same f s (parts p k) (All-imp (λ q. same q) (parts p k) w)) (cuts Straight p) (few-parts p h))

  by_kind : (p : Piece) (l m : List (List Piece)) → l ≡ m → (t : Kind)
      → ◌≡◌ {A = List Piece} (elim t [ outside ↦ [] | full ↦ p ∷ [] | mixed ↦ cheapest (charge g r) l ])
      (elim t [ outside ↦ [] | full ↦ p ∷ [] | mixed ↦ cheapest (charge g r) m ])
  by_kind p l m e outside = refl
  by_kind p l m e full = refl
  by_kind p l m e mixed = ap (cheapest (charge g r)) e

  few-steps : (n : ℕ) (p : Piece) → Few p → shots_by (scheme Pinwheel g r) n p ≡ shots_by (scheme Straight g r) n p
  unfolding shots_by
  few-steps zero p h = refl
  few-steps (suc n) p h =
      by_kind p _ _ (few_step (shots_by (scheme Pinwheel g r) n) (shots_by (scheme Straight g r) n) p h (λ q w. few-steps n q w)) (kind g p)

  pub few-shots : (p : Piece) → Few p → shots Pinwheel g r p ≡ shots Straight g r p
  unfolding shots
  few-shots p h = few-steps (suc (cells p)) p h

  pub few-cost : (p : Piece) → Few p → cost Pinwheel g r p ≡ cost Straight g r p
  unfolding cost
  few-cost p h = ap (sum_of (charge g r)) (few-shots p h)

  module _ (few : (g.columns ≤ 2) ⊎ (g.rows ≤ 2)) where
    few-valid : (p : Piece) → Valid g.columns g.rows p → Few p
    few-valid p v = elim few [ inl h ↦ inl (omega (arith, v.cx)) | inr h ↦ inr (omega (arith, v.dy)) ]

    few-costs : costs Pinwheel g r ≡ costs Straight g r
    few-costs =
        ext_get_or 0 (costs Pinwheel g r) (costs Straight g r) (costs-length Pinwheel g r ∙ sym (costs-length Straight g r))
        (λ i q.
        let p = piece_of g.columns g.rows i (omega (arith, costs-length Pinwheel g r)) in
        ap (λ j. get_or (costs Pinwheel g r) j 0) (sym p.2)
        ∙ costs-at Pinwheel g r p.0 p.1
        ∙ few-cost p.0 (few-valid p.0 p.1)
        ∙ sym (costs-at Straight g r p.0 p.1)
        ∙ ap (λ j. get_or (costs Straight g r) j 0) p.2)

    few-frame : frame_shots Pinwheel g r ≡ frame_shots Straight g r
    unfolding frame_shots frame
    few-frame = few-shots (frame g) few

    -- what a list of shots delivers
    given : List Piece → List ℕ → List ℕ → Outcome
    given l table list =
        cond (ltb (length list) (4 * length l)) (record { number = 7; shots = length l; cost = 0; sliver = 0; cuts = 0; table = table; list = list })
        (record {
          number = 0;
          shots = length l;
          cost = sum_of (charge g r) l;
          sliver = sum_of (sliver g r) l;
          cuts = weighed_cuts g;
          table = table;
          list = written (numbers_of g l) list;
        })

    few-delivered : (table list : List ℕ) → delivered Pinwheel g r table list ≡ delivered Straight g r table list
    unfolding delivered frame_cost frame_sliver frame_numbers given
    few-delivered table list = ap (λ l. given l table list) few-frame

    pub few-gridded : (table list : List ℕ) → gridded Pinwheel g r table list ≡ gridded Straight g r table list
    unfolding gridded
    few-gridded table list =
        ap (λ o. cond (ltb (length table) (entry_count g.columns g.rows)) (refused 6 table list) o)
        (few-delivered (written (costs Pinwheel g r) table) list ∙ ap (λ c. delivered Straight g r (written c table) list) few-costs)

pub few-same : (ask : Asked) → ((drawn ask).columns ≤ 2) ⊎ ((drawn ask).rows ≤ 2) → outcome (in_mode Pinwheel ask) ≡ outcome (in_mode Straight ask)
unfolding outcome ruled drawn
few-same ask h =
    ap
    (λ o.
    cond (in_range ask.threshold ask.weight)
    (cond (eqb (refusal ask.figure) 0) o (refused (refusal ask.figure) ask.table ask.list))
    (refused 1 ask.table ask.list))
    (few-gridded (grid ask.figure) (rule_of ask) h ask.table ask.list)
