-- The cost of a piece by pinwheels, from a table that is lowered as far as its parts. Assumes nothing.
--
--   lowest-next, lowest-end            == the least of the lines passed: with one line more, and of all of them
--   entry_in, entry-most               == the entry of a piece is the table's, and has at most the scope's bound
--   plan-small                         == the plan has the size of a grid
--   few-lowered                        == a piece with fewer than three columns or rows has its cost by pinwheels
--   here-within                        == the entry of the piece at hand is the table's
--   weighable_x, weighable_y           == its cuts in each direction are the table's
--   priced-outside, priced-full        == what costs nothing, and what is inside in all cells, costs the same by pinwheels
--   priced-cut                         == else the least of its pinwheels, its vertical and its horizontal cuts is its cost
use Prim.Native.Nat.{ℕ, ◌+◌, ◌*◌, ◌≤◌, ◌<◌, min}
use mathlib.Core.Path.{◌≡◌, refl, ap, ap₂, sym, ◌∙◌, subst}
use mathlib.Core.Bool.{Bool, true, false}
use mathlib.Core.Logic.{◌⊎◌, inl, inr}
use mathlib.Core.List.{List}
use native.Mathlib.Omega.{arith}
use lib.ListN.{length, get_or, set, length-set}
use lib.Seq.{get_or-set_same, get_or-set_other}
use Rattle.sum.specs.Sum.{sum_of, only}
use Rattle.recurrence.specs.Scheme.{Kind, outside, full, mixed}
use Rattle.outline.specs.Grid.{Grid}
use Rattle.rule.specs.declared.Rule.{Rule}
use Rattle.piece.specs.declared.Mode.{Mode}
use Rattle.piece.specs.declared.Mode.TheVariants.{Straight, Pinwheel}
use Rattle.piece.specs.declared.Piece as stored
use Rattle.piece.specs.Piece.{Piece, box, kind, most_cost, left_part, right_part, lower_part, upper_part}
use Rattle.piece.specs.Meant.{meant}
use Rattle.piece.specs.Cuts.{Cut, vertical, horizontal, wheel, parts, CutOf, cost}
use Rattle.piece.proofs.Cells as cell
use Rattle.piece.proofs.Kind.{kind-all, full-cell}
use Rattle.piece.proofs.Cuts.{cuts-all, cuts-at, cost-zero, cost-outside, cost-full, cost-cuts, cost-settled, across_vertical, across_horizontal}
use Rattle.piece.proofs.Bound.{cost-most}
use Rattle.table.specs.Entry.{entry_of, Valid}
use Rattle.table.specs.Run.{Lowest}
use Rattle.table.proofs.Entry.{entry-below, count_most}
use Rattle.table.proofs.Run.{lowest-more}
use Rattle.verdict.specs.declared.Plan.{Plan}
use Rattle.verdict.specs.Memory.{Known}
use Rattle.verdict.specs.Search.{Within, AllInside, cuts-x, cuts-y, across, Weighable}
use Rattle.verdict.proofs.Judged.{part-x, part-y}
use Rattle.demands.proofs.Few.{Few, few-cost}
use Rattle.lowering.specs.Lowering.{Between, Begun, Raised, LeastTurn, Priced}

pub lowest-next : (f : ℕ → ℕ) (a j m best v x : ℕ) → a < j → v ≡ f j → x ≡ min best v → Lowest f a j m best → Lowest f a (j + 1) m x
lowest-next f a j m best v x h e z l = subst (Lowest f a (j + 1) m) (sym z) (lowest-more f a j m best v h e l)

pub lowest-end : (f : ℕ → ℕ) (a j c m best : ℕ) → j ≤ c → c ≤ j → Lowest f a j m best → Lowest f a c m best
lowest-end f a j c m best p q l = subst (λ n. Lowest f a n m best) (omega arith) l

module _ (g : Grid) (r : Rule) (t cells : List ℕ) (plan : Plan) (s : Between g r t cells plan) where
  pub entry_in : (q : Piece) → Valid plan.columns plan.rows q → (i : ℕ) → i ≡ entry_of plan.columns plan.rows q → i < length t
  entry_in q v i e = omega (arith, e, entry-below _ _ q v, s.entries)

  piece_most : (mode : Mode) (q : Piece) → Valid plan.columns plan.rows q → cost mode g r q ≤ most_cost
  piece_most mode q v =
      cost-most mode g r s.sound q (omega (arith, v)) (omega (arith, v, s.columns)) (omega (arith, v)) (omega (arith, v, s.rows)) s.weight

  pub entry-most : (q : Piece) → Valid plan.columns plan.rows q → get_or t (entry_of plan.columns plan.rows q) 0 ≤ most_cost
  entry-most q v = elim (s.either q v) [
    | inl e ↦ omega (arith, e, piece_most Straight q v)
    | inr e ↦ omega (arith, e, piece_most Pinwheel q v)
  ]

  pub few-lowered : (q : Piece) → Valid plan.columns plan.rows q → Few q → get_or t (entry_of plan.columns plan.rows q) 0 ≡ cost Pinwheel g r q
  few-lowered q v h = elim (s.either q v) [
    | inl e ↦ e ∙ sym (few-cost g r q h)
    | inr e ↦ e
  ]

  pub plan-small : (plan.columns ≤ 15) × (plan.rows ≤ 15)
  plan-small = let k = s.sound in (omega (arith, s.columns, k.columns-most), omega (arith, s.rows, k.rows-most))

  -- the piece at hand
  module _ (p : stored.Piece) (n : ℕ) (z : Known plan (record { piece = p; entry = n })) where
    w : Valid plan.columns plan.rows (meant p)
    w = z.valid

    pub here-within : n < length t
    here-within = entry_in (meant p) w n z.entry

    here : (mode : Mode) → get_or t (entry_of plan.columns plan.rows (meant p)) 0 ≡ cost mode g r (meant p) → get_or t n 0 ≡ cost mode g r (meant p)
    here mode e = ap (λ i. get_or t i 0) z.entry ∙ e

    -- the two parts of a cut
    left-valid : (j : ℕ) → p.a.0 < j → j < p.c.0
        → Valid plan.columns plan.rows (left_part (meant p) j) × Valid plan.columns plan.rows (right_part (meant p) j)
    left-valid j h k = (
      record { ac = h; cx = omega (arith, w.cx); bd = w.bd; dy = w.dy },
      record { ac = k; cx = w.cx; bd = w.bd; dy = w.dy },
    )

    lower-valid : (j : ℕ) → p.b.0 < j → j < p.d.0
        → Valid plan.columns plan.rows (lower_part (meant p) j) × Valid plan.columns plan.rows (upper_part (meant p) j)
    lower-valid j h k = (
      record { ac = w.ac; cx = w.cx; bd = h; dy = omega (arith, w.dy) },
      record { ac = w.ac; cx = w.cx; bd = k; dy = w.dy },
    )

    -- what the table has for them
    across-x : (j : ℕ)
        → across t (cuts-x plan p n) j
        ≡ get_or t (entry_of plan.columns plan.rows (left_part (meant p) j)) 0 + get_or t (entry_of plan.columns plan.rows (right_part (meant p) j)) 0
    unfolding across
    across-x j =
        ap₂ (λ a b. get_or t a 0 + get_or t b 0) (part-x plan p n z.entry s.pairs p.a.0 j) (part-x plan p n z.entry s.pairs j p.c.0)

    across-y : (j : ℕ)
        → across t (cuts-y plan p n) j
        ≡ get_or t (entry_of plan.columns plan.rows (lower_part (meant p) j)) 0 + get_or t (entry_of plan.columns plan.rows (upper_part (meant p) j)) 0
    unfolding across
    across-y j =
        ap₂ (λ a b. get_or t a 0 + get_or t b 0) (part-y plan p n z.entry s.pairs p.b.0 j) (part-y plan p n z.entry s.pairs j p.d.0)

    pub weighable_x : Weighable t (cuts-x plan p n)
    weighable_x = record {
      ordered = w.ac;
      some = w.cx;
      few = plan-small.0;
      short = omega (arith, s.pairs, count_most plan.rows plan-small.1);
      here = z.entry ∙ sym (part-x plan p n z.entry s.pairs p.a.0 p.c.0);
      within = λ a c h k.
          entry_in (box a c p.b.0 p.d.0) (record { ac = h; cx = k; bd = w.bd; dy = w.dy }) _ (part-x plan p n z.entry s.pairs a c);
      small = λ j h k.
          let v = left-valid j h k in
          omega (arith, across-x j, entry-most (left_part (meant p) j) v.0, entry-most (right_part (meant p) j) v.1);
    }

    pub weighable_y : Weighable t (cuts-y plan p n)
    weighable_y = record {
      ordered = w.bd;
      some = w.dy;
      few = plan-small.1;
      short = omega arith;
      here = z.entry ∙ sym (part-y plan p n z.entry s.pairs p.b.0 p.d.0);
      within = λ b d h k.
          entry_in (box p.a.0 p.c.0 b d) (record { ac = w.ac; cx = w.cx; bd = h; dy = k }) _ (part-y plan p n z.entry s.pairs b d);
      small = λ j h k.
          let v = lower-valid j h k in
          omega (arith, across-y j, entry-most (lower_part (meant p) j) v.0, entry-most (upper_part (meant p) j) v.1);
    }

    -- a piece whose entry has its cost by pinwheels already
    kept : get_or t n 0 ≡ cost Pinwheel g r (meant p) → Priced g r (record { piece = p; entry = n }) t t
    kept e = record { long = refl; made = e; kept = λ k h. refl }

    pub priced-outside : get_or t n 0 ≡ 0 → Priced g r (record { piece = p; entry = n }) t t
    priced-outside e = kept (e ∙ sym (cost-outside Pinwheel g r (meant p) empty))
      where
        empty : kind g (meant p) ≡ outside
        empty = elim (s.either (meant p) w) [
          | inl q ↦ cost-zero Straight g r (meant p) (sym (here Straight q) ∙ e)
          | inr q ↦ cost-zero Pinwheel g r (meant p) (sym (here Pinwheel q) ∙ e)
        ]

    -- the cells, as memory has them
    seen : (i j : ℕ) → Within p i j → (get_or cells (16 * i + j) 0 ≡ only (g.inside i j) 1) × cell.Within (meant p) i j
    seen i j h = (
      s.cell-at i j (omega (arith, h, w, plan-small)) (omega (arith, h, w, plan-small)),
      record { a = h.a; c = h.c; b = h.b; d = h.d },
    )

    in_cell : (i j : ℕ) → Within p i j → get_or cells (16 * i + j) 0 ≡ 1 → g.inside i j ≡ true
    in_cell i j h e = go (g.inside i j) (sym (seen i j h).0 ∙ e)
      where
        go : (b : Bool) → only b 1 ≡ 1 → b ≡ true
        go true q = refl
        go false q = absurd (omega arith)

    pub priced-full : AllInside cells p true → Priced g r (record { piece = p; entry = n }) t t
    priced-full h = kept (elim (s.either (meant p) w) [
      | inl q ↦ here Straight q ∙ cost-full Straight g r (meant p) all ∙ sym (cost-full Pinwheel g r (meant p) all)
      | inr q ↦ here Pinwheel q
    ])
      where
        all : kind g (meant p) ≡ full
        all =
            kind-all g (meant p) w.ac w.bd
            (λ i j q. let z : Within p i j = record { a = q.a; c = q.c; b = q.b; d = q.d } in in_cell i j z (h i j z))

    is-mixed : (get_or t n 0 ≡ 0 → ⊥) → AllInside cells p false → kind g (meant p) ≡ mixed
    is-mixed e h = go (kind g (meant p)) refl
      where
        none : kind g (meant p) ≡ outside → get_or t n 0 ≡ 0
        none q = elim (s.either (meant p) w) [
          | inl y ↦ here Straight y ∙ cost-outside Straight g r (meant p) q
          | inr y ↦ here Pinwheel y ∙ cost-outside Pinwheel g r (meant p) q
        ]

        go : (k : Kind) → kind g (meant p) ≡ k → kind g (meant p) ≡ mixed
        go outside q = absurd (e (none q))
        go full q =
            let y = seen h.0 h.1 h.2 in
            absurd (h.3 (y.0 ∙ ap (λ b. only b 1) (full-cell g (meant p) q h.0 h.1 y.1)))
        go mixed q = q

    -- its parts are lowered, and its least pinwheel is known
    module _ (begun : Begun g r t plan p.a.0 p.c.0) (raised : Raised g r t plan p.a.0 p.c.0 p.b.0 p.d.0)
        (v : ℕ) (least : LeastTurn g r (meant p) v) where
      cost-x : (j : ℕ) → p.a.0 < j → j < p.c.0
          → across t (cuts-x plan p n) j ≡ sum_of (cost Pinwheel g r) (parts (meant p) (vertical j))
      cost-x j h k =
          let y = left-valid j h k in
          across-x j
          ∙ ap₂ ◌+◌ (begun.done (left_part (meant p) j) y.0 (inr (refl, k))) (begun.done (right_part (meant p) j) y.1 (inl h))
          ∙ sym (across_vertical Pinwheel g r (meant p) j)

      cost-y : (j : ℕ) → p.b.0 < j → j < p.d.0
          → across t (cuts-y plan p n) j ≡ sum_of (cost Pinwheel g r) (parts (meant p) (horizontal j))
      cost-y j h k =
          let y = lower-valid j h k in
          across-y j
          ∙ ap₂ ◌+◌ (raised.done (lower_part (meant p) j) y.0 refl refl (inr (refl, k)))
          (raised.done (upper_part (meant p) j) y.1 refl refl (inl h))
          ∙ sym (across_horizontal Pinwheel g r (meant p) j)

      settled : kind g (meant p) ≡ mixed → (u best : ℕ)
          → Lowest (across t (cuts-x plan p n)) p.a.0 p.c.0 v u
          → Lowest (across t (cuts-y plan p n)) p.b.0 p.d.0 u best
          → best ≡ cost Pinwheel g r (meant p)
      settled e u best x y = cost-settled Pinwheel g r (meant p) e best (floor y.one) (cuts-all Pinwheel _ (meant p) each)
        where
          each : (k : Cut) → CutOf Pinwheel (meant p) k → best ≤ sum_of (cost Pinwheel g r) (parts (meant p) k)
          each (vertical j) h = omega (arith, y.first, x.each j h.0 h.1, cost-x j h.0 h.1)
          each (horizontal j) h = omega (arith, y.each j h.0 h.1, cost-y j h.0 h.1)
          each (wheel i j l k m) h = omega (arith, y.first, x.first, least.under i j l k m h.1)

          at_most : (k : Cut) → CutOf Pinwheel (meant p) k → cost Pinwheel g r (meant p) ≤ sum_of (cost Pinwheel g r) (parts (meant p) k)
          at_most = cuts-at Pinwheel (λ k. cost Pinwheel g r (meant p) ≤ sum_of (cost Pinwheel g r) (parts (meant p) k)) (meant p) (cost-cuts Pinwheel g r (meant p) e)

          first_floor : (u ≡ v) ⊎ ((j : ℕ) × (p.a.0 < j) × (j < p.c.0) × (u ≡ across t (cuts-x plan p n) j)) → cost Pinwheel g r (meant p) ≤ u
          first_floor (inl i) =
              omega (
                arith,
                least.above (cost Pinwheel g r (meant p)) (omega (arith, piece_most Pinwheel (meant p) w)) (λ i j l k m h. at_most (wheel i j l k m) (refl, h)),
              )
          first_floor (inr i) = omega (arith, i.3, cost-x i.0 i.1 i.2, at_most (vertical i.0) (i.1, i.2))

          floor : (best ≡ u) ⊎ ((j : ℕ) × (p.b.0 < j) × (j < p.d.0) × (best ≡ across t (cuts-y plan p n) j)) → cost Pinwheel g r (meant p) ≤ best
          floor (inl i) = omega (arith, first_floor x.one)
          floor (inr i) = omega (arith, i.3, cost-y i.0 i.1 i.2, at_most (horizontal i.0) (i.1, i.2))

      pub priced-cut : (get_or t n 0 ≡ 0 → ⊥) → AllInside cells p false → (u best : ℕ)
          → Lowest (across t (cuts-x plan p n)) p.a.0 p.c.0 v u
          → Lowest (across t (cuts-y plan p n)) p.b.0 p.d.0 u best
          → Priced g r (record { piece = p; entry = n }) t (set t n best)
      priced-cut e h u best x y =
          record {
            long = length-set t n best;
            made = get_or-set_same t n best 0 here-within ∙ settled (is-mixed e h) u best x y;
            kept = λ k q. get_or-set_other t n k best 0 q;
          }
