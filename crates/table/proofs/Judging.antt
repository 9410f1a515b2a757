-- The cost of one piece, from what a fill knows of it. Assumes nothing.
--
--   judged-cost  == in either mode: a piece that is judged by its count of inside cells, its charge and a number that is no less than its cost
--                   and no more than what the parts of any of its cuts cost has its cost
--   judged_piece == in the straight-cut mode that number is the least of its cuts
use Prim.Native.Nat.{ℕ, ◌+◌, ◌≤◌, ◌<◌}
use mathlib.Core.Path.{◌≡◌, sym, ◌∙◌}
use mathlib.Core.Logic.{◌⊎◌, inl, inr}
use native.Mathlib.Omega.{arith}
use Rattle.sum.specs.Sum.{sum_of, All}
use Rattle.sum.proofs.Sum.{le-or}
use Rattle.recurrence.specs.Scheme.{mixed}
use Rattle.outline.specs.Grid.{Grid, Sound}
use Rattle.rule.specs.declared.Rule.{Rule}
use Rattle.rule.specs.Rules.{limit}
use Rattle.piece.specs.declared.Mode.{Mode}
use Rattle.piece.specs.declared.Mode.TheVariants.{Straight}
use Rattle.piece.specs.Piece.{Piece, box, most_cost, cells, kind, inside_cells, charge}
use Rattle.piece.specs.Cuts.{Cut, vertical, horizontal, wheel, cuts, parts, CutOf, cost}
use Rattle.piece.proofs.Kind.{kind-outside, kind-full, kind-mixed, inside-most}
use Rattle.piece.proofs.Cuts.{cuts-all, cuts-at, straight-only, cost-outside, cost-full, cost-cuts, cost-one, cost-settled, across_vertical, across_horizontal}
use Rattle.piece.proofs.Bound.{cost-most}
use Rattle.table.specs.Run.{Lowest}
use Rattle.table.specs.Cuts.{uncut, Judged}
use Rattle.table.proofs.Pairs.{Dec-eq}

less : (i j : ℕ) → i ≤ j → (i ≡ j → ⊥) → i < j
less i j p z = elim (le-or j i) [
  | inl t ↦ absurd (z (omega arith))
  | inr t ↦ t
]

module _ (mode : Mode) (g : Grid) (r : Rule) (p : Piece) where
  pub judged-cost : (n m shot best x : ℕ) → n ≡ inside_cells g p → m ≡ cells p → shot ≡ charge g r p
      → (kind g p ≡ mixed → (cost mode g r p ≤ best) × All (λ k. best ≤ sum_of (cost mode g r) (parts p k)) (cuts mode p))
      → Judged n m shot best x
      → x ≡ cost mode g r p
  judged-cost n m shot best x en em es least j = go (le-or n 0) (Dec-eq n m)
    where
      go : (n ≤ 0) ⊎ (0 < n) → (n ≡ m) ⊎ (n ≡ m → ⊥) → x ≡ cost mode g r p
      go (inl z) q =
          let e : n ≡ 0 = omega arith in
          j.none e ∙ sym (cost-outside mode g r p (kind-outside g p (sym en ∙ e)))
      go (inr z) (inl q) =
          j.full z q ∙ es ∙ sym (cost-full mode g r p (kind-full g p (sym en ∙ q ∙ em) (omega (arith, em, q))))
      go (inr z) (inr q) =
          let e = kind-mixed g p (omega (arith, en)) (less (inside_cells g p) (cells p) (inside-most g p) (λ e. q (en ∙ e ∙ sym em))) in
          let l = least e in
          j.cut z q ∙ cost-settled mode g r p e best l.0 l.1

module _ (g : Grid) (r : Rule) (sound : Sound g) (hw : r.weight ≤ limit) (a c b d : ℕ) (ac : a < c) (cx : c ≤ g.columns) (bd : b < d) (dy : d ≤ g.rows)
  where
    -- a mixed piece: the least of its vertical cuts, then of its horizontal ones, is at most what any cut's parts cost, and is one's
    cut-cost : kind g (box a c b d) ≡ mixed → (m v : ℕ)
        → Lowest (λ j. cost Straight g r (box a j b d) + cost Straight g r (box j c b d)) a c uncut m
        → Lowest (λ j. cost Straight g r (box a c b j) + cost Straight g r (box a c j d)) b d m v
        → (cost Straight g r (box a c b d) ≤ v) × All (λ k. v ≤ sum_of (cost Straight g r) (parts (box a c b d) k)) (cuts Straight (box a c b d))
    cut-cost e m v x y = (one y.one x.one, low)
      where
        each : (k : Cut) → CutOf Straight (box a c b d) k → v ≤ sum_of (cost Straight g r) (parts (box a c b d) k)
        each (vertical j) h = omega (arith, y.first, x.each j h.0 h.1, across_vertical Straight g r (box a c b d) j)
        each (horizontal j) h = omega (arith, y.each j h.0 h.1, across_horizontal Straight g r (box a c b d) j)
        each (wheel t i j k l) h = absurd (straight-only h.0)

        low : All (λ k. v ≤ sum_of (cost Straight g r) (parts (box a c b d) k)) (cuts Straight (box a c b d))
        low = cuts-all Straight _ (box a c b d) each

        up : v ≤ most_cost
        up =
            omega (
              arith,
              cost-one Straight g r (λ i. v ≤ i) (box a c b d) e low,
              cost-most Straight g r sound (box a c b d) (omega arith) cx (omega arith) dy hw,
            )

        at_most : (k : Cut) → CutOf Straight (box a c b d) k → cost Straight g r (box a c b d) ≤ sum_of (cost Straight g r) (parts (box a c b d) k)
        at_most = cuts-at Straight _ (box a c b d) (cost-cuts Straight g r (box a c b d) e)

        one : (v ≡ m) ⊎ ((j : ℕ) × (b < j) × (j < d) × (v ≡ cost Straight g r (box a c b j) + cost Straight g r (box a c j d)))
            → (m ≡ uncut) ⊎ ((j : ℕ) × (a < j) × (j < c) × (m ≡ cost Straight g r (box a j b d) + cost Straight g r (box j c b d)))
            → cost Straight g r (box a c b d) ≤ v
        one (inr z) _ = omega (arith, z.3, at_most (horizontal z.0) (z.1, z.2), across_horizontal Straight g r (box a c b d) z.0)
        one (inl z) (inl i) = absurd (omega (arith, up))
        one (inl z) (inr i) = omega (arith, i.3, at_most (vertical i.0) (i.1, i.2), across_vertical Straight g r (box a c b d) i.0)

    pub judged_piece : (n m shot v best x : ℕ) → n ≡ inside_cells g (box a c b d) → m ≡ cells (box a c b d) → shot ≡ charge g r (box a c b d)
        → Lowest (λ j. cost Straight g r (box a j b d) + cost Straight g r (box j c b d)) a c uncut v
        → Lowest (λ j. cost Straight g r (box a c b j) + cost Straight g r (box a c j d)) b d v best
        → Judged n m shot best x
        → x ≡ cost Straight g r (box a c b d)
    judged_piece n m shot v best x en em es lv lh j =
        judged-cost Straight g r (box a c b d) n m shot best x en em es (λ e. cut-cost e v best lv lh) j
