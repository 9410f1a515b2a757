-- Laws of the fill. Assumes nothing.
--
--   beyond-none, beyond_trans    == nothing is touched beyond the entries, step by step
--   ready_later                  == what a fill asks for still holds after a step
--   reached-none, reached-back, reached-at, reached-all
--                                == how far the table is filled, from the last x line down; all of it is `costs`
--   fill_none, fill_limits, fill_back, fill_all
--                                == the same of the grid that lies in memory
use Prim.Native.Nat.{ℕ, ◌+◌, ◌-◌, ◌≤◌, ◌<◌}
use mathlib.Core.Path.{◌≡◌, refl, ◌∙◌, subst}
use mathlib.Core.Logic.{◌⊎◌, inl, inr}
use mathlib.Core.List.{List, ◌++◌}
use native.Mathlib.Omega.{arith}
use lib.ListN.{length, drop}
use Rattle.sum.proofs.Sum.{le-or}
use Rattle.outline.specs.Grid.{Grid, stored}
use Rattle.rule.specs.declared.Rule.{Rule}
use Rattle.piece.specs.declared.Mode.{Mode}
use Rattle.piece.specs.Piece.{Piece}
use Rattle.table.specs.Entry.{entry_count, Valid, costs}
use Rattle.table.specs.Fill.{Ready, Reached, Beyond}
use Rattle.table.proofs.Entry

pub beyond-none : (n : ℕ) (t : List ℕ) → Beyond n t t
beyond-none n t = record { long = refl; kept = λ k h. refl }

pub beyond_trans : (n : ℕ) (t u v : List ℕ) → Beyond n t u → Beyond n u v → Beyond n t v
beyond_trans n t u v p q = record { long = q.long ∙ p.long; kept = λ k h. q.kept k h ∙ p.kept k h }

-- what was asked of a table is met by each later one
pub ready_later : (g : Grid) (r : Rule) (xs ys cs t u : List ℕ) (n : ℕ) → Beyond n t u → Ready g r xs ys cs t → Ready g r xs ys cs u
ready_later g r xs ys cs t u n p k =
    record { sound = k.sound; drawn = k.drawn; weight-most = k.weight-most; room = omega (arith, k.room, p.long) }

-- no strip yet
pub reached-none : (mode : Mode) (g : Grid) (r : Rule) (t : List ℕ) → Reached mode g r t g.columns (g.columns + 1)
reached-none mode g r t = record { right = λ p v o. absurd (go p v o) }
  where
    go : (p : Piece) → Valid g.columns g.rows p → (g.columns < p.a) ⊎ ((p.a ≡ g.columns) × (p.c < g.columns + 1)) → ⊥
    go p v (inl h) = omega (arith, v.ac, v.cx)
    go p v (inr h) = omega (arith, v.ac, v.cx, h.0)

-- all strips from a line on: those that begin above the line before it
pub reached-back : (mode : Mode) (g : Grid) (r : Rule) (t : List ℕ) (a : ℕ) → 0 < a → Reached mode g r t a (g.columns + 1) → Reached mode g r t (a - 1) (a - 1 + 1)
reached-back mode g r t a h f = record { right = λ p v o. f.right p v (go p v o) }
  where
    go : (p : Piece) → Valid g.columns g.rows p → (a - 1 < p.a) ⊎ ((p.a ≡ a - 1) × (p.c < a - 1 + 1)) → (a < p.a) ⊎ ((p.a ≡ a) × (p.c < g.columns + 1))
    go p v (inl q) = elim (le-or p.a a) [
      | inl z ↦ inr (omega arith, omega (arith, v.cx))
      | inr z ↦ inl z
    ]
    go p v (inr q) = absurd (omega (arith, q.0, q.1, v.ac))

pub reached-at : (mode : Mode) (g : Grid) (r : Rule) (t : List ℕ) (a c d : ℕ) → c ≡ d → Reached mode g r t a c → Reached mode g r t a d
reached-at mode g r t a c d e f = subst (Reached mode g r t a) e f

-- all strips
pub reached-all : (mode : Mode) (g : Grid) (r : Rule) (xs ys cs t u : List ℕ) (a : ℕ) → a ≤ 0 → Ready g r xs ys cs t → Beyond (entry_count g.columns g.rows) t u
    → Reached mode g r u a (g.columns + 1)
    → u ≡ costs mode g r ++ drop (length (costs mode g r)) t
reached-all mode g r xs ys cs t u a h k p f =
    Entry.costs-whole mode g r t u (omega (arith, k.room, p.long)) p.long (λ q v. f.right q v (go q v)) p.kept
  where
    go : (q : Piece) → Valid g.columns g.rows q → (a < q.a) ⊎ ((q.a ≡ a) × (q.c < g.columns + 1))
    go q v = elim (le-or q.a a) [
      | inl z ↦ inr (omega arith, omega (arith, v.cx))
      | inr z ↦ inl z
    ]

module _ (columns rows : ℕ) (xs ys cs : List ℕ) (r : Rule) (t : List ℕ) (ready : Ready (stored columns rows xs ys cs) r xs ys cs t) where
  -- the fill from the highest line down
  pub fill_none : {mode : Mode} → Reached mode (stored columns rows xs ys cs) r t columns (columns + 1)
  unfolding stored
  fill_none {mode = mode} = reached-none mode (stored columns rows xs ys cs) r t

  pub fill_limits : (1 ≤ columns) × ((columns ≤ 15) × ((1 ≤ rows) × (rows ≤ 15)))
  unfolding stored
  fill_limits = (ready.sound.columns-some, (ready.sound.columns-most, (ready.sound.rows-some, ready.sound.rows-most)))

  pub fill_back : {mode : Mode} (u : List ℕ) (a : ℕ) → 0 < a → Reached mode (stored columns rows xs ys cs) r u a (columns + 1) → Reached mode (stored columns rows xs ys cs) r u (a - 1) (a - 1 + 1)
  unfolding stored
  fill_back {mode = mode} u a h f = reached-back mode (stored columns rows xs ys cs) r u a h f

  pub fill_all : {mode : Mode} (u : List ℕ) (a : ℕ) → a ≤ 0 → Beyond (entry_count columns rows) t u → Reached mode (stored columns rows xs ys cs) r u a (columns + 1)
      → u ≡ costs mode (stored columns rows xs ys cs) r ++ drop (length (costs mode (stored columns rows xs ys cs) r)) t
  unfolding stored
  fill_all {mode = mode} u a h p f = reached-all mode (stored columns rows xs ys cs) r xs ys cs t u a h ready p f
