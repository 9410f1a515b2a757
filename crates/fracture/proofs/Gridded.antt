-- The fracture of a grid, from where it lies in memory to its outcome. Assumes nothing.
--
--   laid-few, laid-ready   : the grid is small, and the fill may have it
--   laid_filled            : what the fill leaves in the table
--   laid-walk              : then the pieces may be walked
--   laid-lowered           : what is left in it once it is lowered to the costs in another mode
--   gridded-table          : the outcome with too few entries
--   gridded-delivered      : and with enough of them
use Rattle.std.specs.Prelude.{Result}
use Prim.Native.Nat.{ℕ, ◌≤◌, ◌<◌}
use mathlib.Core.Path.{◌≡◌, refl, ap, ap₂, sym, ◌∙◌, subst}
use mathlib.Core.Bool.{cond}
use mathlib.Core.List.{List, ◌++◌}
use native.Mathlib.Omega.{arith}
use lib.ListN.{length, get_or, drop}
use borrow.Author.Tests.{lt-ltb, le-ltb}
use Rattle.refusal.specs.declared.Refusal.TheVariants as because
use Rattle.outline.specs.Grid.{Grid, Memory, stored}
use Rattle.rule.specs.declared.Rule.{Rule}
use Rattle.rule.specs.Rules.{limit}
use Rattle.piece.specs.declared.Mode.{Mode}
use Rattle.piece.specs.Piece.{Piece}
use Rattle.piece.specs.Cuts.{cost}
use Rattle.table.specs.Entry.{Valid, pair_count, entry_count, entry_of, costs}
use Rattle.table.specs.Fill.{Ready, Beyond}
use Rattle.table.proofs.Entry.{costs-length, costs-at, costs-whole, entry-below}
use Rattle.verdict.specs.declared.Plan.{Plan}
use Rattle.verdict.specs.Memory.{Costed}
use Rattle.emission.specs.Emission.{Walk}
use Rattle.demands.specs.Promise.{written, refused, delivered, gridded}
use Rattle.demands.proofs.Outcome.{written-past, written-length, written_at}
use Rattle.fracture.specs.declared.Fractured.{Fractured}
use Rattle.fracture.specs.declared.Denial.{Denial}
use Rattle.fracture.specs.Delivery.{Laid}
use Rattle.fracture.specs.Told.{denied, told}

module _ (g : Grid) (m : Memory) (w : Laid g m) where
  pub laid-few : (m.columns ≤ 15) × (m.rows ≤ 15)
  laid-few =
      let s = w.sound in
      (omega (arith, w.columns, s.columns-most), omega (arith, w.rows, s.rows-most))

  counted : entry_count m.columns m.rows ≡ entry_count g.columns g.rows
  counted = ap₂ entry_count w.columns w.rows

  pub laid-ready : (r : Rule) (t : List ℕ) → r.weight ≤ limit → entry_count m.columns m.rows ≤ length t
      → Ready (stored m.columns m.rows m.xs m.ys m.cells) r m.xs m.ys m.cells t
  laid-ready r t h k =
      subst (λ s. Ready s r m.xs m.ys m.cells t) (sym w.back)
      (record { sound = w.sound; drawn = w.drawn; weight-most = h; room = omega (arith, counted) })

module _ (mode : Mode) (g : Grid) (m : Memory) (w : Laid g m) where
  module _ (r : Rule) (t : List ℕ) where
    pub laid_filled : {u : List ℕ} (s : Grid) → s ≡ g → u ≡ costs mode s r ++ drop (length (costs mode s r)) t → u ≡ written (costs mode g r) t
    unfolding written
    laid_filled s b e = e ∙ ap (λ x. costs mode x r ++ drop (length (costs mode x r)) t) b

    module _ {u : List ℕ} (e : u ≡ written (costs mode g r) t) (k : entry_count m.columns m.rows ≤ length t) where
      -- what the table has for a piece
      cost-at : (p : Piece) → Valid m.columns m.rows p → get_or u (entry_of m.columns m.rows p) 0 ≡ cost mode g r p
      cost-at p v =
          let v' : Valid g.columns g.rows p =
          record { ac = v.ac; cx = omega (arith, v.cx, w.columns); bd = v.bd; dy = omega (arith, v.dy, w.rows) } in
          ap₂ (λ (l : List ℕ) (i : ℕ). get_or l i 0) e (ap₂ (λ x y. entry_of x y p) w.columns w.rows)
          ∙ written_at (costs mode g r) t (entry_of g.columns g.rows p)
          (omega (arith, entry-below g.columns g.rows p v', costs-length mode g r))
          ∙ costs-at mode g r p v'

      pub laid-walk : (n : ℕ) → n ≡ pair_count m.rows → r.weight ≤ limit
          → Walk mode g r u m.cells m.xs m.ys (record { columns = m.columns; rows = m.rows; pairs = n; rule = r })
      laid-walk n p h =
          let d = w.drawn in
          record {
            costed =
                record {
                  sound = w.sound;
                  weight = h;
                  columns = w.columns;
                  rows = w.rows;
                  pairs = p;
                  cells-length = d.cells-length;
                  cell-at = d.cell-at;
                  entries = omega (arith, ap length e, written-length (costs mode g r) t (omega (arith, counted g m w, costs-length mode g r)));
                  cost-at = cost-at;
                };
            drawn = d;
            rule = refl;
          }

      pub laid-lowered : (to : Mode) {v : List ℕ} (plan : Plan)
          → Costed to g r v m.cells plan → Beyond (entry_count m.columns m.rows) u v
          → v ≡ written (costs to g r) t
      unfolding written
      laid-lowered to {v} plan c b =
          costs-whole to g r t v (omega (arith, long, counted g m w)) long
          (λ p z.
          ap (λ i. get_or v i 0) (ap₂ (λ i j. entry_of i j p) (sym c.columns) (sym c.rows))
          ∙ c.cost-at p (record { ac = z.ac; cx = omega (arith, z.cx, c.columns); bd = z.bd; dy = omega (arith, z.dy, c.rows) }))
          (λ i h.
          b.kept i (omega (arith, counted g m w))
          ∙ ap (λ (l : List ℕ). get_or l i 0) e
          ∙ written-past (costs mode g r) t i (omega (arith, costs-length mode g r)))
        where
          long : length v ≡ length t
          long = b.long ∙ ap length e ∙ written-length (costs mode g r) t (omega (arith, counted g m w, costs-length mode g r))

      pub gridded-delivered : (a : Result Fractured Denial) (l l' : List ℕ) → told a u l' ≡ delivered mode g r u l → told a u l' ≡ gridded mode g r t l
      unfolding gridded refused
      gridded-delivered a l l' h =
          h
          ∙ ap (λ (x : List ℕ). delivered mode g r x l) e
          ∙ sym
          (ap
          (λ b.
          cond b (refused 6 t l)
          (delivered mode g r (written (costs mode g r) t) l))
          (le-ltb (length t) (entry_count g.columns g.rows) (omega (arith, counted g m w))))

    pub gridded-table : (l : List ℕ) → length t < entry_count m.columns m.rows
        → told (denied because.Table 0) t l ≡ gridded mode g r t l
    unfolding gridded refused told
    gridded-table l h =
        sym
        (ap
        (λ b.
        cond b (refused 6 t l)
        (delivered mode g r (written (costs mode g r) t) l))
        (lt-ltb (length t) (entry_count g.columns g.rows) (omega (arith, counted g m w))))
