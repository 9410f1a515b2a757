-- `shallow::rows::two_rows` meets its contract: the two rows first, then both together. Assumes nothing.
use Prim.Native.Nat.{ℕ, suc}
use mathlib.Core.Path.{◌≡◌, sym, subst}
use native.Mathlib.Omega.{arith}
use Rattle.outline.specs.Grid.{Grid}
use Rattle.piece.specs.declared.Mode.TheVariants.{Straight}
use Rattle.piece.specs.Piece.{box}
use Rattle.piece.specs.Cuts.{cost}
use Rattle.shallow.specs.Sums.{Whole}
use Rattle.shallow.specs.Rows.{TwoRows, up2}
use Rattle.shallow.proofs.Summing.{whole-stacked}
use Rattle.shallow.proofs.Settling.{placed_cuttable, whole_ready, cost-fits, across-none, across-more, piece_cost, row-cost, top-pairs}
use Rattle.shallow.proofs.rows.two_rows.Goals as goal

pub overflow_sub-strip : goal.overflow_sub-strip
overflow_sub-strip c = omega (arith, c.requires.2.placed.pairs_are, (top-pairs _ _ c.requires.2.rows_are).0)

pub least_cuts-least-requires : goal.least_cuts-least-requires
least_cuts-least-requires c = (placed_cuttable _ _ _ _ c.requires.2.placed, omega (arith, c.requires.2.placed.pairs_are, (top-pairs _ _ c.requires.2.rows_are).0))

pub settled-first-requires : goal.settled-first-requires
settled-first-requires c = (whole_ready _ _ _ _ c.requires.2.placed _ _ _ (omega arith) (omega (arith, c.requires.2.rows_are)) c.requires.2.low_sums, c.requires.2.placed.weight-most)

pub settled-third-requires : goal.settled-third-requires
settled-third-requires c = (whole_ready _ _ _ _ c.requires.2.placed _ _ _ (omega arith) (omega (arith, c.requires.2.rows_are)) c.requires.2.high_sums, c.requires.2.placed.weight-most)

pub stacked-both-requires : goal.stacked-both-requires
stacked-both-requires c = (
  whole_ready _ _ _ _ c.requires.2.placed _ _ _ (omega arith) (omega (arith, c.requires.2.rows_are)) c.requires.2.low_sums,
  whole_ready _ _ _ _ c.requires.2.placed _ _ _ (omega arith) (omega (arith, c.requires.2.rows_are)) c.requires.2.high_sums,
)

pub overflow_add-first : goal.overflow_add-first
overflow_add-first c =
    let Of : Grid → ℕ → Type 0 = λ g b. (TwoRows g c.args.rule c.args.strip b c.args.low c.args.high c.args.table.now) in
    let first-is : (g : Grid) → (b : ℕ) → Of g b → c.settled-first.result ≡ cost Straight g c.args.rule (box c.args.strip.a.0 c.args.strip.c.0 b (suc b)) = λ g b w. (row-cost g _ _ _ w.placed b _ _ _ _ (omega (arith, w.rows_are)) w.low_sums
    (omega (arith, w.placed.pairs_are, (top-pairs g.rows b w.rows_are).0))
    c.least_cuts-least.ensures.first
    c.settled-first.ensures) in
    let third-is : (g : Grid) → (b : ℕ) → Of g b → c.settled-third.result
    ≡ cost Straight g c.args.rule (box c.args.strip.a.0 c.args.strip.c.0 (suc b) (up2 b)) = λ g b w. (row-cost g _ _ _ w.placed (suc b) _ _ _ _ (omega (arith, w.rows_are)) w.high_sums
    (omega (arith, w.placed.pairs_are, top-pairs g.rows b w.rows_are))
    c.least_cuts-least.ensures.third
    c.settled-third.ensures) in
    record {
      fits =
          cost-fits _ _ _ _ c.requires.2.placed c.requires.1 (suc c.requires.1) (suc c.requires.1) (up2 c.requires.1) _ _ (omega arith) (omega (arith, c.requires.2.rows_are)) (omega arith) (omega (arith, c.requires.2.rows_are))
          (first-is c.requires.0 c.requires.1 c.requires.2)
          (third-is c.requires.0 c.requires.1 c.requires.2);
    }

pub settled-second-requires : goal.settled-second-requires
settled-second-requires c =
    let Of : Grid → ℕ → Type 0 = λ g b. (TwoRows g c.args.rule c.args.strip b c.args.low c.args.high c.args.table.now) in
    let both-are : (g : Grid) → (b : ℕ) → Of g b → Whole g c.args.rule c.args.strip.a.0 c.args.strip.c.0 b (up2 b) c.stacked-both.result = λ g b w. (subst (Whole g _ _ _ b (up2 b)) (sym c.stacked-both.ensures)
    (whole-stacked g w.placed.sound _ _ _ b (suc b) (up2 b) _ _ (omega arith) (omega arith) w.low_sums w.high_sums)) in (
      whole_ready _ _ _ _ c.requires.2.placed _ _ _ (omega arith) (omega (arith, c.requires.2.rows_are)) (both-are c.requires.0 c.requires.1 c.requires.2),
      c.requires.2.placed.weight-most,
    )

pub returns : goal.returns
returns c g b w =
    let Of : Grid → ℕ → Type 0 = λ g b. (TwoRows g c.args.rule c.args.strip b c.args.low c.args.high c.args.table.now) in
    let first-is : (g : Grid) → (b : ℕ) → Of g b → c.settled-first.result ≡ cost Straight g c.args.rule (box c.args.strip.a.0 c.args.strip.c.0 b (suc b)) = λ g b w. (row-cost g _ _ _ w.placed b _ _ _ _ (omega (arith, w.rows_are)) w.low_sums
    (omega (arith, w.placed.pairs_are, (top-pairs g.rows b w.rows_are).0))
    c.least_cuts-least.ensures.first
    c.settled-first.ensures) in
    let third-is : (g : Grid) → (b : ℕ) → Of g b → c.settled-third.result
    ≡ cost Straight g c.args.rule (box c.args.strip.a.0 c.args.strip.c.0 (suc b) (up2 b)) = λ g b w. (row-cost g _ _ _ w.placed (suc b) _ _ _ _ (omega (arith, w.rows_are)) w.high_sums
    (omega (arith, w.placed.pairs_are, top-pairs g.rows b w.rows_are))
    c.least_cuts-least.ensures.third
    c.settled-third.ensures) in
    let both-are : (g : Grid) → (b : ℕ) → Of g b → Whole g c.args.rule c.args.strip.a.0 c.args.strip.c.0 b (up2 b) c.stacked-both.result = λ g b w. (subst (Whole g _ _ _ b (up2 b)) (sym c.stacked-both.ensures)
    (whole-stacked g w.placed.sound _ _ _ b (suc b) (up2 b) _ _ (omega arith) (omega arith) w.low_sums w.high_sums)) in
    let y = first-is g b w in
    let z = third-is g b w in
    record {
      first-is = y;
      second_is =
          piece_cost g _ _ _ w.placed b (up2 b) _ _ _ _ _ (omega arith) (omega (arith, w.rows_are)) (both-are g b w)
          (omega (arith, w.placed.pairs_are, top-pairs g.rows b w.rows_are))
          c.least_cuts-least.ensures.second
          (across-more _ _ _ _ b _ _ _ _ _ _ _ (omega arith) y z c.min-cut.ensures (across-none _ _ _ _ _ _ _))
          c.settled-second.ensures;
      third-is = z;
    }
