-- `shallow::rows::third_row` meets its contract: the low row first, then with the middle one, then all three. Assumes nothing.
use Prim.Native.Nat.{ℕ, suc}
use mathlib.Core.Path.{◌≡◌, sym, subst}
use native.Mathlib.Omega.{arith}
use Rattle.outline.specs.Grid.{Grid}
use Rattle.piece.specs.declared.Mode.TheVariants.{Straight}
use Rattle.piece.specs.Piece.{box}
use Rattle.piece.specs.Cuts.{cost}
use Rattle.shallow.specs.declared.sums.Sums.{Sums}
use Rattle.shallow.specs.Sums.{Whole}
use Rattle.shallow.specs.Rows.{ThreeRows, up2, up3}
use Rattle.shallow.proofs.Summing.{whole-stacked}
use Rattle.shallow.proofs.Settling.{placed_cuttable, whole_ready, cost-fits, across-none, across-more, piece_cost, row-cost, next-pairs, next-room}
use Rattle.shallow.proofs.rows.third_row.Goals as goal

pub least_cuts-least-requires : goal.least_cuts-least-requires
least_cuts-least-requires c = (placed_cuttable _ _ _ _ c.requires.2.placed, omega (arith, c.requires.2.placed.pairs_are, next-room _ _ _ c.requires.2.within c.requires.2.entry-is))

pub settled-first-requires : goal.settled-first-requires
settled-first-requires c = (whole_ready _ _ _ _ c.requires.2.placed _ _ _ (omega arith) (omega (arith, c.requires.2.within)) c.requires.2.low_sums, c.requires.2.placed.weight-most)

pub stacked-two-requires : goal.stacked-two-requires
stacked-two-requires c = (
  whole_ready _ _ _ _ c.requires.2.placed _ _ _ (omega arith) (omega (arith, c.requires.2.within)) c.requires.2.low_sums,
  whole_ready _ _ _ _ c.requires.2.placed _ _ _ (omega arith) (omega (arith, c.requires.2.within)) c.requires.2.middle-sums,
)

pub overflow_add-first : goal.overflow_add-first
overflow_add-first c =
    let Of : Grid → ℕ → Type 0 = λ g b. (ThreeRows g c.args.rule c.args.strip b c.args.i c.args.low c.args.middle c.args.high c.args.above c.args.table.now) in
    let Price : Grid → ℕ → ℕ → ℕ = λ g b d. (cost Straight g c.args.rule (box c.args.strip.a.0 c.args.strip.c.0 b d)) in
    let first-is : (g : Grid) → (b : ℕ) → Of g b → c.settled-first.result ≡ Price g b (suc b) = λ g b w. (row-cost g _ _ _ w.placed b _ _ _ _ (omega (arith, w.within)) w.low_sums w.entry-is
    c.least_cuts-least.ensures.first
    c.settled-first.ensures) in
    record {
      fits =
          cost-fits _ _ _ _ c.requires.2.placed c.requires.1 (suc c.requires.1) (suc c.requires.1) (up2 c.requires.1) _ _ (omega arith) (omega (arith, c.requires.2.within)) (omega arith) (omega (arith, c.requires.2.within))
          (first-is c.requires.0 c.requires.1 c.requires.2)
          c.requires.2.above-costs.first-is;
    }

pub settled-second-requires : goal.settled-second-requires
settled-second-requires c =
    let Of : Grid → ℕ → Type 0 = λ g b. (ThreeRows g c.args.rule c.args.strip b c.args.i c.args.low c.args.middle c.args.high c.args.above c.args.table.now) in
    let Adds : Grid → ℕ → ℕ → Sums → Type 0 = λ g b d x. (Whole g c.args.rule c.args.strip.a.0 c.args.strip.c.0 b d x) in
    let two-are : (g : Grid) → (b : ℕ) → Of g b → Adds g b (up2 b) c.stacked-two.result = λ g b w. (subst (Whole g _ _ _ b (up2 b)) (sym c.stacked-two.ensures)
    (whole-stacked g w.placed.sound _ _ _ b (suc b) (up2 b) _ _ (omega arith) (omega arith) w.low_sums w.middle-sums)) in
    (whole_ready _ _ _ _ c.requires.2.placed _ _ _ (omega arith) (omega (arith, c.requires.2.within)) (two-are c.requires.0 c.requires.1 c.requires.2), c.requires.2.placed.weight-most)

pub stacked-all-requires : goal.stacked-all-requires
stacked-all-requires c =
    let Of : Grid → ℕ → Type 0 = λ g b. (ThreeRows g c.args.rule c.args.strip b c.args.i c.args.low c.args.middle c.args.high c.args.above c.args.table.now) in
    let Adds : Grid → ℕ → ℕ → Sums → Type 0 = λ g b d x. (Whole g c.args.rule c.args.strip.a.0 c.args.strip.c.0 b d x) in
    let two-are : (g : Grid) → (b : ℕ) → Of g b → Adds g b (up2 b) c.stacked-two.result = λ g b w. (subst (Whole g _ _ _ b (up2 b)) (sym c.stacked-two.ensures)
    (whole-stacked g w.placed.sound _ _ _ b (suc b) (up2 b) _ _ (omega arith) (omega arith) w.low_sums w.middle-sums)) in (
      whole_ready _ _ _ _ c.requires.2.placed _ _ _ (omega arith) (omega (arith, c.requires.2.within)) (two-are c.requires.0 c.requires.1 c.requires.2),
      whole_ready _ _ _ _ c.requires.2.placed _ _ _ (omega arith) (omega (arith, c.requires.2.within)) c.requires.2.high_sums,
    )

pub overflow_add-first-2 : goal.overflow_add-first-2
overflow_add-first-2 c =
    let Of : Grid → ℕ → Type 0 = λ g b. (ThreeRows g c.args.rule c.args.strip b c.args.i c.args.low c.args.middle c.args.high c.args.above c.args.table.now) in
    let Price : Grid → ℕ → ℕ → ℕ = λ g b d. (cost Straight g c.args.rule (box c.args.strip.a.0 c.args.strip.c.0 b d)) in
    let first-is : (g : Grid) → (b : ℕ) → Of g b → c.settled-first.result ≡ Price g b (suc b) = λ g b w. (row-cost g _ _ _ w.placed b _ _ _ _ (omega (arith, w.within)) w.low_sums w.entry-is
    c.least_cuts-least.ensures.first
    c.settled-first.ensures) in
    record {
      fits =
          cost-fits _ _ _ _ c.requires.2.placed c.requires.1 (suc c.requires.1) (suc c.requires.1) (up3 c.requires.1) _ _ (omega arith) (omega (arith, c.requires.2.within)) (omega arith) (omega (arith, c.requires.2.within))
          (first-is c.requires.0 c.requires.1 c.requires.2)
          c.requires.2.above-costs.second_is;
    }

pub overflow_add-second : goal.overflow_add-second
overflow_add-second c =
    let Of : Grid → ℕ → Type 0 = λ g b. (ThreeRows g c.args.rule c.args.strip b c.args.i c.args.low c.args.middle c.args.high c.args.above c.args.table.now) in
    let Price : Grid → ℕ → ℕ → ℕ = λ g b d. (cost Straight g c.args.rule (box c.args.strip.a.0 c.args.strip.c.0 b d)) in
    let Adds : Grid → ℕ → ℕ → Sums → Type 0 = λ g b d x. (Whole g c.args.rule c.args.strip.a.0 c.args.strip.c.0 b d x) in
    let first-is : (g : Grid) → (b : ℕ) → Of g b → c.settled-first.result ≡ Price g b (suc b) = λ g b w. (row-cost g _ _ _ w.placed b _ _ _ _ (omega (arith, w.within)) w.low_sums w.entry-is
    c.least_cuts-least.ensures.first
    c.settled-first.ensures) in
    let two-are : (g : Grid) → (b : ℕ) → Of g b → Adds g b (up2 b) c.stacked-two.result = λ g b w. (subst (Whole g _ _ _ b (up2 b)) (sym c.stacked-two.ensures)
    (whole-stacked g w.placed.sound _ _ _ b (suc b) (up2 b) _ _ (omega arith) (omega arith) w.low_sums w.middle-sums)) in
    let second_is : (g : Grid) → (b : ℕ) → Of g b → c.settled-second.result ≡ Price g b (up2 b) = λ g b w. (piece_cost g _ _ _ w.placed b (up2 b) _ _ _ _ _ (omega arith) (omega (arith, w.within)) (two-are g b w) (next-pairs g.rows b _ w.entry-is).0
    c.least_cuts-least.ensures.second
    (across-more _ _ _ _ b _ _ _ _ _ _ _ (omega arith) (first-is g b w) w.above-costs.first-is c.min-cut.ensures (across-none _ _ _ _ _ _ _))
    c.settled-second.ensures) in
    record {
      fits =
          cost-fits _ _ _ _ c.requires.2.placed c.requires.1 (up2 c.requires.1) (up2 c.requires.1) (up3 c.requires.1) _ _ (omega arith) (omega (arith, c.requires.2.within)) (omega arith) (omega (arith, c.requires.2.within))
          (second_is c.requires.0 c.requires.1 c.requires.2)
          c.requires.2.above-costs.third-is;
    }

pub settled-third-requires : goal.settled-third-requires
settled-third-requires c =
    let Of : Grid → ℕ → Type 0 = λ g b. (ThreeRows g c.args.rule c.args.strip b c.args.i c.args.low c.args.middle c.args.high c.args.above c.args.table.now) in
    let Adds : Grid → ℕ → ℕ → Sums → Type 0 = λ g b d x. (Whole g c.args.rule c.args.strip.a.0 c.args.strip.c.0 b d x) in
    let two-are : (g : Grid) → (b : ℕ) → Of g b → Adds g b (up2 b) c.stacked-two.result = λ g b w. (subst (Whole g _ _ _ b (up2 b)) (sym c.stacked-two.ensures)
    (whole-stacked g w.placed.sound _ _ _ b (suc b) (up2 b) _ _ (omega arith) (omega arith) w.low_sums w.middle-sums)) in
    let all_are : (g : Grid) → (b : ℕ) → Of g b → Adds g b (up3 b) c.stacked-all.result = λ g b w. (subst (Whole g _ _ _ b (up3 b)) (sym c.stacked-all.ensures)
    (whole-stacked g w.placed.sound _ _ _ b (up2 b) (up3 b) _ _ (omega arith) (omega arith) (two-are g b w) w.high_sums)) in
    (whole_ready _ _ _ _ c.requires.2.placed _ _ _ (omega arith) (omega (arith, c.requires.2.within)) (all_are c.requires.0 c.requires.1 c.requires.2), c.requires.2.placed.weight-most)

pub returns : goal.returns
returns c g b w =
    let Of : Grid → ℕ → Type 0 = λ g b. (ThreeRows g c.args.rule c.args.strip b c.args.i c.args.low c.args.middle c.args.high c.args.above c.args.table.now) in
    let Price : Grid → ℕ → ℕ → ℕ = λ g b d. (cost Straight g c.args.rule (box c.args.strip.a.0 c.args.strip.c.0 b d)) in
    let Adds : Grid → ℕ → ℕ → Sums → Type 0 = λ g b d x. (Whole g c.args.rule c.args.strip.a.0 c.args.strip.c.0 b d x) in
    let first-is : (g : Grid) → (b : ℕ) → Of g b → c.settled-first.result ≡ Price g b (suc b) = λ g b w. (row-cost g _ _ _ w.placed b _ _ _ _ (omega (arith, w.within)) w.low_sums w.entry-is
    c.least_cuts-least.ensures.first
    c.settled-first.ensures) in
    let two-are : (g : Grid) → (b : ℕ) → Of g b → Adds g b (up2 b) c.stacked-two.result = λ g b w. (subst (Whole g _ _ _ b (up2 b)) (sym c.stacked-two.ensures)
    (whole-stacked g w.placed.sound _ _ _ b (suc b) (up2 b) _ _ (omega arith) (omega arith) w.low_sums w.middle-sums)) in
    let second_is : (g : Grid) → (b : ℕ) → Of g b → c.settled-second.result ≡ Price g b (up2 b) = λ g b w. (piece_cost g _ _ _ w.placed b (up2 b) _ _ _ _ _ (omega arith) (omega (arith, w.within)) (two-are g b w) (next-pairs g.rows b _ w.entry-is).0
    c.least_cuts-least.ensures.second
    (across-more _ _ _ _ b _ _ _ _ _ _ _ (omega arith) (first-is g b w) w.above-costs.first-is c.min-cut.ensures (across-none _ _ _ _ _ _ _))
    c.settled-second.ensures) in
    let all_are : (g : Grid) → (b : ℕ) → Of g b → Adds g b (up3 b) c.stacked-all.result = λ g b w. (subst (Whole g _ _ _ b (up3 b)) (sym c.stacked-all.ensures)
    (whole-stacked g w.placed.sound _ _ _ b (up2 b) (up3 b) _ _ (omega arith) (omega arith) (two-are g b w) w.high_sums)) in
    let y = first-is g b w in
    let z = second_is g b w in
    record {
      first-is = y;
      second_is = z;
      third-is =
          piece_cost g _ _ _ w.placed b (up3 b) _ _ _ _ _ (omega arith) w.within (all_are g b w) (next-pairs g.rows b _ w.entry-is).1
          c.least_cuts-least.ensures.third
          (across-more _ _ _ _ b _ _ _ _ _ _ _ (omega arith) z w.above-costs.third-is c.min-upper.ensures
          (across-more _ _ _ _ b _ _ _ _ _ _ _ (omega arith) y w.above-costs.second_is c.min-lower.ensures
          (across-none _ _ _ _ _ _ _)))
          c.settled-third.ensures;
    }
