-- `shallow::rows::fifth_row` meets its contract: the four lower rows first, then all five. Assumes nothing.
use Prim.Native.Nat.{ℕ}
use mathlib.Core.Path.{◌≡◌, sym, subst}
use native.Mathlib.Omega.{arith}
use Rattle.outline.specs.Grid.{Grid}
use Rattle.table.specs.Entry.{pair_no}
use Rattle.shallow.specs.declared.cuts.Three.{Three}
use Rattle.shallow.specs.Sums.{Whole}
use Rattle.shallow.specs.Rows.{FourSums, FourthRow, FifthRow, LowFour, WholeFive}
use Rattle.shallow.proofs.Summing.{whole-stacked}
use Rattle.shallow.proofs.Settling.{whole_ready, low-pair, fifth_pair}
use Rattle.shallow.proofs.rows.fifth_row.Goals as goal

pub fourth_row-four-requires : goal.fourth_row-four-requires
fourth_row-four-requires c =
    let Of : Grid → Type 0 = λ g. FifthRow g c.args.rule c.args.strip c.args.lowest c.args.second c.args.third c.args.fourth c.args.highest c.args.middle c.args.upper c.args.top c.args.table.now in
    let four-sums : (g : Grid) → Of g → (FourSums g c.args.rule c.args.strip.a.0 c.args.strip.c.0 0 c.args.lowest c.args.second c.args.third c.args.fourth) = λ g w. (let u = w.upper-sums in
    record {
      sound = u.sound;
      ac = u.ac;
      cx = u.cx;
      within = omega (arith, w.rows_are);
      lowest-sums = w.lowest-sums;
      second-sums = u.lowest-sums;
      third-sums = u.second-sums;
      highest-sums = u.third-sums;
    }) in
    let over : Three = (record { first = c.args.upper.first; second = c.args.upper.second; third = c.args.top.first }) in
    let four-given : (g : Grid) → (i : ℕ) → Of g → i ≡ pair_no g.rows 0 1 → (FourthRow g c.args.rule c.args.strip 0 i c.args.lowest c.args.second c.args.third c.args.fourth c.args.middle.three (over) c.args.table.now) = λ g i w e. (let x = w.upper-costs in
    record {
      placed = w.placed;
      entry-is = e;
      sums = four-sums g w;
      upper-costs = w.middle-costs.three_are;
      top-costs = record { first-is = x.first-is; second_is = x.second_is; third-is = w.top-costs.first-is };
    }) in
    (c.requires.0, 0, four-given c.requires.0 _ c.requires.1 (low-pair c.requires.0.rows))

pub four_sums-lower-requires : goal.four_sums-lower-requires
four_sums-lower-requires c =
    let Of : Grid → Type 0 = λ g. FifthRow g c.args.rule c.args.strip c.args.lowest c.args.second c.args.third c.args.fourth c.args.highest c.args.middle c.args.upper c.args.top c.args.table.now in
    let four-sums : (g : Grid) → Of g → (FourSums g c.args.rule c.args.strip.a.0 c.args.strip.c.0 0 c.args.lowest c.args.second c.args.third c.args.fourth) = λ g w. (let u = w.upper-sums in
    record {
      sound = u.sound;
      ac = u.ac;
      cx = u.cx;
      within = omega (arith, w.rows_are);
      lowest-sums = w.lowest-sums;
      second-sums = u.lowest-sums;
      third-sums = u.second-sums;
      highest-sums = u.third-sums;
    }) in
    (c.requires.0, c.args.rule, c.args.strip.a.0, c.args.strip.c.0, 0, four-sums c.requires.0 c.requires.1)

pub stacked-all-requires : goal.stacked-all-requires
stacked-all-requires c =
    let Of : Grid → Type 0 = λ g. FifthRow g c.args.rule c.args.strip c.args.lowest c.args.second c.args.third c.args.fourth c.args.highest c.args.middle c.args.upper c.args.top c.args.table.now in
    let four-sums : (g : Grid) → Of g → (FourSums g c.args.rule c.args.strip.a.0 c.args.strip.c.0 0 c.args.lowest c.args.second c.args.third c.args.fourth) = λ g w. (let u = w.upper-sums in
    record {
      sound = u.sound;
      ac = u.ac;
      cx = u.cx;
      within = omega (arith, w.rows_are);
      lowest-sums = w.lowest-sums;
      second-sums = u.lowest-sums;
      third-sums = u.second-sums;
      highest-sums = u.third-sums;
    }) in
    let four_are : (g : Grid) → Of g → (Whole g c.args.rule c.args.strip.a.0 c.args.strip.c.0 0 4 c.four_sums-lower.result) = λ g w. c.four_sums-lower.ensures g _ _ _ 0 (four-sums g w) in (
      whole_ready _ _ _ _ c.requires.1.placed _ _ _ (omega arith) (omega (arith, c.requires.1.rows_are)) (four_are c.requires.0 c.requires.1),
      whole_ready _ _ _ _ c.requires.1.placed _ _ _ (omega arith) (omega (arith, c.requires.1.rows_are)) c.requires.1.upper-sums.highest-sums,
    )

pub five_rows-whole-requires : goal.five_rows-whole-requires
five_rows-whole-requires c =
    let Of : Grid → Type 0 = λ g. FifthRow g c.args.rule c.args.strip c.args.lowest c.args.second c.args.third c.args.fourth c.args.highest c.args.middle c.args.upper c.args.top c.args.table.now in
    let four-sums : (g : Grid) → Of g → (FourSums g c.args.rule c.args.strip.a.0 c.args.strip.c.0 0 c.args.lowest c.args.second c.args.third c.args.fourth) = λ g w. (let u = w.upper-sums in
    record {
      sound = u.sound;
      ac = u.ac;
      cx = u.cx;
      within = omega (arith, w.rows_are);
      lowest-sums = w.lowest-sums;
      second-sums = u.lowest-sums;
      third-sums = u.second-sums;
      highest-sums = u.third-sums;
    }) in
    let over : Three = (record { first = c.args.upper.first; second = c.args.upper.second; third = c.args.top.first }) in
    let four-given : (g : Grid) → (i : ℕ) → Of g → i ≡ pair_no g.rows 0 1 → (FourthRow g c.args.rule c.args.strip 0 i c.args.lowest c.args.second c.args.third c.args.fourth c.args.middle.three (over) c.args.table.now) = λ g i w e. (let x = w.upper-costs in
    record {
      placed = w.placed;
      entry-is = e;
      sums = four-sums g w;
      upper-costs = w.middle-costs.three_are;
      top-costs = record { first-is = x.first-is; second_is = x.second_is; third-is = w.top-costs.first-is };
    }) in
    let four-costs : (g : Grid) → Of g → (LowFour g c.args.rule c.args.strip.a.0 c.args.strip.c.0 0 c.fourth_row-four.result) = λ g w. c.fourth_row-four.ensures g 0 (four-given g _ w (low-pair g.rows)) in
    let four_are : (g : Grid) → Of g → (Whole g c.args.rule c.args.strip.a.0 c.args.strip.c.0 0 4 c.four_sums-lower.result) = λ g w. c.four_sums-lower.ensures g _ _ _ 0 (four-sums g w) in
    let all_are : (g : Grid) → Of g → (Whole g c.args.rule c.args.strip.a.0 c.args.strip.c.0 0 5 c.stacked-all.result) = λ g w. (subst (Whole g _ _ _ 0 5) (sym c.stacked-all.ensures)
    (whole-stacked g w.placed.sound _ _ _ 0 4 5 _ _ (omega arith) (omega arith) (four_are g w) w.upper-sums.highest-sums)) in
    let left : Three = (record { first = c.args.middle.whole; second = c.args.upper.third; third = c.args.top.second }) in
    let whole-given : (g : Grid) → (i : ℕ) → Of g → i ≡ pair_no g.rows 0 5 → (WholeFive g c.args.rule c.args.strip 0 i c.stacked-all.result c.fourth_row-four.result.three c.fourth_row-four.result.whole (left) c.args.top.third c.args.table.now) = λ g i w e. (let x = four-costs g w in
    let y = w.top-costs in
    record {
      placed = w.placed;
      within = omega (arith, w.rows_are);
      entry-is = e;
      sums = all_are g w;
      below-costs = x.three_are;
      above-costs = record { first-is = w.middle-costs.whole_is; second_is = w.upper-costs.third-is; third-is = y.second_is };
      low-is = x.whole_is;
      high_is = y.third-is;
    }) in
    (c.requires.0, 0, whole-given c.requires.0 _ c.requires.1 (fifth_pair c.requires.0.rows))

pub returns : goal.returns
returns c g w =
    let Of : Grid → Type 0 = λ g. FifthRow g c.args.rule c.args.strip c.args.lowest c.args.second c.args.third c.args.fourth c.args.highest c.args.middle c.args.upper c.args.top c.args.table.now in
    let four-sums : (g : Grid) → Of g → (FourSums g c.args.rule c.args.strip.a.0 c.args.strip.c.0 0 c.args.lowest c.args.second c.args.third c.args.fourth) = λ g w. (let u = w.upper-sums in
    record {
      sound = u.sound;
      ac = u.ac;
      cx = u.cx;
      within = omega (arith, w.rows_are);
      lowest-sums = w.lowest-sums;
      second-sums = u.lowest-sums;
      third-sums = u.second-sums;
      highest-sums = u.third-sums;
    }) in
    let over : Three = (record { first = c.args.upper.first; second = c.args.upper.second; third = c.args.top.first }) in
    let four-given : (g : Grid) → (i : ℕ) → Of g → i ≡ pair_no g.rows 0 1 → (FourthRow g c.args.rule c.args.strip 0 i c.args.lowest c.args.second c.args.third c.args.fourth c.args.middle.three (over) c.args.table.now) = λ g i w e. (let x = w.upper-costs in
    record {
      placed = w.placed;
      entry-is = e;
      sums = four-sums g w;
      upper-costs = w.middle-costs.three_are;
      top-costs = record { first-is = x.first-is; second_is = x.second_is; third-is = w.top-costs.first-is };
    }) in
    let four-costs : (g : Grid) → Of g → (LowFour g c.args.rule c.args.strip.a.0 c.args.strip.c.0 0 c.fourth_row-four.result) = λ g w. c.fourth_row-four.ensures g 0 (four-given g _ w (low-pair g.rows)) in
    let four_are : (g : Grid) → Of g → (Whole g c.args.rule c.args.strip.a.0 c.args.strip.c.0 0 4 c.four_sums-lower.result) = λ g w. c.four_sums-lower.ensures g _ _ _ 0 (four-sums g w) in
    let all_are : (g : Grid) → Of g → (Whole g c.args.rule c.args.strip.a.0 c.args.strip.c.0 0 5 c.stacked-all.result) = λ g w. (subst (Whole g _ _ _ 0 5) (sym c.stacked-all.ensures)
    (whole-stacked g w.placed.sound _ _ _ 0 4 5 _ _ (omega arith) (omega arith) (four_are g w) w.upper-sums.highest-sums)) in
    let left : Three = (record { first = c.args.middle.whole; second = c.args.upper.third; third = c.args.top.second }) in
    let whole-given : (g : Grid) → (i : ℕ) → Of g → i ≡ pair_no g.rows 0 5 → (WholeFive g c.args.rule c.args.strip 0 i c.stacked-all.result c.fourth_row-four.result.three c.fourth_row-four.result.whole (left) c.args.top.third c.args.table.now) = λ g i w e. (let x = four-costs g w in
    let y = w.top-costs in
    record {
      placed = w.placed;
      within = omega (arith, w.rows_are);
      entry-is = e;
      sums = all_are g w;
      below-costs = x.three_are;
      above-costs = record { first-is = w.middle-costs.whole_is; second_is = w.upper-costs.third-is; third-is = y.second_is };
      low-is = x.whole_is;
      high_is = y.third-is;
    }) in
    record {
      four_are = four-costs g w;
      whole_is = c.five_rows-whole.ensures g 0 (whole-given g _ w (fifth_pair g.rows));
    }
