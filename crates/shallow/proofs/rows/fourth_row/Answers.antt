-- `shallow::rows::fourth_row` meets its contract: the three lower rows first, then all four. Assumes nothing.
use Prim.Native.Nat.{ℕ, suc}
use mathlib.Core.Path.{◌≡◌}
use native.Mathlib.Omega.{arith}
use Rattle.outline.specs.Grid.{Grid}
use Rattle.table.specs.Entry.{pair_no}
use Rattle.table.proofs.Entry.{pair-below, count_most}
use Rattle.shallow.specs.declared.cuts.Three.{Three}
use Rattle.shallow.specs.Rows.{FourthRow, ThreeRows, LowThree, WholeFour, up4}
use Rattle.shallow.proofs.Settling.{fourth-pair}
use Rattle.shallow.proofs.rows.fourth_row.Goals as goal

pub third_row-three-requires : goal.third_row-three-requires
third_row-three-requires c =
    let Of : Grid → ℕ → Type 0 = λ g b. FourthRow g c.args.rule c.args.strip b c.args.i c.args.lowest c.args.second c.args.third c.args.highest c.args.upper c.args.top c.args.table.now in
    let over : Three = (record { first = c.args.upper.first; second = c.args.upper.second; third = c.args.top.first }) in
    let three-given : (g : Grid) → (b : ℕ) → Of g b → ThreeRows g c.args.rule c.args.strip b c.args.i c.args.lowest c.args.second c.args.third (over) c.args.table.now = λ g b w. (let x = w.upper-costs in
    record {
      placed = w.placed;
      within = omega (arith, w.sums.within);
      entry-is = w.entry-is;
      low_sums = w.sums.lowest-sums;
      middle-sums = w.sums.second-sums;
      high_sums = w.sums.third-sums;
      above-costs = record { first-is = x.first-is; second_is = x.second_is; third-is = w.top-costs.first-is };
    }) in
    (c.requires.0, c.requires.1, three-given c.requires.0 c.requires.1 c.requires.2)

pub four_sums-all-requires : goal.four_sums-all-requires
four_sums-all-requires c = (c.requires.0, c.args.rule, c.args.strip.a.0, c.args.strip.c.0, c.requires.1, c.requires.2.sums)

pub overflow_add-i : goal.overflow_add-i
overflow_add-i c =
    omega (
      arith,
      c.requires.2.entry-is,
      pair-below c.requires.0.rows c.requires.1 (suc c.requires.1) (omega arith) (omega (arith, c.requires.2.sums.within)),
      count_most c.requires.0.rows c.requires.2.placed.sound.rows-most,
    )

pub four_rows-whole-requires : goal.four_rows-whole-requires
four_rows-whole-requires c =
    let Of : Grid → ℕ → Type 0 = λ g b. FourthRow g c.args.rule c.args.strip b c.args.i c.args.lowest c.args.second c.args.third c.args.highest c.args.upper c.args.top c.args.table.now in
    let over : Three = (record { first = c.args.upper.first; second = c.args.upper.second; third = c.args.top.first }) in
    let three-given : (g : Grid) → (b : ℕ) → Of g b → ThreeRows g c.args.rule c.args.strip b c.args.i c.args.lowest c.args.second c.args.third (over) c.args.table.now = λ g b w. (let x = w.upper-costs in
    record {
      placed = w.placed;
      within = omega (arith, w.sums.within);
      entry-is = w.entry-is;
      low_sums = w.sums.lowest-sums;
      middle-sums = w.sums.second-sums;
      high_sums = w.sums.third-sums;
      above-costs = record { first-is = x.first-is; second_is = x.second_is; third-is = w.top-costs.first-is };
    }) in
    let three-costs : (g : Grid) → (b : ℕ) → Of g b → (LowThree g c.args.rule c.args.strip.a.0 c.args.strip.c.0 b c.third_row-three.result) = λ g b w. c.third_row-three.ensures g b (three-given g b w) in
    let left : Three = (record { first = c.args.upper.third; second = c.args.top.second; third = c.args.top.third }) in
    let whole-given : (g : Grid) → (b : ℕ) → (i : ℕ) → Of g b → i ≡ pair_no g.rows b (up4 b) → (WholeFour g c.args.rule c.args.strip b i c.four_sums-all.result c.third_row-three.result (left) c.args.table.now) = λ g b i w e. (let y = w.top-costs in
    record {
      placed = w.placed;
      within = w.sums.within;
      entry-is = e;
      sums = c.four_sums-all.ensures g _ _ _ b w.sums;
      below-costs = three-costs g b w;
      above-costs = record { first-is = w.upper-costs.third-is; second_is = y.second_is; third-is = y.third-is };
    }) in
    (c.requires.0, c.requires.1, whole-given c.requires.0 c.requires.1 _ c.requires.2 (omega (arith, fourth-pair c.requires.0.rows c.requires.1 _ c.requires.2.entry-is)))

pub returns : goal.returns
returns c g b w =
    let Of : Grid → ℕ → Type 0 = λ g b. FourthRow g c.args.rule c.args.strip b c.args.i c.args.lowest c.args.second c.args.third c.args.highest c.args.upper c.args.top c.args.table.now in
    let over : Three = (record { first = c.args.upper.first; second = c.args.upper.second; third = c.args.top.first }) in
    let three-given : (g : Grid) → (b : ℕ) → Of g b → ThreeRows g c.args.rule c.args.strip b c.args.i c.args.lowest c.args.second c.args.third (over) c.args.table.now = λ g b w. (let x = w.upper-costs in
    record {
      placed = w.placed;
      within = omega (arith, w.sums.within);
      entry-is = w.entry-is;
      low_sums = w.sums.lowest-sums;
      middle-sums = w.sums.second-sums;
      high_sums = w.sums.third-sums;
      above-costs = record { first-is = x.first-is; second_is = x.second_is; third-is = w.top-costs.first-is };
    }) in
    let three-costs : (g : Grid) → (b : ℕ) → Of g b → (LowThree g c.args.rule c.args.strip.a.0 c.args.strip.c.0 b c.third_row-three.result) = λ g b w. c.third_row-three.ensures g b (three-given g b w) in
    let left : Three = (record { first = c.args.upper.third; second = c.args.top.second; third = c.args.top.third }) in
    let whole-given : (g : Grid) → (b : ℕ) → (i : ℕ) → Of g b → i ≡ pair_no g.rows b (up4 b) → (WholeFour g c.args.rule c.args.strip b i c.four_sums-all.result c.third_row-three.result (left) c.args.table.now) = λ g b i w e. (let y = w.top-costs in
    record {
      placed = w.placed;
      within = w.sums.within;
      entry-is = e;
      sums = c.four_sums-all.ensures g _ _ _ b w.sums;
      below-costs = three-costs g b w;
      above-costs = record { first-is = w.upper-costs.third-is; second_is = y.second_is; third-is = y.third-is };
    }) in
    record {
      three_are = three-costs g b w;
      whole_is = c.four_rows-whole.ensures g b (whole-given g b _ w (fourth-pair g.rows b _ w.entry-is));
    }
