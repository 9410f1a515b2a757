-- `shallow::rows::four_sums` meets its contract: the rows one above the other, from the lowest on. Assumes nothing.
use Prim.Native.Nat.{ℕ, suc}
use mathlib.Core.Path.{sym, subst}
use native.Mathlib.Omega.{arith}
use Rattle.outline.specs.Grid.{Grid}
use Rattle.rule.specs.declared.Rule.{Rule}
use Rattle.shallow.specs.Sums.{Whole}
use Rattle.shallow.specs.Rows.{FourSums, up2, up3, up4}
use Rattle.shallow.proofs.Summing.{whole-small, whole-stacked}
use Rattle.shallow.proofs.rows.four_sums.Goals as goal

pub stacked-two-requires : goal.stacked-two-requires
stacked-two-requires k = (
  whole-small _ k.requires.5.sound _ _ _ _ _ _ k.requires.5.ac k.requires.5.cx (omega arith) (omega (arith, k.requires.5.within)) k.requires.5.lowest-sums,
  whole-small _ k.requires.5.sound _ _ _ _ _ _ k.requires.5.ac k.requires.5.cx (omega arith) (omega (arith, k.requires.5.within)) k.requires.5.second-sums,
)

pub stacked-three-requires : goal.stacked-three-requires
stacked-three-requires k =
    let Of : Grid → Rule → ℕ → ℕ → ℕ → Type 0 = λ g r a c b. FourSums g r a c b k.args.lowest k.args.second k.args.third k.args.highest in
    let two-are : (g : Grid) → (r : Rule) → (a : ℕ) → (c : ℕ) → (b : ℕ) → Of g r a c b → Whole g r a c b (up2 b) k.stacked-two.result = λ g r a c b w. (subst (Whole g r a c b (up2 b)) (sym k.stacked-two.ensures)
    (whole-stacked g w.sound r a c b (suc b) (up2 b) _ _ (omega arith) (omega arith) w.lowest-sums w.second-sums)) in (
      whole-small _ k.requires.5.sound _ _ _ _ _ _ k.requires.5.ac k.requires.5.cx (omega arith) (omega (arith, k.requires.5.within)) (two-are k.requires.0 k.requires.1 k.requires.2 k.requires.3 k.requires.4 k.requires.5),
      whole-small _ k.requires.5.sound _ _ _ _ _ _ k.requires.5.ac k.requires.5.cx (omega arith) (omega (arith, k.requires.5.within)) k.requires.5.third-sums,
    )

pub stacked-requires : goal.stacked-requires
stacked-requires k =
    let Of : Grid → Rule → ℕ → ℕ → ℕ → Type 0 = λ g r a c b. FourSums g r a c b k.args.lowest k.args.second k.args.third k.args.highest in
    let two-are : (g : Grid) → (r : Rule) → (a : ℕ) → (c : ℕ) → (b : ℕ) → Of g r a c b → Whole g r a c b (up2 b) k.stacked-two.result = λ g r a c b w. (subst (Whole g r a c b (up2 b)) (sym k.stacked-two.ensures)
    (whole-stacked g w.sound r a c b (suc b) (up2 b) _ _ (omega arith) (omega arith) w.lowest-sums w.second-sums)) in
    let three_are : (g : Grid) → (r : Rule) → (a : ℕ) → (c : ℕ) → (b : ℕ) → Of g r a c b → Whole g r a c b (up3 b) k.stacked-three.result = λ g r a c b w. (subst (Whole g r a c b (up3 b)) (sym k.stacked-three.ensures)
    (whole-stacked g w.sound r a c b (up2 b) (up3 b) _ _ (omega arith) (omega arith) (two-are g r a c b w) w.third-sums)) in (
      whole-small _ k.requires.5.sound _ _ _ _ _ _ k.requires.5.ac k.requires.5.cx (omega arith) (omega (arith, k.requires.5.within)) (three_are k.requires.0 k.requires.1 k.requires.2 k.requires.3 k.requires.4 k.requires.5),
      whole-small _ k.requires.5.sound _ _ _ _ _ _ k.requires.5.ac k.requires.5.cx (omega arith) k.requires.5.within k.requires.5.highest-sums,
    )

pub returns : goal.returns
returns k g r a c b w =
    let Of : Grid → Rule → ℕ → ℕ → ℕ → Type 0 = λ g r a c b. FourSums g r a c b k.args.lowest k.args.second k.args.third k.args.highest in
    let two-are : (g : Grid) → (r : Rule) → (a : ℕ) → (c : ℕ) → (b : ℕ) → Of g r a c b → Whole g r a c b (up2 b) k.stacked-two.result = λ g r a c b w. (subst (Whole g r a c b (up2 b)) (sym k.stacked-two.ensures)
    (whole-stacked g w.sound r a c b (suc b) (up2 b) _ _ (omega arith) (omega arith) w.lowest-sums w.second-sums)) in
    let three_are : (g : Grid) → (r : Rule) → (a : ℕ) → (c : ℕ) → (b : ℕ) → Of g r a c b → Whole g r a c b (up3 b) k.stacked-three.result = λ g r a c b w. (subst (Whole g r a c b (up3 b)) (sym k.stacked-three.ensures)
    (whole-stacked g w.sound r a c b (up2 b) (up3 b) _ _ (omega arith) (omega arith) (two-are g r a c b w) w.third-sums)) in
    subst (Whole g r a c b (up4 b)) (sym k.stacked.ensures)
    (whole-stacked g w.sound r a c b (up3 b) (up4 b) _ _ (omega arith) (omega arith) (three_are g r a c b w) w.highest-sums)
