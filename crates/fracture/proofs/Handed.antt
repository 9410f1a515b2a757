-- Where a figure has no pinwheel it is handed to the straight call: both modes have the same outcome. Assumes nothing.
--
--   few-figure     : a figure of fewer than eight corners has at most three x lines
--   few-outcome    : so its outcome is the same in both modes, also where it is refused
--   few-laid       : a grid has as few columns and rows as memory says
use Prim.Native.Nat.{ℕ, zero, suc, ◌≤◌, ◌<◌}
use mathlib.Core.Path.{◌≡◌, refl, sym, ◌∙◌, ap}
use mathlib.Core.Bool.{Bool, true, false, cond}
use mathlib.Core.Logic.{◌⊎◌, inl, inr}
use native.Mathlib.Omega.{arith}
use lib.Dec.{eqb}
use lib.ListN.{length}
use borrow.Author.Tests.{eqb-true, ne_eqb}
use Rattle.rule.specs.Rules.{in_range}
use Rattle.figure.specs.declared.Axis.TheVariants.{X}
use Rattle.figure.specs.Figure.{Figure, fault}
use Rattle.figure.specs.Steps.{Right}
use Rattle.figure.proofs.Corners.{length-corners}
use Rattle.figure.proofs.Fault.{fault-right}
use Rattle.figure.proofs.Sharing.{corners-whole}
use Rattle.outline.specs.Grid.{Grid, Memory}
use Rattle.outline.specs.Inside.{grid, grid_of, empty}
use Rattle.outline.specs.Promise.{refusal}
use Rattle.outline.proofs.LineCount.{lines-most}
use Rattle.piece.specs.declared.Mode.TheVariants.{Straight, Pinwheel}
use Rattle.demands.specs.Promise.{Asked, drawn, rule_of, refused, gridded, ruled, outcome}
use Rattle.demands.proofs.Outcome.{in_mode}
use Rattle.demands.proofs.Few.{few-same}
use Rattle.fracture.specs.Delivery.{Laid}

accepted-right : (f : Figure) → refusal f ≡ 0 → Right f
unfolding refusal
accepted-right f e = fault-right f (go (fault f) (empty (grid f)) e)
  where
    go : (n : ℕ) (b : Bool) → ◌≡◌ {A = ℕ} (cond (eqb n 0) (cond b 5 0) n) 0 → n ≡ 0
    go zero b h = refl
    go (suc n) b h = sym (ap (λ t. cond {A = ℕ} t (cond {A = ℕ} b 5 0) (suc n)) (ne_eqb (suc n) 0 (λ z. omega arith))) ∙ h

pub few-figure : (f : Figure) → length f.numbers < 16 → refusal f ≡ 0 → (grid f).columns ≤ 2
unfolding grid grid_of
few-figure f h e =
    let right = accepted-right f e in
    omega (arith, lines-most f right X, ap length (corners-whole f right.figure-good), length-corners f.numbers)

pub few-outcome : (ask : Asked) → length ask.figure.numbers < 16 → outcome (in_mode Straight ask) ≡ outcome (in_mode Pinwheel ask)
unfolding outcome ruled drawn
few-outcome ask h = go (eqb (refusal ask.figure) 0) refl
  where
    go : (b : Bool) → eqb (refusal ask.figure) 0 ≡ b → outcome (in_mode Straight ask) ≡ outcome (in_mode Pinwheel ask)
    go true e = sym (few-same ask (inl (few-figure ask.figure h (eqb-true (refusal ask.figure) 0 e))))
    go false e =
        ap (λ b. cond (in_range ask.threshold ask.weight) (cond b (gridded Straight (grid ask.figure) (rule_of ask) ask.table ask.list) (refused (refusal ask.figure) ask.table ask.list)) (refused 1 ask.table ask.list)) e
        ∙ sym
        (ap (λ b. cond (in_range ask.threshold ask.weight) (cond b (gridded Pinwheel (grid ask.figure) (rule_of ask) ask.table ask.list) (refused (refusal ask.figure) ask.table ask.list)) (refused 1 ask.table ask.list)) e)

pub few-laid : (g : Grid) (m : Memory) → Laid g m → (m.columns ≤ 2) ⊎ (m.rows ≤ 2) → (g.columns ≤ 2) ⊎ (g.rows ≤ 2)
few-laid g m w (inl h) = inl (omega (arith, w.columns))
few-laid g m w (inr h) = inr (omega (arith, w.rows))
