-- Laws of the sums of the pieces of a strip. Assumes nothing.
--
--   empty-made, grown-made  == the sums that the code makes
--   summed-small, whole-small
--                           == the sums of a piece of a grid are small
--   summed-none, whole-grown
--                           == a row of cells with no column yet, and with one more
--   whole-stacked           == two pieces one above the other
--   whole-shot              == the charge by these sums is the charge
use Prim.Native.Nat.{ℕ, suc, ◌+◌, ◌*◌, ◌-◌, ◌≤◌, ◌<◌}
use mathlib.Core.Path.{◌≡◌, sym, ◌∙◌, ap, ap₂, subst}
use mathlib.Core.Bool.{not}
use mathlib.Core.List.{List}
use native.Mathlib.Omega.{arith}
use native.Mathlib.Nat.{mul-le-mul, mul-one}
use lib.ListN.{get_or}
use Rattle.sum.specs.Sum.{only, over}
use Rattle.sum.proofs.Sum.{over_none, over-one, over-cut, only-add, only-most, rise}
use Rattle.outline.specs.Grid.{Grid, Sound, Drawn}
use Rattle.rule.specs.declared.Rule.{Rule}
use Rattle.rule.specs.Charge.{sliver_of, spared, charge_of}
use Rattle.rule.proofs.Charge.{narrow-same}
use Rattle.piece.specs.Piece.{box, low_side, high_side, cell_sum, cells, inside_cells, width, height, left, right, bottom, top, sliver, charge}
use Rattle.piece.proofs.Cells.{cells-product, sum_horizontal}
use Rattle.piece.proofs.Kind.{inside-most}
use Rattle.table.specs.Run.{bare}
use Rattle.table.specs.Side.{below_at}
use Rattle.table.proofs.Side as measure
use Rattle.shallow.specs.declared.cuts.Strip.{Strip}
use Rattle.shallow.specs.declared.sums.Sums.{Sums}
use Rattle.shallow.specs.Sums.{Summed, Whole, Small, empty_of, flanks_at, grown_row, stacked_of, shot_of}

-- the sums that the code makes
pub empty-made : (h k : ℕ) → h ≡ k → empty_of h ≡ empty_of k
empty-made h k e = ap empty_of e

pub grown-made : (cs : List ℕ) (r : Rule) (strip : Strip) (step j : ℕ) (row : Sums) (n u b t f : ℕ)
    → n ≡ get_or cs (16 * (strip.c.0 - 1) + j) 0
    → u ≡ below_at cs (16 * (strip.c.0 - 1)) j
    → b ≡ bare (get_or cs (16 * (strip.c.0 - 1) + j) 0) u step
    → t ≡ bare (get_or cs (16 * (strip.c.0 - 1) + j) 0) (get_or cs (16 * (strip.c.0 - 1) + j + 1) 0) step
    → f ≡ only (not (spared r strip.width)) (flanks_at cs strip.a.0 strip.c.0 j row.height)
    → ◌≡◌ {A = Sums}
    (record {
      cells = row.cells + 1;
      inside = row.inside + n;
      height = row.height;
      bottom = row.bottom + b;
      top = row.top + t;
      flanks = f;
    })
    (grown_row cs r strip step j row)
unfolding grown_row
grown-made cs r strip step j row n u b t f en eu eb et ef =
    let z = eb ∙ ap (λ m. bare (get_or cs (16 * (strip.c.0 - 1) + j) 0) m step) eu in
    λ i. record {
      cells = row.cells + 1;
      inside = row.inside + en i;
      height = row.height;
      bottom = row.bottom + z i;
      top = row.top + et i;
      flanks = ef i;
    }

module _ (g : Grid) (sound : Sound g) where
  pub summed-small : (a c b d : ℕ) (s : Sums) → a ≤ c → c ≤ g.columns → b ≤ d → d ≤ g.rows → Summed g a c b d s → Small s
  unfolding height bottom top width
  summed-small a c b d s h k q l w =
      record {
        cells = omega (arith, w.cells_are, area);
        inside = omega (arith, w.inside_are, inside-most g (box a c b d), area);
        height = omega (arith, w.height-is, sound.y-most d);
        bottom = omega (arith, w.bottom-is, measure.span-most g.x sound.x-up sound.x-most (λ i. low_side (g.inside i) b) a c h);
        top = omega (arith, w.top-is, measure.span-most g.x sound.x-up sound.x-most (λ i. high_side (g.inside i) d) a c h);
      }
    where
      area : cells (box a c b d) ≤ 225
      area =
          omega (
            arith,
            cells-product (box a c b d) h q,
            mul-le-mul {n₁ = c - a} {m₁ = d - b} {n₂ = 15} {m₂ = 15} (omega (arith, sound.columns-most)) (omega (arith, sound.rows-most)),
          )

  flanks-most : (r : Rule) (a c b d : ℕ) (s : Sums) → b ≤ d → Whole g r a c b d s → s.flanks ≤ 131070
  unfolding left right height
  flanks-most r a c b d s q w =
      omega (
        arith,
        w.flanks_are,
        only-most (not (spared r (width g a c))) (left g (box a c b d) + right g (box a c b d)),
        measure.span-most g.y sound.y-up sound.y-most (λ j. low_side (λ i. g.inside i j) a) b d q,
        measure.span-most g.y sound.y-up sound.y-most (λ j. high_side (λ i. g.inside i j) c) b d q,
      )

  pub whole-small : (r : Rule) (a c b d : ℕ) (s : Sums) → a ≤ c → c ≤ g.columns → b ≤ d → d ≤ g.rows → Whole g r a c b d s → Small s × (s.flanks ≤ 131070)
  whole-small r a c b d s h k q l w = (summed-small a c b d s h k q l w.summed, flanks-most r a c b d s q w)

  -- one above the other
  pub whole-stacked : (r : Rule) (a c b m d : ℕ) (low high : Sums) → b ≤ m → m ≤ d → Whole g r a c b m low → Whole g r a c m d high
      → Whole g r a c b d (stacked_of low high)
  unfolding stacked_of cells inside_cells height bottom top left right
  whole-stacked r a c b m d low high p q u v =
      record {
        summed =
            record {
              cells_are = ap₂ ◌+◌ u.summed.cells_are v.summed.cells_are ∙ sym (sum_horizontal (λ i j. 1) (box a c b d) m p q);
              inside_are =
                  ap₂ ◌+◌ u.summed.inside_are v.summed.inside_are
                  ∙ sym (sum_horizontal (λ i j. only (g.inside i j) 1) (box a c b d) m p q);
              height-is =
                  omega (arith, u.summed.height-is, v.summed.height-is, rise g.y sound.y-up b m p, rise g.y sound.y-up m d q);
              bottom-is = u.summed.bottom-is;
              top-is = v.summed.top-is;
            };
        flanks_are =
            ap₂ ◌+◌ u.flanks_are v.flanks_are
            ∙ sym (only-add (not (spared r (width g a c))) (L b m + R b m) (L m d + R m d))
            ∙ ap (only (not (spared r (width g a c)))) (omega (arith, over-cut b m d left_of_lem p q, over-cut b m d right_of p q));
      }
    where
      left_of_lem : ℕ → ℕ
      left_of_lem j = only (low_side (λ i. g.inside i j) a) (height g j (suc j))

      right_of : ℕ → ℕ
      right_of j = only (high_side (λ i. g.inside i j) c) (height g j (suc j))

      L : ℕ → ℕ → ℕ
      L b d = over b d left_of_lem

      R : ℕ → ℕ → ℕ
      R b d = over b d right_of

  -- the charge
  pub whole-shot : (r : Rule) (a c b d w : ℕ) (s : Sums) → w ≡ width g a c → Whole g r a c b d s → shot_of r w s ≡ charge g r (box a c b d)
  unfolding shot_of charge sliver
  whole-shot r a c b d w s e u =
      ap (charge_of r)
      (ap₂ (λ x y. sliver_of r w x y (s.bottom + s.top)) u.summed.height-is u.flanks_are
      ∙ ap₂ (λ x y. sliver_of r x (height g b d) (only (not (spared r (width g a c))) (left g (box a c b d) + right g (box a c b d))) y)
      e
      (ap₂ ◌+◌ u.summed.bottom-is u.summed.top-is)
      ∙ narrow-same r (width g a c) (height g b d) (left g (box a c b d) + right g (box a c b d)) (bottom g (box a c b d) + top g (box a c b d)))

-- a row of cells
row-cells : (a c j : ℕ) → a ≤ c → cells (box a c j (suc j)) ≡ c - a
row-cells a c j h =
    let e : suc j - j ≡ 1 = omega arith in
    cells-product (box a c j (suc j)) h (omega arith) ∙ ap (λ n. (c - a) * n) e ∙ mul-one (c - a)

module _ (g : Grid) (xs ys cs : List ℕ) (sound : Sound g) (drawn : Drawn g xs ys cs) where
  pub summed-none : (a j : ℕ) → j < g.rows → Summed g a a j (suc j) (empty_of (get_or ys (j + 1) 0 - get_or ys j 0))
  unfolding empty_of inside_cells cell_sum bottom top
  summed-none a j h =
      record {
        cells_are = sym (row-cells a a j (omega arith) ∙ omega arith);
        inside_are = sym (over_none a a _ (omega arith));
        height-is = measure.height-at g xs ys cs sound drawn j h;
        bottom-is = sym (over_none a a _ (omega arith));
        top-is = sym (over_none a a _ (omega arith));
      }

  -- one column more
  module _ (r : Rule) (strip : Strip) (ac : strip.a.0 < strip.c.0) (cx : strip.c.0 ≤ g.columns) (wide : strip.width ≡ width g strip.a.0 strip.c.0)
      (step : ℕ) (es : step ≡ get_or xs strip.c.0 0 - get_or xs (strip.c.0 - 1) 0) (j : ℕ) (q : j < g.rows) (row : Sums)
      (w : Summed g strip.a.0 (strip.c.0 - 1) j (suc j) row) where
    abbrev a : ℕ
    a = strip.a.0

    abbrev p : ℕ
    p = strip.c.0 - 1

    next : suc p ≡ strip.c.0
    next = omega arith

    within : p < g.columns
    within = omega arith

    step_is : step ≡ width g p (suc p)
    step_is =
        let e : p + 1 ≡ strip.c.0 = omega arith in
        es ∙ ap (λ n. get_or xs n 0 - get_or xs p 0) (sym e) ∙ measure.width-at g xs ys cs sound drawn p within

    grown : Summed g a (suc p) j (suc j) (grown_row cs r strip step j row)
    unfolding grown_row
    grown =
        record {
          cells_are = omega (arith, w.cells_are, row-cells a p j (omega arith), row-cells a (suc p) j (omega arith));
          inside_are =
              ap₂ ◌+◌ w.inside_are (drawn.cell-at p j (omega (arith, sound.columns-most)) (omega (arith, sound.rows-most)))
              ∙ sym (measure.count-column g xs ys cs sound drawn a p (omega arith) within j);
          height-is = w.height-is;
          bottom-is =
              ap₂ ◌+◌ w.bottom-is
              (measure.bottom-at g xs ys cs sound drawn p within j step q ∙ ap (only (low_side (g.inside p) j)) step_is)
              ∙ sym (measure.bottom-column g xs ys cs sound drawn a p (omega arith) within j (suc j));
          top-is =
              ap₂ ◌+◌ w.top-is
              (measure.top-at g xs ys cs sound drawn p within j step q ∙ ap (only (high_side (g.inside p) (suc j))) step_is)
              ∙ sym (measure.top-column g xs ys cs sound drawn a p (omega arith) within j (suc j));
        }

    flanked : flanks_at cs a strip.c.0 j row.height ≡ left g (box a strip.c.0 j (suc j)) + right g (box a strip.c.0 j (suc j))
    unfolding flanks_at left right
    flanked =
        ap₂ ◌+◌
        (measure.left_at g xs ys cs sound drawn a (omega (arith, sound.columns-most)) j _ q
        ∙ ap (only (low_side (λ i. g.inside i j) a)) w.height-is
        ∙ sym (over-one j (λ l. only (low_side (λ i. g.inside i l) a) (height g l (suc l)))))
        (measure.right-at g xs ys cs sound drawn strip.c.0 (omega arith) (omega (arith, sound.columns-most)) j _ q
        ∙ ap (only (high_side (λ i. g.inside i j) strip.c.0)) w.height-is
        ∙ sym (over-one j (λ l. only (high_side (λ i. g.inside i l) strip.c.0) (height g l (suc l)))))

    flanks-kept : (grown_row cs r strip step j row).flanks
        ≡ only (not (spared r (width g a strip.c.0))) (left g (box a strip.c.0 j (suc j)) + right g (box a strip.c.0 j (suc j)))
    unfolding grown_row
    flanks-kept = ap₂ (λ n. only (not (spared r n))) wide flanked

    pub whole-grown : Whole g r strip.a.0 strip.c.0 j (suc j) (grown_row cs r strip step j row)
    whole-grown =
        record {
          summed = subst (λ n. Summed g a n j (suc j) (grown_row cs r strip step j row)) next grown;
          flanks_are = flanks-kept;
        }
