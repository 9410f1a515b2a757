-- Where no two edges run together, and where a side of the figure is drawn. Assumes nothing.
--
--   stretches_run        == the stretches that end up at a place are as many as the runs that do are long
--   lengths-added        == where no two edges run together, what the edges have on a side of a shot is the length of their runs there
--   wall-drawn           == whatever the drawing: an edge is drawn over each stretch that lies on a side of the figure
--   exposed-drawn        == so over each exposed stretch of a shot, or of any rectangle inside the figure: one of its squares beside the
--                           stretch, on the other side of which nothing is inside
use Prim.Native.Nat.{ℕ, zero, suc, ◌+◌, ◌-◌, ◌≤◌, ◌<◌}
use mathlib.Core.Path.{◌≡◌, refl, sym, ◌∙◌, ap, ap₂}
use mathlib.Core.Bool.{Bool, true, false, not, cond, ◌&&◌, ◌||◌, true≢false}
use mathlib.Core.List.{List, [], ◌∷◌}
use native.Mathlib.Omega.{arith}
use borrow.Author.Tests.{eq-eqb, ne_eqb, le-leb, lt-ltb}
use Rattle.sum.specs.Sum.{only, over, sum_of, All}
use Rattle.sum.proofs.Sum as sum
use Rattle.figure.specs.declared.Axis.{Axis}
use Rattle.figure.specs.declared.Axis.TheVariants.{X, Y}
use Rattle.figure.specs.Corners.{Corner, Link, any, both, slanted, odd}
use Rattle.figure.specs.Figure.{Figure, rings}
use Rattle.figure.specs.Inside.{inside_at}
use Rattle.figure.specs.Steps.{Right}
use Rattle.demands.specs.Square.{exposed}
use Rattle.shot.specs.Shot.{Shot, holds}
use Rattle.edge.specs.Edge.{numbered, across, stands_at, low_along, high_along, low, high, drawn_over, strokes, seen, beneath, beyond}
use Rattle.edge.specs.Landing.{low_side, high_side, facing, shape, Landing, Run, landing, alike, put, runs, edge_runs}
use Rattle.edge.specs.Owned.{on_top, owned, length_on, run_length}
use Rattle.edge.proofs.Runs.{Shared, alike_same, runs-right}
use Rattle.edge.proofs.Owned.{drawn-is, numbered-all}
use Rattle.edge.proofs.Fractured.{walls_are_edges}

-- Runs and their length

one_more : (k : ℕ) → suc k - k ≡ 1
one_more k = omega arith

put-length : (q a : Landing) (k m : ℕ) (l : List Run) → Shared (suc k) m l → run_length q (put k a l) ≡ only (alike a q) 1 + run_length q l
unfolding run_length put sum_of
put-length q a k m [] h = ap (λ n. only (alike a q) n + 0) (one_more k)
put-length q a k m (r ∷ l) h = go (alike a r.lands) refl
  where
    go : (t : Bool) → alike a r.lands ≡ t
        → sum_of (λ r. only (alike r.lands q) (r.to - r.from))
        (cond t (record { from = k; to = r.to; lands = a } ∷ l) (record { from = k; to = suc k; lands = a } ∷ r ∷ l))
        ≡ only (alike a q) 1 + (only (alike r.lands q) (r.to - r.from) + sum_of (λ r. only (alike r.lands q) (r.to - r.from)) l)
    go true e =
        let w : r.to - k ≡ 1 + (r.to - r.from) = omega (arith, h.0, h.1) in
        omega (
          arith,
          ap (only (alike a q)) w,
          sum.only-add (alike a q) 1 (r.to - r.from),
          ap (λ b. only (alike b q) (r.to - r.from)) (alike_same a r.lands e),
        )
    go false e =
        ap
        (λ n. only (alike a q) n + (only (alike r.lands q) (r.to - r.from) + sum_of (λ r. only (alike r.lands q) (r.to - r.from)) l))
        (one_more k)

module _ (f : ℕ → Landing) (q : Landing) where
  first-stretch : (k n : ℕ)
      → over k (k + suc n) (λ j. only (alike (f j) q) 1) ≡ only (alike (f k) q) 1 + over (suc k) (suc k + n) (λ j. only (alike (f j) q) 1)
  first-stretch k n =
      let z : k + suc n ≡ suc k + n = omega arith in
      ap (λ m. over k m (λ j. only (alike (f j) q) 1)) z
      ∙ sum.over-cut k (suc k) (suc k + n) (λ j. only (alike (f j) q) 1) (omega arith) (omega arith)
      ∙ ap (λ m. m + over (suc k) (suc k + n) (λ j. only (alike (f j) q) 1)) (sum.over-one k (λ j. only (alike (f j) q) 1))

  pub stretches_run : (k n : ℕ) → over k (k + n) (λ j. only (alike (f j) q) 1) ≡ run_length q (runs f k n)
  unfolding runs
  stretches_run k zero = sum.over_none k (k + 0) (λ j. only (alike (f j) q) 1) (omega arith) ∙ (unfold run_length sum_of in refl)
  stretches_run k (suc n) =
      first-stretch k n
      ∙ ap (λ m. only (alike (f k) q) 1 + m) (stretches_run (suc k) n)
      ∙ sym (put-length q (f k) k (suc k + n) (runs f (suc k) n) (runs-right f (suc k) n).shared)

-- Edges of which no two run together

some_step : (t : Link Corner → Bool) (e : Link Corner) (es : List (Link Corner)) → (any t es ≡ true → 1 ≤ sum_of (λ e. only (t e) 1) es)
    → (b : Bool) → t e ≡ b → (b || any t es) ≡ true → 1 ≤ only (t e) 1 + sum_of (λ e. only (t e) 1) es
some_step t e es more true z h = omega (arith, ap (λ b. only b 1) z)
some_step t e es more false z h = omega (arith, more h)

any_some : (t : Link Corner → Bool) (es : List (Link Corner)) → any t es ≡ true → 1 ≤ sum_of (λ e. only (t e) 1) es
unfolding any sum_of
any_some t [] h = absurd (true≢false (sym h))
any_some t (e ∷ es) h = some_step t e es (any_some t es) (t e) refl h

-- an edge lies over its own stretches
own_drawn : (e : Link Corner) → both e ≡ false → (k : ℕ) → low e ≤ k → k < high e → drawn_over (across e) (stands_at e) k e ≡ true
own_drawn e flat k a b =
    drawn-is e flat (across e) (stands_at e) k refl
    ∙ rw (eq-eqb (stands_at e) (stands_at e) refl, le-leb (low e) k a, lt-ltb k (high e) b)

alone : (e : Link Corner) (es : List (Link Corner)) → both e ≡ false → ((a : Axis) (p k : ℕ) → strokes a p k (e ∷ es) ≤ 1)
    → (k : ℕ) → low e ≤ k → k < high e → on_top (across e) (stands_at e) k es ≡ true
unfolding on_top strokes sum_of
alone e es flat few k a b = go (any (drawn_over (across e) (stands_at e) k) es) refl
  where
    go : (t : Bool) → any (drawn_over (across e) (stands_at e) k) es ≡ t → not t ≡ true
    go false z = refl
    go true z =
        absurd
        (omega (
          arith,
          few (across e) (stands_at e) k,
          ap (λ b. only b 1) (own_drawn e flat k a b),
          any_some (drawn_over (across e) (stands_at e) k) es z,
        ))

and-true : (b t : Bool) → t ≡ true → only (b && t) 1 ≡ only b 1
and-true true true h = refl
and-true false true h = refl
and-true b false h = absurd (true≢false (sym h))

module _ (F : ℕ → ℕ → Bool) (l : List Shot) (q : Landing) where
  edge-added : (e : Link Corner) (es : List (Link Corner)) → both e ≡ false → ((a : Axis) (p k : ℕ) → strokes a p k (e ∷ es) ≤ 1)
      → over (low e) (high e) (λ k. only (alike (landing (across e) F l (stands_at e) k) q && on_top (across e) (stands_at e) k es) 1)
      ≡ run_length q (edge_runs F l e)
  unfolding edge_runs low high low_along high_along
  edge-added e es flat few =
      let z : high e ≡ low e + (high e - low e) = omega arith in
      sum.over-same (low e) (high e) _ (λ k. only (alike (landing (across e) F l (stands_at e) k) q) 1)
      (λ k a b. and-true (alike (landing (across e) F l (stands_at e) k) q) (on_top (across e) (stands_at e) k es) (alone e es flat few k a b))
      ∙ ap (λ m. over (low e) m (λ k. only (alike (landing (across e) F l (stands_at e) k) q) 1)) z
      ∙ stretches_run (landing (across e) F l (stands_at e)) q (low e) (high e - low e)

  fewer : (e : Link Corner) (es : List (Link Corner)) → ((a : Axis) (p k : ℕ) → strokes a p k (e ∷ es) ≤ 1) → (a : Axis) (p k : ℕ) → strokes a p k es ≤ 1
  unfolding strokes sum_of
  fewer e es few a p k = omega (arith, few a p k)

  all-added : (es : List (Link Corner)) → All (λ e. both e ≡ false) es → ((a : Axis) (p k : ℕ) → strokes a p k es ≤ 1)
      → owned (λ a p k. alike (landing a F l p k) q) es ≡ sum_of (λ e. run_length q (edge_runs F l e)) es
  unfolding owned sum_of
  all-added [] flat few = refl
  all-added (e ∷ es) flat few = ap₂ ◌+◌ (edge-added e es flat.0 few) (all-added es flat.1 (fewer e es few))

pub lengths-added : (f : Figure) → All (λ r. slanted r ≡ false) (rings f) → ((a : Axis) (p k : ℕ) → strokes a p k (numbered f) ≤ 1)
    → (l : List Shot) (n c : ℕ)
    → length_on n c (inside_at f) l (numbered f)
    ≡ sum_of (λ e. run_length (record { shot = n; side = c }) (edge_runs (inside_at f) l e)) (numbered f)
unfolding length_on
lengths-added f flat few l n c = all-added (inside_at f) l (record { shot = n; side = c }) (numbered f) (numbered-all f flat) few

-- Where a side of the figure is drawn

odd-some : (n : ℕ) → odd n ≡ true → 1 ≤ n
unfolding odd
odd-some zero h = absurd (true≢false (sym h))
odd-some (suc n) h = omega arith

pub wall-drawn : (f : Figure) → Right f → (a : Axis) (p k : ℕ) → (facing a (inside_at f) p k ≡ 0 → ⊥) → 1 ≤ strokes a p k (numbered f)
wall-drawn f good a p k h =
    odd-some (strokes a p k (numbered f)) (walls_are_edges f good a p k ∙ ap not (ne_eqb (facing a (inside_at f) p k) 0 h))

-- a side where exactly one of the two squares is inside
low-side : (a : Axis) (u v : Bool) → exposed u v ≡ true → cond (exposed u v) (low_side a) (cond (exposed v u) (high_side a) 0) ≡ 0 → ⊥
unfolding exposed
low-side X true false h z = absurd (omega arith)
low-side Y true false h z = absurd (omega arith)
low-side a true true h z = true≢false (sym h)
low-side a false v h z = true≢false (sym h)

high-side : (a : Axis) (u v : Bool) → exposed v u ≡ true → cond (exposed u v) (low_side a) (cond (exposed v u) (high_side a) 0) ≡ 0 → ⊥
unfolding exposed
high-side X false true h z = absurd (omega arith)
high-side Y false true h z = absurd (omega arith)
high-side a true true h z = true≢false (sym h)
high-side a true false h z = true≢false (sym h)
high-side a false false h z = true≢false (sym h)

module _ (f : Figure) (good : Right f) (s : Shot) (inside : (x y : ℕ) → holds x y s ≡ true → inside_at f x y ≡ true) where
  seen-inside : (a : Axis) (p k : ℕ) → seen a (shape s) p k ≡ true → seen a (inside_at f) p k ≡ true
  unfolding shape
  seen-inside X p k h = inside p k h
  seen-inside Y p k h = inside k p h

  beneath-inside : (a : Axis) (p k : ℕ) → beneath a (shape s) p k ≡ true → beneath a (inside_at f) p k ≡ true
  unfolding beneath
  beneath-inside a zero k h = absurd (true≢false (sym h))
  beneath-inside a (suc p) k h = seen-inside a p k h

  one_side : (u v w : Bool) → exposed u w ≡ true → (u ≡ true → v ≡ true) → exposed v w ≡ true
  unfolding exposed
  one_side true true false h k = refl
  one_side true false false h k = absurd (true≢false (sym (k refl)))
  one_side true v true h k = absurd (true≢false (sym h))
  one_side false v w h k = absurd (true≢false (sym h))

  pub exposed-drawn : (a : Axis) (p k : ℕ)
      → ((exposed (beyond a (shape s) p k) (beneath a (inside_at f) p k) ≡ true) → 1 ≤ strokes a p k (numbered f))
      × ((exposed (beneath a (shape s) p k) (beyond a (inside_at f) p k) ≡ true) → 1 ≤ strokes a p k (numbered f))
  unfolding facing beyond
  exposed-drawn a p k = (
    (λ h.
        wall-drawn f good a p k
        (low-side a (seen a (inside_at f) p k) (beneath a (inside_at f) p k)
        (one_side (seen a (shape s) p k) (seen a (inside_at f) p k) (beneath a (inside_at f) p k) h (seen-inside a p k)))),
    (λ h.
        wall-drawn f good a p k
        (high-side a (seen a (inside_at f) p k) (beneath a (inside_at f) p k)
        (one_side (beneath a (shape s) p k) (beneath a (inside_at f) p k) (seen a (inside_at f) p k) h (beneath-inside a p k)))),
  )
