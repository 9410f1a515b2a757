-- Exposed length, edge by edge. Assumes nothing.
--
--   numbered-strokes     == numbered by the corners that they leave, the same edges are drawn over a stretch
--   owned_sum            == what the edges have of a side's stretches, each once
--   left-length, right-length, bottom-length, top-length
--                        == with a list that covers the figure: what the edges have on a side of a shot is its exposed length
use Prim.Native.Nat.{ℕ, suc, ◌+◌, ◌≤◌, ◌<◌, min, max}
use mathlib.Core.Path.{◌≡◌, refl, sym, ◌∙◌, ap, ap₂, subst}
use mathlib.Core.Bool.{Bool, true, false, not, cond, ◌&&◌, ◌||◌, true≢false}
use mathlib.Core.List.{List, [], ◌∷◌, ◌++◌}
use mathlib.Core.Logic.{inl, inr}
use native.Mathlib.Omega.{arith}
use lib.Dec.{leb, ltb, eqb}
use lib.ListN.{length, get_or}
use borrow.Author.Tests.{eqb-true, eq-eqb, ne_eqb, leb-true, ltb-true, le-leb, lt-leb, lt-ltb, le-ltb}
use Rattle.sum.specs.Sum.{only, over, sum_of, join, All}
use Rattle.sum.proofs.Sum as sum
use Rattle.sum.proofs.Lists.{sum_of-append, All-imp, All-join}
use Rattle.figure.specs.declared.Axis.{Axis}
use Rattle.figure.specs.declared.Axis.TheVariants.{X, Y}
use Rattle.figure.specs.Corners.{Corner, Link, coordinate, last, steps, around, edges, any, changes, both, slanted, odd}
use Rattle.figure.specs.Figure.{Figure, rings, edges_of}
use Rattle.figure.specs.Inside.{inside_at}
use Rattle.figure.proofs.Turns.{any-all}
use Rattle.demands.specs.Square.{exposed, left_of, right_of, bottom_of, top_of}
use Rattle.shot.specs.Shot.{Shot}
use Rattle.edge.specs.Edge.{leaving, numbered, other, across, stands_at, low_along, high_along, low, high, drawn_over, strokes, beneath, beyond}
use Rattle.edge.specs.Landing.{low_side, high_side, facing, shape, Landing, landing, alike}
use Rattle.edge.specs.Owned.{on_top, owned, length_on}
use Rattle.edge.proofs.Runs.{alike_same, same_alike}
use Rattle.edge.proofs.Landing.{Covers, wall-odd, wall-lands}
use Rattle.edge.proofs.Sides.{low_end, high_end, in_span, facing-shot}

-- Numbered by the corners that they leave

module _ (f : Link Corner → ℕ) where
  steps-end : (p : Corner) (l : List Corner) (q : Corner)
      → sum_of f (steps p (l ++ q ∷ [])) ≡ sum_of f (steps p l) + f (record { from = last p l; to = q })
  unfolding steps last sum_of
  steps-end p [] q = omega arith
  steps-end p (r ∷ l) q = omega (arith, steps-end r l q)

  leaving_sum : (cs : List Corner) → sum_of f (leaving cs) ≡ sum_of f (edges cs)
  unfolding leaving edges around steps sum_of
  leaving_sum [] = refl
  leaving_sum (s ∷ l) = omega (arith, steps-end s l s)

  rings_sum : (rs : List (List Corner)) → sum_of f (join leaving rs) ≡ sum_of f (join edges rs)
  unfolding join
  rings_sum [] = refl
  rings_sum (r ∷ rs) =
      omega (arith, sum_of-append f (leaving r) (join leaving rs), sum_of-append f (edges r) (join edges rs), leaving_sum r, rings_sum rs)

  pub numbered_sum : (fig : Figure) → sum_of f (numbered fig) ≡ sum_of f (edges_of fig)
  unfolding numbered
  numbered_sum fig = rings_sum (rings fig)

pub numbered-strokes : (a : Axis) (p k : ℕ) (f : Figure) → strokes a p k (numbered f) ≡ strokes a p k (edges_of f)
unfolding strokes
numbered-strokes a p k f = numbered_sum (λ e. only (drawn_over a p k e) 1) f

-- a test that no edge passes, however they are numbered
pub numbered-none : (t : Link Corner → Bool) (f : Figure) → All (λ e. t e ≡ false) (edges_of f) → All (λ e. t e ≡ false) (numbered f)
unfolding sum_of
numbered-none t f h = none (numbered f) (numbered_sum (λ e. only (t e) 1) f ∙ flat (edges_of f) h)
  where
    zero_false : (b : Bool) → only b 1 ≡ 0 → b ≡ false
    zero_false false h = refl
    zero_false true h = absurd (omega arith)

    none : (l : List (Link Corner)) → sum_of (λ e. only (t e) 1) l ≡ 0 → All (λ e. t e ≡ false) l
    none [] h = tt
    none (e ∷ l) h = (zero_false (t e) (omega arith), none l (omega arith))

    flat : (l : List (Link Corner)) → All (λ e. t e ≡ false) l → sum_of (λ e. only (t e) 1) l ≡ 0
    flat [] h = refl
    flat (e ∷ l) h = omega (arith, ap (λ b. only b 1) h.0, flat l h.1)

pub numbered-all : (f : Figure) → All (λ r. slanted r ≡ false) (rings f) → All (λ e. both e ≡ false) (numbered f)
unfolding slanted
numbered-all f h =
    numbered-none both f (All-join (λ e. both e ≡ false) edges (rings f) (All-imp (λ r k. any-all both (edges r) k) (rings f) h))

-- some edge is drawn over a stretch if an odd number is
any-strokes : (a : Axis) (p k : ℕ) (es : List (Link Corner)) → odd (strokes a p k es) ≡ true → any (drawn_over a p k) es ≡ true
unfolding strokes sum_of odd
any-strokes a p k es h = go (any (drawn_over a p k) es) refl
  where
    zeros : (es : List (Link Corner)) → All (λ e. drawn_over a p k e ≡ false) es → strokes a p k es ≡ 0
    zeros [] h = refl
    zeros (e ∷ es) h = omega (arith, ap (λ b. only b 1) h.0, zeros es h.1)

    go : (t : Bool) → any (drawn_over a p k) es ≡ t → t ≡ true
    go true e = refl
    go false e = absurd (true≢false (sym h ∙ ap odd (zeros es (any-all (drawn_over a p k) es e))))

-- Sums over two windows

window : (lo hi n : ℕ) (f : ℕ → ℕ) → hi ≤ n → over lo hi f ≡ over 0 n (λ k. only (leb lo k && ltb k hi) (f k))
window lo hi n f h = elim (sum.le-or hi lo) [
  | inl q ↦ sum.over_none lo hi f q ∙ sym (sum.over_zero 0 n _ (λ k a b. out k q))
  | inr q ↦
      sum.over-same lo hi f (λ k. only (leb lo k && ltb k hi) (f k)) (λ k a b. sym (within k a b))
      ∙ sym (parts q)
]
  where
    g : ℕ → ℕ
    g k = only (leb lo k && ltb k hi) (f k)

    within : (k : ℕ) → lo ≤ k → k < hi → only (leb lo k && ltb k hi) (f k) ≡ f k
    within k a b = rw (le-leb lo k a, lt-ltb k hi b)

    below : (k : ℕ) → k < lo → only (leb lo k && ltb k hi) (f k) ≡ 0
    below k a = rw (lt-leb lo k a)

    above : (k : ℕ) → hi ≤ k → only (leb lo k && ltb k hi) (f k) ≡ 0
    above k a = go (leb lo k)
      where
        go : (t : Bool) → only (t && ltb k hi) (f k) ≡ 0
        go true = rw (le-ltb k hi a)
        go false = refl

    out : (k : ℕ) → hi ≤ lo → only (leb lo k && ltb k hi) (f k) ≡ 0
    out k q = elim (sum.le-or lo k) [
      | inl z ↦ above k (omega arith)
      | inr z ↦ below k z
    ]

    parts : lo < hi → over 0 n (λ k. only (leb lo k && ltb k hi) (f k)) ≡ over lo hi (λ k. only (leb lo k && ltb k hi) (f k))
    parts q =
        omega (
          arith,
          sum.over-cut 0 lo n (λ k. only (leb lo k && ltb k hi) (f k)) (omega arith) (omega arith),
          sum.over-cut lo hi n (λ k. only (leb lo k && ltb k hi) (f k)) (omega arith) h,
          sum.over_zero 0 lo (λ k. only (leb lo k && ltb k hi) (f k)) (λ k a b. below k b),
          sum.over_zero hi n (λ k. only (leb lo k && ltb k hi) (f k)) (λ k a b. above k a),
        )

windows : (lo hi lo' hi' : ℕ) (f f' : ℕ → ℕ)
    → ((k : ℕ) → only (leb lo k && ltb k hi) (f k) ≡ only (leb lo' k && ltb k hi') (f' k)) → over lo hi f ≡ over lo' hi' f'
windows lo hi lo' hi' f f' same =
    window lo hi (hi + hi') f (omega arith)
    ∙ sum.over-same 0 (hi + hi') _ _ (λ k a b. same k)
    ∙ sym (window lo' hi' (hi + hi') f' (omega arith))

-- The stretches of an edge

leb_ltb : (k m : ℕ) → leb (suc k) m ≡ ltb k m
leb_ltb k m = elim (sum.le-or m k) [
  | inl q ↦ lt-leb (suc k) m (omega arith) ∙ sym (le-ltb k m q)
  | inr q ↦ le-leb (suc k) m q ∙ sym (lt-ltb k m q)
]

and_split : (s t : Bool) → (s && t) ≡ true → (s ≡ true) × (t ≡ true)
and_split true true h = (refl, refl)
and_split true false h = absurd (true≢false (sym h))
and_split false t h = absurd (true≢false (sym h))

module _ (e : Link Corner) (flat : both e ≡ false) where
  -- it does not change the coordinate along the axis that it stands across
  still : (a : Axis) → across e ≡ a → changes a e ≡ false
  unfolding across both
  still = go (changes X e) refl (changes Y e) refl flat
    where
      go : (s : Bool) → changes X e ≡ s → (t : Bool) → changes Y e ≡ t → (s && t) ≡ false → (a : Axis) → cond s Y X ≡ a → changes a e ≡ false
      go true p true q h a z = absurd (true≢false h)
      go true p false q h a z = subst (λ a. changes a e ≡ false) z q
      go false p t q h a z = subst (λ a. changes a e ≡ false) z p

  pub drawn-is : (a : Axis) (p k : ℕ) → across e ≡ a → drawn_over a p k e ≡ (eqb (stands_at e) p && (leb (low e) k && ltb k (high e)))
  unfolding drawn_over stands_at low high
  drawn-is a p k z =
      ap (λ t. not t && (eqb (coordinate a e.to) p && (leb (low_along (other a) e) k && leb (suc k) (high_along (other a) e)))) (still a z)
      ∙ ap (λ a. eqb (coordinate a e.to) p && (leb (low_along (other a) e) k && leb (suc k) (high_along (other a) e))) (sym z)
      ∙ ap (λ t. eqb (coordinate (across e) e.to) p && (leb (low_along (other (across e)) e) k && t)) (leb_ltb k (high_along (other (across e)) e))

  drawn_axis : (a : Axis) (p k : ℕ) → drawn_over a p k e ≡ true → across e ≡ a
  unfolding drawn_over across
  drawn_axis X p k h = go (changes X e) (and_split _ _ h).0
    where
      go : (t : Bool) → not t ≡ true → cond t Y X ≡ X
      go true h = absurd (true≢false (sym h))
      go false h = refl
  drawn_axis Y p k h =
      ap (λ t. cond t Y X)
      (changed
      (and_split (eqb (coordinate Y e.to) p) (leb (low_along X e) k && leb (suc k) (high_along X e))
      (and_split (not (changes Y e)) (eqb (coordinate Y e.to) p && (leb (low_along X e) k && leb (suc k) (high_along X e))) h).1
      ).1)
    where
      differ : (u v : ℕ) → min u v ≤ k → suc k ≤ max u v → not (eqb u v) ≡ true
      differ u v a b = ap not (ne_eqb u v (λ z. omega arith))

      changed : (leb (low_along X e) k && leb (suc k) (high_along X e)) ≡ true → changes X e ≡ true
      changed h =
          unfold changes coordinate low_along high_along in
          differ e.from.x e.to.x
          (leb-true (min e.from.x e.to.x) k (and_split (leb (min e.from.x e.to.x) k) (leb (suc k) (max e.from.x e.to.x)) h).0)
          (leb-true (suc k) (max e.from.x e.to.x) (and_split (leb (min e.from.x e.to.x) k) (leb (suc k) (max e.from.x e.to.x)) h).1)

-- What the edges have of stretches at one place, each once

module _ (P : Axis → ℕ → ℕ → Bool) (a : Axis) (p lo hi : ℕ)
    (there : (b : Axis) (q k : ℕ) → P b q k ≡ true → (b ≡ a) × (q ≡ p) × (lo ≤ k) × (k < hi)) where
  one-edge : (e : Link Corner) (es : List (Link Corner)) (k : ℕ) → both e ≡ false
      → only (leb (low e) k && ltb k (high e)) (only (P (across e) (stands_at e) k && on_top (across e) (stands_at e) k es) 1)
      ≡ only (leb lo k && ltb k hi) (only (P a p k && (drawn_over a p k e && not (any (drawn_over a p k) es))) 1)
  one-edge e es k flat = go (P (across e) (stands_at e) k) refl
    where
      w : Bool
      w = leb (low e) k && ltb k (high e)

      t : Bool
      t = not (any (drawn_over a p k) es)

      empty : (w : Bool) → only w 0 ≡ 0
      empty true = refl
      empty false = refl

      yes : (w t : Bool) → only w (only t 1) ≡ only (w && t) 1
      yes true t = refl
      yes false t = refl

      no : (d : Bool) → drawn_over a p k e ≡ d → P (across e) (stands_at e) k ≡ false → (b : Bool) → P a p k ≡ b → only (b && (d && t)) 1 ≡ 0
      no d q h false r = refl
      no false q h true r = refl
      no true q h true r = absurd (true≢false (sym r ∙ ap₂ (λ b s. P b s k) (sym z) (sym (stands z)) ∙ h))
        where
          z : across e ≡ a
          z = drawn_axis e flat a p k q

          stands : across e ≡ a → stands_at e ≡ p
          stands z = eqb-true (stands_at e) p (and_split (eqb (stands_at e) p) (leb (low e) k && ltb k (high e)) (sym (drawn-is e flat a p k z) ∙ q)).0

      go : (b : Bool) → P (across e) (stands_at e) k ≡ b
          → only w (only (b && on_top (across e) (stands_at e) k es) 1)
          ≡ only (leb lo k && ltb k hi) (only (P a p k && (drawn_over a p k e && t)) 1)
      go false h = empty w ∙ sym (ap (only (leb lo k && ltb k hi)) (no (drawn_over a p k e) refl h (P a p k) refl) ∙ empty (leb lo k && ltb k hi))
      go true h =
          let s = there (across e) (stands_at e) k h in
          let here : P a p k ≡ true = ap₂ (λ b q. P b q k) (sym s.0) (sym s.1) ∙ h in
          let drawn : drawn_over a p k e ≡ w = drawn-is e flat a p k s.0 ∙ ap (λ b. b && w) (eq-eqb (stands_at e) p s.1) in
          let top : on_top (across e) (stands_at e) k es ≡ t = ap₂ (λ b q. on_top b q k es) s.0 s.1 ∙ (unfold on_top in refl) in
          ap (λ b. only w (only b 1)) top
          ∙ yes w t
          ∙ sym (rw (le-leb lo k s.2, lt-ltb k hi s.3, here, drawn))

  three : (b d n : Bool) → only (b && (d || n)) 1 ≡ only (b && (d && not n)) 1 + only (b && n) 1
  three true true true = refl
  three true true false = refl
  three true false true = refl
  three true false false = refl
  three false d n = refl

  pub owned_sum : (es : List (Link Corner)) → All (λ e. both e ≡ false) es
      → owned P es ≡ over lo hi (λ k. only (P a p k && any (drawn_over a p k) es) 1)
  unfolding owned any
  owned_sum [] h = sym (sum.over_zero lo hi _ (λ k q r. none (P a p k)))
    where
      none : (b : Bool) → only (b && false) 1 ≡ 0
      none true = refl
      none false = refl
  owned_sum (e ∷ es) h =
      ap₂ ◌+◌ (windows (low e) (high e) lo hi _ (λ k. only (P a p k && (drawn_over a p k e && not (any (drawn_over a p k) es))) 1) (λ k. one-edge e es k h.0))
      (owned_sum es h.1)
      ∙ sym (sum.over_add lo hi (λ k. only (P a p k && (drawn_over a p k e && not (any (drawn_over a p k) es))) 1) (λ k. only (P a p k && any (drawn_over a p k) es) 1))
      ∙ sym (sum.over-same lo hi _ _ (λ k q r. three (P a p k) (drawn_over a p k e) (any (drawn_over a p k) es)))

-- The side told by the two squares

low_told : (a b : Axis) (u v : Bool) → cond (exposed u v) (low_side b) (cond (exposed v u) (high_side b) 0) ≡ low_side a
    → (b ≡ a) × (u ≡ true) × (v ≡ false)
unfolding exposed
low_told X X true true h = absurd (omega arith)
low_told X X true false h = (refl, refl, refl)
low_told X X false true h = absurd (omega arith)
low_told X X false false h = absurd (omega arith)
low_told X Y true true h = absurd (omega arith)
low_told X Y true false h = absurd (omega arith)
low_told X Y false true h = absurd (omega arith)
low_told X Y false false h = absurd (omega arith)
low_told Y X true true h = absurd (omega arith)
low_told Y X true false h = absurd (omega arith)
low_told Y X false true h = absurd (omega arith)
low_told Y X false false h = absurd (omega arith)
low_told Y Y true true h = absurd (omega arith)
low_told Y Y true false h = (refl, refl, refl)
low_told Y Y false true h = absurd (omega arith)
low_told Y Y false false h = absurd (omega arith)

high-told : (a b : Axis) (u v : Bool) → cond (exposed u v) (low_side b) (cond (exposed v u) (high_side b) 0) ≡ high_side a
    → (b ≡ a) × (u ≡ false) × (v ≡ true)
unfolding exposed
high-told X X true true h = absurd (omega arith)
high-told X X true false h = absurd (omega arith)
high-told X X false true h = (refl, refl, refl)
high-told X X false false h = absurd (omega arith)
high-told X Y true true h = absurd (omega arith)
high-told X Y true false h = absurd (omega arith)
high-told X Y false true h = absurd (omega arith)
high-told X Y false false h = absurd (omega arith)
high-told Y X true true h = absurd (omega arith)
high-told Y X true false h = absurd (omega arith)
high-told Y X false true h = absurd (omega arith)
high-told Y X false false h = absurd (omega arith)
high-told Y Y true true h = absurd (omega arith)
high-told Y Y true false h = absurd (omega arith)
high-told Y Y false true h = (refl, refl, refl)
high-told Y Y false false h = absurd (omega arith)

sides-some : (a : Axis) → (low_side a ≡ 0 → ⊥) × (high_side a ≡ 0 → ⊥) × (low_side a ≡ high_side a → ⊥)
sides-some X = ((λ z. omega arith), (λ z. omega arith), (λ z. omega arith))
sides-some Y = ((λ z. omega arith), (λ z. omega arith), (λ z. omega arith))

bare : exposed true false ≡ true
unfolding exposed
bare = refl

-- a stretch on the side of a shot, by the shot's four numbers
low-side : (a : Axis) (s : Shot) (q k : ℕ) → low_end a s < high_end a s → facing a (shape s) q k ≡ low_side a
    → (q ≡ low_end a s) × (low_end (other a) s ≤ k) × (k < high_end (other a) s)
low-side a s q k some h =
    go (leb (low_end (other a) s) k) refl (ltb k (high_end (other a) s)) refl (eqb (low_end a s) q) refl (eqb (high_end a s) q) (sym (facing-shot a s q k some) ∙ h)
  where
    go : (t : Bool) → leb (low_end (other a) s) k ≡ t → (u : Bool) → ltb k (high_end (other a) s) ≡ u → (v : Bool) → eqb (low_end a s) q ≡ v → (w : Bool)
        → cond (t && u) (cond v (low_side a) (cond w (high_side a) 0)) 0 ≡ low_side a
        → (q ≡ low_end a s) × (low_end (other a) s ≤ k) × (k < high_end (other a) s)
    go true e true f true g w h = (sym (eqb-true _ _ g), leb-true _ _ e, ltb-true _ _ f)
    go true e true f false g true h = absurd ((sides-some a).2 (sym h))
    go true e true f false g false h = absurd ((sides-some a).0 (sym h))
    go true e false f v g w h = absurd ((sides-some a).0 (sym h))
    go false e u f v g w h = absurd ((sides-some a).0 (sym h))

high-side : (a : Axis) (s : Shot) (q k : ℕ) → low_end a s < high_end a s → facing a (shape s) q k ≡ high_side a
    → (q ≡ high_end a s) × (low_end (other a) s ≤ k) × (k < high_end (other a) s)
high-side a s q k some h =
    go (leb (low_end (other a) s) k) refl (ltb k (high_end (other a) s)) refl (eqb (low_end a s) q) (eqb (high_end a s) q) refl (sym (facing-shot a s q k some) ∙ h)
  where
    go : (t : Bool) → leb (low_end (other a) s) k ≡ t → (u : Bool) → ltb k (high_end (other a) s) ≡ u → (v : Bool) → (w : Bool) → eqb (high_end a s) q ≡ w
        → cond (t && u) (cond v (low_side a) (cond w (high_side a) 0)) 0 ≡ high_side a
        → (q ≡ high_end a s) × (low_end (other a) s ≤ k) × (k < high_end (other a) s)
    go true e true f true w g h = absurd ((sides-some a).2 h)
    go true e true f false true g h = (sym (eqb-true _ _ g), leb-true _ _ e, ltb-true _ _ f)
    go true e true f false false g h = absurd ((sides-some a).1 (sym h))
    go true e false f v w g h = absurd ((sides-some a).1 (sym h))
    go false e u f v w g h = absurd ((sides-some a).1 (sym h))

-- The side c of the shot i of a list that covers the figure

module _ (fig : Figure) (none : All (λ r. slanted r ≡ false) (rings fig)) (l : List Shot) (covers : Covers (inside_at fig) l)
    (d : Shot) (i : ℕ) (listed : i < length l) where
  abbrev F : ℕ → ℕ → Bool
  F = inside_at fig

  abbrev s : Shot
  s = get_or l i d

  module _ (a : Axis) (c p lo hi : ℕ) (ex : ℕ → Bool)
      (some : c ≡ 0 → ⊥)
      (axis : (b : Axis) (q k : ℕ) → facing b F q k ≡ c → b ≡ a)
      (side : (q k : ℕ) → facing a (shape s) q k ≡ c → (q ≡ p) × (lo ≤ k) × (k < hi))
      (has : (k : ℕ) → lo ≤ k → k < hi → facing a (shape s) p k ≡ c)
      (shown : (k : ℕ) → ex k ≡ true → facing a F p k ≡ c)
      (hidden : (k : ℕ) → ex k ≡ false → facing a F p k ≡ c → ⊥) where
    aim : Landing
    aim = record { shot = suc i; side = c }

    ends : Axis → ℕ → ℕ → Bool
    ends b q k = alike (landing b F l q k) aim

    to-side : (b : Axis) (q k : ℕ) → ends b q k ≡ true → facing b F q k ≡ c
    unfolding ends aim landing
    to-side b q k h = ap (λ m. m.side) (alike_same (landing b F l q k) aim h)

    to-shot : (b : Axis) (q k : ℕ) → ends b q k ≡ true → (landing b F l q k).shot ≡ suc i
    unfolding ends aim
    to-shot b q k h = ap (λ m. m.shot) (alike_same (landing b F l q k) aim h)

    there : (b : Axis) (q k : ℕ) → ends b q k ≡ true → (b ≡ a) × (q ≡ p) × (lo ≤ k) × (k < hi)
    there b q k h =
        let f = to-side b q k h in
        let m = wall-lands F l covers b q k d (λ z. some (sym f ∙ z)) in
        let j : m.0 ≡ i = omega (arith, m.2, to-shot b q k h) in
        let z = axis b q k f in
        let w = side q k (ap (λ b. facing b (shape s) q k) (sym z) ∙ ap (λ n. facing b (shape (get_or l n d)) q k) (sym j) ∙ m.3 ∙ f) in
        (z, w.0, w.1, w.2)

    exposed-ends : (k : ℕ) → lo ≤ k → k < hi → ends a p k ≡ ex k
    unfolding ends aim landing
    exposed-ends k u v = go (ex k) refl
      where
        go : (b : Bool) → ex k ≡ b → ends a p k ≡ b
        go true e =
            let f = shown k e in
            let m = wall-lands F l covers a p k d (λ z. some (sym f ∙ z)) in
            let j = m.4 i listed (has k u v ∙ sym f) in
            same_alike (landing a F l p k) aim (λ t. record { shot = (m.2 ∙ ap suc (sym j)) t; side = f t })
        go false e = no (ends a p k) refl
          where
            no : (b : Bool) → ends a p k ≡ b → b ≡ false
            no false r = refl
            no true r = absurd (hidden k e (to-side a p k r))

    on_edge : (k : ℕ) → ends a p k ≡ true → any (drawn_over a p k) (numbered fig) ≡ true
    on_edge k h =
        any-strokes a p k (numbered fig)
        (ap odd (numbered-strokes a p k fig)
        ∙ wall-odd fig none a p k
        ∙ ap not (ne_eqb (facing a F p k) 0 (λ z. some (sym (to-side a p k h) ∙ z))))

    pub side-length : length_on (suc i) c F l (numbered fig) ≡ over lo hi (λ k. only (ex k) 1)
    unfolding length_on ends aim
    side-length =
        owned_sum ends a p lo hi there (numbered fig) (numbered-all fig none)
        ∙ sum.over-same lo hi _ (λ k. only (ex k) 1) (λ k u v. ap (λ b. only b 1) (go k (ends a p k) refl ∙ exposed-ends k u v))
      where
        go : (k : ℕ) (b : Bool) → ends a p k ≡ b → (ends a p k && any (drawn_over a p k) (numbered fig)) ≡ ends a p k
        go k true e = ap₂ ◌&&◌ e (on_edge k e) ∙ sym e
        go k false e = ap (λ b. b && any (drawn_over a p k) (numbered fig)) e ∙ sym e

  module _ (a : Axis) (wide : low_end a s < high_end a s) where
    pub low-length : length_on (suc i) (low_side a) F l (numbered fig)
        ≡ over (low_end (other a) s) (high_end (other a) s) (λ k. only (exposed (beyond a F (low_end a s) k) (beneath a F (low_end a s) k)) 1)
    unfolding facing
    low-length =
        side-length a (low_side a) (low_end a s) (low_end (other a) s) (high_end (other a) s)
        (λ k. exposed (beyond a F (low_end a s) k) (beneath a F (low_end a s) k))
        (sides-some a).0
        (λ b q k h. (low_told a b (beyond b F q k) (beneath b F q k) h).0)
        (λ q k h. low-side a s q k wide h)
        (λ k u v. facing-shot a s (low_end a s) k wide ∙ at k u v)
        (λ k e. ap (λ t. cond t (low_side a) (cond (exposed (beneath a F (low_end a s) k) (beyond a F (low_end a s) k)) (high_side a) 0)) e)
        (λ k e h. no (beyond a F (low_end a s) k) (beneath a F (low_end a s) k) e h)
      where
        at : (k : ℕ) → low_end (other a) s ≤ k → k < high_end (other a) s
            → cond (in_span a s k) (cond (eqb (low_end a s) (low_end a s)) (low_side a) (cond (eqb (high_end a s) (low_end a s)) (high_side a) 0)) 0 ≡ low_side a
        at k u v = rw (le-leb (low_end (other a) s) k u, lt-ltb k (high_end (other a) s) v, eq-eqb (low_end a s) (low_end a s) refl)

        no : (u v : Bool) → exposed u v ≡ false → cond (exposed u v) (low_side a) (cond (exposed v u) (high_side a) 0) ≡ low_side a → ⊥
        no u v e h =
            let t = low_told a a u v h in
            true≢false (sym bare ∙ sym (ap₂ exposed t.1 t.2) ∙ e)

    pub high-length : length_on (suc i) (high_side a) F l (numbered fig)
        ≡ over (low_end (other a) s) (high_end (other a) s) (λ k. only (exposed (beneath a F (high_end a s) k) (beyond a F (high_end a s) k)) 1)
    unfolding facing
    high-length =
        side-length a (high_side a) (high_end a s) (low_end (other a) s) (high_end (other a) s)
        (λ k. exposed (beneath a F (high_end a s) k) (beyond a F (high_end a s) k))
        (sides-some a).1
        (λ b q k h. (high-told a b (beyond b F q k) (beneath b F q k) h).0)
        (λ q k h. high-side a s q k wide h)
        (λ k u v. facing-shot a s (high_end a s) k wide ∙ at k u v)
        (λ k e. yes (beyond a F (high_end a s) k) (beneath a F (high_end a s) k) e)
        (λ k e h. no (beyond a F (high_end a s) k) (beneath a F (high_end a s) k) e h)
      where
        at : (k : ℕ) → low_end (other a) s ≤ k → k < high_end (other a) s
            → cond (in_span a s k) (cond (eqb (low_end a s) (high_end a s)) (low_side a) (cond (eqb (high_end a s) (high_end a s)) (high_side a) 0)) 0 ≡ high_side a
        at k u v =
            rw (
              le-leb (low_end (other a) s) k u,
              lt-ltb k (high_end (other a) s) v,
              ne_eqb (low_end a s) (high_end a s) (λ z. omega arith),
              eq-eqb (high_end a s) (high_end a s) refl,
            )

        yes : (u v : Bool) → exposed v u ≡ true → cond (exposed u v) (low_side a) (cond (exposed v u) (high_side a) 0) ≡ high_side a
        yes false true e = unfold exposed in refl
        yes true true e = absurd (true≢false (sym e ∙ (unfold exposed in refl)))
        yes true false e = absurd (true≢false (sym e ∙ (unfold exposed in refl)))
        yes false false e = absurd (true≢false (sym e ∙ (unfold exposed in refl)))

        no : (u v : Bool) → exposed v u ≡ false → cond (exposed u v) (low_side a) (cond (exposed v u) (high_side a) 0) ≡ high_side a → ⊥
        no u v e h =
            let t = high-told a a u v h in
            true≢false (sym bare ∙ sym (ap₂ exposed t.2 t.1) ∙ e)

  module _ (wide : s.xlow < s.xhigh) (tall : s.ylow < s.yhigh) where
    pub left-length : length_on (suc i) 1 F l (numbered fig) ≡ left_of F s
    unfolding left_of beyond beneath
    left-length = low-length X wide

    pub right-length : length_on (suc i) 2 F l (numbered fig) ≡ right_of F s
    unfolding right_of beyond beneath
    right-length = high-length X wide

    pub bottom-length : length_on (suc i) 3 F l (numbered fig) ≡ bottom_of F s
    unfolding bottom_of beyond beneath
    bottom-length = low-length Y tall

    pub top-length : length_on (suc i) 4 F l (numbered fig) ≡ top_of F s
    unfolding top_of beyond beneath
    top-length = high-length Y tall
