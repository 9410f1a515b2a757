-- The edges of an accepted figure: its walls, its runs, and the shots of its own fracture. Assumes nothing.
--
-- Of a figure that passes 2, 3 and 4
--   walls_are_edges      == whatever the drawing: an odd number of edges is drawn over a stretch exactly if it lies on a side of the figure
--   runs-any-list        == with any list of shots that have an extent across the edge, at most 15 runs and two for each shot
-- Of an accepted fracture, in either mode: own are the reported shots
--   own_covers           == they cover the figure: each inside square is in one of them, each other in none
--   own_solid            == none of them is empty, and their ends are coordinates of corners
--   every_wall           == each stretch that lies on a side of the figure ends up on a reported shot, on the same side of it, and no other
--                           reported shot has that side there
--   sides-by-edges       == what the edges have on each side of a reported shot, each stretch had once, is that side's exposed length
--   slivers_by-edges     == so its sliver length is told by the edges
--   runs_fifteen         == at most 15 runs for each edge
use Prim.Native.Nat.{ℕ, zero, suc, ◌+◌, ◌*◌, ◌-◌, ◌≤◌, ◌<◌, min, max}
use mathlib.Core.Path.{◌≡◌, refl, sym, ◌∙◌, ap, ap₂, subst}
use mathlib.Core.Bool.{Bool, true, false, not, cond, ◌&&◌, true≢false}
use mathlib.Core.List.{List, [], ◌∷◌, ◌++◌, map, Memᴰ as Member}
use mathlib.Core.Logic.{inl, inr}
use native.Mathlib.Omega.{arith}
use lib.Dec.{eqb}
use lib.ListN.{length, get_or}
use borrow.Author.Tests.{eq-eqb}
use Rattle.sum.specs.Sum.{join, All}
use Rattle.sum.proofs.Sum as sum
use Rattle.sum.proofs.Lists.{All-imp, All-append, All-join, All-map, All-parts, All-at}
use Rattle.rule.specs.Charge.{sliver_of}
use Rattle.figure.specs.declared.Axis.{Axis}
use Rattle.figure.specs.declared.Axis.TheVariants.{X, Y}
use Rattle.figure.specs.Corners.{Corner, Link, coordinate, steps, changes, neither, alike as bends, any, odd, slanted}
use Rattle.figure.specs.Figure.{Figure, rings, corners_of, edges_of, turns_of}
use Rattle.figure.specs.Inside.{inside_at}
use Rattle.figure.specs.Steps.{Right}
use Rattle.figure.proofs.Turns.{any-all, or-false}
use Rattle.figure.proofs.Inside.{min-max}
use Rattle.figure.proofs.Together.{unturned-all}
use Rattle.outline.specs.Lines.{lines, rising, Up}
use Rattle.outline.specs.Grid.{Sound}
use Rattle.outline.proofs.Lines.{rising-lines}
use Rattle.outline.proofs.Marking.{right-lines}
use Rattle.outline.proofs.Inside.{lines-up, corners-lines}
use Rattle.piece.specs.Piece.{Piece, frame, rectangle}
use Rattle.piece.specs.Cuts.{shots}
use Rattle.piece.proofs.Cuts.{Part, shots-part}
use Rattle.shot.specs.Shot.{Shot}
use Rattle.demands.specs.Promise.{Asked, drawn, rule_of, frame_shots, outcome}
use Rattle.demands.specs.Demands.{Words, reported}
use Rattle.demands.specs.Square.{shot_sliver, left_of, right_of, bottom_of, top_of}
use Rattle.demands.specs.Ways.{On}
use Rattle.demands.proofs.Ways.{Lined}
use Rattle.demands.proofs.Accepted.{right, sound, lined}
use Rattle.demands.proofs.Demands.{cover, reported-is}
use Rattle.edge.specs.Edge.{leaving, numbered, other, across, low_along, high_along, low, high, strokes}
use Rattle.edge.specs.Landing.{facing, shape, landing, edge_runs}
use Rattle.edge.specs.Owned.{length_on}
use Rattle.edge.proofs.Landing.{Covers, wall-odd, wall-lands}
use Rattle.edge.proofs.Sides.{low_end, high_end}
use Rattle.edge.proofs.Few.{runs-few, runs-any}
use Rattle.edge.proofs.Owned.{numbered-strokes, numbered-none, left-length, right-length, bottom-length, top-length}

-- places in a rising list
module _ {A : Type 0} where
  member_get : (d : A) (l : List A) (v : A) → Member v l → (i : ℕ) × (i < length l) × (get_or l i d ≡ v)
  member_get d [] v x' = elim x' [ ]
  member_get d (u ∷ l) v (Member.head e) = (0, omega arith, sym e)
  member_get d (u ∷ l) v (Member.tail m) = let i = member_get d l v m in (suc i.0, omega (arith, i.1), i.2)

  pub get_member : (d : A) (l : List A) (i : ℕ) → i < length l → Member (get_or l i d) l
  get_member d [] i h = absurd (omega arith)
  get_member d (u ∷ l) zero h = Member.head refl
  get_member d (u ∷ l) (suc i) h = Member.tail (get_member d l i (omega arith))

up_get : (l : List ℕ) → Up l → (i j : ℕ) → j ≤ i → i < length l → get_or l j 0 ≤ get_or l i 0
up_get [] u i j h k = absurd (omega arith)
up_get (v ∷ l) u zero zero h k = omega arith
up_get (v ∷ l) u zero (suc j) h k = absurd (omega arith)
up_get (v ∷ l) u (suc i) zero h k =
    let z = All-at (λ w. v < w) (get_member 0 l i (omega arith)) u.0 in omega arith
up_get (v ∷ l) u (suc i) (suc j) h k = up_get l u.1 i j (omega arith) (omega arith)

-- the ends of the edges are corners
module _ {A : Type 0} (Q : A → Type 0) where
  steps-ends : (p : A) (l : List A) → Q p → All Q l → All (λ e. Q e.from × Q e.to) (steps p l)
  unfolding steps
  steps-ends p [] h k = tt
  steps-ends p (q ∷ l) h k = ((h, k.0), steps-ends q l k.0 k.1)

leaving-ends : (Q : Corner → Type 0) (cs : List Corner) → All Q cs → All (λ e. Q e.from × Q e.to) (leaving cs)
unfolding leaving
leaving-ends Q [] h = tt
leaving-ends Q (s ∷ l) h = steps-ends Q s (l ++ s ∷ []) h.0 (All-append Q l (s ∷ []) h.1 (h.0, tt))

-- an edge that changes a coordinate has a low end and a high end, and they are coordinates of its corners
edge-long : (e : Link Corner) → neither e ≡ false → low e < high e
unfolding neither low high across
edge-long e = go (changes X e) refl (changes Y e) refl
  where
    differ : (a : Axis) → changes a e ≡ true → low_along a e < high_along a e
    differ a h = unfold changes low_along high_along in apart (coordinate a e.from) (coordinate a e.to) h
      where
        apart : (u v : ℕ) → not (eqb u v) ≡ true → min u v < max u v
        apart u v h = elim (sum.le-or v u) [
          | inl q ↦ elim (sum.le-or u v) [
            | inl z ↦ absurd (true≢false (sym h ∙ ap not (eq-eqb u v (omega arith))))
            | inr z ↦ omega arith
          ]
          | inr q ↦ omega arith
        ]

    go : (s : Bool) → changes X e ≡ s → (t : Bool) → changes Y e ≡ t → (not s && not t) ≡ false
        → low_along (other (cond s Y X)) e < high_along (other (cond s Y X)) e
    go true p t q h = differ X p
    go false p true q h = differ Y q
    go false p false q h = absurd (true≢false h)

edge-ends : (Q : ℕ → Type 0) (a : Axis) (e : Link Corner) → Q (coordinate a e.from) → Q (coordinate a e.to) → Q (low_along a e) × Q (high_along a e)
unfolding low_along high_along
edge-ends Q a e h k = min-max Q (coordinate a e.from) (coordinate a e.to) h k

-- what all corners have, all corners of each ring have
rings-all : (Q : Corner → Type 0) (rs : List (List Corner)) → All Q (join (λ r. r) rs) → All (All Q) rs
unfolding join
rings-all Q [] h = tt
rings-all Q (r ∷ rs) h = let k = All-parts Q r (join (λ r. r) rs) h in (k.0, rings-all Q rs k.1)

-- Of a figure that passes 2, 3 and 4
module _ (f : Figure) (good : Right f) where
  abbrev inside : ℕ → ℕ → Bool
  inside = inside_at f

  pub flat : All (λ r. slanted r ≡ false) (rings f)
  flat = any-all slanted (rings f) good.slanted-none

  pub walls_are_edges : (a : Axis) (p k : ℕ) → odd (strokes a p k (numbered f)) ≡ not (eqb (facing a (inside_at f) p k) 0)
  walls_are_edges a p k = ap odd (numbered-strokes a p k f) ∙ wall-odd f flat a p k

  bent : All (λ e. neither e ≡ false) (numbered f)
  bent =
      numbered-none neither f
      (any-all neither (edges_of f)
      (or-false (any neither (edges_of f)) (any bends (turns_of f)) (sym (unturned-all f) ∙ good.unturned-none)).0)

  module _ (e : Link Corner) (m : Member e (numbered f)) where
    abbrev b : Axis
    b = other (across e)

    abbrev ls : List ℕ
    ls = lines b (corners_of f)

    pub long : low e < high e
    long = edge-long e (All-at (λ e. neither e ≡ false) m bent)

    both_on : All (λ e. Member (coordinate b e.from) ls × Member (coordinate b e.to) ls) (numbered f)
    unfolding numbered
    both_on =
        All-join (λ e. Member (coordinate b e.from) ls × Member (coordinate b e.to) ls) leaving (rings f)
        (All-imp (leaving-ends (λ c. Member (coordinate b c) ls)) (rings f) (rings-all (λ c. Member (coordinate b c) ls) (rings f) (corners-lines b (corners_of f))))

    on : Member (low_along b e) ls × Member (high_along b e) ls
    on =
        let q = All-at (λ e. Member (coordinate b e.from) ls × Member (coordinate b e.to) ls) m both_on in
        edge-ends (λ v. Member v ls) b e q.0 q.1

    i : (i : ℕ) × (i < length ls) × (get_or ls i 0 ≡ low e)
    i = unfold low in member_get 0 ls (low_along (other (across e)) e) on.0

    j : (j : ℕ) × (j < length ls) × (get_or ls j 0 ≡ high e)
    j = unfold high in member_get 0 ls (high_along (other (across e)) e) on.1

    before : i.0 < j.0
    before = elim (sum.le-or j.0 i.0) [
      | inl z ↦ absurd (omega (arith, up_get ls (lines-up (other (across e)) (corners_of f)) i.0 j.0 z i.1, i.2, j.2, long))
      | inr z ↦ z
    ]

    -- of a list whose shots begin and end at coordinates of corners
    pub runs-lines : (q : List Shot)
        → All (λ s. (low_end (across e) s < high_end (across e) s) × Member (low_end b s) ls × Member (high_end b s) ls) q
        → length (edge_runs inside q e) ≤ 15
    runs-lines q fit =
        omega (
          arith,
          (right-lines f good b).1,
          runs-few f flat q e ls (corners-lines b (corners_of f)) fit i.0 j.0 before j.1 i.2 j.2 (omega (arith, long)),
        )

    pub runs-any-list : (q : List Shot) → All (λ s. low_end (across e) s < high_end (across e) s) q → length (edge_runs inside q e) ≤ 15 + 2 * length q
    runs-any-list q solid =
        omega (
          arith,
          (right-lines f good b).1,
          runs-any f flat q e ls (corners-lines b (corners_of f)) solid i.0 j.0 before j.1 i.2 j.2 (omega (arith, long)),
        )

-- Of an accepted fracture, in either mode
module _ (ask : Asked) (words : Words ask.figure) (accepted : (outcome ask).number ≡ 0) where
  abbrev F : ℕ → ℕ → Bool
  F = inside_at ask.figure

  abbrev own : List Shot
  own = reported (outcome ask)

  pub own_covers : Covers F own
  own_covers x y = cover ask words accepted x y

  pub record Solid (s : Shot) : Type 0 where
    pub wide : s.xlow < s.xhigh
    pub tall : s.ylow < s.yhigh
    pub left : Member s.xlow (lines X (corners_of ask.figure))
    pub right : Member s.xhigh (lines X (corners_of ask.figure))
    pub bottom : Member s.ylow (lines Y (corners_of ask.figure))
    pub top : Member s.yhigh (lines Y (corners_of ask.figure))

  on_line : (a : Axis) (v : ℕ) → On a (corners_of ask.figure) v → Member v (lines a (corners_of ask.figure))
  unfolding lines
  on_line a v m =
      All-at (λ v. Member v (rising (map (coordinate a) (corners_of ask.figure)))) m (rising-lines (map (coordinate a) (corners_of ask.figure)))

  rises : (f : ℕ → ℕ) (n : ℕ) → ((i : ℕ) → f i ≤ f (suc i)) → ((i : ℕ) → i < n → f i < f (suc i)) → (a c : ℕ) → a < c → c ≤ n → f a < f c
  rises f n up strict a c h k = omega (arith, strict a (omega arith), sum.rise f up (suc a) c h)

  pub own_solid : All Solid own
  own_solid =
      subst (All Solid) (sym (reported-is ask accepted))
      (All-map Solid (rectangle (drawn ask)) (frame_shots ask.mode (drawn ask) (rule_of ask))
      (unfold frame_shots frame in
      All-imp solid (shots ask.mode (drawn ask) (rule_of ask) (frame (drawn ask))) (shots-part ask.mode (drawn ask) (rule_of ask) (frame (drawn ask)))))
    where
      fine : Sound (drawn ask)
      fine = sound ask words (inl accepted)

      on : Lined (drawn ask) (On X (corners_of ask.figure)) (On Y (corners_of ask.figure))
      on = lined ask words (inl accepted)

      solid : (q : Piece) → Part q (frame (drawn ask)) → Solid (rectangle (drawn ask) q)
      solid q h =
          unfold frame in
          (let ac = h.ac in let bd = h.bd in let c = h.c in let d = h.d in
          record {
            wide = rises (drawn ask).x (drawn ask).columns fine.x-up fine.x_rises q.a q.c ac c;
            tall = rises (drawn ask).y (drawn ask).rows fine.y-up fine.y_rises q.b q.d bd d;
            left = on_line X ((drawn ask).x q.a) (on.x_on q.a (omega arith));
            right = on_line X ((drawn ask).x q.c) (on.x_on q.c c);
            bottom = on_line Y ((drawn ask).y q.b) (on.y_on q.b (omega arith));
            top = on_line Y ((drawn ask).y q.d) (on.y_on q.d d);
          })

  good : Right ask.figure
  good = right ask (inl accepted)

  pub every_wall : (d : Shot) (a : Axis) (p k : ℕ) → (facing a F p k ≡ 0 → ⊥)
      → (i : ℕ) × (i < length own) × ((landing a F own p k).shot ≡ suc i) × (facing a (shape (get_or own i d)) p k ≡ facing a F p k)
      × ((j : ℕ) → j < length own → facing a (shape (get_or own j d)) p k ≡ facing a F p k → j ≡ i)
  every_wall d a p k = wall-lands F own own_covers a p k d

  module _ (d : Shot) (i : ℕ) (listed : i < length own) where
    abbrev s : Shot
    s = get_or own i d

    abbrev es : List (Link Corner)
    es = numbered ask.figure

    fit : Solid s
    fit = All-at Solid (get_member d own i listed) own_solid

    pub sides-by-edges : (length_on (suc i) 1 F own es ≡ left_of F s) × (length_on (suc i) 2 F own es ≡ right_of F s)
        × (length_on (suc i) 3 F own es ≡ bottom_of F s) × (length_on (suc i) 4 F own es ≡ top_of F s)
    sides-by-edges =
        let f = flat ask.figure good in (
          left-length ask.figure f own own_covers d i listed fit.wide fit.tall,
          right-length ask.figure f own own_covers d i listed fit.wide fit.tall,
          bottom-length ask.figure f own own_covers d i listed fit.wide fit.tall,
          top-length ask.figure f own own_covers d i listed fit.wide fit.tall,
        )

    pub slivers_by-edges :
        shot_sliver F (rule_of ask) s
        ≡ sliver_of (rule_of ask) (s.xhigh - s.xlow) (s.yhigh - s.ylow)
        (length_on (suc i) 1 F own es + length_on (suc i) 2 F own es)
        (length_on (suc i) 3 F own es + length_on (suc i) 4 F own es)
    unfolding shot_sliver
    slivers_by-edges =
        let q = sides-by-edges in
        sym
        (ap₂ (sliver_of (rule_of ask) (s.xhigh - s.xlow) (s.yhigh - s.ylow)) (ap₂ ◌+◌ q.0 q.1) (ap₂ ◌+◌ q.2 q.3))

  own_lines : (a : Axis) (s : Shot) → Solid s
      → (low_end a s < high_end a s) × Member (low_end (other a) s) (lines (other a) (corners_of ask.figure))
      × Member (high_end (other a) s) (lines (other a) (corners_of ask.figure))
  own_lines X s h = (h.wide, h.bottom, h.top)
  own_lines Y s h = (h.tall, h.left, h.right)

  pub runs_fifteen : (e : Link Corner) → Member e (numbered ask.figure) → length (edge_runs F own e) ≤ 15
  runs_fifteen e m = runs-lines ask.figure good e m own (All-imp (own_lines (across e)) own own_solid)
