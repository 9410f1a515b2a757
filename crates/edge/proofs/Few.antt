-- How many runs there are. Assumes nothing.
--
--   steady               == a stretch ends up like the one before it, unless a corner of the figure or an end of a shot lies at the place
--                           between them
--   runs-few             == fewer runs than there are such places, the ends of the edge among them
--   runs-any             == so, with 16 lines, at most 15 and two for each shot, whatever the list
use Prim.Native.Nat.{ℕ, zero, suc, ◌+◌, ◌*◌, ◌-◌, ◌≤◌, ◌<◌}
use mathlib.Core.Path.{◌≡◌, refl, sym, ◌∙◌, ap, ap₂}
use mathlib.Core.Bool.{Bool, true, false, not, cond, ◌&&◌, true≢false}
use mathlib.Core.List.Memᴰ
use mathlib.Core.List.{List, [], ◌∷◌, ◌++◌, Memᴰ as Member}
use mathlib.Core.Logic.{inl, inr}
use native.Mathlib.Omega.{arith}
use lib.Dec.{leb, ltb, eqb}
use lib.ListN.{length, get_or, length-append, get_or-append}
use borrow.Author.Tests.{eq-eqb, ne_eqb, le-leb, lt-leb, lt-ltb, le-ltb}
use Rattle.sum.specs.Sum.{only, over, sum_of, join, All}
use Rattle.sum.proofs.Sum as sum
use Rattle.sum.proofs.Lists.{sum_of-append, sum_of-same, sum_of-add, sum_of_ones, sum_of-two, sum_of_member, All-imp, All-parts, All-all}
use Rattle.figure.specs.declared.Axis.{Axis}
use Rattle.figure.specs.declared.Axis.TheVariants.{X, Y}
use Rattle.figure.specs.Corners.{Corner, Link, coordinate, around, edges, changes, slanted, odd}
use Rattle.figure.specs.Figure.{Figure, rings, corners_of, edges_of}
use Rattle.figure.specs.Inside.{inside_at}
use Rattle.figure.proofs.Turns.{around-all, All-both}
use Rattle.demands.specs.Square.{prior, exposed}
use Rattle.shot.specs.Shot.{Shot}
use Rattle.edge.specs.Edge.{other, across, stands_at, low_along, high_along, low, high, drawn_over, strokes, seen, beneath, beyond, wall_at}
use Rattle.edge.specs.Landing.{low_side, high_side, facing, shape, first, shot_with, landing, alike, edge_runs}
use Rattle.edge.proofs.Strokes.{strokes-odd}
use Rattle.edge.proofs.Runs.{same_alike, runs-most}
use Rattle.edge.proofs.Sides.{low_end, high_end, facing-shot}

-- two squares with no wall between them
no-wall : (u v : Bool) → wall_at u v ≡ false → u ≡ v
unfolding wall_at exposed
no-wall true true h = refl
no-wall false false h = refl
no-wall true false h = absurd (true≢false h)
no-wall false true h = absurd (true≢false h)

-- the test of a place between two stretches
same_leb : (u j : ℕ) → (u ≡ suc j → ⊥) → leb u j ≡ leb u (suc j)
same_leb u j h = elim (sum.le-or u j) [
  | inl q ↦ le-leb u j q ∙ sym (le-leb u (suc j) (omega arith))
  | inr q ↦ elim (sum.le-or u (suc j)) [
    | inl z ↦ absurd (h (omega arith))
    | inr z ↦ lt-leb u j q ∙ sym (lt-leb u (suc j) z)
  ]
]

same_ltb : (u j : ℕ) → (u ≡ suc j → ⊥) → ltb j u ≡ ltb (suc j) u
same_ltb u j h = elim (sum.le-or u j) [
  | inl q ↦ le-ltb j u q ∙ sym (le-ltb (suc j) u (omega arith))
  | inr q ↦ elim (sum.le-or u (suc j)) [
    | inl z ↦ absurd (h (omega arith))
    | inr z ↦ lt-ltb j u q ∙ sym (lt-ltb (suc j) u z)
  ]
]

pub first-same : (t u : Shot → Bool) (l : List Shot) (n : ℕ) → All (λ s. t s ≡ u s) l → first t l n ≡ first u l n
unfolding first
first-same t u [] n h = refl
first-same t u (s ∷ l) n h = ap₂ (λ b m. cond b n m) h.0 (first-same t u l (suc n) h.1)

module _ (f : Figure) (none : All (λ r. slanted r ≡ false) (rings f)) (l : List Shot) (a : Axis) where
  abbrev F : ℕ → ℕ → Bool
  F = inside_at f

  -- nothing of the figure lies at the place v along the other axis, and no shot begins or ends there
  pub record Off (v : ℕ) : Type 0 where
    pub corners : All (λ c. coordinate (other a) c ≡ v → ⊥) (corners_of f)
    pub shots : All (λ s. (low_end a s < high_end a s) × (low_end (other a) s ≡ v → ⊥) × (high_end (other a) s ≡ v → ⊥)) l

  module _ (j : ℕ) (off : Off (suc j)) where
    no_stroke : (q : ℕ) (e : Link Corner) → (coordinate (other a) e.to ≡ suc j → ⊥) → only (drawn_over (other a) (suc j) q e) 1 ≡ 0
    unfolding drawn_over
    no_stroke q e h = go (not (changes (other a) e)) (ne_eqb (coordinate (other a) e.to) (suc j) h)
      where
        go : (t : Bool) → eqb (coordinate (other a) e.to) (suc j) ≡ false
            → only (t && (eqb (coordinate (other a) e.to) (suc j) && (leb (low_along (other (other a)) e) q && leb (suc q) (high_along (other (other a)) e)))) 1 ≡ 0
        go true h = rw h
        go false h = refl

    no-strokes : (q : ℕ) (es : List (Link Corner))
        → All (λ e. (coordinate (other a) e.from ≡ suc j → ⊥) × (coordinate (other a) e.to ≡ suc j → ⊥)) es
        → sum_of (λ e. only (drawn_over (other a) (suc j) q e) 1) es ≡ 0
    unfolding sum_of
    no-strokes q [] h = refl
    no-strokes q (e ∷ es) h = omega (arith, no_stroke q e h.0.1, no-strokes q es h.1)

    rings_off : (q : ℕ) (rs : List (List Corner)) → All (λ c. coordinate (other a) c ≡ suc j → ⊥) (join (λ r. r) rs)
        → sum_of (λ e. only (drawn_over (other a) (suc j) q e) 1) (join edges rs) ≡ 0
    unfolding join edges sum_of
    rings_off q [] h = refl
    rings_off q (r ∷ rs) h =
        let k = All-parts (λ c. coordinate (other a) c ≡ suc j → ⊥) r (join (λ r. r) rs) h in
        omega (
          arith,
          sum_of-append (λ e. only (drawn_over (other a) (suc j) q e) 1) (edges r) (join edges rs),
          no-strokes q (around r) (around-all (λ c. coordinate (other a) c ≡ suc j → ⊥) r k.0),
          rings_off q rs k.1,
        )

    strokes_off : (q : ℕ) → odd (strokes (other a) (suc j) q (edges_of f)) ≡ false
    unfolding strokes odd
    strokes_off q = ap odd (rings_off q (rings f) off.corners)

    turned : (b : Axis) (G : ℕ → ℕ → Bool) (q k : ℕ) → seen (other b) G k q ≡ seen b G q k
    turned X G q k = refl
    turned Y G q k = refl

    -- the figure is the same in both
    same_seen : (q : ℕ) → seen a F q j ≡ seen a F q (suc j)
    unfolding beneath beyond
    same_seen q =
        sym (turned a F q j)
        ∙ no-wall (seen (other a) F j q) (seen (other a) F (suc j) q) (sym (strokes-odd f none (other a) (suc j) q) ∙ strokes_off q)
        ∙ turned a F q (suc j)

    same-prior : (p : ℕ) → prior (λ q. seen a F q j) p ≡ prior (λ q. seen a F q (suc j)) p
    same-prior zero = refl
    same-prior (suc p) = same_seen p

    same-facing : (p : ℕ) → facing a F p j ≡ facing a F p (suc j)
    unfolding facing beneath beyond
    same-facing p = ap₂ (λ u v. cond (exposed u v) (low_side a) (cond (exposed v u) (high_side a) 0)) (same_seen p) (same-prior p)

    -- so is each shot
    same-shot : (p : ℕ) (s : Shot) → (low_end a s < high_end a s) × (low_end (other a) s ≡ suc j → ⊥) × (high_end (other a) s ≡ suc j → ⊥)
        → facing a (shape s) p j ≡ facing a (shape s) p (suc j)
    same-shot p s h =
        facing-shot a s p j h.0
        ∙ ap₂ (λ u v. cond (u && v) (cond (eqb (low_end a s) p) (low_side a) (cond (eqb (high_end a s) p) (high_side a) 0)) 0)
        (same_leb (low_end (other a) s) j h.1) (same_ltb (high_end (other a) s) j h.2)
        ∙ sym (facing-shot a s p (suc j) h.0)

    pub steady : (p : ℕ) → landing a F l p j ≡ landing a F l p (suc j)
    unfolding landing shot_with
    steady p = λ t. record { shot = shot t; side = same-facing p t }
      where
        shot : cond (eqb (facing a F p j) 0) 0 (first (λ s. eqb (facing a (shape s) p j) (facing a F p j)) l 1)
            ≡ cond (eqb (facing a F p (suc j)) 0) 0 (first (λ s. eqb (facing a (shape s) p (suc j)) (facing a F p (suc j))) l 1)
        shot =
            ap (λ m. cond (eqb (facing a F p j) 0) 0 m)
            (first-same _ (λ s. eqb (facing a (shape s) p (suc j)) (facing a F p j)) l 1
            (All-imp (λ s h. ap (λ n. eqb n (facing a F p j)) (same-shot p s h)) l off.shots))
            ∙ ap (λ c. cond (eqb c 0) 0 (first (λ s. eqb (facing a (shape s) p (suc j)) c) l 1)) (same-facing p)

-- How many numbers of a list lie between two places

module _ (ls : List ℕ) where
  marks : ℕ → ℕ
  marks v = sum_of (λ u. only (eqb v u) 1) ls

  no_mark : (v : ℕ) → marks v ≡ 0 → {u : ℕ} → Member u ls → u ≡ v → ⊥
  unfolding marks
  no_mark v h {u} m e = omega (arith, h, sum_of_member (λ u. only (eqb v u) 1) m, ap (λ b. only b 1) (eq-eqb v u (sym e)))

marks_sum : (lo hi : ℕ) (ls : List ℕ) → over lo hi (marks ls) ≡ sum_of (λ u. only (leb lo u && ltb u hi) 1) ls
unfolding marks sum_of
marks_sum lo hi [] = sum.over_zero lo hi _ (λ k q r. refl)
marks_sum lo hi (u ∷ ls) =
    sum.over_add lo hi (λ v. only (eqb v u) 1) (λ v. sum_of (λ u. only (eqb v u) 1) ls)
    ∙ ap₂ ◌+◌ (sum.over_pick lo hi u 1) (marks_sum lo hi ls)

between : (ls : List ℕ) (i j : ℕ) → i < j → j < length ls
    → over (suc (get_or ls i 0)) (get_or ls j 0) (marks ls) + 2 ≤ length ls
between ls i j h k =
    omega (
      arith,
      marks_sum (suc lo) hi ls,
      sum_of-two (λ u. only (not (t u)) 1) 0 ls i j h k,
      sum_of-add (λ u. only (t u) 1) (λ u. only (not (t u)) 1) ls,
      sum_of-same (λ u. only (t u) 1 + only (not (t u)) 1) (λ u. 1) ls (All-all (λ u. one (t u)) ls),
      sum_of_ones ls,
      ap (λ b. only (not b) 1) low-out,
      ap (λ b. only (not b) 1) high-out,
    )
  where
    lo : ℕ
    lo = get_or ls i 0

    hi : ℕ
    hi = get_or ls j 0

    t : ℕ → Bool
    t u = leb (suc lo) u && ltb u hi

    one : (b : Bool) → only b 1 + only (not b) 1 ≡ 1
    one true = refl
    one false = refl

    low-out : (leb (suc lo) lo && ltb lo hi) ≡ false
    low-out = rw (lt-leb (suc lo) lo (omega arith))

    high-out : (leb (suc lo) hi && ltb hi hi) ≡ false
    high-out = go (leb (suc lo) hi)
      where
        go : (b : Bool) → (b && ltb hi hi) ≡ false
        go true = le-ltb hi hi (omega arith)
        go false = refl

module _ (f : Figure) (none : All (λ r. slanted r ≡ false) (rings f)) (l : List Shot) (e : Link Corner) (ls : List ℕ)
    (corners : All (λ c. Member (coordinate (other (across e)) c) ls) (corners_of f))
    (shots : All (λ s. (low_end (across e) s < high_end (across e) s) × Member (low_end (other (across e)) s) ls × Member (high_end (other (across e)) s) ls) l) where
  all_off : (v : ℕ) → marks ls v ≡ 0 → Off f none l (across e) v
  all_off v h = record {
    corners = All-imp (λ c m. no_mark ls v h m) (corners_of f) corners;
    shots = All-imp (λ s m. (m.0, no_mark ls v h m.1, no_mark ls v h m.2)) l shots;
  }

  pub runs-few : (i j : ℕ) → i < j → j < length ls → get_or ls i 0 ≡ low e → get_or ls j 0 ≡ high e → low e ≤ high e
      → length (edge_runs (inside_at f) l e) < length ls
  unfolding edge_runs
  runs-few i j h k p q z =
      omega (
        arith,
        between ls i j h k,
        ap₂ (λ m n. over (suc m) n (marks ls)) p q,
        ap (λ n. over (suc (low e)) n (marks ls)) whole,
        runs-most (landing (across e) (inside_at f) l (stands_at e)) (marks ls) (low e) (high e - low e) changed,
      )
    where
      whole : low e + (high e - low e) ≡ high e
      whole = omega arith

      changed : (v : ℕ) → low e ≤ v → suc v < low e + (high e - low e)
          → alike (landing (across e) (inside_at f) l (stands_at e) v) (landing (across e) (inside_at f) l (stands_at e) (suc v)) ≡ false
          → 1 ≤ marks ls (suc v)
      changed v a b d = elim (sum.le-or 1 (marks ls (suc v))) [
        | inl w ↦ w
        | inr w ↦
            absurd
            (true≢false
            (sym
            (same_alike (landing (across e) (inside_at f) l (stands_at e) v) (landing (across e) (inside_at f) l (stands_at e) (suc v))
            (steady f none l (across e) v (all_off (suc v) (omega arith)) (stands_at e)))
            ∙ d))
      ]

-- Whatever the list: the ends of its shots are two more places for each

module _ (b : Axis) where
  shot_ends : List Shot → List ℕ
  shot_ends [] = []
  shot_ends (s ∷ l) = low_end b s ∷ high_end b s ∷ shot_ends l

  ends-length : (l : List Shot) → length (shot_ends l) ≡ 2 * length l
  unfolding shot_ends
  ends-length [] = refl
  ends-length (s ∷ l) = omega (arith, ends-length l)

  ends_on : (l : List Shot) → All (λ s. Member (low_end b s) (shot_ends l) × Member (high_end b s) (shot_ends l)) l
  unfolding shot_ends
  ends_on [] = tt
  ends_on (s ∷ l) = (
    (Member.head refl, Member.tail (Member.head refl)),
    All-imp (λ q h. (Member.tail (Member.tail h.0), Member.tail (Member.tail h.1))) l (ends_on l),
  )

module _ (f : Figure) (none : All (λ r. slanted r ≡ false) (rings f)) (l : List Shot) (e : Link Corner) (ls : List ℕ)
    (corners : All (λ c. Member (coordinate (other (across e)) c) ls) (corners_of f))
    (solid : All (λ s. low_end (across e) s < high_end (across e) s) l) where
  pub runs-any : (i j : ℕ) → i < j → j < length ls → get_or ls i 0 ≡ low e → get_or ls j 0 ≡ high e → low e ≤ high e
      → length (edge_runs (inside_at f) l e) < length ls + 2 * length l
  runs-any i j h k p q z =
      let m = shot_ends (other (across e)) l in
      omega (
        arith,
        length-append ls m,
        ends-length (other (across e)) l,
        runs-few f none l e (ls ++ m) (All-imp (λ c w. Memᴰ.append_left m w) (corners_of f) corners)
            (All-imp (λ s w. (w.0, Memᴰ.append_right ls w.1.0, Memᴰ.append_right ls w.1.1)) l
            (All-both (λ s. low_end (across e) s < high_end (across e) s) (λ s. Member (low_end (other (across e)) s) m × Member (high_end (other (across e)) s) m) l solid (ends_on (other (across e)) l)))
            i j h (omega (arith, length-append ls m)) (get_or-append ls m 0 i (omega arith) ∙ p) (get_or-append ls m 0 j k ∙ q) z,
      )
