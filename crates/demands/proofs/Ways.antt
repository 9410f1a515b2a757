-- Ways to cut at the nanometre and the cost of pieces: no way is cheaper, and one attains the cost; once for both modes. Assumes nothing.
--
--   kept_whole           == a rectangle that is wholly inside has one way: it is one shot
--   Lined g onX onY      == the places that may be cut at are those of the grid's lines
--   locate               == a place between two lines lies between two neighbours of them
--   square-cell          == a unit square that a piece holds lies in one of its cells
--   cell-square          == what all unit squares of a piece are, its cells are
--   nothing_squares, squares_nothing   == no cell is inside exactly when no unit square is
--   placed-parts         == a cut at the places of its lines has the rectangles of its parts
--   cut-lines, lines_cut == an allowed cut of a piece's rectangle is a cut of the piece at the places of its lines, and back
--   never_cheaper        == a way to cut a piece's rectangle totals no less than the piece's cost
--   way_attained         == one way has the piece's shots
use Prim.Native.Nat.{ℕ, zero, suc, ◌≤◌, ◌<◌}
use mathlib.Core.Path.{◌≡◌, refl, sym, ◌∙◌, ap, ap₂, subst}
use mathlib.Core.Bool.{Bool, true, false, ◌&&◌, true≢false}
use mathlib.Core.List.{List, [], ◌∷◌, ◌++◌, map, map-append, Memᴰ as Member}
use mathlib.Core.Logic.{inl, inr}
use native.Mathlib.Omega.{arith}
use lib.Dec.{leb, ltb}
use borrow.Author.Tests.{leb-true, ltb-true, le-leb, lt-ltb}
use Rattle.sum.specs.Sum.{sum_of, All, join}
use Rattle.sum.proofs.Sum.{le-or, rise}
use Rattle.sum.proofs.Lists.{sum_of-append, All-at, All-imp}
use Rattle.recurrence.specs.Scheme.{full, mixed}
use Rattle.recurrence.proofs.Scheme as by-scheme
use Rattle.outline.specs.Grid.{Grid, Sound}
use Rattle.piece.specs.declared.Mode.{Mode}
use Rattle.piece.specs.declared.Turn.TheVariants.{First, Second}
use Rattle.piece.specs.Piece.{Piece, rectangle, cells, kind}
use Rattle.piece.specs.Cuts.{Cut, vertical, horizontal, wheel, cuts, parts, CutOf, scheme, shots, cost}
use Rattle.piece.proofs.Cells.{Within}
use Rattle.piece.proofs.Kind.{outside-cell, full-cell, kind-none, kind-all, mixed-count, full-count}
use Rattle.piece.proofs.Cuts.{cuts-all, cut_member, Part, parts-part, ends, fair, cost-outside, cost-full}
use Rattle.table.specs.Entry.{Valid}
use Rattle.rule.specs.declared.Rule.{Rule}
use Rattle.shot.specs.Shot.{Shot, holds}
use Rattle.demands.specs.Square.{shot_charge}
use Rattle.demands.specs.Ways.{Whole, parts_of, Allowed, Way, Ways, leave, shoot, cut, none, more, shots_of, shots_among}
use Rattle.demands.proofs.Square.{Shows, charge_squares}

pub record Lined (g : Grid) (onX onY : ℕ → Type 0) : Type 0 where
  pub x-line : (v : ℕ) → onX v → (i : ℕ) × (i ≤ g.columns) × (g.x i ≡ v)
  pub y-line : (v : ℕ) → onY v → (j : ℕ) × (j ≤ g.rows) × (g.y j ≡ v)
  pub x_on : (i : ℕ) → i ≤ g.columns → onX (g.x i)
  pub y_on : (j : ℕ) → j ≤ g.rows → onY (g.y j)

pub locate : (f : ℕ → ℕ) (a c x : ℕ) → a ≤ c → f a ≤ x → x < f c → (i : ℕ) × (a ≤ i) × (i < c) × (f i ≤ x) × (x < f (suc i))
locate f a zero x h p q = (let e : a ≡ 0 = omega arith in absurd (omega (arith, ap f e)))
locate f a (suc c) x h p q = elim (le-or a c) [
  | inr z ↦ (let e : a ≡ suc c = omega arith in absurd (omega (arith, ap f e)))
  | inl z ↦ elim (le-or (f c) x) [
    | inl k ↦ (c, z, omega arith, k, q)
    | inr k ↦ (let m = locate f a c x z p k in (m.0, m.1, omega (arith, m.2), m.3, m.4))
  ]
]

-- a line that lies between two places of lines has its number between theirs
between-lines : (f : ℕ → ℕ) → ((i : ℕ) → f i ≤ f (suc i)) → (i j : ℕ) → f i < f j → i < j
between-lines f up i j h = elim (le-or j i) [
  | inl q ↦ absurd (omega (arith, rise f up j i q))
  | inr q ↦ q
]

-- a test that holds says where the square lies, and back
pub held : (x y : ℕ) (s : Shot) → holds x y s ≡ true → (s.xlow ≤ x) × (x < s.xhigh) × (s.ylow ≤ y) × (y < s.yhigh)
unfolding holds
held x y s = go (leb s.xlow x) refl (ltb x s.xhigh) refl (leb s.ylow y) refl (ltb y s.yhigh) refl
  where
    go : (a : Bool) → leb s.xlow x ≡ a → (b : Bool) → ltb x s.xhigh ≡ b → (c : Bool) → leb s.ylow y ≡ c → (d : Bool) → ltb y s.yhigh ≡ d
        → ((a && b) && (c && d)) ≡ true → (s.xlow ≤ x) × (x < s.xhigh) × (s.ylow ≤ y) × (y < s.yhigh)
    go true e true f true g true h z = (leb-true _ _ e, ltb-true _ _ f, leb-true _ _ g, ltb-true _ _ h)
    go true e true f true g false h z = absurd (true≢false (sym z))
    go true e true f false g d h z = absurd (true≢false (sym z))
    go true e false f c g d h z = absurd (true≢false (sym z))
    go false e b f c g d h z = absurd (true≢false (sym z))

pub holding : (x y : ℕ) (s : Shot) → s.xlow ≤ x → x < s.xhigh → s.ylow ≤ y → y < s.yhigh → holds x y s ≡ true
unfolding holds
holding x y s a b c d = ap₂ ◌&&◌ (ap₂ ◌&&◌ (le-leb _ _ a) (lt-ltb _ _ b)) (ap₂ ◌&&◌ (le-leb _ _ c) (lt-ltb _ _ d))

-- What is wholly inside is kept whole

module _ (mode : Mode) (F : ℕ → ℕ → Bool) (onX onY : ℕ → Type 0) (s : Shot) (whole : Whole F s) where
  pub kept_whole : s.xlow < s.xhigh → s.ylow < s.yhigh → (way : Way mode F onX onY s) → shots_of mode F onX onY way ≡ s ∷ []
  unfolding shots_of
  kept_whole x y (leave h) =
      let q = holding s.xlow s.ylow s (omega arith) x (omega arith) y in
      absurd (true≢false (sym (whole s.xlow s.ylow q) ∙ h s.xlow s.ylow q))
  kept_whole x y (shoot h) = refl
  kept_whole x y (cut m k a ways) = absurd (m whole)

-- heads and tails of equal lists
abbrev head_of : {A : Type 0} → A → List A → A
head_of z [] = z
head_of z (s ∷ l) = s

abbrev tail_of : {A : Type 0} → List A → List A
tail_of [] = []
tail_of (s ∷ l) = l

some-none : {A : Type 0} (s : A) (l : List A) → s ∷ l ≡ [] → ⊥
some-none s l e = let z : ◌≡◌ {A = ℕ} 1 0 = ap (λ m. elim m [ [] ↦ 0 | x ∷ xs ↦ 1 ]) e in omega arith

module _ (g : Grid) (F : ℕ → ℕ → Bool) (sound : Sound g) (shows : Shows g F) where
  pub square-cell : (p : Piece) → Valid g.columns g.rows p → (x y : ℕ) → holds x y (rectangle g p) ≡ true
      → (i : ℕ) × (j : ℕ) × Within p i j × (F x y ≡ g.inside i j)
  square-cell p v x y h =
      let k = held x y (rectangle g p) h in
      let ac = v.ac in
      let bd = v.bd in
      let m = locate g.x p.a p.c x (omega arith) k.0 k.1 in
      let n = locate g.y p.b p.d y (omega arith) k.2 k.3 in (
        m.0,
        n.0,
        record { a = m.1; c = m.2; b = n.1; d = n.2 },
        shows.cell m.0 n.0 x y (omega (arith, m.2, v.cx)) (omega (arith, n.2, v.dy)) m.3 m.4 n.3 n.4,
      )

  -- the lowest square of a cell
  pub cell-square : (p : Piece) → Valid g.columns g.rows p → (t : Bool) → ((x y : ℕ) → holds x y (rectangle g p) ≡ true → F x y ≡ t)
      → (i j : ℕ) → Within p i j → g.inside i j ≡ t
  cell-square p v t h i j w =
      let hi : i < g.columns = omega (arith, w.c, v.cx) in
      let hj : j < g.rows = omega (arith, w.d, v.dy) in
      let xi = sound.x_rises i hi in
      let yj = sound.y_rises j hj in
      sym (shows.cell i j (g.x i) (g.y j) hi hj (omega arith) xi (omega arith) yj)
      ∙ h (g.x i) (g.y j)
      (holding (g.x i) (g.y j) (rectangle g p)
      (rise g.x sound.x-up p.a i w.a)
      (omega (arith, rise g.x sound.x-up (suc i) p.c w.c))
      (rise g.y sound.y-up p.b j w.b)
      (omega (arith, rise g.y sound.y-up (suc j) p.d w.d)))

  -- no cell is inside exactly when no unit square is
  pub nothing_squares : ((i j : ℕ) → i < g.columns → j < g.rows → g.inside i j ≡ false) → (x y : ℕ) → F x y ≡ false
  nothing_squares h x y = elim (le-or (g.x 0) x) [
    | inr q ↦ shows.left-none x y q
    | inl a ↦ elim (le-or (g.x g.columns) x) [
      | inl q ↦ shows.right-none x y q
      | inr b ↦ elim (le-or (g.y 0) y) [
        | inr q ↦ shows.below_none x y q
        | inl c ↦ elim (le-or (g.y g.rows) y) [
          | inl q ↦ shows.above-none x y q
          | inr d ↦
              (let m = locate g.x 0 g.columns x (omega arith) a b in
              let n = locate g.y 0 g.rows y (omega arith) c d in
              shows.cell m.0 n.0 x y m.2 n.2 m.3 m.4 n.3 n.4 ∙ h m.0 n.0 m.2 n.2)
        ]
      ]
    ]
  ]

  pub squares_nothing : ((x y : ℕ) → F x y ≡ false) → (i j : ℕ) → i < g.columns → j < g.rows → g.inside i j ≡ false
  squares_nothing h i j hi hj =
      sym (shows.cell i j (g.x i) (g.y j) hi hj (omega arith) (sound.x_rises i hi) (omega arith) (sound.y_rises j hj)) ∙ h (g.x i) (g.y j)

  -- a piece whose rectangle is not wholly inside is not full, and back
  keeps : {s : Shot} (p : Piece) → Valid g.columns g.rows p → rectangle g p ≡ s → (Whole F s → ⊥) → kind g p ≡ full → ⊥
  keeps p v e m f =
      m (λ x y h. let n = square-cell p v x y (ap (holds x y) e ∙ h) in n.3 ∙ full-cell g p f n.0 n.1 n.2)

  parted : (p : Piece) → Valid g.columns g.rows p → kind g p ≡ mixed → Whole F (rectangle g p) → ⊥
  parted p v e h =
      omega (
        arith,
        mixed-count g p e,
        full-count g p (kind-all g p v.ac v.bd (cell-square p v true h)),
      )

  -- the cut at the places of its lines has the rectangles of the parts
  placed : Cut → Cut
  placed (vertical i) = vertical (g.x i)
  placed (horizontal i) = horizontal (g.y i)
  placed (wheel t j l k m) = wheel t (g.x j) (g.x l) (g.y k) (g.y m)

  placed-parts : (p : Piece) (k : Cut) → map (rectangle g) (parts p k) ≡ parts_of (rectangle g p) (placed k)
  unfolding parts parts_of placed
  placed-parts p (vertical i) = refl
  placed-parts p (horizontal i) = refl
  placed-parts p (wheel First j l k m) = refl
  placed-parts p (wheel Second j l k m) = refl

  x-before : (i j : ℕ) → g.x i < g.x j → i < j
  x-before i j h = between-lines g.x sound.x-up i j h

  y-before : (i j : ℕ) → g.y i < g.y j → i < j
  y-before i j h = between-lines g.y sound.y-up i j h

  x-after : (i j : ℕ) → i < j → j ≤ g.columns → g.x i < g.x j
  x-after i j h k = omega (arith, rise g.x sound.x-up (suc i) j h, sound.x_rises i (omega arith))

  y-after : (i j : ℕ) → i < j → j ≤ g.rows → g.y i < g.y j
  y-after i j h k = omega (arith, rise g.y sound.y-up (suc i) j h, sound.y_rises i (omega arith))

  module _ (onX onY : ℕ → Type 0) (lined : Lined g onX onY) (mode : Mode) (r : Rule) where
    -- an allowed cut lies on lines
    cut-lines : (p : Piece) (k : Cut) → Allowed mode F onX onY (rectangle g p) k → (i : Cut) × CutOf mode p i × (placed i ≡ k)
    unfolding placed
    cut-lines p (vertical v) a =
        let m = lined.x-line v a.0 in
        (vertical m.0, (x-before p.a m.0 (omega (arith, m.2, a.1)), x-before m.0 p.c (omega (arith, m.2, a.2))), ap vertical m.2)
    cut-lines p (horizontal v) a =
        let m = lined.y-line v a.0 in
        (horizontal m.0, (y-before p.b m.0 (omega (arith, m.2, a.1)), y-before m.0 p.d (omega (arith, m.2, a.2))), ap horizontal m.2)
    cut-lines p (wheel t j l k m) a =
        let w = a.1 in
        let j' = lined.x-line j w.on_j in
        let l' = lined.x-line l w.on_l in
        let k' = lined.y-line k w.on_k in
        let m' = lined.y-line m w.on_m in (
          wheel t j'.0 l'.0 k'.0 m'.0,
          (
            a.0,
            record {
              aj = x-before p.a j'.0 (omega (arith, j'.2, w.aj));
              jl = x-before j'.0 l'.0 (omega (arith, j'.2, l'.2, w.jl));
              lc = x-before l'.0 p.c (omega (arith, l'.2, w.lc));
              bk = y-before p.b k'.0 (omega (arith, k'.2, w.bk));
              km = y-before k'.0 m'.0 (omega (arith, k'.2, m'.2, w.km));
              md = y-before m'.0 p.d (omega (arith, m'.2, w.md));
            },
          ),
          ap₂ (λ u v. wheel t u v (g.y k'.0) (g.y m'.0)) j'.2 l'.2 ∙ ap₂ (λ u v. wheel t j l u v) k'.2 m'.2,
        )

    -- the parts of a cut of a piece of the grid are pieces of the grid
    parts-valid : (p : Piece) → Valid g.columns g.rows p → (k : Cut) → Member k (cuts mode p) → All (λ q. Valid g.columns g.rows q) (parts p k)
    parts-valid p v k m =
        All-imp {P = λ q. Part q p}
        (λ q w. record { ac = w.ac; cx = omega (arith, w.c, v.cx); bd = w.bd; dy = omega (arith, w.d, v.dy) })
        (parts p k)
        (All-at (λ k. All (λ q. Part q p) (parts p k)) m (parts-part mode p v.ac v.bd))

    mutual
      unfolding shots_of sum_of

      pub never_cheaper : {s : Shot} (way : Way mode F onX onY s) (p : Piece) → Valid g.columns g.rows p → rectangle g p ≡ s
          → cost mode g r p ≤ sum_of (shot_charge F r) (shots_of mode F onX onY way)
      never_cheaper (leave h) p v e =
          omega (arith, cost-outside mode g r p (kind-none g p (cell-square p v false (λ x y k. h x y (ap (holds x y) (sym e) ∙ k)))))
      never_cheaper (shoot {s = s} h) p v e =
          let ac = v.ac in
          let bd = v.bd in
          omega (
            arith,
            cost-full mode g r p (kind-all g p ac bd (cell-square p v true (λ x y k. h x y (ap (holds x y) (sym e) ∙ k)))),
            charge_squares g F sound shows r p (omega arith) v.cx (omega arith) v.dy,
            ap (shot_charge F r) e,
          )
      never_cheaper (cut {s = s} part k a ways) p v e =
          let i = cut-lines p k (subst (λ q. Allowed mode F onX onY q k) (sym e) a) in
          let m = cut_member mode p i.0 i.1 in
          omega (
            arith,
            All-at (λ k. cost mode g r p ≤ sum_of (cost mode g r) (parts p k)) m (fair mode g r p (keeps p v e part)),
            none_cheaper ways (parts p i.0) (parts-valid p v i.0 m) (placed-parts p i.0 ∙ ap₂ parts_of e i.2),
          )

      none_cheaper : {l : List Shot} (ways : Ways mode F onX onY l) (ps : List Piece) → All (λ q. Valid g.columns g.rows q) ps → map (rectangle g) ps ≡ l
          → sum_of (cost mode g r) ps ≤ sum_of (shot_charge F r) (shots_among mode F onX onY ways)
      none_cheaper none [] v e = omega arith
      none_cheaper none (q ∷ ps) v e = absurd (some-none (rectangle g q) (map (rectangle g) ps) e)
      none_cheaper (more {s = s} {l = l} d ds) [] v e = absurd (some-none s l (sym e))
      none_cheaper (more {s = s} {l = l} d ds) (q ∷ ps) v e =
          omega (
            arith,
            never_cheaper d q v.0 (ap (head_of s) e),
            none_cheaper ds ps v.1 (ap tail_of e),
            sum_of-append (shot_charge F r) (shots_of mode F onX onY d) (shots_among mode F onX onY ds),
          )

    -- a way to cut a piece's rectangle that has these shots
    Reached : Piece → List Piece → Type 0
    Reached p l = Valid g.columns g.rows p → (way : Way mode F onX onY (rectangle g p)) × (shots_of mode F onX onY way ≡ map (rectangle g) l)

    -- one for each of some pieces
    together : (ps : List Piece) → All (λ q. Valid g.columns g.rows q) ps → All (λ q. Reached q (shots mode g r q)) ps
        → (ways : Ways mode F onX onY (map (rectangle g) ps)) × (shots_among mode F onX onY ways ≡ map (rectangle g) (join (shots mode g r) ps))
    unfolding shots_among join Reached
    together [] v h = (none, refl)
    together (q ∷ ps) v h =
        let d = h.0 v.0 in
        let i = together ps v.1 h.1 in
        (more d.0 i.0, ap₂ ◌++◌ d.1 i.1 ∙ sym (map-append (rectangle g) (shots mode g r q) (join (shots mode g r) ps)))

    -- a cut of the piece is allowed at the places of its lines
    lines_cut : (p : Piece) → Valid g.columns g.rows p → (k : Cut) → CutOf mode p k → Allowed mode F onX onY (rectangle g p) (placed k)
    unfolding placed
    lines_cut p v (vertical i) h =
        (lined.x_on i (omega (arith, v.cx, h.1)), x-after p.a i h.0 (omega (arith, v.cx, h.1)), x-after i p.c h.1 v.cx)
    lines_cut p v (horizontal i) h =
        (lined.y_on i (omega (arith, v.dy, h.1)), y-after p.b i h.0 (omega (arith, v.dy, h.1)), y-after i p.d h.1 v.dy)
    lines_cut p v (wheel t j l k m) h =
        let u = h.1 in (
          h.0,
          record {
            on_j = lined.x_on j (omega (arith, v.cx, u.jl, u.lc));
            on_l = lined.x_on l (omega (arith, v.cx, u.lc));
            on_k = lined.y_on k (omega (arith, v.dy, u.km, u.md));
            on_m = lined.y_on m (omega (arith, v.dy, u.md));
            aj = x-after p.a j u.aj (omega (arith, v.cx, u.jl, u.lc));
            jl = x-after j l u.jl (omega (arith, v.cx, u.lc));
            lc = x-after l p.c u.lc v.cx;
            bk = y-after p.b k u.bk (omega (arith, v.dy, u.km, u.md));
            km = y-after k m u.km (omega (arith, v.dy, u.md));
            md = y-after m p.d u.md v.dy;
          },
        )

    pub way_attained : (p : Piece) → Valid g.columns g.rows p
        → (way : Way mode F onX onY (rectangle g p)) × (shots_of mode F onX onY way ≡ map (rectangle g) (shots mode g r p))
    unfolding shots Reached shots_of
    way_attained =
        by-scheme.along (scheme mode g r) cells (ends mode g r) Reached
        (λ p e v. (leave (λ x y h. let m = square-cell p v x y h in m.3 ∙ outside-cell g p e m.0 m.1 m.2), refl))
        (λ p e v. (shoot (λ x y h. let m = square-cell p v x y h in m.3 ∙ full-cell g p e m.0 m.1 m.2), refl))
        (λ p k e m h v.
        let d = together (parts p k) (parts-valid p v k m) h in
        let ways = subst (λ l. (ways : Ways mode F onX onY l) × (shots_among mode F onX onY ways ≡ map (rectangle g) (join (shots mode g r) (parts p k)))) (placed-parts p k) d in
        (cut (parted p v e) (placed k) (lines_cut p v k (All-at (CutOf mode p) m (cuts-all mode (CutOf mode p) p (λ i w. w)))) ways.0, ways.1))
