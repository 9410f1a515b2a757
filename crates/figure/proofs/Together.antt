-- All rings of a figure together: what holds of each of them holds of all edges and corners. Assumes nothing.
--
--   RightAngled, right_angled   == a ring that passes 3 and 4; so does each ring of a figure that passes them
--   length-edges-all    == a figure has as many edges as corners
--   edges-half-all      == half of the edges change the coordinate along an axis: so the number of corners is even
--   corners-kept-all    == each corner's place is that of an edge that keeps it
--   ends-all            == the ends of an edge are corners
--   any-or                      == a test of two, of some member
--   slanted-all, unturned-all   == 3 and 4 of some ring, as tests of all edges and turns
use Prim.Native.Nat.{◌*◌}
use mathlib.Core.Path.{◌≡◌, refl, sym, ◌∙◌, ap, ap₂, subst}
use mathlib.Core.Bool.{Bool, true, false, ◌||◌}
use mathlib.Core.List.Memᴰ
use mathlib.Core.List.{List, [], ◌∷◌, ◌++◌, Memᴰ as Member}
use native.Mathlib.Omega.{arith}
use lib.ListN.{length, length-append}
use Rattle.sum.specs.Sum.{only, sum_of, All, join}
use Rattle.sum.proofs.Lists.{All-imp, All-append, sum_of-append, join-append}
use Rattle.figure.specs.declared.Axis.{Axis}
use Rattle.figure.specs.Corners.{Corner, coordinate, any, edges, turns, changes, both, neither, alike, slanted, unturned}
use Rattle.figure.specs.Figure.{Figure, rings, corners_of, edges_of, turns_of}
use Rattle.figure.specs.Steps.{Right}
use Rattle.figure.proofs.Corners.{length-around}
use Rattle.figure.proofs.Turns.{any-all, All-both, tally, keep, kept, edges-half, corners-kept, ends}

-- a ring that passes 3 and 4
abbrev pub RightAngled : List Corner → Type 0
RightAngled r = (slanted r ≡ false) × (unturned r ≡ false)

abbrev all : List (List Corner) → List Corner
all rs = join (λ r. r) rs

lengths : (rs : List (List Corner)) → length (join edges rs) ≡ length (all rs)
unfolding join edges
lengths [] = refl
lengths (r ∷ rs) =
    omega (arith, length-append (edges r) (join edges rs), length-append r (all rs), length-around r, lengths rs)

halves : (a : Axis) (rs : List (List Corner)) → All RightAngled rs → 2 * tally (changes a) (join edges rs) ≡ length (all rs)
unfolding tally join sum_of
halves a [] h = refl
halves a (r ∷ rs) h =
    omega (
      arith,
      sum_of-append (λ e. only (changes a e) 1) (edges r) (join edges rs),
      length-append r (all rs),
      edges-half r h.0.0 h.0.1 a,
      halves a rs h.1,
    )

places : (a : Axis) (rs : List (List Corner)) → All RightAngled rs → All (λ c. Member (coordinate a c) (kept a (join edges rs))) (all rs)
unfolding kept join
places a [] h = tt
places a (r ∷ rs) h =
    let e = join-append (keep a) (edges r) (join edges rs) in
    All-append (λ c. Member (coordinate a c) (join (keep a) (edges r ++ join edges rs))) r (all rs)
    (All-imp (λ c m. subst (Member (coordinate a c)) (sym e) (Memᴰ.append_left (kept a (join edges rs)) m)) r (corners-kept r h.0.0 h.0.1 a))
    (All-imp (λ c m. subst (Member (coordinate a c)) (sym e) (Memᴰ.append_right (kept a (edges r)) m)) (all rs) (places a rs h.1))

tips : (rs : List (List Corner)) → All RightAngled rs → All (λ e. Member e.from (all rs) × Member e.to (all rs)) (join edges rs)
unfolding join
tips [] h = tt
tips (r ∷ rs) h =
    All-append (λ e. Member e.from (all (r ∷ rs)) × Member e.to (all (r ∷ rs))) (edges r) (join edges rs)
    (All-imp (λ e m. (Memᴰ.append_left (all rs) m.0, Memᴰ.append_left (all rs) m.1)) (edges r) (ends r h.0.0 h.0.1))
    (All-imp (λ e m. (Memᴰ.append_right r m.0, Memᴰ.append_right r m.1)) (join edges rs) (tips rs h.1))

module _ (f : Figure) (right : Right f) where
  pub right_angled : All RightAngled (rings f)
  right_angled =
      All-both (λ r. slanted r ≡ false) (λ r. unturned r ≡ false) (rings f)
      (any-all slanted (rings f) right.slanted-none)
      (any-all unturned (rings f) right.unturned-none)

  pub length-edges-all : length (edges_of f) ≡ length (corners_of f)
  length-edges-all = lengths (rings f)

  pub edges-half-all : (a : Axis) → 2 * tally (changes a) (edges_of f) ≡ length (corners_of f)
  edges-half-all a = halves a (rings f) right_angled

  pub corners-kept-all : (a : Axis) → All (λ c. Member (coordinate a c) (kept a (edges_of f))) (corners_of f)
  corners-kept-all a = places a (rings f) right_angled

  pub ends-all : All (λ e. Member e.from (corners_of f) × Member e.to (corners_of f)) (edges_of f)
  ends-all = tips (rings f) right_angled

-- a test of some member of some list, and of some member of all of them
or_assoc : (a b c : Bool) → ((a || b) || c) ≡ (a || (b || c))
or_assoc true b c = refl
or_assoc false b c = refl

or-middle : (a b c d : Bool) → ((a || b) || (c || d)) ≡ ((a || c) || (b || d))
or-middle true b c d = refl
or-middle false true true d = refl
or-middle false true false d = refl
or-middle false false c d = refl

module _ {B : Type 0} (t : B → Bool) where
  any_append : (l m : List B) → any t (l ++ m) ≡ (any t l || any t m)
  unfolding any
  any_append [] m = refl
  any_append (s ∷ l) m = ap (λ b. t s || b) (any_append l m) ∙ sym (or_assoc (t s) (any t l) (any t m))

  any-join : {A : Type 0} (g : A → List B) (rs : List A) → any (λ r. any t (g r)) rs ≡ any t (join g rs)
  unfolding any join
  any-join g [] = refl
  any-join g (r ∷ rs) = ap (λ b. any t (g r) || b) (any-join g rs) ∙ sym (any_append (g r) (join g rs))

pub any-or : {A : Type 0} (s t : A → Bool) (l : List A) → any (λ r. s r || t r) l ≡ (any s l || any t l)
unfolding any
any-or s t [] = refl
any-or s t (r ∷ l) = ap (λ b. (s r || t r) || b) (any-or s t l) ∙ or-middle (s r) (t r) (any s l) (any t l)

pub slanted-all : (f : Figure) → any slanted (rings f) ≡ any both (edges_of f)
unfolding slanted
slanted-all f = any-join both edges (rings f)

pub unturned-all : (f : Figure) → any unturned (rings f) ≡ (any neither (edges_of f) || any alike (turns_of f))
unfolding unturned
unturned-all f =
    any-or (λ r. any neither (edges r)) (λ r. any alike (turns r)) (rings f)
    ∙ ap₂ ◌||◌ (any-join neither edges (rings f)) (any-join alike turns (rings f))
