-- The same rings drawn otherwise: 2, 3 and 4 hold of both or of neither, the walls are as many by every test, and what holds of all corners
-- of the one holds of all corners of the other. Assumes nothing.
--
--   rings-back        == the rings of a figure that is made of rings are these rings
--   of_rings_lem          == a figure that passes 2 is made of its rings
--   fault_redrawn     == the same drawing has the same fault
--   walls_redrawn     == and as many walls that pass a test
--   corners_redrawn   == and the same corners
use Prim.Native.Nat.{ℕ, suc, ◌+◌, ◌*◌, ◌-◌, min, max}
use mathlib.Core.Path.{◌≡◌, refl, sym, ◌∙◌, ap, ap₂, subst}
use mathlib.Core.Bool.{Bool, true, false, not, cond, ◌&&◌, ◌||◌}
use mathlib.Core.List.{List, [], ◌∷◌, ◌++◌, map, reverse, reverse-cons}
use native.Mathlib.Omega.{arith}
use lib.Dec.{ltb, eqb}
use lib.ListN.{length, take, drop, length-append, length-reverse, length-map, length-drop, take-append-drop}
use lib.Seq.{take_at, drop_at, length-take-le}
use borrow.Author.Tests.{eqb-true, eqb-false, eq-eqb, ne_eqb}
use Rattle.sum.specs.Sum.{only, sum_of, All, join}
use Rattle.sum.proofs.Lists.{sum_of-append, sum_of-map, sum_of-join, All-append, All-parts}
use Rattle.figure.specs.declared.Axis.{Axis}
use Rattle.figure.specs.declared.Axis.TheVariants.{X, Y}
use Rattle.figure.specs.Corners.{Corner, Link, corners, coordinate, around, edges, turns, changes, both, neither, same as sameAxis, alike, any, slanted, unturned}
use Rattle.figure.specs.Figure.{Figure, figure, share, rings, bad_length, bad_figure, most_rings, most_corners, fault}
use Rattle.figure.specs.Inside.{Wall, wall, walls, count}
use Rattle.figure.specs.Redrawn.{numbers_of, of_rings, Redrawn, same, start, way, order, under, then}
use Rattle.figure.proofs.Around.{flip, each, start_sum, way_sum, start-sums, way-sums}
use Rattle.figure.proofs.Corners.{link as asLinks, turns_links, length-corners}
use Rattle.figure.proofs.Fault.{rings-good}

abbrev all : List (List Corner) → List Corner
all rs = join (λ r. r) rs

-- a figure made of rings
length-numbers : (r : List Corner) → length (numbers_of r) ≡ 2 * length r
unfolding numbers_of join
length-numbers [] = refl
length-numbers (c ∷ r) = omega (arith, length-numbers r)

corners-back : (r : List Corner) → corners (numbers_of r) ≡ r
unfolding numbers_of join corners
corners-back [] = refl
corners-back (c ∷ r) = ap (λ m. c ∷ m) (corners-back r)

pub rings-back : (rs : List (List Corner)) → rings (of_rings rs) ≡ rs
unfolding of_rings join share
rings-back [] = refl
rings-back (r ∷ rs) =
    ap₂ ◌∷◌
    (ap corners (take_at (numbers_of r) (join numbers_of rs) (2 * length r) (length-numbers r)) ∙ corners-back r)
    (ap (λ l. map corners (share (map length rs) l)) (drop_at (numbers_of r) (join numbers_of rs) (2 * length r) (length-numbers r)) ∙ rings-back rs)

-- every sum over the edges, with a summand that does not know which way an edge runs
module _ (g : Link Corner → ℕ) (fair : (e : Link Corner) → g (flip e) ≡ g e) where
  pub edges_sum : {rs qs : List (List Corner)} → Redrawn rs qs → sum_of g (join edges rs) ≡ sum_of g (join edges qs)
  unfolding join edges
  edges_sum (same rs) = refl
  edges_sum (start c cs rs) =
      omega (
        arith,
        sum_of-append g (edges (c ∷ cs)) (join edges rs),
        sum_of-append g (edges (cs ++ c ∷ [])) (join edges rs),
        start_sum g c cs,
      )
  edges_sum (way cs rs) =
      omega (arith, sum_of-append g (edges cs) (join edges rs), sum_of-append g (edges (reverse cs)) (join edges rs), way_sum g fair cs)
  edges_sum (order a b rs) =
      omega (
        arith,
        sum_of-append g (edges a) (edges b ++ join edges rs),
        sum_of-append g (edges b) (join edges rs),
        sum_of-append g (edges b) (edges a ++ join edges rs),
        sum_of-append g (edges a) (join edges rs),
      )
  edges_sum (under a {rs} {qs} r) =
      omega (arith, sum_of-append g (edges a) (join edges rs), sum_of-append g (edges a) (join edges qs), edges_sum r)
  edges_sum (then r q) = edges_sum r ∙ edges_sum q

-- a wall does not know which way its edge runs
eqb_turn : (a b : ℕ) → eqb a b ≡ eqb b a
eqb_turn a b = go (eqb b a) refl
  where
    go : (t : Bool) → eqb b a ≡ t → eqb a b ≡ t
    go true e = eq-eqb a b (sym (eqb-true b a e))
    go false e = ne_eqb a b (λ q. eqb-false b a e (sym q))

changes-flip : (a : Axis) (e : Link Corner) → changes a (flip e) ≡ changes a e
unfolding changes
changes-flip a e = ap not (eqb_turn (coordinate a e.to) (coordinate a e.from))

min-turn : (a b : ℕ) → min a b ≡ min b a
min-turn a b = omega arith

max-turn : (a b : ℕ) → max a b ≡ max b a
max-turn a b = omega arith

made : ℕ → ℕ → ℕ → Wall
made x lo hi = record { x = x; lo = lo; hi = hi }

wall-flip : (e : Link Corner) → wall (flip e) ≡ wall e
unfolding wall changes coordinate made
wall-flip e =
    ap (λ t. cond (not t) [] (made e.from.x (min e.to.y e.from.y) (max e.to.y e.from.y) ∷ [])) (eqb_turn e.to.x e.from.x)
    ∙ ap₂ (λ lo hi. cond (not (eqb e.from.x e.to.x)) [] (made e.from.x lo hi ∷ [])) (min-turn e.to.y e.from.y) (max-turn e.to.y e.from.y)
    ∙ go (eqb e.from.x e.to.x) refl
  where
    lo : ℕ
    lo = min e.from.y e.to.y

    hi : ℕ
    hi = max e.from.y e.to.y

    go : (t : Bool) → eqb e.from.x e.to.x ≡ t → cond (not t) [] (made e.from.x lo hi ∷ []) ≡ cond (not t) [] (made e.to.x lo hi ∷ [])
    go true q = ap (λ x. made x lo hi ∷ []) (eqb-true e.from.x e.to.x q)
    go false q = refl

-- the walls
pub walls_redrawn : (t : Wall → Bool) {rs qs : List (List Corner)} → Redrawn rs qs → count t (walls (join edges rs)) ≡ count t (walls (join edges qs))
unfolding count walls
walls_redrawn t {rs} {qs} r =
    sum_of-join (λ w. only (t w) 1) wall (join edges rs)
    ∙ edges_sum (λ e. sum_of (λ w. only (t w) 1) (wall e)) (λ e. ap (sum_of (λ w. only (t w) 1)) (wall-flip e)) r
    ∙ sym (sum_of-join (λ w. only (t w) 1) wall (join edges qs))

-- the lines: what holds of all corners of the one holds of all corners of the other
abbrev pub Alike : {A : Type 0} → List A → List A → Type 1
Alike {A = A} l m = (Q : A → Type 0) → (All Q l → All Q m) × (All Q m → All Q l)

swapped : {A : Type 0} (Q : A → Type 0) (l m : List A) → All Q (l ++ m) → All Q (m ++ l)
swapped Q l m h = let p = All-parts Q l m h in All-append Q m l p.1 p.0

reversed : {A : Type 0} (Q : A → Type 0) (l : List A) → (All Q l → All Q (reverse l)) × (All Q (reverse l) → All Q l)
reversed Q [] = (λ h. tt, λ h. tt)
reversed Q (s ∷ l) = (
  λ h. subst (All Q) (sym (reverse-cons s l)) (All-append Q (reverse l) (s ∷ []) ((reversed Q l).0 h.1) (h.0, tt)),
  λ h. let p = All-parts Q (reverse l) (s ∷ []) (subst (All Q) (reverse-cons s l) h) in (p.1.0, (reversed Q l).1 p.0),
)

pub corners_redrawn : {rs qs : List (List Corner)} → Redrawn rs qs → Alike (all rs) (all qs)
unfolding join
corners_redrawn (same rs) Q = (λ h. h, λ h. h)
corners_redrawn (start c cs rs) Q = (
  λ h. let p = All-parts Q (c ∷ cs) (all rs) h in All-append Q (cs ++ c ∷ []) (all rs) (swapped Q (c ∷ []) cs p.0) p.1,
  λ h. let p = All-parts Q (cs ++ c ∷ []) (all rs) h in All-append Q (c ∷ cs) (all rs) (swapped Q cs (c ∷ []) p.0) p.1,
)
corners_redrawn (way cs rs) Q = (
  λ h. let p = All-parts Q cs (all rs) h in All-append Q (reverse cs) (all rs) ((reversed Q cs).0 p.0) p.1,
  λ h. let p = All-parts Q (reverse cs) (all rs) h in All-append Q cs (all rs) ((reversed Q cs).1 p.0) p.1,
)
corners_redrawn (order a b rs) Q = (around-two Q a b (all rs), around-two Q b a (all rs))
  where
    around-two : (Q : Corner → Type 0) (a b r : List Corner) → All Q (a ++ (b ++ r)) → All Q (b ++ (a ++ r))
    around-two Q a b r h =
        let p = All-parts Q a (b ++ r) h in
        let q = All-parts Q b r p.1 in
        All-append Q b (a ++ r) q.0 (All-append Q a r p.0 q.1)
corners_redrawn (under a {rs} {qs} r) Q = (
  λ h. let p = All-parts Q a (all rs) h in All-append Q a (all qs) p.0 ((corners_redrawn r Q).0 p.1),
  λ h. let p = All-parts Q a (all qs) h in All-append Q a (all rs) p.0 ((corners_redrawn r Q).1 p.1),
)
corners_redrawn (then r q) Q = (
  λ h. (corners_redrawn q Q).0 ((corners_redrawn r Q).0 h),
  λ h. (corners_redrawn r Q).1 ((corners_redrawn q Q).1 h),
)

-- 3 and 4, ring by ring
module _ {A : Type 0} (t : A → Bool) where
  pub any_sum : (l : List A) → any t l ≡ not (eqb (sum_of (λ s. only (t s) 1) l) 0)
  unfolding any sum_of
  any_sum [] = refl
  any_sum (s ∷ l) = go (t s) (any_sum l)
    where
      go : (b : Bool) → any t l ≡ not (eqb (sum_of (λ s. only (t s) 1) l) 0)
          → (b || any t l) ≡ not (eqb (only b 1 + sum_of (λ s. only (t s) 1) l) 0)
      go true e = ap not (sym (ne_eqb (1 + sum_of (λ s. only (t s) 1) l) 0 (λ q. omega arith)))
      go false e =
          let z : sum_of (λ s. only (t s) 1) l ≡ 0 + sum_of (λ s. only (t s) 1) l = omega arith in e ∙ ap (λ n. not (eqb n 0)) z

or_turn : (a b c : Bool) → (a || (b || c)) ≡ (b || (a || c))
or_turn true true c = refl
or_turn true false c = refl
or_turn false true c = refl
or_turn false false c = refl

module _ (t : List Corner → Bool)
    (starts : (c : Corner) (cs : List Corner) → t (c ∷ cs) ≡ t (cs ++ c ∷ []))
    (ways : (cs : List Corner) → t cs ≡ t (reverse cs))
  where
    pub any_same : {rs qs : List (List Corner)} → Redrawn rs qs → any t rs ≡ any t qs
    unfolding any
    any_same (same rs) = refl
    any_same (start c cs rs) = ap (λ b. b || any t rs) (starts c cs)
    any_same (way cs rs) = ap (λ b. b || any t rs) (ways cs)
    any_same (order a b rs) = or_turn (t a) (t b) (any t rs)
    any_same (under a r) = ap (λ b. t a || b) (any_same r)
    any_same (then r q) = any_same r ∙ any_same q

-- a test of edges, and one of turns
module _ (t : Link Corner → Bool) (fair : (e : Link Corner) → t (flip e) ≡ t e) where
  g : Link Corner → ℕ
  g e = only (t e) 1

  pub edges-start : (c : Corner) (cs : List Corner) → any t (edges (c ∷ cs)) ≡ any t (edges (cs ++ c ∷ []))
  unfolding edges g
  edges-start c cs =
      any_sum t (edges (c ∷ cs)) ∙ ap (λ n. not (eqb n 0)) (sym (start_sum g c cs)) ∙ sym (any_sum t (edges (cs ++ c ∷ [])))

  pub edges-way : (cs : List Corner) → any t (edges cs) ≡ any t (edges (reverse cs))
  unfolding edges g
  edges-way cs =
      any_sum t (edges cs) ∙ ap (λ n. not (eqb n 0)) (sym (way_sum g (λ e. ap (λ b. only b 1) (fair e)) cs)) ∙ sym (any_sum t (edges (reverse cs)))

module _ (t : Link (Link Corner) → Bool) (fair : (k : Link (Link Corner)) → t (flip k) ≡ t k) (turned : (k : Link (Link Corner)) → t (each flip k) ≡ t k) where
  h : Link (Link Corner) → ℕ
  h k = only (t k) 1

  links_start : (c : Corner) (cs : List Corner) → any t (around (edges (c ∷ cs))) ≡ any t (around (edges (cs ++ c ∷ [])))
  unfolding edges h
  links_start c cs =
      any_sum t (around (edges (c ∷ cs)))
      ∙ ap (λ n. not (eqb n 0)) (sym (start-sums h c cs))
      ∙ sym (any_sum t (around (edges (cs ++ c ∷ []))))

  links_way : (cs : List Corner) → any t (around (edges cs)) ≡ any t (around (edges (reverse cs)))
  unfolding edges h
  links_way cs =
      any_sum t (around (edges cs))
      ∙ ap (λ n. not (eqb n 0)) (sym (way-sums h (λ k. ap (λ b. only b 1) (fair k)) (λ k. ap (λ b. only b 1) (turned k)) cs))
      ∙ sym (any_sum t (around (edges (reverse cs))))

both-flip : (e : Link Corner) → both (flip e) ≡ both e
unfolding both
both-flip e = ap₂ ◌&&◌ (changes-flip X e) (changes-flip Y e)

neither-flip : (e : Link Corner) → neither (flip e) ≡ neither e
unfolding neither
neither-flip e = ap₂ (λ a b. not a && not b) (changes-flip X e) (changes-flip Y e)

and-turn : (a b : Bool) → (a && b) ≡ (b && a)
and-turn true true = refl
and-turn true false = refl
and-turn false true = refl
and-turn false false = refl

-- two edges in a row that change the same coordinate: a turn's test, of its two edges
abbrev pub same_pair : Link (Link Corner) → Bool
same_pair k = (changes X k.from && changes X k.to) || (changes Y k.from && changes Y k.to)

pair-flip : (k : Link (Link Corner)) → same_pair (flip k) ≡ same_pair k
pair-flip k = ap₂ ◌||◌ (and-turn (changes X k.to) (changes X k.from)) (and-turn (changes Y k.to) (changes Y k.from))

pair-each : (k : Link (Link Corner)) → same_pair (each flip k) ≡ same_pair k
pair-each k =
    ap₂ ◌||◌ (ap₂ ◌&&◌ (changes-flip X k.from) (changes-flip X k.to)) (ap₂ ◌&&◌ (changes-flip Y k.from) (changes-flip Y k.to))

pub any-map : {A B : Type 0} (t : B → Bool) (f : A → B) (l : List A) → any t (map f l) ≡ any (λ s. t (f s)) l
unfolding any
any-map t f [] = refl
any-map t f (s ∷ l) = ap (λ b. t (f s) || b) (any-map t f l)

pub alike_links : (cs : List Corner) → any alike (turns cs) ≡ any same_pair (around (edges cs))
unfolding alike sameAxis
alike_links cs = sym (any-map same_pair asLinks (turns cs)) ∙ ap (any same_pair) (sym (turns_links cs))

slanted_redrawn : {rs qs : List (List Corner)} → Redrawn rs qs → any slanted rs ≡ any slanted qs
unfolding slanted
slanted_redrawn = any_same slanted (edges-start both both-flip) (edges-way both both-flip)

unturned_redrawn : {rs qs : List (List Corner)} → Redrawn rs qs → any unturned rs ≡ any unturned qs
unfolding unturned
unturned_redrawn =
    any_same unturned
    (λ c cs. ap₂ ◌||◌ (edges-start neither neither-flip c cs)
    (alike_links (c ∷ cs) ∙ links_start same_pair pair-flip pair-each c cs ∙ sym (alike_links (cs ++ c ∷ []))))
    (λ cs. ap₂ ◌||◌ (edges-way neither neither-flip cs)
    (alike_links cs ∙ links_way same_pair pair-flip pair-each cs ∙ sym (alike_links (reverse cs))))

-- 2, of rings
unfoldable pub bad_rings : List (List Corner) → Bool
bad_rings rs =
    (eqb (length rs) 0 || ltb most_rings (length rs))
    || (any (λ r. bad_length (length r)) rs || (ltb most_corners (sum_of length rs) || not (eqb (2 * sum_of length rs) (2 * sum_of length rs))))

length-all : (rs : List (List Corner)) → length (join numbers_of rs) ≡ 2 * sum_of length rs
unfolding join sum_of
length-all [] = refl
length-all (r ∷ rs) = omega (arith, length-append (numbers_of r) (join numbers_of rs), length-numbers r, length-all rs)

pub bad_rings_lem : (rs : List (List Corner)) → bad_figure (of_rings rs) ≡ bad_rings rs
unfolding bad_figure of_rings bad_rings
bad_rings_lem rs =
    rw (length-map rs length, any-map bad_length length rs, sum_of-map (λ n. n) length rs, length-all rs)

length_redrawn : {rs qs : List (List Corner)} → Redrawn rs qs → length rs ≡ length qs
length_redrawn (same rs) = refl
length_redrawn (start c cs rs) = refl
length_redrawn (way cs rs) = refl
length_redrawn (order a b rs) = refl
length_redrawn (under a r) = ap suc (length_redrawn r)
length_redrawn (then r q) = length_redrawn r ∙ length_redrawn q

length_later : (c : Corner) (cs : List Corner) → length (c ∷ cs) ≡ length (cs ++ c ∷ [])
length_later c cs = omega (arith, length-append cs (c ∷ []))

total_redrawn : {rs qs : List (List Corner)} → Redrawn rs qs → sum_of length rs ≡ sum_of length qs
unfolding sum_of
total_redrawn (same rs) = refl
total_redrawn (start c cs rs) = ap (λ n. n + sum_of length rs) (length_later c cs)
total_redrawn (way cs rs) = ap (λ n. n + sum_of length rs) (sym (length-reverse cs))
total_redrawn (order a b rs) = omega arith
total_redrawn (under a r) = ap (λ n. length a + n) (total_redrawn r)
total_redrawn (then r q) = total_redrawn r ∙ total_redrawn q

bad_redrawn : {rs qs : List (List Corner)} → Redrawn rs qs → bad_figure (of_rings rs) ≡ bad_figure (of_rings qs)
unfolding bad_rings
bad_redrawn {rs} {qs} r =
    bad_rings_lem rs
    ∙ rw (length_redrawn r, total_redrawn r, any_same (λ c. bad_length (length c)) (λ c cs. ap bad_length (length_later c cs)) (λ cs. ap bad_length (sym (length-reverse cs))) r) refl
    ∙ sym (bad_rings_lem qs)

pub fault_redrawn : {rs qs : List (List Corner)} → Redrawn rs qs → fault (of_rings rs) ≡ fault (of_rings qs)
unfolding fault
fault_redrawn {rs} {qs} r =
    rw (
      bad_redrawn r,
      ap (any slanted) (rings-back rs) ∙ slanted_redrawn r ∙ sym (ap (any slanted) (rings-back qs)),
      ap (any unturned) (rings-back rs) ∙ unturned_redrawn r ∙ sym (ap (any unturned) (rings-back qs)),
    )

-- a figure that passes 2 is made of its rings
numbers-back : (n : ℕ) (l : List ℕ) → length l ≡ 2 * n → numbers_of (corners l) ≡ l
unfolding numbers_of join corners
numbers-back n [] h = refl
numbers-back n (u ∷ []) h = absurd (omega arith)
numbers-back n (u ∷ v ∷ l) h = ap (λ m. u ∷ v ∷ m) (numbers-back (n - 1) l (omega arith))

shared_back : (ns l : List ℕ) → length l ≡ 2 * sum_of (λ n. n) ns
    → (join numbers_of (map corners (share ns l)) ≡ l) × (map length (map corners (share ns l)) ≡ ns)
unfolding share join sum_of
shared_back [] [] h = (refl, refl)
shared_back [] (u ∷ l) h = absurd (omega arith)
shared_back (n ∷ ns) l h =
    let part : length (take (2 * n) l) ≡ 2 * n = length-take-le (2 * n) l (omega arith) in
    let rest = shared_back ns (drop (2 * n) l) (omega (arith, length-drop {A = ℕ} (2 * n) l)) in
    let count : length (corners (take (2 * n) l)) ≡ n = omega (arith, length-corners (take (2 * n) l), part) in
    (ap₂ ◌++◌ (numbers-back n (take (2 * n) l) part) rest.0 ∙ take-append-drop (2 * n) l, ap₂ ◌∷◌ count rest.1)

pub of_rings_lem : (f : Figure) → bad_figure f ≡ false → of_rings (rings f) ≡ f
unfolding of_rings
of_rings_lem f h =
    let back = shared_back f.lengths f.numbers (rings-good f h).numbers in
    ap₂ figure back.0 back.1
