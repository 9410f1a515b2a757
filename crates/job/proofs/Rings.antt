-- Laws of rings: laid out as the two lists of a figure, and shared out again. Assumes nothing.
--
--   Ring l           == a list that can be a ring: two numbers for each corner, 4 corners at least, each place 0 to 65,535
--   figure-good      == what passing 2 says of a figure makes it pass 2
--   rings-each       == the rings of a figure that passes 2, each by itself
--   lengths-each, numbers_twice == and back: the ring lengths, and two numbers for each corner
--   share_back       == shared out and laid out again, a figure is what it was
--   sum_cons, share-cons == the ring lengths from one on, and the rings from one on
use Prim.Native.Nat.{ℕ, suc, ◌+◌, ◌-◌, ◌*◌, ◌/◌, ◌<◌, ◌≤◌}
use mathlib.Core.Path.{◌≡◌, ◌∙◌, refl, sym, ap, ap₂}
use mathlib.Core.Bool.{false, ◌||◌}
use mathlib.Core.List.{List, [], ◌∷◌, ◌++◌, map}
use native.Mathlib.Numerals.{add-one}
use native.Mathlib.Omega.{arith}
use lib.ListN.{length, get_or, take, drop, length-append, length-drop, take-append-drop}
use lib.Seq.{drop-cons, drop-drop, length-take-le}
use borrow.Author.Tests.{le-ltb, eq-eqb, ne_eqb}
use Rattle.sum.specs.Sum.{All, sum_of, join}
use Rattle.sum.proofs.Lists.{All-parts}
use Rattle.figure.specs.Corners.{any}
use Rattle.figure.specs.Figure.{Figure, figure, share, total, most_corners, most_rings, most_place, bad_length, bad_figure}
use Rattle.figure.proofs.Fault.{Good, rings-good}
use Rattle.job.specs.Job.{figure_of}

pub record Ring (l : List ℕ) : Type 0 where
  pub even : length l ≡ 2 * (length l / 2)
  pub least : 4 ≤ length l / 2
  pub places : All (λ n. n ≤ most_place) l

-- passing 2

lengths-good : (ns : List ℕ) → All (λ n. (4 ≤ n) × (n ≤ most_corners)) ns → any bad_length ns ≡ false
unfolding any bad_length
lengths-good [] h = refl
lengths-good (n ∷ ns) h =
    ap₂ ◌||◌ (ap₂ ◌||◌ (le-ltb n 4 h.0.0) (le-ltb most_corners n h.0.1)) (lengths-good ns h.1)

pub figure-good : (f : Figure) → Good f → bad_figure f ≡ false
unfolding bad_figure
figure-good f g =
    let some = g.some in
    rw (
      ne_eqb (length f.lengths) 0 (λ e. omega arith),
      le-ltb most_rings (length f.lengths) g.few,
      lengths-good f.lengths g.each,
      le-ltb most_corners (total f) g.most,
      eq-eqb (length f.numbers) (2 * total f) g.numbers,
    )

-- rings that are laid out

-- no ring has fewer numbers than two for each corner
halves_least : (ls : List (List ℕ)) → 2 * total (figure_of ls) ≤ length (figure_of ls).numbers
unfolding sum_of join
halves_least [] = omega arith
halves_least (l ∷ ls) = omega (arith, halves_least ls, length-append l (join (λ m. m) ls))

pub rings-each : (ls : List (List ℕ)) → length (figure_of ls).numbers ≡ 2 * total (figure_of ls)
    → All (λ n. (4 ≤ n) × (n ≤ most_corners)) (figure_of ls).lengths → All (λ n. n ≤ most_place) (figure_of ls).numbers → All Ring ls
unfolding sum_of join
rings-each [] e h p = tt
rings-each (l ∷ ls) e h p =
    let q = All-parts (λ n. n ≤ most_place) l (join (λ m. m) ls) p in
    let a = length-append l (join (λ m. m) ls) in
    let b = halves_least ls in
    (record { even = omega (arith, a, b, e); least = h.0.0; places = q.0 }, rings-each ls (omega (arith, a, b, e)) h.1 q.1)

pub lengths-each : (ls : List (List ℕ)) → All Ring ls → total (figure_of ls) ≤ most_corners
    → All (λ n. (4 ≤ n) × (n ≤ most_corners)) (figure_of ls).lengths
unfolding sum_of
lengths-each [] h k = tt
lengths-each (l ∷ ls) h k = ((h.0.least, omega (arith, k)), lengths-each ls h.1 (omega (arith, k)))

pub numbers_twice : (ls : List (List ℕ)) → All Ring ls → length (figure_of ls).numbers ≡ 2 * total (figure_of ls)
unfolding sum_of join
numbers_twice [] h = omega arith
numbers_twice (l ∷ ls) h = omega (arith, h.0.even, numbers_twice ls h.1, length-append l (join (λ m. m) ls))

-- numbers that are shared out

shared : (ns l : List ℕ) → length l ≡ 2 * sum_of (λ n. n) ns
    → (join (λ m. m) (share ns l) ≡ l) × (map (λ (m : List ℕ). length m / 2) (share ns l) ≡ ns)
unfolding share join sum_of
shared [] [] h = (refl, refl)
shared [] (u ∷ l) h = absurd (omega arith)
shared (n ∷ ns) l h =
    let i = shared ns (drop (2 * n) l) (omega (arith, length-drop {A = ℕ} (2 * n) l)) in
    let e : length (take (2 * n) l) / 2 ≡ n = omega (arith, length-take-le (2 * n) l (omega arith)) in
    (ap (λ (m : List ℕ). take (2 * n) l ++ m) i.0 ∙ take-append-drop (2 * n) l, ap₂ ◌∷◌ e i.1)

pub share_back : (f : Figure) → bad_figure f ≡ false → figure_of (share f.lengths f.numbers) ≡ f
share_back f h = let i = shared f.lengths f.numbers (rings-good f h).numbers in ap₂ figure i.0 i.1

-- the k-th ring and those after it

module _ (ns : List ℕ) (k : ℕ) (here : k < length ns) where
  pub sum_cons : sum_of (λ n. n) (drop k ns) ≡ get_or ns k 0 + sum_of (λ n. n) (drop (k + 1) ns)
  unfolding sum_of
  sum_cons = ap (sum_of (λ n. n)) (drop-cons ns k 0 here) ∙ ap (λ m. get_or ns k 0 + sum_of (λ n. n) (drop m ns)) (sym (add-one k))

  pub share-cons : (l : List ℕ) (from n to : ℕ) → n ≡ get_or ns k 0 → to ≡ from + 2 * n
      → share (drop k ns) (drop from l) ≡ take (to - from) (drop from l) ∷ share (drop (k + 1) ns) (drop to l)
  unfolding share
  share-cons l from n to long ends =
      let z : 2 * get_or ns k 0 ≡ to - from = omega arith in
      let y : from + (to - from) ≡ to = omega arith in
      ap (λ m. share m (drop from l)) (drop-cons ns k 0 here)
      ∙ ap (λ m. take m (drop from l) ∷ share (drop (suc k) ns) (drop m (drop from l))) z
      ∙ ap₂ (λ m i. take (to - from) (drop from l) ∷ share (drop i ns) m)
      (drop-drop (to - from) from l ∙ ap (λ i. drop i l) y)
      (sym (add-one k))
