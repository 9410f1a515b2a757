-- Laws of the numbers of pairs of lines and of the entries of pieces. Assumes nothing.
--
--   below-*      == how many pairs lie below a line
--   pair-closed, count-closed   == the number of a pair and the count of pairs by a formula: with n the number of the last line, the pair of
--                   the lines i < j has the number i (2n + 1 - i) / 2 + (j - i - 1), and there are n (n + 1) / 2 pairs
--   pair-*       == the number of a pair: its bounds, no two pairs have the same one, every number is a pair's
--   entry-*      == the entry of a piece: below the count of entries, and no other piece's
--   run_length   == a run of n numbers has n
--   pairs-*      == the list of pairs: its length, and what stands at a pair's number
--   tabled-*, costs-*   == the list of entries, of any price and of the costs: its length, what stands at a piece's entry, and when a table begins with it
use Prim.Native.Nat.{ℕ, zero, suc, ◌+◌, ◌*◌, ◌-◌, ◌/◌, ◌≤◌, ◌<◌}
use mathlib.Core.Path.{◌≡◌, refl, sym, ◌∙◌, ap, ap₂, subst}
use mathlib.Core.Logic.{inl, inr}
use mathlib.Core.List.{List, [], ◌∷◌, ◌++◌, map}
use lib.ListN.{get_or, length, take, drop, take-append-drop, length-append, length-map, length-drop, get_or-append, get_or-map}
use lib.Seq.{get_or-append-add, ext_get_or, length-take-le, get_or-take, get_or-drop}
use native.Mathlib.Omega.{arith}
use native.Mathlib.Numerals.{add-one}
use mir.Syntax.{w64}
use mir.Val.{Fits}
use native.Mathlib.Nat.{mul-le-mul_right, add-zero, zero-add, suc-add, add-suc, zero-mul, mul-suc, suc-mul, mul-le-mul}
use lib.Arith.{digits_lt}
use Rattle.sum.specs.Sum.{join}
use Rattle.sum.proofs.Sum.{le-or}
use Rattle.outline.specs.Grid.{Grid}
use Rattle.rule.specs.declared.Rule.{Rule}
use Rattle.piece.specs.declared.Mode.{Mode}
use Rattle.piece.specs.Piece.{Piece, box}
use Rattle.piece.specs.Cuts.{run, between, cost}
use Rattle.table.specs.Entry.{pairs_below, pair_count, pair_no, Pair, pair, pairs, entry_count, entry_of, Valid, tabled, costs}

pub below-zero : (m : ℕ) → pairs_below m 0 ≡ 0
unfolding pairs_below
below-zero m = refl

pub below_suc : (m a : ℕ) → pairs_below m (suc a) ≡ pairs_below m a + (m - a)
unfolding pairs_below
below_suc m a = refl

pub below_next : (m a : ℕ) → pairs_below m (a + 1) ≡ pairs_below m a + (m - a)
below_next m a = ap (pairs_below m) (add-one a) ∙ below_suc m a

pub below-most : (m a : ℕ) → m ≤ 15 → pairs_below m a ≤ 15 * a
below-most m zero h = omega (arith, below-zero m)
below-most m (suc a) h = omega (arith, below_suc m a, below-most m a h)

pub below_up : (m a b : ℕ) → a ≤ b → pairs_below m a ≤ pairs_below m b
below_up m a zero h = (let e : a ≡ 0 = omega arith in rw e (omega arith))
below_up m a (suc b) h = elim (le-or a b) [
  | inl q ↦ omega (arith, below_suc m b, below_up m a b q)
  | inr q ↦ (let e : a ≡ suc b = omega arith in rw e (omega arith))
]

-- what the closed formula multiplies is small
pub product-fits : (x y : ℕ) → x ≤ 15 → y ≤ 40 → Fits w64 (x * y)
product-fits x y h k = record { fits = omega (arith, mul-le-mul h k) }

below-closed : (m a : ℕ) → a ≤ m → a * (2 * m + 1 - a) ≡ 2 * pairs_below m a
below-closed m zero h = omega (arith, below-zero m, zero-mul (2 * m + 1 - 0))
below-closed m (suc a) h =
    let k : ℕ = 2 * m - a in
    let one : 2 * m + 1 - a ≡ suc k = omega arith in
    let two : 2 * m + 1 - suc a ≡ k = omega arith in
    omega (
      arith,
      below_suc m a,
      below-closed m a (omega arith),
      ap (λ n. a * n) one,
      mul-suc a k,
      ap (λ n. suc a * n) two,
      suc-mul a k,
    )

-- the same, as the code has it: with n = m + 1 lines, a (2n - a - 1) / 2
pub below-lines : (m a : ℕ) → a ≤ m → a * (2 * (m + 1) - a - 1) ≡ 2 * pairs_below m a
below-lines m a h = let e : 2 * (m + 1) - a - 1 ≡ 2 * m + 1 - a = omega arith in ap (λ n. a * n) e ∙ below-closed m a h

pub pair-closed : (m a c : ℕ) → a < c → c ≤ m → pair_no m a c ≡ (a * (2 * m + 1 - a)) / 2 + (c - a - 1)
unfolding pair_no
pair-closed m a c h k = omega (arith, below-closed m a (omega arith))

pub count-closed : (m : ℕ) → pair_count m ≡ (m * (m + 1)) / 2
unfolding pair_count
count-closed m =
    let e : 2 * m + 1 - m ≡ m + 1 = omega arith in
    omega (arith, below-closed m m (omega arith), ap (λ n. m * n) e)

pub count_most : (m : ℕ) → m ≤ 15 → pair_count m ≤ 225
unfolding pair_count
count_most m h = omega (arith, below-most m m h)

-- a pair lies in its row
pub pair_row : (m a c : ℕ) → a < c → c ≤ m → (pairs_below m a ≤ pair_no m a c) × (pair_no m a c < pairs_below m (suc a))
unfolding pair_no
pair_row m a c h k = omega (arith, below_suc m a)

pub pair-below : (m a c : ℕ) → a < c → c ≤ m → pair_no m a c < pair_count m
unfolding pair_count
pair-below m a c h k = omega (arith, pair_row m a c h k, below_up m (suc a) m (omega arith))

pub pair_same : (m a c b d : ℕ) → a < c → c ≤ m → b < d → d ≤ m → pair_no m a c ≡ pair_no m b d → (a ≡ b) × (c ≡ d)
unfolding pair_no
pair_same m a c b d h k p q e = elim (le-or a b) [
  | inr r ↦ absurd (omega (arith, pair_row m a c h k, pair_row m b d p q, below_up m (suc b) a r))
  | inl r ↦ elim (le-or b a) [
    | inr s ↦ absurd (omega (arith, pair_row m a c h k, pair_row m b d p q, below_up m (suc a) b s))
    | inl s ↦ (let z : a ≡ b = omega arith in (z, omega (arith, ap (pairs_below m) z)))
  ]
]

-- every number below the count is a pair's
pub pair_of : (m a u : ℕ) → a ≤ m → u < pairs_below m a → (p : ℕ) × (q : ℕ) × (p < q) × (q ≤ m) × (pair_no m p q ≡ u)
unfolding pair_no
pair_of m zero u l h = absurd (omega (arith, below-zero m))
pair_of m (suc a) u l h = elim (le-or (pairs_below m a) u) [
  | inr q ↦ pair_of m a u (omega arith) q
  | inl q ↦ (a, suc a + (u - pairs_below m a), omega arith, omega (arith, below_suc m a), omega arith)
]

pub entry-below : (m n : ℕ) (p : Piece) → Valid m n p → entry_of m n p < entry_count m n
unfolding entry_of entry_count
entry-below m n p v = digits_lt (pair-below m p.a p.c v.ac v.cx) (pair-below n p.b p.d v.bd v.dy)

pub digits_same : (u v m i j : ℕ) → i < m → j < m → u * m + i ≡ v * m + j → (u ≡ v) × (i ≡ j)
digits_same u v m i j h k e = elim (le-or u v) [
  | inr r ↦ absurd (omega (arith, mul-le-mul_right m r))
  | inl r ↦ elim (le-or v u) [
    | inr s ↦ absurd (omega (arith, mul-le-mul_right m s))
    | inl s ↦ (let z : u ≡ v = omega arith in (z, omega (arith, ap (λ n. n * m) z)))
  ]
]

pub entry-same : (m n : ℕ) (p q : Piece) → Valid m n p → Valid m n q → entry_of m n p ≡ entry_of m n q → p ≡ q
unfolding entry_of
entry-same m n p q v w e =
    let s =
    digits_same (pair_no m p.a p.c) (pair_no m q.a q.c) (pair_count n) (pair_no n p.b p.d) (pair_no n q.b q.d)
    (pair-below n p.b p.d v.bd v.dy)
    (pair-below n q.b q.d w.bd w.dy)
    e in
    let x = pair_same m p.a p.c q.a q.c v.ac v.cx w.ac w.cx s.0 in
    let y = pair_same n p.b p.d q.b q.d v.bd v.dy w.bd w.dy s.1 in
    λ i. record { a = x.0 i; c = x.1 i; b = y.0 i; d = y.1 i }

-- every number below k * m has its two digits
pub digits_of : (k m i : ℕ) → i < k * m → (q : ℕ) × (v : ℕ) × (q < k) × (v < m) × (q * m + v ≡ i)
digits_of zero m i h = absurd (omega arith)
digits_of (suc k) m i h = elim (le-or (k * m) i) [
  | inr w ↦ (let r = digits_of k m i w in (r.0, r.1, omega (arith, r.2), r.3, r.4))
  | inl w ↦ (k, i - k * m, omega arith, omega arith, omega arith)
]

-- lists made in rows
module _ {A : Type 0} (z : A) where
  -- the rows f a for the a of a run; s a is where the row a starts
  rows_at : (f : ℕ → List A) (s : ℕ → ℕ) → ((a : ℕ) → s (suc a) ≡ s a + length (f a)) → (k n a i : ℕ) → k ≤ a → a < k + n → i < length (f a)
      → get_or (join f (run k n)) (s a - s k + i) z ≡ get_or (f a) i z
  unfolding join run
  rows_at f s step k zero a i h q r = absurd (omega arith)
  rows_at f s step k (suc n) a i h q r = elim (le-or a k) [
    | inl w ↦
        (let e : k ≡ a = omega arith in
        ap (λ m. get_or (f k ++ join f (run (suc k) n)) m z) (omega (arith, ap s e))
        ∙ get_or-append (f k) (join f (run (suc k) n)) z i (subst (λ m. i < length (f m)) (sym e) r)
        ∙ ap (λ m. get_or (f m) i z) e)
    | inr w ↦
        ap (λ m. get_or (f k ++ join f (run (suc k) n)) m z) (omega (arith, step k, up (suc k) a w))
        ∙ get_or-append-add (f k) (join f (run (suc k) n)) (s a - s (suc k) + i) z
        ∙ rows_at f s step (suc k) n a i w (omega arith) r
  ]
    where
      up : (k a : ℕ) → k ≤ a → s k ≤ s a
      up k zero h = (let e : k ≡ 0 = omega arith in rw e (omega arith))
      up k (suc a) h = elim (le-or k a) [
        | inl q ↦ omega (arith, step a, up k a q)
        | inr q ↦ (let e : k ≡ suc a = omega arith in rw e (omega arith))
      ]

  rows-length : (f : ℕ → List A) (s : ℕ → ℕ) → ((a : ℕ) → s (suc a) ≡ s a + length (f a)) → (k n : ℕ) → length (join f (run k n)) + s k ≡ s (k + n)
  unfolding join run
  rows-length f s step k zero = omega (arith, ap s (add-zero k))
  rows-length f s step k (suc n) =
      omega (arith, length-append (f k) (join f (run (suc k) n)), rows-length f s step (suc k) n, step k, ap s (suc-add k n ∙ sym (add-suc k n)))

module _ {A B : Type 0} (y : A) (z : B) where
  -- rows of one length
  grid-at : (f : A → List B) (m : ℕ) → ((x : A) → length (f x) ≡ m) → (l : List A) (u v : ℕ) → u < length l → v < m
      → get_or (join f l) (u * m + v) z ≡ get_or (f (get_or l u y)) v z
  unfolding join
  grid-at f m len [] u v h k = absurd (omega arith)
  grid-at f m len (x ∷ l) zero v h k =
      ap (λ i. get_or (f x ++ join f l) i z) (omega arith) ∙ get_or-append (f x) (join f l) z v (omega (arith, len x))
  grid-at f m len (x ∷ l) (suc u) v h k =
      ap (λ i. get_or (f x ++ join f l) i z) (omega (arith, len x))
      ∙ get_or-append-add (f x) (join f l) (u * m + v) z
      ∙ grid-at f m len l u v (omega arith) k

  grid-length : (f : A → List B) (m : ℕ) → ((x : A) → length (f x) ≡ m) → (l : List A) → length (join f l) ≡ length l * m
  unfolding join
  grid-length f m len [] = omega arith
  grid-length f m len (x ∷ l) = omega (arith, length-append (f x) (join f l), len x, grid-length f m len l)

pub run_length : (k n : ℕ) → length (run k n) ≡ n
unfolding run
run_length k zero = refl
run_length k (suc n) = ap suc (run_length (suc k) n)

run_get_d : (k n i : ℕ) → i < n → get_or (run k n) i 0 ≡ k + i
unfolding run
run_get_d k zero i h = absurd (omega arith)
run_get_d k (suc n) zero h = omega arith
run_get_d k (suc n) (suc i) h = omega (arith, run_get_d (suc k) n i (omega arith))

-- the pairs whose low line is a
row_pairs : ℕ → ℕ → List Pair
row_pairs m a = map (pair a) (between a (suc m))

pair_row_length : (m a : ℕ) → length (row_pairs m a) ≡ m - a
unfolding row_pairs between
pair_row_length m a = length-map (run (suc a) (suc m - suc a)) (pair a) ∙ run_length (suc a) (suc m - suc a) ∙ omega arith

pair_row_step : (m a : ℕ) → pairs_below m (suc a) ≡ pairs_below m a + length (row_pairs m a)
pair_row_step m a = omega (arith, below_suc m a, pair_row_length m a)

pub pairs-length : (m : ℕ) → length (pairs m) ≡ pair_count m
unfolding pairs row_pairs pair_count
pairs-length m = omega (arith, rows-length (pair 0 0) (row_pairs m) (pairs_below m) (pair_row_step m) 0 m, below-zero m, ap (pairs_below m) (zero-add m))

module _ {A : Type 0} where
  get_d_other : (y z : A) (l : List A) (i : ℕ) → i < length l → get_or l i y ≡ get_or l i z
  get_d_other y z [] i h = absurd (omega arith)
  get_d_other y z (x ∷ l) zero h = refl
  get_d_other y z (x ∷ l) (suc i) h = get_d_other y z l i (omega arith)

pub pairs-at : (m a c : ℕ) → a < c → c ≤ m → get_or (pairs m) (pair_no m a c) (pair 0 0) ≡ pair a c
unfolding pairs row_pairs pair_no between
pairs-at m a c h k =
    ap (λ i. get_or (pairs m) i (pair 0 0)) (omega (arith, below-zero m))
    ∙ rows_at (pair 0 0) (row_pairs m) (pairs_below m) (pair_row_step m) 0 m a (c - suc a) (omega arith) (omega arith) (omega (arith, pair_row_length m a))
    ∙ get_d_other (pair 0 0) (pair a 0) (map (pair a) (run (suc a) (suc m - suc a))) (c - suc a) (omega (arith, pair_row_length m a))
    ∙ get_or-map (pair a) (run (suc a) (suc m - suc a)) (c - suc a) 0
    ∙ ap (pair a) (run_get_d (suc a) (suc m - suc a) (c - suc a) (omega arith) ∙ omega arith)

map_at : (f : Pair → ℕ) (l : List Pair) (i : ℕ) (z : Pair) → i < length l → get_or (map f l) i 0 ≡ f (get_or l i z)
map_at f [] i z h = absurd (omega arith)
map_at f (x ∷ l) zero z h = refl
map_at f (x ∷ l) (suc i) z h = map_at f l i z (omega arith)

-- definitions read off
pub counted : (m i : ℕ) → i < pair_count m → i < pairs_below m m
unfolding pair_count
counted m i h = h

entry-counted : (m n i : ℕ) → i < entry_count m n → i < pair_count m * pair_count n
unfolding entry_count
entry-counted m n i h = h

pub entry-made : (m n a c b d : ℕ) → entry_of m n (box a c b d) ≡ pair_no m a c * pair_count n + pair_no n b d
unfolding entry_of
entry-made m n a c b d = refl

pub entry-join : (m n a c b d u k v : ℕ) → u ≡ pair_no m a c → k ≡ pair_count n → v ≡ pair_no n b d → Valid m n (box a c b d)
    → (u * k + v ≡ entry_of m n (box a c b d)) × (u * k + v < entry_count m n)
entry-join m n a c b d u k v x y z w =
    let e : u * k + v ≡ entry_of m n (box a c b d) = ap₂ ◌+◌ (ap₂ ◌*◌ x y) z ∙ sym (entry-made m n a c b d) in
    (e, omega (arith, entry-below m n (box a c b d) w))

-- every entry is a piece's
pub piece_of : (m n i : ℕ) → i < entry_count m n → (p : Piece) × Valid m n p × (entry_of m n p ≡ i)
piece_of m n i h =
    let e = digits_of (pair_count m) (pair_count n) i (entry-counted m n i h) in
    let x = pair_of m m e.0 (omega arith) (counted m e.0 e.2) in
    let y = pair_of n n e.1 (omega arith) (counted n e.1 e.3) in (
      box x.0 x.1 y.0 y.1,
      record { ac = x.2; cx = x.3; bd = y.2; dy = y.3 },
      entry-made m n x.0 x.1 y.0 y.1 ∙ ap₂ (λ j k. j * pair_count n + k) x.4 y.4 ∙ e.4,
    )

module _ (f : Piece → ℕ) (m n : ℕ) where
  -- the entries of one x pair
  row_of : Pair → List ℕ
  row_of x = map (λ y. f (box x.low x.high y.low y.high)) (pairs n)

  row_of-length : (x : Pair) → length (row_of x) ≡ pair_count n
  unfolding row_of
  row_of-length x = length-map (pairs n) (λ y. f (box x.low x.high y.low y.high)) ∙ pairs-length n

  pub tabled-length : length (tabled f m n) ≡ entry_count m n
  unfolding tabled row_of entry_count
  tabled-length =
      grid-length (pair 0 0) 0 row_of (pair_count n) row_of-length (pairs m) ∙ ap (λ k. k * pair_count n) (pairs-length m)

  pub tabled-at : (p : Piece) → Valid m n p → get_or (tabled f m n) (entry_of m n p) 0 ≡ f p
  unfolding tabled row_of entry_of
  tabled-at p v =
      grid-at (pair 0 0) 0 row_of (pair_count n) row_of-length (pairs m) (pair_no m p.a p.c) (pair_no n p.b p.d)
      (omega (arith, pairs-length m, pair-below m p.a p.c v.ac v.cx))
      (pair-below n p.b p.d v.bd v.dy)
      ∙ ap (λ x. get_or (row_of x) (pair_no n p.b p.d) 0) (pairs-at m p.a p.c v.ac v.cx)
      ∙ map_at (λ w. f (box p.a p.c w.low w.high)) (pairs n) (pair_no n p.b p.d) (pair 0 0)
      (omega (arith, pairs-length n, pair-below n p.b p.d v.bd v.dy))
      ∙ ap (λ w. f (box p.a p.c w.low w.high)) (pairs-at n p.b p.d v.bd v.dy)

  -- a table that has f of every piece begins with the list of those
  pub tabled-whole : (t u : List ℕ) → entry_count m n ≤ length u → length u ≡ length t
      → ((p : Piece) → Valid m n p → get_or u (entry_of m n p) 0 ≡ f p)
      → ((k : ℕ) → entry_count m n ≤ k → get_or u k 0 ≡ get_or t k 0)
      → u ≡ tabled f m n ++ drop (length (tabled f m n)) t
  tabled-whole t u room long right beyond =
      sym (take-append-drop e u)
      ∙ ap₂ ◌++◌ (ext_get_or 0 (take e u) (tabled f m n) (length-take-le e u room ∙ sym tabled-length) front) (back ∙ ap (λ k. drop k t) (sym tabled-length))
    where
      e : ℕ
      e = entry_count m n

      at_piece : (p : Piece) → Valid m n p → (i : ℕ) → entry_of m n p ≡ i → i < e → get_or (take e u) i 0 ≡ get_or (tabled f m n) i 0
      at_piece p v i q l =
          get_or-take e u i 0 l ∙ ap (λ j. get_or u j 0) (sym q) ∙ right p v ∙ sym (tabled-at p v) ∙ ap (λ j. get_or (tabled f m n) j 0) q

      front : (i : ℕ) → i < length (take e u) → get_or (take e u) i 0 ≡ get_or (tabled f m n) i 0
      front i q =
          let l : i < e = omega (arith, length-take-le e u room) in
          let p = piece_of m n i l in
          at_piece p.0 p.1 i p.2 l

      back : drop e u ≡ drop e t
      back = ext_get_or 0 (drop e u) (drop e t) (omega (arith, length-drop e u, length-drop e t)) (λ i q. get_or-drop e u i 0 ∙ beyond (e + i) (omega arith) ∙ sym (get_or-drop e t i 0))

module _ (mode : Mode) (g : Grid) (r : Rule) where
  pub costs-length : length (costs mode g r) ≡ entry_count g.columns g.rows
  unfolding costs
  costs-length = tabled-length (cost mode g r) g.columns g.rows

  pub costs-at : (p : Piece) → Valid g.columns g.rows p → get_or (costs mode g r) (entry_of g.columns g.rows p) 0 ≡ cost mode g r p
  unfolding costs
  costs-at p v = tabled-at (cost mode g r) g.columns g.rows p v

  -- a table that has every cost begins with the list of costs
  pub costs-whole : (t u : List ℕ) → entry_count g.columns g.rows ≤ length u → length u ≡ length t
      → ((p : Piece) → Valid g.columns g.rows p → get_or u (entry_of g.columns g.rows p) 0 ≡ cost mode g r p)
      → ((k : ℕ) → entry_count g.columns g.rows ≤ k → get_or u k 0 ≡ get_or t k 0)
      → u ≡ costs mode g r ++ drop (length (costs mode g r)) t
  unfolding costs
  costs-whole t u room long right beyond = tabled-whole (cost mode g r) g.columns g.rows t u room long right beyond
