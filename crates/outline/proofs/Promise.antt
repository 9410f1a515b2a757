-- The promise of a drawing: which refusal is given when, how a grid lies in memory, and that nothing is left open. Assumes nothing.
--
--   length-list_of, list_of-at       == a list_of has so many numbers, and each is the function's
--   front-within, front-lines, front_length   == the lines at the front of a list
--   lines-laid, cells-laid       == lines and cells as the code has them are those of the grid in memory
--   sheet-whole, sheet-without   == and so is the whole sheet; cleared lists are the sheet of a refusal
--   cells-shaded                 == the marks of all walls, swept, are the cells
--   cells-empty, cells-some      == where no cell in memory is 1 no cell is inside, and the other way round
--   refusal-2, -3, -4, -5, -0    == the refusal, by the tests in their order
--   refusal-first, answer-first  == a refusal is given exactly when it is the first whose condition holds
--   one-ring-refusal             == a figure of one ring is refused as the scope says of an outline
--   refusal-most                 == no refusal of a drawing has a number above 5
--   right-sound                  == the grid of a figure that passes 2 to 4 is sound
--   promise_refused, promise_empty, promise_accepted   == each way a drawing ends keeps the promise
--   promise_unique               == any two drawings that keep the promise are equal, and so is what they leave in the lent lists
use Rattle.std.specs.Prelude.{Result, Ok, Err, ⊤}
use Prim.Native.Nat.{ℕ, zero, suc, ◌+◌, ◌*◌, ◌-◌, ◌/◌, ◌%◌, ◌≤◌, ◌<◌}
use mathlib.Core.Path.{◌≡◌, refl, sym, ◌∙◌, ap, ap₂, subst}
use mathlib.Core.Bool.{Bool, true, false, not, cond, ◌||◌, true≢false}
use mathlib.Core.List.{List, [], ◌∷◌, ◌++◌}
use mathlib.Core.Logic.{◌↔◌, inl, inr}
use native.Mathlib.Omega.{arith}
use lib.Dec.{leb, ltb, eqb}
use lib.ListN.{length, get_or, take, drop, replicate, length-append, length-drop, get_or-append}
use lib.Seq.{ext_get_or, take_at, get_or-append-add, get_or-drop, get_or_at}
use borrow.Author.Tests.{le-leb, lt-leb, eqb-true, eq-eqb, ne_eqb, not-false}
use Rattle.sum.specs.Sum.{only, over, All}
use Rattle.sum.proofs.Sum.{le-or, over_zero, over_term}
use Rattle.figure.specs.declared.Axis.{Axis}
use Rattle.figure.specs.declared.Axis.TheVariants.{X, Y}
use Rattle.outline.specs.declared.Drawing.{Drawing}
use Rattle.refusal.specs.declared.Refusal.{Refusal}
use Rattle.refusal.specs.declared.Refusal.TheVariants as because
use Rattle.refusal.specs.Refusals.{refusal_no}
use Rattle.refusal.proofs.Refusals.{refusal-one, refusal-some}
use Rattle.figure.specs.Corners.{corners, coordinate, edges, odd, any, slanted, unturned}
use Rattle.figure.specs.Figure.{Figure, figure, rings, corners_of, edges_of, bad_figure, fault}
use Rattle.figure.specs.Inside.{walls, count}
use Rattle.figure.specs.Steps.{Right}
use Rattle.figure.proofs.Fault.{fault_0, shape_one}
use Rattle.figure.proofs.Sharing.{corners-whole, one-ring-fault}
use Rattle.outline.specs.Lines.{lines, place}
use Rattle.outline.specs.Grid.{Grid, Sound, Memory, memory}
use Rattle.outline.specs.Inside.{grid_of, grid, inside_cells, empty}
use Rattle.outline.specs.Promise.{answer_no, refusal, list_of, laid, blank, Sheet, sheet, Promise}
use Rattle.outline.specs.Steps.{flip, lit, stands, Gathered, Lined, Marked, Swept, Clear, sheet_of, without}
use Rattle.figure.proofs.Corners.{none-at, any_some}
use Rattle.outline.proofs.Lines.{place_at}
use Rattle.outline.proofs.Inside.{grid-sound, one-ring-grid}
use Rattle.outline.proofs.Marking.{right-length, right-lines}
use Rattle.outline.proofs.Shading.{swept-count, reaches_inside, beyond-inside}

pub length-list_of : (n : ℕ) (f : ℕ → ℕ) → length (list_of n f) ≡ n
unfolding list_of
length-list_of zero f = refl
length-list_of (suc n) f = length-append (list_of n f) (f n ∷ []) ∙ omega (arith, length-list_of n f)

pub list_of-at : (n : ℕ) (f : ℕ → ℕ) (i : ℕ) → i < n → get_or (list_of n f) i 0 ≡ f i
unfolding list_of
list_of-at zero f i h = absurd (omega arith)
list_of-at (suc n) f i h = elim (le-or n i) [
  | inl q ↦ (let e : i ≡ n = omega arith in rw e (get_or_at (list_of n f) (f n) [] 0 n (length-list_of n f)))
  | inr q ↦ get_or-append (list_of n f) (f n ∷ []) 0 i (omega (arith, length-list_of n f)) ∙ list_of-at n f i q
]

-- a list of numbers that are the function's is its list_of
list_of-is : (n : ℕ) (f : ℕ → ℕ) (l : List ℕ) → length l ≡ n → ((i : ℕ) → i < n → get_or l i 0 ≡ f i) → l ≡ list_of n f
list_of-is n f l h k =
    ext_get_or 0 l (list_of n f) (h ∙ sym (length-list_of n f)) (λ i q. k i (omega arith) ∙ sym (list_of-at n f i (omega arith)))

nothing : (m n : ℕ) → ◌≡◌ {A = ℕ} (get_or (replicate m 0) n 0) 0
nothing zero n = refl
nothing (suc m) zero = refl
nothing (suc m) (suc n) = nothing m n

-- what was gathered is at the front
module _ (a : Axis) (l ls : List ℕ) (n : ℕ) (after : List ℕ) (h : Gathered a l ls n after) where
  pub front-within : n ≤ length after
  front-within = omega (arith, h.number, ap length h.list, length-append (lines a (corners l)) (drop n ls))

  pub front-lines : take n after ≡ lines a (corners l)
  front-lines = ap (take n) h.list ∙ take_at (lines a (corners l)) (drop n ls) n (sym h.number)

  pub front_length : n ≡ length (take n after)
  front_length = h.number ∙ ap length (sym front-lines)

-- lines, and zeros beyond them
pub lines-laid : (ls : List ℕ) → 1 ≤ length ls → length ls ≤ 16
    → ls ++ drop (length ls) (replicate 16 0) ≡ list_of 16 (λ i. only (leb i (length ls - 1)) (place ls i))
lines-laid ls h k =
    list_of-is 16 _ (ls ++ drop (length ls) (replicate 16 0))
    (length-append ls (drop (length ls) (replicate 16 0)) ∙ omega (arith, length-drop {A = ℕ} (length ls) (replicate 16 0)))
    (λ i q. elim (le-or (length ls) i) [ inl r ↦ past i r | inr r ↦ at i r ])
  where
    at : (i : ℕ) → i < length ls → get_or (ls ++ drop (length ls) (replicate 16 0)) i 0 ≡ only (leb i (length ls - 1)) (place ls i)
    at i r =
        get_or-append ls (drop (length ls) (replicate 16 0)) 0 i r
        ∙ sym (place_at ls i r)
        ∙ ap (λ b. only b (place ls i)) (sym (le-leb i (length ls - 1) (omega arith)))

    past : (i : ℕ) → length ls ≤ i → get_or (ls ++ drop (length ls) (replicate 16 0)) i 0 ≡ only (leb i (length ls - 1)) (place ls i)
    past i r =
        let z : i ≡ length ls + (i - length ls) = omega arith in
        ap (λ n. get_or (ls ++ drop (length ls) (replicate 16 0)) n 0) z
        ∙ get_or-append-add ls (drop (length ls) (replicate 16 0)) (i - length ls) 0
        ∙ get_or-drop (length ls) (replicate 16 0) (i - length ls) 0
        ∙ nothing 16 (length ls + (i - length ls))
        ∙ ap (λ b. only b (place ls i)) (sym (lt-leb i (length ls - 1) (omega arith)))

-- what was gathered into zeros
gathered-laid : (a : Axis) (f : Figure) (ls : List ℕ) (n : ℕ) (after : List ℕ) → Right f → ls ≡ replicate 16 0 → Gathered a f.numbers ls n after
    → after ≡ list_of 16 (λ i. only (leb i (length (lines a (corners_of f)) - 1)) (place (lines a (corners_of f)) i))
gathered-laid a f ls n after right z h =
    let w = sym (corners-whole f right.figure-good) in
    h.list
    ∙ ap₂ (λ k m. lines a (corners f.numbers) ++ drop k m) h.number z
    ∙ ap (λ cs. lines a cs ++ drop (length (lines a cs)) (replicate 16 0)) w
    ∙ lines-laid (lines a (corners_of f)) (omega (arith, right-lines f right a)) (right-lines f right a).1

-- lines and cells together
pub sheet-whole : (f : Figure) (xs ys cells : List ℕ) → Right f → Clear xs ys cells → (m n : ℕ) (xs' ys' cells' : List ℕ)
    → Gathered X f.numbers xs m xs' → Gathered Y f.numbers ys n ys' → cells' ≡ (laid (grid f)).cells
    → sheet (Ok (record { columns = m - 1; rows = n - 1 })) xs' ys' cells' ≡ sheet_of (grid f)
unfolding sheet sheet_of laid grid grid_of
sheet-whole f xs ys cells right clear m n xs' ys' cells' hx hy shaded i =
    record {
      answer = Ok tt;
      grid =
          memory (across X m xs xs' hx i) (across Y n ys ys' hy i)
          (gathered-laid X f xs m xs' right clear.xs_clear hx i)
          (gathered-laid Y f ys n ys' right clear.ys_clear hy i)
          (shaded i);
    }
  where
    across : (a : Axis) (n : ℕ) (ls after : List ℕ) → Gathered a f.numbers ls n after → n - 1 ≡ length (lines a (corners_of f)) - 1
    across a n ls after h = ap (λ k. k - 1) (h.number ∙ ap (λ cs. length (lines a cs)) (sym (corners-whole f right.figure-good)))

-- all cleared
pub sheet-without : (why : Refusal) (xs ys cells : List ℕ) → Clear xs ys cells
    → sheet (Err why) xs ys cells ≡ without why
unfolding sheet without blank
sheet-without why xs ys cells clear i =
    record { answer = Err why; grid = memory 0 0 (clear.xs_clear i) (clear.ys_clear i) (clear.cells_clear i) }

-- cells, column after column
pub cells-laid : (g : Grid) (cells : List ℕ) → length cells ≡ 256
    → ((i j : ℕ) → i < 16 → j < 16 → get_or cells (16 * i + j) 0 ≡ only (g.inside i j) 1)
    → cells ≡ (laid g).cells
unfolding laid
cells-laid g cells h k =
    list_of-is 256 _ cells h
    (λ n q.
    let z : n ≡ 16 * (n / 16) + n % 16 = omega arith in
    ap (λ m. get_or cells m 0) z ∙ k (n / 16) (n % 16) (omega arith) (omega arith))

-- a zero turned over
flip-zero : (t : Bool) → flip t 0 ≡ only t 1
unfolding flip
flip-zero true = refl
flip-zero false = refl

-- the marks of all walls, swept, are the cells
pub cells-shaded : (f : Figure) (xs ys zeros cells after : List ℕ) → Lined f xs ys → zeros ≡ replicate 256 0
    → Marked xs ys (walls (edges_of f)) zeros cells → Swept (length xs) cells after → length after ≡ length cells
    → after ≡ (laid (grid f)).cells
cells-shaded f xs ys zeros cells after lined z m swept e =
    cells-laid (grid f) after (e ∙ m.marks.length-cells)
    (λ i j p q. elim (le-or (length xs) i) [
      | inl r ↦
          swept.rest (16 * i + j) (omega arith)
          ∙ all (16 * i + j)
          ∙ ap (λ b. only b 1) (beyond-inside f some i j q (omega (arith, ap length lined.across-x)))
      | inr r ↦
          swept.at i j r q
          ∙ swept-count f some cells all i j q
          ∙ ap (λ b. only b 1) (reaches_inside f some lined.right.slanted-none i j)
    ])
  where
    some : 0 < length (lines X (corners_of f))
    some = omega (arith, right-lines f lined.right X)

    all : (n : ℕ) → get_or cells n 0 ≡ only (odd (count (stands (lines X (corners_of f)) (lines Y (corners_of f)) n) (walls (edges_of f)))) 1
    all n =
        m.at n
        ∙ ap₂ (λ us vs. flip (odd (count (stands us vs n) (walls (edges_of f)))) (get_or zeros n 0)) lined.across-x lined.across-y
        ∙ ap (flip (odd (count (stands (lines X (corners_of f)) (lines Y (corners_of f)) n) (walls (edges_of f))))) (ap (λ l. get_or l n 0) z ∙ nothing 256 n)
        ∙ flip-zero (odd (count (stands (lines X (corners_of f)) (lines Y (corners_of f)) n) (walls (edges_of f))))

-- where no cell in memory is 1 no cell is inside, and the other way round
module _ (g : Grid) (sound : Sound g) where
  -- a cell of the frame in memory
  cell-at : (i j : ℕ) → i < 16 → j < 16 → get_or (laid g).cells (16 * i + j) 0 ≡ only (g.inside i j) 1
  unfolding laid
  cell-at i j p q =
      let u : (16 * i + j) / 16 ≡ i = omega arith in
      let v : (16 * i + j) % 16 ≡ j = omega arith in
      list_of-at 256 _ (16 * i + j) (omega arith) ∙ ap₂ (λ m n. only (g.inside m n) 1) u v

  length-cells : length (laid g).cells ≡ 256
  unfolding laid
  length-cells = length-list_of 256 _

  pub cells-empty : any lit (laid g).cells ≡ false → empty g ≡ true
  unfolding empty inside_cells lit
  cells-empty h =
      eq-eqb _ 0
      (over_zero 0 g.columns _
      (λ i p q.
      over_zero 0 g.rows _
      (λ j r s.
      sym (cell-at i j (omega (arith, sound.columns-most)) (omega (arith, sound.rows-most)))
      ∙ eqb-true _ 0
      (not-false _ (none-at lit 0 (laid g).cells (16 * i + j) h (omega (arith, length-cells, sound.columns-most, sound.rows-most)))))))

  -- an inside cell lies in the frame, and is counted
  counted : (i j : ℕ) → g.inside i j ≡ true → 1 ≤ inside_cells g
  unfolding inside_cells
  counted i j h = elim (le-or g.columns i) [
    | inl p ↦ absurd (true≢false (sym h ∙ sound.right-none i j p))
    | inr p ↦
        elim (le-or g.rows j) [
          | inl q ↦ absurd (true≢false (sym h ∙ sound.above-none i j q))
          | inr q ↦
              omega (
                arith,
                over_term 0 g.columns i (λ i. over 0 g.rows (λ j. only (g.inside i j) 1)) (omega arith) p,
                over_term 0 g.rows j (λ j. only (g.inside i j) 1) (omega arith) q,
                ap (λ b. only b 1) h,
              )
        ]
  ]

  pub cells-some : any lit (laid g).cells ≡ true → empty g ≡ false
  unfolding empty lit laid
  cells-some h =
      any_some lit 0 (laid g).cells (eqb (inside_cells g) 0 ≡ false) h
      (λ k q e. ne_eqb (inside_cells g) 0 (λ z. absurd (omega (arith, counted (k / 16) (k % 16) (on k (omega (arith, length-cells)) e)))))
    where
      is_one : (b : Bool) → not (eqb (only b 1) 0) ≡ true → b ≡ true
      is_one true e = refl
      is_one false e = absurd (true≢false (sym e))

      on : (k : ℕ) → k < 256 → not (eqb (get_or (list_of 256 (λ k. only (g.inside (k / 16) (k % 16)) 1)) k 0) 0) ≡ true → g.inside (k / 16) (k % 16) ≡ true
      on k q e = is_one (g.inside (k / 16) (k % 16)) (ap (λ n. not (eqb n 0)) (sym (list_of-at 256 _ k q)) ∙ e)

-- the refusal, by the figure's own fault first
module _ (f : Figure) where
  pub refusal-fault : (n : ℕ) → fault f ≡ suc n → refusal f ≡ suc n
  unfolding refusal
  refusal-fault n e = ap (λ b. cond b (cond (empty (grid f)) 5 0) (fault f)) (ne_eqb (fault f) 0 (λ z. omega arith)) ∙ e

  pub refusal_5 : Right f → empty (grid f) ≡ true → refusal f ≡ 5
  unfolding refusal
  refusal_5 r d = rw (sym (fault_0 f r), d)

  pub refusal_0 : Right f → empty (grid f) ≡ false → refusal f ≡ 0
  unfolding refusal
  refusal_0 r d = rw (sym (fault_0 f r), d)

  -- a refusal keeps the promise
  pub promise_refused : (s : Sheet) (why : Refusal) → refusal f ≡ refusal_no why → s ≡ without why → Promise f s
  unfolding without
  promise_refused s why e h =
      record {
        told = ap (λ (q : Sheet). answer_no q.answer) h ∙ sym e;
        drawn =
            ap (λ (q : Sheet). q.grid) h
            ∙ sym (ap (λ b. cond b (laid (grid f)) blank) (ne_eqb (refusal f) 0 (λ z. omega (arith, refusal-some why))));
        sound = λ z. absurd (omega (arith, refusal-some why));
      }

  -- so does the figure's own fault
  pub promise_fault : (s : Sheet) (why : Refusal) → refusal_no why ≡ fault f → s ≡ without why → Promise f s
  promise_fault s why e h =
      let z : fault f ≡ suc (refusal_no why - 1) = omega (arith, refusal-some why) in
      promise_refused s why (refusal-fault (refusal_no why - 1) z ∙ omega (arith, refusal-some why)) h

-- the corners' places are 16-bit numbers, as those of the list are
corners-range : (l : List ℕ) → ((i : ℕ) → get_or l i 0 ≤ 65535) → (a : Axis) → All (λ c. coordinate a c ≤ 65535) (corners l)
unfolding corners coordinate
corners-range [] h a = tt
corners-range (u ∷ []) h a = tt
corners-range (u ∷ v ∷ l) h X = (h 0, corners-range l (λ i. h (suc (suc i))) X)
corners-range (u ∷ v ∷ l) h Y = (h 1, corners-range l (λ i. h (suc (suc i))) Y)

module _ (f : Figure) (right : Right f) (range : (i : ℕ) → get_or f.numbers i 0 ≤ 65535) where
  -- The grid of a figure that passes 2 to 4 is sound
  pub right-sound : Sound (grid f)
  right-sound =
      let n = right-length f right in
      grid-sound f right (omega arith) (omega arith)
      (λ a. subst (All (λ c. coordinate a c ≤ 65535)) (sym (corners-whole f right.figure-good)) (corners-range f.numbers range a))

  -- the whole sheet was drawn, and t tells whether a cell of it is 1
  module _ (s : Sheet) (drawn : s ≡ sheet_of (grid f)) (t : Bool) (e : t ≡ any lit s.grid.cells) where
    lit-cells : any lit (laid (grid f)).cells ≡ t
    unfolding sheet_of
    lit-cells = ap (λ (q : Sheet). any lit q.grid.cells) (sym drawn) ∙ sym e

    pub promise_empty : t ≡ false → (q : Sheet) → q ≡ without because.Empty → Promise f q
    promise_empty z q h =
        promise_refused f q because.Empty
        (refusal_5 f right (cells-empty (grid f) right-sound (lit-cells ∙ z)))
        h

    pub promise_accepted : t ≡ true → Promise f s
    unfolding sheet_of
    promise_accepted z =
        record {
          told = ap (λ (q : Sheet). answer_no q.answer) drawn ∙ sym none;
          drawn = ap (λ (q : Sheet). q.grid) drawn ∙ sym (ap (λ z. cond (eqb z 0) (laid (grid f)) blank) none);
          sound = λ y. right-sound;
        }
      where
        none : refusal f ≡ 0
        none = refusal_0 f right (cells-some (grid f) right-sound (lit-cells ∙ z))

-- which of four tests is the first that holds
pub record FirstOf (a b c d : Bool) (n : ℕ) : Type 0 where
  pub two : (n ≡ 2) ↔ (a ≡ true)
  pub three : (n ≡ 3) ↔ ((a ≡ false) × (b ≡ true))
  pub four : (n ≡ 4) ↔ ((a ≡ false) × (b ≡ false) × (c ≡ true))
  pub five : (n ≡ 5) ↔ ((a ≡ false) × (b ≡ false) × (c ≡ false) × (d ≡ true))
  pub none : (n ≡ 0) ↔ ((a ≡ false) × (b ≡ false) × (c ≡ false) × (d ≡ false))

first_of : (a b c d : Bool) → FirstOf a b c d (cond (eqb (cond a 2 (cond b 3 (cond c 4 0))) 0) (cond d 5 0) (cond a 2 (cond b 3 (cond c 4 0))))
first_of true b c d =
    record {
      two = ((λ e. refl), λ h. refl);
      three = ((λ e. absurd (omega arith)), λ h. absurd (true≢false h.0));
      four = ((λ e. absurd (omega arith)), λ h. absurd (true≢false h.0));
      five = ((λ e. absurd (omega arith)), λ h. absurd (true≢false h.0));
      none = ((λ e. absurd (omega arith)), λ h. absurd (true≢false h.0));
    }
first_of false true c d =
    record {
      two = ((λ e. absurd (omega arith)), λ h. absurd (true≢false (sym h)));
      three = ((λ e. (refl, refl)), λ h. refl);
      four = ((λ e. absurd (omega arith)), λ h. absurd (true≢false h.1));
      five = ((λ e. absurd (omega arith)), λ h. absurd (true≢false h.1));
      none = ((λ e. absurd (omega arith)), λ h. absurd (true≢false h.1));
    }
first_of false false true d =
    record {
      two = ((λ e. absurd (omega arith)), λ h. absurd (true≢false (sym h)));
      three = ((λ e. absurd (omega arith)), λ h. absurd (true≢false (sym h.1)));
      four = ((λ e. (refl, refl, refl)), λ h. refl);
      five = ((λ e. absurd (omega arith)), λ h. absurd (true≢false h.2));
      none = ((λ e. absurd (omega arith)), λ h. absurd (true≢false h.2));
    }
first_of false false false true =
    record {
      two = ((λ e. absurd (omega arith)), λ h. absurd (true≢false (sym h)));
      three = ((λ e. absurd (omega arith)), λ h. absurd (true≢false (sym h.1)));
      four = ((λ e. absurd (omega arith)), λ h. absurd (true≢false (sym h.2)));
      five = ((λ e. (refl, refl, refl, refl)), λ h. refl);
      none = ((λ e. absurd (omega arith)), λ h. absurd (true≢false h.3));
    }
first_of false false false false =
    record {
      two = ((λ e. absurd (omega arith)), λ h. absurd (true≢false (sym h)));
      three = ((λ e. absurd (omega arith)), λ h. absurd (true≢false (sym h.1)));
      four = ((λ e. absurd (omega arith)), λ h. absurd (true≢false (sym h.2)));
      five = ((λ e. absurd (omega arith)), λ h. absurd (true≢false (sym h.3)));
      none = ((λ e. (refl, refl, refl, refl)), λ h. refl);
    }

-- Each refusal is given exactly when its condition holds and none before it does, and none exactly when no condition holds
pub refusal-first : (f : Figure)
    → FirstOf (bad_figure f) (any slanted (rings f)) (any unturned (rings f)) (empty (grid f)) (refusal f)
unfolding refusal fault
refusal-first f = first_of (bad_figure f) (any slanted (rings f)) (any unturned (rings f)) (empty (grid f))

-- and so does the answer of a drawing that keeps its promise
pub answer-first : (f : Figure) (s : Sheet) → Promise f s
    → FirstOf (bad_figure f) (any slanted (rings f)) (any unturned (rings f)) (empty (grid f)) (answer_no s.answer)
answer-first f s p =
    subst (FirstOf (bad_figure f) (any slanted (rings f)) (any unturned (rings f)) (empty (grid f))) (sym p.told) (refusal-first f)

-- Any two drawings that keep the promise are equal: numbers tell the answers apart
pub answer-one : (a b : Result ⊤ Refusal) → answer_no a ≡ answer_no b → a ≡ b
answer-one a b e = shape_one a b e

pub promise_unique : (f : Figure) (r s : Result Drawing Refusal) (xs ys cells xs' ys' cells' : List ℕ)
    → Promise f (sheet r xs ys cells) → Promise f (sheet s xs' ys' cells')
    → (r ≡ s) × (xs ≡ xs') × (ys ≡ ys') × (cells ≡ cells')
unfolding sheet
promise_unique f (Ok r) (Ok s) xs ys cells xs' ys' cells' p q =
    let e : memory r.columns r.rows xs ys cells ≡ memory s.columns s.rows xs' ys' cells' = p.drawn ∙ sym q.drawn in (
      ap Ok (λ i. record { columns = (e i).columns; rows = (e i).rows }),
      ap (λ (m : Memory). m.xs) e,
      ap (λ (m : Memory). m.ys) e,
      ap (λ (m : Memory). m.cells) e,
    )
promise_unique f (Ok r) (Err v) xs ys cells xs' ys' cells' p q = absurd (omega (arith, p.told, q.told, refusal-some v))
promise_unique f (Err u) (Ok s) xs ys cells xs' ys' cells' p q = absurd (omega (arith, p.told, q.told, refusal-some u))
promise_unique f (Err u) (Err v) xs ys cells xs' ys' cells' p q =
    let e : memory 0 0 xs ys cells ≡ memory 0 0 xs' ys' cells' = p.drawn ∙ sym q.drawn in (
      ap Err (refusal-one u v (p.told ∙ sym q.told)),
      ap (λ (m : Memory). m.xs) e,
      ap (λ (m : Memory). m.ys) e,
      ap (λ (m : Memory). m.cells) e,
    )

-- A figure of one ring is refused as the scope says of an outline
pub one-ring-refusal : (l : List ℕ)
    → refusal (figure l (length l / 2 ∷ []))
    ≡ cond (odd (length l) || (ltb (length l) 8 || ltb 64 (length l))) 2
    (cond (slanted (corners l)) 3
    (cond (unturned (corners l)) 4
    (cond (empty (grid_of (lines X (corners l)) (lines Y (corners l)) (walls (edges (corners l))))) 5
    0)))
unfolding refusal
one-ring-refusal l =
    ap₂ (λ n g. cond (eqb n 0) (cond (empty g) 5 0) n) (one-ring-fault l) (one-ring-grid l)
    ∙ go (odd (length l) || (ltb (length l) 8 || ltb 64 (length l))) (slanted (corners l)) (unturned (corners l))
    (empty (grid_of (lines X (corners l)) (lines Y (corners l)) (walls (edges (corners l)))))
  where
    go : (a b c d : Bool)
        → ◌≡◌ {A = ℕ} (cond (eqb (cond a 2 (cond b 3 (cond c 4 0))) 0) (cond d 5 0) (cond a 2 (cond b 3 (cond c 4 0)))) (cond a 2 (cond b 3 (cond c 4 (cond d 5 0))))
    go true b c d = refl
    go false true c d = refl
    go false false true d = refl
    go false false false d = refl

pub refusal-most : (f : Figure) → refusal f ≤ 5
unfolding refusal fault
refusal-most f = most (bad_figure f) (any slanted (rings f)) (any unturned (rings f)) (empty (grid f))
  where
    most : (a b c d : Bool) → cond (eqb (cond a 2 (cond b 3 (cond c 4 0))) 0) (cond d 5 0) (cond a 2 (cond b 3 (cond c 4 0))) ≤ 5
    most true b c d = omega arith
    most false true c d = omega arith
    most false false true d = omega arith
    most false false false true = omega arith
    most false false false false = omega arith
