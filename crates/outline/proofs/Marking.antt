-- How the walls mark the cells on their right, ring by ring and edge by edge. Assumes nothing.
--
--   right-length, right-lines        == a figure that passes 2 to 4 has 4 to 32 corners, and 2 to 16 lines each way
--   right-whole                      == the same, said of the corners of the whole list
--   marked_none, marked_more         == no wall turns nothing over; some walls, and then others
--   ruled-listed, ruled-top, marked_bits   == what the search for a line asks, and what turning over does
--   marked_wall                      == a wall is marked
--   upright-before                   == the corner before a wall's end
--   Edges, edges-start, edges-upright, edges_more, edges-end   == on the way over every other edge of a ring: none yet; the next one is a wall;
--                                       it is marked, and the edge after it is none; all
--   flat_walled, flat_ring           == a ring whose closing edge is no wall: the next one is; its walls are those after the closing edge
--   wall-upright, wall_walled, wall-ring   == a ring whose closing edge is a wall; so is the one after the next; its walls are these
--   turns_at                         == the edges of a ring that passes 3 and 4 keep x by turns
--   lined_x, zeros_marks             == there are 1 to 16 x lines; all zeros are marks
--   Rings, rings-start, rings-room, rings-ruled, rings-more, rings-end
--                                    == the rings passed are marked: none yet; the next one's numbers are there, and its lines; it is
--                                       marked; all
use Prim.Native.Nat.{ℕ, zero, suc, ◌+◌, ◌*◌, ◌-◌, ◌/◌, ◌%◌, ◌≤◌, ◌<◌, min, max}
use native.Mathlib.Numerals.{add-one}
use mathlib.Core.Path.{◌≡◌, refl, sym, ◌∙◌, ap, ap₂, subst}
use mathlib.Core.Bool.{Bool, true, false, not, ◌&&◌}
use mathlib.Core.List.{List, [], ◌∷◌, ◌++◌, map, append-nil, append_assoc, Memᴰ as Member}
use mathlib.Core.Logic.{◌⊎◌, inl, inr}
use native.Mathlib.Omega.{arith}
use lib.Dec.{ltb, eqb}
use lib.ListN.{length, get_or, take, drop, replicate, drop_of_length-le}
use lib.Seq.{drop-cons}
use borrow.Author.Tests.{lt-ltb, le-ltb, eq-eqb, ne_eqb, eqb-true, eqb-false}
use Rattle.sum.specs.Sum.{only, sum_of, All, join}
use Rattle.sum.proofs.Sum.{le-or}
use Rattle.sum.proofs.Lists.{All-parts, join-append, sum_of-one}
use Rattle.figure.specs.declared.Axis.{Axis}
use Rattle.figure.specs.declared.Axis.TheVariants.{X, Y}
use Rattle.figure.specs.Corners.{Corner, Link, corners, coordinate, around, edges, changes, odd, slanted, unturned, origin, still}
use Rattle.figure.specs.Figure.{Figure, figure, share, corners_of, edges_of, most_corners}
use Rattle.figure.specs.Inside.{Wall, wall, walls, count}
use Rattle.figure.specs.Steps.{corner, edge, before, Right}
use Rattle.figure.proofs.Corners.{length-corners, length-edges, length-around, around-at, edge_at, before_less, before-none, before-some}
use Rattle.figure.proofs.Fault.{rings-good}
use Rattle.figure.proofs.ByRings.{odd-bit}
use Rattle.figure.proofs.Sharing.{corners-whole}
use Rattle.figure.proofs.Together.{RightAngled, right_angled, edges-half-all}
use Rattle.figure.proofs.Turns.{All-both, turns-other}
use Rattle.figure.proofs.Walking.{All-get_d, Reached, reached-start, reached-room, reached-some, reached-next, share-next, share-end}
use Rattle.figure.proofs.Inside.{count-append}
use Rattle.outline.specs.Lines.{Up, lines, place}
use Rattle.outline.specs.Steps.{flip, span, stands, Bits, Turned, Listed, Found, Lined, Upright, Walled, Ruled, Marks, Marked}
use Rattle.outline.proofs.Lines.{place_at}
use Rattle.outline.proofs.LineCount.{lines-some, lines-most}
use Rattle.outline.proofs.Inside.{lines-up, corners-lines}

-- a figure has a ring, and that has four corners
total-some : (ns : List ℕ) → 0 < length ns → All (λ n. (4 ≤ n) × (n ≤ most_corners)) ns → 4 ≤ sum_of (λ n. n) ns
unfolding sum_of
total-some [] h a = absurd (omega arith)
total-some (n ∷ ns) h a = omega (arith, a.0.0)

module _ (f : Figure) (right : Right f) where
  pub right-length : (4 ≤ length (corners_of f)) × (length (corners_of f) ≤ most_corners) × (length (corners_of f) % 2 ≡ 0)
  right-length =
      let g = rings-good f right.figure-good in
      let n = ap length (corners-whole f right.figure-good) ∙ length-corners f.numbers in
      (omega (arith, g.numbers, total-some f.lengths g.some g.each), omega (arith, g.numbers, g.most), omega (arith, edges-half-all f right X))

  pub right-lines : (a : Axis) → (2 ≤ length (lines a (corners_of f))) × (length (lines a (corners_of f)) ≤ 16)
  right-lines a = (lines-some f right a (omega (arith, right-length)), omega (arith, right-length, lines-most f right a))

pub right-whole : (f : Figure) → Right f → (a : Axis)
    → (2 ≤ length (lines a (corners f.numbers))) × (length (lines a (corners f.numbers)) ≤ 16)
right-whole f right a =
    subst (λ cs. (2 ≤ length (lines a cs)) × (length (lines a cs) ≤ 16)) (corners-whole f right.figure-good) (right-lines f right a)

-- rising lines are told apart by their places
above_at : (u : ℕ) (l : List ℕ) (k : ℕ) → k < length l → All (λ v. u < v) l → u < get_or l k 0
above_at u [] k q a = absurd (omega arith)
above_at u (v ∷ l) zero q a = a.0
above_at u (v ∷ l) (suc k) q a = above_at u l k (omega arith) a.1

up_same : (xs : List ℕ) (i j : ℕ) → Up xs → i < length xs → j < length xs → get_or xs i 0 ≡ get_or xs j 0 → i ≡ j
up_same [] i j h p q e = absurd (omega arith)
up_same (u ∷ xs) zero zero h p q e = refl
up_same (u ∷ xs) zero (suc j) h p q e = absurd (omega (arith, above_at u xs j (omega arith) h.0))
up_same (u ∷ xs) (suc i) zero h p q e = absurd (omega (arith, above_at u xs i (omega arith) h.0))
up_same (u ∷ xs) (suc i) (suc j) h p q e = ap suc (up_same xs i j h.1 (omega arith) (omega arith) e)

-- a cell stands right of the line whose place it has
stands-line : (xs : List ℕ) (x line m : ℕ) → Up xs → line < length xs → get_or xs line 0 ≡ x
    → (ltb m (length xs) && eqb x (place xs m)) ≡ eqb m line
stands-line xs x line m h q e = elim (le-or (length xs) m) [
  | inl r ↦ ap (λ b. b && eqb x (place xs m)) (le-ltb m (length xs) r) ∙ sym (ne_eqb m line (λ z. omega arith))
  | inr r ↦ ap₂ (λ b n. b && eqb x n) (lt-ltb m (length xs) r) (place_at xs m r) ∙ go r (eqb m line) refl
]
  where
    go : m < length xs → (t : Bool) → eqb m line ≡ t → eqb x (get_or xs m 0) ≡ t
    go r true f = eq-eqb x (get_or xs m 0) (sym e ∙ ap (λ i. get_or xs i 0) (sym (eqb-true m line f)))
    go r false f = ne_eqb x (get_or xs m 0) (λ z. eqb-false m line f (sym (up_same xs line m h q r (e ∙ z))))

-- the wall that an edge is, or none
wall-none : (e : Link Corner) → changes X e ≡ true → wall e ≡ []
unfolding wall
wall-none e h = rw h

wall-some : (e : Link Corner) → changes X e ≡ false
    → wall e ≡ record { x = e.to.x; lo = min e.from.y e.to.y; hi = max e.from.y e.to.y } ∷ []
unfolding wall
wall-some e h = rw h

-- a list of one
join_one : {A B : Type 0} (f : A → List B) (a : A) → join f (a ∷ []) ≡ f a
unfolding join
join_one f a = append-nil (f a)

count-one : (t : Wall → Bool) (w : Wall) → count t (w ∷ []) ≡ only (t w) 1
unfolding count
count-one t w = sum_of-one (λ w. only (t w) 1) w

-- turned over by so many walls, and then by so many more
flip-bit : (t : Bool) (v : ℕ) → v ≤ 1 → flip t v ≡ (only t 1 + v) % 2
unfolding flip
flip-bit true v h = omega arith
flip-bit false v h = omega arith

flip-most : (t : Bool) (v : ℕ) → v ≤ 1 → flip t v ≤ 1
unfolding flip
flip-most true v h = omega arith
flip-most false v h = h

flip-more : (a b v : ℕ) → v ≤ 1 → flip (odd b) (flip (odd a) v) ≡ flip (odd (a + b)) v
flip-more a b v h =
    turned b (flip (odd a) v) (flip-most (odd a) v h)
    ∙ ap (λ n. (b % 2 + n) % 2) (turned a v h)
    ∙ together a b v
    ∙ sym (turned (a + b) v h)
  where
    turned : (n v : ℕ) → v ≤ 1 → flip (odd n) v ≡ (n % 2 + v) % 2
    turned n v h = flip-bit (odd n) v h ∙ ap (λ m. (m + v) % 2) (odd-bit n)

    within : (a v : ℕ) → (a % 2 + v) % 2 ≡ (a + v) % 2
    within a v = omega arith

    both : (a b : ℕ) → (a % 2 + b % 2) % 2 ≡ (a + b) % 2
    both a b = omega arith

    sum : (a b v : ℕ) → b + (a + v) ≡ a + b + v
    sum a b v = omega arith

    together : (a b v : ℕ) → (b % 2 + (a % 2 + v) % 2) % 2 ≡ ((a + b) % 2 + v) % 2
    together a b v =
        ap (λ n. (b % 2 + n) % 2) (within a v)
        ∙ both b (a + v)
        ∙ ap (λ n. n % 2) (sum a b v)
        ∙ sym (within (a + b) v)

odd-only : (t : Bool) → odd (only t 1) ≡ t
unfolding odd
odd-only true = refl
odd-only false = refl

module _ (xs ys : List ℕ) where
  pub marked_none : (cells : List ℕ) → Marks cells → Marked xs ys [] cells cells
  unfolding count sum_of odd flip
  marked_none cells m = record { marks = m; at = λ n. refl }

  pub marked_more : (us vs : List Wall) (cells middle after : List ℕ) → Marks cells
      → Marked xs ys us cells middle → Marked xs ys vs middle after
      → Marked xs ys (us ++ vs) cells after
  marked_more us vs cells middle after m h k =
      record {
        marks = k.marks;
        at =
            λ n.
            k.at n
            ∙ ap (flip (odd (count (stands xs ys n) vs))) (h.at n)
            ∙ flip-more (count (stands xs ys n) us) (count (stands xs ys n) vs) (get_or cells n 0) (m.bit n)
            ∙ ap (λ c. flip (odd c) (get_or cells n 0)) (sym (count-append (stands xs ys n) us vs));
      }

-- the place of a corner of a ring is one of the lines
ruled_held : (l xs ys : List ℕ) (k : ℕ) → k < length l / 2 → Ruled l xs ys
    → Member (coordinate X (corner l k)) xs × Member (coordinate Y (corner l k)) ys
unfolding corner
ruled_held l xs ys k h ruled =
    All-get_d (λ c. Member (coordinate X c) xs × Member (coordinate Y c) ys) origin (corners l) k (omega (arith, length-corners l)) ruled.hold

pub ruled-listed : (l xs ys : List ℕ) (k x : ℕ) → k < length l / 2 → Ruled l xs ys → x ≡ coordinate X (corner l k) → Listed xs x
ruled-listed l xs ys k x h ruled at-corner =
    record {
      rise = ruled.rise-x;
      among = subst (λ v. Member v xs) (sym at-corner) (ruled_held l xs ys k h ruled).0;
    }

-- so is the higher end of a wall
pub ruled-top : (l xs ys : List ℕ) (b k s e hi : ℕ) → b < length l / 2 → k < length l / 2 → Ruled l xs ys
    → s ≡ coordinate Y (corner l b) → e ≡ coordinate Y (corner l k) → hi ≡ max s e
    → Listed ys hi
ruled-top l xs ys b k s e hi p h ruled es ee ehi = record { rise = ruled.rise-y; among = go (le-or s e) }
  where
    go : (s ≤ e) ⊎ (e < s) → Member hi ys
    go (inl q) = let z : hi ≡ e = omega arith in subst (λ v. Member v ys) (sym (z ∙ ee)) (ruled_held l xs ys k h ruled).1
    go (inr q) = let z : hi ≡ s = omega arith in subst (λ v. Member v ys) (sym (z ∙ es)) (ruled_held l xs ys b p ruled).1

module _ (l xs ys cells : List ℕ) (k line x : ℕ) (h : k < length l / 2) (ruled : Ruled l xs ys) (m : Marks cells)
    (at-corner : x ≡ coordinate X (corner l k)) (found : Found xs x line) where
  pub marked_bits : Bits cells ys line
  marked_bits =
      record {
        length-cells = m.length-cells;
        bit = m.bit;
        some = ruled.some;
        most = ruled.rows;
        column = omega (arith, ruled.columns, found.within);
      }

  pub marked_wall : (b s e lo hi : ℕ) (after : List ℕ) → Upright l b k
      → s ≡ coordinate Y (corner l b) → e ≡ coordinate Y (corner l k) → lo ≡ min s e → hi ≡ max s e
      → Turned cells ys line lo hi after → length after ≡ length cells
      → Marked xs ys (wall (edge l k)) cells after
  unfolding stands coordinate
  marked_wall b s e lo hi after upright es ee elo ehi turned same =
      record {
        marks =
            record {
              length-cells = same ∙ m.length-cells;
              bit =
                  λ n.
                  omega (arith, turned.at n, flip-most (eqb (n / 16) line && span ys lo hi (n % 16)) (get_or cells n 0) (m.bit n));
            };
        at = λ n. turned.at n ∙ ap (λ t. flip t (get_or cells n 0)) (hit n);
      }
    where
      w : Wall
      w = record { x = x; lo = lo; hi = hi }

      ends : edge l k ≡ record { from = corner l b; to = corner l k }
      ends = edge_at l k h ∙ ap (λ i. record { from = corner l i; to = corner l k }) (sym upright.from)

      is-wall : wall (edge l k) ≡ w ∷ []
      is-wall =
          wall-some (edge l k) upright.keeps
          ∙ ap (λ z. record { x = z.to.x; lo = min z.from.y z.to.y; hi = max z.from.y z.to.y } ∷ []) ends
          ∙ ap (λ z. record { x = z; lo = min (corner l b).y (corner l k).y; hi = max (corner l b).y (corner l k).y } ∷ []) (sym at-corner)
          ∙ ap₂ (λ u v. record { x = x; lo = u; hi = v } ∷ []) (ap₂ min (sym es) (sym ee) ∙ sym elo) (ap₂ max (sym es) (sym ee) ∙ sym ehi)

      hit : (n : ℕ) → (eqb (n / 16) line && span ys lo hi (n % 16)) ≡ odd (count (stands xs ys n) (wall (edge l k)))
      hit n =
          ap (λ b. b && span ys lo hi (n % 16)) (sym (stands-line xs x line (n / 16) ruled.rise-x found.within found.there))
          ∙ sym (ap (λ ws. odd (count (stands xs ys n) ws)) is-wall ∙ ap odd (count-one (stands xs ys n) w) ∙ odd-only (stands xs ys n w))

-- the corner before a wall's end
pub upright-before : (l : List ℕ) (b k : ℕ) → k < length l / 2 → Upright l b k → b < length l / 2
upright-before l b k h u = omega (arith, u.from, before_less k (length l / 2) h)

-- the edges of a ring from the edge k on
walls-drop : (l : List ℕ) (k : ℕ) → k < length l / 2 → walls (drop k (edges (corners l))) ≡ wall (edge l k) ++ walls (drop (k + 1) (edges (corners l)))
unfolding walls join edge
walls-drop l k h =
    ap (join wall) (drop-cons (edges (corners l)) k (still origin) (omega (arith, length-edges l)))
    ∙ ap (λ m. wall (get_or (edges (corners l)) k (still origin)) ++ join wall (drop m (edges (corners l)))) (sym (add-one k))

-- an edge that is no wall adds none
walls_flat : (l : List ℕ) (k : ℕ) → (k < length l / 2 → changes X (edge l k) ≡ true)
    → walls (drop k (edges (corners l))) ≡ walls (drop (k + 1) (edges (corners l)))
walls_flat l k h = elim (le-or (length l / 2) k) [
  | inl q ↦
      ap walls
      (drop_of_length-le (edges (corners l)) {i = k} (omega (arith, length-edges l))
      ∙ sym (drop_of_length-le (edges (corners l)) {i = k + 1} (omega (arith, length-edges l))))
  | inr q ↦ walls-drop l k q ∙ ap (λ ws. ws ++ walls (drop (k + 1) (edges (corners l)))) (wall-none (edge l k) (h q))
]

-- a wall, and the edge after it
walls-two : (l xs ys : List ℕ) (k : ℕ) → Ruled l xs ys → k < length l / 2 → changes X (edge l k) ≡ false
    → walls (drop k (edges (corners l))) ≡ wall (edge l k) ++ walls (drop (k + 2) (edges (corners l)))
walls-two l xs ys k ruled h e =
    let z : k + 1 + 1 ≡ k + 2 = omega arith in
    walls-drop l k h
    ∙ ap (λ ws. wall (edge l k) ++ ws)
    (walls_flat l (k + 1) (λ p. ruled.by-turns k p ∙ ap not e) ∙ ap (λ n. walls (drop n (edges (corners l)))) z)

walled_two : (l xs ys : List ℕ) (k : ℕ) → Ruled l xs ys → (k < length l / 2 → changes X (edge l k) ≡ false) → Walled l (k + 2)
walled_two l xs ys k ruled e = record { some = omega arith; keeps = keeps }
  where
    keeps : k + 2 < length l / 2 → changes X (edge l (k + 2)) ≡ false
    keeps p =
        let z : k + 2 ≡ k + 1 + 1 = omega arith in
        ap (λ n. changes X (edge l n)) z
        ∙ ruled.by-turns (k + 1) (omega arith)
        ∙ ap not (ruled.by-turns k (omega arith) ∙ ap not (e (omega arith)))

-- on the way: once the walls from the edge k on are marked, those from the edge `first` on are
pub record Edges (l xs ys cells : List ℕ) (first : ℕ) (after : List ℕ) (k : ℕ) : Type 0 where
  pub walled : Walled l k
  pub marks : Marks after
  pub rest : (last : List ℕ) → Marked xs ys (walls (drop k (edges (corners l)))) after last
      → Marked xs ys (walls (drop first (edges (corners l)))) cells last

pub edges-start : (l xs ys cells : List ℕ) (first : ℕ) → Walled l first → Marks cells → Edges l xs ys cells first cells first
edges-start l xs ys cells first w m = record { walled = w; marks = m; rest = λ last h. h }

module _ (l xs ys cells : List ℕ) (first : ℕ) (middle : List ℕ) (k : ℕ) (ruled : Ruled l xs ys) (e : Edges l xs ys cells first middle k) where
  pub edges-upright : k < length l / 2 → Upright l (k - 1) k
  edges-upright h = record { from = before-some k (length l / 2) (λ z. omega (arith, e.walled.some)); keeps = e.walled.keeps h }

  pub edges_more : (after : List ℕ) → k < length l / 2 → Marked xs ys (wall (edge l k)) middle after → Edges l xs ys cells first after (k + 2)
  edges_more after h q =
      record {
        walled = walled_two l xs ys k ruled e.walled.keeps;
        marks = q.marks;
        rest =
            λ last r.
            e.rest last
            (subst (λ ws. Marked xs ys ws middle last) (sym (walls-two l xs ys k ruled h (e.walled.keeps h)))
            (marked_more xs ys (wall (edge l k)) (walls (drop (k + 2) (edges (corners l)))) middle after last e.marks q r));
      }

  pub edges-end : length l / 2 ≤ k → Marked xs ys (walls (drop first (edges (corners l)))) cells middle
  unfolding walls join
  edges-end h =
      e.rest middle
      (subst (λ es. Marked xs ys (walls es) middle middle) (sym (drop_of_length-le (edges (corners l)) {i = k} (omega (arith, length-edges l))))
      (marked_none xs ys middle e.marks))

-- a ring whose closing edge is no wall; one whose closing edge is
module _ (l xs ys : List ℕ) (t : Bool) (ruled : Ruled l xs ys) (told : t ≡ changes X (edge l 0)) where
  pub flat_walled : t ≡ true → Walled l 1
  flat_walled e = record { some = omega arith; keeps = λ h. ruled.by-turns 0 h ∙ ap not (sym told ∙ e) }

  pub flat_ring : (cells after : List ℕ) → t ≡ true → Marked xs ys (walls (drop 1 (edges (corners l)))) cells after
      → Marked xs ys (walls (edges (corners l))) cells after
  flat_ring cells after e h =
      subst (λ ws. Marked xs ys ws cells after) (sym (walls_flat l 0 (λ q. sym told ∙ e))) h

  pub wall-upright : t ≡ false → Upright l (length l / 2 - 1) 0
  wall-upright e = record { from = before-none 0 (length l / 2) refl; keeps = sym told ∙ e }

  pub wall_walled : t ≡ false → Walled l 2
  wall_walled e = walled_two l xs ys 0 ruled (λ h. sym told ∙ e)

  pub wall-ring : (cells middle after : List ℕ) → t ≡ false → Marks cells → Marked xs ys (wall (edge l 0)) cells middle
      → Marked xs ys (walls (drop 2 (edges (corners l)))) middle after
      → Marked xs ys (walls (edges (corners l))) cells after
  wall-ring cells middle after e m p q =
      subst (λ ws. Marked xs ys ws cells after) (sym (walls-two l xs ys 0 ruled ruled.corner-some (sym told ∙ e)))
      (marked_more xs ys (wall (edge l 0)) (walls (drop 2 (edges (corners l)))) cells middle after m p q)

-- the edges of a ring that passes 3 and 4 keep x by turns
turns_at : (l : List ℕ) → slanted (corners l) ≡ false → unturned (corners l) ≡ false → (k : ℕ) → k + 1 < length l / 2
    → changes X (edge l (k + 1)) ≡ not (changes X (edge l k))
unfolding edge
turns_at l s u k h =
    subst (λ t. changes X t.to ≡ not (changes X t.from)) ends
    (All-get_d (λ t. changes X t.to ≡ not (changes X t.from)) (still (still origin)) (around (edges (corners l))) (k + 1)
    (omega (arith, length-around (edges (corners l)), length-edges l))
    (turns-other (corners l) s u X))
  where
    last : before (k + 1) (length (edges (corners l))) ≡ k
    last =
        let z : k + 1 - 1 ≡ k = omega arith in
        sym (before-some (k + 1) (length (edges (corners l))) (λ e. omega arith)) ∙ z

    ends : get_or (around (edges (corners l))) (k + 1) (still (still origin)) ≡ record { from = edge l k; to = edge l (k + 1) }
    ends =
        around-at (still origin) (edges (corners l)) (k + 1) (omega (arith, length-edges l))
        ∙ ap (λ i. record { from = get_or (edges (corners l)) i (still origin); to = get_or (edges (corners l)) (k + 1) (still origin) }) last

-- the rings of a figure: those passed are marked; the lines hold the corners of the others, and these pass 3 and 4
pub record Rings (l ns xs ys cells : List ℕ) (after : List ℕ) (from k : ℕ) : Type 0 where
  pub reached : Reached l ns from k
  pub done : List Wall
  pub split : walls (edges_of (figure l ns)) ≡ done ++ walls (join edges (map corners (share (drop k ns) (drop from l))))
  pub marked : Marked xs ys done cells after
  pub hold : All (λ c. Member (coordinate X c) xs × Member (coordinate Y c) ys) (join (λ r. r) (map corners (share (drop k ns) (drop from l))))
  pub turned : All RightAngled (map corners (share (drop k ns) (drop from l)))

module _ (l ns xs ys cells : List ℕ) (lined : Lined (figure l ns) xs ys) (m : Marks cells) where
  pub rings-start : Rings l ns xs ys cells cells 0 0
  rings-start =
      record {
        reached = reached-start l ns lined.right.figure-good;
        done = [];
        split = refl;
        marked = marked_none xs ys cells m;
        hold =
            All-both (λ c. Member (coordinate X c) xs) (λ c. Member (coordinate Y c) ys) (corners_of (figure l ns))
            (subst (λ us. All (λ c. Member (coordinate X c) us) (corners_of (figure l ns))) (sym lined.across-x) (corners-lines X (corners_of (figure l ns))))
            (subst (λ us. All (λ c. Member (coordinate Y c) us) (corners_of (figure l ns))) (sym lined.across-y) (corners-lines Y (corners_of (figure l ns))));
        turned = right_angled (figure l ns) lined.right;
      }

  module _ (from k n to : ℕ) (after : List ℕ) (r : Rings l ns xs ys cells after from k) (here : k < length ns) (long : n ≡ get_or ns k 0)
      (ends : to ≡ from + 2 * n) where
    abbrev next : share (drop k ns) (drop from l) ≡ take (to - from) (drop from l) ∷ share (drop (k + 1) ns) (drop to l)
    next = share-next l ns from k n to here long ends

    pub rings-room : (from ≤ to) × (to ≤ length l)
    rings-room = reached-room l ns from k n to here long ends r.reached

    abbrev Held : Corner → Type 0
    Held c = Member (coordinate X c) xs × Member (coordinate Y c) ys

    held : All Held (corners (take (to - from) (drop from l))) × All Held (join (λ r. r) (map corners (share (drop (k + 1) ns) (drop to l))))
    unfolding join
    held =
        All-parts Held (corners (take (to - from) (drop from l))) (join (λ r. r) (map corners (share (drop (k + 1) ns) (drop to l))))
        (subst (λ rs. All Held (join (λ r. r) (map corners rs))) next r.hold)

    turned : RightAngled (corners (take (to - from) (drop from l))) × All RightAngled (map corners (share (drop (k + 1) ns) (drop to l)))
    turned = subst (λ rs. All RightAngled (map corners rs)) next r.turned

    pub rings-ruled : Ruled (take (to - from) (drop from l)) xs ys
    rings-ruled =
        let x = right-lines (figure l ns) lined.right X in
        let y = right-lines (figure l ns) lined.right Y in
        record {
          rise-x = subst Up (sym lined.across-x) (lines-up X (corners_of (figure l ns)));
          rise-y = subst Up (sym lined.across-y) (lines-up Y (corners_of (figure l ns)));
          hold = held.0;
          corner-some = reached-some l ns from k n to here long ends r.reached lined.right.figure-good;
          by-turns = turns_at (take (to - from) (drop from l)) turned.0.0 turned.0.1;
          columns = omega (arith, x, ap length lined.across-x);
          some = omega (arith, y, ap length lined.across-y);
          rows = omega (arith, y, ap length lined.across-y);
        }

    pub rings-more : (last : List ℕ) → Marked xs ys (walls (edges (corners (take (to - from) (drop from l))))) after last
        → Rings l ns xs ys cells last to (k + 1)
    unfolding join walls
    rings-more last h =
        record {
          reached = reached-next l ns from k n to here long ends r.reached;
          done = r.done ++ ring;
          split =
              r.split
              ∙ ap (λ rs. r.done ++ walls (join edges (map corners rs))) next
              ∙ ap (λ ws. r.done ++ ws) (join-append wall (edges (corners (take (to - from) (drop from l)))) (join edges (map corners (share (drop (k + 1) ns) (drop to l)))))
              ∙ sym (append_assoc r.done ring (walls (join edges (map corners (share (drop (k + 1) ns) (drop to l))))));
          marked = marked_more xs ys r.done ring cells after last m r.marked h;
          hold = held.1;
          turned = turned.1;
        }
      where
        ring : List Wall
        ring = walls (edges (corners (take (to - from) (drop from l))))

  pub rings-end : (from k : ℕ) (after : List ℕ) → Rings l ns xs ys cells after from k → length ns ≤ k
      → Marked xs ys (walls (edges_of (figure l ns))) cells after
  unfolding join walls
  rings-end from k after r h =
      subst (λ ws. Marked xs ys ws cells after)
      (sym (r.split ∙ ap (λ rs. r.done ++ walls (join edges (map corners rs))) (share-end l ns from k h) ∙ append-nil r.done))
      r.marked

-- how many x lines there are
pub lined_x : (f : Figure) (xs ys : List ℕ) → Lined f xs ys → (1 ≤ length xs) × (length xs ≤ 16)
lined_x f xs ys lined =
    let x = right-lines f lined.right X in
    (omega (arith, x, ap length lined.across-x), omega (arith, x, ap length lined.across-x))

-- all zeros are marks
pub zeros_marks : (cells : List ℕ) → cells ≡ replicate 256 0 → Marks cells
zeros_marks cells z =
    record {
      length-cells = ap length z;
      bit = λ n. omega (arith, ap (λ l. get_or l n 0) z, zeros 256 n);
    }
  where
    zeros : (m n : ℕ) → ◌≡◌ {A = ℕ} (get_or (replicate m 0) n 0) 0
    zeros zero n = refl
    zeros (suc m) zero = refl
    zeros (suc m) (suc n) = zeros m n
