-- Laws of the functions that count and write parts. Assumes nothing.
--
--   count-makes          : how many parts a side has is a number of 16 bits
--   edge-up, edge-most   : the edges of a divided side rise; where the last is a place, each is
--   edge-last            : the last is the side's high end
--   row_more, row-length, rows_more, rows-length   : one part more in a row, one row more
--   side-rows            : the rows of the two divided sides of a shot are the shot divided
--   sets_four            : a run of four stores
--   wrote_none, wrote_more, wrote_part   : nothing written, more behind it, one part
--   wrote_front          : from the front on, the list is written
--   front-none, front-next, front-at   : no shot, the next shot, all shots, of a list of numbers
--   area-at, product_at  : the shot at hand has area, and few parts together with those before it
--   joined_length        : how many parts some shots have
use Prim.Native.Nat.{ℕ, zero, suc, ◌+◌, ◌*◌, ◌-◌, ◌≤◌, ◌<◌}
use mathlib.Core.Path.{◌≡◌, refl, sym, ◌∙◌, ap, ap₂, subst}
use mathlib.Core.List.{List, [], ◌∷◌, ◌++◌, map, append-nil}
use mathlib.Core.Logic.{inl, inr}
use native.Mathlib.Omega.{arith}
use native.Mathlib.Nat.{mul_comm, mul-suc, mul-le-mul_left}
use lib.ListN.{length, take, drop, get_or, set, length-append, length-map}
use lib.Seq.{sets, take-add, length-sets, length-take-le}
use Rattle.sum.specs.Sum.{sum_of, All, join}
use Rattle.sum.proofs.Sum.{le-or}
use Rattle.sum.proofs.Lists.{sum_of-append, sum_of-join, sum_of_ones, sum_of-same, All-parts, All-all, join-append, sets_append, sets_front}
use Rattle.shot.specs.Shot.{Shot, numbers, shots_in}
use Rattle.shot.specs.Bad.{shot_of}
use Rattle.shot.proofs.Shot.{numbers-length, numbers-append}
use Rattle.shot.proofs.Bad.{four-at}
use Rattle.piece.specs.Cuts.{run}
use Rattle.table.proofs.Entry.{run_length}
use Rattle.demands.specs.Promise.{written}
use Rattle.division.specs.declared.side.Side.{Side}
use Rattle.division.specs.Division.{part_count, start, part, divided, product}
use Rattle.division.specs.Steps.{side_of, edge, row_of, rows_of, in_front, Wrote}
use Rattle.division.proofs.Evenly.{count-high, count-some, start-last}
use Rattle.division.proofs.Division.{divided-count}

-- Sides

pub count_most : (m side : ℕ) → 0 < m → 0 < side → part_count m side ≤ side
count_most m side pos some = elim (le-or (part_count m side) side) [
  | inl q ↦ q
  | inr q ↦ absurd (omega (arith, count-high m side pos some, few (part_count m side) q))
]
  where
    few : (n : ℕ) → side < n → side + m ≤ m * n
    few n q =
        let e : suc (n - 1) ≡ n = omega arith in
        omega (arith, ap (λ k. m * k) e, mul-suc m (n - 1), mul-le-mul_left (n - 1) pos, mul_comm m (n - 1))

module _ (x : Side) where
  pub edge-up : (i : ℕ) → edge x i ≤ edge x (suc i)
  unfolding edge
  edge-up i = omega arith

  edge-rise : (i d : ℕ) → edge x i ≤ edge x (i + d)
  edge-rise i zero = let e : i + 0 ≡ i = omega arith in omega (arith, ap (edge x) e)
  edge-rise i (suc d) = let e : i + suc d ≡ suc (i + d) = omega arith in omega (arith, ap (edge x) e, edge-rise i d, edge-up (i + d))

  pub edge-most : (i n : ℕ) → i ≤ n → edge x n ≤ 65535 → edge x i ≤ 65535
  edge-most i n h k = let e : i + (n - i) ≡ n = omega arith in omega (arith, ap (edge x) e, edge-rise i (n - i))

pub edge-last : (m low high : ℕ) → 0 < m → low < high → edge (side_of m low high) (part_count m (high - low)) ≡ high
unfolding edge side_of start
edge-last m low high pos h =
    let some : 0 < high - low = omega arith in
    omega (arith, start-last (high - low) (part_count m (high - low)) (count-some m (high - low) pos some))

-- Rows

run-last : (k n : ℕ) → run k (suc n) ≡ run k n ++ ((k + n) ∷ [])
unfolding run
run-last k zero = let e : k ≡ k + 0 = omega arith in ap (λ v. v ∷ []) e
run-last k (suc n) = let e : suc k + n ≡ k + suc n = omega arith in ap (λ l. k ∷ l) (run-last (suc k) n ∙ ap (λ v. run (suc k) n ++ (v ∷ [])) e)

run-next : (n : ℕ) → run 0 (suc n) ≡ run 0 n ++ (n ∷ [])
run-next n = let e : 0 + n ≡ n = omega arith in run-last 0 n ∙ ap (λ v. run 0 n ++ (v ∷ [])) e

map_more : (f : ℕ → Shot) (l : List ℕ) (i : ℕ) → map f (l ++ (i ∷ [])) ≡ map f l ++ (f i ∷ [])
map_more f [] i = refl
map_more f (k ∷ l) i = ap (λ m. f k ∷ m) (map_more f l i)

join_one : (f : ℕ → List Shot) (i : ℕ) → join f (i ∷ []) ≡ f i
unfolding join
join_one f i = append-nil (f i)

module _ (x : Side) where
  pub row_more : (bottom top n : ℕ) → row_of x bottom top (suc n) ≡ row_of x bottom top n ++ (shot_of (edge x n) bottom (edge x (suc n)) top ∷ [])
  unfolding row_of
  row_more bottom top n = ap (map _) (run-next n) ∙ map_more _ (run 0 n) n

  pub row-length : (bottom top n : ℕ) → length (row_of x bottom top n) ≡ n
  unfolding row_of
  row-length bottom top n = length-map (run 0 n) _ ∙ run_length 0 n

  pub rows_more : (y : Side) (k : ℕ) → rows_of x y (suc k) ≡ rows_of x y k ++ row_of x (edge y k) (edge y (suc k)) x.count
  unfolding rows_of
  rows_more y k =
      let f : ℕ → List Shot = λ i. row_of x (edge y i) (edge y (suc i)) x.count in
      ap (join f) (run-next k) ∙ join-append f (run 0 k) (k ∷ []) ∙ ap (λ l. join f (run 0 k) ++ l) (join_one f k)

  pub rows-length : (y : Side) (k : ℕ) → length (rows_of x y k) ≡ k * x.count
  rows-length y zero = unfold rows_of join run in (let e : 0 ≡ 0 * x.count = omega arith in e)
  rows-length y (suc k) =
      ap length (rows_more y k)
      ∙ omega (
        arith,
        length-append (rows_of x y k) (row_of x (edge y k) (edge y (suc k)) x.count),
        row-length (edge y k) (edge y (suc k)) x.count,
        rows-length y k,
      )

pub side-rows : (m : ℕ) (s : Shot)
    → rows_of (side_of m s.xlow s.xhigh) (side_of m s.ylow s.yhigh) (part_count m (s.yhigh - s.ylow)) ≡ divided m s
unfolding rows_of row_of edge side_of divided part start
side-rows m s = refl

-- What is written

pub sets_four : (l : List ℕ) (at a b c d : ℕ) → set (set (set (set l at a) (at + 1) b) (at + 2) c) (at + 3) d ≡ sets l at (a ∷ b ∷ c ∷ d ∷ [])
sets_four l at a b c d =
    let e : at + 1 ≡ suc at = omega arith in
    let f : at + 2 ≡ suc (suc at) = omega arith in
    let g : at + 3 ≡ suc (suc (suc at)) = omega arith in
    rw (e, f, g)

pub wrote_none : (u : List ℕ) (at : ℕ) → Wrote u u at [] at
unfolding numbers join
wrote_none u at = record { behind = omega arith; list = refl }

pub wrote_more : {u v w : List ℕ} {at n p : ℕ} {k l : List Shot} → Wrote u v at k n → Wrote v w n l p → Wrote u w at (k ++ l) p
wrote_more {u} {v} {w} {at} {n} {p} {k} {l} a b =
    record {
      behind = omega (arith, a.behind, b.behind, length-append k l);
      list =
          b.list
          ∙ ap₂ (λ (z : List ℕ) (i : ℕ). sets z i (numbers l)) a.list (a.behind ∙ (let e : at + 4 * length k ≡ at + length (numbers k) = omega (arith, numbers-length k) in e))
          ∙ sym (sets_append u at (numbers k) (numbers l))
          ∙ ap (sets u at) (sym (numbers-append k l));
    }

pub wrote_part : {u v : List ℕ} {at a b c d : ℕ} → v ≡ sets u at (a ∷ b ∷ c ∷ d ∷ []) → Wrote u v at (shot_of a b c d ∷ []) (at + 4)
unfolding numbers join
wrote_part e = record { behind = omega arith; list = e }

pub wrote_same : {u v : List ℕ} {at n : ℕ} {k l : List Shot} → k ≡ l → Wrote u v at k n → Wrote u v at l n
wrote_same {u} {v} {at} {n} e a = subst (λ l. Wrote u v at l n) e a

pub wrote_length : {u v : List ℕ} {at n : ℕ} {l : List Shot} → Wrote u v at l n → length v ≡ length u
wrote_length {u} {v} {at} {n} {l} a = ap length a.list ∙ length-sets u at (numbers l)

pub wrote_front : {u v : List ℕ} {n : ℕ} (l : List Shot) → Wrote u v 0 l n → 4 * length l ≤ length u → v ≡ written (numbers l) u
unfolding written
wrote_front {u} l a h = a.list ∙ sets_front u (numbers l) (omega (arith, numbers-length l))

-- Shots in front

abbrev pub shot_no : List ℕ → ℕ → Shot
shot_no l k = shot_of (get_or l (4 * k) 0) (get_or l (4 * k + 1) 0) (get_or l (4 * k + 2) 0) (get_or l (4 * k + 3) 0)

-- a shot that has area
abbrev Area : Shot → Type 0
Area s = (s.xlow < s.xhigh) × (s.ylow < s.yhigh)

shots-append : (n : ℕ) (a b : List ℕ) → length a ≡ 4 * n → shots_in (a ++ b) ≡ shots_in a ++ shots_in b
unfolding shots_in
shots-append n [] b e = refl
shots-append n (p ∷ []) b e = absurd (omega arith)
shots-append n (p ∷ q ∷ []) b e = absurd (omega arith)
shots-append n (p ∷ q ∷ r ∷ []) b e = absurd (omega arith)
shots-append n (p ∷ q ∷ r ∷ s ∷ a) b e = ap (λ l. shot_of p q r s ∷ l) (shots-append (n - 1) a b (omega arith))

pub front-none : (list : List ℕ) → in_front list 0 ≡ []
unfolding in_front shots_in
front-none list = refl

module _ (list : List ℕ) (n k : ℕ) (h : k < n) (room : 4 * n ≤ length list) where
  behind : List Shot
  behind = shots_in (take (4 * (n - suc k)) (drop (4 * k + 4) list))

  front_split : in_front list n ≡ in_front list k ++ (shot_no list k ∷ behind)
  unfolding in_front shots_in behind
  front_split =
      let e : 4 * n ≡ 4 * k + suc (suc (suc (suc (4 * (n - suc k))))) = omega arith in
      ap (λ i. shots_in (take i list)) e
      ∙ ap shots_in (take-add (4 * k) (suc (suc (suc (suc (4 * (n - suc k)))))) list)
      ∙ shots-append k (take (4 * k) list) (take (suc (suc (suc (suc (4 * (n - suc k)))))) (drop (4 * k) list)) (length-take-le (4 * k) list (omega arith))
      ∙ ap (λ l. shots_in (take (4 * k) list) ++ shots_in (take (suc (suc (suc (suc (4 * (n - suc k)))))) l)) (four-at list (4 * k) (omega arith))

  pub area-at : All (λ s. (s.xlow < s.xhigh) × (s.ylow < s.yhigh)) (in_front list n)
      → (get_or list (4 * k) 0 < get_or list (4 * k + 2) 0) × (get_or list (4 * k + 1) 0 < get_or list (4 * k + 3) 0)
  area-at a = (All-parts Area (in_front list k) (shot_no list k ∷ behind) (subst (All Area) front_split a)).1.0

  pub product_at : (m : ℕ) → sum_of (product m) (in_front list k) + product m (shot_no list k) ≤ sum_of (product m) (in_front list n)
  unfolding sum_of
  product_at m = omega (arith, ap (sum_of (product m)) front_split, sum_of-append (product m) (in_front list k) (shot_no list k ∷ behind))

pub front-next : (list : List ℕ) (k : ℕ) → 4 * suc k ≤ length list → in_front list (suc k) ≡ in_front list k ++ (shot_no list k ∷ [])
unfolding behind shots_in
front-next list k room =
    let e : 4 * (suc k - suc k) ≡ 0 = omega arith in
    front_split list (suc k) k (omega arith) room
    ∙ ap (λ i. in_front list k ++ (shot_no list k ∷ shots_in (take i (drop (4 * k + 4) list)))) e

pub product-next : (list : List ℕ) (m k : ℕ) → 4 * suc k ≤ length list
    → sum_of (product m) (in_front list (suc k)) ≡ sum_of (product m) (in_front list k) + product m (shot_no list k)
unfolding sum_of
product-next list m k room =
    ap (sum_of (product m)) (front-next list k room) ∙ omega (arith, sum_of-append (product m) (in_front list k) (shot_no list k ∷ []))

pub joined-next : (list : List ℕ) (m k : ℕ) → 4 * suc k ≤ length list
    → join (divided m) (in_front list (suc k)) ≡ join (divided m) (in_front list k) ++ divided m (shot_no list k)
unfolding join
joined-next list m k room =
    ap (join (divided m)) (front-next list k room)
    ∙ join-append (divided m) (in_front list k) (shot_no list k ∷ [])
    ∙ ap (λ l. join (divided m) (in_front list k) ++ l) (append-nil (divided m (shot_no list k)))

pub joined_length : (m : ℕ) (l : List Shot) → length (join (divided m) l) ≡ sum_of (product m) l
joined_length m l =
    sym (sum_of_ones (join (divided m) l))
    ∙ sum_of-join (λ s. 1) (divided m) l
    ∙ sum_of-same (λ s. sum_of (λ q. 1) (divided m s)) (product m) l (All-all (λ s. sum_of_ones (divided m s) ∙ divided-count m s) l)
