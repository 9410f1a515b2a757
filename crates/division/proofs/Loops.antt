-- Laws of the loops that count and write parts: one for each fact that a loop leaves. Assumes nothing.
--
--   Rowing, row-..       : a row is written as far as column j
--   Stacking, stack-..   : the rows are written as far as row i
--   Filling, fill-..     : the shots are written as far as shot k
--   Counting, counting-..: the parts are counted as far as shot k
use Prim.Native.Nat.{ℕ, suc, ◌+◌, ◌*◌, ◌≤◌, ◌<◌}
use mathlib.Core.Path.{◌≡◌, sym, ◌∙◌, ap, ap₂}
use mathlib.Core.List.{List, [], ◌∷◌, ◌++◌}
use native.Mathlib.Omega.{arith}
use native.Mathlib.Nat.{mul_comm, mul-le-mul}
use lib.ListN.{length}
use lib.Seq.{sets}
use Rattle.sum.specs.Sum.{sum_of, join}
use Rattle.shot.specs.Bad.{shot_of}
use Rattle.piece.specs.Cuts.{run}
use Rattle.division.specs.declared.side.Side.{Side}
use Rattle.division.specs.Division.{divided, product}
use Rattle.division.specs.Steps.{side_of, edge, row_of, rows_of, in_front, Wrote, Solid, Parted, Divisible}
use Rattle.division.proofs.Written.{edge-most, row_more, row-length, rows_more, rows-length, side-rows, wrote_none, wrote_more, wrote_part, wrote_same, wrote_length, shot_no, front-none, area-at, product_at, product-next, joined-next, joined_length}

-- A row

pub record Rowing (x : Side) (bottom top : ℕ) (old : List ℕ) (at : ℕ) (list : List ℕ) (next j : ℕ) : Type 0 where
  pub most : j ≤ x.count
  pub wrote : Wrote old list at (row_of x bottom top j) next

module _ (x : Side) (bottom top : ℕ) (old : List ℕ) (at : ℕ) where
  pub row-start : Rowing x bottom top old at old at 0
  unfolding row_of run
  row-start = record { most = omega arith; wrote = wrote_none old at }

  module _ (pre : (edge x x.count ≤ 65535) × (at + 4 * x.count ≤ length old)) (list : List ℕ) (next j : ℕ) (inv : Rowing x bottom top old at list next j) where
    pub row_kept : length list ≡ length old
    row_kept = wrote_length inv.wrote

    pub row-end : x.count ≤ j → Wrote old list at (row_of x bottom top x.count) next
    row-end h = let e : j ≡ x.count = omega (arith, inv.most) in wrote_same (ap (row_of x bottom top) e) inv.wrote

    module _ (h : j < x.count) where
      pub row-left : edge x j ≤ 65535
      row-left = edge-most x j x.count (omega arith) pre.0

      pub row-right : edge x (j + 1) ≤ 65535
      row-right = edge-most x (j + 1) x.count (omega arith) pre.0

      pub row_room : next + 4 ≤ length list
      row_room = omega (arith, row_kept, inv.wrote.behind, row-length x bottom top j, pre.1)

      pub row_next : (left right : ℕ) → left ≡ edge x j → right ≡ edge x (j + 1) → (after : List ℕ)
          → after ≡ sets list next (left ∷ bottom ∷ right ∷ top ∷ []) → Rowing x bottom top old at after (next + 4) (j + 1)
      row_next left right l r after e =
          let z : j + 1 ≡ suc j = omega arith in
          let one : shot_of left bottom right top ≡ shot_of (edge x j) bottom (edge x (suc j)) top = ap₂ (λ a c. shot_of a bottom c top) l (r ∙ ap (edge x) z) in
          record {
            most = omega arith;
            wrote =
                wrote_same (ap (λ s. row_of x bottom top j ++ (s ∷ [])) one ∙ sym (row_more x bottom top j) ∙ ap (row_of x bottom top) (sym z))
                (wrote_more inv.wrote (wrote_part e));
          }

-- The rows

pub record Stacking (x y : Side) (old : List ℕ) (at : ℕ) (list : List ℕ) (next i : ℕ) : Type 0 where
  pub most : i ≤ y.count
  pub wrote : Wrote old list at (rows_of x y i) next

module _ (x y : Side) (old : List ℕ) (at : ℕ) where
  pub stack_start : Stacking x y old at old at 0
  unfolding rows_of join run
  stack_start = record { most = omega arith; wrote = wrote_none old at }

  module _ (pre : ((edge x x.count ≤ 65535) × (edge y y.count ≤ 65535)) × (at + 4 * (y.count * x.count) ≤ length old)) (list : List ℕ) (next i : ℕ)
      (inv : Stacking x y old at list next i) where
    pub stack_kept : length list ≡ length old
    stack_kept = wrote_length inv.wrote

    pub stack_end : y.count ≤ i → Wrote old list at (rows_of x y y.count) next
    stack_end h = let e : i ≡ y.count = omega (arith, inv.most) in wrote_same (ap (rows_of x y) e) inv.wrote

    module _ (h : i < y.count) where
      pub stack_bottom : edge y i ≤ 65535
      stack_bottom = edge-most y i y.count (omega arith) pre.0.1

      pub stack_top : edge y (i + 1) ≤ 65535
      stack_top = edge-most y (i + 1) y.count (omega arith) pre.0.1

      pub stack_room : (edge x x.count ≤ 65535) × (next + 4 * x.count ≤ length list)
      stack_room = (
        pre.0.0,
        omega (arith, stack_kept, inv.wrote.behind, rows-length x y i, pre.1, mul-le-mul {n₁ = i + 1} {m₁ = x.count} {n₂ = y.count} {m₂ = x.count} (omega arith) (omega arith)),
      )

      pub stack_next : (bottom top : ℕ) → bottom ≡ edge y i → top ≡ edge y (i + 1) → (after : List ℕ) (n : ℕ)
          → Wrote list after next (row_of x bottom top x.count) n → Stacking x y old at after n (i + 1)
      stack_next bottom top b t after n w =
          let z : i + 1 ≡ suc i = omega arith in
          let one : row_of x bottom top x.count ≡ row_of x (edge y i) (edge y (suc i)) x.count = ap₂ (λ b t. row_of x b t x.count) b (t ∙ ap (edge y) z) in
          record {
            most = omega arith;
            wrote = wrote_same (ap (λ l. rows_of x y i ++ l) one ∙ sym (rows_more x y i) ∙ ap (rows_of x y) (sym z)) (wrote_more inv.wrote w);
          }

-- The shots

-- what is known of the shot at hand
module _ (shots : List ℕ) (n m k : ℕ) (d : Divisible shots n m) (h : k < n) where
  pub at_solid : Solid shots k m
  at_solid =
      let l = d.least in
      let r = d.room in
      let a = area-at shots n k h d.room d.area in
      record { within = omega arith; across = a.0; upward = a.1; some = omega arith; most = d.most }

  pub at-few : sum_of (product m) (in_front shots k) + product m (shot_no shots k) ≤ 116964
  at-few = omega (arith, product_at shots n k h d.room m, d.few)

-- how many parts the two sides make
product-made : (shots : List ℕ) (m k : ℕ) (x y : Side) → Parted shots k m x y → x.count * y.count ≡ product m (shot_no shots k)
unfolding product side_of
product-made shots m k x y p = ap₂ (λ (x : Side) (y : Side). x.count * y.count) p.across p.upward

pub record Filling (shots : List ℕ) (n m : ℕ) (old list : List ℕ) (next k : ℕ) : Type 0 where
  pub most : k ≤ n
  pub wrote : Wrote old list 0 (join (divided m) (in_front shots k)) next

module _ (shots : List ℕ) (n m : ℕ) (old : List ℕ) where
  pub fill_start : Filling shots n m old old 0 0
  unfolding join
  fill_start = record { most = omega arith; wrote = wrote_same (ap (join (divided m)) (sym (front-none shots))) (wrote_none old 0) }

  module _ (pre : Divisible shots n m × (4 * sum_of (product m) (in_front shots n) ≤ length old)) (list : List ℕ) (next k : ℕ)
      (inv : Filling shots n m old list next k) where
    pub fill_kept : length list ≡ length old
    fill_kept = wrote_length inv.wrote

    pub fill_end : n ≤ k → Wrote old list 0 (join (divided m) (in_front shots n)) next
    fill_end h = let e : k ≡ n = omega (arith, inv.most) in wrote_same (ap (λ i. join (divided m) (in_front shots i)) e) inv.wrote

    module _ (h : k < n) (x y : Side) (p : Parted shots k m x y) where
      product_is : y.count * x.count ≡ product m (shot_no shots k)
      product_is = mul_comm y.count x.count ∙ product-made shots m k x y p

      pub fill_room : ((edge x x.count ≤ 65535) × (edge y y.count ≤ 65535)) × (next + 4 * (y.count * x.count) ≤ length list)
      fill_room = (
        (p.x-place, p.y-place),
        omega (
          arith,
          fill_kept,
          inv.wrote.behind,
          joined_length m (in_front shots k),
          product_is,
          product_at shots n k h pre.0.room m,
          pre.1,
        ),
      )

      pub fill_next : (after : List ℕ) (e : ℕ) → Wrote list after next (rows_of x y y.count) e → Filling shots n m old after e (k + 1)
      unfolding side_of
      fill_next after e w =
          let z : k + 1 ≡ suc k = omega arith in
          let one : rows_of x y y.count ≡ divided m (shot_no shots k) =
          ap₂ (λ (x : Side) (y : Side). rows_of x y y.count) p.across p.upward ∙ side-rows m (shot_no shots k) in
          let r = pre.0.room in
          record {
            most = omega arith;
            wrote =
                wrote_same
                (ap (λ l. join (divided m) (in_front shots k) ++ l) one
                ∙ sym (joined-next shots m k (omega arith))
                ∙ ap (λ i. join (divided m) (in_front shots i)) (sym z))
                (wrote_more inv.wrote w);
          }

pub record Counting (shots : List ℕ) (n m parts k : ℕ) : Type 0 where
  pub most : k ≤ n
  pub sum : parts ≡ sum_of (product m) (in_front shots k)

module _ (shots : List ℕ) (n m : ℕ) where
  pub counting-start : Counting shots n m 0 0
  unfolding sum_of
  counting-start = record { most = omega arith; sum = sym (ap (sum_of (product m)) (front-none shots)) }

  module _ (d : Divisible shots n m) (parts k : ℕ) (inv : Counting shots n m parts k) where
    pub counting-end : n ≤ k → (parts ≡ sum_of (product m) (in_front shots n)) × (parts ≤ 116964)
    counting-end h =
        let e : k ≡ n = omega (arith, inv.most) in
        let s : parts ≡ sum_of (product m) (in_front shots n) = inv.sum ∙ ap (λ i. sum_of (product m) (in_front shots i)) e in
        (s, omega (arith, d.few))

    module _ (h : k < n) (x y : Side) (p : Parted shots k m x y) where
      pub counting-fits : (x.count * y.count ≤ 116964) × (parts + x.count * y.count ≤ 116964)
      counting-fits =
          let f = at-few shots n m k d h in
          let e = product-made shots m k x y p in
          (omega arith, omega (arith, inv.sum))

      pub counting-next : Counting shots n m (parts + x.count * y.count) (k + 1)
      counting-next =
          let z : k + 1 ≡ suc k = omega arith in
          let r = d.room in
          record {
            most = omega arith;
            sum =
                ap₂ (λ i j. i + j) inv.sum (product-made shots m k x y p)
                ∙ sym (product-next shots m k (omega arith))
                ∙ ap (λ i. sum_of (product m) (in_front shots i)) (sym z);
          }
