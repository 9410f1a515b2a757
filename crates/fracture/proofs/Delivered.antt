-- Laws of the delivery. Assumes nothing.
--
--   area-few                        : a grid has at most 225 cells
--   room-all, room_fits, room-short : four numbers for each cell are room enough; room for the count; and not
--   count-written                   : four numbers are written for each shot
--   enough-says                     : what the room says of the count
--   walk-sized, frame-known         : the plan has the size of a grid; its frame is a piece, with this entry
--   frame-aside, frame-emittable    : its shots have room in 900 numbers, and in a list that has enough
--   frame-within                    : its entry is the table's
--   frame-listed, frame_charged     : they are listed once they are written, and the table has what they are charged
--   walk-shaded                     : the cells are those that are counted
--   told_lacking, told-listed       : the answer of a list that is too short, and of one that is not
use Rattle.std.specs.Prelude.{Result, Ok, Err, ⊤}
use Prim.Native.Nat.{ℕ, zero, suc, ◌+◌, ◌*◌, ◌-◌, ◌/◌, ◌≤◌, ◌<◌}
use mathlib.Core.Path.{◌≡◌, refl, ap, ap₂, sym, ◌∙◌, subst}
use mathlib.Core.Bool.{Bool, true, false, cond}
use mathlib.Core.List.{List, [], ◌∷◌, ◌++◌}
use native.Mathlib.Omega.{arith}
use native.Mathlib.Nat.{mul-le-mul}
use lib.Dec.{ltb}
use lib.ListN.{length, get_or, drop, length-append}
use borrow.Author.Tests.{lt-ltb, le-ltb, ltb-true, ltb-false}
use Rattle.sum.specs.Sum.{sum_of, All}
use Rattle.sum.proofs.Lists.{sets_front}
use Rattle.outline.specs.Grid.{Grid}
use Rattle.rule.specs.declared.Rule.{Rule}
use Rattle.piece.specs.declared.Mode.{Mode}
use Rattle.piece.specs.Piece.{Piece, box, frame, sliver, charge}
use Rattle.piece.specs.Meant.{meant}
use Rattle.piece.specs.Cuts.{shots, cost, numbers_of}
use Rattle.piece.proofs.Cells.{cells-product}
use Rattle.piece.proofs.Cuts.{Part, shots-part}
use Rattle.piece.proofs.Choice.{numbers-length}
use Rattle.table.specs.Entry.{Valid, pair_no, entry_of}
use Rattle.table.proofs.Entry.{below-zero, count_most, entry-below}
use Rattle.verdict.specs.declared.Plan.{Plan}
use Rattle.verdict.specs.declared.Numbered.{Numbered}
use Rattle.verdict.specs.Memory.{Costed, Known}
use Rattle.emission.specs.Emission.{Written, Walk, Emittable}
use Rattle.emission.specs.Measuring.{shot_no, Stands, Listed}
use Rattle.emission.proofs.Emitted.{count-cells, count-few, slivers_few}
use Rattle.emission.proofs.Measured.{numbers-at}
use Rattle.demands.specs.Cuts.{weighed_cuts}
use Rattle.count.specs.Count.{Shaded}
use Rattle.demands.specs.Promise.{frame_shots, frame_cost, frame_sliver, frame_numbers, Outcome, written, delivered}
use Rattle.fracture.specs.declared.Denial.{Denial}
use Rattle.fracture.specs.Delivery.{Enough, Short, room_of, Sized}
use Rattle.fracture.specs.Told.{fractured, told}

pub room_fits : (n : ℕ) {m l : ℕ} → m ≡ l → 4 * m ≤ n → Enough ≡ room_of n l
unfolding room_of
room_fits n {m} {l} e h = sym (ap (λ t. cond t (Short l) Enough) (le-ltb n (4 * l) (omega arith)))

pub room-short : (n : ℕ) {m l : ℕ} → m ≡ l → n < 4 * m → Short m ≡ room_of n l
unfolding room_of
room-short n {m} {l} e h = ap Short e ∙ sym (ap (λ t. cond t (Short l) Enough) (lt-ltb n (4 * l) (omega arith)))

module _ (mode : Mode) (g : Grid) (r : Rule) (t cs : List ℕ) (plan : Plan) (f : Costed mode g r t cs plan) where
  pub area-few : plan.columns * plan.rows ≤ 225
  area-few =
      let s = f.sound in
      mul-le-mul {n₁ = plan.columns} {m₁ = plan.rows} {n₂ = 15} {m₂ = 15} (omega (arith, f.columns, s.columns-most)) (omega (arith, f.rows, s.rows-most))

  pub room-all : (p : Piece) → Valid plan.columns plan.rows p → (n : ℕ) → 4 * (plan.columns * plan.rows) ≤ n → Enough ≡ room_of n (length (shots mode g r p))
  room-all p v n h =
      room_fits n refl
      (omega (
        arith,
        count-cells mode g r p,
        cells-product p (omega (arith, v.ac)) (omega (arith, v.bd)),
        mul-le-mul {n₁ = p.c - p.a} {m₁ = p.d - p.b} {n₂ = plan.columns} {m₂ = plan.rows} (omega (arith, v.cx)) (omega (arith, v.dy)),
      ))

  pub walk-sized : Sized plan
  walk-sized =
      let s = f.sound in
      record {
        columns-some = omega (arith, f.columns, s.columns-some);
        columns-most = omega (arith, f.columns, s.columns-most);
        rows-some = omega (arith, f.rows, s.rows-some);
        rows-most = omega (arith, f.rows, s.rows-most);
        pairs = f.pairs;
      }

  pub walk-shaded : Shaded g cs plan.columns plan.rows
  walk-shaded =
      let s = walk-sized in
      record {
        across = f.columns;
        upright = f.rows;
        columns-some = s.columns-some;
        columns-most = s.columns-most;
        rows-some = s.rows-some;
        rows-most = s.rows-most;
        cells-length = f.cells-length;
        cell-at = f.cell-at;
      }

  frame_is : box 0 plan.columns 0 plan.rows ≡ frame g
  unfolding frame
  frame_is = ap₂ (λ c d. box 0 c 0 d) f.columns f.rows

-- four numbers for each shot
pub count-written : (g : Grid) {u v : List ℕ} {l : List Piece} {n : ℕ} → Written g u v 0 l n → n / 4 ≡ length l
count-written g w = omega (arith, w.behind)

-- the pair of the lowest and the highest line
last-first : (m : ℕ) → m - 1 ≡ pair_no m 0 m
unfolding pair_no
last-first m = omega (arith, below-zero m)

pub frame-known : (plan : Plan) → Sized plan
    → Known plan
    (record {
      piece = record { a = record { 0 = 0 }; c = record { 0 = plan.columns }; b = record { 0 = 0 }; d = record { 0 = plan.rows } };
      entry = (plan.columns - 1) * plan.pairs + (plan.rows - 1);
    })
unfolding entry_of
frame-known plan s = record {
  valid = record { ac = omega (arith, s.columns-some); cx = omega arith; bd = omega (arith, s.rows-some); dy = omega arith };
  entry = omega (arith, ap₂ (λ u v. u * v) (last-first plan.columns) s.pairs, last-first plan.rows);
}

-- what the code multiplies is small
pub frame-few : (plan : Plan) → Sized plan → (plan.columns - 1) * plan.pairs ≤ 3375
frame-few plan s =
    mul-le-mul {n₁ = plan.columns - 1} {m₁ = plan.pairs} {n₂ = 15} {m₂ = 225} (omega (arith, s.columns-most))
    (omega (arith, s.pairs, count_most plan.rows s.rows-most))

-- a property of all shots is one of the shot number k
all-at : (Q : Piece → Type 0) (l : List Piece) → All Q l → (k : ℕ) → k < length l → Q (shot_no l k)
unfolding shot_no
all-at Q [] a k h = absurd (omega arith)
all-at Q (s ∷ l) a zero h = a.0
all-at Q (s ∷ l) a (suc k) h = all-at Q l a.1 k (omega arith)

short-says : (n m : ℕ) (d : Denial) → Err d ≡ room_of n m → (Err d ≡ Short m) × (n < 4 * m)
unfolding room_of
short-says n m d e = go (ltb n (4 * m)) refl e
  where
    go : (t : Bool) → ltb n (4 * m) ≡ t → Err d ≡ cond t (Short m) Enough → (Err d ≡ Short m) × (n < 4 * m)
    go true h e = (e, ltb-true n (4 * m) h)
    go false h e = absurd (let z : ◌≡◌ {A = ℕ} 0 1 = cc in omega arith)

pub enough-says : (n m : ℕ) → Enough ≡ room_of n m → 4 * m ≤ n
unfolding room_of
enough-says n m e = go (ltb n (4 * m)) refl e
  where
    go : (t : Bool) → ltb n (4 * m) ≡ t → Enough ≡ cond t (Short m) Enough → 4 * m ≤ n
    go true h e = absurd (let z : ◌≡◌ {A = ℕ} 0 1 = cc in omega arith)
    go false h e = ltb-false n (4 * m) h

-- the frame, as the code has made it
module _ (mode : Mode) (g : Grid) (r : Rule) (t cs xs ys : List ℕ) (plan : Plan) (w : Walk mode g r t cs xs ys plan) (p : Numbered)
    (b : (meant p.piece ≡ box 0 plan.columns 0 plan.rows) × Known plan p) where
  same : shots mode g r (meant p.piece) ≡ shots mode g r (frame g)
  same = ap (shots mode g r) (b.0 ∙ frame_is mode g r t cs plan w.costed)

  frame-fits : (n : ℕ) → 4 * length (shots mode g r (meant p.piece)) ≤ n → Emittable mode t cs xs ys n plan 0 p
  frame-fits n h = record { grid = g; rule = r; walk = w; known = b.1; fits = omega arith }

  pub frame-few-shots : length (shots mode g r (meant p.piece)) ≤ 225
  frame-few-shots = count-few mode g r t cs plan w.costed (meant p.piece) b.1.valid

  pub frame-aside : Emittable mode t cs xs ys 900 plan 0 p
  frame-aside = frame-fits 900 (omega (arith, frame-few-shots))

  pub frame-emittable : {n : ℕ} → Enough ≡ room_of n (length (shots mode g r (meant p.piece))) → Emittable mode t cs xs ys n plan 0 p
  frame-emittable {n} h = frame-fits n (enough-says n (length (shots mode g r (meant p.piece))) h)

  -- the shots in the list
  module _ (list list' : List ℕ) {n : ℕ} (h : Enough ≡ room_of (length list) (length (shots mode g r (meant p.piece))))
      (v : Written g list list' 0 (shots mode g r (meant p.piece)) n) where
    front : list' ≡ numbers_of g (shots mode g r (meant p.piece)) ++ drop (length (numbers_of g (shots mode g r (meant p.piece)))) list
    front =
        v.list
        ∙ sets_front list (numbers_of g (shots mode g r (meant p.piece)))
        (omega (
          arith,
          enough-says (length list) (length (shots mode g r (meant p.piece))) h,
          numbers-length g (shots mode g r (meant p.piece)),
        ))

    stands : (k : ℕ) → k < length (shots mode g r (meant p.piece)) → Stands g xs ys cs list' (4 * k) (shot_no (shots mode g r (meant p.piece)) k)
    stands k i =
        let l = shots mode g r (meant p.piece) in
        let u = drop (length (numbers_of g l)) list in
        let f = w.costed in
        let z = b.1.valid in
        let a = all-at (λ s. Part s (meant p.piece)) l (shots-part mode g r (meant p.piece)) k i in
        let e = numbers-at g u l k i in
        record {
          sound = f.sound;
          drawn = w.drawn;
          valid =
              record { ac = a.ac; cx = omega (arith, a.c, z.cx, f.columns); bd = a.bd; dy = omega (arith, a.d, z.dy, f.rows) };
          room = omega (arith, ap length front, length-append (numbers_of g l) u, numbers-length g l);
          a = ap (λ (m : List ℕ). get_or m (4 * k) 0) front ∙ e.0;
          b = ap (λ (m : List ℕ). get_or m (4 * k + 1) 0) front ∙ e.1;
          c = ap (λ (m : List ℕ). get_or m (4 * k + 2) 0) front ∙ e.2;
          d = ap (λ (m : List ℕ). get_or m (4 * k + 3) 0) front ∙ e.3;
        }

    frame-count : n / 4 ≡ length (shots mode g r (meant p.piece))
    frame-count = count-written g v

    pub frame-listed : Listed g cs xs ys list' plan.rule (shots mode g r (meant p.piece)) (n / 4)
    frame-listed =
        subst (λ (x : Rule). Listed g cs xs ys list' x (shots mode g r (meant p.piece)) (n / 4)) (sym w.rule)
        (record {
          count = frame-count;
          most = omega (arith, frame-count, frame-few-shots);
          each = λ k i. stands k (omega (arith, frame-count));
          few = slivers_few mode g r t cs plan w.costed (meant p.piece) b.1.valid;
        })

  pub frame-within : p.entry < length t
  frame-within = omega (arith, b.1.entry, entry-below _ _ (meant p.piece) b.1.valid, w.costed.entries)

  frame-cost : get_or t p.entry 0 ≡ sum_of (charge g r) (shots mode g r (meant p.piece))
  unfolding cost
  frame-cost = ap (λ i. get_or t i 0) b.1.entry ∙ w.costed.cost-at (meant p.piece) b.1.valid

  pub frame_charged : get_or t p.entry 0 ≡ sum_of (charge g plan.rule) (shots mode g r (meant p.piece))
  frame_charged = frame-cost ∙ ap (λ (x : Rule). sum_of (charge g x) (shots mode g r (meant p.piece))) (sym w.rule)

  same-frame : shots mode g r (meant p.piece) ≡ frame_shots mode g r
  unfolding frame_shots
  same-frame = same

  -- the two ends of a delivery
  lacking : List ℕ → Outcome
  lacking list =
      record { number = 7; shots = length (frame_shots mode g r); cost = 0; sliver = 0; cuts = 0; table = t; list = list }

  listed : List ℕ → Outcome
  listed list =
      record {
        number = 0;
        shots = length (frame_shots mode g r);
        cost = frame_cost mode g r;
        sliver = frame_sliver mode g r;
        cuts = weighed_cuts g;
        table = t;
        list = written (frame_numbers mode g r) list;
      }

  -- what is told of a list whose room is short
  told-of : Result ⊤ Denial → List ℕ → Outcome
  told-of (Ok x) list = lacking list
  told-of (Err d) list = told (Err d) t list

  lacking-told : ℕ → List ℕ → Outcome
  lacking-told n list = record { number = 7; shots = n; cost = 0; sliver = 0; cuts = 0; table = t; list = list }

  pub told_lacking : (list : List ℕ) {d : Denial} → Err d ≡ room_of (length list) (length (shots mode g r (meant p.piece)))
      → told (Err d) t list ≡ delivered mode g r t list
  unfolding delivered told told-of lacking lacking-told listed
  told_lacking list {d} h =
      let s = short-says (length list) (length (shots mode g r (meant p.piece))) d h in
      let b : length list < 4 * length (frame_shots mode g r) = omega (arith, s.1, ap length same-frame) in
      ap (λ (x : Result ⊤ Denial). told-of x list) s.0
      ∙ ap (λ n. lacking-told n list) (ap length same-frame)
      ∙ sym (ap (λ x. cond x (lacking list) (listed list)) (lt-ltb (length list) (4 * length (frame_shots mode g r)) b))

  pub told-listed : (list list' : List ℕ) {n v m : ℕ} → Enough ≡ room_of (length list) (length (shots mode g r (meant p.piece)))
      → Written g list list' 0 (shots mode g r (meant p.piece)) n
      → v ≡ sum_of (sliver g plan.rule) (shots mode g r (meant p.piece)) → m ≡ weighed_cuts g
      → told (fractured (n / 4) (get_or t p.entry 0) v m) t list' ≡ delivered mode g r t list
  unfolding delivered told written lacking listed frame_cost frame_sliver frame_numbers
  told-listed list list' h v s k =
      let m = enough-says (length list) (length (shots mode g r (meant p.piece))) h in
      let b : 4 * length (frame_shots mode g r) ≤ length list = omega (arith, m, ap length same-frame) in
      (λ i.
      record {
        number = 0;
        shots = (frame-count list list' h v ∙ ap length same-frame) i;
        cost = (frame-cost ∙ ap (sum_of (charge g r)) same-frame) i;
        cuts = k i;
        sliver = (s ∙ ap₂ (λ (x : Rule) (l : List Piece). sum_of (sliver g x) l) w.rule same-frame) i;
        table = t;
        list = (front list list' h v ∙ ap (λ s. written (numbers_of g s) list) same-frame) i;
      })
      ∙ sym (ap (λ x. cond x (lacking list) (listed list)) (le-ltb (length list) (4 * length (frame_shots mode g r)) b))
