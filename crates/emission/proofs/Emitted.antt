-- Laws of emission. Assumes nothing.
--
-- What is written
--   sets_four                            : a run of four stores
--   written_none, written_one, written-join
--                                        : no shot; one; those of one list, then those of another
--   written_as, written_met              : the same shots by another name; the same lists
-- What a verdict says of the shots of a piece
--   told-outside, told-shot              : none; the piece itself
--   Halves, mixed_halves, halves         : the parts of a cut are smaller pieces of the grid, and their shots are the piece's
--   Fifths, fifths                       : so are those of a pinwheel
--   count_halves, count_fifths           : the shots of all parts are as many as the piece's
--   emit_one, emit_part                  : what a shot and the parts of an emission ask
--   written_fifths                       : the shots of five parts, one after the other
--   settled-outside, settled-full, not-settled
--                                        : a piece outside; a full one, whose shot is written; a mixed one
--   settled-behind, settled-mixed        : what is known of a piece that was settled, and of one that was not
--   full-one                             : a full piece is one shot
--   ask_mixed                            : what the emission of a mixed piece asks
-- A mixed piece, turn by turn: of each rest the low part is written, and the high part is the next rest
--   Begun, Left, Going                   : the shots so far and those of the rest are the piece's; the rest is mixed too, and there is room for
--                                          it; so it is where there is more, and else all is written
--   begun-none, begun_more, begun-end    : nothing is written yet; the low part of the rest is; and its high part is
--   going_first, going_more, going_end   : before the first turn; after one with a mixed high part; after the last
--   part_fewer, left_fewer, left-none    : the rest and its parts have fewer cells, until there is none
--   count-cells, count-few, slivers_few  : how many shots, and how long their slivers, at most
use Prim.Native.Nat.{ℕ, suc, ◌+◌, ◌*◌, ◌≤◌, ◌<◌}
use mathlib.Core.Bool.{Bool, true, false, cond, true≢false}
use mathlib.Core.Path.{◌≡◌, refl, ap, ap₂, sym, ◌∙◌, subst}
use mathlib.Core.List.{List, [], ◌∷◌, ◌++◌, append-nil, append_assoc}
use native.Mathlib.Omega.{arith}
use lib.ListN.{length, get_or, set, length-append}
use lib.Seq.{sets}
use Rattle.sum.specs.Sum.{sum_of, only, join}
use Rattle.sum.proofs.Sum.{only-most}
use Rattle.sum.proofs.Lists.{sum_of_ones, sum_of-le, All-imp, sets_append}
use Rattle.recurrence.specs.Scheme.{Kind, outside, full, mixed}
use Rattle.outline.specs.Grid.{Grid}
use Rattle.rule.specs.declared.Rule.{Rule}
use Rattle.piece.specs.declared.Mode.{Mode}
use Rattle.piece.specs.declared.Mode.TheVariants.{Straight}
use Rattle.piece.specs.declared.Turn.{Turn}
use Rattle.piece.specs.declared.Turn.TheVariants.{First, Second}
use Rattle.piece.specs.declared.Piece as stored
use Rattle.piece.specs.Piece.{Piece, box, kind, cells, cell_sum, sliver, left_part, right_part, lower_part, upper_part}
use Rattle.piece.specs.Meant.{meant}
use Rattle.piece.specs.Cuts.{Cut, vertical, horizontal, wheel, parts, Inner, CutOf, choice, shots, numbers_of}
use Rattle.piece.proofs.Cells.{sum_vertical, sum_horizontal, cells-some, sum_le}
use Rattle.piece.proofs.Cuts.{Part, sum_wheel, shots-outside, shots-full, shots-part, cover}
use Rattle.piece.proofs.Choice.{choice_in, shots-choice, shots_vertical, shots_horizontal, numbers-one, numbers-none, numbers-append, numbers-length}
use Rattle.piece.proofs.Bound.{count_most, slivers_most}
use Rattle.table.specs.Entry.{Valid, entry_of}
use Rattle.verdict.specs.declared.Plan.{Plan}
use Rattle.verdict.specs.declared.Numbered.{Numbered}
use Rattle.verdict.specs.declared.pinwheel.Wheel.{Wheel}
use Rattle.verdict.specs.declared.pinwheel.Turned.{Turned}
use Rattle.verdict.specs.declared.pinwheel.Turned.TheVariants as verdict
use Rattle.verdict.specs.Verdict.{verdict_of, numbered, part_no, wheel_in, made}
use Rattle.verdict.specs.Memory.{Costed, Known}
use Rattle.verdict.proofs.Hunting.{each_part}
use Rattle.std.specs.Prelude.{Option, Some, None}
use Rattle.emission.specs.Emission.{InLists, Written, Walk, Emittable, Settles, EmittableMixed}

-- What is written

pub sets_four :
    (l : List ℕ) (at : ℕ) {x y z w x' y' z' w' : ℕ} → x ≡ x' → y ≡ y' → z ≡ z' → w ≡ w'
    → set (set (set (set l at x) (at + 1) y) (at + 2) z) (at + 3) w ≡ sets l at (x' ∷ y' ∷ z' ∷ w' ∷ [])
sets_four l at a b c d =
    let e1 : at + 1 ≡ suc at = omega arith in
    let e2 : at + 2 ≡ suc (suc at) = omega arith in
    let e3 : at + 3 ≡ suc (suc (suc at)) = omega arith in
    rw (a, b, c, d, e1, e2, e3)

module _ (g : Grid) where
  pub written_none : (u : List ℕ) (at : ℕ) → Written g u u at [] at
  written_none u at = record { behind = omega arith; list = ap (sets u at) (sym (numbers-none g)) }

  pub written_one : (mode : Mode) (r : Rule) (t cs xs ys : List ℕ) (plan : Plan) → Walk mode g r t cs xs ys plan → (p : Piece)
      → Valid plan.columns plan.rows p
      → (u v : List ℕ) (at : ℕ) {n : ℕ}
      → (v ≡ sets u at (get_or xs p.a 0 ∷ get_or ys p.b 0 ∷ get_or xs p.c 0 ∷ get_or ys p.d 0 ∷ [])) × (n ≡ at + 4)
      → Written g u v at (p ∷ []) n
  written_one mode r t cs xs ys plan w p q u v at e =
      let d = w.drawn in
      let f = w.costed in
      record {
        behind = omega (arith, e.1);
        list =
            e.0
            ∙ rw (
              d.x-at p.a (omega (arith, q.ac, q.cx, f.columns)),
              d.y-at p.b (omega (arith, q.bd, q.dy, f.rows)),
              d.x-at p.c (omega (arith, q.cx, f.columns)),
              d.y-at p.d (omega (arith, q.dy, f.rows)),
            )
            (ap (sets u at) (sym (numbers-one g p)));
      }

  pub written_as : (u v : List ℕ) (at : ℕ) {k l : List Piece} (n : ℕ) → k ≡ l → Written g u v at l n → Written g u v at k n
  written_as u v at n e w = subst (λ (l : List Piece). Written g u v at l n) (sym e) w

  -- the same lists and the same index by other names
  pub written_met : (u : List ℕ) {u' v v' : List ℕ} (at : ℕ) {l : List Piece} {n n' : ℕ} → u' ≡ u → v' ≡ v → n' ≡ n → Written g u' v at l n
      → Written g u v' at l n'
  written_met u at {l} a b c w = record { behind = c ∙ w.behind; list = b ∙ w.list ∙ ap (λ (x : List ℕ). sets x at (numbers_of g l)) a }

  pub written-join : (u m v : List ℕ) (at : ℕ) (k l : List Piece) (i n : ℕ) → Written g u m at k i → Written g m v i l n
      → Written g u v at (k ++ l) n
  written-join u m v at k l i n a b =
      let e : i ≡ at + length (numbers_of g k) = omega (arith, a.behind, numbers-length g k) in
      record {
        behind = omega (arith, a.behind, b.behind, length-append k l);
        list =
            b.list
            ∙ ap₂ (λ (w : List ℕ) (n : ℕ). sets w n (numbers_of g l)) a.list e
            ∙ sym (sets_append u at (numbers_of g k) (numbers_of g l))
            ∙ ap (sets u at) (sym (numbers-append g k l));
      }

-- What a verdict says of the shots of a piece

-- a part is a smaller piece of the grid
pub record Smaller (plan : Plan) (p : Piece) (q : Numbered) : Type 0 where
  pub known : Known plan q
  pub less : cells (meant q.piece) < cells p

pub record Halves (mode : Mode) (g : Grid) (r : Rule) (plan : Plan) (p : Piece) (l h : Numbered) : Type 0 where
  pub both : shots mode g r p ≡ shots mode g r (meant l.piece) ++ shots mode g r (meant h.piece)
  pub low : Smaller plan p l
  pub high : Smaller plan p h

pub record Fifths (mode : Mode) (g : Grid) (r : Rule) (plan : Plan) (p : Piece) (w : Wheel) : Type 0 where
  pub all : shots mode g r p
      ≡ shots mode g r (meant w.first.piece)
      ++ (shots mode g r (meant w.second.piece)
      ++ (shots mode g r (meant w.third.piece) ++ (shots mode g r (meant w.fourth.piece) ++ shots mode g r (meant w.inner.piece))))
  pub first : Smaller plan p w.first
  pub second : Smaller plan p w.second
  pub third : Smaller plan p w.third
  pub fourth : Smaller plan p w.fourth
  pub inner : Smaller plan p w.inner

module _ (mode : Mode) (g : Grid) (r : Rule) (p : Piece) where
  by_kind : Kind → Turned
  by_kind k = elim k [ outside ↦ verdict.Outside | full ↦ verdict.Shot | mixed ↦ made g p (choice mode g r p) ]

  opened : verdict_of mode g r p ≡ by_kind (kind g p)
  unfolding verdict_of by_kind
  opened = refl

  -- a cut is neither nothing nor a shot
  not-outside : (c : Cut) → verdict.Outside ≡ made g p c → ⊥
  not-outside (vertical j) e = (let z : ◌≡◌ {A = ℕ} 0 1 = cc in omega arith)
  not-outside (horizontal j) e = (let z : ◌≡◌ {A = ℕ} 0 1 = cc in omega arith)
  not-outside (wheel t j l k m) e = (let z : ◌≡◌ {A = ℕ} 0 1 = cc in omega arith)

  not-shot : (c : Cut) → verdict.Shot ≡ made g p c → ⊥
  not-shot (vertical j) e = (let z : ◌≡◌ {A = ℕ} 0 1 = cc in omega arith)
  not-shot (horizontal j) e = (let z : ◌≡◌ {A = ℕ} 0 1 = cc in omega arith)
  not-shot (wheel t j l k m) e = (let z : ◌≡◌ {A = ℕ} 0 1 = cc in omega arith)

  pub told-outside : verdict.Outside ≡ verdict_of mode g r p → shots mode g r p ≡ []
  unfolding by_kind
  told-outside e = go (kind g p) refl (e ∙ opened)
    where
      go : (k : Kind) → kind g p ≡ k → verdict.Outside ≡ by_kind k → shots mode g r p ≡ []
      go outside h e = shots-outside mode g r p h
      go full h e = cc
      go mixed h e = absurd (not-outside (choice mode g r p) e)

  pub told-shot : verdict.Shot ≡ verdict_of mode g r p → shots mode g r p ≡ p ∷ []
  unfolding by_kind
  told-shot e = go (kind g p) refl (e ∙ opened)
    where
      go : (k : Kind) → kind g p ≡ k → verdict.Shot ≡ by_kind k → shots mode g r p ≡ p ∷ []
      go outside h e = cc
      go full h e = shots-full mode g r p h
      go mixed h e = absurd (not-shot (choice mode g r p) e)

  -- a cut and a pinwheel are what the choice makes of a mixed piece
  told-cut : (l h : Numbered) → verdict.Cut l h ≡ verdict_of mode g r p → (kind g p ≡ mixed) × (verdict.Cut l h ≡ made g p (choice mode g r p))
  unfolding by_kind
  told-cut l h e = go (kind g p) refl (e ∙ opened)
    where
      go : (t : Kind) → kind g p ≡ t → verdict.Cut l h ≡ by_kind t → (kind g p ≡ mixed) × (verdict.Cut l h ≡ made g p (choice mode g r p))
      go outside q e = (let z : ◌≡◌ {A = ℕ} 0 1 = cc in absurd (omega arith))
      go full q e = (let z : ◌≡◌ {A = ℕ} 0 1 = cc in absurd (omega arith))
      go mixed q e = (q, e)

  told-wheel : (w : Wheel) → verdict.Wheel w ≡ verdict_of mode g r p → (kind g p ≡ mixed) × (verdict.Wheel w ≡ made g p (choice mode g r p))
  unfolding by_kind
  told-wheel w e = go (kind g p) refl (e ∙ opened)
    where
      go : (t : Kind) → kind g p ≡ t → verdict.Wheel w ≡ by_kind t → (kind g p ≡ mixed) × (verdict.Wheel w ≡ made g p (choice mode g r p))
      go outside q e = (let z : ◌≡◌ {A = ℕ} 0 1 = cc in absurd (omega arith))
      go full q e = (let z : ◌≡◌ {A = ℕ} 0 1 = cc in absurd (omega arith))
      go mixed q e = (q, e)

-- the cells and the shots of a pinwheel are those of its parts
module _ (p : Piece) where
  shared : (u : Turn) (j l k n : ℕ) → Inner p j l k n
      → cells p
      ≡ cells (part_no p (wheel u j l k n) 0)
      + cells (part_no p (wheel u j l k n) 1)
      + cells (part_no p (wheel u j l k n) 2)
      + cells (part_no p (wheel u j l k n) 3)
      + cells (part_no p (wheel u j l k n) 4)
  unfolding cells part_no parts sum_of
  shared First j l k n w = omega (arith, sum_wheel (λ i j. 1) p First j l k n w)
  shared Second j l k n w = omega (arith, sum_wheel (λ i j. 1) p Second j l k n w)

  joined : (f : Piece → List Piece) (u : Turn) (j l k n : ℕ)
      → join f (parts p (wheel u j l k n))
      ≡ f (part_no p (wheel u j l k n) 0)
      ++ (f (part_no p (wheel u j l k n) 1)
      ++ (f (part_no p (wheel u j l k n) 2) ++ (f (part_no p (wheel u j l k n) 3) ++ f (part_no p (wheel u j l k n) 4))))
  unfolding join part_no parts
  joined f First j l k n =
      ap (λ x. f (box p.a l p.b k) ++ (f (box l p.c p.b n) ++ (f (box p.a j k p.d) ++ (f (box j p.c n p.d) ++ x)))) (append-nil (f (box j l k n)))
  joined f Second j l k n =
      ap (λ x. f (box p.a j p.b n) ++ (f (box j p.c p.b k) ++ (f (box p.a l n p.d) ++ (f (box l p.c k p.d) ++ x)))) (append-nil (f (box j l k n)))

module _ (mode : Mode) (g : Grid) (r : Rule) (t cs : List ℕ) (plan : Plan) (f : Costed mode g r t cs plan) (p : Piece)
    (v : Valid plan.columns plan.rows p) where
  -- a piece of the grid has its entry by the plan's size too
  known : (q : Piece) → Valid plan.columns plan.rows q → Known plan (numbered g q)
  known q w = record { valid = w; entry = sym (ap₂ (λ x y. entry_of x y q) f.columns f.rows) }

  cut_halves : (c : Cut) → choice mode g r p ≡ c → CutOf mode p c → kind g p ≡ mixed → (l h : Numbered) → verdict.Cut l h ≡ made g p c
      → Halves mode g r plan p l h
  unfolding cells
  cut_halves (vertical j) c i m l h e =
      let low : Valid plan.columns plan.rows (left_part p j) = record { ac = i.0; cx = omega (arith, v.cx, i.1); bd = v.bd; dy = v.dy } in
      let high : Valid plan.columns plan.rows (right_part p j) = record { ac = i.1; cx = v.cx; bd = v.bd; dy = v.dy } in
      let s = sum_vertical (λ i j. 1) p j (omega (arith, i.0)) (omega (arith, i.1)) in
      let a = cells-some (left_part p j) low.ac low.bd in
      let b = cells-some (right_part p j) high.ac high.bd in
      let el : l ≡ numbered g (left_part p j) = cc in
      let eh : h ≡ numbered g (right_part p j) = cc in
      subst (λ x. Halves mode g r plan p x h) (sym el)
      (subst (λ y. Halves mode g r plan p (numbered g (left_part p j)) y) (sym eh)
      (record {
        both = shots_vertical mode g r p m j c;
        low = record { known = known (left_part p j) low; less = omega arith };
        high = record { known = known (right_part p j) high; less = omega arith };
      }))
  cut_halves (horizontal j) c i m l h e =
      let low : Valid plan.columns plan.rows (lower_part p j) = record { ac = v.ac; cx = v.cx; bd = i.0; dy = omega (arith, v.dy, i.1) } in
      let high : Valid plan.columns plan.rows (upper_part p j) = record { ac = v.ac; cx = v.cx; bd = i.1; dy = v.dy } in
      let s = sum_horizontal (λ i j. 1) p j (omega (arith, i.0)) (omega (arith, i.1)) in
      let a = cells-some (lower_part p j) low.ac low.bd in
      let b = cells-some (upper_part p j) high.ac high.bd in
      let el : l ≡ numbered g (lower_part p j) = cc in
      let eh : h ≡ numbered g (upper_part p j) = cc in
      subst (λ x. Halves mode g r plan p x h) (sym el)
      (subst (λ y. Halves mode g r plan p (numbered g (lower_part p j)) y) (sym eh)
      (record {
        both = shots_horizontal mode g r p m j c;
        low = record { known = known (lower_part p j) low; less = omega arith };
        high = record { known = known (upper_part p j) high; less = omega arith };
      }))
  cut_halves (wheel u j l k n) c i m x y e = (let z : ◌≡◌ {A = ℕ} 0 1 = cc in absurd (omega arith))

  pub mixed_halves : kind g p ≡ mixed → (l h : Numbered) → verdict.Cut l h ≡ made g p (choice mode g r p) → Halves mode g r plan p l h
  mixed_halves m l h e = cut_halves (choice mode g r p) refl (choice_in mode g r p m) m l h e

  pub halves : (l h : Numbered) → verdict.Cut l h ≡ verdict_of mode g r p → Halves mode g r plan p l h
  halves l h e =
      let t = told-cut mode g r p l h e in
      mixed_halves t.0 l h t.1

  -- a part of a pinwheel
  part-smaller : (q : Piece) → Part q p → {n : ℕ} → cells p ≡ cells q + n → 0 < n → Smaller plan p (numbered g q)
  part-smaller q w e n = record {
    known = known q (record { ac = w.ac; cx = omega (arith, w.c, v.cx); bd = w.bd; dy = omega (arith, w.d, v.dy) });
    less = omega arith;
  }

  wheel_fifths : (u : Turn) (j l k n : ℕ) → choice mode g r p ≡ wheel u j l k n → CutOf mode p (wheel u j l k n) → kind g p ≡ mixed
      → Fifths mode g r plan p (wheel_in g.columns g.rows p (wheel u j l k n))
  wheel_fifths u j l k n c i m =
      let q : ℕ → Piece = λ x. part_no p (wheel u j l k n) x in
      let h = each_part p u j l k n i.1 in
      let s = shared p u j l k n i.1 in
      let c0 = cells-some (q 0) h.0.ac h.0.bd in
      let c1 = cells-some (q 1) h.1.ac h.1.bd in
      unfold wheel_in in
      record {
        all = shots-choice mode g r p m ∙ ap (λ x. join (shots mode g r) (parts p x)) c ∙ joined p (shots mode g r) u j l k n;
        first = part-smaller (q 0) h.0 {n = cells (q 1) + cells (q 2) + cells (q 3) + cells (q 4)} (omega (arith, s)) (omega (arith, c1));
        second = part-smaller (q 1) h.1 {n = cells (q 0) + cells (q 2) + cells (q 3) + cells (q 4)} (omega (arith, s)) (omega (arith, c0));
        third = part-smaller (q 2) h.2 {n = cells (q 0) + cells (q 1) + cells (q 3) + cells (q 4)} (omega (arith, s)) (omega (arith, c0));
        fourth = part-smaller (q 3) h.3 {n = cells (q 0) + cells (q 1) + cells (q 2) + cells (q 4)} (omega (arith, s)) (omega (arith, c0));
        inner = part-smaller (q 4) h.4 {n = cells (q 0) + cells (q 1) + cells (q 2) + cells (q 3)} (omega (arith, s)) (omega (arith, c0));
      }

  pub fifths : (w : Wheel) → verdict.Wheel w ≡ verdict_of mode g r p → Fifths mode g r plan p w
  fifths w e =
      let t = told-wheel mode g r p w e in
      go (choice mode g r p) refl (choice_in mode g r p t.0) t.0 t.1
    where
      go : (c : Cut) → choice mode g r p ≡ c → CutOf mode p c → kind g p ≡ mixed → verdict.Wheel w ≡ made g p c → Fifths mode g r plan p w
      go (vertical j) c i m e = (let z : ◌≡◌ {A = ℕ} 0 1 = cc in absurd (omega arith))
      go (horizontal j) c i m e = (let z : ◌≡◌ {A = ℕ} 0 1 = cc in absurd (omega arith))
      go (wheel u j l k n) c i m e =
          let q : w ≡ wheel_in g.columns g.rows p (wheel u j l k n) = cc in
          subst (λ x. Fifths mode g r plan p x) (sym q) (wheel_fifths u j l k n c i m)

  pub count-few : length (shots mode g r p) ≤ 225
  count-few =
      count_most mode g r f.sound p (omega (arith, v.ac)) (omega (arith, v.cx, f.columns)) (omega (arith, v.bd)) (omega (arith, v.dy, f.rows))

  pub slivers_few : sum_of (sliver g r) (shots mode g r p) ≤ 2097120
  slivers_few =
      slivers_most mode g r f.sound p (omega (arith, v.ac)) (omega (arith, v.cx, f.columns)) (omega (arith, v.bd)) (omega (arith, v.dy, f.rows))

-- each shot has a cell of its own
pub count-cells : (mode : Mode) (g : Grid) (r : Rule) (p : Piece) → length (shots mode g r p) ≤ cells p
unfolding cells
count-cells mode g r p =
    omega (
      arith,
      sum_of_ones (shots mode g r p),
      sum_of-le (λ s. 1) (cell_sum (λ i j. 1)) (shots mode g r p) (All-imp (λ s w. cells-some s w.ac w.bd) (shots mode g r p) (shots-part mode g r p)),
      cover mode g r (λ i j. 1) p,
      sum_le (λ i j. only (g.inside i j) 1) (λ i j. 1) p (λ i j w. only-most (g.inside i j) 1),
    )

-- What a shot and the parts of an emission ask

pub emit_one : (mode : Mode) (g : Grid) (r : Rule) (t cs xs ys : List ℕ) (plan : Plan) → Walk mode g r t cs xs ys plan → (p : stored.Piece)
    → Valid plan.columns plan.rows (meant p)
    → InLists xs ys p
emit_one mode g r t cs xs ys plan w p v =
    let f = w.costed in
    let s = f.sound in
    let d = w.drawn in
    record {
      a = omega (arith, v.ac, v.cx, f.columns, s.columns-most, d.xs-length);
      c = omega (arith, v.cx, f.columns, s.columns-most, d.xs-length);
      b = omega (arith, v.bd, v.dy, f.rows, s.rows-most, d.ys-length);
      d = omega (arith, v.dy, f.rows, s.rows-most, d.ys-length);
    }

-- the shots of all parts are as many as the piece's
module _ (mode : Mode) (g : Grid) (r : Rule) (plan : Plan) (p : Piece) where
  pub count_halves : (l h : Numbered) → Halves mode g r plan p l h
      → length (shots mode g r p) ≡ length (shots mode g r (meant l.piece)) + length (shots mode g r (meant h.piece))
  count_halves l h z = ap length z.both ∙ length-append (shots mode g r (meant l.piece)) (shots mode g r (meant h.piece))

  pub count_fifths : (w : Wheel) → Fifths mode g r plan p w
      → length (shots mode g r p)
      ≡ length (shots mode g r (meant w.first.piece))
      + length (shots mode g r (meant w.second.piece))
      + length (shots mode g r (meant w.third.piece))
      + length (shots mode g r (meant w.fourth.piece))
      + length (shots mode g r (meant w.inner.piece))
  count_fifths w z =
      let a = shots mode g r (meant w.first.piece) in
      let b = shots mode g r (meant w.second.piece) in
      let c = shots mode g r (meant w.third.piece) in
      let d = shots mode g r (meant w.fourth.piece) in
      let e = shots mode g r (meant w.inner.piece) in
      omega (
        arith,
        ap length z.all,
        length-append a (b ++ (c ++ (d ++ e))),
        length-append b (c ++ (d ++ e)),
        length-append c (d ++ e),
        length-append d e,
      )

pub emit_part : (mode : Mode) (t cs xs ys : List ℕ) (room : ℕ) (plan : Plan) (at : ℕ) (p : Numbered) (e : Emittable mode t cs xs ys room plan at p)
    → (q : Numbered) → Smaller plan (meant p.piece) q → {n room' : ℕ} → room' ≡ room
    → n + 4 * length (shots mode e.grid e.rule (meant q.piece)) ≤ room
    → Emittable mode t cs xs ys room' plan n q
emit_part mode t cs xs ys room plan at p e q z d h =
    record { grid = e.grid; rule = e.rule; walk = e.walk; known = z.known; fits = omega arith }

pub less_cells : (plan : Plan) (p : Piece) (q : Numbered) → Smaller plan p q → {n : ℕ} → cells p ≡ n → cells (meant q.piece) < n
less_cells plan p q z e = omega (arith, z.less)

-- the shots of five parts, one after the other
pub written_fifths : (g : Grid) {u u1 u2 u3 u4 v : List ℕ} {at n1 n2 n3 n4 n : ℕ} {l1 l2 l3 l4 l5 : List Piece}
    → Written g u u1 at l1 n1 → Written g u1 u2 n1 l2 n2 → Written g u2 u3 n2 l3 n3 → Written g u3 u4 n3 l4 n4 → Written g u4 v n4 l5 n
    → Written g u v at (l1 ++ (l2 ++ (l3 ++ (l4 ++ l5)))) n
written_fifths g a b c d e =
    written-join g _ _ _ _ _ _ _ _ a (written-join g _ _ _ _ _ _ _ _ b (written-join g _ _ _ _ _ _ _ _ c (written-join g _ _ _ _ _ _ _ _ d e)))

-- What became of a piece that was not cut
module _ (g : Grid) (r : Rule) (p : Piece) where
  pub settled-outside : (u : List ℕ) (at : ℕ) → kind g p ≡ outside → Settles g r u u at p (Some at)
  unfolding Settles
  settled-outside u at h = written_as g u u at at (shots-outside Straight g r p h) (written_none g u at)

  pub settled-full : (u v : List ℕ) (at n : ℕ) → kind g p ≡ full → Written g u v at (p ∷ []) n → Settles g r u v at p (Some n)
  unfolding Settles
  settled-full u v at n h w = written_as g u v at n (shots-full Straight g r p h) w

  pub not-settled : (u : List ℕ) (at : ℕ) → kind g p ≡ mixed → Settles g r u u at p None
  unfolding Settles
  not-settled u at h = (h, refl)

  pub settled-behind : (u v : List ℕ) (at n : ℕ) (s : Option ℕ) → s ≡ Some n → Settles g r u v at p s
      → Written g u v at (shots Straight g r p) n
  unfolding Settles
  settled-behind u v at n s e h = subst (Settles g r u v at p) e h

  pub settled-mixed : (u v : List ℕ) (at : ℕ) (s : Option ℕ) → s ≡ None → Settles g r u v at p s → (kind g p ≡ mixed) × (v ≡ u)
  unfolding Settles
  settled-mixed u v at s e h = subst (Settles g r u v at p) e h

-- a full piece is one shot
pub full-one : (g : Grid) (r : Rule) (p : Piece) → kind g p ≡ full → length (shots Straight g r p) ≡ 1
full-one g r p h = ap length (shots-full Straight g r p h)

-- a mixed piece of the grid that there is room for is emitted
pub ask_mixed : (t cs xs ys : List ℕ) (room : ℕ) (plan : Plan) (at : ℕ) (p : Numbered) (e : Emittable Straight t cs xs ys room plan at p)
    → (q : Numbered) → Known plan q → {n room' : ℕ} → room' ≡ room
    → n + 4 * length (shots Straight e.grid e.rule (meant q.piece)) ≤ room
    → kind e.grid (meant q.piece) ≡ mixed
    → EmittableMixed t cs xs ys room' plan n q
ask_mixed t cs xs ys room plan at p e q k d h m = record {
  emittable = record { grid = e.grid; rule = e.rule; walk = e.walk; known = k; fits = omega arith };
  mixed = m;
}

-- A mixed piece, turn by turn

-- the shots done are written from the index at on, and those of the mixed piece q are left of those of p
pub record Begun (g : Grid) (r : Rule) (u v : List ℕ) (at n : ℕ) (p q : Piece) : Type 0 where
  pub done : List Piece
  pub written : Written g u v at done n
  pub both : shots Straight g r p ≡ done ++ shots Straight g r q
  pub mixed : kind g q ≡ mixed

pub begun-none : (g : Grid) (r : Rule) (u : List ℕ) (at : ℕ) (p : Piece) → kind g p ≡ mixed → Begun g r u u at at p p
begun-none g r u at p m = record { done = []; written = written_none g u at; both = refl; mixed = m }

module _ (g : Grid) (r : Rule) (u v : List ℕ) (at n : ℕ) (p q : Piece) where
  pub begun_more : Begun g r u v at n p q → (plan : Plan) (l h : Numbered) → Halves Straight g r plan q l h → (w : List ℕ) (i : ℕ)
      → Written g v w n (shots Straight g r (meant l.piece)) i
      → kind g (meant h.piece) ≡ mixed
      → Begun g r u w at i p (meant h.piece)
  begun_more b plan l h z w i a m =
      let low = shots Straight g r (meant l.piece) in
      let high = shots Straight g r (meant h.piece) in
      record {
        done = b.done ++ low;
        written = written-join g u v w at b.done low n i b.written a;
        both = b.both ∙ ap (λ (x : List Piece). b.done ++ x) z.both ∙ sym (append_assoc b.done low high);
        mixed = m;
      }

  pub begun-end : Begun g r u v at n p q → (plan : Plan) (l h : Numbered) → Halves Straight g r plan q l h → (w x : List ℕ) (i k : ℕ)
      → Written g v w n (shots Straight g r (meant l.piece)) i
      → Written g w x i (shots Straight g r (meant h.piece)) k
      → Written g u x at (shots Straight g r p) k
  begun-end b plan l h z w x i k a c =
      let low = shots Straight g r (meant l.piece) in
      let high = shots Straight g r (meant h.piece) in
      written_as g u x at k (b.both ∙ ap (λ (y : List Piece). b.done ++ y) z.both)
      (written-join g u v x at b.done (low ++ high) n k b.written (written-join g v w x n low high i k a c))

-- the piece q is left of p, and from the index n on there is room for it
pub record Left (t cs xs ys : List ℕ) (plan : Plan) (u : List ℕ) (at : ℕ) (p : Numbered) (v : List ℕ) (n : ℕ) (q : Numbered) : Type 0 where
  pub asked : EmittableMixed t cs xs ys (length v) plan n q
  pub most : cells (meant q.piece) ≤ cells (meant p.piece)
  pub begun : (g : Grid) (r : Rule) → Walk Straight g r t cs xs ys plan → kind g (meant p.piece) ≡ mixed
      → Begun g r u v at n (meant p.piece) (meant q.piece)

-- before and after each turn
pub record Going (t cs xs ys : List ℕ) (plan : Plan) (u : List ℕ) (at : ℕ) (p : Numbered) (v : List ℕ) (n : ℕ) (q : Numbered) (more : Bool)
    : Type 0 where
  pub kept : length v ≡ length u
  pub left : more ≡ true → Left t cs xs ys plan u at p v n q
  pub all : more ≡ false → (g : Grid) (r : Rule) → Walk Straight g r t cs xs ys plan → kind g (meant p.piece) ≡ mixed
      → Written g u v at (shots Straight g r (meant p.piece)) n

module _ (t cs xs ys : List ℕ) (plan : Plan) (u : List ℕ) (at : ℕ) (p : Numbered) where
  pub going_first : EmittableMixed t cs xs ys (length u) plan at p → Going t cs xs ys plan u at p u at p true
  going_first a = record {
    kept = refl;
    left = λ e. record { asked = a; most = omega arith; begun = λ g r w m. begun-none g r u at (meant p.piece) m };
    all = λ e. absurd (true≢false e);
  }

  pub going_more : (v : List ℕ) (n : ℕ) (q : Numbered) (more : Bool) → more ≡ true → length v ≡ length u → Left t cs xs ys plan u at p v n q
      → Going t cs xs ys plan u at p v n q more
  going_more v n q more m k l = record { kept = k; left = λ e. l; all = λ e. absurd (true≢false (sym m ∙ e)) }

  pub going_end : (v : List ℕ) (n : ℕ) (q : Numbered) → length v ≡ length u
      → ((g : Grid) (r : Rule) → Walk Straight g r t cs xs ys plan → kind g (meant p.piece) ≡ mixed
      → Written g u v at (shots Straight g r (meant p.piece)) n)
      → Going t cs xs ys plan u at p v n q false
  going_end v n q k a = record { kept = k; left = λ e. absurd (true≢false (sym e)); all = λ e. a }

module _ (plan : Plan) (q : Piece) (h : Numbered) (z : Smaller plan q h) where
  pub part_fewer : {n m : ℕ} → cells q ≤ m → m ≡ n → cells (meant h.piece) < n
  part_fewer l e = omega (arith, z.less)

  pub left_fewer : (more : Bool) → more ≡ true → cond more (suc (cells (meant h.piece))) 0 < cond more (suc (cells q)) 0
  left_fewer more e = subst (λ b. cond b (suc (cells (meant h.piece))) 0 < cond b (suc (cells q)) 0) (sym e) (omega (arith, z.less))

pub left-none : (n : ℕ) (more : Bool) → more ≡ true → 0 < cond more (suc n) 0
left-none n more e = subst (λ b. 0 < cond b (suc n) 0) (sym e) (omega arith)
