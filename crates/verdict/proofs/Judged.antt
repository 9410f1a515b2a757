-- The verdict of a piece from what lies in memory. Assumes nothing.
--
--   part-x, part-y                      : the entries of their parts
--   entry-within, cost-here             : the piece's entry is the table's, and what it has
--   is-outside, is-full, is-mixed       : a piece that costs nothing; a piece that is inside in all cells; neither
--   verdict_outside, verdict_shot, verdict_mixed : what becomes of such pieces
--   weighable_x, weighable_y            : its cuts in each direction are the table's
--   made_vertical, made_horizontal      : the parts of a mixed piece, by the first line whose parts cost what the piece costs
--   turnable                            : where there is none, a pinwheel can be sought and found
--   made-wheel                          : the first pinwheel whose parts do
--   level_found                         : so where no vertical one is found, a horizontal one is
--   cut_straight                        : by straight cuts alone there always is a cut
use Rattle.std.specs.Prelude.{Option, IsSome}
use Prim.Native.Nat.{ℕ, ◌+◌, ◌*◌, ◌≤◌, ◌<◌}
use mathlib.Core.Path.{◌≡◌, refl, ap, ap₂, sym, ◌∙◌}
use mathlib.Core.Bool.{Bool, true, false}
use mathlib.Core.List.{List}
use mathlib.Core.Logic.{inl, inr}
use native.Mathlib.Omega.{arith}
use native.Mathlib.Nat.{mul_comm}
use lib.ListN.{length, get_or}
use Rattle.sum.specs.Sum.{sum_of, only}
use Rattle.recurrence.specs.Scheme.{Kind, outside, full, mixed}
use Rattle.outline.specs.Grid.{Grid}
use Rattle.rule.specs.declared.Rule.{Rule}
use Rattle.piece.specs.declared.Mode.{Mode}
use Rattle.piece.specs.declared.Mode.TheVariants.{Straight, Pinwheel}
use Rattle.piece.specs.declared.Turn.{Turn}
use Rattle.piece.specs.declared.Turn.TheVariants.{First, Second}
use Rattle.piece.specs.Piece.{Piece, box, kind, most_cost, left_part, right_part, lower_part, upper_part}
use Rattle.piece.specs.Meant.{meant}
use Rattle.piece.specs.Cuts.{wheel, parts, Inner, cost, choice}
use Rattle.piece.proofs.Cells as cell
use Rattle.piece.proofs.Kind.{kind-all, full-cell}
use Rattle.piece.proofs.Cuts.{Part, cuts-at, straight-only, cost-zero, cost-outside}
use Rattle.piece.proofs.Choice.{choice_vertical, choice_horizontal, choice-first, choice-second, choice-some}
use Rattle.piece.proofs.Bound.{cost-most, parts-most}
use Rattle.table.specs.Entry.{pair_count, pair_no, entry_of, Valid}
use Rattle.table.proofs.Entry.{entry-below, count_most}
use Rattle.piece.specs.declared.Piece as stored
use Rattle.verdict.specs.declared.Plan.{Plan}
use Rattle.verdict.specs.declared.pinwheel.Wheel.{Wheel}
use Rattle.verdict.specs.declared.pinwheel.Turned.TheVariants as verdict
use Rattle.verdict.specs.declared.Found.{Found}
use Rattle.verdict.specs.Verdict.{part_no, wheel_in, made, verdict_of}
use Rattle.verdict.specs.Memory.{Costed, Known}
use Rattle.verdict.specs.Search.{Within, AllInside, cuts-x, cuts-y, base_of, part_entry, across, Weighable, NoCut, FoundAt, Finds, Uncut}
use Rattle.verdict.specs.Pinwheels.{sought, weight_of, Huntable, Meets, None, Turnable, FirstWheel}
use Rattle.verdict.proofs.Search.{some-of}
use Rattle.verdict.proofs.Hunting.{each_part}

-- the entries of their parts, n being the piece's own
module _ (plan : Plan) (p : stored.Piece) (n : ℕ) (e : n ≡ entry_of plan.columns plan.rows (meant p)) (m : plan.pairs ≡ pair_count plan.rows) where
  pub part-x : (a c : ℕ) → part_entry (cuts-x plan p n) a c ≡ entry_of plan.columns plan.rows (box a c p.b.0 p.d.0)
  unfolding part_entry base_of entry_of
  part-x a c =
      omega (
        arith,
        e,
        mul_comm plan.pairs (pair_no plan.columns p.a.0 p.c.0),
        ap (λ i. pair_no plan.columns p.a.0 p.c.0 * i) m,
        mul_comm plan.pairs (pair_no plan.columns a c),
        ap (λ i. pair_no plan.columns a c * i) m,
      )

  pub part-y : (b d : ℕ) → part_entry (cuts-y plan p n) b d ≡ entry_of plan.columns plan.rows (box p.a.0 p.c.0 b d)
  unfolding part_entry base_of entry_of
  part-y b d = omega (arith, e)

module _ (mode : Mode) (g : Grid) (r : Rule) (t cells : List ℕ) (plan : Plan) (f : Costed mode g r t cells plan)
    (p : stored.Piece) (n : ℕ) (z : Known plan (record { piece = p; entry = n })) where
  w : Valid plan.columns plan.rows (meant p)
  w = z.valid

  pub entry-within : n < length t
  entry-within = omega (arith, z.entry, entry-below _ _ (meant p) w, f.entries)

  pub cost-here : get_or t n 0 ≡ cost mode g r (meant p)
  cost-here = ap (λ i. get_or t i 0) z.entry ∙ f.cost-at (meant p) w

  pub is-outside : get_or t n 0 ≡ 0 → kind g (meant p) ≡ outside
  is-outside e = cost-zero mode g r (meant p) (sym cost-here ∙ e)

  pub verdict_outside : get_or t n 0 ≡ 0 → verdict.Outside ≡ verdict_of mode g r (meant p)
  unfolding verdict_of
  verdict_outside e = rw (is-outside e, verdict_of)

  -- the cells, as memory has them
  seen : (i j : ℕ) → Within p i j → (get_or cells (16 * i + j) 0 ≡ only (g.inside i j) 1) × cell.Within (meant p) i j
  seen i j h =
      let s = f.sound in (
        f.cell-at i j (omega (arith, h, w, f.columns, s.columns-most)) (omega (arith, h, w, f.rows, s.rows-most)),
        record { a = h.a; c = h.c; b = h.b; d = h.d },
      )

  in_cell : (i j : ℕ) → Within p i j → get_or cells (16 * i + j) 0 ≡ 1 → g.inside i j ≡ true
  in_cell i j h e = go (g.inside i j) (sym (seen i j h).0 ∙ e)
    where
      go : (b : Bool) → only b 1 ≡ 1 → b ≡ true
      go true q = refl
      go false q = absurd (omega arith)

  pub is-full : AllInside cells p true → kind g (meant p) ≡ full
  is-full h =
      kind-all g (meant p) w.ac w.bd (λ i j q. let z : Within p i j = record { a = q.a; c = q.c; b = q.b; d = q.d } in in_cell i j z (h i j z))

  pub verdict_shot : AllInside cells p true → verdict.Shot ≡ verdict_of mode g r (meant p)
  unfolding verdict_of
  verdict_shot h = rw (is-full h, verdict_of)

  pub is-mixed : (get_or t n 0 ≡ 0 → ⊥) → AllInside cells p false → kind g (meant p) ≡ mixed
  is-mixed e h = go (kind g (meant p)) refl
    where
      go : (k : Kind) → kind g (meant p) ≡ k → kind g (meant p) ≡ mixed
      go outside q = absurd (e (cost-here ∙ cost-outside mode g r (meant p) q))
      go full q =
          let s = seen h.0 h.1 h.2 in
          absurd (h.3 (s.0 ∙ ap (λ b. only b 1) (full-cell g (meant p) q h.0 h.1 s.1)))
      go mixed q = q

  few : (plan.columns ≤ 15) × (plan.rows ≤ 15)
  few = let s = f.sound in (omega (arith, f.columns, s.columns-most), omega (arith, f.rows, s.rows-most))

  -- the costs of two parts together are a number
  module _ (q : Piece) (k : Valid plan.columns plan.rows q) where
    part-cost : (i : ℕ) → i ≡ entry_of plan.columns plan.rows q → get_or t i 0 ≡ cost mode g r q
    part-cost i e = ap (λ (n : ℕ). get_or t n 0) e ∙ f.cost-at q k

    part-most : cost mode g r q ≤ 2097345000
    part-most =
        cost-most mode g r f.sound q (omega (arith, k)) (omega (arith, k, f.columns)) (omega (arith, k)) (omega (arith, k, f.rows)) f.weight

  left-valid : (j : ℕ) → p.a.0 < j → j < p.c.0
      → Valid plan.columns plan.rows (left_part (meant p) j) × Valid plan.columns plan.rows (right_part (meant p) j)
  left-valid j h k = (
    record { ac = h; cx = omega (arith, w.cx); bd = w.bd; dy = w.dy },
    record { ac = k; cx = w.cx; bd = w.bd; dy = w.dy },
  )

  lower-valid : (j : ℕ) → p.b.0 < j → j < p.d.0
      → Valid plan.columns plan.rows (lower_part (meant p) j) × Valid plan.columns plan.rows (upper_part (meant p) j)
  lower-valid j h k = (
    record { ac = w.ac; cx = w.cx; bd = h; dy = omega (arith, w.dy) },
    record { ac = w.ac; cx = w.cx; bd = k; dy = w.dy },
  )

  across-x : (j : ℕ) → p.a.0 < j → j < p.c.0
      → across t (cuts-x plan p n) j ≡ cost mode g r (left_part (meant p) j) + cost mode g r (right_part (meant p) j)
  unfolding across
  across-x j h k =
      let v = left-valid j h k in
      ap₂ (λ a b. a + b) (part-cost (left_part (meant p) j) v.0 _ (part-x plan p n z.entry f.pairs p.a.0 j))
      (part-cost (right_part (meant p) j) v.1 _ (part-x plan p n z.entry f.pairs j p.c.0))

  across-y : (j : ℕ) → p.b.0 < j → j < p.d.0
      → across t (cuts-y plan p n) j ≡ cost mode g r (lower_part (meant p) j) + cost mode g r (upper_part (meant p) j)
  unfolding across
  across-y j h k =
      let v = lower-valid j h k in
      ap₂ (λ a b. a + b) (part-cost (lower_part (meant p) j) v.0 _ (part-y plan p n z.entry f.pairs p.b.0 j))
      (part-cost (upper_part (meant p) j) v.1 _ (part-y plan p n z.entry f.pairs j p.d.0))

  -- the entry of a part is the table's
  in_table : (q : Piece) → Valid plan.columns plan.rows q → (i : ℕ) → i ≡ entry_of plan.columns plan.rows q → i < length t
  in_table q v i e = omega (arith, e, entry-below _ _ q v, f.entries)

  pub weighable_x : Weighable t (cuts-x plan p n)
  weighable_x = record {
    ordered = w.ac;
    some = w.cx;
    few = few.0;
    short = omega (arith, f.pairs, count_most plan.rows few.1);
    here = z.entry ∙ sym (part-x plan p n z.entry f.pairs p.a.0 p.c.0);
    within = λ a c h k.
        in_table (box a c p.b.0 p.d.0) (record { ac = h; cx = k; bd = w.bd; dy = w.dy }) _
        (part-x plan p n z.entry f.pairs a c);
    small = λ j h k.
        let v = left-valid j h k in
        omega (arith, across-x j h k, part-most (left_part (meant p) j) v.0, part-most (right_part (meant p) j) v.1);
  }

  pub weighable_y : Weighable t (cuts-y plan p n)
  weighable_y = record {
    ordered = w.bd;
    some = w.dy;
    few = few.1;
    short = omega arith;
    here = z.entry ∙ sym (part-y plan p n z.entry f.pairs p.b.0 p.d.0);
    within = λ b d h k.
        in_table (box p.a.0 p.c.0 b d) (record { ac = w.ac; cx = w.cx; bd = h; dy = k }) _
        (part-y plan p n z.entry f.pairs b d);
    small = λ j h k.
        let v = lower-valid j h k in
        omega (arith, across-y j h k, part-most (lower_part (meant p) j) v.0, part-most (upper_part (meant p) j) v.1);
  }

  -- the same entry by the grid's size
  sized : (q : Piece) (i : ℕ) → i ≡ entry_of plan.columns plan.rows q → i ≡ entry_of g.columns g.rows q
  sized q i e = e ∙ ap₂ (λ x y. entry_of x y q) f.columns f.rows

  -- what becomes of a mixed piece is what its cut makes of it
  pub verdict_mixed : kind g (meant p) ≡ mixed → made g (meant p) (choice mode g r (meant p)) ≡ verdict_of mode g r (meant p)
  unfolding verdict_of
  verdict_mixed m = rw (m, verdict_of)

  met_x : (j : ℕ) → p.a.0 < j → j < p.c.0 → cost mode g r (left_part (meant p) j) + cost mode g r (right_part (meant p) j) ≡ cost mode g r (meant p)
      → across t (cuts-x plan p n) j ≡ get_or t n 0
  met_x j a b q = across-x j a b ∙ q ∙ sym cost-here

  pub made_vertical : (u : Found) → FoundAt t (cuts-x plan p n) (get_or t n 0) u
      → verdict.Cut (record { piece = record { a = p.a; c = u.line; b = p.b; d = p.d }; entry = u.lower })
      (record { piece = record { a = u.line; c = p.c; b = p.b; d = p.d }; entry = u.upper })
      ≡ made g (meant p) (choice mode g r (meant p))
  made_vertical u o =
      let i = u.line.0 in
      let s = o.first in
      let a : p.a.0 < i = omega (arith, s.least) in
      let l : i < p.c.0 = o.below in
      ap₂ (λ x y.
      verdict.Cut (record { piece = record { a = p.a; c = u.line; b = p.b; d = p.d }; entry = x })
      (record { piece = record { a = u.line; c = p.c; b = p.b; d = p.d }; entry = y }))
      (sized (left_part (meant p) i) u.lower (o.lower ∙ part-x plan p n z.entry f.pairs p.a.0 i))
      (sized (right_part (meant p) i) u.upper (o.upper ∙ part-x plan p n z.entry f.pairs i p.c.0))
      ∙ ap (made g (meant p))
      (sym
      (choice_vertical mode g r (meant p) i a l (λ j b c q. s.passed j (omega arith) c (met_x j b (omega arith) q))
      (sym (across-x i a l) ∙ s.found l ∙ cost-here)))

  met_y : (k : ℕ) → p.b.0 < k → k < p.d.0 → cost mode g r (lower_part (meant p) k) + cost mode g r (upper_part (meant p) k) ≡ cost mode g r (meant p)
      → across t (cuts-y plan p n) k ≡ get_or t n 0
  met_y k a b q = across-y k a b ∙ q ∙ sym cost-here

  none : NoCut t (cuts-x plan p n) (get_or t n 0) → (k : ℕ) → p.a.0 < k → k < p.c.0
      → cost mode g r (left_part (meant p) k) + cost mode g r (right_part (meant p) k) ≡ cost mode g r (meant p)
      → ⊥
  none o k a b q = o.passed k (omega arith) (omega arith) (met_x k a b q)

  pub made_horizontal : NoCut t (cuts-x plan p n) (get_or t n 0) → (v : Found) → FoundAt t (cuts-y plan p n) (get_or t n 0) v
      → verdict.Cut (record { piece = record { a = p.a; c = p.c; b = p.b; d = v.line }; entry = v.lower })
      (record { piece = record { a = p.a; c = p.c; b = v.line; d = p.d }; entry = v.upper })
      ≡ made g (meant p) (choice mode g r (meant p))
  made_horizontal o v y =
      let j = v.line.0 in
      let s = y.first in
      let a : p.b.0 < j = omega (arith, s.least) in
      let b : j < p.d.0 = y.below in
      ap₂ (λ i k.
      verdict.Cut (record { piece = record { a = p.a; c = p.c; b = p.b; d = v.line }; entry = i })
      (record { piece = record { a = p.a; c = p.c; b = v.line; d = p.d }; entry = k }))
      (sized (lower_part (meant p) j) v.lower (y.lower ∙ part-y plan p n z.entry f.pairs p.b.0 j))
      (sized (upper_part (meant p) j) v.upper (y.upper ∙ part-y plan p n z.entry f.pairs j p.d.0))
      ∙ ap (made g (meant p))
      (sym
      (choice_horizontal mode g r (meant p) (none o) j a b (λ k c d q. s.passed k (omega arith) d (met_y k c (omega (arith, s.most)) q))
      (sym (across-y j a b) ∙ s.found b ∙ cost-here)))

  module _ (u : Uncut t plan (record { piece = p; entry = n })) where
    none-y : (k : ℕ) → p.b.0 < k → k < p.d.0
        → cost mode g r (lower_part (meant p) k) + cost mode g r (upper_part (meant p) k) ≡ cost mode g r (meant p)
        → ⊥
    none-y k a b q = u.level.passed k (omega arith) (omega arith) (met_y k a b q)

    -- no straight cut does, so the table is that of the pinwheel mode, and a pinwheel does
    module _ (sort : kind g (meant p) ≡ mixed) where
      pinwheel : mode ≡ Pinwheel
      pinwheel = go mode refl
        where
          go : (x : Mode) → mode ≡ x → mode ≡ Pinwheel
          go Straight q =
              absurd
              (choice-some mode g r (meant p) sort (none u.upright) none-y (λ t j l k m z. absurd (straight-only (sym q ∙ z))))
          go Pinwheel q = q

      cost-part : {q : Piece} → Part q (meant p) → get_or t (entry_of plan.columns plan.rows q) 0 ≡ cost mode g r q
      cost-part {q} i =
          f.cost-at q (record { ac = i.ac; cx = omega (arith, i.c, w.cx); bd = i.bd; dy = omega (arith, i.d, w.dy) })

      -- what the five parts cost together
      weight-cost : (x : Turn) (i j m o : ℕ) → Inner (meant p) i j m o
          → weight_of t (wheel_in plan.columns plan.rows (meant p) (wheel x i j m o)) ≡ sum_of (cost mode g r) (parts (meant p) (wheel x i j m o))
      unfolding weight_of wheel_in part_no parts sum_of
      weight-cost First i j m o q =
          let a = each_part (meant p) First i j m o q in
          omega (arith, cost-part a.0, cost-part a.1, cost-part a.2, cost-part a.3, cost-part a.4)
      weight-cost Second i j m o q =
          let a = each_part (meant p) Second i j m o q in
          omega (arith, cost-part a.0, cost-part a.1, cost-part a.2, cost-part a.3, cost-part a.4)

      module _ (x : Turn) where
        wheel_met : (i j m o : ℕ) → Inner (meant p) i j m o → sum_of (cost mode g r) (parts (meant p) (wheel x i j m o)) ≡ cost mode g r (meant p)
            → Meets t (sought plan p x (get_or t n 0)) i j m o
        unfolding Meets
        wheel_met i j m o q a = weight-cost x i j m o q ∙ a ∙ sym cost-here

        met_wheel : (i j m o : ℕ) → Inner (meant p) i j m o → Meets t (sought plan p x (get_or t n 0)) i j m o
            → sum_of (cost mode g r) (parts (meant p) (wheel x i j m o)) ≡ cost mode g r (meant p)
        unfolding Meets
        met_wheel i j m o q a = sym (weight-cost x i j m o q) ∙ a ∙ cost-here

        huntable : Huntable t (sought plan p x (get_or t n 0))
        huntable = record {
          small = record { columns = few.0; rows = few.1 };
          valid = w;
          entries = f.entries;
          sums = λ i j m o q.
              omega (
                arith,
                weight-cost x i j m o q,
                cuts-at mode (λ c. sum_of (cost mode g r) (parts (meant p) c) ≤ most_cost) (meant p)
                    (parts-most mode g r f.sound (meant p) (omega (arith, w)) (omega (arith, w, f.columns)) (omega (arith, w)) (omega (arith, w, f.rows)) f.weight)
                    (wheel x i j m o)
                    (pinwheel, q),
              );
        }

      pub turnable : Turnable t plan p (get_or t n 0)
      turnable = record { first = huntable First; second = huntable Second; some = some }
        where
          some : None t (sought plan p First (get_or t n 0)) → None t (sought plan p Second (get_or t n 0)) → ⊥
          some a b = choice-some mode g r (meant p) sort (none u.upright) none-y go
            where
              go : (x : Turn) (i j m o : ℕ) → mode ≡ Pinwheel → Inner (meant p) i j m o
                  → sum_of (cost mode g r) (parts (meant p) (wheel x i j m o)) ≡ cost mode g r (meant p)
                  → ⊥
              go First i j m o z q c = a i j m o q (wheel_met First i j m o q c)
              go Second i j m o z q c = b i j m o q (wheel_met Second i j m o q c)

      -- the parts, by the grid's size
      sized-wheel : (x : Turn) (i j m o : ℕ) {c : Wheel} → c ≡ wheel_in plan.columns plan.rows (meant p) (wheel x i j m o)
          → verdict.Wheel c ≡ made g (meant p) (wheel x i j m o)
      sized-wheel x i j m o q =
          ap verdict.Wheel (q ∙ ap₂ (λ a b. wheel_in a b (meant p) (wheel x i j m o)) f.columns f.rows)

      pub made-wheel : (c : Wheel) → FirstWheel t plan p (get_or t n 0) c → verdict.Wheel c ≡ made g (meant p) (choice mode g r (meant p))
      made-wheel c (inl a) =
          sized-wheel First a.j a.l a.k a.m a.is
          ∙ ap (made g (meant p))
          (sym
          (choice-first mode g r (meant p) pinwheel (none u.upright) none-y a.j a.l a.k a.m a.inner
          (λ i j m o q b z. a.passed i j m o q b (wheel_met First i j m o q z))
          (met_wheel First a.j a.l a.k a.m a.inner a.meets)))
      made-wheel c (inr (b, a)) =
          sized-wheel Second a.j a.l a.k a.m a.is
          ∙ ap (made g (meant p))
          (sym
          (choice-second mode g r (meant p) pinwheel (none u.upright) none-y (λ i j m o q z. b i j m o q (wheel_met First i j m o q z))
          a.j a.l a.k a.m a.inner
          (λ i j m o q d z. a.passed i j m o q d (wheel_met Second i j m o q z))
          (met_wheel Second a.j a.l a.k a.m a.inner a.meets)))

    -- by straight cuts alone there always is a line
    pub cut_straight : mode ≡ Straight → kind g (meant p) ≡ mixed → ⊥
    cut_straight s h = straight-only (sym s ∙ pinwheel h)

  -- so where no vertical one is found, the search for a horizontal one finds it
  pub level_found : mode ≡ Straight → kind g (meant p) ≡ mixed → NoCut t (cuts-x plan p n) (get_or t n 0)
      → (v : Option Found) → Finds t (cuts-y plan p n) (get_or t n 0) v → IsSome v
  level_found s h o v y = some-of _ v (λ k. cut_straight (record { upright = o; level = k }) s h) y
