-- Laws of the search for a pinwheel. Assumes nothing.
--
--   box-valid                 : the pieces between lines of a pinwheel are the grid's
--   first-parts, second_parts : the five parts, as the code makes them
--   sum_two, .. sum_five      : their costs, added one after the other, are numbers
--   lines_of, each_part       : the lines are those of a pinwheel; its parts lie within the piece
--   addable                   : their entries are the table's, and their sum is a number
--   meets_so, meets-not       : whether they cost what is sought
--   found_below               : what is there is found
--   with_m, without-m, with_k, without-k, with_l, without-l : what a search of one line says of the line before it
--   found_l, found_k, found_m : with j found, the others are found
--   leads                     : they are the lowest
--   none_of                   : no j, so none at all
use Prim.Native.Nat.{ℕ, ◌+◌, ◌≤◌, ◌<◌, ◌^◌}
use mathlib.Core.Path.{◌≡◌, refl, ap, sym, ◌∙◌, subst}
use mathlib.Core.Bool.{true, false}
use mathlib.Core.List.{List}
use mathlib.Core.Logic.{inl, inr}
use native.Mathlib.Omega.{arith}
use lib.ListN.{length, get_or}
use Rattle.std.specs.Prelude.{Option, is_some}
use Rattle.outline.specs.declared.Line.{Line}
use Rattle.sum.proofs.Sum.{le-or}
use Rattle.piece.specs.declared.Mode.TheVariants.{Pinwheel}
use Rattle.piece.specs.declared.Turn.{Turn}
use Rattle.piece.specs.declared.Turn.TheVariants.{First, Second}
use Rattle.piece.specs.Piece.{Piece, box}
use Rattle.piece.specs.Meant.{meant}
use Rattle.piece.specs.Cuts.{wheel, parts, Inner, Lower}
use Rattle.piece.proofs.Cuts.{Part, parts-part, cuts-at}
use Rattle.table.specs.Entry.{Valid, entry_of}
use Rattle.table.proofs.Entry.{entry-below}
use Rattle.verdict.specs.declared.Numbered.{Numbered}
use Rattle.verdict.specs.declared.pinwheel.Wheel.{Wheel}
use Rattle.verdict.specs.declared.pinwheel.Sought.{Sought}
use Rattle.verdict.specs.Verdict.{placed, part_no, wheel_in}
use Rattle.verdict.specs.Search.{FirstWith, FirstLine}
use Rattle.verdict.proofs.Search.{some-line, no-line}
use Rattle.verdict.specs.Pinwheels.{weight_of, Addable, Small, Lines, Huntable, Meets, WithM, WithK, WithL, None, Leads}

pub box-valid : (s : Sought) {j l k m : ℕ} → Lines s j l k m → {a c b d : ℕ} → a < c → c ≤ s.piece.c.0 → b < d → d ≤ s.piece.d.0
    → Small s.plan × Valid s.plan.columns s.plan.rows (box a c b d)
box-valid s z ac cx bd dy =
    (z.small, record { ac = ac; cx = omega (arith, z.valid); bd = bd; dy = omega (arith, z.valid) })

-- the five parts, as the code makes them
module _ (columns rows : ℕ) (p : Piece) {t : Turn} (j l k m : ℕ) {a b c d e : Numbered} where
  pub first-parts : t ≡ First → a ≡ placed columns rows (box p.a l p.b k) → b ≡ placed columns rows (box l p.c p.b m)
      → c ≡ placed columns rows (box p.a j k p.d) → d ≡ placed columns rows (box j p.c m p.d) → e ≡ placed columns rows (box j l k m)
      → ◌≡◌ {A = Wheel} (record { first = a; second = b; third = c; fourth = d; inner = e }) (wheel_in columns rows p (wheel t j l k m))
  unfolding wheel_in part_no parts
  first-parts q ea eb ec ed ee =
      (λ i. record { first = ea i; second = eb i; third = ec i; fourth = ed i; inner = ee i })
      ∙ ap (λ (u : Turn). wheel_in columns rows p (wheel u j l k m)) (sym q)

  pub second_parts : t ≡ Second → a ≡ placed columns rows (box p.a j p.b m) → b ≡ placed columns rows (box j p.c p.b k)
      → c ≡ placed columns rows (box p.a l m p.d) → d ≡ placed columns rows (box l p.c k p.d) → e ≡ placed columns rows (box j l k m)
      → ◌≡◌ {A = Wheel} (record { first = a; second = b; third = c; fourth = d; inner = e }) (wheel_in columns rows p (wheel t j l k m))
  unfolding wheel_in part_no parts
  second_parts q ea eb ec ed ee =
      (λ i. record { first = ea i; second = eb i; third = ec i; fourth = ed i; inner = ee i })
      ∙ ap (λ (u : Turn). wheel_in columns rows p (wheel u j l k m)) (sym q)

-- the sums on the way to that of five
module _ (t : List ℕ) (w : Wheel) (z : Addable t w) where
  pub sum_two : get_or t w.first.entry 0 + get_or t w.second.entry 0 < 2 ^ 32
  unfolding weight_of
  sum_two = omega (arith, z.small)

  pub sum_three : get_or t w.first.entry 0 + get_or t w.second.entry 0 + get_or t w.third.entry 0 < 2 ^ 32
  unfolding weight_of
  sum_three = omega (arith, z.small)

  pub sum_four : get_or t w.first.entry 0 + get_or t w.second.entry 0 + get_or t w.third.entry 0 + get_or t w.fourth.entry 0 < 2 ^ 32
  unfolding weight_of
  sum_four = omega (arith, z.small)

  pub sum_five : get_or t w.first.entry 0 + get_or t w.second.entry 0 + get_or t w.third.entry 0 + get_or t w.fourth.entry 0 + get_or t w.inner.entry 0 < 2 ^ 32
  unfolding weight_of
  sum_five = z.small

-- each part lies within the piece
pub each_part : (p : Piece) (t : Turn) (j l k m : ℕ) → Inner p j l k m
    → Part (part_no p (wheel t j l k m) 0) p
    × Part (part_no p (wheel t j l k m) 1) p
    × Part (part_no p (wheel t j l k m) 2) p
    × Part (part_no p (wheel t j l k m) 3) p
    × Part (part_no p (wheel t j l k m) 4) p
unfolding part_no parts
each_part p First j l k m w =
    let h = cuts-at Pinwheel _ p (parts-part Pinwheel p (omega (arith, w)) (omega (arith, w))) (wheel First j l k m) (refl, w) in
    (h.0, h.1.0, h.1.1.0, h.1.1.1.0, h.1.1.1.1.0)
each_part p Second j l k m w =
    let h = cuts-at Pinwheel _ p (parts-part Pinwheel p (omega (arith, w)) (omega (arith, w))) (wheel Second j l k m) (refl, w) in
    (h.0, h.1.0, h.1.1.0, h.1.1.1.0, h.1.1.1.1.0)

pub found_below : {Q : ℕ → Type 0} {a c r : ℕ} → FirstWith Q a c r → (n : ℕ) → a ≤ n → n < c → Q n → r < c
found_below {c = c} {r = r} f n h k q = elim (le-or c r) [
  | inl w ↦ absurd (f.passed n h (omega arith) q)
  | inr w ↦ w
]

module _ (t : List ℕ) (s : Sought) where
  abbrev parts_of : ℕ → ℕ → ℕ → ℕ → Wheel
  parts_of j l k m = wheel_in s.plan.columns s.plan.rows (meant s.piece) (wheel s.turn j l k m)

  module _ (z : Huntable t s) where
    pub lines_of : {j l k m : ℕ} → Inner (meant s.piece) j l k m → Lines s j l k m
    lines_of w = record { small = z.small; valid = z.valid; inner = w }

    entry_in : (q : Piece) → Part q (meant s.piece) → entry_of s.plan.columns s.plan.rows q < length t
    entry_in q w =
        let v = z.valid in
        let u : Valid s.plan.columns s.plan.rows q = record { ac = w.ac; cx = omega (arith, w.c, v.cx); bd = w.bd; dy = omega (arith, w.d, v.dy) } in
        omega (arith, entry-below _ _ q u, z.entries)

    all_addable : (j l k m : ℕ) → Inner (meant s.piece) j l k m → Addable t (parts_of j l k m)
    unfolding wheel_in
    all_addable j l k m i =
        let h = each_part (meant s.piece) s.turn j l k m i in
        record {
          first = entry_in (part_no (meant s.piece) (wheel s.turn j l k m) 0) h.0;
          second = entry_in (part_no (meant s.piece) (wheel s.turn j l k m) 1) h.1;
          third = entry_in (part_no (meant s.piece) (wheel s.turn j l k m) 2) h.2;
          fourth = entry_in (part_no (meant s.piece) (wheel s.turn j l k m) 3) h.3;
          inner = entry_in (part_no (meant s.piece) (wheel s.turn j l k m) 4) h.4;
          small = z.sums j l k m i;
        }

    pub addable : {j l k m : ℕ} {w : Wheel} → Inner (meant s.piece) j l k m → w ≡ parts_of j l k m → Addable t w
    addable {j} {l} {k} {m} i e = subst (Addable t) (sym e) (all_addable j l k m i)

  pub meets_so : (j l k m : ℕ) {w : Wheel} {n : ℕ} → w ≡ parts_of j l k m → n ≡ weight_of t w → n ≡ s.cost → Meets t s j l k m
  unfolding Meets
  meets_so j l k m e f g = ap (weight_of t) (sym e) ∙ sym f ∙ g

  pub meets-not : (j l k m : ℕ) {w : Wheel} {n : ℕ} → w ≡ parts_of j l k m → n ≡ weight_of t w → (n ≡ s.cost → ⊥) → Meets t s j l k m → ⊥
  unfolding Meets
  meets-not j l k m e f g q = g (f ∙ ap (weight_of t) e ∙ q)

  -- what a search of one line says of the line before it
  module _ (j l k : ℕ) (o : Option Line) (f : FirstLine (Meets t s j l k) (k + 1) s.piece.d.0 o) where
    pub with_m : is_some o ≡ true → WithM t s j l k
    with_m h = let (m, u, v) = some-line o f h in record { m = m; above = omega (arith, u.least); below = v; meets = u.found v }

    pub without-m : is_some o ≡ false → WithM t s j l k → ⊥
    without-m h w = (no-line o f h).passed w.m (omega (arith, w.above)) w.below w.meets

  module _ (j l : ℕ) (o : Option Line) (f : FirstLine (WithM t s j l) (s.piece.b.0 + 1) s.piece.d.0 o) where
    pub with_k : is_some o ≡ true → WithK t s j l
    with_k h = let (k, u, v) = some-line o f h in record { k = k; above = omega (arith, u.least); below = v; rest = u.found v }

    pub without-k : is_some o ≡ false → WithK t s j l → ⊥
    without-k h w = (no-line o f h).passed w.k (omega (arith, w.above)) w.below w.rest

  module _ (j : ℕ) (o : Option Line) (f : FirstLine (WithK t s j) (j + 1) s.piece.c.0 o) where
    pub with_l : is_some o ≡ true → WithL t s j
    with_l h = let (l, u, v) = some-line o f h in record { l = l; above = omega (arith, u.least); below = v; rest = u.found v }

    pub without-l : is_some o ≡ false → WithL t s j → ⊥
    without-l h w = (no-line o f h).passed w.l (omega (arith, w.above)) w.below w.rest

  pub none_of : FirstWith (WithL t s) (s.piece.a.0 + 1) s.piece.c.0 s.piece.c.0 → None t s
  none_of f j' l' k' m' i q =
      f.passed j' (omega (arith, i.aj)) (omega (arith, i.jl, i.lc))
      (record { l = l'; above = i.jl; below = i.lc; rest = record { k = k'; above = i.bk; below = omega (arith, i.km, i.md); rest = record { m = m'; above = i.km; below = i.md; meets = q } } })

  -- the lines of the lowest, one after the other; a search after the first finds what there is
  module _ {j : ℕ} (f : FirstWith (WithL t s) (s.piece.a.0 + 1) s.piece.c.0 j) (h : j < s.piece.c.0) where
    pub found_l : FirstWith (WithK t s j) (j + 1) s.piece.c.0 s.piece.c.0 → ⊥
    found_l u = let w = f.found h in u.passed w.l (omega (arith, w.above)) w.below w.rest

    module _ {l : ℕ} (u : FirstWith (WithK t s j) (j + 1) s.piece.c.0 l) (h' : l < s.piece.c.0) where
      pub found_k : FirstWith (WithM t s j l) (s.piece.b.0 + 1) s.piece.d.0 s.piece.d.0 → ⊥
      found_k v = let w = u.found h' in v.passed w.k (omega (arith, w.above)) w.below w.rest

      module _ {k : ℕ} (v : FirstWith (WithM t s j l) (s.piece.b.0 + 1) s.piece.d.0 k) (h'' : k < s.piece.d.0) where
        pub found_m : FirstWith (Meets t s j l k) (k + 1) s.piece.d.0 s.piece.d.0 → ⊥
        found_m y = let w = v.found h'' in y.passed w.m (omega (arith, w.above)) w.below w.meets

        module _ {m : ℕ} (y : FirstWith (Meets t s j l k) (k + 1) s.piece.d.0 m) (h₃ : m < s.piece.d.0) where
          pub these_lines : Inner (meant s.piece) j l k m
          these_lines = record {
            aj = omega (arith, f.least);
            jl = omega (arith, u.least);
            lc = h';
            bk = omega (arith, v.least);
            km = omega (arith, y.least);
            md = h₃;
          }

          pub leads : {w : Wheel} → w ≡ parts_of j l k m → Leads t s w
          leads e = record { j = j; l = l; k = k; m = m; inner = these_lines; is = e; meets = y.found h₃; passed = passed }
            where
              passed : (j' l' k' m' : ℕ) → Inner (meant s.piece) j' l' k' m' → Lower j' l' k' m' j l k m → Meets t s j' l' k' m' → ⊥
              passed j' l' k' m' i (inl q) n =
                  f.passed j' (omega (arith, i.aj)) q
                  (record { l = l'; above = i.jl; below = i.lc; rest = record { k = k'; above = i.bk; below = omega (arith, i.km, i.md); rest = record { m = m'; above = i.km; below = i.md; meets = n } } })
              passed j' l' k' m' i (inr (ej, inl q)) n =
                  u.passed l' (omega (arith, ej, i.jl)) q
                  (subst (λ x. WithK t s x l') ej (record { k = k'; above = i.bk; below = omega (arith, i.km, i.md); rest = record { m = m'; above = i.km; below = i.md; meets = n } }))
              passed j' l' k' m' i (inr (ej, inr (el, inl q))) n =
                  v.passed k' (omega (arith, i.bk)) q
                  (subst (λ x. WithM t s x l k') ej (subst (λ x. WithM t s j' x k') el (record { m = m'; above = i.km; below = i.md; meets = n })))
              passed j' l' k' m' i (inr (ej, inr (el, inr (ek, q)))) n =
                  y.passed m' (omega (arith, ek, i.km)) q
                  (subst (λ x. Meets t s x l k m') ej (subst (λ x. Meets t s j' x k m') el (subst (λ x. Meets t s j' l' x m') ek n)))
