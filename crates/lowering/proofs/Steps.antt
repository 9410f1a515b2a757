-- How far a table is lowered, step by step. Assumes nothing.
--
--   number-few, strip_few, entry_at     == the numbers that the code reckons with: small, and the entry of the piece at hand
--   at_piece                            == the piece at hand, whose parts are lowered
--   piece_step, standing-last           == one piece more; all pieces that begin at a y line
--   standing-none, standing-high, standing_down, standing-all
--                                       == a strip: none of its pieces, those of fewer than three rows, the next y line down, all of them
--   lowering_first, lowering_down, lowering_last, lowering_all
--                                       == the table: strips of fewer than three columns, the next x line down, all strips of a line, all of them
use Prim.Native.Nat.{ℕ, ◌+◌, ◌*◌, ◌-◌, ◌≤◌, ◌<◌}
use mathlib.Core.Path.{◌≡◌, ap, ap₂, sym, ◌∙◌, subst}
use mathlib.Core.Logic.{◌⊎◌, inl, inr}
use mathlib.Core.List.{List}
use native.Mathlib.Omega.{arith}
use native.Mathlib.Nat.{mul_comm, mul-le-mul}
use lib.ListN.{get_or}
use Rattle.sum.proofs.Sum.{le-or}
use Rattle.outline.specs.Grid.{Grid}
use Rattle.outline.specs.declared.Line.{Line}
use Rattle.rule.specs.declared.Rule.{Rule}
use Rattle.piece.specs.declared.Mode.TheVariants.{Straight, Pinwheel}
use Rattle.piece.specs.Piece.{Piece, box}
use Rattle.piece.specs.Meant.{meant}
use Rattle.piece.specs.Cuts.{cost}
use Rattle.table.specs.Entry.{Valid, pair_count, pair_no, entry_of, entry_count}
use Rattle.table.specs.Fill.{Beyond}
use Rattle.table.proofs.Entry.{entry-same, entry-made, entry-below, pair-below, count-closed, count_most}
use Rattle.table.proofs.Pairs.{Dec-eq, row-most}
use Rattle.verdict.specs.declared.Plan.{Plan}
use Rattle.verdict.specs.declared.Numbered.{Numbered}
use Rattle.verdict.specs.Memory.{Known, Costed}
use Rattle.lowering.specs.Lowering.{Sized, Between, Begun, Raised, LeastTurn, Turns, Lowering, Standing, AtPiece, Priced}
use Rattle.lowering.proofs.Costs.{few-lowered}

-- at most fifteen pairs of y lines
pub number-few : (rows b d n : ℕ) → rows ≤ 5 → b < d → d ≤ rows → n ≡ pair_no rows b d → n < 16
number-few rows b d n h bd dy e =
    omega (
      arith,
      e,
      pair-below rows b d bd dy,
      count-closed rows,
      mul-le-mul {n₁ = rows} {m₁ = rows + 1} {n₂ = 5} {m₂ = 6} h (omega arith),
    )

pub strip_few : (pairs rows u : ℕ) → rows ≤ 5 → pairs ≡ pair_count rows → u ≤ 240 → pairs * u ≤ 54000
strip_few pairs rows u h e k = omega (arith, mul_comm pairs u, row-most u pairs k (omega (arith, e, count_most rows (omega arith))))

pub entry_at : (columns rows a c b d pairs u n : ℕ) → pairs ≡ pair_count rows → u ≡ pair_no columns a c → n ≡ pair_no rows b d
    → pairs * u + n ≡ entry_of columns rows (box a c b d)
entry_at columns rows a c b d pairs u n e x y =
    ap₂ ◌+◌ (mul_comm pairs u ∙ ap₂ ◌*◌ x e) y ∙ sym (entry-made columns rows a c b d)

module _ (g : Grid) (r : Rule) (cells : List ℕ) (plan : Plan) where
  -- one entry more has its cost by pinwheels
  module _ (t u : List ℕ) (p : Numbered) (z : Known plan p) (w : Priced g r p t u) where
    same_piece : (q : Piece) → Valid plan.columns plan.rows q → entry_of plan.columns plan.rows q ≡ p.entry
        → get_or u (entry_of plan.columns plan.rows q) 0 ≡ cost Pinwheel g r q
    same_piece q v e =
        ap (λ i. get_or u i 0) e
        ∙ w.made
        ∙ ap (cost Pinwheel g r) (sym (entry-same plan.columns plan.rows q (meant p.piece) v z.valid (e ∙ z.entry)))

    priced-at : (q : Piece) → Valid plan.columns plan.rows q
        → ((entry_of plan.columns plan.rows q ≡ p.entry → ⊥) → get_or t (entry_of plan.columns plan.rows q) 0 ≡ cost Pinwheel g r q)
        → get_or u (entry_of plan.columns plan.rows q) 0 ≡ cost Pinwheel g r q
    priced-at q v old = elim (Dec-eq (entry_of plan.columns plan.rows q) p.entry) [
      | inl e ↦ same_piece q v e
      | inr e ↦ w.kept (entry_of plan.columns plan.rows q) e ∙ old e
    ]

    between_next : Between g r t cells plan → Between g r u cells plan
    between_next s = record {
      sound = s.sound;
      weight = s.weight;
      sized = s.sized;
      columns = s.columns;
      rows = s.rows;
      pairs = s.pairs;
      cells-length = s.cells-length;
      cell-at = s.cell-at;
      entries = omega (arith, s.entries, w.long);
      either = either;
    }
      where
        either : (q : Piece) → Valid plan.columns plan.rows q
            → (get_or u (entry_of plan.columns plan.rows q) 0 ≡ cost Straight g r q) ⊎ (get_or u (entry_of plan.columns plan.rows q) 0 ≡ cost Pinwheel g r q)
        either q v = elim (Dec-eq (entry_of plan.columns plan.rows q) p.entry) [
          | inl e ↦ inr (same_piece q v e)
          | inr e ↦ elim (s.either q v) [
            | inl y ↦ inl (w.kept (entry_of plan.columns plan.rows q) e ∙ y)
            | inr y ↦ inr (w.kept (entry_of plan.columns plan.rows q) e ∙ y)
          ]
        ]

    begun-next : (a c : ℕ) → Begun g r t plan a c → Begun g r u plan a c
    begun-next a c s = record { done = λ q v o. priced-at q v (λ n. s.done q v o) }

    beyond-next : Beyond (entry_count plan.columns plan.rows) t u
    beyond-next = record {
      long = w.long;
      kept = λ k h. w.kept k (λ e. omega (arith, z.entry, entry-below _ _ (meant p.piece) z.valid));
    }

    raised-next : Raised g r t plan p.piece.a.0 p.piece.c.0 p.piece.b.0 p.piece.d.0
        → Raised g r u plan p.piece.a.0 p.piece.c.0 p.piece.b.0 (p.piece.d.0 + 1)
    raised-next s = record { done = λ q v x y o. priced-at q v (λ n. s.done q v x y (go q x y n o)) }
      where
        go : (q : Piece) → q.a ≡ p.piece.a.0 → q.c ≡ p.piece.c.0 → (entry_of plan.columns plan.rows q ≡ p.entry → ⊥)
            → (p.piece.b.0 < q.b) ⊎ ((q.b ≡ p.piece.b.0) × (q.d < p.piece.d.0 + 1))
            → (p.piece.b.0 < q.b) ⊎ ((q.b ≡ p.piece.b.0) × (q.d < p.piece.d.0))
        go q x y n (inl h) = inl h
        go q x y n (inr h) = elim (le-or p.piece.d.0 q.d) [
          | inr k ↦ inr (h.0, k)
          | inl k ↦
              (let e : q.d ≡ p.piece.d.0 = omega (arith, h.1) in
              let f : q ≡ meant p.piece = λ i. record { a = x i; c = y i; b = h.0 i; d = e i } in
              absurd (n (ap (entry_of plan.columns plan.rows) f ∙ sym z.entry)))
        ]

  module _ (t best : List ℕ) where
    pub at_piece : (a c b d : Line) (n v : ℕ) → Standing g r t cells best plan a.0 c.0 b.0 d.0
        → a.0 < c.0 → c.0 ≤ plan.columns → b.0 < d.0 → d.0 ≤ plan.rows
        → n ≡ entry_of plan.columns plan.rows (box a.0 c.0 b.0 d.0) → v ≡ get_or best (pair_no plan.rows b.0 d.0) 0
        → AtPiece g r t cells plan (record { piece = record { a = a; c = c; b = b; d = d }; entry = n }) v
    at_piece a c b d n v s ac cx bd dy e f = record {
      between = s.between;
      known = record { valid = record { ac = ac; cx = cx; bd = bd; dy = dy }; entry = e };
      begun = s.begun;
      raised = s.raised;
      least = subst (LeastTurn g r (box a.0 c.0 b.0 d.0)) (sym f) (s.turns.least b.0 d.0 bd dy);
    }

    standing-next : (a c b d : Line) (n : ℕ) (u : List ℕ) → Standing g r t cells best plan a.0 c.0 b.0 d.0
        → Known plan (record { piece = record { a = a; c = c; b = b; d = d }; entry = n })
        → Priced g r (record { piece = record { a = a; c = c; b = b; d = d }; entry = n }) t u
        → Standing g r u cells best plan a.0 c.0 b.0 (d.0 + 1)
    standing-next a c b d n u s z w = record {
      between = between_next t u _ z w s.between;
      begun = begun-next t u _ z w a.0 c.0 s.begun;
      turns = s.turns;
      raised = raised-next t u _ z w s.raised;
    }

    -- what the call of a piece told
    pub piece_step : (a c b d : Line) (n v : ℕ) (u : List ℕ)
        → a.0 < c.0 → c.0 ≤ plan.columns → b.0 < d.0 → d.0 ≤ plan.rows
        → n ≡ entry_of plan.columns plan.rows (box a.0 c.0 b.0 d.0) → v ≡ get_or best (pair_no plan.rows b.0 d.0) 0
        → (AtPiece g r t cells plan (record { piece = record { a = a; c = c; b = b; d = d }; entry = n }) v
        → Priced g r (record { piece = record { a = a; c = c; b = b; d = d }; entry = n }) t u)
        → Standing g r t cells best plan a.0 c.0 b.0 d.0
        → Standing g r u cells best plan a.0 c.0 b.0 (d.0 + 1) × Beyond (entry_count plan.columns plan.rows) t u
    piece_step a c b d n v u ac cx bd dy e f told s =
        let h = at_piece a c b d n v s ac cx bd dy e f in
        (standing-next a c b d n u s h.known (told h), beyond-next t u _ h.known (told h))

    pub standing-last : (a c b d e : ℕ) → d ≡ e → Standing g r t cells best plan a c b d → Standing g r t cells best plan a c b e
    standing-last a c b d e z s = subst (Standing g r t cells best plan a c b) z s

    module _ (a c : ℕ) where
      pub standing-none : Lowering g r t cells plan a c → Turns g r best plan a c → Standing g r t cells best plan a c plan.rows (plan.rows + 1)
      standing-none s z = record {
        between = s.between;
        begun = s.begun;
        turns = z;
        raised = record { done = λ q v x y o. absurd (go q v o) };
      }
        where
          go : (q : Piece) → Valid plan.columns plan.rows q → (plan.rows < q.b) ⊎ ((q.b ≡ plan.rows) × (q.d < plan.rows + 1)) → ⊥
          go q v (inl h) = omega (arith, v.bd, v.dy)
          go q v (inr h) = omega (arith, v.bd, v.dy, h.0)

      -- what begins two lines below the last has no pinwheel
      pub standing-high : Standing g r t cells best plan a c plan.rows (plan.rows + 1) → Standing g r t cells best plan a c (plan.rows - 2) (plan.rows + 1)
      standing-high s = record {
        between = s.between;
        begun = s.begun;
        turns = s.turns;
        raised = record { done = λ q v x y o. few-lowered g r t cells plan s.between q v (inr (go q v o)) };
      }
        where
          go : (q : Piece) → Valid plan.columns plan.rows q → (plan.rows - 2 < q.b) ⊎ ((q.b ≡ plan.rows - 2) × (q.d < plan.rows + 1)) → q.d ≤ q.b + 2
          go q v (inl h) = omega (arith, v.dy)
          go q v (inr h) = omega (arith, v.dy, h.0)

      pub standing_down : (b : ℕ) → 0 < b → Standing g r t cells best plan a c b (plan.rows + 1) → Standing g r t cells best plan a c (b - 1) (b - 1 + 3)
      standing_down b h s = record {
        between = s.between;
        begun = s.begun;
        turns = s.turns;
        raised = record { done = go };
      }
        where
          go : (q : Piece) → Valid plan.columns plan.rows q → q.a ≡ a → q.c ≡ c → (b - 1 < q.b) ⊎ ((q.b ≡ b - 1) × (q.d < b - 1 + 3))
              → get_or t (entry_of plan.columns plan.rows q) 0 ≡ cost Pinwheel g r q
          go q v x y (inl k) = s.raised.done q v x y (elim (le-or q.b b) [
            | inl z ↦ inr (omega arith, omega (arith, v.dy))
            | inr z ↦ inl z
          ])
          go q v x y (inr k) = few-lowered g r t cells plan s.between q v (inr (omega (arith, k.0, k.1)))

      pub standing-all : (b : ℕ) → b ≤ 0 → Standing g r t cells best plan a c b (plan.rows + 1) → Lowering g r t cells plan a (c + 1)
      standing-all b h s = record { between = s.between; begun = record { done = go } }
        where
          go : (q : Piece) → Valid plan.columns plan.rows q → (a < q.a) ⊎ ((q.a ≡ a) × (q.c < c + 1))
              → get_or t (entry_of plan.columns plan.rows q) 0 ≡ cost Pinwheel g r q
          go q v (inl k) = s.begun.done q v (inl k)
          go q v (inr k) = elim (le-or c q.c) [
            | inr z ↦ s.begun.done q v (inr (k.0, z))
            | inl z ↦
                s.raised.done q v k.0 (omega (arith, k.1)) (elim (le-or q.b b) [
                  | inl y ↦ inr (omega arith, omega (arith, v.dy))
                  | inr y ↦ inl y
                ])
          ]

  module _ (t : List ℕ) where
    pub lowering_first : Costed Straight g r t cells plan → Sized plan → Lowering g r t cells plan (plan.columns - 2) (plan.columns + 1)
    lowering_first s z = record { between = between; begun = record { done = λ q v o. few-lowered g r t cells plan between q v (inl (go q v o)) } }
      where
        between : Between g r t cells plan
        between = record {
          sound = s.sound;
          weight = s.weight;
          sized = z;
          columns = s.columns;
          rows = s.rows;
          pairs = s.pairs;
          cells-length = s.cells-length;
          cell-at = s.cell-at;
          entries = s.entries;
          either = λ q v. inl (s.cost-at q v);
        }

        go : (q : Piece) → Valid plan.columns plan.rows q → (plan.columns - 2 < q.a) ⊎ ((q.a ≡ plan.columns - 2) × (q.c < plan.columns + 1)) → q.c ≤ q.a + 2
        go q v (inl h) = omega (arith, v.cx)
        go q v (inr h) = omega (arith, v.cx, h.0)

    pub lowering_down : (a : ℕ) → 0 < a → Lowering g r t cells plan a (plan.columns + 1) → Lowering g r t cells plan (a - 1) (a - 1 + 3)
    lowering_down a h s = record { between = s.between; begun = record { done = go } }
      where
        go : (q : Piece) → Valid plan.columns plan.rows q → (a - 1 < q.a) ⊎ ((q.a ≡ a - 1) × (q.c < a - 1 + 3))
            → get_or t (entry_of plan.columns plan.rows q) 0 ≡ cost Pinwheel g r q
        go q v (inl k) = s.begun.done q v (elim (le-or q.a a) [
          | inl z ↦ inr (omega arith, omega (arith, v.cx))
          | inr z ↦ inl z
        ])
        go q v (inr k) = few-lowered g r t cells plan s.between q v (inl (omega (arith, k.0, k.1)))

    pub lowering_last : (a c e : ℕ) → c ≡ e → Lowering g r t cells plan a c → Lowering g r t cells plan a e
    lowering_last a c e z s = subst (Lowering g r t cells plan a) z s

    pub lowering_all : (a : ℕ) → a ≤ 0 → Lowering g r t cells plan a (plan.columns + 1) → Costed Pinwheel g r t cells plan
    lowering_all a h s =
        let k = s.between in
        record {
          sound = k.sound;
          weight = k.weight;
          columns = k.columns;
          rows = k.rows;
          pairs = k.pairs;
          cells-length = k.cells-length;
          cell-at = k.cell-at;
          entries = k.entries;
          cost-at = λ q v. s.begun.done q v (elim (le-or q.a a) [
            | inl z ↦ inr (omega arith, omega (arith, v.cx))
            | inr z ↦ inl z
          ]);
        }
