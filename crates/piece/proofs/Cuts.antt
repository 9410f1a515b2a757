-- Straight cuts and pinwheels: the recurrence of costs and shots, cover at cells, and that no cutting is cheaper, once for both modes.
-- Assumes nothing.
--
-- The cuts of a piece
--   cuts-all, cuts-at, cut_member        == what holds of each cut in the scope's words (CutOf) holds of each of the list, and back
--   straight-only                        == the straight-cut mode has no pinwheels
--   sum_wheel, sum_cuts                  == a cut shares out sums over cells
--   Part, part-within, parts-part        == the parts of a cut lie within the piece, between rising lines
--   cuts-some, ends                      == a piece of two cells has a cut; the recurrence ends
-- The recurrence
--   shots_solve, shots-only              == the shots of all pieces solve the recurrence, and nothing else does
--   shots-outside, shots-full            == no shot; the piece itself
--   cost-outside, cost-full, cost-zero   == 0 outside; the charge where full; where it is 0 the piece is outside
--   cost-cuts                            == a mixed piece costs at most what the parts of a cut cost ..
--   cost-one, cost-settled               == .. and what the parts of one of them cost: so the least of those is the cost
--   across_vertical, across_horizontal   == what the parts of a straight cut cost
-- Shots
--   shots-part, shots-all-full           == a shot lies within its piece, between rising lines, and is full
--   cover, cell_once                     == the shots have together what the inside cells have; each inside cell is in one shot
-- Cuttings
--   fair                                 == no cut of a piece that is not full leads to parts that cost less together
--   no_cheaper, attained                 == no cutting has a lower price than the cost; one has these very shots
-- Two modes
--   not-above                            == no piece costs more with pinwheels than by straight cuts alone
use Prim.Native.Nat.{ℕ, zero, suc, ◌+◌, ◌-◌, ◌≤◌, ◌<◌}
use mathlib.Core.Path.{◌≡◌, refl, sym, ◌∙◌, ap, subst}
use mathlib.Core.List.{List, [], ◌∷◌, ◌++◌, map, Memᴰ as Member}
use mathlib.Core.Logic.{inl, inr}
use native.Mathlib.Omega.{arith}
use Rattle.sum.specs.Sum.{only, sum_of, All, Some, join}
use Rattle.sum.proofs.Sum.{le-or}
use Rattle.sum.proofs.Lists.{All-all, All-imp, All-append, All-map, All-at, All-join, Some-map, Some-left, Some-right}
use Rattle.recurrence.specs.Scheme.{Kind, outside, full, mixed, Solves, Ends}
use Rattle.recurrence.specs.Cutting.{Cutting, shots_in, price}
use Rattle.recurrence.proofs.Scheme as by-scheme
use Rattle.recurrence.proofs.Cutting as cutting
use Rattle.outline.specs.Grid.{Grid}
use Rattle.rule.specs.declared.Rule.{Rule}
use Rattle.rule.proofs.Charge.{charge-least}
use Rattle.piece.specs.declared.Mode.{Mode}
use Rattle.piece.specs.declared.Mode.TheVariants.{Straight, Pinwheel}
use Rattle.piece.specs.declared.Turn.{Turn}
use Rattle.piece.specs.declared.Turn.TheVariants.{First, Second}
use Rattle.piece.specs.Piece.{Piece, box, left_part, right_part, lower_part, upper_part, holds, cell_sum, cells, inside_cells, kind, sliver, charge}
use Rattle.piece.specs.Cuts.{turns, Cut, vertical, horizontal, wheel, run, between, straight_cuts, wheels, cuts, parts, Inner, CutOf, scheme, shots, cost}
use Rattle.piece.proofs.Cells.{sum_vertical, sum_horizontal, cells-some, cells-short, cells-a, cells-b}
use Rattle.piece.proofs.Kind.{mixed-count, full-count, inside-most, kind-outside}
use Rattle.piece.proofs.Cover as cover-by
use Rattle.piece.proofs.Order.{run-all}

-- The cuts of a piece

run-some : (k n : ℕ) → 0 < n → Some (run k n)
unfolding run
run-some k zero h = omega arith
run-some k (suc n) h = tt

between-all : (Q : ℕ → Type 0) (a c : ℕ) → ((j : ℕ) → a < j → j < c → Q j) → All Q (between a c)
unfolding between
between-all Q a c h = run-all Q (suc a) (c - suc a) (λ j q r. h j q (omega arith))

wheels-all : (Q : Cut → Type 0) (t : Turn) (p : Piece) → ((j l k m : ℕ) → Inner p j l k m → Q (wheel t j l k m)) → All Q (wheels t p)
unfolding wheels
wheels-all Q t p h =
    All-join Q _ (between p.a p.c)
    (between-all _ p.a p.c
    (λ j aj jc.
    All-join Q _ (between j p.c)
    (between-all _ j p.c
    (λ l jl lc.
    All-join Q _ (between p.b p.d)
    (between-all _ p.b p.d
    (λ k bk kd.
    All-map Q (λ m. wheel t j l k m) (between k p.d)
    (between-all _ k p.d (λ m km md. h j l k m (record { aj = aj; jl = jl; lc = lc; bk = bk; km = km; md = md })))))))))

straight-all : (mode : Mode) (Q : Cut → Type 0) (p : Piece) → ((k : Cut) → CutOf mode p k → Q k) → All Q (straight_cuts p)
unfolding straight_cuts
straight-all mode Q p h =
    All-append Q (map vertical (between p.a p.c)) (map horizontal (between p.b p.d))
    (All-map Q vertical (between p.a p.c) (between-all _ p.a p.c (λ j q r. h (vertical j) (q, r))))
    (All-map Q horizontal (between p.b p.d) (between-all _ p.b p.d (λ j q r. h (horizontal j) (q, r))))

pub cuts-all : (mode : Mode) (Q : Cut → Type 0) (p : Piece) → ((k : Cut) → CutOf mode p k → Q k) → All Q (cuts mode p)
unfolding cuts
cuts-all Straight Q p h = straight-all Straight Q p h
cuts-all Pinwheel Q p h =
    All-append Q (straight_cuts p) (join (λ t. wheels t p) turns) (straight-all Pinwheel Q p h)
    (All-join Q (λ t. wheels t p) turns (All-all (λ t. wheels-all Q t p (λ j l k m w. h (wheel t j l k m) (refl, w))) turns))

member_run : (k n r : ℕ) → k ≤ r → r < k + n → Member r (run k n)
unfolding run
member_run k zero r h q = absurd (omega arith)
member_run k (suc n) r h q = elim (le-or r k) [
  | inl w ↦ (let e : r ≡ k = omega arith in Member.head e)
  | inr w ↦ Member.tail (member_run (suc k) n r w (omega arith))
]

member_between : (a c r : ℕ) → a < r → r < c → Member r (between a c)
unfolding between
member_between a c r h q = member_run (suc a) (c - suc a) r h (omega arith)

module _ {A : Type 0} where
  member_left : {s : A} (l m : List A) → Member s l → Member s (l ++ m)
  member_left {s = s} [] m x' = elim x' [ ]
  member_left (x ∷ l) m (Member.head e) = Member.head e
  member_left (x ∷ l) m (Member.tail h) = Member.tail (member_left l m h)

  member_right : {s : A} (l m : List A) → Member s m → Member s (l ++ m)
  member_right [] m h = h
  member_right (x ∷ l) m h = Member.tail (member_right l m h)

module _ {A B : Type 0} where
  member_map : (f : A → B) {s : A} (l : List A) → Member s l → Member (f s) (map f l)
  member_map f {s = s} [] x' = elim x' [ ]
  member_map f (x ∷ l) (Member.head e) = Member.head (ap f e)
  member_map f (x ∷ l) (Member.tail h) = Member.tail (member_map f l h)

  member_join : (f : A → List B) {s : A} {b : B} (l : List A) → Member s l → Member b (f s) → Member b (join f l)
  unfolding join
  member_join f {s = s} {b = b} [] x'' h = elim x'' [ ]
  member_join f {b = b} (x ∷ l) (Member.head e) h = member_left (f x) (join f l) (subst (λ y. Member b (f y)) e h)
  member_join f (x ∷ l) (Member.tail m) h = member_right (f x) (join f l) (member_join f l m h)

wheel_member : (t : Turn) (p : Piece) (j l k m : ℕ) → Inner p j l k m → Member (wheel t j l k m) (wheels t p)
unfolding wheels
wheel_member t p j l k m w =
    member_join _ (between p.a p.c) (member_between p.a p.c j w.aj (omega (arith, w)))
    (member_join _ (between j p.c) (member_between j p.c l w.jl w.lc)
    (member_join _ (between p.b p.d) (member_between p.b p.d k w.bk (omega (arith, w)))
    (member_map (λ m. wheel t j l k m) (between k p.d) (member_between k p.d m w.km w.md))))

turn_member : (t : Turn) → Member t turns
unfolding turns
turn_member First = Member.head refl
turn_member Second = Member.tail (Member.head refl)

straight_member : (mode : Mode) (p : Piece) (k : Cut) → Member k (straight_cuts p) → Member k (cuts mode p)
unfolding cuts
straight_member Straight p k h = h
straight_member Pinwheel p k h = member_left (straight_cuts p) (join (λ t. wheels t p) turns) h

pub cut_member : (mode : Mode) (p : Piece) (k : Cut) → CutOf mode p k → Member k (cuts mode p)
unfolding straight_cuts cuts
cut_member mode p (vertical j) h =
    straight_member mode p (vertical j)
    (member_left (map vertical (between p.a p.c)) (map horizontal (between p.b p.d))
    (member_map vertical (between p.a p.c) (member_between p.a p.c j h.0 h.1)))
cut_member mode p (horizontal j) h =
    straight_member mode p (horizontal j)
    (member_right (map vertical (between p.a p.c)) (map horizontal (between p.b p.d))
    (member_map horizontal (between p.b p.d) (member_between p.b p.d j h.0 h.1)))
cut_member mode p (wheel t j l k m) h =
    subst (λ (n : Mode). Member (wheel t j l k m) (cuts n p)) (sym h.0)
    (member_right (straight_cuts p) (join (λ t. wheels t p) turns) (member_join (λ t. wheels t p) turns (turn_member t) (wheel_member t p j l k m h.1)))

pub cuts-at : (mode : Mode) (Q : Cut → Type 0) (p : Piece) → All Q (cuts mode p) → (k : Cut) → CutOf mode p k → Q k
cuts-at mode Q p h k w = All-at Q (cut_member mode p k w) h

pub straight-only : Straight ≡ Pinwheel → ⊥
straight-only e = let z : ◌≡◌ {A = ℕ} 0 1 = ap (λ (m : Mode). elim m [ Straight ↦ 0 | Pinwheel ↦ 1 ]) e in omega arith

-- a pinwheel is made by four straight cuts, so it shares out what they share out
pub sum_wheel : (f : ℕ → ℕ → ℕ) (p : Piece) (t : Turn) (j l k m : ℕ) → Inner p j l k m → cell_sum f p ≡ sum_of (cell_sum f) (parts p (wheel t j l k m))
unfolding sum_of parts
sum_wheel f p First j l k m w =
    omega (
      arith,
      w,
      sum_horizontal f p k (omega (arith, w)) (omega (arith, w)),
      sum_vertical f (box p.a p.c p.b k) l (omega (arith, w)) (omega (arith, w)),
      sum_vertical f (box p.a p.c k p.d) j (omega (arith, w)) (omega (arith, w)),
      sum_horizontal f (box j p.c k p.d) m (omega (arith, w)) (omega (arith, w)),
      sum_vertical f (box j p.c k m) l (omega (arith, w)) (omega (arith, w)),
      sum_horizontal f (box l p.c p.b m) k (omega (arith, w)) (omega (arith, w)),
    )
sum_wheel f p Second j l k m w =
    omega (
      arith,
      w,
      sum_horizontal f p m (omega (arith, w)) (omega (arith, w)),
      sum_vertical f (box p.a p.c m p.d) l (omega (arith, w)) (omega (arith, w)),
      sum_vertical f (box p.a p.c p.b m) j (omega (arith, w)) (omega (arith, w)),
      sum_horizontal f (box j p.c p.b m) k (omega (arith, w)) (omega (arith, w)),
      sum_vertical f (box j p.c k m) l (omega (arith, w)) (omega (arith, w)),
      sum_horizontal f (box l p.c k p.d) m (omega (arith, w)) (omega (arith, w)),
    )

-- a sum over cells is shared out by each cut
pub sum_cuts : (mode : Mode) (f : ℕ → ℕ → ℕ) (p : Piece) → All (λ k. cell_sum f p ≡ sum_of (cell_sum f) (parts p k)) (cuts mode p)
sum_cuts mode f p = cuts-all mode _ p shares
  where
    shares : (k : Cut) → CutOf mode p k → cell_sum f p ≡ sum_of (cell_sum f) (parts p k)
    shares (vertical j) h = unfold parts sum_of in omega (arith, sum_vertical f p j (omega (arith, h.0)) (omega (arith, h.1)))
    shares (horizontal j) h = unfold parts sum_of in omega (arith, sum_horizontal f p j (omega (arith, h.0)) (omega (arith, h.1)))
    shares (wheel t j l k m) h = sum_wheel f p t j l k m h.1

-- the piece s lies within the piece p, between rising lines
pub record Part (s p : Piece) : Type 0 where
  pub a : p.a ≤ s.a
  pub ac : s.a < s.c
  pub c : s.c ≤ p.c
  pub b : p.b ≤ s.b
  pub bd : s.b < s.d
  pub d : s.d ≤ p.d

part-within : (s q p : Piece) → Part q p → Part s q → Part s p
part-within s q p v w = record {
  a = omega (arith, v.a, w.a);
  ac = w.ac;
  c = omega (arith, v.c, w.c);
  b = omega (arith, v.b, w.b);
  bd = w.bd;
  d = omega (arith, v.d, w.d);
}

part : (p : Piece) (a c b d : ℕ) → p.a ≤ a → a < c → c ≤ p.c → p.b ≤ b → b < d → d ≤ p.d → Part (box a c b d) p
part p a c b d ha hac hc hb hbd hd = record { a = ha; ac = hac; c = hc; b = hb; bd = hbd; d = hd }

wheel-part : (p : Piece) (t : Turn) (j l k m : ℕ) → p.a < j → j < l → l < p.c → p.b < k → k < m → m < p.d
    → All (λ q. Part q p) (parts p (wheel t j l k m))
unfolding parts
wheel-part p First j l k m aj jl lc bk km md = (
  part p p.a l p.b k (omega arith) (omega arith) (omega arith) (omega arith) bk (omega arith),
  (
    part p l p.c p.b m (omega arith) lc (omega arith) (omega arith) (omega arith) (omega arith),
    (
      part p p.a j k p.d (omega arith) aj (omega arith) (omega arith) (omega arith) (omega arith),
      (
        part p j p.c m p.d (omega arith) (omega arith) (omega arith) (omega arith) md (omega arith),
        (part p j l k m (omega arith) jl (omega arith) (omega arith) km (omega arith), tt),
      ),
    ),
  ),
)
wheel-part p Second j l k m aj jl lc bk km md = (
  part p p.a j p.b m (omega arith) aj (omega arith) (omega arith) (omega arith) (omega arith),
  (
    part p j p.c p.b k (omega arith) (omega arith) (omega arith) (omega arith) bk (omega arith),
    (
      part p p.a l m p.d (omega arith) (omega arith) (omega arith) (omega arith) md (omega arith),
      (
        part p l p.c k p.d (omega arith) lc (omega arith) (omega arith) (omega arith) (omega arith),
        (part p j l k m (omega arith) jl (omega arith) (omega arith) km (omega arith), tt),
      ),
    ),
  ),
)

-- every part of a cut of a piece lies within the piece
pub parts-part : (mode : Mode) (p : Piece) → p.a < p.c → p.b < p.d → All (λ k. All (λ q. Part q p) (parts p k)) (cuts mode p)
parts-part mode p ac bd = cuts-all mode _ p each
  where
    each : (k : Cut) → CutOf mode p k → All (λ q. Part q p) (parts p k)
    each (vertical j) h =
        unfold parts in (
          part p p.a j p.b p.d (omega arith) h.0 (omega (arith, h.1)) (omega arith) bd (omega arith),
          (part p j p.c p.b p.d (omega (arith, h.0)) h.1 (omega arith) (omega arith) bd (omega arith), tt),
        )
    each (horizontal j) h =
        unfold parts in (
          part p p.a p.c p.b j (omega arith) ac (omega arith) (omega arith) h.0 (omega (arith, h.1)),
          (part p p.a p.c j p.d (omega arith) ac (omega arith) (omega (arith, h.0)) h.1 (omega arith), tt),
        )
    each (wheel t j l k m) h =
        let w = h.1 in
        wheel-part p t j l k m w.aj w.jl w.lc w.bk w.km w.md

straight-some : (p : Piece) → 1 < cells p → Some (straight_cuts p)
unfolding straight_cuts between
straight-some p h =
    let vs = between p.a p.c in
    let hs = between p.b p.d in
    elim (le-or p.c (suc p.a)) [
      | inr q ↦ Some-left (map vertical vs) (map horizontal hs) (Some-map vertical vs (run-some _ _ (omega arith)))
      | inl q ↦ elim (le-or p.d (suc p.b)) [
        | inr r ↦ Some-right (map vertical vs) (map horizontal hs) (Some-map horizontal hs (run-some _ _ (omega arith)))
        | inl r ↦ absurd (omega (arith, cells-short p q r))
      ]
    ]

cuts-some : (mode : Mode) (p : Piece) → 1 < cells p → Some (cuts mode p)
unfolding cuts
cuts-some Straight p h = straight-some p h
cuts-some Pinwheel p h = Some-left (straight_cuts p) (join (λ t. wheels t p) turns) (straight-some p h)

-- of two or more positive summands each is below the sum
module _ {A : Type 0} (f : A → ℕ) where
  each_less : (n : ℕ) (l : List A) → All (λ s. 0 < f s) l → sum_of f l < n → All (λ s. f s < n) l
  unfolding sum_of
  each_less n [] h k = tt
  each_less n (s ∷ l) h k = (omega arith, each_less n l h.1 (omega (arith, h.0)))

  each_below : (s t : A) (l : List A) → All (λ s. 0 < f s) (s ∷ t ∷ l) → All (λ q. f q < sum_of f (s ∷ t ∷ l)) (s ∷ t ∷ l)
  unfolding sum_of
  each_below s t l h = (
    omega (arith, h.1.0),
    (omega (arith, h.0), each_less (f s + (f t + sum_of f l)) l h.1.1 (omega (arith, h.0))),
  )

two-below : (p s t : Piece) (l : List Piece) → All (λ q. Part q p) (s ∷ t ∷ l) → cells p ≡ sum_of cells (s ∷ t ∷ l) → All (λ q. cells q < cells p) (s ∷ t ∷ l)
two-below p s t l h e =
    subst (λ n. All (λ q. cells q < n) (s ∷ t ∷ l)) (sym e)
    (each_below cells s t l (All-imp {P = λ q. Part q p} (λ q w. cells-some q w.ac w.bd) (s ∷ t ∷ l) h))

-- every cut has two parts or more
parts_below : (p : Piece) (k : Cut) → All (λ q. Part q p) (parts p k) → cells p ≡ sum_of cells (parts p k) → All (λ q. cells q < cells p) (parts p k)
unfolding parts
parts_below p (vertical j) h e = two-below p (left_part p j) (right_part p j) [] h e
parts_below p (horizontal j) h e = two-below p (lower_part p j) (upper_part p j) [] h e
parts_below p (wheel First j l k m) h e =
    two-below p (box p.a l p.b k) (box l p.c p.b m) (box p.a j k p.d ∷ box j p.c m p.d ∷ box j l k m ∷ []) h e
parts_below p (wheel Second j l k m) h e =
    two-below p (box p.a j p.b m) (box j p.c p.b k) (box p.a l m p.d ∷ box l p.c k p.d ∷ box j l k m ∷ []) h e

-- The recurrence

module _ (mode : Mode) (g : Grid) (r : Rule) where
  pub ends : Ends (scheme mode g r) cells
  unfolding cells
  ends = record {
    smaller = λ p e.
        let n = mixed-count g p e in
        let ac : p.a < p.c = cells-a p (omega arith) in
        let bd : p.b < p.d = cells-b p (omega arith) in
        both p (cuts mode p) (parts-part mode p ac bd) (sum_cuts mode (λ i j. 1) p);
    some = λ p e. let n = mixed-count g p e in cuts-some mode p (omega arith);
  }
    where
      both : (p : Piece) (l : List Cut) → All (λ k. All (λ q. Part q p) (parts p k)) l → All (λ k. cells p ≡ sum_of cells (parts p k)) l
          → All (λ k. All (λ q. cells q < cells p) (parts p k)) l
      both p [] h e = tt
      both p (k ∷ l) h e = (parts_below p k h.0 e.0, both p l h.1 e.1)

  -- the shots of a grid solve the recurrence, and nothing else does
  pub shots_solve : Solves (scheme mode g r) (shots mode g r)
  unfolding shots
  shots_solve = by-scheme.solution (scheme mode g r) cells ends

  pub shots-only : (f : Piece → List Piece) → Solves (scheme mode g r) f → (p : Piece) → f p ≡ shots mode g r p
  shots-only f F p = by-scheme.solution_only (scheme mode g r) cells ends f (shots mode g r) F shots_solve p

  pub shots-outside : (p : Piece) → kind g p ≡ outside → shots mode g r p ≡ []
  unfolding shots
  shots-outside p e = by-scheme.shots-outside (scheme mode g r) cells ends p e

  pub shots-full : (p : Piece) → kind g p ≡ full → shots mode g r p ≡ p ∷ []
  unfolding shots
  shots-full p e = by-scheme.shots-full (scheme mode g r) cells ends p e

  pub cost-outside : (p : Piece) → kind g p ≡ outside → cost mode g r p ≡ 0
  unfolding cost shots
  cost-outside p e = by-scheme.cost-outside (scheme mode g r) cells ends p e

  pub cost-full : (p : Piece) → kind g p ≡ full → cost mode g r p ≡ charge g r p
  unfolding cost shots
  cost-full p e = by-scheme.cost-full (scheme mode g r) cells ends p e

  pub cost-cuts : (p : Piece) → kind g p ≡ mixed → All (λ k. cost mode g r p ≤ sum_of (cost mode g r) (parts p k)) (cuts mode p)
  unfolding cost shots
  cost-cuts p e = by-scheme.cost-mixed (scheme mode g r) cells ends p e

  -- what all cuts' parts have, the cost has
  pub cost-one : (Q : ℕ → Type 0) (p : Piece) → kind g p ≡ mixed → All (λ k. Q (sum_of (cost mode g r) (parts p k))) (cuts mode p) → Q (cost mode g r p)
  unfolding cost shots
  cost-one Q p e h = by-scheme.cost-one (scheme mode g r) cells ends Q p e h

  -- no less than the cost, and no more than what the parts of any cut cost: that is the cost
  pub cost-settled : (p : Piece) → kind g p ≡ mixed → (n : ℕ) → cost mode g r p ≤ n
      → All (λ k. n ≤ sum_of (cost mode g r) (parts p k)) (cuts mode p)
      → n ≡ cost mode g r p
  cost-settled p e n low h = omega (arith, cost-one (λ m. n ≤ m) p e h)

  -- what the parts of a cut cost
  pub across_vertical : (p : Piece) (j : ℕ) → sum_of (cost mode g r) (parts p (vertical j)) ≡ cost mode g r (left_part p j) + cost mode g r (right_part p j)
  unfolding parts sum_of
  across_vertical p j = omega arith

  pub across_horizontal : (p : Piece) (j : ℕ) → sum_of (cost mode g r) (parts p (horizontal j)) ≡ cost mode g r (lower_part p j) + cost mode g r (upper_part p j)
  unfolding parts sum_of
  across_horizontal p j = omega arith

  -- Shots

  pub shots-all-full : (p : Piece) → All (λ s. kind g s ≡ full) (shots mode g r p)
  unfolding shots
  shots-all-full p = by-scheme.shots-all-full (scheme mode g r) cells ends p

  pub shots-part : (p : Piece) → All (λ s. Part s p) (shots mode g r p)
  unfolding shots
  shots-part =
      by-scheme.along (scheme mode g r) cells ends (λ p l. All (λ s. Part s p) l)
      (λ p e. tt)
      (λ p e. (whole p e, tt))
      (λ p k e m h.
      let n = mixed-count g p e in
      let ac : p.a < p.c = cells-a p (omega arith) in
      let bd : p.b < p.d = cells-b p (omega arith) in
      All-join (λ s. Part s p) (shots mode g r) (parts p k)
      (inherit p (parts p k) (All-at (λ k. All (λ q. Part q p) (parts p k)) m (parts-part mode p ac bd)) h))
    where
      whole : (p : Piece) → kind g p ≡ full → Part p p
      whole p e =
          let f = full-count g p e in
          let i = inside-most g p in
          part p p.a p.c p.b p.d (omega arith) (cells-a p (omega arith)) (omega arith) (omega arith) (cells-b p (omega arith)) (omega arith)

      -- what lies within a part of the cut lies within the piece
      inherit : (p : Piece) (l : List Piece) → All (λ q. Part q p) l → All (λ q. All (λ s. Part s q) (shots mode g r q)) l
          → All (λ q. All (λ s. Part s p) (shots mode g r q)) l
      inherit p [] v h = tt
      inherit p (q ∷ l) v h =
          (All-imp {P = λ s. Part s q} {Q = λ s. Part s p} (λ s w. part-within s q p v.0 w) (shots mode g r q) h.0, inherit p l v.1 h.1)

  pub cover : (w : ℕ → ℕ → ℕ) (p : Piece) → sum_of (cell_sum w) (shots mode g r p) ≡ cell_sum (λ i j. only (g.inside i j) (w i j)) p
  unfolding shots
  cover w p = cover-by.cover g (charge g r) (cuts mode) parts ends (sum_cuts mode) w p

  pub cell_once : (p : Piece) (i j : ℕ) → sum_of (λ s. only (holds i j s) 1) (shots mode g r p) ≡ only (holds i j p) (only (g.inside i j) 1)
  unfolding shots
  cell_once p i j = cover-by.cell_once g (charge g r) (cuts mode) parts ends (sum_cuts mode) p i j

  -- a shot costs something, so what costs nothing has no shot, and no inside cell
  pub cost-zero : (p : Piece) → cost mode g r p ≡ 0 → kind g p ≡ outside
  unfolding cost inside_cells
  cost-zero p e = kind-outside g p (go (shots mode g r p) e (cover (λ i j. 1) p))
    where
      go : (l : List Piece) → sum_of (charge g r) l ≡ 0 → sum_of (cell_sum (λ i j. 1)) l ≡ inside_cells g p → inside_cells g p ≡ 0
      go [] h k = sym k ∙ (unfold sum_of in refl)
      go (s ∷ l) h k = absurd (unfold sum_of charge in omega (arith, charge-least r (sliver g r s)))

  -- Cuttings

  -- what is wholly inside is kept whole
  pub fair : (p : Piece) → (kind g p ≡ full → ⊥) → All (λ k. cost mode g r p ≤ sum_of (cost mode g r) (parts p k)) (cuts mode p)
  fair p keeps = go (kind g p) refl
    where
      go : (t : Kind) → kind g p ≡ t → All (λ k. cost mode g r p ≤ sum_of (cost mode g r) (parts p k)) (cuts mode p)
      go outside e = All-all (λ k. omega (arith, cost-outside p e)) (cuts mode p)
      go full e = absurd (keeps e)
      go mixed e = cost-cuts p e

  pub no_cheaper : (May : Piece → Type 0) → ((p : Piece) → May p → kind g p ≡ full → ⊥) → (p : Piece) (t : Cutting (scheme mode g r) May p)
      → cost mode g r p ≤ price (scheme mode g r) May t
  unfolding cost shots price
  no_cheaper May keeps p t = cutting.no_cheaper (scheme mode g r) cells ends May (λ q u. fair q (keeps q u)) t

  pub attained : (May : Piece → Type 0) → ((p : Piece) → kind g p ≡ mixed → May p)
      → (p : Piece) → (t : Cutting (scheme mode g r) May p) × (shots_in (scheme mode g r) May t ≡ shots mode g r p)
  unfolding shots
  attained May may p = cutting.attained (scheme mode g r) cells ends May may p

-- Two modes

more-cuts : (p : Piece) (k : Cut) → Member k (cuts Straight p) → Member k (cuts Pinwheel p)
unfolding cuts
more-cuts p k h = member_left (straight_cuts p) (join (λ t. wheels t p) turns) h

pub not-above : (g : Grid) (r : Rule) (p : Piece) → cost Pinwheel g r p ≤ cost Straight g r p
unfolding cost shots
not-above g r p =
    by-scheme.cost-no_higher (scheme Straight g r) (scheme Pinwheel g r) cells cells (ends Straight g r) (ends Pinwheel g r)
    (λ q. refl)
    (λ q. omega arith)
    (λ q k m. (k, more-cuts q k m, refl))
    p
