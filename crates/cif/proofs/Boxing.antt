-- Box lines: what stands at a place and nothing else does. Assumes nothing.
--
--   line-..          == the ways of reading a box line
--   box-..           == the ways of reading the box of a shot
--   box-one          == no two shots have their boxes at one place
--   box-not-finish   == where `DF;` stands there is no box
--   boxes-one        == as many boxes as there are at a place: no other shots have theirs there
--   walked-..        == the loop over boxes
--   between-even     == the ends of a doubled side about a doubled centre
use Prim.Native.Nat.{ℕ, ◌+◌, ◌-◌, ◌*◌, ◌/◌, ◌%◌, ◌<◌, ◌≤◌}
use mathlib.Core.Path.{◌≡◌, ◌∙◌, refl, sym, ap, ap₂, subst}
use mathlib.Core.Logic.{inr}
use mathlib.Core.List.{List, [], ◌∷◌, ◌++◌, append_assoc, append-nil}
use native.Mathlib.Omega.{arith}
use lib.ListN.{length, length-append}
use Rattle.sum.specs.Sum.{join, All}
use Rattle.sum.proofs.Lists.{All-append, join-append}
use Rattle.shot.specs.Shot.{Shot}
use Rattle.shot.specs.Bad.{shot_of}
use Rattle.number.proofs.Bytes.{stands-first, stands-room, stands-join, stands-front, stands-back}
use Rattle.cif.specs.Text.{decimal, field, box_of, doubled_side, doubled_centre, box_line, finish, Fit}
use Rattle.cif.specs.Faults.{Stands, NoBox}
use Rattle.cif.specs.Steps.{Apart, NoDigit, Found, Two, Four, Small, Same, Between, BoxAt, Boxes, BoxesTold}
use Rattle.cif.proofs.Numerals.{stands-within, number-only, spaced_found, two-found}

-- a box line

-- what stands between `B` and the end of the line
rest_of : ℕ → ℕ → List ℕ
rest_of x y = field x ++ (field y ++ (59 ∷ 10 ∷ []))

rest-apart : (x y : ℕ) → Apart (rest_of x y)
unfolding Apart rest_of
rest-apart x y = (omega arith, λ d h e. omega arith)

close_apart : Apart (59 ∷ 10 ∷ [])
unfolding Apart
close_apart = (omega arith, λ d h e. omega arith)

module _ (s : List ℕ) (at : ℕ) where
  line-back : (a b x y : ℕ) → Stands s at (box_of a b x y) → Stands s (at + 1) (field a ++ (field b ++ rest_of x y))
  unfolding box_of rest_of
  line-back a b x y there = stands-back s at (66 ∷ []) (field a ++ (field b ++ rest_of x y)) there

  pub line_other : (Stands s at (66 ∷ []) → ⊥) → (a b x y : ℕ) → Small a b x y → Stands s at (box_of a b x y) → ⊥
  unfolding box_of
  line_other f a b x y small there = f (stands-front s at (66 ∷ []) (field a ++ (field b ++ (field x ++ (field y ++ (59 ∷ 10 ∷ []))))) there)

  pub line-none : ((a b : ℕ) (rest : List ℕ) → a < 1000000 → b < 1000000 → Apart rest → Stands s (at + 1) (field a ++ (field b ++ rest)) → ⊥)
      → (a b x y : ℕ) → Small a b x y → Stands s at (box_of a b x y) → ⊥
  line-none f a b x y small there = f a b (rest_of x y) small.one small.two (rest-apart x y) (line-back a b x y there)

  module _ (a b next : ℕ) (f : Two s (at + 1) a b next) where
    -- the sides are a and b, and what follows stands at next
    onward : (a' b' x' y' : ℕ) → Small a' b' x' y' → Stands s at (box_of a' b' x' y') → (a ≡ a') × (b ≡ b') × Stands s next (rest_of x' y')
    onward a' b' x' y' small there =
        let back = line-back a' b' x' y' there in
        let o = f.only a' b' (rest_of x' y') small.one small.two (rest-apart x' y') back in
        let k : next ≡ at + 1 + length (field a' ++ field b') = f.past ∙ ap₂ (λ m n. at + 1 + length (field m ++ field n)) o.0 o.1 in
        let joined = subst (λ l. Stands s (at + 1) l) (sym (append_assoc (field a') (field b') (rest_of x' y'))) back in
        (o.0, o.1, subst (λ n. Stands s n (rest_of x' y')) (sym k) (stands-back s (at + 1) (field a' ++ field b') (rest_of x' y') joined))

    pub line-half : ((x y : ℕ) (rest : List ℕ) → x < 1000000 → y < 1000000 → Apart rest → Stands s next (field x ++ (field y ++ rest)) → ⊥)
        → (a' b' x' y' : ℕ) → Small a' b' x' y' → Stands s at (box_of a' b' x' y') → ⊥
    unfolding rest_of
    line-half g a' b' x' y' small there =
        g x' y' (59 ∷ 10 ∷ []) small.three small.four close_apart (onward a' b' x' y' small there).2

    module _ (x y last : ℕ) (g : Two s next x y last) where
      same : (a' b' x' y' : ℕ) → Small a' b' x' y' → Stands s at (box_of a' b' x' y') → Same a b x y a' b' x' y' × Stands s last (59 ∷ 10 ∷ [])
      unfolding rest_of
      same a' b' x' y' small there =
          let o = onward a' b' x' y' small there in
          let p = g.only x' y' (59 ∷ 10 ∷ []) small.three small.four close_apart o.2 in
          let k : last ≡ next + length (field x' ++ field y') = g.past ∙ ap₂ (λ m n. next + length (field m ++ field n)) p.0 p.1 in
          let joined = subst (λ l. Stands s next l) (sym (append_assoc (field x') (field y') (59 ∷ 10 ∷ []))) o.2 in (
            record { one = o.0; two = o.1; three = p.0; four = p.1 },
            subst (λ n. Stands s n (59 ∷ 10 ∷ [])) (sym k) (stands-back s next (field x' ++ field y') (59 ∷ 10 ∷ []) joined),
          )

      pub line_open : (Stands s last (59 ∷ 10 ∷ []) → ⊥) → (a' b' x' y' : ℕ) → Small a' b' x' y' → Stands s at (box_of a' b' x' y') → ⊥
      line_open f' a' b' x' y' small there = f' (same a' b' x' y' small there).1

      pub line-found : Stands s at (66 ∷ []) → Stands s last (59 ∷ 10 ∷ []) → Four s at a b x y (last + 2)
      unfolding box_of
      line-found first close =
          let tail = subst (λ l. Stands s next l) (append_assoc (field x) (field y) (59 ∷ 10 ∷ []))
          (stands-join s next (field x ++ field y) (59 ∷ 10 ∷ []) g.stands (subst (λ n. Stands s n (59 ∷ 10 ∷ [])) g.past close)) in
          let body : List ℕ = field x ++ (field y ++ (59 ∷ 10 ∷ [])) in
          let inner = subst (λ l. Stands s (at + 1) l) (append_assoc (field a) (field b) body)
          (stands-join s (at + 1) (field a ++ field b) body f.stands (subst (λ n. Stands s n body) f.past tail)) in
          let whole = stands-join s at (66 ∷ []) (field a ++ (field b ++ body)) first inner in
          record {
            small = record { one = f.small.0; two = f.small.1; three = g.small.0; four = g.small.1 };
            stands = whole;
            past =
                omega (
                  arith,
                  f.past,
                  g.past,
                  length-append (field a) (field b),
                  length-append (field x) (field y),
                  length-append (field a) (field b ++ body),
                  length-append (field b) body,
                  length-append (field x) (field y ++ (59 ∷ 10 ∷ [])),
                  length-append (field y) (59 ∷ 10 ∷ []),
                );
            within = stands-within s last (59 ∷ 10 ∷ []) (omega arith) close;
            only = λ a' b' x' y' small there. (same a' b' x' y' small there).0;
          }

-- a number, and a box, that stand at a place as a whole: nothing else does

number-there : (s : List ℕ) (at v : ℕ) (rest : List ℕ) → v < 1000000 → Apart rest → Stands s at (decimal v ++ rest)
    → Found decimal s at v (at + length (decimal v))
unfolding Apart NoDigit
number-there s at v rest small apart there =
    let st = stands-front s at (decimal v) rest there in
    let back = stands-back s at (decimal v) rest there in
    let e = stands-first s (at + length (decimal v)) rest back apart.0 in
    record {
      small = small;
      stands = st;
      past = refl;
      within = omega (arith, stands-room s (at + length (decimal v)) rest back, apart.0);
      only = number-only s at v small st (inr (inr (λ d h k q. apart.1 d h (sym e ∙ q))));
    }

spaced_there : (s : List ℕ) (at v : ℕ) (rest : List ℕ) → v < 1000000 → Apart rest → Stands s at (field v ++ rest)
    → Found field s at v (at + length (field v))
spaced_there s at v rest small apart there =
    let first = stands-front s at (32 ∷ []) (decimal v ++ rest) there in
    let back = stands-back s at (32 ∷ []) (decimal v ++ rest) there in
    let k : at + 1 + length (decimal v) ≡ at + length (field v) = omega arith in
    subst (λ n. Found field s at v n) k
    (spaced_found s at v (at + 1 + length (decimal v)) (omega (arith, stands-room s at (32 ∷ []) first))
    (stands-first s at (32 ∷ []) first (omega arith))
    (number-there s (at + 1) v rest small apart back))

two-there : (s : List ℕ) (at v w : ℕ) (rest : List ℕ) → v < 1000000 → w < 1000000 → Apart rest → Stands s at (field v ++ (field w ++ rest))
    → (last : ℕ) × Two s at v w last × Stands s last rest
unfolding Apart
two-there s at v w rest hv hw apart there =
    let next = at + length (field v) in
    let a = spaced_there s at v (field w ++ rest) hv (omega arith, λ d h e. omega arith) there in
    let back = stands-back s at (field v) (field w ++ rest) there in
    let b = spaced_there s next w rest hw apart back in
    (next + length (field w), two-found s at v next a w (next + length (field w)) b, stands-back s next (field w) rest back)

pub line-there : (s : List ℕ) (at a b x y : ℕ) → Small a b x y → Stands s at (box_of a b x y) → (next : ℕ) × Four s at a b x y next
unfolding box_of rest_of
line-there s at a b x y small there =
    let first = stands-front s at (66 ∷ []) (field a ++ (field b ++ rest_of x y)) there in
    let p = two-there s (at + 1) a b (rest_of x y) small.one small.two (rest-apart x y) (line-back s at a b x y there) in
    let q = two-there s p.0 x y (59 ∷ 10 ∷ []) small.three small.four close_apart p.2 in
    (q.0 + 2, line-found s at a b p.0 p.1 x y q.0 q.1 first q.2)

-- the box of a shot

numbers-small : (b : Shot) → Fit b
    → Small (doubled_side b.xlow b.xhigh) (doubled_side b.ylow b.yhigh) (doubled_centre b.xlow b.xhigh) (doubled_centre b.ylow b.yhigh)
numbers-small b f =
    let p = f.wide in
    let q = f.high in
    let r = f.right in
    let t = f.top in
    record { one = omega arith; two = omega arith; three = omega arith; four = omega arith }

box-same : {a b x y a' b' x' y' : ℕ} → a ≡ a' → b ≡ b' → x ≡ x' → y ≡ y' → box_of a b x y ≡ box_of a' b' x' y'
box-same e f g h = cc

-- sides and centre give back both ends: no two shots have their boxes at one place
module _ (s : List ℕ) (at : ℕ) where
  pub box-one : (p q : Shot) → Fit p → Fit q → Stands s at (box_line p) → Stands s at (box_line q) → p ≡ q
  unfolding box_line
  box-one p q fp fq sp sq =
      let n = line-there s at _ _ _ _ (numbers-small p fp) sp in
      let e = n.1.only _ _ _ _ (numbers-small q fq) sq in
      let a = fp.wide in
      let b = fq.wide in
      let c = fp.high in
      let d = fq.high in
      let xl : p.xlow ≡ q.xlow = omega (arith, e.one, e.three) in
      let xh : p.xhigh ≡ q.xhigh = omega (arith, e.one, e.three) in
      let yl : p.ylow ≡ q.ylow = omega (arith, e.two, e.four) in
      let yh : p.yhigh ≡ q.yhigh = omega (arith, e.two, e.four) in
      shot-same xl yl xh yh
    where
      shot-same : {a b c d a' b' c' d' : ℕ} → a ≡ a' → b ≡ b' → c ≡ c' → d ≡ d' → shot_of a b c d ≡ shot_of a' b' c' d'
      shot-same e f g h = cc

pub box-some : (b : Shot) → 0 < length (box_line b)
unfolding box_line box_of
box-some b = omega arith

module _ (s : List ℕ) (at : ℕ) where
  pub box_missing : ((a b x y : ℕ) → Small a b x y → Stands s at (box_of a b x y) → ⊥) → NoBox s at
  unfolding box_line
  box_missing f b fit there = f _ _ _ _ (numbers-small b fit) there

  module _ (a b x y next : ℕ) (f : Four s at a b x y next) where
    pub box-x : ((low high : ℕ) → Between a x low high → ⊥) → NoBox s at
    unfolding box_line
    box-x g p fit there =
        let e = f.only _ _ _ _ (numbers-small p fit) there in
        g p.xlow p.xhigh (record { rising = fit.wide; most = fit.right; sides = e.one; middle = e.three })

    pub box-y : ((low high : ℕ) → Between b y low high → ⊥) → NoBox s at
    unfolding box_line
    box-y g p fit there =
        let e = f.only _ _ _ _ (numbers-small p fit) there in
        g p.ylow p.yhigh (record { rising = fit.high; most = fit.top; sides = e.two; middle = e.four })

    pub box-found : (xl xh yl yh : ℕ) → Between a x xl xh → Between b y yl yh → BoxAt s at (shot_of xl yl xh yh) next
    unfolding box_line
    box-found xl xh yl yh u v =
        let e : box_of a b x y ≡ box_line (shot_of xl yl xh yh) = box-same u.sides v.sides u.middle v.middle in
        let past : next ≡ at + length (box_line (shot_of xl yl xh yh)) = f.past ∙ ap (λ (l : List ℕ). at + length l) e in
        record {
          fit = record { wide = u.rising; high = v.rising; right = u.most; top = v.most };
          stands = subst (λ l. Stands s at l) e f.stands;
          past = past;
          within = f.within;
          onward = omega (arith, past, box-some (shot_of xl yl xh yh));
        }

  pub box-not-finish : Stands s at finish → NoBox s at
  unfolding box_line box_of
  box-not-finish e b fit there =
      omega (arith, stands-first s at finish e (omega arith), stands-first s at (box_line b) there (omega arith))

-- boxes in a row

pub boxes-one : (s : List ℕ) (at : ℕ) (l m : List Shot) → All Fit l → All Fit m → Stands s at (join box_line l) → Stands s at (join box_line m)
    → NoBox s (at + length (join box_line l)) → NoBox s (at + length (join box_line m)) → l ≡ m
unfolding join
boxes-one s at [] [] fl fm sl sm nl nm = refl
boxes-one s at [] (q ∷ m) fl fm sl sm nl nm =
    absurd (subst (λ n. NoBox s n) (let z : at + 0 ≡ at = omega arith in z) nl q fm.0 (stands-front s at (box_line q) (join box_line m) sm))
boxes-one s at (p ∷ l) [] fl fm sl sm nl nm =
    absurd (subst (λ n. NoBox s n) (let z : at + 0 ≡ at = omega arith in z) nm p fl.0 (stands-front s at (box_line p) (join box_line l) sl))
boxes-one s at (p ∷ l) (q ∷ m) fl fm sl sm nl nm =
    let e = box-one s at p q fl.0 fm.0 (stands-front s at (box_line p) (join box_line l) sl) (stands-front s at (box_line q) (join box_line m) sm) in
    let next = at + length (box_line p) in
    let k : at + length (box_line q) ≡ next = ap (λ (b : Shot). at + length (box_line b)) (sym e) in
    let u : at + length (box_line p ++ join box_line l) ≡ next + length (join box_line l) = omega (arith, length-append (box_line p) (join box_line l)) in
    let v : at + length (box_line q ++ join box_line m) ≡ next + length (join box_line m) = omega (arith, k, length-append (box_line q) (join box_line m)) in
    ap₂ (λ (b : Shot) (n : List Shot). b ∷ n) e
    (boxes-one s next l m fl.1 fm.1 (stands-back s at (box_line p) (join box_line l) sl)
    (subst (λ n. Stands s n (join box_line m)) k (stands-back s at (box_line q) (join box_line m) sm))
    (subst (λ n. NoBox s n) u nl)
    (subst (λ n. NoBox s n) v nm))

-- on the way over boxes
pub record Walked (s : List ℕ) (from n next : ℕ) : Type 0 where
  pub shots : List Shot
  pub boxes : Boxes s from shots
  pub count : n ≡ length shots
  pub past : next ≡ from + length (join box_line shots)
  pub within : next ≤ length s
  pub few : n ≤ next

module _ (s : List ℕ) (from : ℕ) where
  pub walked_start : from ≤ length s → Walked s from 0 from
  unfolding join
  walked_start h =
      record { shots = []; boxes = record { fit = tt; stand = refl }; count = refl; past = omega arith; within = h; few = omega arith }

  module _ (n next : ℕ) (w : Walked s from n next) where
    pub walked_more : (b : Shot) (past : ℕ) → BoxAt s next b past → Walked s from (n + 1) past
    unfolding join
    walked_more b past h =
        let l = w.shots in
        let one : join box_line (b ∷ []) ≡ box_line b = append-nil (box_line b) in
        let all : join box_line (l ++ (b ∷ [])) ≡ join box_line l ++ box_line b =
        join-append box_line l (b ∷ []) ∙ ap (λ (m : List ℕ). join box_line l ++ m) one in
        record {
          shots = l ++ (b ∷ []);
          boxes =
              record {
                fit = All-append Fit l (b ∷ []) w.boxes.fit (h.fit, tt);
                stand =
                    subst (λ m. Stands s from m) (sym all)
                    (stands-join s from (join box_line l) (box_line b) w.boxes.stand (subst (λ k. Stands s k (box_line b)) w.past h.stands));
              };
          count = omega (arith, w.count, length-append l (b ∷ []));
          past = omega (arith, h.past, w.past, ap length all, length-append (join box_line l) (box_line b));
          within = h.within;
          few = omega (arith, w.few, h.onward);
        }

    pub walked_end : NoBox s next → BoxesTold s from n next
    walked_end h =
        record { shots = w.shots; boxes = w.boxes; count = w.count; past = w.past; within = w.within; last = h }

-- the ends of a doubled side about a doubled centre

pub between-even : (side centre low high : ℕ) → Between side centre low high → (centre - side / 2) % 2 ≡ 0
between-even side centre low high b =
    let p = b.rising in
    let h : side / 2 ≡ high - low = omega (arith, b.sides) in
    let t : centre - side / 2 ≡ 2 * low = omega (arith, b.middle) in
    omega arith
