-- Laws of weighing the strips of one width, some pieces of a strip at a time. Assumes nothing.
--
--   CutRows, cut-rows        == where the two parts of a cut stand in the table, and that it has them
--   row_fits, piece_fits, first-most, lane_most
--                            == numbers that are small
--   lower-*, upper-*         == from one cut to the next
--   Cuts, cuts-*             == the cuts below the line j are weighed, of n pieces
--   laid-*                   == numbers laid into a lane, one after the other
--   chunk-*                  == a chunk of a strip: made, none yet, and one more, which may overlap the ones before
--   Strips, strips-*         == the strips that begin below the line a are weighed
use Prim.Native.Nat.{ℕ, suc, ◌+◌, ◌*◌, ◌-◌, ◌≤◌, ◌<◌, ◌^◌, min}
use mathlib.Core.Path.{◌≡◌, refl, sym, ◌∙◌, ap, ap₂, subst}
use mathlib.Core.Logic.{◌⊎◌, inl, inr}
use mathlib.Core.List.{List}
use native.Mathlib.Omega.{arith}
use native.Mathlib.Nat.{suc-mul, add-mul}
use mir.Syntax.{w64}
use mir.Val.{Fits}
use lib.ListN.{length, get_or, set, length-set}
use lib.Seq.{get_or-set_same, get_or-set_other}
use Rattle.sum.proofs.Sum.{le-or}
use Rattle.table.specs.Entry.{pairs_below, pair_count, pair_no}
use Rattle.table.specs.Run.{Wrote, weighed_apart, Lowest}
use Rattle.table.specs.Cuts.{uncut}
use Rattle.table.specs.Cuts.{parted}
use Rattle.table.proofs.Entry.{below_next, below-most, count_most}
use Rattle.table.proofs.Run
use Rattle.table.proofs.Pairs.{Pairs, pairs_of, row_before, row-most}
use Rattle.strips.specs.Lanes.{Weighed}
use Rattle.strips.specs.Chunk.{Weighable, Least, listed, Laid, Chunk}

-- the parts (a, j) and (j, c) of a cut, of n pieces from the piece e on: where they stand in the table
pub record CutRows (columns pairs a c j e n lower upper long : ℕ) : Type 0 where
  pub lower-at : lower ≡ pair_no columns a j * pairs + e
  pub upper-at : upper ≡ pair_no columns j c * pairs + e
  pub lower-room : lower + n ≤ long
  pub upper-room : upper + n ≤ long
  pub lower-most : lower ≤ 54120
  pub upper-most : upper ≤ 54120

pub cut-rows : (columns pairs a w j e n first lower upper : ℕ) (t : List ℕ) → Weighable columns pairs w a first t → e + n ≤ pairs → a < j → j < a + w
    → lower ≡ (first + (j - a - 1)) * pairs + e
    → upper + pairs ≡ (pairs_below columns j + (a + w - j)) * pairs + e
    → CutRows columns pairs a (a + w) j e n lower upper (length t)
cut-rows columns pairs a w j e n first lower upper t g en h k el eu =
    record {
      lower-at = low;
      upper-at = high;
      lower-room = omega (arith, low, g.room, row_before (pair_no columns a j) (pair_count columns) pairs x);
      upper-room = omega (arith, high, g.room, row_before (pair_no columns j (a + w)) (pair_count columns) pairs y);
      lower-most = omega (arith, low, row-most (pair_no columns a j) pairs (omega (arith, x, count_most columns g.columns-most)) (omega (arith, g.pairs-most)));
      upper-most = omega (arith, high, row-most (pair_no columns j (a + w)) pairs (omega (arith, y, count_most columns g.columns-most)) (omega (arith, g.pairs-most)));
    }
  where
    p : Pairs columns a (a + w) j first (pairs_below columns j)
    p = pairs_of columns a (a + w) j first (pairs_below columns j) h k g.within g.first-at refl

    x : pair_no columns a j < pair_count columns
    x = omega (arith, p.low-before, p.high_after, p.high-below)

    y : pair_no columns j (a + w) < pair_count columns
    y = p.high-below

    low : lower ≡ pair_no columns a j * pairs + e
    low = el ∙ ap (λ r. r * pairs + e) p.low-at

    next : pairs_below columns j + (a + w - j) ≡ suc (pair_no columns j (a + w))
    next = omega (arith, p.high-at)

    high : upper ≡ pair_no columns j (a + w) * pairs + e
    high = omega (arith, ap (λ r. r * pairs) next, suc-mul (pair_no columns j (a + w)) pairs)

-- where a row stands, and a piece of it, is a small number
pub row_fits : (x pairs : ℕ) → x ≤ 240 → pairs ≤ 120 → Fits w64 (x * pairs)
row_fits x pairs h k = record { fits = omega (arith, row-most x pairs h (omega arith)) }

pub piece_fits : (x pairs e : ℕ) → x ≤ 240 → pairs ≤ 120 → e ≤ pairs → Fits w64 (x * pairs + e)
piece_fits x pairs e h k l = record { fits = omega (arith, row-most x pairs h (omega arith)) }

pub first-most : (columns pairs a w first : ℕ) (t : List ℕ) → Weighable columns pairs w a first t → first ≤ 15 * a
first-most columns pairs a w first t g = omega (arith, g.first-at, below-most columns a g.columns-most)

pub lane_most : (columns pairs a w first : ℕ) (t : List ℕ) → Weighable columns pairs w a first t → a < 16
lane_most columns pairs a w first t g = omega (arith, g.within, g.columns-most)

-- from one cut to the next: the parts' places run along
pub lower-first : (pairs a e first : ℕ) → first * pairs + e ≡ (first + (a + 1 - a - 1)) * pairs + e
lower-first pairs a e first = (let z : first ≡ first + (a + 1 - a - 1) = omega arith in ap (λ r. r * pairs + e) z)

pub lower-next : (pairs a j e first lower : ℕ) → a < j → lower ≡ (first + (j - a - 1)) * pairs + e → lower + pairs ≡ (first + (j + 1 - a - 1)) * pairs + e
lower-next pairs a j e first lower h el =
    let z : first + (j + 1 - a - 1) ≡ suc (first + (j - a - 1)) = omega arith in
    omega (arith, ap (λ r. r * pairs) z, suc-mul (first + (j - a - 1)) pairs)

pub upper_first : (columns pairs a w e first : ℕ) (t : List ℕ) → Weighable columns pairs w a first t
    → (first + (columns - a) + w - 2) * pairs + e + pairs ≡ (pairs_below columns (a + 1) + (a + w - (a + 1))) * pairs + e
upper_first columns pairs a w e first t g =
    let r : ℕ = first + (columns - a) + w - 2 in
    let z : pairs_below columns (a + 1) + (a + w - (a + 1)) ≡ suc r = omega (arith, below_next columns a, g.wide, g.within, g.first-at) in
    omega (arith, ap (λ m. m * pairs) z, suc-mul r pairs)

pub upper-next : (columns pairs c j e upper : ℕ) → j < c → c ≤ columns → upper + pairs ≡ (pairs_below columns j + (c - j)) * pairs + e
    → upper + (columns - j - 1) * pairs + pairs ≡ (pairs_below columns (j + 1) + (c - (j + 1))) * pairs + e
upper-next columns pairs c j e upper h k eu =
    let x : ℕ = pairs_below columns j + (c - j) in
    let s : ℕ = columns - j - 1 in
    let z : pairs_below columns (j + 1) + (c - (j + 1)) ≡ x + s = omega (arith, below_next columns j) in
    omega (arith, ap (λ m. m * pairs) z, add-mul x s pairs)

-- n pieces of the strip between the lines a and c, from the piece e on, with the cuts below the line j weighed
pub record Cuts (columns pairs a c e n : ℕ) (t start : List ℕ) (j : ℕ) (best : List ℕ) : Type 0 where
  pub long : length best ≡ length start
  pub least : (i : ℕ) → i < n → Lowest (parted t columns pairs a c (e + i)) a j (get_or start i 0) (get_or best i 0)

module _ (columns pairs a c e n : ℕ) (t start : List ℕ) where
  pub cuts-none : Cuts columns pairs a c e n t start (a + 1) start
  cuts-none = record { long = refl; least = λ i h. Run.lowest-none (parted t columns pairs a c (e + i)) a (get_or start i 0) }

  module _ (j lower upper : ℕ) (el : lower ≡ pair_no columns a j * pairs + e) (eu : upper ≡ pair_no columns j c * pairs + e) where
    lower-here : (i : ℕ) → get_or t (lower + i) 0 ≡ get_or t (pair_no columns a j * pairs + (e + i)) 0
    lower-here i = (let z : lower + i ≡ pair_no columns a j * pairs + (e + i) = omega arith in ap (λ k. get_or t k 0) z)

    upper-here : (i : ℕ) → get_or t (upper + i) 0 ≡ get_or t (pair_no columns j c * pairs + (e + i)) 0
    upper-here i = (let z : upper + i ≡ pair_no columns j c * pairs + (e + i) = omega arith in ap (λ k. get_or t k 0) z)

    pub cuts_fit : a < j → j < c → e + n ≤ pairs → ((j i : ℕ) → a < j → j < c → i < pairs → parted t columns pairs a c i j < 2 ^ 32)
        → (i : ℕ) → i < n → get_or t (lower + i) 0 + get_or t (upper + i) 0 < 2 ^ 32
    unfolding parted
    cuts_fit h k room fit i l = omega (arith, lower-here i, upper-here i, fit j (e + i) h k (omega arith))

    pub cuts-more : (u v : List ℕ) → a < j → Wrote (weighed_apart u t lower upper) 0 n u v
        → Cuts columns pairs a c e n t start j u
        → Cuts columns pairs a c e n t start (j + 1) v
    unfolding weighed_apart parted
    cuts-more u v h o w =
        record {
          long = o.long ∙ w.long;
          least =
              λ i l. Run.lowest-same (parted t columns pairs a c (e + i)) (parted t columns pairs a c (e + i)) a (j + 1) (get_or start i 0) (get_or start i 0)
              (min (get_or u i 0) (parted t columns pairs a c (e + i) j))
              (get_or v i 0)
              (λ j p q. refl)
              refl
              (sym (value i l))
              (Run.lowest-more (parted t columns pairs a c (e + i)) a j (get_or start i 0) (get_or u i 0) (parted t columns pairs a c (e + i) j) h refl (w.least i l));
        }
      where
        value : (i : ℕ) → i < n
            → get_or v i 0 ≡ min (get_or u i 0) (get_or t (pair_no columns a j * pairs + (e + i)) 0 + get_or t (pair_no columns j c * pairs + (e + i)) 0)
        value i l =
            let z : i ≡ 0 + i = omega arith in
            ap (λ k. get_or v k 0) z ∙ o.made i l ∙ ap (min (get_or u i 0)) (ap₂ ◌+◌ (lower-here i) (upper-here i))

pub cuts-all : (columns pairs w a e n : ℕ) (t start : List ℕ) (j : ℕ) (u : List ℕ) → j ≤ a + w → a + w ≤ j → Cuts columns pairs a (a + w) e n t start j u
    → Least columns pairs w a e n t start u
cuts-all columns pairs w a e n t start j u h k p =
    record {
      long = p.long;
      least = λ i l. subst (λ m. Lowest (parted t columns pairs a (a + w) (e + i)) a m (get_or start i 0) (get_or u i 0)) (omega arith) (p.least i l);
    }

-- numbers laid into a lane
pub listed_at : (l : List ℕ) (i : ℕ) → get_or l i 0 ≡ listed l i
unfolding listed
listed_at l i = refl

pub laid_none : (f : ℕ → ℕ) (a from : ℕ) (side : List ℕ) → Laid f a from 0 side side
laid_none f a from side = record { long = refl; made_at = λ i h. absurd (omega arith); kept = λ b e h k. refl }

pub laid_more : (f : ℕ → ℕ) (a from i : ℕ) (side u : List ℕ) (v : ℕ) → a < 16 → 16 * (from + i) + a < length u → v ≡ f i → Laid f a from i side u
    → Laid f a from (i + 1) side (set u (16 * (from + i) + a) v)
laid_more f a from i side u v low room e w =
    record {
      long = length-set u (16 * (from + i) + a) v ∙ w.long;
      made_at =
          λ j h. elim (le-or i j) [
            | inl q ↦
                (let z : j ≡ i = omega arith in
                ap (λ k. get_or (set u (16 * (from + i) + a) v) (16 * (from + k) + a) 0) z ∙ get_or-set_same u (16 * (from + i) + a) v 0 room ∙ e ∙ ap f (sym z))
            | inr q ↦ get_or-set_other u (16 * (from + i) + a) (16 * (from + j) + a) v 0 (λ z. omega arith) ∙ w.made_at j q
          ];
      kept = λ b d h k. get_or-set_other u (16 * (from + i) + a) (16 * d + b) v 0 (λ z. apart b d h k z) ∙ w.kept b d h (before b d k);
    }
  where
    apart : (b d : ℕ) → b < 16 → (b ≡ a → ⊥) ⊎ ((d < from) ⊎ (from + (i + 1) ≤ d)) → 16 * d + b ≡ 16 * (from + i) + a → ⊥
    apart b d h (inl k) z = k (omega arith)
    apart b d h (inr (inl k)) z = omega arith
    apart b d h (inr (inr k)) z = omega arith

    before : (b d : ℕ) → (b ≡ a → ⊥) ⊎ ((d < from) ⊎ (from + (i + 1) ≤ d)) → (b ≡ a → ⊥) ⊎ ((d < from) ⊎ (from + i ≤ d))
    before b d (inl k) = inl k
    before b d (inr (inl k)) = inr (inl k)
    before b d (inr (inr k)) = inr (inr (omega arith))

pub laid_end : (f : ℕ → ℕ) (a from i n : ℕ) (side u : List ℕ) → i ≤ n → n ≤ i → Laid f a from i side u → Laid f a from n side u
laid_end f a from i n side u h k w = subst (λ m. Laid f a from m side u) (omega arith) w

module _ (columns pairs w a : ℕ) (t : List ℕ) where
  -- the least cuts of n pieces, laid into their lane
  pub chunk_made : (from n : ℕ) (start best side made : List ℕ) → ((i : ℕ) → i < n → get_or start i 0 ≡ uncut)
      → Least columns pairs w a from n t start best
      → Laid (listed best) a from n side made
      → Chunk columns pairs w a from n t side made
  unfolding listed
  chunk_made from n start best side made e p o =
      record {
        long = o.long;
        least =
            λ d h k.
            let z : from + (d - from) ≡ d = omega arith in
            let i : d - from < n = omega arith in
            subst (λ m. Lowest (parted t columns pairs a (a + w) m) a (a + w) uncut (get_or made (16 * m + a) 0)) z
            (Run.lowest-same (parted t columns pairs a (a + w) (from + (d - from))) (parted t columns pairs a (a + w) (from + (d - from))) a (a + w)
            (get_or start (d - from) 0)
            uncut
            (get_or best (d - from) 0)
            (get_or made (16 * (from + (d - from)) + a) 0)
            (λ j p q. refl)
            (e (d - from) i)
            (sym (o.made_at (d - from) i))
            (p.least (d - from) i));
        kept = o.kept;
      }

  pub chunk_none : (side : List ℕ) → Chunk columns pairs w a 0 0 t side side
  chunk_none side = record { long = refl; least = λ e h k. absurd (omega arith); kept = λ b e h k. refl }

  -- one chunk more, which may overlap the ones before
  pub chunk_more : (e from n : ℕ) (side u v : List ℕ) → a < 16 → from ≤ e → e ≤ from + n → Chunk columns pairs w a 0 e t side u
      → Chunk columns pairs w a from n t u v
      → Chunk columns pairs w a 0 (from + n) t side v
  chunk_more e from n side u v low h k p q =
      record {
        long = q.long ∙ p.long;
        least = λ d x y. elim (le-or from d) [
          | inl s ↦ q.least d s (omega arith)
          | inr s ↦
              Run.lowest-same (parted t columns pairs a (a + w) d) (parted t columns pairs a (a + w) d) a (a + w) uncut uncut (get_or u (16 * d + a) 0) (get_or v (16 * d + a) 0)
              (λ j p q. refl)
              refl
              (sym (q.kept a d low (inr (inl s))))
              (p.least d (omega arith) (omega arith))
        ];
        kept = λ b d l x. q.kept b d l (last b d x) ∙ p.kept b d l (before b d x);
      }
    where
      last : (b d : ℕ) → (b ≡ a → ⊥) ⊎ ((d < 0) ⊎ (0 + (from + n) ≤ d)) → (b ≡ a → ⊥) ⊎ ((d < from) ⊎ (from + n ≤ d))
      last b d (inl x) = inl x
      last b d (inr (inl x)) = absurd (omega arith)
      last b d (inr (inr x)) = inr (inr (omega arith))

      before : (b d : ℕ) → (b ≡ a → ⊥) ⊎ ((d < 0) ⊎ (0 + (from + n) ≤ d)) → (b ≡ a → ⊥) ⊎ ((d < 0) ⊎ (0 + e ≤ d))
      before b d (inl x) = inl x
      before b d (inr (inl x)) = absurd (omega arith)
      before b d (inr (inr x)) = inr (inr (omega arith))

  pub chunk_end : (n : ℕ) (side u : List ℕ) → n ≡ pairs → Chunk columns pairs w a 0 n t side u → Chunk columns pairs w a 0 pairs t side u
  chunk_end n side u e p = subst (λ m. Chunk columns pairs w a 0 m t side u) e p

-- the strips that begin below the line a are weighed
pub record Strips (columns pairs w : ℕ) (t side : List ℕ) (a : ℕ) (made : List ℕ) : Type 0 where
  pub long : length made ≡ length side
  pub least : (b e : ℕ) → b < a → e < pairs → Lowest (parted t columns pairs b (b + w) e) b (b + w) uncut (get_or made (16 * e + b) 0)
  pub kept : (b e : ℕ) → b < 16 → (a ≤ b) ⊎ (pairs ≤ e) → get_or made (16 * e + b) 0 ≡ get_or side (16 * e + b) 0

module _ (columns pairs w : ℕ) (t side : List ℕ) where
  pub strips-none : Strips columns pairs w t side 0 side
  strips-none = record { long = refl; least = λ b e h k. absurd (omega arith); kept = λ b e h k. refl }

  pub strips-more : (a : ℕ) (u v : List ℕ) → a < 16 → Strips columns pairs w t side a u → Chunk columns pairs w a 0 pairs t u v
      → Strips columns pairs w t side (a + 1) v
  strips-more a u v low p q =
      record {
        long = q.long ∙ p.long;
        least = λ b e h k. elim (le-or a b) [
          | inl s ↦
              (let z : a ≡ b = omega arith in
              subst (λ m. Lowest (parted t columns pairs m (m + w) e) m (m + w) uncut (get_or v (16 * e + m) 0)) z (q.least e (omega arith) (omega arith)))
          | inr s ↦
              Run.lowest-same (parted t columns pairs b (b + w) e) (parted t columns pairs b (b + w) e) b (b + w) uncut uncut (get_or u (16 * e + b) 0) (get_or v (16 * e + b) 0)
              (λ j p q. refl)
              refl
              (sym (q.kept b e (omega arith) (inl (λ z. omega arith))))
              (p.least b e s k)
        ];
        kept = λ b e h k. q.kept b e h (here b e k) ∙ p.kept b e h (before b e k);
      }
    where
      here : (b e : ℕ) → (a + 1 ≤ b) ⊎ (pairs ≤ e) → (b ≡ a → ⊥) ⊎ ((e < 0) ⊎ (0 + pairs ≤ e))
      here b e (inl k) = inl (λ z. omega arith)
      here b e (inr k) = inr (inr (omega arith))

      before : (b e : ℕ) → (a + 1 ≤ b) ⊎ (pairs ≤ e) → (a ≤ b) ⊎ (pairs ≤ e)
      before b e (inl k) = inl (omega arith)
      before b e (inr k) = inr k

  pub strips-all : (a : ℕ) (made : List ℕ) → a + w ≤ columns + 1 → columns < a + w → Strips columns pairs w t side a made
      → Weighed columns pairs w t side made
  strips-all a made h k p =
      record {
        long = p.long;
        least = λ b e x y. p.least b e (omega arith) y;
        kept = λ b e x y. p.kept b e x (beyond b e y);
      }
    where
      beyond : (b e : ℕ) → (columns < b + w) ⊎ (pairs ≤ e) → (a ≤ b) ⊎ (pairs ≤ e)
      beyond b e (inl y) = inl (omega arith)
      beyond b e (inr y) = inr y
