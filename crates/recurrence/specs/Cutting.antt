-- Inner: any way to cut a piece until no part of it is mixed, its shots and its price. Nothing here knows of the recurrence. Nobody has to
-- believe these: demand 3 is said of ways of its own (demands/specs/Ways.antt).
--
--   Cutting S May p      == a way to cut the piece p: leave it where it is outside, shoot it where it is full, or, if it may be
--                           cut (May p), make one of its cuts and cut the parts in turn. A full piece may be cut too, if May says so
--   Cuttings S May l     == a cutting for each piece of the list l
--   shots_in, shots_among  == the shots of a cutting, and of cuttings, in list order
--   price                == the sum of the charges of its shots
use Rattle.std.specs.Prelude.{ℕ, ◌≡◌}
use mathlib.Core.List.{List, [], ◌∷◌, ◌++◌, Memᴰ as Member}
use Rattle.sum.specs.Sum.{sum_of}
use Rattle.recurrence.specs.Scheme.{Scheme, outside, full}

module _ {P K : Type 0} (S : Scheme P K) (May : P → Type 0) where
  mutual
    pub data Cutting : P → Type 0 where
      leave : {p : P} → S.kind p ≡ outside → Cutting p
      shoot : {p : P} → S.kind p ≡ full → Cutting p
      cut : {p : P} (k : K) → May p → Member k (S.cuts p) → Cuttings (S.parts p k) → Cutting p

    pub data Cuttings : List P → Type 0 where
      none : Cuttings []
      more : {p : P} {l : List P} → Cutting p → Cuttings l → Cuttings (p ∷ l)

  unfoldable mutual
    pub shots_in : {p : P} → Cutting p → List P
    shots_in (leave e) = []
    shots_in (shoot {p = p} e) = p ∷ []
    shots_in (cut k a m t) = shots_among t

    pub shots_among : {l : List P} → Cuttings l → List P
    shots_among none = []
    shots_among (more t ts) = shots_in t ++ shots_among ts

  unfoldable pub price : {p : P} → Cutting p → ℕ
  price t = sum_of S.charge (shots_in t)
