-- To believe: what a fracture with a largest side promises, its answer and both lent buffers, for every input; and when it is refused.
--
--   bad_largest t m     == 19: the largest side m is below 200, below twice the threshold t, or above 65,535
--   room_aside          == a list of 900 numbers
--   aside ask          == the same question before division: its shots have room aside, 900 numbers, which are enough for every figure
--   parts m o          == the shots of an outcome o, each replaced by its parts
--   listed w l v k table list
--                      == of the parts l, by the weight w, v nm of sliver and k cuts being reported before: 7, which gives the shots needed and
--                         leaves the list, or the parts. The cost is reported anew
--   after m w o list   == by the outcome o before division: what it is refused by, or its parts, listed
--   divided_outcome ask m == 1; 19; what the undivided fracture is refused by; 7 or the parts. The table holds the costs before division
--   Condition, First   == the same as conditions of the input alone: 19 and 7 in the scope's words, 1 to 6 as they are without m; tried in
--                         the order 1, 19, 2 to 7
--   turn c             == when the condition of c is tried
use Rattle.std.specs.Prelude.{ℕ, ◌+◌, ◌*◌, ◌<◌, ◌≡◌, Bool, cond, ◌||◌, ◌⊎◌, List, ltb, eqb, length, replicate}
use Rattle.sum.specs.Sum.{sum_of, join}
use Rattle.refusal.specs.declared.Refusal.{Refusal}
use Rattle.refusal.specs.declared.Refusal.TheVariants as because
use Rattle.refusal.specs.Refusals.{refusal_no}
use Rattle.rule.specs.Rules.{in_range}
use Rattle.shot.specs.Shot.{Shot, numbers}
use Rattle.demands.specs.Promise.{Asked, Outcome, written, refused, outcome}
use Rattle.demands.specs.Demands.{reported}
use Rattle.demands.specs.Refusals as undivided
use Rattle.division.specs.Division.{divided, product}

unfoldable pub bad_largest : ℕ → ℕ → Bool
bad_largest t m = (ltb m 200 || ltb m (2 * t)) || ltb 65535 m

unfoldable pub room_aside : List ℕ
room_aside = replicate 900 0

abbrev pub aside : Asked → Asked
aside ask = record { mode = ask.mode; figure = ask.figure; threshold = ask.threshold; weight = ask.weight; table = ask.table; list = room_aside }

unfoldable pub parts : ℕ → Outcome → List Shot
parts m o = join (divided m) (reported o)

unfoldable pub listed : ℕ → List Shot → ℕ → ℕ → List ℕ → List ℕ → Outcome
listed w l v k table list =
    cond (ltb (length list) (4 * length l))
    (record { number = refusal_no because.List; shots = length l; cost = 0; sliver = 0; cuts = 0; table = table; list = list })
    (record {
      number = 0;
      shots = length l;
      cost = 1000 * length l + w * v;
      sliver = v;
      cuts = k;
      table = table;
      list = written (numbers l) list;
    })

-- of the outcome o before division
unfoldable pub after : ℕ → ℕ → Outcome → List ℕ → Outcome
after m w o list =
    cond (eqb o.number 0) (listed w (parts m o) o.sliver o.cuts o.table list) (refused o.number o.table list)

unfoldable pub divided_outcome : Asked → ℕ → Outcome
divided_outcome ask m =
    cond (in_range ask.threshold ask.weight)
    (cond (bad_largest ask.threshold m)
    (refused (refusal_no because.Largest) ask.table ask.list)
    (after m ask.weight (outcome (aside ask)) ask.list))
    (refused (refusal_no because.Rule) ask.table ask.list)

-- 1, 19, 2, .., 7 have the turns 2, 3, 4, .., 14
unfoldable pub turn : Refusal → ℕ
turn c = cond (eqb (refusal_no c) (refusal_no because.Largest)) 3 (2 * refusal_no c)

module _ (ask : Asked) (m : ℕ) where
  pub data Condition (c : Refusal) : Type 0 where
    -- M outside its range: from 200 or twice the threshold, whichever is more, to 65,535
    largest : c ≡ because.Largest → (m < 200) ⊎ ((m < 2 * ask.threshold) ⊎ (65535 < m)) → Condition c
    -- the shot list holds fewer than four numbers for each divided shot
    short : c ≡ because.List → length ask.list < 4 * sum_of (product m) (reported (outcome (aside ask))) → Condition c
    -- 1 to 6, as they are without M
    before : refusal_no c < refusal_no because.List → undivided.Condition (aside ask) c → Condition c

  pub record First (c : Refusal) : Type 0 where
    pub holds : Condition c
    pub earlier : (s : Refusal) → turn s < turn c → Condition s → ⊥
