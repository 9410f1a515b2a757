-- What is wanted of joining, of any outcome that the call's promise allows. That partners point at each other and can be joined, and that
-- each free shot took the first later free one that it can join, stands in the promise itself (`Greedy`).
--
--   no-two_free      == no two free shots could still be joined
--   flashes-pairs    == the flashes and the pairs are together the shots
--   pair-corners     == the union of a shot and its partner has six corners or four
use Prim.Native.Nat.{ℕ, ◌+◌, ◌*◌, ◌<◌, ◌≤◌}
use native.Mathlib.Omega.{arith}
use mathlib.Core.Path.{◌≡◌, ap}
use mathlib.Core.Logic.{◌⊎◌}
use mathlib.Core.Bool.{false}
use mathlib.Core.List.{List}
use lib.Dec.{ltb}
use lib.ListN.{length}
use Rattle.sum.specs.Sum.{only}
use Rattle.sum.proofs.Sum.{over-le, over_ones, over_none, only-most}
use Rattle.shot.specs.Shot.{Shot, shots_in}
use Rattle.shot.specs.Bad.{bad_shots}
use Rattle.shot.proofs.Bad.{good-shots}
use Rattle.join.specs.declared.Joined.{Joined}
use Rattle.join.specs.Join.{nth, can_join, as_shot, partner_at, pairs, JoinSaid, Promise}
use Rattle.join.specs.Steps.{entry_of}
use Rattle.join.specs.Union.{union, corners}
use Rattle.join.proofs.Corners.{six_or-four}
use Rattle.join.proofs.Exactly.{joined_exactly}
use Rattle.join.proofs.Greedy.{none_left}
use Rattle.join.proofs.Promised.{nth-shots, shots-count}

pairs-few : (p : ℕ → ℕ) (n : ℕ) → pairs p n ≤ n
unfolding pairs
pairs-few p n = omega (arith, over-le 0 n (λ i. only (ltb i (p i)) 1) (λ i. 1) (λ i u v. only-most (ltb i (p i)) 1), over_ones 0 n, over_none n 0 (λ k. 1) (omega arith))

module _ (l : List ℕ) (t : List Joined) (s : JoinSaid) (p : Promise l t s) (ok : s.number ≡ 0) where
  pub no-two_free : (i j : ℕ) → i < length (shots_in l) → j < length (shots_in l) → (i ≡ j → ⊥) → partner_at s.table i ≡ i → partner_at s.table j ≡ j
      → can_join (nth (shots_in l) i) (nth (shots_in l) j) ≡ false
  no-two_free = none_left (shots_in l) (partner_at s.table) (p.joined ok).greedy

  pub flashes-pairs : s.flashes + pairs (partner_at s.table) (length (shots_in l)) ≡ length (shots_in l)
  flashes-pairs = omega (arith, (p.joined ok).flashes, pairs-few (partner_at s.table) (length (shots_in l)))

  good : bad_shots l ≡ false
  good = ((joined_exactly l t s p).1 ok).0

  -- a shot of the list has area
  wide : (i : ℕ) → i < length (shots_in l) → ((nth (shots_in l) i).xlow < (nth (shots_in l) i).xhigh) × ((nth (shots_in l) i).ylow < (nth (shots_in l) i).yhigh)
  unfolding as_shot entry_of
  wide i h =
      let g = good-shots l good in
      let k : 4 * i + 4 ≤ length l = omega (arith, shots-count l g.fours, g.fours) in
      let e = nth-shots l i k in
      (omega (arith, g.wide i k, ap (λ (z : Shot). z.xlow) e, ap (λ (z : Shot). z.xhigh) e), omega (arith, g.high i k, ap (λ (z : Shot). z.ylow) e, ap (λ (z : Shot). z.yhigh) e))

  pub pair-corners : (i n : ℕ) → i < length (shots_in l) → (partner_at s.table i ≡ i → ⊥)
      → ((nth (shots_in l) i).xhigh < n) × ((nth (shots_in l) i).yhigh < n) → ((nth (shots_in l) (partner_at s.table i)).xhigh < n) × ((nth (shots_in l) (partner_at s.table i)).yhigh < n)
      → (corners (union (nth (shots_in l) i) (nth (shots_in l) (partner_at s.table i))) n ≡ 6) ⊎ (corners (union (nth (shots_in l) i) (nth (shots_in l) (partner_at s.table i))) n ≡ 4)
  pair-corners i n h d ha hb =
      let g = (p.joined ok).greedy in
      six_or-four (nth (shots_in l) i) (nth (shots_in l) (partner_at s.table i)) n (wide i h) (wide (partner_at s.table i) (g.within i h)) ha hb (g.joins i h d)
