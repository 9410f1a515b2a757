-- Laws of the loops over pinwheels. Assumes nothing.
--
--   turned_none, turned-end          == no other line; all high lines
--   first_turning, second_turning, first_fitting, second_fitting
--                                    == the arms of the two turns; their pinwheels fit
--   both-more                        == the pinwheels of both turns, one more line m
--   pairs_end, line-end, wheels_halves   == all lines m, k, and all lines of the lower arms
use Rattle.std.proofs.Common.{ℕ, ◌+◌, ◌<◌, ◌≤◌, List, inl, inr, arith}
use Rattle.wheels.specs.declared.lanes.Strips.{Strips}
use Rattle.wheels.specs.declared.lanes.Arms.{Arms}
use Rattle.wheels.specs.Wheel.{Weighed, Among, WheelsFrom, EndsAt, Turned, first_arms, second_arms, BothTurns, FromTo, OfLine, Wheeled, Turning, Fitting, FitsAt, AllFit}
use Rattle.wheels.proofs.Weighed.{weighed-none, weighed-then, among-more, among-end, among_halves}

pub turned_none : (store side : List ℕ) (s : Strips) (arms : Arms) → arms.before ≤ arms.after + 1 → Weighed s.count (Turned store s arms) side side
unfolding Turned EndsAt Among WheelsFrom
turned_none store side s arms h =
    weighed-none s.count (Turned store s arms) side (λ e a v z. let x = z.3.3 in omega (arith, x.1, x.2))

pub turned-end : (store side low : List ℕ) (s : Strips) (arms : Arms) (d : ℕ) → d ≤ s.rows + 1 → s.rows < d
    → Weighed s.count (Among (arms.high + 1) d (EndsAt store s arms)) side low → Weighed s.count (Turned store s arms) side low
unfolding Turned
turned-end store side low s arms d h k w = among-end s.count (arms.high + 1) d (s.rows + 1) (EndsAt store s arms) side low h (omega arith) w

pub fits-at : (store : List ℕ) (s : Strips) (arms : Arms) (d : ℕ) → arms.high < d → d ≤ s.rows → Fitting store s arms → FitsAt store s arms d
unfolding Fitting
fits-at store s arms d h k f = f d h k

module _ (s : Strips) (line k m : ℕ) (some : 0 < line) (most : line < s.width) (k-some : 0 < k) (km : k < m) (m-most : m < s.rows) where
  pub first_turning : Turning s (first_arms s line k m)
  first_turning =
      record {
        line-some = some;
        line-most = most;
        some-between = some;
        before-most = omega arith;
        beside = inl (omega arith);
        low-some = k-some;
        low_near = omega arith;
        low-far = omega arith;
        near-high = omega arith;
        far-high = omega arith;
        low-high = km;
        high-most = m-most;
      }

  pub second_turning : Turning s (second_arms s line k m)
  second_turning =
      record {
        line-some = some;
        line-most = most;
        some-between = most;
        before-most = omega arith;
        beside = inr (omega arith);
        low-some = k-some;
        low_near = omega arith;
        low-far = omega arith;
        near-high = omega arith;
        far-high = omega arith;
        low-high = km;
        high-most = m-most;
      }

pub both-more : (store side₀ side one two : List ℕ) (s : Strips) (line k m : ℕ) → k < m
    → Weighed s.count (Among (k + 1) m (BothTurns store s line k)) side₀ side
    → Weighed s.count (Turned store s (first_arms s line k m)) side one
    → Weighed s.count (Turned store s (second_arms s line k m)) one two
    → Weighed s.count (Among (k + 1) (m + 1) (BothTurns store s line k)) side₀ two
unfolding BothTurns
both-more store side₀ side one two s line k m h w p q =
    among-more s.count (k + 1) m (BothTurns store s line k) side₀ side two (omega arith) w
    (weighed-then s.count (Turned store s (first_arms s line k m)) (Turned store s (second_arms s line k m)) side one two p q)

pub pairs_end : (store side low : List ℕ) (s : Strips) (line k m : ℕ) → m ≤ s.rows → s.rows ≤ m
    → Weighed s.count (Among (k + 1) m (BothTurns store s line k)) side low → Weighed s.count (FromTo store s line k) side low
unfolding FromTo
pairs_end store side low s line k m h z w = among-end s.count (k + 1) m s.rows (BothTurns store s line k) side low h z w

pub line-end : (store side low : List ℕ) (s : Strips) (line k : ℕ) → k ≤ s.rows → s.rows ≤ k
    → Weighed s.count (Among 1 k (FromTo store s line)) side low → Weighed s.count (OfLine store s line) side low
unfolding OfLine
line-end store side low s line k h z w = among-end s.count 1 k s.rows (FromTo store s line) side low h z w

-- the lines of the lower arms below a middle one, and then the others
pub wheels_halves : (store side mid low : List ℕ) (s : Strips) (m : ℕ) → 1 ≤ m → m ≤ s.width
    → Weighed s.count (Among 1 m (OfLine store s)) side mid → Weighed s.count (Among m s.width (OfLine store s)) mid low
    → Weighed s.count (Wheeled store s) side low
unfolding Wheeled
wheels_halves store side mid low s m h k a b = among_halves s.count 1 m s.width (OfLine store s) side mid low h k a b

pub first_fitting : (store : List ℕ) (s : Strips) (line k m : ℕ) → 0 < line → line < s.width → 0 < k → k < m → m < s.rows → AllFit store s → Fitting store s (first_arms s line k m)
unfolding AllFit
first_fitting store s line k m a b c d e f = (f line k m a b c d e).0

pub second_fitting : (store : List ℕ) (s : Strips) (line k m : ℕ) → 0 < line → line < s.width → 0 < k → k < m → m < s.rows → AllFit store s → Fitting store s (second_arms s line k m)
unfolding AllFit
second_fitting store s line k m a b c d e f = (f line k m a b c d e).1
