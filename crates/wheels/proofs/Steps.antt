-- Laws of the steps along the lanes. Assumes nothing.
--
--   wrapped-fits                  == three numbers that fit together do not wrap
--   gathered-more, joined-more, lowered-more, kept_next
--                                 == one lane more; one number more
--   spot-fits, spot-room          == where a piece stands in the store: it fits, and 16 lanes from there on lie within the store
--   beside_of, rest-room, arm-room
--                                 == the other line is not the line of the lower arms; where the parts of a pinwheel stand
--   lines_none, lines_more, lines_end
--                                 == the other lines weighed so far, in each lane
--   start_sum, start-more         == the lower arms and the least of the rest, in each lane; one low line more
--   start_fits, wheels-weighed    == the pinwheels with the same arms that end at the same line
use Rattle.std.proofs.Common.{◌≡◌, ℕ, suc, ◌+◌, ◌-◌, ◌*◌, ◌^◌, ◌<◌, ◌≤◌, min, ◌⊎◌, List, length, get_or, set, sym, refl, ap, ◌∙◌, subst, ap₂, inl, inr, mul-le-mul_right, mod-eq_of_lt, suc-mul, arith}
use native.Mathlib.Nat.{mod-add-mod}
use Rattle.table.specs.Entry.{pair_no}
use Rattle.table.specs.Run.{Wrote, Lowest}
use Rattle.table.specs.Cuts.{uncut}
use Rattle.table.proofs.Entry.{pair-below}
use Rattle.table.proofs.Run.{wrote_more, lowest-none, lowest-more}
use Rattle.table.proofs.Pairs.{row-most}
use Rattle.strips.specs.Chunk.{listed}
use Rattle.wheels.specs.declared.lanes.Strips.{Strips}
use Rattle.wheels.specs.declared.lanes.Arms.{Arms}
use Rattle.wheels.specs.Wheel.{wrapped, gathered, joined, lowered, spot_of, inner_at, arm_at, rest_at, LeastRest, StartsFit, Weighed, Among, StartAt, WheelsFrom, EndsAt, Ground, Turning, FitsAt}
use Rattle.wheels.proofs.Costs.{inner-low, inner-high}
use Rattle.wheels.proofs.Weighed.{weighed_as, weighed-lower, weighed-least, among-more}

pub wrapped-fits : (a b c : ℕ) → a + b + c < 2 ^ 32 → wrapped a b c ≡ a + b + c
unfolding wrapped
wrapped-fits a b c h = mod-add-mod (a + b) (2 ^ 32) c ∙ mod-eq_of_lt h

pub gathered-more : (t store u : List ℕ) (left right inner n i sum r : ℕ) → n ≤ length t → i < n
    → sum ≡ wrapped (get_or store (left + i) 0) (get_or store (right + i) 0) (get_or store (inner + i) 0) → r ≡ min (get_or u i 0) sum
    → Wrote (gathered t store left right inner) 0 i t u
    → Wrote (gathered t store left right inner) 0 (i + 1) t (set u i r)
unfolding gathered
gathered-more t store u left right inner n i sum r m l es e w =
    let z : 0 + i ≡ i = omega arith in
    subst (λ k. Wrote (gathered t store left right inner) 0 (i + 1) t (set u k r)) z
    (wrote_more (gathered t store left right inner) 0 i t u r (omega (arith, w.long)) (e ∙ ap₂ min (w.kept i (inr (omega arith))) es) w)

pub joined-more : (t store best u : List ℕ) (left right n i r : ℕ) → n ≤ length t → i < n
    → r ≡ wrapped (get_or store (left + i) 0) (get_or store (right + i) 0) (get_or best i 0)
    → Wrote (joined store left right best) 0 i t u
    → Wrote (joined store left right best) 0 (i + 1) t (set u i r)
unfolding joined
joined-more t store best u left right n i r m l e w =
    let z : 0 + i ≡ i = omega arith in
    subst (λ k. Wrote (joined store left right best) 0 (i + 1) t (set u k r)) z
    (wrote_more (joined store left right best) 0 i t u r (omega (arith, w.long)) e w)

pub lowered-more : (t sums u : List ℕ) (at n i r : ℕ) → at + n ≤ length t → i < n → r ≡ min (get_or u (at + i) 0) (get_or sums i 0)
    → Wrote (lowered t at sums) at i t u
    → Wrote (lowered t at sums) at (i + 1) t (set u (at + i) r)
unfolding lowered
lowered-more t sums u at n i r m l e w =
    wrote_more (lowered t at sums) at i t u r (omega (arith, w.long)) (e ∙ ap (λ k. min k (get_or sums i 0)) (w.kept (at + i) (inr (omega arith)))) w

pub kept_next : (t side u : List ℕ) (at n i : ℕ) → at + n ≤ length t → i < n → Wrote (listed side) at i t u
    → Wrote (listed side) at (i + 1) t (set u (at + i) (get_or side i 0))
unfolding listed
kept_next t side u at n i m l w = wrote_more (listed side) at i t u (get_or side i 0) (omega (arith, w.long)) refl w

-- where a piece stands in the store
pub spot-fits : (pairs v : ℕ) → v ≤ 15 → pairs ≤ 225 → (v - 1) * pairs ≤ 54000
spot-fits pairs v h k = row-most (v - 1) pairs (omega arith) k

pub spot-made : (pairs v e x : ℕ) → 16 * ((v - 1) * pairs + e) + x ≡ spot_of pairs v e x
unfolding spot_of
spot-made pairs v e x = refl

pub spot-room : (s : Strips) (store : List ℕ) (v e x : ℕ) → Ground s store → 1 ≤ v → v ≤ s.width → e < s.pairs → x ≤ 15 → spot_of s.pairs v e x + 16 ≤ length store
unfolding spot_of
spot-room s store v e x g some most h k =
    let z : suc (v - 1) ≡ v = omega arith in
    omega (arith, g.room, suc-mul (v - 1) s.pairs, ap (λ n. n * s.pairs) z, mul-le-mul_right s.pairs most)

-- the other line is not the line of the lower arms
pub beside_of : (s : Strips) (arms : Arms) (x : ℕ) → Turning s arms → arms.after < x → x < arms.before → (x < arms.line) ⊎ (arms.line < x)
beside_of s arms x t h k = go t.beside
  where
    go : (arms.before ≤ arms.line) ⊎ (arms.line ≤ arms.after) → (x < arms.line) ⊎ (arms.line < x)
    go (inl z) = inl (omega arith)
    go (inr z) = inr (omega arith)

-- the number of a pair of y lines
pub pair_in : (s : Strips) (store : List ℕ) (b d e : ℕ) → Ground s store → b < d → d ≤ s.rows → e ≡ pair_no s.rows b d → e < s.pairs
pair_in s store b d e g h k z = omega (arith, pair-below s.rows b d h k, g.pairs-all)

pub inner_room : (s : Strips) (store : List ℕ) (line x e : ℕ) → Ground s store → (x < line) ⊎ (line < x) → line < s.width → x < s.width → e < s.pairs
    → inner_at s.pairs line x e + 16 ≤ length store
inner_room s store line x e g (inl z) h k i =
    omega (arith, inner-low s.pairs line x e z, spot-room s store (line - x) e x g (omega arith) (omega arith) i (omega (arith, g.width-most)))
inner_room s store line x e g (inr z) h k i =
    omega (arith, inner-high s.pairs line x e z, spot-room s store (x - line) e line g (omega arith) (omega arith) i (omega (arith, g.width-most)))

-- one other line more
module _ (store : List ℕ) (s : Strips) (arms : Arms) (d lanes x left right inner near far middle : ℕ) (turning : Turning s arms)
    (near-at : near ≡ pair_no s.rows arms.near d) (far_at : far ≡ pair_no s.rows arms.far d) (middle-at : middle ≡ pair_no s.rows arms.low arms.high)
    (left_at : left ≡ spot_of s.pairs x near 0) (right-at : right ≡ spot_of s.pairs (s.width - x) far x) (inner-is : inner ≡ inner_at s.pairs arms.line x middle)
    (after : arms.after < x) (before : x < arms.before) (fits : FitsAt store s arms d) where
  rest_sum : (a : ℕ) → a < s.count
      → wrapped (get_or store (left + a) 0) (get_or store (right + a) 0) (get_or store (inner + a) 0) ≡ rest_at store s arms d a x
  unfolding rest_at FitsAt
  rest_sum a h =
      let l = ap (λ i. get_or store (i + a) 0) (left_at ∙ ap (λ n. spot_of s.pairs x n 0) near-at) in
      let r = ap (λ i. get_or store (i + a) 0) (right-at ∙ ap (λ n. spot_of s.pairs (s.width - x) n x) far_at) in
      let i = ap (λ i. get_or store (i + a) 0) (inner-is ∙ ap (inner_at s.pairs arms.line x) middle-at) in
      let f = fits 0 a x turning.low-some h after before in
      let e = wrapped-fits (get_or store (left + a) 0) (get_or store (right + a) 0) (get_or store (inner + a) 0) (omega (arith, l, r, i, f)) in
      omega (arith, e, l, r, i)

  pub lines_more : (start best made : List ℕ) → Wrote (gathered best store left right inner) 0 lanes best made
      → LeastRest store s arms d lanes x start best
      → LeastRest store s arms d lanes (x + 1) start made
  unfolding gathered LeastRest
  lines_more start best made w l a i j =
      let z : 0 + a ≡ a = omega arith in
      let e : get_or made a 0 ≡ min (get_or best a 0) (rest_at store s arms d a x) =
      sym (ap (λ k. get_or made k 0) z) ∙ w.made a i ∙ ap (min (get_or best a 0)) (rest_sum a j) in
      subst (Lowest (rest_at store s arms d a) arms.after (x + 1) (get_or start a 0)) (sym e)
      (lowest-more (rest_at store s arms d a) arms.after x (get_or start a 0) (get_or best a 0) (rest_at store s arms d a x) after refl (l a i j))

pub lines_none : (store best : List ℕ) (s : Strips) (arms : Arms) (d lanes : ℕ) → LeastRest store s arms d lanes (arms.after + 1) best best
unfolding LeastRest
lines_none store best s arms d lanes a i j = lowest-none (rest_at store s arms d a) arms.after (get_or best a 0)

pub lines_end : (store start best : List ℕ) (s : Strips) (arms : Arms) (d lanes x : ℕ) → x ≤ arms.before → arms.before ≤ x
    → LeastRest store s arms d lanes x start best
    → LeastRest store s arms d lanes arms.before start best
lines_end store start best s arms d lanes x h k l = subst (λ y. LeastRest store s arms d lanes y start best) (omega arith) l

-- the lower arms from one low line
module _ (store best : List ℕ) (s : Strips) (arms : Arms) (d lanes b left right near far : ℕ)
    (near-at : near ≡ pair_no s.rows b arms.near) (far_at : far ≡ pair_no s.rows b arms.far)
    (left_at : left ≡ spot_of s.pairs arms.line near 0) (right-at : right ≡ spot_of s.pairs (s.width - arms.line) far arms.line)
    (h : b < arms.low) (fits : StartsFit store s arms best) where
  start_sum : (sums made : List ℕ) → Wrote (joined store left right best) 0 lanes sums made
      → (a : ℕ) → a < lanes → a < s.count → get_or made a 0 ≡ arm_at store s arms b a + get_or best a 0
  unfolding arm_at joined StartsFit
  start_sum sums made w a i k =
      let z : 0 + a ≡ a = omega arith in
      let l = ap (λ i. get_or store (i + a) 0) (left_at ∙ ap (λ n. spot_of s.pairs arms.line n 0) near-at) in
      let r = ap (λ i. get_or store (i + a) 0) (right-at ∙ ap (λ n. spot_of s.pairs (s.width - arms.line) n arms.line) far_at) in
      let e = wrapped-fits (get_or store (left + a) 0) (get_or store (right + a) 0) (get_or best a 0) (omega (arith, l, r, fits b a h k)) in
      omega (arith, sym (ap (λ k. get_or made k 0) z) ∙ w.made a i ∙ e, l, r)

  pub start-more : (piece at : ℕ) (sums made side₀ side low : List ℕ) → piece ≡ pair_no s.rows b d → at ≡ 16 * piece → s.count ≤ lanes → lanes ≤ 16
      → Wrote (joined store left right best) 0 lanes sums made → Wrote (lowered side at made) at lanes side low
      → Weighed s.count (Among 0 b (StartAt store s arms d best)) side₀ side
      → Weighed s.count (Among 0 (b + 1) (StartAt store s arms d best)) side₀ low
  unfolding StartAt
  start-more piece at sums made side₀ side low pe ae hn hl w z k =
      among-more s.count 0 b (StartAt store s arms d best) side₀ side low (omega arith) k
      (weighed_as s.count (λ e a v. (e ≡ piece) × (v ≡ get_or made a 0)) (StartAt store s arms d best b) side low
      (λ e a v h q. (q.0 ∙ pe, q.1 ∙ start_sum sums made w a (omega arith) h))
      (λ e a v h q. (q.0 ∙ sym pe, q.1 ∙ sym (start_sum sums made w a (omega arith) h)))
      (weighed-lower s.count lanes at piece made side low hn hl ae z))

-- one height line
module _ (store start best : List ℕ) (s : Strips) (arms : Arms) (d : ℕ) (some : arms.after + 1 < arms.before) (fits : FitsAt store s arms d)
    (lanes : ℕ) (enough : s.count ≤ lanes) (fresh : (a : ℕ) → a < s.count → get_or start a 0 ≡ uncut) (least : LeastRest store s arms d lanes arms.before start best) where
  pub start_fits : StartsFit store s arms best
  unfolding FitsAt LeastRest StartsFit
  start_fits b a h k = omega (arith, (least a (omega arith) k).each (arms.after + 1) (omega arith) some, fits b a (arms.after + 1) h k (omega arith) some)

  pub wheels-weighed : (side low : List ℕ) → 0 < arms.low → Weighed s.count (Among 0 arms.low (StartAt store s arms d best)) side low → Weighed s.count (EndsAt store s arms d) side low
  unfolding StartAt WheelsFrom EndsAt FitsAt LeastRest
  wheels-weighed side low h w =
      weighed-least s.count 0 arms.low arms.after arms.before (λ a. get_or start a 0) (λ b. pair_no s.rows b d) (arm_at store s arms) (λ a. get_or best a 0) (rest_at store s arms d) side low some (λ a k. least a (omega arith) k)
      (λ a k. omega (arith, fresh a k, fits 0 a (arms.after + 1) h k (omega arith) some))
      w
