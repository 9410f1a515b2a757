-- Laws of the rule and its preset table. Assumes nothing.
--
--   rule-given, rule-over-threshold, rule-over-weight == the cases of `rule_told`
--   rule-made, rule-refused == what the constructor's answer says of its two numbers
--   range_true       == numbers in range are within the limit
--   preset_row, preset_past == the cases of `preset_told`
--   preset_numbers   == the four rows of the scope as numbers
--   default_numbers  == the default's threshold is 10 nm, its weight 100
--   preset_product   == weight times threshold is 1,000 in every row, by one test computed over the table
--   made_one         == two answers that tell the same are the same
use Rattle.std.specs.Prelude.{Result, Ok, Err}
use Prim.Native.Nat.{ℕ, zero, suc, ◌*◌, ◌<◌, ◌≤◌}
use mathlib.Core.Path.{◌≡◌, refl, sym, ap}
use mathlib.Core.List.{List, [], ◌∷◌}
use mathlib.Core.Bool.{Bool, true, false, cond, ◌&&◌, false≢true}
use native.Mathlib.Nat.{le_of_suc-le-suc, not-suc-le-zero}
use native.Mathlib.Omega.{arith}
use lib.Dec.{T, eqb, eqb→eq, leb}
use lib.ListN.{length, get_or}
use borrow.Author.Tests.{le-leb, lt-leb, leb-true}
use Rattle.refusal.specs.declared.Refusal.{Refusal}
use Rattle.refusal.specs.Refusals.{refusal_no}
use Rattle.refusal.proofs.Refusals.{refusal-one, refusal-some}
use Rattle.rule.specs.declared.Rule.{Rule}
use Rattle.rule.specs.Rules.{limit, in_range, Told, given, refused, rule_told, presets, row, preset_told, default_preset, made_told}

same-rule : {r s : Rule} → given r ≡ given s → r ≡ s
same-rule {r} {s} e =
    ap (λ (t : Told). record { threshold = t.threshold; weight = t.weight }) e

-- rule_told

pub rule-given : (t w : ℕ) → t ≤ limit → w ≤ limit → given (record { threshold = t; weight = w }) ≡ rule_told t w
unfolding rule_told in_range
rule-given t w h k = simp le-leb

pub rule-over-threshold : (t w : ℕ) → limit < t → refused 1 ≡ rule_told t w
unfolding rule_told in_range
rule-over-threshold t w h = simp lt-leb

pub rule-over-weight : (t w : ℕ) → t ≤ limit → limit < w → refused 1 ≡ rule_told t w
unfolding rule_told in_range
rule-over-weight t w h k = simp (le-leb, lt-leb)

-- what the constructor's answer says of the two numbers
cond-given : (b : Bool) (r s : Rule) → given r ≡ cond b (given s) (refused 1) → (b ≡ true) × (r ≡ s)
cond-given true r s e = (refl, same-rule e)
cond-given false r s e = absurd (let z : ◌≡◌ {A = ℕ} 0 1 = ap (λ (t : Told). t.number) e in omega arith)

cond-refused : (b : Bool) (s : Rule) → refused 1 ≡ cond b (given s) (refused 1) → b ≡ false
cond-refused true s e = absurd (let z : ◌≡◌ {A = ℕ} 1 0 = ap (λ (t : Told). t.number) e in omega arith)
cond-refused false s e = refl

pub rule-made : (t w : ℕ) {r : Rule} → given r ≡ rule_told t w → (in_range t w ≡ true) × (r ≡ record { threshold = t; weight = w })
unfolding rule_told
rule-made t w {r} e = cond-given (in_range t w) r _ e

pub rule-refused : (t w : ℕ) → refused 1 ≡ rule_told t w → in_range t w ≡ false
unfolding rule_told
rule-refused t w e = cond-refused (in_range t w) _ e

pub range_true : (t w : ℕ) → in_range t w ≡ true → (t ≤ limit) × (w ≤ limit)
unfolding in_range
range_true t w e = go (leb t limit) refl (leb w limit) refl e
  where
    go : (a : Bool) → leb t limit ≡ a → (b : Bool) → leb w limit ≡ b → (a && b) ≡ true → (t ≤ limit) × (w ≤ limit)
    go true p true q z = (leb-true t limit p, leb-true w limit q)
    go true p false q z = absurd (false≢true z)
    go false p b q z = absurd (false≢true z)

-- preset_told

row_at : (l : List Rule) (d : Rule) (n : ℕ) → n < length l → given (get_or l n d) ≡ row l n
row_at [] d n h = absurd (not-suc-le-zero h)
row_at (r ∷ rs) d zero h = refl
row_at (r ∷ rs) d (suc n) h = row_at rs d n (le_of_suc-le-suc h)

row-past : (l : List Rule) (n : ℕ) → length l ≤ n → refused 15 ≡ row l n
row-past [] n h = refl
row-past (r ∷ rs) zero h = absurd (not-suc-le-zero h)
row-past (r ∷ rs) (suc n) h = row-past rs n (le_of_suc-le-suc h)

pub preset_row : (n : ℕ) (d : Rule) → n < 4 → given (get_or presets n d) ≡ preset_told n
unfolding preset_told
preset_row n d h = row_at presets d n h

pub preset_past : (n : ℕ) → 4 ≤ n → refused 15 ≡ preset_told n
unfolding preset_told
preset_past n h = row-past presets n h

pub preset_numbers : (preset_told 0 ≡ given (record { threshold = 25; weight = 40 }))
    × (preset_told 1 ≡ given (record { threshold = 10; weight = 100 }))
    × (preset_told 2 ≡ given (record { threshold = 5; weight = 200 }))
    × (preset_told 3 ≡ given (record { threshold = 50; weight = 20 }))
unfolding preset_told
preset_numbers = (refl, refl, refl, refl)

pub default_numbers : preset_told default_preset ≡ given (record { threshold = 10; weight = 100 })
unfolding preset_told
default_numbers = refl

-- the table's rule

-- a test at every row
abbrev every : (Rule → Bool) → List Rule → Bool
every f [] = true
every f (r ∷ rs) = f r && every f rs

and_left : (a b : Bool) → T (a && b) → T a
and_left true b t = tt
and_left false b t = t

and_right : (a b : Bool) → T (a && b) → T b
and_right true b t = t
and_right false b t = absurd t

every_at : (f : Rule → Bool) (l : List Rule) → T (every f l) → (n : ℕ) (d : Rule) → n < length l → T (f (get_or l n d))
every_at f [] t n d h = absurd (not-suc-le-zero h)
every_at f (r ∷ rs) t zero d h = and_left (f r) (every f rs) t
every_at f (r ∷ rs) t (suc n) d h = every_at f rs (and_right (f r) (every f rs) t) n d (le_of_suc-le-suc h)

product-right : Rule → Bool
product-right r = eqb (r.weight * r.threshold) 1000

pub preset_product : (n : ℕ) (d : Rule) → n < 4 → (get_or presets n d).weight * (get_or presets n d).threshold ≡ 1000
unfolding product-right
preset_product n d h = eqb→eq _ 1000 (every_at product-right presets tt n d h)

-- two answers that tell the same are the same

-- an answer that is no refusal tells 0, and a refusal does not
given-not : (r : Rule) (why : Refusal) → given r ≡ refused (refusal_no why) → ⊥
given-not r why e =
    let z : ◌≡◌ {A = ℕ} 0 (refusal_no why) = ap (λ (t : Told). t.number) e in
    omega (arith, refusal-some why)

pub made_one : (u v : Result Rule Refusal) → made_told u ≡ made_told v → u ≡ v
made_one (Ok r) (Ok s) e = ap Ok (same-rule e)
made_one (Ok r) (Err v) e = absurd (given-not r v e)
made_one (Err u) (Ok s) e = absurd (given-not s u (sym e))
made_one (Err u) (Err v) e = ap Err (refusal-one u v (ap (λ (t : Told). t.number) e))
