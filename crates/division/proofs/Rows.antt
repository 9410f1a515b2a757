-- Worked rows: shots divided, the ends of the range, the full square, and the block with a nose from drawing to list. Assumes nothing.
--
--   parts-rows         == five shots by a largest side of 200 nm: three parts of 500 nm, 134, 134 and 133 of 401, two rows of three, four of
--                         a square of 201, and one that has exactly 200
--   full-square        == the full square of 65,535 nm has 107,584 parts at 200 nm, more than 16 bits count
--   range-rows         == the ends of the range of the largest side, by thresholds of 25, 101, 1,000 and 0 nm
--   nose_200, nose_210 == the block with a nose by 25 nm and 40: at 200 nm four shots, cost 4,000; at 210 nm three, as without
use Prim.Native.Nat.{ℕ, ◌*◌, ◌≤◌}
use mathlib.Core.Path.{◌≡◌, refl, sym, ◌∙◌, ap}
use mathlib.Core.Bool.{true, false}
use mathlib.Core.List.{List, [], ◌∷◌}
use native.Mathlib.Omega.{arith}
use lib.ListN.{length, take}
use Rattle.sum.specs.Sum.{join}
use Rattle.rule.specs.Rules.{in_range}
use Rattle.shot.specs.Shot.{Shot, numbers, shots_in}
use Rattle.shot.specs.Bad.{shot_of}
use Rattle.shot.proofs.Shot.{numbers-length}
use Rattle.piece.specs.declared.Mode.TheVariants.{Straight}
use Rattle.piece.specs.Cuts.{run}
use Rattle.demands.specs.Promise.{Asked, Outcome, written, outcome}
use Rattle.demands.specs.Demands.{reported}
use Rattle.demands.specs.Rows.{B}
use Rattle.demands.proofs.Outcome.{written-front}
use Rattle.demands.proofs.Rows.{rows-hold}
use Rattle.division.specs.Division.{part_count, start, part, divided, product}
use Rattle.division.specs.Promise.{bad_largest, aside, parts, divided_outcome}
use Rattle.division.proofs.Outcome.{room-aside, done_of, outcome-after, after-done}

pub parts-rows :
    (divided 200 (shot_of 0 0 500 20) ≡ shot_of 0 0 167 20 ∷ shot_of 167 0 334 20 ∷ shot_of 334 0 500 20 ∷ [])
    × (divided 200 (shot_of 0 0 401 10) ≡ shot_of 0 0 134 10 ∷ shot_of 134 0 268 10 ∷ shot_of 268 0 401 10 ∷ [])
    × (divided 200 (shot_of 5 7 407 209)
    ≡ shot_of 5 7 139 108 ∷ shot_of 139 7 273 108 ∷ shot_of 273 7 407 108
    ∷ shot_of 5 108 139 209 ∷ shot_of 139 108 273 209 ∷ shot_of 273 108 407 209 ∷ [])
    × (divided 200 (shot_of 0 0 201 201) ≡ shot_of 0 0 101 101 ∷ shot_of 101 0 201 101 ∷ shot_of 0 101 101 201 ∷ shot_of 101 101 201 201 ∷ [])
    × (divided 200 (shot_of 0 0 200 200) ≡ shot_of 0 0 200 200 ∷ [])
unfolding divided part start part_count run join
parts-rows = (refl, refl, refl, refl, refl)

pub full-square : product 200 (shot_of 0 0 65535 65535) ≡ 107584
unfolding product part_count
full-square = refl

pub range-rows :
    (bad_largest 25 199 ≡ true) × (bad_largest 25 200 ≡ false) × (bad_largest 101 201 ≡ true) × (bad_largest 101 202 ≡ false)
    × (bad_largest 1000 1999 ≡ true) × (bad_largest 1000 2000 ≡ false) × (bad_largest 0 65535 ≡ false) × (bad_largest 0 65536 ≡ true)
unfolding bad_largest
range-rows = (refl, refl, refl, refl, refl, refl, refl, refl)

-- the block with a nose, before division
nose_before : (ask : Asked) → ask.mode ≡ Straight → ask.figure ≡ B → ask.threshold ≡ 25 → ask.weight ≡ 40 → 14400 ≤ length ask.table
    → ((outcome (aside ask)).number ≡ 0) × ((outcome (aside ask)).sliver ≡ 0)
    × (reported (outcome (aside ask)) ≡ shot_of 0 0 200 50 ∷ shot_of 0 50 210 150 ∷ shot_of 0 150 200 200 ∷ [])
unfolding in_range reported shots_in
nose_before ask mode of t w room =
    let says = rows-hold.1.1.0 (aside ask) mode of (t, w) (rw (t, w)) room (omega (arith, room-aside)) in
    (says.number, says.sliver, ap shots_in says.list)

-- what is listed where the parts before division are known
nose_listed : (ask : Asked) (m : ℕ) (l : List Shot) → ask.mode ≡ Straight → ask.figure ≡ B → ask.threshold ≡ 25 → ask.weight ≡ 40
    → 14400 ≤ length ask.table → 4 * length l ≤ length ask.list → bad_largest 25 m ≡ false
    → join (divided m) (shot_of 0 0 200 50 ∷ shot_of 0 50 210 150 ∷ shot_of 0 150 200 200 ∷ []) ≡ l
    → ((divided_outcome ask m).number ≡ 0) × ((divided_outcome ask m).shots ≡ length l) × ((divided_outcome ask m).cost ≡ 1000 * length l)
    × ((divided_outcome ask m).sliver ≡ 0) × (take (4 * length l) (divided_outcome ask m).list ≡ numbers l)
unfolding done_of parts in_range
nose_listed ask m l mode of t w room fits good e =
    let b = nose_before ask mode of t w room in
    let all : join (divided m) (reported (outcome (aside ask))) ≡ l = ap (join (divided m)) b.2 ∙ e in
    let q =
    outcome-after ask m (rw (t, w)) (ap (λ t. bad_largest t m) t ∙ good) ∙ after-done ask m b.0 (omega (arith, ap length all)) in (
      ap (λ (o : Outcome). o.number) q,
      ap (λ (o : Outcome). o.shots) q ∙ ap length all,
      ap (λ (o : Outcome). o.cost) q ∙ omega (arith, ap length all, ap (λ v. ask.weight * v) b.1),
      ap (λ (o : Outcome). o.sliver) q ∙ b.1,
      ap (λ (o : Outcome). take (4 * length l) o.list) q
          ∙ ap (λ (n : ℕ). take n (written (numbers (join (divided m) (reported (outcome (aside ask))))) ask.list)) (sym (numbers-length l) ∙ ap (λ l. length (numbers l)) (sym all))
          ∙ written-front (numbers (join (divided m) (reported (outcome (aside ask))))) ask.list
          ∙ ap numbers all,
    )

module _ (ask : Asked) (mode : ask.mode ≡ Straight) (of : ask.figure ≡ B) (t : ask.threshold ≡ 25) (w : ask.weight ≡ 40)
    (room : 14400 ≤ length ask.table) where
  pub nose_200 : 16 ≤ length ask.list
      → ((divided_outcome ask 200).number ≡ 0) × ((divided_outcome ask 200).shots ≡ 4) × ((divided_outcome ask 200).cost ≡ 4000)
      × ((divided_outcome ask 200).sliver ≡ 0)
      × (take 16 (divided_outcome ask 200).list
      ≡ 0 ∷ 0 ∷ 200 ∷ 50 ∷ 0 ∷ 50 ∷ 105 ∷ 150 ∷ 105 ∷ 50 ∷ 210 ∷ 150 ∷ 0 ∷ 150 ∷ 200 ∷ 200 ∷ [])
  unfolding divided part start part_count run join numbers bad_largest
  nose_200 fits =
      nose_listed ask 200 (shot_of 0 0 200 50 ∷ shot_of 0 50 105 150 ∷ shot_of 105 50 210 150 ∷ shot_of 0 150 200 200 ∷ []) mode of t w room fits refl refl

  pub nose_210 : 12 ≤ length ask.list
      → ((divided_outcome ask 210).number ≡ 0) × ((divided_outcome ask 210).shots ≡ 3) × ((divided_outcome ask 210).cost ≡ 3000)
      × ((divided_outcome ask 210).sliver ≡ 0)
      × (take 12 (divided_outcome ask 210).list ≡ 0 ∷ 0 ∷ 200 ∷ 50 ∷ 0 ∷ 50 ∷ 210 ∷ 150 ∷ 0 ∷ 150 ∷ 200 ∷ 200 ∷ [])
  unfolding divided part start part_count run join numbers bad_largest
  nose_210 fits =
      nose_listed ask 210 (shot_of 0 0 200 50 ∷ shot_of 0 50 210 150 ∷ shot_of 0 150 200 200 ∷ []) mode of t w room fits refl refl
