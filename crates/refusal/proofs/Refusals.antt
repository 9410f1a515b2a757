-- Laws of the table of refusal numbers. Assumes nothing.
--
--   refusal-one    == the numbers tell the refusals apart
--   refusal-some, never == none is 0, which says that nothing is wrong
--   told_as        == what an answer tells, where a match has found which case it is
use Prim.Native.Nat.{ℕ, ◌≤◌}
use mathlib.Core.Path.{◌≡◌, refl, sym, ◌∙◌, ap}
use mathlib.Core.List.{[], ◌∷◌}
use native.Mathlib.Omega.{arith}
use lib.ListN.{get_or}
use Rattle.refusal.specs.declared.Refusal.{Refusal}
use Rattle.refusal.specs.declared.Refusal.TheVariants.{Rule, Length, Slanted, Unturned, Empty, Table, List as ShotList, Ends, Padded, Range, Extra, Long, Missing, Room, Preset, Record, Unclosed, Extent, Largest, Full, Shots, Text, Edge}
use Rattle.refusal.specs.Refusals.{refusal_no}

-- the refusal of a number; 0 and what lies past the table stand for the first
of_number : ℕ → Refusal
of_number n =
    get_or
    (Rule ∷ Rule ∷ Length ∷ Slanted ∷ Unturned ∷ Empty ∷ Table ∷ ShotList ∷ Ends ∷ Padded ∷ Range ∷ Extra ∷ Long ∷ Missing ∷ Room ∷ Preset ∷ Record ∷ Unclosed ∷ Extent ∷ Largest ∷ Full ∷ Shots ∷ Text ∷ Edge ∷ [])
    n
    Rule

back : (r : Refusal) → of_number (refusal_no r) ≡ r
unfolding of_number
back Rule = refl
back Length = refl
back Slanted = refl
back Unturned = refl
back Empty = refl
back Table = refl
back ShotList = refl
back Ends = refl
back Padded = refl
back Range = refl
back Extra = refl
back Long = refl
back Missing = refl
back Room = refl
back Preset = refl
back Record = refl
back Unclosed = refl
back Extent = refl
back Largest = refl
back Full = refl
back Shots = refl
back Text = refl
back Edge = refl

pub refusal-one : (r t : Refusal) → refusal_no r ≡ refusal_no t → r ≡ t
refusal-one r t e = sym (back r) ∙ ap of_number e ∙ back t

pub refusal-some : (r : Refusal) → 1 ≤ refusal_no r
refusal-some Rule = omega arith
refusal-some Length = omega arith
refusal-some Slanted = omega arith
refusal-some Unturned = omega arith
refusal-some Empty = omega arith
refusal-some Table = omega arith
refusal-some ShotList = omega arith
refusal-some Ends = omega arith
refusal-some Padded = omega arith
refusal-some Range = omega arith
refusal-some Extra = omega arith
refusal-some Long = omega arith
refusal-some Missing = omega arith
refusal-some Room = omega arith
refusal-some Preset = omega arith
refusal-some Record = omega arith
refusal-some Unclosed = omega arith
refusal-some Extent = omega arith
refusal-some Largest = omega arith
refusal-some Full = omega arith
refusal-some Shots = omega arith
refusal-some Text = omega arith
refusal-some Edge = omega arith

pub never : (r : Refusal) → 0 ≡ refusal_no r → ⊥
never r e = omega (arith, refusal-some r, e)

-- what an answer tells, where a match has found which case it is
pub told_as : {A B : Type 0} (tell : A → B) {r x : A} {b : B} → r ≡ x → tell r ≡ b → tell x ≡ b
told_as tell found told = sym (ap tell found) ∙ told
