-- Which number each call gives, exactly when, said of the list, the text and the lengths alone. Assumes nothing.
--
--   shots_exactly    == writing is refused by 21 exactly when the list is bad in the scope's words, place by place
--   space_exactly    == by 14 exactly when the list is good and its text is longer than the buffer
--   written_exactly  == by none exactly when the list is good and its text fits
--   line_exactly     == reading is refused by 22 with the offset o exactly when the first line at fault starts at o
--   room_exactly     == by 14 exactly when the text is that of some shots, and the list is too short for their numbers
--   read_exactly     == by none exactly when the text is that of some shots, and the list has room for their numbers
--   line-told, room-told, shots-told == what else is told then
use Prim.Native.Nat.{ℕ, ◌*◌, ◌<◌, ◌≤◌}
use mathlib.Core.Path.{◌≡◌, ◌∙◌, refl, sym, ap, subst}
use mathlib.Core.Bool.{Bool, true, false, true≢false}
use mathlib.Core.Logic.{◌↔◌}
use mathlib.Core.List.{List, ◌++◌}
use native.Mathlib.Omega.{arith}
use lib.Dec.{leb}
use lib.ListN.{length, drop}
use borrow.Author.Tests.{leb-true, leb-false}
use Rattle.sum.specs.Sum.{All}
use Rattle.shot.specs.Shot.{Shot, numbers}
use Rattle.shot.specs.Bad.{bad_shots}
use Rattle.shot.proofs.Bad.{Good, Bad, good-shots, bad_shots_lem, shots_bad, shots-good}
use Rattle.cif.specs.Text.{cif_text, cif_bytes, Fit}
use Rattle.cif.specs.Faults.{FaultAt}
use Rattle.cif.specs.Calls.{WriteSaid, unwritten, cif_written, ReadSaid, said, ReadSays, shots, room, line}
use Rattle.cif.proofs.Back.{read_one}

-- writing

-- the text at the front of a buffer
abbrev pub fronted : List ℕ → List ℕ → WriteSaid
fronted b out = record { number = 0; bytes = length b; out = b ++ drop (length b) out }

module _ (l out : List ℕ) where
  pub data Write : Type 0 where
    bad : Bad l → cif_written l out ≡ unwritten 21 out → Write
    short : Good l → length out < length (cif_bytes l) → cif_written l out ≡ unwritten 14 out → Write
    fits : Good l → length (cif_bytes l) ≤ length out → cif_written l out ≡ fronted (cif_bytes l) out → Write

  write_by : (a b : Bool) → bad_shots l ≡ a → leb (length (cif_bytes l)) (length out) ≡ b → Write
  unfolding cif_written
  write_by true b e f = bad (bad_shots_lem l e) (simp e)
  write_by false true e f = fits (good-shots l e) (leb-true (length (cif_bytes l)) (length out) f) (simp (e, f))
  write_by false false e f = short (good-shots l e) (leb-false (length (cif_bytes l)) (length out) f) (simp (e, f))

  pub write_cases : Write
  write_cases = write_by (bad_shots l) (leb (length (cif_bytes l)) (length out)) refl refl

  number_is : {u : WriteSaid} → cif_written l out ≡ u → (cif_written l out).number ≡ u.number
  number_is e = ap (λ (u : WriteSaid). u.number) e

  never_both : Good l → Bad l → ⊥
  never_both g b = true≢false (sym (shots_bad l b) ∙ shots-good l g)

  pub shots_exactly : ((cif_written l out).number ≡ 21) ↔ Bad l
  shots_exactly = by write_cases
    where
      by : Write → ((cif_written l out).number ≡ 21) ↔ Bad l
      by (bad b e) = (λ z. b, λ c. number_is e)
      by (short g h e) = (λ z. absurd (omega (arith, z, number_is e)), λ c. absurd (never_both g c))
      by (fits g h e) = (λ z. absurd (omega (arith, z, number_is e)), λ c. absurd (never_both g c))

  pub space_exactly : ((cif_written l out).number ≡ 14) ↔ (Good l × (length out < length (cif_bytes l)))
  space_exactly = by write_cases
    where
      by : Write → ((cif_written l out).number ≡ 14) ↔ (Good l × (length out < length (cif_bytes l)))
      by (bad b e) = (λ z. absurd (omega (arith, z, number_is e)), λ c. absurd (never_both c.0 b))
      by (short g h e) = (λ z. (g, h), λ c. number_is e)
      by (fits g h e) = (λ z. absurd (omega (arith, z, number_is e)), λ c. absurd (omega (arith, h, c.1)))

  pub written_exactly : ((cif_written l out).number ≡ 0) ↔ (Good l × (length (cif_bytes l) ≤ length out))
  written_exactly = by write_cases
    where
      by : Write → ((cif_written l out).number ≡ 0) ↔ (Good l × (length (cif_bytes l) ≤ length out))
      by (bad b e) = (λ z. absurd (omega (arith, z, number_is e)), λ c. absurd (never_both c.0 b))
      by (short g h e) = (λ z. absurd (omega (arith, z, number_is e)), λ c. absurd (omega (arith, h, c.1)))
      by (fits g h e) = (λ z. (g, h), λ c. number_is e)

-- reading

module _ (s list : List ℕ) (t : ReadSaid) (r : ReadSays s list t) where
  pub line-told : (o : ℕ) → FaultAt s o → t ≡ said 22 0 o list
  line-told o f = read_one s list t (said 22 0 o list) r (line o f refl)

  pub room-told : (l : List Shot) → All Fit l → s ≡ cif_text l → length list < 4 * length l → t ≡ said 14 0 0 list
  room-told l f e h = read_one s list t (said 14 0 0 list) r (room l f e h refl)

  pub shots-told : (l : List Shot) → All Fit l → s ≡ cif_text l → 4 * length l ≤ length list
      → t ≡ said 0 (length l) 0 (numbers l ++ drop (4 * length l) list)
  shots-told l f e h = read_one s list t _ r (shots l f e h refl refl)

line-only : (s list : List ℕ) (t : ReadSaid) → ReadSays s list t → t.number ≡ 22 → FaultAt s t.offset
line-only s list t (shots l f e h k v) z = absurd (omega arith)
line-only s list t (room l f e h v) z = absurd (omega arith)
line-only s list t (line o f v) z = f

room-only : (s list : List ℕ) (t : ReadSaid) → ReadSays s list t → t.number ≡ 14
    → (l : List Shot) × All Fit l × (s ≡ cif_text l) × (length list < 4 * length l)
room-only s list t (shots l f e h k v) z = absurd (omega arith)
room-only s list t (room l f e h v) z = (l, f, e, h)
room-only s list t (line o f v) z = absurd (omega arith)

shots-only : (s list : List ℕ) (t : ReadSaid) → ReadSays s list t → t.number ≡ 0
    → (l : List Shot) × All Fit l × (s ≡ cif_text l) × (4 * length l ≤ length list)
shots-only s list t (shots l f e h k v) z = (l, f, e, h)
shots-only s list t (room l f e h v) z = absurd (omega arith)
shots-only s list t (line o f v) z = absurd (omega arith)

module _ (s list : List ℕ) (t : ReadSaid) (r : ReadSays s list t) where
  pub line_exactly : (o : ℕ) → ((t.number ≡ 22) × (t.offset ≡ o)) ↔ FaultAt s o
  line_exactly o = (
    (λ z. subst (λ p. FaultAt s p) z.1 (line-only s list t r z.0)),
    λ f. let e = line-told s list t r o f in (ap (λ (u : ReadSaid). u.number) e, ap (λ (u : ReadSaid). u.offset) e),
  )

  pub room_exactly : (t.number ≡ 14) ↔ ((l : List Shot) × All Fit l × (s ≡ cif_text l) × (length list < 4 * length l))
  room_exactly = (
    room-only s list t r,
    λ p. ap (λ (u : ReadSaid). u.number) (room-told s list t r p.0 p.1 p.2 p.3),
  )

  pub read_exactly : (t.number ≡ 0) ↔ ((l : List Shot) × All Fit l × (s ≡ cif_text l) × (4 * length l ≤ length list))
  read_exactly = (
    shots-only s list t r,
    λ p. ap (λ (u : ReadSaid). u.number) (shots-told s list t r p.0 p.1 p.2 p.3),
  )
