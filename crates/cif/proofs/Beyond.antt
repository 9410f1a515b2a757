-- Behind what is written everything is as it came in, place by place, and all of it beside a refusal. Assumes nothing.
--
--   Kept before after n k == what a call that told n left of a lent list: the places behind its first k as they came in, all of them
--                       beside a refusal, and its length
--   written-beyond   == that holds of the buffer of `write`, behind the bytes written
--   read-beyond      == and of the list of `read`, behind four numbers for each shot
--   written_read     == what `write` left at the front of its buffer is read back to the list that it was handed
use Prim.Native.Nat.{ℕ, ◌+◌, ◌-◌, ◌*◌, ◌/◌, ◌≤◌}
use mathlib.Core.Path.{◌≡◌, ◌∙◌, refl, sym, ap, subst}
use mathlib.Core.List.{List, ◌++◌}
use native.Mathlib.Omega.{arith}
use lib.ListN.{length, get_or, take, drop, length-append, length-drop}
use lib.Seq.{get_or-append-add, get_or-drop, take_at}
use Rattle.shot.specs.Shot.{numbers}
use Rattle.shot.proofs.Shot.{numbers-length}
use Rattle.shot.proofs.Bad.{shots-good}
use Rattle.cif.specs.Text.{cif_bytes}
use Rattle.cif.specs.Calls.{WriteSaid, cif_written, ReadSaid, said, ReadSays, shots, room, line}
use Rattle.cif.proofs.Back.{cif_back}
use Rattle.cif.proofs.Exactly.{Write, bad, short, fits, write_cases}

pub record Kept (before after : List ℕ) (number count : ℕ) : Type 0 where
  pub beyond : (i d : ℕ) → count ≤ i → get_or after i d ≡ get_or before i d
  pub refused : (number ≡ 0 → ⊥) → after ≡ before
  pub same : length after ≡ length before

-- a list as it came in
untouched : (before : List ℕ) (n k : ℕ) → Kept before before n k
untouched before n k = record { beyond = λ i d h. refl; refused = λ h. refl; same = refl }

-- b at the front of a list
module _ (b before : List ℕ) where
  front-beyond : (i d : ℕ) → length b ≤ i → get_or (b ++ drop (length b) before) i d ≡ get_or before i d
  front-beyond i d h =
      let n : ℕ = i - length b in
      let z : i ≡ length b + n = omega arith in
      ap (λ k. get_or (b ++ drop (length b) before) k d) z
      ∙ get_or-append-add b (drop (length b) before) n d
      ∙ get_or-drop (length b) before n d
      ∙ ap (λ k. get_or before k d) (sym z)

  front_kept : length b ≤ length before → Kept before (b ++ drop (length b) before) 0 (length b)
  front_kept h =
      record {
        beyond = front-beyond;
        refused = λ z. absurd (z refl);
        same = omega (arith, length-append b (drop (length b) before), length-drop (length b) before);
      }

pub written-beyond : (l out : List ℕ) → Kept out (cif_written l out).out (cif_written l out).number (cif_written l out).bytes
written-beyond l out = by (write_cases l out)
  where
    told : {u : WriteSaid} → cif_written l out ≡ u → Kept out u.out u.number u.bytes
        → Kept out (cif_written l out).out (cif_written l out).number (cif_written l out).bytes
    told e k = subst (λ (u : WriteSaid). Kept out u.out u.number u.bytes) (sym e) k

    by : Write l out → Kept out (cif_written l out).out (cif_written l out).number (cif_written l out).bytes
    by (bad b e) = told e (untouched out 21 0)
    by (short g h e) = told e (untouched out 14 0)
    by (fits g h e) = told e (front_kept (cif_bytes l) out h)

pub read-beyond : (s list : List ℕ) (t : ReadSaid) → ReadSays s list t → Kept list t.list t.number (4 * t.shots)
read-beyond s list t (shots {n} {u} l f e h k v) =
    let size : length (numbers l) ≡ 4 * length l = numbers-length l in
    let same : numbers l ++ drop (length (numbers l)) list ≡ u = ap (λ m. numbers l ++ drop m list) size ∙ sym v in
    let count : length (numbers l) ≡ 4 * n = size ∙ ap (λ m. 4 * m) (sym k) in
    subst (λ m. Kept list u 0 m) count
    (subst (λ (w : List ℕ). Kept list w 0 (length (numbers l))) same (front_kept (numbers l) list (omega (arith, h, size))))
read-beyond s list t (room {u} l f e h v) = subst (λ (w : List ℕ). Kept list w 14 0) (sym v) (untouched list 14 0)
read-beyond s list t (line {u} o f v) = subst (λ (w : List ℕ). Kept list w 22 0) (sym v) (untouched list 22 0)

-- what was written is read back

pub written_read : (l out list : List ℕ) (t : ReadSaid) → ((i : ℕ) → get_or l i 0 ≤ 65535) → length l ≤ length list → (cif_written l out).number ≡ 0
    → ReadSays (take (cif_written l out).bytes (cif_written l out).out) list t → t ≡ said 0 (length l / 4) 0 (l ++ drop (length l) list)
written_read l out list t w h z r = by (write_cases l out)
  where
    by : Write l out → t ≡ said 0 (length l / 4) 0 (l ++ drop (length l) list)
    by (bad b e) = absurd (omega (arith, z, ap (λ (u : WriteSaid). u.number) e))
    by (short g k e) = absurd (omega (arith, z, ap (λ (u : WriteSaid). u.number) e))
    by (fits g k e) =
        let front : take (cif_written l out).bytes (cif_written l out).out ≡ cif_bytes l =
        ap (λ (u : WriteSaid). take u.bytes u.out) e ∙ take_at (cif_bytes l) (drop (length (cif_bytes l)) out) (length (cif_bytes l)) refl in
        cif_back l list t (shots-good l g) w h (subst (λ s. ReadSays s list t) front r)
