-- To believe: what the two calls promise, the scope's numbers and what the lent memory holds, for all inputs.
--
--   WriteSaid            == what writing tells: number, the bytes written, and the buffer afterwards
--   unwritten n out      == refused by the number n: nothing is written
--   written_to out b      == the bytes b at the front of the buffer, or 14 where they do not fit
--   cif_written l out     == writing the shot list l: 21, 14, or its text
--   write_told            == the same for each case of the answer
--   ReadSaid             == what reading tells: number, shots, the offset of the first line at fault, and the list afterwards
--   said n k o u         == these four
--   ReadSays s list t    == t is what reading the text s to the list may tell: the shots whose text it is, or 14 where they do not fit; or
--                           22 with the offset of the first line at fault
--   read_told             == what each case of the answer tells
use Rattle.std.specs.Prelude.{ℕ, ◌*◌, ◌<◌, ◌≤◌, ◌≡◌, cond, List, ◌++◌, length, drop, leb, Result, Ok, Err}
use Rattle.sum.specs.Sum.{All}
use Rattle.refusal.specs.declared.Refusal.{Refusal}
use Rattle.refusal.specs.declared.Fault.{Fault}
use Rattle.refusal.specs.declared.Refusal.TheVariants as because
use Rattle.refusal.specs.Refusals.{refusal_no}
use Rattle.shot.specs.Shot.{Shot, numbers}
use Rattle.shot.specs.Bad.{bad_shots}
use Rattle.cif.specs.Text.{cif_text, cif_bytes, Fit}
use Rattle.cif.specs.Faults.{FaultAt}

-- write

pub record WriteSaid : Type 0 where
  pub number : ℕ
  pub bytes : ℕ
  pub out : List ℕ

abbrev pub unwritten : ℕ → List ℕ → WriteSaid
unwritten n out = record { number = n; bytes = 0; out = out }

abbrev pub written_to : List ℕ → List ℕ → WriteSaid
written_to out b =
    cond (leb (length b) (length out))
    (record { number = 0; bytes = length b; out = b ++ drop (length b) out })
    (unwritten (refusal_no because.Room) out)

unfoldable pub cif_written : List ℕ → List ℕ → WriteSaid
cif_written l out = cond (bad_shots l) (unwritten (refusal_no because.Shots) out) (written_to out (cif_bytes l))

abbrev pub write_told : Result ℕ Refusal → List ℕ → WriteSaid
write_told (Ok n) out = record { number = 0; bytes = n; out = out }
write_told (Err why) out = unwritten (refusal_no why) out

-- read

pub record ReadSaid : Type 0 where
  pub number : ℕ
  pub shots : ℕ
  pub offset : ℕ
  pub list : List ℕ

abbrev pub said : ℕ → ℕ → ℕ → List ℕ → ReadSaid
said n k o u = record { number = n; shots = k; offset = o; list = u }

pub data ReadSays (s list : List ℕ) : ReadSaid → Type 0 where
  -- the text of these shots, which are at the front of the list, the rest as it came in
  shots : {n : ℕ} {u : List ℕ} (l : List Shot) → All Fit l → s ≡ cif_text l → 4 * length l ≤ length list → n ≡ length l
      → u ≡ numbers l ++ drop (4 * length l) list → ReadSays s list (said 0 n 0 u)
  -- the text of these shots, and the list is too short for them
  room : {u : List ℕ} (l : List Shot) → All Fit l → s ≡ cif_text l → length list < 4 * length l → u ≡ list
      → ReadSays s list (said (refusal_no because.Room) 0 0 u)
  -- a line at fault
  line : {u : List ℕ} (o : ℕ) → FaultAt s o → u ≡ list → ReadSays s list (said (refusal_no because.Text) 0 o u)

abbrev pub read_told : Result ℕ Fault → List ℕ → ReadSaid
read_told (Ok n) u = said 0 n 0 u
read_told (Err f) u = said (refusal_no f.why) 0 f.at u
