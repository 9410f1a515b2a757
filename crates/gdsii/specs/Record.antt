-- To believe: the records of one boundary element of the GDSII stream format, in order, the first record at fault deciding.
-- A record is its length in bytes (two bytes, high first, all of the record counted), its type, its data type, and its content.
-- The offset beside a fault is that of the record cut short for 8, and 0 for every other.
--
--   reached at, ends at, wrong == a step that got to the place; 8, with the offset of the record cut short; 16
--   pair_at s at              == the two bytes at a place as a number, high first
--   size_at s at              == the length that the record at the place announces
--   short s at               == 8: the bytes end within the record at the place
--   typed s at kind          == the record at the place has this type
--   is s at kind form size   == the record at the place has this type, this data type and this length
--   required s at kind form size
--                            == past a record that has to stand at the place: 8, then 16
--   optional s at kind form size
--                            == past a record that may stand at the place; before a record of another type, still there
--   heading s                == BOUNDARY, and ELFLAGS and PLEX where they stand
--   layering s at            == LAYER and DATATYPE
--   Run                      == where the first point stands, and how many points there are, eight bytes each
--   end_of run                == the place past the last point
--   count_at s at, run_at s at == how many points the record at the place has room for, and these points
--   xy s at                  == XY: at least one point, and whole points only
--   ending s at              == ENDEL, and no byte after it: 16
--   body s at                == the points at the place, and the end of the element after them
--   element s                == the points of a whole element, with the place past them
use Rattle.std.specs.Prelude.{ℕ, ◌+◌, ◌*◌, ◌-◌, ◌/◌, Bool, cond, ◌&&◌, ◌||◌, List, ltb, eqb, length, get_or}
use Rattle.refusal.specs.declared.Refusal.TheVariants as because
use Rattle.number.specs.Reading.{Reading, read, fault, and_then}
use Rattle.gdsii.specs.declared.stream.Run.{Run}

abbrev pub reached : ℕ → Reading (Unit {0})
reached at = read tt at

abbrev pub ends : {A : Type 0} → ℕ → Reading A
ends at = fault because.Ends at

abbrev pub wrong : {A : Type 0} → Reading A
wrong = fault because.Record 0

module _ (s : List ℕ) (at : ℕ) where
  unfoldable pub pair_at : ℕ
  pair_at = 256 * get_or s at 0 + get_or s (at + 1) 0

  abbrev pub size_at : ℕ
  size_at = pair_at

  unfoldable pub short : Bool
  short = ltb (length s) (at + 4) || ltb (length s) (at + size_at)

  unfoldable pub typed : ℕ → Bool
  typed kind = eqb (get_or s (at + 2) 0) kind

  module _ (kind form size : ℕ) where
    unfoldable pub is : Bool
    is = typed kind && (eqb (get_or s (at + 3) 0) form && eqb size_at size)

    unfoldable pub required : Reading (Unit {0})
    required = cond short (ends at) (cond is (reached (at + size)) wrong)

    unfoldable pub optional : Reading (Unit {0})
    optional = cond short (ends at) (cond (typed kind) required (reached at))

-- BOUNDARY is 08 00, ELFLAGS 26 01, PLEX 2F 03
unfoldable pub heading : List ℕ → Reading (Unit {0})
heading s =
    and_then (required s 0 8 0 4) (λ b next. and_then (optional s next 38 1 6) (λ e after. optional s after 47 3 8))

-- LAYER is 0D 02, DATATYPE 0E 02
unfoldable pub layering : List ℕ → ℕ → Reading (Unit {0})
layering s at = and_then (required s at 13 2 6) (λ l next. required s next 14 2 6)

abbrev pub end_of : Run → ℕ
end_of run = run.first + 8 * run.count

unfoldable pub count_at : List ℕ → ℕ → ℕ
count_at s at = (size_at s at - 4) / 8

abbrev pub run_at : List ℕ → ℕ → Run
run_at s at = record { first = at + 4; count = count_at s at }

-- XY is 10 03
unfoldable pub xy : List ℕ → ℕ → Reading Run
xy s at =
    cond (short s at) (ends at)
    (cond (ltb 0 (count_at s at) && is s at 16 3 (4 + 8 * count_at s at)) (read (run_at s at) (end_of (run_at s at))) wrong)

-- ENDEL is 11 00
unfoldable pub ending : List ℕ → ℕ → Reading (Unit {0})
ending s at = and_then (required s at 17 0 4) (λ e last. cond (eqb last (length s)) (reached last) wrong)

unfoldable pub body : List ℕ → ℕ → Reading Run
body s at = and_then (xy s at) (λ run next. and_then (ending s next) (λ e last. read run next))

unfoldable pub element : List ℕ → Reading Run
element s = and_then (heading s) (λ h next. and_then (layering s next) (λ l at. body s at))
