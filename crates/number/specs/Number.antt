-- To believe: the number of a job, groups of seven bits, lowest group first, one to a byte; the top bit is set on every byte but
-- the last. It has the fewest bytes possible and at most three.
--
--   most             == the highest number that three groups of seven bits hold
--   number_bytes n    == the bytes of the number n: the fewest groups that hold it
--   number s at      == what reading a number of the bytes s at a place finds, by its first byte, its second and its third
--   read_told         == what each case of the reader's answer tells
use Rattle.std.specs.Prelude.{ℕ, ◌+◌, ◌-◌, ◌*◌, ◌/◌, ◌%◌, List, [], ◌∷◌, cond, length, get_or, ltb, leb, eqb, Result, Ok, Err}
use Rattle.refusal.specs.declared.Refusal.TheVariants.{Ends, Padded, Range}
use Rattle.refusal.specs.declared.Fault.{Fault}
use Rattle.number.specs.declared.Read.{Read}
use Rattle.number.specs.Reading.{Reading, read, fault}

abbrev pub most : ℕ
most = 2097151

unfoldable pub number_bytes : ℕ → List ℕ
number_bytes n =
    cond (ltb n 128) (n ∷ [])
    (cond (ltb n 16384) ((128 + n % 128) ∷ n / 128 ∷ [])
    ((128 + n % 128) ∷ (128 + n / 128 % 128) ∷ n / 16384 ∷ []))

-- the number at a place, of one byte, two, or three; a fault's offset is the byte at fault: the end of the bytes where they end, also
-- for a place past it, else the last byte read
unfoldable pub number : List ℕ → ℕ → Reading ℕ
number s at =
    cond (leb (length s) at) (fault Ends (length s))
    (cond (ltb (get_or s at 0) 128) (read (get_or s at 0) (at + 1))
    (cond (leb (length s) (at + 1)) (fault Ends (length s))
    (cond (eqb (get_or s (at + 1) 0) 0) (fault Padded (at + 1))
    (cond (ltb (get_or s (at + 1) 0) 128) (read ((get_or s at 0 - 128) + 128 * get_or s (at + 1) 0) (at + 2))
    (cond (leb (length s) (at + 2)) (fault Ends (length s))
    (cond (leb 128 (get_or s (at + 2) 0)) (fault Range (at + 2))
    (cond (eqb (get_or s (at + 2) 0) 0) (fault Padded (at + 2))
    (read ((get_or s at 0 - 128) + 128 * (get_or s (at + 1) 0 - 128) + 16384 * get_or s (at + 2) 0) (at + 3)))))))))

abbrev pub read_told : Result Read Fault → Reading ℕ
read_told (Ok r) = read r.value r.next.at
read_told (Err e) = fault e.why e.at
