-- To believe: when a boundary element is at fault, what it holds, and its ring moved to 0, in the scope's words, said of the bytes and not
-- by the reader.
--
-- Records
--   announced s at         == the length that the record at a place announces: two bytes, high first
--   CutShort s at          == the bytes end within the record at the place, or before it
--   Whole s at             == they do not
--   Want                   == a record that is wanted: one that has to stand there, one that may be left out, or XY
--   front, ending          == what is wanted before XY, and after it
--   element_wants           == what is wanted at the front of an element: all of it
--   Of s at kind form size == the record at the place has this type, this data type and this length
--   Fits s at w            == the record at the place is the wanted one
--   LeftOut s at w         == w may be left out, and the record at the place has another type
--   Legal s at ws last end == whole records stand in s from one place to the other, each as wanted; ws is wanted at the first, end at the last
--   Misplaced s at         == a whole record that is not what is wanted, or bytes after ENDEL
--   ElementFault s r o     == the first record at fault: 8 where it is cut short, with its offset; else 16, with the offset 0
--   Element s first n      == no record is at fault, and XY holds n points, the first one at the place
-- Points
--   word_of s p             == four bytes as a number, high first
--   coordinate s p         == the signed coordinate of these four bytes: from 2^31 on, the number less 2^32
--   x_of s first i, y_of s first i == x and y of point i, eight bytes each
--   Open s first n         == 17: the last point is unlike the first, in x or in y
--   Beyond c n             == of the n coordinates c, one is more than 65,535 above another
--   Extended s first n     == 18: so it is in x or in y
--   Moved c n z k l        == the n coordinates c moved to 0: the shift z plus number 2 i + k of the list l is coordinate i, and one is 0
--   Ring s first n x y l   == an element without fault, closed, of no more extent than 65,535, of 4 to 32 corners; these x, y, x, y, .. moved
--                             to 0 are the list l, and x and y the shift
-- Calls
--   drawing l n            == the figure of that one ring, asked with no rule and no memory: its conditions 2 to 5
--   plate l n table list   == its fracture by preset 0, which is threshold 25 and weight 40
--   PointsFault s r        == 17, 18 or 2 of an element that holds points
--   ReadFault s list r o   == the fault of reading: 8, 16, 17, 18, 2, then 3 to 5, then 14
--   PlateFault s table list r o == the fault of a fracture: 8, 16, 17, 18, 2, then 3 to 7
--   corners_told n x y l list == the corners at the front of the list, the rest as it came in, and the shift
--   shots_told x y o        == the outcome o of a fracture, with the shift, which is 0 beside a refusal
use Rattle.std.specs.Prelude.{ℕ, ◌+◌, ◌-◌, ◌*◌, ◌<◌, ◌≤◌, ◌≡◌, ◌⊎◌, cond, List, [], ◌∷◌, ◌++◌, ltb, eqb, length, get_or, drop, ℤ, pos, ◌+ℤ◌}
use Rattle.std.proofs.Math.IntN.{sub_ℕ}
use Rattle.refusal.specs.declared.Refusal.{Refusal}
use Rattle.refusal.specs.declared.Refusal.TheVariants as because
use Rattle.refusal.specs.Refusals.{refusal_no}
use Rattle.piece.specs.declared.Mode.TheVariants.{Straight}
use Rattle.demands.specs.Promise.{Asked, asked, Outcome}
use Rattle.demands.specs.Refusals.{Condition, First}
use Rattle.gdsii.specs.Calls.{BoundarySaid, PlateSaid}

-- Records

module _ (s : List ℕ) (at : ℕ) where
  unfoldable pub announced : ℕ
  announced = 256 * get_or s at 0 + get_or s (at + 1) 0

  abbrev pub CutShort : Type 0
  CutShort = (length s < at + 4) ⊎ (length s < at + announced)

  abbrev pub Whole : Type 0
  Whole = (at + 4 ≤ length s) × (at + announced ≤ length s)

pub data Want : Type 0 where
  -- a record of this type, this data type and this length
  must : ℕ → ℕ → ℕ → Want
  -- the same, but it may be left out
  may : ℕ → ℕ → ℕ → Want
  -- XY
  points : Want

-- ENDEL
abbrev pub ending : List Want
ending = must 17 0 4 ∷ []

-- BOUNDARY, ELFLAGS, PLEX, LAYER, DATATYPE
abbrev pub front : List Want
front = must 8 0 4 ∷ may 38 1 6 ∷ may 47 3 8 ∷ must 13 2 6 ∷ must 14 2 6 ∷ []

abbrev pub element_wants : List Want
element_wants = front ++ points ∷ ending

module _ (s : List ℕ) (at : ℕ) where
  abbrev pub Of : ℕ → ℕ → ℕ → Type 0
  Of kind form size = (get_or s (at + 2) 0 ≡ kind) × (get_or s (at + 3) 0 ≡ form) × (announced s at ≡ size)

  unfoldable pub Fits : Want → Type 0
  Fits (must kind form size) = Of kind form size
  Fits (may kind form size) = Of kind form size
  -- one point at least, and whole points only
  Fits points = (n : ℕ) × (1 ≤ n) × Of 16 3 (4 + 8 * n)

  unfoldable pub LeftOut : Want → Type 0
  LeftOut (must kind form size) = ⊥
  LeftOut (may kind form size) = get_or s (at + 2) 0 ≡ kind → ⊥
  LeftOut points = ⊥

pub data Legal (s : List ℕ) : ℕ → List Want → ℕ → List Want → Type 0 where
  none : {at : ℕ} {ws : List Want} → Legal s at ws at ws
  there : {at last : ℕ} {w : Want} {ws end : List Want} → Whole s at → Fits s at w → Legal s (at + announced s at) ws last end
      → Legal s at (w ∷ ws) last end
  absent : {at last : ℕ} {w : Want} {ws end : List Want} → Whole s at → LeftOut s at w → Legal s at ws last end
      → Legal s at (w ∷ ws) last end

abbrev pub Misplaced : List ℕ → ℕ → Type 0
Misplaced s at =
    ((w : Want) × (rest : List Want) × Legal s 0 element_wants at (w ∷ rest) × Whole s at × (Fits s at w → ⊥) × (LeftOut s at w → ⊥))
    ⊎ (Legal s 0 element_wants at [] × (at < length s))

unfoldable pub ElementFault : List ℕ → Refusal → ℕ → Type 0
ElementFault s r o =
    ((r ≡ because.Ends) × ((w : Want) × (rest : List Want) × Legal s 0 element_wants o (w ∷ rest) × CutShort s o))
    ⊎ ((r ≡ because.Record) × (o ≡ 0) × ((at : ℕ) × Misplaced s at))

pub record Element (s : List ℕ) (first n : ℕ) : Type 0 where
  pub at : ℕ
  pub before : Legal s 0 front at []
  pub after : Legal s at (points ∷ ending) (length s) []
  pub some : 1 ≤ n
  pub long : announced s at ≡ 4 + 8 * n
  pub starts : first ≡ at + 4

-- Points

unfoldable pub word_of : List ℕ → ℕ → ℕ
word_of s p = 16777216 * get_or s p 0 + 65536 * get_or s (p + 1) 0 + 256 * get_or s (p + 2) 0 + get_or s (p + 3) 0

unfoldable pub coordinate : List ℕ → ℕ → ℤ
coordinate s p = cond (ltb (word_of s p) 2147483648) (pos (word_of s p)) (sub_ℕ (word_of s p) 4294967296)

abbrev pub x_of : List ℕ → ℕ → ℕ → ℤ
x_of s first i = coordinate s (first + 8 * i)

abbrev pub y_of : List ℕ → ℕ → ℕ → ℤ
y_of s first i = coordinate s (first + 8 * i + 4)

unfoldable pub Open : List ℕ → ℕ → ℕ → Type 0
Open s first n = (x_of s first 0 ≡ x_of s first (n - 1) → ⊥) ⊎ (y_of s first 0 ≡ y_of s first (n - 1) → ⊥)

abbrev pub Beyond : (ℕ → ℤ) → ℕ → Type 0
Beyond c n = (i : ℕ) × (j : ℕ) × (d : ℕ) × (i < n) × (j < n) × (65535 < d) × (c i +ℤ pos d ≡ c j)

unfoldable pub Extended : List ℕ → ℕ → ℕ → Type 0
Extended s first n = Beyond (x_of s first) n ⊎ Beyond (y_of s first) n

pub record Moved (c : ℕ → ℤ) (n : ℕ) (z : ℤ) (k : ℕ) (l : List ℕ) : Type 0 where
  pub back : (i : ℕ) → i < n → z +ℤ pos (get_or l (2 * i + k) 0) ≡ c i
  pub low : (i : ℕ) × (i < n) × (get_or l (2 * i + k) 0 ≡ 0)

pub record Ring (s : List ℕ) (first n : ℕ) (x y : ℤ) (l : List ℕ) : Type 0 where
  pub element : Element s first n
  pub closed : Open s first n → ⊥
  pub narrow : Extended s first n → ⊥
  pub least : 4 ≤ n - 1
  pub most : n - 1 ≤ 32
  pub size : length l ≡ 2 * (n - 1)
  pub moved-x : Moved (x_of s first) (n - 1) x 0 l
  pub moved-y : Moved (y_of s first) (n - 1) y 1 l

-- Calls

abbrev pub drawing : List ℕ → ℕ → Asked
drawing l n = asked Straight l (n ∷ []) 0 0 [] []

abbrev pub plate : List ℕ → ℕ → List ℕ → List ℕ → Asked
plate l n table list = asked Straight l (n ∷ []) 25 40 table list

pub data PointsFault (s : List ℕ) : Refusal → Type 0 where
  -- last point unlike the first
  unclosed : {first n : ℕ} → Element s first n → Open s first n → PointsFault s because.Unclosed
  -- extent above 65,535
  extended : {first n : ℕ} → Element s first n → (Open s first n → ⊥) → Extended s first n → PointsFault s because.Extent
  -- fewer than 4 corners or more than 32: all points but the last
  counted : {first n : ℕ} → Element s first n → (Open s first n → ⊥) → (Extended s first n → ⊥) → (n - 1 < 4) ⊎ (32 < n - 1)
      → PointsFault s because.Length

pub data ReadFault (s list : List ℕ) : Refusal → ℕ → Type 0 where
  -- 8 and 16, record by record
  records : {r : Refusal} {o : ℕ} → ElementFault s r o → ReadFault s list r o
  -- 17, 18 and 2
  points : {r : Refusal} → PointsFault s r → ReadFault s list r 0
  -- 3 to 5
  shape : {first n : ℕ} {x y : ℤ} {l : List ℕ} {r : Refusal} → Ring s first n x y l → First (drawing l (n - 1)) r → refusal_no r ≤ 5
      → ReadFault s list r 0
  -- buffer too short for what would be written
  room : {first n : ℕ} {x y : ℤ} {l : List ℕ} → Ring s first n x y l
      → ((c : Refusal) → refusal_no c ≤ 5 → Condition (drawing l (n - 1)) c → ⊥) → length list < length l → ReadFault s list because.Room 0

pub data PlateFault (s table list : List ℕ) : Refusal → ℕ → Type 0 where
  -- 8 and 16, record by record
  records : {r : Refusal} {o : ℕ} → ElementFault s r o → PlateFault s table list r o
  -- 17, 18 and 2
  points : {r : Refusal} → PointsFault s r → PlateFault s table list r 0
  -- 3 to 7
  fracture : {first n : ℕ} {x y : ℤ} {l : List ℕ} {r : Refusal} → Ring s first n x y l → First (plate l (n - 1) table list) r
      → PlateFault s table list r 0

abbrev pub corners_told : ℕ → ℤ → ℤ → List ℕ → List ℕ → BoundarySaid
corners_told n x y l list =
    record { number = 0; corners = n; shift-x = x; shift-y = y; offset = 0; list = l ++ drop (length l) list }

abbrev pub shots_told : ℤ → ℤ → Outcome → PlateSaid
shots_told x y o =
    record {
      number = o.number;
      shots = o.shots;
      cost = o.cost;
      sliver = o.sliver;
      cuts = o.cuts;
      shift-x = cond (eqb o.number 0) x (pos 0);
      shift-y = cond (eqb o.number 0) y (pos 0);
      offset = 0;
      table = o.table;
      list = o.list;
    }
