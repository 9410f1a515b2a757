-- Inner: what the functions on the way promise. Nobody has to believe these.
--
--   StandsTold s at l r  == r tells whether the bytes l stand at the place
--   Digit b r            == r is what the byte b is worth as a digit, or that it is none
--   NoDigit s at, DigitAt s at r == no digit stands at the place; r is the digit that stands there, or that none does
--   Apart l              == l begins with a byte that is no digit
--   Found form s at v next == the number v stands at the place in this form, next is the place past it, and no other number does
--   Absent form s at     == no number below 1,000,000 stands at the place in this form
--   NumeralTold form s at r  == what each case of reading a number tells
--   Two s at v w next, PairTold s at r == the same of two fields
--   Small a b x y        == each of the four is below 1,000,000
--   Same a b x y a' b' x' y' == the first four numbers are the other four, each in its turn
--   Four s at a b x y next, LineTold s at r == the same of a box line
--   Between side centre low high == the doubled side and the doubled centre from low to high, which is above it and at most 65,535
--   SpanTold side centre r == the low and the high end of a doubled side about a doubled centre, or that there are none
--   BoxAt s at b next    == the box of the shot b stands at the place, and next is the place past it
--   shot_with s          == the shot of these four numbers
--   BoxTold s at r       == the shot whose box stands at the place, or that no box stands there
--   Boxes s at l         == the boxes of these shots stand at the place
--   BoxesTold s at n next == as many boxes as there are stand at the place, n of them, and next is the place past them
--   PastTold s at l r    == past the line l at the place, or the fault 22 there
--   OpeningTold s r, ClosingTold s at r == past the lines before and after the boxes, or the first of them that does not stand
--   ScanTold s r         == the number of shots whose text s is, or the first line at fault
--   Stored s at n list after == the numbers of the n shots whose boxes stand at the place are at the front of the list
--   Reckoned s a b x y   == these are the four numbers of the box of the shot s, of six digits at most
--   listed l at          == the shot whose numbers are at a place of a list
--   boxes_bytes l         == the box lines of a list of numbers
--   MeasureTold l room r == how many bytes these are, or 14, they are more than the room
use Rattle.std.specs.Prelude.{ℕ, ◌+◌, ◌<◌, ◌≤◌, ◌≡◌, Bool, true, false, List, [], ◌∷◌, ◌++◌, length, get_or, Option, Some, None, Result, Ok, Err}
use Rattle.std.proofs.lemmas.List.Edits.{sets}
use Rattle.sum.specs.Sum.{join, All}
use Rattle.shot.specs.Shot.{Shot, numbers, shots_in}
use Rattle.shot.specs.Bad.{shot_of}
use Rattle.cif.specs.Text.{field, box_of, doubled_side, doubled_centre, box_line, cif_text, symbol, layer, finish, call, end, Fit}
use Rattle.cif.specs.Faults.{Stands, NoBox, Stops, Extra, FaultAt}
use Rattle.cif.specs.declared.numeral.Numeral.{Numeral}
use Rattle.cif.specs.declared.numeral.Pair.{Pair}
use Rattle.cif.specs.declared.boxes.Fields.{Fields}
use Rattle.cif.specs.declared.boxes.Span.{Span}
use Rattle.cif.specs.declared.boxes.Sides.{Sides}
use Rattle.cif.specs.declared.boxes.Boxed.{Boxed}
use Rattle.refusal.specs.declared.Refusal.{Refusal}
use Rattle.refusal.specs.declared.Refusal.TheVariants.{Text, Room}
use Rattle.refusal.specs.declared.Fault.{Fault}

pub record StandsTold (s : List ℕ) (at : ℕ) (l : List ℕ) (r : Bool) : Type 0 where
  pub yes : r ≡ true → Stands s at l
  pub no : r ≡ false → Stands s at l → ⊥

-- numbers

unfoldable pub NoDigit : List ℕ → ℕ → Type 0
NoDigit s at = (d : ℕ) → d < 10 → at < length s → get_or s at 0 ≡ 48 + d → ⊥

abbrev pub Digit : ℕ → Option ℕ → Type 0
Digit b (Some r) = (r < 10) × (b ≡ 48 + r)
Digit b None = (d : ℕ) → d < 10 → b ≡ 48 + d → ⊥

abbrev pub DigitAt : List ℕ → ℕ → Option ℕ → Type 0
DigitAt s at (Some r) = (r < 10) × (at < length s) × (get_or s at 0 ≡ 48 + r)
DigitAt s at None = NoDigit s at

unfoldable pub Apart : List ℕ → Type 0
Apart l = (0 < length l) × ((d : ℕ) → d < 10 → get_or l 0 0 ≡ 48 + d → ⊥)

pub record Found (form : ℕ → List ℕ) (s : List ℕ) (at v next : ℕ) : Type 0 where
  pub small : v < 1000000
  pub stands : Stands s at (form v)
  pub past : next ≡ at + length (form v)
  pub within : next ≤ length s
  pub only : (w : ℕ) (rest : List ℕ) → w < 1000000 → Apart rest → Stands s at (form w ++ rest) → v ≡ w

abbrev pub Absent : (ℕ → List ℕ) → List ℕ → ℕ → Type 0
Absent form s at = (w : ℕ) → w < 1000000 → Stands s at (form w) → ⊥

abbrev pub NumeralTold : (ℕ → List ℕ) → List ℕ → ℕ → Option Numeral → Type 0
NumeralTold form s at (Some n) = Found form s at n.value n.next
NumeralTold form s at None = Absent form s at

pub record Two (s : List ℕ) (at v w next : ℕ) : Type 0 where
  pub small : (v < 1000000) × (w < 1000000)
  pub stands : Stands s at (field v ++ field w)
  pub past : next ≡ at + length (field v ++ field w)
  pub within : next ≤ length s
  pub only : (a b : ℕ) (rest : List ℕ) → a < 1000000 → b < 1000000 → Apart rest → Stands s at (field a ++ (field b ++ rest)) → (v ≡ a) × (w ≡ b)

abbrev pub PairTold : List ℕ → ℕ → Option Pair → Type 0
PairTold s at (Some p) = Two s at p.first p.second p.next
PairTold s at None =
    (a b : ℕ) (rest : List ℕ) → a < 1000000 → b < 1000000 → Apart rest → Stands s at (field a ++ (field b ++ rest)) → ⊥

-- boxes

pub record Small (a b x y : ℕ) : Type 0 where
  pub one : a < 1000000
  pub two : b < 1000000
  pub three : x < 1000000
  pub four : y < 1000000

pub record Same (a b x y a' b' x' y' : ℕ) : Type 0 where
  pub one : a ≡ a'
  pub two : b ≡ b'
  pub three : x ≡ x'
  pub four : y ≡ y'

pub record Four (s : List ℕ) (at a b x y next : ℕ) : Type 0 where
  pub small : Small a b x y
  pub stands : Stands s at (box_of a b x y)
  pub past : next ≡ at + length (box_of a b x y)
  pub within : next ≤ length s
  pub only : (a' b' x' y' : ℕ) → Small a' b' x' y' → Stands s at (box_of a' b' x' y') → Same a b x y a' b' x' y'

abbrev pub LineTold : List ℕ → ℕ → Option Fields → Type 0
LineTold s at (Some f) = Four s at f.length f.width f.x f.y f.next
LineTold s at None = (a b x y : ℕ) → Small a b x y → Stands s at (box_of a b x y) → ⊥

pub record Between (side centre low high : ℕ) : Type 0 where
  pub rising : low < high
  pub most : high ≤ 65535
  pub sides : side ≡ doubled_side low high
  pub middle : centre ≡ doubled_centre low high

abbrev pub SpanTold : ℕ → ℕ → Option Span → Type 0
SpanTold side centre (Some s) = Between side centre s.low s.high
SpanTold side centre None = (low high : ℕ) → Between side centre low high → ⊥

pub record BoxAt (s : List ℕ) (at : ℕ) (b : Shot) (next : ℕ) : Type 0 where
  pub fit : Fit b
  pub stands : Stands s at (box_line b)
  pub past : next ≡ at + length (box_line b)
  pub within : next ≤ length s
  pub onward : at < next

abbrev pub shot_with : Sides → Shot
shot_with s = shot_of s.x_low s.y_low s.x_high s.y_high

abbrev pub BoxTold : List ℕ → ℕ → Option Boxed → Type 0
BoxTold s at (Some b) = BoxAt s at (shot_with b.sides) b.next
BoxTold s at None = NoBox s at

pub record Boxes (s : List ℕ) (at : ℕ) (l : List Shot) : Type 0 where
  pub fit : All Fit l
  pub stand : Stands s at (join box_line l)

pub record BoxesTold (s : List ℕ) (at n next : ℕ) : Type 0 where
  pub shots : List Shot
  pub boxes : Boxes s at shots
  pub count : n ≡ length shots
  pub past : next ≡ at + length (join box_line shots)
  pub within : next ≤ length s
  pub last : NoBox s next

-- the whole text

abbrev pub PastTold : List ℕ → ℕ → List ℕ → Result ℕ Fault → Type 0
PastTold s at l (Ok next) = Stands s at l × (next ≡ at + length l) × (next ≤ length s)
PastTold s at l (Err f) = (f.why ≡ Text) × (f.at ≡ at) × (Stands s at l → ⊥)

abbrev pub OpeningTold : List ℕ → Result ℕ Fault → Type 0
OpeningTold s (Ok next) = Stands s 0 symbol × Stands s 11 layer × (next ≡ 17) × (next ≤ length s)
OpeningTold s (Err f) = (f.why ≡ Text) × Stops s f.at (symbol ∷ layer ∷ []) (λ at. ⊥) 0

abbrev pub ClosingTold : List ℕ → ℕ → Result ℕ Fault → Type 0
ClosingTold s at (Ok next) = Stands s at (finish ++ (call ++ end)) × (next ≡ at + 11) × (next ≡ length s)
ClosingTold s at (Err f) = (f.why ≡ Text) × Stops s f.at (finish ∷ call ∷ end ∷ []) (Extra s f.at) at

abbrev pub ScanTold : List ℕ → Result ℕ Fault → Type 0
ScanTold s (Ok n) = (l : List Shot) × All Fit l × (s ≡ cif_text l) × (n ≡ length l)
ScanTold s (Err f) = (f.why ≡ Text) × FaultAt s f.at

unfoldable pub Stored : List ℕ → ℕ → ℕ → List ℕ → List ℕ → Type 0
Stored s at n list after = (l : List Shot) → Boxes s at l → n ≡ length l → after ≡ sets list 0 (numbers l)

-- writing

pub record Reckoned (s : Shot) (a b x y : ℕ) : Type 0 where
  pub line : box_of a b x y ≡ box_line s
  pub small : Small a b x y

abbrev pub listed : List ℕ → ℕ → Shot
listed l at = shot_of (get_or l at 0) (get_or l (at + 1) 0) (get_or l (at + 2) 0) (get_or l (at + 3) 0)

unfoldable pub boxes_bytes : List ℕ → List ℕ
boxes_bytes l = join box_line (shots_in l)

abbrev pub MeasureTold : List ℕ → ℕ → Result ℕ Refusal → Type 0
MeasureTold l room (Ok n) = (n ≡ length (boxes_bytes l)) × (n ≤ room)
MeasureTold l room (Err why) = (why ≡ Room) × (room < length (boxes_bytes l))
