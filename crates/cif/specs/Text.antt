-- To believe: a shot list as a CIF text, Item 12: one symbol in half nanometres, each line ended by one line feed.
--
--   decimal_in k n    == the digits of n as bytes, k + 1 of them at most; decimal n == at most six; a number above 0 has no 0 in front
--   field n          == a number behind one space
--   box_of a b x y    == `B a b x y;` and its line feed
--   doubled_side low high, doubled_centre low high == of a stretch, in half nanometres
--   box_line s        == the box of a shot: doubled sides, length and width, and doubled centre, x and y
--   symbol, layer    == the lines `DS 1 1 20;` and `L NM;`
--   finish, call, end == the lines `DF;`, `C 1;` and `E`
--   cif_text l        == the text of some shots
--   cif_bytes l       == the text of a list of numbers, four for each shot
--   Fit s            == both high numbers of a shot are above its low ones, and none is above 65,535
use Rattle.std.specs.Prelude.{ℕ, zero, suc, ◌+◌, ◌-◌, ◌*◌, ◌/◌, ◌%◌, ◌<◌, ◌≤◌, cond, List, [], ◌∷◌, ◌++◌, ltb}
use Rattle.sum.specs.Sum.{join}
use Rattle.shot.specs.Shot.{Shot, shots_in}

unfoldable pub decimal_in : ℕ → ℕ → List ℕ
decimal_in zero n = (48 + n) ∷ []
decimal_in (suc k) n = cond (ltb n 10) ((48 + n) ∷ []) (decimal_in k (n / 10) ++ ((48 + n % 10) ∷ []))

unfoldable pub decimal : ℕ → List ℕ
decimal n = decimal_in 5 n

abbrev pub field : ℕ → List ℕ
field n = 32 ∷ decimal n

unfoldable pub box_of : ℕ → ℕ → ℕ → ℕ → List ℕ
box_of a b x y = (66 ∷ []) ++ (field a ++ (field b ++ (field x ++ (field y ++ (59 ∷ 10 ∷ [])))))

abbrev pub doubled_side : ℕ → ℕ → ℕ
doubled_side low high = 2 * (high - low)

abbrev pub doubled_centre : ℕ → ℕ → ℕ
doubled_centre low high = low + high

unfoldable pub box_line : Shot → List ℕ
box_line s =
    box_of (doubled_side s.xlow s.xhigh) (doubled_side s.ylow s.yhigh) (doubled_centre s.xlow s.xhigh)
    (doubled_centre s.ylow s.yhigh)

abbrev pub symbol : List ℕ
symbol = 68 ∷ 83 ∷ 32 ∷ 49 ∷ 32 ∷ 49 ∷ 32 ∷ 50 ∷ 48 ∷ 59 ∷ 10 ∷ []

abbrev pub layer : List ℕ
layer = 76 ∷ 32 ∷ 78 ∷ 77 ∷ 59 ∷ 10 ∷ []

abbrev pub finish : List ℕ
finish = 68 ∷ 70 ∷ 59 ∷ 10 ∷ []

abbrev pub call : List ℕ
call = 67 ∷ 32 ∷ 49 ∷ 59 ∷ 10 ∷ []

abbrev pub end : List ℕ
end = 69 ∷ 10 ∷ []

unfoldable pub cif_text : List Shot → List ℕ
cif_text l = symbol ++ (layer ++ (join box_line l ++ (finish ++ (call ++ end))))

abbrev pub cif_bytes : List ℕ → List ℕ
cif_bytes l = cif_text (shots_in l)

pub record Fit (s : Shot) : Type 0 where
  pub wide : s.xlow < s.xhigh
  pub high : s.ylow < s.yhigh
  pub right : s.xhigh ≤ 65535
  pub top : s.yhigh ≤ 65535
