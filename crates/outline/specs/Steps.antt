-- Inner: what the functions on the way from the corners to the cells promise. Nobody has to believe these: the promise of a drawing
-- does not cite them.
--
-- The lines
--   Room ls n v, Inserted ..         == the first n of ls rise, and there is room to insert v; ls with v inserted, and their number
--   evens l                          == every other member of l, from the first
--   Halved a l ls                    == every other corner of l has all lines across the axis a, and there is room for them in ls
--   Gathered a l ls r after          == the r lines of the outline across the axis a, at the front of what was ls
--   Listed ls v, Found ls v r        == the lines ls rise, and v is one of them; it is the line r
--   Lined f xs ys                    == the figure f passes 2, 3 and 4, and these are its lines
--   Ruled l xs ys                    == up to 16 lines each way, one y line at least; they rise, and those of the ring l are among them;
--                                       the ring has a corner, and its edges keep x by turns
-- The cells, the cell (i, j) at 16 * i + j
--   flip t n                         == n, 0 or 1, turned over where the test t holds
--   covered lo hi bottom top         == what lies from bottom to top lies from lo to hi
--   begins lo hi bottom              == what begins at bottom begins from lo on and below hi
--   span ys lo hi j                  == the row j of cells between the y lines ys lies from lo to hi
--   Bits cells ys line               == 16 by 16 bits, the y lines of a grid, and the number of an x line
--   Turned cells ys line lo hi after == each cell right of the line whose row lies from lo to hi is turned over
--   Upright l b k                    == the edge of the ring l from the corner b to the corner k, the one after it, keeps x: it is a wall
--   Walled l k                       == there is a corner before the corner k of the ring l, and the edge that ends there, if any, keeps x
--   stands xs ys n w                 == the wall w stands on the low x of the cell n, and its span covers the cell
--   Marks cells                      == 16 by 16 bits
--   Marked xs ys ws cells after      == each cell is turned over once for each of the walls ws that stands at it
--   swept l i j                      == 1 where an odd number of the marks of row j up to column i are 1
--   Swept count cells after          == so are the first columns, so many of them; the others are as they were
--   lit n                            == a cell that is not 0
-- The drawing
--   Clear xs ys cells                == the lists of a drawing are all zeros
--   sheet_of g, without why           == the sheet of an accepted figure with the grid g; the sheet of the refusal
use Rattle.std.specs.Prelude.{ℕ, zero, suc, ◌+◌, ◌*◌, ◌-◌, ◌/◌, ◌%◌, ◌≤◌, ◌<◌, ◌≡◌, Bool, true, false, not, ◌&&◌, leb, ltb, eqb, length, get_or, take, drop, replicate, Ok, Err}
use mathlib.Core.List.{List, [], ◌∷◌, ◌++◌, Memᴰ as Member}
use Rattle.sum.specs.Sum.{All}
use Rattle.figure.specs.declared.Axis.{Axis}
use Rattle.figure.specs.declared.Axis.TheVariants.{X, Y}
use Rattle.refusal.specs.declared.Refusal.{Refusal}
use Rattle.figure.specs.Corners.{corners, coordinate, changes, odd}
use Rattle.figure.specs.Figure.{Figure, corners_of}
use Rattle.figure.specs.Inside.{Wall, count}
use Rattle.figure.specs.Steps.{Right, before, edge}
use Rattle.outline.specs.Lines.{Up, insert, lines, place}
use Rattle.outline.specs.Grid.{Grid}
use Rattle.outline.specs.Promise.{laid, blank, Sheet}

pub record Room (ls : List ℕ) (n v : ℕ) : Type 0 where
  pub within : n ≤ length ls
  pub up : Up (take n ls)
  pub fits : length (insert v (take n ls)) ≤ length ls

pub record Inserted (ls : List ℕ) (n v r : ℕ) (after : List ℕ) : Type 0 where
  pub number : r ≡ length (insert v (take n ls))
  pub list : after ≡ insert v (take n ls) ++ drop r ls

unfoldable pub evens : {A : Type 0} → List A → List A
evens [] = []
evens (s ∷ []) = s ∷ []
evens (s ∷ t ∷ l) = s ∷ evens l

pub record Halved (a : Axis) (l ls : List ℕ) : Type 0 where
  pub even : length l % 4 ≡ 0
  pub same : lines a (evens (corners l)) ≡ lines a (corners l)
  pub fits : length (lines a (corners l)) ≤ length ls

pub record Gathered (a : Axis) (l ls : List ℕ) (r : ℕ) (after : List ℕ) : Type 0 where
  pub number : r ≡ length (lines a (corners l))
  pub list : after ≡ lines a (corners l) ++ drop r ls

pub record Listed (ls : List ℕ) (v : ℕ) : Type 0 where
  pub rise : Up ls
  pub among : Member v ls

pub record Found (ls : List ℕ) (v r : ℕ) : Type 0 where
  pub within : r < length ls
  pub there : get_or ls r 0 ≡ v

unfoldable pub flip : Bool → ℕ → ℕ
flip true n = 1 - n
flip false n = n

unfoldable pub covered : ℕ → ℕ → ℕ → ℕ → Bool
covered lo hi bottom top = leb lo bottom && leb top hi

unfoldable pub begins : ℕ → ℕ → ℕ → Bool
begins lo hi bottom = leb lo bottom && ltb bottom hi

unfoldable pub span : List ℕ → ℕ → ℕ → ℕ → Bool
span ys lo hi j = ltb (j + 1) (length ys) && covered lo hi (get_or ys j 0) (get_or ys (j + 1) 0)

pub record Bits (cells ys : List ℕ) (line : ℕ) : Type 0 where
  pub length-cells : length cells ≡ 256
  pub bit : (n : ℕ) → get_or cells n 0 ≤ 1
  pub some : 1 ≤ length ys
  pub most : length ys ≤ 16
  pub column : line < 16

pub record Turned (cells ys : List ℕ) (line lo hi : ℕ) (after : List ℕ) : Type 0 where
  pub at : (n : ℕ) → get_or after n 0 ≡ flip (eqb (n / 16) line && span ys lo hi (n % 16)) (get_or cells n 0)

unfoldable pub stands : List ℕ → List ℕ → ℕ → Wall → Bool
stands xs ys n w =
    (ltb (n / 16) (length xs) && eqb w.x (place xs (n / 16))) && span ys w.lo w.hi (n % 16)

pub record Lined (f : Figure) (xs ys : List ℕ) : Type 0 where
  pub right : Right f
  pub across-x : xs ≡ lines X (corners_of f)
  pub across-y : ys ≡ lines Y (corners_of f)

pub record Upright (l : List ℕ) (b k : ℕ) : Type 0 where
  pub from : b ≡ before k (length l / 2)
  pub keeps : changes X (edge l k) ≡ false

pub record Walled (l : List ℕ) (k : ℕ) : Type 0 where
  pub some : 1 ≤ k
  pub keeps : k < length l / 2 → changes X (edge l k) ≡ false

pub record Ruled (l xs ys : List ℕ) : Type 0 where
  pub rise-x : Up xs
  pub rise-y : Up ys
  pub hold : All (λ c. Member (coordinate X c) xs × Member (coordinate Y c) ys) (corners l)
  pub corner-some : 0 < length l / 2
  pub by-turns : (k : ℕ) → k + 1 < length l / 2 → changes X (edge l (k + 1)) ≡ not (changes X (edge l k))
  pub columns : length xs ≤ 16
  pub some : 1 ≤ length ys
  pub rows : length ys ≤ 16

pub record Marks (cells : List ℕ) : Type 0 where
  pub length-cells : length cells ≡ 256
  pub bit : (n : ℕ) → get_or cells n 0 ≤ 1

pub record Marked (xs ys : List ℕ) (ws : List Wall) (cells after : List ℕ) : Type 0 where
  pub marks : Marks after
  pub at : (n : ℕ) → get_or after n 0 ≡ flip (odd (count (stands xs ys n) ws)) (get_or cells n 0)

unfoldable pub swept : List ℕ → ℕ → ℕ → ℕ
swept l zero j = get_or l j 0
swept l (suc i) j = (swept l i j + get_or l (16 * suc i + j) 0) % 2

pub record Swept (count : ℕ) (cells after : List ℕ) : Type 0 where
  pub at : (i j : ℕ) → i < count → j < 16 → get_or after (16 * i + j) 0 ≡ swept cells i j
  pub rest : (n : ℕ) → 16 * count ≤ n → get_or after n 0 ≡ get_or cells n 0

unfoldable pub lit : ℕ → Bool
lit n = not (eqb n 0)

pub record Clear (xs ys cells : List ℕ) : Type 0 where
  pub xs_clear : xs ≡ replicate 16 0
  pub ys_clear : ys ≡ replicate 16 0
  pub cells_clear : cells ≡ replicate 256 0

unfoldable pub sheet_of : Grid → Sheet
sheet_of g = record { answer = Ok tt; grid = laid g }

unfoldable pub without : Refusal → Sheet
without why = record { answer = Err why; grid = blank }
