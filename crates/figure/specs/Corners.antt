-- To believe: the corners of a ring, its edges and its turns, and what refusals 3 and 4 say of them.
--
--   Corner           == a place in x and one in y, in nm
--   origin           == the corner at 0 in both
--   corners l        == the corners that the list x, y, x, y, .. gives
--   coordinate a c   == the place of the corner c along the axis a
--   Link             == a step from one thing to the next
--   still a          == the step from a to itself
--   around l         == from the last member of l to the first, and from each member to the next: once round
--   edges cs         == the edges of the ring with the corners cs, the closing one among them
--   Turn             == three corners in a row
--   into t, onward t == the edge of the turn t that ends at its middle corner, and the one that starts there
--   threes p q l     == the turns from p and q on through l
--   turns cs         == the turns of the ring with the corners cs, once round
--   changes a e      == the edge e changes the coordinate along the axis a
--   both e           == the edge e changes both coordinates
--   neither e        == the edge e changes neither
--   same a t         == both edges of the turn t change the coordinate along the axis a
--   alike t          == the two edges of the turn t change the same one
--   odd n            == n is odd
--   any t l          == some member of l passes the test t
--   slanted cs       == 3: an edge changes both coordinates
--   unturned cs      == 4: an edge changes neither, or two neighbours change the same one
use Rattle.std.specs.Prelude.{ℕ, ◌%◌, Bool, false, not, ◌&&◌, ◌||◌, List, [], ◌∷◌, eqb}
use Rattle.figure.specs.declared.Axis.{Axis}
use Rattle.figure.specs.declared.Axis.TheVariants.{X, Y}

pub record Corner : Type 0 where
  pub x : ℕ
  pub y : ℕ

unfoldable pub origin : Corner
origin = record { x = 0; y = 0 }

unfoldable pub corners : List ℕ → List Corner
corners [] = []
corners (u ∷ []) = []
corners (u ∷ v ∷ l) = record { x = u; y = v } ∷ corners l

unfoldable pub coordinate : Axis → Corner → ℕ
coordinate X c = c.x
coordinate Y c = c.y

pub record Link (A : Type 0) : Type 0 where
  pub from : A
  pub to : A

unfoldable pub still : {A : Type 0} → A → Link A
still a = record { from = a; to = a }

module _ {A : Type 0} where
  -- the last of p and what follows it
  unfoldable pub last : A → List A → A
  last p [] = p
  last p (q ∷ l) = last q l

  -- from p on through a list
  unfoldable pub steps : A → List A → List (Link A)
  steps p [] = []
  steps p (q ∷ l) = record { from = p; to = q } ∷ steps q l

  unfoldable pub around : List A → List (Link A)
  around [] = []
  around (s ∷ l) = steps (last s l) (s ∷ l)

  unfoldable pub any : (A → Bool) → List A → Bool
  any t [] = false
  any t (s ∷ l) = t s || any t l

unfoldable pub edges : List Corner → List (Link Corner)
edges cs = around cs

pub record Turn : Type 0 where
  pub before : Corner
  pub at : Corner
  pub after : Corner

abbrev pub into : Turn → Link Corner
into t = record { from = t.before; to = t.at }

abbrev pub onward : Turn → Link Corner
onward t = record { from = t.at; to = t.after }

unfoldable pub threes : Corner → Corner → List Corner → List Turn
threes p q [] = []
threes p q (r ∷ l) = record { before = p; at = q; after = r } ∷ threes q r l

-- the last but one of p, q and what follows them
unfoldable pub last_but_one : Corner → Corner → List Corner → Corner
last_but_one p q [] = p
last_but_one p q (r ∷ l) = last_but_one q r l

unfoldable pub turns : List Corner → List Turn
turns [] = []
turns (s ∷ l) = threes (last_but_one s s l) (last s l) (s ∷ l)

unfoldable pub changes : Axis → Link Corner → Bool
changes a e = not (eqb (coordinate a e.from) (coordinate a e.to))

unfoldable pub odd : ℕ → Bool
odd n = eqb (n % 2) 1

unfoldable pub both : Link Corner → Bool
both e = changes X e && changes Y e

unfoldable pub neither : Link Corner → Bool
neither e = not (changes X e) && not (changes Y e)

unfoldable pub same : Axis → Turn → Bool
same a t = changes a (into t) && changes a (onward t)

unfoldable pub alike : Turn → Bool
alike t = same X t || same Y t

unfoldable pub slanted : List Corner → Bool
slanted cs = any both (edges cs)

unfoldable pub unturned : List Corner → Bool
unturned cs = any neither (edges cs) || any alike (turns cs)
