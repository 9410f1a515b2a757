-- To believe: the first line at fault of a text, said of the text and not by the reader.
--
--   Stands s at l    == the bytes l stand in s at a place
--   NoBox s at       == no box of a shot stands at the place: not of this form, or the shot is empty, off the whole nanometres or
--                       outside 0 to 65,535
--   Stops s o ls rest at == of the lines ls, wanted from the place on, the first that does not stand where it should does not at o; where
--                       all of them stand, rest is so of the place past them
--   Extra s o at     == bytes follow the last line: the fault is where they begin
--   Closing s o at   == as many boxes as there are stand at the place, and what has to follow them stops at o
--   FaultAt s o      == the first line at fault of the text s starts at o
use Rattle.std.specs.Prelude.{ℕ, ◌+◌, ◌<◌, ◌≡◌, ◌⊎◌, List, [], ◌∷◌, length, take, drop}
use Rattle.sum.specs.Sum.{join, All}
use Rattle.shot.specs.Shot.{Shot}
use Rattle.cif.specs.Text.{box_line, symbol, layer, finish, call, end, Fit}

abbrev pub Stands : List ℕ → ℕ → List ℕ → Type 0
Stands s at l = take (length l) (drop at s) ≡ l

abbrev pub NoBox : List ℕ → ℕ → Type 0
NoBox s at = (b : Shot) → Fit b → Stands s at (box_line b) → ⊥

module _ (s : List ℕ) (o : ℕ) where
  abbrev pub Stops : List (List ℕ) → (ℕ → Type 0) → ℕ → Type 0
  Stops [] rest at = rest at
  Stops (line ∷ ls) rest at = ((Stands s at line → ⊥) × (o ≡ at)) ⊎ (Stands s at line × Stops ls rest (at + length line))

  abbrev pub Extra : ℕ → Type 0
  Extra at = (at < length s) × (o ≡ at)

  pub record Closing (at : ℕ) : Type 0 where
    pub shots : List Shot
    pub fit : All Fit shots
    pub stand : Stands s at (join box_line shots)
    pub last : NoBox s (at + length (join box_line shots))
    pub stops : Stops (finish ∷ call ∷ end ∷ []) Extra (at + length (join box_line shots))

  abbrev pub FaultAt : Type 0
  FaultAt = Stops (symbol ∷ layer ∷ []) Closing 0
