-- To believe: the numbers of refusals, as docs/SCOPE.md has them, "When the answer is no"; 23 is that of one edge
-- (docs/SCOPE.md).
--
--   refusal_no      == the number of each refusal
use Rattle.std.specs.Prelude.{ℕ}
use Rattle.refusal.specs.declared.Refusal.{Refusal}
use Rattle.refusal.specs.declared.Refusal.TheVariants as because

abbrev pub refusal_no : Refusal → ℕ
-- threshold or weight above 1,000
refusal_no because.Rule = 1
-- a bad ring count, ring length or total
refusal_no because.Length = 2
-- an edge changes both coordinates
refusal_no because.Slanted = 3
-- an edge changes neither, or two neighbours change the same one
refusal_no because.Unturned = 4
-- no cell is inside
refusal_no because.Empty = 5
-- cost table has fewer entries than there are pieces
refusal_no because.Table = 6
-- shot list holds fewer than 4 x shots numbers
refusal_no because.List = 7
-- bytes end before a number does and before its third byte, or within an element
refusal_no because.Ends = 8
-- a number's last byte is 0 and not its only one
refusal_no because.Padded = 9
-- a third byte has its top bit set, or a value is outside its range
refusal_no because.Range = 10
-- bytes follow the last outline
refusal_no because.Extra = 11
-- job over 4,096 bytes
refusal_no because.Long = 12
-- outline k asked for, k not below K
refusal_no because.Missing = 13
-- buffer too short for what would be written
refusal_no because.Room = 14
-- preset number above 3
refusal_no because.Preset = 15
-- a record out of order, of another data type or of wrong length, an XY without points, or bytes after ENDEL
refusal_no because.Record = 16
-- last point unlike the first
refusal_no because.Unclosed = 17
-- extent above 65,535
refusal_no because.Extent = 18
-- largest side below 200, below twice the threshold, or above 65,535
refusal_no because.Largest = 19
-- append to a job of 255 outlines
refusal_no because.Full = 20
-- a shot list whose length is no multiple of four, or a shot with no area
refusal_no because.Shots = 21
-- text not of CIF's form, or a shot in it that is empty, off the whole nanometres or outside 0 to 65,535
refusal_no because.Text = 22
-- edge asked for, not below the number of corners
refusal_no because.Edge = 23
