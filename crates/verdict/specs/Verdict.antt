-- Inner: the verdict of a piece (docs/SCOPE.md, "Pieces, slivers, cost" and "Pinwheels"). Nobody has to believe these.
--
--   placed columns rows p == the piece p as the code holds it, with its entry in the table of a grid of so many columns and rows
--   numbered g p          == the same, by the size of the grid g
--   part_no p k n          == the part number n of the cut k of p; p itself stands in beyond the last
--   wheel_in columns rows p k == the five parts of the pinwheel k, so placed
--   made g p k            == what becomes of p by the cut k: its low and its high part, left or bottom being low; or the parts of a pinwheel
--   verdict_of mode g r p  == outside where no cell of p is inside; a shot where all of them are; else what becomes of it by the first cut in the
--                            tie order whose parts cost what p costs, which is the least
--   kind_of s              == the sort s of a piece, as the definitions have it
--   cut_into h             == the cut into the parts h, as a verdict
use Rattle.std.specs.Prelude.{ℕ, get_or}
use Rattle.recurrence.specs.Scheme.{Kind, outside, full, mixed}
use Rattle.outline.specs.Grid.{Grid}
use Rattle.rule.specs.declared.Rule.{Rule}
use Rattle.piece.specs.declared.Mode.{Mode}
use Rattle.piece.specs.Piece.{Piece, kind, left_part, right_part, lower_part, upper_part}
use Rattle.piece.specs.Cuts.{Cut, vertical, horizontal, wheel, parts, choice}
use Rattle.table.specs.Entry.{entry_of}
use Rattle.verdict.specs.declared.Numbered.{Numbered}
use Rattle.verdict.specs.declared.Sort.{Sort}
use Rattle.verdict.specs.declared.Sort.TheVariants as sort
use Rattle.verdict.specs.declared.Parts.{Parts}
use Rattle.verdict.specs.declared.pinwheel.Wheel.{Wheel}
use Rattle.verdict.specs.declared.pinwheel.Turned.{Turned}
use Rattle.verdict.specs.declared.pinwheel.Turned.TheVariants as verdict

abbrev pub placed : ℕ → ℕ → Piece → Numbered
placed columns rows p = record {
  piece = record { a = record { 0 = p.a }; c = record { 0 = p.c }; b = record { 0 = p.b }; d = record { 0 = p.d } };
  entry = entry_of columns rows p;
}

abbrev pub numbered : Grid → Piece → Numbered
numbered g p = placed g.columns g.rows p

unfoldable pub part_no : Piece → Cut → ℕ → Piece
part_no p k n = get_or (parts p k) n p

unfoldable pub wheel_in : ℕ → ℕ → Piece → Cut → Wheel
wheel_in columns rows p k = record {
  first = placed columns rows (part_no p k 0);
  second = placed columns rows (part_no p k 1);
  third = placed columns rows (part_no p k 2);
  fourth = placed columns rows (part_no p k 3);
  inner = placed columns rows (part_no p k 4);
}

abbrev pub made : Grid → Piece → Cut → Turned
made g p (vertical j) = verdict.Cut (numbered g (left_part p j)) (numbered g (right_part p j))
made g p (horizontal j) = verdict.Cut (numbered g (lower_part p j)) (numbered g (upper_part p j))
made g p (wheel t j l k m) = verdict.Wheel (wheel_in g.columns g.rows p (wheel t j l k m))

unfoldable pub verdict_of : Mode → Grid → Rule → Piece → Turned
verdict_of mode g r p = elim (kind g p) [ outside ↦ verdict.Outside | full ↦ verdict.Shot | mixed ↦ made g p (choice mode g r p) ]

abbrev pub kind_of : Sort → Kind
kind_of sort.Outside = outside
kind_of sort.Full = full
kind_of sort.Mixed = mixed

abbrev pub cut_into : Parts → Turned
cut_into h = verdict.Cut h.low h.high
