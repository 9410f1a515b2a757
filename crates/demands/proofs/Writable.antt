-- The list of an accepted fracture is a shot list: it passes the scope's refusal 21, so that it can be written and joined. Assumes
-- nothing.
--
--   none-empty           == a list of shots none of which is empty has no empty one
--   shots_writable       == on success the numbers of the reported shots, four for each, pass 21
use Prim.Native.Nat.{suc, ◌*◌}
use mathlib.Core.Path.{◌≡◌, refl, sym, ◌∙◌, ap, ap₂}
use mathlib.Core.Bool.{false, ◌||◌}
use mathlib.Core.Logic.{inl}
use mathlib.Core.List.{List, [], ◌∷◌, map}
use native.Mathlib.Omega.{arith}
use lib.ListN.{take}
use Rattle.sum.specs.Sum.{All}
use Rattle.sum.proofs.Sum.{rise}
use Rattle.sum.proofs.Lists.{All-imp, All-map}
use Rattle.shot.specs.Shot.{Shot}
use Rattle.shot.specs.Bad.{empty, any_empty, bad_shots}
use Rattle.shot.proofs.Bad.{full-only, bad_numbers}
use Rattle.outline.specs.Grid.{Grid, Sound}
use Rattle.piece.specs.Piece.{Piece, rectangle, frame}
use Rattle.piece.specs.Cuts.{numbers_of}
use Rattle.piece.proofs.Cuts.{shots-part}
use Rattle.piece.proofs.Choice.{numbers-length}
use Rattle.demands.specs.Promise.{Asked, drawn, rule_of, frame_shots, frame_numbers, Outcome, written, outcome}
use Rattle.demands.specs.Demands.{Words, PieceOf}
use Rattle.demands.proofs.Outcome.{accepted, written-front, outcome-zero}
use Rattle.demands.proofs.Accepted.{sound, framed_piece}

-- a piece of a sound grid has an area
piece_full : (g : Grid) → Sound g → (p : Piece) → PieceOf g p → empty (rectangle g p) ≡ false
piece_full g s p v =
    let ac = v.ac in
    let cx = v.cx in
    let bd = v.bd in
    let dy = v.dy in
    full-only (rectangle g p)
    (omega (arith, s.x_rises p.a (omega arith), rise g.x s.x-up (suc p.a) p.c (omega arith)))
    (omega (arith, s.y_rises p.b (omega arith), rise g.y s.y-up (suc p.b) p.d (omega arith)))

pub none-empty : (l : List Shot) → All (λ s. empty s ≡ false) l → any_empty l ≡ false
unfolding any_empty
none-empty [] a = refl
none-empty (s ∷ l) a = ap₂ ◌||◌ a.0 (none-empty l a.1)

pub shots_writable : (ask : Asked) → Words ask.figure → (outcome ask).number ≡ 0
    → bad_shots (take (4 * (outcome ask).shots) (outcome ask).list) ≡ false
unfolding accepted frame_numbers frame_shots numbers_of
shots_writable ask words e =
    let g = drawn ask in
    let l = frame_shots ask.mode g (rule_of ask) in
    let f = framed_piece ask words (inl e) in
    let front : take (4 * (outcome ask).shots) (outcome ask).list ≡ frame_numbers ask.mode g (rule_of ask) =
    ap (λ (o : Outcome). take (4 * o.shots) o.list) (outcome-zero ask e)
    ∙ ap (λ n. take n (written (frame_numbers ask.mode g (rule_of ask)) ask.list)) (sym (numbers-length g l))
    ∙ written-front (frame_numbers ask.mode g (rule_of ask)) ask.list in
    ap bad_shots front
    ∙ bad_numbers (map (rectangle g) l)
    ∙ none-empty (map (rectangle g) l)
    (All-map (λ s. empty s ≡ false) (rectangle g) l
    (All-imp
    (λ p q. piece_full g (sound ask words (inl e)) p (record { ac = q.ac; cx = omega (arith, q.c, f.cx); bd = q.bd; dy = omega (arith, q.d, f.dy) }))
    l
    (shots-part ask.mode g (rule_of ask) (frame g))))
