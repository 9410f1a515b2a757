-- Texts and their lists are each other's inverse, and reading has one outcome. Assumes nothing.
--
--   text_one         == no two lists of shots have the same text
--   fault-one        == a text has one first line at fault
--   fault-none       == the text of some shots has no line at fault
--   read_one         == whatever reading a text may tell is one
--   cif_back         == the text of a list that passes 21 is read back to that list
--   cif_only         == a text that is read is the one text of the list that it gives
--   one_text         == two texts that are read to the same shots are the same
--   fits             == a list that passes 21, each of its numbers of 16 bits, is one of shots that fit
use Prim.Native.Nat.{ℕ, suc, ◌+◌, ◌*◌, ◌/◌, ◌%◌, ◌≤◌}
use mathlib.Core.Path.{◌≡◌, ◌∙◌, refl, sym, ap, ap₂, subst}
use mathlib.Core.Bool.{Bool, true, false, not, ◌||◌, true≢false}
use mathlib.Core.Logic.{inl, inr}
use mathlib.Core.List.{List, [], ◌∷◌, ◌++◌}
use native.Mathlib.Omega.{arith}
use lib.Dec.{eqb}
use lib.ListN.{length, take, drop, get_or, length-append}
use lib.Seq.{take_at}
use Rattle.sum.proofs.Lists.{sets_front}
use Rattle.sum.specs.Sum.{join, All}
use Rattle.std.specs.Prelude.{Err}
use Rattle.refusal.specs.declared.Fault.{Fault}
use Rattle.refusal.specs.declared.Refusal.TheVariants as because
use Rattle.refusal.specs.Refusals.{refusal_no}
use Rattle.shot.specs.Shot.{Shot, numbers, shots_in}
use Rattle.shot.specs.Bad.{shot_of, empty, any_empty, bad_shots}
use Rattle.shot.proofs.Shot.{numbers-length, shots-numbers}
use Rattle.shot.proofs.Bad.{full, good-shots, numbers-shots}
use Rattle.number.proofs.Bytes.{stands-front, stands-back, stands-whole}
use Rattle.cif.specs.Text.{box_line, symbol, layer, finish, call, end, cif_text, cif_bytes, Fit}
use Rattle.cif.specs.Faults.{Stands, NoBox, Stops, Extra, Closing, FaultAt}
use Rattle.cif.specs.Calls.{ReadSaid, said, ReadSays, shots, room, line, read_told}
use Rattle.cif.specs.Steps.{Stored, ScanTold}
use Rattle.cif.proofs.Boxing.{boxes-one, box-not-finish}

-- the parts of a text

record Text (s : List ℕ) (l : List Shot) : Type 0 where
  symbols : Stands s 0 symbol
  layers : Stands s 11 layer
  boxes : Stands s 17 (join box_line l)
  finished : Stands s (17 + length (join box_line l)) finish
  called : Stands s (17 + length (join box_line l) + 4) call
  ended : Stands s (17 + length (join box_line l) + 4 + 5) end
  whole : 17 + length (join box_line l) + 4 + 5 + 2 ≡ length s

parts : (s : List ℕ) (l : List Shot) → s ≡ cif_text l → Text s l
unfolding cif_text
parts s l e =
    let B : List ℕ = join box_line l in
    let tail : List ℕ = finish ++ (call ++ end) in
    let all : Stands s 0 (cif_text l) = subst (λ t. Stands s 0 t) e (stands-whole s) in
    let a = stands-back s 0 symbol (layer ++ (B ++ tail)) all in
    let b = stands-back s 11 layer (B ++ tail) a in
    let c = stands-back s 17 B tail b in
    let d = stands-back s (17 + length B) finish (call ++ end) c in
    record {
      symbols = stands-front s 0 symbol (layer ++ (B ++ tail)) all;
      layers = stands-front s 11 layer (B ++ tail) a;
      boxes = stands-front s 17 B tail b;
      finished = stands-front s (17 + length B) finish (call ++ end) c;
      called = stands-front s (17 + length B + 4) call end d;
      ended = stands-back s (17 + length B + 4) call end d;
      whole = omega (arith, ap length e, length-append B tail);
    }

-- the shots of a text
module _ (s : List ℕ) (l : List Shot) (fit : All Fit l) (t : Text s l) where
  no_more : NoBox s (17 + length (join box_line l))
  no_more = box-not-finish s (17 + length (join box_line l)) t.finished

  same-boxes : (m : List Shot) → All Fit m → Stands s 17 (join box_line m) → NoBox s (17 + length (join box_line m)) → l ≡ m
  same-boxes m g b n = boxes-one s 17 l m fit g t.boxes b no_more n

pub text_one : (s : List ℕ) (l m : List Shot) → All Fit l → All Fit m → s ≡ cif_text l → s ≡ cif_text m → l ≡ m
text_one s l m fl fm e f =
    let t = parts s l e in
    let u = parts s m f in
    same-boxes s l fl t m fm u.boxes (no_more s m fm u)

-- a first fault is one

stops-one : (s : List ℕ) (o p : ℕ) (R Q : ℕ → Type 0) → ((at : ℕ) → R at → Q at → o ≡ p) → (ls : List (List ℕ)) (at : ℕ)
    → Stops s o ls R at → Stops s p ls Q at → o ≡ p
stops-one s o p R Q same [] at a b = same at a b
stops-one s o p R Q same (l ∷ ls) at (inl a) (inl b) = a.1 ∙ sym b.1
stops-one s o p R Q same (l ∷ ls) at (inl a) (inr b) = absurd (a.0 b.0)
stops-one s o p R Q same (l ∷ ls) at (inr a) (inl b) = absurd (b.0 a.0)
stops-one s o p R Q same (l ∷ ls) at (inr a) (inr b) = stops-one s o p R Q same ls (at + length l) a.1 b.1

pub fault-one : (s : List ℕ) (o p : ℕ) → FaultAt s o → FaultAt s p → o ≡ p
fault-one s o p = stops-one s o p (Closing s o) (Closing s p) closing (symbol ∷ layer ∷ []) 0
  where
    extra : (at : ℕ) → Extra s o at → Extra s p at → o ≡ p
    extra at a b = a.1 ∙ sym b.1

    closing : (at : ℕ) → Closing s o at → Closing s p at → o ≡ p
    closing at a b =
        let e = boxes-one s at a.shots b.shots a.fit b.fit a.stand b.stand a.last b.last in
        stops-one s o p (Extra s o) (Extra s p) extra (finish ∷ call ∷ end ∷ []) (at + length (join box_line a.shots)) a.stops
        (subst (λ (m : List Shot). Stops s p (finish ∷ call ∷ end ∷ []) (Extra s p) (at + length (join box_line m))) (sym e) b.stops)

pub fault-none : (s : List ℕ) (l : List Shot) (o : ℕ) → All Fit l → s ≡ cif_text l → FaultAt s o → ⊥
fault-none s l o fit e f = go f
  where
    t : Text s l
    t = parts s l e

    ends : Stops s o (finish ∷ call ∷ end ∷ []) (Extra s o) (17 + length (join box_line l)) → ⊥
    ends (inl a) = a.0 t.finished
    ends (inr (x, inl a)) = a.0 t.called
    ends (inr (x, inr (y, inl a))) = a.0 t.ended
    ends (inr (x, inr (y, inr (z, a)))) = omega (arith, t.whole, a.0)

    closing : Closing s o 17 → ⊥
    closing c =
        let k = same-boxes s l fit t c.shots c.fit c.stand c.last in
        ends (subst (λ (m : List Shot). Stops s o (finish ∷ call ∷ end ∷ []) (Extra s o) (17 + length (join box_line m))) (sym k) c.stops)

    go : FaultAt s o → ⊥
    go (inl a) = a.0 t.symbols
    go (inr (x, inl a)) = a.0 t.layers
    go (inr (x, inr (y, c))) = closing c

-- whatever reading may tell is one

module _ (s list : List ℕ) where
  pub read_one : (t u : ReadSaid) → ReadSays s list t → ReadSays s list u → t ≡ u
  read_one t u (shots l f e h n v) (shots m g k j q w) =
      let z = text_one s l m f g e k in
      ap₂ (λ x y. said 0 x 0 y) (n ∙ ap length z ∙ sym q)
      (v ∙ ap (λ (x : List Shot). numbers x ++ drop (4 * length x) list) z ∙ sym w)
  read_one t u (shots l f e h n v) (room m g k j w) = absurd (omega (arith, h, j, ap length (text_one s l m f g e k)))
  read_one t u (shots l f e h n v) (line o k w) = absurd (fault-none s l o f e k)
  read_one t u (room l f e h v) (shots m g k j q w) = absurd (omega (arith, h, j, ap length (text_one s l m f g e k)))
  read_one t u (room l f e h v) (room m g k j w) = ap (λ y. said (refusal_no because.Room) 0 0 y) (v ∙ sym w)
  read_one t u (room l f e h v) (line o k w) = absurd (fault-none s l o f e k)
  read_one t u (line o f v) (shots m g k j q w) = absurd (fault-none s m o g k f)
  read_one t u (line o f v) (room m g k j w) = absurd (fault-none s m o g k f)
  read_one t u (line o f v) (line p g w) = ap₂ (λ x y. said (refusal_no because.Text) 0 x y) (fault-one s o p f g) (v ∙ sym w)

-- what the call has done

pub text_room : (s : List ℕ) (l : List Shot) → s ≡ cif_text l → 17 ≤ length s
text_room s l e = omega (arith, (parts s l e).whole)

pub read_done : (s list after : List ℕ) (n : ℕ) (l : List Shot) → All Fit l → s ≡ cif_text l → n ≡ length l → 4 * n ≤ length list
    → Stored s 17 n list after → ReadSays s list (said 0 n 0 after)
unfolding Stored
read_done s list after n l fit e k h stored =
    let b = stored l (record { fit = fit; stand = (parts s l e).boxes }) k in
    let q = numbers-length l in
    shots l fit e (omega arith) k (b ∙ sets_front list (numbers l) (omega arith) ∙ ap (λ m. numbers l ++ drop m list) q)

pub read_fault : (s list : List ℕ) (f : Fault) → ScanTold s (Err f) → ReadSays s list (read_told (Err f) list)
read_fault s list f t = subst (λ why. ReadSays s list (said (refusal_no why) 0 f.at list)) (sym t.0) (line f.at t.1 refl)

-- a list that passes 21, each of its numbers of 16 bits, is one of shots that fit

fits_by : (l : List ℕ) → any_empty (shots_in l) ≡ false → ((i : ℕ) → get_or l i 0 ≤ 65535) → All Fit (shots_in l)
unfolding any_empty shots_in
fits_by [] e w = tt
fits_by (a ∷ []) e w = tt
fits_by (a ∷ b ∷ []) e w = tt
fits_by (a ∷ b ∷ c ∷ []) e w = tt
fits_by (a ∷ b ∷ c ∷ d ∷ l) e w = go (empty (shot_of a b c d)) refl e (λ q. fits_by l q (λ i. w (suc (suc (suc (suc i))))))
  where
    go : (t : Bool) → empty (shot_of a b c d) ≡ t → (t || any_empty (shots_in l)) ≡ false → (any_empty (shots_in l) ≡ false → All Fit (shots_in l))
        → Fit (shot_of a b c d) × All Fit (shots_in l)
    go true f q next = absurd (true≢false q)
    go false f q next =
        let g = full (shot_of a b c d) f in (record { wide = g.0; high = g.1; right = w 2; top = w 3 }, next q)

none-empty : (l : List ℕ) → bad_shots l ≡ false → any_empty (shots_in l) ≡ false
unfolding bad_shots
none-empty l e = go (not (eqb (length l % 4) 0)) e
  where
    go : (t : Bool) → (t || any_empty (shots_in l)) ≡ false → any_empty (shots_in l) ≡ false
    go true q = absurd (true≢false q)
    go false q = q

pub fits : (l : List ℕ) → bad_shots l ≡ false → ((i : ℕ) → get_or l i 0 ≤ 65535) → All Fit (shots_in l)
fits l good w = fits_by l (none-empty l good) w

-- written texts are read back, and a text that is read is the text of its list

pub cif_back : (l list : List ℕ) (t : ReadSaid) → bad_shots l ≡ false → ((i : ℕ) → get_or l i 0 ≤ 65535) → length l ≤ length list
    → ReadSays (cif_bytes l) list t → t ≡ said 0 (length l / 4) 0 (l ++ drop (length l) list)
cif_back l list t good w h r =
    let fit = fits l good w in
    let same = numbers-shots l (good-shots l good).fours in
    let size : 4 * length (shots_in l) ≡ length l = sym (numbers-length (shots_in l)) ∙ ap length same in
    let k : length l / 4 ≡ length (shots_in l) = omega arith in
    read_one (cif_bytes l) list t (said 0 (length l / 4) 0 (l ++ drop (length l) list)) r
    (shots (shots_in l) fit refl (omega arith) k (ap₂ (λ (m : List ℕ) n. m ++ drop n list) (sym same) (sym size)))

pub cif_only : (s list : List ℕ) (t : ReadSaid) → ReadSays s list t → t.number ≡ 0 → s ≡ cif_bytes (take (4 * t.shots) t.list)
cif_only s list t (shots {n} {u} l f e h k v) z =
    let size : length (numbers l) ≡ 4 * n = numbers-length l ∙ omega arith in
    let front : take (4 * n) u ≡ numbers l =
    ap (take (4 * n)) v ∙ take_at (numbers l) (drop (4 * length l) list) (4 * n) size in
    e ∙ sym (ap (λ (m : List ℕ). cif_text (shots_in m)) front ∙ ap cif_text (shots-numbers l))
cif_only s list t (room l f e h v) z = absurd (omega arith)
cif_only s list t (line o f v) z = absurd (omega arith)

pub one_text : (s r list before : List ℕ) (t u : ReadSaid) → ReadSays s list t → ReadSays r before u → t.number ≡ 0 → u.number ≡ 0
    → take (4 * t.shots) t.list ≡ take (4 * u.shots) u.list → s ≡ r
one_text s r list before t u a b e f same = cif_only s list t a e ∙ ap cif_bytes same ∙ sym (cif_only r before u b f)
