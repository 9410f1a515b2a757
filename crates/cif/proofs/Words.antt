-- Whether some bytes stand at a place, and the words of a text around its boxes. Assumes nothing.
--
--   closing_done     == the lines after the boxes, each where it should stand
--   scan_done, scanned_shots == a whole text with no line at fault
--   shot-put         == the four numbers of a shot
--   Left, Storing, store_start, store_none, store_more, store_end == the loop that stores the shots
--   stands_told      == whether some bytes stand at a place
use Prim.Native.Nat.{ℕ, suc, ◌+◌, ◌-◌, ◌*◌, ◌<◌, ◌≤◌}
use mathlib.Core.Path.{◌≡◌, ◌∙◌, refl, sym, ap, ap₂, subst}
use mathlib.Core.Bool.{Bool, true≢false}
use lib.Dec.{eqb}
use mathlib.Core.List.{List, [], ◌∷◌, ◌++◌}
use native.Mathlib.Omega.{arith}
use native.Mathlib.Numerals.{add-one}
use lib.ListN.{length, get_or, take, drop, set, length-append, length-drop, drop_of_length-le}
use lib.Seq.{sets, drop-cons, take-length}
use Rattle.sum.specs.Sum.{join, All}
use Rattle.sum.proofs.Lists.{sets_append}
use Rattle.shot.specs.Shot.{Shot, four, numbers}
use Rattle.shot.specs.Bad.{shot_of}
use Rattle.number.proofs.Bytes.{stands-join, stands-front, stands-back}
use Rattle.cif.specs.Text.{box_line, symbol, layer, finish, call, end, cif_text, Fit}
use Rattle.cif.specs.Faults.{Stands, NoBox}
use Rattle.std.specs.Prelude.{Ok}
use Rattle.std.specs.Cmp.Lexicographic.{pointwise}
use Rattle.std.specs.List.{starts_with}
use Rattle.std.proofs.lemmas.Slice.Eq.{slice_eq-Decides}
use Rattle.std.proofs.lemmas.Bool.Decides.{Decides-eqb}
use Rattle.cif.specs.Steps.{StandsTold, BoxAt, Boxes, BoxesTold, PastTold, OpeningTold, ClosingTold, ScanTold, Stored}
use Rattle.cif.proofs.Boxing.{box-one}

-- whether some bytes stand at a place, by what `starts_with` says of the bytes from there on
pub stands_told : (s : List ℕ) (at : ℕ) (l : List ℕ) (r : Bool) → r ≡ starts_with eqb (take (length s - at) (drop at s)) l → StandsTold s at l r
stands_told s at l r h =
    let rest : take (length s - at) (drop at s) ≡ drop at s = ap (λ n. take n (drop at s)) (sym (length-drop at s)) ∙ take-length (drop at s) in
    let d = slice_eq-Decides Decides-eqb l (take (length l) (drop at s)) r (h ∙ ap (λ (m : List ℕ). pointwise eqb l (take (length l) m)) rest) in
    record { yes = λ e. sym (d.0 e); no = λ e there. true≢false (sym (d.1 (sym there)) ∙ e) }

-- the lines after the boxes

module _ (s : List ℕ) where
  module _ (at : ℕ) where
    module _ (two : ℕ) (p : PastTold s at finish (Ok two)) where
      module _ (three : ℕ) (q : PastTold s two call (Ok three)) where
        called : Stands s (at + 4) call
        called = subst (λ n. Stands s n call) p.1 q.0

        third : three ≡ at + 4 + 5
        third = omega (arith, p.1, q.1)

        module _ (last : ℕ) (r : PastTold s three end (Ok last)) where
          ended : Stands s (at + 4 + 5) end
          ended = subst (λ n. Stands s n end) third r.0

          past : last ≡ at + 4 + 5 + 2
          past = omega (arith, r.1, third)

          pub closing_done : length s ≤ last → ClosingTold s at (Ok last)
          closing_done h = (
            stands-join s at finish (call ++ end) p.0 (stands-join s (at + 4) call end called ended),
            omega (arith, past),
            omega (arith, r.2),
          )

-- the whole text

module _ (s : List ℕ) where
  module _ (e : Stands s 0 symbol) (f : Stands s 11 layer) (n next : ℕ) (b : BoxesTold s 17 n next) where
    pub scan_done : Stands s next (finish ++ (call ++ end)) → next + 11 ≡ length s
        → (l : List Shot) × All Fit l × (s ≡ cif_text l) × (n ≡ length l)
    unfolding cif_text
    scan_done c h =
        let l = b.shots in
        let tail : List ℕ = finish ++ (call ++ end) in
        let k : next ≡ 17 + length (join box_line l) = b.past in
        let all =
        stands-join s 0 symbol (layer ++ (join box_line l ++ tail)) e
        (stands-join s 11 layer (join box_line l ++ tail) f
        (stands-join s 17 (join box_line l) tail b.boxes.stand (subst (λ q. Stands s q tail) k c))) in
        let size : length s ≡ length (cif_text l) = omega (arith, h, k, length-append (join box_line l) tail) in
        (l, b.boxes.fit, sym (take-length s) ∙ ap (λ n. take n s) size ∙ all, b.count)

-- storing

pub shot-put : (l : List ℕ) (at a b c d : ℕ) → set (set (set (set l at a) (at + 1) b) (at + 2) c) (at + 3) d ≡ sets l at (a ∷ b ∷ c ∷ d ∷ [])
shot-put l at a b c d =
    let p : at + 1 ≡ suc at = omega arith in
    let q : at + 2 ≡ suc (suc at) = omega arith in
    let r : at + 3 ≡ suc (suc (suc at)) = omega arith in
    ap (λ n. set (set (set (set l at a) n b) (at + 2) c) (at + 3) d) p
    ∙ ap₂ (λ m n. set (set (set (set l at a) (suc at) b) m c) n d) q r

abbrev no_shot : Shot
no_shot = shot_of 0 0 0 0

-- on the way: the shots passed are stored, and the boxes of those left stand here
pub record Left (s : List ℕ) (next i : ℕ) (before list : List ℕ) (l : List Shot) : Type 0 where
  pub boxes : Boxes s next (drop i l)
  pub all : sets list (4 * i) (numbers (drop i l)) ≡ sets before 0 (numbers l)

module _ (s : List ℕ) (next i : ℕ) (l : List Shot) (h : i < length l) where
  abbrev this : Shot
  this = get_or l i no_shot

  split : drop i l ≡ this ∷ drop (i + 1) l
  split = drop-cons l i no_shot h ∙ ap (λ n. this ∷ drop n l) (sym (add-one i))

  module _ (b : Boxes s next (drop i l)) where
    pub left-fit : All Fit (this ∷ drop (i + 1) l)
    left-fit = subst (λ (m : List Shot). All Fit m) split b.fit

    left-stands : Stands s next (box_line this ++ join box_line (drop (i + 1) l))
    unfolding join
    left-stands = subst (λ (m : List Shot). Stands s next (join box_line m)) split b.stand

    pub left-box : Stands s next (box_line this)
    left-box = stands-front s next (box_line this) (join box_line (drop (i + 1) l)) left-stands

    pub left-rest : Stands s (next + length (box_line this)) (join box_line (drop (i + 1) l))
    left-rest = stands-back s next (box_line this) (join box_line (drop (i + 1) l)) left-stands

module _ (s : List ℕ) (n : ℕ) (before : List ℕ) where
  abbrev pub Storing : ℕ → ℕ → List ℕ → Type 0
  Storing next i list = (l : List Shot) → Boxes s 17 l → n ≡ length l → Left s next i before list l

  pub store_start : Storing 17 0 before
  store_start l b e = record { boxes = b; all = refl }

  module _ (next i : ℕ) (list : List ℕ) (w : Storing next i list) where
    pub store_none : i < n → NoBox s next → Stored s 17 n before list
    unfolding Stored
    store_none h f l b e =
        let k : i < length l = omega arith in
        let v = (w l b e).boxes in
        absurd (f (get_or l i no_shot) (left-fit s next i l k v).0 (left-box s next i l k v))

    pub store_more : i < n → (p : Shot) (past : ℕ) → BoxAt s next p past → (after : List ℕ) → after ≡ sets list (4 * i) (four p)
        → Storing past (i + 1) after
    unfolding numbers join
    store_more h p past q after put l b e =
        let k : i < length l = omega arith in
        let v = w l b e in
        let t : p ≡ get_or l i no_shot = box-one s next p (get_or l i no_shot) q.fit (left-fit s next i l k v.boxes).0 q.stands (left-box s next i l k v.boxes) in
        let on : next + length (box_line (get_or l i no_shot)) ≡ past = ap (λ (x : Shot). next + length (box_line x)) (sym t) ∙ sym q.past in
        let four-on : 4 * i + 4 ≡ 4 * (i + 1) = omega arith in
        record {
          boxes =
              record {
                fit = (left-fit s next i l k v.boxes).1;
                stand = subst (λ m. Stands s m (join box_line (drop (i + 1) l))) on (left-rest s next i l k v.boxes);
              };
          all =
              ap₂ (λ (o : List ℕ) m. sets o m (numbers (drop (i + 1) l))) (put ∙ ap (λ (x : Shot). sets list (4 * i) (four x)) t) (sym four-on)
              ∙ sym (sets_append list (4 * i) (four (get_or l i no_shot)) (numbers (drop (i + 1) l)))
              ∙ ap (λ (m : List Shot). sets list (4 * i) (numbers m)) (sym (split s next i l k))
              ∙ v.all;
        }

    pub store_end : n ≤ i → Stored s 17 n before list
    unfolding Stored numbers join
    store_end h l b e =
        let k : length l ≤ i = omega arith in
        ap (λ (m : List Shot). sets list (4 * i) (numbers m)) (sym (drop_of_length-le l {i = i} k)) ∙ (w l b e).all

-- the parts of a whole text, as they are read

module _ (s : List ℕ) where
  module _ (first n next : ℕ) (q : OpeningTold s (Ok first)) (b : BoxesTold s first n next) where
    from_17 : BoxesTold s 17 n next
    from_17 = subst (λ k. BoxesTold s k n next) q.2 b

    pub scanned_shots : (p : ℕ) → ClosingTold s next (Ok p) → ScanTold s (Ok n)
    scanned_shots p c = scan_done s q.0 q.1 n next from_17 c.0 (sym c.1 ∙ c.2)
