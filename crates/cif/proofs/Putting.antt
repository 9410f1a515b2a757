-- Laws of writing a text. Assumes nothing.
--
--   put_small, put-more  == the digits of a number, put one behind the other
--   put-field            == a number behind a space
--   word_put             == some bytes, copied to a part of the buffer
--   box-length, box-put  == the bytes of a box
--   doubled_line, box-room, box-sized, box-written == the four numbers of a shot, and its box by them
--   boxes-bytes, boxes-none == the boxes of a list from a place on
--   measure-.., putting-.. == the loops over a list
--   text_length, text_put == a whole text
--   write_bad, write_short, write_fits == the cases of `cif_written`
use Prim.Native.Nat.{ℕ, ◌+◌, ◌-◌, ◌*◌, ◌/◌, ◌%◌, ◌<◌, ◌≤◌}
use mathlib.Core.Path.{◌≡◌, ◌∙◌, refl, sym, ap, ap₂}
use mathlib.Core.Bool.{true, false}
use mathlib.Core.List.{List, [], ◌∷◌, ◌++◌, append_assoc}
use native.Mathlib.Omega.{arith}
use native.Mathlib.Numerals.{add-one}
use lib.ListN.{length, take, drop, set, length-append, drop_of_length-le}
use lib.Seq.{sets, length-sets, drop-drop}
use borrow.Author.Tests.{le-leb, lt-leb}
use Rattle.sum.specs.Sum.{join}
use Rattle.sum.proofs.Lists.{sets_append, sets_front}
use Rattle.refusal.specs.declared.Refusal.{Refusal}
use Rattle.refusal.specs.declared.Refusal.TheVariants as because
use Rattle.refusal.specs.Refusals.{refusal_no}
use borrow.Rule.Slice.PartMut.{put_mid}
use Rattle.std.proofs.lemmas.List.Edits.{sets-eq}
use Rattle.cif.specs.declared.boxes.Sides.{Sides}
use Rattle.shot.specs.Shot.{Shot, shots_in}
use Rattle.shot.specs.Bad.{shot_of, bad_shots}
use Rattle.shot.proofs.Bad.{good-shots, four-at}
use Rattle.cif.specs.Text.{decimal, field, box_of, box_line, symbol, layer, finish, call, end, cif_text, cif_bytes}
use Rattle.cif.specs.Calls.{WriteSaid, unwritten, written_to, cif_written}
use Rattle.cif.specs.Steps.{shot_with, listed, Reckoned, boxes_bytes}
use Rattle.cif.proofs.Decimal.{decimal-small, decimal_split}

-- a number

module _ (out : List ℕ) (at n : ℕ) where
  pub put_small : n < 10 → (at + 1 ≡ at + length (decimal n)) × (set out at (48 + n) ≡ sets out at (decimal n))
  put_small h = (omega (arith, ap length (decimal-small n h)), sym (ap (sets out at) (decimal-small n h)))

  module _ (h : 10 ≤ n) (k : n < 1000000) where
    pub split_length : length (decimal n) ≡ length (decimal (n / 10)) + 1
    split_length = ap length (decimal_split n h k) ∙ length-append (decimal (n / 10)) ((48 + n % 10) ∷ [])

    pub put-more : (last : ℕ) (mid : List ℕ) → last ≡ at + length (decimal (n / 10)) → mid ≡ sets out at (decimal (n / 10))
        → (last + 1 ≡ at + length (decimal n)) × (set mid last (48 + n % 10) ≡ sets out at (decimal n))
    put-more last mid e f = (
      omega (arith, e, split_length),
      ap₂ (λ (l : List ℕ) i. set l i (48 + n % 10)) f e
          ∙ sym (sets_append out at (decimal (n / 10)) ((48 + n % 10) ∷ []))
          ∙ sym (ap (sets out at) (decimal_split n h k)),
    )

-- behind a space
pub put-field : (out : List ℕ) (at n last : ℕ) (after : List ℕ) → last ≡ (at + 1) + length (decimal n)
    → after ≡ sets (set out at 32) (at + 1) (decimal n) → (last ≡ at + length (field n)) × (after ≡ sets out at (field n))
put-field out at n last after e f = (omega (arith, e), f ∙ ap (λ i. sets (set out at 32) i (decimal n)) (add-one at))

-- some bytes, copied to a part of the buffer

pub word_put : (out word : List ℕ) (at : ℕ) → at + length word ≤ length out → put_mid at (at + length word - at) out word ≡ sets out at word
word_put out word at h =
    let k : at + length word - at ≡ length word = omega arith in
    ap (λ (n : ℕ). put_mid at n out word) k
    ∙ ap (λ (l : List ℕ). take at out ++ (word ++ l)) (drop-drop (length word) at out)
    ∙ sym (append_assoc (take at out) word (drop (at + length word) out))
    ∙ sym (sets-eq word out at h)

-- a box

pub box-length : (a b x y : ℕ) → length (box_of a b x y) ≡ 7 + length (decimal a) + length (decimal b) + length (decimal x) + length (decimal y)
unfolding box_of
box-length a b x y =
    omega (
      arith,
      length-append (field a) (field b ++ (field x ++ (field y ++ (59 ∷ 10 ∷ [])))),
      length-append (field b) (field x ++ (field y ++ (59 ∷ 10 ∷ []))),
      length-append (field x) (field y ++ (59 ∷ 10 ∷ [])),
      length-append (field y) (59 ∷ 10 ∷ []),
    )

-- six parts, put one behind the other
pub box-put : (out : List ℕ) (at a b x y p q r t u last : ℕ) (o₁ o₂ o₃ o₄ o₅ after : List ℕ) → p ≡ at + 1 → o₁ ≡ sets out at (66 ∷ [])
    → q ≡ p + length (field a) → o₂ ≡ sets o₁ p (field a) → r ≡ q + length (field b) → o₃ ≡ sets o₂ q (field b)
    → t ≡ r + length (field x) → o₄ ≡ sets o₃ r (field x) → u ≡ t + length (field y) → o₅ ≡ sets o₄ t (field y)
    → last ≡ u + 2 → after ≡ sets o₅ u (59 ∷ 10 ∷ []) → (last ≡ at + length (box_of a b x y)) × (after ≡ sets out at (box_of a b x y))
unfolding box_of
box-put out at a b x y p q r t u last o₁ o₂ o₃ o₄ o₅ after e₁ f₁ e₂ f₂ e₃ f₃ e₄ f₄ e₅ f₅ e₆ f₆ = (
  omega (arith, e₁, e₂, e₃, e₄, e₅, e₆, box-length a b x y),
  f₆
      ∙ join-two o₄ t (field y) (59 ∷ 10 ∷ []) f₅ e₅
      ∙ join-two o₃ r (field x) (field y ++ (59 ∷ 10 ∷ [])) f₄ e₄
      ∙ join-two o₂ q (field b) (field x ++ (field y ++ (59 ∷ 10 ∷ []))) f₃ e₃
      ∙ join-two o₁ p (field a) (field b ++ (field x ++ (field y ++ (59 ∷ 10 ∷ [])))) f₂ e₂
      ∙ join-two out at (66 ∷ []) (field a ++ (field b ++ (field x ++ (field y ++ (59 ∷ 10 ∷ []))))) f₁ e₁,
)
  where
    join-two : (o : List ℕ) (i : ℕ) {m : List ℕ} {j : ℕ} (v w : List ℕ) → m ≡ sets o i v → j ≡ i + length v → sets m j w ≡ sets o i (v ++ w)
    join-two o i v w e k = ap₂ (λ (l : List ℕ) n. sets l n w) e k ∙ sym (sets_append o i v w)

-- the boxes of a list

pub boxes-bytes : (l : List ℕ) (at : ℕ) → at + 3 < length l
    → boxes_bytes (drop at l) ≡ box_line (listed l at) ++ boxes_bytes (drop (at + 4) l)
unfolding boxes_bytes join shots_in
boxes-bytes l at h = ap (λ (m : List ℕ). join box_line (shots_in m)) (four-at l at h)

pub boxes-none : (l : List ℕ) (at : ℕ) → length l ≤ at → boxes_bytes (drop at l) ≡ []
unfolding boxes_bytes join shots_in
boxes-none l at h = ap (λ (m : List ℕ). join box_line (shots_in m)) (drop_of_length-le l {i = at} h)

-- shot i of a good list, as it is read
pub record Upright (l : List ℕ) (i : ℕ) (r : Sides) : Type 0 where
  pub room : 4 * i + 3 < length l
  pub rising : (r.x_low ≤ r.x_high) × (r.y_low ≤ r.y_high)

pub upright : (l : List ℕ) (i : ℕ) (r : Sides) → bad_shots l ≡ false → 4 * i + 4 ≤ length l → shot_with r ≡ listed l (4 * i) → Upright l i r
upright l i r e h k =
    let g = good-shots l e in
    record {
      room = omega arith;
      rising = (
        omega (arith, g.wide i h, ap (λ (s : Shot). s.xlow) k, ap (λ (s : Shot). s.xhigh) k),
        omega (arith, g.high i h, ap (λ (s : Shot). s.ylow) k, ap (λ (s : Shot). s.yhigh) k),
      );
    }

-- the place past the last shot of a good list is past the list
pub all_passed : (l : List ℕ) (i : ℕ) → bad_shots l ≡ false → length l / 4 ≤ i → length l ≤ 4 * i
all_passed l i e h = let g = good-shots l e in omega (arith, g.fours)

four-on : (i : ℕ) → 4 * i + 4 ≡ 4 * (i + 1)
four-on i = omega arith

pub record Measuring (l : List ℕ) (room i used : ℕ) : Type 0 where
  pub fits : used ≤ room
  pub left : used + length (boxes_bytes (drop (4 * i) l)) ≡ length (boxes_bytes l)

module _ (l : List ℕ) (room : ℕ) where
  pub measure_start : Measuring l room 0 0
  measure_start = record { fits = omega arith; left = omega arith }

  module _ (i used : ℕ) (m : Measuring l room i used) where
    module _ (line : ℕ) (r : Sides) (h : 4 * i + 3 < length l) (k : shot_with r ≡ listed l (4 * i)) (e : line ≡ length (box_line (shot_with r))) where
      rest : length (boxes_bytes (drop (4 * i) l)) ≡ line + length (boxes_bytes (drop (4 * (i + 1)) l))
      rest =
          ap length (boxes-bytes l (4 * i) h)
          ∙ length-append (box_line (listed l (4 * i))) (boxes_bytes (drop (4 * i + 4) l))
          ∙ ap₂ (λ (n j : ℕ). n + length (boxes_bytes (drop j l))) (sym (e ∙ ap (λ (s : Shot). length (box_line s)) k)) (four-on i)

      pub measure_short : room - used < line → room < length (boxes_bytes l)
      measure_short g = omega (arith, m.left, m.fits, rest)

      pub measure_more : line ≤ room - used → Measuring l room (i + 1) (used + line)
      measure_more g = record { fits = omega (arith, m.fits); left = omega (arith, m.left, rest) }

    pub measure_end : length l ≤ 4 * i → (used ≡ length (boxes_bytes l)) × (used ≤ room)
    measure_end h = (omega (arith, m.left, ap length (boxes-none l (4 * i) h)), m.fits)

pub record Boxing (l out₀ : List ℕ) (from i next : ℕ) (out : List ℕ) : Type 0 where
  pub same : length out ≡ length out₀
  pub ends : next + length (boxes_bytes (drop (4 * i) l)) ≡ from + length (boxes_bytes l)
  pub all : sets out next (boxes_bytes (drop (4 * i) l)) ≡ sets out₀ from (boxes_bytes l)

module _ (l out₀ : List ℕ) (from : ℕ) where
  pub boxing_start : Boxing l out₀ from 0 from out₀
  boxing_start = record { same = refl; ends = refl; all = refl }

  module _ (i next : ℕ) (out : List ℕ) (m : Boxing l out₀ from i next out) where
    module _ (r : Sides) (h : 4 * i + 3 < length l) (q : shot_with r ≡ listed l (4 * i)) where
      abbrev this : List ℕ
      this = box_line (shot_with r)

      abbrev more : List ℕ
      more = boxes_bytes (drop (4 * (i + 1)) l)

      here : boxes_bytes (drop (4 * i) l) ≡ this ++ more
      here = boxes-bytes l (4 * i) h ∙ ap₂ (λ (s : Shot) (j : ℕ). box_line s ++ boxes_bytes (drop j l)) (sym q) (four-on i)

      pub boxing_room : from + length (boxes_bytes l) ≤ length out₀ → next + length this ≤ length out
      boxing_room k = omega (arith, m.ends, m.same, ap length here, length-append this more)

      pub boxing_more : (last : ℕ) (after : List ℕ) → last ≡ next + length this → after ≡ sets out next this → Boxing l out₀ from (i + 1) last after
      boxing_more last after e f =
          record {
            same = ap length f ∙ length-sets out next this ∙ m.same;
            ends = omega (arith, e, m.ends, ap length here, length-append this more);
            all =
                ap₂ (λ (o : List ℕ) n. sets o n more) f e
                ∙ sym (sets_append out next this more)
                ∙ ap (sets out next) (sym here)
                ∙ m.all;
          }

    pub boxing_end : length l ≤ 4 * i → (next ≡ from + length (boxes_bytes l)) × (out ≡ sets out₀ from (boxes_bytes l))
    boxing_end h = (
      omega (arith, m.ends, ap length (boxes-none l (4 * i) h)),
      ap (sets out next) (sym (boxes-none l (4 * i) h)) ∙ m.all,
    )

-- the whole text

text_parts : (l : List ℕ) → cif_bytes l ≡ (symbol ++ layer) ++ (boxes_bytes l ++ (finish ++ (call ++ end)))
unfolding cif_text boxes_bytes
text_parts l = refl

pub text_length : (l : List ℕ) → length (cif_bytes l) ≡ length (boxes_bytes l) + 28
text_length l =
    ap length (text_parts l)
    ∙ omega (
      arith,
      length-append (symbol ++ layer) (boxes_bytes l ++ (finish ++ (call ++ end))),
      length-append (boxes_bytes l) (finish ++ (call ++ end)),
    )

pub text_put : (l out : List ℕ) (p q : ℕ) (o₁ o₂ after : List ℕ) → p ≡ 0 + 17 → o₁ ≡ sets out 0 (symbol ++ layer)
    → q ≡ p + length (boxes_bytes l) → o₂ ≡ sets o₁ p (boxes_bytes l) → after ≡ sets o₂ q (finish ++ (call ++ end)) → after ≡ sets out 0 (cif_bytes l)
text_put l out p q o₁ o₂ after e f g h k =
    k
    ∙ ap₂ (λ (o : List ℕ) n. sets o n (finish ++ (call ++ end))) h g
    ∙ sym (sets_append o₁ p (boxes_bytes l) (finish ++ (call ++ end)))
    ∙ ap₂ (λ (o : List ℕ) n. sets o n (boxes_bytes l ++ (finish ++ (call ++ end)))) f e
    ∙ sym (sets_append out 0 (symbol ++ layer) (boxes_bytes l ++ (finish ++ (call ++ end))))
    ∙ ap (sets out 0) (sym (text_parts l))

-- writing

module _ (l out : List ℕ) where
  pub write_bad : bad_shots l ≡ true → unwritten (refusal_no because.Shots) out ≡ cif_written l out
  unfolding cif_written
  write_bad e = rw e

  module _ (good : bad_shots l ≡ false) where
    written : written_to out (cif_bytes l) ≡ cif_written l out
    unfolding cif_written
    written = rw good

    pub write_short : length out < length (boxes_bytes l) + 28 → unwritten (refusal_no because.Room) out ≡ cif_written l out
    write_short h =
        let p : unwritten (refusal_no because.Room) out ≡ written_to out (cif_bytes l) =
        simp (lt-leb (length (cif_bytes l)) (length out) (omega (arith, text_length l))) in p ∙ written

    pub write_full : (why : Refusal) → why ≡ because.Room → length out < length (boxes_bytes l) + 28 → unwritten (refusal_no why) out ≡ cif_written l out
    write_full why e h = ap (λ (w : Refusal). unwritten (refusal_no w) out) e ∙ write_short h

    pub write_fits : (n : ℕ) (after : List ℕ) → n ≡ length (boxes_bytes l) → n + 28 ≤ length out → after ≡ sets out 0 (cif_bytes l)
        → record { number = 0; bytes = n + 28; out = after } ≡ cif_written l out
    write_fits n after e h f =
        let told : ℕ → List ℕ → WriteSaid = λ k o. record { number = 0; bytes = k; out = o } in
        let room : length (cif_bytes l) ≤ length out = omega (arith, text_length l) in
        let p : told (length (cif_bytes l)) (cif_bytes l ++ drop (length (cif_bytes l)) out) ≡ written_to out (cif_bytes l) =
        simp (le-leb (length (cif_bytes l)) (length out) room) in
        let k : n + 28 ≡ length (cif_bytes l) = omega (arith, text_length l) in
        ap₂ told k (f ∙ sets_front out (cif_bytes l) room) ∙ p ∙ written

-- the numbers of a shot, as they are reckoned

pub doubled_line : {xl yl xh yh l r b t : ℕ} → (l ≡ xl) × (l ≤ 65535) → (r ≡ xh) × (r ≤ 65535) → (b ≡ yl) × (b ≤ 65535)
    → (t ≡ yh) × (t ≤ 65535) → Reckoned (shot_of xl yl xh yh) (2 * (r - l)) (2 * (t - b)) (l + r) (b + t)
unfolding box_line
doubled_line p q u v =
    let e = p.0 in
    let f = q.0 in
    let g = u.0 in
    let h = v.0 in
    record {
      line = cc;
      small =
          record {
            one = omega (arith, q.1);
            two = omega (arith, v.1);
            three = omega (arith, p.1, q.1);
            four = omega (arith, u.1, v.1);
          };
    }

module _ {s : Shot} {a b x y : ℕ} (n : Reckoned s a b x y) where
  pub box-room : (at m : ℕ) → at + length (box_line s) ≤ m
      → at + (7 + length (decimal a) + length (decimal b) + length (decimal x) + length (decimal y)) ≤ m
  box-room at m h = omega (arith, ap length n.line, box-length a b x y)

  pub box-sized : {i j k l : ℕ} → (i ≡ length (decimal a)) × (i ≤ 6) → (j ≡ length (decimal b)) × (j ≤ 6)
      → (k ≡ length (decimal x)) × (k ≤ 6) → (l ≡ length (decimal y)) × (l ≤ 6)
      → (7 + i + j + k + l ≡ length (box_line s)) × (7 + i + j + k + l ≤ 31)
  box-sized p q u v = (
    omega (arith, ap length n.line, box-length a b x y, p.0, q.0, u.0, v.0),
    omega (arith, p.1, q.1, u.1, v.1),
  )

  pub box-written : (out : List ℕ) (at last : ℕ) (after : List ℕ)
      → (last ≡ at + length (box_of a b x y)) × (after ≡ sets out at (box_of a b x y))
      → (last ≡ at + length (box_line s)) × (after ≡ sets out at (box_line s))
  box-written out at last after e =
      (e.0 ∙ ap (λ (l : List ℕ). at + length l) n.line, e.1 ∙ ap (sets out at) n.line)
