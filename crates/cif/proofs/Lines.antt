-- Where a line at fault starts. Assumes nothing.
--
--   Ended l          == the bytes l end in a line feed
--   Begins s at      == a line of the text s begins at the place: at its front, or behind a line feed
--   fault-within     == a line at fault starts within the text, or where the text ends
--   fault-begins     == and it is where a line begins
use Prim.Native.Nat.{ℕ, ◌+◌, ◌-◌, ◌<◌, ◌≤◌}
use mathlib.Core.Path.{◌≡◌, ◌∙◌, refl, sym, ap, subst}
use mathlib.Core.Logic.{inl, inr}
use mathlib.Core.List.{List, [], ◌∷◌, ◌++◌}
use native.Mathlib.Omega.{arith}
use lib.ListN.{length, get_or, length-append}
use lib.Seq.{get_or-append-add}
use Rattle.sum.specs.Sum.{join, All}
use Rattle.shot.specs.Shot.{Shot}
use Rattle.number.proofs.Bytes.{stands_at, stands-room, stands-front, stands-back}
use Rattle.cif.specs.Text.{field, box_of, box_line, symbol, layer, finish, call, end}
use Rattle.cif.specs.Faults.{Stands, Stops, Extra, Closing, FaultAt}

pub record Ended (l : List ℕ) : Type 0 where
  pub some : 0 < length l
  pub feed : get_or l (length l - 1) 0 ≡ 10

pub record Begins (s : List ℕ) (at : ℕ) : Type 0 where
  pub within : at ≤ length s
  pub behind : 0 < at → get_or s (at - 1) 0 ≡ 10

-- what ends in a line feed still does with something before it
ended-behind : (l m : List ℕ) → Ended m → Ended (l ++ m)
ended-behind l m e =
    let some = e.some in
    let n : length (l ++ m) ≡ length l + length m = length-append l m in
    let last : length (l ++ m) - 1 ≡ length l + (length m - 1) = omega arith in
    record {
      some = omega arith;
      feed = ap (λ i. get_or (l ++ m) i 0) last ∙ get_or-append-add l m (length m - 1) 0 ∙ e.feed;
    }

box-ended : (b : Shot) → Ended (box_line b)
unfolding box_line box_of
box-ended b =
    ended-behind (66 ∷ []) _
    (ended-behind (field _) _ (ended-behind (field _) _ (ended-behind (field _) _ (ended-behind (field _) _ (record { some = omega arith; feed = refl })))))

-- behind a line another one begins
next-begins : (s : List ℕ) (at : ℕ) (l : List ℕ) → Ended l → Begins s at → Stands s at l → Begins s (at + length l)
next-begins s at l e b there =
    let some = e.some in
    let within = b.within in
    let last : at + length l - 1 ≡ at + (length l - 1) = omega arith in
    record {
      within = omega (arith, stands-room s at l there);
      behind = λ h. ap (λ i. get_or s i 0) last ∙ stands_at s at l there (length l - 1) (omega arith) ∙ e.feed;
    }

boxes_begin : (s : List ℕ) (at : ℕ) (l : List Shot) → Begins s at → Stands s at (join box_line l) → Begins s (at + length (join box_line l))
unfolding join
boxes_begin s at [] b there = subst (λ n. Begins s n) (let z : at ≡ at + 0 = omega arith in z) b
boxes_begin s at (p ∷ l) b there =
    let next = at + length (box_line p) in
    let k : next + length (join box_line l) ≡ at + length (box_line p ++ join box_line l) = omega (arith, length-append (box_line p) (join box_line l)) in
    subst (λ n. Begins s n) k
    (boxes_begin s next l (next-begins s at (box_line p) (box-ended p) b (stands-front s at (box_line p) (join box_line l) there))
    (stands-back s at (box_line p) (join box_line l) there))

stops_begin : (s : List ℕ) (o : ℕ) (R : ℕ → Type 0) → ((at : ℕ) → Begins s at → R at → Begins s o) → (ls : List (List ℕ)) → All Ended ls
    → (at : ℕ) → Begins s at → Stops s o ls R at → Begins s o
stops_begin s o R rest [] es at b a = rest at b a
stops_begin s o R rest (l ∷ ls) es at b (inl a) = subst (λ n. Begins s n) (sym a.1) b
stops_begin s o R rest (l ∷ ls) es at b (inr a) =
    stops_begin s o R rest ls es.1 (at + length l) (next-begins s at l es.0 b a.0) a.1

begins : (s : List ℕ) (o : ℕ) → FaultAt s o → Begins s o
begins s o =
    stops_begin s o (Closing s o) closing (symbol ∷ layer ∷ []) (one, (one', tt)) 0 (record { within = omega arith; behind = λ h. absurd (omega arith) })
  where
    one : Ended symbol
    one = record { some = omega arith; feed = refl }

    one' : Ended layer
    one' = record { some = omega arith; feed = refl }

    feed : {l : List ℕ} → 0 < length l → get_or l (length l - 1) 0 ≡ 10 → Ended l
    feed h e = record { some = h; feed = e }

    last : All Ended (finish ∷ call ∷ end ∷ [])
    last = (feed (omega arith) refl, (feed (omega arith) refl, (feed (omega arith) refl, tt)))

    extra : (at : ℕ) → Begins s at → Extra s o at → Begins s o
    extra at b a = subst (λ n. Begins s n) (sym a.1) b

    closing : (at : ℕ) → Begins s at → Closing s o at → Begins s o
    closing at b c =
        stops_begin s o (Extra s o) extra (finish ∷ call ∷ end ∷ []) last (at + length (join box_line c.shots))
        (boxes_begin s at c.shots b c.stand) c.stops

pub fault-within : (s : List ℕ) (o : ℕ) → FaultAt s o → o ≤ length s
fault-within s o f = (begins s o f).within

pub fault-begins : (s : List ℕ) (o : ℕ) → FaultAt s o → 0 < o → get_or s (o - 1) 0 ≡ 10
fault-begins s o f h = (begins s o f).behind h
