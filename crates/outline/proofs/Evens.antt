-- Every other corner of a figure has all its lines. Assumes nothing.
--
--   length-evens, evens_at     == every other member: half as many, and which they are
--   evens-append               == of two lists, where the first has an even number
--   evens_members              == they are members
--   Between a t, turns-between == the middle corner of a turn has its place along the axis a from the corner before it or the one after it
--   ring-covered, rings-covered   == so each corner of a ring that passes 3 and 4 has its place from every other one; each corner of all rings
--   lines-evens                == the lines of every other corner of a figure that passes 2, 3 and 4 are the figure's
--   right_halved               == what gathering the lines asks
use Prim.Native.Nat.{ℕ, zero, suc, ◌+◌, ◌*◌, ◌/◌, ◌%◌, ◌≤◌}
use mathlib.Core.Path.{◌≡◌, refl, sym, ◌∙◌, ap, subst}
use mathlib.Core.Bool.{Bool, true, false, not}
use mathlib.Core.List.Memᴰ
use mathlib.Core.List.{List, [], ◌∷◌, ◌++◌, map, Memᴰ as Member}
use mathlib.Core.Logic.{◌⊎◌, inl, inr}
use native.Mathlib.Omega.{arith}
use lib.ListN.{length, get_or}
use Rattle.sum.specs.Sum.{All, join}
use Rattle.sum.proofs.Lists.{All-imp, All-append, All-at, All-map, All-unmap}
use Rattle.figure.specs.declared.Axis.{Axis}
use Rattle.figure.specs.declared.Axis.TheVariants.{X}
use Rattle.figure.specs.Corners.{Corner, Turn, coordinate, corners, last, last_but_one, threes, turns, changes, into, onward, slanted, unturned}
use Rattle.figure.specs.Figure.{Figure, rings, corners_of, edges_of}
use Rattle.figure.specs.Steps.{Right}
use Rattle.figure.proofs.Corners.{length-corners, link, turns_links}
use Rattle.figure.proofs.Fault.{rings-good}
use Rattle.figure.proofs.Sharing.{corners-whole}
use Rattle.figure.proofs.Together.{RightAngled, right_angled, edges-half-all}
use Rattle.figure.proofs.Turns.{tally, unchanged, turns-other, edges-half}
use Rattle.outline.specs.Lines.{rising, lines}
use Rattle.outline.specs.Steps.{evens, Halved}
use Rattle.outline.proofs.Lines.{rising-up, rising-all, rising-lines, rising_unique}

module _ {A : Type 0} where
  pub length-evens : (l : List A) → length (evens l) ≡ (length l + 1) / 2
  unfolding evens
  length-evens [] = refl
  length-evens (s ∷ []) = refl
  length-evens (s ∷ t ∷ l) = omega (arith, length-evens l)

  pub evens_at : (l : List A) (k : ℕ) (d : A) → get_or (evens l) k d ≡ get_or l (2 * k) d
  unfolding evens
  evens_at [] k d = refl
  evens_at (s ∷ []) zero d = refl
  evens_at (s ∷ []) (suc k) d = let z : suc (suc (2 * k)) ≡ 2 * suc k = omega arith in ap (λ n. get_or (s ∷ []) n d) z
  evens_at (s ∷ t ∷ l) zero d = refl
  evens_at (s ∷ t ∷ l) (suc k) d =
      let z : suc (suc (2 * k)) ≡ 2 * suc k = omega arith in
      evens_at l k d ∙ ap (λ n. get_or (s ∷ t ∷ l) n d) z

  evens-append : (l m : List A) → length l % 2 ≡ 0 → evens (l ++ m) ≡ evens l ++ evens m
  unfolding evens
  evens-append [] m h = refl
  evens-append (s ∷ []) m h = absurd (omega arith)
  evens-append (s ∷ t ∷ l) m h = ap (λ z. s ∷ z) (evens-append l m (omega arith))

  evens_members : (l : List A) → All (λ s. Member s l) (evens l)
  unfolding evens
  evens_members [] = tt
  evens_members (s ∷ []) = (Member.head refl, tt)
  evens_members (s ∷ t ∷ l) =
      (Member.head refl, All-imp (λ u m. Member.tail (Member.tail m)) (evens l) (evens_members l))

-- one ring
module _ (a : Axis) where
  abbrev Between : Turn → Type 0
  Between t = (coordinate a t.at ≡ coordinate a t.before) ⊎ (coordinate a t.at ≡ coordinate a t.after)

  between : (t : Turn) → changes a (onward t) ≡ not (changes a (into t)) → Between t
  between t h = go (changes a (into t)) refl
    where
      go : (b : Bool) → changes a (into t) ≡ b → Between t
      go false e = inl (sym (unchanged a (into t) e))
      go true e = inr (unchanged a (onward t) (h ∙ ap not e))

  turns-between : (cs : List Corner) → slanted cs ≡ false → unturned cs ≡ false → All Between (turns cs)
  turns-between cs s u =
      All-imp (λ t h. between t h) (turns cs)
      (All-unmap (λ k. changes a k.to ≡ not (changes a k.from)) link (turns cs)
      (subst (All (λ k. changes a k.to ≡ not (changes a k.from))) (turns_links cs) (turns-other cs s u a)))

  module _ (E : List ℕ) where
    abbrev Has : Corner → Type 0
    Has c = Member (coordinate a c) E

    has : (t : Turn) → Between t → Has t.before → Has t.after → Has t.at
    has t (inl e) p q = subst (λ v. Member v E) (sym e) p
    has t (inr e) p q = subst (λ v. Member v E) (sym e) q

    -- the corners from q on, where p is before it and every other one of those after it has its place
    walk : (p q : Corner) (l : List Corner) → length l % 2 ≡ 0 → All Between (threes p q l) → Has p → All Has (evens l) → Has (last q l)
        → All Has (q ∷ l)
    unfolding threes evens last
    walk p q [] h b x y z = (z, tt)
    walk p q (r ∷ []) h b x y z = absurd (omega arith)
    walk p q (r ∷ t ∷ l) h b x y z =
        (has (record { before = p; at = q; after = r }) b.0 x y.0, (y.0, walk r t l (omega arith) b.1.1 y.0 y.1 z))

    but_one : (p q : Corner) (l : List Corner) → length l % 2 ≡ 0 → Has p → All Has (evens l) → Has (last_but_one p q l)
    unfolding last_but_one evens
    but_one p q [] h x y = x
    but_one p q (r ∷ []) h x y = absurd (omega arith)
    but_one p q (r ∷ t ∷ l) h x y = but_one r t l (omega arith) y.0 y.1

    ring : (cs : List Corner) → length cs % 2 ≡ 0 → All Between (turns cs) → All Has (evens cs) → All Has cs
    unfolding turns threes evens last last_but_one
    ring [] h b y = tt
    ring (s ∷ []) h b y = absurd (omega arith)
    ring (s ∷ q ∷ l) h b y =
        let z : Has (last q l)
        = has (record { before = last_but_one s q l; at = last q l; after = s }) b.0 (but_one s q l (omega arith) y.0 y.1) y.0 in
        (y.0, walk s q l (omega arith) b.1.1 y.0 y.1 z)

  abbrev places : List Corner → List ℕ
  places cs = map (coordinate a) cs

  places_of : (cs : List Corner) → All (λ c. Member (coordinate a c) (places cs)) cs
  places_of [] = tt
  places_of (c ∷ cs) = (Member.head refl, All-imp (λ d m. Member.tail m) cs (places_of cs))

  ring-covered : (cs : List Corner) → length cs % 2 ≡ 0 → slanted cs ≡ false → unturned cs ≡ false
      → All (λ c. Member (coordinate a c) (places (evens cs))) cs
  ring-covered cs h s u = ring (places (evens cs)) cs h (turns-between cs s u) (places_of (evens cs))

  -- all rings
  map-append : (l m : List Corner) → places (l ++ m) ≡ places l ++ places m
  map-append [] m = refl
  map-append (c ∷ l) m = ap (λ z. coordinate a c ∷ z) (map-append l m)

  rings-covered : (rs : List (List Corner)) → All RightAngled rs
      → All (λ c. Member (coordinate a c) (places (evens (join (λ r. r) rs)))) (join (λ r. r) rs)
  unfolding join
  rings-covered [] h = tt
  rings-covered (r ∷ rs) h =
      All-append (λ c. Member (coordinate a c) (places (evens (r ++ others)))) r others
      (All-imp (λ c m. subst (Member (coordinate a c)) (sym split) (Memᴰ.append_left (places (evens others)) m)) r (ring-covered r even h.0.0 h.0.1))
      (All-imp (λ c m. subst (Member (coordinate a c)) (sym split) (Memᴰ.append_right (places (evens r)) m)) others (rings-covered rs h.1))
    where
      others : List Corner
      others = join (λ r. r) rs

      even : length r % 2 ≡ 0
      even = omega (arith, edges-half r h.0.0 h.0.1 a)

      split : places (evens (r ++ others)) ≡ places (evens r) ++ places (evens others)
      split = ap places (evens-append r others even) ∙ map-append (evens r) (evens others)

  same_lines : (cs : List Corner) → All (λ c. Member (coordinate a c) (places (evens cs))) cs → lines a (evens cs) ≡ lines a cs
  unfolding lines
  same_lines cs h =
      rising_unique (places cs) (rising (places (evens cs))) (rising-up (places (evens cs)))
      (rising-all (λ v. Member v (places cs)) (places (evens cs))
      (All-map (λ v. Member v (places cs)) (coordinate a) (evens cs)
      (All-imp (λ c m. All-at (λ c. Member (coordinate a c) (places cs)) m (places_of cs)) (evens cs) (evens_members cs))))
      (All-map (λ v. Member v (rising (places (evens cs)))) (coordinate a) cs
      (All-imp (λ c m. All-at (λ v. Member v (rising (places (evens cs)))) m (rising-lines (places (evens cs)))) cs h))

  lines-evens : (f : Figure) → Right f → lines a (evens (corners_of f)) ≡ lines a (corners_of f)
  lines-evens f right =
      same_lines (corners_of f) (rings-covered (rings f) (right_angled f right))

fours : (m n : ℕ) → m ≡ 4 * n → m % 4 ≡ 0
fours m n e = omega arith

pub right_halved : (f : Figure) → Right f → (a : Axis) (ls : List ℕ) → length (lines a (corners f.numbers)) ≤ length ls
    → Halved a f.numbers ls
right_halved f right a ls h =
    let w = corners-whole f right.figure-good in
    let n = ap length w ∙ length-corners f.numbers in
    record {
      even = fours (length f.numbers) (tally (changes X) (edges_of f)) (omega (arith, (rings-good f right.figure-good).numbers, n, edges-half-all f right X));
      same = subst (λ cs. lines a (evens cs) ≡ lines a cs) w (lines-evens a f right);
      fits = h;
    }
