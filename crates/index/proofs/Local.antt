-- A pick does not depend on the bytes before its outline. Assumes nothing.
--
--   number_local, value_local, many-local, ring_local, rings_local, outline_local == what is read from a place on depends on the bytes from
--                       there on, and on how many bytes there are
--   pick_local       == two jobs of one length that agree from where an entry points on give the same pick by it
use Prim.Native.Nat.{ℕ, zero, suc, ◌+◌, ◌-◌, ◌*◌, ◌≤◌}
use mathlib.Core.Path.{◌≡◌, ◌∙◌, refl, sym, ap, ap₂}
use mathlib.Core.List.{List, [], ◌∷◌}
use mathlib.Core.Bool.{Bool, cond}
use native.Mathlib.Omega.{arith}
use lib.ListN.{length, get_or, take, drop}
use lib.Seq.{get_or-drop}
use Rattle.number.specs.Reading.{Reading, read, fault, and_then, many}
use Rattle.number.specs.Number.{number}
use Rattle.number.proofs.Reading.{then_same, then_ext}
use Rattle.figure.specs.Figure.{least_corners, most_corners, most_rings, most_place}
use Rattle.job.specs.Job.{least_rings, left_after, value, coordinates, ring, rings_from, announces, outline, Part, part}
use Rattle.job.specs.Calls.{told}
use Rattle.job.proofs.Job.{value-onward, ring-onward, part-read}
use Rattle.index.specs.Index.{found, picked_by, picked}
use Rattle.index.proofs.Starts.{found-read}

module _ (s u : List ℕ) (a : ℕ) (same : length s ≡ length u) (agree : (i : ℕ) → a ≤ i → get_or s i 0 ≡ get_or u i 0) where
  number_local : (at : ℕ) → a ≤ at → number s at ≡ number u at
  unfolding number
  number_local at h = rw (same, agree at h, agree (at + 1) (omega arith), agree (at + 2) (omega arith))

  value_local : (low high at : ℕ) → a ≤ at → value s low high at ≡ value u low high at
  unfolding value
  value_local low high at h = rw (number_local at h)

  coordinates_local : (n at : ℕ) → a ≤ at → coordinates s n at ≡ coordinates u n at
  unfolding coordinates many
  coordinates_local zero at h = refl
  coordinates_local (suc n) at h =
      then_same (λ v next. and_then (many (value s 0 most_place) n next) (λ l last. read (v ∷ l) last)) (value_local 0 most_place at h)
      ∙ then_ext (value u 0 most_place at) _ _
      (λ v next e. then_same (λ l last. read (v ∷ l) last) (coordinates_local n next (let o = value-onward u 0 most_place at v next e in omega (arith, h, o))))

  ring_local : (most at : ℕ) → a ≤ at → ring s most at ≡ ring u most at
  unfolding ring
  ring_local most at h =
      then_same (λ v next. coordinates s (2 * v) next) (value_local least_corners most at h)
      ∙ then_ext (value u least_corners most at) _ _
      (λ v next e. coordinates_local (2 * v) next (let o = value-onward u least_corners most at v next e in omega (arith, h, o)))

  rings_local : (n left at : ℕ) → a ≤ at → rings_from s n left at ≡ rings_from u n left at
  unfolding rings_from
  rings_local zero left at h = refl
  rings_local (suc n) left at h =
      then_same (λ l next. and_then (rings_from s n (left_after left l) next) (λ ls last. read (l ∷ ls) last)) (ring_local left at h)
      ∙ then_ext (ring u left at) _ _
      (λ l next e.
      then_same (λ ls last. read (l ∷ ls) last) (rings_local n (left_after left l) next (let o = ring-onward u left at e in omega (arith, h, o))))

  announces_local : (at : ℕ) → a ≤ at → announces s at ≡ announces u at
  unfolding announces
  announces_local at h = rw (same, agree at h)

  outline_local : (at : ℕ) → a ≤ at → outline s at ≡ outline u at
  unfolding outline
  outline_local at h =
      let many-same : and_then (value s least_rings most_rings (at + 1)) (λ r next. rings_from s r most_corners next)
      ≡ and_then (value u least_rings most_rings (at + 1)) (λ r next. rings_from u r most_corners next) =
      then_same (λ r next. rings_from s r most_corners next) (value_local least_rings most_rings (at + 1) (omega (arith, h)))
      ∙ then_ext (value u least_rings most_rings (at + 1)) _ _
      (λ r next e. rings_local r most_corners next (let o = value-onward u least_rings most_rings (at + 1) r next e in omega (arith, h, o)))
      in
      let one_same : and_then (ring s most_corners at) (λ l next. read (l ∷ []) next) ≡ and_then (ring u most_corners at) (λ l next. read (l ∷ []) next) =
      then_same (λ l next. read (l ∷ []) next) (ring_local most_corners at h)
      in
      ap (λ (b : Bool). cond b (and_then (value s least_rings most_rings (at + 1)) (λ r next. rings_from s r most_corners next)) (and_then (ring s most_corners at) (λ l next. read (l ∷ []) next))) (announces_local at h)
      ∙ ap₂ (λ (x y : Reading (List (List ℕ))). cond (announces u at) x y) many-same one_same

  part_local : (at : ℕ) → a ≤ at → part s at ≡ part u at
  unfolding part
  part_local at h = then_same (λ ls next. read (record { start = at; end = next; rings = ls }) next) (outline_local at h)

pub pick_local : (s u index : List ℕ) (n k : ℕ) → length s ≡ length u → drop (get_or index k 0) s ≡ drop (get_or index k 0) u
    → picked s index n k ≡ picked u index n k
unfolding picked found
pick_local s u index n k same e = ap (picked_by s) found-same ∙ bytes_same (found u index n k) refl
  where
    at : ℕ
    at = get_or index k 0

    agree : (i : ℕ) → at ≤ i → get_or s i 0 ≡ get_or u i 0
    agree i h =
        let z : i ≡ at + (i - at) = omega arith in
        ap (λ m. get_or s m 0) z ∙ sym (get_or-drop at s (i - at) 0) ∙ ap (λ (l : List ℕ). get_or l (i - at) 0) e ∙ get_or-drop at u (i - at) 0 ∙ ap (λ m. get_or u m 0) (sym z)

    found-same : found s index n k ≡ found u index n k
    found-same = rw (same, part_local s u at same agree at (omega arith))

    bytes_same : (r : Reading Part) → found u index n k ≡ r → picked_by s r ≡ picked_by u r
    bytes_same (fault r p) q = refl
    bytes_same (read p next) q =
        let start : p.start ≡ at = (part-read u at (found-read u index n k q).0).1 in
        ap (λ (l : List ℕ). told 0 0 (take (p.end - p.start) l)) (ap (λ m. drop m s) start ∙ e ∙ ap (λ m. drop m u) (sym start))
