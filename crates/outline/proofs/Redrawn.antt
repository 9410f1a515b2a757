-- The same drawing, drawn otherwise: the same lines, the same grid, the same refusal. Assumes nothing.
--
--   lines_redrawn     == the lines are the same
--   grid_redrawn      == and so is the grid
--   refusal_redrawn   == so 2 to 5 hold of both or of neither
use Prim.Native.Nat.{ℕ, suc, ◌-◌}
use mathlib.Core.Path.{◌≡◌, sym, ◌∙◌, ap, ap₂}
use mathlib.Core.Bool.{◌&&◌}
use mathlib.Core.List.{List, map, Memᴰ as Member}
use lib.Dec.{ltb}
use lib.ListN.{length}
use Rattle.sum.specs.Sum.{join}
use Rattle.sum.proofs.Lists.{All-of, All-map, All-unmap}
use Rattle.figure.specs.declared.Axis.{Axis}
use Rattle.figure.specs.declared.Axis.TheVariants.{X, Y}
use Rattle.figure.specs.Corners.{Corner, coordinate, edges, odd}
use Rattle.figure.specs.Inside.{Wall, walls, covers, within}
use Rattle.figure.specs.Redrawn.{of_rings, Redrawn}
use Rattle.figure.proofs.Redrawn.{Alike, rings-back, corners_redrawn, walls_redrawn, fault_redrawn}
use Rattle.outline.specs.Lines.{rising, lines, place}
use Rattle.outline.specs.Inside.{grid_of, grid, empty}
use Rattle.outline.specs.Promise.{refusal}
use Rattle.outline.proofs.Lines.{rising-up, rising-all, rising-lines, rising_unique}

abbrev pub all : List (List Corner) → List Corner
all rs = join (λ r. r) rs

-- the grid of rings
pub grid-rings : (rs : List (List Corner)) → grid (of_rings rs) ≡ grid_of (lines X (all rs)) (lines Y (all rs)) (walls (join edges rs))
unfolding grid
grid-rings rs = ap (λ r. grid_of (lines X (all r)) (lines Y (all r)) (walls (join edges r))) (rings-back rs)

rising-alike : (l m : List ℕ) → Alike l m → rising l ≡ rising m
rising-alike l m h =
    rising_unique m (rising l) (rising-up l)
    (rising-all (λ v. Member v m) l ((h (λ v. Member v m)).1 (All-of (λ v. Member v m) m (λ s i. i))))
    ((h (λ v. Member v (rising l))).0 (rising-lines l))

pub lines_redrawn : (a : Axis) {rs qs : List (List Corner)} → Redrawn rs qs → lines a (all rs) ≡ lines a (all qs)
unfolding lines
lines_redrawn a {rs} {qs} r =
    rising-alike (map (coordinate a) (all rs)) (map (coordinate a) (all qs))
    (λ Q. (
      λ h. All-map Q (coordinate a) (all qs) ((corners_redrawn r (λ c. Q (coordinate a c))).0 (All-unmap Q (coordinate a) (all rs) h)),
      λ h. All-map Q (coordinate a) (all rs) ((corners_redrawn r (λ c. Q (coordinate a c))).1 (All-unmap Q (coordinate a) (all qs) h)),
    ))

-- walls that tell what is within alike give the same grid
walls-alike : (xs ys : List ℕ) (vs ws : List Wall) → ((x lo hi : ℕ) → within vs x lo hi ≡ within ws x lo hi) → grid_of xs ys vs ≡ grid_of xs ys ws
unfolding grid_of
walls-alike xs ys vs ws e = λ z. record {
  columns = length xs - 1;
  rows = length ys - 1;
  x = place xs;
  y = place ys;
  inside = λ i j. ltb i (length xs - 1) && (ltb j (length ys - 1) && e (place xs i) (place ys j) (place ys (suc j)) z);
}

within_redrawn : {rs qs : List (List Corner)} → Redrawn rs qs → (x lo hi : ℕ) → within (walls (join edges rs)) x lo hi ≡ within (walls (join edges qs)) x lo hi
unfolding within
within_redrawn r x lo hi = ap odd (walls_redrawn (covers x lo hi) r)

pub grid_redrawn : {rs qs : List (List Corner)} → Redrawn rs qs → grid (of_rings rs) ≡ grid (of_rings qs)
grid_redrawn {rs} {qs} r =
    grid-rings rs
    ∙ ap₂ (λ xs ys. grid_of xs ys (walls (join edges rs))) (lines_redrawn X r) (lines_redrawn Y r)
    ∙ walls-alike (lines X (all qs)) (lines Y (all qs)) (walls (join edges rs)) (walls (join edges qs)) (within_redrawn r)
    ∙ sym (grid-rings qs)

pub refusal_redrawn : {rs qs : List (List Corner)} → Redrawn rs qs → refusal (of_rings rs) ≡ refusal (of_rings qs)
unfolding refusal
refusal_redrawn r = rw (fault_redrawn r, ap empty (grid_redrawn r))
