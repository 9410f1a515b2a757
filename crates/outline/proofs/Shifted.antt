-- A drawing that is moved: its lines move, and the same cells are inside; so the same refusal. Assumes nothing.
--
--   carried dx dy g    == the grid g with its lines moved by dx and dy
--   grid-shifted       == the grid of a drawing that is moved is its grid, moved, if it has a corner
--   refusal-shifted    == 2 to 5 hold of both or of neither
use Prim.Native.Nat.{ℕ, zero, suc, ◌+◌, ◌-◌}
use mathlib.Core.Path.{◌≡◌, refl, sym, ◌∙◌, ap, ap₂}
use mathlib.Core.Bool.{Bool, true, false, cond, ◌&&◌, ◌||◌, or-true}
use mathlib.Core.List.{List, [], ◌∷◌, map}
use native.Mathlib.Omega.{arith}
use lib.Dec.{ltb, eqb}
use lib.ListN.{length, length-map}
use borrow.Author.Tests.{eqb-true}
use Rattle.sum.specs.Sum.{Some, join}
use Rattle.figure.specs.declared.Axis.{Axis}
use Rattle.figure.specs.declared.Axis.TheVariants.{X, Y}
use Rattle.figure.specs.Corners.{Corner, coordinate, edges, any}
use Rattle.figure.specs.Figure.{bad_length, bad_figure, fault}
use Rattle.figure.specs.Inside.{walls, within}
use Rattle.figure.specs.Redrawn.{of_rings, shifted}
use Rattle.figure.proofs.Redrawn.{bad_rings, bad_rings_lem}
use Rattle.figure.proofs.Shifted.{ltb_moved, eqb_moved, by, fault-shifted, places-shifted, within-shifted}
use Rattle.outline.specs.Grid.{Grid}
use Rattle.outline.specs.Lines.{insert, rising, lines, place}
use Rattle.outline.specs.Inside.{grid_of, grid, inside_cells, empty}
use Rattle.outline.specs.Promise.{refusal}
use Rattle.outline.proofs.Redrawn.{all, grid-rings}

module _ (d : ℕ) where
  abbrev up : ℕ → ℕ
  up v = v + d

  insert-moved : (v : ℕ) (l : List ℕ) → insert (up v) (map up l) ≡ map up (insert v l)
  unfolding insert
  insert-moved v [] = refl
  insert-moved v (u ∷ l) =
      ap₂ (λ s t. cond s (up v ∷ up u ∷ map up l) (cond t (up u ∷ map up l) (up u ∷ insert (up v) (map up l)))) (ltb_moved v u d) (eqb_moved v u d)
      ∙ go (ltb v u) (eqb v u) (insert-moved v l)
    where
      go : (s t : Bool) → insert (up v) (map up l) ≡ map up (insert v l)
          → cond s (up v ∷ up u ∷ map up l) (cond t (up u ∷ map up l) (up u ∷ insert (up v) (map up l)))
          ≡ map up (cond s (v ∷ u ∷ l) (cond t (u ∷ l) (u ∷ insert v l)))
      go true t e = refl
      go false true e = refl
      go false false e = ap (λ m. up u ∷ m) e

  rising-moved : (l : List ℕ) → rising (map up l) ≡ map up (rising l)
  unfolding rising
  rising-moved [] = refl
  rising-moved (v ∷ l) = ap (insert (up v)) (rising-moved l) ∙ insert-moved v (rising l)

  place-moved : (l : List ℕ) → Some l → (i : ℕ) → place (map up l) i ≡ up (place l i)
  unfolding place
  place-moved [] s i = elim s [ ]
  place-moved (u ∷ []) s i = refl
  place-moved (u ∷ v ∷ l) s zero = refl
  place-moved (u ∷ v ∷ l) s (suc i) = place-moved (v ∷ l) tt i

abbrev pub carried : ℕ → ℕ → Grid → Grid
carried dx dy g = record { columns = g.columns; rows = g.rows; x = λ i. g.x i + dx; y = λ j. g.y j + dy; inside = g.inside }

-- some lines each way, or none
some-lines : (l : List ℕ) → Some l → Some (rising l)
unfolding rising insert
some-lines [] s = elim s [ ]
some-lines (v ∷ l) s = go v (rising l)
  where
    go : (v : ℕ) (m : List ℕ) → Some (insert v m)
    go v [] = tt
    go v (u ∷ m) = two (ltb v u) (eqb v u)
      where
        two : (s t : Bool) → Some (cond s (v ∷ u ∷ m) (cond t (u ∷ m) (u ∷ insert v m)))
        two true t = tt
        two false true = tt
        two false false = tt

-- without a corner it is 2
bad_fault : (qs : List (List Corner)) → bad_figure (of_rings qs) ≡ true → fault (of_rings qs) ≡ 2
unfolding fault
bad_fault qs b = rw b

pub some-corner : (qs : List (List Corner)) → fault (of_rings qs) ≡ 0 → Some (all qs)
unfolding bad_rings bad_length join any
some-corner [] e = absurd (omega (arith, e, bad_fault [] (bad_rings_lem [])))
some-corner ([] ∷ qs) e = absurd (omega (arith, e, bad_fault ([] ∷ qs) (bad_rings_lem ([] ∷ qs) ∙ or-true (eqb (length ([] ∷ qs)) 0 || ltb 8 (length ([] ∷ qs))))))
some-corner ((c ∷ r) ∷ qs) e = tt

module _ (dx dy : ℕ) (rs : List (List Corner)) where
  lines-shifted : (a : Axis) → lines a (all (shifted dx dy rs)) ≡ map (λ v. v + by dx dy a) (lines a (all rs))
  unfolding lines
  lines-shifted a = ap rising (places-shifted dx dy a rs) ∙ rising-moved (by dx dy a) (map (coordinate a) (all rs))

  abbrev xs : List ℕ
  xs = lines X (all rs)

  abbrev ys : List ℕ
  ys = lines Y (all rs)

  cell-shifted : Some xs → Some ys → (i j : ℕ)
      → within (walls (join edges (shifted dx dy rs))) (place (map (λ v. v + dx) xs) i) (place (map (λ v. v + dy) ys) j) (place (map (λ v. v + dy) ys) (suc j))
      ≡ within (walls (join edges rs)) (place xs i) (place ys j) (place ys (suc j))
  cell-shifted sx sy i j =
      rw (place-moved dx xs sx i, place-moved dy ys sy j, place-moved dy ys sy (suc j)) (within-shifted dx dy (place xs i) (place ys j) (place ys (suc j)) rs)

  carried_grid : Some xs → Some ys
      → grid_of (map (λ v. v + dx) xs) (map (λ v. v + dy) ys) (walls (join edges (shifted dx dy rs))) ≡ carried dx dy (grid_of xs ys (walls (join edges rs)))
  unfolding grid_of
  carried_grid sx sy =
      let c : length (map (λ v. v + dx) xs) ≡ length xs = length-map xs (λ v. v + dx) in
      let r : length (map (λ v. v + dy) ys) ≡ length ys = length-map ys (λ v. v + dy) in
      λ z. record {
        columns = c z - 1;
        rows = r z - 1;
        x = λ i. place-moved dx xs sx i z;
        y = λ j. place-moved dy ys sy j z;
        inside = λ i j. ltb i (c z - 1) && (ltb j (r z - 1) && cell-shifted sx sy i j z);
      }

  some-places : (a : Axis) → Some (all rs) → Some (lines a (all rs))
  unfolding lines
  some-places a s = some-lines (map (coordinate a) (all rs)) (go (all rs) s)
    where
      go : (cs : List Corner) → Some cs → Some (map (coordinate a) cs)
      go [] s = elim s [ ]
      go (c ∷ cs) s = tt

  pub grid-shifted : Some (all rs) → grid (of_rings (shifted dx dy rs)) ≡ carried dx dy (grid (of_rings rs))
  grid-shifted s =
      grid-rings (shifted dx dy rs)
      ∙ ap₂ (λ us vs. grid_of us vs (walls (join edges (shifted dx dy rs)))) (lines-shifted X) (lines-shifted Y)
      ∙ carried_grid (some-places X s) (some-places Y s)
      ∙ ap (carried dx dy) (sym (grid-rings rs))

  pub refusal-shifted : refusal (of_rings (shifted dx dy rs)) ≡ refusal (of_rings rs)
  unfolding refusal empty inside_cells
  refusal-shifted = rw (fault-shifted dx dy rs) (go (eqb (fault (of_rings rs)) 0) refl)
    where
      go : (t : Bool) → eqb (fault (of_rings rs)) 0 ≡ t
          → cond t (cond (empty (grid (of_rings (shifted dx dy rs)))) 5 0) (fault (of_rings rs)) ≡ cond t (cond (empty (grid (of_rings rs))) 5 0) (fault (of_rings rs))
      go false e = refl
      go true e = ap (λ g. cond (empty g) 5 0) (grid-shifted (some-corner rs (eqb-true (fault (of_rings rs)) 0 e)))
