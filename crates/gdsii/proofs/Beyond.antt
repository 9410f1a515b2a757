-- Behind what is written everything is as it came in, number by number. Assumes nothing.
--
--   read-beyond      == reading: the list behind two numbers for each corner, and all of it beside a refusal
--   entries ps       == how many entries the grid of the ring of these points has: m (m + 1) / 2 x n (n + 1) / 2 of m columns and n rows
--   PlateKept s table list u == what a fracture leaves: the list behind four numbers for each shot of a success, and all of it beside a
--                       refusal; the table behind the entries of the ring's grid where it was filled, and all of it where it was not
--   plate-beyond     == that holds of `fracture_boundary`
use Prim.Native.Nat.{ℕ, ◌+◌, ◌*◌, ◌/◌, ◌≤◌}
use mathlib.Core.Path.{◌≡◌, refl}
use mathlib.Core.Logic.{◌⊎◌}
use mathlib.Core.List.{List}
use native.Mathlib.Omega.{arith}
use lib.Dec.{ltb, eqb}
use lib.ListN.{length, get_or}
use Rattle.number.specs.Reading.{Reading, read, fault}
use Rattle.number.proofs.Number.{cond_cases}
use Rattle.figure.specs.declared.Axis.TheVariants.{X, Y}
use Rattle.outline.specs.Inside.{grid}
use Rattle.outline.specs.Promise.{refusal}
use Rattle.demands.specs.Promise.{drawn}
use Rattle.demands.proofs.Outcome.{written-past}
use Rattle.demands.proofs.Room.{written-beyond, entries-closed}
use Rattle.gdsii.specs.Boundary.{Point, lowest, ring_of, moved, figure_of, boundary}
use Rattle.gdsii.specs.Calls.{BoundarySaid, handed, points_read, boundary_read, PlateSaid, fractured, points_fractured, boundary_fractured}
use Rattle.gdsii.proofs.Storing.{length-numbers}

-- two numbers for each corner
moved_twice : (ps : List Point) → length (moved ps) ≡ 2 * length (ring_of ps)
unfolding moved
moved_twice ps = length-numbers (lowest X ps) (lowest Y ps) (ring_of ps)

pub read-beyond : (s list : List ℕ) (i : ℕ) → 2 * (boundary_read s list).corners ≤ i → get_or (boundary_read s list).list i 0 ≡ get_or list i 0
unfolding boundary_read handed
read-beyond s list i = go (boundary s)
  where
    Same : BoundarySaid → Type 0
    Same u = 2 * u.corners ≤ i → get_or u.list i 0 ≡ get_or list i 0

    go : (r : Reading (List Point)) → Same (points_read list r)
    go (fault r at) = λ h. refl
    go (read ps next) =
        cond_cases Same (eqb (refusal (figure_of ps)) 0) _ _
        (λ a. cond_cases Same (ltb (length list) (length (moved ps))) _ _ (λ b h. refl) (λ b h. written-past (moved ps) list i (omega (arith, h, moved_twice ps))))
        (λ a h. refl)

abbrev pub entries : List Point → ℕ
entries ps =
    let m = (grid (figure_of ps)).columns in
    let n = (grid (figure_of ps)).rows in
    ((m * (m + 1)) / 2) * ((n * (n + 1)) / 2)

pub record PlateKept (s table list : List ℕ) (u : PlateSaid) : Type 0 where
  pub list-beyond : (i : ℕ) → (u.number ≡ 0 → 4 * u.shots ≤ i) → get_or u.list i 0 ≡ get_or list i 0
  pub table-beyond : (i : ℕ) → ((ps : List Point) (next : ℕ) → boundary s ≡ read ps next → (u.number ≡ 0) ⊎ (u.number ≡ 7) → entries ps ≤ i)
      → get_or u.table i 0 ≡ get_or table i 0

pub plate-beyond : (s table list : List ℕ) → PlateKept s table list (boundary_fractured s table list)
unfolding boundary_fractured fractured drawn
plate-beyond s table list = go (boundary s) refl
  where
    go : (r : Reading (List Point)) → boundary s ≡ r → PlateKept s table list (points_fractured table list r)
    go (fault r at) e = record { list-beyond = λ i h. refl; table-beyond = λ i h. refl }
    go (read ps next) e =
        record {
          list-beyond = λ i h. (written-beyond _ i).0 h;
          table-beyond = λ i h. (written-beyond _ i).1 (λ f. omega (arith, h ps next e f, entries-closed (grid (figure_of ps)).columns (grid (figure_of ps)).rows));
        }
