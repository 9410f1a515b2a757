-- Between neighbouring corners and ends of shots nothing changes. Assumes nothing.
--
--   steady_along         == as far as no corner of the figure and no end of a shot lies, the stretches end up alike
use Prim.Native.Nat.{ℕ, zero, suc, ◌+◌, ◌*◌, ◌-◌, ◌/◌, ◌<◌}
use mathlib.Core.Path.{◌≡◌, refl, sym, ◌∙◌, ap, subst}
use mathlib.Core.Bool.{false}
use mathlib.Core.List.{List, [], ◌∷◌}
use native.Mathlib.Omega.{arith}
use lib.ListN.{length, get_or}
use Rattle.sum.specs.Sum.{All}
use Rattle.sum.proofs.Lists.{All-imp}
use Rattle.figure.specs.declared.Axis.{Axis}
use Rattle.figure.specs.declared.Axis.TheVariants.{X, Y}
use Rattle.figure.specs.Corners.{corners, coordinate, slanted, origin}
use Rattle.figure.specs.Figure.{figure, rings}
use Rattle.figure.specs.Inside.{inside_at}
use Rattle.figure.specs.Steps.{corner, Right}
use Rattle.figure.proofs.Sharing.{corners-whole}
use Rattle.figure.proofs.Corners.{length-corners, coordinate-x, coordinate-y}
use Rattle.figure.proofs.Turns.{All-both, any-all}
use Rattle.shot.specs.Shot.{Shot, shots_in}
use Rattle.edge.specs.Edge.{other}
use Rattle.edge.specs.Landing.{Landing, landing}
use Rattle.edge.specs.Steps.{Solid, place_of, Free, Steady}
use Rattle.edge.proofs.Sides.{low_end, high_end}
use Rattle.edge.proofs.Few.{Off, steady}
use Rattle.edge.proofs.Laws.{nobody, shots-count, shots-at}

module _ {A : Type 0} where
  all_get : (Q : A → Type 0) (d : A) (l : List A) → ((i : ℕ) → i < length l → Q (get_or l i d)) → All Q l
  all_get Q d [] h = tt
  all_get Q d (s ∷ l) h = (h 0 (omega arith), all_get Q d l (λ i q. h (suc i) (omega arith)))

module _ (b : Axis) (l : List ℕ) (k high r v : ℕ) (free : Free b l (length l / 2) k high r) (past : k < v) (short : v < r) where
  off : (i : ℕ) → i < length l / 2 → place_of b l i ≡ v → ⊥
  off i h e = free.none i h (omega arith) (omega arith)

  corners_off : All (λ c. coordinate b c ≡ v → ⊥) (corners l)
  unfolding place_of corner
  corners_off = all_get (λ c. coordinate b c ≡ v → ⊥) origin (corners l) (λ i h e. off i (omega (arith, length-corners l)) e)

  shots_off : All (λ s. (low_end b s ≡ v → ⊥) × (high_end b s ≡ v → ⊥)) (shots_in l)
  unfolding place_of
  shots_off = all_get (λ s. (low_end b s ≡ v → ⊥) × (high_end b s ≡ v → ⊥)) nobody (shots_in l)
      (λ i h. (
        λ e. off (2 * i) (omega (arith, shots-count l)) (sym (low b i (omega (arith, shots-count l))) ∙ e),
        λ e. off (2 * i + 1) (omega (arith, shots-count l)) (sym (high' b i (omega (arith, shots-count l))) ∙ e),
      ))
    where
      low : (b : Axis) (i : ℕ) → i < length l / 4 → low_end b (get_or (shots_in l) i nobody) ≡ coordinate b (corner l (2 * i))
      low X i h =
          let z : 4 * i ≡ 2 * (2 * i) = omega arith in
          ap (low_end X) (shots-at l i h) ∙ ap (λ n. get_or l n 0) z ∙ coordinate-x X l (2 * i) (omega arith) refl
      low Y i h =
          let z : 4 * i + 1 ≡ 2 * (2 * i) + 1 = omega arith in
          ap (low_end Y) (shots-at l i h) ∙ ap (λ n. get_or l n 0) z ∙ coordinate-y Y l (2 * i) (omega arith) refl

      high' : (b : Axis) (i : ℕ) → i < length l / 4 → high_end b (get_or (shots_in l) i nobody) ≡ coordinate b (corner l (2 * i + 1))
      high' X i h =
          let z : 4 * i + 2 ≡ 2 * (2 * i + 1) = omega arith in
          ap (high_end X) (shots-at l i h) ∙ ap (λ n. get_or l n 0) z ∙ coordinate-x X l (2 * i + 1) (omega arith) refl
      high' Y i h =
          let z : 4 * i + 3 ≡ 2 * (2 * i + 1) + 1 = omega arith in
          ap (high_end Y) (shots-at l i h) ∙ ap (λ n. get_or l n 0) z ∙ coordinate-y Y l (2 * i + 1) (omega arith) refl

solid_ends : (a : Axis) (l : List Shot) → Solid a l → All (λ s. low_end a s < high_end a s) l
unfolding Solid
solid_ends X l h = h
solid_ends Y l h = h

module _ (a : Axis) (cs ns ss : List ℕ) (p k high near r : ℕ) (right : Right (figure cs ns)) (solid : Solid a (shots_in ss))
    (f : Free (other a) cs (length cs / 2) k high near) (g : Free (other a) ss (length ss / 2) k near r) where
  abbrev lands : ℕ → Landing
  lands = landing a (inside_at (figure cs ns)) (shots_in ss) p

  flat : All (λ r. slanted r ≡ false) (rings (figure cs ns))
  flat = any-all slanted (rings (figure cs ns)) right.slanted-none

  all_off : (v : ℕ) → k < v → v < r → Off (figure cs ns) flat (shots_in ss) a v
  all_off v h j = record {
    corners = subst (All (λ c. coordinate (other a) c ≡ v → ⊥)) (sym (corners-whole (figure cs ns) right.figure-good)) (corners_off (other a) cs k high near v f h (omega (arith, g.within)));
    shots = All-imp (λ s w. (w.0, w.1.0, w.1.1)) (shots_in ss)
        (All-both (λ s. low_end a s < high_end a s) (λ s. (low_end (other a) s ≡ v → ⊥) × (high_end (other a) s ≡ v → ⊥)) (shots_in ss)
        (solid_ends a (shots_in ss) solid) (shots_off (other a) ss k near r v g h j));
  }

  on : (d : ℕ) → k + d < r → lands (k + d) ≡ lands k
  on zero h = let z : k + 0 ≡ k = omega arith in ap lands z
  on (suc d) h =
      let z : k + suc d ≡ suc (k + d) = omega arith in
      ap lands z
      ∙ sym (steady (figure cs ns) flat (shots_in ss) a (k + d) (all_off (suc (k + d)) (omega arith) (omega arith)) p)
      ∙ on d (omega arith)

  steady_to : Steady lands k high r
  steady_to = record {
    past = g.past;
    within = omega (arith, f.within, g.within);
    same = λ j h q. let z : k + (j - k) ≡ j = omega arith in ap lands (sym z) ∙ on (j - k) (omega arith);
  }

pub steady_along : (a b : Axis) (cs ns ss : List ℕ) (p k high near r : ℕ) → Right (figure cs ns) → Solid a (shots_in ss) → b ≡ other a
    → Free b cs (length cs / 2) k high near → Free b ss (length ss / 2) k near r
    → Steady (landing a (inside_at (figure cs ns)) (shots_in ss) p) k high r
steady_along a b cs ns ss p k high near r right solid e f g =
    steady_to a cs ns ss p k high near r right solid
    (subst (λ b. Free b cs (length cs / 2) k high near) e f)
    (subst (λ b. Free b ss (length ss / 2) k near r) e g)
