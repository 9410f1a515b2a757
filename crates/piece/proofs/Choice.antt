-- The cut that a fracture makes, and what it says of the shots, once for both modes. Assumes nothing.
--
--   Meets k              == the parts of the cut k cost together what the piece costs
--   choice-is            == the cut that does so where none before it in the tie order does is the choice
--   choice_vertical, choice_horizontal   == so it is the lowest such x line; where there is none, the lowest such y line
--   choice-first, choice-second          == where no straight cut does, the lowest pinwheel of the first turn by j, l, k, m that does; where
--                           none of that turn does either, that of the second
--   choice-some          == a mixed piece has such a cut
--   choice_in            == the choice is a cut of the piece, if the piece is mixed
--   choice-cost          == and its parts cost what the piece costs
--   passed_over          == and of no cut before it in the tie order do they
--   choice-least         == it is the least of all cuts by what their parts cost, of equals the first
--   shots-choice         == the shots of a mixed piece are those of the parts of its choice, part after part
--   shots_vertical, shots_horizontal     == of a straight cut those of the low part, then those of the high part
--   numbers-none, numbers-one, numbers-append, numbers-length          == the numbers of a list of shots
--   numbers-shots                                                      == the shots that they say are its rectangles
use Prim.Native.Nat.{ℕ, ◌+◌, ◌*◌, ◌≤◌, ◌<◌}
use mathlib.Core.Path.{◌≡◌, refl, sym, ◌∙◌, ap, ap₂, subst}
use mathlib.Core.List.{List, [], ◌∷◌, ◌++◌, map, append-nil, map-append}
use mathlib.Core.Logic.{inl, inr}
use native.Mathlib.Omega.{arith}
use lib.ListN.{length, length-map}
use Rattle.sum.specs.Sum.{sum_of, All, join}
use Rattle.sum.proofs.Lists.{sum_of-join, All-at}
use Rattle.recurrence.specs.Choice.{first, least}
use Rattle.recurrence.specs.Scheme.{mixed}
use Rattle.recurrence.proofs.Choice.{least-low, least-one, least_first}
use Rattle.recurrence.proofs.Scheme as by-scheme
use Rattle.outline.specs.Grid.{Grid}
use Rattle.rule.specs.declared.Rule.{Rule}
use Rattle.shot.specs.Shot.{numbers, shots_in}
use Rattle.shot.proofs.Shot as shot
use Rattle.piece.specs.declared.Mode.{Mode}
use Rattle.piece.specs.declared.Mode.TheVariants.{Pinwheel}
use Rattle.piece.specs.declared.Turn.{Turn}
use Rattle.piece.specs.declared.Turn.TheVariants.{First, Second}
use Rattle.piece.specs.Piece.{Piece, left_part, right_part, lower_part, upper_part, rectangle, cells, kind}
use Rattle.piece.specs.Cuts.{Cut, vertical, horizontal, wheel, cuts, parts, Inner, CutOf, Lower, Before, scheme, shots, cost, choice, numbers_of}
use Rattle.piece.proofs.Cuts.{ends, cuts-all, cut_member, cost-one, cost-cuts, across_vertical, across_horizontal}
use Rattle.piece.proofs.Order.{first-is, first-passed, before_once, cuts-order}

module _ (mode : Mode) (g : Grid) (r : Rule) (p : Piece) where
  -- a cut whose parts cost what the piece costs, and the same of a line
  abbrev pub Meets : Cut → Type 0
  Meets k = sum_of (cost mode g r) (parts p k) ≡ cost mode g r p

  abbrev pub Meets-x : ℕ → Type 0
  Meets-x j = cost mode g r (left_part p j) + cost mode g r (right_part p j) ≡ cost mode g r p

  abbrev pub Meets-y : ℕ → Type 0
  Meets-y j = cost mode g r (lower_part p j) + cost mode g r (upper_part p j) ≡ cost mode g r p

  pub choice-is : (k : Cut) → CutOf mode p k → Meets k → ((i : Cut) → CutOf mode p i → Before i k → Meets i → ⊥) → choice mode g r p ≡ k
  unfolding choice
  choice-is k w e none =
      first-is Before _ (cost mode g r p) (vertical 0) (cuts mode p) (cuts-order mode p) k (cut_member mode p k w) e
      (λ i m. none i (All-at (CutOf mode p) m (cuts-all mode (CutOf mode p) p (λ c u. u))))

  pub passed_over : (k : Cut) → choice mode g r p ≡ k → (i : Cut) → CutOf mode p i → Before i k → Meets i → ⊥
  unfolding choice
  passed_over k e i w h m =
      elim (first-passed Before (λ c. sum_of (cost mode g r) (parts p c)) (cost mode g r p) (vertical 0) (cuts mode p) (cuts-order mode p) i (cut_member mode p i w) m) [
        | inl q ↦ (let b = subst (λ c. Before i c) (sym e ∙ q) h in before_once i i b b)
        | inr q ↦ before_once i k h (subst (λ c. Before c i) e q)
      ]

  pub choice_vertical : (j : ℕ) → p.a < j → j < p.c → ((i : ℕ) → p.a < i → i < j → Meets-x i → ⊥) → Meets-x j → choice mode g r p ≡ vertical j
  choice_vertical j h k n e = choice-is (vertical j) (h, k) (across_vertical mode g r p j ∙ e) none
    where
      none : (i : Cut) → CutOf mode p i → Before i (vertical j) → Meets i → ⊥
      none (vertical i) w b m = n i w.0 b (sym (across_vertical mode g r p i) ∙ m)
      none (horizontal i) w b m = b
      none (wheel t i l u v) w b m = b

  pub choice_horizontal : ((i : ℕ) → p.a < i → i < p.c → Meets-x i → ⊥)
      → (j : ℕ) → p.b < j → j < p.d → ((i : ℕ) → p.b < i → i < j → Meets-y i → ⊥) → Meets-y j
      → choice mode g r p ≡ horizontal j
  choice_horizontal x j h k n e = choice-is (horizontal j) (h, k) (across_horizontal mode g r p j ∙ e) none
    where
      none : (i : Cut) → CutOf mode p i → Before i (horizontal j) → Meets i → ⊥
      none (vertical i) w b m = x i w.0 w.1 (sym (across_vertical mode g r p i) ∙ m)
      none (horizontal i) w b m = n i w.0 b (sym (across_horizontal mode g r p i) ∙ m)
      none (wheel t i l u v) w b m = b

  pub choice-first : mode ≡ Pinwheel
      → ((i : ℕ) → p.a < i → i < p.c → Meets-x i → ⊥)
      → ((i : ℕ) → p.b < i → i < p.d → Meets-y i → ⊥)
      → (j l k m : ℕ) → Inner p j l k m
      → ((j' l' k' m' : ℕ) → Inner p j' l' k' m' → Lower j' l' k' m' j l k m → Meets (wheel First j' l' k' m') → ⊥)
      → Meets (wheel First j l k m)
      → choice mode g r p ≡ wheel First j l k m
  choice-first z x y j l k m w n e = choice-is (wheel First j l k m) (z, w) e none
    where
      none : (i : Cut) → CutOf mode p i → Before i (wheel First j l k m) → Meets i → ⊥
      none (vertical i) u b q = x i u.0 u.1 (sym (across_vertical mode g r p i) ∙ q)
      none (horizontal i) u b q = y i u.0 u.1 (sym (across_horizontal mode g r p i) ∙ q)
      none (wheel First j' l' k' m') u b q = n j' l' k' m' u.1 b q
      none (wheel Second j' l' k' m') u b q = b

  pub choice-second : mode ≡ Pinwheel
      → ((i : ℕ) → p.a < i → i < p.c → Meets-x i → ⊥)
      → ((i : ℕ) → p.b < i → i < p.d → Meets-y i → ⊥)
      → ((j l k m : ℕ) → Inner p j l k m → Meets (wheel First j l k m) → ⊥)
      → (j l k m : ℕ) → Inner p j l k m
      → ((j' l' k' m' : ℕ) → Inner p j' l' k' m' → Lower j' l' k' m' j l k m → Meets (wheel Second j' l' k' m') → ⊥)
      → Meets (wheel Second j l k m)
      → choice mode g r p ≡ wheel Second j l k m
  choice-second z x y f j l k m w n e = choice-is (wheel Second j l k m) (z, w) e none
    where
      none : (i : Cut) → CutOf mode p i → Before i (wheel Second j l k m) → Meets i → ⊥
      none (vertical i) u b q = x i u.0 u.1 (sym (across_vertical mode g r p i) ∙ q)
      none (horizontal i) u b q = y i u.0 u.1 (sym (across_horizontal mode g r p i) ∙ q)
      none (wheel First j' l' k' m') u b q = f j' l' k' m' u.1 q
      none (wheel Second j' l' k' m') u b q = n j' l' k' m' u.1 b q

  module _ (e : kind g p ≡ mixed) where
    pub choice-some : ((i : ℕ) → p.a < i → i < p.c → Meets-x i → ⊥) → ((i : ℕ) → p.b < i → i < p.d → Meets-y i → ⊥)
        → ((t : Turn) (j l k m : ℕ) → mode ≡ Pinwheel → Inner p j l k m → Meets (wheel t j l k m) → ⊥)
        → ⊥
    choice-some x y w = cost-one mode g r (λ n. n ≡ cost mode g r p → ⊥) p e (cuts-all mode _ p none) refl
      where
        none : (k : Cut) → CutOf mode p k → Meets k → ⊥
        none (vertical i) u q = x i u.0 u.1 (sym (across_vertical mode g r p i) ∙ q)
        none (horizontal i) u q = y i u.0 u.1 (sym (across_horizontal mode g r p i) ∙ q)
        none (wheel t j l k m) u q = w t j l k m u.0 u.1 q

    chosen : (Q : Cut → Type 0) → All Q (cuts mode p) → Q (choice mode g r p)
    unfolding choice cost shots
    chosen Q a = by-scheme.first-cut (scheme mode g r) cells (ends mode g r) (vertical 0) p e Q a

    pub choice_in : CutOf mode p (choice mode g r p)
    choice_in = chosen (CutOf mode p) (cuts-all mode (CutOf mode p) p (λ k w. w))

    pub shots-choice : shots mode g r p ≡ join (shots mode g r) (parts p (choice mode g r p))
    unfolding shots choice cost
    shots-choice = by-scheme.shots-cut (scheme mode g r) cells (ends mode g r) (vertical 0) p e

    pub choice-cost : cost mode g r p ≡ sum_of (cost mode g r) (parts p (choice mode g r p))
    unfolding cost
    choice-cost = ap (sum_of _) shots-choice ∙ sum_of-join _ (shots mode g r) (parts p (choice mode g r p))

    -- by the least of all cuts, of equals the first
    pub choice-least : (k : Cut) (ks : List Cut) → cuts mode p ≡ k ∷ ks → choice mode g r p ≡ least (λ k. sum_of (cost mode g r) (parts p k)) k ks
    unfolding choice
    choice-least k ks q = ap₂ (λ n l. first v n (vertical 0) l) (omega (arith, low, high, choice-cost)) q ∙ least_first v (vertical 0) k ks
      where
        v : Cut → ℕ
        v k = sum_of (cost mode g r) (parts p k)

        low : v (least v k ks) ≤ v (choice mode g r p)
        low = chosen (λ c. v (least v k ks) ≤ v c) (subst (All (λ c. v (least v k ks) ≤ v c)) (sym q) (least-low v k ks))

        high : cost mode g r p ≤ v (least v k ks)
        high = let a = subst (All (λ c. cost mode g r p ≤ v c)) q (cost-cuts mode g r p e) in least-one v (λ c. cost mode g r p ≤ v c) k ks a.0 a.1

    pub shots_vertical : (j : ℕ) → choice mode g r p ≡ vertical j → shots mode g r p ≡ shots mode g r (left_part p j) ++ shots mode g r (right_part p j)
    unfolding join parts
    shots_vertical j q =
        shots-choice ∙ ap (λ k. join (shots mode g r) (parts p k)) q ∙ ap (λ l. shots mode g r (left_part p j) ++ l) (append-nil (shots mode g r (right_part p j)))

    pub shots_horizontal : (j : ℕ) → choice mode g r p ≡ horizontal j → shots mode g r p ≡ shots mode g r (lower_part p j) ++ shots mode g r (upper_part p j)
    unfolding join parts
    shots_horizontal j q =
        shots-choice ∙ ap (λ k. join (shots mode g r) (parts p k)) q ∙ ap (λ l. shots mode g r (lower_part p j) ++ l) (append-nil (shots mode g r (upper_part p j)))

-- The numbers of shots

module _ (g : Grid) where
  pub numbers-none : numbers_of g [] ≡ []
  unfolding numbers_of numbers join
  numbers-none = refl

  pub numbers-one : (s : Piece) → numbers_of g (s ∷ []) ≡ g.x s.a ∷ g.y s.b ∷ g.x s.c ∷ g.y s.d ∷ []
  unfolding numbers_of numbers join
  numbers-one s = refl

  pub numbers-append : (l m : List Piece) → numbers_of g (l ++ m) ≡ numbers_of g l ++ numbers_of g m
  unfolding numbers_of
  numbers-append l m = ap numbers (map-append (rectangle g) l m) ∙ shot.numbers-append (map (rectangle g) l) (map (rectangle g) m)

  pub numbers-length : (l : List Piece) → length (numbers_of g l) ≡ 4 * length l
  unfolding numbers_of
  numbers-length l = omega (arith, shot.numbers-length (map (rectangle g) l), length-map l (rectangle g))

  pub numbers-shots : (l : List Piece) → shots_in (numbers_of g l) ≡ map (rectangle g) l
  unfolding numbers_of
  numbers-shots l = shot.shots-numbers (map (rectangle g) l)
