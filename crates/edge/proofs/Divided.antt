-- The edges of a figure and the shots of a fracture with a largest side. Assumes nothing.
--
-- Of an accepted fracture whose shots are divided by a largest side, in either mode: own are the reported shots
--   divided-covers       == they cover the figure: each inside square is in one of them, each other in none
--   divided-wall         == each stretch that lies on a side of the figure ends up on a reported shot, on the same side of it, and no other
--                           reported shot has that side there
--   divided-sides        == what the edges have on each side of a reported shot, each stretch had once, is that side's exposed length
use Prim.Native.Nat.{ℕ, suc, ◌<◌}
use mathlib.Core.Path.{◌≡◌}
use mathlib.Core.Bool.{Bool}
use mathlib.Core.List.{List}
use mathlib.Core.Logic.{inl}
use lib.ListN.{length, get_or}
use Rattle.figure.specs.declared.Axis.{Axis}
use Rattle.figure.specs.Corners.{Corner, Link}
use Rattle.figure.specs.Inside.{inside_at}
use Rattle.shot.specs.Shot.{Shot}
use Rattle.demands.specs.Promise.{Asked}
use Rattle.demands.specs.Demands.{Words, reported}
use Rattle.demands.specs.Square.{left_of, right_of, bottom_of, top_of}
use Rattle.demands.proofs.Accepted.{right}
use Rattle.division.specs.Promise.{aside, divided_outcome}
use Rattle.division.proofs.Outcome.{accepted}
use Rattle.division.proofs.Demands.{cover, shots-fit}
use Rattle.edge.specs.Edge.{numbered}
use Rattle.edge.specs.Landing.{facing, shape, landing}
use Rattle.edge.specs.Owned.{length_on}
use Rattle.edge.proofs.Landing.{Covers, wall-lands}
use Rattle.edge.proofs.Owned.{left-length, right-length, bottom-length, top-length}
use Rattle.edge.proofs.Fractured.{flat, get_member}

module _ (ask : Asked) (m : ℕ) (words : Words ask.figure) (done : (divided_outcome ask m).number ≡ 0) where
  abbrev F : ℕ → ℕ → Bool
  F = inside_at ask.figure

  abbrev own : List Shot
  own = reported (divided_outcome ask m)

  pub divided-covers : Covers F own
  divided-covers x y = cover ask m words done x y

  pub divided-wall : (d : Shot) (a : Axis) (p k : ℕ) → (facing a F p k ≡ 0 → ⊥)
      → (i : ℕ) × (i < length own) × ((landing a F own p k).shot ≡ suc i) × (facing a (shape (get_or own i d)) p k ≡ facing a F p k)
      × ((j : ℕ) → j < length own → facing a (shape (get_or own j d)) p k ≡ facing a F p k → j ≡ i)
  divided-wall d a p k = wall-lands F own divided-covers a p k d

  module _ (d : Shot) (i : ℕ) (listed : i < length own) where
    abbrev s : Shot
    s = get_or own i d

    abbrev es : List (Link Corner)
    es = numbered ask.figure

    pub divided-sides : (length_on (suc i) 1 F own es ≡ left_of F s) × (length_on (suc i) 2 F own es ≡ right_of F s)
        × (length_on (suc i) 3 F own es ≡ bottom_of F s) × (length_on (suc i) 4 F own es ≡ top_of F s)
    divided-sides =
        let f = flat ask.figure (right (aside ask) (inl (accepted ask m words done).fractured)) in
        let fit = shots-fit ask m words done s (get_member d own i listed) in (
          left-length ask.figure f own divided-covers d i listed fit.0.0 fit.1.0,
          right-length ask.figure f own divided-covers d i listed fit.0.0 fit.1.0,
          bottom-length ask.figure f own divided-covers d i listed fit.0.0 fit.1.0,
          top-length ask.figure f own divided-covers d i listed fit.0.0 fit.1.0,
        )
