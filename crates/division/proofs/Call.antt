-- The demands of the call itself, as theorems from its contract. Assumes nothing.
--
-- Of a call of `fracture_divided` with the mode, corners, ring lengths, threshold t, weight w, largest side m, table and list that answers
-- a fracture and leaves list' (and table'). `settled` is its contract; `typed` is what the language says of a `&[u16]`. There is no other premise.
--
--   call_cover, call-inside, call-apart, call-whole == each unit square is in exactly one shot of the list if it is inside, and in none if not
--   call-fit             == no side of a shot is longer than m, and each shot has area
--   call_these           == count, sliver length and cost are those of these very shots, worked out anew at unit squares
--   call-most            == at most 116,964 shots and a cost of 2,214,084,000
use Prim.Native.Nat.{ℕ, ◌*◌, ◌≤◌, ◌<◌}
use mathlib.Core.Path.{◌≡◌, sym, ap, subst}
use mathlib.Core.Bool.{Bool, true}
use mathlib.Core.List.{List, Memᴰ as Member}
use mir.Syntax.{w16}
use mir.Val.{Fits}
use lib.ListN.{length, take, get_or}
use Rattle.sum.specs.Sum.{only, sum_of}
use Rattle.rule.specs.declared.Rule.{Rule}
use Rattle.shot.specs.Shot.{Shot, holds, shots_in}
use Rattle.figure.specs.Figure.{figure}
use Rattle.figure.specs.Inside.{inside_at}
use Rattle.piece.specs.declared.Mode.{Mode}
use Rattle.demands.specs.Promise.{Asked, asked, Outcome}
use Rattle.demands.specs.Square.{shot_sliver, shot_charge}
use Rattle.demands.specs.Demands.{Words, reported}
use Rattle.demands.proofs.Demands.{words_typed}
use Rattle.fracture.specs.Told.{fractured, told}
use Rattle.division.specs.Division.{across, upward}
use Rattle.division.specs.Promise.{divided_outcome}
use Rattle.division.proofs.Demands as demands

module _ (mode : Mode) (corners lengths : List ℕ) (t w m : ℕ) (table list : List ℕ) where
  abbrev ask : Asked
  ask = asked mode corners lengths t w table list

  abbrev rule : Rule
  rule = record { threshold = t; weight = w }

  abbrev F : ℕ → ℕ → Bool
  F = inside_at (figure corners lengths)

  module _ (typed : (i : ℕ) → Fits w16 (get_or corners i 0)) (shots cost sliver cuts : ℕ) (table' list' : List ℕ)
      (settled : told (fractured shots cost sliver cuts) table' list' ≡ divided_outcome ask m) where
    abbrev given : List Shot
    given = shots_in (take (4 * shots) list')

    words : Words (figure corners lengths)
    words = words_typed corners lengths typed

    done : (divided_outcome ask m).number ≡ 0
    unfolding told
    done = sym (ap (λ o. o.number) settled)

    -- what holds of the outcome holds of what was told
    said : (P : Outcome → Type 0) → P (divided_outcome ask m) → P (told (fractured shots cost sliver cuts) table' list')
    said P h = subst P (sym settled) h

    pub call_cover : (x y : ℕ) → sum_of (λ s. only (holds x y s) 1) given ≡ only (F x y) 1
    unfolding told reported
    call_cover x y = said (λ o. sum_of (λ s. only (holds x y s) 1) (reported o) ≡ only (F x y) 1) (demands.cover ask m words done x y)

    pub call-inside : (s : Shot) → Member s given → (x y : ℕ) → holds x y s ≡ true → F x y ≡ true
    unfolding told reported
    call-inside =
        said (λ o. (s : Shot) → Member s (reported o) → (x y : ℕ) → holds x y s ≡ true → F x y ≡ true)
        (demands.shots-inside ask m words done)

    pub call-apart : (d : Shot) (i j : ℕ) → i < j → j < length given
        → (x y : ℕ) → holds x y (get_or given i d) ≡ true → holds x y (get_or given j d) ≡ true → ⊥
    unfolding told reported
    call-apart =
        said
        (λ o.
        (d : Shot) (i j : ℕ) → i < j → j < length (reported o)
        → (x y : ℕ) → holds x y (get_or (reported o) i d) ≡ true → holds x y (get_or (reported o) j d) ≡ true → ⊥)
        (demands.shots-apart ask m words done)

    pub call-whole : (x y : ℕ) → F x y ≡ true → (s : Shot) × Member s given × (holds x y s ≡ true)
    unfolding told reported
    call-whole =
        said (λ o. (x y : ℕ) → F x y ≡ true → (s : Shot) × Member s (reported o) × (holds x y s ≡ true))
        (demands.shots_cover ask m words done)

    pub call-fit : (s : Shot) → Member s given → ((s.xlow < s.xhigh) × (across s ≤ m)) × ((s.ylow < s.yhigh) × (upward s ≤ m))
    unfolding told reported
    call-fit =
        said (λ o. (s : Shot) → Member s (reported o) → ((s.xlow < s.xhigh) × (across s ≤ m)) × ((s.ylow < s.yhigh) × (upward s ≤ m)))
        (demands.shots-fit ask m words done)

    pub call_these : (shots ≡ length given) × (sliver ≡ sum_of (shot_sliver F rule) given) × (cost ≡ sum_of (shot_charge F rule) given)
    unfolding told reported
    call_these =
        said
        (λ o.
        (o.shots ≡ length (reported o)) × (o.sliver ≡ sum_of (shot_sliver F rule) (reported o))
        × (o.cost ≡ sum_of (shot_charge F rule) (reported o)))
        (demands.these_shots ask m words done)

    pub call-most : (shots ≤ 116964) × (cost ≤ 2214084000)
    unfolding told
    call-most = (
      said (λ o. o.shots ≤ 116964) (demands.shots-most ask m words),
      said (λ o. o.cost ≤ 2214084000) (demands.cost-most ask m words),
    )
