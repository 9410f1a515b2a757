-- One law for each exit of the functions that take shots by value.
use Prim.Native.Nat.{ℕ, ◌+◌, ◌<◌, ◌≤◌, ◌/◌}
use mathlib.Core.Path.{◌≡◌, sym}
use mathlib.Core.Bool.{Bool, true, false}
use mathlib.Core.List.{List}
use lib.Dec.{eqb}
use lib.ListN.{length}
use borrow.Author.Tests.{lt-ltb, le-ltb, eq-eqb, ne_eqb}
use Rattle.join.specs.declared.Joined.{Joined}
use Rattle.refusal.specs.declared.Refusal.TheVariants.{Room, Shots}
use Rattle.shot.specs.Shot.{Shot}
use Rattle.shot.specs.Bad.{bad_shots}
use Rattle.std.specs.Prelude.{Ok, Err}
use Rattle.join.specs.Join.{touches, beside, below, can_join, as_shot}
use Rattle.join.specs.Steps.{takes, settled, counted, checked}

-- ---- side_touches
module _ (e s al ah bl bh : ℕ) where
  pub touches-apart : (e ≡ s → ⊥) → false ≡ touches e s al ah bl bh
  unfolding touches
  touches-apart h = simp (ne_eqb e s h)

  pub touches-above : e ≡ s → bh ≤ al → false ≡ touches e s al ah bl bh
  unfolding touches
  touches-above h l = simp (eq-eqb e s h, le-ltb al bh l)

  pub touches-under : e ≡ s → al < bh → ah ≤ bl → false ≡ touches e s al ah bl bh
  unfolding touches
  touches-under h l k = simp (eq-eqb e s h, lt-ltb al bh l, le-ltb bl ah k)

  pub touches-low : e ≡ s → al < bh → bl < ah → al ≡ bl → true ≡ touches e s al ah bl bh
  unfolding touches
  touches-low h l k q = simp (eq-eqb e s h, lt-ltb al bh l, lt-ltb bl ah k, eq-eqb al bl q)

  pub touches-high : e ≡ s → al < bh → bl < ah → (al ≡ bl → ⊥) → eqb ah bh ≡ touches e s al ah bl bh
  unfolding touches
  touches-high h l k q = simp (eq-eqb e s h, lt-ltb al bh l, lt-ltb bl ah k, ne_eqb al bl q)

-- ---- can_be_joined
module _ (a b : Shot) where
  pub join-right : true ≡ beside a b → true ≡ can_join a b
  unfolding can_join
  join-right h = simp (sym h)

  pub join-left : false ≡ beside a b → true ≡ beside b a → true ≡ can_join a b
  unfolding can_join
  join-left h k = simp (sym h, sym k)

  pub join-top : false ≡ beside a b → false ≡ beside b a → true ≡ below a b → true ≡ can_join a b
  unfolding can_join
  join-top h k l = simp (sym h, sym k, sym l)

  pub join-bottom : (r : Bool) → false ≡ beside a b → false ≡ beside b a → false ≡ below a b → r ≡ below b a → r ≡ can_join a b
  unfolding can_join
  join-bottom r h k l e = simp (sym h, sym k, sym l, e)

-- ---- takes, settled, count
module _ (a b : Joined) (j : ℕ) where
  pub takes_paired : (b.partner ≡ j → ⊥) → false ≡ takes a b j
  unfolding takes
  takes_paired h = simp (ne_eqb b.partner j h)

  pub takes_free : (r : Bool) → b.partner ≡ j → r ≡ can_join (as_shot a) (as_shot b) → r ≡ takes a b j
  unfolding takes
  takes_free r h k = simp (eq-eqb b.partner j h, k)

module _ (a : Joined) (i n found : ℕ) where
  pub settle_found : a.partner ≡ i → found < n → found ≡ settled a i n found
  unfolding settled
  settle_found h k = simp (eq-eqb a.partner i h, lt-ltb found n k)

  pub settle_alone : a.partner ≡ i → n ≤ found → i ≡ settled a i n found
  unfolding settled
  settle_alone h k = simp (eq-eqb a.partner i h, le-ltb found n k)

  pub settle_paired : (a.partner ≡ i → ⊥) → a.partner ≡ settled a i n found
  unfolding settled
  settle_paired h = simp (ne_eqb a.partner i h)

pub count-pair : (pairs i j : ℕ) → i < j → pairs + 1 ≡ counted pairs i j
unfolding counted
count-pair pairs i j h = simp (lt-ltb i j h)

pub count_none : (pairs i j : ℕ) → j ≤ i → pairs ≡ counted pairs i j
unfolding counted
count_none pairs i j h = simp (le-ltb i j h)

-- ---- check
module _ (l : List ℕ) (room : ℕ) where
  pub check_bad : true ≡ bad_shots l → Err Shots ≡ checked l room
  unfolding checked
  check_bad h = simp (sym h)

  pub check_room : false ≡ bad_shots l → room < length l / 4 → Err Room ≡ checked l room
  unfolding checked
  check_room h k = simp (sym h, lt-ltb room (length l / 4) k)

  pub check_all : false ≡ bad_shots l → length l / 4 ≤ room → Ok (length l / 4) ≡ checked l room
  unfolding checked
  check_all h k = simp (sym h, le-ltb room (length l / 4) k)
