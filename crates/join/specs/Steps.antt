-- Inner: what the functions do, step by step.
--
--   mated e j           == the entry e with the partner j
--   takes a b j         == b, the entry of number j, is free and can be joined with a
--   first a t n j k     == the first of the k entries from j on that a takes; n if there is none
--   settled a i n f     == the partner of the entry a of number i, where f was found: its own, or f if that lies below n, or i
--   mate_of t n i        == the partner that entry i of n has or takes; i if there is none
--   set_partner t i j    == the table t with the partner j at i;   linked t i j == i and j made each other's partners
--   paired t n k        == the first n entries of t, when the first k have taken their partners in turn
--   counted p i j       == one more than p where i is the lower number of the pair i, j
--   pairs_to t n k       == the pairs that were made in the first k turns
--   entry_of l i         == shot i of the list l, free: its partner is itself
--   filled l t k        == the table t with the first k shots of the list l in front
--   checked l room      == the shots to join, or the refusal
--   Fillable, Seekable, Within    == what the functions ask for
use Rattle.std.specs.Prelude.{ℕ, zero, suc, ◌+◌, ◌*◌, ◌-◌, ◌<◌, ◌≤◌, ◌/◌, Bool, cond, ◌&&◌, List, ltb, eqb, length, get_or, set, Result, Ok, Err}
use Rattle.refusal.specs.declared.Refusal.{Refusal}
use Rattle.refusal.specs.declared.Refusal.TheVariants.{Room, Shots}
use Rattle.shot.specs.Bad.{bad_shots}
use Rattle.join.specs.declared.Joined.{Joined}
use Rattle.join.specs.Join.{at, can_join, as_shot, partner_at}

-- ---- partners
unfoldable pub mated : Joined → ℕ → Joined
mated e j = record { x_low = e.x_low; y_low = e.y_low; x_high = e.x_high; y_high = e.y_high; partner = j }

unfoldable pub takes : Joined → Joined → ℕ → Bool
takes a b j = eqb b.partner j && can_join (as_shot a) (as_shot b)

unfoldable pub first : Joined → List Joined → ℕ → ℕ → ℕ → ℕ
first a t n j zero = n
first a t n j (suc k) = cond (takes a (at t j) j) j (first a t n (suc j) k)

unfoldable pub settled : Joined → ℕ → ℕ → ℕ → ℕ
settled a i n found = cond (eqb a.partner i) (cond (ltb found n) found i) a.partner

unfoldable pub mate_of : List Joined → ℕ → ℕ → ℕ
mate_of t n i = settled (at t i) i n (first (at t i) t n (suc i) (n - suc i))

unfoldable pub set_partner : List Joined → ℕ → ℕ → List Joined
set_partner t i j = set t i (mated (at t i) j)

unfoldable pub linked : List Joined → ℕ → ℕ → List Joined
linked t i j = set_partner (set_partner t i j) j i

unfoldable pub paired : List Joined → ℕ → ℕ → List Joined
paired t n zero = t
paired t n (suc k) = linked (paired t n k) k (mate_of (paired t n k) n k)

unfoldable pub counted : ℕ → ℕ → ℕ → ℕ
counted pairs i j = cond (ltb i j) (pairs + 1) pairs

unfoldable pub pairs_to : List Joined → ℕ → ℕ → ℕ
pairs_to t n zero = 0
pairs_to t n (suc k) = counted (pairs_to t n k) k (mate_of (paired t n k) n k)

-- ---- the call
unfoldable pub entry_of : List ℕ → ℕ → Joined
entry_of l i =
    record { x_low = get_or l (4 * i) 0; y_low = get_or l (4 * i + 1) 0; x_high = get_or l (4 * i + 2) 0; y_high = get_or l (4 * i + 3) 0; partner = i }

unfoldable pub filled : List ℕ → List Joined → ℕ → List Joined
filled l t zero = t
filled l t (suc k) = set (filled l t k) k (entry_of l k)

unfoldable pub checked : List ℕ → ℕ → Result ℕ Refusal
checked l room =
    cond (bad_shots l) (Err Shots) (cond (ltb room (length l / 4)) (Err Room) (Ok (length l / 4)))

-- ---- what the functions ask for
pub record Fillable (l : List ℕ) (t : List Joined) (n : ℕ) : Type 0 where
  pub room : n ≤ length t
  pub numbers : 4 * n ≤ length l

pub record Seekable (t : List Joined) (i n : ℕ) : Type 0 where
  pub low : i < n
  pub room : n ≤ length t

-- partners among the first n
pub record Within (t : List Joined) (n : ℕ) : Type 0 where
  pub room : n ≤ length t
  pub below : (i : ℕ) → i < n → partner_at t i < n
