-- To believe: which shots can be joined, who is whose partner, and what the call promises.
--
--   touches e s al ah bl bh == a side at e that runs from al to ah and a side at s that runs from bl to bh lie on one line, touch along
--                              a stretch, and at least one of their ends coincides
--   beside a b, below a b   == the right side of a and the left one of b meet so; the top of a and the bottom of b
--   can_join a b             == a right side touches a left one, or a top a bottom
--   nth l i                 == shot i of a list; past its end no_shot, four zeros
--   Greedy l p              == p i is the partner of shot i of the list l, or i where it has none: partners point at each other and can be
--                              joined; in list order each free shot took the first later free one that it can join
--   pairs p n               == the pairs among the first n shots, each counted at its lower number
--   as_shot e                == the shot of an entry;   at t i == entry i of a table, past its end no_entry, five zeros;   partner_at t i == its
--                              partner
--   refusal l room          == 21, 14, in this order; 0 where the list l is joined in a table of so many entries
--   JoinSaid, join_lent      == what the call says: the scope's number, the flashes, and the table as it is then
--   join_told r t            == that, of the answer r
--   Joins l t s             == what is said of a list that is joined in the table t
--   Promise l t s           == what the call says of any list and table
use Rattle.std.specs.Prelude.{ℕ, ◌-◌, ◌<◌, ◌≤◌, ◌≡◌, Bool, true, cond, ◌&&◌, ◌||◌, List, map, ltb, eqb, length, get_or, take, drop, Result, Ok, Err}
use Rattle.sum.specs.Sum.{only, over}
use Rattle.refusal.specs.declared.Refusal.{Refusal}
use Rattle.refusal.specs.declared.Refusal.TheVariants as because
use Rattle.refusal.specs.Refusals.{refusal_no}
use Rattle.shot.specs.Shot.{Shot, shots_in}
use Rattle.shot.specs.Bad.{bad_shots}
use Rattle.join.specs.declared.Joined.{Joined}

-- ---- two shots
unfoldable pub touches : (e s al ah bl bh : ℕ) → Bool
touches e s al ah bl bh = eqb e s && ltb al bh && ltb bl ah && (eqb al bl || eqb ah bh)

unfoldable pub beside : Shot → Shot → Bool
beside a b = touches a.xhigh b.xlow a.ylow a.yhigh b.ylow b.yhigh

unfoldable pub below : Shot → Shot → Bool
below a b = touches a.yhigh b.ylow a.xlow a.xhigh b.xlow b.xhigh

unfoldable pub can_join : Shot → Shot → Bool
can_join a b = beside a b || beside b a || below a b || below b a

-- ---- a list of shots, and partners
abbrev pub no_shot : Shot
no_shot = record { xlow = 0; ylow = 0; xhigh = 0; yhigh = 0 }

abbrev pub nth : List Shot → ℕ → Shot
nth l i = get_or l i no_shot

-- a shot is free at the turn of shot i when its partner is none of the shots before i
pub record Greedy (l : List Shot) (p : ℕ → ℕ) : Type 0 where
  pub within : (i : ℕ) → i < length l → p i < length l
  pub back : (i : ℕ) → i < length l → p (p i) ≡ i
  pub joins : (i : ℕ) → i < length l → (p i ≡ i → ⊥) → can_join (nth l i) (nth l (p i)) ≡ true
  pub first : (i j : ℕ) → i < j → j < length l → i ≤ p i → i ≤ p j → can_join (nth l i) (nth l j) ≡ true → (i < p i) × (p i ≤ j)

unfoldable pub pairs : (ℕ → ℕ) → ℕ → ℕ
pairs p n = over 0 n (λ i. only (ltb i (p i)) 1)

-- ---- the table
unfoldable pub as_shot : Joined → Shot
as_shot e = record { xlow = e.x_low; ylow = e.y_low; xhigh = e.x_high; yhigh = e.y_high }

abbrev pub no_entry : Joined
no_entry = record { x_low = 0; y_low = 0; x_high = 0; y_high = 0; partner = 0 }

unfoldable pub at : List Joined → ℕ → Joined
at t i = get_or t i no_entry

abbrev pub partner_at : List Joined → ℕ → ℕ
partner_at t i = (at t i).partner

-- ---- the call
unfoldable pub refusal : List ℕ → ℕ → ℕ
refusal l room = cond (bad_shots l) (refusal_no because.Shots) (cond (ltb room (length (shots_in l))) (refusal_no because.Room) 0)

pub record JoinSaid : Type 0 where
  pub number : ℕ
  pub flashes : ℕ
  pub table : List Joined

abbrev pub join_lent : ℕ → ℕ → List Joined → JoinSaid
join_lent n flashes table = record { number = n; flashes = flashes; table = table }

abbrev pub join_told : Result ℕ Refusal → List Joined → JoinSaid
join_told (Ok n) t = join_lent 0 n t
join_told (Err why) t = join_lent (refusal_no why) 0 t

pub record Joins (l : List Shot) (t : List Joined) (s : JoinSaid) : Type 0 where
  pub shots : map as_shot (take (length l) s.table) ≡ l
  pub greedy : Greedy l (partner_at s.table)
  pub beyond : drop (length l) s.table ≡ drop (length l) t
  pub flashes : s.flashes ≡ length l - pairs (partner_at s.table) (length l)

pub record Promise (l : List ℕ) (t : List Joined) (s : JoinSaid) : Type 0 where
  pub number : s.number ≡ refusal l (length t)
  pub refused : (s.number ≡ 0 → ⊥) → (s.flashes ≡ 0) × (s.table ≡ t)
  pub joined : s.number ≡ 0 → Joins (shots_in l) t s
