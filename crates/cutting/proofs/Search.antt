-- The search for the cheapest cut goes on by one cut. Assumes nothing.
--
--   start    == where no cut is tried none is found
--   go-on    == with one cut more, which comes behind all that were tried, the cheaper of both is the cheapest of all
use Prim.Native.Nat.{ℕ, ◌+◌, ◌≤◌, ◌<◌}
use mathlib.Core.Path.{◌≡◌, ap, sym, subst}
use mathlib.Core.Logic.{◌⊎◌, inl, inr}
use native.Mathlib.Omega.{arith}
use Rattle.std.specs.Prelude.{Option, None, Some}
use Rattle.sum.proofs.Sum.{le-or}
use Rattle.cutting.specs.declared.Cut.{Cut}
use Rattle.cutting.specs.declared.Cut.TheVariants.{Upright, Level}
use Rattle.cutting.specs.declared.Piece.{Piece}
use Rattle.cutting.specs.Cutting.{Before, CheapestOf, Cheapest, CutOf}
use Rattle.cutting.specs.Steps.{Cheaper}

-- U has what T has, and one cut more, which comes behind
pub record Next (T U : Cut → Type 0) (next : Cut) : Type 0 where
  pub more : (cut : Cut) → T cut → U cut
  pub new : U next
  pub all : (cut : Cut) → U cut → T cut ⊎ (cut ≡ next)
  pub last : Before next next → ⊥
  pub behind : (cut : Cut) → T cut → Before next cut → ⊥

kept : (weigh : Cut → ℕ) {T U : Cut → Type 0} (best next : Cut) → Next T U next → CheapestOf T weigh (Some best) → weigh best ≤ weigh next → CheapestOf U weigh (Some best)
kept weigh {T} {U} best next n c le = (n.more best c.0, least, first)
  where
    least : (cut : Cut) → U cut → weigh best ≤ weigh cut
    least cut u = by (n.all cut u)
      where
        by : T cut ⊎ (cut ≡ next) → weigh best ≤ weigh cut
        by (inl t) = c.1 cut t
        by (inr e) = subst (λ k. weigh best ≤ weigh k) (sym e) le

    first : (cut : Cut) → U cut → Before cut best → weigh best < weigh cut
    first cut u b = by (n.all cut u)
      where
        by : T cut ⊎ (cut ≡ next) → weigh best < weigh cut
        by (inl t) = c.2 cut t b
        by (inr e) = absurd (n.behind best c.0 (subst (λ k. Before k best) e b))

-- what was found weighs more, or there is none
taken : (weigh : Cut → ℕ) {T U : Cut → Type 0} (next : Cut) → Next T U next → ((cut : Cut) → T cut → weigh next < weigh cut) → CheapestOf U weigh (Some next)
taken weigh {T} {U} next n less = (n.new, least, first)
  where
    least : (cut : Cut) → U cut → weigh next ≤ weigh cut
    least cut u = by (n.all cut u)
      where
        by : T cut ⊎ (cut ≡ next) → weigh next ≤ weigh cut
        by (inl t) = omega (arith, less cut t)
        by (inr e) = omega (arith, ap weigh e)

    first : (cut : Cut) → U cut → Before cut next → weigh next < weigh cut
    first cut u b = by (n.all cut u)
      where
        by : T cut ⊎ (cut ≡ next) → weigh next < weigh cut
        by (inl t) = less cut t
        by (inr e) = absurd (n.last (subst (λ k. Before k next) e b))

pub go-on : (weigh : Cut → ℕ) {T U : Cut → Type 0} (found : Option Cut) (next : Cut) (r : Option Cut) → Next T U next → CheapestOf T weigh found → Cheaper weigh found next r → CheapestOf U weigh r
go-on weigh None next r n c e = subst (CheapestOf _ weigh) (sym e) (taken weigh next n (λ cut t. absurd (c cut t)))
go-on weigh (Some best) next r n c (inl w) = subst (CheapestOf _ weigh) (sym w.1) (kept weigh best next n c w.0)
go-on weigh (Some best) next r n c (inr w) = subst (CheapestOf _ weigh) (sym w.1) (taken weigh next n (λ cut t. omega (arith, w.0, c.1 cut t)))

-- the cuts on x lines below x, and those on y lines below y too
abbrev pub BelowX : Piece → ℕ → Cut → Type 0
BelowX p x cut = CutOf p cut × Before cut (Upright x)

abbrev pub BelowY : Piece → ℕ → Cut → Type 0
BelowY p y cut = CutOf p cut × Before cut (Level y)

pub next-x : (p : Piece) (x : ℕ) → p.a < x → x < p.c → Next (BelowX p x) (BelowX p (x + 1)) (Upright x)
next-x p x low high = record { more = more; new = ((low, high), omega arith); all = all; behind = behind; last = λ l. omega (arith, l) }
  where
    more : (cut : Cut) → BelowX p x cut → BelowX p (x + 1) cut
    more (Upright z) t = (t.0, omega (arith, t.1))
    more (Level y) t = absurd t.1

    all : (cut : Cut) → BelowX p (x + 1) cut → BelowX p x cut ⊎ (cut ≡ Upright x)
    all (Upright z) u = by (le-or x z)
      where
        by : (x ≤ z) ⊎ (z < x) → BelowX p x (Upright z) ⊎ (Upright z ≡ Upright x)
        by (inl l) = inr (ap Upright (omega (arith, l, u.1)))
        by (inr l) = inl (u.0, l)
    all (Level y) u = absurd u.1

    behind : (cut : Cut) → BelowX p x cut → Before (Upright x) cut → ⊥
    behind (Upright z) t b = omega (arith, t.1, b)
    behind (Level y) t b = t.1

pub next-y : (p : Piece) (y : ℕ) → p.b < y → y < p.d → Next (BelowY p y) (BelowY p (y + 1)) (Level y)
next-y p y low high = record { more = more; new = ((low, high), omega arith); all = all; behind = behind; last = λ l. omega (arith, l) }
  where
    more : (cut : Cut) → BelowY p y cut → BelowY p (y + 1) cut
    more (Upright x) t = t
    more (Level z) t = (t.0, omega (arith, t.1))

    all : (cut : Cut) → BelowY p (y + 1) cut → BelowY p y cut ⊎ (cut ≡ Level y)
    all (Upright x) u = inl u
    all (Level z) u = by (le-or y z)
      where
        by : (y ≤ z) ⊎ (z < y) → BelowY p y (Level z) ⊎ (Level z ≡ Level y)
        by (inl l) = inr (ap Level (omega (arith, l, u.1)))
        by (inr l) = inl (u.0, l)

    behind : (cut : Cut) → BelowY p y cut → Before (Level y) cut → ⊥
    behind (Upright x) t b = b
    behind (Level z) t b = omega (arith, t.1, b)

pub start : (p : Piece) (x : ℕ) → x ≤ p.a + 1 → (cut : Cut) → BelowX p x cut → ⊥
start p x le (Upright z) t = omega (arith, le, t.0.0, t.1)
start p x le (Level y) t = t.1

-- the same cuts by another name
same : (weigh : Cut → ℕ) {T U : Cut → Type 0} (found : Option Cut) → ((cut : Cut) → T cut → U cut) → ((cut : Cut) → U cut → T cut) → CheapestOf T weigh found → CheapestOf U weigh found
same weigh None on back c = λ cut u. c cut (back cut u)
same weigh (Some best) on back c = (on best c.0, λ cut u. c.1 cut (back cut u), λ cut u b. c.2 cut (back cut u) b)

pub turn : (weigh : Cut → ℕ) (p : Piece) (x y : ℕ) (found : Option Cut) → p.c ≤ x → y ≤ p.b + 1 → CheapestOf (BelowX p x) weigh found → CheapestOf (BelowY p y) weigh found
turn weigh p x y found past first c = same weigh found on back c
  where
    on : (cut : Cut) → BelowX p x cut → BelowY p y cut
    on (Upright z) t = (t.0, tt)
    on (Level z) t = absurd t.1

    back : (cut : Cut) → BelowY p y cut → BelowX p x cut
    back (Upright z) u = (u.0, omega (arith, u.0.1, past))
    back (Level z) u = absurd (omega (arith, u.0.0, u.1, first))

pub finish : (weigh : Cut → ℕ) (p : Piece) (y : ℕ) (found : Option Cut) → p.d ≤ y → CheapestOf (BelowY p y) weigh found → Cheapest weigh p found
finish weigh p y found past c = same weigh found (λ cut t. t.0) back c
  where
    back : (cut : Cut) → CutOf p cut → BelowY p y cut
    back (Upright x) u = (u, tt)
    back (Level z) u = (u, omega (arith, u.1, past))
