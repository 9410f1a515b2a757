-- Each way that a fracture with a largest side ends tells the divided outcome; and two ways to keep its promise are one. Assumes nothing.
--
--   told-short, told-listed    : 7 by the parts, and the parts listed
--   divisible                  : the shots of a fracture can be divided: they have area, and few parts
--   told-before, told-after    : what the fracture is refused by; its shots divided
--   by_mode                    : in the mode that was asked
--   told-rule, told-largest    : 1 and 19
--   divided-settled            : two ways to satisfy the promise are one: the same answer, and the same in both buffers
use Rattle.std.specs.Prelude.{Result, Ok, Err}
use Prim.Native.Nat.{ℕ, ◌+◌, ◌*◌, ◌≤◌, ◌<◌}
use mathlib.Core.Path.{◌≡◌, refl, sym, ◌∙◌, ap, ap₂, subst}
use mathlib.Core.Bool.{Bool, true, false, cond}
use mathlib.Core.Logic.{inl, inr}
use mathlib.Core.List.{List}
use native.Mathlib.Omega.{arith}
use lib.ListN.{length}
use borrow.Author.Tests.{lt-ltb, le-ltb}
use Rattle.sum.specs.Sum.{sum_of, All, join}
use Rattle.sum.proofs.Sum.{le-or}
use Rattle.refusal.specs.declared.Refusal.{Refusal}
use Rattle.refusal.specs.declared.Refusal.TheVariants as because
use Rattle.refusal.specs.Refusals.{refusal_no}
use Rattle.refusal.proofs.Refusals.{refusal-some}
use Rattle.rule.specs.Rules.{in_range, Told, given, refused as unknown, rule_told}
use Rattle.shot.specs.Shot.{Shot, numbers}
use Rattle.piece.specs.declared.Mode.{Mode}
use Rattle.demands.specs.Promise.{Asked, asked, drawn, rule_of, frame_shots, Outcome, written, refused, outcome}
use Rattle.demands.specs.Refusals as undivided
use Rattle.demands.specs.Demands.{Words, reported}
use Rattle.demands.proofs.Outcome as undivided-outcome
use Rattle.demands.proofs.Accepted.{light}
use Rattle.demands.proofs.Demands as demands
use Rattle.demands.proofs.Room as room
use Rattle.fracture.specs.declared.Fractured.{Fractured}
use Rattle.fracture.specs.declared.Denial.{Denial}
use Rattle.fracture.specs.Told.{fractured as done, denied, told}
use Rattle.fracture.proofs.Settled.{fracture_unique}
use Rattle.division.specs.Division.{divided, product}
use Rattle.division.specs.Promise.{bad_largest, room_aside, aside, parts, listed, divided_outcome}
use Rattle.division.specs.Steps.{in_front, Wrote, Divisible}
use Rattle.division.proofs.Written.{wrote_front, joined_length}
use Rattle.division.proofs.Outcome.{room-aside, largest-good, Passed, outcome-rule, outcome-largest, outcome-after, after-refused, after-listed}
use Rattle.division.proofs.Demands.{areas, few-parts, few_slivers}

-- 7 or the parts

module _ (w m v k : ℕ) (shots : List ℕ) (n : ℕ) (list : List ℕ) (count : ℕ) (e : count ≡ sum_of (product m) (in_front shots n)) where
  abbrev all : List Shot
  all = join (divided m) (in_front shots n)

  as_many : length all ≡ count
  as_many = joined_length m (in_front shots n) ∙ sym e

  -- 7 of so many parts, and so many parts listed
  lacking : List ℕ → ℕ → Outcome
  lacking table i = record { number = 7; shots = i; cost = 0; sliver = 0; cuts = 0; table = table; list = list }

  delivered : List ℕ → ℕ → Outcome
  delivered table i =
      record { number = 0; shots = i; cost = 1000 * i + w * v; sliver = v; cuts = k; table = table; list = written (numbers all) list }

  pub told-short : length list < 4 * count → (table : List ℕ) → told (denied because.List count) table list ≡ listed w all v k table list
  unfolding told listed lacking delivered
  told-short h table =
      ap (lacking table) (sym as_many)
      ∙ sym (ap (λ b. cond b (lacking table (length all)) (delivered table (length all))) (lt-ltb (length list) (4 * length all) (omega (arith, as_many))))

  pub told-listed : 4 * count ≤ length list → {then : List ℕ} {end : ℕ} → Wrote list then 0 all end → (table : List ℕ)
      → told (done count (1000 * count + w * v) v k) table then ≡ listed w all v k table list
  unfolding told listed lacking delivered
  told-listed h {then} {end} wrote table =
      ap (λ l. record { number = 0; shots = count; cost = 1000 * count + w * v; sliver = v; cuts = k; table = table; list = l })
      (wrote_front all wrote (omega (arith, as_many)))
      ∙ ap (delivered table) (sym as_many)
      ∙ sym (ap (λ b. cond b (lacking table (length all)) (delivered table (length all))) (le-ltb (length list) (4 * length all) (omega (arith, as_many))))

-- The fracture before division

module _ (ask : Asked) (m : ℕ) (passed : Passed ask m) where
  abbrev u : Outcome
  u = outcome (aside ask)

  pub told-before : (table list : List ℕ) (d : Denial) → told (Err d) table list ≡ u → told (denied d.why 0) table ask.list ≡ divided_outcome ask m
  unfolding told refused
  told-before table list d e =
      sym
      (outcome-after ask m passed.range passed.fits
      ∙ after-refused ask m (omega (arith, refusal-some d.why, ap (λ (o : Outcome). o.number) e))
      ∙ ap₂ (λ i t. refused i t ask.list) (sym (ap (λ (o : Outcome). o.number) e)) (sym (ap (λ (o : Outcome). o.table) e)))

  module _ (words : Words ask.figure) (table list : List ℕ) (before : Fractured) (e : told (Ok before) table list ≡ u) where
    fractured : u.number ≡ 0
    unfolding told
    fractured = sym (ap (λ (o : Outcome). o.number) e)

    -- the shots that it lists
    these : reported u ≡ in_front list before.shots
    unfolding told reported in_front
    these = ap reported (sym e)

    long : length list ≡ 900
    unfolding told
    long = ap (λ (o : Outcome). length o.list) e ∙ (room.lengths-kept (aside ask)).1 ∙ room-aside

    few : 4 * before.shots ≤ 900
    unfolding told undivided-outcome.accepted undivided.Condition
    few = elim (le-or (4 * length (frame_shots ask.mode (drawn (aside ask)) (rule_of ask))) (length room_aside)) [
      | inl h ↦ omega (arith, room-aside, ap (λ (o : Outcome). o.shots) (e ∙ undivided-outcome.outcome-zero (aside ask) fractured))
      | inr h ↦ absurd ((demands.accepted_exactly (aside ask)).0 fractured because.List h)
    ]

    pub divisible : Divisible list before.shots m × ((ask.weight ≤ 1000) × ((before.sliver ≤ 2097120) × (before.shots ≤ 225)))
    unfolding told
    divisible =
        let g = largest-good ask.threshold m passed.fits in (
          record {
            least = g.0;
            most = g.2;
            room = omega (arith, long, few);
            area = subst (All (λ s. (s.xlow < s.xhigh) × (s.ylow < s.yhigh))) these (areas ask m words fractured);
            few = omega (arith, few-parts ask m words passed fractured, ap (sum_of (product m)) these);
          },
          (
            light (aside ask) (inl fractured),
            (omega (arith, few_slivers ask m words fractured, ap (λ (o : Outcome). o.sliver) e), omega (arith, few)),
          ),
        )

    -- sliver length, cuts and table are those that it reports
    as_reported : listed ask.weight (join (divided m) (reported u)) before.sliver before.cuts table ask.list
        ≡ listed ask.weight (join (divided m) (reported u)) u.sliver u.cuts u.table ask.list
    unfolding told
    as_reported =
        ap (λ (o : Outcome). listed ask.weight (join (divided m) (reported u)) o.sliver o.cuts o.table ask.list) e

    pub told-after : (b : Result Fractured Denial) (then : List ℕ)
        → told b table then ≡ listed ask.weight (join (divided m) (in_front list before.shots)) before.sliver before.cuts table ask.list
        → told b table then ≡ divided_outcome ask m
    unfolding parts
    told-after b then h =
        h
        ∙ ap (λ l. listed ask.weight (join (divided m) l) before.sliver before.cuts table ask.list) (sym these)
        ∙ as_reported
        ∙ sym (outcome-after ask m passed.range passed.fits ∙ after-listed ask m fractured)

-- the mode that was asked
pub by_mode : (a : Outcome) (mode asks : Mode) (corners lengths : List ℕ) (t w : ℕ) (table list : List ℕ)
    → a ≡ outcome (asked mode corners lengths t w table list) → asks ≡ mode → a ≡ outcome (asked asks corners lengths t w table list)
by_mode a mode asks corners lengths t w table list e q = e ∙ ap (λ m. outcome (asked m corners lengths t w table list)) (sym q)

-- 1 and 19

module _ (ask : Asked) (m : ℕ) where
  pub told-rule : (why : Refusal) → unknown (refusal_no why) ≡ rule_told ask.threshold ask.weight
      → told (denied why 0) ask.table ask.list ≡ divided_outcome ask m
  unfolding told refused rule_told
  told-rule why e =
      let z = go (in_range ask.threshold ask.weight) e in
      ap (λ n. refused n ask.table ask.list) z.0 ∙ sym (outcome-rule ask m z.1)
    where
      go : (b : Bool) → unknown (refusal_no why) ≡ cond b (given (rule_of ask)) (unknown 1) → (refusal_no why ≡ 1) × (b ≡ false)
      go true q = absurd (omega (arith, refusal-some why, ap (λ (x : Told). x.number) q))
      go false q = (ap (λ (x : Told). x.number) q, refl)

  pub told-largest : in_range ask.threshold ask.weight ≡ true → bad_largest ask.threshold m ≡ true
      → told (denied because.Largest 0) ask.table ask.list ≡ divided_outcome ask m
  unfolding told refused
  told-largest e f = sym (outcome-largest ask m e f)

  pub divided-settled : (a b : Result Fractured Denial) (t t' l l' : List ℕ) → told a t l ≡ divided_outcome ask m → told b t' l' ≡ divided_outcome ask m
      → (a ≡ b) × (t ≡ t') × (l ≡ l')
  divided-settled a b t t' l l' = fracture_unique (divided_outcome ask m) a b t t' l l'
