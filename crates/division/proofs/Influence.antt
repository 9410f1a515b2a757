-- Nothing in a lent buffer steers a fracture with a largest side: with others of the same lengths the answer is the same. Assumes nothing.
--
--   answer-listed        == what is listed answers by the length of the list, not by what it held
--   divided-same         == the answer of the divided outcome goes by the lengths of the buffers
use Prim.Native.Nat.{ℕ, ◌+◌, ◌*◌, ◌<◌}
use mathlib.Core.Path.{◌≡◌, refl, sym, ◌∙◌, ap, ap₂}
use mathlib.Core.Bool.{Bool, true, false, cond}
use mathlib.Core.Logic.{inl, inr}
use mathlib.Core.List.{List, []}
use native.Mathlib.Omega.{arith}
use lib.Dec.{ltb, eqb}
use lib.ListN.{length}
use borrow.Author.Tests.{eqb-true, eqb-false}
use Rattle.sum.specs.Sum.{join}
use Rattle.sum.proofs.Sum.{le-or}
use Rattle.rule.specs.Rules.{in_range}
use Rattle.shot.specs.Shot.{Shot, numbers}
use Rattle.demands.specs.Promise.{Asked, Outcome, written, refused, outcome}
use Rattle.demands.specs.Demands.{answer}
use Rattle.demands.proofs.Outcome.{with_buffers}
use Rattle.demands.proofs.Demands as demands
use Rattle.division.specs.Division.{divided}
use Rattle.division.specs.Promise.{bad_largest, room_aside, aside, parts, listed, after, divided_outcome}
use Rattle.division.proofs.Outcome.{after-listed, after-refused}

-- so many numbers for the parts l
said : ℕ → List Shot → ℕ → ℕ → ℕ → Outcome
said w l v k n =
    cond (ltb n (4 * length l))
    (record { number = 7; shots = length l; cost = 0; sliver = 0; cuts = 0; table = []; list = [] })
    (record { number = 0; shots = length l; cost = 1000 * length l + w * v; sliver = v; cuts = k; table = []; list = [] })

answer-listed : (w : ℕ) (l : List Shot) (v k : ℕ) (table list : List ℕ) → answer (listed w l v k table list) ≡ said w l v k (length list)
unfolding answer listed said
answer-listed w l v k table list = go (ltb (length list) (4 * length l))
  where
    go : (b : Bool)
        → answer (cond b
        (record { number = 7; shots = length l; cost = 0; sliver = 0; cuts = 0; table = table; list = list })
        (record { number = 0; shots = length l; cost = 1000 * length l + w * v; sliver = v; cuts = k; table = table; list = written (numbers l) list }))
        ≡ cond b
        (record { number = 7; shots = length l; cost = 0; sliver = 0; cuts = 0; table = []; list = [] })
        (record { number = 0; shots = length l; cost = 1000 * length l + w * v; sliver = v; cuts = k; table = []; list = [] })
    go true = refl
    go false = refl

module _ (ask : Asked) (m : ℕ) (table list : List ℕ) (entries : length ask.table ≡ length table) (room : length ask.list ≡ length list) where
  -- the same with other buffers
  abbrev other : Asked
  other = with_buffers ask table list

  abbrev u : Outcome
  u = outcome (aside ask)

  abbrev v : Outcome
  v = outcome (aside other)

  alike : answer u ≡ answer v
  alike = (demands.no_influence (aside ask) table room_aside entries refl).0

  same_number : u.number ≡ v.number
  unfolding answer
  same_number = ap (λ (o : Outcome). o.number) alike

  -- what comes after the fracture
  after_same : answer (after m ask.weight u ask.list) ≡ answer (after m ask.weight v list)
  after_same = go (eqb u.number 0) refl
    where
      some : (n : ℕ) → (n ≡ 0 → ⊥) → 0 < n
      some n h = elim (le-or 1 n) [ inl q ↦ q | inr q ↦ absurd (h (omega arith)) ]

      go : (b : Bool) → eqb u.number 0 ≡ b → answer (after m ask.weight u ask.list) ≡ answer (after m ask.weight v list)
      go true e =
          let z = eqb-true u.number 0 e in
          let reckoned : said ask.weight (parts m v) u.sliver u.cuts (length list) ≡ said ask.weight (parts m v) v.sliver v.cuts (length list) =
          unfold answer in ap (λ (o : Outcome). said ask.weight (parts m v) o.sliver o.cuts (length list)) alike in
          let p : parts m u ≡ parts m v = unfold parts in ap (join (divided m)) ((demands.no_influence (aside ask) table room_aside entries refl).2 z) in
          ap answer (after-listed ask m z)
          ∙ answer-listed ask.weight (parts m u) u.sliver u.cuts u.table ask.list
          ∙ ap₂ (λ l n. said ask.weight l u.sliver u.cuts n) p room
          ∙ reckoned
          ∙ sym (answer-listed ask.weight (parts m v) v.sliver v.cuts v.table list)
          ∙ sym (ap answer (after-listed other m (sym same_number ∙ z)))
      go false e =
          let h : 0 < u.number = some u.number (eqb-false u.number 0 e) in
          let q : answer (refused u.number u.table ask.list) ≡ answer (refused v.number v.table list) =
          unfold answer refused in ap (λ n. refused n [] []) same_number in
          ap answer (after-refused ask m h) ∙ q ∙ sym (ap answer (after-refused other m (omega (arith, h, same_number))))

  pub divided-same : answer (divided_outcome ask m) ≡ answer (divided_outcome other m)
  unfolding divided_outcome answer refused
  divided-same = go (in_range ask.threshold ask.weight) (bad_largest ask.threshold m)
    where
      go : (a b : Bool)
          → answer (cond a (cond b (refused 19 ask.table ask.list) (after m ask.weight u ask.list)) (refused 1 ask.table ask.list))
          ≡ answer (cond a (cond b (refused 19 table list) (after m ask.weight v list)) (refused 1 table list))
      go true true = refl
      go true false = after_same
      go false b = refl
