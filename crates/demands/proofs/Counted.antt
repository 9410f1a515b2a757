-- The theorems of Item 6, about the cuts that the outcome of a fracture reports. Assumes nothing.
--
-- For all that a fracture can be asked (ask); o is its outcome.
--   cuts_are             == on success they are those weighed over the figure's grid
--   cuts-same            == so neither rule nor buffers matter: two accepted fractures of one figure report the same
--   cuts-figure          == on success they are those of the figure alone, at unit squares
--   cuts-refused         == beside every refusal they are 0
--   cuts_general         == they are no more than m (m - 1) (m - 2) / 6 x n (n - 1) / 2 + m (m - 1) / 2 x n (n - 1) (n - 2) / 6 of m x lines
--                           and n y lines
--   cuts-most            == they are at most 134,400
--   cuts-ahead           == on success they are what is told ahead, of the figure alone
--   ahead-refused        == by a rule in range, a figure that is refused ahead is refused by the same number
use Prim.Native.Nat.{ℕ, suc, ◌+◌, ◌*◌, ◌≤◌, ◌<◌}
use mathlib.Core.Path.{◌≡◌, refl, sym, ◌∙◌, ap}
use mathlib.Core.Bool.{Bool, true, false, cond, ◌||◌, true≢false}
use mathlib.Core.Logic.{◌⊎◌, inl, inr}
use mathlib.Core.List.Memᴰ
use mathlib.Core.List.{List, [], ◌∷◌, map, Memᴰ as Member}
use native.Mathlib.Omega.{arith}
use lib.Dec.{eqb}
use borrow.Author.Tests.{eqb-true, eq-eqb}
use Rattle.sum.proofs.Sum.{le-or}
use Rattle.rule.specs.Rules.{in_range}
use Rattle.figure.specs.declared.Axis.{Axis}
use Rattle.figure.specs.declared.Axis.TheVariants.{X, Y}
use Rattle.figure.specs.Corners.{Corner, any, coordinate}
use Rattle.figure.specs.Figure.{corners_of}
use Rattle.figure.specs.Inside.{inside_at}
use Rattle.outline.specs.Inside.{grid}
use Rattle.outline.specs.Promise.{refusal}
use Rattle.demands.specs.Cuts.{weighed_cuts, two, three, ahead, at, square_cuts}
use Rattle.demands.specs.Promise.{Asked, drawn, Outcome, refused, outcome}
use Rattle.demands.specs.Ways.{On}
use Rattle.demands.specs.Demands.{Words}
use Rattle.demands.proofs.Outcome.{accepted, short, Ended, ended, outcome-zero, outcome-rule, outcome-figure}
use Rattle.demands.proofs.General.{weighed_bound, weighed-limit}
use Rattle.demands.proofs.Cuts.{weighed_squares}
use Rattle.demands.proofs.Accepted.{shown, sound, lined}

-- a place is marked just if a corner lies at it
at_on : (a : Axis) (cs : List Corner) (v : ℕ) → On a cs v → at a cs v ≡ true
unfolding at any
at_on a cs v = go (map (coordinate a) cs)
  where
    go : (l : List ℕ) → Member v l → any (eqb v) l ≡ true
    go [] m = absurd (Memᴰ.not-nil m)
    go (u ∷ l) (Member.head e) = rw (eq-eqb v u e) refl
    go (u ∷ l) (Member.tail m) = ap (λ t. eqb v u || t) (go l m) ∙ either (eqb v u)
      where
        either : (t : Bool) → (t || true) ≡ true
        either true = refl
        either false = refl

any_member : (v : ℕ) (l : List ℕ) → any (eqb v) l ≡ true → Member v l
unfolding any
any_member v [] e = absurd (true≢false (sym e))
any_member v (u ∷ l) e = pick (eqb v u) refl (any_member v l) e
  where
    pick : (t : Bool) → eqb v u ≡ t → (any (eqb v) l ≡ true → Member v l) → (t || any (eqb v) l) ≡ true → Member v (u ∷ l)
    pick true q f e = Member.head (eqb-true v u q)
    pick false q f e = Member.tail (f e)

on_at : (a : Axis) (cs : List Corner) (v : ℕ) → at a cs v ≡ true → On a cs v
unfolding at
on_at a cs v = any_member v (map (coordinate a) cs)

module _ (ask : Asked) where
  abbrev o : Outcome
  o = outcome ask

  abbrev cs : List Corner
  cs = corners_of ask.figure

  pub cuts_are : o.number ≡ 0 → o.cuts ≡ weighed_cuts (drawn ask)
  unfolding accepted
  cuts_are e = ap (λ o. o.cuts) (outcome-zero ask e)

  pub cuts-figure : Words ask.figure → o.number ≡ 0 → o.cuts ≡ square_cuts (inside_at ask.figure) (at X cs) (at Y cs)
  cuts-figure words e =
      let s = sound ask words (inl e) in
      let l = lined ask words (inl e) in
      cuts_are e
      ∙ weighed_squares (drawn ask) (inside_at ask.figure) (at X cs) (at Y cs) s (shown ask (inl e))
      (record {
        up = s.x-up;
        rises = s.x_rises;
        most = omega (arith, s.x-most (drawn ask).columns);
        line = λ i h. at_on X cs _ (l.x_on i h);
        place = λ v h. l.x-line v (on_at X cs v h);
      })
      (record {
        up = s.y-up;
        rises = s.y_rises;
        most = omega (arith, s.y-most (drawn ask).rows);
        line = λ j h. at_on Y cs _ (l.y_on j h);
        place = λ v h. l.y-line v (on_at Y cs v h);
      })

  pub cuts-refused : 0 < o.number → o.cuts ≡ 0
  unfolding accepted short refused
  cuts-refused h = go (ended ask)
    where
      go : Ended ask → o.cuts ≡ 0
      go (inl q) = absurd (omega (arith, ap (λ (o : Outcome). o.number) q))
      go (inr (inl q)) = ap (λ (o : Outcome). o.cuts) q
      go (inr (inr q)) = ap (λ (o : Outcome). o.cuts) q.3

  pub cuts_general : o.cuts
      ≤ three (suc (drawn ask).columns) * two (suc (drawn ask).rows) + two (suc (drawn ask).columns) * three (suc (drawn ask).rows)
  cuts_general = elim (le-or 1 o.number) [
    | inl h ↦ omega (arith, cuts-refused h)
    | inr h ↦ omega (arith, cuts_are (omega arith), weighed_bound (drawn ask))
  ]

  pub cuts-most : Words ask.figure → o.cuts ≤ 134400
  cuts-most words = elim (le-or 1 o.number) [
    | inl h ↦ omega (arith, cuts-refused h)
    | inr h ↦
        let z : o.number ≡ 0 = omega arith in
        let s = sound ask words (inl z) in
        omega (arith, cuts_are z, weighed-limit (drawn ask) s.columns-most s.rows-most)
  ]

  -- Ahead

  -- an accepted fracture is that of a figure with no refusal
  not-refused : o.number ≡ 0 → refusal ask.figure ≡ 0
  unfolding refused
  not-refused z = go (in_range ask.threshold ask.weight) refl (le-or 1 (refusal ask.figure))
    where
      go : (t : Bool) → in_range ask.threshold ask.weight ≡ t → (1 ≤ refusal ask.figure) ⊎ (refusal ask.figure < 1) → refusal ask.figure ≡ 0
      go false e h = absurd (omega (arith, ap (λ (o : Outcome). o.number) (outcome-rule ask e)))
      go true e (inl h) = absurd (omega (arith, ap (λ (o : Outcome). o.number) (outcome-figure ask e h)))
      go true e (inr h) = omega arith

  pub cuts-ahead : o.number ≡ 0 → ahead ask.figure ≡ record { number = 0; cuts = o.cuts }
  unfolding ahead drawn
  cuts-ahead z =
      let n = not-refused z in
      let made : cond (eqb (refusal ask.figure) 0) (weighed_cuts (grid ask.figure)) 0 ≡ o.cuts =
      ap (λ t. cond t (weighed_cuts (grid ask.figure)) 0) (eq-eqb (refusal ask.figure) 0 n) ∙ sym (cuts_are z) in
      λ i. record { number = n i; cuts = made i }

  pub ahead-refused : in_range ask.threshold ask.weight ≡ true → 0 < (ahead ask.figure).number → o.number ≡ (ahead ask.figure).number
  unfolding ahead refused
  ahead-refused e h = ap (λ (o : Outcome). o.number) (outcome-figure ask e h)

pub cuts-same : (ask also : Asked) → ask.figure ≡ also.figure → (outcome ask).number ≡ 0 → (outcome also).number ≡ 0
    → (outcome ask).cuts ≡ (outcome also).cuts
unfolding drawn
cuts-same ask also f e h = cuts_are ask e ∙ ap (λ k. weighed_cuts (grid k)) f ∙ sym (cuts_are also h)
