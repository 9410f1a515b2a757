-- A ring that passes 3 and 4 turns at each corner: its edges change x and y in turn. So the number of corners is even. Assumes nothing.
--
--   around-all, around-from, around-to   == what holds of all members holds of both ends of each step, and back
--   chained                              == a turn's first edge ends where its second one starts
--   alternate                            == where each step changes a test's answer once round, half the members pass it
--   edges-one, turns-other               == each edge changes one coordinate, and the next edge the other
--   edges-half                           == half of the edges change the coordinate along an axis: so their number is even
--   kept, corners-kept, length-kept      == the places of the edges that keep a coordinate: each corner has one of them
--   ends                                 == the ends of an edge are corners
use Prim.Native.Nat.{ℕ, suc, ◌+◌, ◌*◌, ◌<◌}
use mathlib.Core.Path.{◌≡◌, refl, sym, ◌∙◌, ap, subst}
use mathlib.Core.Bool.{Bool, true, false, not, cond, ◌&&◌, ◌||◌, true≢false}
use mathlib.Core.List.Memᴰ
use mathlib.Core.List.{List, [], ◌∷◌, ◌++◌, Memᴰ as Member}
use native.Mathlib.Omega.{arith}
use lib.Dec.{eqb}
use lib.ListN.{length}
use borrow.Author.Tests.{eqb-true, eqb-false, not-true, not-false}
use Rattle.sum.specs.Sum.{only, sum_of, All, join}
use Rattle.sum.proofs.Lists.{All-imp, All-of, All-map}
use Rattle.figure.specs.declared.Axis.{Axis}
use Rattle.figure.specs.declared.Axis.TheVariants.{X, Y}
use Rattle.figure.specs.Corners.{Corner, Link, coordinate, last, steps, around, any, edges, turns, changes, both, neither, same, alike, slanted, unturned}
use Rattle.figure.proofs.Corners.{length-around, link, turns_links}

-- a test that fails of two
pub or-false : (p q : Bool) → (p || q) ≡ false → (p ≡ false) × (q ≡ false)
or-false true q h = absurd (true≢false h)
or-false false q h = (refl, h)

module _ {A : Type 0} where
  pub any-all : (t : A → Bool) (l : List A) → any t l ≡ false → All (λ s. t s ≡ false) l
  unfolding any
  any-all t [] h = tt
  any-all t (s ∷ l) h = let i = or-false (t s) (any t l) h in (i.0, any-all t l i.1)

  pub All-both : (P Q : A → Type 0) (l : List A) → All P l → All Q l → All (λ s. P s × Q s) l
  All-both P Q [] h k = tt
  All-both P Q (s ∷ l) h k = ((h.0, k.0), All-both P Q l h.1 k.1)

  module _ (Q : A → Type 0) where
    last-all : (s : A) (l : List A) → Q s → All Q l → Q (last s l)
    unfolding last
    last-all s [] q h = q
    last-all s (r ∷ l) q h = last-all r l h.0 h.1

    steps_all : (p : A) (l : List A) → Q p → All Q l → All (λ t. Q t.from × Q t.to) (steps p l)
    unfolding steps
    steps_all p [] q h = tt
    steps_all p (r ∷ l) q h = ((q, h.0), steps_all r l h.0 h.1)

    pub around-all : (l : List A) → All Q l → All (λ t. Q t.from × Q t.to) (around l)
    unfolding around
    around-all [] h = tt
    around-all (s ∷ l) h = steps_all (last s l) (s ∷ l) (last-all s l h.0 h.1) h

    steps-to : (p : A) (l : List A) → All (λ t. Q t.to) (steps p l) → All Q l
    unfolding steps
    steps-to p [] h = tt
    steps-to p (r ∷ l) h = (h.0, steps-to r l h.1)

    pub around-to : (l : List A) → All (λ t. Q t.to) (around l) → All Q l
    unfolding around
    around-to [] h = tt
    around-to (s ∷ l) h = steps-to (last s l) (s ∷ l) h

    steps-from : (p : A) (l : List A) → All (λ t. Q t.from) (steps p l) → Q (last p l) → Q p × All Q l
    unfolding steps last
    steps-from p [] h k = (k, tt)
    steps-from p (r ∷ l) h k = (h.0, steps-from r l h.1 k)

    pub around-from : (l : List A) → All (λ t. Q t.from) (around l) → All Q l
    unfolding around steps last
    around-from [] h = tt
    around-from (s ∷ l) h = (steps-from (last s l) (s ∷ l) h h.0).1

  -- the steps of steps: one ends where the next starts
  last-to : (e : Link A) (l : List A) → (last e (steps e.to l)).to ≡ last e.to l
  unfolding steps last
  last-to e [] = refl
  last-to e (q ∷ l) = last-to (record { from = e.to; to = q }) l

  steps_chained : (e : Link A) (l : List A) → All (λ t. t.from.to ≡ t.to.from) (steps e (steps e.to l))
  unfolding steps
  steps_chained e [] = tt
  steps_chained e (q ∷ l) = (refl, steps_chained (record { from = e.to; to = q }) l)

  pub chained : (l : List A) → All (λ t. t.from.to ≡ t.to.from) (around (around l))
  unfolding around steps
  chained [] = tt
  chained (s ∷ l) = (last-to (record { from = last s l; to = s }) l, steps_chained (record { from = last s l; to = s }) l)

  -- how many members pass a test
  unfoldable pub tally : (A → Bool) → List A → ℕ
  tally t l = sum_of (λ s. only (t s) 1) l

  steps_tally : (t : A → Bool) (p : A) (l : List A) → All (λ k. t k.to ≡ not (t k.from)) (steps p l)
      → 2 * tally t l + only (t p) 1 ≡ length l + only (t (last p l)) 1
  unfolding steps last tally sum_of
  steps_tally t p [] h = refl
  steps_tally t p (q ∷ l) h = go (t p) (t q) h.0 (steps_tally t q l h.1)
    where
      go : (b c : Bool) → c ≡ not b → 2 * tally t l + only c 1 ≡ length l + only (t (last q l)) 1
          → 2 * (only c 1 + tally t l) + only b 1 ≡ suc (length l) + only (t (last q l)) 1
      go true true e i = absurd (true≢false e)
      go true false e i = omega arith
      go false true e i = omega arith
      go false false e i = absurd (true≢false (sym e))

  pub alternate : (t : A → Bool) (l : List A) → All (λ k. t k.to ≡ not (t k.from)) (around l) → 2 * tally t l ≡ length l
  unfolding around tally sum_of last
  alternate t [] h = refl
  alternate t (s ∷ l) h = omega (arith, steps_tally t (last s l) (s ∷ l) h)

  -- some member passes
  pub tally_some : (t : A → Bool) (l : List A) (R : Type 0) → 0 < tally t l → ((s : A) → Member s l → t s ≡ true → R) → R
  unfolding tally sum_of
  tally_some t [] R h f = absurd (omega arith)
  tally_some t (s ∷ l) R h f = go (t s) refl h (λ k. tally_some t l R k (λ r m e. f r (Member.tail m) e))
    where
      go : (b : Bool) → t s ≡ b → 0 < only b 1 + tally t l → (0 < tally t l → R) → R
      go true e k g = f s (Member.head refl) e
      go false e k g = g (omega arith)

-- what an edge that keeps a coordinate says of its ends, and what one that changes it says
pub unchanged : (a : Axis) (e : Link Corner) → changes a e ≡ false → coordinate a e.from ≡ coordinate a e.to
unfolding changes
unchanged a e h = eqb-true (coordinate a e.from) (coordinate a e.to) (not-false (eqb (coordinate a e.from) (coordinate a e.to)) h)

pub changed : (a : Axis) (e : Link Corner) → changes a e ≡ true → coordinate a e.from ≡ coordinate a e.to → ⊥
unfolding changes
changed a e h = eqb-false (coordinate a e.from) (coordinate a e.to) (not-true (eqb (coordinate a e.from) (coordinate a e.to)) h)

-- the places along an axis of the edges that keep it
module _ (a : Axis) where
  abbrev pub keep : Link Corner → List ℕ
  keep e = cond (changes a e) [] (coordinate a e.to ∷ [])

  unfoldable pub kept : List (Link Corner) → List ℕ
  kept es = join keep es

  pub length-kept : (es : List (Link Corner)) → length (kept es) + tally (changes a) es ≡ length es
  unfolding kept join tally sum_of
  length-kept [] = refl
  length-kept (e ∷ es) = go (changes a e) (length-kept es)
    where
      go : (b : Bool) → length (kept es) + tally (changes a) es ≡ length es
          → length (cond b [] (coordinate a e.to ∷ []) ++ kept es) + (only b 1 + tally (changes a) es) ≡ suc (length es)
      go true i = omega arith
      go false i = omega arith

  kept_member : (e : Link Corner) (es : List (Link Corner)) → Member e es → changes a e ≡ false → Member (coordinate a e.to) (kept es)
  unfolding kept join
  kept_member e [] x'' h = elim x'' [ ]
  kept_member e (f ∷ es) (Member.head p) h =
      Memᴰ.append_left (kept es)
      (subst (λ b. Member (coordinate a e.to) (cond b [] (coordinate a f.to ∷ []))) (sym (sym (ap (changes a) p) ∙ h))
      (Member.head (ap (λ z. coordinate a z.to) p)))
  kept_member e (f ∷ es) (Member.tail m) h = Memᴰ.append_right (keep f) (kept_member e es m h)

-- one coordinate at each edge, the other at the next
module _ (cs : List Corner) (no-slant : slanted cs ≡ false) (no-unturned : unturned cs ≡ false) where
  abbrev One : Link Corner → Type 0
  One e = (both e ≡ false) × (neither e ≡ false)

  pub edges-one : All One (edges cs)
  unfolding slanted unturned
  edges-one =
      All-both (λ e. both e ≡ false) (λ e. neither e ≡ false) (edges cs)
      (any-all both (edges cs) no-slant)
      (any-all neither (edges cs) (or-false (any neither (edges cs)) (any alike (turns cs)) no-unturned).0)

  -- two edges that change the same coordinate
  abbrev alike_edges : Link (Link Corner) → Bool
  alike_edges t = (changes X t.from && changes X t.to) || (changes Y t.from && changes Y t.to)

  no-alike : All (λ t. alike_edges t ≡ false) (around (edges cs))
  unfolding unturned alike same
  no-alike =
      subst (All (λ t. alike_edges t ≡ false)) (sym (turns_links cs))
      (All-map (λ t. alike_edges t ≡ false) link (turns cs)
      (any-all alike (turns cs) (or-false (any neither (edges cs)) (any alike (turns cs)) no-unturned).1))

  other : (a : Axis) (e f : Link Corner) → One e → One f → alike_edges (record { from = e; to = f }) ≡ false
      → changes a f ≡ not (changes a e)
  unfolding both neither
  other a e f p q h = go a (changes X e) (changes Y e) (changes X f) (changes Y f) refl refl refl refl p.0 p.1 q.0 q.1 h
    where
      go : (a : Axis) (xe ye xf yf : Bool) → changes X e ≡ xe → changes Y e ≡ ye → changes X f ≡ xf → changes Y f ≡ yf
          → (xe && ye) ≡ false → (not xe && not ye) ≡ false → (xf && yf) ≡ false → (not xf && not yf) ≡ false
          → ((xe && xf) || (ye && yf)) ≡ false
          → changes a f ≡ not (changes a e)
      go a true true xf yf s t u v h₁ h₂ h₃ h₄ h₅ = absurd (true≢false h₁)
      go a false false xf yf s t u v h₁ h₂ h₃ h₄ h₅ = absurd (true≢false h₂)
      go a true false true yf s t u v h₁ h₂ h₃ h₄ h₅ = absurd (true≢false h₅)
      go a true false false false s t u v h₁ h₂ h₃ h₄ h₅ = absurd (true≢false h₄)
      go X true false false true s t u v h₁ h₂ h₃ h₄ h₅ = u ∙ ap not (sym s)
      go Y true false false true s t u v h₁ h₂ h₃ h₄ h₅ = v ∙ ap not (sym t)
      go a false true xf true s t u v h₁ h₂ h₃ h₄ h₅ = absurd (true≢false h₅)
      go a false true false false s t u v h₁ h₂ h₃ h₄ h₅ = absurd (true≢false h₄)
      go X false true true false s t u v h₁ h₂ h₃ h₄ h₅ = u ∙ ap not (sym s)
      go Y false true true false s t u v h₁ h₂ h₃ h₄ h₅ = v ∙ ap not (sym t)

  pub turns-other : (a : Axis) → All (λ t. changes a t.to ≡ not (changes a t.from)) (around (edges cs))
  turns-other a =
      All-imp (λ t h. other a t.from t.to h.0.0 h.0.1 h.1) (around (edges cs))
      (All-both (λ t. One t.from × One t.to) (λ t. alike_edges t ≡ false) (around (edges cs)) (around-all One (edges cs) edges-one) no-alike)

  -- half of the edges change a coordinate, the others keep it
  pub edges-half : (a : Axis) → 2 * tally (changes a) (edges cs) ≡ length cs
  unfolding edges
  edges-half a = alternate (changes a) (edges cs) (turns-other a) ∙ length-around cs

  -- each corner's place is that of an edge that keeps it
  kept-turn : (a : Axis) (t : Link (Link Corner)) → Member t.from (edges cs) → Member t.to (edges cs)
      → changes a t.to ≡ not (changes a t.from) → t.from.to ≡ t.to.from
      → Member (coordinate a t.to.from) (kept a (edges cs))
  kept-turn a t m k h c = go (changes a t.from) refl
    where
      go : (b : Bool) → changes a t.from ≡ b → Member (coordinate a t.to.from) (kept a (edges cs))
      go false e = subst (λ p. Member (coordinate a p) (kept a (edges cs))) c (kept_member a t.from (edges cs) m e)
      go true e =
          let s : changes a t.to ≡ false = h ∙ ap not e in
          subst (λ n. Member n (kept a (edges cs))) (sym (unchanged a t.to s)) (kept_member a t.to (edges cs) k s)

  pub corners-kept : (a : Axis) → All (λ c. Member (coordinate a c) (kept a (edges cs))) cs
  unfolding edges
  corners-kept a =
      around-from (λ c. Member (coordinate a c) (kept a (edges cs))) cs
      (around-to (λ e. Member (coordinate a e.from) (kept a (edges cs))) (edges cs)
      (All-imp (λ t h. kept-turn a t h.0.0 h.0.1 h.1.0 h.1.1) (around (edges cs))
      (All-both
      (λ t. Member t.from (edges cs) × Member t.to (edges cs))
      (λ t. (changes a t.to ≡ not (changes a t.from)) × (t.from.to ≡ t.to.from))
      (around (edges cs))
      (around-all (λ e. Member e (edges cs)) (edges cs) (All-of (λ e. Member e (edges cs)) (edges cs) (λ e m. m)))
      (All-both _ _ (around (edges cs)) (turns-other a) (chained cs)))))

  -- the ends of an edge are corners
  pub ends : All (λ e. Member e.from cs × Member e.to cs) (edges cs)
  unfolding edges
  ends = around-all (λ c. Member c cs) cs (All-of (λ c. Member c cs) cs (λ c m. m))
