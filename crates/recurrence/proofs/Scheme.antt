-- Laws of the recurrence, for any pieces, cuts, kinds and charges. Assumes nothing.
--
--   fuel                     == enough fuel is enough
--   shots_of, cost_of          == the shots and the cost of a piece, with fuel by its size
--   solution, solution_only  == these shots solve the recurrence, and nothing else does
--   shots-outside, shots-full, shots-mixed, shots-cut   == the recurrence of the shots; of a mixed piece, by the first cut
--                               whose parts cost what the piece costs
--   cost-outside, cost-full, cost-mixed, cost-one       == the recurrence of the costs: at most the parts of any cut, and what
--                               all cuts' parts have, it has
--   first-cut                == that first cut is one of the cuts
--   along                    == induction along the fracture
--   shots-all-full           == every shot is full
--   shared                   == what every cut shares out, and is nothing outside, is shared out by the shots
--   cost-no_higher           == two schemes: with the same kinds, lower charges and at least the same cuts no piece costs more
use Prim.Native.Nat.{ℕ, zero, suc, ◌≤◌, ◌<◌}
use mathlib.Core.Path.{◌≡◌, refl, sym, ◌∙◌, ap, subst, fun_ext}
use mathlib.Core.List.{List, [], ◌∷◌, map, Memᴰ as Member}
use native.Mathlib.Omega.{arith}
use native.Mathlib.Nat.{not-suc-le-zero}
use Rattle.sum.specs.Sum.{sum_of, All, Some, join}
use Rattle.sum.proofs.Lists.{sum_of-one, sum_of-le, sum_of-same, sum_of-join, All-all, All-imp, All-at, All-of, All-map, All-unmap, All-join, Some-map, map_same, join-same}
use Rattle.recurrence.specs.Choice.{least, first, cheapest}
use Rattle.recurrence.specs.Scheme.{Kind, outside, full, mixed, Scheme, Solves, Ends, shots_by}
use Rattle.recurrence.proofs.Choice.{least-one, least_first, least-map, cheapest-low, cheapest-one}

module _ {P K : Type 0} (S : Scheme P K) where
  ways : (P → List P) → P → List (List P)
  ways f p = map (λ k. join f (S.parts p k)) (S.cuts p)

  -- the body of the recurrence, over the kind
  body : (P → List P) → P → Kind → List P
  body f p k = elim k [ outside ↦ [] | full ↦ p ∷ [] | mixed ↦ cheapest S.charge (ways f p) ]

  step : (n : ℕ) (p : P) → shots_by S (suc n) p ≡ body (shots_by S n) p (S.kind p)
  unfolding shots_by body ways
  step n p = refl

  module _ (size : P → ℕ) (E : Ends S size) where
    -- enough fuel is enough
    pub fuel : (n m : ℕ) (p : P) → size p < n → size p < m → shots_by S n p ≡ shots_by S m p
    unfolding body ways
    fuel zero m p h k = absurd (not-suc-le-zero h)
    fuel (suc n) zero p h k = absurd (not-suc-le-zero k)
    fuel (suc n) (suc m) p h k = step n p ∙ go (S.kind p) refl (fuel n m) ∙ sym (step m p)
      where
        go : (t : Kind) → S.kind p ≡ t → ((q : P) → size q < n → size q < m → shots_by S n q ≡ shots_by S m q)
            → body (shots_by S n) p t ≡ body (shots_by S m) p t
        go outside e i = refl
        go full e i = refl
        go mixed e i =
            ap (cheapest S.charge)
            (map_same _ _ (S.cuts p)
            (All-imp
            (λ j w.
            join-same _ _ (S.parts p j) (All-imp (λ q v. i q (omega arith) (omega arith)) (S.parts p j) w))
            (S.cuts p)
            (E.smaller p e)))

    abbrev pub shots_of : P → List P
    shots_of p = shots_by S (suc (size p)) p

    abbrev pub cost_of : P → ℕ
    cost_of p = sum_of S.charge (shots_of p)

    -- the recurrence
    -- it solves the recurrence
    pub solution : Solves S shots_of
    unfolding body ways
    solution p = step (size p) p ∙ go (S.kind p) refl
      where
        go : (t : Kind) → S.kind p ≡ t → body (shots_by S (size p)) p t ≡ body shots_of p t
        go outside e = refl
        go full e = refl
        go mixed e =
            ap (cheapest S.charge)
            (map_same _ _ (S.cuts p)
            (All-imp
            (λ j w. join-same _ _ (S.parts p j) (All-imp (λ q v. fuel (size p) (suc (size q)) q v (omega arith)) (S.parts p j) w))
            (S.cuts p)
            (E.smaller p e)))

    -- and nothing else does
    pub solution_only : (f g : P → List P) → Solves S f → Solves S g → (p : P) → f p ≡ g p
    solution_only f g F G p = below (suc (size p)) p (omega arith)
      where
        below : (n : ℕ) (p : P) → size p < n → f p ≡ g p
        below zero p h = absurd (not-suc-le-zero h)
        below (suc n) p h = F p ∙ go (S.kind p) refl (below n) ∙ sym (G p)
          where
            go : (t : Kind) → S.kind p ≡ t → ((q : P) → size q < n → f q ≡ g q)
                → ◌≡◌ {A = List P} (elim t [ outside ↦ [] | full ↦ p ∷ [] | mixed ↦ cheapest S.charge (map (λ k. join f (S.parts p k)) (S.cuts p)) ]) (elim t [ outside ↦ [] | full ↦ p ∷ [] | mixed ↦ cheapest S.charge (map (λ k. join g (S.parts p k)) (S.cuts p)) ])
            go outside e i = refl
            go full e i = refl
            go mixed e i =
                ap (cheapest S.charge)
                (map_same _ _ (S.cuts p)
                (All-imp
                (λ j w. join-same _ _ (S.parts p j) (All-imp (λ q v. i q (omega arith)) (S.parts p j) w))
                (S.cuts p)
                (E.smaller p e)))

    pub shots-outside : (p : P) → S.kind p ≡ outside → shots_of p ≡ []
    unfolding body
    shots-outside p e = step (size p) p ∙ ap (body (shots_by S (size p)) p) e

    pub shots-full : (p : P) → S.kind p ≡ full → shots_of p ≡ p ∷ []
    unfolding body
    shots-full p e = step (size p) p ∙ ap (body (shots_by S (size p)) p) e

    pub shots-mixed : (p : P) → S.kind p ≡ mixed → shots_of p ≡ cheapest S.charge (map (λ k. join shots_of (S.parts p k)) (S.cuts p))
    unfolding body ways
    shots-mixed p e =
        step (size p) p
        ∙ ap (body (shots_by S (size p)) p) e
        ∙ ap (cheapest S.charge)
        (map_same _ _ (S.cuts p)
        (All-imp
        (λ j w.
        join-same _ _ (S.parts p j) (All-imp (λ q v. fuel _ _ q v (omega arith)) (S.parts p j) w))
        (S.cuts p)
        (E.smaller p e)))

    cost-join : (l : List P) → sum_of S.charge (join shots_of l) ≡ sum_of cost_of l
    cost-join l = sum_of-join S.charge shots_of l

    pub cost-outside : (p : P) → S.kind p ≡ outside → cost_of p ≡ 0
    unfolding sum_of
    cost-outside p e = ap (sum_of S.charge) (shots-outside p e)

    pub cost-full : (p : P) → S.kind p ≡ full → cost_of p ≡ S.charge p
    unfolding sum_of
    cost-full p e = omega (arith, ap (sum_of S.charge) (shots-full p e))

    -- a piece of both sorts costs no more than the parts of any of its cuts
    pub cost-mixed : (p : P) → S.kind p ≡ mixed → All (λ k. cost_of p ≤ sum_of cost_of (S.parts p k)) (S.cuts p)
    cost-mixed p e =
        All-imp
        (λ k h. omega (arith, cost-join (S.parts p k), ap (sum_of S.charge) (shots-mixed p e)))
        (S.cuts p)
        (All-unmap
        (λ l. sum_of S.charge (cheapest S.charge (map (λ k. join shots_of (S.parts p k)) (S.cuts p))) ≤ sum_of S.charge l)
        (λ k. join shots_of (S.parts p k))
        (S.cuts p)
        (cheapest-low S.charge (map (λ k. join shots_of (S.parts p k)) (S.cuts p))))

    -- and what all of those have, it has: it costs what the parts of one of them cost
    pub cost-one : (Q : ℕ → Type 0) (p : P) → S.kind p ≡ mixed → All (λ k. Q (sum_of cost_of (S.parts p k))) (S.cuts p) → Q (cost_of p)
    cost-one Q p e h =
        subst (λ l. Q (sum_of S.charge l)) (sym (shots-mixed p e))
        (cheapest-one S.charge (λ l. Q (sum_of S.charge l)) _ (Some-map _ (S.cuts p) (E.some p e))
        (All-map (λ l. Q (sum_of S.charge l)) (λ k. join shots_of (S.parts p k)) (S.cuts p)
        (All-imp (λ k q. subst Q (sym (cost-join (S.parts p k))) q) (S.cuts p) h)))

    -- the first cut whose parts cost what the piece costs; `z` stands in where there is none
    abbrev pub first_cut : K → P → K
    first_cut z p = first (λ k. sum_of cost_of (S.parts p k)) (cost_of p) z (S.cuts p)

    -- of a mixed piece that is one of its cuts, and the shots are those of its parts
    chosen : (z : K) (p : P) → S.kind p ≡ mixed → (Q : K → Type 0) → All Q (S.cuts p)
        → (shots_of p ≡ join shots_of (S.parts p (first_cut z p))) × Q (first_cut z p)
    chosen z p e Q a = go (S.cuts p) (E.some p e) (shots-mixed p e) a
      where
        F : K → List P
        F k = join shots_of (S.parts p k)

        v : K → ℕ
        v k = sum_of cost_of (S.parts p k)

        go : (l : List K) → Some l → shots_of p ≡ cheapest S.charge (map F l) → All Q l
            → (shots_of p ≡ F (first v (cost_of p) z l)) × Q (first v (cost_of p) z l)
        go [] h q a = absurd h
        go (k ∷ ks) h q a = (made ∙ ap F same, subst Q same (least-one v Q k ks a.0 a.1))
          where
            made : shots_of p ≡ F (least v k ks)
            made =
                q
                ∙ open_cheapest (F k) (map F ks)
                ∙ least-map (sum_of S.charge) F k ks
                ∙ ap (λ (w : K → ℕ). F (least w k ks)) (fun_ext (λ j. cost-join (S.parts p j)))
              where
                open_cheapest : (l : List P) (ls : List (List P)) → cheapest S.charge (l ∷ ls) ≡ least (sum_of S.charge) l ls
                open_cheapest l ls = unfold cheapest in refl

            value : cost_of p ≡ v (least v k ks)
            value = ap (sum_of S.charge) made ∙ cost-join (S.parts p (least v k ks))

            same : least v k ks ≡ first v (cost_of p) z (k ∷ ks)
            same = sym (least_first v z k ks) ∙ ap (λ n. first v n z (k ∷ ks)) (sym value)

    pub shots-cut : (z : K) (p : P) → S.kind p ≡ mixed → shots_of p ≡ join shots_of (S.parts p (first_cut z p))
    shots-cut z p e = (chosen z p e (λ k. Unit {0}) (All-all (λ k. tt) (S.cuts p))).0

    pub first-cut : (z : K) (p : P) → S.kind p ≡ mixed → (Q : K → Type 0) → All Q (S.cuts p) → Q (first_cut z p)
    first-cut z p e Q h = (chosen z p e Q h).1

    -- induction along the fracture
    pub along : (Q : P → List P → Type 0)
        → ((p : P) → S.kind p ≡ outside → Q p [])
        → ((p : P) → S.kind p ≡ full → Q p (p ∷ []))
        → ((p : P) (k : K) → S.kind p ≡ mixed → Member k (S.cuts p) → All (λ q. Q q (shots_of q)) (S.parts p k) → Q p (join shots_of (S.parts p k)))
        → (p : P) → Q p (shots_of p)
    along Q o f m p = by (suc (size p)) p (omega arith)
      where
        at : (n : ℕ) (p : P) → size p < suc n → ((q : P) → size q < n → Q q (shots_of q)) → (t : Kind) → S.kind p ≡ t → Q p (shots_of p)
        at n p h i outside e = subst (Q p) (sym (shots-outside p e)) (o p e)
        at n p h i full e = subst (Q p) (sym (shots-full p e)) (f p e)
        at n p h i mixed e =
            subst (Q p) (sym (shots-mixed p e))
            (cheapest-one S.charge (Q p) _ (Some-map _ (S.cuts p) (E.some p e))
            (All-map (Q p) _ (S.cuts p)
            (All-of _ (S.cuts p)
            (λ k w.
            m p k e w
            (All-imp (λ q v. i q (omega arith)) (S.parts p k) (All-at _ w (E.smaller p e)))))))

        by : (n : ℕ) (p : P) → size p < n → Q p (shots_of p)
        by zero p h = absurd (not-suc-le-zero h)
        by (suc n) p h = at n p h (by n) (S.kind p) refl

    -- every shot is full
    pub shots-all-full : (p : P) → All (λ s. S.kind s ≡ full) (shots_of p)
    shots-all-full =
        along (λ p l. All (λ s. S.kind s ≡ full) l) (λ p e. tt) (λ p e. (e, tt)) (λ p k e m h. All-join _ shots_of (S.parts p k) h)

    -- what is shared out by every cut, and is nothing outside, is shared out by the shots
    pub shared : (μ : P → ℕ)
        → ((p : P) → All (λ k. μ p ≡ sum_of μ (S.parts p k)) (S.cuts p))
        → ((p : P) → S.kind p ≡ outside → μ p ≡ 0)
        → (p : P) → sum_of μ (shots_of p) ≡ μ p
    unfolding sum_of
    shared μ cuts-share out =
        along (λ p l. sum_of μ l ≡ μ p) (λ p e. sym (out p e)) (λ p e. omega arith)
        (λ p k e m h. sum_of-join μ shots_of (S.parts p k) ∙ sum_of-same _ μ (S.parts p k) h ∙ sym (All-at _ m (cuts-share p)))

-- Two schemes over the same kinds: with lower charges and at least the same cuts, no piece costs more.
module _ {P K K' : Type 0} (S : Scheme P K) (S' : Scheme P K') (size size' : P → ℕ) (E : Ends S size) (E' : Ends S' size') where
  pub cost-no_higher : ((p : P) → S'.kind p ≡ S.kind p)
      → ((p : P) → S'.charge p ≤ S.charge p)
      → ((p : P) (k : K) → Member k (S.cuts p) → (k' : K') × Member k' (S'.cuts p) × (S'.parts p k' ≡ S.parts p k))
      → (p : P) → cost_of S' size' E' p ≤ cost_of S size E p
  cost-no_higher same lower-charge more-cuts =
      along S size E (λ p l. cost_of S' size' E' p ≤ sum_of S.charge l)
      (λ p e. omega (arith, cost-outside S' size' E' p (same p ∙ e)))
      (λ p e. omega (arith, cost-full S' size' E' p (same p ∙ e), lower-charge p, sum_of-one S.charge p))
      (λ p k e m h.
      let c = more-cuts p k m in
      omega (
        arith,
        All-at (λ k. cost_of S' size' E' p ≤ sum_of (cost_of S' size' E') (S'.parts p k)) c.1 (cost-mixed S' size' E' p (same p ∙ e)),
        ap (sum_of (cost_of S' size' E')) c.2,
        sum_of-le (cost_of S' size' E') (cost_of S size E) (S.parts p k) h,
        sum_of-join S.charge (shots_of S size E) (S.parts p k),
      ))
