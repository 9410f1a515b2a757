-- Reading an element by the records that it wants, one after another. Assumes nothing.
--
--   fits_wanted            == a record that is the wanted one is not left out
--   one s w at, follow s ws at == reading one record that is wanted, and all of them
--   OneTold, one_told      == what reading one finds is so
--   one-short, one-there, one-absent, one-wrong == and back
--   FollowTold, follow-told == what reading all of them finds is so: legal records up to the end, or to the first at fault
--   legal_same             == legal records are read
--   follow-append          == reading what is wanted first, and then the rest
--   filled_exactly         == and the bytes end with them
--   quiet u                == whether something is read, or the fault
--   element-front, element_quiet == an element, by what it wants
--   element_exactly        == an element has the fault r with the offset o exactly when `ElementFault` says so
--   element-read, element-holds == and is read as n points exactly when `Element` says so
--   element-one            == which is one thing
use Prim.Native.Nat.{ℕ, ◌+◌, ◌*◌, ◌<◌, ◌≤◌}
use mathlib.Core.Path.{◌≡◌, ◌∙◌, refl, sym, ap, ap₂, subst}
use mathlib.Core.Logic.{◌⊎◌, ◌↔◌, inl, inr}
use mathlib.Core.List.{List, [], ◌∷◌, ◌++◌}
use mathlib.Core.Bool.{Bool, true, false, cond, ◌&&◌, ◌||◌, false≢true}
use native.Mathlib.Omega.{arith}
use lib.Dec.{ltb, eqb}
use lib.ListN.{length, get_or}
use borrow.Author.Tests.{ltb-true, ltb-false, eqb-true, eqb-false, eq-eqb, ne_eqb}
use Rattle.refusal.specs.declared.Refusal.{Refusal}
use Rattle.refusal.specs.declared.Refusal.TheVariants.{Ends, Record}
use Rattle.number.specs.Reading.{Reading, read, fault, and_then, past}
use Rattle.number.proofs.Number.{apart, cond_cases}
use Rattle.number.proofs.Reading.{then_same, then_assoc, then_ext, then_inv}
use Rattle.gdsii.specs.declared.stream.Run.{Run}
use Rattle.gdsii.specs.Record.{reached, ends, wrong, pair_at, size_at, short, typed, is, required, optional, heading, layering, end_of, count_at, run_at, xy, ending as endingRead, body, element}
use Rattle.gdsii.specs.Faults.{announced, CutShort, Whole, Want, must, may, points, ending, front, element_wants, Of, Fits, LeftOut, Legal, none, there, absent, Misplaced, ElementFault, Element}
use Rattle.gdsii.proofs.Records.{short_false}

module _ (s : List ℕ) (at : ℕ) where
  -- the length is announced in two bytes, high first
  pub size-announced : size_at s at ≡ announced s at
  unfolding announced pair_at
  size-announced = refl

  pub fits_wanted : (w : Want) → Fits s at w → LeftOut s at w → ⊥
  unfolding Fits LeftOut
  fits_wanted (must k f n) h a = a
  fits_wanted (may k f n) h a = a h.0
  fits_wanted points h a = a

  whole-cut : Whole s at → CutShort s at → ⊥
  whole-cut h (inl k) = omega (arith, h.0)
  whole-cut h (inr k) = omega (arith, h.1)

  short_true : short s at ≡ true → CutShort s at
  unfolding short
  short_true e = go (ltb (length s) (at + 4)) refl (ltb (length s) (at + size_at s at)) refl e
    where
      go : (a : Bool) → ltb (length s) (at + 4) ≡ a → (b : Bool) → ltb (length s) (at + size_at s at) ≡ b → a || b ≡ true → CutShort s at
      go true p b q f = inl (ltb-true (length s) (at + 4) p)
      go false p true q f = inr (omega (arith, ltb-true (length s) (at + size_at s at) q, size-announced))
      go false p false q f = absurd (false≢true f)

  whole_false : short s at ≡ false → Whole s at
  whole_false e = let k = short_false s at e in (k.0, omega (arith, k.1, size-announced))

  module _ (kind form size : ℕ) where
    is_of : is s at kind form size ≡ true → Of s at kind form size
    unfolding is typed
    is_of e = go (eqb (get_or s (at + 2) 0) kind) refl (eqb (get_or s (at + 3) 0) form) refl (eqb (size_at s at) size) refl e
      where
        go : (a : Bool) → eqb (get_or s (at + 2) 0) kind ≡ a → (b : Bool) → eqb (get_or s (at + 3) 0) form ≡ b
            → (d : Bool) → eqb (size_at s at) size ≡ d → a && (b && d) ≡ true → Of s at kind form size
        go true p true q true r f = (eqb-true _ _ p, eqb-true _ _ q, sym size-announced ∙ eqb-true _ _ r)
        go true p true q false r f = absurd (false≢true f)
        go true p false q d r f = absurd (false≢true f)
        go false p b q d r f = absurd (false≢true f)

    of_is : Of s at kind form size → is s at kind form size ≡ true
    unfolding is typed
    of_is h =
        ap₂ (λ (a b : Bool). a && b) (eq-eqb _ _ h.0)
        (ap₂ (λ (a b : Bool). a && b) (eq-eqb _ _ h.1) (eq-eqb _ _ (size-announced ∙ h.2)))

    not_of : is s at kind form size ≡ false → Of s at kind form size → ⊥
    not_of e h = false≢true (sym e ∙ of_is h)

  -- What reading one record finds is so

  unfoldable pub one : Want → Reading (Unit {0})
  one (must kind form size) = required s at kind form size
  one (may kind form size) = optional s at kind form size
  one points = past (xy s at)

  abbrev pub OneTold : Want → Reading (Unit {0}) → Type 0
  OneTold w (read t next) =
      Whole s at × ((Fits s at w × (next ≡ at + announced s at)) ⊎ (LeftOut s at w × (next ≡ at)))
  OneTold w (fault r o) =
      ((r ≡ Ends) × (o ≡ at) × CutShort s at)
      ⊎ ((r ≡ Record) × (o ≡ 0) × Whole s at × (Fits s at w → ⊥) × (LeftOut s at w → ⊥))

  required-told : (w : Want) (kind form size : ℕ) → (Fits s at w → Of s at kind form size) → (Of s at kind form size → Fits s at w)
      → (get_or s (at + 2) 0 ≡ kind → LeftOut s at w → ⊥) → get_or s (at + 2) 0 ≡ kind ⊎ (LeftOut s at w → ⊥)
      → OneTold w (required s at kind form size)
  unfolding required
  required-told w kind form size f g h k =
      cond_cases (OneTold w) (short s at) _ _ (λ e. inl (refl, refl, short_true e))
      (λ e.
      cond_cases (OneTold w) (is s at kind form size) _ _
      (λ i. let o = is_of kind form size i in (whole_false e, inl (g o, ap (λ n. at + n) (sym o.2))))
      (λ i. inr (refl, refl, whole_false e, (λ v. not_of kind form size i (f v)), known k)))
    where
      known : (get_or s (at + 2) 0 ≡ kind) ⊎ (LeftOut s at w → ⊥) → LeftOut s at w → ⊥
      known (inl e) = h e
      known (inr n) = n

  may-told : (kind form size : ℕ) → OneTold (may kind form size) (optional s at kind form size)
  unfolding optional typed Fits LeftOut
  may-told kind form size =
      cond_cases (OneTold (may kind form size)) (short s at) _ _ (λ e. inl (refl, refl, short_true e))
      (λ e.
      cond_cases (OneTold (may kind form size)) (eqb (get_or s (at + 2) 0) kind) _ _
      (λ i. required-told (may kind form size) kind form size (λ v. v) (λ v. v) (λ z a. a z) (inl (eqb-true _ _ i)))
      (λ i. (whole_false e, inr (eqb-false _ _ i, refl))))

  xy-told : OneTold points (past (xy s at))
  unfolding xy Fits LeftOut
  xy-told =
      go (short s at) refl (ltb 0 (count_at s at)) refl (is s at 16 3 (4 + 8 * count_at s at)) refl
    where
      few : (n : ℕ) → 1 ≤ n → announced s at ≡ 4 + 8 * n → count_at s at ≡ n
      few n h e = unfold count_at in omega (arith, size-announced)

      go : (a : Bool) → short s at ≡ a → (b : Bool) → ltb 0 (count_at s at) ≡ b → (d : Bool) → is s at 16 3 (4 + 8 * count_at s at) ≡ d
          → OneTold points (past (cond a (ends at) (cond (b && d) (read (run_at s at) (end_of (run_at s at))) wrong)))
      go true p b q d r = inl (refl, refl, short_true p)
      go false p true q true r =
          let o = is_of 16 3 (4 + 8 * count_at s at) r in
          (whole_false p, inl ((count_at s at, ltb-true 0 (count_at s at) q, o), omega (arith, o.2)))
      go false p true q false r =
          inr (
            refl,
            refl,
            whole_false p,
            (λ v. not_of 16 3 (4 + 8 * count_at s at) r
                (subst (λ n. Of s at 16 3 (4 + 8 * n)) (sym (few v.0 v.1 v.2.2)) v.2)),
            λ v. v,
          )
      go false p false q d r =
          inr (refl, refl, whole_false p, (λ v. let k = few v.0 v.1 v.2.2 in omega (arith, k, v.1, ltb-false 0 (count_at s at) q)), λ v. v)

  pub one_told : (w : Want) → OneTold w (one w)
  unfolding one
  one_told (must k f n) =
      unfold Fits LeftOut in required-told (must k f n) k f n (λ v. v) (λ v. v) (λ z a. a) (inr (λ a. a))
  one_told (may k f n) = may-told k f n
  one_told points = xy-told

  -- What is so is found

  module _ (w : Want) where
    told-short : CutShort s at → (u : Reading (Unit {0})) → OneTold w u → u ≡ ends at
    told-short h (read t next) k = absurd (whole-cut k.0 h)
    told-short h (fault r o) (inl k) = ap₂ fault k.0 k.1
    told-short h (fault r o) (inr k) = absurd (whole-cut k.2 h)

    pub one-short : CutShort s at → one w ≡ ends at
    one-short h = told-short h (one w) (one_told w)

    module _ (h : Whole s at) where
      told-there : Fits s at w → (u : Reading (Unit {0})) → OneTold w u → u ≡ reached (at + announced s at)
      told-there f (read t next) (k, inl v) = ap (read tt) v.1
      told-there f (read t next) (k, inr v) = absurd (fits_wanted w f v.0)
      told-there f (fault r o) (inl k) = absurd (whole-cut h k.2)
      told-there f (fault r o) (inr k) = absurd (k.3 f)

      pub one-there : Fits s at w → one w ≡ reached (at + announced s at)
      one-there f = told-there f (one w) (one_told w)

      told-absent : LeftOut s at w → (u : Reading (Unit {0})) → OneTold w u → u ≡ reached at
      told-absent f (read t next) (k, inl v) = absurd (fits_wanted w v.0 f)
      told-absent f (read t next) (k, inr v) = ap (read tt) v.1
      told-absent f (fault r o) (inl k) = absurd (whole-cut h k.2)
      told-absent f (fault r o) (inr k) = absurd (k.4 f)

      pub one-absent : LeftOut s at w → one w ≡ reached at
      one-absent f = told-absent f (one w) (one_told w)

      told-wrong : (Fits s at w → ⊥) → (LeftOut s at w → ⊥) → (u : Reading (Unit {0})) → OneTold w u → u ≡ wrong
      told-wrong f g (read t next) (k, inl v) = absurd (f v.0)
      told-wrong f g (read t next) (k, inr v) = absurd (g v.0)
      told-wrong f g (fault r o) (inl k) = absurd (whole-cut h k.2)
      told-wrong f g (fault r o) (inr k) = ap₂ fault k.0 k.1

      pub one-wrong : (Fits s at w → ⊥) → (LeftOut s at w → ⊥) → one w ≡ wrong
      one-wrong f g = told-wrong f g (one w) (one_told w)

-- All that is wanted

module _ (s : List ℕ) where
  unfoldable pub follow : List Want → ℕ → Reading (Unit {0})
  follow [] at = reached at
  follow (w ∷ ws) at = and_then (one s at w) (λ t next. follow ws next)

  -- the first record at fault, where ws is wanted at a place
  abbrev Stopped : List Want → ℕ → Refusal → ℕ → Type 0
  Stopped ws at r o =
      ((r ≡ Ends) × ((w : Want) × (rest : List Want) × Legal s at ws o (w ∷ rest) × CutShort s o))
      ⊎ ((r ≡ Record) × (o ≡ 0)
      × ((p : ℕ) × (w : Want) × (rest : List Want) × Legal s at ws p (w ∷ rest) × Whole s p × (Fits s p w → ⊥) × (LeftOut s p w → ⊥)))

  abbrev pub FollowTold : List Want → ℕ → Reading (Unit {0}) → Type 0
  FollowTold ws at (read t last) = Legal s at ws last []
  FollowTold ws at (fault r o) = Stopped ws at r o

  -- one record more
  told_more : (w : Want) (ws : List Want) (at next : ℕ)
      → ((last : ℕ) (end : List Want) → Legal s next ws last end → Legal s at (w ∷ ws) last end)
      → (u : Reading (Unit {0})) → FollowTold ws next u → FollowTold (w ∷ ws) at u
  told_more w ws at next f (read t last) l = f last [] l
  told_more w ws at next f (fault r o) (inl k) = inl (k.0, (k.1.0, k.1.1, f o (k.1.0 ∷ k.1.1) k.1.2, k.1.3))
  told_more w ws at next f (fault r o) (inr k) =
      inr (k.0, k.1, (k.2.0, k.2.1, k.2.2, f k.2.0 (k.2.1 ∷ k.2.2) k.2.3, k.2.4, k.2.5, k.2.6))

  told_step : (w : Want) (ws : List Want) (at : ℕ) → ((next : ℕ) → FollowTold ws next (follow ws next))
      → (u : Reading (Unit {0})) → OneTold s at w u → FollowTold (w ∷ ws) at (and_then u (λ t next. follow ws next))
  told_step w ws at rec (read t next) (h, inl k) =
      told_more w ws at next (λ last end l. there h k.0 (subst (λ m. Legal s m ws last end) k.1 l)) (follow ws next) (rec next)
  told_step w ws at rec (read t next) (h, inr k) =
      told_more w ws at next (λ last end l. absent h k.0 (subst (λ m. Legal s m ws last end) k.1 l)) (follow ws next) (rec next)
  told_step w ws at rec (fault r o) (inl k) =
      inl (k.0, (w, ws, subst (λ p. Legal s at (w ∷ ws) p (w ∷ ws)) (sym k.1) none, subst (CutShort s) (sym k.1) k.2))
  told_step w ws at rec (fault r o) (inr k) = inr (k.0, k.1, (at, w, ws, none, k.2, k.3, k.4))

  pub follow-told : (ws : List Want) (at : ℕ) → FollowTold ws at (follow ws at)
  unfolding follow
  follow-told [] at = none
  follow-told (w ∷ ws) at = told_step w ws at (λ next. follow-told ws next) (one s at w) (one_told s at w)

  -- What is so is found

  pub legal_same : {at last : ℕ} {ws end : List Want} → Legal s at ws last end → follow ws at ≡ follow end last
  unfolding follow
  legal_same none = refl
  legal_same (there {at} {last} {w} {ws} {end} h f l) = then_same (λ t next. follow ws next) (one-there s at w h f) ∙ legal_same l
  legal_same (absent {at} {last} {w} {ws} {end} h f l) = then_same (λ t next. follow ws next) (one-absent s at w h f) ∙ legal_same l

  pub follow-append : (a b : List Want) (at : ℕ) → follow (a ++ b) at ≡ and_then (follow a at) (λ t next. follow b next)
  unfolding follow
  follow-append [] b at = refl
  follow-append (w ∷ a) b at =
      then_ext (one s at w) (λ t next. follow (a ++ b) next) (λ t next. and_then (follow a next) (λ u n. follow b n))
      (λ t next e. follow-append a b next)
      ∙ sym (then_assoc (one s at w) (λ t next. follow a next) (λ t next. follow b next))

  pub follow-none : (at : ℕ) → follow [] at ≡ reached at
  unfolding follow
  follow-none at = refl

  short-follow : (w : Want) (ws : List Want) (at : ℕ) → CutShort s at → follow (w ∷ ws) at ≡ ends at
  unfolding follow
  short-follow w ws at h = then_same (λ t next. follow ws next) (one-short s at w h)

  wrong-follow : (w : Want) (ws : List Want) (at : ℕ) → Whole s at → (Fits s at w → ⊥) → (LeftOut s at w → ⊥) → follow (w ∷ ws) at ≡ wrong
  unfolding follow
  wrong-follow w ws at h f g = then_same (λ t next. follow ws next) (one-wrong s at w h f g)

  -- The bytes that fill

  abbrev pub filled : Reading (Unit {0}) → Reading (Unit {0})
  filled u = and_then u (λ t last. cond (eqb last (length s)) (reached last) wrong)

  strictly : (m n : ℕ) → (m ≡ n → ⊥) → m ≤ n → m < n
  strictly m n f h = go (ltb m n) refl
    where
      go : (b : Bool) → ltb m n ≡ b → m < n
      go true e = ltb-true m n e
      go false e = absurd (f (omega (arith, ltb-false m n e)))

  legal_within : {at last : ℕ} {ws end : List Want} → Legal s at ws last end → at ≤ length s → last ≤ length s
  legal_within none h = h
  legal_within (there w f l) h = legal_within l w.1
  legal_within (absent w f l) h = legal_within l h

  pub filled_exactly : (r : Refusal) (o : ℕ) → (filled (follow element_wants 0) ≡ fault r o) ↔ ElementFault s r o
  unfolding ElementFault
  filled_exactly r o = (go (follow element_wants 0) (follow-told element_wants 0), back)
    where
      stopped : Stopped element_wants 0 r o
          → ((r ≡ Ends) × ((w : Want) × (rest : List Want) × Legal s 0 element_wants o (w ∷ rest) × CutShort s o))
          ⊎ ((r ≡ Record) × (o ≡ 0) × ((at : ℕ) × Misplaced s at))
      stopped (inl k) = inl k
      stopped (inr k) = inr (k.0, k.1, (k.2.0, inl (k.2.1, k.2.2, k.2.3, k.2.4, k.2.5, k.2.6)))

      extra : (last : ℕ) → Legal s 0 element_wants last [] → (b : Bool) → eqb last (length s) ≡ b → cond b (reached last) wrong ≡ fault r o
          → ((r ≡ Ends) × ((w : Want) × (rest : List Want) × Legal s 0 element_wants o (w ∷ rest) × CutShort s o))
          ⊎ ((r ≡ Record) × (o ≡ 0) × ((at : ℕ) × Misplaced s at))
      extra last l true h e = absurd (apart e)
      extra last l false h e =
          let p : Record ≡ r = cc in
          let q : ◌≡◌ {A = ℕ} 0 o = cc in
          inr (sym p, sym q, (last, inr (l, strictly last (length s) (eqb-false last (length s) h) (legal_within l (omega arith)))))

      go : (u : Reading (Unit {0})) → FollowTold element_wants 0 u → filled u ≡ fault r o
          → ((r ≡ Ends) × ((w : Want) × (rest : List Want) × Legal s 0 element_wants o (w ∷ rest) × CutShort s o))
          ⊎ ((r ≡ Record) × (o ≡ 0) × ((at : ℕ) × Misplaced s at))
      go (read t last) l e = extra last l (eqb last (length s)) refl e
      go (fault c p) k e =
          let a : c ≡ r = cc in
          let b : p ≡ o = cc in
          stopped (subst (λ c. Stopped element_wants 0 c o) a (subst (λ p. Stopped element_wants 0 c p) b k))

      back : ((r ≡ Ends) × ((w : Want) × (rest : List Want) × Legal s 0 element_wants o (w ∷ rest) × CutShort s o))
          ⊎ ((r ≡ Record) × (o ≡ 0) × ((at : ℕ) × Misplaced s at))
          → filled (follow element_wants 0) ≡ fault r o
      back (inl k) =
          ap filled (legal_same k.1.2 ∙ short-follow k.1.0 k.1.1 o k.1.3) ∙ ap (λ c. fault c o) (sym k.0)
      back (inr (a, b, (at, inl m))) =
          ap filled (legal_same m.2 ∙ wrong-follow m.0 m.1 at m.3 m.4 m.5) ∙ ap₂ fault (sym a) (sym b)
      back (inr (a, b, (at, inr m))) =
          ap filled (legal_same m.0 ∙ follow-none at)
          ∙ ap (λ t. cond t (reached at) wrong) (ne_eqb at (length s) (λ e. omega (arith, m.1)))
          ∙ ap₂ fault (sym a) (sym b)

-- An element by what it wants

-- whether something is read, or the fault
abbrev pub quiet : {A : Type 0} → Reading A → Reading (Unit {0})
quiet u = and_then u (λ a next. reached 0)

-- readings one in another, and the same in a row
nest_last : (u : Reading (Unit {0})) (k : ℕ → Reading Run)
    → and_then u (λ l at. k at) ≡ and_then (and_then u (λ l at. reached at)) (λ t at. k at)
nest_last (read l at) k = refl
nest_last (fault r p) k = refl

nest_fourth : (u : Reading (Unit {0})) (e : ℕ → Reading (Unit {0})) (k : ℕ → Reading Run)
    → and_then (and_then u (λ l m. e m)) (λ z at. k at) ≡ and_then (and_then u (λ l m. and_then (e m) (λ v at. reached at))) (λ z at. k at)
nest_fourth (read l m) e k = nest_last (e m) k
nest_fourth (fault r p) e k = refl

nest_third : (u : Reading (Unit {0})) (d e : ℕ → Reading (Unit {0})) (k : ℕ → Reading Run)
    → and_then u (λ h n. and_then (and_then (d n) (λ l m. e m)) (λ z at. k at))
    ≡ and_then (and_then u (λ h n. and_then (d n) (λ l m. and_then (e m) (λ v at. reached at)))) (λ z at. k at)
nest_third (read h n) d e k = nest_fourth (d n) e k
nest_third (fault r p) d e k = refl

nest_second : (u : Reading (Unit {0})) (c d e : ℕ → Reading (Unit {0})) (k : ℕ → Reading Run)
    → and_then (and_then u (λ y q. c q)) (λ h n. and_then (and_then (d n) (λ l m. e m)) (λ z at. k at))
    ≡ and_then (and_then u (λ y q. and_then (c q) (λ h n. and_then (d n) (λ l m. and_then (e m) (λ v at. reached at))))) (λ z at. k at)
nest_second (read y q) c d e k = nest_third (c q) d e k
nest_second (fault r p) c d e k = refl

nest_first : (u : Reading (Unit {0})) (b c d e : ℕ → Reading (Unit {0})) (k : ℕ → Reading Run)
    → and_then (and_then u (λ x p. and_then (b p) (λ y q. c q))) (λ h n. and_then (and_then (d n) (λ l m. e m)) (λ z at. k at))
    ≡ and_then (and_then u (λ x p. and_then (b p) (λ y q. and_then (c q) (λ h n. and_then (d n) (λ l m. and_then (e m) (λ v at. reached at))))))
    (λ z at. k at)
nest_first (read x p) b c d e k = nest_second (b p) c d e k
nest_first (fault r p) b c d e k = refl

module _ (s : List ℕ) where
  pub element-front : element s ≡ and_then (follow s front 0) (λ t at. body s at)
  unfolding element heading layering follow one
  element-front =
      nest_first (required s 0 8 0 4) (λ p. optional s p 38 1 6) (λ q. optional s q 47 3 8) (λ n. required s n 13 2 6)
      (λ m. required s m 14 2 6) (body s)

  body_quiet : (at : ℕ) → quiet (body s at) ≡ quiet (filled s (follow s (points ∷ ending) at))
  unfolding body endingRead follow one
  body_quiet at = first (xy s at)
    where
      third : (run : Run) (next last : ℕ) (b : Bool)
          → quiet (and_then (cond b (reached last) wrong) (λ (e : Unit {0}) m. read run next)) ≡ quiet (cond b (reached last) wrong)
      third run next last true = refl
      third run next last false = refl

      second : (run : Run) (next : ℕ) (u : Reading (Unit {0}))
          → quiet (and_then (and_then u (λ e last. cond (eqb last (length s)) (reached last) wrong)) (λ e last. read run next))
          ≡ quiet (filled s (and_then u (λ t n. reached n)))
      second run next (read t last) = third run next last (eqb last (length s))
      second run next (fault r p) = refl

      first : (u : Reading Run)
          → quiet (and_then u (λ run next. and_then (and_then (required s next 17 0 4) (λ e last. cond (eqb last (length s)) (reached last) wrong)) (λ e last. read run next)))
          ≡ quiet (filled s (and_then (past u) (λ t next. and_then (required s next 17 0 4) (λ t n. reached n))))
      first (read run next) = second run next (required s next 17 0 4)
      first (fault r p) = refl

  element_quiet : quiet (element s) ≡ quiet (filled s (follow s element_wants 0))
  element_quiet =
      ap quiet element-front
      ∙ go (follow s front 0)
      ∙ sym (ap (λ u. quiet (filled s u)) (follow-append s front (points ∷ ending) 0))
    where
      go : (u : Reading (Unit {0}))
          → quiet (and_then u (λ t at. body s at)) ≡ quiet (filled s (and_then u (λ t at. follow s (points ∷ ending) at)))
      go (read t at) = body_quiet at
      go (fault r p) = refl

  quiet_fault : {A : Type 0} (u : Reading A) {r : Refusal} {o : ℕ} → quiet u ≡ fault r o → u ≡ fault r o
  quiet_fault (read a n) e = absurd (apart e)
  quiet_fault (fault c p) {r} {o} e = let a : c ≡ r = cc in let b : p ≡ o = cc in ap₂ fault a b

  quiet_read : {A : Type 0} (u : Reading A) → quiet u ≡ read tt 0 → (a : A) × (n : ℕ) × (u ≡ read a n)
  quiet_read (read a n) e = (a, n, refl)
  quiet_read (fault r p) e = absurd (apart (sym e))

  pub element_exactly : (r : Refusal) (o : ℕ) → (element s ≡ fault r o) ↔ ElementFault s r o
  element_exactly r o = (
    (λ e. (filled_exactly s r o).0 (quiet_fault (filled s (follow s element_wants 0)) (sym element_quiet ∙ ap quiet e))),
    λ f. quiet_fault (element s) (element_quiet ∙ ap quiet ((filled_exactly s r o).1 f)),
  )

  -- What an element holds

  pub element-one : {first n first' n' : ℕ} → Element s first n → Element s first' n' → (first ≡ first') × (n ≡ n')
  element-one e f =
      let z = sym (legal_same s e.before) ∙ legal_same s f.before in
      let y : read tt e.at ≡ read tt f.at = sym (follow-none s e.at) ∙ z ∙ follow-none s f.at in
      let p : e.at ≡ f.at = cc in
      let q : announced s e.at ≡ announced s f.at = ap (announced s) p in
      (omega (arith, p, e.starts, f.starts), omega (arith, q, e.long, f.long))

  -- points that are read stand as XY says
  xy-run : (at : ℕ) {run : Run} {next : ℕ} → xy s at ≡ read run next
      → (run.first ≡ at + 4) × (1 ≤ run.count) × (announced s at ≡ 4 + 8 * run.count) × (next ≡ run.first + 8 * run.count)
  unfolding xy
  xy-run at {run} {next} e =
      go (short s at) (ltb 0 (count_at s at)) refl (is s at 16 3 (4 + 8 * count_at s at)) refl e
    where
      go : (a b : Bool) → ltb 0 (count_at s at) ≡ b → (d : Bool) → is s at 16 3 (4 + 8 * count_at s at) ≡ d
          → cond a (ends at) (cond (b && d) (read (run_at s at) (end_of (run_at s at))) wrong) ≡ read run next
          → (run.first ≡ at + 4) × (1 ≤ run.count) × (announced s at ≡ 4 + 8 * run.count) × (next ≡ run.first + 8 * run.count)
      go true b q d f g = absurd (apart (sym g))
      go false false q d f g = absurd (apart (sym g))
      go false true q false f g = absurd (apart (sym g))
      go false true q true f g =
          let z : run_at s at ≡ run = cc in
          let y : end_of (run_at s at) ≡ next = cc in
          subst (λ u. (u.first ≡ at + 4) × (1 ≤ u.count) × (announced s at ≡ 4 + 8 * u.count) × (next ≡ u.first + 8 * u.count)) z
          (refl, ltb-true 0 (count_at s at) q, (is_of s at 16 3 (4 + 8 * count_at s at) f).2, sym y)

  filled-read : (u : Reading (Unit {0})) → quiet (filled s u) ≡ read tt 0 → u ≡ reached (length s)
  filled-read (read t last) e = go (eqb last (length s)) refl e
    where
      go : (b : Bool) → eqb last (length s) ≡ b → quiet (cond b (reached last) wrong) ≡ read tt 0 → read tt last ≡ reached (length s)
      go true h e = ap (read tt) (eqb-true last (length s) h)
      go false h e = absurd (apart (sym e))
  filled-read (fault r p) e = absurd (apart (sym e))

  told_legal : (ws : List Want) (at last : ℕ) → follow s ws at ≡ reached last → Legal s at ws last []
  told_legal ws at last e = subst (FollowTold s ws at) e (follow-told s ws at)

  pub element-read : {run : Run} {next : ℕ} → element s ≡ read run next
      → Element s run.first run.count × (next ≡ run.first + 8 * run.count)
  unfolding body
  element-read {run} {next} e =
      let h = then_inv (λ t at. body s at) (follow s front 0) (sym element-front ∙ e) in
      let at = h.1 in
      let x = then_inv (λ u n. and_then (endingRead s n) (λ (t : Unit {0}) last. read u n)) (xy s at) h.3 in
      let d = then_inv (λ (t : Unit {0}) last. read x.0 x.1) (endingRead s x.1) x.3 in
      let z : x.0 ≡ run = cc in
      let y : x.1 ≡ next = cc in
      let k = xy-run at (x.2 ∙ ap₂ read z y) in
      let f = filled-read (follow s (points ∷ ending) at) (sym (body_quiet at) ∙ ap quiet h.3) in (
        record {
          at = at;
          before = told_legal front 0 at h.2;
          after = told_legal (points ∷ ending) at (length s) f;
          some = k.1;
          long = k.2;
          starts = k.0;
        },
        k.3,
      )

  -- nothing is at fault in an element that holds points, so it is read, and as these points
  pub element-holds : {first n : ℕ} → Element s first n → element s ≡ read (record { first = first; count = n }) (first + 8 * n)
  element-holds {first} {n} h =
      let f : follow s front 0 ≡ reached h.at = legal_same s h.before ∙ follow-none s h.at in
      let b : quiet (body s h.at) ≡ read tt 0 =
      body_quiet h.at
      ∙ ap (λ u. quiet (filled s u)) (legal_same s h.after ∙ follow-none s (length s))
      ∙ ap (λ t. quiet (cond t (reached (length s)) wrong)) (eq-eqb (length s) (length s) refl) in
      let r = quiet_read (body s h.at) b in
      let e : element s ≡ read r.0 r.1 = element-front ∙ then_same (λ t at. body s at) f ∙ r.2 in
      let k = element-read e in
      let o = element-one k.0 h in
      e ∙ named r.0 r.1 o.0 o.1 k.1
    where
      named : (run : Run) (next : ℕ) → run.first ≡ first → run.count ≡ n → next ≡ run.first + 8 * run.count
          → read run next ≡ read (record { first = first; count = n }) (first + 8 * n)
      named run next p q z =
          ap₂ (λ i j. read (record { first = i; count = j }) next) p q
          ∙ ap (read (record { first = first; count = n })) (z ∙ ap₂ (λ i j. i + 8 * j) p q)
