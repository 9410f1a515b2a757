-- Reading a job by the numbers that it wants, one after another. Assumes nothing.
--
--   one s w at, follow s ws at == reading all that follows from what is wanted
--   one_step, follow_step  == that reading, a number at a time
--   follow-told            == reading what is wanted goes through legal numbers up to its end, or to a bad one
--   legal_same, bad_follow == and back: legal numbers are read, and a bad one is the fault
--   fault_exactly          == bytes have the fault r, with the byte at fault o, exactly when `FaultAt` says so
use Prim.Native.Nat.{ℕ, zero, suc, ◌+◌, ◌-◌, ◌*◌, ◌/◌, ◌<◌, ◌≤◌}
use mathlib.Core.Path.{◌≡◌, ◌∙◌, refl, sym, ap, ap₂, subst}
use mathlib.Core.Logic.{◌⊎◌, ◌↔◌, inl, inr}
use mathlib.Core.List.{List, [], ◌∷◌, ◌++◌}
use mathlib.Core.Bool.{Bool, true, false, cond, ◌&&◌, ◌||◌, true≢false}
use native.Mathlib.Omega.{arith}
use lib.Dec.{leb, ltb, eqb}
use lib.ListN.{length, get_or, replicate}
use borrow.Author.Tests.{le-leb, ltb-true, eq-eqb, eqb-true}
use Rattle.refusal.specs.declared.Refusal.{Refusal}
use Rattle.refusal.specs.declared.Refusal.TheVariants.{Range, Extra}
use Rattle.number.specs.Reading.{Reading, read, fault, and_then, many, past}
use Rattle.number.specs.Number.{number}
use Rattle.number.specs.Faults.{Sound}
use Rattle.number.proofs.Number.{apart, number_exactly, number-one, number-zero, sound_exactly}
use Rattle.number.proofs.Bytes.{number-onward}
use Rattle.number.proofs.Reading.{then_same, then_assoc, then_ext, then-end, past-then, many-length}
use Rattle.figure.specs.Figure.{most_corners, most_rings, most_place}
use Rattle.job.specs.Job.{most_outlines, least_rings, left_after, value, coordinates, ring, rings_from, announces, outline, part, outlines, filled}
use Rattle.job.specs.Faults.{Want, up_to, count, leading, announced, corners, allowed, coordinates_of, rings_of, after, Legal, none, more, Bad, FaultAt}
use Rattle.job.proofs.Job.{announces_byte, announces_true, part-past, filled_extra}

-- Reading what is wanted

module _ (s : List ℕ) where
  -- a number with all that follows from it
  unfoldable pub one : Want → ℕ → Reading (Unit {0})
  one (up_to most) at = past (value s 0 most at)
  one count at = and_then (value s 0 most_outlines at) (λ k next. past (outlines s k next))
  one leading at = past (outline s at)
  one announced at = and_then (value s least_rings most_rings at) (λ r next. past (rings_from s r most_corners next))
  one (corners left n) at = past (rings_from s (suc n) left at)

  unfoldable pub follow : List Want → ℕ → Reading (Unit {0})
  follow [] at = read tt at
  follow (w ∷ ws) at = and_then (one w at) (λ t next. follow ws next)

  pub follow-none : (at : ℕ) → follow [] at ≡ read tt at
  unfolding follow
  follow-none at = refl

  follow-append : (a b : List Want) (at : ℕ) → follow (a ++ b) at ≡ and_then (follow a at) (λ t next. follow b next)
  unfolding follow
  follow-append [] b at = refl
  follow-append (w ∷ a) b at =
      then_ext (one w at) (λ t next. follow (a ++ b) next) (λ t next. and_then (follow a next) (λ u n. follow b n))
      (λ t next e. follow-append a b next)
      ∙ sym (then_assoc (one w at) (λ t next. follow a next) (λ t next. follow b next))

  -- a value, by the number that it is
  ranged : (low high at : ℕ) (f : ℕ → ℕ → Reading (Unit {0}))
      → and_then (value s low high at) f ≡ and_then (number s at) (λ v next. cond (leb low v && leb v high) (f v next) (fault Range (next - 1)))
  unfolding value
  ranged low high at f = go (number s at)
    where
      choose : (b : Bool) (v next : ℕ) → and_then (cond b (read v next) (fault Range (next - 1))) f ≡ cond b (f v next) (fault Range (next - 1))
      choose true v next = refl
      choose false v next = refl

      go : (u : Reading ℕ)
          → and_then (and_then u (λ v next. cond (leb low v && leb v high) (read v next) (fault Range (next - 1)))) f
          ≡ and_then u (λ v next. cond (leb low v && leb v high) (f v next) (fault Range (next - 1)))
      go (read v next) = choose (leb low v && leb v high) v next
      go (fault r p) = refl

  many-follow : {A : Type 0} (f : ℕ → Reading A) (w : Want) → ((at : ℕ) → past (f at) ≡ one w at) → (n at : ℕ)
      → past (many f n at) ≡ follow (replicate n w) at
  unfolding many follow
  many-follow f w h zero at = refl
  many-follow {A} f w h (suc n) at =
      go (f at)
      ∙ then_ext (past (f at)) (λ t next. past (many f n next)) (λ t next. follow (replicate n w) next) (λ t next e. many-follow f w h n next)
      ∙ then_same (λ t next. follow (replicate n w) next) (h at)
    where
      go : (u : Reading A) → past (and_then u (λ a next. and_then (many f n next) (λ l last. read (a ∷ l) last)))
          ≡ and_then (past u) (λ t next. past (many f n next))
      go (read a next) = past-then (λ l. a ∷ l) (many f n next)
      go (fault r p) = refl

  coordinates-follow : (n at : ℕ) → past (coordinates s n at) ≡ follow (replicate n (up_to 65535)) at
  unfolding coordinates one
  coordinates-follow n at = many-follow (value s 0 most_place) (up_to 65535) (λ at. refl) n at

  outlines-follow : (n at : ℕ) → past (outlines s n at) ≡ follow (replicate n leading) at
  unfolding outlines one
  outlines-follow n at = many-follow (part s) leading (part-past s) n at

  rings-follow : (n left at : ℕ) → past (rings_from s n left at) ≡ follow (rings_of n left) at
  unfolding follow one
  rings-follow zero left at = unfold rings_from in refl
  rings-follow (suc n) left at = sym (then-end (past (rings_from s (suc n) left at)))

  -- what follows the V of a ring
  ring-rest : (left n v next : ℕ)
      → past (and_then (coordinates s (2 * v) next) (λ l q. and_then (rings_from s n (left_after left l) q) (λ ls last. read (l ∷ ls) last)))
      ≡ follow (coordinates_of v ++ rings_of n (left - v)) next
  ring-rest left n v next =
      go (coordinates s (2 * v) next) refl
      ∙ then_ext (past (coordinates s (2 * v) next)) (λ t q. past (rings_from s n (left - v) q)) (λ t q. follow (rings_of n (left - v)) q)
      (λ t q e. rings-follow n (left - v) q)
      ∙ then_same (λ t q. follow (rings_of n (left - v)) q) (coordinates-follow (2 * v) next)
      ∙ sym (follow-append (coordinates_of v) (rings_of n (left - v)) next)
    where
      less : (l : List ℕ) (q : ℕ) → coordinates s (2 * v) next ≡ read l q → left_after left l ≡ left - v
      less l q e =
          let h : length l ≡ 2 * v = unfold coordinates in many-length (value s 0 most_place) (2 * v) next e in
          let k : length l / 2 ≡ v = omega arith in
          ap (λ m. left - m) k

      go : (u : Reading (List ℕ)) → coordinates s (2 * v) next ≡ u
          → past (and_then u (λ l q. and_then (rings_from s n (left_after left l) q) (λ ls last. read (l ∷ ls) last)))
          ≡ and_then (past u) (λ t q. past (rings_from s n (left - v) q))
      go (read l q) e =
          past-then (λ ls. l ∷ ls) (rings_from s n (left_after left l) q) ∙ ap (λ m. past (rings_from s n m q)) (less l q e)
      go (fault r p) e = refl

  -- what a number wanted as w leads to
  abbrev led : Want → ℕ → ℕ → Reading (Unit {0})
  led w v next = cond (allowed w v) (follow (after w v) next) (fault Range (next - 1))

  zero_leb : (v : ℕ) → leb 0 v ≡ true
  zero_leb v = le-leb 0 v (omega arith)

  up-to_step : (most at : ℕ) → one (up_to most) at ≡ and_then (number s at) (led (up_to most))
  unfolding one follow allowed after
  up-to_step most at =
      ranged 0 most at (λ v next. read tt next)
      ∙ then_ext (number s at) (λ v next. cond (leb 0 v && leb v most) (read tt next) (fault Range (next - 1)))
      (λ v next. cond (leb v most) (read tt next) (fault Range (next - 1)))
      (λ v next e. ap (λ b. cond (b && leb v most) (read tt next) (fault Range (next - 1))) (zero_leb v))

  count_step : (at : ℕ) → one count at ≡ and_then (number s at) (led count)
  unfolding one allowed after
  count_step at =
      ranged 0 255 at (λ k next. past (outlines s k next))
      ∙ then_ext (number s at) (λ v next. cond (leb 0 v && leb v 255) (past (outlines s v next)) (fault Range (next - 1)))
      (λ v next. cond (leb v 255) (follow (replicate v leading) next) (fault Range (next - 1)))
      (λ v next e. ap₂ (λ b u. cond (b && leb v 255) u (fault Range (next - 1))) (zero_leb v) (outlines-follow v next))

  announced_step : (at : ℕ) → one announced at ≡ and_then (number s at) (led announced)
  unfolding one allowed after
  announced_step at =
      ranged 2 8 at (λ r next. past (rings_from s r 32 next))
      ∙ then_ext (number s at) (λ v next. cond (leb 2 v && leb v 8) (past (rings_from s v 32 next)) (fault Range (next - 1)))
      (λ v next. cond (leb 2 v && leb v 8) (follow (rings_of v 32) next) (fault Range (next - 1)))
      (λ v next e. ap (λ u. cond (leb 2 v && leb v 8) u (fault Range (next - 1))) (rings-follow v 32 next))

  -- what follows V
  abbrev tail : ℕ → ℕ → ℕ → ℕ → Reading (Unit {0})
  tail left n v next =
      past (and_then (coordinates s (2 * v) next) (λ l q. and_then (rings_from s n (left_after left l) q) (λ ls last. read (l ∷ ls) last)))

  corners_step : (left n at : ℕ) → one (corners left n) at ≡ and_then (number s at) (led (corners left n))
  unfolding one allowed after rings_from ring
  corners_step left n at =
      go (value s 4 left at)
      ∙ ranged 4 left at (tail left n)
      ∙ then_ext (number s at) (λ v next. cond (leb 4 v && leb v left) (tail left n v next) (fault Range (next - 1)))
      (λ v next. cond (leb 4 v && leb v left) (follow (coordinates_of v ++ rings_of n (left - v)) next) (fault Range (next - 1)))
      (λ v next e. ap (λ u. cond (leb 4 v && leb v left) u (fault Range (next - 1))) (ring-rest left n v next))
    where
      go : (u : Reading ℕ)
          → past (and_then (and_then u (λ v next. coordinates s (2 * v) next)) (λ l q. and_then (rings_from s n (left_after left l) q) (λ ls last. read (l ∷ ls) last)))
          ≡ and_then u (tail left n)
      go (read v next) = refl
      go (fault r p) = refl

  -- one ring, which is not announced
  alone_step : (at : ℕ) → announces s at ≡ false
      → past (and_then (ring s most_corners at) (λ l next. read (l ∷ []) next)) ≡ and_then (number s at) (led leading)
  unfolding ring
  alone_step at silent =
      go (value s 4 32 at)
      ∙ ranged 4 32 at (λ v next. past (coordinates s (2 * v) next))
      ∙ then_ext (number s at) (λ v next. cond (leb 4 v && leb v 32) (past (coordinates s (2 * v) next)) (fault Range (next - 1))) (led leading)
      (λ v next e. ap (λ u. cond (leb 4 v && leb v 32) u (fault Range (next - 1))) (coordinates-follow (2 * v) next) ∙ some v next (eqb v 0) refl e)
    where
      past_one : (u : Reading (List ℕ)) → past (and_then u (λ l next. read (l ∷ []) next)) ≡ past u
      past_one u = past-then (λ l. l ∷ []) u

      go : (u : Reading ℕ)
          → past (and_then (and_then u (λ v next. coordinates s (2 * v) next)) (λ l next. read (l ∷ []) next))
          ≡ and_then u (λ v next. past (coordinates s (2 * v) next))
      go (read v next) = past_one (coordinates s (2 * v) next)
      go (fault r p) = refl

      some : (v next : ℕ) (b : Bool) → eqb v 0 ≡ b → number s at ≡ read v next
          → cond (leb 4 v && leb v 32) (follow (coordinates_of v) next) (fault Range (next - 1)) ≡ led leading v next
      some v next true z e =
          let k = number-zero s at (e ∙ ap (λ n. read n next) (eqb-true v 0 z)) in
          absurd (true≢false (sym (eq-eqb (get_or s at 0) 0 k.1) ∙ announces_byte s at k.0 ∙ silent))
      some v next false z e =
          unfold allowed after in
          ap (λ b. cond (b || (leb 4 v && leb v 32)) (follow (cond b (announced ∷ []) (coordinates_of v)) next) (fault Range (next - 1))) (sym z)

  several_step : (at : ℕ) → announces s at ≡ true
      → past (and_then (value s least_rings most_rings (at + 1)) (λ r next. rings_from s r most_corners next)) ≡ and_then (number s at) (led leading)
  unfolding one follow allowed after
  several_step at said =
      let k = announces_true s at said in
      let z = k.1 in
      let small : get_or s at 0 < 128 = omega arith in
      let n : number s at ≡ read 0 (at + 1) = sym (number-one s at k.0 small) ∙ ap (λ v. read v (at + 1)) z in
      then_assoc (value s least_rings most_rings (at + 1)) (λ r next. rings_from s r most_corners next) (λ ls next. read tt next)
      ∙ sym (then-end (one announced (at + 1)))
      ∙ here
      ∙ then_same (led leading) (sym n)
    where
      here : and_then (one announced (at + 1)) (λ t next. read tt next) ≡ led leading 0 (at + 1)
      here = refl

  leading_step : (at : ℕ) → one leading at ≡ and_then (number s at) (led leading)
  unfolding one outline
  leading_step at = go (announces s at) refl
    where
      go : (b : Bool) → announces s at ≡ b
          → past (cond b (and_then (value s least_rings most_rings (at + 1)) (λ r next. rings_from s r most_corners next))
          (and_then (ring s most_corners at) (λ l next. read (l ∷ []) next)))
          ≡ and_then (number s at) (led leading)
      go true e = several_step at e
      go false e = alone_step at e

  pub one_step : (w : Want) (at : ℕ) → one w at ≡ and_then (number s at) (led w)
  one_step (up_to most) at = up-to_step most at
  one_step count at = count_step at
  one_step leading at = leading_step at
  one_step announced at = announced_step at
  one_step (corners left n) at = corners_step left n at

  -- the same with what is wanted after it
  abbrev stepped : Want → List Want → ℕ → ℕ → Reading (Unit {0})
  stepped w ws v next = cond (allowed w v) (follow (after w v ++ ws) next) (fault Range (next - 1))

  pub follow_step : (w : Want) (ws : List Want) (at : ℕ) → follow (w ∷ ws) at ≡ and_then (number s at) (stepped w ws)
  unfolding follow
  follow_step w ws at =
      then_same (λ t next. follow ws next) (one_step w at)
      ∙ then_assoc (number s at) (led w) (λ t next. follow ws next)
      ∙ then_ext (number s at) (λ v next. and_then (led w v next) (λ t next. follow ws next)) (stepped w ws)
      (λ v next e. choose (allowed w v) (follow (after w v) next) (next - 1)
      ∙ ap (λ u. cond (allowed w v) u (fault Range (next - 1))) (sym (follow-append (after w v) ws next)))
    where
      choose : (b : Bool) (u : Reading (Unit {0})) (p : ℕ)
          → and_then (cond b u (fault Range p)) (λ t next. follow ws next) ≡ cond b (and_then u (λ t next. follow ws next)) (fault Range p)
      choose true u p = refl
      choose false u p = refl

  -- What is found is so

  abbrev pub FollowTold : List Want → ℕ → Reading (Unit {0}) → Type 0
  FollowTold ws at (read t last) = Legal s at ws last []
  FollowTold ws at (fault r o) = (start : ℕ) × (w : Want) × (rest : List Want) × Legal s at ws start (w ∷ rest) × Bad s start w r o

  -- one legal number more
  told_more : (at v next : ℕ) (w : Want) (ws : List Want) → Sound s at v next → allowed w v ≡ true → (u : Reading (Unit {0}))
      → FollowTold (after w v ++ ws) next u → FollowTold (w ∷ ws) at u
  told_more at v next w ws k a (read t last) l = more k a l
  told_more at v next w ws k a (fault r o) f = (f.0, f.1, f.2, more k a f.3, f.4)

  told_step : (w : Want) (ws : List Want) (at : ℕ)
      → ((ms : List Want) (next : ℕ) → at < next → next ≤ length s → FollowTold ms next (follow ms next))
      → FollowTold (w ∷ ws) at (and_then (number s at) (stepped w ws))
  unfolding Bad
  told_step w ws at rec = go (number s at) refl
    where
      pick : (v next : ℕ) → number s at ≡ read v next → (b : Bool) → allowed w v ≡ b
          → FollowTold (w ∷ ws) at (cond b (follow (after w v ++ ws) next) (fault Range (next - 1)))
      pick v next e true a =
          let o = number-onward s at e in
          told_more at v next w ws ((sound_exactly s at v next).0 e) a (follow (after w v ++ ws) next) (rec (after w v ++ ws) next o.0 o.1)
      pick v next e false a =
          let k = (sound_exactly s at v next).0 e in
          let z : next ≡ next - 1 + 1 = omega (arith, k.past) in
          (at, w, ws, none, inr (refl, (v, subst (Sound s at v) z k, a)))

      go : (u : Reading ℕ) → number s at ≡ u → FollowTold (w ∷ ws) at (and_then u (stepped w ws))
      go (read v next) e = pick v next e (allowed w v) refl
      go (fault r o) e = (at, w, ws, none, inl ((number_exactly s at (fault r o)).0 e))

  pub follow-told : (n : ℕ) (ws : List Want) (at : ℕ) → length s - at < n → FollowTold ws at (follow ws at)
  unfolding follow
  follow-told zero ws at h = absurd (omega arith)
  follow-told (suc n) [] at h = none
  follow-told (suc n) (w ∷ ws) at h =
      subst (FollowTold (w ∷ ws) at) (sym (follow_step w ws at)) (told_step w ws at (λ ms next p q. follow-told n ms next (omega arith)))

  -- What is so is found

  pub legal_same : {at last : ℕ} {ws end : List Want} → Legal s at ws last end → follow ws at ≡ follow end last
  legal_same none = refl
  legal_same (more {at} {v} {next} {last} {w} {ws} {end} k a rest) =
      follow_step w ws at
      ∙ then_same (stepped w ws) ((sound_exactly s at v next).1 k)
      ∙ ap (λ b. cond b (follow (after w v ++ ws) next) (fault Range (next - 1))) a
      ∙ legal_same rest

  pub bad_follow : (w : Want) (ws : List Want) (at : ℕ) (r : Refusal) (o : ℕ) → Bad s at w r o → follow (w ∷ ws) at ≡ fault r o
  unfolding Bad
  bad_follow w ws at r o (inl f) = follow_step w ws at ∙ then_same (stepped w ws) ((number_exactly s at (fault r o)).1 f)
  bad_follow w ws at r o (inr f) =
      let z : o + 1 - 1 ≡ o = omega arith in
      follow_step w ws at
      ∙ then_same (stepped w ws) ((sound_exactly s at f.1.0 (o + 1)).1 f.1.1)
      ∙ ap (λ b. cond b (follow (after w f.1.0 ++ ws) (o + 1)) (fault Range (o + 1 - 1))) f.1.2
      ∙ ap₂ fault (sym f.0) z

  -- The bytes that fill

  pub fault_exactly : (ws : List Want) (r : Refusal) (o : ℕ) → (filled s (follow ws 0) ≡ fault r o) ↔ FaultAt s ws r o
  unfolding FaultAt
  fault_exactly ws r o = (go (follow ws 0) (follow-told (suc (length s)) ws 0 (omega arith)), back)
    where
      extra : (t : Unit {0}) (last : ℕ) → Legal s 0 ws last [] → (b : Bool) → ltb last (length s) ≡ b
          → cond b (fault Extra last) (read t last) ≡ fault r o
          → FollowTold ws 0 (fault r o) ⊎ ((r ≡ Extra) × Legal s 0 ws o [] × (o < length s))
      extra t last l true h e =
          let p : Extra ≡ r = cc in
          let q : last ≡ o = cc in
          inr (sym p, subst (λ m. Legal s 0 ws m []) q l, subst (λ m. m < length s) q (ltb-true last (length s) h))
      extra t last l false h e = absurd (apart e)

      go : (u : Reading (Unit {0})) → FollowTold ws 0 u → filled s u ≡ fault r o
          → FollowTold ws 0 (fault r o) ⊎ ((r ≡ Extra) × Legal s 0 ws o [] × (o < length s))
      go (read t last) k e = unfold filled in extra t last k (ltb last (length s)) refl e
      go (fault c p) k e =
          unfold filled in
          let a : c ≡ r = cc in
          let b : p ≡ o = cc in
          inl (subst (λ c. FollowTold ws 0 (fault c o)) a (subst (λ p. FollowTold ws 0 (fault c p)) b k))

      back : FollowTold ws 0 (fault r o) ⊎ ((r ≡ Extra) × Legal s 0 ws o [] × (o < length s))
          → filled s (follow ws 0) ≡ fault r o
      back (inl f) = ap (filled s) (legal_same f.3 ∙ bad_follow f.1 f.2 f.0 r o f.4) ∙ (unfold filled in refl)
      back (inr f) =
          ap (filled s) (legal_same f.1 ∙ follow-none o) ∙ filled_extra s tt f.2 ∙ ap (λ t. fault t o) (sym f.0)
