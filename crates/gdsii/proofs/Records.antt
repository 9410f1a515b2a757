-- Laws of the records of an element: the ways that each step can go. Assumes nothing.
--
--   and_no           == a conjunction whose second part fails
--   short-few, short-whole, short_false == a record cut short, by its first four bytes and by its length; one that is whole
--   is-size          == a record of this length announces it
--   is_type, is_form, is_last == whether a record is of a type, a data type and a length, one test after the other
--   required-short, required-is, required-wrong == a record that has to stand there
--   optional-short, optional-there, optional-other == a record that may stand there
--   heading-first, heading-second, heading-third == BOUNDARY, ELFLAGS, PLEX
--   layering-first, layering-second == LAYER, DATATYPE
--   xy-short, xy-few, xy-wrong, xy-is == XY
--   ending-first, ending_extra, ending-end == ENDEL, and the end of the bytes
--   body-points, body-fault, body-read == points with the end after them
--   element-heading, element-layering, element-body == a whole element
--   xy-within, element-within == points that are read stand in the bytes
use Prim.Native.Nat.{ℕ, ◌+◌, ◌*◌, ◌-◌, ◌/◌, ◌<◌, ◌≤◌}
use mathlib.Core.Path.{◌≡◌, ◌∙◌, refl, sym, ap, ap₂, subst}
use mathlib.Core.List.{List}
use mathlib.Core.Bool.{Bool, true, false, cond, ◌&&◌, ◌||◌, false≢true}
use native.Mathlib.Omega.{arith}
use lib.Dec.{ltb, eqb}
use lib.ListN.{length, get_or}
use borrow.Author.Tests.{lt-ltb, le-ltb, ltb-true, ltb-false, eqb-true}
use Rattle.refusal.specs.declared.Refusal.{Refusal}
use Rattle.gdsii.specs.declared.stream.Run.{Run}
use Rattle.gdsii.specs.Steps.{Within}
use Rattle.number.specs.Reading.{Reading, read, fault, and_then}
use Rattle.number.proofs.Number.{apart as never-read}
use Rattle.number.proofs.Reading.{then_same, then_inv}
use Rattle.gdsii.specs.Record.{reached, ends, wrong, size_at, short, typed, is, required, optional, heading, layering, end_of, count_at, run_at, xy, ending, body, element}

pub and_no : (a b : Bool) → false ≡ b → false ≡ a && b
and_no true b e = e
and_no false b e = refl

-- cut short

module _ (s : List ℕ) (at : ℕ) where
  pub short-few : length s < at + 4 → true ≡ short s at
  unfolding short
  short-few h = simp lt-ltb

  pub short-whole : (n : ℕ) → n ≡ size_at s at → at + 4 ≤ length s → ltb (length s - at) n ≡ short s at
  unfolding short
  short-whole n e h = go (ltb (length s - at) n) refl
    where
      go : (t : Bool) → ltb (length s - at) n ≡ t → t ≡ ltb (length s) (at + 4) || ltb (length s) (at + size_at s at)
      go true q = let k : length s < at + size_at s at = omega (arith, ltb-true (length s - at) n q) in simp (le-ltb, lt-ltb)
      go false q = let k : at + size_at s at ≤ length s = omega (arith, ltb-false (length s - at) n q) in simp le-ltb

  pub short_false : short s at ≡ false → (at + 4 ≤ length s) × (at + size_at s at ≤ length s)
  unfolding short
  short_false e = go (ltb (length s) (at + 4)) refl (ltb (length s) (at + size_at s at)) refl e
    where
      go : (a : Bool) → ltb (length s) (at + 4) ≡ a → (b : Bool) → ltb (length s) (at + size_at s at) ≡ b → a || b ≡ false
          → (at + 4 ≤ length s) × (at + size_at s at ≤ length s)
      go true p b q f = absurd (false≢true (sym f))
      go false p true q f = absurd (false≢true (sym f))
      go false p false q f = (ltb-false (length s) (at + 4) p, ltb-false (length s) (at + size_at s at) q)

-- one record

module _ (s : List ℕ) (at kind form size : ℕ) where
  pub is-size : is s at kind form size ≡ true → size_at s at ≡ size
  unfolding is
  is-size e = go (typed s at kind) (eqb (get_or s (at + 3) 0) form) (eqb (size_at s at) size) refl e
    where
      go : (a b d : Bool) → eqb (size_at s at) size ≡ d → a && (b && d) ≡ true → size_at s at ≡ size
      go true true true q f = eqb-true (size_at s at) size q
      go true true false q f = absurd (false≢true f)
      go true false d q f = absurd (false≢true f)
      go false b d q f = absurd (false≢true f)

  abbrev formed : Bool
  formed = eqb (get_or s (at + 3) 0) form

  module _ {x : Bool} (e : x ≡ typed s at kind) where
    pub is_type : x ≡ false → x ≡ is s at kind form size
    unfolding is
    is_type t = t ∙ ap (λ (b : Bool). b && (formed && eqb (size_at s at) size)) (sym t ∙ e)

    module _ (t : x ≡ true) where
      rest : (formed && eqb (size_at s at) size) ≡ is s at kind form size
      unfolding is
      rest = ap (λ (b : Bool). b && (formed && eqb (size_at s at) size)) (sym t ∙ e)

      pub is_form : formed ≡ false → formed ≡ is s at kind form size
      is_form f = f ∙ sym (ap (λ (b : Bool). b && eqb (size_at s at) size) f) ∙ rest

      pub is_last : formed ≡ true → (n : ℕ) → n ≡ size_at s at → eqb n size ≡ is s at kind form size
      is_last f n z = ap (λ m. eqb m size) z ∙ sym (ap (λ (b : Bool). b && eqb (size_at s at) size) f) ∙ rest

  abbrev standing : Bool → Bool → Reading (Unit {0})
  standing a b = cond a (ends at) (cond b (reached (at + size)) wrong)

  pub required-short : true ≡ short s at → ends at ≡ required s at kind form size
  unfolding required
  required-short e = ap (λ (a : Bool). standing a (is s at kind form size)) e

  module _ (e : false ≡ short s at) where
    pub required-is : true ≡ is s at kind form size → reached (at + size) ≡ required s at kind form size
    unfolding required
    required-is f = ap₂ standing e f

    pub required-wrong : false ≡ is s at kind form size → wrong ≡ required s at kind form size
    unfolding required
    required-wrong f = ap₂ standing e f

  abbrev there : Bool → Bool → Reading (Unit {0})
  there a b = cond a (ends at) (cond b (required s at kind form size) (reached at))

  pub optional-short : true ≡ short s at → ends at ≡ optional s at kind form size
  unfolding optional
  optional-short e = ap (λ (a : Bool). there a (typed s at kind)) e

  module _ (e : false ≡ short s at) where
    pub optional-there : {u : Reading (Unit {0})} → true ≡ typed s at kind → u ≡ required s at kind form size → u ≡ optional s at kind form size
    unfolding optional
    optional-there f g = g ∙ ap₂ there e f

    pub optional-other : false ≡ typed s at kind → reached at ≡ optional s at kind form size
    unfolding optional
    optional-other f = ap₂ there e f

-- what stands before the points

module _ (s : List ℕ) where
  abbrev plexed : Unit {0} → ℕ → Reading (Unit {0})
  plexed e after = optional s after 47 3 8

  abbrev flagged : Unit {0} → ℕ → Reading (Unit {0})
  flagged b next = and_then (optional s next 38 1 6) plexed

  pub heading-first : {r : Refusal} {p : ℕ} → fault r p ≡ required s 0 8 0 4 → fault r p ≡ heading s
  unfolding heading
  heading-first e = then_same flagged e

  module _ {a : ℕ} (e : reached a ≡ required s 0 8 0 4) where
    pub heading-second : {r : Refusal} {p : ℕ} → fault r p ≡ optional s a 38 1 6 → fault r p ≡ heading s
    unfolding heading
    heading-second f = then_same plexed f ∙ then_same flagged e

    pub heading-third : {b : ℕ} {u : Reading (Unit {0})} → reached b ≡ optional s a 38 1 6 → u ≡ optional s b 47 3 8 → u ≡ heading s
    unfolding heading
    heading-third f g = g ∙ then_same plexed f ∙ then_same flagged e

  module _ (at : ℕ) where
    abbrev datatyped : Unit {0} → ℕ → Reading (Unit {0})
    datatyped l next = required s next 14 2 6

    pub layering-first : {r : Refusal} {p : ℕ} → fault r p ≡ required s at 13 2 6 → fault r p ≡ layering s at
    unfolding layering
    layering-first e = then_same datatyped e

    pub layering-second : {a : ℕ} {u : Reading (Unit {0})} → reached a ≡ required s at 13 2 6 → u ≡ required s a 14 2 6 → u ≡ layering s at
    unfolding layering
    layering-second e f = f ∙ then_same datatyped e

-- the points

module _ (s : List ℕ) (at : ℕ) where
  abbrev shown : Bool → Bool → Reading Run
  shown a b = cond a (ends at) (cond b (read (run_at s at) (end_of (run_at s at))) wrong)

  abbrev whole : Bool
  whole = ltb 0 (count_at s at) && is s at 16 3 (4 + 8 * count_at s at)

  pub xy-short : true ≡ short s at → ends at ≡ xy s at
  unfolding xy
  xy-short e = ap (λ (a : Bool). shown a whole) e

  module _ (e : false ≡ short s at) (size : ℕ) (z : size ≡ size_at s at) where
    pub xy-few : size < 12 → wrong ≡ xy s at
    unfolding xy count_at
    xy-few h =
        let k : count_at s at ≤ 0 = omega arith in
        let f : false ≡ whole = simp le-ltb in
        ap₂ shown e f

    module _ (n : ℕ) (y : n ≡ (size - 4) / 8) where
      count-is : n ≡ count_at s at
      unfolding count_at
      count-is = y ∙ ap (λ m. (m - 4) / 8) z

      pub xy-wrong : false ≡ is s at 16 3 (4 + 8 * n) → wrong ≡ xy s at
      unfolding xy
      xy-wrong f =
          ap₂ shown e (and_no (ltb 0 (count_at s at)) _ (f ∙ ap (λ m. is s at 16 3 (4 + 8 * m)) count-is))

      pub xy-is : 12 ≤ size → true ≡ is s at 16 3 (4 + 8 * n)
          → read (record { first = at + 4; count = n }) (at + 4 + 8 * n) ≡ xy s at
      unfolding xy
      xy-is h f =
          let k : 0 < count_at s at = subst (λ m. 0 < m) count-is (omega arith) in
          let i : true ≡ is s at 16 3 (4 + 8 * count_at s at) = f ∙ ap (λ m. is s at 16 3 (4 + 8 * m)) count-is in
          let g : true ≡ whole = ap₂ (λ (a b : Bool). a && b) (sym (lt-ltb 0 (count_at s at) k)) i in
          ap (λ m. read (record { first = at + 4; count = m }) (at + 4 + 8 * m)) count-is ∙ ap₂ shown e g

-- the end

module _ (s : List ℕ) (at : ℕ) where
  abbrev ended : Unit {0} → ℕ → Reading (Unit {0})
  ended e last = cond (eqb last (length s)) (reached last) wrong

  pub ending-first : {r : Refusal} {p : ℕ} → fault r p ≡ required s at 17 0 4 → fault r p ≡ ending s at
  unfolding ending
  ending-first e = then_same ended e

  module _ {last : ℕ} (e : reached last ≡ required s at 17 0 4) where
    pub ending_extra : eqb last (length s) ≡ false → wrong ≡ ending s at
    unfolding ending
    ending_extra f = sym (ap (λ (b : Bool). cond b (reached last) wrong) f) ∙ then_same ended e

    pub ending-end : eqb last (length s) ≡ true → reached last ≡ ending s at
    unfolding ending
    ending-end f = sym (ap (λ (b : Bool). cond b (reached last) wrong) f) ∙ then_same ended e

  abbrev kept : Run → ℕ → Unit {0} → ℕ → Reading Run
  kept run next e last = read run next

  abbrev closing : Run → ℕ → Reading Run
  closing run next = and_then (ending s next) (kept run next)

  pub body-points : {r : Refusal} {p : ℕ} → fault r p ≡ xy s at → fault r p ≡ body s at
  unfolding body
  body-points e = then_same closing e

  module _ {run : Run} {next : ℕ} (e : read run next ≡ xy s at) where
    pub body-fault : {r : Refusal} {p : ℕ} → fault r p ≡ ending s next → fault r p ≡ body s at
    unfolding body
    body-fault f = then_same (kept run next) f ∙ then_same closing e

    pub body-read : {last : ℕ} → reached last ≡ ending s next → read run next ≡ body s at
    unfolding body
    body-read f = then_same (kept run next) f ∙ then_same closing e

-- the whole element

module _ (s : List ℕ) where
  abbrev bodied : Unit {0} → ℕ → Reading Run
  bodied l at = body s at

  abbrev layered : Unit {0} → ℕ → Reading Run
  layered h next = and_then (layering s next) bodied

  pub element-heading : {r : Refusal} {p : ℕ} → fault r p ≡ heading s → fault r p ≡ element s
  unfolding element
  element-heading e = then_same layered e

  module _ {a : ℕ} (e : reached a ≡ heading s) where
    pub element-layering : {r : Refusal} {p : ℕ} → fault r p ≡ layering s a → fault r p ≡ element s
    unfolding element
    element-layering f = then_same bodied f ∙ then_same layered e

    pub element-body : {b : ℕ} {u : Reading Run} → reached b ≡ layering s a → u ≡ body s b → u ≡ element s
    unfolding element
    element-body f g = g ∙ then_same bodied f ∙ then_same layered e

-- points that are read stand in the bytes

module _ (s : List ℕ) (at : ℕ) where
  pub xy-within : {run : Run} {next : ℕ} → xy s at ≡ read run next → Within s run × (end_of run ≡ next)
  unfolding xy
  xy-within {run} {next} e =
      go (short s at) refl (ltb 0 (count_at s at)) refl (is s at 16 3 (4 + 8 * count_at s at)) refl e
    where
      go : (a : Bool) → short s at ≡ a → (b : Bool) → ltb 0 (count_at s at) ≡ b → (d : Bool) → is s at 16 3 (4 + 8 * count_at s at) ≡ d
          → cond a (ends at) (cond (b && d) (read (run_at s at) (end_of (run_at s at))) wrong) ≡ read run next
          → Within s run × (end_of run ≡ next)
      go true p b q d f g = absurd (never-read (sym g))
      go false p false q d f g = absurd (never-read (sym g))
      go false p true q false f g = absurd (never-read (sym g))
      go false p true q true f g =
          let z : run_at s at ≡ run = cc in
          let y : end_of (run_at s at) ≡ next = cc in
          let i = is-size s at 16 3 (4 + 8 * count_at s at) f in
          let w : Within s (run_at s at) =
          record { some = ltb-true 0 (count_at s at) q; bytes = omega (arith, i, (short_false s at p).1) } in
          subst (λ r. Within s r × (end_of r ≡ next)) z (w, y)

module _ (s : List ℕ) where
  pub element-within : {run : Run} {next : ℕ} → element s ≡ read run next → Within s run × (end_of run ≡ next)
  unfolding element body
  element-within {run} {next} e =
      let h = then_inv (layered s) (heading s) e in
      let l = then_inv (bodied s) (layering s h.1) h.3 in
      let x = then_inv (closing s l.1) (xy s l.1) l.3 in
      let d = then_inv (kept s l.1 x.0 x.1) (ending s x.1) x.3 in
      let z : x.0 ≡ run = cc in
      let y : x.1 ≡ next = cc in
      xy-within s l.1 (x.2 ∙ ap₂ read z y)
