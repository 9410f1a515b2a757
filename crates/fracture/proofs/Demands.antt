-- The demands of the call itself, as theorems from its contract. Assumes nothing.
--
-- Of a call of `fracture`, or in the pinwheel mode of `fracture_pinwheel`, with the corners, ring lengths, threshold t, weight w, table and list
-- that answers a fracture and leaves table' and list'. `settled` is its contract; `typed` is what the language says of a `&[u16]`: each of its
-- numbers is one of the type u16. There is no other premise. `fracture_default` is the same at t and w of the default preset. The theorems
-- speak of what was answered and left: the numbers
-- shots, cost and sliver, table', and `given`, the shots that the first 4 x shots numbers of list' say. That the numbers of a `&[u16]` are
-- `typed` is proved of the code in `fracture_by`, which both calls hand their corners to (its clause `words`).
--   call_cover           == each unit square is in exactly one given shot if it is inside, and in none if not
--   call-inside, call-apart, call-whole   == so the shots lie inside, no two hold the same square, and each inside square is held
--   call_these           == count, sliver length and cost are those of these very shots
--   call_never_cheaper   == no way to cut the frame in that mode totals less than the cost
--   call_attained        == one way has the given shots, and totals the cost
--   call-cuts            == the cuts are those of the figure at unit squares, and at most 134,400
--   call-ahead           == they are what `cuts` has told ahead
--   call_bound           == neither the cost nor a table entry exceeds 2,097,345,000
--   call-not-above       == of two calls that answer a fracture, all else equal but what is lent, `fracture_pinwheel` costs no more than `fracture`
--   call-cuts-same       == and both report the same cuts
--   default_row          == `fracture_default` of L answers 2 shots, cost 2000, sliver length 0 and 4 cuts, lists them, and leaves L's nine entries
use Rattle.std.specs.Prelude.{Result, Ok, Err}
use Prim.Native.Nat.{ℕ, ◌*◌, ◌≤◌, ◌<◌}
use mathlib.Core.Path.{◌≡◌, refl, sym, ◌∙◌, ap, subst}
use mathlib.Core.Bool.{Bool, true}
use mathlib.Core.Logic.{inl}
use mathlib.Core.List.{List, [], ◌∷◌, Memᴰ as Member}
use native.Mathlib.Omega.{arith}
use mir.Syntax.{w16}
use mir.Val.{Fits}
use lib.ListN.{length, take, get_or}
use Rattle.sum.specs.Sum.{only, sum_of}
use Rattle.refusal.specs.declared.Refusal.{Refusal}
use Rattle.refusal.proofs.Refusals.{refusal-some}
use Rattle.rule.specs.declared.Rule.{Rule}
use Rattle.rule.specs.Rules.{in_range, preset_told}
use Rattle.shot.specs.Shot.{Shot, holds, shots_in}
use Rattle.figure.specs.declared.Axis.TheVariants.{X, Y}
use Rattle.figure.specs.Figure.{figure, corners_of}
use Rattle.figure.specs.Inside.{inside_at}
use Rattle.piece.specs.declared.Mode.{Mode}
use Rattle.piece.specs.declared.Mode.TheVariants.{Straight, Pinwheel}
use Rattle.piece.specs.Piece.{Piece}
use Rattle.table.specs.Entry.{entry_of}
use Rattle.demands.specs.Promise.{Asked, asked, drawn, Outcome, outcome}
use Rattle.demands.specs.Cuts.{ahead, at, square_cuts}
use Rattle.demands.specs.Square.{shot_sliver, shot_charge}
use Rattle.demands.specs.Ways.{Way, shots_of, total, On, frame_of}
use Rattle.demands.specs.Demands.{Words, PieceOf, reported, entry}
use Rattle.demands.specs.Rows.{Row, Says, L}
use Rattle.demands.proofs.Demands as demands
use Rattle.demands.proofs.Rows.{new_rows-hold, new_entries_of_L}
use Rattle.demands.proofs.Counted.{cuts_are, cuts-figure, cuts-most, cuts-ahead}
use Rattle.demands.proofs.Agreed.{cut-rows}
use Rattle.fracture.specs.declared.Fractured.{Fractured}
use Rattle.fracture.specs.declared.Denial.{Denial}
use Rattle.fracture.specs.Told.{fractured, told, by_default, ahead_told}

module _ (mode : Mode) (corners lengths : List ℕ) (t w : ℕ) (table list : List ℕ) where
  abbrev ask : Asked
  ask = asked mode corners lengths t w table list

  abbrev rule : Rule
  rule = record { threshold = t; weight = w }

  -- the figure at the nanometre, and the places that a cut may lie at
  abbrev F : ℕ → ℕ → Bool
  F = inside_at (figure corners lengths)

  abbrev OnX : ℕ → Type 0
  OnX = On X (corners_of (figure corners lengths))

  abbrev OnY : ℕ → Type 0
  OnY = On Y (corners_of (figure corners lengths))

  abbrev AnyWay : Type 0
  AnyWay = Way mode F OnX OnY (frame_of (corners_of (figure corners lengths)))

  module _ (typed : (i : ℕ) → Fits w16 (get_or corners i 0)) (shots cost sliver cuts : ℕ) (table' list' : List ℕ)
      (settled : told (fractured shots cost sliver cuts) table' list' ≡ outcome ask) where
    abbrev given : List Shot
    given = shots_in (take (4 * shots) list')

    words : Words (figure corners lengths)
    words = demands.words_typed corners lengths typed

    done : (outcome ask).number ≡ 0
    unfolding told
    done = sym (ap (λ o. o.number) settled)

    -- what holds of the outcome holds of what was told
    said : (P : Outcome → Type 0) → P (outcome ask) → P (told (fractured shots cost sliver cuts) table' list')
    said P h = subst P (sym settled) h

    pub call_cover : (x y : ℕ) → sum_of (λ s. only (holds x y s) 1) given ≡ only (F x y) 1
    unfolding told reported
    call_cover x y = said (λ o. sum_of (λ s. only (holds x y s) 1) (reported o) ≡ only (F x y) 1) (demands.cover ask words done x y)

    pub call-inside : (s : Shot) → Member s given → (x y : ℕ) → holds x y s ≡ true → F x y ≡ true
    unfolding told reported
    call-inside =
        said (λ o. (s : Shot) → Member s (reported o) → (x y : ℕ) → holds x y s ≡ true → F x y ≡ true)
        (demands.shots-inside ask words done)

    pub call-apart : (d : Shot) (i j : ℕ) → i < j → j < length given
        → (x y : ℕ) → holds x y (get_or given i d) ≡ true → holds x y (get_or given j d) ≡ true → ⊥
    unfolding told reported
    call-apart =
        said
        (λ o.
        (d : Shot) (i j : ℕ) → i < j → j < length (reported o)
        → (x y : ℕ) → holds x y (get_or (reported o) i d) ≡ true → holds x y (get_or (reported o) j d) ≡ true → ⊥)
        (demands.shots-apart ask words done)

    pub call-whole : (x y : ℕ) → F x y ≡ true → (s : Shot) × Member s given × (holds x y s ≡ true)
    unfolding told reported
    call-whole =
        said (λ o. (x y : ℕ) → F x y ≡ true → (s : Shot) × Member s (reported o) × (holds x y s ≡ true))
        (demands.shots_cover ask words done)

    pub call_these : (shots ≡ length given) × (sliver ≡ sum_of (shot_sliver F rule) given) × (cost ≡ sum_of (shot_charge F rule) given)
    unfolding told reported
    call_these =
        said
        (λ o.
        (o.shots ≡ length (reported o)) × (o.sliver ≡ sum_of (shot_sliver F rule) (reported o))
        × (o.cost ≡ sum_of (shot_charge F rule) (reported o)))
        (demands.these_shots ask words done)

    pub call_never_cheaper : (way : AnyWay) → cost ≤ total mode F OnX OnY rule way
    unfolding told
    call_never_cheaper = said (λ o. (way : AnyWay) → o.cost ≤ total mode F OnX OnY rule way) (demands.never_cheaper ask words done)

    pub call_attained : (way : AnyWay) × (shots_of mode F OnX OnY way ≡ given) × (total mode F OnX OnY rule way ≡ cost)
    unfolding told reported
    call_attained =
        said (λ o. (way : AnyWay) × (shots_of mode F OnX OnY way ≡ reported o) × (total mode F OnX OnY rule way ≡ o.cost))
        (demands.attained ask words done)

    pub call_bound : (cost ≤ 2097345000)
        × ((p : Piece) → PieceOf (drawn ask) p → get_or table' (entry_of (drawn ask).columns (drawn ask).rows p) 0 ≤ 2097345000)
    unfolding told entry
    call_bound = (
      said (λ o. o.cost ≤ 2097345000) (demands.bound_cost ask words done),
      said (λ o. (p : Piece) → PieceOf (drawn ask) p → entry o (drawn ask) p ≤ 2097345000) (demands.bound ask words (inl done)),
    )

    pub call-cuts : (cuts ≡ square_cuts F (at X (corners_of (figure corners lengths))) (at Y (corners_of (figure corners lengths)))) × (cuts ≤ 134400)
    unfolding told
    call-cuts = (
      said (λ o. o.cuts ≡ square_cuts F (at X (corners_of (figure corners lengths))) (at Y (corners_of (figure corners lengths)))) (cuts-figure ask words done),
      said (λ o. o.cuts ≤ 134400) (cuts-most ask words),
    )

    -- what was told ahead by the other call
    pub call-ahead : (f : Result ℕ Refusal) → ahead_told f ≡ ahead (figure corners lengths) → f ≡ Ok cuts
    unfolding told ahead_told
    call-ahead (Ok n) e = ap Ok (ap (λ a. a.cuts) (e ∙ cuts-ahead ask done) ∙ sym (ap (λ o. o.cuts) settled))
    call-ahead (Err why) e = absurd (omega (arith, refusal-some why, ap (λ a. a.number) (e ∙ cuts-ahead ask done)))

-- The two modes

pub call-not-above : (corners lengths : List ℕ) (t w : ℕ) (table list table₂ list₂ : List ℕ) (s c n k s' c' n' k' : ℕ) (u l u' l' : List ℕ)
    → told (fractured s c n k) u l ≡ outcome (asked Pinwheel corners lengths t w table list)
    → told (fractured s' c' n' k') u' l' ≡ outcome (asked Straight corners lengths t w table₂ list₂)
    → c ≤ c'
unfolding told
call-not-above corners lengths t w table list table₂ list₂ s c n k s' c' n' k' u l u' l' p q =
    omega (
      arith,
      demands.pinwheel-not-above (asked Straight corners lengths t w table₂ list₂) table list (sym (ap (λ o. o.number) p)) (sym (ap (λ o. o.number) q)),
      ap (λ o. o.cost) p,
      ap (λ o. o.cost) q,
    )

pub call-cuts-same : (corners lengths : List ℕ) (t w : ℕ) (table list table₂ list₂ : List ℕ) (s c n k s' c' n' k' : ℕ) (u l u' l' : List ℕ)
    → told (fractured s c n k) u l ≡ outcome (asked Pinwheel corners lengths t w table list)
    → told (fractured s' c' n' k') u' l' ≡ outcome (asked Straight corners lengths t w table₂ list₂)
    → k ≡ k'
unfolding told
call-cuts-same corners lengths t w table list table₂ list₂ s c n k s' c' n' k' u l u' l' p q =
    ap (λ o. o.cuts) p
    ∙ demands.pinwheel-cuts (asked Straight corners lengths t w table₂ list₂) table list (sym (ap (λ o. o.number) p)) (sym (ap (λ o. o.number) q))
    ∙ sym (ap (λ o. o.cuts) q)

-- The call without a rule

-- what a row says of an outcome it says of the answer that tells it
row_told : {row : Row} {r : Rule} {o : Outcome} (s c n k : ℕ) (table list : List ℕ) → told (fractured s c n k) table list ≡ o → Says row r o
    → (4 * s ≡ length row.list) × (c ≡ row.cost) × (n ≡ row.sliver) × (take (4 * s) list ≡ row.list)
unfolding told
row_told s c n k table list e q = (
  ap (λ o. 4 * o.shots) e ∙ q.count,
  ap (λ o. o.cost) e ∙ q.cost,
  ap (λ o. o.sliver) e ∙ q.sliver,
  ap (λ o. take (4 * o.shots) o.list) e ∙ q.list,
)

-- with room as the rows have it: for 14,400 entries and 225 shots
pub default_row : (a : Result Fractured Denial) (table list table' list' : List ℕ) → 14400 ≤ length table → 900 ≤ length list
    → told a table' list' ≡ outcome (by_default L.numbers L.lengths table list)
    → (a ≡ fractured 2 2000 0 4) × (take 8 list' ≡ 0 ∷ 0 ∷ 60 ∷ 80 ∷ 60 ∷ 0 ∷ 100 ∷ 20 ∷ [])
    × (take 9 table' ≡ 1000 ∷ 1000 ∷ 1000 ∷ 1000 ∷ 2000 ∷ 1000 ∷ 1000 ∷ 1000 ∷ 0 ∷ [])
unfolding told preset_told in_range drawn
default_row (Ok f) table list table' list' k m settled =
    let ask = by_default L.numbers L.lengths table list in
    let q = row_told f.shots f.cost f.sliver f.cuts table' list' settled (new_rows-hold.0 ask refl refl (refl, refl) refl k m) in
    let two : f.shots ≡ 2 = omega (arith, q.0) in
    let done : (outcome ask).number ≡ 0 = sym (ap (λ o. o.number) settled) in
    let full = new_entries_of_L ask refl refl refl refl (inl done) in
    let four : f.cuts ≡ 4 = ap (λ o. o.cuts) settled ∙ cuts_are ask done ∙ cut-rows.0 in
    (λ i. fractured (two i) (q.1 i) (q.2 i) (four i), ap (λ i. take i list') (sym q.0) ∙ q.3, ap (λ o. take 9 o.table) settled ∙ full)
default_row (Err d) table list table' list' k m settled =
    let q = new_rows-hold.0 (by_default L.numbers L.lengths table list) refl refl (refl, refl) refl k m in
    absurd (omega (arith, refusal-some d.why, ap (λ o. o.number) settled, q.number))
