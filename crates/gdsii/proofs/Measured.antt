-- Laws of an element by its limits, 17, 18 and 2, and what its calls then say. Assumes nothing.
--
--   measured-fault   == 8 and 16 come first
--   measured_open, measured-broad, measured-high, measured-long, measured-read == a run of points, by 17, 18 along x and y, and 2
--   measured-fit     == what is known of a run that passes them all, and of its element
--   ring-length      == all points but one are corners
--   bad_ring         == a ring of a bad length is refused by 2
--   measured-said    == what is said of a run that is refused is said of the element
--   read-refused, fractured-refused == what the calls say of it
use Prim.Native.Nat.{ℕ, ◌-◌}
use mathlib.Core.Path.{◌≡◌, ◌∙◌, refl, sym, ap, ap₂, subst}
use mathlib.Core.List.{List, [], ◌∷◌}
use mathlib.Core.Bool.{Bool, true, false, cond, ◌||◌}
use native.Mathlib.Omega.{arith}
use lib.Dec.{ltb, eqb}
use lib.ListN.{length, take}
use borrow.Author.Tests.{ltb-false}
use Rattle.refusal.specs.declared.Refusal.TheVariants as because
use Rattle.figure.specs.declared.Axis.TheVariants.{X, Y}
use Rattle.figure.specs.Corners.{any}
use Rattle.figure.specs.Figure.{Figure, figure, least_corners, most_corners, bad_length, bad_figure, fault as shapeFault}
use Rattle.rule.specs.Rules.{in_range, preset_told}
use Rattle.outline.specs.Promise.{refusal}
use Rattle.demands.specs.Promise.{Asked, outcome, refused}
use Rattle.demands.proofs.Outcome.{outcome-figure}
use Rattle.refusal.specs.declared.Refusal.{Refusal}
use Rattle.gdsii.specs.declared.stream.Run.{Run}
use Rattle.refusal.specs.Refusals.{refusal_no}
use Rattle.number.specs.Reading.{Reading, read, fault, and_then}
use Rattle.number.proofs.Number.{apart as never-read}
use Rattle.number.proofs.Reading.{then_same, then_inv}
use Rattle.gdsii.specs.Record.{end_of, element}
use Rattle.gdsii.specs.Boundary.{Point, points, unclosed, broad, ring_of, moved, figure_of, bounded, boundary}
use Rattle.gdsii.specs.Calls.{unread, handed, points_read, boundary_read, unplated, fractured, plated_by, points_fractured, boundary_fractured}
use Rattle.gdsii.specs.Steps.{limited, measured, Fit}
use Rattle.gdsii.proofs.Records.{element-within}
use Rattle.gdsii.proofs.Points.{length-points, take-points}

-- 17, 18 and 2, one after the other
abbrev pub staged : Run → ℕ → Bool → Bool → Bool → Bool → Reading Run
staged run next a b d l =
    cond a (fault because.Unclosed 0) (cond (b || d) (fault because.Extent 0) (cond l (fault because.Length 0) (read run next)))

module _ (s : List ℕ) where
  pub measured-fault : {r : Refusal} {p : ℕ} → fault r p ≡ element s → fault r p ≡ measured s
  unfolding measured
  measured-fault e = then_same (limited s) e

  module _ {run : Run} {next : ℕ} (e : read run next ≡ element s) where
    stage : limited s run next ≡ measured s
    unfolding measured
    stage = then_same (limited s) e

    pub measured_open : true ≡ unclosed (points s run) → fault because.Unclosed 0 ≡ measured s
    unfolding limited
    measured_open f =
        ap (λ (a : Bool). staged run next a (broad X (points s run)) (broad Y (points s run)) (bad_length (run.count - 1))) f ∙ stage

    module _ (f : false ≡ unclosed (points s run)) where
      closed : (b d l : Bool) → staged run next false b d l ≡ staged run next (unclosed (points s run)) b d l
      closed b d l = ap (λ (a : Bool). staged run next a b d l) f

      pub measured-broad : true ≡ broad X (points s run) → fault because.Extent 0 ≡ measured s
      unfolding limited
      measured-broad g =
          ap (λ (b : Bool). staged run next false b (broad Y (points s run)) (bad_length (run.count - 1))) g
          ∙ closed (broad X (points s run)) (broad Y (points s run)) (bad_length (run.count - 1))
          ∙ stage

      module _ (g : false ≡ broad X (points s run)) where
        pub measured-high : true ≡ broad Y (points s run) → fault because.Extent 0 ≡ measured s
        unfolding limited
        measured-high h =
            ap₂ (λ (b d : Bool). staged run next false b d (bad_length (run.count - 1))) g h
            ∙ closed (broad X (points s run)) (broad Y (points s run)) (bad_length (run.count - 1))
            ∙ stage

        module _ (h : false ≡ broad Y (points s run)) where
          pub measured-long : true ≡ bad_length (run.count - 1) → fault because.Length 0 ≡ measured s
          unfolding limited
          measured-long l =
              ap (λ (m : Bool). staged run next false false false m) l
              ∙ ap₂ (λ (b d : Bool). staged run next false b d (bad_length (run.count - 1))) g h
              ∙ closed (broad X (points s run)) (broad Y (points s run)) (bad_length (run.count - 1))
              ∙ stage

          pub measured-read : false ≡ bad_length (run.count - 1) → read run next ≡ measured s
          unfolding limited
          measured-read l =
              ap (λ (m : Bool). staged run next false false false m) l
              ∙ ap₂ (λ (b d : Bool). staged run next false b d (bad_length (run.count - 1))) g h
              ∙ closed (broad X (points s run)) (broad Y (points s run)) (bad_length (run.count - 1))
              ∙ stage

  pub ring-length : (run : Run) → length (ring_of (points s run)) ≡ run.count - 1
  ring-length run =
      ap (λ m. length (take (m - 1) (points s run))) (length-points s run.count run.first)
      ∙ ap length (take-points s (run.count - 1) run.count run.first (omega arith))
      ∙ length-points s (run.count - 1) run.first

-- 2 by the figure is 2 by the number of corners

bad_figure_lem : (l : List ℕ) (n : ℕ) → bad_length n ≡ true → bad_figure (figure l (n ∷ [])) ≡ true
unfolding bad_figure any
bad_figure_lem l n e = rw e

bad_shape : (f : Figure) → bad_figure f ≡ true → shapeFault f ≡ 2
unfolding shapeFault
bad_shape f e = rw e

bad_refusal : (f : Figure) → shapeFault f ≡ 2 → refusal f ≡ 2
unfolding refusal
bad_refusal f e = rw e

pub bad_ring : (ps : List Point) → bad_length (length (ring_of ps)) ≡ true → refusal (figure_of ps) ≡ 2
bad_ring ps e = bad_refusal (figure_of ps) (bad_shape (figure_of ps) (bad_figure_lem (moved ps) (length (ring_of ps)) e))

-- what a call says of the points says what it says of the run: 2 comes from the figure in one, from the count in the other

module _ {S : Type 0} (said : Reading (List Point) → S)
    (two : (ps : List Point) (next : ℕ) → refusal (figure_of ps) ≡ 2 → said (read ps next) ≡ said (fault because.Length 0)) where
  module _ (s : List ℕ) {r : Refusal} {p : ℕ} where
    limited-said : (run : Run) (next : ℕ) → fault r p ≡ limited s run next → said (fault r p) ≡ said (bounded (points s run) next)
    unfolding limited bounded
    limited-said run next e =
        go (unclosed (points s run)) (broad X (points s run)) (broad Y (points s run)) (bad_length (run.count - 1)) refl e
      where
        go : (a b d l : Bool) → bad_length (run.count - 1) ≡ l → fault r p ≡ staged run next a b d l
            → said (fault r p) ≡ said (cond a (fault because.Unclosed 0) (cond (b || d) (fault because.Extent 0) (read (points s run) next)))
        go true b d l q f = let k : r ≡ because.Unclosed = cc in let m : p ≡ 0 = cc in ap₂ (λ (i : Refusal) j. said (fault i j)) k m
        go false true d l q f = let k : r ≡ because.Extent = cc in let m : p ≡ 0 = cc in ap₂ (λ (i : Refusal) j. said (fault i j)) k m
        go false false true l q f = let k : r ≡ because.Extent = cc in let m : p ≡ 0 = cc in ap₂ (λ (i : Refusal) j. said (fault i j)) k m
        go false false false true q f =
            let k : r ≡ because.Length = cc in
            let m : p ≡ 0 = cc in
            ap₂ (λ (i : Refusal) j. said (fault i j)) k m ∙ sym (two (points s run) next (bad_ring (points s run) (ap bad_length (ring-length s run) ∙ q)))
        go false false false false q f = absurd (never-read (sym f))

    pub measured-said : fault r p ≡ measured s → said (fault r p) ≡ said (boundary s)
    unfolding measured boundary
    measured-said e = go (element s) e
      where
        go : (u : Reading Run) → fault r p ≡ and_then u (limited s) → said (fault r p) ≡ said (and_then u (λ run next. bounded (points s run) next))
        go (read run next) f = limited-said run next f
        go (fault t q) f = let k : r ≡ t = cc in let m : p ≡ q = cc in ap₂ (λ (i : Refusal) j. said (fault i j)) k m

-- the two calls

read-two : (l : List ℕ) (ps : List Point) (next : ℕ) → refusal (figure_of ps) ≡ 2
    → points_read l (read ps next) ≡ points_read l (fault because.Length 0)
read-two l ps next e = ap (λ n. cond (eqb n 0) (handed ps l) (unread n 0 l)) e

pub read-refused : (s l : List ℕ) {r : Refusal} {p : ℕ} → fault r p ≡ measured s → unread (refusal_no r) p l ≡ boundary_read s l
unfolding boundary_read
read-refused s l e = measured-said (points_read l) (read-two l) s e

-- a figure refused by 2 is refused by 2 whatever the rule in range
outcome-two : (ask : Asked) → in_range ask.threshold ask.weight ≡ true → refusal ask.figure ≡ 2
    → outcome ask ≡ refused 2 ask.table ask.list
outcome-two ask r e = outcome-figure ask r (omega (arith, e)) ∙ ap (λ n. refused n ask.table ask.list) e

fractured-two : (table list : List ℕ) (ps : List Point) → refusal (figure_of ps) ≡ 2 → fractured ps table list ≡ refused 2 table list
unfolding fractured in_range preset_told
fractured-two table list ps e = outcome-two _ refl e

plate-two : (table list : List ℕ) (ps : List Point) (next : ℕ) → refusal (figure_of ps) ≡ 2
    → points_fractured table list (read ps next) ≡ points_fractured table list (fault because.Length 0)
unfolding refused
plate-two table list ps next e = ap (plated_by ps) (fractured-two table list ps e)

pub fractured-refused : (s table list : List ℕ) {r : Refusal} {p : ℕ} → fault r p ≡ measured s
    → unplated (refusal_no r) 0 p table list ≡ boundary_fractured s table list
unfolding boundary_fractured
fractured-refused s table list e = measured-said (points_fractured table list) (plate-two table list) s e

-- a run that passes

pub measured-fit : (s : List ℕ) {run : Run} {next : ℕ} → measured s ≡ read run next
    → Fit s run × (boundary s ≡ read (points s run) next) × (end_of run ≡ next)
unfolding measured boundary limited bounded bad_length
measured-fit s {run} {next} e =
    let i = then_inv (limited s) (element s) e in
    go i.0 i.1 i.2 (unclosed (points s i.0)) refl (broad X (points s i.0)) refl (broad Y (points s i.0)) refl
    (ltb (i.0.count - 1) least_corners) refl (ltb most_corners (i.0.count - 1)) refl i.3
  where
    go : (u : Run) (n : ℕ) → element s ≡ read u n → (a : Bool) → unclosed (points s u) ≡ a → (b : Bool) → broad X (points s u) ≡ b
        → (d : Bool) → broad Y (points s u) ≡ d → (l : Bool) → ltb (u.count - 1) least_corners ≡ l
        → (m : Bool) → ltb most_corners (u.count - 1) ≡ m → staged u n a b d (l || m) ≡ read run next
        → Fit s run × (boundary s ≡ read (points s run) next) × (end_of run ≡ next)
    go u n x true pa b pb d pd l pl m pm f = absurd (never-read (sym f))
    go u n x false pa true pb d pd l pl m pm f = absurd (never-read (sym f))
    go u n x false pa false pb true pd l pl m pm f = absurd (never-read (sym f))
    go u n x false pa false pb false pd true pl m pm f = absurd (never-read (sym f))
    go u n x false pa false pb false pd false pl true pm f = absurd (never-read (sym f))
    go u n x false pa false pb false pd false pl false pm f =
        let z : u ≡ run = cc in
        let y : n ≡ next = cc in
        let w = element-within s x in
        let fit : Fit s u =
        record {
          within = w.0;
          least = ltb-false (u.count - 1) least_corners pl;
          most = ltb-false most_corners (u.count - 1) pm;
          narrow = pb;
          low = pd;
        } in
        let b : boundary s ≡ read (points s u) n =
        then_same (λ (v : Run) k. bounded (points s v) k) x
        ∙ ap₂ (λ (g h : Bool). cond g (fault because.Unclosed 0) (cond h (fault because.Extent 0) (read (points s u) n))) pa (ap₂ ◌||◌ pb pd) in
        subst (λ v. Fit s v × (boundary s ≡ read (points s v) next) × (end_of v ≡ next)) z (fit, b ∙ ap (read (points s u)) y, w.1 ∙ y)
