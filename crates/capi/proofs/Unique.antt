-- Each call of the C interface is settled: whatever its promise says, two ways to keep it are one, the same number returned, the same
-- numbers lent, and the same in every lent slice. Assumes nothing.
--
--   preset_one                  == pw_preset
--   fracture-one                == pw_fracture, pw_fracture_default, pw_fracture_pinwheel, pw_fracture_divided, pw_fracture_pinwheel_divided
--   cuts-one                    == pw_cuts
--   number-one                  == pw_number
--   check_one                   == pw_job_check
--   outline-one                 == pw_job_outline
--   unpack_one                  == pw_unpack
--   write_one                   == pw_write_header, pw_write_outline
--   boundary-one                == pw_gdsii_read
--   plate-one                   == pw_gdsii_fracture
--   join_one                    == pw_join
use Prim.Native.Nat.{ℕ}
use mathlib.Core.Path.{◌≡◌, sym, ◌∙◌, ap}
use mathlib.Core.List.{List}
use lib.IntN.{ℤ}
use Rattle.rule.specs.Rules.{Told}
use Rattle.demands.specs.Promise.{Outcome}
use Rattle.demands.specs.Cuts.{Ahead}
use Rattle.job.specs.Calls.{CheckSaid, UnpackSaid, WriteSaid}
use Rattle.gdsii.specs.Calls.{BoundarySaid, PlateSaid}
use Rattle.join.specs.declared.Joined.{Joined}
use Rattle.join.specs.Join.{JoinSaid, join_lent, Promise}
use Rattle.join.proofs.Settled.{join-settled}
use Rattle.capi.specs.Lent.{preset_lent, fracture_lent, cuts_lent, NumberSaid, number_lent, check_lent, OutlineSaid, outline_lent, unpack_lent, write_lent, boundary_lent, plate_lent}

pub preset_one : (said : Told) (n t w n' t' w' : ℕ) → preset_lent n t w ≡ said → preset_lent n' t' w' ≡ said
    → (n ≡ n') × (t ≡ t') × (w ≡ w')
preset_one said n t w n' t' w' p q =
    let e = p ∙ sym q in
    (ap (λ (o : Told). o.number) e, ap (λ (o : Told). o.threshold) e, ap (λ (o : Told). o.weight) e)

pub fracture-one : (said : Outcome) (n s c v w n' s' c' v' w' : ℕ) (table list table' list' : List ℕ)
    → fracture_lent n s c v w table list ≡ said → fracture_lent n' s' c' v' w' table' list' ≡ said
    → (n ≡ n') × (s ≡ s') × (c ≡ c') × (v ≡ v') × (w ≡ w') × (table ≡ table') × (list ≡ list')
fracture-one said n s c v w n' s' c' v' w' table list table' list' p q =
    let e = p ∙ sym q in (
      ap (λ (o : Outcome). o.number) e,
      ap (λ (o : Outcome). o.shots) e,
      ap (λ (o : Outcome). o.cost) e,
      ap (λ (o : Outcome). o.sliver) e,
      ap (λ (o : Outcome). o.cuts) e,
      ap (λ (o : Outcome). o.table) e,
      ap (λ (o : Outcome). o.list) e,
    )

pub cuts-one : (said : Ahead) (n w n' w' : ℕ) → cuts_lent n w ≡ said → cuts_lent n' w' ≡ said → (n ≡ n') × (w ≡ w')
cuts-one said n w n' w' p q = let e = p ∙ sym q in (ap (λ (o : Ahead). o.number) e, ap (λ (o : Ahead). o.cuts) e)

pub number-one : (said : NumberSaid) (n v next at n' v' next' at' : ℕ)
    → number_lent n v next at ≡ said → number_lent n' v' next' at' ≡ said
    → (n ≡ n') × (v ≡ v') × (next ≡ next') × (at ≡ at')
number-one said n v next at n' v' next' at' p q =
    let e = p ∙ sym q in (
      ap (λ (o : NumberSaid). o.number) e,
      ap (λ (o : NumberSaid). o.value) e,
      ap (λ (o : NumberSaid). o.next) e,
      ap (λ (o : NumberSaid). o.offset) e,
    )

pub check_one : (said : CheckSaid) (n t w k at n' t' w' k' at' : ℕ)
    → check_lent n t w k at ≡ said → check_lent n' t' w' k' at' ≡ said
    → (n ≡ n') × (t ≡ t') × (w ≡ w') × (k ≡ k') × (at ≡ at')
check_one said n t w k at n' t' w' k' at' p q =
    let e = p ∙ sym q in (
      ap (λ (o : CheckSaid). o.number) e,
      ap (λ (o : CheckSaid). o.threshold) e,
      ap (λ (o : CheckSaid). o.weight) e,
      ap (λ (o : CheckSaid). o.outlines) e,
      ap (λ (o : CheckSaid). o.offset) e,
    )

pub outline-one : (said : OutlineSaid) (n start size at n' start' size' at' : ℕ)
    → outline_lent n start size at ≡ said → outline_lent n' start' size' at' ≡ said
    → (n ≡ n') × (start ≡ start') × (size ≡ size') × (at ≡ at')
outline-one said n start size at n' start' size' at' p q =
    let e = p ∙ sym q in (
      ap (λ (o : OutlineSaid). o.number) e,
      ap (λ (o : OutlineSaid). o.start) e,
      ap (λ (o : OutlineSaid). o.size) e,
      ap (λ (o : OutlineSaid). o.offset) e,
    )

pub unpack_one : (said : UnpackSaid) (n corners rings at n' corners' rings' at' : ℕ) (list lengths list' lengths' : List ℕ)
    → unpack_lent n corners rings at list lengths ≡ said → unpack_lent n' corners' rings' at' list' lengths' ≡ said
    → (n ≡ n') × (corners ≡ corners') × (rings ≡ rings') × (at ≡ at') × (list ≡ list') × (lengths ≡ lengths')
unpack_one said n corners rings at n' corners' rings' at' list lengths list' lengths' p q =
    let e = p ∙ sym q in (
      ap (λ (o : UnpackSaid). o.number) e,
      ap (λ (o : UnpackSaid). o.corners) e,
      ap (λ (o : UnpackSaid). o.rings) e,
      ap (λ (o : UnpackSaid). o.offset) e,
      ap (λ (o : UnpackSaid). o.list) e,
      ap (λ (o : UnpackSaid). o.lengths) e,
    )

pub write_one : (said : WriteSaid) (n bytes n' bytes' : ℕ) (out out' : List ℕ)
    → write_lent n bytes out ≡ said → write_lent n' bytes' out' ≡ said
    → (n ≡ n') × (bytes ≡ bytes') × (out ≡ out')
write_one said n bytes n' bytes' out out' p q =
    let e = p ∙ sym q in (
      ap (λ (o : WriteSaid). o.number) e,
      ap (λ (o : WriteSaid). o.bytes) e,
      ap (λ (o : WriteSaid). o.out) e,
    )

pub boundary-one : (said : BoundarySaid) (n corners at n' corners' at' : ℕ) (x y x' y' : ℤ) (list list' : List ℕ)
    → boundary_lent n corners x y at list ≡ said → boundary_lent n' corners' x' y' at' list' ≡ said
    → (n ≡ n') × (corners ≡ corners') × (x ≡ x') × (y ≡ y') × (at ≡ at') × (list ≡ list')
boundary-one said n corners at n' corners' at' x y x' y' list list' p q =
    let e = p ∙ sym q in (
      ap (λ (o : BoundarySaid). o.number) e,
      ap (λ (o : BoundarySaid). o.corners) e,
      ap (λ (o : BoundarySaid). o.shift-x) e,
      ap (λ (o : BoundarySaid). o.shift-y) e,
      ap (λ (o : BoundarySaid). o.offset) e,
      ap (λ (o : BoundarySaid). o.list) e,
    )

pub plate-one : (said : PlateSaid) (n s c v w at n' s' c' v' w' at' : ℕ) (x y x' y' : ℤ) (table list table' list' : List ℕ)
    → plate_lent n s c v w x y at table list ≡ said → plate_lent n' s' c' v' w' x' y' at' table' list' ≡ said
    → (n ≡ n') × (s ≡ s') × (c ≡ c') × (v ≡ v') × (w ≡ w') × (x ≡ x') × (y ≡ y') × (at ≡ at') × (table ≡ table') × (list ≡ list')
plate-one said n s c v w at n' s' c' v' w' at' x y x' y' table list table' list' p q =
    let e = p ∙ sym q in (
      ap (λ (o : PlateSaid). o.number) e,
      ap (λ (o : PlateSaid). o.shots) e,
      ap (λ (o : PlateSaid). o.cost) e,
      ap (λ (o : PlateSaid). o.sliver) e,
      ap (λ (o : PlateSaid). o.cuts) e,
      ap (λ (o : PlateSaid). o.shift-x) e,
      ap (λ (o : PlateSaid). o.shift-y) e,
      ap (λ (o : PlateSaid). o.offset) e,
      ap (λ (o : PlateSaid). o.table) e,
      ap (λ (o : PlateSaid). o.list) e,
    )

pub join_one : (l : List ℕ) (t : List Joined) (n f n' f' : ℕ) (table table' : List Joined)
    → Promise l t (join_lent n f table) → Promise l t (join_lent n' f' table') → (n ≡ n') × (f ≡ f') × (table ≡ table')
join_one l t n f n' f' table table' p q =
    let e = join-settled l t (join_lent n f table) (join_lent n' f' table') p q in
    (ap (λ (o : JoinSaid). o.number) e, ap (λ (o : JoinSaid). o.flashes) e, ap (λ (o : JoinSaid). o.table) e)
