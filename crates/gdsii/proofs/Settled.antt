-- Each promise settles its call: two outcomes that satisfy it are equal, answer and lent memory. Assumes nothing.
--
--   boundary-settled, plate-settled  == for each call of the crate
use Prim.Native.Nat.{ℕ}
use mathlib.Core.Path.{◌≡◌, ◌∙◌, refl, sym, ap}
use mathlib.Core.List.{List}
use Rattle.refusal.proofs.Refusals.{refusal-one, never}
use Rattle.std.specs.Prelude.{Result, Ok, Err}
use Rattle.refusal.specs.declared.Fault.{Fault}
use Rattle.gdsii.specs.declared.Boundary.{Boundary}
use Rattle.gdsii.specs.declared.Plate.{Plate}
use Rattle.gdsii.specs.declared.Unplated.{Unplated}
use Rattle.gdsii.specs.Calls.{BoundarySaid, boundary_read, boundary_told, PlateSaid, boundary_fractured, plate_told}

boundary_same : (b d : Boundary) → b.corners ≡ d.corners → b.shift_x ≡ d.shift_x → b.shift_y ≡ d.shift_y → b ≡ d
boundary_same b d n x y = λ i. record { corners = n i; shift_x = x i; shift_y = y i }

boundary-one : (u v : Result Boundary Fault) (l m : List ℕ) → boundary_told u l ≡ boundary_told v m → u ≡ v
boundary-one (Ok b) (Ok d) l m e =
    ap (λ (x : Boundary). Ok x)
    (boundary_same b d (ap (λ (s : BoundarySaid). s.corners) e) (ap (λ (s : BoundarySaid). s.shift-x) e) (ap (λ (s : BoundarySaid). s.shift-y) e))
boundary-one (Ok b) (Err f) l m e = absurd (never f.why (ap (λ (s : BoundarySaid). s.number) e))
boundary-one (Err f) (Ok b) l m e = absurd (never f.why (sym (ap (λ (s : BoundarySaid). s.number) e)))
boundary-one (Err f) (Err g) l m e =
    let same : (p q : Fault) → p.why ≡ q.why → p.at ≡ q.at → p ≡ q = λ p q w t i. record { why = w i; at = t i } in
    ap (λ (x : Fault). Err x) (same f g (refusal-one f.why g.why (ap (λ (s : BoundarySaid). s.number) e)) (ap (λ (s : BoundarySaid). s.offset) e))

boundary-list : (u : Result Boundary Fault) (l : List ℕ) → (boundary_told u l).list ≡ l
boundary-list (Ok b) l = refl
boundary-list (Err f) l = refl

pub boundary-settled : (s l : List ℕ) (u v : Result Boundary Fault) (m m' : List ℕ) → boundary_told u m ≡ boundary_read s l
    → boundary_told v m' ≡ boundary_read s l → (u ≡ v) × (m ≡ m')
boundary-settled s l u v m m' e f =
    let g = e ∙ sym f in
    (boundary-one u v m m' g, sym (boundary-list u m) ∙ ap (λ (s : BoundarySaid). s.list) g ∙ boundary-list v m')

plate_same : (p q : Plate) → p.shots ≡ q.shots → p.cost ≡ q.cost → p.sliver ≡ q.sliver → p.cuts ≡ q.cuts → p.shift_x ≡ q.shift_x
    → p.shift_y ≡ q.shift_y → p ≡ q
plate_same p q a b d h f g = λ i. record { shots = a i; cost = b i; sliver = d i; cuts = h i; shift_x = f i; shift_y = g i }

none_same : (u v : Unplated) → u.why ≡ v.why → u.needed ≡ v.needed → u.at ≡ v.at → u ≡ v
none_same u v a b d = λ i. record { why = a i; needed = b i; at = d i }

plate-one : (u v : Result Plate Unplated) (t l t' l' : List ℕ) → plate_told u t l ≡ plate_told v t' l' → u ≡ v
plate-one (Ok p) (Ok q) t l t' l' e =
    ap (λ (x : Plate). Ok x)
    (plate_same p q (ap (λ (s : PlateSaid). s.shots) e) (ap (λ (s : PlateSaid). s.cost) e) (ap (λ (s : PlateSaid). s.sliver) e)
    (ap (λ (s : PlateSaid). s.cuts) e) (ap (λ (s : PlateSaid). s.shift-x) e) (ap (λ (s : PlateSaid). s.shift-y) e))
plate-one (Ok p) (Err u) t l t' l' e = absurd (never u.why (ap (λ (s : PlateSaid). s.number) e))
plate-one (Err u) (Ok p) t l t' l' e = absurd (never u.why (sym (ap (λ (s : PlateSaid). s.number) e)))
plate-one (Err u) (Err v) t l t' l' e =
    ap (λ (x : Unplated). Err x)
    (none_same u v (refusal-one u.why v.why (ap (λ (s : PlateSaid). s.number) e)) (ap (λ (s : PlateSaid). s.shots) e) (ap (λ (s : PlateSaid). s.offset) e))

plate_lists : (u : Result Plate Unplated) (t l : List ℕ) → ((plate_told u t l).table ≡ t) × ((plate_told u t l).list ≡ l)
plate_lists (Ok p) t l = (refl, refl)
plate_lists (Err u) t l = (refl, refl)

pub plate-settled : (s t l : List ℕ) (u v : Result Plate Unplated) (a a' b b' : List ℕ) → plate_told u a b ≡ boundary_fractured s t l
    → plate_told v a' b' ≡ boundary_fractured s t l → (u ≡ v) × (a ≡ a') × (b ≡ b')
plate-settled s t l u v a a' b b' e f =
    let g = e ∙ sym f in
    let p = plate_lists u a b in
    let q = plate_lists v a' b' in (
      plate-one u v a b a' b' g,
      sym p.0 ∙ ap (λ (s : PlateSaid). s.table) g ∙ q.0,
      sym p.1 ∙ ap (λ (s : PlateSaid). s.list) g ∙ q.1,
    )
