-- The promise settles the call, and what it says in words. Assumes nothing.
--
--   edge-settled         == two outcomes that keep the promise are equal, answer and lent buffer
--   edge_decided         == the answer to every input: 2 to 5, the figure's own refusal; 21, where the list of shots is bad; 23, where there
--                           is no such edge; 14, where the buffer is too short for the runs; else the runs
--   edge-beyond          == behind the four numbers of each run every number of the buffer is as it came in, and all of them beside a refusal
--   runs_of_edge         == the runs share out the edge, each says where its stretches end up, neighbours differ, and no other list does so
use Rattle.std.specs.Prelude.{Result, Ok, Err}
use Prim.Native.Nat.{ℕ, ◌+◌, ◌*◌, ◌-◌, ◌≤◌, ◌<◌}
use mathlib.Core.Path.{◌≡◌, ◌∙◌, refl, sym, ap, subst}
use mathlib.Core.Bool.{Bool, true, false, cond}
use mathlib.Core.List.{List}
use native.Mathlib.Omega.{arith}
use lib.Dec.{ltb, eqb}
use lib.ListN.{length, get_or}
use borrow.Author.Tests.{eqb-true, eqb-false, ltb-true, ltb-false}
use Rattle.refusal.specs.declared.Refusal.{Refusal}
use Rattle.refusal.proofs.Refusals.{refusal-one, never}
use Rattle.figure.specs.Corners.{Corner, Link}
use Rattle.figure.specs.Figure.{Figure, corners_of}
use Rattle.figure.specs.Inside.{inside_at}
use Rattle.outline.specs.Promise.{refusal}
use Rattle.shot.specs.Shot.{Shot, shots_in}
use Rattle.shot.specs.Bad.{bad_shots}
use Rattle.shot.proofs.Bad.{Good, Bad, good-shots, bad_shots_lem}
use Rattle.demands.specs.Promise.{written}
use Rattle.demands.proofs.Outcome.{written-past}
use Rattle.edge.specs.Edge.{across, stands_at, low_along, high_along, low, high, edge_at}
use Rattle.edge.specs.Landing.{Run, landing, edge_runs}
use Rattle.edge.specs.Promise.{EdgeSaid, run_numbers, unwalked, handed, edge_walked, edge_told}
use Rattle.edge.proofs.Runs.{Right, runs-right, runs_unique}
use Rattle.edge.proofs.Writing.{run-numbers-length}

edge-one : (u v : Result ℕ Refusal) (l m : List ℕ) → edge_told u l ≡ edge_told v m → u ≡ v
edge-one (Ok n) (Ok m) l l' e = ap Ok (ap (λ (s : EdgeSaid). s.count) e)
edge-one (Ok n) (Err r) l l' e = absurd (never r (ap (λ (s : EdgeSaid). s.number) e))
edge-one (Err r) (Ok n) l l' e = absurd (never r (sym (ap (λ (s : EdgeSaid). s.number) e)))
edge-one (Err r) (Err q) l l' e = ap Err (refusal-one r q (ap (λ (s : EdgeSaid). s.number) e))

edge-runs : (u : Result ℕ Refusal) (l : List ℕ) → (edge_told u l).runs ≡ l
edge-runs (Ok n) l = refl
edge-runs (Err r) l = refl

pub edge-settled : (f : Figure) (k : ℕ) (shots old : List ℕ) (u v : Result ℕ Refusal) (l m : List ℕ) → edge_told u l ≡ edge_walked f k shots old
    → edge_told v m ≡ edge_walked f k shots old → (u ≡ v) × (l ≡ m)
edge-settled f k shots old u v l m e g =
    let h = e ∙ sym g in
    (edge-one u v l m h, sym (edge-runs u l) ∙ ap (λ (s : EdgeSaid). s.runs) h ∙ edge-runs v m)

module _ (f : Figure) (k : ℕ) (shots old : List ℕ) where
  abbrev said : EdgeSaid
  said = edge_walked f k shots old

  abbrev rs : List Run
  rs = edge_runs (inside_at f) (shots_in shots) (edge_at f k)

  abbrev done : EdgeSaid
  done = record { number = 0; count = length rs; runs = written (run_numbers rs) old }

  pub data Decided : Type 0 where
    by-figure : (refusal f ≡ 0 → ⊥) → said ≡ unwalked (refusal f) old → Decided
    by-shots : refusal f ≡ 0 → Bad shots → said ≡ unwalked 21 old → Decided
    by-edge : refusal f ≡ 0 → Good shots → length (corners_of f) ≤ k → said ≡ unwalked 23 old → Decided
    by-room : refusal f ≡ 0 → Good shots → k < length (corners_of f) → length old < 4 * length rs → said ≡ unwalked 14 old → Decided
    walked : refusal f ≡ 0 → Good shots → k < length (corners_of f) → 4 * length rs ≤ length old
        → said ≡ done → Decided

  pub edge_decided : Decided
  edge_decided = figured (eqb (refusal f) 0) refl
    where
      roomed : refusal f ≡ 0 → Good shots → k < length (corners_of f) → said ≡ handed rs old → (b : Bool) → ltb (length old) (4 * length rs) ≡ b → Decided
      roomed e g h s true z = by-room e g h (ltb-true _ _ z) (s ∙ (unfold handed in ap (λ b. cond b (unwalked 14 old) done) z))
      roomed e g h s false z = walked e g h (ltb-false _ _ z) (s ∙ (unfold handed in ap (λ b. cond b (unwalked 14 old) done) z))

      edged : refusal f ≡ 0 → Good shots → said ≡ cond (ltb k (length (corners_of f))) (handed rs old) (unwalked 23 old)
          → (b : Bool) → ltb k (length (corners_of f)) ≡ b → Decided
      edged e g s true z = roomed e g (ltb-true _ _ z) (s ∙ ap (λ b. cond b (handed rs old) (unwalked 23 old)) z) (ltb (length old) (4 * length rs)) refl
      edged e g s false z = by-edge e g (ltb-false _ _ z) (s ∙ ap (λ b. cond b (handed rs old) (unwalked 23 old)) z)

      shot : refusal f ≡ 0
          → said ≡ cond (bad_shots shots) (unwalked 21 old) (cond (ltb k (length (corners_of f))) (handed rs old) (unwalked 23 old))
          → (b : Bool) → bad_shots shots ≡ b → Decided
      shot e s true z =
          by-shots e (bad_shots_lem shots z)
          (s ∙ ap (λ b. cond b (unwalked 21 old) (cond (ltb k (length (corners_of f))) (handed rs old) (unwalked 23 old))) z)
      shot e s false z =
          edged e (good-shots shots z)
          (s ∙ ap (λ b. cond b (unwalked 21 old) (cond (ltb k (length (corners_of f))) (handed rs old) (unwalked 23 old))) z)
          (ltb k (length (corners_of f))) refl

      figured : (b : Bool) → eqb (refusal f) 0 ≡ b → Decided
      figured true z =
          shot (eqb-true _ _ z)
          (unfold edge_walked in
          ap
          (λ b.
          cond b (cond (bad_shots shots) (unwalked 21 old) (cond (ltb k (length (corners_of f))) (handed rs old) (unwalked 23 old))) (unwalked (refusal f) old))
          z)
          (bad_shots shots) refl
      figured false z =
          by-figure (eqb-false _ _ z)
          (unfold edge_walked in
          ap
          (λ b.
          cond b (cond (bad_shots shots) (unwalked 21 old) (cond (ltb k (length (corners_of f))) (handed rs old) (unwalked 23 old))) (unwalked (refusal f) old))
          z)

  -- nothing is written beside a refusal, which tells of no run
  pub edge-beyond : (i : ℕ) → 4 * said.count ≤ i → get_or said.runs i 0 ≡ get_or old i 0
  edge-beyond i h = go edge_decided
    where
      go : Decided → get_or said.runs i 0 ≡ get_or old i 0
      go (by-figure r e) = ap (λ (u : EdgeSaid). get_or u.runs i 0) e
      go (by-shots r b e) = ap (λ (u : EdgeSaid). get_or u.runs i 0) e
      go (by-edge r g p e) = ap (λ (u : EdgeSaid). get_or u.runs i 0) e
      go (by-room r g p q e) = ap (λ (u : EdgeSaid). get_or u.runs i 0) e
      go (walked r g p q e) =
          ap (λ (u : EdgeSaid). get_or u.runs i 0) e
          ∙ written-past (run_numbers rs) old i (omega (arith, h, run-numbers-length rs, ap (λ (u : EdgeSaid). u.count) e))

-- the runs of an edge, in words: they share it out, say what each of its stretches ends up on, and neighbours differ; no other list does so
pub runs_of_edge : (F : ℕ → ℕ → Bool) (l : List Shot) (e : Link Corner)
    → Right (landing (across e) F l (stands_at e)) (low e) (high e) (edge_runs F l e)
    × ((q : List Run) → Right (landing (across e) F l (stands_at e)) (low e) (high e) q → q ≡ edge_runs F l e)
unfolding edge_runs low high low_along high_along
runs_of_edge F l e =
    let z : low e + (high e - low e) ≡ high e = omega arith in
    let r = subst (λ m. Right (landing (across e) F l (stands_at e)) (low e) m (edge_runs F l e)) z (runs-right (landing (across e) F l (stands_at e)) (low e) (high e - low e)) in
    (r, λ q h. runs_unique (landing (across e) F l (stands_at e)) (low e) (high e) q (edge_runs F l e) h r)
