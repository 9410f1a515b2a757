-- Saving is refused exactly when the scope says so, by the first condition in its order, and then nothing is written. Assumes nothing.
--
--   head_exactly     == a header has a fault exactly when `HeadFault` says so
--   save_exactly     == saving tells r with the offset o exactly when that is its fault
--   save_accepted    == it tells 0 exactly when it has none
--   save_keeps       == beside a refusal the buffer is as it came in, and zeros stand beside its number and offset
use Prim.Native.Nat.{ℕ, suc, ◌≤◌}
use mathlib.Core.Path.{◌≡◌, ◌∙◌, refl, sym, ap, subst}
use mathlib.Core.Logic.{◌⊎◌, ◌↔◌, inl, inr}
use mathlib.Core.List.{List}
use mathlib.Core.Bool.{Bool, true, false, cond}
use native.Mathlib.Omega.{arith}
use lib.Dec.{leb, ltb}
use lib.ListN.{length}
use borrow.Author.Tests.{lt-leb, leb-false, ltb-true, ltb-false}
use Rattle.refusal.specs.declared.Refusal.{Refusal}
use Rattle.refusal.specs.declared.Refusal.TheVariants.{Long, Room}
use Rattle.refusal.specs.Refusals.{refusal_no}
use Rattle.rule.specs.Rules.{limit}
use Rattle.number.specs.Reading.{Reading, read, fault, and_then, past}
use Rattle.number.proofs.Reading.{past-fault}
use Rattle.job.specs.Job.{most_bytes, most_outlines, value, Header, header}
use Rattle.job.proofs.Job.{counted, weighed, heard}
use Rattle.job.proofs.Wanted.{one, follow, FollowTold, follow-told, legal_same, bad_follow}
use Rattle.index.proofs.Exactly.{exactly, accepted, keeps}
use Rattle.saving.specs.Salvage.{SaveSaid, kept_from, saved_bytes, unsaved, saved_as, saved_by, saved}
use Rattle.saving.specs.Faults.{head_wants, HeadFault, SaveFault, save_long, save_unread, save_room}
use Rattle.saving.proofs.Saves.{saves_long, to-saved}

module _ (s : List ℕ) where
  head-follow : past (header s) ≡ follow s head_wants 0
  unfolding header follow one
  head-follow = first (value s 0 limit 0)
    where
      third : (t w : ℕ) (u : Reading ℕ) → past (and_then u (counted s t w)) ≡ and_then (past u) (λ x n. read tt n)
      third t w (read k next) = refl
      third t w (fault r p) = refl

      second : (t : ℕ) (u : Reading ℕ) → past (and_then u (weighed s t))
          ≡ and_then (past u) (λ x q. and_then (past (value s 0 most_outlines q)) (λ y n. read tt n))
      second t (read w q) = third t w (value s 0 most_outlines q)
      second t (fault r p) = refl

      first : (u : Reading ℕ) → past (and_then u (heard s))
          ≡ and_then (past u) (λ x p. and_then (past (value s 0 limit p)) (λ y q. and_then (past (value s 0 most_outlines q)) (λ z n. read tt n)))
      first (read t p) = second t (value s 0 limit p)
      first (fault r p) = refl

  pub head_exactly : (r : Refusal) (o : ℕ) → (header s ≡ fault r o) ↔ HeadFault s r o
  unfolding HeadFault
  head_exactly r o = (
    (λ e.
        subst (FollowTold s head_wants 0) (sym head-follow ∙ ap past e) (follow-told s (suc (length s)) head_wants 0 (omega arith))),
    λ h. past-fault (header s) (sym (head-follow ∙ legal_same s h.3 ∙ bad_follow s h.1 h.2 h.0 r o h.4)),
  )

module _ (s out : List ℕ) where
  save_law : (r : Refusal) (o : ℕ) → SaveFault s out r o → saved s out ≡ unsaved (refusal_no r) o out
  save_law r o (save_long h) = sym (saves_long s out h)
  save_law r o (save_unread short h) = sym (to-saved s out short) ∙ ap (saved_by s out) ((head_exactly s r o).1 h)
  save_law r o (save_room {h} {first} short e few) =
      let b : List ℕ = saved_bytes s h first (kept_from s h.count first) in
      let p : saved_as s out h first (kept_from s h.count first) ≡ unsaved (refusal_no Room) 0 out = simp (lt-leb (length b) (length out) few) in
      sym (to-saved s out short) ∙ ap (saved_by s out) e ∙ p

  save_cases : ((r : Refusal) × (o : ℕ) × SaveFault s out r o) ⊎ ((saved s out).number ≡ 0)
  unfolding saved
  save_cases = go (ltb most_bytes (length s)) refl (header s) refl
    where
      fits : (h : Header) (first : ℕ) → header s ≡ read h first → length s ≤ 4096 → (b : Bool)
          → leb (length (saved_bytes s h first (kept_from s h.count first))) (length out) ≡ b → (u : SaveSaid) → u.number ≡ 0
          → ((r : Refusal) × (o : ℕ) × SaveFault s out r o) ⊎ ((cond b u (unsaved (refusal_no Room) 0 out)).number ≡ 0)
      fits h first e short true q u z = inr z
      fits h first e short false q u z =
          inl (Room, 0, save_room short e (leb-false (length (saved_bytes s h first (kept_from s h.count first))) (length out) q))

      go : (a : Bool) → ltb most_bytes (length s) ≡ a → (u : Reading Header) → header s ≡ u
          → ((r : Refusal) × (o : ℕ) × SaveFault s out r o) ⊎ ((cond a (unsaved (refusal_no Long) 0 out) (saved_by s out u)).number ≡ 0)
      go true p u e = inl (Long, 0, save_long (ltb-true most_bytes (length s) p))
      go false p (fault r o) e = inl (r, o, save_unread (ltb-false most_bytes (length s) p) ((head_exactly s r o).0 e))
      go false p (read h first) e =
          fits h first e (ltb-false most_bytes (length s) p) (leb (length (saved_bytes s h first (kept_from s h.count first))) (length out)) refl _ refl

  pub save_exactly : (r : Refusal) (o : ℕ) → (((saved s out).number ≡ refusal_no r) × ((saved s out).offset ≡ o)) ↔ SaveFault s out r o
  save_exactly =
      exactly (λ (u : SaveSaid). u.number) (λ (u : SaveSaid). u.offset) (λ n o. unsaved n o out) (λ n o. refl) (λ n o. refl)
      (SaveFault s out) (saved s out) save_law save_cases

  pub save_accepted : ((saved s out).number ≡ 0) ↔ ((r : Refusal) (o : ℕ) → SaveFault s out r o → ⊥)
  save_accepted =
      accepted (λ (u : SaveSaid). u.number) (λ (u : SaveSaid). u.offset) (λ n o. unsaved n o out) (λ n o. refl) (λ n o. refl)
      (SaveFault s out) (saved s out) save_law save_cases

  pub save_keeps : (r : Refusal) → (saved s out).number ≡ refusal_no r → saved s out ≡ unsaved (refusal_no r) (saved s out).offset out
  save_keeps =
      keeps (λ (u : SaveSaid). u.number) (λ (u : SaveSaid). u.offset) (λ n o. unsaved n o out) (λ n o. refl) (λ n o. refl)
      (SaveFault s out) (saved s out) save_law save_cases
