-- Once round from another start, or the other way: every sum over the links is the same. Assumes nothing.
use Prim.Native.Nat.{ℕ}
use mathlib.Core.Path.{◌≡◌, refl, sym, ◌∙◌, ap, ap₂}
use mathlib.Core.List.{List, [], ◌∷◌, ◌++◌, map, reverse, reverse-cons}
use native.Mathlib.Omega.{arith}
use Rattle.sum.specs.Sum.{sum_of}
use Rattle.sum.proofs.Lists.{sum_of-append, sum_of-same, sum_of-map, All-all}
use Rattle.figure.specs.Corners.{Link, last, steps, around}

module _ {A : Type 0} where
  abbrev pub link : A → A → Link A
  link p q = record { from = p; to = q }

  abbrev pub flip : Link A → Link A
  flip e = link e.to e.from

  last_end : (p : A) (l : List A) (q : A) → last p (l ++ q ∷ []) ≡ q
  unfolding last
  last_end p [] q = refl
  last_end p (a ∷ l) q = last_end a l q

  steps-end : (p : A) (l : List A) (q : A) → steps p (l ++ q ∷ []) ≡ steps p l ++ (link (last p l) q ∷ [])
  unfolding steps last
  steps-end p [] q = refl
  steps-end p (a ∷ l) q = ap (λ m. link p a ∷ m) (steps-end a l q)

  -- the ring that starts one corner later
  around-end : (s : A) (l : List A) → around (l ++ s ∷ []) ≡ steps s (l ++ s ∷ [])
  unfolding around last steps
  around-end s [] = refl
  around-end s (a ∷ l) = ap (λ p. steps p (a ∷ (l ++ s ∷ []))) (last_end a l s)

  pub around_later : (s : A) (l : List A) → around (l ++ s ∷ []) ≡ steps s l ++ (link (last s l) s ∷ [])
  around_later s l = around-end s l ∙ steps-end s l s

  pub around-first : (s : A) (l : List A) → around (s ∷ l) ≡ link (last s l) s ∷ steps s l
  unfolding around steps
  around-first s l = refl

  module _ (g : Link A → ℕ) where
    pub start_sum : (s : A) (l : List A) → sum_of g (around (l ++ s ∷ [])) ≡ sum_of g (around (s ∷ l))
    unfolding sum_of
    start_sum s l =
        ap (sum_of g) (around_later s l)
        ∙ omega (arith, sum_of-append g (steps s l) (link (last s l) s ∷ []), ap (sum_of g) (around-first s l))

    module _ (fair : (e : Link A) → g (flip e) ≡ g e) where
      -- there and back
      back_sum : (p q : A) (l : List A) → sum_of g (steps p (reverse l ++ q ∷ [])) ≡ sum_of g (steps q (l ++ p ∷ []))
      unfolding steps sum_of last
      back_sum p q [] = omega (arith, fair (link q p))
      back_sum p q (a ∷ l) =
          ap (λ m. sum_of g (steps p (m ++ q ∷ []))) (reverse-cons a l)
          ∙ ap (sum_of g) (steps-end p (reverse l ++ a ∷ []) q)
          ∙ sum_of-append g (steps p (reverse l ++ a ∷ [])) (link (last p (reverse l ++ a ∷ [])) q ∷ [])
          ∙ omega (arith, back_sum p a l, ap (λ z. g (link z q)) (last_end p (reverse l) a), fair (link q a))

      pub way_sum : (l : List A) → sum_of g (around (reverse l)) ≡ sum_of g (around l)
      way_sum [] = refl
      way_sum (s ∷ l) =
          ap (λ m. sum_of g (around m)) (reverse-cons s l)
          ∙ ap (sum_of g) (around-end s (reverse l))
          ∙ back_sum s s l
          ∙ sym (ap (sum_of g) (around-end s l))
          ∙ start_sum s l

  -- the links of the way back are the links, each turned round, in the other order
  back_links : (p q : A) (l : List A) → steps p (reverse l ++ q ∷ []) ≡ reverse (map flip (steps q (l ++ p ∷ [])))
  unfolding steps last
  back_links p q [] = refl
  back_links p q (a ∷ l) =
      ap (λ m. steps p (m ++ q ∷ [])) (reverse-cons a l)
      ∙ steps-end p (reverse l ++ a ∷ []) q
      ∙ ap₂ (λ m z. m ++ (link z q ∷ [])) (back_links p a l) (last_end p (reverse l) a)
      ∙ sym (reverse-cons (link a q) (map flip (steps a (l ++ p ∷ []))))

module _ {A B : Type 0} (f : A → B) where
  abbrev pub each : Link A → Link B
  each e = link (f e.from) (f e.to)

  last-map : (p : A) (l : List A) → last (f p) (map f l) ≡ f (last p l)
  unfolding last
  last-map p [] = refl
  last-map p (a ∷ l) = last-map a l

  steps_map : (p : A) (l : List A) → steps (f p) (map f l) ≡ map each (steps p l)
  unfolding steps
  steps_map p [] = refl
  steps_map p (a ∷ l) = ap (λ m. link (f p) (f a) ∷ m) (steps_map a l)

  pub around-map : (l : List A) → around (map f l) ≡ map each (around l)
  unfolding around steps
  around-map [] = refl
  around-map (s ∷ l) = ap (λ p. steps p (f s ∷ map f l)) (last-map s l) ∙ steps_map (last s l) (s ∷ l)

-- each link with the next
module _ {A : Type 0} (h : Link (Link A) → ℕ) where
  pub start-sums : (s : A) (l : List A) → sum_of h (around (around (l ++ s ∷ []))) ≡ sum_of h (around (around (s ∷ l)))
  start-sums s l =
      ap (λ m. sum_of h (around m)) (around_later s l)
      ∙ start_sum h (link (last s l) s) (steps s l)
      ∙ sym (ap (λ m. sum_of h (around m)) (around-first s l))

  module _ (fair : (t : Link (Link A)) → h (flip t) ≡ h t) (turned : (t : Link (Link A)) → h (each flip t) ≡ h t) where
    pub way-sums : (l : List A) → sum_of h (around (around (reverse l))) ≡ sum_of h (around (around l))
    way-sums [] = refl
    way-sums (s ∷ l) =
        ap (λ m. sum_of h (around (around m))) (reverse-cons s l)
        ∙ ap (λ m. sum_of h (around m)) (around-end s (reverse l) ∙ back_links s s l)
        ∙ way_sum h fair (map flip (steps s (l ++ s ∷ [])))
        ∙ ap (sum_of h) (around-map flip (steps s (l ++ s ∷ [])))
        ∙ sum_of-map h (each flip) (around (steps s (l ++ s ∷ [])))
        ∙ sum_of-same (λ t. h (each flip t)) h (around (steps s (l ++ s ∷ []))) (All-all turned (around (steps s (l ++ s ∷ []))))
        ∙ sym (ap (λ m. sum_of h (around m)) (around-end s l))
        ∙ start-sums s l
