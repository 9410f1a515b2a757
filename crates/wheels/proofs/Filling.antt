-- Laws of the pinwheel fill. Assumes nothing.
--
--   ground, all_fit              == the store has all narrower strips; the five costs of a pinwheel fit together
--   asks_wheels, wheel-start, asks_keep, kept_on
--                                == what the steps of a width ask and tell in the pinwheel mode
--   asks_by, start-by, asks_keep_by, kept_by, room_at, small-room, large_room
--                                == and in either mode; the sizes of the two stores
--   wheel_prices                 == the costs are prices where the vertical cuts and the pinwheels are weighed
use Rattle.std.proofs.Common.{◌≡◌, ℕ, ◌+◌, ◌-◌, ◌*◌, ◌<◌, ◌≤◌, ◌⊎◌, List, length, get_or, sym, refl, ◌∙◌, subst, ap₂, inl, inr, mul-le-mul_right, mul-le-mul, arith}
use Rattle.sum.specs.Sum.{sum_of, All}
use Rattle.sum.proofs.Sum.{le-or}
use Rattle.recurrence.specs.Scheme.{mixed}
use Rattle.outline.specs.Grid.{Grid, Sound, Drawn, stored}
use Rattle.rule.specs.declared.Rule.{Rule}
use Rattle.rule.specs.Rules.{limit}
use Rattle.piece.specs.declared.Mode.{Mode}
use Rattle.piece.specs.declared.Mode.TheVariants.{Straight, Pinwheel}
use Rattle.piece.specs.declared.Turn.{Turn}
use Rattle.piece.specs.declared.Turn.TheVariants.{First, Second}
use Rattle.piece.specs.Piece.{box, most_cost, cells, kind, inside_cells, charge}
use Rattle.piece.specs.Cuts.{Cut, vertical, horizontal, wheel, cuts, parts, Inner, CutOf, cost}
use Rattle.piece.proofs.Cuts.{cuts-all, cuts-at, cost-cuts, across_vertical, across_horizontal}
use Rattle.piece.proofs.Bound.{parts-most, cost-most}
use Rattle.table.specs.Entry.{pair_count, pair_no}
use Rattle.table.specs.Run.{Wrote, Lowest}
use Rattle.table.specs.Cuts.{uncut, Judged}
use Rattle.table.specs.Fill.{Ready}
use Rattle.table.proofs.Entry.{pair_same, count-closed}
use Rattle.table.proofs.Pairs.{row_before}
use Rattle.table.proofs.Judging.{judged-cost}
use Rattle.tally.specs.Sums.{Grown, Flanked, Widths}
use Rattle.strips.specs.Chunk.{listed}
use Rattle.strips.specs.Lanes as strips
use Rattle.widths.specs.Lane.{spot}
use Rattle.widths.specs.Price.{sheet, Done, Priced}
use Rattle.widths.proofs.Lane.{pairs_small}
use Rattle.widths.proofs.Fill.{FilledBelow, State, price_of, priced-start, straight-start, vertical as vertical-least, as_before}
use Rattle.wheels.specs.declared.lanes.Strips.{Strips}
use Rattle.wheels.specs.Wheel.{arm_at, rest_at, Weighed, Among, WheelsFrom, EndsAt, Turned, first_arms, second_arms, BothTurns, FromTo, OfLine, Wheeled, Ground, FitsAt, Fitting, AllFit, WeighedBy, WroteBy}
use Rattle.wheels.proofs.Costs.{Kept, kept_more, first-total, second-total}

module _ (g : Grid) (r : Rule) (sound : Sound g) (hw : r.weight ≤ limit) (pairs : ℕ) (e : pairs ≡ pair_count g.rows) (w : ℕ) (some : 1 ≤ w) (most : w ≤ g.columns)
    (store : List ℕ) (kept : Kept (cost Pinwheel g r) g.columns g.rows pairs w store) (count : ℕ) (ec : count ≡ g.columns + 1 - w) where
  abbrev s : Strips
  s = record { rows = g.rows; pairs = pairs; width = w; count = count }

  pub ground : Ground s store
  ground =
      record {
        rows-some = sound.rows-some;
        rows-most = sound.rows-most;
        width_some = some;
        width-most = omega (arith, sound.columns-most);
        pairs-all = e;
        count_most = omega (arith, sound.columns-most);
        room = omega (arith, kept.room, mul-le-mul_right pairs most);
      }

  -- what the parts of a pinwheel cost
  abbrev total : Turn → ℕ → ℕ → ℕ → ℕ → ℕ → ℕ → ℕ → ℕ
  total t a b d j l k m = sum_of (cost Pinwheel g r) (parts (box a (a + w) b d) (wheel t j l k m))

  total-most : (t : Turn) (a b d j l k m : ℕ) → a + w ≤ g.columns → d ≤ g.rows → Inner (box a (a + w) b d) j l k m → total t a b d j l k m ≤ most_cost
  total-most t a b d j l k m aw dy h =
      cuts-at Pinwheel (λ c. sum_of (cost Pinwheel g r) (parts (box a (a + w) b d) c) ≤ most_cost) (box a (a + w) b d)
      (parts-most Pinwheel g r sound (box a (a + w) b d) (omega arith) aw (omega (arith, h.bk, h.km, h.md)) dy hw)
      (wheel t j l k m)
      (refl, h)

  pub all_fit : AllFit store s
  unfolding AllFit Fitting FitsAt
  all_fit line k m l0 lw k0 km mr = (
    λ d md dr b a x bk ac x0 xl.
        omega (
          arith,
          first-total g r pairs w store kept count a b d x line k m (omega arith) x0 xl lw bk km md dr,
          total-most First a b d (a + x) (a + line) k m (omega arith) dr
              (record { aj = omega arith; jl = omega arith; lc = omega arith; bk = bk; km = km; md = md }),
        ),
    λ d md dr b a x bk ac lx xw.
        omega (
          arith,
          second-total g r pairs w store kept count a b d x line k m (omega arith) l0 lx xw bk km md dr,
          total-most Second a b d (a + line) (a + x) k m (omega arith) dr
              (record { aj = omega arith; jl = omega arith; lc = omega arith; bk = bk; km = km; md = md }),
        ),
  )

  -- the pinwheels are weighed
  module _ (made low : List ℕ) (weighed : Weighed count (Wheeled store s) made low) where
    first-weighed : (a b d x line k m : ℕ) → a + w ≤ g.columns → 0 < x → x < line → line < w → b < k → k < m → m < d → d ≤ g.rows
        → get_or low (spot g.rows a b d) 0 ≤ total First a b d (a + x) (a + line) k m
    unfolding spot Wheeled OfLine FromTo BothTurns Turned EndsAt WheelsFrom Among
    first-weighed a b d x line k m aw x0 xl lw bk km md dy =
        omega (
          arith,
          first-total g r pairs w store kept count a b d x line k m aw x0 xl lw bk km md dy,
          weighed.under (pair_no g.rows b d) a (arm_at store s (first_arms s line k m) b a + rest_at store s (first_arms s line k m) d a x) (omega arith)
              (line, omega arith, lw, (k, omega arith, omega arith, (m, omega arith, omega arith, inl (d, omega arith, omega arith, (b, omega arith, bk, (x, x0, xl, refl, refl)))))),
        )

    second-weighed : (a b d x line k m : ℕ) → a + w ≤ g.columns → 0 < line → line < x → x < w → b < k → k < m → m < d → d ≤ g.rows
        → get_or low (spot g.rows a b d) 0 ≤ total Second a b d (a + line) (a + x) k m
    unfolding spot Wheeled OfLine FromTo BothTurns Turned EndsAt WheelsFrom Among
    second-weighed a b d x line k m aw l0 lx xw bk km md dy =
        omega (
          arith,
          second-total g r pairs w store kept count a b d x line k m aw l0 lx xw bk km md dy,
          weighed.under (pair_no g.rows b d) a (arm_at store s (second_arms s line k m) b a + rest_at store s (second_arms s line k m) d a x) (omega arith)
              (line, omega arith, omega arith, (k, omega arith, omega arith, (m, omega arith, omega arith, inr (d, omega arith, omega arith, (b, omega arith, bk, (x, lx, xw, refl, refl)))))),
        )

    wheel-under : (t : Turn) (a b d j l k m : ℕ) → a + w ≤ g.columns → d ≤ g.rows → Inner (box a (a + w) b d) j l k m
        → get_or low (spot g.rows a b d) 0 ≤ total t a b d j l k m
    wheel-under First a b d j l k m aw dy h =
        let ej : a + (j - a) ≡ j = omega (arith, h.aj) in
        let el : a + (l - a) ≡ l = omega (arith, h.aj, h.jl) in
        omega (
          arith,
          first-weighed a b d (j - a) (l - a) k m aw (omega (arith, h.aj)) (omega (arith, h.aj, h.jl)) (omega (arith, h.lc)) h.bk h.km h.md dy,
          ap₂ (λ i n. total First a b d i n k m) ej el,
        )
    wheel-under Second a b d j l k m aw dy h =
        let ej : a + (j - a) ≡ j = omega (arith, h.aj) in
        let el : a + (l - a) ≡ l = omega (arith, h.aj, h.jl) in
        omega (
          arith,
          second-weighed a b d (l - a) (j - a) k m aw (omega (arith, h.aj)) (omega (arith, h.aj, h.jl)) (omega (arith, h.lc)) h.bk h.km h.md dy,
          ap₂ (λ i n. total Second a b d i n k m) ej el,
        )

    -- no less than a number that is at most all of them
    wheel-above : (a b d n : ℕ) → a + w ≤ g.columns → b < d → d ≤ g.rows → n ≤ get_or made (spot g.rows a b d) 0
        → ((t : Turn) (j l k m : ℕ) → Inner (box a (a + w) b d) j l k m → n ≤ total t a b d j l k m)
        → n ≤ get_or low (spot g.rows a b d) 0
    unfolding spot Wheeled OfLine FromTo BothTurns Turned EndsAt WheelsFrom Among
    wheel-above a b d n aw bd dy h each =
        weighed.above (pair_no g.rows b d) a n (omega arith) h
        (λ v z. one v z.0 z.3.0 z.3.3.0 z.1 z.2 z.3.1 z.3.3.1 z.3.3.2 z.3.3.3)
      where
        same : (b' d' : ℕ) → b' < d' → d' ≤ g.rows → pair_no g.rows b d ≡ pair_no g.rows b' d' → (b ≡ b') × (d ≡ d')
        same b' d' p q z = pair_same g.rows b d b' d' bd dy p q z

        one : (v line k m : ℕ) → 1 ≤ line → line < w → 1 ≤ k → k + 1 ≤ m → m < g.rows → BothTurns store s line k m (pair_no g.rows b d) a v → n ≤ v
        one v line k m l0 lw k0 km mr (inl z) =
            let d' = z.0 in
            let b' = z.3.0 in
            let x = z.3.3 in
            let q = same b' d' (omega (arith, z.1, z.3.2)) (omega (arith, z.2)) x.3 in
            omega (
              arith,
              x.4,
              first-total g r pairs w store kept count a b' d' x.0 line k m aw x.1 x.2 lw z.3.2 (omega arith) (omega (arith, z.1)) (omega (arith, z.2)),
              ap₂ (λ i j. total First a i j (a + x.0) (a + line) k m) q.0 q.1,
              each First (a + x.0) (a + line) k m
                  (record { aj = omega (arith, x.1); jl = omega (arith, x.2); lc = omega arith; bk = omega (arith, q.0, z.3.2); km = omega arith; md = omega (arith, q.1, z.1) }),
            )
        one v line k m l0 lw k0 km mr (inr z) =
            let d' = z.0 in
            let b' = z.3.0 in
            let x = z.3.3 in
            let q = same b' d' (omega (arith, z.1, z.3.2)) (omega (arith, z.2)) x.3 in
            omega (
              arith,
              x.4,
              second-total g r pairs w store kept count a b' d' x.0 line k m aw (omega arith) x.1 x.2 z.3.2 (omega arith) (omega (arith, z.1)) (omega (arith, z.2)),
              ap₂ (λ i j. total Second a i j (a + line) (a + x.0) k m) q.0 q.1,
              each Second (a + line) (a + x.0) k m
                  (record { aj = omega arith; jl = omega (arith, x.1); lc = omega (arith, x.2); bk = omega (arith, q.0, z.3.2); km = omega arith; md = omega (arith, q.1, z.1) }),
            )

    -- a mixed piece: the least of its vertical cuts, its pinwheels and its horizontal cuts
    settles : (a b d best v : ℕ) → a + w ≤ g.columns → b < d → d ≤ g.rows
        → Lowest (λ j. cost Pinwheel g r (box a j b d) + cost Pinwheel g r (box j (a + w) b d)) a (a + w) uncut (get_or made (spot g.rows a b d) 0)
        → Lowest (λ k. cost Pinwheel g r (box a (a + w) b k) + cost Pinwheel g r (box a (a + w) k d)) b d (get_or low (spot g.rows a b d) 0) best
        → Judged (inside_cells g (box a (a + w) b d)) (cells (box a (a + w) b d)) (charge g r (box a (a + w) b d)) best v
        → v ≡ cost Pinwheel g r (box a (a + w) b d)
    settles a b d best v aw bd dy x y j = judged-cost Pinwheel g r (box a (a + w) b d) _ _ _ best v refl refl refl (λ z. (floor z y.one, all)) j
      where
        each : (k : Cut) → CutOf Pinwheel (box a (a + w) b d) k → best ≤ sum_of (cost Pinwheel g r) (parts (box a (a + w) b d) k)
        each (vertical j) h =
            omega (
              arith,
              y.first,
              weighed.below (spot g.rows a b d),
              x.each j h.0 h.1,
              across_vertical Pinwheel g r (box a (a + w) b d) j,
            )
        each (horizontal j) h = omega (arith, y.each j h.0 h.1, across_horizontal Pinwheel g r (box a (a + w) b d) j)
        each (wheel t j l k m) h = omega (arith, y.first, wheel-under t a b d j l k m aw dy h.1)

        all : All (λ k. best ≤ sum_of (cost Pinwheel g r) (parts (box a (a + w) b d) k)) (cuts Pinwheel (box a (a + w) b d))
        all = cuts-all Pinwheel (λ k. best ≤ sum_of (cost Pinwheel g r) (parts (box a (a + w) b d) k)) (box a (a + w) b d) each

        at_most : kind g (box a (a + w) b d) ≡ mixed → (k : Cut) → CutOf Pinwheel (box a (a + w) b d) k
            → cost Pinwheel g r (box a (a + w) b d) ≤ sum_of (cost Pinwheel g r) (parts (box a (a + w) b d) k)
        at_most z = cuts-at Pinwheel (λ k. cost Pinwheel g r (box a (a + w) b d) ≤ sum_of (cost Pinwheel g r) (parts (box a (a + w) b d) k)) (box a (a + w) b d) (cost-cuts Pinwheel g r (box a (a + w) b d) z)

        first_floor : kind g (box a (a + w) b d) ≡ mixed
            → (get_or made (spot g.rows a b d) 0 ≡ uncut)
            ⊎ ((j : ℕ) × (a < j) × (j < a + w) × (get_or made (spot g.rows a b d) 0 ≡ cost Pinwheel g r (box a j b d) + cost Pinwheel g r (box j (a + w) b d)))
            → cost Pinwheel g r (box a (a + w) b d) ≤ get_or made (spot g.rows a b d) 0
        first_floor z (inl i) = omega (arith, cost-most Pinwheel g r sound (box a (a + w) b d) (omega arith) aw (omega arith) dy hw)
        first_floor z (inr i) = omega (arith, i.3, at_most z (vertical i.0) (i.1, i.2), across_vertical Pinwheel g r (box a (a + w) b d) i.0)

        floor : kind g (box a (a + w) b d) ≡ mixed
            → (best ≡ get_or low (spot g.rows a b d) 0)
            ⊎ ((k : ℕ) × (b < k) × (k < d) × (best ≡ cost Pinwheel g r (box a (a + w) b k) + cost Pinwheel g r (box a (a + w) k d)))
            → cost Pinwheel g r (box a (a + w) b d) ≤ best
        floor z (inl i) =
            omega (
              arith,
              wheel-above a b d (cost Pinwheel g r (box a (a + w) b d)) aw bd dy (first_floor z x.one) (λ t j l k m h. at_most z (wheel t j l k m) (refl, h)),
            )
        floor z (inr i) = omega (arith, i.3, at_most z (horizontal i.0) (i.1, i.2), across_horizontal Pinwheel g r (box a (a + w) b d) i.0)

    pub wheel_prices : (xs ys cs : List ℕ) → Drawn g xs ys cs → (t side sums wide : List ℕ) → FilledBelow (cost Pinwheel g r) g w t
        → Grown g w sums → Flanked g w sums → Widths g w wide
        → strips.Weighed g.columns (pair_count g.rows) w t side made
        → ((a p q : ℕ) → a < 16 → p < q → q ≤ g.rows → get_or side (spot g.rows a p q) 0 ≤ most_cost)
        → Priced (price_of Pinwheel g r w) (sheet sums wide ys r g.rows w count) low g.rows (g.rows + 1)
    wheel_prices xs ys cs drawn t side sums wide f grown flanked widths cut cheap =
        priced-start Pinwheel g r xs ys cs sound drawn hw w some most t f sums wide grown flanked widths low count ec
        (λ a p q best v l pq qr lowest j. settles a p q best v l pq qr (vertical-least Pinwheel g r xs ys cs sound drawn hw w some most t f side made cut a p q l pq qr) lowest j)
        (λ a p q z i pq qr.
        omega (
          arith,
          weighed.below (spot g.rows a p q),
          as_before Pinwheel g r xs ys cs sound drawn hw w some most t f side made cut a p q z i,
          cheap a p q i pq qr,
        ))

-- what the steps of a width ask and tell, of the grid that lies in memory
module _ (columns rows : ℕ) (xs ys cs : List ℕ) (r : Rule) (t₀ : List ℕ) (ready : Ready (stored columns rows xs ys cs) r xs ys cs t₀)
    (w : ℕ) (some : 1 ≤ w) (most : w ≤ columns) (t side : List ℕ) (state : State Pinwheel (stored columns rows xs ys cs) r w t₀ t side) (pairs : ℕ) (e : pairs ≡ pair_count rows)
    (store : List ℕ) (kept : Kept (cost Pinwheel (stored columns rows xs ys cs) r) columns rows pairs w store) (count : ℕ) (ec : count ≡ columns + 1 - w) where
  pub asks_wheels : (made : List ℕ) → strips.Weighed columns pairs w t side made
      → (Ground (record { rows = rows; pairs = pairs; width = w; count = count }) store × (length made ≡ 1920)) × AllFit store (record { rows = rows; pairs = pairs; width = w; count = count })
  unfolding stored
  asks_wheels made cut = (
    (ground (stored columns rows xs ys cs) r ready.sound ready.weight-most pairs e w some most store kept count ec, cut.long ∙ state.side-long),
    all_fit (stored columns rows xs ys cs) r ready.sound ready.weight-most pairs e w some most store kept count ec,
  )

  pub wheel-start : (sums wide : List ℕ) → Grown (stored columns rows xs ys cs) w sums × Flanked (stored columns rows xs ys cs) w sums → Widths (stored columns rows xs ys cs) w wide
      → (made : List ℕ) → strips.Weighed columns pairs w t side made
      → (low : List ℕ) → Weighed count (Wheeled store (record { rows = rows; pairs = pairs; width = w; count = count })) made low
      → Priced (price_of Pinwheel (stored columns rows xs ys cs) r w) (sheet sums wide ys r rows w count) low rows (rows + 1)
  unfolding stored
  wheel-start sums wide grown widths made cut low weighed =
      wheel_prices (stored columns rows xs ys cs) r ready.sound ready.weight-most pairs e w some most store kept count ec made low weighed xs ys cs ready.drawn t side sums wide state.filled grown.0 grown.1 widths
      (subst (λ i. strips.Weighed columns i w t side made) e cut)
      state.cheap

  pub asks_keep : (16 * ((w - 1) * pairs) + 16 * pairs ≤ length store) × (16 * pairs ≤ 1920)
  unfolding stored
  asks_keep = (
    omega (arith, kept.room, row_before (w - 1) columns pairs (omega arith)),
    omega (arith, e, pairs_small rows ready.sound.rows-most),
  )

  pub kept_on : (sums wide low made₂ store₂ : List ℕ) → Priced (price_of Pinwheel (stored columns rows xs ys cs) r w) (sheet sums wide ys r rows w count) low rows (rows + 1)
      → ((s : ℕ → ℕ → ℕ → ℕ) → Priced s (sheet sums wide ys r rows w count) low rows (rows + 1) → Priced s (sheet sums wide ys r rows w count) made₂ 0 (rows + 1))
      → Wrote (listed made₂) (16 * ((w - 1) * pairs)) (16 * pairs) store store₂
      → Kept (cost Pinwheel (stored columns rows xs ys cs) r) columns rows pairs (w + 1) store₂
  unfolding stored price_of
  kept_on sums wide low made₂ store₂ start settled wrote =
      kept_more (cost Pinwheel (stored columns rows xs ys cs) r) columns rows pairs w (16 * ((w - 1) * pairs)) made₂ store store₂ ready.sound.columns-most e some refl
      (λ a b d l bd dy. (settled (price_of Pinwheel (stored columns rows xs ys cs) r w) start).done a b d (omega arith) bd dy (all b d dy))
      wrote
      kept
    where
      all : (p q : ℕ) → q ≤ rows → Done 0 (rows + 1) p q
      all p q h = elim (le-or p 0) [
        | inl z ↦ inr (omega arith, omega arith)
        | inr z ↦ inl z
      ]

-- the same in either mode
module _ (mode : Mode) (columns rows : ℕ) (xs ys cs : List ℕ) (r : Rule) (t₀ : List ℕ) (ready : Ready (stored columns rows xs ys cs) r xs ys cs t₀)
    (w : ℕ) (some : 1 ≤ w) (most : w ≤ columns) (t side : List ℕ) (state : State mode (stored columns rows xs ys cs) r w t₀ t side) (pairs : ℕ) (e : pairs ≡ pair_count rows)
    (store : List ℕ) (kept : mode ≡ Pinwheel → Kept (cost Pinwheel (stored columns rows xs ys cs) r) columns rows pairs w store) (count : ℕ) (ec : count ≡ columns + 1 - w) where
  state_in : (m : Mode) → mode ≡ m → State m (stored columns rows xs ys cs) r w t₀ t side
  state_in m q = subst (λ (x : Mode). State x (stored columns rows xs ys cs) r w t₀ t side) q state

  pub asks_by : (made : List ℕ) → strips.Weighed columns pairs w t side made → mode ≡ Pinwheel
      → (Ground (record { rows = rows; pairs = pairs; width = w; count = count }) store × (length made ≡ 1920)) × AllFit store (record { rows = rows; pairs = pairs; width = w; count = count })
  asks_by made cut q = asks_wheels columns rows xs ys cs r t₀ ready w some most t side (state_in Pinwheel q) pairs e store (kept q) count ec made cut

  pub start-by : (sums wide : List ℕ) → Grown (stored columns rows xs ys cs) w sums × Flanked (stored columns rows xs ys cs) w sums → Widths (stored columns rows xs ys cs) w wide
      → (made : List ℕ) → strips.Weighed columns pairs w t side made
      → (low : List ℕ) → WeighedBy mode count (Wheeled store (record { rows = rows; pairs = pairs; width = w; count = count })) made low
      → Priced (price_of mode (stored columns rows xs ys cs) r w) (sheet sums wide ys r rows w count) low rows (rows + 1)
  start-by sums wide grown widths made cut low weighed = go mode refl
    where
      back : (m : Mode) → mode ≡ m → Priced (price_of m (stored columns rows xs ys cs) r w) (sheet sums wide ys r rows w count) low rows (rows + 1)
          → Priced (price_of mode (stored columns rows xs ys cs) r w) (sheet sums wide ys r rows w count) low rows (rows + 1)
      back m q p = subst (λ (x : Mode). Priced (price_of x (stored columns rows xs ys cs) r w) (sheet sums wide ys r rows w count) low rows (rows + 1)) (sym q) p

      go : (m : Mode) → mode ≡ m → Priced (price_of mode (stored columns rows xs ys cs) r w) (sheet sums wide ys r rows w count) low rows (rows + 1)
      go Straight q =
          back Straight q
          (subst (λ (l : List ℕ). Priced (price_of Straight (stored columns rows xs ys cs) r w) (sheet sums wide ys r rows w count) l rows (rows + 1)) (sym (weighed.straight q))
          (straight-start columns rows xs ys cs r t₀ ready w some most t side (state_in Straight q) pairs e sums wide grown widths made cut count ec))
      go Pinwheel q =
          back Pinwheel q
          (wheel-start columns rows xs ys cs r t₀ ready w some most t side (state_in Pinwheel q) pairs e store (kept q) count ec sums wide grown widths made cut low (weighed.pinwheel q))

  pub asks_keep_by : mode ≡ Pinwheel → (16 * ((w - 1) * pairs) + 16 * pairs ≤ length store) × (16 * pairs ≤ 1920)
  asks_keep_by q = asks_keep columns rows xs ys cs r t₀ ready w some most t side (state_in Pinwheel q) pairs e store (kept q) count ec

  pub kept_by : (sums wide low made₂ store₂ : List ℕ) → Priced (price_of mode (stored columns rows xs ys cs) r w) (sheet sums wide ys r rows w count) low rows (rows + 1)
      → ((s : ℕ → ℕ → ℕ → ℕ) → Priced s (sheet sums wide ys r rows w count) low rows (rows + 1) → Priced s (sheet sums wide ys r rows w count) made₂ 0 (rows + 1))
      → WroteBy mode (listed made₂) (16 * ((w - 1) * pairs)) (16 * pairs) store store₂
      → mode ≡ Pinwheel
      → Kept (cost Pinwheel (stored columns rows xs ys cs) r) columns rows pairs (w + 1) store₂
  kept_by sums wide low made₂ store₂ start settled wrote q =
      kept_on columns rows xs ys cs r t₀ ready w some most t side (state_in Pinwheel q) pairs e store (kept q) count ec sums wide low made₂ store₂
      (subst (λ (x : Mode). Priced (price_of x (stored columns rows xs ys cs) r w) (sheet sums wide ys r rows w count) low rows (rows + 1)) q start)
      settled
      (wrote.pinwheel q)

-- the sizes of the two stores
pub room_at : (columns rows pairs n : ℕ) → pairs ≡ pair_count rows → 16 * (columns * pair_count rows) + 16 ≤ n → 16 * (columns * pairs) + 16 ≤ n
room_at columns rows pairs n e h = subst (λ p. 16 * (columns * p) + 16 ≤ n) (sym e) h

pub small-room : (columns rows : ℕ) → columns ≤ 7 → rows ≤ 7 → 16 * (columns * pair_count rows) + 16 ≤ 3152
small-room columns rows h k =
    let i : rows + 1 ≤ 8 = omega arith in
    let p : pair_count rows ≤ 28 = omega (arith, count-closed rows, mul-le-mul {n₁ = rows} {m₁ = rows + 1} {n₂ = 7} {m₂ = 8} k i) in
    omega (arith, mul-le-mul {n₁ = columns} {m₁ = pair_count rows} {n₂ = 7} {m₂ = 28} h p)

pub large_room : (columns rows : ℕ) → columns ≤ 15 → rows ≤ 15 → 16 * (columns * pair_count rows) + 16 ≤ 28816
large_room columns rows h k = omega (arith, mul-le-mul {n₁ = columns} {m₁ = pair_count rows} {n₂ = 15} {m₂ = 120} h (pairs_small rows k))
