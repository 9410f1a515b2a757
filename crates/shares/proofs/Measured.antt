-- Laws of measuring: what each cell adds where the rule counts it, and what all cells owe. Assumes nothing.
--
--   sides_are          == the four sides of a cell, held to the rule, are its shares by the lists; none is above 65535
--   put-counted        == five numbers stored are the shares of the cell
--   price-most, owed-cell
--                      == what a cell owes, and that it is at most 517140
--   counted_none, counted_are
--                      == beyond the frame the shares are 0; those by the lists are those of the grid
--   shares-*           == the shares as they are measured: none, one cell more, a row's end, all
--   due_none, due_more, due_end, dues_end
--                      == what the cells owe: none, one more, all of a run; all of the grid
use Rattle.std.proofs.Common.{◌≡◌, ℕ, zero, suc, ◌+◌, ◌-◌, ◌*◌, ◌<◌, ◌≤◌, Bool, true, false, not, ◌&&◌, eqb, List, length, get_or, replicate, sym, refl, ap, ◌∙◌, subst, ap₂, inl, inr, mul-le-mul, arith}
use lib.ListN.{length-replicate, get_or-replicate}
use Rattle.sum.specs.Sum.{only, over}
use Rattle.sum.proofs.Sum.{le-or, over_none, over_last, over-same}
use Rattle.outline.specs.Grid.{Grid, Sound, stored}
use Rattle.rule.specs.declared.Rule.{Rule}
use Rattle.rule.specs.Charge.{spared}
use Rattle.piece.specs.Piece.{width, height}
use Rattle.table.specs.Run.{bare}
use Rattle.tally.specs.Units.{five, share, share_of, Spans, Around, Put, Laid, Row}
use Rattle.tally.proofs.Shares.{bare-same, five-same, five-none, share-none, width-at, height-at, share_are}
use Rattle.shares.specs.Shares.{counting, counted_share, counted_of, owed, dues_of, SharesTo, Shares}

-- a side that counts where the cell is inside and the rule does not spare it, and the cell across is not inside
side_held : (t s : Bool) (near far n len : ℕ) → t ≡ s → n ≡ only ((not (eqb near 0) && not t) && eqb far 0) len
    → n ≡ only (not s) (bare near far len)
unfolding bare
side_held t s near far n len et en = en ∙ ap (λ b. only ((not (eqb near 0) && not b) && eqb far 0) len) et ∙ held (not (eqb near 0)) s (eqb far 0)
  where
    held : (a b c : Bool) → only ((a && not b) && c) len ≡ only (not b) (only (a && c) len)
    held true true c = refl
    held true false c = refl
    held false true c = refl
    held false false c = refl

pub sides_are : (rule : Rule) (xs ys cells : List ℕ) (i j wide high c under above before after : ℕ) (tall broad : Bool) (nb np nl nr : ℕ)
    → Spans wide high xs ys i j
    → Around c under above before after cells i j
    → tall ≡ spared rule high
    → broad ≡ spared rule wide
    → (nb ≡ only ((not (eqb c 0) && not tall) && eqb under 0) wide) × (nb ≤ wide)
    → (np ≡ only ((not (eqb c 0) && not tall) && eqb above 0) wide) × (np ≤ wide)
    → (nl ≡ only ((not (eqb c 0) && not broad) && eqb before 0) high) × (nl ≤ high)
    → (nr ≡ only ((not (eqb c 0) && not broad) && eqb after 0) high) × (nr ≤ high)
    → ((nb ≡ counted_of rule xs ys cells i j 1) × (np ≡ counted_of rule xs ys cells i j 2))
    × (((nl ≡ counted_of rule xs ys cells i j 3) × (nr ≡ counted_of rule xs ys cells i j 4))
    × ((nb ≤ 65535) × ((np ≤ 65535) × ((nl ≤ 65535) × (nr ≤ 65535)))))
unfolding counted_of counting share_of five
sides_are rule xs ys cells i j wide high c under above before after tall broad nb np nl nr s n et eo eb ep el er =
    let low : Bool = not (spared rule (get_or ys (j + 1) 0 - get_or ys j 0)) in
    let narrow : Bool = not (spared rule (get_or xs (i + 1) 0 - get_or xs i 0)) in
    let sl = et ∙ ap (spared rule) s.high-is in
    let sn = eo ∙ ap (spared rule) s.wide-is in (
      (
        side_held tall _ c _ nb wide sl eb.0 ∙ ap (only low) (bare-same _ _ _ _ _ _ n.cell-is n.under-is s.wide-is),
        side_held tall _ c _ np wide sl ep.0 ∙ ap (only low) (bare-same _ _ _ _ _ _ n.cell-is n.above-is s.wide-is),
      ),
      (
        (
          side_held broad _ c _ nl high sn el.0 ∙ ap (only narrow) (bare-same _ _ _ _ _ _ n.cell-is n.before-is s.high-is),
          side_held broad _ c _ nr high sn er.0 ∙ ap (only narrow) (bare-same _ _ _ _ _ _ n.cell-is n.after-is s.high-is),
        ),
        (omega (arith, eb.1, s.wide-most), (omega (arith, ep.1, s.wide-most), (omega (arith, el.1, s.high-most), omega (arith, er.1, s.high-most)))),
      ),
    )

-- five numbers that are those of f
five_of : (f : ℕ → ℕ) (c b p l r n : ℕ) → c ≡ f 0 → b ≡ f 1 → p ≡ f 2 → l ≡ f 3 → r ≡ f 4 → n < 5 → five c b p l r n ≡ f n
unfolding five
five_of f c b p l r zero ec eb ep el er h = ec
five_of f c b p l r (suc zero) ec eb ep el er h = eb
five_of f c b p l r (suc (suc zero)) ec eb ep el er h = ep
five_of f c b p l r (suc (suc (suc zero))) ec eb ep el er h = el
five_of f c b p l r (suc (suc (suc (suc zero)))) ec eb ep el er h = er
five_of f c b p l r (suc (suc (suc (suc (suc n))))) ec eb ep el er h = absurd (omega arith)

-- the cell itself counts whatever the rule
cell-counted : (rule : Rule) (xs ys cells : List ℕ) (i j : ℕ) → get_or cells (16 * i + j) 0 ≡ counted_of rule xs ys cells i j 0
unfolding counted_of counting share_of five
cell-counted rule xs ys cells i j = refl

module _ (rule : Rule) (xs ys cells : List ℕ) (i j c b p l r : ℕ)
    (ec : c ≡ get_or cells (16 * i + j) 0)
    (ebp : (b ≡ counted_of rule xs ys cells i j 1) × (p ≡ counted_of rule xs ys cells i j 2))
    (elr : (l ≡ counted_of rule xs ys cells i j 3) × (r ≡ counted_of rule xs ys cells i j 4)) where
  pub put-counted : (at : ℕ) (t u : List ℕ) → Put (five c b p l r) at t u → Put (counted_of rule xs ys cells i j) at t u
  put-counted at t u o =
      record {
        long = o.long;
        made =
            λ n h. o.made n h
            ∙ five_of (counted_of rule xs ys cells i j) c b p l r n (ec ∙ cell-counted rule xs ys cells i j) ebp.0 ebp.1 elr.0 elr.1 h;
        kept = o.kept;
      }

  owed_are : (price : ℕ) → price * c + b + p + l + r ≡ owed price (counted_of rule xs ys cells i j)
  unfolding owed
  owed_are price =
      omega (arith, ap (λ n. price * n) (ec ∙ cell-counted rule xs ys cells i j), ebp.0, ebp.1, elr.0, elr.1)

-- what a cell inside owes for its shot
pub price-most : (price c : ℕ) → price ≤ 1000 → c < 256 → price * c ≤ 255000
price-most price c h k = mul-le-mul {n₁ = price} {m₁ = c} {n₂ = 1000} {m₂ = 255} h (omega arith)

pub owed-cell : (rule : Rule) (xs ys cells : List ℕ) (i j c b p l r price : ℕ) → price ≤ 1000 → c < 256
    → c ≡ get_or cells (16 * i + j) 0
    → (b ≡ counted_of rule xs ys cells i j 1) × (p ≡ counted_of rule xs ys cells i j 2)
    → (l ≡ counted_of rule xs ys cells i j 3) × (r ≡ counted_of rule xs ys cells i j 4)
    → (b ≤ 65535) × ((p ≤ 65535) × ((l ≤ 65535) × (r ≤ 65535)))
    → (price * c + b + p + l + r ≡ owed price (counted_of rule xs ys cells i j)) × (price * c + b + p + l + r ≤ 517140)
owed-cell rule xs ys cells i j c b p l r price h k ec ebp elr m =
    (owed_are rule xs ys cells i j c b p l r ec ebp elr price, omega (arith, price-most price c h k, m.0, m.1.0, m.1.1.0, m.1.1.1))

-- a test before nothing
only_none : (t : Bool) → only t 0 ≡ 0
only_none true = refl
only_none false = refl

pub counted_none : (g : Grid) → Sound g → (rule : Rule) (n i j : ℕ) → n < 5 → g.columns ≤ i → counted_share g rule n i j ≡ 0
unfolding counted_share counting
counted_none g sound rule n i j h k =
    five-same _ _ _ _ _ 0 0 0 0 0 n (share-none g sound 0 i j (omega arith) k) (side (not (spared rule (height g j (suc j)))) 1 (omega arith))
    (side (not (spared rule (height g j (suc j)))) 2 (omega arith)) (side (not (spared rule (width g i (suc i)))) 3 (omega arith))
    (side (not (spared rule (width g i (suc i)))) 4 (omega arith))
    ∙ five-none n h
  where
    side : (t : Bool) (m : ℕ) → m < 5 → only t (share g m i j) ≡ 0
    side t m q = ap (only t) (share-none g sound m i j q k) ∙ only_none t

-- the shares by the lists are those of the grid
pub counted_are : (g : Grid) (xs ys cs : List ℕ) → Laid g xs ys cs → (rule : Rule) (n i j : ℕ) → i < g.columns → j < g.rows
    → counted_of rule xs ys cs i j n ≡ counted_share g rule n i j
unfolding counted_of counted_share counting
counted_are g xs ys cs laid rule n i j hi hj =
    five-same _ _ _ _ _ _ _ _ _ _ n (share_are g xs ys cs laid 0 i j hi hj) (level 1) (level 2) (upright 3) (upright 4)
  where
    level : (m : ℕ)
        → only (not (spared rule (get_or ys (j + 1) 0 - get_or ys j 0))) (share_of xs ys cs i j m) ≡ only (not (spared rule (height g j (suc j)))) (share g m i j)
    level m = ap₂ (λ h k. only (not (spared rule h)) k) (height-at g xs ys cs laid j hj) (share_are g xs ys cs laid m i j hi hj)

    upright : (m : ℕ)
        → only (not (spared rule (get_or xs (i + 1) 0 - get_or xs i 0))) (share_of xs ys cs i j m) ≡ only (not (spared rule (width g i (suc i)))) (share g m i j)
    upright m = ap₂ (λ h k. only (not (spared rule h)) k) (width-at g xs ys cs laid i hi) (share_are g xs ys cs laid m i j hi hj)

-- the shares as they are measured
pub shares_at : (g : Grid) (rule : Rule) (n m : ℕ) (t : List ℕ) → n ≡ m → SharesTo g rule n t → SharesTo g rule m t
shares_at g rule n m t e w = subst (λ k. SharesTo g rule k t) e w

pub shares-none : (g : Grid) (rule : Rule) (n : ℕ) (t : List ℕ) → n ≡ 0 → t ≡ replicate 2560 0 → SharesTo g rule n t
shares-none g rule n t z e =
    record {
      long = ap length e ∙ length-replicate {A = ℕ} 2560 0;
      done = λ k i j hk hi hj h. absurd (omega arith);
      none = λ k m hk hm h. zeros (512 * k + m) (omega arith);
    }
  where
    zeros : (k : ℕ) → k < 2560 → get_or t k 0 ≡ 0
    zeros k h = ap (λ l. get_or l k 0) e ∙ get_or-replicate {A = ℕ} 2560 k 0 0 h

module _ (g : Grid) (rule : Rule) (columns j : ℕ) (xs ys cs : List ℕ) (row : Row g columns j xs ys cs) where
  pub shares-more : (i : ℕ) (t u : List ℕ) → i < columns → Put (counted_of rule xs ys cs i j) (32 * j + i) t u → SharesTo g rule (32 * j + i) t → SharesTo g rule (32 * j + (i + 1)) u
  shares-more i t u h o w = record { long = o.long ∙ w.long; done = done; none = none }
    where
      room : i < 15
      room = omega (arith, row.columns_are, row.laid.sound.columns-most)

      here : (r : ℕ) → r < 5 → get_or u (512 * r + (32 * j + i)) 0 ≡ counted_share g rule r i j
      here r hr = o.made r hr ∙ counted_are g xs ys cs row.laid rule r i j (omega (arith, row.columns_are)) row.row

      done : (r k l : ℕ) → r < 5 → k < 32 → l < g.rows → 32 * l + k < 32 * j + (i + 1) → get_or u (512 * r + (32 * l + k)) 0 ≡ counted_share g rule r k l
      done r k l hr hk hl q = elim (le-or (32 * j + i) (32 * l + k)) [
        | inl s ↦
            (let e : 32 * l + k ≡ 32 * j + i = omega (arith, room) in
            let el : j ≡ l = omega (arith, room) in
            let ek : i ≡ k = omega (arith, room) in
            ap (λ n. get_or u (512 * r + n) 0) e ∙ here r hr ∙ ap₂ (counted_share g rule r) ek el)
        | inr s ↦ o.kept r (32 * l + k) (omega (arith, row.laid.sound.rows-most)) (λ z. omega arith) ∙ w.done r k l hr hk hl s
      ]

      none : (r k : ℕ) → r < 5 → k < 512 → 32 * j + (i + 1) ≤ k → get_or u (512 * r + k) 0 ≡ 0
      none r k hr hk q = o.kept r k hk (λ z. omega arith) ∙ w.none r k hr hk (omega arith)

  -- the row's end: the cells beyond the frame have no shares
  pub shares-row : (i : ℕ) (t : List ℕ) → i ≤ columns → columns ≤ i → SharesTo g rule (32 * j + i) t → SharesTo g rule (32 * (j + 1)) t
  shares-row i t h l w = record { long = w.long; done = done; none = none }
    where
      room : i < 16
      room = omega (arith, row.columns_are, row.laid.sound.columns-most)

      done : (r k n : ℕ) → r < 5 → k < 32 → n < g.rows → 32 * n + k < 32 * (j + 1) → get_or t (512 * r + (32 * n + k)) 0 ≡ counted_share g rule r k n
      done r k n hr hk hn q = elim (le-or (32 * j + i) (32 * n + k)) [
        | inl s ↦
            w.none r (32 * n + k) hr (omega (arith, row.laid.sound.rows-most)) s
            ∙ sym (counted_none g row.laid.sound rule r k n hr (omega (arith, row.columns_are)))
        | inr s ↦ w.done r k n hr hk hn s
      ]

      none : (r k : ℕ) → r < 5 → k < 512 → 32 * (j + 1) ≤ k → get_or t (512 * r + k) 0 ≡ 0
      none r k hr hk q = w.none r k hr hk (omega (arith, room))

-- what the cells owe
pub due_none : (f : ℕ → ℕ) → 0 ≡ over 0 0 f
due_none f = sym (over_none 0 0 f (omega arith))

pub due_more : (f : ℕ → ℕ) (i due v : ℕ) → due ≡ over 0 i f → v ≡ f i → due + v ≡ over 0 (i + 1) f
due_more f i due v ed ev =
    let e : suc i ≡ i + 1 = omega arith in
    ap₂ ◌+◌ ed ev ∙ sym (over_last 0 i f (omega arith)) ∙ ap (λ n. over 0 n f) e

pub due_end : (f : ℕ → ℕ) (i n due : ℕ) → i ≤ n → n ≤ i → due ≡ over 0 i f → due ≡ over 0 n f
due_end f i n due h k e =
    let z : i ≡ n = omega arith in
    e ∙ ap (λ m. over 0 m f) z

owed_same : (price : ℕ) (f g : ℕ → ℕ) → ((n : ℕ) → f n ≡ g n) → owed price f ≡ owed price g
unfolding owed
owed_same price f g h = omega (arith, ap (λ n. price * n) (h 0), h 1, h 2, h 3, h 4)

dues_are : (g : Grid) (xs ys cs : List ℕ) → Laid g xs ys cs → (rule : Rule) (price : ℕ)
    → over 0 g.rows (λ j. over 0 g.columns (λ i. owed price (counted_of rule xs ys cs i j))) ≡ dues_of g rule price
unfolding dues_of
dues_are g xs ys cs laid rule price =
    over-same 0 g.rows _ _
    (λ j p hj. over-same 0 g.columns _ _
    (λ i q hi. owed_same price (counted_of rule xs ys cs i j) (λ n. counted_share g rule n i j) (λ n. counted_are g xs ys cs laid rule n i j hi hj)))

-- the grid that lies in memory
module _ (columns rows : ℕ) (xs ys cs : List ℕ) (laid : Laid (stored columns rows xs ys cs) xs ys cs) (rule : Rule) where
  pub shares-end : (j : ℕ) (t : List ℕ) → rows ≤ j → SharesTo (stored columns rows xs ys cs) rule (32 * j) t → Shares (stored columns rows xs ys cs) rule t
  unfolding stored
  shares-end j t h w = record { long = w.long; shares = λ k i l hk hi hl. w.done k i l hk hi hl (omega arith) }

  pub dues_end : (price j due : ℕ) → j ≤ rows → rows ≤ j
      → due ≡ over 0 j (λ l. over 0 columns (λ i. owed price (counted_of rule xs ys cs i l)))
      → due ≡ dues_of (stored columns rows xs ys cs) rule price
  unfolding stored
  dues_end price j due h k e = due_end _ j rows due h k e ∙ dues_are (stored columns rows xs ys cs) xs ys cs laid rule price
