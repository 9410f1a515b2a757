-- `emission::emit_mixed` meets its contract. The measure is the number of cells of the piece. The loop's invariant: the shots written and those
-- of the rest are the piece's, or all are written. Its measure is the number of cells of the rest. Assumes nothing.
use mathlib.Core.Path.{◌≡◌, refl, ap, ◌∙◌}
use native.Mathlib.Omega.{arith}
use lib.ListN.{length}
use Rattle.recurrence.specs.Scheme.{mixed}
use Rattle.outline.specs.Grid.{Grid}
use Rattle.rule.specs.declared.Rule.{Rule}
use Rattle.piece.specs.declared.Mode.TheVariants.{Straight}
use Rattle.piece.specs.Piece.{kind}
use Rattle.piece.specs.Meant.{meant}
use Rattle.piece.specs.Cuts.{shots}
use Rattle.verdict.specs.Memory.{Costed}
use Rattle.emission.specs.Emission.{Written, Walk}
use Rattle.emission.proofs.Emitted.{Halves, mixed_halves, count_halves, emit_part, ask_mixed, settled-behind, settled-mixed, written_met, Left, begun_more, begun-end, going_first, going_more, going_end, part_fewer, left_fewer, left-none}
use Rattle.emission.proofs.+emit_mixed.Goals as goal
use Rattle.emission.proofs.+emit_mixed.Goals.{in-Some, in-None}

pub loop-more-init : goal.loop-more-init
loop-more-init t c = going_first _ _ _ _ _ _ _ _ c.requires

pub halves-parts-requires : goal.halves-parts-requires
halves-parts-requires t c =
    let w = (c.loop-more.invariant.left c.loop-more-test.true).asked in
    let e = w.emittable in
    record {
      cells = c.args.cells.now;
      judgeable = record { grid = e.grid; rule = e.rule; costed = e.walk.costed; known = e.known };
      mixed = w.mixed;
    }

pub settle-first-requires : goal.settle-first-requires
settle-first-requires t c =
    let left : Left c.args.costs.now c.args.cells.now c.args.xs.now c.args.ys.now c.args.plan c.args.list.now c.args.at c.args.p c.loop-more.list c.loop-more.next c.loop-more.rest = c.loop-more.invariant.left c.loop-more-test.true in
    let cut : (g : Grid) → (r : Rule) → Costed Straight g r c.args.costs.now c.args.cells.now c.args.plan → kind g (meant c.loop-more.rest.piece) ≡ mixed → Halves Straight g r c.args.plan (meant c.loop-more.rest.piece) c.halves-parts.result.low c.halves-parts.result.high = λ g r f m. mixed_halves Straight g r _ _ _ f _ (left).asked.emittable.known.valid m _ _ (c.halves-parts.ensures g r _ f m) in
    let cut-asked : Halves Straight (left).asked.emittable.grid (left).asked.emittable.rule c.args.plan (meant c.loop-more.rest.piece) c.halves-parts.result.low c.halves-parts.result.high = (let w = (left).asked in
    cut w.emittable.grid w.emittable.rule w.emittable.walk.costed w.mixed) in
    let w = (left).asked.emittable in
    let z = cut-asked in
    record {
      plan = c.args.plan;
      emittable = emit_part Straight _ _ _ _ _ _ _ _ w _ z.low refl (omega (arith, w.fits, count_halves Straight _ _ _ _ _ _ z));
    }

pub emit_mixed-next-requires : goal.emit_mixed-next-requires
emit_mixed-next-requires t c =
    let left : Left c.args.costs.now c.args.cells.now c.args.xs.now c.args.ys.now c.args.plan c.args.list.now c.args.at c.args.p c.loop-more.list c.loop-more.next c.loop-more.rest = c.loop-more.invariant.left c.loop-more-test.true in
    let cut : (g : Grid) → (r : Rule) → Costed Straight g r c.args.costs.now c.args.cells.now c.args.plan → kind g (meant c.loop-more.rest.piece) ≡ mixed → Halves Straight g r c.args.plan (meant c.loop-more.rest.piece) c.halves-parts.result.low c.halves-parts.result.high = λ g r f m. mixed_halves Straight g r _ _ _ f _ (left).asked.emittable.known.valid m _ _ (c.halves-parts.ensures g r _ f m) in
    let cut-asked : Halves Straight (left).asked.emittable.grid (left).asked.emittable.rule c.args.plan (meant c.loop-more.rest.piece) c.halves-parts.result.low c.halves-parts.result.high = (let w = (left).asked in
    cut w.emittable.grid w.emittable.rule w.emittable.walk.costed w.mixed) in
    let w = (left).asked.emittable in
    let z = cut-asked in
    let k = settled-mixed _ _ _ _ _ _ _ c.in-None.is (c.settle-first.ensures w.grid w.rule c.args.plan w.walk z.low.known) in (
      part_fewer _ _ _ z.low (left).most c.decreases,
      ask_mixed _ _ _ _ _ _ _ _ w _ z.low.known c.settle-first.auto.list (omega (arith, w.fits, count_halves Straight _ _ _ _ _ _ z)) k.0,
    )

pub settle-second-requires : goal.settle-second-requires
settle-second-requires t c =
    let left : Left c.args.costs.now c.args.cells.now c.args.xs.now c.args.ys.now c.args.plan c.args.list.now c.args.at c.args.p c.loop-more.list c.loop-more.next c.loop-more.rest = c.loop-more.invariant.left c.loop-more-test.true in
    let cut : (g : Grid) → (r : Rule) → Costed Straight g r c.args.costs.now c.args.cells.now c.args.plan → kind g (meant c.loop-more.rest.piece) ≡ mixed → Halves Straight g r c.args.plan (meant c.loop-more.rest.piece) c.halves-parts.result.low c.halves-parts.result.high = λ g r f m. mixed_halves Straight g r _ _ _ f _ (left).asked.emittable.known.valid m _ _ (c.halves-parts.ensures g r _ f m) in
    let cut-asked : Halves Straight (left).asked.emittable.grid (left).asked.emittable.rule c.args.plan (meant c.loop-more.rest.piece) c.halves-parts.result.low c.halves-parts.result.high = (let w = (left).asked in
    cut w.emittable.grid w.emittable.rule w.emittable.walk.costed w.mixed) in
    let low-written : (g : Grid) → (r : Rule) → Walk Straight g r c.args.costs.now c.args.cells.now c.args.xs.now c.args.ys.now c.args.plan → kind g (meant c.loop-more.rest.piece) ≡ mixed → Written g c.loop-more.list c.match-first.list c.loop-more.next (shots Straight g r (meant c.halves-parts.result.low.piece)) c.match-first.next = λ g r w m. (let z = cut g r w.costed m in
    let e = c.settle-first.ensures g r c.args.plan w z.low.known in
    elim c.match-first.branch [
      | in-Some x ↦ written_met g _ _ refl x.list-is x.next-is (settled-behind g r _ _ _ _ _ _ x.in-Some.is e)
      | in-None x ↦ (let k = settled-mixed g r _ _ _ _ _ x.in-None.is e in written_met g _ _ k.1 x.list-is x.next-is (x.emit_mixed-next.ensures g r w k.0))
    ]) in
    let low-kept : length c.match-first.list ≡ length c.loop-more.list = elim c.match-first.branch [
      | in-Some x ↦ ap length x.list-is ∙ c.settle-first.auto.list
      | in-None x ↦ ap length x.list-is ∙ x.emit_mixed-next.auto.list ∙ c.settle-first.auto.list
    ] in
    let w = (left).asked.emittable in
    let z = cut-asked in
    let l = low-written w.grid w.rule w.walk (left).asked.mixed in
    record {
      plan = c.args.plan;
      emittable =
          emit_part Straight _ _ _ _ _ _ _ _ w _ z.high (low-kept) (omega (arith, w.fits, l.behind, count_halves Straight _ _ _ _ _ _ z));
    }

pub loop-more-smaller-in-Some-second : goal.loop-more-smaller-in-Some-second
loop-more-smaller-in-Some-second t c = left-none _ _ c.loop-more-test.true

pub loop-more-preserved-in-Some-second : goal.loop-more-preserved-in-Some-second
loop-more-preserved-in-Some-second t c =
    let left : Left c.args.costs.now c.args.cells.now c.args.xs.now c.args.ys.now c.args.plan c.args.list.now c.args.at c.args.p c.loop-more.list c.loop-more.next c.loop-more.rest = c.loop-more.invariant.left c.loop-more-test.true in
    let cut : (g : Grid) → (r : Rule) → Costed Straight g r c.args.costs.now c.args.cells.now c.args.plan → kind g (meant c.loop-more.rest.piece) ≡ mixed → Halves Straight g r c.args.plan (meant c.loop-more.rest.piece) c.halves-parts.result.low c.halves-parts.result.high = λ g r f m. mixed_halves Straight g r _ _ _ f _ (left).asked.emittable.known.valid m _ _ (c.halves-parts.ensures g r _ f m) in
    let low-written : (g : Grid) → (r : Rule) → Walk Straight g r c.args.costs.now c.args.cells.now c.args.xs.now c.args.ys.now c.args.plan → kind g (meant c.loop-more.rest.piece) ≡ mixed → Written g c.loop-more.list c.match-first.list c.loop-more.next (shots Straight g r (meant c.halves-parts.result.low.piece)) c.match-first.next = λ g r w m. (let z = cut g r w.costed m in
    let e = c.settle-first.ensures g r c.args.plan w z.low.known in
    elim c.match-first.branch [
      | in-Some x ↦ written_met g _ _ refl x.list-is x.next-is (settled-behind g r _ _ _ _ _ _ x.in-Some.is e)
      | in-None x ↦ (let k = settled-mixed g r _ _ _ _ _ x.in-None.is e in written_met g _ _ k.1 x.list-is x.next-is (x.emit_mixed-next.ensures g r w k.0))
    ]) in
    let low-kept : length c.match-first.list ≡ length c.loop-more.list = elim c.match-first.branch [
      | in-Some x ↦ ap length x.list-is ∙ c.settle-first.auto.list
      | in-None x ↦ ap length x.list-is ∙ x.emit_mixed-next.auto.list ∙ c.settle-first.auto.list
    ] in
    going_end _ _ _ _ _ _ _ _ _ _ _ (c.settle-second.auto.list ∙ low-kept ∙ c.loop-more.invariant.kept)
    (λ g r w m.
    let b = (left).begun g r w m in
    let z = cut g r w.costed b.mixed in
    begun-end g r _ _ _ _ _ _ b _ _ _ z _ _ _ _ (low-written g r w b.mixed)
    (settled-behind g r _ _ _ _ _ _ c.in-Some-second.is (c.settle-second.ensures g r c.args.plan w z.high.known)))

pub loop-more-smaller : goal.loop-more-smaller
loop-more-smaller t c =
    let left : Left c.args.costs.now c.args.cells.now c.args.xs.now c.args.ys.now c.args.plan c.args.list.now c.args.at c.args.p c.loop-more.list c.loop-more.next c.loop-more.rest = c.loop-more.invariant.left c.loop-more-test.true in
    let cut : (g : Grid) → (r : Rule) → Costed Straight g r c.args.costs.now c.args.cells.now c.args.plan → kind g (meant c.loop-more.rest.piece) ≡ mixed → Halves Straight g r c.args.plan (meant c.loop-more.rest.piece) c.halves-parts.result.low c.halves-parts.result.high = λ g r f m. mixed_halves Straight g r _ _ _ f _ (left).asked.emittable.known.valid m _ _ (c.halves-parts.ensures g r _ f m) in
    let cut-asked : Halves Straight (left).asked.emittable.grid (left).asked.emittable.rule c.args.plan (meant c.loop-more.rest.piece) c.halves-parts.result.low c.halves-parts.result.high = (let w = (left).asked in
    cut w.emittable.grid w.emittable.rule w.emittable.walk.costed w.mixed) in
    left_fewer _ _ _ (cut-asked).high _ c.loop-more-test.true

pub loop-more-preserved : goal.loop-more-preserved
loop-more-preserved t c =
    let left : Left c.args.costs.now c.args.cells.now c.args.xs.now c.args.ys.now c.args.plan c.args.list.now c.args.at c.args.p c.loop-more.list c.loop-more.next c.loop-more.rest = c.loop-more.invariant.left c.loop-more-test.true in
    let cut : (g : Grid) → (r : Rule) → Costed Straight g r c.args.costs.now c.args.cells.now c.args.plan → kind g (meant c.loop-more.rest.piece) ≡ mixed → Halves Straight g r c.args.plan (meant c.loop-more.rest.piece) c.halves-parts.result.low c.halves-parts.result.high = λ g r f m. mixed_halves Straight g r _ _ _ f _ (left).asked.emittable.known.valid m _ _ (c.halves-parts.ensures g r _ f m) in
    let cut-asked : Halves Straight (left).asked.emittable.grid (left).asked.emittable.rule c.args.plan (meant c.loop-more.rest.piece) c.halves-parts.result.low c.halves-parts.result.high = (let w = (left).asked in
    cut w.emittable.grid w.emittable.rule w.emittable.walk.costed w.mixed) in
    let low-written : (g : Grid) → (r : Rule) → Walk Straight g r c.args.costs.now c.args.cells.now c.args.xs.now c.args.ys.now c.args.plan → kind g (meant c.loop-more.rest.piece) ≡ mixed → Written g c.loop-more.list c.match-first.list c.loop-more.next (shots Straight g r (meant c.halves-parts.result.low.piece)) c.match-first.next = λ g r w m. (let z = cut g r w.costed m in
    let e = c.settle-first.ensures g r c.args.plan w z.low.known in
    elim c.match-first.branch [
      | in-Some x ↦ written_met g _ _ refl x.list-is x.next-is (settled-behind g r _ _ _ _ _ _ x.in-Some.is e)
      | in-None x ↦ (let k = settled-mixed g r _ _ _ _ _ x.in-None.is e in written_met g _ _ k.1 x.list-is x.next-is (x.emit_mixed-next.ensures g r w k.0))
    ]) in
    let low-kept : length c.match-first.list ≡ length c.loop-more.list = elim c.match-first.branch [
      | in-Some x ↦ ap length x.list-is ∙ c.settle-first.auto.list
      | in-None x ↦ ap length x.list-is ∙ x.emit_mixed-next.auto.list ∙ c.settle-first.auto.list
    ] in
    let w = (left).asked.emittable in
    let z = cut-asked in
    let l = low-written w.grid w.rule w.walk (left).asked.mixed in
    let k = settled-mixed _ _ _ _ _ _ _ c.in-None-second.is (c.settle-second.ensures w.grid w.rule c.args.plan w.walk z.high.known) in
    going_more _ _ _ _ _ _ _ _ _ _ _ _ c.loop-more-test.true (c.settle-second.auto.list ∙ low-kept ∙ c.loop-more.invariant.kept)
    (record {
      asked =
          ask_mixed _ _ _ _ _ _ _ _ w _ z.high.known (c.settle-second.auto.list ∙ low-kept) (omega (arith, w.fits, l.behind, count_halves Straight _ _ _ _ _ _ z)) k.0;
      most = omega (arith, (left).most, z.high.less);
      begun = λ g r w m.
          let b = (left).begun g r w m in
          let z = cut g r w.costed b.mixed in
          let k = settled-mixed g r _ _ _ _ _ c.in-None-second.is (c.settle-second.ensures g r c.args.plan w z.high.known) in
          begun_more g r _ _ _ _ _ _ b _ _ _ z _ _ (written_met g _ _ refl k.1 refl (low-written g r w b.mixed)) k.0;
    })

pub returns : goal.returns
returns t c g r w m = c.loop-more.invariant.all c.loop-more-test.false g r w m
