-- `shallow::sums::settled` meets its contract. Assumes nothing.
use Prim.Native.Nat.{◌+◌}
use mathlib.Core.Path.{◌∙◌, ap}
use native.Mathlib.Omega.{arith}
use Rattle.rule.specs.Charge.{charge_of}
use Rattle.rule.proofs.Charge.{sliver-most}
use Rattle.shallow.specs.Sums.{shot_of}
use Rattle.shallow.proofs.sums.settled.Goals as goal

pub charge-requires : goal.charge-requires
charge-requires c = (
  omega (arith, c.sliver-sliver.ensures, sliver-most c.args.rule c.args.width c.args.s.height c.args.s.flanks (c.args.s.bottom + c.args.s.top), c.requires.0.1, c.requires.0.0.bottom, c.requires.0.0.top),
  c.requires.1,
)

pub returns-then-inside-s : goal.returns-then-inside-s
unfolding shot_of
returns-then-inside-s c =
    record {
      none = λ z. absurd (c.if-inside-eq0.false z);
      full = λ p q. c.charge.ensures ∙ ap (charge_of c.args.rule) c.sliver-sliver.ensures;
      cut = λ p q. absurd (q c.if-inside-s.true);
    }
