-- `verdict::pinwheel::numbered` meets its contract. Assumes nothing.
use Rattle.verdict.proofs.pinwheel.numbered.Goals as goal

pub returns : goal.returns
returns c i = record { piece = record { a = c.args.a; c = c.args.c; b = c.args.b; d = c.args.d }; entry = c.entry-at.ensures.0 i }
