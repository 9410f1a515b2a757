-- Inner: what the buffered writer keeps.
--
--   Remembers out r    == a write that failed is not forgotten
use Rattle.std.specs.Prelude.{◌≡◌, true}
use Rattle.terminal.specs.declared.output.Output.{Output}

abbrev pub Remembers : Output → Output → Type 0
Remembers out r = out.failed ≡ true → r.failed ≡ true
