-- To believe: the promise of `pw_edge`, said of the numbers that the C interface lends.
--
--   edge_lent           == the number returned, the count of runs lent, and what the buffer of runs holds then
use Rattle.std.specs.Prelude.{ℕ, List}
use Rattle.edge.specs.Promise.{EdgeSaid}

abbrev pub edge_lent : ℕ → ℕ → List ℕ → EdgeSaid
edge_lent n count runs = record { number = n; count = count; runs = runs }
