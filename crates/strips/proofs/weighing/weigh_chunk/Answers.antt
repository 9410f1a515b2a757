-- `strips::weighing::weigh_chunk` meets its contract. Assumes nothing.
use native.Mathlib.Omega.{arith}
use lib.ListN.{replicate, get_or-replicate}
use Rattle.strips.proofs.Chunk.{lane_most, chunk_made}
use Rattle.strips.proofs.weighing.weigh_chunk.Goals as goal

pub weigh_cuts-requires : goal.weigh_cuts-requires
weigh_cuts-requires c = record { weighable = c.requires.weighable; n_in_bounds = (omega (arith, c.requires.side_len.1.0), c.requires.side_len.1.1) }

pub lay-requires : goal.lay-requires
lay-requires c = (c.requires.side_len.0, (lane_most _ _ _ _ _ _ c.requires.weighable, (omega (arith, c.requires.side_len.1.1, c.requires.weighable.pairs-most), omega (arith, c.requires.side_len.1.0))))

pub returns : goal.returns
returns c =
    chunk_made _ _ _ _ _ _ _ (replicate 16 4294967295) _ _ _ (λ i h. get_or-replicate 16 i 4294967295 0 (omega (arith, h, c.requires.side_len.1.0)))
    c.weigh_cuts.ensures
    c.lay.ensures
