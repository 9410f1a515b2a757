-- `emission::measuring::shot_at` meets its contract. Assumes nothing.
use Rattle.emission.proofs.Measured.{shot-found, line-is, left-some, bottom-some, right-some, top-some}
use Rattle.emission.proofs.measuring.shot_at.Goals as goal

pub unwrap-a-requires : goal.unwrap-a-requires
unwrap-a-requires c = left-some _ _ _ _ _ _ _ c.requires.stands _ c.line_at.ensures

pub unwrap-b-requires : goal.unwrap-b-requires
unwrap-b-requires c = bottom-some _ _ _ _ _ _ _ c.requires.stands _ c.line_at-2.ensures

pub unwrap-c-requires : goal.unwrap-c-requires
unwrap-c-requires c = right-some _ _ _ _ _ _ _ c.requires.stands _ c.line_at-3.ensures

pub unwrap-d-requires : goal.unwrap-d-requires
unwrap-d-requires c = top-some _ _ _ _ _ _ _ c.requires.stands _ c.line_at-4.ensures

pub returns : goal.returns
returns c g cells s z =
    shot-found g _ _ cells _ _ s z (record { a = c.unwrap-a.result; c = c.unwrap-c.result; b = c.unwrap-b.result; d = c.unwrap-d.result })
    (line-is c.unwrap-a.ensures c.line_at.ensures)
    (line-is c.unwrap-b.ensures c.line_at-2.ensures)
    (line-is c.unwrap-c.ensures c.line_at-3.ensures)
    (line-is c.unwrap-d.ensures c.line_at-4.ensures)
