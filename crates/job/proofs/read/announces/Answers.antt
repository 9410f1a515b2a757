-- `announces` meets its contract: a byte 0 stands there, or the bytes end. Assumes nothing.
use Rattle.job.proofs.Job.{announces-short, announces_byte}
use Rattle.job.proofs.read.announces.Goals as goal

pub returns-then-from-job : goal.returns-then-from-job
returns-then-from-job c = announces_byte _ _ c.if-from-job.true

pub returns-else-from-job : goal.returns-else-from-job
returns-else-from-job c = announces-short _ _ c.if-from-job.false
