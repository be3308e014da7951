use Rattle.versions.proofs.Spelled.{intervals_exactly, version_exactly}
use Rattle.versions.proofs.law.spelled_and_read.Goals as goal

pub returns : goal.returns
returns c = record { intervals = intervals_exactly; version = version_exactly }
