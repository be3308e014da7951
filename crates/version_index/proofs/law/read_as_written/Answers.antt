use Rattle.version_index.proofs.Entered.{fewer_shorter, written_read}
use Rattle.version_index.proofs.Lines.{index_read, read_is}
use Rattle.version_index.proofs.law.read_as_written.Goals as goal

pub returns : goal.returns
returns c = record { read = λ bytes versions. (read_is bytes versions, index_read bytes versions); written = written_read; fewer = fewer_shorter }
