use Rattle.run_law.proofs.Paths.{last, more, next}
use Rattle.run_law.proofs.gathering.files_come_by_entries.Goals as goal

pub returns : goal.returns
returns c = record { more = λ m at e is. more m at e is; next = λ m at file e is its new. next m at file e is its new; last = λ m. last m }
