use Rattle.goal_program.proofs.Files.{file_is_read, read_is_path}
use Rattle.goal_program.proofs.Named.{file_is_named}
use Rattle.goal_program.proofs.law.files_are_read.Goals as goal

pub returns : goal.returns
returns c = record { read = file_is_read; named = file_is_named; path = read_is_path }
