use Rattle.std.proofs.Common.{[], flat_map}
use Rattle.classpaths.specs.Classpaths.{files_of}
use Rattle.classpaths.proofs.Joining.{all_gathered, once_all, once_none}
use Rattle.classpaths.proofs.law.each_file_once.Goals as goal

pub returns-clause-once : goal.returns-clause-once
returns-clause-once c = λ is_selected winners. once_all (flat_map (files_of is_selected) winners) [] once_none

pub returns-clause-all : goal.returns-clause-all
returns-clause-all c = λ is_selected winners name there. all_gathered (flat_map (files_of is_selected) winners) [] name there
