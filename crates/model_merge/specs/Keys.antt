-- What tells items of a POM's lists apart. POM Reference, "Plugins" and "Inheritance".
use Rattle.std.specs.Prelude.{ℕ, List, []}
use Rattle.mvn_base.specs.declared.gav.Gav.{Gav}
use Rattle.mvn_base.specs.declared.key.Key.{Key}
use Rattle.mvn_base.specs.declared.machine.Pair.{Pair}
use Rattle.model_types.specs.declared.dependency.Dependency.{Dependency}
use Rattle.model_types.specs.declared.plugin.Execution.{Execution}
use Rattle.model_types.specs.declared.plugin.Plugin.{Plugin}

-- a key of one part, and of two
abbrev pub key_of_name : List ℕ → Key
key_of_name name = record { group = name; artifact = []; kind = []; classifier = [] }

abbrev pub key_of_two : List ℕ → List ℕ → Key
key_of_two group artifact = record { group = group; artifact = artifact; kind = []; classifier = [] }

abbrev pub key_of_pair : Pair → Key
key_of_pair p = key_of_name p.name

abbrev pub key_of_dependency : Dependency → Key
key_of_dependency d = record { group = d.group; artifact = d.artifact; kind = d.kind; classifier = d.classifier }

abbrev pub key_of_extension : Gav → Key
key_of_extension e = key_of_two e.group e.artifact

abbrev pub key_of_execution : Execution → Key
key_of_execution e = key_of_name e.id

abbrev pub key_of_plugin : Plugin → Key
key_of_plugin p = key_of_two p.group p.artifact
