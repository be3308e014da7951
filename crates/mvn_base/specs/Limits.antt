-- The limits and fixed names that several crates keep. The group is from the POM Reference, "Plugins"; the limits are project rules.
use Rattle.std.specs.Prelude.{ℕ, List, codes}

-- the group of Maven's own plugins
abbrev pub maven_plugins : List ℕ
maven_plugins = codes "org.apache.maven.plugins"

-- bytes of a POM's text
abbrev pub pom_limit : ℕ
pom_limit = 1048576

-- names that a folder lists
abbrev pub most_files : ℕ
most_files = 65536

-- bytes of a goal's output
abbrev pub most_output : ℕ
most_output = 67108864

-- bytes of a module's sources together
abbrev pub most_sources : ℕ
most_sources = 268435456

-- versions of an artifact that a listing gives
abbrev pub most_versions : ℕ
most_versions = 4096

-- POMs of a project besides its root's
abbrev pub most_modules : ℕ
most_modules = 1023
