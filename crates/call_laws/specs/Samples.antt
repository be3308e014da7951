-- Modules for the examples.
use Rattle.std.specs.Prelude.{ℕ, List, [], codes, None}
use Rattle.mvn_base.specs.declared.gav.Gav.{Gav}
use Rattle.mvn_base.specs.declared.refusal.PomId.TheVariants as ids
use Rattle.model_types.specs.declared.model.Model.{Model}
use Rattle.model_resolver.specs.declared.resolver.ProjectPom.{ProjectPom}

abbrev pub named : (artifact version : List ℕ) → Gav
named artifact version = record { group = codes "g"; artifact = artifact; version = version }

-- a POM that says these coordinates of itself
abbrev pub pom : (artifact version : List ℕ) → ProjectPom
pom artifact version = record { path = artifact; gav = named artifact version; bytes = [] }

-- an effective model of the version 1
abbrev pub model : (artifact : List ℕ) → Model
model artifact = record {
  pom = ids.Path artifact;
  gav = named artifact (codes "1");
  packaging = codes "jar";
  parent = None;
  base = record { modules = []; properties = []; managed = []; dependencies = [] };
  build = record {
    outputs = record { directory = None; output = None; test_output = None; final_name = None };
    sources = record { source = None; test_source = None; resources = []; test_resources = [] };
    base = record { plugins = []; managed_plugins = [] };
    extensions = [];
  };
}
