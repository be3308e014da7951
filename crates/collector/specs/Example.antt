-- A project needs `web` and `near`; both need `base`, `web` with 1 and `near` with 2, and only `base` 2 needs `far`.
use Rattle.std.specs.Prelude.{ℕ, false, ◌&&◌, List, [], ◌∷◌, codes, if◌then◌else◌}
use Rattle.std.specs.Str.{bytes_eq}
use Rattle.collector.specs.declared.edge.Edge.{Edge}
use Rattle.collector.specs.declared.scope.Scope.TheVariants.{Compile}
use Rattle.collector.specs.Winners.{Graph}

abbrev pub edge_to : ℕ → List ℕ → List ℕ → Edge
edge_to position artifact version = record {
  position = position;
  key = record { group = codes "g"; artifact = artifact; kind = codes "jar"; classifier = [] };
  requirement = version;
  scope = Compile;
  managed_scope = false;
  exclusions = [];
}

abbrev pub web : Edge
web = edge_to 0 (codes "web") (codes "1")

abbrev pub near : Edge
near = edge_to 1 (codes "near") (codes "1")

abbrev pub base_one : Edge
base_one = edge_to 0 (codes "base") (codes "1")

abbrev pub base_two : Edge
base_two = edge_to 0 (codes "base") (codes "2")

abbrev pub far : Edge
far = edge_to 0 (codes "far") (codes "1")

-- what each declaration's end needs
abbrev pub needs : List ℕ → List ℕ → List Edge
needs artifact version = if bytes_eq artifact (codes "web") then base_one ∷ []
    else (if bytes_eq artifact (codes "near") then base_two ∷ []
    else (if bytes_eq artifact (codes "base") && bytes_eq version (codes "2") then far ∷ []
    else []))

abbrev pub example : Graph
example = record { direct = web ∷ near ∷ []; below = λ e. needs e.key.artifact e.requirement }
