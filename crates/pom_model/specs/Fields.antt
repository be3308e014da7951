-- What each field of a model holds: what the read table gives to the elements of its name, defaults included. POM Reference.
use Rattle.std.specs.Prelude.{ℕ, List, [], codes, Option, Some, None, option_map}
use Rattle.mvn_base.specs.declared.refusal.PomId.{PomId}
use Rattle.model_types.specs.declared.model.Coordinates.{Coordinates}
use Rattle.model_types.specs.declared.model.Parent.{Parent}
use Rattle.model_types.specs.declared.model.RawModel.{RawModel}
use Rattle.model_types.specs.declared.profile.Activation.{Activation}
use Rattle.model_types.specs.declared.profile.Os.{Os}
use Rattle.model_types.specs.declared.profile.Profile.{Profile}
use Rattle.model_types.specs.declared.profile.Property.{Property}
use Rattle.pom_text.specs.declared.node.Node.{Node}
use Rattle.pom_model.specs.Elements.{child, own_text, text_is, text_of, text_or}
use Rattle.pom_model.specs.Groups.{list_in, gav, build_base, build, model_base}

-- when a profile is active by itself; a property without a name is no criterion
unfoldable pub property : List Node → Option Node → Option Property
property nodes node = option_map (λ name. record { name = name; value = text_of nodes (codes "value") node }) (text_of nodes (codes "name") node)

abbrev pub os : List Node → Node → Os
os nodes node = record {
  name = text_of nodes (codes "name") (Some node);
  family = text_of nodes (codes "family") (Some node);
  arch = text_of nodes (codes "arch") (Some node);
  version = text_of nodes (codes "version") (Some node);
}

unfoldable pub file_text : List Node → List ℕ → Node → Option (List ℕ)
file_text nodes name node = text_of nodes name (child nodes (codes "file") (Some node))

-- the texts that a profile goes by: the files that have to be there and not to be there, and the JDK
abbrev pub criteria_texts : List Node → Node → Option (List ℕ) × Option (List ℕ) × Option (List ℕ)
criteria_texts nodes node = (file_text nodes (codes "exists") node, file_text nodes (codes "missing") node, text_of nodes (codes "jdk") (Some node))

-- the property and the system that it goes by
abbrev pub criteria : List Node → Node → Option Property × Option Os
criteria nodes node = (property nodes (child nodes (codes "property") (Some node)), option_map (os nodes) (child nodes (codes "os") (Some node)))

unfoldable pub activation : List Node → Node → Activation
activation nodes node = record {
  by_default = text_is nodes (codes "activeByDefault") (codes "true") (Some node);
  property = property nodes (child nodes (codes "property") (Some node));
  exists = file_text nodes (codes "exists") node;
  missing = file_text nodes (codes "missing") node;
  jdk = text_of nodes (codes "jdk") (Some node);
  os = option_map (os nodes) (child nodes (codes "os") (Some node));
}

abbrev pub activation_in : List Node → Option Node → Option Activation
activation_in nodes node = option_map (activation nodes) (child nodes (codes "activation") node)

unfoldable pub profile : List Node → Node → Profile
profile nodes node = record {
  id = text_or nodes (codes "id") (codes "default") (Some node);
  activation = activation_in nodes (Some node);
  base = model_base nodes (Some node);
  build = build_base nodes (child nodes (codes "build") (Some node));
}

-- where the parent is looked for first: an empty path is kept
abbrev pub path_text : Option Node → List ℕ
path_text (Some node) = own_text node
path_text None = codes "../pom.xml"

unfoldable pub parent : List Node → Node → Parent
parent nodes node = record { gav = gav nodes node; relative_path = path_text (child nodes (codes "relativePath") (Some node)) }

abbrev pub parent_in : List Node → Option Node → Option Parent
parent_in nodes node = option_map (parent nodes) (child nodes (codes "parent") node)

unfoldable pub coordinates : List Node → Option Node → Coordinates
coordinates nodes node = record {
  group = text_of nodes (codes "groupId") node;
  artifact = text_or nodes (codes "artifactId") [] node;
  version = text_of nodes (codes "version") node;
  packaging = text_or nodes (codes "packaging") (codes "jar") node;
}

-- which POM this is: its parent and its coordinates
abbrev pub names : List Node → Option Node → Option Parent × Coordinates
names nodes node = (parent_in nodes node, coordinates nodes node)

abbrev pub profiles : List Node → Option Node → List Profile
profiles nodes node = list_in profile nodes (codes "profiles") (codes "profile") node

unfoldable pub model : List Node → PomId → Option Node → RawModel
model nodes pom node = record {
  pom = pom;
  parent = parent_in nodes node;
  coordinates = coordinates nodes node;
  base = model_base nodes node;
  build = build nodes (child nodes (codes "build") node);
  profiles = list_in profile nodes (codes "profiles") (codes "profile") node;
}
