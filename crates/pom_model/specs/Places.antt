-- Where the elements of a dependency stand: the number of the first of each name, and the dependency that is read there.
use Rattle.std.specs.Prelude.{ℕ, Bool, List, [], map, codes, find, Option, Some, None, is_some, option_and_then, slice_get, unwrap_or, if◌then◌else◌}
use Rattle.std.specs.Str.{bytes_eq}
use Rattle.mvn_base.specs.declared.key.Key.{Key}
use Rattle.model_types.specs.declared.dependency.Dependency.{Dependency}
use Rattle.model_types.specs.declared.dependency.Exclusion.{Exclusion}
use Rattle.pom_text.specs.declared.node.Node.{Node}
use Rattle.pom_model.specs.declared.places.Places.{Places}
use Rattle.pom_model.specs.Elements.{items, named, text_in}
use Rattle.pom_model.specs.Groups.{exclusion}

-- the number of the first of a name among some
unfoldable pub number_of : List Node → List ℕ → List ℕ → Option ℕ
number_of nodes name ks = find (λ k. is_some (named nodes name k)) ks

-- a number for each name
abbrev pub by_name : (List ℕ → Option ℕ) → Places
by_name number = record {
  group = number (codes "groupId");
  artifact = number (codes "artifactId");
  version = number (codes "version");
  kind = number (codes "type");
  classifier = number (codes "classifier");
  scope = number (codes "scope");
  optional = number (codes "optional");
  exclusions = number (codes "exclusions");
}

unfoldable pub places_of : List Node → List ℕ → Places
places_of nodes ks = by_name (λ name. number_of nodes name ks)

-- a number that is kept, and of none the next one if it has the name
abbrev pub kept : Option ℕ → Bool → ℕ → Option ℕ
kept (Some first) is_named k = Some first
kept None is_named k = if is_named then Some k else None

-- one element more, of a name
unfoldable pub with_named : Places → List ℕ → ℕ → Places
with_named places name k = record {
  group = kept places.group (bytes_eq name (codes "groupId")) k;
  artifact = kept places.artifact (bytes_eq name (codes "artifactId")) k;
  version = kept places.version (bytes_eq name (codes "version")) k;
  kind = kept places.kind (bytes_eq name (codes "type")) k;
  classifier = kept places.classifier (bytes_eq name (codes "classifier")) k;
  scope = kept places.scope (bytes_eq name (codes "scope")) k;
  optional = kept places.optional (bytes_eq name (codes "optional")) k;
  exclusions = kept places.exclusions (bytes_eq name (codes "exclusions")) k;
}

-- one element after another
abbrev pub seen_as : Places → ℕ → Option Node → Places
seen_as places k (Some node) = with_named places node.name k
seen_as places k None = places

abbrev pub seen : List Node → Places → ℕ → Places
seen nodes places k = seen_as places k (slice_get nodes k)

abbrev pub nowhere : Places
nowhere = by_name (λ name. None)

-- the element of a number
abbrev pub numbered : List Node → Option ℕ → Option Node
numbered nodes k = option_and_then (slice_get nodes) k

abbrev pub text_at : List Node → Option ℕ → Option (List ℕ)
text_at nodes k = text_in (numbered nodes k)

abbrev pub text_at_or : List Node → Option ℕ → List ℕ → List ℕ
text_at_or nodes k default = unwrap_or (text_at nodes k) default

-- what is read there
unfoldable pub key_at : List Node → Places → Key
key_at nodes places = record {
  group = text_at_or nodes places.group [];
  artifact = text_at_or nodes places.artifact [];
  kind = text_at_or nodes places.kind (codes "jar");
  classifier = text_at_or nodes places.classifier [];
}

-- a version, a scope, and whether it is optional
unfoldable pub stated_at : List Node → Places → Option (List ℕ) × Option (List ℕ) × List ℕ
stated_at nodes places = (text_at nodes places.version, text_at nodes places.scope, text_at_or nodes places.optional [])

-- a dependency of its key, these and what it excludes
abbrev pub dependency_of : Key → Option (List ℕ) × Option (List ℕ) × List ℕ → List Exclusion → Dependency
dependency_of key stated exclusions = record {
  group = key.group;
  artifact = key.artifact;
  version = stated.0;
  kind = key.kind;
  classifier = key.classifier;
  scope = stated.1;
  optional = stated.2;
  exclusions = exclusions;
}

abbrev pub exclusions_at : List Node → Places → List Exclusion
exclusions_at nodes places = map (exclusion nodes) (items nodes (codes "exclusion") (numbered nodes places.exclusions))

unfoldable pub dependency_at : List Node → Places → Dependency
dependency_at nodes places = dependency_of (key_at nodes places) (stated_at nodes places) (exclusions_at nodes places)
