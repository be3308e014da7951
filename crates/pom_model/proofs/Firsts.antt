-- The first elements of several names are found in one pass, and a dependency is read where they stand.
use Rattle.std.proofs.Common.{◌≡◌, ℕ, Bool, true, false, List, [], ◌∷◌, ◌++◌, codes, map, fold, Option, Some, None, is_some, option_and_then, slice_get, unwrap_or, refl, sym, ap, ◌∙◌, if◌then◌else◌}
use Rattle.std.specs.Str.{bytes_eq}
use Rattle.mvn_base.specs.declared.key.Key.{Key}
use Rattle.model_types.specs.declared.dependency.Dependency.{Dependency}
use Rattle.pom_text.specs.declared.node.Node.{Node}
use Rattle.pom_model.specs.declared.places.Places.{Places}
use Rattle.pom_model.specs.Elements.{child, first, if_named, items, listed, named, named_among, text_in, text_of}
use Rattle.pom_model.specs.Faults.{or}
use Rattle.pom_model.specs.Groups.{dependency, dependency_key, exclusion}
use Rattle.pom_model.specs.Places.{by_name, dependency_at, kept, key_at, nowhere, number_of, numbered, places_of, seen, seen_as, stated_at, with_named}

-- an element that isn't there has no name
number_absent : (nodes : List Node) (name : List ℕ) (k : ℕ) (ks : List ℕ) → slice_get nodes k ≡ None → number_of nodes name (k ∷ ks) ≡ number_of nodes name ks
unfolding number_of named
number_absent nodes name k ks none = ap (λ o. if is_some (option_and_then (if_named name) o) then Some k else number_of nodes name ks) none

-- one that is there has the name, or the first of the others is wanted
by_test : (node : Node) (k : ℕ) (rest : Option ℕ) (b : Bool) → (if is_some (if b then Some node else None) then Some k else rest) ≡ (if b then Some k else rest)
by_test node k rest true = refl
by_test node k rest false = refl

number_here : (nodes : List Node) (name : List ℕ) (k : ℕ) (ks : List ℕ) (node : Node) → slice_get nodes k ≡ Some node → number_of nodes name (k ∷ ks) ≡ (if bytes_eq node.name name then Some k else number_of nodes name ks)
unfolding number_of named
number_here nodes name k ks node is =
    ap (λ o. if is_some (option_and_then (if_named name) o) then Some k else number_of nodes name ks) is
    ∙ by_test node k (number_of nodes name ks) (bytes_eq node.name name)

or_none : (o : Option ℕ) → o ≡ or o None
or_none (Some x) = refl
or_none None = refl

kept_or : (o : Option ℕ) (b : Bool) (k : ℕ) (rest : Option ℕ) → or (kept o b k) rest ≡ or o (if b then Some k else rest)
kept_or (Some x) b k rest = refl
kept_or None true k rest = refl
kept_or None false k rest = refl

-- one element more of a name, told by names
with_by : (number : List ℕ → Option ℕ) (name : List ℕ) (k : ℕ) → with_named (by_name number) name k ≡ by_name (λ w. kept (number w) (bytes_eq name w) k)
unfolding with_named
with_by number name k = refl

-- all elements, behind those that are found
abbrev Further : List Node → List ℕ → Type 0
Further nodes ks = (number : List ℕ → Option ℕ) → fold (seen nodes) (by_name number) ks ≡ by_name (λ w. or (number w) (number_of nodes w ks))

seen_next : (nodes : List Node) (k : ℕ) (ks : List ℕ) (number : List ℕ → Option ℕ) → Further nodes ks → (o : Option Node) → slice_get nodes k ≡ o
    → fold (seen nodes) (by_name number) (k ∷ ks) ≡ by_name (λ w. or (number w) (number_of nodes w (k ∷ ks)))
seen_next nodes k ks number further None is =
    ap (λ o. fold (seen nodes) (seen_as (by_name number) k o) ks) is ∙ further number
    ∙ ap by_name (λ i w. or (number w) (sym (number_absent nodes w k ks is) i))
seen_next nodes k ks number further (Some node) is =
    ap (λ o. fold (seen nodes) (seen_as (by_name number) k o) ks) is ∙ ap (λ p. fold (seen nodes) p ks) (with_by number node.name k)
    ∙ further (λ w. kept (number w) (bytes_eq node.name w) k)
    ∙ ap by_name (λ i w. (kept_or (number w) (bytes_eq node.name w) k (number_of nodes w ks) ∙ ap (or (number w)) (sym (number_here nodes w k ks node is))) i)

seen_all : (nodes : List Node) (ks : List ℕ) → Further nodes ks
unfolding number_of
seen_all nodes [] number = ap by_name (λ i w. or_none (number w) i)
seen_all nodes (k ∷ ks) number = seen_next nodes k ks number (seen_all nodes ks) (slice_get nodes k) refl

pub places_found : (nodes : List Node) (ks : List ℕ) → fold (seen nodes) nowhere ks ≡ places_of nodes ks
unfolding places_of
places_found nodes ks = seen_all nodes ks (λ name. None)

-- the first element of a name is that of the first number
first_next : (nodes : List Node) (name : List ℕ) (k : ℕ) (ks : List ℕ) → first (named_among nodes name ks) ≡ numbered nodes (number_of nodes name ks) → (o : Option Node) → slice_get nodes k ≡ o
    → first (listed (option_and_then (if_named name) o) ++ named_among nodes name ks) ≡ numbered nodes (if is_some (option_and_then (if_named name) o) then Some k else number_of nodes name ks)
first_next nodes name k ks further None is = further
first_next nodes name k ks further (Some node) is = by (bytes_eq node.name name)
  where
    by : (b : Bool) → first (listed (if b then Some node else None) ++ named_among nodes name ks) ≡ numbered nodes (if is_some (if b then Some node else None) then Some k else number_of nodes name ks)
    by true = sym is
    by false = further

first_here : (nodes : List Node) (name : List ℕ) (ks : List ℕ) → first (named_among nodes name ks) ≡ numbered nodes (number_of nodes name ks)
unfolding number_of named
first_here nodes name [] = refl
first_here nodes name (k ∷ ks) = first_next nodes name k ks (first_here nodes name ks) (slice_get nodes k) refl

child_here : (nodes : List Node) (node : Node) (name : List ℕ) → numbered nodes (number_of nodes name node.children) ≡ child nodes name (Some node)
unfolding child
child_here nodes node name = sym (first_here nodes name node.children)

-- a dependency by what stands in it
abbrev key_by : (List ℕ → Option Node) → Key
key_by found = record {
  group = unwrap_or (text_in (found (codes "groupId"))) [];
  artifact = unwrap_or (text_in (found (codes "artifactId"))) [];
  kind = unwrap_or (text_in (found (codes "type"))) (codes "jar");
  classifier = unwrap_or (text_in (found (codes "classifier"))) [];
}

abbrev dependency_by : List Node → (List ℕ → Option Node) → Dependency
dependency_by nodes found = record {
  group = (key_by found).group;
  artifact = (key_by found).artifact;
  version = text_in (found (codes "version"));
  kind = (key_by found).kind;
  classifier = (key_by found).classifier;
  scope = text_in (found (codes "scope"));
  optional = unwrap_or (text_in (found (codes "optional"))) [];
  exclusions = map (exclusion nodes) (items nodes (codes "exclusion") (found (codes "exclusions")));
}

at_by : (nodes : List Node) (ks : List ℕ) → dependency_at nodes (places_of nodes ks) ≡ dependency_by nodes (λ name. numbered nodes (number_of nodes name ks))
unfolding dependency_at key_at stated_at places_of
at_by nodes ks = refl

by_child : (nodes : List Node) (node : Node) → dependency_by nodes (λ name. child nodes name (Some node)) ≡ dependency nodes node
unfolding dependency dependency_key text_of
by_child nodes node = refl

pub dependency_so : (nodes : List Node) (node : Node) (places : Places) → places ≡ places_of nodes node.children → dependency_at nodes places ≡ dependency nodes node
dependency_so nodes node places is =
    ap (dependency_at nodes) is ∙ at_by nodes node.children ∙ ap (dependency_by nodes) (λ i name. child_here nodes node name i) ∙ by_child nodes node
