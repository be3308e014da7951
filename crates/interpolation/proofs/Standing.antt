-- Texts that stand as they are written.
use Rattle.std.proofs.Common.{◌≡◌, ◌==◌, ◌&&◌, ◌||◌, ℕ, codes, Option, zero, suc, Bool, true, false, not, List, [], ◌∷◌, length, nat_lt, None, Some, option_map, Ok, Err, refl, arith, sym, ap, ◌∙◌, if◌then◌else◌}
use Rattle.std.specs.List.{list_all, list_any}
use Rattle.std.proofs.lemmas.Bool.{eqb-true, false≢true}
use Rattle.mvn_base.specs.declared.machine.Pair.{Pair}
use Rattle.model_types.specs.declared.dependency.Dependency.{Dependency}
use Rattle.model_types.specs.declared.dependency.Exclusion.{Exclusion}
use Rattle.model_types.specs.declared.plugin.Plugin.{Plugin}
use Rattle.interpolation.specs.KnownValues.{◌>>=◌, Filled, stands}
use Rattle.interpolation.specs.Filling.{each, fill_dependency, fill_exclusion, fill_execution, fill_key, fill_plugin, fill_setting, fill_usage, if_there}
use Rattle.interpolation.specs.Texts.{name_of}
use Rattle.interpolation.specs.Stands.{dependency_stands, exclusion_stands, plugin_stands, stands_if}
use Rattle.interpolation.proofs.Lists.{chain}
use Rattle.interpolation.proofs.ValuesStanding.{name_stands, text_stands}

both_first : (a b : Bool) → (a && b) ≡ true → a ≡ true
both_first true b e = refl
both_first false b e = e

both_second : (a b : Bool) → (a && b) ≡ true → b ≡ true
both_second true b e = e
both_second false b e = absurd (false≢true e)

module _ (known : List Pair) where
  name_if_stands : (element : List ℕ) (text : Option (List ℕ)) → stands_if text ≡ true → if_there (name_of known element) text ≡ Ok text
  name_if_stands element None is = refl
  name_if_stands element (Some text) is = chain _ (name_stands text is known element) refl

-- so is a list in which each item stands
each_stands : {A : Type 0} (f : A → Filled A) (is : A → Bool) → ((x : A) → is x ≡ true → f x ≡ Ok x) → (items : List A) → list_all is items ≡ true → each f items ≡ Ok items
each_stands f is so [] all = refl
each_stands f is so (x ∷ items) all = chain _ (so x (both_first (is x) (list_all is items) all)) (chain _ (each_stands f is so items (both_second (is x) (list_all is items) all)) refl)

exclusion_stood : (known : List Pair) (e : Exclusion) → exclusion_stands e ≡ true → fill_exclusion known e ≡ Ok e
unfolding fill_exclusion
exclusion_stood known e is =
    chain _ (name_stands e.group (both_first (stands e.group) (stands e.artifact) is) known (codes "groupId"))
    (chain _ (name_stands e.artifact (both_second (stands e.group) (stands e.artifact) is) known (codes "artifactId")) refl)

-- so are the texts that say which artifact is meant
key_stood : (known : List Pair) (group artifact : List ℕ) (version : Option (List ℕ)) → stands group ≡ true → stands artifact ≡ true → stands_if version ≡ true → fill_key known group artifact version ≡ Ok (record { group = group; artifact = artifact; version = version })
unfolding fill_key
key_stood known group artifact version one two three =
    chain _ (name_stands group one known (codes "groupId"))
    (chain _ (name_stands artifact two known (codes "artifactId"))
    (chain _ (name_if_stands known (codes "version") version three) refl))

-- and those that say how a dependency is used
usage_stood : (known : List Pair) (d : Dependency) → stands d.kind ≡ true → stands d.classifier ≡ true → stands_if d.scope ≡ true → stands d.optional ≡ true → fill_usage known d ≡ Ok (record { kind = d.kind; classifier = d.classifier; scope = d.scope; optional = d.optional })
unfolding fill_usage
usage_stood known d one two three four =
    chain _ (name_stands d.kind one known (codes "type"))
    (chain _ (name_stands d.classifier two known (codes "classifier"))
    (chain _ (name_if_stands known (codes "scope") d.scope three)
    (chain _ (text_stands d.optional four known (codes "optional")) refl)))

-- so is a dependency whose texts do
pub dependency_stood : (d : Dependency) → dependency_stands d ≡ true → (known : List Pair) → fill_dependency known d ≡ Ok d
unfolding fill_dependency
dependency_stood d is known =
    let all = list_all exclusion_stands d.exclusions in
    let from_optional = stands d.optional && all in
    let from_scope = stands_if d.scope && from_optional in
    let from_classifier = stands d.classifier && from_scope in
    let from_kind = stands d.kind && from_classifier in
    let from_version = stands_if d.version && from_kind in
    let from_artifact = stands d.artifact && from_version in
    let s1 = both_second (stands d.group) from_artifact is in
    let s2 = both_second (stands d.artifact) from_version s1 in
    let s3 = both_second (stands_if d.version) from_kind s2 in
    let s4 = both_second (stands d.kind) from_classifier s3 in
    let s5 = both_second (stands d.classifier) from_scope s4 in
    let s6 = both_second (stands_if d.scope) from_optional s5 in
    let s7 = both_second (stands d.optional) all s6 in
    chain _ (key_stood known d.group d.artifact d.version (both_first (stands d.group) from_artifact is) (both_first (stands d.artifact) from_version s1) (both_first (stands_if d.version) from_kind s2))
    (chain _ (usage_stood known d (both_first (stands d.kind) from_classifier s3) (both_first (stands d.classifier) from_scope s4) (both_first (stands_if d.scope) from_optional s5) (both_first (stands d.optional) all s6))
    (chain _ (each_stands (fill_exclusion known) exclusion_stands (exclusion_stood known) d.exclusions s7) refl))

nothing : {A : Type 0} (items : List A) → (length items == 0) ≡ true → items ≡ []
nothing [] none = refl
nothing (x ∷ items) none = absurd (more (length items) (eqb-true (length (x ∷ items)) 0 none))
  where
    more : (n : ℕ) → suc n ≡ 0 → ⊥
    more n e = omega (arith, e)

each_none : {A : Type 0} (f : A → Filled A) (items : List A) → (length items == 0) ≡ true → each f items ≡ Ok items
each_none f items none = ap (each f) (nothing items none) ∙ ap (λ l. Ok l) (sym (nothing items none))

-- so is a plugin whose texts and dependencies do, and that has no execution and no configuration
pub plugin_stood : (p : Plugin) → plugin_stands p ≡ true → (known : List Pair) → fill_plugin known p ≡ Ok p
unfolding fill_plugin
plugin_stood p is known =
    let configuration = (length p.configuration == 0) in
    let executions = (length p.executions == 0) in
    let from_executions = executions && configuration in
    let dependencies = list_all dependency_stands p.dependencies in
    let from_dependencies = dependencies && from_executions in
    let from_version = stands_if p.version && from_dependencies in
    let from_artifact = stands p.artifact && from_version in
    let s1 = both_second (stands p.group) from_artifact is in
    let s2 = both_second (stands p.artifact) from_version s1 in
    let s3 = both_second (stands_if p.version) from_dependencies s2 in
    let s4 = both_second dependencies from_executions s3 in
    let s5 = both_second executions configuration s4 in
    chain _ (key_stood known p.group p.artifact p.version (both_first (stands p.group) from_artifact is) (both_first (stands p.artifact) from_version s1) (both_first (stands_if p.version) from_dependencies s2))
    (chain _ (each_stands (fill_dependency known) dependency_stands (λ d so. dependency_stood d so known) p.dependencies (both_first dependencies from_executions s3))
    (chain _ (each_none (fill_execution known) p.executions (both_first executions configuration s4))
    (chain _ (each_none (fill_setting known) p.configuration s5) refl)))
