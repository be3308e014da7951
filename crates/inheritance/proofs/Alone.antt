-- What a child without any of its own takes over.
use Rattle.std.proofs.Common.{◌≡◌, ◌&&◌, ℕ, suc, arith, Bool, true, false, List, [], ◌∷◌, ◌++◌, length, filter, flat_map, Some, Result, Ok, Err, IfOk, refl, sym, ap, ◌∙◌, if◌then◌else◌}
use Rattle.std.specs.List.{list_all}
use Rattle.std.proofs.lemmas.Bool.{false≢true}
use Rattle.mvn_base.specs.declared.key.Key.{Key}
use Rattle.model_types.specs.declared.plugin.Execution.{Execution}
use Rattle.model_types.specs.declared.plugin.Plugin.{Plugin}
use Rattle.model_merge.specs.Keyed.{others, overlaid, settled, with_others}
use Rattle.model_merge.specs.Keys.{key_of_plugin}
use Rattle.model_merge.specs.Merging.{merged_plugin}
use Rattle.inheritance.specs.Placing.{handed_on, inheritable, inherited_plugins, leading}
use Rattle.inheritance.proofs.Leading.{nothing_behind}

nothing : {T : Type 0} (items : List T) → length items ≡ 0 → items ≡ []
nothing [] none = refl
nothing (x ∷ items) none = absurd (more (length items) none)
  where
    more : (n : ℕ) → suc n ≡ 0 → ⊥
    more n e = omega (arith, e)

all_others : {T : Type 0} (key : T → Key) (items : List T) → others key [] items ≡ items
all_others key [] = refl
all_others key (x ∷ items) = ap (λ l. x ∷ l) (all_others key items)

-- besides no items, the others are all
others_alone : {T : Type 0} (key : T → Key) (first second list : List T) → length first ≡ 0 → list ≡ settled key second → list ≡ with_others key first second
others_alone key first second list none is =
    is ∙ sym (all_others key (settled key second)) ∙ sym (ap (λ l. with_others key l second) (nothing first none))

pub taken_alone : {T E : Type 0} (key : T → Key) (first second : List T) (r : Result (List T) E) → length first ≡ 0 → IfOk r (λ list. list ≡ settled key second) → IfOk r (λ list. list ≡ with_others key first second)
taken_alone key first second (Ok list) none is = others_alone key first second list none is
taken_alone key first second (Err e) none is = is

all_in_place : (whole parent : List Plugin) → flat_map (λ p. leading whole (Some (key_of_plugin p)) [] ++ overlaid key_of_plugin merged_plugin [] p ∷ []) parent ≡ parent
all_in_place whole [] = refl
all_in_place whole (p ∷ parent) = ap (λ l. p ∷ l) (all_in_place whole parent)

-- a child without plugins takes over those that its parent passes on
pub plugins_alone : (child parent list : List Plugin) → length child ≡ 0 → list ≡ inheritable parent → list ≡ inherited_plugins child parent
unfolding inherited_plugins
plugins_alone child parent list none is =
    let all = inheritable parent in
    is ∙ sym (nothing_behind (flat_map (λ p. leading all (Some (key_of_plugin p)) [] ++ overlaid key_of_plugin merged_plugin [] p ∷ []) all) ∙ all_in_place all all)
    ∙ sym (ap (λ l. inherited_plugins l parent) (nothing child none))

kept_all : (executions : List Execution) → list_all (λ (e : Execution). e.inherited) executions ≡ true → filter (λ (e : Execution). e.inherited) executions ≡ executions
kept_all [] all = refl
kept_all (e ∷ executions) all = by e.inherited refl (kept_all executions)
  where
    kept : List Execution
    kept = filter (λ (x : Execution). x.inherited) executions

    rest : Bool
    rest = list_all (λ (x : Execution). x.inherited) executions

    by : (b : Bool) → e.inherited ≡ b → (rest ≡ true → kept ≡ executions) → filter (λ (x : Execution). x.inherited) (e ∷ executions) ≡ e ∷ executions
    by true is further = ap (λ b. if b then e ∷ kept else kept) is ∙ ap (λ l. e ∷ l) (further (sym (ap (λ b. b && rest) is) ∙ all))
    by false is further = absurd (false≢true (sym (ap (λ b. b && rest) is) ∙ all))

-- a plugin whose executions are all inherited is handed on as it is
pub handed_same : (p list : Plugin) → list ≡ p → list_all (λ (e : Execution). e.inherited) p.executions ≡ true → list ≡ handed_on p
handed_same p list is all = is ∙ (λ i. record {
  group = p.group;
  artifact = p.artifact;
  version = p.version;
  inherited = p.inherited;
  dependencies = p.dependencies;
  executions = sym (kept_all p.executions all) i;
  configuration = p.configuration;
})
