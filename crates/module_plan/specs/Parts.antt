-- The modules of a plan, and what is shown of them. Own words.
use Rattle.std.specs.Prelude.{ℕ, List, [], ◌∷◌, ◌++◌, map}
use Rattle.mvn_base.specs.declared.gav.Gav.{Gav}
use Rattle.module_plan.specs.Ready.{part_of}
use Rattle.module_plan.specs.declared.numbers.Part.{Part}
use Rattle.module_plan.specs.declared.parts.Parts.{Parts}
use Rattle.module_plan.specs.declared.ready.Ready.{Ready}

abbrev pub no_parts : Parts
no_parts = record { modules = []; models = []; resolutions = []; unbound = [] }

abbrev pub with_part : Parts → Part → Parts
with_part p x = record {
  modules = p.modules ++ x.planned ∷ [];
  models = p.models ++ x.model ∷ [];
  resolutions = p.resolutions ++ x.resolution ∷ [];
  unbound = p.unbound ++ x.unbound ∷ [];
}

abbrev pub parts_in : List Part → Parts
parts_in parts = record {
  modules = map (λ (x : Part). x.planned) parts;
  models = map (λ (x : Part). x.model) parts;
  resolutions = map (λ (x : Part). x.resolution) parts;
  unbound = map (λ (x : Part). x.unbound) parts;
}

abbrev pub parts_of : (built : List Gav) → (names files : List (List ℕ)) → List Ready → Parts
parts_of built names files modules = parts_in (map (part_of built names files) modules)
