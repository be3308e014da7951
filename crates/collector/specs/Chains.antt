-- What exclusions in parts come to. Project rule.
use Rattle.std.specs.Prelude.{◌≡◌, ◌<◌, List, ◌++◌, length, ⊤}
use Rattle.model_types.specs.declared.dependency.Dependency.{Dependency}
use Rattle.model_types.specs.declared.dependency.Exclusion.{Exclusion}
use Rattle.collector.specs.Excluding.{is_excluded}
use Rattle.collector.specs.declared.chain.Link.{Link}
use Rattle.collector.specs.declared.chain.Link.TheVariants.{First, Behind}

-- the parts before the last one, and then the last one
abbrev pub linked : Link → List Exclusion
linked (First own) = own
linked (Behind above own) = above.value ++ own

-- a part behind others isn't empty
abbrev pub IsLink : Link → Type 0
IsLink (First own) = ⊤
IsLink (Behind above own) = 0 < length own

-- two lists exclude the same
abbrev pub ExcludeSame : List Exclusion → List Exclusion → Type 0
ExcludeSame set list = (d : Dependency) → is_excluded set d ≡ is_excluded list d
