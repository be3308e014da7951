-- What is kept of the child's plugins that its parent hasn't.
use Rattle.std.specs.Prelude.{◌≡◌, List, [], Some, None, Vec}
use Rattle.std.specs.HashMap.{HashMap, get}
use Rattle.std.specs.HashSet.{HashSet, contains}
use Rattle.std.specs.List.{list_any}
use Rattle.std.specs.Option.{option_map_or}
use Rattle.mvn_base.specs.declared.key.Key.{Key}
use Rattle.model_types.specs.declared.plugin.Plugin.{Plugin}
use Rattle.model_merge.specs.Keyed.{same_key}
use Rattle.model_merge.specs.Keys.{key_of_plugin}
use Rattle.inheritance.specs.Placing.{leading}

-- what a map gives for a key, nothing being no plugin
abbrev pub listed : {Z S : Type 0} → HashMap Key (Vec Plugin Z) S → Key → List Plugin
listed before key = option_map_or (λ list. list.items) (get same_key before key) []

-- a set of the keys of these plugins
abbrev pub HasKeys : {S : Type 0} → List Plugin → HashSet Key S → Type 0
HasKeys plugins keys = (q : Key) → contains same_key keys q ≡ list_any (λ p. same_key (key_of_plugin p) q) plugins

-- the others among these of the child's: in front of each shared plugin, and behind all of them
abbrev pub Stands : {Z S : Type 0} → List Plugin → List Plugin → HashMap Key (Vec Plugin Z) S → List Plugin → Type 0
Stands parent child before last = ((q : Key) → listed before q ≡ leading parent (Some q) child) × (last ≡ leading parent None child)
