-- What stands in elements of any name: the properties of a POM, and the settings of its configurations. POM Reference.
use Rattle.std.specs.Prelude.{ℕ, zero, suc, List, [], ◌∷◌, map, flat_map, fold, codes, Option, slice_get, if◌then◌else◌}
use Rattle.std.specs.Str.{bytes_eq}
use Rattle.mvn_base.specs.declared.machine.Pair.{Pair}
use Rattle.mvn_base.specs.declared.setting.Setting.{Setting}
use Rattle.mvn_base.specs.declared.setting.Setting.TheViews.{roll-Setting}
use Rattle.pom_text.specs.declared.node.Node.{Node}
use Rattle.pom_model.specs.Elements.{child, children, listed, own_text}

-- properties: the later value of a name stands at the earlier place
abbrev pub put_entry : List (List ℕ × List ℕ) → Node → List (List ℕ × List ℕ)
put_entry [] node = (node.name, own_text node) ∷ []
put_entry (entry ∷ entries) node = if bytes_eq node.name entry.0 then (entry.0, own_text node) ∷ entries else entry ∷ put_entry entries node

abbrev pub pair : List ℕ × List ℕ → Pair
pair entry = record { name = entry.0; value = entry.1 }

abbrev pub all_in : List Node → List ℕ → List Node
all_in nodes ks = flat_map (λ k. listed (slice_get nodes k)) ks

unfoldable pub properties : List Node → Option Node → List Pair
properties nodes node = map pair (fold put_entry [] (all_in nodes (children (child nodes (codes "properties") node))))

-- a configuration: every element in it, with its own text as it stands, as far as texts nest
abbrev pub setting_of : (List ℕ → List Setting) → Node → Setting
setting_of further node = roll-Setting (record { name = node.name; text = node.text; children = further node.children })

unfoldable pub settings_within : ℕ → List Node → List ℕ → List Setting
settings_within zero nodes ks = []
settings_within (suc depth) nodes ks = map (setting_of (settings_within depth nodes)) (all_in nodes ks)

unfoldable pub configuration : List Node → Option Node → List Setting
configuration nodes node = settings_within 64 nodes (children (child nodes (codes "configuration") node))
