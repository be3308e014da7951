-- Where the settings of a name stand, and how many of a name there are: what maps by name are to answer.
use Rattle.std.specs.Prelude.{ℕ, suc, List, [], ◌∷◌, Vec, unwrap_or, if◌then◌else◌}
use Rattle.std.specs.HashMap.{HashMap, get}
use Rattle.std.specs.Option.{option_map_or}
use Rattle.std.specs.Str.{bytes_eq}
use Rattle.mvn_base.specs.declared.setting.Setting.{Setting}
use Rattle.model_merge.specs.Configuration.{name_of}

-- the places of a name, the first setting standing at this one
abbrev pub places_from : List ℕ → ℕ → List Setting → List ℕ
places_from name place [] = []
places_from name place (s ∷ settings) = if bytes_eq (name_of s) name then place ∷ places_from name (suc place) settings else places_from name (suc place) settings

-- what a map gives for a name, nothing being no place and no time
abbrev pub places_in : {Z S : Type 0} → HashMap (List ℕ) (Vec ℕ Z) S → List ℕ → List ℕ
places_in places name = option_map_or (λ list. list.items) (get bytes_eq places name) []

abbrev pub count_in : {S : Type 0} → HashMap (List ℕ) ℕ S → List ℕ → ℕ
count_in counts name = unwrap_or (get bytes_eq counts name) 0
