-- How a configuration is merged with the one that it builds on, at every depth. Own rules of pairing, texts and order.
use Rattle.std.specs.Prelude.{ℕ, Bool, not, ◌||◌, ◌==◌, List, [], ◌∷◌, ◌++◌, map, filter, zip, count_by, slice_get, Option, if◌then◌else◌}
use Rattle.std.specs.List.{list_any, list_all}
use Rattle.std.specs.Option.{option_map_or}
use Rattle.std.specs.Str.{bytes_eq}
use Rattle.mvn_base.specs.declared.setting.Setting.{Setting}
use Rattle.mvn_base.specs.declared.setting.Setting.TheOpen.{Setting-F}
use Rattle.mvn_base.specs.declared.setting.Setting.TheViews.{out-Setting, roll-Setting}
use Rattle.mvn_base.specs.declared.setting.Setting.TheFolds.{fold-Setting}

abbrev pub name_of : Setting → List ℕ
name_of s = (out-Setting s).name

-- the k-th of a name, from 0
abbrev pub nth_named : List ℕ → ℕ → List Setting → Option Setting
nth_named name k settings = slice_get (filter (λ s. bytes_eq (name_of s) name) settings) k

-- for each of some names the parent's of that name and number; `before` are the names that come before these
abbrev pub partners : List (List ℕ) → List (List ℕ) → List Setting → List (Option Setting)
partners before [] parent = []
partners before (n ∷ names) parent = nth_named n (count_by (λ b. bytes_eq b n) before) parent ∷ partners (before ++ n ∷ []) names parent

-- the parent's of names that aren't among these
abbrev pub unnamed : List (List ℕ) → List Setting → List Setting
unnamed names parent = filter (λ p. not (list_any (λ n. bytes_eq n (name_of p)) names)) parent

-- one level: each child with its partner, and then the parent's of other names
abbrev pub merged_level : {A : Type 0} → (A → List ℕ) → (A → Option Setting → Setting) → List A → List Setting → List Setting
merged_level name one child parent = map (λ e. one e.0 e.1) (zip child (partners [] (map name child) parent)) ++ unnamed (map name child) parent

-- a byte that is no white space
abbrev pub is_blank : ℕ → Bool
is_blank byte = byte == 32 || (byte == 9 || (byte == 10 || byte == 13))

-- the child's text where it has more than white space
abbrev pub chosen_text : List ℕ → List ℕ → List ℕ
chosen_text own inherited = if list_all is_blank own then inherited else own

-- a child's setting, and what it is when merged with a parent's
abbrev pub Part : Type 0
Part = Setting × (Setting → Setting)

abbrev pub with_partner : Part → Option Setting → Setting
with_partner part partner = option_map_or part.1 partner part.0

abbrev pub part_step : Setting-F Part → Part
part_step c = (
  roll-Setting (record { name = c.name; text = c.text; children = map (λ part. part.0) c.children }),
  λ p. roll-Setting (record {
    name = c.name;
    text = chosen_text c.text (out-Setting p).text;
    children = merged_level (λ part. name_of part.0) with_partner c.children (out-Setting p).children;
  }),
)

abbrev pub part : Setting → Part
part = fold-Setting Part part_step

abbrev pub merged_setting : Setting → Setting → Setting
merged_setting child parent = (part child).1 parent

abbrev pub merged_or : Setting → Option Setting → Setting
merged_or child partner = option_map_or (merged_setting child) partner child

unfoldable pub merged_configuration : List Setting → List Setting → List Setting
merged_configuration child parent = merged_level name_of merged_or child parent
