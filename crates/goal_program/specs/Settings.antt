-- The settings of a request's line: each is an object of exactly a name, a text and children. Own format.
use Rattle.std.specs.Prelude.{ℕ, zero, suc, ◌==◌, List, codes, Option, Some, None, option_and_then, if◌then◌else◌}
use Rattle.serde_json.specs.Data.{Data}
use Rattle.mvn_base.specs.declared.setting.Setting.{Setting}
use Rattle.mvn_base.specs.declared.setting.Setting.TheViews.{roll-Setting}
use Rattle.goal_types.specs.Answers.{keys_of}
use Rattle.goal_program.specs.Members.{text_at, items_at, all_of}

-- more levels than JSON is read with
abbrev pub most_levels : ℕ
most_levels = 128

-- a setting of these parts, where each is there
abbrev pub setting_of : Option (List ℕ) → Option (List ℕ) → Option (List Setting) → Option Setting
setting_of (Some name) (Some text) (Some children) = Some (roll-Setting (record { name = name; text = text; children = children }))
setting_of name text children = None

-- the setting that a value is, of so many levels at most
unfoldable pub setting_in : ℕ → Data → Option Setting
setting_in zero value = None
setting_in (suc levels) value =
    if keys_of value == 3 then setting_of (text_at (codes "name") value) (text_at (codes "text") value) (option_and_then (all_of (setting_in levels)) (items_at (codes "children") value)) else None
