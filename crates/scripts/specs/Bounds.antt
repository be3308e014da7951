-- How many events a module has at most, and a build. Own.
use Rattle.std.specs.Prelude.{ℕ, suc, ◌+◌, max, List, [], ◌∷◌, length, if◌then◌else◌}
use Rattle.scripts.specs.declared.outline.Outline.{Outline}
use Rattle.scripts.specs.declared.outline.ModuleOutline.{ModuleOutline}
use Rattle.scripts.specs.Scripts.{Script, Step, absent, frees, script_of, step, takes, whole}

abbrev pub total : {A : Type 0} → (A → ℕ) → List A → ℕ
total f [] = 0
total f (x ∷ xs) = f x + total f xs

-- the events of a step; a name that is taken will be freed
abbrev pub step_events : Step → ℕ
step_events (takes mode name) = 2
step_events frees = 0
step_events other = 1

-- the most events of a script
abbrev pub script_events : Script → ℕ
script_events whole = 0
script_events (absent files this that) = max (script_events this) (script_events that)
script_events (step stage s rest) = step_events s + script_events rest

-- what a module has: a start, its script, an end
abbrev pub module_events : ModuleOutline → ℕ
module_events m = suc (suc (script_events (script_of m)))

-- the most events of a build
abbrev pub most_events : Outline → ℕ
most_events o = total module_events o.modules

-- ---- the same as numbers

abbrev pub install_events : ModuleOutline → ℕ
install_events m = if m.installs then 2 + length m.own else 0
