-- An effective model in whose lists each key stands once. Project rule.
use Rattle.std.specs.Prelude.{◌≡◌, Bool, true, ◌&&◌, List}
use Rattle.std.specs.List.{list_all}
use Rattle.model_types.specs.declared.model.Model.{Model}
use Rattle.model_types.specs.declared.plugin.Plugin.{Plugin}
use Rattle.model_merge.specs.Keys.{key_of_dependency, key_of_execution, key_of_extension, key_of_plugin}
use Rattle.model_laws.specs.Keys.{each_once, goals_once}

-- whether a plugin has one dependency of each key and one execution of each id, which names each goal once
abbrev pub parts_once : Plugin → Bool
parts_once p =
    each_once key_of_dependency p.dependencies
    && (each_once key_of_execution p.executions && list_all goals_once p.executions)

-- plugins of which each name has one, and in each of which each key stands once
pub record ArePluginsOnce (plugins : List Plugin) : Type 0 where
  pub names : each_once key_of_plugin plugins ≡ true
  pub parts : list_all parts_once plugins ≡ true

-- a model that has one dependency, one managed entry and one extension of each key, and so of its plugins and its managed ones
pub record HasKeysOnce (model : Model) : Type 0 where
  pub dependencies : each_once key_of_dependency model.base.dependencies ≡ true
  pub managed : each_once key_of_dependency model.base.managed ≡ true
  pub extensions : each_once key_of_extension model.build.extensions ≡ true
  pub plugins : ArePluginsOnce model.build.base.plugins
  pub managed_plugins : ArePluginsOnce model.build.base.managed_plugins
