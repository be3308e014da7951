-- What is said of lists whose items are told apart by a key.
use Rattle.std.specs.Prelude.{◌≡◌, Bool, true, not, ◌&&◌, ◌||◌, List, [], ◌∷◌, Option, Some, None, if◌then◌else◌}
use Rattle.std.specs.List.{list_any, list_all}
use Rattle.std.specs.Option.{option_or}
use Rattle.mvn_base.specs.declared.key.Key.{Key}
use Rattle.model_types.specs.declared.plugin.Execution.{Execution}
use Rattle.model_types.specs.declared.plugin.Plugin.{Plugin}
use Rattle.model_merge.specs.Keyed.{item_of, merged_lists, same_key}
use Rattle.model_merge.specs.Keys.{key_of_dependency, key_of_execution, key_of_name}
use Rattle.model_merge.specs.Merging.{merged_execution}

module _ {T : Type 0} (key : T → Key) where
  -- whether a list has an item of a key
  abbrev pub has : List T → Key → Bool
  has items k = list_any (λ x. same_key k (key x)) items

  -- whether no two items of a list have one key
  abbrev pub each_once : List T → Bool
  each_once [] = true
  each_once (x ∷ items) = not (has items (key x)) && each_once items

  -- the last item of a key
  abbrev pub last_of : List T → Key → Option T
  last_of [] k = None
  last_of (x ∷ items) k = option_or (last_of items k) (if same_key k (key x) then Some x else None)

-- a list has the keys of two others, each once
pub record IsJoin {T : Type 0} (key : T → Key) (first second joined : List T) : Type 0 where
  pub keys : (k : Key) → has key joined k ≡ (has key first k || has key second k)
  pub once : each_once key joined ≡ true

-- a list has under each key the last of a first list's items, or else the last of a second's
abbrev pub HasFirst : {T : Type 0} → (T → Key) → List T → List T → List T → Type 0
HasFirst key first second joined = (k : Key) → item_of key joined k ≡ option_or (last_of key first k) (last_of key second k)

-- what is there of one thing that a child and its parent may each state
abbrev pub both : {T : Type 0} → (T → T → T) → Option T → Option T → Option T
both merge (Some c) (Some p) = Some (merge c p)
both merge (Some c) None = Some c
both merge None o = o

-- the executions of a plugin and of the one that it builds on
abbrev pub merged_executions : List Execution → List Execution → List Execution
merged_executions child parent = merged_lists key_of_execution merged_execution child parent

-- a list has under each id the last of a child's executions and of its parent's, merged if both have one
abbrev pub HasMerged : List Execution → List Execution → List Execution → Type 0
HasMerged child parent joined = (k : Key) → item_of key_of_execution joined k ≡ both merged_execution (last_of key_of_execution child k) (last_of key_of_execution parent k)

-- an execution names each goal once
abbrev pub goals_once : Execution → Bool
goals_once e = each_once key_of_name e.goals

-- a plugin has one dependency of each key and one execution of each id, which names each goal once
pub record IsSettled (p : Plugin) : Type 0 where
  pub dependencies : each_once key_of_dependency p.dependencies ≡ true
  pub executions : each_once key_of_execution p.executions ≡ true
  pub goals : list_all goals_once p.executions ≡ true
