-- The names and the files of a plan, and the number of each. Resolver, "Named Locks", for the ascending order; the order of files is a
-- project rule.
use Rattle.std.specs.Prelude.{ℕ, List, [], ◌∷◌, ◌++◌, flat_map, fold, map}
use Rattle.std.specs.FinMap as finite
use Rattle.std.specs.List.{position_or_len}
use Rattle.std.specs.Str.{bytes_eq}
use Rattle.mvn_shared.specs.Files.{Files}
use Rattle.mvn_base.specs.Gav.{lock_name}
use Rattle.mvn_base.specs.declared.gav.Gav.{Gav}
use Rattle.mvn_base.specs.declared.phase.Phase.{Phase}
use Rattle.classpaths.specs.Classpaths.{with_name}
use Rattle.module_plan.specs.Outputs.{outputs}
use Rattle.module_plan.specs.Uses.{fetched_files, fetched_locks, gavs, used}
use Rattle.module_plan.specs.declared.selected.Output.{Output}
use Rattle.module_plan.specs.declared.selected.SelectedModule.{SelectedModule}

-- a set of texts is a map to nothing: with one more, and with all of a list
abbrev pub with_text : Files → List ℕ → Files
with_text texts text = finite.insert texts text []

abbrev pub with_texts : Files → List (List ℕ) → Files
with_texts texts more = fold with_text texts more

-- texts in ascending order, each once
unfoldable pub ascending : List (List ℕ) → List (List ℕ)
ascending texts = finite.keys (with_texts finite.empty texts)

-- the number of a name: its place in the list
abbrev pub number_of : List (List ℕ) → List ℕ → ℕ
number_of names name = position_or_len (bytes_eq name) names

-- the numbers of names
abbrev pub numbers_of : List (List ℕ) → List (List ℕ) → List ℕ
numbers_of names some = map (number_of names) some

-- ---- of one module, by which modules are built

abbrev pub fetch_names : Phase → List Gav → SelectedModule → List (List ℕ)
fetch_names phase built m = fetched_files built (used phase m)

-- the locks that cover the files that are fetched for it, ascending
abbrev pub fetch_locks : Phase → List Gav → SelectedModule → List (List ℕ)
fetch_locks phase built m = ascending (fetched_locks built (used phase m))

abbrev pub own_names : SelectedModule → List (List ℕ)
own_names m = map (λ (o : Output). o.name) (outputs m.model)

-- ---- of all modules

-- the names that are locked: of each module's coordinates, and of those of the files that are fetched
abbrev pub locks_of : Phase → List Gav → SelectedModule → List (List ℕ)
locks_of phase built m = lock_name m.model.gav ∷ fetch_locks phase built m

unfoldable pub plan_names : Phase → List SelectedModule → List (List ℕ)
plan_names phase modules = ascending (flat_map (locks_of phase (gavs modules)) modules)

-- the files in the order of their first mention, module by module: those that are fetched, and then its own
abbrev pub files_of : Phase → List Gav → SelectedModule → List (List ℕ)
files_of phase built m = fetch_names phase built m ++ own_names m

unfoldable pub plan_files : Phase → List SelectedModule → List (List ℕ)
plan_files phase modules = fold with_name [] (flat_map (files_of phase (gavs modules)) modules)
