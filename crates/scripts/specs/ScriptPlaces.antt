-- The program's own words: what is left of a module's script from a place on. A `ScriptPlace` is the program's: a number in one of the
-- module's lists. A `Script` is the definition's: the steps themselves. `rest_of` gives the script of a place.
use Rattle.std.specs.Prelude.{◌≡◌, ℕ, zero, suc, ◌<◌, Bool, true, false, nat_eq, List, length, drop, slice_get, Option, None}
use Rattle.build_core.specs.Locks.{below}
use Rattle.build_core.specs.declared.mode.Mode.TheVariants.{Shared, Exclusive}
use Rattle.scripts.specs.declared.outline.ModuleOutline.{ModuleOutline}
use Rattle.scripts.specs.declared.script_place.ScriptPlace.{ScriptPlace}
use Rattle.scripts.specs.declared.script_place.ScriptPlace.TheVariants as place
use Rattle.scripts.specs.Scripts.{Script, answers, choice_script, fetches, frees, install_script, lock_script, may_publish, own_script, read_script, reads, release_script, step, steps, takes, whole}

abbrev pub own_from : ℕ → List ℕ → Script
own_from zero own = own_script own
own_from (suc i) own = steps 6 may_publish (drop (suc i) own) (step 6 frees whole)

unfoldable pub rest_of : ModuleOutline → ScriptPlace → Script
rest_of m (place.Sharing i) = steps 2 (takes Shared) (drop i m.batch) (choice_script m)
rest_of m place.Unsharing = step 3 frees (lock_script m)
rest_of m (place.Locking i) = steps 3 (takes Exclusive) (drop i m.batch) (steps 3 fetches m.fetch (read_script m))
rest_of m (place.Fetching i) = steps 3 fetches (drop i m.fetch) (read_script m)
rest_of m (place.Reading i) = steps 4 reads (drop i m.reads) (release_script m)
rest_of m place.Releasing = release_script m
rest_of m (place.Answering i) = steps 5 answers (drop i (below m.goals)) (install_script m)
rest_of m place.Securing = install_script m
rest_of m (place.Installing i) = own_from i m.own
rest_of m place.Whole = whole

-- a place whose list hasn't ended
abbrev pub IsPlaced : ModuleOutline → ScriptPlace → Type 0
IsPlaced m (place.Locking i) = i < length m.batch
IsPlaced m (place.Fetching i) = i < length m.fetch
IsPlaced m (place.Reading i) = i < length m.reads
IsPlaced m (place.Answering i) = i < m.goals
IsPlaced m place.Securing = m.installs ≡ true
IsPlaced m other = Unit {0}

-- ---- readings of a place whose list hasn't ended

abbrev pub stage_at : ScriptPlace → ℕ
stage_at (place.Sharing i) = 2
stage_at place.Unsharing = 3
stage_at (place.Locking i) = 3
stage_at (place.Fetching i) = 3
stage_at (place.Reading i) = 4
stage_at place.Releasing = 4
stage_at (place.Answering i) = 5
stage_at place.Securing = 6
stage_at (place.Installing i) = 6
stage_at place.Whole = 7

abbrev pub wanted_at : ModuleOutline → ScriptPlace → Option ℕ
wanted_at m (place.Fetching i) = slice_get m.fetch i
wanted_at m other = None

abbrev pub read_at : ModuleOutline → ScriptPlace → Option ℕ
read_at m (place.Reading i) = slice_get m.reads i
read_at m other = None

abbrev pub published_at : ModuleOutline → ScriptPlace → Option ℕ
published_at m (place.Fetching i) = slice_get m.fetch i
published_at m (place.Installing i) = slice_get m.own i
published_at m other = None

abbrev pub is_to_install_at : ScriptPlace → Bool
is_to_install_at place.Securing = true
is_to_install_at other = false

abbrev pub may_end_at : ScriptPlace → Bool
may_end_at place.Whole = true
may_end_at other = false

abbrev pub is_unanswered_at : ModuleOutline → ScriptPlace → Bool
is_unanswered_at m (place.Answering i) = nat_eq i 0
is_unanswered_at m place.Securing = nat_eq 0 m.goals
is_unanswered_at m (place.Installing i) = nat_eq 0 m.goals
is_unanswered_at m place.Whole = nat_eq 0 m.goals
is_unanswered_at m other = true
