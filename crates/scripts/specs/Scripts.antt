-- What a worker does for a module, as a script, and what is left of it after a deed. Own; Resolver, "Named Locks", for the modes.
use Rattle.std.specs.Prelude.{ℕ, suc, Bool, true, false, ◌&&◌, nat_eq, nat_lt, List, [], ◌∷◌, Option, Some, None, option_and_then, if◌then◌else◌}
use Rattle.std.specs.List.{list_all, slice_index_or}
use Rattle.build_core.specs.Locks.{below}
use Rattle.build_core.specs.declared.mode.Mode.{Mode}
use Rattle.build_core.specs.declared.mode.Mode.TheVariants.{Shared, Exclusive}
use Rattle.scripts.specs.declared.outline.ModuleOutline.{ModuleOutline}
use Rattle.scripts.specs.declared.deed.Deed.{Deed}
use Rattle.scripts.specs.declared.deed.Deed.TheVariants as deed

-- what is to be done: a name taken; names freed, in any order, until none is held; a file read; a file published, where it is absent, or
-- in any case, or not at all; a goal's answer kept
pub data Step : Type 0 where
  takes : Mode → ℕ → Step
  frees : Step
  reads : ℕ → Step
  fetches : ℕ → Step
  publishes : ℕ → Step
  may_publish : ℕ → Step
  answers : ℕ → Step

-- a script: nothing more; a step of a stage, and the rest; or one script where one of these files is absent, and else another
pub data Script : Type 0 where
  whole : Script
  step : (stage : ℕ) → Step → Script → Script
  absent : List ℕ → Script → Script → Script

-- ---- the script of a module

abbrev pub steps : ℕ → (ℕ → Step) → List ℕ → Script → Script
steps stage f [] rest = rest
steps stage f (x ∷ xs) rest = step stage (f x) (steps stage f xs rest)

-- the POM's file, and then any of the others
abbrev pub own_script : List ℕ → Script
own_script [] = step 6 frees whole
own_script (pom ∷ others) = step 6 (publishes pom) (steps 6 may_publish others (step 6 frees whole))

abbrev pub install_script : ModuleOutline → Script
install_script m = if m.installs then step 6 (takes Exclusive m.own_name) (own_script m.own) else whole

abbrev pub answer_script : ModuleOutline → Script
answer_script m = steps 5 answers (below m.goals) (install_script m)

abbrev pub release_script : ModuleOutline → Script
release_script m = step 4 frees (answer_script m)

abbrev pub read_script : ModuleOutline → Script
read_script m = steps 4 reads m.reads (release_script m)

abbrev pub lock_script : ModuleOutline → Script
lock_script m = steps 3 (takes Exclusive) m.batch (steps 3 fetches m.fetch (read_script m))

-- files are fetched exactly where one of them is absent
abbrev pub choice_script : ModuleOutline → Script
choice_script m = absent m.fetch (step 3 frees (lock_script m)) (read_script m)

-- the whole script of a module, behind its start
abbrev pub script_of : ModuleOutline → Script
script_of m = steps 2 (takes Shared) m.batch (choice_script m)

-- ---- what is left

abbrev pub is_there : List Bool → ℕ → Bool
is_there there file = slice_index_or there file false

-- a script without what needs no event: files that are there, and frees where no name is held
abbrev pub settled : List Bool → Bool → Script → Script
settled there empty whole = whole
settled there empty (absent files this that) = if list_all (is_there there) files then settled there empty that else settled there empty this
settled there empty (step stage frees rest) = if empty then settled there empty rest else step stage frees rest
settled there empty (step stage (fetches file) rest) = if is_there there file then settled there empty rest else step stage (fetches file) rest
settled there empty (step stage other rest) = step stage other rest

abbrev pub same_mode : Mode → Mode → Bool
same_mode Shared Shared = true
same_mode Exclusive Exclusive = true
same_mode a b = false

-- whether a deed is what a step wants
abbrev pub is_wanted : Step → Deed → Bool
is_wanted (takes mode name) (deed.Take m n) = same_mode m mode && nat_eq n name
is_wanted frees deed.Free = true
is_wanted (reads file) (deed.Read f) = nat_eq f file
is_wanted (fetches file) (deed.Publish f) = nat_eq f file
is_wanted (publishes file) (deed.Publish f) = nat_eq f file
is_wanted (may_publish file) (deed.Publish f) = nat_eq f file
is_wanted (answers goal) (deed.Answer g) = nat_eq g goal
is_wanted other d = false

-- what a step leaves behind it: frees stay until no name is held
abbrev pub left_by : ℕ → Step → Script → Script
left_by stage frees rest = step stage frees rest
left_by stage other rest = rest

-- what is left of a script after a deed: nothing where the deed isn't due; what may be left out is passed over
abbrev pub done : Script → Deed → Option Script
done whole d = None
done (absent files this that) d = None
done (step stage (may_publish file) rest) d = if is_wanted (may_publish file) d then Some rest else done rest d
done (step stage other rest) d = if is_wanted other d then Some (left_by stage other rest) else None

-- ---- readings

-- the stage of what is due: 7 where that is the end
abbrev pub stage_of : Script → ℕ
stage_of whole = 7
stage_of (absent files this that) = 2
stage_of (step stage s rest) = stage

abbrev pub may_end : Script → Bool
may_end whole = true
may_end other = false

abbrev pub head : Script → Option Step
head (step stage s rest) = Some s
head other = None

-- the file that is to be fetched next
abbrev pub fetched_by : Step → Option ℕ
fetched_by (fetches file) = Some file
fetched_by other = None

abbrev pub wanted : Script → Option ℕ
wanted script = option_and_then fetched_by (head script)

-- the file that is to be read next, and the one to be published
abbrev pub read_by : Step → Option ℕ
read_by (reads file) = Some file
read_by other = None

abbrev pub published_by : Step → Option ℕ
published_by (fetches file) = Some file
published_by (publishes file) = Some file
published_by (may_publish file) = Some file
published_by other = None

-- how many answers a script still wants
abbrev pub answers_left : Script → ℕ
answers_left whole = 0
answers_left (absent files this that) = answers_left that
answers_left (step stage (answers goal) rest) = suc (answers_left rest)
answers_left (step stage other rest) = answers_left rest

-- all files of the fetch list were there under the batch's locks, and no goal of so many is answered
abbrev pub is_gathered : ℕ → Script → Bool
is_gathered goals script = nat_lt 3 (stage_of script) && nat_eq (answers_left script) goals

-- all is done but the installing, which hasn't begun
abbrev pub is_to_install : Script → Bool
is_to_install (step stage (takes Exclusive name) rest) = nat_eq stage 6
is_to_install other = false
