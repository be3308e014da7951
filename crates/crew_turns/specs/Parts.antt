-- The entries of a module's classpaths with their bytes, while they are gathered one after another. Introduction to the Dependency Mechanism;
-- project rule for the limit.
use Rattle.std.specs.Prelude.{◌≡◌, ◌⊎◌, ℕ, ◌<◌, Bool, false, List, find, map, slice_get, take, Option}
use Rattle.std.specs.Option.{option_map_or}
use Rattle.mvn_shared.specs.Files.{Files}
use Rattle.goal_types.specs.declared.goal.OwnBytes.{OwnBytes}
use Rattle.goal_types.specs.declared.goal.PathEntry.{PathEntry}
use Rattle.build_core.specs.Locks.{below}
use Rattle.build_core.specs.OneThread.{most_classpath, path_entry}
use Rattle.build_core.specs.declared.ending.Ending.{Ending}
use Rattle.build_core.specs.declared.ending.Ending.TheVariants as ending
use Rattle.build_core.specs.declared.plan.Entry.{Entry}
use Rattle.build_core.specs.declared.plan.Plan.{Plan}
use Rattle.event_core.specs.HowFar.{is_this}
use Rattle.scripts.specs.Outlines.{file_of}

-- these are the first so many entries with their bytes
abbrev pub IsPart : Plan → Files → List (List OwnBytes) → List Entry → (count : ℕ) → List PathEntry → Type 0
IsPart plan files outputs entries count paths = paths ≡ map (path_entry plan files outputs) (take count entries)

-- the entry comes from this file
abbrev pub is_this_file : ℕ → Entry → Bool
is_this_file file e = is_this (file_of e.origin) file

-- the place of the first of so many entries that comes from this file
abbrev pub place_before : List Entry → (count file : ℕ) → Option ℕ
place_before entries count file = find (λ at. option_map_or (is_this_file file) (slice_get entries at) false) (below count)

-- an entry isn't added: with it all would have so many bytes, which is beyond the limit, or memory ran out
abbrev pub IsAddEnd : (len : ℕ) → Ending → Type 0
IsAddEnd len e = ((e ≡ ending.ClasspathTooLarge) × (most_classpath < len)) ⊎ (e ≡ ending.Memory)
