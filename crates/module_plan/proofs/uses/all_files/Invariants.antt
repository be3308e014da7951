use Rattle.std.proofs.Common.{◌≡◌, drop, filter, flat_map, fold}
use Rattle.classpaths.specs.Classpaths.{files_of, with_name}
use Rattle.module_plan.specs.Uses.{fetched_files, has_names, is_selected}
use Rattle.module_plan.proofs.uses.all_files.Given as goal

-- the files so far, and those of the dependencies that are left
abbrev pub invariant-loop-winner : goal.invariant-loop-winner
invariant-loop-winner l =
    fold with_name l.files (flat_map (files_of (is_selected l.built)) (filter has_names (drop l.winner-index l.winners)))
    ≡ fetched_files l.built (filter has_names l.winners)
