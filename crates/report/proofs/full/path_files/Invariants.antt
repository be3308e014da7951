use Rattle.std.proofs.Common.{◌≡◌, ◌++◌, slice_get, flat_map, drop}
use Rattle.report.specs.Full.{file_of, path_files}
use Rattle.report.proofs.full.path_files.Given as goal

-- the files so far, and those of the places that are left
abbrev pub invariant-loop-place : goal.invariant-loop-place
invariant-loop-place l =
    l.files ++ flat_map (λ place. file_of (slice_get l.resolution.winners place)) (drop l.place-index l.place-items) ≡ path_files l.fn.kind l.resolution.winners
