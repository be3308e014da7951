use Rattle.std.proofs.Common.{◌≡◌, drop, flat_map, fold}
use Rattle.std.specs.HashSet.{contains}
use Rattle.mvn_base.specs.Gav.{gav_eq}
use Rattle.classpaths.specs.Classpaths.{fetch_list, files_of, with_name}
use Rattle.classpaths.proofs.resolution.Resolution.files.Given as goal

abbrev pub invariant-loop-at : goal.invariant-loop-at
invariant-loop-at l =
    fold with_name l.files (flat_map (files_of (contains gav_eq l.selected)) (drop l.at l.self.winners))
    ≡ fetch_list (contains gav_eq l.selected) l.self.winners
