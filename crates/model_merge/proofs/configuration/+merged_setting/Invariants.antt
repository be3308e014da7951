use Rattle.std.proofs.Common.{◌≡◌, ◌++◌, [], drop, map, zip}
use Rattle.model_merge.specs.Configuration.{merged_or, name_of, partners}
use Rattle.model_merge.proofs.configuration.+merged_setting.Given as goal

abbrev pub invariant-merged_configuration-loop-at : goal.invariant-merged_configuration-loop-at
invariant-merged_configuration-loop-at l =
    l.list ++ map (λ e. merged_or e.0 e.1) (zip (drop l.at l.child) (drop l.at (partners [] (map name_of l.child) l.parent))) ≡ map (λ e. merged_or e.0 e.1) (zip l.child (partners [] (map name_of l.child) l.parent))
