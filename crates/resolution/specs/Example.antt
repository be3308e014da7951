-- A project needs `near`, and `late` for tests. Both need `base`, and `near` needs it at run time alone.
use Rattle.std.specs.Prelude.{false, List, [], ◌∷◌}
use Rattle.collector.specs.declared.scope.Scope.TheVariants.{Compile, Runtime, Test}
use Rattle.resolution.specs.declared.link.Link.{Link}

abbrev pub near : Link
near = record { to = 0; scope = Compile; managed_scope = false }

abbrev pub late : Link
late = record { to = 1; scope = Test; managed_scope = false }

abbrev pub base_at_run_time : Link
base_at_run_time = record { to = 2; scope = Runtime; managed_scope = false }

abbrev pub base_always : Link
base_always = record { to = 2; scope = Compile; managed_scope = false }

abbrev pub starts : List Link
starts = near ∷ late ∷ []

abbrev pub below : List (List Link)
below = (base_at_run_time ∷ []) ∷ (base_always ∷ []) ∷ [] ∷ []
