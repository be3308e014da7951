-- A run is one in one way.
use Rattle.std.proofs.Common.{List, [], ◌∷◌, ◌++◌}
use Rattle.std.proofs.Props.{props}
use Rattle.build_core.specs.declared.event.Event.{Event}
use Rattle.build_core.specs.declared.event.Event.TheVariants as event
use Rattle.scripts.specs.declared.outline.Outline.{Outline}
use Rattle.event_core.specs.Enabled.{Enabled, IsEnabled, IsRun}
use Rattle.event_core.specs.Standing.{Standing, standing_of}

-- an event is enabled in one way
enabled_prop : (o : Outline) (now : Standing) (e : Event) → IsProp (IsEnabled o now e)
enabled_prop o now (event.Start w m) = hlevel props
enabled_prop o now (event.Skip m) = hlevel props
enabled_prop o now (event.Take w n mode) = hlevel props
enabled_prop o now (event.Free w n) = hlevel props
enabled_prop o now (event.Read w f) = hlevel props
enabled_prop o now (event.Publish w f) = hlevel props
enabled_prop o now (event.Answer w g) = hlevel props
enabled_prop o now (event.End w e) = hlevel props

-- so a run is one in one way
pub run_prop : (o : Outline) (past events : List Event) → IsProp (IsRun o past events)
unfolding Enabled
run_prop o past [] = hlevel props
run_prop o past (e ∷ events) = let a = enabled_prop o (standing_of o past) e in let b = run_prop o (past ++ e ∷ []) events in hlevel (a, b, props)
