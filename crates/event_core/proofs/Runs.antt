-- Runs, one event longer.
use Rattle.std.proofs.Common.{List, [], ◌∷◌, ◌++◌, sym, subst}
use Rattle.std.proofs.lemmas.List.{append-nil, append_assoc}
use Rattle.build_core.specs.declared.event.Event.{Event}
use Rattle.scripts.specs.declared.outline.Outline.{Outline}
use Rattle.event_core.specs.Enabled.{Enabled, IsRun}

-- an event that may follow a run makes a longer one
pub run_more : (o : Outline) (past events : List Event) (e : Event) → IsRun o past events → Enabled o (past ++ events) e → IsRun o past (events ++ e ∷ [])
run_more o past [] e run is = (subst (λ t. Enabled o t e) (append-nil past) is, tt)
run_more o past (x ∷ events) e run is = (run.0, run_more o (past ++ x ∷ []) events e run.1 (subst (λ t. Enabled o t e) (sym (append_assoc past (x ∷ []) events)) is))
