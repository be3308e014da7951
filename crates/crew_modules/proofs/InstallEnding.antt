-- How a module ends behind the putting of its own files.
use Rattle.std.proofs.Common.{◌≡◌, ℕ, ◌<◌, true, false, [], ◌∷◌, length, Option, Some, None, unwrap_or, refl, subst}
use Rattle.build_core.specs.declared.mode.Mode.TheVariants.{Exclusive}
use Rattle.build_core.specs.declared.ending.Device.TheVariants as device
use Rattle.build_core.specs.declared.ending.Ending.{Ending}
use Rattle.build_core.specs.declared.ending.Ending.TheVariants as ending
use Rattle.build_core.specs.declared.event.Event.TheVariants as event
use Rattle.event_core.specs.Runs.{module_by}
use Rattle.event_core.specs.Worlds.{HandTold, is_installed}
use Rattle.crew_turns.specs.Seen.{Steps, Told, names_by, seen_by}
use Rattle.crew_turns.specs.Tasks.{ModuleTask, stood_by}
use Rattle.crew_turns.specs.Endings.{is_fault_of, is_install_end, is_quiet_end, is_quiet_stop, stops_by}
use Rattle.crew_turns.specs.Hands.{told_by}
use Rattle.crew_turns.specs.Stops.{MayStop}
use Rattle.atomic_table.specs.Seated.{TableId}
use Rattle.crew_modules.specs.Putting.{IsBehind}
use Rattle.crew_modules.proofs.InstallStopping.{built_stops, failed_stops, installing_whose, put_install_end}

-- a hand that tells nothing
abbrev pub nothing_told : HandTold
nothing_told = told_by None false None

-- a name by which the worker knows it
pub take_by : (t : ModuleTask) (lock : TableId) (before pass : Told) (name : ℕ) → name ≡ t.unit.own_name → Steps t.plan lock t.worker (event.Take t.worker name Exclusive) before pass → Steps t.plan lock t.worker (event.Take t.worker t.unit.own_name Exclusive) before pass
take_by t lock before pass name same turn = subst (λ n. Steps t.plan lock t.worker (event.Take t.worker n Exclusive) before pass) same turn

module _ (t : ModuleTask) (pass : Told) (some : 0 < length t.unit.own) where
  -- it may end so
  pub behind_stops : (told : HandTold) (stop : Option Ending) → IsBehind t (length t.unit.own) stop pass → (stop ≡ None → is_installed (stood_by t pass) ≡ true) → MayStop t told (unwrap_or stop ending.Built) pass
  behind_stops told None at put = built_stops t pass (length t.unit.own) at told some (put refl)
  behind_stops told (Some e) at put = failed_stops t pass at.1.0 at.1.1 told e at.0

  -- and holds its own name
  pub behind_held : (stop : Option Ending) → IsBehind t (length t.unit.own) stop pass → names_by t.plan t.worker pass ≡ t.unit.own_name ∷ []
  behind_held None at = at.at.held
  behind_held (Some e) at = at.1.1.at.held

  pub behind_whose : (stop : Option Ending) → IsBehind t (length t.unit.own) stop pass → module_by t.plan (seen_by pass) t.worker ≡ Some t.number
  behind_whose None at = installing_whose t pass (length t.unit.own) at
  behind_whose (Some e) at = installing_whose t pass at.1.0 at.1.1

  pub behind_end : (stop : Option Ending) → IsBehind t (length t.unit.own) stop pass → is_install_end (unwrap_or stop ending.Built) ≡ true
  behind_end None at = refl
  behind_end (Some e) at = put_install_end e at.0

pub end_blames : (stop : Option Ending) → is_fault_of device.Area (unwrap_or stop ending.Built) ≡ stops_by device.Area stop
end_blames None = refl
end_blames (Some e) = refl

pub end_quiet : (stop : Option Ending) → is_quiet_end (unwrap_or stop ending.Built) ≡ true → is_quiet_stop stop ≡ true
end_quiet None is = refl
end_quiet (Some e) is = is
