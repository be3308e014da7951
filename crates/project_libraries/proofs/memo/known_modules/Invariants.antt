use Rattle.std.proofs.Common.{◌≡◌, take}
use Rattle.std.specs.Option.{option_map}
use Rattle.std.specs.HashMap.{get}
use Rattle.mvn_base.specs.declared.gav.Gav.{Gav}
use Rattle.mvn_base.specs.Gav.{gav_eq}
use Rattle.mediation.specs.declared.known.Known.TheVariants as known
use Rattle.project_libraries.specs.Known.{module_of}
use Rattle.project_libraries.proofs.memo.known_modules.Given as goal

-- the modules so far are kept
abbrev pub invariant-loop-model : goal.invariant-loop-model
invariant-loop-model l = (gav : Gav) → get gav_eq l.map gav ≡ option_map known.Model (module_of (take l.model-index l.own) gav)
