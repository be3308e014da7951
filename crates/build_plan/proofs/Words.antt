-- A fault of the modules that are built names a word of the line.
use Rattle.std.proofs.Common.{◌≡◌, ◌⊎◌, inl, inr, ℕ, List, Err, None, Some, map}
use Rattle.std.specs.Prelude.{Contains}
use Rattle.cli_words.specs.declared.command_line.CommandLine.{CommandLine}
use Rattle.cli_words.specs.declared.command_line.Word.{Word}
use Rattle.classpaths.specs.declared.resolution.Resolution.{Resolution}
use Rattle.model_types.specs.declared.model.Model.{Model}
use Rattle.reactor.specs.Selection.{IsChosen, naming, resumed, unknown}
use Rattle.reactor.specs.Reactor.{Answers, IsUnknown}
use Rattle.reactor.specs.declared.modules.ReactorFault.{ReactorFault}
use Rattle.reactor.specs.declared.modules.ReactorFault.TheVariants.{Memory, Refused, Unknown}
use Rattle.build_plan.specs.Planning.{NamesWord, plan_fault}
use Rattle.build_plan.proofs.Places.{first_is_named, from_is_named}

named : (models : List Model) (resolutions : List Resolution) (line : CommandLine) (place : ℕ) → IsUnknown models resolutions line place
    → Contains (map (λ (w : Word). w.place) (naming line)) place
named models resolutions line place is = by is.unknown
  where
    by : (unknown models None (naming line) ≡ Some place)
        ⊎ ((unknown models None (naming line) ≡ None)
        × ((whole : List ℕ) × IsChosen models is.found.order is.found.edges line whole × (resumed models is.found.order whole line.from ≡ Err place)))
        → Contains (map (λ (w : Word). w.place) (naming line)) place
    by (inl first) = first_is_named models line place first
    by (inr later) = from_is_named models line is.found.order later.1.0 place later.1.2

pub names_word : (models : List Model) (resolutions : List Resolution) (line : CommandLine) (fault : ReactorFault) → Answers models resolutions line (Err fault) → NamesWord line (Err (plan_fault fault))
names_word models resolutions line (Unknown place) is = named models resolutions line place is
names_word models resolutions line (Refused refusal) is = record {}
names_word models resolutions line Memory is = record {}
