-- What the report tells of a module besides how it ended. Project format.
use Rattle.std.specs.Prelude.{ℕ, List, [], ◌++◌, codes, map}
use Rattle.std.specs.Fmt.{decimal}
use Rattle.mvn_base.specs.Gav.{gav_text}
use Rattle.mvn_base.specs.declared.gav.Gav.{Gav}
use Rattle.mvn_base.specs.Rule.{rule_number}
use Rattle.classpaths.specs.declared.resolution.Note.{Note}
use Rattle.classpaths.specs.declared.resolution.Note.TheVariants.{Missing, Refused}

-- a POM of the dependency graph that is missing, or refused by a rule
unfoldable pub missing_note : Gav → List ℕ
missing_note gav = codes "note missing " ++ gav_text gav

abbrev pub note_text : Note → List ℕ
note_text (Missing gav) = missing_note gav
note_text (Refused gav rule) = codes "note refused " ++ gav_text gav ++ codes " rule " ++ decimal (rule_number rule)

-- a goal that no phase runs
unfoldable pub unbound_note : List ℕ → List ℕ
unbound_note goal = codes "note unbound " ++ goal

-- a module's notes: the POMs in the order in which they are met, then the goals
abbrev pub notes_of : List Note → (unbound : List (List ℕ)) → List (List ℕ)
notes_of notes unbound = map note_text notes ++ map unbound_note unbound
