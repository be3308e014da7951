-- The faults of a command line, and how they are printed. Own kinds.
use Rattle.std.specs.Prelude.{◌≡◌, ℕ, List, ◌∷◌, ◌++◌, codes, Result, Ok, Err}
use Rattle.std.specs.Fmt.{decimal}
use Rattle.std.specs.Result.{MatchResult}
use Rattle.cli_words.specs.declared.fault.WordKind.{WordKind}
use Rattle.cli_words.specs.declared.fault.WordKind.TheVariants.{UnknownWord, UnknownPhase, MissingValue, BadNumber, Repeated, TwoPhases, NoPhase, BadSelector, UnknownModule, TooManyWorkers, DeployPhase, NotUtf8}
use Rattle.cli_words.specs.declared.fault.WordFault.{WordFault}
use Rattle.cli_words.specs.declared.fault.WordError.{WordError}
use Rattle.cli_words.specs.declared.fault.WordError.TheVariants.{Fault, Memory}

unfoldable pub kind_name : WordKind → List ℕ
kind_name UnknownWord = codes "UnknownWord"
kind_name UnknownPhase = codes "UnknownPhase"
kind_name MissingValue = codes "MissingValue"
kind_name BadNumber = codes "BadNumber"
kind_name Repeated = codes "Repeated"
kind_name TwoPhases = codes "TwoPhases"
kind_name NoPhase = codes "NoPhase"
kind_name BadSelector = codes "BadSelector"
kind_name UnknownModule = codes "UnknownModule"
kind_name TooManyWorkers = codes "TooManyWorkers"
kind_name DeployPhase = codes "DeployPhase"
kind_name NotUtf8 = codes "NotUtf8"

-- word PLACE KIND
unfoldable pub fault_text : WordFault → List ℕ
fault_text fault = codes "word " ++ decimal fault.place ++ 32 ∷ kind_name fault.kind

-- an error is the fault that is said; want of memory says nothing of the words
abbrev pub Refuses : {T : Type 0} → WordError → Result T WordFault → Type 0
Refuses (Fault fault) said = said ≡ Err fault
Refuses Memory said = Unit {0}

-- the answer is what is said, memory aside
abbrev pub Answers : {T : Type 0} → Result T WordFault → Result T WordError → Type 0
Answers said answer = MatchResult answer (λ x. said ≡ Ok x) (λ error. Refuses error said)
