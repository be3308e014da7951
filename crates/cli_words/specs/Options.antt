-- What the words of a command line mean, read from the left: the first fault counts. Maven's command-line options, with own
-- rules for what Maven leaves out.
use Rattle.std.specs.Prelude.{ℕ, ◌+◌, ◌-◌, ◌*◌, Bool, true, false, not, ◌&&◌, ◌||◌, ◌==◌, nat_lt, List, [], ◌∷◌, ◌++◌, length, map, flat_map, take, drop, fold, codes, Option, Some, None, is_some, Result, Ok, Err, if◌then◌else◌}
use Rattle.std.specs.List.{list_any, list_all, slice_split, prefix_len, suffix_len}
use Rattle.std.specs.Char.{is_ascii_digit, is_ascii_whitespace}
use Rattle.std.specs.Str.{is_utf8}
use Rattle.mvn_base.specs.Phase.{phase_of}
use Rattle.mvn_base.specs.declared.phase.Phase.{Phase}
use Rattle.mvn_base.specs.declared.fail_mode.FailMode.TheVariants.{AtEnd}
use Rattle.mvn_base.specs.declared.phase.Phase.TheVariants.{Deploy}
use Rattle.cli_words.specs.declared.command_line.Word.{Word}
use Rattle.mvn_base.specs.declared.machine.Choice.{Choice}
use Rattle.mvn_base.specs.Limits.{most_modules}
use Rattle.cli_words.specs.declared.command_line.CommandLine.{CommandLine}
use Rattle.cli_words.specs.declared.fault.WordKind.TheVariants.{UnknownWord, UnknownPhase, MissingValue, BadNumber, Repeated, TwoPhases, NoPhase, BadSelector, TooManyWorkers, DeployPhase, NotUtf8}
use Rattle.cli_words.specs.declared.fault.WordKind.{WordKind}
use Rattle.cli_words.specs.declared.fault.WordFault.{WordFault}
use Rattle.cli_words.specs.declared.line.Count.{Count}
use Rattle.cli_words.specs.declared.line.Line.{Line}
use Rattle.cli_words.specs.declared.spelling.Wanted.{Wanted}
use Rattle.cli_words.specs.declared.spelling.Wanted.TheVariants.{Workers, Profiles, Define, Projects, ResumeFrom, Generated}
use Rattle.cli_words.specs.declared.spelling.Spelling.{Spelling}
use Rattle.cli_words.specs.declared.spelling.Spelling.TheVariants.{Takes, AlsoMake, AlsoMakeDependents, Full, NoEffect}
use Rattle.cli_words.specs.Spellings.{spelled}

abbrev pub fault : {T : Type 0} → ℕ → WordKind → Result T WordFault
fault place kind = Err (record { place = place; kind = kind })

-- one to four digits without a leading zero
abbrev pub digit : ℕ → ℕ
digit b = b - 48

abbrev pub digits_value : List ℕ → Option ℕ
digits_value (a ∷ []) = Some (digit a)
digits_value (a ∷ b ∷ []) = Some (digit a * 10 + digit b)
digits_value (a ∷ b ∷ c ∷ []) = Some (digit a * 100 + digit b * 10 + digit c)
digits_value (a ∷ b ∷ c ∷ d ∷ []) = Some (digit a * 1000 + digit b * 100 + digit c * 10 + digit d)
digits_value word = None

abbrev pub begins_with : ℕ → List ℕ → Bool
begins_with b [] = false
begins_with b (c ∷ word) = c == b

unfoldable pub number : List ℕ → Option ℕ
number word = if list_all is_ascii_digit word && not (begins_with 48 word) then digits_value word else None

abbrev pub parts : List ℕ → List (List ℕ)
parts word = slice_split (λ b. b == 44) word

-- a text without the white space round it
unfoldable pub trimmed : List ℕ → List ℕ
trimmed text = without_end (drop (prefix_len is_ascii_whitespace text) text)
  where
    without_end : List ℕ → List ℕ
    without_end rest = take (length rest - suffix_len is_ascii_whitespace rest) rest

-- the items of a list: its parts without the white space round them, where anything is left
abbrev pub item : List ℕ → List (List ℕ)
item part = if length (trimmed part) == 0 then [] else trimmed part ∷ []

abbrev pub items : List ℕ → List (List ℕ)
items value = flat_map item (parts value)

-- one id more: `-id` and `!id` switch a profile off, `id` and `+id` on
abbrev pub with_id : Choice → List ℕ → Choice
with_id choice [] = record { on = choice.on ++ [] ∷ []; off = choice.off }
with_id choice (b ∷ id) =
    if b == 45 || b == 33 then record { on = choice.on; off = choice.off ++ id ∷ [] }
    else record { on = choice.on ++ (if b == 43 then id else b ∷ id) ∷ []; off = choice.off }

-- what stands before the first `=`, and behind it, `true` where there is none
abbrev pub name_of : List ℕ → List ℕ
name_of [] = []
name_of (b ∷ word) = if b == 61 then [] else b ∷ name_of word

abbrev pub value_of : List ℕ → List ℕ
value_of [] = codes "true"
value_of (b ∷ word) = if b == 61 then word else value_of word

-- no selector: an empty text, or one that would leave a module out
abbrev pub is_bad_selector : List ℕ → Bool
is_bad_selector [] = true
is_bad_selector (b ∷ selector) = b == 33 || b == 45 || b == 43

-- no selectors, or one that is none
abbrev pub are_bad_selectors : List (List ℕ) → Bool
are_bad_selectors selectors = length selectors == 0 || list_any is_bad_selector selectors

abbrev pub selector : ℕ → List ℕ → Word
selector at text = record { place = at; text = text }

-- the values of options, each at the word where it stands
abbrev pub with_workers : ℕ → List ℕ → Line → Result Line WordFault
with_workers at value line = by (number value)
  where
    by : Option ℕ → Result Line WordFault
    by None = fault at BadNumber
    by (Some n) = Ok (record line { workers = Some (record { place = at; value = n }) })

abbrev pub with_profiles : List ℕ → Line → Line
with_profiles value line = record line { choice = fold with_id line.choice (items value) }

abbrev pub with_define : ℕ → List ℕ → Line → Result Line WordFault
with_define at value line = by (trimmed (name_of value))
  where
    by : List ℕ → Result Line WordFault
    by [] = fault at UnknownWord
    by (b ∷ name) = Ok (record line { defines = line.defines ++ (record { name = b ∷ name; value = value_of value }) ∷ [] })

abbrev pub with_projects : ℕ → List ℕ → Line → Result Line WordFault
with_projects at value line =
    if are_bad_selectors (items value) then fault at BadSelector
    else Ok (record line { projects = line.projects ++ map (selector at) (items value) })

abbrev pub with_from : ℕ → List ℕ → Line → Result Line WordFault
with_from at value line =
    if is_bad_selector (trimmed value) then fault at BadSelector else Ok (record line { from = Some (selector at (trimmed value)) })

-- a generated project has at most 1,024 POMs
abbrev pub with_generated : ℕ → List ℕ → Line → Result Line WordFault
with_generated at value line = by (number value)
  where
    by : Option ℕ → Result Line WordFault
    by None = fault at BadNumber
    by (Some n) = if nat_lt (1 + most_modules) n then fault at BadNumber else Ok (record line { generated = Some n })

unfoldable pub with_value : ℕ → Wanted → List ℕ → Line → Result Line WordFault
with_value at Workers value line = with_workers at value line
with_value at Profiles value line = Ok (with_profiles value line)
with_value at Define value line = with_define at value line
with_value at Projects value line = with_projects at value line
with_value at ResumeFrom value line = with_from at value line
with_value at Generated value line = with_generated at value line

-- an option that may stand once is there
abbrev pub is_there : Wanted → Line → Bool
is_there Workers line = is_some line.workers
is_there ResumeFrom line = is_some line.from
is_there Generated line = is_some line.generated
is_there wanted line = false

-- the value of the option before it
unfoldable pub next_value : ℕ → Wanted → List ℕ → Line → Result Line WordFault
next_value at wanted value line =
    if is_there wanted line then fault (at - 1) Repeated
    else (if not (is_utf8 value) then fault at NotUtf8
    else with_value at wanted value (record line { awaits = None }))

-- an option with its value in one word
abbrev pub joined_value : ℕ → Wanted → List ℕ → Line → Result Line WordFault
joined_value at wanted value line = by (with_value at wanted value line)
  where
    by : Result Line WordFault → Result Line WordFault
    by (Err found) = Err found
    by (Ok more) = if is_there wanted line then fault at Repeated else Ok more

-- a word without a hyphen
abbrev pub phase_word : ℕ → List ℕ → Line → Result Line WordFault
phase_word at word line = by (phase_of word)
  where
    first : Phase → Result Line WordFault
    first Deploy = fault at DeployPhase
    first phase = Ok (record line { phase = Some phase })

    by : Option Phase → Result Line WordFault
    by None = fault at UnknownPhase
    by (Some phase) = if is_some line.phase then fault at TwoPhases else first phase

-- a phase, or an option of one letter with its value behind it
abbrev pub joined_word : ℕ → List ℕ → Line → Result Line WordFault
joined_word at word line =
    if not (begins_with 45 word) then phase_word at word line
    else (if begins_with 84 (drop 1 word) then joined_value at Workers (drop 2 word) line
    else (if begins_with 80 (drop 1 word) then joined_value at Profiles (drop 2 word) line
    else (if begins_with 68 (drop 1 word) then joined_value at Define (drop 2 word) line
    else fault at UnknownWord)))

-- a word that isn't an option by itself: `-P=x` and `--projects=x` are an option and its value
abbrev pub other_word : ℕ → List ℕ → Line → Result Line WordFault
other_word at word line = by (spelled (name_of word))
  where
    by : Option Spelling → Result Line WordFault
    by (Some (Takes wanted)) = joined_value at wanted (value_of word) line
    by other = joined_word at word line

abbrev pub with_spelling : Spelling → Line → Line
with_spelling (Takes wanted) line = record line { awaits = Some wanted }
with_spelling AlsoMake line = record line { also_make = true }
with_spelling AlsoMakeDependents line = record line { also_make_dependents = true }
with_spelling Full line = record line { full = true }
with_spelling NoEffect line = line

abbrev pub option_word : ℕ → List ℕ → Line → Result Line WordFault
option_word at word line = by (spelled word)
  where
    by : Option Spelling → Result Line WordFault
    by (Some meant) = Ok (with_spelling meant line)
    by None = other_word at word line

-- one word more
unfoldable pub next_word : ℕ → List ℕ → Line → Result Line WordFault
next_word at word line = by line.awaits
  where
    by : Option Wanted → Result Line WordFault
    by (Some wanted) = next_value at wanted word line
    by None = if not (is_utf8 word) then fault at NotUtf8 else option_word at word line

-- the words from a number on
abbrev pub read_words : ℕ → Line → List (List ℕ) → Result Line WordFault
read_words at line [] = Ok line
read_words at line (word ∷ words) = by (next_word at word line) (λ more. read_words (at + 1) more words)
  where
    by : Result Line WordFault → (Line → Result Line WordFault) → Result Line WordFault
    by (Err found) rest = Err found
    by (Ok more) rest = rest more

-- before the first word
abbrev pub no_words : Line
no_words = record { awaits = None; workers = None; phase = None; choice = record { on = []; off = [] }; defines = []; projects = []; also_make = false; also_make_dependents = false; from = None; full = false; generated = None }

abbrev pub command_line : ℕ → Phase → Line → CommandLine
command_line workers phase line = record { workers = workers; phase = phase; choice = line.choice; defines = line.defines; projects = line.projects; also_make = line.also_make; also_make_dependents = line.also_make_dependents; from = line.from; mode = AtEnd; tree = false; full = line.full; generated = line.generated }

-- how many workers are asked for, no more than there are hands
abbrev pub with_hands : ℕ → Phase → Line → Result CommandLine WordFault
with_hands hands phase line = by line.workers
  where
    by : Option Count → Result CommandLine WordFault
    by None = Ok (command_line 1 phase line)
    by (Some count) = if nat_lt hands count.value then fault count.place TooManyWorkers else Ok (command_line count.value phase line)

-- behind the last word
unfoldable pub whole_line : ℕ → ℕ → Line → Result CommandLine WordFault
whole_line count hands line = by line.awaits line.phase
  where
    by : Option Wanted → Option Phase → Result CommandLine WordFault
    by (Some wanted) phase = fault (count - 1) MissingValue
    by None None = fault count NoPhase
    by None (Some phase) = with_hands hands phase line

-- what the words mean, or the first fault
unfoldable pub options : List (List ℕ) → ℕ → Result CommandLine WordFault
options words hands = by (read_words 0 no_words words)
  where
    by : Result Line WordFault → Result CommandLine WordFault
    by (Err found) = Err found
    by (Ok line) = whole_line (length words) hands line
