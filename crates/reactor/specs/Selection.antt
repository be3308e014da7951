-- Which modules are built, by the words of a command line. Maven's options `-pl`, `-rf`, `-am` and `-amd`; the order of faults is a
-- project rule.
use Rattle.std.specs.Prelude.{◌≡◌, ◌⊎◌, ℕ, min, Bool, true, false, List, [], ◌∷◌, ◌++◌, flat_map, find, option_to_list, Option, None, Some, Result, Ok, Err, if◌then◌else◌}
use Rattle.model_types.specs.declared.model.Model.{Model}
use Rattle.cli_words.specs.declared.command_line.CommandLine.{CommandLine}
use Rattle.cli_words.specs.declared.command_line.Word.{Word}
use Rattle.reactor_order.specs.Graph.{Edges, has}
use Rattle.reactor_order.specs.Select.{Selects, from_on}
use Rattle.reactor.specs.Meaning.{meant}
use Rattle.reactor.specs.declared.fault.SelectionFault.{SelectionFault}
use Rattle.reactor.specs.declared.fault.SelectionFault.TheVariants.{Unknown, Memory}

-- the lesser of two places
abbrev pub least : Option ℕ → ℕ → Option ℕ
least None place = Some place
least (Some other) place = Some (min other place)

-- with the place of a word, if it means no module
abbrev pub or_unknown : List ℕ → Option ℕ → Word → Option ℕ
or_unknown [] place w = least place w.place
or_unknown (n ∷ numbers) place w = place

-- the first place of a word that means no module
abbrev pub unknown : List Model → Option ℕ → List Word → Option ℕ
unknown modules place [] = place
unknown modules place (w ∷ words) = unknown modules (or_unknown (meant modules w.text) place w) words

-- the words that name modules
abbrev pub naming : CommandLine → List Word
naming line = line.projects ++ option_to_list line.from

-- the modules that are chosen; all where no word names any
abbrev pub chosen : List Model → List Word → Option (List ℕ)
chosen modules [] = None
chosen modules (w ∷ words) = Some (flat_map (λ (v : Word). meant modules v.text) (w ∷ words))

-- the modules that are built, before any is left out
abbrev pub IsChosen : List Model → List ℕ → Edges → CommandLine → List ℕ → Type 0
IsChosen modules order edges line list =
    Selects order edges (chosen modules line.projects) line.also_make line.also_make_dependents None list

-- the first module in the order that a word means
abbrev pub first_meant : List Model → List ℕ → Word → Option ℕ
first_meant modules order w = find (λ n. has (meant modules w.text) n) order

-- they are built from that module on, if it is one of them; else the word means none
abbrev pub resumed_at : List ℕ → ℕ → Option ℕ → Result (List ℕ) ℕ
resumed_at whole place None = Err place
resumed_at whole place (Some n) = if has whole n then Ok (from_on (Some n) whole) else Err place

abbrev pub resumed : List Model → List ℕ → List ℕ → Option Word → Result (List ℕ) ℕ
resumed modules order whole None = Ok whole
resumed modules order whole (Some w) = resumed_at whole w.place (first_meant modules order w)

-- the modules that are built, or the word that means none: the first that means none of the project, or the one to begin with, if that
-- isn't built
abbrev pub Answers : List Model → List ℕ → Edges → CommandLine → Result (List ℕ) SelectionFault → Type 0
Answers modules order edges line (Ok list) =
    (unknown modules None (naming line) ≡ None)
    × ((whole : List ℕ) × IsChosen modules order edges line whole × (resumed modules order whole line.from ≡ Ok list))
Answers modules order edges line (Err (Unknown place)) =
    (unknown modules None (naming line) ≡ Some place)
    ⊎ ((unknown modules None (naming line) ≡ None)
    × ((whole : List ℕ) × IsChosen modules order edges line whole × (resumed modules order whole line.from ≡ Err place)))
Answers modules order edges line (Err Memory) = Unit {0}

-- a list goes on, or the word at a place means no module
abbrev pub Resumes : Result (List ℕ) ℕ → Result (List ℕ) SelectionFault → Type 0
Resumes said (Ok list) = said ≡ Ok list
Resumes said (Err (Unknown place)) = said ≡ Err place
Resumes said (Err Memory) = Unit {0}
