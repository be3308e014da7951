-- The lists of a request: each item is named and counted in the line, and its bytes stand behind the line, in the lists' order. Own format.
use Rattle.std.specs.Prelude.{ℕ, nat_eq, nat_le, List, [], ◌∷◌, length, take, drop, find, Option, Some, None, is_some, option_map, option_and_then, if◌then◌else◌}
use Rattle.std.specs.Cmp.Lexicographic.{pointwise}
use Rattle.serde_json.specs.Data.{Data}
use Rattle.serde_json.specs.Find.{as_str, as_null, as_array}
use Rattle.serde_json.specs.View.{view}
use Rattle.serde_json.specs.declared.value.Value.{Value}
use Rattle.goal_types.specs.declared.goal.Slot.{Slot}
use Rattle.goal_types.specs.declared.goal.Slot.TheVariants.{Classes, TestClasses, Main, Tests, Sources, Javadoc}
use Rattle.goal_types.specs.declared.goal.SourceFile.{SourceFile}
use Rattle.goal_types.specs.declared.goal.OwnBytes.{OwnBytes}
use Rattle.goal_types.specs.declared.goal.PathEntry.{PathEntry}
use Rattle.goal_types.specs.Requests.{slot_name}
use Rattle.goal_program.specs.Members.{items_at, items_list, number_in}
use Rattle.goal_program.specs.Names.{file_in}
use denote.Ref.{Bor}

-- an item and what is left, without where it lies in memory
abbrev pub with_rest : {A : Type 0} → A × Bor (List ℕ) → A × List ℕ
with_rest p = (p.0, p.1.now)

-- a name and what is said of its bytes: exactly two items, the first of them a text
abbrev pub name_and_count : List Data → Option (List ℕ × Data)
name_and_count [] = None
name_and_count (a ∷ []) = None
name_and_count (a ∷ b ∷ []) = option_map (λ name. (name, b)) (as_str a)
name_and_count (a ∷ b ∷ c ∷ more) = None

-- the same of the program's values
abbrev pub pair_of : List Value → Option (List ℕ × Data)
pair_of [] = None
pair_of (a ∷ []) = None
pair_of (a ∷ b ∷ []) = option_map (λ name. (name, view b)) (as_str (view a))
pair_of (a ∷ b ∷ c ∷ more) = None

abbrev pub named_in : Data → Option (List ℕ × Data)
named_in value = option_and_then name_and_count (option_map items_list (as_array value))

-- the first so many bytes, and those behind them, where there are so many
abbrev pub part_of : ℕ → List ℕ → Option (List ℕ × List ℕ)
part_of count bytes = if nat_le count (length bytes) then Some (take count bytes, drop count bytes) else None

-- the kept slot of this name
abbrev pub slot_in : List ℕ → Option Slot
slot_in word = find (λ slot. pointwise nat_eq (slot_name slot) word) (Classes ∷ TestClasses ∷ Main ∷ Tests ∷ Sources ∷ Javadoc ∷ [])

-- a name, the bytes that it counts, and those behind them
abbrev pub counted_in : Data → List ℕ → Option (List ℕ × (List ℕ × List ℕ))
counted_in value rest = option_and_then (λ p. option_map (λ part. (p.0, part)) (option_and_then (λ n. part_of n rest) (number_in p.1))) (named_in value)

-- a source
abbrev pub source_in : Data → List ℕ → Option (SourceFile × List ℕ)
source_in value rest = option_map (λ p. (record { path = p.0; bytes = p.1.0 }, p.1.1)) (counted_in value rest)

-- an output of the module itself
abbrev pub own_in : Data → List ℕ → Option (OwnBytes × List ℕ)
own_in value rest = option_and_then (λ p. option_map (λ slot. (record { slot = slot; bytes = p.1.0 }, p.1.1)) (slot_in p.0)) (counted_in value rest)

-- the bytes of an entry, none where they are said to be null
abbrev pub entry_part : Data → List ℕ → Option (Option (List ℕ) × List ℕ)
entry_part count rest =
    if is_some (as_null count) then Some (None, rest) else option_map (λ part. (Some part.0, part.1)) (option_and_then (λ n. part_of n rest) (number_in count))

-- an entry of the classpath
abbrev pub entry_in : Data → List ℕ → Option (PathEntry × List ℕ)
entry_in value rest =
    option_and_then (λ p. option_and_then (λ name. option_map (λ part. (record { name = name; bytes = part.0 }, part.1)) (entry_part p.1 rest)) (file_in p.0)) (named_in value)

-- items one after another, each from what the one before left
abbrev pub all_taken : {A : Type 0} → (Data → List ℕ → Option (A × List ℕ)) → List Data → List ℕ → Option (List A × List ℕ)
all_taken taken [] rest = Some ([], rest)
all_taken taken (value ∷ values) rest =
    option_and_then (λ first. option_map (λ more. (first.0 ∷ more.0, more.1)) (all_taken taken values first.1)) (taken value rest)

-- the list under a key
abbrev pub listed : {A : Type 0} → (Data → List ℕ → Option (A × List ℕ)) → List ℕ → Data → List ℕ → Option (List A × List ℕ)
listed taken key value rest = option_and_then (λ values. all_taken taken values rest) (items_at key value)
