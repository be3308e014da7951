-- The lists of a request are read as they were written: each item with its bytes, from the front of what is left.
use Rattle.std.proofs.Common.{◌≡◌, ℕ, ◌<◌, ◌^◌, Bool, true, false, ◌&&◌, nat_le, List, [], ◌∷◌, ◌++◌, length, length-append, take, drop, map, flat_map, Option, Some, None, is_some, option_map, option_and_then, if◌then◌else◌, refl, sym, ap, ◌∙◌, append_assoc, arith, ◌⊎◌, inl, inr}
use Rattle.std.specs.List.{list_all}
use Rattle.std.proofs.lemmas.Bool.Decides.{nat_tests}
use Rattle.serde_json.specs.Data.{Data, number, unsigned}
use Rattle.serde_json.specs.View.{items_of}
use Rattle.goal_types.specs.declared.goal.Slot.{Slot}
use Rattle.goal_types.specs.declared.goal.Slot.TheVariants.{Nowhere, Pom, Classes, TestClasses, Main, Tests, Sources, Javadoc}
use Rattle.goal_types.specs.declared.goal.SourceFile.{SourceFile}
use Rattle.goal_types.specs.declared.goal.OwnBytes.{OwnBytes}
use Rattle.goal_types.specs.declared.goal.PathEntry.{PathEntry}
use Rattle.goal_types.specs.Goals.{is_kept}
use Rattle.goal_types.specs.Requests.{counted, slot_name, source_data, own_data, count_data, entry_data, entry_bytes}
use Rattle.goal_program.specs.Lists.{part_of, slot_in, counted_in, source_in, own_in, entry_part, entry_in, all_taken}
use Rattle.goal_program.specs.Members.{items_list}
use Rattle.goal_program.specs.Names.{file_in}
use Rattle.goal_program.proofs.Files.{read_is_path}
use Rattle.goal_program.proofs.Json.{IsPlain, ArePlain}

left : (a b : Bool) → (a && b) ≡ true → a ≡ true
left true b e = refl
left false b e = e

right : (a b : Bool) → (a && b) ≡ true → b ≡ true
right true b e = e
right false b e = absurd (clash e)
  where
    clash : false ≡ true → ⊥
    clash e = cc

-- the items of an array, as a list again
pub listed_again : (ds : List Data) → items_list (items_of ds) ≡ ds
listed_again [] = refl
listed_again (d ∷ ds) = ap (λ es. d ∷ es) (listed_again ds)

-- ---- one item

bytes_taken : (bytes more : List ℕ) → take (length bytes) (bytes ++ more) ≡ bytes
bytes_taken [] more = refl
bytes_taken (b ∷ bytes) more = ap (λ xs. b ∷ xs) (bytes_taken bytes more)

bytes_dropped : (bytes more : List ℕ) → drop (length bytes) (bytes ++ more) ≡ more
bytes_dropped [] more = refl
bytes_dropped (b ∷ bytes) more = bytes_dropped bytes more

-- as many bytes as there are, and what stands behind them
part_there : (bytes more : List ℕ) → part_of (length bytes) (bytes ++ more) ≡ Some (bytes, more)
part_there bytes more =
    let sum = length-append bytes more in
    let fits : nat_le (length bytes) (length (bytes ++ more)) ≡ true = grind (arith, nat_tests, sum) in
    ap (λ z. if z then Some (take (length bytes) (bytes ++ more), drop (length bytes) (bytes ++ more)) else None) fits
    ∙ ap (λ t. Some (t, drop (length bytes) (bytes ++ more))) (bytes_taken bytes more) ∙ ap (λ d. Some (bytes, d)) (bytes_dropped bytes more)

counted_there : (name bytes more : List ℕ) → counted_in (counted name (number (unsigned (length bytes)))) (bytes ++ more) ≡ Some (name, (bytes, more))
counted_there name bytes more = ap (option_map (λ part. (name, part))) (part_there bytes more)

source_there : (source : SourceFile) (more : List ℕ) → source_in (source_data source) (source.bytes ++ more) ≡ Some (source, more)
source_there source more = ap (option_map (λ p. (record { path = p.0; bytes = p.1.0 }, p.1.1))) (counted_there source.path source.bytes more)

slot_there : (slot : Slot) → is_kept slot ≡ true → slot_in (slot_name slot) ≡ Some slot
slot_there Nowhere kept = cc
slot_there Pom kept = cc
slot_there Classes kept = refl
slot_there TestClasses kept = refl
slot_there Main kept = refl
slot_there Tests kept = refl
slot_there Sources kept = refl
slot_there Javadoc kept = refl

own_there : (own : OwnBytes) → is_kept own.slot ≡ true → (more : List ℕ) → own_in (own_data own) (own.bytes ++ more) ≡ Some (own, more)
own_there own kept more =
    ap (option_and_then (λ p. option_map (λ slot. (record { slot = slot; bytes = p.1.0 }, p.1.1)) (slot_in p.0))) (counted_there (slot_name own.slot) own.bytes more)
    ∙ ap (option_map (λ slot. (record { slot = slot; bytes = own.bytes }, more))) (slot_there own.slot kept)

part_of_entry : (bytes : Option (List ℕ)) (more : List ℕ) → entry_part (count_data bytes) (entry_bytes bytes ++ more) ≡ Some (bytes, more)
part_of_entry None more = refl
part_of_entry (Some bytes) more = ap (option_map (λ part. (Some part.0, part.1))) (part_there bytes more)

-- a name that is read is read as itself
name_there : (name : List ℕ) → is_some (file_in name) ≡ true → file_in name ≡ Some name
name_there name some = by (read_is_path name)
  where
    by : (file_in name ≡ None) ⊎ (file_in name ≡ Some name) → file_in name ≡ Some name
    by (inl none) = absurd (clash (sym (ap is_some none) ∙ some))
      where
        clash : false ≡ true → ⊥
        clash e = cc
    by (inr is) = is

entry_there : (entry : PathEntry) → is_some (file_in entry.name) ≡ true → (more : List ℕ) → entry_in (entry_data entry) (entry_bytes entry.bytes ++ more) ≡ Some (entry, more)
entry_there entry some more =
    ap (option_and_then (λ name. option_map (λ part. (record { name = name; bytes = part.0 }, part.1)) (entry_part (count_data entry.bytes) (entry_bytes entry.bytes ++ more)))) (name_there entry.name some)
    ∙ ap (option_map (λ part. (record { name = entry.name; bytes = part.0 }, part.1))) (part_of_entry entry.bytes more)

-- ---- one after another

all_there : {A : Type 0} (taken : Data → List ℕ → Option (A × List ℕ)) (said : A → Data) (bytes : A → List ℕ) (test : A → Bool)
    → ((a : A) → test a ≡ true → (more : List ℕ) → taken (said a) (bytes a ++ more) ≡ Some (a, more))
    → (items : List A) → list_all test items ≡ true → (more : List ℕ) → all_taken taken (map said items) (flat_map bytes items ++ more) ≡ Some (items, more)
all_there taken said bytes test one [] all more = refl
all_there taken said bytes test one (a ∷ items) all more =
    let rest = flat_map bytes items ++ more in
    ap (all_taken taken (said a ∷ map said items)) (append_assoc (bytes a) (flat_map bytes items) more)
    ∙ ap (option_and_then (λ first. option_map (λ others. (first.0 ∷ others.0, others.1)) (all_taken taken (map said items) first.1))) (one a (left (test a) (list_all test items) all) rest)
    ∙ ap (option_map (λ others. (a ∷ others.0, others.1))) (all_there taken said bytes test one items (right (test a) (list_all test items) all) more)

any_source : (sources : List SourceFile) → list_all (λ s. true) sources ≡ true
any_source [] = refl
any_source (s ∷ sources) = any_source sources

pub sources_there : (sources : List SourceFile) (more : List ℕ) → all_taken source_in (items_list (items_of (map source_data sources))) (flat_map (λ s. s.bytes) sources ++ more) ≡ Some (sources, more)
sources_there sources more =
    ap (λ values. all_taken source_in values (flat_map (λ s. s.bytes) sources ++ more)) (listed_again (map source_data sources))
    ∙ all_there source_in source_data (λ s. s.bytes) (λ s. true) (λ s t rest. source_there s rest) sources (any_source sources) more

pub own_all_there : (own : List OwnBytes) → list_all (λ o. is_kept o.slot) own ≡ true → (more : List ℕ) → all_taken own_in (items_list (items_of (map own_data own))) (flat_map (λ o. o.bytes) own ++ more) ≡ Some (own, more)
own_all_there own kept more =
    ap (λ values. all_taken own_in values (flat_map (λ o. o.bytes) own ++ more)) (listed_again (map own_data own))
    ∙ all_there own_in own_data (λ o. o.bytes) (λ o. is_kept o.slot) own_there own kept more

pub entries_there : (entries : List PathEntry) → list_all (λ e. is_some (file_in e.name)) entries ≡ true → (more : List ℕ)
    → all_taken entry_in (items_list (items_of (map entry_data entries))) (flat_map (λ e. entry_bytes e.bytes) entries ++ more) ≡ Some (entries, more)
entries_there entries files more =
    ap (λ values. all_taken entry_in values (flat_map (λ e. entry_bytes e.bytes) entries ++ more)) (listed_again (map entry_data entries))
    ∙ all_there entry_in entry_data (λ e. entry_bytes e.bytes) (λ e. is_some (file_in e.name)) entry_there entries files more

-- ---- their data is plain

pub items_plain : {A : Type 0} (said : A → Data) (bytes : A → List ℕ) → ((a : A) → length (bytes a) < 2 ^ 64 → IsPlain (said a)) → (items : List A) → length (flat_map bytes items) < 2 ^ 64 → ArePlain (items_of (map said items))
items_plain said bytes one [] low = tt
items_plain said bytes one (a ∷ items) low =
    let sum = length-append (bytes a) (flat_map bytes items) in
    let here : length (bytes a) < 2 ^ 64 = omega (arith, low, sum) in
    let there : length (flat_map bytes items) < 2 ^ 64 = omega (arith, low, sum) in
    (one a here, items_plain said bytes one items there)

pub source_plain : (source : SourceFile) → length source.bytes < 2 ^ 64 → IsPlain (source_data source)
source_plain source low = (tt, (low, tt))

pub own_plain : (own : OwnBytes) → length own.bytes < 2 ^ 64 → IsPlain (own_data own)
own_plain own low = (tt, (low, tt))

count_plain : (bytes : Option (List ℕ)) → length (entry_bytes bytes) < 2 ^ 64 → IsPlain (count_data bytes)
count_plain None low = tt
count_plain (Some bytes) low = low

pub entry_plain : (entry : PathEntry) → length (entry_bytes entry.bytes) < 2 ^ 64 → IsPlain (entry_data entry)
entry_plain entry low = (tt, (count_plain entry.bytes low, tt))
