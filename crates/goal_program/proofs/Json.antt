-- JSON whose numbers are whole and fit, and whose objects have their keys in order, is read as it was written.
use Rattle.std.proofs.Common.{◌≡◌, suc, ◌^◌, ◌<◌, ◌≤◌, [], Some, option_map, option_and_then, refl, sym, ap, ap₂, ◌∙◌, append-nil, max, arith}
use Rattle.std.specs.Prelude.{⊤}
use Rattle.json.specs.Lex.{tokens}
use Rattle.json.specs.Json as json
use Rattle.json.specs.Tree as tree
use Rattle.json.proofs.Printed.Decimals.{IsNumber-decimal}
use Rattle.json.proofs.Printed.Tokens.{tokens-print}
use Rattle.json.proofs.Printed.Trees.{ArePrintable-json_tokens, value-json_tokens}
use Rattle.serde_json.specs.Data.{Num, unsigned, negative, float, Data, null, boolean, number, string, array, object, Items, no_items, item, Members, no_members, member, put, depth, items_depth, members_depth}
use Rattle.serde_json.specs.Read.{read, of_json, of_items, of_members, max_depth}
use Rattle.serde_json.specs.Written.{outline, items_outline, members_outline, compact_text}
use Rattle.serde_json.proofs.Numbers.{number_of-decimal}
use Rattle.serde_json.proofs.Texts.{print-outline}

-- the members, put one after another to those that are there
abbrev pub put_all : Members → Members → Members
put_all no_members found = found
put_all (member k d ms) found = put_all ms (put k d found)

abbrev pub IsCount : Num → Type 0
IsCount (unsigned n) = n < 2 ^ 64
IsCount (negative z) = ⊥
IsCount (float x) = ⊥

abbrev mutual
  pub IsPlain : Data → Type 0
  IsPlain null = ⊤
  IsPlain (boolean b) = ⊤
  IsPlain (number n) = IsCount n
  IsPlain (string s) = ⊤
  IsPlain (array ds) = ArePlain ds
  IsPlain (object ms) = (put_all ms no_members ≡ ms) × HasPlain ms

  pub ArePlain : Items → Type 0
  ArePlain no_items = ⊤
  ArePlain (item d ds) = IsPlain d × ArePlain ds

  pub HasPlain : Members → Type 0
  HasPlain no_members = ⊤
  HasPlain (member k d ms) = IsPlain d × HasPlain ms

count_is : (n : Num) → IsCount n → of_json (outline (number n)) ≡ Some (number n)
count_is (unsigned n) h = ap (option_map number) (number_of-decimal n h)
count_is (negative z) h = absurd h
count_is (float x) h = absurd h

-- the tree of a value is that value
mutual
  json_is : (d : Data) → IsPlain d → of_json (outline d) ≡ Some d
  json_is null h = refl
  json_is (boolean b) h = refl
  json_is (number n) h = count_is n h
  json_is (string s) h = refl
  json_is (array ds) h = ap (option_map array) (items_are ds h)
  json_is (object ms) h = ap (option_map object) (members_are ms no_members h.1 ∙ ap Some h.0)

  items_are : (ds : Items) → ArePlain ds → of_items (items_outline ds) ≡ Some ds
  items_are no_items h = refl
  items_are (item d ds) h = ap (option_and_then (λ x. option_map (item x) (of_items (items_outline ds)))) (json_is d h.0) ∙ ap (option_map (item d)) (items_are ds h.1)

  members_are : (ms found : Members) → HasPlain ms → of_members (members_outline ms) found ≡ Some (put_all ms found)
  members_are no_members found h = refl
  members_are (member k d ms) found h = ap (option_and_then (λ x. of_members (members_outline ms) (put k x found))) (json_is d h.0) ∙ members_are ms (put k d found) h.1

count_number : (n : Num) → IsCount n → tree.HasNumbers (outline (number n))
count_number (unsigned n) h = IsNumber-decimal n h
count_number (negative z) h = absurd h
count_number (float x) h = absurd h

mutual
  json_numbers : (d : Data) → IsPlain d → tree.HasNumbers (outline d)
  json_numbers null h = tt
  json_numbers (boolean b) h = tt
  json_numbers (number n) h = count_number n h
  json_numbers (string s) h = tt
  json_numbers (array ds) h = items_numbers ds h
  json_numbers (object ms) h = members_numbers ms h.1

  items_numbers : (ds : Items) → ArePlain ds → tree.ItemsHaveNumbers (items_outline ds)
  items_numbers no_items h = tt
  items_numbers (item d ds) h = (json_numbers d h.0, items_numbers ds h.1)

  members_numbers : (ms : Members) → HasPlain ms → tree.MembersHaveNumbers (members_outline ms)
  members_numbers no_members h = tt
  members_numbers (member k d ms) h = (json_numbers d h.0, members_numbers ms h.1)

-- the tree of a value nests as it does
mutual
  json_depth : (d : Data) → tree.depth (outline d) ≡ depth d
  json_depth null = refl
  json_depth (boolean b) = refl
  json_depth (number n) = refl
  json_depth (string s) = refl
  json_depth (array ds) = ap suc (items_depths ds)
  json_depth (object ms) = ap suc (members_depths ms)

  items_depths : (ds : Items) → tree.items_depth (items_outline ds) ≡ items_depth ds
  items_depths no_items = refl
  items_depths (item d ds) = ap₂ max (json_depth d) (items_depths ds)

  members_depths : (ms : Members) → tree.members_depth (members_outline ms) ≡ members_depth ms
  members_depths no_members = refl
  members_depths (member k d ms) = ap₂ max (json_depth d) (members_depths ms)

pub reads_back : (d : Data) → IsPlain d → depth d ≤ max_depth → read (compact_text d) ≡ Some d
reads_back d h low =
    let ts = tree.json_tokens (outline d) in
    let same : tokens (compact_text d) ≡ ts = ap tokens (sym (print-outline d)) ∙ tokens-print ts (ArePrintable-json_tokens (outline d) (json_numbers d h)) in
    let shallow : tree.depth (outline d) ≤ max_depth = omega (arith, low, json_depth d) in
    ap (λ ts. option_and_then of_json (option_and_then (λ p. json.if_last p.0 p.1) (json.value max_depth ts))) (same ∙ sym (append-nil ts))
    ∙ ap (λ o. option_and_then of_json (option_and_then (λ p. json.if_last p.0 p.1) o)) (value-json_tokens (outline d) max_depth [] shallow) ∙ json_is d h
