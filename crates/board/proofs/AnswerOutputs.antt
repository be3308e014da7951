-- The walk over a module's goals gives what the definition's list of outputs gives.
use Rattle.std.proofs.Common.{◌≡◌, ℕ, zero, suc, ◌+◌, ◌<◌, ◌≤◌, ◌⊎◌, inl, inr, Bool, true, false, ◌&&◌, ◌||◌, ◌==◌, nat_eq, nat_lt, nat_le, List, [], ◌∷◌, ◌++◌, length, filter, find, Option, Some, None, option_and_then, option_map, unwrap_or, refl, arith, sym, ap, subst, ◌∙◌, if◌then◌else◌}
use Rattle.std.specs.List.{list_all, list_any}
use Rattle.std.specs.Option.{option_or}
use Rattle.std.proofs.lemmas.Bool.{eqb-true, false≢true}
use Rattle.std.proofs.lemmas.List.Folds.{find-append}
use Rattle.goal_types.specs.declared.goal.GoalAnswer.{GoalAnswer}
use Rattle.goal_types.specs.declared.goal.GoalAnswer.TheVariants.{Done, Produced, Failed}
use Rattle.goal_types.specs.declared.goal.GoalCall.{GoalCall}
use Rattle.goal_types.specs.declared.goal.OwnBytes.{OwnBytes}
use Rattle.goal_types.specs.declared.goal.Slot.{Slot}
use Rattle.goal_types.specs.declared.goal.Slot.TheVariants.{Nowhere, Pom, Classes, TestClasses, Main, Tests, Sources, Javadoc}
use Rattle.build_core.specs.OneThread.{bytes_len}
use Rattle.build_core.specs.Slots.{GoalsEnd, all_answered, goal_failed, is_above, is_below, kept_of, one_goal, output_too_large, put_slot, run_goals, slot_bytes, slot_number, total_bytes}
use Rattle.board.specs.declared.sizes.Sizes.{Sizes}
use Rattle.board.specs.declared.walk.GoalsStand.{GoalsStand}
use Rattle.board.specs.declared.walk.GoalsStand.TheVariants as stand
use Rattle.board.specs.declared.walk.Step.{Step}
use Rattle.board.specs.declared.walk.Step.TheVariants.{Leaves, Holds, Fails, Exceeds}
use Rattle.board.specs.Walks.{held_by, no_sizes, output_step, produced, sizes_with, stand_of, step_of, total_of, walk_of, walked}

-- ---- outputs by slot

abbrev Held : Type 0
Held = Slot → Option (List ℕ)

abbrev piece : Slot → Option (List ℕ) → List OwnBytes
piece s None = []
piece s (Some bytes) = (record { slot = s; bytes = bytes }) ∷ []

abbrev pieces : Held → List Slot → List OwnBytes
pieces held [] = []
pieces held (s ∷ slots) = piece s (held s) ++ pieces held slots

abbrev all_slots : List Slot
all_slots = Pom ∷ Classes ∷ TestClasses ∷ Main ∷ Tests ∷ Sources ∷ Javadoc ∷ []

abbrev with_held : Held → Slot → List ℕ → Held
with_held held s bytes = λ t. if slot_number s == slot_number t then Some bytes else held t

abbrev sizes_of : Held → Sizes
sizes_of held = record { pom = bytes_len (held Pom); classes = bytes_len (held Classes); test_classes = bytes_len (held TestClasses); main = bytes_len (held Main); tests = bytes_len (held Tests); sources = bytes_len (held Sources); javadoc = bytes_len (held Javadoc) }

-- ---- slots by their numbers

abbrev slot_of : ℕ → Slot
slot_of zero = Nowhere
slot_of (suc zero) = Pom
slot_of (suc (suc zero)) = Classes
slot_of (suc (suc (suc zero))) = TestClasses
slot_of (suc (suc (suc (suc zero)))) = Main
slot_of (suc (suc (suc (suc (suc zero))))) = Tests
slot_of (suc (suc (suc (suc (suc (suc zero)))))) = Sources
slot_of (suc (suc (suc (suc (suc (suc (suc n))))))) = Javadoc

slot_back : (s : Slot) → slot_of (slot_number s) ≡ s
slot_back Nowhere = refl
slot_back Pom = refl
slot_back Classes = refl
slot_back TestClasses = refl
slot_back Main = refl
slot_back Tests = refl
slot_back Sources = refl
slot_back Javadoc = refl

same_slot : (s t : Slot) → slot_number s ≡ slot_number t → s ≡ t
same_slot s t e = sym (slot_back s) ∙ ap slot_of e ∙ slot_back t

abbrev AllAbove : ℕ → List Slot → Type 0
AllAbove n slots = list_all (λ t. nat_lt n (slot_number t)) slots ≡ true

abbrev IsAscending : List Slot → Type 0
IsAscending [] = Unit {0}
IsAscending (s ∷ slots) = AllAbove (slot_number s) slots × IsAscending slots

abbrev is_in : Slot → List Slot → Bool
is_in s slots = list_any (λ t. slot_number s == slot_number t) slots

both : (a b : Bool) → (a && b) ≡ true → (a ≡ true) × (b ≡ true)
both true b e = (refl, e)
both false b e = absurd (false≢true e)

-- ---- filters and finds

filter_append : (p : OwnBytes → Bool) (xs ys : List OwnBytes) → filter p (xs ++ ys) ≡ filter p xs ++ filter p ys
filter_append p [] ys = refl
filter_append p (x ∷ xs) ys = by (p x) (filter_append p xs ys)
  where
    by : (b : Bool) → filter p (xs ++ ys) ≡ filter p xs ++ filter p ys → (if b then x ∷ filter p (xs ++ ys) else filter p (xs ++ ys)) ≡ (if b then x ∷ filter p xs else filter p xs) ++ filter p ys
    by true again = ap (λ t. x ∷ t) again
    by false again = again

filter_piece : (p : OwnBytes → Bool) (b : Bool) (s : Slot) (x : Option (List ℕ)) → ((bytes : List ℕ) → p (record { slot = s; bytes = bytes }) ≡ b) → filter p (piece s x) ≡ (if b then piece s x else [])
filter_piece p true s None is = refl
filter_piece p false s None is = refl
filter_piece p true s (Some bytes) is = ap (λ t. if t then (record { slot = s; bytes = bytes }) ∷ [] else []) (is bytes)
filter_piece p false s (Some bytes) is = ap (λ t. if t then (record { slot = s; bytes = bytes }) ∷ [] else []) (is bytes)

not_below : (a b : ℕ) → nat_lt a b ≡ true → nat_lt b a ≡ false
not_below a b e = grind (arith, e)

module _ (held : Held) (s : Slot) where
  above_below : (slots : List Slot) → AllAbove (slot_number s) slots → filter (is_below s) (pieces held slots) ≡ []
  above_below [] is = refl
  above_below (t ∷ slots) is =
      let parts = both (nat_lt (slot_number s) (slot_number t)) (list_all (λ u. nat_lt (slot_number s) (slot_number u)) slots) is in
      filter_append (is_below s) (piece t (held t)) (pieces held slots)
      ∙ ap (λ xs. xs ++ filter (is_below s) (pieces held slots)) (filter_piece (is_below s) false t (held t) (λ bytes. not_below (slot_number s) (slot_number t) parts.0))
      ∙ above_below slots parts.1

  above_above : (slots : List Slot) → AllAbove (slot_number s) slots → filter (is_above s) (pieces held slots) ≡ pieces held slots
  above_above [] is = refl
  above_above (t ∷ slots) is =
      let parts = both (nat_lt (slot_number s) (slot_number t)) (list_all (λ u. nat_lt (slot_number s) (slot_number u)) slots) is in
      filter_append (is_above s) (piece t (held t)) (pieces held slots)
      ∙ ap (λ xs. xs ++ filter (is_above s) (pieces held slots)) (filter_piece (is_above s) true t (held t) (λ bytes. parts.0))
      ∙ ap (λ ys. piece t (held t) ++ ys) (above_above slots parts.1)

  apart : (t : Slot) → nat_lt (slot_number s) (slot_number t) ≡ true → (slot_number s == slot_number t) ≡ false
  apart t e = grind (arith, e)

  others_same : (bytes : List ℕ) (slots : List Slot) → AllAbove (slot_number s) slots → pieces (with_held held s bytes) slots ≡ pieces held slots
  others_same bytes [] is = refl
  others_same bytes (t ∷ slots) is =
      let parts = both (nat_lt (slot_number s) (slot_number t)) (list_all (λ u. nat_lt (slot_number s) (slot_number u)) slots) is in
      ap (λ b. piece t (if b then Some bytes else held t) ++ pieces (with_held held s bytes) slots) (apart t parts.0)
      ∙ ap (λ ys. piece t (held t) ++ ys) (others_same bytes slots parts.1)

  not_in : (n : ℕ) (slots : List Slot) → AllAbove n slots → nat_le (slot_number s) n ≡ true → is_in s slots ≡ false
  not_in n [] is low = refl
  not_in n (t ∷ slots) is low =
      let parts = both (nat_lt n (slot_number t)) (list_all (λ u. nat_lt n (slot_number u)) slots) is in
      let here : (slot_number s == slot_number t) ≡ false = let a = parts.0 in grind (arith, a, low) in
      ap (λ b. b || is_in s slots) here ∙ not_in n slots parts.1 low

  abbrev new : List ℕ → OwnBytes
  new bytes = record { slot = s; bytes = bytes }

  -- put in its slot
  put_pieces : (bytes : List ℕ) (slots : List Slot) → IsAscending slots → is_in s slots ≡ true → filter (is_below s) (pieces held slots) ++ (record { slot = s; bytes = bytes }) ∷ filter (is_above s) (pieces held slots) ≡ pieces (with_held held s bytes) slots
  put_pieces bytes [] is there = absurd (false≢true there)
  put_pieces bytes (t ∷ slots) is there = by (slot_number s == slot_number t) refl (nat_lt (slot_number t) (slot_number s)) refl (put_pieces bytes slots is.1)
    where
      rest : List OwnBytes
      rest = pieces held slots

      split_below : (b : Bool) → nat_lt (slot_number t) (slot_number s) ≡ b → filter (is_below s) (piece t (held t) ++ pieces held slots) ≡ (if b then piece t (held t) else []) ++ filter (is_below s) (pieces held slots)
      split_below b e = filter_append (is_below s) (piece t (held t)) (pieces held slots) ∙ ap (λ xs. xs ++ filter (is_below s) (pieces held slots)) (filter_piece (is_below s) b t (held t) (λ bytes. e))

      split_above : (b : Bool) → nat_lt (slot_number s) (slot_number t) ≡ b → filter (is_above s) (piece t (held t) ++ pieces held slots) ≡ (if b then piece t (held t) else []) ++ filter (is_above s) (pieces held slots)
      split_above b e = filter_append (is_above s) (piece t (held t)) (pieces held slots) ∙ ap (λ xs. xs ++ filter (is_above s) (pieces held slots)) (filter_piece (is_above s) b t (held t) (λ bytes. e))

      Goal : Type 0
      Goal = filter (is_below s) (piece t (held t) ++ pieces held slots) ++ new bytes ∷ filter (is_above s) (piece t (held t) ++ pieces held slots) ≡ piece t (with_held held s bytes t) ++ pieces (with_held held s bytes) slots

      Again : Type 0
      Again = is_in s slots ≡ true → filter (is_below s) (pieces held slots) ++ new bytes ∷ filter (is_above s) (pieces held slots) ≡ pieces (with_held held s bytes) slots

      by : (b : Bool) → (slot_number s == slot_number t) ≡ b → (c : Bool) → nat_lt (slot_number t) (slot_number s) ≡ c
          → (is_in s slots ≡ true → filter (is_below s) (pieces held slots) ++ (record { slot = s; bytes = bytes }) ∷ filter (is_above s) (pieces held slots) ≡ pieces (with_held held s bytes) slots)
          → filter (is_below s) (piece t (held t) ++ pieces held slots) ++ (record { slot = s; bytes = bytes }) ∷ filter (is_above s) (piece t (held t) ++ pieces held slots) ≡ piece t (with_held held s bytes t) ++ pieces (with_held held s bytes) slots
      by true e c less again =
          let same : slot_number s ≡ slot_number t = eqb-true (slot_number s) (slot_number t) e in
          let low : nat_lt (slot_number t) (slot_number s) ≡ false = grind (arith, same) in
          let high : nat_lt (slot_number s) (slot_number t) ≡ false = grind (arith, same) in
          let above : AllAbove (slot_number s) slots = subst (λ n. AllAbove n slots) (sym same) is.0 in
          ap (λ xs. xs ++ new bytes ∷ filter (is_above s) (piece t (held t) ++ pieces held slots)) (split_below false low ∙ above_below slots above)
          ∙ ap (λ ys. new bytes ∷ ys) (split_above false high ∙ above_above slots above ∙ sym (others_same bytes slots above))
          ∙ ap (λ u. (record { slot = u; bytes = bytes }) ∷ pieces (with_held held s bytes) slots) (same_slot s t same)
          ∙ ap (λ b. piece t (if b then Some bytes else held t) ++ pieces (with_held held s bytes) slots) (sym e)
      by false e true less again =
          let high : nat_lt (slot_number s) (slot_number t) ≡ false = not_below (slot_number t) (slot_number s) less in
          let later : is_in s slots ≡ true = ap (λ b. b || is_in s slots) (sym e) ∙ there in
          ap (λ xs. xs ++ new bytes ∷ filter (is_above s) (piece t (held t) ++ pieces held slots)) (split_below true less)
          ∙ ap (λ ys. (piece t (held t) ++ filter (is_below s) (pieces held slots)) ++ new bytes ∷ ys) (split_above false high)
          ∙ Rattle.std.proofs.lemmas.List.append_assoc (piece t (held t)) (filter (is_below s) (pieces held slots)) (new bytes ∷ filter (is_above s) (pieces held slots))
          ∙ ap (λ ys. piece t (held t) ++ ys) (again later)
          ∙ ap (λ b. piece t (if b then Some bytes else held t) ++ pieces (with_held held s bytes) slots) (sym e)
      by false e false less again =
          let low : nat_le (slot_number s) (slot_number t) ≡ true = grind (arith, less) in
          absurd (false≢true (sym (not_in (slot_number t) slots is.0 low) ∙ ap (λ b. b || is_in s slots) (sym e) ∙ there))

abbrev finds : Slot → OwnBytes → Bool
finds s o = slot_number o.slot == slot_number s

find_piece : (s t : Slot) (x : Option (List ℕ)) (b : Bool) → (slot_number t == slot_number s) ≡ b → option_map (λ (o : OwnBytes). o.bytes) (find (finds s) (piece t x)) ≡ (if b then x else None)
find_piece s t None true e = refl
find_piece s t None false e = refl
find_piece s t (Some bytes) true e = ap (λ b. option_map (λ (o : OwnBytes). o.bytes) (if b then Some (record { slot = t; bytes = bytes }) else None)) e
find_piece s t (Some bytes) false e = ap (λ b. option_map (λ (o : OwnBytes). o.bytes) (if b then Some (record { slot = t; bytes = bytes }) else None)) e

map_or : (x y : Option OwnBytes) → option_map (λ (o : OwnBytes). o.bytes) (option_or x y) ≡ option_or (option_map (λ (o : OwnBytes). o.bytes) x) (option_map (λ (o : OwnBytes). o.bytes) y)
map_or None y = refl
map_or (Some o) y = refl

slot_more : (held : Held) (s t : Slot) (slots : List Slot) (b : Bool) → (slot_number t == slot_number s) ≡ b → slot_bytes (pieces held (t ∷ slots)) s ≡ option_or (if b then held t else None) (slot_bytes (pieces held slots) s)
slot_more held s t slots b e =
    ap (option_map (λ (o : OwnBytes). o.bytes)) (find-append (finds s) (piece t (held t)) (pieces held slots))
    ∙ map_or (find (finds s) (piece t (held t))) (find (finds s) (pieces held slots))
    ∙ ap (λ x. option_or x (slot_bytes (pieces held slots) s)) (find_piece s t (held t) b e)

or_none : (x : Option (List ℕ)) → option_or x None ≡ x
or_none None = refl
or_none (Some x) = refl

or_same : (x : Option (List ℕ)) → option_or x x ≡ x
or_same None = refl
or_same (Some x) = refl

-- each slot's bytes are found
pub slot_held : (held : Held) (s : Slot) → held Nowhere ≡ None → slot_bytes (pieces held all_slots) s ≡ held s
slot_held held Nowhere none = from_none ∙ sym none
  where
    from_none : slot_bytes (pieces held all_slots) Nowhere ≡ None
    from_none = slot_more held Nowhere Pom (Classes ∷ TestClasses ∷ Main ∷ Tests ∷ Sources ∷ Javadoc ∷ []) false refl ∙ slot_more held Nowhere Classes (TestClasses ∷ Main ∷ Tests ∷ Sources ∷ Javadoc ∷ []) false refl ∙ slot_more held Nowhere TestClasses (Main ∷ Tests ∷ Sources ∷ Javadoc ∷ []) false refl
        ∙ slot_more held Nowhere Main (Tests ∷ Sources ∷ Javadoc ∷ []) false refl ∙ slot_more held Nowhere Tests (Sources ∷ Javadoc ∷ []) false refl ∙ slot_more held Nowhere Sources (Javadoc ∷ []) false refl ∙ slot_more held Nowhere Javadoc [] false refl
slot_held held Pom none = slot_more held Pom Pom (Classes ∷ TestClasses ∷ Main ∷ Tests ∷ Sources ∷ Javadoc ∷ []) true refl ∙ ap (option_or (held Pom)) (slot_more held Pom Classes (TestClasses ∷ Main ∷ Tests ∷ Sources ∷ Javadoc ∷ []) false refl ∙ slot_more held Pom TestClasses (Main ∷ Tests ∷ Sources ∷ Javadoc ∷ []) false refl
    ∙ slot_more held Pom Main (Tests ∷ Sources ∷ Javadoc ∷ []) false refl ∙ slot_more held Pom Tests (Sources ∷ Javadoc ∷ []) false refl ∙ slot_more held Pom Sources (Javadoc ∷ []) false refl ∙ slot_more held Pom Javadoc [] false refl) ∙ or_none (held Pom)
slot_held held Classes none = slot_more held Classes Pom (Classes ∷ TestClasses ∷ Main ∷ Tests ∷ Sources ∷ Javadoc ∷ []) false refl ∙ slot_more held Classes Classes (TestClasses ∷ Main ∷ Tests ∷ Sources ∷ Javadoc ∷ []) true refl ∙ ap (option_or (held Classes)) (slot_more held Classes TestClasses (Main ∷ Tests ∷ Sources ∷ Javadoc ∷ []) false refl
    ∙ slot_more held Classes Main (Tests ∷ Sources ∷ Javadoc ∷ []) false refl ∙ slot_more held Classes Tests (Sources ∷ Javadoc ∷ []) false refl ∙ slot_more held Classes Sources (Javadoc ∷ []) false refl ∙ slot_more held Classes Javadoc [] false refl) ∙ or_none (held Classes)
slot_held held TestClasses none = slot_more held TestClasses Pom (Classes ∷ TestClasses ∷ Main ∷ Tests ∷ Sources ∷ Javadoc ∷ []) false refl ∙ slot_more held TestClasses Classes (TestClasses ∷ Main ∷ Tests ∷ Sources ∷ Javadoc ∷ []) false refl ∙ slot_more held TestClasses TestClasses (Main ∷ Tests ∷ Sources ∷ Javadoc ∷ []) true refl
    ∙ ap (option_or (held TestClasses)) (slot_more held TestClasses Main (Tests ∷ Sources ∷ Javadoc ∷ []) false refl ∙ slot_more held TestClasses Tests (Sources ∷ Javadoc ∷ []) false refl ∙ slot_more held TestClasses Sources (Javadoc ∷ []) false refl ∙ slot_more held TestClasses Javadoc [] false refl) ∙ or_none (held TestClasses)
slot_held held Main none = slot_more held Main Pom (Classes ∷ TestClasses ∷ Main ∷ Tests ∷ Sources ∷ Javadoc ∷ []) false refl ∙ slot_more held Main Classes (TestClasses ∷ Main ∷ Tests ∷ Sources ∷ Javadoc ∷ []) false refl ∙ slot_more held Main TestClasses (Main ∷ Tests ∷ Sources ∷ Javadoc ∷ []) false refl
    ∙ slot_more held Main Main (Tests ∷ Sources ∷ Javadoc ∷ []) true refl ∙ ap (option_or (held Main)) (slot_more held Main Tests (Sources ∷ Javadoc ∷ []) false refl ∙ slot_more held Main Sources (Javadoc ∷ []) false refl ∙ slot_more held Main Javadoc [] false refl) ∙ or_none (held Main)
slot_held held Tests none = slot_more held Tests Pom (Classes ∷ TestClasses ∷ Main ∷ Tests ∷ Sources ∷ Javadoc ∷ []) false refl ∙ slot_more held Tests Classes (TestClasses ∷ Main ∷ Tests ∷ Sources ∷ Javadoc ∷ []) false refl ∙ slot_more held Tests TestClasses (Main ∷ Tests ∷ Sources ∷ Javadoc ∷ []) false refl
    ∙ slot_more held Tests Main (Tests ∷ Sources ∷ Javadoc ∷ []) false refl ∙ slot_more held Tests Tests (Sources ∷ Javadoc ∷ []) true refl ∙ ap (option_or (held Tests)) (slot_more held Tests Sources (Javadoc ∷ []) false refl ∙ slot_more held Tests Javadoc [] false refl) ∙ or_none (held Tests)
slot_held held Sources none = slot_more held Sources Pom (Classes ∷ TestClasses ∷ Main ∷ Tests ∷ Sources ∷ Javadoc ∷ []) false refl ∙ slot_more held Sources Classes (TestClasses ∷ Main ∷ Tests ∷ Sources ∷ Javadoc ∷ []) false refl ∙ slot_more held Sources TestClasses (Main ∷ Tests ∷ Sources ∷ Javadoc ∷ []) false refl
    ∙ slot_more held Sources Main (Tests ∷ Sources ∷ Javadoc ∷ []) false refl ∙ slot_more held Sources Tests (Sources ∷ Javadoc ∷ []) false refl ∙ slot_more held Sources Sources (Javadoc ∷ []) true refl ∙ ap (option_or (held Sources)) (slot_more held Sources Javadoc [] false refl) ∙ or_none (held Sources)
slot_held held Javadoc none = slot_more held Javadoc Pom (Classes ∷ TestClasses ∷ Main ∷ Tests ∷ Sources ∷ Javadoc ∷ []) false refl ∙ slot_more held Javadoc Classes (TestClasses ∷ Main ∷ Tests ∷ Sources ∷ Javadoc ∷ []) false refl ∙ slot_more held Javadoc TestClasses (Main ∷ Tests ∷ Sources ∷ Javadoc ∷ []) false refl
    ∙ slot_more held Javadoc Main (Tests ∷ Sources ∷ Javadoc ∷ []) false refl ∙ slot_more held Javadoc Tests (Sources ∷ Javadoc ∷ []) false refl ∙ slot_more held Javadoc Sources (Javadoc ∷ []) false refl ∙ slot_more held Javadoc Javadoc [] true refl ∙ or_none (held Javadoc)

-- ---- how many bytes

total_append : (xs ys : List OwnBytes) → total_bytes (xs ++ ys) ≡ total_bytes xs + total_bytes ys
total_append [] ys = omega arith
total_append (o ∷ xs) ys = ap (λ n. length o.bytes + n) (total_append xs ys) ∙ omega arith

total_piece : (s : Slot) (x : Option (List ℕ)) → total_bytes (piece s x) ≡ bytes_len x
total_piece s None = refl
total_piece s (Some bytes) = omega arith

total_more : (held : Held) (s : Slot) (slots : List Slot) → total_bytes (pieces held (s ∷ slots)) ≡ bytes_len (held s) + total_bytes (pieces held slots)
total_more held s slots = total_append (piece s (held s)) (pieces held slots) ∙ ap (λ n. n + total_bytes (pieces held slots)) (total_piece s (held s))

total_held : (held : Held) → total_bytes (pieces held all_slots) ≡ total_of (sizes_of held)
total_held held =
    let a = total_more held Pom (Classes ∷ TestClasses ∷ Main ∷ Tests ∷ Sources ∷ Javadoc ∷ []) in
    let b = total_more held Classes (TestClasses ∷ Main ∷ Tests ∷ Sources ∷ Javadoc ∷ []) in
    let c = total_more held TestClasses (Main ∷ Tests ∷ Sources ∷ Javadoc ∷ []) in
    let d = total_more held Main (Tests ∷ Sources ∷ Javadoc ∷ []) in
    let e = total_more held Tests (Sources ∷ Javadoc ∷ []) in
    let f = total_more held Sources (Javadoc ∷ []) in
    let g = total_more held Javadoc [] in
    omega (arith, a, b, c, d, e, f, g)

sizes_more : (held : Held) (s : Slot) (bytes : List ℕ) → (slot_number s == 0) ≡ false → sizes_of (with_held held s bytes) ≡ sizes_with (sizes_of held) s (length bytes)
sizes_more held Nowhere bytes is = absurd (false≢true (sym is))
sizes_more held Pom bytes is = refl
sizes_more held Classes bytes is = refl
sizes_more held TestClasses bytes is = refl
sizes_more held Main bytes is = refl
sizes_more held Tests bytes is = refl
sizes_more held Sources bytes is = refl
sizes_more held Javadoc bytes is = refl

all_ascending : IsAscending all_slots
all_ascending = (refl, (refl, (refl, (refl, (refl, (refl, (refl, tt)))))))

in_all : (s : Slot) → (slot_number s == 0) ≡ false → is_in s all_slots ≡ true
in_all Nowhere is = absurd (false≢true (sym is))
in_all Pom is = refl
in_all Classes is = refl
in_all TestClasses is = refl
in_all Main is = refl
in_all Tests is = refl
in_all Sources is = refl
in_all Javadoc is = refl

put_held : (held : Held) (s : Slot) (bytes : List ℕ) → (slot_number s == 0) ≡ false → put_slot s bytes (pieces held all_slots) ≡ pieces (with_held held s bytes) all_slots
put_held held s bytes is = put_pieces held s bytes all_slots all_ascending (in_all s is)

total_same : (held : Held) (s : Slot) (bytes : List ℕ) → (slot_number s == 0) ≡ false → total_bytes (put_slot s bytes (pieces held all_slots)) ≡ total_of (sizes_with (sizes_of held) s (length bytes))
total_same held s bytes is = ap total_bytes (put_held held s bytes is) ∙ total_held (with_held held s bytes) ∙ ap total_of (sizes_more held s bytes is)

-- ---- the walk

module _ (budget : ℕ) (answers : ℕ → GoalAnswer) (wanted : Slot) where
  abbrev bytes_at : Option ℕ → Option (List ℕ)
  bytes_at found = option_and_then (λ g. produced (answers g)) found

  pub record Ends (r : GoalsStand × Option ℕ) (end : GoalsEnd) : Type 0 where
    pub stands : r.0 ≡ stand_of end
    pub holds : option_and_then (λ g. produced (answers g)) r.1 ≡ slot_bytes (kept_of end) wanted

  abbrev Rest : ℕ → List GoalCall → Type 0
  Rest i goals = (held : Held) (found : Option ℕ) → held Nowhere ≡ None → bytes_at found ≡ held wanted → Ends (walk_of budget answers wanted i goals (sizes_of held) found) (run_goals budget answers i goals (pieces held all_slots))

  module _ (i : ℕ) (call : GoalCall) (goals : List GoalCall) (held : Held) (found : Option ℕ) (none : held Nowhere ≡ None) (is : bytes_at found ≡ held wanted)
      (again : (held : Held) (found : Option ℕ) → held Nowhere ≡ None → bytes_at found ≡ held wanted → Ends (walk_of budget answers wanted (suc i) goals (sizes_of held) found) (run_goals budget answers (suc i) goals (pieces held all_slots))) where
    abbrev own : List OwnBytes
    own = pieces held all_slots

    abbrev go_on : Sizes → Option ℕ → GoalsStand × Option ℕ
    go_on more held = walk_of budget answers wanted (suc i) goals more held

    abbrev run_on : List OwnBytes → GoalsEnd
    run_on kept = run_goals budget answers (suc i) goals kept

    found_now : bytes_at found ≡ slot_bytes (pieces held all_slots) wanted
    found_now = is ∙ sym (slot_held held wanted none)

    found_then : (bytes : List ℕ) (b : Bool) → answers i ≡ Produced bytes → bytes_at (if b then Some i else found) ≡ (if b then Some bytes else held wanted)
    found_then bytes true e = ap produced e
    found_then bytes false e = is

    fitting : (bytes : List ℕ) → answers i ≡ Produced bytes → (slot_number call.slot == 0) ≡ false → (b : Bool)
        → Ends (walked (if b then Holds (sizes_with (sizes_of held) call.slot (length bytes)) else Exceeds) call.slot wanted i (sizes_of held) found (λ more held. walk_of budget answers wanted (suc i) goals more held))
        (if b then run_goals budget answers (suc i) goals (put_slot call.slot bytes (pieces held all_slots)) else output_too_large i (pieces held all_slots))
    fitting bytes e real true =
        subst (λ sizes. Ends (walk_of budget answers wanted (suc i) goals sizes (held_by call.slot wanted i found)) (run_on (put_slot call.slot bytes own))) (sizes_more held call.slot bytes real)
        (subst (λ kept. Ends (walk_of budget answers wanted (suc i) goals (sizes_of (with_held held call.slot bytes)) (held_by call.slot wanted i found)) (run_on kept)) (sym (put_held held call.slot bytes real))
        (again (with_held held call.slot bytes) (held_by call.slot wanted i found) (ap (λ b. if b then Some bytes else held Nowhere) real ∙ none) (found_then bytes (slot_number call.slot == slot_number wanted) e)))
    fitting bytes e real false = record { stands = refl; holds = found_now }

    putting : (bytes : List ℕ) → answers i ≡ Produced bytes → (b : Bool) → (slot_number call.slot == 0) ≡ b
        → Ends (walked (if b then Leaves else (if nat_le (total_of (sizes_with (sizes_of held) call.slot (length bytes))) budget then Holds (sizes_with (sizes_of held) call.slot (length bytes)) else Exceeds)) call.slot wanted i (sizes_of held) found (λ more held. walk_of budget answers wanted (suc i) goals more held))
        (if b then run_goals budget answers (suc i) goals (pieces held all_slots) else (if nat_le (total_bytes (put_slot call.slot bytes (pieces held all_slots))) budget then run_goals budget answers (suc i) goals (put_slot call.slot bytes (pieces held all_slots)) else output_too_large i (pieces held all_slots)))
    putting bytes e true nowhere = again held found none is
    putting bytes e false real =
        subst (λ n. Ends (walked (if nat_le (total_of (sizes_with (sizes_of held) call.slot (length bytes))) budget then Holds (sizes_with (sizes_of held) call.slot (length bytes)) else Exceeds) call.slot wanted i (sizes_of held) found (λ more held. walk_of budget answers wanted (suc i) goals more held))
        (if nat_le n budget then run_goals budget answers (suc i) goals (put_slot call.slot bytes (pieces held all_slots)) else output_too_large i (pieces held all_slots)))
        (sym (total_same held call.slot bytes real)) (fitting bytes e real (nat_le (total_of (sizes_with (sizes_of held) call.slot (length bytes))) budget))

    one_more : (a : GoalAnswer) → answers i ≡ a → Ends (walked (step_of a call.slot (sizes_of held) budget) call.slot wanted i (sizes_of held) found (λ more held. walk_of budget answers wanted (suc i) goals more held)) (one_goal budget i call.slot a (pieces held all_slots) (λ kept. run_goals budget answers (suc i) goals kept))
    one_more Done e = again held found none is
    one_more (Failed text) e = record { stands = refl; holds = found_now }
    one_more (Produced bytes) e = putting bytes e (slot_number call.slot == 0) refl

  walk_is : (i : ℕ) (goals : List GoalCall) (held : Held) (found : Option ℕ) → held Nowhere ≡ None → bytes_at found ≡ held wanted → Ends (walk_of budget answers wanted i goals (sizes_of held) found) (run_goals budget answers i goals (pieces held all_slots))
  walk_is i [] held found none is = record { stands = refl; holds = is ∙ sym (slot_held held wanted none) }
  walk_is i (call ∷ goals) held found none is = one_more i call goals held found none is (λ h f n x. walk_is (suc i) goals h f n x) (answers i) refl

  -- the whole walk
  pub walk_all : (goals : List GoalCall) → Ends (walk_of budget answers wanted 0 goals no_sizes None) (run_goals budget answers 0 goals [])
  walk_all goals = walk_is 0 goals (λ s. None) None refl refl

pub walk_stand : (budget : ℕ) (answers : ℕ → GoalAnswer) (wanted : Slot) (goals : List GoalCall) → (walk_of budget answers wanted 0 goals no_sizes None).0 ≡ stand_of (run_goals budget answers 0 goals [])
walk_stand budget answers wanted goals = (walk_all budget answers wanted goals).stands

pub walk_output : (budget : ℕ) (answers : ℕ → GoalAnswer) (wanted : Slot) (goals : List GoalCall) (found : Option ℕ) → (walk_of budget answers wanted 0 goals no_sizes None).1 ≡ found → option_and_then (λ g. produced (answers g)) found ≡ slot_bytes (kept_of (run_goals budget answers 0 goals [])) wanted
walk_output budget answers wanted goals found is = ap (λ o. option_and_then (λ g. produced (answers g)) o) (sym is) ∙ (walk_all budget answers wanted goals).holds

-- the goal that is found is one of them
module _ (budget : ℕ) (answers : ℕ → GoalAnswer) (wanted : Slot) (n : ℕ) where
  walk_low : (i : ℕ) (goals : List GoalCall) (sizes : Sizes) (found : Option ℕ) → ((g : ℕ) → found ≡ Some g → g < n) → i + length goals ≤ n → (g : ℕ) → (walk_of budget answers wanted i goals sizes found).1 ≡ Some g → g < n
  walk_low i [] sizes found low long g is = low g is
  walk_low i (call ∷ goals) sizes found low long g is = by (step_of (answers i) call.slot sizes budget) (λ s f l e. walk_low (suc i) goals s f l (omega (arith, long)) g e) is
    where
      held_low : (b : Bool) (h : ℕ) → (if b then Some i else found) ≡ Some h → h < n
      held_low true h e = let same : i ≡ h = ap (λ o. unwrap_or o 0) e in omega (arith, same, long)
      held_low false h e = low h e

      by : (s : Step) → ((more : Sizes) (held : Option ℕ) → ((h : ℕ) → held ≡ Some h → h < n) → (walk_of budget answers wanted (suc i) goals more held).1 ≡ Some g → g < n) → (walked s call.slot wanted i sizes found (λ more held. walk_of budget answers wanted (suc i) goals more held)).1 ≡ Some g → g < n
      by Leaves again e = again sizes found low e
      by (Holds more) again e = again more (held_by call.slot wanted i found) (held_low (slot_number call.slot == slot_number wanted)) e
      by Fails again e = low g e
      by Exceeds again e = low g e

pub found_low : (budget : ℕ) (answers : ℕ → GoalAnswer) (wanted : Slot) (goals : List GoalCall) (g : ℕ) → (walk_of budget answers wanted 0 goals no_sizes None).1 ≡ Some g → g < length goals
found_low budget answers wanted goals g is = walk_low budget answers wanted (length goals) 0 goals no_sizes None (λ h e. absurd (none_is h e)) (omega arith) g is
  where
    some_of : Option ℕ → Bool
    some_of None = false
    some_of (Some x) = true

    none_is : (h : ℕ) → None ≡ Some h → ⊥
    none_is h e = false≢true (ap some_of e)
