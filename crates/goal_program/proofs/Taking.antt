-- The lists of a request, item by item, and that the slots of its outputs are kept ones.
use Rattle.std.proofs.Common.{◌≡◌, ℕ, Bool, true, false, ◌&&◌, List, [], ◌∷◌, ◌++◌, Option, Some, None, option_map, option_and_then, find, cond, nat_eq, refl, sym, ap, ap₂, subst, ◌∙◌, append_assoc, Bor}
use Rattle.std.specs.List.{list_all}
use Rattle.std.specs.Cmp.Lexicographic.{pointwise}
use Rattle.serde_json.specs.Data.{Data}
use Rattle.goal_types.specs.declared.goal.Slot.{Slot}
use Rattle.goal_types.specs.declared.goal.Slot.TheVariants.{Classes, TestClasses, Main, Tests, Sources, Javadoc}
use Rattle.goal_types.specs.declared.goal.OwnBytes.{OwnBytes}
use Rattle.goal_types.specs.Goals.{is_kept, HasOwnSlots}
use Rattle.goal_types.specs.Requests.{slot_name}
use Rattle.goal_program.specs.Members.{items_at}
use Rattle.goal_program.specs.Lists.{all_taken, listed, own_in, counted_in, slot_in, with_rest}

-- these items before those of another answer
abbrev pub prefixed : {A : Type 0} → List A → Option (List A × List ℕ) → Option (List A × List ℕ)
prefixed done o = option_map (λ r. (done ++ r.0, r.1)) o

pub prefixed_none : {A : Type 0} (o : Option (List A × List ℕ)) → prefixed [] o ≡ o
prefixed_none None = refl
prefixed_none (Some r) = refl

-- an item that was read belongs to those before
pub prefixed_more : {A : Type 0} (done : List A) (x : A) (o : Option (List A × List ℕ)) → prefixed (done ++ x ∷ []) o ≡ prefixed done (option_map (λ more. (x ∷ more.0, more.1)) o)
prefixed_more done x None = refl
prefixed_more done x (Some r) = ap (λ xs. Some (xs, r.1)) (append_assoc done (x ∷ []) r.0)

-- one item is read
pub taken_more : {A : Type 0} (taken : Data → List ℕ → Option (A × List ℕ)) (done : List A) (value : Data) (values : List Data) (rest : List ℕ) (x : A) (behind : List ℕ) → taken value rest ≡ Some (x, behind)
    → prefixed (done ++ x ∷ []) (all_taken taken values behind) ≡ prefixed done (all_taken taken (value ∷ values) rest)
taken_more taken done value values rest x behind e =
    prefixed_more done x (all_taken taken values behind)
    ∙ ap (λ o. prefixed done (option_and_then (λ first. option_map (λ more. (first.0 ∷ more.0, more.1)) (all_taken taken values first.1)) o)) (sym e)

-- where one item is none, there is no list
pub taken_none : {A : Type 0} (taken : Data → List ℕ → Option (A × List ℕ)) (done : List A) (value : Data) (values : List Data) (rest : List ℕ) → taken value rest ≡ None → None ≡ prefixed done (all_taken taken (value ∷ values) rest)
taken_none taken done value values rest e =
    ap (λ o. prefixed done (option_and_then (λ first. option_map (λ more. (first.0 ∷ more.0, more.1)) (all_taken taken values first.1)) o)) (sym e)

-- what is found passes what all pass
found_passes : {A : Type 0} (t k : A → Bool) (xs : List A) (x : A) → list_all k xs ≡ true → find t xs ≡ Some x → k x ≡ true
found_passes t k [] x all e = cc
found_passes t k (y ∷ ys) x all e = by (t y) (k y) refl refl (found_passes t k ys x)
  where
    by : (a b : Bool) → t y ≡ a → k y ≡ b → (list_all k ys ≡ true → find t ys ≡ Some x → k x ≡ true) → k x ≡ true
    by a true ta kb again = first a ta
      where
        rest : list_all k ys ≡ true
        rest = subst (λ c. c && list_all k ys ≡ true) kb all

        first : (c : Bool) → t y ≡ c → k x ≡ true
        first true tc = subst (λ z. k z ≡ true) (some_is (subst (λ c. cond c (Some y) (find t ys) ≡ Some x) tc e)) kb
          where
            some_is : Some y ≡ Some x → y ≡ x
            some_is s = cc
        first false tc = again rest (subst (λ c. cond c (Some y) (find t ys) ≡ Some x) tc e)
    by a false ta kb again = absurd (none (subst (λ c. c && list_all k ys ≡ true) kb all))
      where
        none : false ≡ true → ⊥
        none e = cc

-- a slot that is found by its name is a kept one
slot_kept : (word : List ℕ) (slot : Slot) → slot_in word ≡ Some slot → is_kept slot ≡ true
slot_kept word slot e = found_passes (λ slot. pointwise nat_eq (slot_name slot) word) is_kept (Classes ∷ TestClasses ∷ Main ∷ Tests ∷ Sources ∷ Javadoc ∷ []) slot refl e

-- an output of this slot, of what was counted, and what is left
abbrev own_with : List ℕ × (List ℕ × List ℕ) → Slot → OwnBytes × List ℕ
own_with p slot = (record { slot = slot; bytes = p.1.0 }, p.1.1)

abbrev own_named : List ℕ × (List ℕ × List ℕ) → Option (OwnBytes × List ℕ)
own_named p = option_map (own_with p) (slot_in p.0)

-- the slot of an output that was read
abbrev slot_of : Option (OwnBytes × List ℕ) → Option Slot
slot_of o = option_map (λ r. r.0.slot) o

some_slot : (a b : Slot) → Some a ≡ Some b → a ≡ b
some_slot a b e = cc

-- the slot of an output that is read is a kept one
named_kept : (p : List ℕ × (List ℕ × List ℕ)) (own : OwnBytes) (behind : List ℕ) → own_named p ≡ Some (own, behind) → is_kept own.slot ≡ true
named_kept p own behind e = by (slot_in p.0) refl e
  where
    by : (s : Option Slot) → slot_in p.0 ≡ s → option_map (own_with p) s ≡ Some (own, behind) → is_kept own.slot ≡ true
    by None is f = cc
    by (Some slot) is f = subst (λ s. is_kept s ≡ true) (some_slot slot own.slot (ap slot_of f)) (slot_kept p.0 slot is)

own_kept : (value : Data) (rest : List ℕ) (own : OwnBytes) (behind : List ℕ) → own_in value rest ≡ Some (own, behind) → is_kept own.slot ≡ true
own_kept value rest own behind e = by (counted_in value rest) e
  where
    by : (o : Option (List ℕ × (List ℕ × List ℕ))) → option_and_then own_named o ≡ Some (own, behind) → is_kept own.slot ≡ true
    by None f = cc
    by (Some p) f = named_kept p own behind f

-- the outputs that an answer has before what is left
abbrev outputs_of : Option (List OwnBytes × List ℕ) → Option (List OwnBytes)
outputs_of o = option_map (λ r. r.0) o

some_outputs : (a b : List OwnBytes) → Some a ≡ Some b → a ≡ b
some_outputs a b e = cc

-- one output before those of another answer
abbrev before_more : OwnBytes → List OwnBytes × List ℕ → List OwnBytes × List ℕ
before_more own more = (own ∷ more.0, more.1)

abbrev then_more : List Data → OwnBytes × List ℕ → Option (List OwnBytes × List ℕ)
then_more values first = option_map (before_more first.0) (all_taken own_in values first.1)

-- the outputs that are read have kept slots
all_kept : (values : List Data) (rest : List ℕ) (own : List OwnBytes) (behind : List ℕ) → all_taken own_in values rest ≡ Some (own, behind) → list_all (λ o. is_kept o.slot) own ≡ true
all_kept [] rest own behind e = subst (λ xs. list_all (λ o. is_kept o.slot) xs ≡ true) (some_outputs [] own (ap outputs_of e)) refl
all_kept (value ∷ values) rest own behind e = by (own_in value rest) refl e (all_kept values)
  where
    by : (o : Option (OwnBytes × List ℕ)) → own_in value rest ≡ o → option_and_then (then_more values) o ≡ Some (own, behind)
        → ((rest : List ℕ) (own : List OwnBytes) (behind : List ℕ) → all_taken own_in values rest ≡ Some (own, behind) → list_all (λ o. is_kept o.slot) own ≡ true)
        → list_all (λ o. is_kept o.slot) own ≡ true
    by None is f again = cc
    by (Some first) is f again = more (all_taken own_in values first.1) refl f
      where
        more : (o : Option (List OwnBytes × List ℕ)) → all_taken own_in values first.1 ≡ o → option_map (before_more first.0) o ≡ Some (own, behind) → list_all (λ o. is_kept o.slot) own ≡ true
        more None all f = cc
        more (Some others) all f =
            subst (λ xs. list_all (λ o. is_kept o.slot) xs ≡ true) (some_outputs (first.0 ∷ others.0) own (ap outputs_of f))
            (ap₂ (λ a b. a && b) (own_kept value rest first.0 first.1 is) (again first.1 others.0 others.1 all))

pub listed_kept : (key : List ℕ) (value : Data) (bytes : List ℕ) (own : List OwnBytes) (behind : List ℕ) → Some (own, behind) ≡ listed own_in key value bytes → HasOwnSlots own
listed_kept key value bytes own behind e = by (items_at key value) (sym e)
  where
    by : (o : Option (List Data)) → option_and_then (λ values. all_taken own_in values bytes) o ≡ Some (own, behind) → HasOwnSlots own
    by None f = cc
    by (Some values) f = all_kept values bytes own behind f

-- the same of a list that was found
pub found_kept : (key : List ℕ) (value : Data) (bytes : List ℕ) (found : Option (List OwnBytes × Bor (List ℕ))) (own : List OwnBytes) (rest : Bor (List ℕ)) → found ≡ Some (own, rest) → option_map with_rest found ≡ listed own_in key value bytes → HasOwnSlots own
found_kept key value bytes found own rest is e = listed_kept key value bytes own rest.now (sym (ap (option_map with_rest) is) ∙ e)
