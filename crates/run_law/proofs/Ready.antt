-- A module whose files are all there: what it can have, and how long its entries are.
use Rattle.std.proofs.Common.{◌≡◌, ℕ, zero, suc, ◌<◌, Bool, true, false, ◌||◌, not, nat_eq, nat_le, nat_lt, List, [], ◌∷◌, find, length, map, slice_get, Some, None, is_some, refl, arith, sym, ap, subst, ◌∙◌, if◌then◌else◌}
use Rattle.std.specs.Prelude.{slice_index_or}
use Rattle.std.specs.List.{list_all}
use Rattle.std.proofs.lemmas.Bool.{eqb-true, false≢true}
use Rattle.std.proofs.lemmas.Bool.Decides.{nat_tests}
use Rattle.mvn_shared.specs.Files.{Files, file_at}
use Rattle.build_core.specs.declared.event.Answered.{Answered}
use Rattle.build_core.specs.declared.plan.Entry.{Entry}
use Rattle.build_core.specs.declared.plan.Plan.{Plan}
use Rattle.build_core.specs.declared.plan.PlanModule.{PlanModule}
use Rattle.event_core.specs.declared.entry.RunEntry.{RunEntry}
use Rattle.run_law.specs.Closed.{available, missing_of, total_len}
use Rattle.run_law.proofs.Invariants.{IsStored, outs, supply_of}
use Rattle.build_core.specs.OneThread.{entries_len, most_classpath, name_of, path_entry}
use Rattle.scripts.specs.Outlines.{is_listed}
use Rattle.event_core.specs.Runs.{answers_in, contents, outputs_in, standing_of_run}
use Rattle.scripts.specs.Scripts.{is_there}
use Rattle.event_core.specs.SoundPlans.{is_backed}
use Rattle.event_core.specs.Worlds.{IsBeyond, IsWithin, stood}
use Rattle.run_law.proofs.Hand.{AreApart, len_is}
use Rattle.run_law.proofs.Kept.{outputs_are}
use Rattle.run_law.proofs.Once.{both, len_same, listed_first, listed_later}

-- no more is not less
pub le_lt : (a b : ℕ) → nat_le a b ≡ true → nat_lt b a ≡ false
le_lt a b is = grind (arith, nat_tests)

-- and what isn't no more is less
pub not_le_lt : (a b : ℕ) → nat_le a b ≡ false → nat_lt b a ≡ true
not_le_lt a b is = grind (arith, nat_tests)

-- a file that is there is one of the list
pub there_low : (there : List Bool) (f : ℕ) → is_there there f ≡ true → f < length there
there_low [] f is = absurd (false≢true is)
there_low (b ∷ there) zero is = omega arith
there_low (b ∷ there) (suc f) is = let again = there_low there f is in omega (arith, again)

-- what holds of all holds of each that is listed
pub all_listed : (p : ℕ → Bool) (xs : List ℕ) → list_all p xs ≡ true → (x : ℕ) → is_listed x xs ≡ true → p x ≡ true
all_listed p [] all x is = absurd (false≢true is)
all_listed p (y ∷ xs) all x is = by (nat_eq y x) refl is (both (p y) (list_all p xs) all).0 (all_listed p xs (both (p y) (list_all p xs) all).1 x)
  where
    by : (b : Bool) → nat_eq y x ≡ b → (b || is_listed x xs) ≡ true → p y ≡ true → (is_listed x xs ≡ true → p x ≡ true) → p x ≡ true
    by true e l here later = subst (λ z. p z ≡ true) (eqb-true y x e) here
    by false e l here later = later l

-- where nothing passes a test nothing is found
pub find_nothing : (p : ℕ → Bool) (xs : List ℕ) → ((x : ℕ) → is_listed x xs ≡ true → p x ≡ false) → find p xs ≡ None
find_nothing p [] isnt = refl
find_nothing p (x ∷ xs) isnt = ap (λ b. if b then Some x else find p xs) (isnt x (listed_first x xs)) ∙ find_nothing p xs (λ y l. isnt y (listed_later x y xs l))

module _ (plan : Plan) (start remote : Files) (apart : AreApart plan) (number : ℕ) (m : PlanModule) (at : slice_get plan.modules number ≡ Some m)
    (backed : list_all (λ (e : Entry). is_backed m e.origin) m.entries ≡ true) (past : List RunEntry)
    (stored : IsStored plan (supply_of start remote []) (standing_of_run plan past) (contents plan start past)) where
  -- a file that is there can be had, and has these bytes
  pub file_had : (f : ℕ) → is_listed f m.fetch ≡ true → is_there (standing_of_run plan past).there f ≡ true → (file_at (contents plan start past) (name_of plan f) ≡ available plan (supply_of start remote []) f) × (is_some (available plan (supply_of start remote []) f) ≡ true)
  file_had f l is =
      let low : f < length plan.files = let small = there_low (standing_of_run plan past).there f is in omega (arith, small, stored.sized) in
      let bytes = stored.bytes f (number, m, at, l) low is in
      (bytes, ap is_some (sym bytes) ∙ sym (stored.there f low) ∙ is)

  module _ (all : list_all (is_there (standing_of_run plan past).there) m.fetch ≡ true) where
    -- each fetched file is there
    each : (f : ℕ) → is_listed f m.fetch ≡ true → is_there (standing_of_run plan past).there f ≡ true
    each f l = all_listed (is_there (standing_of_run plan past).there) m.fetch all f l

    -- so none is missing
    pub all_had : (kept : List Answered) → missing_of plan (supply_of start remote kept) m.fetch ≡ None
    all_had kept = find_nothing (λ f. not (is_some (available plan (supply_of start remote kept) f))) m.fetch (λ f l. ap not (file_had f l (each f l)).1)

    -- and the classpath has the length that is judged
    long_is : entries_len (map (path_entry plan (contents plan start past) (outputs_in plan past)) m.entries) ≡ total_len plan (supply_of start remote []) (outs plan (answers_in plan past)) m.entries
    long_is = len_is plan (supply_of start remote []) apart number m at (record { files = contents plan start past; states = []; outputs = outputs_in plan past }) (contents plan start past) (λ f l. (file_had f l (each f l)).0) m.entries backed
        ∙ len_same plan (supply_of start remote []) m (λ u. slice_index_or (outputs_in plan past) u []) (outs plan (answers_in plan past)) (λ u l. outputs_are plan past u) m.entries backed

    -- so what is within the limit is judged within it
    pub within_is : IsWithin (stood plan (Some start) past number m) → nat_lt most_classpath (total_len plan (supply_of start remote []) (outs plan (answers_in plan past)) m.entries) ≡ false
    within_is is = le_lt (total_len plan (supply_of start remote []) (outs plan (answers_in plan past)) m.entries) most_classpath (subst (λ n. nat_le n most_classpath ≡ true) long_is is)

    -- and what is beyond it beyond it
    pub beyond_is : IsBeyond (stood plan (Some start) past number m) → nat_lt most_classpath (total_len plan (supply_of start remote []) (outs plan (answers_in plan past)) m.entries) ≡ true
    beyond_is is = not_le_lt (total_len plan (supply_of start remote []) (outs plan (answers_in plan past)) m.entries) most_classpath (subst (λ n. nat_le n most_classpath ≡ false) long_is is)
