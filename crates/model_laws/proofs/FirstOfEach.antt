-- The first entry of each key.
use Rattle.std.proofs.Common.{◌≡◌, Bool, true, false, ◌||◌, List, [], ◌∷◌, ◌++◌, map, fold, is_some, refl, sym, ap, ◌∙◌, if◌then◌else◌}
use Rattle.mvn_base.specs.declared.key.Key.{Key}
use Rattle.model_types.specs.declared.dependency.Dependency.{Dependency}
use Rattle.model_merge.specs.Keyed.{keyed, same_key}
use Rattle.model_merge.specs.Keys.{key_of_dependency}
use Rattle.model_merge.proofs.UnderKeys.{find_keyed, same_key_is, values_keyed}
use Rattle.managed_deps.specs.Managed.{add, first_of_each}
use Rattle.model_laws.specs.Keys.{each_once, has}
use Rattle.model_laws.proofs.Keys.{has_found, once_append}
use Rattle.model_laws.proofs.Merges.{nested, new_behind}

-- one entry more, where its key isn't there
abbrev added : List Dependency → Dependency → List Dependency
added done d = if has key_of_dependency done (key_of_dependency d) then done else done ++ d ∷ []

add_keyed : (done : List Dependency) (d : Dependency) → add (keyed key_of_dependency done) d ≡ keyed key_of_dependency (added done d)
add_keyed done d =
    ap (λ b. if b then keyed key_of_dependency done else keyed key_of_dependency done ++ (key_of_dependency d, d) ∷ [])
    (ap is_some (find_keyed key_of_dependency done (key_of_dependency d)) ∙ has_found key_of_dependency done (key_of_dependency d))
    ∙ by (has key_of_dependency done (key_of_dependency d))
  where
    behind : (xs : List Dependency) → keyed key_of_dependency xs ++ (key_of_dependency d, d) ∷ [] ≡ keyed key_of_dependency (xs ++ d ∷ [])
    behind [] = refl
    behind (x ∷ xs) = ap (λ l. (key_of_dependency x, x) ∷ l) (behind xs)

    by : (b : Bool) → (if b then keyed key_of_dependency done else keyed key_of_dependency done ++ (key_of_dependency d, d) ∷ []) ≡ keyed key_of_dependency (if b then done else done ++ d ∷ [])
    by true = refl
    by false = behind done

all_keyed : (done entries : List Dependency) → fold add (keyed key_of_dependency done) entries ≡ keyed key_of_dependency (fold added done entries)
all_keyed done [] = refl
all_keyed done (d ∷ entries) = ap (λ l. fold add l entries) (add_keyed done d) ∙ all_keyed (added done d) entries

listed : (entries : List Dependency) → map (λ e. e.1) (first_of_each entries) ≡ fold added [] entries
listed entries = ap (map (λ e. e.1)) (all_keyed [] entries) ∙ values_keyed key_of_dependency (fold added [] entries)

once_added : (done : List Dependency) (d : Dependency) → each_once key_of_dependency done ≡ true → each_once key_of_dependency (added done d) ≡ true
once_added done d once = by (has key_of_dependency done (key_of_dependency d)) refl
  where
    clash : true ≡ false → ⊥
    clash e = cc

    apart : has key_of_dependency done (key_of_dependency d) ≡ false → (k : Key) → has key_of_dependency done k ≡ true → (same_key k (key_of_dependency d) || false) ≡ false
    apart lacks k there = each (same_key k (key_of_dependency d)) refl
      where
        each : (b : Bool) → same_key k (key_of_dependency d) ≡ b → (same_key k (key_of_dependency d) || false) ≡ false
        each true s = absurd (clash (sym there ∙ ap (has key_of_dependency done) (same_key_is k (key_of_dependency d) s) ∙ lacks))
        each false s = ap (λ b. b || false) s

    by : (b : Bool) → has key_of_dependency done (key_of_dependency d) ≡ b → each_once key_of_dependency (if b then done else done ++ d ∷ []) ≡ true
    by true there = once
    by false lacks = once_append key_of_dependency done (d ∷ []) once refl (apart lacks)

once_all : (done entries : List Dependency) → each_once key_of_dependency done ≡ true → each_once key_of_dependency (fold added done entries) ≡ true
once_all done [] once = once
once_all done (d ∷ entries) once = once_all (added done d) entries (once_added done d once)

-- each key stands once
pub first_once : (entries : List Dependency) → each_once key_of_dependency (map (λ e. e.1) (first_of_each entries)) ≡ true
first_once entries = ap (each_once key_of_dependency) (listed entries) ∙ once_all [] entries refl

kept_all : (done entries : List Dependency) → each_once key_of_dependency (done ++ entries) ≡ true → fold added done entries ≡ done ++ entries
kept_all done [] once = none done
  where
    none : (xs : List Dependency) → xs ≡ xs ++ []
    none [] = refl
    none (x ∷ xs) = ap (λ l. x ∷ l) (none xs)
kept_all done (d ∷ entries) once =
    ap (λ b. fold added (if b then done else done ++ d ∷ []) entries) (new_behind key_of_dependency done d entries once)
    ∙ kept_all (done ++ d ∷ []) entries (ap (each_once key_of_dependency) (nested key_of_dependency done d entries) ∙ once)
    ∙ nested key_of_dependency done d entries

-- the list of what is managed gives the same set again
pub first_again : (entries : List Dependency) → first_of_each (map (λ e. e.1) (first_of_each entries)) ≡ first_of_each entries
first_again entries =
    ap first_of_each (listed entries)
    ∙ all_keyed [] (fold added [] entries)
    ∙ ap (keyed key_of_dependency) (kept_all [] (fold added [] entries) (once_all [] entries refl))
    ∙ sym (all_keyed [] entries)
