-- The example: `app` depends on its sister `lib` and on `web`.
use Rattle.std.proofs.Common.{◌≡◌, inl, inr, ℕ, zero, suc, true, false, List, [], ◌∷◌, ◌++◌, codes, flat_map, map, slice_get, Option, Some, None, is_some, unwrap_or, refl, sym, ap, subst, ◌∙◌, arith}
use Rattle.std.specs.Str.{bytes_eq}
use Rattle.std.proofs.lemmas.Bool.{false≢true}
use Rattle.std.proofs.lemmas.Slice.Eq.{bytes_eq-Decides}
use Rattle.mvn_base.specs.FileName.{IsValid, file_name}
use Rattle.mvn_base.specs.Gav.{gav_text}
use Rattle.mvn_base.specs.Names.{is_group, is_name, is_name_byte, is_version, is_version_byte}
use Rattle.mvn_base.specs.declared.gav.Gav.{Gav}
use Rattle.mvn_base.specs.declared.phase.Phase.TheVariants.{Compile}
use Rattle.classpaths.specs.declared.resolution.Resolved.{Resolved}
use Rattle.goal_types.specs.GoalRules.{goal_rule, maven_goals}
use Rattle.lifecycle.specs.Bindings.{bindings_of}
use Rattle.lifecycle.specs.Goals.{calls_through}
use Rattle.mvn_base.specs.Phase.{phase_number}
use Rattle.scripts.specs.Outlines.{is_listed}
use Rattle.module_plan.specs.Numbers.{ascending, fetch_names, locks_of, numbers_of, plan_files, plan_names}
use Rattle.module_plan.specs.Outputs.{outputs}
use Rattle.module_plan.specs.Plans.{entries_of}
use Rattle.build_core.specs.declared.plan.Entry.{Entry}
use Rattle.build_core.specs.declared.plan.Origin.{Origin}
use Rattle.build_core.specs.declared.plan.Origin.TheVariants as origin
use Rattle.goal_types.specs.declared.goal.Slot.TheVariants as slots
use Rattle.mvn_base.specs.Types.{type_rule}
use Rattle.module_plan.specs.Uses.{gavs, used}
use Rattle.module_plan.specs.declared.selected.SelectedModule.{SelectedModule}
use Rattle.plan_law.specs.Example.{app, lib, named, winner}
use Rattle.plan_law.specs.Ready.{AreOrdered, IsPlaced}
use Rattle.plan_law.proofs.Members.{Apart, IsIn, in_from, one_at}
use Rattle.plan_law.proofs.Ones.{same_lists}
use Rattle.plan_law.proofs.Texts.{ascending_climb, from_ascending, in_ascending}

abbrev both : List SelectedModule
both = lib ∷ app ∷ []

unlike : (a b : List ℕ) → bytes_eq a b ≡ false → a ≡ b → ⊥
unlike a b e same = false≢true (sym e ∙ (bytes_eq-Decides a b).1 same)

other_gav : (a b : List ℕ) → bytes_eq a b ≡ false → named a ≡ named b → ⊥
other_gav a b e same = unlike a b e (ap (λ (g : Gav). g.artifact) same)

valid : (artifact : List ℕ) → is_name artifact ≡ true → IsValid (named artifact)
unfolding is_group is_name is_name_byte is_version is_version_byte
valid artifact is = record { group = refl; artifact = is; version = refl }

lib_valid : IsValid (named (codes "lib"))
unfolding is_name is_name_byte
lib_valid = valid (codes "lib") refl

app_valid : IsValid (named (codes "app"))
unfolding is_name is_name_byte
app_valid = valid (codes "app") refl

gavs_apart : Apart (gavs both)
gavs_apart = (none, ((λ none. none), record {}))
  where
    none : IsIn (named (codes "app") ∷ []) (named (codes "lib")) → ⊥
    none (inl e) = other_gav (codes "app") (codes "lib") refl e
    none (inr h) = h

nothing : (m : SelectedModule) → ◌≡◌ {A = Option SelectedModule} None (Some m) → ⊥
nothing m e = false≢true (ap is_some e)

-- which module has these coordinates
lib_only : (other : ℕ) (n : SelectedModule) → slice_get both other ≡ Some n → n.model.gav ≡ named (codes "lib") → is_listed other (0 ∷ []) ≡ true
lib_only zero n at e = refl
lib_only (suc zero) n at e = absurd (other_gav (codes "app") (codes "lib") refl (ap (λ o. (unwrap_or o app).model.gav) at ∙ e))
lib_only (suc (suc k)) n at e = absurd (nothing n at)

web_never : (other : ℕ) (n : SelectedModule) → slice_get both other ≡ Some n → n.model.gav ≡ named (codes "web") → ⊥
web_never zero n at e = other_gav (codes "lib") (codes "web") refl (ap (λ o. (unwrap_or o lib).model.gav) at ∙ e)
web_never (suc zero) n at e = other_gav (codes "app") (codes "web") refl (ap (λ o. (unwrap_or o app).model.gav) at ∙ e)
web_never (suc (suc k)) n at e = nothing n at

app_firm : (w : Resolved) (other : ℕ) (n : SelectedModule) → IsIn (winner (codes "lib") ∷ winner (codes "web") ∷ []) w → slice_get both other ≡ Some n → n.model.gav ≡ w.gav → is_listed other (0 ∷ []) ≡ true
app_firm w other n (inl is) at e = lib_only other n at (e ∙ ap (λ (w : Resolved). w.gav) (sym is))
app_firm w other n (inr (inl is)) at e = absurd (web_never other n at (e ∙ ap (λ (w : Resolved). w.gav) (sym is)))
app_firm w other n (inr (inr none)) at e = absurd none

lib_placed : IsPlaced both 0 lib
lib_placed = record { named = lib_valid; ascending = tt; before = refl; firm = λ w other n there at e. absurd (in_from [] w there) }

app_placed : IsPlaced both 1 app
app_placed = record { named = app_valid; ascending = (omega arith, tt); before = refl; firm = λ w other n there at e. app_firm w other n (in_from (winner (codes "lib") ∷ winner (codes "web") ∷ []) w there) at e }

all_placed : (place : ℕ) (m : SelectedModule) → slice_get both place ≡ Some m → IsPlaced both place m
all_placed zero m at = subst (IsPlaced both 0) (ap (λ o. unwrap_or o lib) at) lib_placed
all_placed (suc zero) m at = subst (IsPlaced both 1) (ap (λ o. unwrap_or o app) at) app_placed
all_placed (suc (suc k)) m at = absurd (nothing m at)

pub ordered : AreOrdered 2 both
ordered = record {
  few = (omega arith, omega arith);
  apart = λ a b m n p q e. one_at (λ (m : SelectedModule). m.model.gav) both gavs_apart a b m n p q e;
  placed = all_placed;
}

-- ---- its names

abbrev met : List (List ℕ)
met = codes "artifact:g:lib:1" ∷ codes "artifact:g:app:1" ∷ codes "artifact:g:web:1" ∷ []

abbrev sorted : List (List ℕ)
sorted = codes "artifact:g:app:1" ∷ codes "artifact:g:lib:1" ∷ codes "artifact:g:web:1" ∷ []

none_ascend : ascending [] ≡ []
none_ascend = same_lists (ascending []) [] (ascending_climb []) (record {}) (λ x h. from_ascending [] x h) (λ x h. absurd h)

abbrev web : List (List ℕ)
web = codes "artifact:g:web:1" ∷ []

web_ascends : ascending web ≡ web
web_ascends = same_lists (ascending web) web (ascending_climb web) (record {}) (λ x h. from_ascending web x h) (λ x h. in_ascending web x h)

met_are : flat_map (locks_of Compile (gavs both)) both ≡ met
unfolding gav_text is_group is_name is_name_byte is_version is_version_byte goal_rule maven_goals calls_through bindings_of phase_number
met_are = ap (λ a. (codes "artifact:g:lib:1" ∷ a) ++ ((codes "artifact:g:app:1" ∷ ascending web) ++ [])) none_ascend
    ∙ ap (λ b. codes "artifact:g:lib:1" ∷ ((codes "artifact:g:app:1" ∷ b) ++ [])) web_ascends

to_sorted : (x : List ℕ) → IsIn met x → IsIn sorted x
to_sorted x (inl e) = inr (inl e)
to_sorted x (inr (inl e)) = inl e
to_sorted x (inr (inr (inl e))) = inr (inr (inl e))
to_sorted x (inr (inr (inr none))) = absurd none

to_met : (x : List ℕ) → IsIn sorted x → IsIn met x
to_met x (inl e) = inr (inl e)
to_met x (inr (inl e)) = inl e
to_met x (inr (inr (inl e))) = inr (inr (inl e))
to_met x (inr (inr (inr none))) = absurd none

met_ascend : ascending met ≡ sorted
met_ascend = same_lists (ascending met) sorted (ascending_climb met) (refl, (refl, tt)) (λ x h. to_sorted x (from_ascending met x h)) (λ x h. in_ascending met x (to_met x h))

pub names : plan_names Compile both ≡ sorted
unfolding plan_names
names = ap ascending met_are ∙ met_ascend

-- ---- its files, and what `app` takes of them

abbrev all_files : List (List ℕ)
all_files =
    codes "g/lib/1/lib-1.pom" ∷ codes "g/lib/1/lib-1.jar" ∷ codes "g/lib/1/lib-1-tests.jar" ∷ codes "g/lib/1/lib-1-sources.jar" ∷ codes "g/lib/1/lib-1-javadoc.jar"
    ∷ codes "g/web/1/web-1.pom" ∷ codes "g/web/1/web-1.jar"
    ∷ codes "g/app/1/app-1.pom" ∷ codes "g/app/1/app-1.jar" ∷ codes "g/app/1/app-1-tests.jar" ∷ codes "g/app/1/app-1-sources.jar" ∷ codes "g/app/1/app-1-javadoc.jar" ∷ []

pub files : plan_files Compile both ≡ all_files
unfolding plan_files outputs file_name type_rule is_group is_name is_name_byte is_version is_version_byte goal_rule maven_goals calls_through bindings_of phase_number
files = refl

app_fetches : numbers_of all_files (fetch_names Compile (gavs both) app) ≡ 5 ∷ 6 ∷ []
unfolding file_name type_rule is_group is_name is_name_byte is_version is_version_byte goal_rule maven_goals calls_through bindings_of phase_number
app_fetches = refl

pub fetch : numbers_of (plan_files Compile both) (fetch_names Compile (gavs both) app) ≡ 5 ∷ 6 ∷ []
fetch = ap (λ l. numbers_of l (fetch_names Compile (gavs both) app)) files ∙ app_fetches

abbrev origins_in : List (List ℕ) → List Origin
origins_in list = map (λ (e : Entry). e.origin) (entries_of (gavs both) list (used Compile app))

app_entries : origins_in all_files ≡ origin.Module 0 slots.Main ∷ origin.File 6 ∷ []
unfolding file_name type_rule is_group is_name is_name_byte is_version is_version_byte goal_rule maven_goals calls_through bindings_of phase_number
app_entries = refl

pub entries : origins_in (plan_files Compile both) ≡ origin.Module 0 slots.Main ∷ origin.File 6 ∷ []
entries = ap origins_in files ∙ app_entries
