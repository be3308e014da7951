-- Own files, one place after another.
use Rattle.std.proofs.Common.{◌≡◌, ℕ, zero, suc, ◌+◌, ◌<◌, ◌≤◌, ◌⊎◌, inl, inr, Bool, true, false, not, ◌||◌, List, length, slice_get, Option, Some, None, IfSome, is_some, option_and_then, option_map, refl, arith, sym, ap, subst, ◌∙◌}
use Rattle.std.proofs.lemmas.Bool.{false≢true}
use Rattle.goal_types.specs.declared.goal.OwnBytes.{OwnBytes}
use Rattle.goal_types.specs.declared.goal.Slot.{Slot}
use Rattle.mvn_outside.specs.Pieces.{Contents, Pieces}
use Rattle.build_core.specs.OneThread.{own_bytes}
use Rattle.build_core.specs.Slots.{kept_of}
use Rattle.build_core.specs.declared.plan.OwnFile.{OwnFile}
use Rattle.build_core.specs.declared.plan.PlanModule.{PlanModule}
use Rattle.event_core.specs.Worlds.{is_installed, was_published}
use Rattle.event_core.proofs.Weights.{nothing_is}
use Rattle.atomic_table.specs.Seated.{TableId}
use Rattle.crew_turns.specs.Seen.{Follows, IsOf, Told, seen_by}
use Rattle.crew_turns.specs.Tasks.{IsTask, ModuleTask, stood_by}
use Rattle.crew_turns.specs.Stages.{IsInstalling, IsPut, own_at, own_file}
use Rattle.crew_modules.specs.Putting.{HasPut}
use Rattle.crew_modules.proofs.InstallFitting.{area_same, put_once}
use Rattle.crew_modules.proofs.Going.{goes_itself, published_later, sound_unit}
use Rattle.crew_modules.proofs.Owns.{all_places, pom_there}

-- the bytes for the file at a place, by its slot
pub bytes_at : (t : ModuleTask) (own : List OwnBytes) (at : ℕ) (o : OwnFile) → slice_get t.unit.own at ≡ Some o → own_at t own at ≡ own_bytes t.unit own o.slot
bytes_at t own at o is = ap (option_and_then (λ (x : OwnFile). own_bytes t.unit own x.slot)) is

-- there are none by the module that a task names
pub none_by : (t : ModuleTask) (unit : PlanModule) (own : List OwnBytes) (s : Slot) → unit ≡ t.unit → None ≡ own_bytes unit own s → own_bytes t.unit own s ≡ None
none_by t unit own s same none = sym (ap (λ (m : PlanModule). own_bytes m own s) same) ∙ sym none

-- what isn't there needn't be put
pub nothing_put : (t : ModuleTask) (own : List OwnBytes) (at : ℕ) (o : OwnFile) (pass : Told) → slice_get t.unit.own at ≡ Some o → own_bytes t.unit own o.slot ≡ None → IsPut t own at pass
nothing_put t own at o pass is none some = absurd (false≢true (sym (ap is_some (bytes_at t own at o is ∙ none)) ∙ some))

-- and is behind the worker
pub skip_installing : (t : ModuleTask) (lock : TableId) (before : Told) → IsOf t.plan lock t.worker before → IsTask t → (own : List OwnBytes) (at : ℕ) (o : OwnFile) → slice_get t.unit.own at ≡ Some o → own_bytes t.unit own o.slot ≡ None
    → IsInstalling t at before → IsInstalling t (at + 1) before
skip_installing t lock before of is own at o stands_at none here = by at here stands_at
  where
    by : (k : ℕ) → IsInstalling t k before → slice_get t.unit.own k ≡ Some o → IsInstalling t (k + 1) before
    by zero h s = absurd (nothing_is t.unit.pom (sym none ∙ pom_there t.unit own o (sound_unit t lock before of is).pom s))
    by (suc k) h s = record { here = h.here; low = let low = h.low in omega (arith, low); begun = λ more. h.begun (omega arith); at = h.at; may = h.may }

-- what was put stays put
pub put_later : (t : ModuleTask) (own : List OwnBytes) (at : ℕ) (before pass : Told) → Follows before pass → IsPut t own at before → IsPut t own at pass
put_later t own at before pass follows put some = by (own_file t at) (put some)
  where
    by : (found : Option ℕ) → IfSome found (λ file. was_published (seen_by before) file ≡ true) → IfSome found (λ file. was_published (seen_by pass) file ≡ true)
    by None is = tt
    by (Some file) is = published_later before pass file follows is

-- where each is put, the module is installed
put_or_none : (b published : Bool) → (b ≡ true → published ≡ true) → (not b || published) ≡ true
put_or_none true published more = more refl
put_or_none false published more = refl

pub all_put : (t : ModuleTask) (own : List OwnBytes) (pass : Told) → own ≡ kept_of (stood_by t pass).goals → ((at : ℕ) → at < length t.unit.own → IsPut t own at pass) → is_installed (stood_by t pass) ≡ true
all_put t own pass same each =
    all_places (λ (o : OwnFile). not (is_some (own_bytes t.unit (kept_of (stood_by t pass).goals) o.slot)) || was_published (seen_by pass) o.file) t.unit.own
    (λ at o is. put_or_none (is_some (own_bytes t.unit (kept_of (stood_by t pass).goals) o.slot)) (was_published (seen_by pass) o.file) (λ some. one at o is some))
  where
    one : (at : ℕ) (o : OwnFile) → slice_get t.unit.own at ≡ Some o → is_some (own_bytes t.unit (kept_of (stood_by t pass).goals) o.slot) ≡ true → was_published (seen_by pass) o.file ≡ true
    one at o is some =
        let put = each at (Rattle.crew_modules.proofs.Owns.place_low t.unit.own at o is) (ap is_some (bytes_at t own at o is ∙ ap (λ kept. own_bytes t.unit kept o.slot) same) ∙ some) in
        subst (λ found. IfSome (option_map (λ (x : OwnFile). x.file) found) (λ file. was_published (seen_by pass) file ≡ true)) is put

-- so many are put, each where there are bytes for it
pub record ArePut {A : Type 0} (contents : A → Option Contents) (faults : A → ℕ) (pieces : A → Pieces) (t : ModuleTask) (lock : TableId) (own : List OwnBytes) (count : ℕ) (before pass : Told) (area left : A) : Type 0 where
  pub has : HasPut contents faults pieces t lock before pass area left None
  pub at : IsInstalling t count pass
  pub puts : (i : ℕ) → i < count → IsPut t own i pass
  pub within : count ≤ length t.unit.own

-- at first none is
pub none_put : {A : Type 0} (contents : A → Option Contents) (faults : A → ℕ) (pieces : A → Pieces) (t : ModuleTask) (lock : TableId) (own : List OwnBytes) (pass : Told) (area : A) → IsOf t.plan lock t.worker pass → IsInstalling t 0 pass
    → ArePut contents faults pieces t lock own 0 pass pass area area
none_put contents faults pieces t lock own pass area of at = record {
  has = put_once contents faults pieces t lock pass pass area area None (goes_itself t lock pass of) (area_same contents faults pieces area) (λ remote gate fit. fit);
  at = at;
  puts = λ i low. absurd (omega (arith, low));
  within = omega arith;
}

-- one more in order
less_or_last : (i count : ℕ) → i < count + 1 → (i < count) ⊎ (i ≡ count)
less_or_last i count low = by (Rattle.scripts.proofs.Dues.below_or_not i count)
  where
    by : (i < count) ⊎ (count ≤ i) → (i < count) ⊎ (i ≡ count)
    by (inl less) = inl less
    by (inr more) = inr (omega (arith, more, low))

pub puts_more : (t : ModuleTask) (own : List OwnBytes) (count : ℕ) (before pass : Told) → Follows before pass → ((i : ℕ) → i < count → IsPut t own i before) → IsPut t own count pass → (i : ℕ) → i < count + 1 → IsPut t own i pass
puts_more t own count before pass follows each last i low = by (less_or_last i count low)
  where
    by : (i < count) ⊎ (i ≡ count) → IsPut t own i pass
    by (inl less) = put_later t own i before pass follows (each i less)
    by (inr same) = subst (λ k. IsPut t own k pass) (sym same) last
