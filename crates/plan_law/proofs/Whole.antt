-- The plan of modules in the order of the build is sound.
use Rattle.std.proofs.Common.{◌≡◌, ◌<◌, ◌≤◌, ◌+◌, ℕ, zero, suc, Bool, true, false, List, [], ◌∷◌, find, flat_map, get_or, length, map, slice_get, Option, Some, None, Ok, Err, is_ok, codes, nat_lt, ltb-false, if◌then◌else◌, refl, sym, ap, subst, ◌∙◌, arith, le_of_eq}
use Rattle.std.proofs.lemmas.Bool.{false≢true, true≢false}
use Rattle.mvn_shared.specs.Files.{Files}
use Rattle.mvn_base.specs.Gav.{lock_name}
use Rattle.mvn_base.specs.declared.gav.Gav.{Gav}
use Rattle.mvn_base.specs.declared.phase.Phase.{Phase}
use Rattle.mvn_base.specs.Apart.{IsFileOf}
use Rattle.mvn_base.proofs.Coordinates.{one_of_a_file}
use Rattle.classpaths.specs.Classpaths.{files_of as winner_files}
use Rattle.classpaths.specs.declared.resolution.Resolved.{Resolved}
use Rattle.build_core.specs.declared.plan.PlanModule.{PlanModule}
use Rattle.scripts.specs.Bounds.{total}
use Rattle.scripts.specs.Outlines.{is_listed, module_outline, outline_of}
use Rattle.event_core.specs.Sound.{IsSound, IsSoundModule}
use Rattle.event_core.specs.SoundPlans.{IsSoundPlan, IsSoundPlanModule, greatest_events, is_own, same_text}
use Rattle.module_plan.specs.Numbers.{fetch_locks, number_of, numbers_of, plan_files, plan_names}
use Rattle.module_plan.specs.Plans.{IsNumbered, all_events, events_of, is_present, module_of, most_events, numbered, plan_modules, plan_with, planned_with, present_in, root_id}
use Rattle.module_plan.specs.Uses.{calls, fetched_locks, gavs, is_selected, used}
use Rattle.module_plan.specs.declared.selected.SelectedModule.{SelectedModule}
use Rattle.module_plan.specs.declared.selected.Planned.{Planned}
use Rattle.pom_source.specs.Answers.{Built}
use Rattle.pom_source.specs.Refusals.{text_refused}
use Rattle.mvn_base.specs.declared.rule.Rule.TheVariants.{GraphTooLarge}
use Rattle.run_law.specs.Given.{IsPresent}
use Rattle.plan_law.specs.Ready.{AreOrdered}
use Rattle.plan_law.proofs.FileNames.{file_of_winner, in_fetched, lock_in, used_in}
use Rattle.plan_law.proofs.Members.{IsIn, at_in, at_map, distinct_of, find_in, finds, from_flat, in_flat}
use Rattle.plan_law.proofs.Modules.{batch_below, batch_climbs, fetch_below, own_below, own_lock_below, planned, reads_below, sound_module}
use Rattle.plan_law.proofs.Numbered.{IsFetch, IsOwn, fetch_file, fetch_of, files_apart, its_own, listed_name, name_listed, names_climb, own_of, same_number}
use Rattle.plan_law.proofs.Texts.{in_ascending, text_same}

length_same : {A B : Type 0} (f : A → B) (xs : List A) → length (map f xs) ≡ length xs
length_same f [] = refl
length_same f (x ∷ xs) = ap suc (length_same f xs)

-- the bound of events is their sum
pub events_sum : (modules : List PlanModule) → all_events modules ≡ total greatest_events modules
events_sum [] = refl
events_sum (m ∷ modules) = ap (λ n. events_of m + n) (events_sum modules)

-- which files are there
pub present_at : (local : Files) (files : List (List ℕ)) (file : ℕ) → file < length files → get_or (map (is_present local) files) file false ≡ is_present local (get_or files file [])
present_at local [] file low = absurd (never file low)
  where
    never : (file : ℕ) → file < 0 → ⊥
    never file low = omega (arith, low)
present_at local (f ∷ files) zero low = refl
present_at local (f ∷ files) (suc file) low = present_at local files file (omega (arith, low))

module _ (phase : Phase) (workers : ℕ) (present : List Bool) (modules : List SelectedModule) (each_file : length present ≡ length (plan_files phase modules)) (ordered : AreOrdered workers modules) where
  -- the module that is planned at a place
  at_place : (number : ℕ) (p : PlanModule) → slice_get (plan_modules phase modules) number ≡ Some p → (m : SelectedModule) × (slice_get modules number ≡ Some m) × (planned phase modules m ≡ p)
  at_place number p at = at_map (module_of phase (gavs modules) (plan_names phase modules) (plan_files phase modules)) modules number p at

  sound_at : (number : ℕ) (m : SelectedModule) → slice_get modules number ≡ Some m → IsSoundPlanModule (planned phase modules m)
  sound_at number m at = sound_module phase modules m (at_in modules number m at) number (ordered.placed number m at)

  modules_sound : (number : ℕ) (p : PlanModule) → slice_get (plan_modules phase modules) number ≡ Some p → IsSoundPlanModule p
  modules_sound number p at = let found = at_place number p at in subst IsSoundPlanModule found.2 (sound_at number found.0 found.1)

  -- ---- places are in range

  place_sound : (number : ℕ) (m : SelectedModule) → slice_get modules number ≡ Some m → IsSoundModule (outline_of (plan_with phase workers present modules)) number (module_outline (planned phase modules m))
  unfolding plan_with module_of
  place_sound number m at = let there = at_in modules number m at in record {
    upstream = (ordered.placed number m at).before;
    batch = batch_climbs phase modules m there;
    names = batch_below phase modules m there;
    fetch = rw each_file (fetch_below phase modules m there);
    reads = reads_below (planned phase modules m) (length present) (sound_at number m at) (rw each_file (fetch_below phase modules m there));
    own = rw each_file (own_below phase modules m there);
    own_name = own_lock_below phase modules m there;
  }

  places_sound : IsSound (outline_of (plan_with phase workers present modules))
  unfolding plan_with
  places_sound number o at =
      let one = at_map module_outline (plan_modules phase modules) number o at in
      let found = at_place number one.0 one.1 in
      subst (IsSoundModule (outline_of (plan_with phase workers present modules)) number) (ap module_outline found.2 ∙ one.2) (place_sound number found.0 found.1)

  -- ---- a file that is fetched has one lock

  abbrev covers : ℕ → Resolved → Bool
  covers file w = is_listed file (numbers_of (plan_files phase modules) (winner_files (is_selected (gavs modules)) w))

  abbrev all_used : List Resolved
  all_used = flat_map (used phase) modules

  fetch_covers : (file : ℕ) (m : SelectedModule) (fetch : IsFetch phase modules m file) → covers file fetch.winner ≡ true
  fetch_covers file m fetch = subst (λ n. is_listed n (numbers_of (plan_files phase modules) (winner_files (is_selected (gavs modules)) fetch.winner)) ≡ true) fetch.number
      (name_listed (plan_files phase modules) (winner_files (is_selected (gavs modules)) fetch.winner) fetch.name fetch.among)

  -- a winner that has the file, and each module's that fetches it, are of one coordinate
  one_winner : (file : ℕ) (w : Resolved) (m : SelectedModule) → IsIn all_used w → covers file w ≡ true → (fetch : IsFetch phase modules m file) → fetch.winner.gav ≡ w.gav
  one_winner file w m there is fetch =
      let first = from_flat (used phase) modules w there in
      let named = listed_name (plan_files phase modules) (winner_files (is_selected (gavs modules)) w) file is in
      let names = (used_in (calls phase first.0) first.0.resolution.winners w first.2).1 in
      let inside = fetch_file phase modules first.0 first.1 named.0 (in_fetched (gavs modules) (used phase first.0) w named.0 first.2 named.1) in
      let same = same_number (plan_files phase modules) fetch.name named.0 fetch.listed inside (fetch.number ∙ sym named.2) in
      one_of_a_file named.0 fetch.winner.gav w.gav (subst (λ n. IsFileOf fetch.winner.gav n) same fetch.file_of) (file_of_winner (gavs modules) w named.0 names named.1)

  lock_listed : (m : SelectedModule) (w : Resolved) → IsIn (used phase m) w → is_selected (gavs modules) w.gav ≡ false
      → is_listed (number_of (plan_names phase modules) (lock_name w.gav)) (numbers_of (plan_names phase modules) (fetch_locks phase (gavs modules) m)) ≡ true
  lock_listed m w inside free = name_listed (plan_names phase modules) (fetch_locks phase (gavs modules) m) (lock_name w.gav)
      (in_ascending (fetched_locks (gavs modules) (used phase m)) (lock_name w.gav) (lock_in (gavs modules) (used phase m) w inside free))

  abbrev IsCovered : ℕ → ℕ → Type 0
  IsCovered file name = (number : ℕ) (p : PlanModule) → slice_get (plan_modules phase modules) number ≡ Some p → is_listed file p.fetch ≡ true → is_listed name p.batch ≡ true

  fetch_at : (file number : ℕ) (m : SelectedModule) → slice_get modules number ≡ Some m → is_listed file (planned phase modules m).fetch ≡ true → IsFetch phase modules m file
  unfolding module_of
  fetch_at file number m at is = fetch_of phase modules m file (at_in modules number m at) is

  not_covered : (file : ℕ) → find (covers file) all_used ≡ None → (number : ℕ) (m : SelectedModule) → slice_get modules number ≡ Some m → is_listed file (planned phase modules m).fetch ≡ true → ⊥
  not_covered file none number m at is =
      let fetch = fetch_at file number m at is in
      finds (covers file) all_used fetch.winner (in_flat (used phase) modules m fetch.winner (at_in modules number m at) fetch.inside) (fetch_covers file m fetch) none

  is_covered : (file : ℕ) (w : Resolved) → find (covers file) all_used ≡ Some w → (number : ℕ) (m : SelectedModule) → slice_get modules number ≡ Some m → is_listed file (planned phase modules m).fetch ≡ true
      → is_listed (number_of (plan_names phase modules) (lock_name w.gav)) (planned phase modules m).batch ≡ true
  unfolding module_of
  is_covered file w some number m at is =
      let fetch = fetch_at file number m at is in
      let found = find_in (covers file) all_used w some in
      let same = one_winner file w m found.0 found.1 fetch in
      subst (λ (g : Gav). is_listed (number_of (plan_names phase modules) (lock_name g)) (numbers_of (plan_names phase modules) (fetch_locks phase (gavs modules) m)) ≡ true) same
      (lock_listed m fetch.winner fetch.inside fetch.free)

  covered : (file : ℕ) → (name : ℕ) × IsCovered file name
  covered file = by (find (covers file) all_used) refl
    where
      by : (o : Option Resolved) → find (covers file) all_used ≡ o → (name : ℕ) × IsCovered file name
      by None none = (
        0,
        λ number p at is. let found = at_place number p at in
            absurd (not_covered file none number found.0 found.1 (subst (λ (q : PlanModule). is_listed file q.fetch ≡ true) (sym found.2) is)),
      )
      by (Some w) some = (
        number_of (plan_names phase modules) (lock_name w.gav),
        λ number p at is. let found = at_place number p at in
            subst (λ (q : PlanModule). is_listed (number_of (plan_names phase modules) (lock_name w.gav)) q.batch ≡ true) found.2
            (is_covered file w some number found.0 found.1 (subst (λ (q : PlanModule). is_listed file q.fetch ≡ true) (sym found.2) is)),
      )

  -- ---- an own file has one owner, and isn't fetched

  own_at : (file number : ℕ) (m : SelectedModule) → slice_get modules number ≡ Some m → is_own file (planned phase modules m) ≡ true → IsOwn phase modules m file
  unfolding module_of
  own_at file number m at is = own_of phase modules m file (at_in modules number m at) (ordered.placed number m at).named is

  never_both : (file a b : ℕ) (m n : SelectedModule) → slice_get modules a ≡ Some m → slice_get modules b ≡ Some n → is_own file (planned phase modules m) ≡ true → is_listed file (planned phase modules n).fetch ≡ true → ⊥
  never_both file a b m n p q owns fetches =
      let own = own_at file a m p owns in
      let fetch = fetch_at file b n q fetches in
      let same = same_number (plan_files phase modules) fetch.name own.name fetch.listed own.listed (fetch.number ∙ sym own.number) in
      let one = one_of_a_file own.name m.model.gav fetch.winner.gav own.file_of (subst (λ x. IsFileOf fetch.winner.gav x) same fetch.file_of) in
      true≢false (sym (its_own phase modules m (at_in modules a m p)) ∙ ap (is_selected (gavs modules)) one ∙ fetch.free)

  never_fetched : (file a b : ℕ) (m n : PlanModule) → slice_get (plan_modules phase modules) a ≡ Some m → slice_get (plan_modules phase modules) b ≡ Some n → is_own file m ≡ true → is_listed file n.fetch ≡ false
  never_fetched file a b m n p q owns = by (is_listed file n.fetch) refl
    where
      by : (t : Bool) → is_listed file n.fetch ≡ t → t ≡ false
      by true e = let one = at_place a m p in let other = at_place b n q in
          absurd (never_both file a b one.0 other.0 one.1 other.1 (subst (λ (x : PlanModule). is_own file x ≡ true) (sym one.2) owns) (subst (λ (x : PlanModule). is_listed file x.fetch ≡ true) (sym other.2) e))
      by false e = refl

  owner_at : (file a b : ℕ) (m n : SelectedModule) → slice_get modules a ≡ Some m → slice_get modules b ≡ Some n → is_own file (planned phase modules m) ≡ true → is_own file (planned phase modules n) ≡ true → a ≡ b
  owner_at file a b m n p q owns other =
      let one = own_at file a m p owns in
      let two = own_at file b n q other in
      let same = same_number (plan_files phase modules) one.name two.name one.listed two.listed (one.number ∙ sym two.number) in
      ordered.apart a b m n p q (one_of_a_file two.name m.model.gav n.model.gav (subst (λ x. IsFileOf m.model.gav x) same one.file_of) two.file_of)

  one_owner_of : (file a b : ℕ) (m n : PlanModule) → slice_get (plan_modules phase modules) a ≡ Some m → slice_get (plan_modules phase modules) b ≡ Some n → is_own file m ≡ true → is_own file n ≡ true → a ≡ b
  one_owner_of file a b m n p q owns other = let one = at_place a m p in let two = at_place b n q in
      owner_at file a b one.0 two.0 one.1 two.1 (subst (λ (x : PlanModule). is_own file x ≡ true) (sym one.2) owns) (subst (λ (x : PlanModule). is_own file x ≡ true) (sym two.2) other)

  -- ---- the whole

  pub sound_plan : IsSoundPlan (plan_with phase workers present modules)
  unfolding plan_with
  sound_plan = record {
    places = places_sound;
    workers = ordered.few;
    names = names_climb phase modules;
    files = distinct_of same_text text_same (plan_files phase modules) (files_apart phase modules);
    present = each_file;
    modules = modules_sound;
    cover = covered;
    not_fetched = never_fetched;
    one_owner = one_owner_of;
    events = le_of_eq (sym (events_sum (plan_modules phase modules)));
  }

-- ---- what is numbered

small : (a b : ℕ) → nat_lt a b ≡ false → b ≤ a
small a b e = ltb-false a b e

-- the plan that isn't refused
not_refused : (b : Bool) (p q : Planned) → (if b then Err (text_refused root_id GraphTooLarge (codes "events")) else Ok p) ≡ Ok q → (b ≡ false) × (p ≡ q)
not_refused true p q e = absurd (false≢true (ap is_ok e))
not_refused false p q e = (refl, ap (λ r. unwrap_ok r p) e)
  where
    unwrap_ok : Built Planned → Planned → Planned
    unwrap_ok (Ok x) d = x
    unwrap_ok (Err x) d = d

module _ (phase : Phase) (workers : ℕ) (local : Files) (modules : List SelectedModule) (p : Planned) (is : numbered phase workers local modules ≡ Ok p) where
  abbrev whole : Planned
  whole = planned_with phase workers (present_in local (plan_files phase modules)) modules

  taken : (nat_lt most_events (all_events (plan_modules phase modules)) ≡ false) × (whole ≡ p)
  taken = not_refused (nat_lt most_events (all_events (plan_modules phase modules))) whole p is

  pub is_numbered : IsNumbered phase workers modules p
  unfolding plan_with
  is_numbered = record {
    present = present_in local (plan_files phase modules);
    each = length_same (is_present local) (plan_files phase modules);
    is = sym taken.1;
    few = subst (λ (q : Planned). q.plan.events ≤ most_events) taken.1 (small most_events (all_events (plan_modules phase modules)) taken.0);
  }

  pub is_there_at : IsPresent p.plan local
  unfolding plan_with
  is_there_at = subst (λ (q : Planned). IsPresent q.plan local) taken.1 (present_at local (plan_files phase modules))

pub sound_numbered : (phase : Phase) (workers : ℕ) (modules : List SelectedModule) (p : Planned) → IsNumbered phase workers modules p → AreOrdered workers modules → IsSoundPlan p.plan
sound_numbered phase workers modules p numbered ordered = subst (λ (q : Planned). IsSoundPlan q.plan) (sym numbered.is) (sound_plan phase workers numbered.present modules numbered.each ordered)

pub events_numbered : (phase : Phase) (workers : ℕ) (modules : List SelectedModule) (p : Planned) → IsNumbered phase workers modules p → p.plan.events ≡ total greatest_events p.plan.modules
unfolding plan_with
events_numbered phase workers modules p numbered = subst (λ (q : Planned). q.plan.events ≡ total greatest_events q.plan.modules) (sym numbered.is) (events_sum (plan_modules phase modules))
