-- What a build adds to a repository, name by name.
use Rattle.std.proofs.Common.{◌≡◌, ◌⊎◌, inl, inr, ◌<◌, ℕ, zero, suc, Contains, Bool, true, false, ◌&&◌, nat_le, get_or, length, List, [], ◌∷◌, map, slice_get, Option, Some, None, is_some, unwrap_or, refl, sym, ap, subst, ◌∙◌, if◌then◌else◌}
use Rattle.std.specs.Option.{option_and_then, option_or}
use Rattle.std.specs.Ordering.{eq_by_cmp, nat_cmp}
use Rattle.std.specs.Cmp.Lexicographic.{slice_cmp}
use Rattle.std.specs.Str.{bytes_eq}
use Rattle.std.proofs.lemmas.Bool.{false≢true}
use Rattle.std.proofs.lemmas.Slice.Eq.{bytes_eq-Decides}
use Rattle.mvn_shared.specs.Files.{Files, file_at}
use Rattle.mvn_base.specs.declared.gav.Gav.{Gav}
use Rattle.mvn_base.specs.declared.phase.Phase.{Phase}
use Rattle.mvn_base.specs.Apart.{IsFileOf}
use Rattle.model_types.specs.declared.model.Model.{Model}
use Rattle.build_core.specs.declared.plan.OwnFile.{OwnFile}
use Rattle.build_core.specs.declared.plan.Plan.{Plan}
use Rattle.build_core.specs.declared.plan.PlanModule.{PlanModule}
use Rattle.build_core.specs.OneThread.{Progress, Supply, is_built, most_fetched, name_of, one_thread, remote_bytes}
use Rattle.scripts.specs.Outlines.{is_listed}
use Rattle.event_core.specs.SoundPlans.{IsSoundPlan}
use Rattle.run_law.specs.Closed.{outputs_at, state_at}
use Rattle.run_law.specs.Given.{Answers, IsBetween, supply_by}
use Rattle.run_law.proofs.Carried.{same_name}
use Rattle.run_law.proofs.ClosedFiles.{IsLeft, own_at}
use Rattle.run_law.proofs.Contents.{module_or_not, name_or_not, sound_owns}
use Rattle.run_law.proofs.HandFiles.{hand_left}
use Rattle.run_law.proofs.Invariants.{IsFetchFile, IsOwnFile}
use Rattle.run_law.proofs.Sounds.{sound_fit}
use Rattle.run_law.proofs.Stored.{none_is}
use Rattle.module_plan.specs.Numbers.{plan_files, plan_names}
use Rattle.module_plan.specs.Plans.{module_of, plan_with, planned_with}
use Rattle.module_plan.specs.Uses.{gavs}
use Rattle.module_plan.specs.declared.selected.Planned.{Planned}
use Rattle.module_plan.specs.declared.selected.SelectedModule.{SelectedModule}
use Rattle.plan_law.specs.Ready.{AreOrdered}
use Rattle.plan_law.proofs.Members.{at_in, at_map, in_map, in_to}
use Rattle.plan_law.proofs.Modules.{planned}
use Rattle.plan_law.proofs.Numbered.{IsOwn, own_of}
use Rattle.plan_law.proofs.Places.{place_at}
use Rattle.cli_words.specs.declared.command_line.CommandLine.{CommandLine}
use Rattle.pom_source.specs.declared.found.Given.{Given}
use Rattle.build_plan.specs.Planning.{IsPlanned}
use Rattle.call_laws.specs.Reruns.{HasWorkers}
use Rattle.call_laws.proofs.Planned.{numbers as numbers_of_plan, ordered, sound as sound_of}
use Rattle.call_laws.specs.Grown.{IsGrown, MayHold, gavs_of}
use Rattle.call_laws.specs.Grown.MayHold.{as_before, fetched, installed}

-- what stands at a place is read there
read_at : (xs : List (List ℕ)) (k : ℕ) (x : List ℕ) → slice_get xs k ≡ Some x → get_or xs k [] ≡ x
read_at [] k x e = absurd (false≢true (ap is_some e))
read_at (y ∷ xs) zero x e = ap (λ o. unwrap_or o y) e
read_at (y ∷ xs) (suc k) x e = read_at xs k x e

-- what the remote gives is what it has
remote_is : (remote : Files) (name : List ℕ) → is_some (remote_bytes remote name) ≡ true → remote_bytes remote name ≡ file_at remote name
remote_is remote name = of (file_at remote name)
  where
    limited : (b : Bool) (bytes : List ℕ) → is_some (if b then Some bytes else None) ≡ true → (if b then Some bytes else None) ≡ Some bytes
    limited true bytes is = refl
    limited false bytes is = absurd (false≢true is)

    of : (o : Option (List ℕ)) → is_some (option_and_then (λ bytes. if nat_le (length bytes) most_fetched then Some bytes else None) o) ≡ true
        → option_and_then (λ bytes. if nat_le (length bytes) most_fetched then Some bytes else None) o ≡ o
    of None is = refl
    of (Some bytes) is = limited (nat_le (length bytes) most_fetched) bytes is

-- a plan whose own files are those of modules of some coordinates
module _ (plan : Plan) (sound : IsSoundPlan plan) (start remote : Files) (said : Answers) (built : List Gav)
    (owner : (number f : ℕ) (m : PlanModule) → slice_get plan.modules number ≡ Some m → is_listed f (map (λ (o : OwnFile). o.file) m.own) ≡ true
    → (gav : Gav) × Contains built gav × IsFileOf gav (name_of plan f)) where
  abbrev supply : Supply
  supply = supply_by start remote said

  abbrev ended : Progress
  ended = one_thread plan supply

  abbrev May : List ℕ → Option (List ℕ) → Type 0
  May = MayHold start remote built

  abbrev at_end : ℕ → Option (List ℕ)
  at_end f = file_at ended.files (name_of plan f)

  left : IsLeft plan supply (state_at ended) (outputs_at ended) ended.files
  left = hand_left plan supply (sound_fit plan sound) (sound_owns plan sound)

  -- a file that is fetched and there
  fetched_there : (f : ℕ) → IsFetchFile plan f → is_some (at_end f) ≡ true → (o : Option (List ℕ)) → file_at start (name_of plan f) ≡ o → May (name_of plan f) (at_end f)
  fetched_there f fetch is (Some bytes) e = as_before (left.bytes f fetch is ∙ ap (λ o. option_or o (remote_bytes remote (name_of plan f))) e ∙ sym e)
  fetched_there f fetch is None e =
      let same : at_end f ≡ remote_bytes remote (name_of plan f) = left.bytes f fetch is ∙ ap (λ o. option_or o (remote_bytes remote (name_of plan f))) e in
      fetched e (same ∙ remote_is remote (name_of plan f) (sym (ap is_some same) ∙ is))

  -- and one that isn't
  absent_before : (f : ℕ) → IsFetchFile plan f → is_some (at_end f) ≡ false → is_some (file_at start (name_of plan f)) ≡ false
  absent_before f fetch gone = by (is_some (file_at start (name_of plan f))) refl
    where
      by : (b : Bool) → is_some (file_at start (name_of plan f)) ≡ b → is_some (file_at start (name_of plan f)) ≡ false
      by false e = e
      by true e = absurd (false≢true (sym gone ∙ left.kept f fetch e))

  may_fetch : (f : ℕ) → IsFetchFile plan f → May (name_of plan f) (at_end f)
  may_fetch f fetch = by (is_some (at_end f)) refl
    where
      by : (b : Bool) → is_some (at_end f) ≡ b → May (name_of plan f) (at_end f)
      by true is = fetched_there f fetch is (file_at start (name_of plan f)) refl
      by false gone = as_before (none_is (at_end f) gone ∙ sym (none_is (file_at start (name_of plan f)) (absent_before f fetch gone)))

  -- a module's own file
  abbrev written : ℕ → ℕ → PlanModule → Option (List ℕ)
  written number f m = if is_built (state_at ended number) && m.installs then own_at m (outputs_at ended number) f else None

  may_own : (f : ℕ) → IsOwnFile plan f → May (name_of plan f) (at_end f)
  may_own f own = by (written own.0 f own.1) refl
    where
      so : (o : Option (List ℕ)) → written own.0 f own.1 ≡ o → at_end f ≡ option_or o (file_at start (name_of plan f))
      so o e = left.own own.0 f own.1 own.2 own.3 ∙ ap (λ o. option_or o (file_at start (name_of plan f))) e

      by : (o : Option (List ℕ)) → written own.0 f own.1 ≡ o → May (name_of plan f) (at_end f)
      by None e = as_before (so None e)
      by (Some bytes) e = let whose = owner own.0 f own.1 own.2 own.3 in installed whose.0 whose.1 whose.2 (ap is_some (so (Some bytes) e))

  may_file : (f : ℕ) → f < length plan.files → May (name_of plan f) (at_end f)
  may_file f low = by (module_or_not (λ m. is_listed f m.fetch) plan.modules) (module_or_not (λ m. is_listed f (map (λ (o : OwnFile). o.file) m.own)) plan.modules)
    where
      by : (IsFetchFile plan f) ⊎ (IsFetchFile plan f → ⊥) → (IsOwnFile plan f) ⊎ (IsOwnFile plan f → ⊥) → May (name_of plan f) (at_end f)
      by (inl fetch) any = may_fetch f fetch
      by (inr unfetched) (inl own) = may_own f own
      by (inr unfetched) (inr unowned) = as_before (left.neither f low unfetched unowned)

  may_name : (q : List ℕ) → May q (file_at ended.files q)
  may_name q = by (name_or_not q plan.files)
    where
      by : ((f : ℕ) × (f < length plan.files) × (eq_by_cmp (slice_cmp nat_cmp) q (name_of plan f) ≡ true)) ⊎ ((f : ℕ) → f < length plan.files → eq_by_cmp (slice_cmp nat_cmp) q (name_of plan f) ≡ false) → May q (file_at ended.files q)
      by (inl x) = subst (λ n. May n (file_at ended.files n)) (sym (same_name q (name_of plan x.0) x.2)) (may_file x.0 x.1)
      by (inr apart) = as_before (left.other q apart)

  grown_by : (files : Files) → IsBetween start ended.files files → IsGrown start remote built files
  grown_by files lies name = by (lies name)
    where
      by : (file_at files name ≡ file_at start name) ⊎ (file_at files name ≡ file_at ended.files name) → May name (file_at files name)
      by (inl e) = as_before e
      by (inr e) = subst (May name) (sym e) (may_name name)

-- the own files of a plan are those of its modules
module _ (phase : Phase) (workers : ℕ) (present : List Bool) (modules : List SelectedModule) (ordered : AreOrdered workers modules) where
  whose_own : (number f : ℕ) (s : SelectedModule) → slice_get modules number ≡ Some s → is_listed f (map (λ (o : OwnFile). o.file) (planned phase modules s).own) ≡ true → IsOwn phase modules s f
  unfolding module_of
  whose_own number f s at mine = own_of phase modules s f (at_in modules number s at) (ordered.placed number s at).named mine

  own_name_is : (f : ℕ) (s : SelectedModule) (own : IsOwn phase modules s f) → get_or (plan_files phase modules) f [] ≡ own.name
  own_name_is f s own =
      read_at (plan_files phase modules) f own.name
      (subst (λ k. slice_get (plan_files phase modules) k ≡ Some own.name) own.number (place_at bytes_eq bytes_eq-Decides (plan_files phase modules) own.name own.listed))

  owner_is : (number f : ℕ) (m : PlanModule) → slice_get (plan_with phase workers present modules).modules number ≡ Some m → is_listed f (map (λ (o : OwnFile). o.file) m.own) ≡ true
      → (gav : Gav) × Contains (gavs_of (planned_with phase workers present modules)) gav × IsFileOf gav (name_of (plan_with phase workers present modules) f)
  unfolding plan_with
  owner_is number f m at mine =
      let found = at_map (module_of phase (gavs modules) (plan_names phase modules) (plan_files phase modules)) modules number m at in
      let own = whose_own number f found.0 found.1 (subst (λ (p : PlanModule). is_listed f (map (λ (o : OwnFile). o.file) p.own) ≡ true) (sym found.2) mine) in (
        found.0.model.gav,
        in_to (map (λ (m : Model). m.gav) (map (λ (m : SelectedModule). m.model) modules)) found.0.model.gav
            (in_map (λ (m : Model). m.gav) (map (λ (m : SelectedModule). m.model) modules) found.0.model (in_map (λ (m : SelectedModule). m.model) modules found.0 (at_in modules number found.0 found.1))),
        subst (IsFileOf found.0.model.gav) (sym (own_name_is f found.0 own)) own.file_of,
      )

-- whatever a plan builds, files between its start and its end have grown so
pub grown : (tree start remote files : Files) (given : Given) (line : CommandLine) (p : Planned) (said : Answers) → HasWorkers line → IsPlanned tree start remote given line p
    → IsBetween start (one_thread p.plan (supply_by start remote said)).files files → IsGrown start remote (gavs_of p) files
grown tree start remote files given line p said few planned lies =
    let numbers = numbers_of_plan tree start remote given line p few planned in
    subst (λ (q : Planned). IsSoundPlan q.plan → IsBetween start (one_thread q.plan (supply_by start remote said)).files files → IsGrown start remote (gavs_of q) files) (sym numbers.is)
    (λ sound between. grown_by (plan_with line.phase line.workers numbers.present planned.modules) sound start remote said (gavs_of (planned_with line.phase line.workers numbers.present planned.modules))
    (owner_is line.phase line.workers numbers.present planned.modules (ordered tree start remote given line p few planned)) files between)
    (sound_of tree start remote given line p few planned) lies
