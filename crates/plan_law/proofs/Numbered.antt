-- The numbers of a plan: what they are of, and that they are in range.
use Rattle.std.proofs.Common.{◌≡◌, inl, inr, ◌<◌, ℕ, true, false, List, [], flat_map, length, map, nat_lt, refl, ap, subst, ◌∙◌, lt-ltb}
use Rattle.std.specs.Str.{bytes_eq}
use Rattle.std.proofs.lemmas.Slice.Eq.{bytes_eq-Decides}
use Rattle.mvn_base.specs.Gav.{gav_eq, lock_name}
use Rattle.mvn_base.specs.FileName.{IsValid}
use Rattle.mvn_base.specs.declared.gav.Gav.{Gav}
use Rattle.mvn_base.specs.declared.phase.Phase.{Phase}
use Rattle.mvn_base.specs.Apart.{IsFileOf}
use Rattle.classpaths.specs.Classpaths.{files_of as winner_files}
use Rattle.classpaths.specs.declared.resolution.Resolved.{Resolved}
use Rattle.build_core.specs.declared.plan.OwnFile.{OwnFile}
use Rattle.scripts.specs.Outlines.{is_listed}
use Rattle.event_core.specs.Sound.{are_below}
use Rattle.event_core.specs.SoundPlans.{TextsClimb}
use Rattle.module_plan.specs.Numbers.{fetch_locks, fetch_names, files_of, locks_of, number_of, numbers_of, own_names, plan_files, plan_names}
use Rattle.module_plan.specs.Outputs.{outputs}
use Rattle.module_plan.specs.Plans.{own_file}
use Rattle.module_plan.specs.Uses.{calls, gavs, is_selected, used}
use Rattle.module_plan.specs.declared.selected.SelectedModule.{SelectedModule}
use Rattle.plan_law.proofs.FileNames.{fetched_from, file_of_winner, name_of, output_of, used_in}
use Rattle.plan_law.proofs.Gavs.{gav_decides}
use Rattle.plan_law.proofs.Members.{Apart, IsIn, all_pass, from_map, in_flat, in_left, in_listed, in_map, in_right, listed_in, some_passes}
use Rattle.plan_law.proofs.Places.{one_place, place_below}
use Rattle.plan_law.proofs.Texts.{ascending_climb, fold_apart, in_ascending, in_fold}

-- ---- numbers of texts

pub number_below : (list : List (List ℕ)) (x : List ℕ) → IsIn list x → number_of list x < length list
number_below list x there = place_below bytes_eq bytes_eq-Decides list x there

pub same_number : (list : List (List ℕ)) (x y : List ℕ) → IsIn list x → IsIn list y → number_of list x ≡ number_of list y → x ≡ y
same_number list x y a b e = one_place bytes_eq bytes_eq-Decides list x y a b e

pub all_below : (list some : List (List ℕ)) → ((x : List ℕ) → IsIn some x → IsIn list x) → are_below (length list) (numbers_of list some) ≡ true
all_below list some inside = all_pass (λ n. nat_lt n (length list)) (numbers_of list some) each
  where
    each : (n : ℕ) → IsIn (numbers_of list some) n → nat_lt n (length list) ≡ true
    each n there = let found = from_map (number_of list) some n there in
        subst (λ k. nat_lt k (length list) ≡ true) found.2 (lt-ltb (number_of list found.0) (length list) (number_below list found.0 (inside found.0 found.1)))

pub listed_name : (list some : List (List ℕ)) (n : ℕ) → is_listed n (numbers_of list some) ≡ true → (x : List ℕ) × IsIn some x × (number_of list x ≡ n)
listed_name list some n is = from_map (number_of list) some n (listed_in n (numbers_of list some) is)

pub name_listed : (list some : List (List ℕ)) (x : List ℕ) → IsIn some x → is_listed (number_of list x) (numbers_of list some) ≡ true
name_listed list some x there = in_listed (number_of list x) (numbers_of list some) (in_map (number_of list) some x there)

-- ---- the names and files of all modules

pub names_climb : (phase : Phase) (modules : List SelectedModule) → TextsClimb (plan_names phase modules)
unfolding plan_names
names_climb phase modules = ascending_climb (flat_map (locks_of phase (gavs modules)) modules)

pub files_apart : (phase : Phase) (modules : List SelectedModule) → Apart (plan_files phase modules)
unfolding plan_files
files_apart phase modules = fold_apart [] (flat_map (files_of phase (gavs modules)) modules) (record {})

pub fetch_apart : (phase : Phase) (built : List Gav) (m : SelectedModule) → Apart (fetch_names phase built m)
fetch_apart phase built m = fold_apart [] (flat_map (winner_files (is_selected built)) (used phase m)) (record {})

module _ (phase : Phase) (modules : List SelectedModule) (m : SelectedModule) (there : IsIn modules m) where
  pub own_lock : IsIn (plan_names phase modules) (lock_name m.model.gav)
  unfolding plan_names
  own_lock = in_ascending (flat_map (locks_of phase (gavs modules)) modules) (lock_name m.model.gav) (in_flat (locks_of phase (gavs modules)) modules m (lock_name m.model.gav) there (inl refl))

  pub fetch_lock : (l : List ℕ) → IsIn (fetch_locks phase (gavs modules) m) l → IsIn (plan_names phase modules) l
  unfolding plan_names
  fetch_lock l h = in_ascending (flat_map (locks_of phase (gavs modules)) modules) l (in_flat (locks_of phase (gavs modules)) modules m l there (inr h))

  pub fetch_file : (n : List ℕ) → IsIn (fetch_names phase (gavs modules) m) n → IsIn (plan_files phase modules) n
  unfolding plan_files
  fetch_file n h = in_fold [] (flat_map (files_of phase (gavs modules)) modules) n (in_flat (files_of phase (gavs modules)) modules m n there (in_left (fetch_names phase (gavs modules) m) (own_names m) n h))

  pub own_name : (n : List ℕ) → IsIn (own_names m) n → IsIn (plan_files phase modules) n
  unfolding plan_files
  own_name n h = in_fold [] (flat_map (files_of phase (gavs modules)) modules) n (in_flat (files_of phase (gavs modules)) modules m n there (in_right (fetch_names phase (gavs modules) m) (own_names m) n h))

  pub its_own : is_selected (gavs modules) m.model.gav ≡ true
  its_own = some_passes (gav_eq m.model.gav) (gavs modules) m.model.gav (in_map (λ (m : SelectedModule). m.model.gav) modules m there) ((gav_decides m.model.gav m.model.gav).1 refl)

-- ---- a file that is fetched for a module, by its number

pub record IsFetch (phase : Phase) (modules : List SelectedModule) (m : SelectedModule) (file : ℕ) : Type 0 where
  pub name : List ℕ
  pub winner : Resolved
  pub inside : IsIn (used phase m) winner
  pub free : is_selected (gavs modules) winner.gav ≡ false
  pub among : IsIn (winner_files (is_selected (gavs modules)) winner) name
  pub file_of : IsFileOf winner.gav name
  pub number : number_of (plan_files phase modules) name ≡ file
  pub listed : IsIn (plan_files phase modules) name

pub fetch_of : (phase : Phase) (modules : List SelectedModule) (m : SelectedModule) (file : ℕ) → IsIn modules m → is_listed file (numbers_of (plan_files phase modules) (fetch_names phase (gavs modules) m)) ≡ true → IsFetch phase modules m file
fetch_of phase modules m file there is =
    let found = listed_name (plan_files phase modules) (fetch_names phase (gavs modules) m) file is in
    let from = fetched_from (gavs modules) (used phase m) found.0 found.1 in
    record {
      name = found.0;
      winner = from.winner;
      inside = from.inside;
      free = from.free;
      among = from.among;
      file_of = file_of_winner (gavs modules) from.winner found.0 (used_in (calls phase m) m.resolution.winners from.winner from.inside).1 from.among;
      number = found.2;
      listed = fetch_file phase modules m there found.0 found.1;
    }

-- ---- a file that a module is installed as, by its number

pub record IsOwn (phase : Phase) (modules : List SelectedModule) (m : SelectedModule) (file : ℕ) : Type 0 where
  pub name : List ℕ
  pub file_of : IsFileOf m.model.gav name
  pub number : number_of (plan_files phase modules) name ≡ file
  pub listed : IsIn (plan_files phase modules) name

pub own_of : (phase : Phase) (modules : List SelectedModule) (m : SelectedModule) (file : ℕ) → IsIn modules m → IsValid m.model.gav
    → is_listed file (map (λ (o : OwnFile). o.file) (map (own_file (plan_files phase modules)) (outputs m.model))) ≡ true → IsOwn phase modules m file
own_of phase modules m file there valid is =
    let one = from_map (λ (o : OwnFile). o.file) (map (own_file (plan_files phase modules)) (outputs m.model)) file (listed_in file (map (λ (o : OwnFile). o.file) (map (own_file (plan_files phase modules)) (outputs m.model))) is) in
    let found = from_map (own_file (plan_files phase modules)) (outputs m.model) one.0 one.1 in
    record {
      name = found.0.name;
      file_of = output_of m.model valid found.0 found.1;
      number = ap (λ (o : OwnFile). o.file) found.2 ∙ one.2;
      listed = own_name phase modules m there found.0.name (in_map name_of (outputs m.model) found.0 found.1);
    }
