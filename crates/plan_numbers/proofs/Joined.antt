-- The plan of modules that were made ready is that of the modules.
use Rattle.std.proofs.Common.{◌≡◌, ℕ, ◌+◌, ◌*◌, nat_lt, List, [], ◌∷◌, ◌++◌, length, flat_map, fold, map, Option, Some, None, refl, sym, ap, ◌∙◌, if◌then◌else◌}
use Rattle.std.proofs.lemmas.List.{length-map}
use Rattle.mvn_base.specs.declared.gav.Gav.{Gav}
use Rattle.mvn_base.specs.declared.phase.Phase.{Phase}
use Rattle.classpaths.specs.Classpaths.{with_name}
use Rattle.module_plan.specs.Numbers.{ascending, fetch_locks, fetch_names, number_of, numbers_of, plan_files, plan_names}
use Rattle.module_plan.specs.Outputs.{outputs}
use Rattle.module_plan.specs.Parts.{parts_of}
use Rattle.module_plan.specs.Plans.{all_events, events_of, module_of, most_events, own_file, plan_modules}
use Rattle.module_plan.specs.Ready.{all_ready_events, files_in, module_with, ready, ready_events, ready_files, ready_locks, ready_names}
use Rattle.module_plan.specs.Uses.{calls, gavs}
use Rattle.plan_numbers.specs.Whole.{all_parts, counted, numbered_few, numbered_if, numbered_of, numbered_with}
use Rattle.plan_numbers.proofs.Counting.{none_is, some_is}
use Rattle.module_plan.specs.declared.parts.Parts.{Parts}
use Rattle.module_plan.specs.declared.ready.Ready.{Ready}
use Rattle.plan_numbers.specs.declared.whole.Numbered.{Numbered}
use Rattle.module_plan.specs.declared.selected.SelectedModule.{SelectedModule}

mapped : {A B C : Type 0} (f : B → List C) (g : A → B) (xs : List A) → flat_map f (map g xs) ≡ flat_map (λ x. f (g x)) xs
mapped f g [] = refl
mapped f g (x ∷ xs) = ap (λ l. f (g x) ++ l) (mapped f g xs)

-- its names
pub names_are : (phase : Phase) (modules : List SelectedModule) → ready_names (map (ready phase (gavs modules)) modules) ≡ plan_names phase modules
unfolding plan_names
names_are phase modules = ap ascending (mapped ready_locks (ready phase (gavs modules)) modules)

-- its files
pub files_are : (phase : Phase) (modules : List SelectedModule) → ready_files (map (ready phase (gavs modules)) modules) ≡ plan_files phase modules
unfolding plan_files
files_are phase modules = ap (fold with_name []) (mapped files_in (ready phase (gavs modules)) modules)

-- and its modules
each_is : (phase : Phase) (built : List Gav) (names files : List (List ℕ)) (modules : List SelectedModule)
    → parts_of built names files (map (ready phase built) modules) ≡ record (all_parts phase modules) { modules = map (module_of phase built names files) modules }
unfolding module_with module_of
each_is phase built names files [] = refl
each_is phase built names files (m ∷ modules) =
    ap (λ (p : Parts). record {
      modules = module_of phase built names files m ∷ p.modules;
      models = m.model ∷ p.models;
      resolutions = m.resolution ∷ p.resolutions;
      unbound = (ready phase built m).goals.unbound ∷ p.unbound;
    }) (each_is phase built names files modules)

pub parts_are : (phase : Phase) (modules : List SelectedModule)
    → parts_of (gavs modules) (plan_names phase modules) (plan_files phase modules) (map (ready phase (gavs modules)) modules) ≡ all_parts phase modules
parts_are phase modules = each_is phase (gavs modules) (plan_names phase modules) (plan_files phase modules) modules

-- so what was made of modules that are ready is all of it
numbered_is : (phase : Phase) (modules : List SelectedModule) (built : List Gav) (rs : List Ready) (events : ℕ)
    → built ≡ gavs modules → rs ≡ map (ready phase built) modules → events ≡ all_events (plan_modules phase modules)
    → numbered_with built rs events ≡ numbered_of phase modules
numbered_is phase modules built rs events b r e =
    let all : rs ≡ map (ready phase (gavs modules)) modules = r ∙ ap (λ (g : List Gav). map (ready phase g) modules) b in
    let ns : ready_names rs ≡ plan_names phase modules = ap ready_names all ∙ names_are phase modules in
    let fs : ready_files rs ≡ plan_files phase modules = ap ready_files all ∙ files_are phase modules in
    let ps : parts_of built (ready_names rs) (ready_files rs) rs ≡ all_parts phase modules =
    ap (λ (g : List Gav). parts_of g (ready_names rs) (ready_files rs) rs) b
    ∙ ap (λ (l : List (List ℕ)). parts_of (gavs modules) l (ready_files rs) rs) ns
    ∙ ap (λ (l : List (List ℕ)). parts_of (gavs modules) (plan_names phase modules) l rs) fs
    ∙ ap (λ (l : List Ready). parts_of (gavs modules) (plan_names phase modules) (plan_files phase modules) l) all
    ∙ parts_are phase modules in
    λ i. record { names = ns i; files = fs i; parts = ps i; events = e i }

-- what was made step by step
pub put_together : (built : List Gav) (rs : List Ready) (names files : List (List ℕ)) (parts : Parts) (events : ℕ)
    → names ≡ ready_names rs → files ≡ ready_files rs → parts ≡ parts_of built names files rs
    → ◌≡◌ {A = Numbered} (record { names = names; files = files; parts = parts; events = events }) (numbered_with built rs events)
put_together built rs names files parts events n f p =
    let ps : parts ≡ parts_of built (ready_names rs) (ready_files rs) rs =
    p ∙ ap (λ (l : List (List ℕ)). parts_of built l files rs) n ∙ ap (λ (l : List (List ℕ)). parts_of built (ready_names rs) l rs) f in
    λ i. record { names = n i; files = f i; parts = ps i; events = events }

-- ---- their events

-- a module has as many events as when it was made ready
module_events : (phase : Phase) (built : List Gav) (names files : List (List ℕ)) (m : SelectedModule) → events_of (module_of phase built names files m) ≡ ready_events (ready phase built m)
unfolding module_of
module_events phase built names files m =
    let locks : length (numbers_of names (fetch_locks phase built m)) ≡ length (fetch_locks phase built m) = length-map (fetch_locks phase built m) (number_of names) in
    let fetch : length (numbers_of files (fetch_names phase built m)) ≡ length (fetch_names phase built m) = length-map (fetch_names phase built m) (number_of files) in
    let own : length (map (own_file files) (outputs m.model)) ≡ length (outputs m.model) = length-map (outputs m.model) (own_file files) in
    λ i. 6 + 4 * locks i + 2 * fetch i + 2 * own i + length (calls phase m)

each_has : (phase : Phase) (built : List Gav) (names files : List (List ℕ)) (modules : List SelectedModule)
    → all_events (map (module_of phase built names files) modules) ≡ all_ready_events (map (ready phase built) modules)
each_has phase built names files [] = refl
each_has phase built names files (m ∷ modules) =
    let one : events_of (module_of phase built names files m) ≡ ready_events (ready phase built m) = module_events phase built names files m in
    let rest : all_events (map (module_of phase built names files) modules) ≡ all_ready_events (map (ready phase built) modules) = each_has phase built names files modules in
    λ i. one i + rest i

-- and so have all
events_are : (phase : Phase) (modules : List SelectedModule) (built : List Gav) (rs : List Ready)
    → built ≡ gavs modules → rs ≡ map (ready phase built) modules → all_ready_events rs ≡ all_events (plan_modules phase modules)
events_are phase modules built rs b r =
    ap all_ready_events (r ∙ ap (λ (g : List Gav). map (ready phase g) modules) b)
    ∙ sym (each_has phase (gavs modules) (plan_names phase modules) (plan_files phase modules) modules)

-- there are as many coordinates as modules
pub same_count : (phase : Phase) (modules : List SelectedModule) (built : List Gav) (rs : List Ready)
    → built ≡ gavs modules → rs ≡ map (ready phase built) modules → length built ≡ length rs
same_count phase modules built rs b r =
    let here : length (gavs modules) ≡ length modules = length-map modules (λ (m : SelectedModule). m.model.gav) in
    let there : length (map (ready phase built) modules) ≡ length modules = length-map modules (ready phase built) in
    ap length b ∙ here ∙ sym there ∙ sym (ap length r)

-- of modules that haven't too many events it is given
pub some_few : (built : List Gav) (rs : List Ready) (events : ℕ) (n : Numbered)
    → Some events ≡ counted (all_ready_events rs) → n ≡ numbered_with built rs events → Some n ≡ numbered_few built rs
some_few built rs events n c is =
    let all = all_ready_events rs in
    let few = some_is (nat_lt most_events all) all events c in
    let whole : n ≡ numbered_with built rs all = is ∙ ap (numbered_with built rs) few.1 in
    ap Some whole ∙ sym (ap (λ t. if t then None else Some (numbered_with built rs all)) few.0)

-- and of others nothing
pub none_few : (built : List Gav) (rs : List Ready) → None ≡ counted (all_ready_events rs) → None ≡ numbered_few built rs
none_few built rs c =
    let all = all_ready_events rs in
    sym (ap (λ t. if t then None else Some (numbered_with built rs all)) (none_is (nat_lt most_events all) all c))

-- so what was made of the modules made ready is that of the modules
pub given : (phase : Phase) (modules : List SelectedModule) (built : List Gav) (rs : List Ready) (n : Option Numbered)
    → built ≡ gavs modules → rs ≡ map (ready phase built) modules → n ≡ numbered_few built rs → n ≡ numbered_if phase modules
given phase modules built rs n b r is =
    let same : all_ready_events rs ≡ all_events (plan_modules phase modules) = events_are phase modules built rs b r in
    let all : numbered_with built rs (all_ready_events rs) ≡ numbered_of phase modules = numbered_is phase modules built rs (all_ready_events rs) b r same in
    let whole : numbered_few built rs ≡ numbered_if phase modules = λ i. if nat_lt most_events (same i) then None else Some (all i) in
    is ∙ whole
