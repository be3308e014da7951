-- Modules whose events aren't too many: neither are their names and files.
use Rattle.std.proofs.Common.{◌≡◌, ℕ, suc, ◌+◌, ◌<◌, ◌≤◌, Bool, true, false, cond, nat_lt, List, [], ◌∷◌, ◌++◌, length, flat_map, fold, Some, None, refl, sym, ap, ◌∙◌, arith, if◌then◌else◌}
use Rattle.std.proofs.lemmas.Bool.{le-ltb, lt-ltb}
use Rattle.std.proofs.lemmas.List.{length-append, length-map}
use Rattle.std.specs.Cmp.Lexicographic.{slice_cmp, nat_list_cmp_total}
use Rattle.std.specs.FinMap.{len-empty, len-entries, len-insert}
use Rattle.std.specs.FinMap as finite
use Rattle.std.specs.List.{list_any}
use Rattle.std.specs.Ordering.{nat_cmp}
use Rattle.std.specs.Str.{bytes_eq}
use Rattle.mvn_shared.specs.Files.{Files}
use Rattle.mvn_base.specs.declared.gav.Gav.{Gav}
use Rattle.classpaths.specs.Classpaths.{with_name}
use Rattle.module_plan.specs.Numbers.{ascending, with_text, with_texts}
use Rattle.module_plan.specs.Plans.{most_events}
use Rattle.module_plan.specs.Ready.{all_ready_events, files_in, names_in, ready_events, ready_files, ready_locks, ready_names}
use Rattle.plan_numbers.specs.Whole.{counted}
use Rattle.module_plan.specs.declared.ready.Ready.{Ready}
use Rattle.module_plan.specs.declared.selected.Output.{Output}

-- ---- how many are allowed

-- so many are allowed
pub not_too_many : (n : ℕ) → n ≤ most_events → Some n ≡ counted n
not_too_many n few = sym (ap (λ b. if b then None else Some n) (le-ltb most_events n few))

-- more than the most, and what is left besides, are too many
pub are_too_many : (some rest n : ℕ) → most_events < some → some + rest ≡ n → None ≡ counted n
are_too_many some rest n many is = sym (ap (λ b. if b then None else Some n) (lt-ltb most_events n (omega (arith, many, is))))

pub some_is : (b : Bool) (n e : ℕ) → Some e ≡ (if b then None else Some n) → (b ≡ false) × (e ≡ n)
some_is false n e is = (refl, same is)
  where
    same : Some e ≡ Some n → e ≡ n
    same p = cc
some_is true n e is = cc

pub none_is : (b : Bool) (n : ℕ) → None ≡ (if b then None else Some n) → b ≡ true
none_is true n is = refl
none_is false n is = cc

within : (n : ℕ) → nat_lt most_events n ≡ false → n ≤ most_events
within n e = grind arith

-- what is allowed isn't too much
pub is_few : (n e : ℕ) → Some e ≡ counted n → n ≤ most_events
is_few n e is = within n (some_is (nat_lt most_events n) n e is).0

-- ---- lists without repetitions are no longer than those with them

one_longer : (texts : Files) (k : List ℕ) → finite.len (with_text texts k) ≤ finite.len texts + 1
one_longer texts k = by (finite.contains_key texts k) (len-insert nat_list_cmp_total texts k [])
  where
    by : (b : Bool) → finite.len (with_text texts k) ≡ cond b (finite.len texts) (finite.len texts + 1) → finite.len (with_text texts k) ≤ finite.len texts + 1
    by true e = omega (arith, e)
    by false e = omega (arith, e)

longer : (texts : Files) (more : List (List ℕ)) → finite.len (with_texts texts more) ≤ finite.len texts + length more
longer texts [] = omega arith
longer texts (k ∷ more) =
    let rest : finite.len (with_texts (with_text texts k) more) ≤ finite.len (with_text texts k) + length more = longer (with_text texts k) more in
    let both : finite.len (with_texts (with_text texts k) more) ≤ finite.len texts + suc (length more) = omega (arith, rest, one_longer texts k) in
    both

-- so it is with texts in ascending order
ascending_few : (texts : List (List ℕ)) → length (ascending texts) ≤ length texts
unfolding ascending
ascending_few texts =
    let none : Files = finite.empty in
    let set : Files = with_texts none texts in
    let keys : length (finite.keys set) ≡ finite.len set = length-map (finite.entries set) (λ e. e.0) ∙ sym (len-entries set) in
    let start : finite.len none ≡ 0 = len-empty (slice_cmp nat_cmp) (List ℕ) in
    let few : length (finite.keys set) ≤ length texts = omega (arith, keys, start, longer none texts) in
    few

one_listed : (names : List (List ℕ)) (x : List ℕ) → length (with_name names x) ≤ length names + 1
one_listed names x = by (list_any (bytes_eq x) names)
  where
    by : (b : Bool) → length (if b then names else names ++ x ∷ []) ≤ length names + 1
    by true = omega arith
    by false = omega (arith, length-append names (x ∷ []))

-- and with names in the order of their first mention
listed_few : (names more : List (List ℕ)) → length (fold with_name names more) ≤ length names + length more
listed_few names [] = omega arith
listed_few names (x ∷ more) =
    let rest : length (fold with_name (with_name names x) more) ≤ length (with_name names x) + length more = listed_few (with_name names x) more in
    let both : length (fold with_name (with_name names x) more) ≤ length names + suc (length more) = omega (arith, rest, one_listed names x) in
    both

-- ---- each name, each file and each module has an event

locks_few : (rs : List Ready) → length (flat_map ready_locks rs) ≤ all_ready_events rs
locks_few [] = omega arith
locks_few (r ∷ rs) =
    let all : length (flat_map ready_locks (r ∷ rs)) ≡ suc (length r.locks) + length (flat_map ready_locks rs) = length-append (ready_locks r) (flat_map ready_locks rs) in
    let few : length (flat_map ready_locks (r ∷ rs)) ≤ ready_events r + all_ready_events rs = omega (arith, all, locks_few rs) in
    few

files_few : (rs : List Ready) → length (flat_map files_in rs) ≤ all_ready_events rs
files_few [] = omega arith
files_few (r ∷ rs) =
    let own : length (files_in r) ≡ length r.fetch + length (names_in r.outputs) = length-append r.fetch (names_in r.outputs) in
    let outs : length (names_in r.outputs) ≡ length r.outputs = length-map r.outputs (λ (o : Output). o.name) in
    let all : length (flat_map files_in (r ∷ rs)) ≡ length (files_in r) + length (flat_map files_in rs) = length-append (files_in r) (flat_map files_in rs) in
    let few : length (flat_map files_in (r ∷ rs)) ≤ ready_events r + all_ready_events rs = omega (arith, own, outs, all, files_few rs) in
    few

modules_few : (rs : List Ready) → length rs ≤ all_ready_events rs
modules_few [] = omega arith
modules_few (r ∷ rs) =
    let few : suc (length rs) ≤ ready_events r + all_ready_events rs = omega (arith, modules_few rs) in
    few

-- so the names fit into 32 bits
pub few_names : (rs : List Ready) (names : List (List ℕ)) → names ≡ ready_names rs → all_ready_events rs ≤ most_events → length names < 4294967296
few_names rs names is few =
    let short : length (ready_names rs) ≤ length (flat_map ready_locks rs) = ascending_few (flat_map ready_locks rs) in
    let same : length names ≡ length (ready_names rs) = ap length is in
    omega (arith, short, same, locks_few rs, few)

-- and the files
pub few_files : (rs : List Ready) (files : List (List ℕ)) → files ≡ ready_files rs → all_ready_events rs ≤ most_events → length files < 4294967296
few_files rs files is few =
    let short : length (ready_files rs) ≤ 0 + length (flat_map files_in rs) = listed_few [] (flat_map files_in rs) in
    let same : length files ≡ length (ready_files rs) = ap length is in
    omega (arith, short, same, files_few rs, few)

-- and the modules
pub few_built : (rs : List Ready) (built : List Gav) → length built ≡ length rs → all_ready_events rs ≤ most_events → length built < 4294967296
few_built rs built same few = omega (arith, same, modules_few rs, few)
