-- How many events a module has, by the lengths of its lists.
use Rattle.std.proofs.Common.{◌≡◌, ℕ, ◌+◌, ◌*◌, ◌<◌, ◌≤◌, Bool, true, false, List, [], ◌∷◌, length, drop, get_or, refl, arith, if◌then◌else◌}
use Rattle.std.proofs.lemmas.List.{at_drop_all, at_drop_more}
use Rattle.build_core.specs.Locks.{below}
use Rattle.build_core.specs.declared.mode.Mode.TheVariants.{Shared, Exclusive}
use Rattle.scripts.specs.declared.outline.ModuleOutline.{ModuleOutline}
use Rattle.scripts.specs.Bounds.{install_events, module_events, script_events, step_events, total}
use Rattle.scripts.specs.Scripts.{Script, Step, answer_script, answers, choice_script, fetches, frees, install_script, lock_script, may_publish, own_script, read_script, reads, step, steps, takes, whole}
use Rattle.scripts.proofs.ScriptPlaces.{length_below}

ones : (stage : ℕ) (f : ℕ → Step) → ((x : ℕ) → step_events (f x) ≡ 1) → (xs : List ℕ) (rest : Script) → script_events (steps stage f xs rest) ≡ length xs + script_events rest
ones stage f one [] rest = omega arith
ones stage f one (x ∷ xs) rest = let first = one x in let again = ones stage f one xs rest in omega (arith, first, again)

twos : (stage : ℕ) (f : ℕ → Step) → ((x : ℕ) → step_events (f x) ≡ 2) → (xs : List ℕ) (rest : Script) → script_events (steps stage f xs rest) ≡ length xs + length xs + script_events rest
twos stage f two [] rest = omega arith
twos stage f two (x ∷ xs) rest = let first = two x in let again = twos stage f two xs rest in omega (arith, first, again)

own_has : (own : List ℕ) → script_events (own_script own) ≡ length own
own_has [] = omega arith
own_has (pom ∷ others) = let more = ones 6 may_publish (λ x. refl) others (step 6 frees whole) in omega (arith, more)

install_has : (m : ModuleOutline) → script_events (install_script m) ≡ install_events m
install_has m = by m.installs
  where
    by : (b : Bool) → script_events (if b then step 6 (takes Exclusive m.own_name) (own_script m.own) else whole) ≡ (if b then 2 + length m.own else 0)
    by true = let own = own_has m.own in omega (arith, own)
    by false = refl

read_has : (m : ModuleOutline) → script_events (read_script m) ≡ length m.reads + m.goals + install_events m
read_has m =
    let reading = ones 4 reads (λ x. refl) m.reads (step 4 frees (answer_script m)) in
    let answering = ones 5 answers (λ x. refl) (below m.goals) (install_script m) in
    let installing = install_has m in
    let goals = length_below m.goals in
    omega (arith, reading, answering, installing, goals)

lock_has : (m : ModuleOutline) → script_events (lock_script m) ≡ length m.batch + length m.batch + length m.fetch + script_events (read_script m)
lock_has m =
    let locking = twos 3 (takes Exclusive) (λ x. refl) m.batch (steps 3 fetches m.fetch (read_script m)) in
    let fetching = ones 3 fetches (λ x. refl) m.fetch (read_script m) in
    omega (arith, locking, fetching)

pub module_has : (m : ModuleOutline) → module_events m ≡ 2 + 4 * length m.batch + (length m.fetch + length m.reads) + m.goals + install_events m
module_has m =
    let sharing = twos 2 (takes Shared) (λ x. refl) m.batch (choice_script m) in
    let locking = lock_has m in
    let reading = read_has m in
    omega (arith, sharing, locking, reading)

-- ---- sums

pub more_total : (ms : List ModuleOutline) (i : ℕ) (d : ModuleOutline) → i < length ms → total module_events (drop i ms) ≡ module_events (get_or ms i d) + total module_events (drop (i + 1) ms)
more_total ms i d low = at_drop_more (total module_events) ms i d low

pub end_total : (ms : List ModuleOutline) (i : ℕ) → length ms ≤ i → total module_events (drop i ms) ≡ 0
end_total ms i far = at_drop_all (total module_events) ms i far
