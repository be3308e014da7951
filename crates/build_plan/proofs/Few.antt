-- How many names a plan has: each stands in the batch of a module, or is a module's own.
use Rattle.std.proofs.Common.{◌≡◌, ◌<◌, ◌≤◌, ◌+◌, ◌*◌, ◌^◌, ℕ, Bool, true, false, cond, List, [], ◌∷◌, flat_map, length, map, arith, sym, subst}
use Rattle.std.proofs.lemmas.List.{length-append, length-map}
use Rattle.std.specs.Ordering.{nat_cmp}
use Rattle.std.specs.Cmp.Lexicographic.{nat_list_cmp_total, slice_cmp}
use Rattle.std.specs.FinMap.{len-empty, len-entries, len-insert}
use Rattle.std.specs.FinMap as finite
use Rattle.mvn_shared.specs.Files.{Files}
use Rattle.mvn_base.specs.declared.gav.Gav.{Gav}
use Rattle.mvn_base.specs.declared.phase.Phase.{Phase}
use Rattle.cli_words.specs.declared.command_line.CommandLine.{CommandLine}
use Rattle.module_plan.specs.Numbers.{ascending, fetch_locks, locks_of, number_of, numbers_of, plan_files, plan_names, with_text, with_texts}
use Rattle.module_plan.specs.Plans.{IsNumbered, all_events, events_of, module_of, most_events, plan_modules, plan_with}
use Rattle.module_plan.specs.Uses.{gavs}
use Rattle.module_plan.specs.declared.selected.Planned.{Planned}
use Rattle.module_plan.specs.declared.selected.SelectedModule.{SelectedModule}
use Rattle.build_plan.specs.Planning.{IsPlan}

-- with a text more, a set has one more at most
one_more : (texts : Files) (text : List ℕ) → finite.len (with_text texts text) ≤ finite.len texts + 1
one_more texts text = subst (λ n. n ≤ finite.len texts + 1) (sym (len-insert nat_list_cmp_total texts text [])) (by (finite.contains_key texts text))
  where
    by : (b : Bool) → cond b (finite.len texts) (finite.len texts + 1) ≤ finite.len texts + 1
    by true = omega arith
    by false = omega arith

all_more : (more : List (List ℕ)) (texts : Files) → finite.len (with_texts texts more) ≤ length more + finite.len texts
all_more [] texts = omega arith
all_more (text ∷ more) texts =
    let one : finite.len (with_text texts text) ≤ finite.len texts + 1 = one_more texts text in
    let rest : finite.len (with_texts texts (text ∷ more)) ≤ length more + finite.len (with_text texts text) = all_more more (with_text texts text) in
    omega (arith, one, rest)

-- texts each once are no more than the texts
ascending_short : (texts : List (List ℕ)) → length (ascending texts) ≤ length texts
unfolding ascending
ascending_short texts =
    let none : Files = finite.empty in
    let keys : length (finite.keys (with_texts none texts)) ≡ length (finite.entries (with_texts none texts)) = length-map (finite.entries (with_texts none texts)) (λ e. e.0) in
    let long : finite.len (with_texts none texts) ≡ length (finite.entries (with_texts none texts)) = len-entries (with_texts none texts) in
    let all : finite.len (with_texts none texts) ≤ length texts + finite.len none = all_more texts none in
    let nothing : finite.len none ≡ 0 = len-empty (slice_cmp nat_cmp) (List ℕ) in
    omega (arith, keys, long, all, nothing)

module _ (phase : Phase) (built : List Gav) (names files : List (List ℕ)) where
  -- a module has more events than names
  of_one : (m : SelectedModule) → length (locks_of phase built m) ≤ events_of (module_of phase built names files m)
  unfolding module_of
  of_one m =
      let batch : length (numbers_of names (fetch_locks phase built m)) ≡ length (fetch_locks phase built m) = length-map (fetch_locks phase built m) (number_of names) in
      omega (arith, batch)

  of_all : (modules : List SelectedModule) → length (flat_map (locks_of phase built) modules) ≤ all_events (map (module_of phase built names files) modules)
  of_all [] = omega arith
  of_all (m ∷ modules) =
      let one : length (locks_of phase built m) ≤ events_of (module_of phase built names files m) = of_one m in
      let rest : length (flat_map (locks_of phase built) modules) ≤ all_events (map (module_of phase built names files) modules) = of_all modules in
      let both : length (flat_map (locks_of phase built) (m ∷ modules)) ≡ length (locks_of phase built m) + length (flat_map (locks_of phase built) modules) = length-append (locks_of phase built m) (flat_map (locks_of phase built) modules) in
      omega (arith, one, rest, both)

of_plan : (phase : Phase) (modules : List SelectedModule) → length (plan_names phase modules) ≤ all_events (plan_modules phase modules)
unfolding plan_names
of_plan phase modules =
    let short : length (plan_names phase modules) ≤ length (flat_map (locks_of phase (gavs modules)) modules) = ascending_short (flat_map (locks_of phase (gavs modules)) modules) in
    let all : length (flat_map (locks_of phase (gavs modules)) modules) ≤ all_events (plan_modules phase modules) = of_all phase (gavs modules) (plan_names phase modules) (plan_files phase modules) modules in
    omega (arith, short, all)

numbered_few : (phase : Phase) (workers : ℕ) (modules : List SelectedModule) (p : Planned) → IsNumbered phase workers modules p → length p.plan.names ≤ p.plan.events
unfolding plan_with
numbered_few phase workers modules p numbered = subst (λ (q : Planned). length q.plan.names ≤ q.plan.events) (sym numbered.is) (of_plan phase modules)

-- so a plan has few events, and few names
pub few_events : (line : CommandLine) (p : Planned) → IsPlan line p → p.plan.events < 2 ^ 32
few_events line p is =
    let most : p.plan.events ≤ most_events = is.few in
    omega (arith, most)

pub few_names : (line : CommandLine) (p : Planned) → IsPlan line p → length p.plan.names < 2 ^ 32
few_names line p is =
    let names : length p.plan.names ≤ p.plan.events = numbered_few line.phase line.workers is.modules p is.numbered in
    let most : p.plan.events ≤ most_events = is.few in
    omega (arith, names, most)
