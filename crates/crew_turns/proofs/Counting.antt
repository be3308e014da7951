-- What hands were left as, one ending after another.
use Rattle.std.proofs.Common.{◌≡◌, ℕ, ◌+◌, Bool, true, false, ◌&&◌, List, [], ◌∷◌, ◌++◌, drop, filter, filter_map, length, arith, ap, refl, sym, subst, ◌∙◌}
use Rattle.std.specs.List.{list_all}
use Rattle.std.proofs.lemmas.List.{length-append}
use Rattle.std.proofs.Math.Seq.{drop-append_seam}
use Rattle.std.proofs.lemmas.List.Elements.{filter-append, filter_map-append}
use Rattle.mvn_shared.specs.Cause.{RoseBy}
use Rattle.build_core.specs.declared.ending.Device.{Device}
use Rattle.build_core.specs.declared.ending.Device.TheVariants as device
use Rattle.build_core.specs.declared.ending.Ending.{Ending}
use Rattle.scripts.proofs.Climbs.{both}
use Rattle.run_law.proofs.Basics.{and_is}
use Rattle.event_core.specs.declared.entry.RunEntry.{RunEntry}
use Rattle.crew_turns.specs.Endings.{ending_of, endings_of, endings_since, faults_of, is_fault_of, is_quiet_end}
use Rattle.crew_turns.specs.Hands.{HandState, IsCounted, IsWorked}

-- a count that rose by so many and then by more rose by both
pub rose_both : (n m before now later : ℕ) → RoseBy n before now → RoseBy m now later → RoseBy (n + m) before later
rose_both n m before now later a b = record { no_fall = omega (arith, a.no_fall, b.no_fall); rise = omega (arith, a.rise, b.rise, a.no_fall, b.no_fall) }

-- and stood still if there was none of both
pub counted_both : (n m before now later : ℕ) → IsCounted n before now → IsCounted m now later → IsCounted (n + m) before later
counted_both n m before now later a b = record {
  rose = rose_both n m before now later a.rose b.rose;
  still = λ none. b.still (omega (arith, none)) ∙ a.still (omega (arith, none));
}

pub counted_none : (n : ℕ) → IsCounted 0 n n
counted_none n = record { rose = record { no_fall = omega arith; rise = omega arith }; still = λ none. refl }

-- the faults of two lists of endings are those of both
pub faults_append : (d : Device) (xs ys : List Ending) → faults_of d (xs ++ ys) ≡ faults_of d xs + faults_of d ys
faults_append d xs ys = ap length (filter-append (is_fault_of d) xs ys) ∙ length-append (filter (is_fault_of d) xs) (filter (is_fault_of d) ys)

-- where all of two lists are quiet, all of the first and all of the second are
pub quiet_parts : (xs ys : List Ending) → list_all is_quiet_end (xs ++ ys) ≡ true → (list_all is_quiet_end xs ≡ true) × (list_all is_quiet_end ys ≡ true)
quiet_parts [] ys is = (refl, is)
quiet_parts (x ∷ xs) ys is =
    let parts = both (is_quiet_end x) (list_all is_quiet_end (xs ++ ys)) is in
    let rest = quiet_parts xs ys parts.1 in
    (and_is (is_quiet_end x) (list_all is_quiet_end xs) parts.0 rest.0, rest.1)

-- a hand that was worked with, and then again
pub worked_more : (before now later : HandState) (es more : List Ending) → IsWorked before now es → IsWorked now later more → IsWorked before later (es ++ more)
worked_more before now later es more a b = record {
  told = b.told ∙ a.told;
  remote = count device.Remote before.remote now.remote later.remote a.remote b.remote;
  area = count device.Area before.area now.area later.area a.area b.area;
  gate = count device.Gate before.gate now.gate later.gate a.gate b.gate;
  pieces = λ quiet. let parts = quiet_parts es more quiet in b.pieces parts.1 ∙ a.pieces parts.0;
}
  where
    count : (d : Device) (x y z : ℕ) → IsCounted (faults_of d es) x y → IsCounted (faults_of d more) y z → IsCounted (faults_of d (es ++ more)) x z
    count d x y z first then_more = subst (λ n. IsCounted n x z) (sym (faults_append d es more)) (counted_both (faults_of d es) (faults_of d more) x y z first then_more)

-- a hand that isn't used
pub worked_none : (hand : HandState) → IsWorked hand hand []
worked_none hand = record { told = refl; remote = counted_none hand.remote; area = counted_none hand.area; gate = counted_none hand.gate; pieces = λ quiet. refl }

-- the endings of two logs are those of both
pub endings_append : (worker : ℕ) (xs ys : List RunEntry) → endings_of worker (xs ++ ys) ≡ endings_of worker xs ++ endings_of worker ys
endings_append worker xs ys = filter_map-append (λ (e : RunEntry). ending_of worker e.event) xs ys

-- what ended since a front of a log is what the rest adds
pub since : (worker : ℕ) (before rest : List RunEntry) → endings_since worker before (before ++ rest) ≡ endings_of worker rest
since worker before rest =
    subst (λ all. drop (length (endings_of worker before)) all ≡ endings_of worker rest) (sym (endings_append worker before rest)) (drop-append_seam (endings_of worker before) (endings_of worker rest))
