-- A worker that stops while it reads may end its module so, when it has freed its batch.
use Rattle.std.proofs.Common.{◌≡◌, ℕ, ◌+◌, ◌<◌, ◌≤◌, ◌⊎◌, inl, inr, Bool, true, false, nat_eq, nat_lt, List, [], ◌∷◌, length, drop, get_or, slice_get, Option, Some, None, refl, arith, sym, ap, ◌∙◌, if◌then◌else◌}
use Rattle.std.specs.Option.{option_map_or}
use Rattle.std.proofs.lemmas.Bool.{false≢true}
use Rattle.std.proofs.lemmas.Bool.Decides.{nat_tests}
use Rattle.build_core.specs.Locks.{below}
use Rattle.build_core.specs.declared.mode.Mode.TheVariants.{Exclusive}
use Rattle.build_core.specs.declared.ending.Ending.{Ending}
use Rattle.build_core.specs.declared.ending.Ending.TheVariants as ending
use Rattle.scripts.specs.declared.outline.ModuleOutline.{ModuleOutline}
use Rattle.scripts.specs.declared.outline.Outline.{Outline}
use Rattle.scripts.specs.declared.script_place.ScriptPlace.TheVariants as place
use Rattle.event_core.specs.Enabled.{ending_in_range, may_end_so}
use Rattle.scripts.specs.ScriptPlaces.{rest_of}
use Rattle.scripts.specs.Scripts.{Script, answers, answers_left, install_script, is_gathered, own_script, reads, release_script, settled, stage_of, step, steps, takes, whole}
use Rattle.event_core.specs.Standing.{Course, after_free, goals_of, off_course, on_course}
use Rattle.scripts.specs.Outlines.{is_empty}
use Rattle.scripts.proofs.Dues.{below_or_not}
use Rattle.scripts.proofs.ScriptPlaces.{read_end, read_more, release_empty, release_held, steps_at}
use Rattle.run_law.proofs.Basics.{and_is}
use Rattle.run_law.proofs.Freeing.{reading}
use Rattle.run_law.proofs.Orders.{read_left}
use Rattle.crew_turns.specs.Endings.{is_gather_end}
use Rattle.crew_turns.specs.Stops.{freed_course}

-- no such ending names a goal or a file
pub in_range : (o : Outline) (course : Course) (e : Ending) → is_gather_end e ≡ true → ending_in_range o course e ≡ true
in_range o course ending.Built is = absurd (false≢true is)
in_range o course (ending.Missing file) is = absurd (false≢true is)
in_range o course ending.ClasspathTooLarge is = refl
in_range o course (ending.Goal i) is = absurd (false≢true is)
in_range o course (ending.OutputTooLarge i) is = absurd (false≢true is)
in_range o course ending.NoArtifact is = absurd (false≢true is)
in_range o course (ending.Fault d) is = refl
in_range o course ending.Memory is = refl

module _ (o : Outline) (number : ℕ) where
  -- with all files there and no goal answered it may end so
  on_end : (script : Script) (last : Option ℕ) → is_gathered (goals_of o number) script ≡ true → (e : Ending) → is_gather_end e ≡ true → may_end_so o (on_course number script last) e ≡ true
  on_end script last all ending.Built is = absurd (false≢true is)
  on_end script last all (ending.Missing file) is = absurd (false≢true is)
  on_end script last all ending.ClasspathTooLarge is = all
  on_end script last all (ending.Goal i) is = absurd (false≢true is)
  on_end script last all (ending.OutputTooLarge i) is = absurd (false≢true is)
  on_end script last all ending.NoArtifact is = absurd (false≢true is)
  on_end script last all (ending.Fault d) is = refl
  on_end script last all ending.Memory is = refl

  -- and so may it where it left its script then
  off_end : (file : Option ℕ) (e : Ending) → is_gather_end e ≡ true → may_end_so o (off_course number file true) e ≡ true
  off_end file ending.Built is = absurd (false≢true is)
  off_end file (ending.Missing f) is = absurd (false≢true is)
  off_end file ending.ClasspathTooLarge is = refl
  off_end file (ending.Goal i) is = absurd (false≢true is)
  off_end file (ending.OutputTooLarge i) is = absurd (false≢true is)
  off_end file ending.NoArtifact is = absurd (false≢true is)
  off_end file (ending.Fault d) is = refl
  off_end file ending.Memory is = refl

  module _ (m : ModuleOutline) (is : slice_get o.modules number ≡ Some m) where
    goals_are : goals_of o number ≡ m.goals
    goals_are = ap (λ x. option_map_or (λ (y : ModuleOutline). y.goals) x 0) is

    all_left : (s : Script) → nat_lt 3 (stage_of s) ≡ true → answers_left s ≡ m.goals → is_gathered (goals_of o number) s ≡ true
    all_left s late left =
        let count : answers_left s ≡ goals_of o number = left ∙ sym goals_are in
        let all : nat_eq (answers_left s) (goals_of o number) ≡ true = grind (arith, nat_tests, count) in
        and_is (nat_lt 3 (stage_of s)) (nat_eq (answers_left s) (goals_of o number)) late all

    late_steps : (xs : List ℕ) → nat_lt 3 (stage_of (steps 5 answers xs (install_script m))) ≡ true
    late_steps [] = by m.installs
      where
        by : (b : Bool) → nat_lt 3 (stage_of (if b then step 6 (takes Exclusive m.own_name) (own_script m.own) else whole)) ≡ true
        by true = refl
        by false = refl
    late_steps (x ∷ xs) = refl

    -- with all files read, no goal is answered
    answers_all : is_gathered (goals_of o number) (rest_of m (place.Answering 0)) ≡ true
    unfolding rest_of
    answers_all = all_left (steps 5 answers (below m.goals) (install_script m)) (late_steps (below m.goals)) (read_left m [])

    -- nor while files are read
    reads_all : (at : ℕ) → at < length m.reads → is_gathered (goals_of o number) (rest_of m (place.Reading at)) ≡ true
    unfolding rest_of
    reads_all at low = ap (is_gathered (goals_of o number)) (steps_at 4 reads m.reads at (release_script m) low) ∙ all_left (step 4 (reads (get_or m.reads at 0)) (steps 4 reads (drop (at + 1) m.reads) (release_script m))) refl (read_left m (drop (at + 1) m.reads))

    -- a worker that frees all its names behind the reading goes on to its goals
    freed_all : (there : List Bool) → after_free o there [] (on_course number (rest_of m place.Releasing) None) ≡ on_course number (rest_of m (place.Answering 0)) None
    unfolding rest_of
    freed_all there = ap (λ s. on_course number s None) (release_empty m there true refl)

    -- whatever it holds then
    pub may_leave : (there : List Bool) (names : List ℕ) (at : ℕ) (e : Ending) → is_gather_end e ≡ true
        → may_end_so o (freed_course o there names (on_course number (settled [] (is_empty names) (rest_of m (place.Reading at))) None)) e ≡ true
    may_leave there [] at e ends = by (below_or_not at (length m.reads))
      where
        by : (at < length m.reads) ⊎ (length m.reads ≤ at) → may_end_so o (on_course number (settled [] true (rest_of m (place.Reading at))) None) e ≡ true
        by (inl low) = ap (λ s. may_end_so o (on_course number s None) e) (read_more m [] true at low) ∙ on_end (rest_of m (place.Reading at)) None (reads_all at low) e ends
        by (inr far) =
            ap (λ s. may_end_so o (on_course number s None) e) (read_end m [] true at far ∙ release_empty m [] true refl)
            ∙ on_end (rest_of m (place.Answering 0)) None answers_all e ends
    may_leave there (n ∷ names) at e ends = by (below_or_not at (length m.reads))
      where
        by : (at < length m.reads) ⊎ (length m.reads ≤ at) → may_end_so o (after_free o there [] (on_course number (settled [] false (rest_of m (place.Reading at))) None)) e ≡ true
        by (inl low) =
            ap (λ s. may_end_so o (after_free o there [] (on_course number s None)) e) (read_more m [] false at low)
            ∙ ap (λ c. may_end_so o c e) (reading o m number None there is at low) ∙ off_end None e ends
        by (inr far) =
            ap (λ s. may_end_so o (after_free o there [] (on_course number s None)) e) (read_end m [] false at far ∙ release_held m [] false refl)
            ∙ ap (λ c. may_end_so o c e) (freed_all there) ∙ on_end (rest_of m (place.Answering 0)) None answers_all e ends
