-- Where a worker is while its module's goals are answered.
use Rattle.std.proofs.Common.{◌≡◌, ℕ, ◌+◌, ◌<◌, ◌≤◌, Bool, true, false, nat_lt, List, [], ◌∷◌, length, drop, set, get_or, Option, Some, None, refl, arith, sym, ap, subst, ◌∙◌, if◌then◌else◌}
use Rattle.std.specs.Option.{option_map_or}
use Rattle.std.proofs.lemmas.List.{get_or-set_same}
use Rattle.build_core.specs.Locks.{below}
use Rattle.build_core.specs.declared.mode.Mode.TheVariants.{Exclusive}
use Rattle.build_core.specs.declared.event.Event.TheVariants as event
use Rattle.scripts.specs.declared.deed.Deed.TheVariants as deed
use Rattle.scripts.specs.declared.outline.ModuleOutline.{ModuleOutline}
use Rattle.scripts.specs.declared.outline.Outline.{Outline}
use Rattle.scripts.specs.declared.script_place.ScriptPlace.TheVariants as place
use Rattle.scripts.specs.ScriptPlaces.{rest_of}
use Rattle.scripts.specs.Scripts.{Script, answers, answers_left, done, install_script, own_script, settled, stage_of, step, steps, takes, whole}
use Rattle.event_core.specs.Standing.{Course, Standing, after, after_deed, course_of, held_by, idle, on_course}
use Rattle.scripts.specs.Outlines.{is_empty}
use Rattle.scripts.proofs.Dues.{answer_yes}
use Rattle.run_law.proofs.Orders.{read_left}
use Rattle.run_law.proofs.Settling.{late}
use Rattle.crew_modules.proofs.Outcomes.{itself}

-- nothing is left out
drop_none : (xs : List ℕ) → drop 0 xs ≡ xs
drop_none [] = refl
drop_none (x ∷ xs) = refl

module _ (m : ModuleOutline) where
  -- nothing of what is left then goes without an event
  plain_install : (there : List Bool) (empty : Bool) → settled there empty (install_script m) ≡ install_script m
  plain_install there empty = by m.installs
    where
      by : (b : Bool) → settled there empty (if b then step 6 (takes Exclusive m.own_name) (own_script m.own) else whole) ≡ (if b then step 6 (takes Exclusive m.own_name) (own_script m.own) else whole)
      by true = refl
      by false = refl

  plain_goals : (there : List Bool) (empty : Bool) (xs : List ℕ) → settled there empty (steps 5 answers xs (install_script m)) ≡ steps 5 answers xs (install_script m)
  plain_goals there empty [] = plain_install there empty
  plain_goals there empty (x ∷ xs) = refl

  pub plain : (there : List Bool) (empty : Bool) (i : ℕ) → settled there empty (rest_of m (place.Answering i)) ≡ rest_of m (place.Answering i)
  unfolding rest_of
  plain there empty i = plain_goals there empty (drop i (below m.goals))

  -- the reading is over
  late_install : nat_lt 3 (stage_of (install_script m)) ≡ true
  late_install = by m.installs
    where
      by : (b : Bool) → nat_lt 3 (stage_of (if b then step 6 (takes Exclusive m.own_name) (own_script m.own) else whole)) ≡ true
      by true = refl
      by false = refl

  late_goals : (xs : List ℕ) → nat_lt 3 (stage_of (steps 5 answers xs (install_script m))) ≡ true
  late_goals [] = late_install
  late_goals (x ∷ xs) = refl

  late_rest : (i : ℕ) → nat_lt 3 (stage_of (rest_of m (place.Answering i))) ≡ true
  unfolding rest_of
  late_rest i = late_goals (drop i (below m.goals))

  pub late_place : (i : ℕ) → nat_lt 3 (stage_of (settled [] true (rest_of m (place.Answering i)))) ≡ true
  late_place i = ap (λ s. nat_lt 3 (stage_of s)) (plain [] true i) ∙ late_rest i

  -- at first all goals are to come
  all_left : answers_left (rest_of m (place.Answering 0)) ≡ m.goals
  unfolding rest_of
  all_left = ap (λ xs. answers_left (steps 5 answers xs (install_script m))) (drop_none (below m.goals)) ∙ read_left m []

  pub all_to_come : answers_left (settled [] true (rest_of m (place.Answering 0))) ≡ m.goals
  all_to_come = ap answers_left (plain [] true 0) ∙ all_left

module _ (o : Outline) (m : ModuleOutline) (now : Standing) (w number goal : ℕ) (last : Option ℕ) where
  -- behind an answer the next one is due
  pub next_place : w < length now.courses → goal < m.goals → course_of now w ≡ on_course number (settled [] true (rest_of m (place.Answering goal))) last → held_by now w ≡ []
      → course_of (after o now (event.Answer w goal)) w ≡ on_course number (settled [] true (rest_of m (place.Answering (goal + 1)))) (Some goal)
  unfolding after
  next_place few low on none =
      let here = rest_of m (place.Answering goal) in
      let next = rest_of m (place.Answering (goal + 1)) in
      let old : Course = on_course number here last in
      let five : 4 ≤ 5 = omega arith in
      get_or-set_same now.courses w (after_deed now.there (held_by now w) (deed.Answer goal) (Some goal) (course_of now w)) idle few
      ∙ ap (after_deed now.there (held_by now w) (deed.Answer goal) (Some goal)) (on ∙ ap (λ s. on_course number s last) (plain m [] true goal))
      ∙ ap (λ hs. option_map_or (λ rest. on_course number (settled now.there (is_empty hs) rest) (Some goal)) (done here (deed.Answer goal)) old) none
      ∙ ap (λ d. option_map_or (λ rest. on_course number (settled now.there true rest) (Some goal)) d old) (sym (answer_yes m goal goal low (itself goal)))
      ∙ ap (λ s. on_course number s (Some goal)) (late m now.there true (place.Answering (goal + 1)) five)

  -- and the names that are held stay
  pub same_names : held_by (after o now (event.Answer w goal)) w ≡ held_by now w
  unfolding after
  same_names = refl
