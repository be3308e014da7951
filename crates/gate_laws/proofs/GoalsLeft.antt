-- How many goals a script still wants where the answer to one of them is due.
use Rattle.std.proofs.Common.{◌≡◌, ℕ, ◌+◌, Bool, true, List, ◌++◌, [], ◌∷◌, get_or, length, set, slice_get, Option, Some, None, is_some, refl, arith, sym, ap, subst}
use Rattle.std.specs.Option.{option_map_or}
use Rattle.std.proofs.lemmas.Bool.{false≢true}
use Rattle.build_core.specs.declared.event.Event.{Event}
use Rattle.build_core.specs.declared.event.Event.TheVariants as event
use Rattle.build_core.specs.declared.plan.Plan.{Plan}
use Rattle.build_core.specs.declared.plan.PlanModule.{PlanModule}
use Rattle.scripts.specs.Climbing.{but}
use Rattle.scripts.specs.declared.deed.Deed.{Deed}
use Rattle.scripts.specs.declared.deed.Deed.TheVariants as deed
use Rattle.scripts.specs.declared.outline.ModuleOutline.{ModuleOutline}
use Rattle.scripts.specs.declared.outline.Outline.{Outline}
use Rattle.scripts.specs.Outlines.{is_empty, module_outline, outline_of}
use Rattle.scripts.specs.Scripts.{Script, answers_left, done, is_gathered, script_of, settled, wanted, whole}
use Rattle.event_core.specs.declared.entry.RunEntry.{RunEntry}
use Rattle.event_core.specs.Enabled.{IsEnabled}
use Rattle.event_core.specs.Runs.{events_of}
use Rattle.event_core.specs.Standing.{Course, Standing, after, after_deed, after_free, at_first, course_of, goals_of, held_by, idle, off_course, on_course, start_of}
use Rattle.event_core.proofs.Ties.{any_idle}
use Rattle.run_law.specs.Placed.{IsPlacedAt}
use Rattle.run_law.proofs.Complete.{by_events}
use Rattle.run_law.proofs.Courses.{at_place}
use Rattle.run_law.proofs.Orders.{AreInOrder, done_order, script_order, settled_order}
use Rattle.run_law.proofs.Stored.{get_map}

module _ (o : Outline) where
  -- the goals that a worker's script still wants are the last of its module, in order
  abbrev IsOrdered : Course → Type 0
  IsOrdered idle = Unit {0}
  IsOrdered (off_course number file gathered) = Unit {0}
  IsOrdered (on_course number script last) = AreInOrder (goals_of o number) script

  record AreOrdered (now : Standing) : Type 0 where
    courses : (w : ℕ) → IsOrdered (course_of now w)

  module _ (there : List Bool) (held : List ℕ) where
    -- they are so after a deed
    left_ordered : (number : ℕ) (script rest : Script) (d : Deed) → done script d ≡ Some rest
        → AreInOrder (goals_of o number) script → AreInOrder (goals_of o number) (settled there (is_empty held) rest)
    left_ordered number script rest d e is = (settled_order (goals_of o number) there (is_empty held) rest (done_order (goals_of o number) script d rest is e).1).1

    deed_ordered : (d : Deed) (answered : Option ℕ) (c : Course) → IsOrdered c
        → IsOrdered (after_deed there held d answered c)
    deed_ordered d answered idle is = tt
    deed_ordered d answered (off_course number file gathered) is = tt
    deed_ordered d answered (on_course number script last) is = by (done script d) refl
      where
        by : (found : Option Script) → done script d ≡ found
            → IsOrdered (option_map_or (λ rest. on_course number (settled there (is_empty held) rest) answered) found (on_course number script last))
        by None e = is
        by (Some rest) e = left_ordered number script rest d e is

    free_ordered : (c : Course) → IsOrdered c → IsOrdered (after_free o there held c)
    free_ordered idle is = tt
    free_ordered (off_course number file gathered) is = tt
    free_ordered (on_course number script last) is = by (done script deed.Free) refl
      where
        by : (found : Option Script) → done script deed.Free ≡ found
            → IsOrdered (option_map_or (λ rest. on_course number (settled there (is_empty held) rest) None) found (off_course number (wanted script) (is_gathered (goals_of o number) script)))
        by None e = tt
        by (Some rest) e = left_ordered number script rest deed.Free e is

    -- and where a module begins
    begun_ordered : (number : ℕ) → AreInOrder (goals_of o number) (settled there (is_empty held) (start_of o number))
    begun_ordered number = (settled_order (goals_of o number) there (is_empty held) (start_of o number) (by (slice_get o.modules number))).1
      where
        by : (found : Option ModuleOutline)
            → AreInOrder (option_map_or (λ (x : ModuleOutline). x.goals) found 0) (option_map_or script_of found whole)
        by None = tt
        by (Some m) = (script_order m).1

  -- so after each event
  ordered_after : (now : Standing) (e : Event) → AreOrdered now → IsEnabled o now e → AreOrdered (after o now e)
  unfolding after
  ordered_after now (event.Start w m) is may = record { courses = at_place IsOrdered now.courses w (on_course m (settled now.there (is_empty (held_by now w)) (start_of o m)) None) idle (begun_ordered now.there (held_by now w) m) is.courses }
  ordered_after now (event.Skip m) is may = record { courses = is.courses }
  ordered_after now (event.Take w n mode) is may =
      let held = get_or (set now.held w (held_by now w ++ n ∷ [])) w [] in
      record { courses = at_place IsOrdered now.courses w (after_deed now.there held (deed.Take mode n) None (course_of now w)) idle (deed_ordered now.there held (deed.Take mode n) None (course_of now w) (is.courses w)) is.courses }
  ordered_after now (event.Free w n) is may =
      let held = get_or (set now.held w (but n (held_by now w))) w [] in
      record { courses = at_place IsOrdered now.courses w (after_free o now.there held (course_of now w)) idle (free_ordered now.there held (course_of now w) (is.courses w)) is.courses }
  ordered_after now (event.Read w f) is may = record { courses = at_place IsOrdered now.courses w (after_deed now.there (held_by now w) (deed.Read f) None (course_of now w)) idle (deed_ordered now.there (held_by now w) (deed.Read f) None (course_of now w) (is.courses w)) is.courses }
  ordered_after now (event.Publish w f) is may =
      record { courses = at_place IsOrdered now.courses w (after_deed (set now.there f true) (held_by now w) (deed.Publish f) None (course_of now w)) idle (deed_ordered (set now.there f true) (held_by now w) (deed.Publish f) None (course_of now w) (is.courses w)) is.courses }
  ordered_after now (event.Answer w g) is may =
      record { courses = at_place IsOrdered now.courses w (after_deed now.there (held_by now w) (deed.Answer g) (Some g) (course_of now w)) idle (deed_ordered now.there (held_by now w) (deed.Answer g) (Some g) (course_of now w) (is.courses w)) is.courses }
  ordered_after now (event.End w x) is may = record { courses = at_place IsOrdered now.courses w idle idle tt is.courses }

  -- and where nothing has happened
  ordered_first : AreOrdered (at_first o)
  ordered_first = record { courses = λ w. subst IsOrdered (sym (any_idle o.workers w)) tt }

-- where the answer to a goal is due, as many goals are left as there are from it on
pub due_left : (plan : Plan) (past : List RunEntry) (w number : ℕ) (m : PlanModule) (script : Script)
    → IsPlacedAt plan past w number m script → (goal : ℕ) → is_some (done script (deed.Answer goal)) ≡ true
    → answers_left script + goal ≡ length m.goals
due_left plan past w number m script at goal due = by (done script (deed.Answer goal)) refl due
  where
    o : Outline
    o = outline_of plan

    many : goals_of o number ≡ length m.goals
    many = ap (λ x. option_map_or (λ (y : ModuleOutline). y.goals) x 0) (get_map module_outline plan.modules number m at.unit)

    mine : AreInOrder (goals_of o number) script
    mine = subst (IsOrdered o) at.course ((by_events o (AreOrdered o) (ordered_after o) [] (events_of past) (ordered_first o) at.run).courses w)

    by : (found : Option Script) → done script (deed.Answer goal) ≡ found → is_some found ≡ true
        → answers_left script + goal ≡ length m.goals
    by None e is = absurd (false≢true is)
    by (Some rest) e is =
        let after = done_order (goals_of o number) script (deed.Answer goal) rest mine e in
        let less = after.0.0 in
        let place = after.0.1 in
        let count = many in
        omega (arith, less, place, count)
