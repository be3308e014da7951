use Rattle.std.proofs.Common.{[], length, map, replicate, ap, ◌∙◌}
use Rattle.build_core.specs.Locks.{none_held}
use Rattle.event_core.specs.declared.module_steps.Progress.TheVariants.{Waiting}
use Rattle.event_core.specs.declared.course.Course.TheVariants.{Idle}
use Rattle.event_core.specs.Standing.{idle}
use Rattle.event_core.specs.Kept.{course_at}
use Rattle.scripts.proofs.Climbs.{map_replicate}
use Rattle.event_core.proofs.HeldAt.{first_holding}
use Rattle.event_core.proofs.standing.Standing.new.Goals as goal

pub returns-clause-at : goal.returns-clause-at
returns-clause-at c =
    let o = c.args.outline.now in
    let kept = map (course_at o) c.in_ok-courses.courses.items in
    let courses = ap (map (course_at o)) (c.in_ok-courses.ensures.items_if_clones_equal (λ y e. e)) ∙ map_replicate (course_at o) o.workers Idle in
    let there = c.in_ok-there.ensures.items ∙ c.as_slice.ensures in
    ap (λ ms. record { progress = ms.1; courses = kept; held = c.in_ok-holdings.holdings.1; locks = c.in_ok-holdings.holdings.0; there = c.in_ok-there.there.items }) c.in_ok-modules.ensures
    ∙ ap (λ p. record { progress = replicate (length o.modules) Waiting; courses = p; held = c.in_ok-holdings.holdings.1; locks = c.in_ok-holdings.holdings.0; there = c.in_ok-there.there.items }) courses
    ∙ ap (λ h. record { progress = replicate (length o.modules) Waiting; courses = replicate o.workers idle; held = h.1; locks = h.0; there = c.in_ok-there.there.items }) c.in_ok-holdings.ensures
    ∙ ap (λ p. record { progress = replicate (length o.modules) Waiting; courses = replicate o.workers idle; held = replicate o.workers []; locks = none_held o.names o.workers; there = p }) there

pub returns-clause-holding : goal.returns-clause-holding
returns-clause-holding c =
    let parts = first_holding c.args.outline.now c.in_ok-courses.courses.items c.in_ok-holdings.holdings.1 (c.in_ok-courses.ensures.items_if_clones_equal (λ y e. e)) (ap (λ h. h.1) c.in_ok-holdings.ensures) in
    record { all = parts.0; courses = parts.1; rows = parts.2 }
