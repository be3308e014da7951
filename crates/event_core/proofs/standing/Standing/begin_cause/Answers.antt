use Rattle.std.proofs.Common.{None, sym, ◌∙◌}
use Rattle.event_core.specs.declared.refused.NotEnabled.TheVariants.{Upstream, Worker}
use Rattle.event_core.specs.HowFar.{first_not_built}
use Rattle.event_core.specs.Standing.{course_of, module_of}
use Rattle.event_core.specs.Causes.{where_found}
use Rattle.event_core.specs.Kept.{standing_in}
use Rattle.event_core.proofs.Firsts.{found_first, found_none}
use Rattle.event_core.proofs.standing.Standing.begin_cause.Goals as goal

pub returns-in-Some : goal.returns-in-Some
returns-in-Some c =
    let o = c.args.outline.now in
    let now = standing_in o c.args.self.now in
    found_first (first_not_built o now.progress c.args.number) (λ u. Upstream u) (where_found (module_of (course_of now c.args.worker)) (λ at. Worker at) None) c.in-Some.cause (sym c.in-Some.is ∙ c.upstream_cause.ensures)

pub returns-in-None : goal.returns-in-None
returns-in-None c =
    let o = c.args.outline.now in
    let now = standing_in o c.args.self.now in
    c.busy_cause.ensures o
    ∙ found_none (first_not_built o now.progress c.args.number) (λ u. Upstream u) (where_found (module_of (course_of now c.args.worker)) (λ at. Worker at) None) (sym c.in-None.is ∙ c.upstream_cause.ensures)
