use Rattle.std.proofs.Common.{sym, ap, ◌∙◌}
use Rattle.goal_program.specs.Names.{file_cut}
use Rattle.goal_program.proofs.Cuts.{first_found}
use Rattle.goal_program.proofs.name.file_ending.Goals as goal

pub returns-in-Some-2 : goal.returns-in-Some-2
returns-in-Some-2 c =
    let front = c.as_str.ensures.value ∙ c.in_ok-push_str.ensures.ok in
    let found = sym c.in-Some-2.is ∙ c.in_ok-name.ensures ∙ ap (λ f. file_cut c.args.gav.now c.args.path.now (f, c.in-Some.behind.now)) front in
    first_found (file_cut c.args.gav.now c.args.path.now) 46 c.loop-part.front c.loop-part.rest.now c.in-Some.part.now c.in-Some.behind.now c.in-Some-2.name c.in-Some.ensures found ∙ c.loop-part.invariant.1
