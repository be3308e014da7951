use Rattle.std.proofs.Common.{◌≡◌, ℕ, List, IfOk, IfSome, subst}
use Rattle.std.proofs.lemmas.Option.{IfSome_then}
use Rattle.mvn_outside.specs.Shelf.{files_now}
use Rattle.module_plan.specs.Plans.{present_in}
use Rattle.plan_numbers.proofs.SelectedCounting.{swapped}
use Rattle.plan_numbers.proofs.planning.with_present.Goals as goal

pub returns-clause-says : goal.returns-clause-says
returns-clause-says g c =
    let told = g.S.Shelf.told c.args.shelf.now in
    let present = c.present_in-present.result in
    let tells = subst (λ (files : List (List ℕ)). IfOk present (λ list. IfSome told (λ t. list ≡ present_in (files_now t) files))) c.as_slice.ensures c.present_in-present.ensures.tells in
    IfSome_then told (swapped (λ t list. list ≡ present_in (files_now t) c.args.numbered.files) told present tells)
    (λ t gives. c.noted.ensures.says (files_now t) gives)
