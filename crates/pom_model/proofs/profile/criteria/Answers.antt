use Rattle.std.proofs.Common.{option_map, ap, ◌∙◌}
use Rattle.pom_model.specs.Fields.{os, property}
use Rattle.pom_model.proofs.profile.criteria.Goals as goal

pub returns : goal.returns
returns c =
    let nodes = c.args.nodes.now in
    let of_property = c.in_ok-property.ensures ∙ ap (property nodes) c.child.ensures in
    let of_os = c.in_ok-os.ensures ∙ ap (option_map (os nodes)) c.child-2.ensures in
    λ i. (of_property i, of_os i)
