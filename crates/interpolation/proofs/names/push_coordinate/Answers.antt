use Rattle.std.proofs.Common.{◌≡◌, Some, OnOk, codes, subst}
use Rattle.interpolation.specs.Named.{field}
use Rattle.interpolation.proofs.ValueLists.{behind_three}
use Rattle.interpolation.proofs.names.push_coordinate.Goals as goal

pub returns : goal.returns
returns c =
    let gav = c.args.gav.now in
    let last = c.push_field-3 in
    subst (λ l. OnOk last.result (last.new.list ≡ l))
    (behind_three c.args.list.now (field (codes "parent.groupId") (Some gav.group)) (field (codes "parent.artifactId") (Some gav.artifact)) (field (codes "parent.version") (Some gav.version)) c.in_ok-push_field.ensures c.in_ok-push_field-2.ensures)
    last.ensures
