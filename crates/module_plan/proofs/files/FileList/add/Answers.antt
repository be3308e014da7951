use Rattle.std.proofs.Common.{rules, ◌≡◌, ap, ◌∙◌}
use Rattle.classpaths.specs.Classpaths.{with_name}
use Rattle.classpaths.proofs.Joining.{added_kept, added_names}
use Rattle.module_plan.proofs.files.FileList.add.Goals as goal

pub invariant_of-self-2 : goal.invariant_of-self-2
invariant_of-self-2 c =
    let same : c.in_ok-text.text ≡ c.args.name = search rules in
    added_kept c.self.inside.names.entries c.insert.new.self.entries c.in_ok-text.text c.args.name c.self.invariant same c.in_ok-insert.ensures.entries

pub returns : goal.returns
returns c =
    let same : c.in_ok-text.text ≡ c.args.name = search rules in
    added_names c.self.inside.names.entries c.insert.new.self.entries c.in_ok-text.text c.args.name c.self.invariant same c.in_ok-insert.ensures.entries
    ∙ ap (λ l. with_name l c.args.name) c.self.view_is
