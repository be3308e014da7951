use Rattle.std.proofs.Common.{ap, ◌∙◌}
use Rattle.module_plan.specs.Numbers.{number_of}
use Rattle.module_plan.proofs.Filed.{number_is}
use Rattle.module_plan.proofs.files.FileList.place.Goals as goal

pub returns : goal.returns
returns c =
    c.place_or.ensures
    ∙ number_is c.self.inside.names.entries c.args.name.now c.get_index_of.result c.len.result c.self.invariant c.get_index_of.ensures.index c.len.ensures.len
    ∙ ap (λ l. number_of l c.args.name.now) c.self.view_is
