use Rattle.std.proofs.lemmas.Option.{IfSome_then}
use Rattle.sources.specs.Modules.{folders_of, module_sources}
use Rattle.sources.proofs.sources_of_modules.module_sources.Goals as goal

pub returns-clause-says : goal.returns-clause-says
unfolding module_sources
returns-clause-says g c =
    IfSome_then (g.T.Tree.files c.args.tree.now) c.sources_of-sources.ensures.gives
    (λ files gives. c.noted.ensures.says files (folders_of c.args.given.now.machine.root c.args.models.now) gives)
