use Rattle.std.proofs.lemmas.Option.{IfSome_then}
use Rattle.model_resolver.proofs.asking.ask_shelf.Goals as goal

pub returns-clause-tells : goal.returns-clause-tells
returns-clause-tells g c = IfSome_then (g.S.Shelf.told c.args.shelf.now) c.read-read.ensures.reads (λ files reads. c.read_so.ensures.tells _ reads)
