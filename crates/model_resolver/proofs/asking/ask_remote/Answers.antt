use Rattle.std.proofs.lemmas.Option.{IfSome_then}
use Rattle.model_resolver.proofs.asking.ask_remote.Goals as goal

pub returns-clause-tells : goal.returns-clause-tells
returns-clause-tells g c = IfSome_then (g.R.Remote.files c.args.remote.now) c.fetch-read.ensures.reads (λ files reads. c.read_so.ensures.tells _ reads)
