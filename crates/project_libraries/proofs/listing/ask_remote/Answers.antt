use Rattle.std.proofs.lemmas.Option.{IfSome_then}
use Rattle.project_libraries.proofs.listing.ask_remote.Goals as goal

pub returns-clause-tells : goal.returns-clause-tells
returns-clause-tells g c = IfSome_then (g.R.Remote.files c.args.remote.now) c.versions-listing.ensures.lists (λ files lists. c.listed_so.ensures.tells _ lists)
