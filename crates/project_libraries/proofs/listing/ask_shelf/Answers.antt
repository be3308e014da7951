use Rattle.std.proofs.lemmas.Option.{IfSome_then}
use Rattle.project_libraries.proofs.listing.ask_shelf.Goals as goal

pub returns-clause-tells : goal.returns-clause-tells
returns-clause-tells g c = IfSome_then (g.S.Shelf.told c.args.shelf.now) c.versions-listing.ensures.lists (λ told lists. c.listed_so.ensures.tells _ lists)
