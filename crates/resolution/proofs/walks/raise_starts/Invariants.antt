use Rattle.std.proofs.Common.{◌≡◌, drop}
use Rattle.resolution.specs.Search.{raised_all, search_of}
use Rattle.resolution.specs.Links.{each_from, link_by}
use Rattle.resolution.proofs.walks.raise_starts.Given as goal

abbrev pub invariant-loop-at : goal.invariant-loop-at
invariant-loop-at l =
    raised_all (λ l. l.scope) (search_of l.scopes.items l.waiting.items) (each_from (link_by l.places) l.at (drop l.at l.own))
    ≡ raised_all (λ l. l.scope) (search_of l.initial.scopes.items l.initial.waiting.items) (each_from (link_by l.places) 0 l.own)
