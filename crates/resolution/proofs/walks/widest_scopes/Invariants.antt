use Rattle.std.proofs.Common.{◌*◌, ◌-◌, length}
use Rattle.resolution.specs.Search.{search_of}
use Rattle.resolution.proofs.Ending.{Searches}
use Rattle.resolution.specs.Links.{cut_links, each_from, link_by}
use Rattle.resolution.proofs.walks.widest_scopes.Given as goal

abbrev pub invariant-loop-next : goal.invariant-loop-next
invariant-loop-next l = Searches (each_from (link_by l.places) 0 l.own) (cut_links l.winners l.rest l.below) (search_of l.scopes.items l.waiting.items) l.next

abbrev pub decreases-loop-next : goal.decreases-loop-next
decreases-loop-next l = 4 * length (cut_links l.winners l.rest l.below) - l.next
