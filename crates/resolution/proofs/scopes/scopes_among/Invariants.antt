use Rattle.std.proofs.Common.{◌≡◌, ◌++◌, drop}
use Rattle.resolution.specs.Links.{scopes_from}
use Rattle.resolution.proofs.scopes.scopes_among.Given as goal

abbrev pub invariant-loop-place : goal.invariant-loop-place
invariant-loop-place l = l.list ++ scopes_from l.widest l.place (drop l.place l.winners) ≡ scopes_from l.widest 0 l.winners
