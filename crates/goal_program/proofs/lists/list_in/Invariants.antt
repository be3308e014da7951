use Rattle.std.proofs.Common.{◌≡◌, drop}
use Rattle.goal_program.specs.Members.{views}
use Rattle.goal_program.specs.Lists.{all_taken}
use Rattle.goal_program.proofs.Taking.{prefixed}
use Rattle.goal_program.proofs.lists.list_in.Given as goal

abbrev pub invariant-loop-item : goal.invariant-loop-item
invariant-loop-item g l = prefixed l.list (all_taken g.T.Item.taken (views (drop l.item-index l.items)) l.rest) ≡ all_taken g.T.Item.taken (views l.items) l.bytes
