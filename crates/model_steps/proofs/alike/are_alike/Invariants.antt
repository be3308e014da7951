use Rattle.std.proofs.Common.{◌≡◌, drop}
use Rattle.model_steps.specs.Alike.{are_alike}
use Rattle.model_steps.proofs.alike.are_alike.Given as goal

abbrev pub invariant-loop-plugin : goal.invariant-loop-plugin
invariant-loop-plugin l = are_alike (drop l.plugin-index l.a) l.rest ≡ are_alike l.a l.b
