use Rattle.std.proofs.Common.{◌≡◌, drop}
use Rattle.reactor.specs.Selection.{unknown}
use Rattle.reactor.proofs.meaning.unknown.Given as goal

abbrev pub invariant-loop-word : goal.invariant-loop-word
invariant-loop-word l = unknown l.modules l.found (drop l.word-index l.words) ≡ unknown l.modules l.fn.place l.words
