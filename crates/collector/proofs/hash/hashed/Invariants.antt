use Rattle.std.proofs.Common.{◌≡◌, drop, fold}
use Rattle.collector.specs.Hashes.{mixed}
use Rattle.collector.proofs.hash.hashed.Given as goal

abbrev pub invariant-loop-byte : goal.invariant-loop-byte
invariant-loop-byte l = fold mixed l.hash (drop l.byte-index l.text) ≡ fold mixed l.from l.text
