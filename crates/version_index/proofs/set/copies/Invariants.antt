use Rattle.std.proofs.Common.{◌≡◌, ◌++◌, drop}
use Rattle.version_index.proofs.set.copies.Given as goal

-- the copies so far, and what is left
abbrev pub invariant-loop-version : goal.invariant-loop-version
invariant-loop-version l = l.copies.items ++ drop l.version-index l.versions ≡ l.versions
