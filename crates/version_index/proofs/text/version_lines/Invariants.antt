use Rattle.std.proofs.Common.{◌≡◌, ◌++◌, drop}
use Rattle.version_index.specs.Texts.{version_lines}
use Rattle.version_index.proofs.text.version_lines.Given as goal

-- the lines so far, and those of what is left
abbrev pub invariant-loop-version : goal.invariant-loop-version
invariant-loop-version l = l.text.items ++ version_lines (drop l.version-index l.versions) ≡ version_lines l.versions
