use Rattle.std.proofs.Common.{◌≡◌, ◌++◌, drop, map}
use Rattle.std.specs.List.{list_all}
use Rattle.version_index.specs.Texts.{is_listed}
use Rattle.version_index.proofs.reading.versions_of.Given as goal

-- the versions so far, and what is left, which alone may still fail
abbrev pub invariant-loop-line : goal.invariant-loop-line
invariant-loop-line l = (l.versions.items ++ map (λ x. x.now) (drop l.line-index l.lines) ≡ map (λ x. x.now) l.lines)
    × (list_all is_listed (map (λ x. x.now) (drop l.line-index l.lines)) ≡ list_all is_listed (map (λ x. x.now) l.lines))
