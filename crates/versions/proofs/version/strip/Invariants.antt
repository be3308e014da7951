use Rattle.std.proofs.Common.{◌≡◌, map, length}
use Rattle.versions.specs.Cuts.{cut_token, stripped}
use Rattle.versions.proofs.version.strip.Given as goal

abbrev pub invariant-loop-last : goal.invariant-loop-last
invariant-loop-last l = stripped (map (cut_token l.text) l.cuts.items) ≡ stripped (map (cut_token l.text) l.initial.cuts.items)

abbrev pub decreases-loop-last : goal.decreases-loop-last
decreases-loop-last l = length l.cuts.items
