use Rattle.std.proofs.Common.{◌≡◌, ◌≤◌, ◌+◌, ◌-◌, map, length, drop, cond, is_some}
use Rattle.versions.specs.declared.piece.Mark.TheVariants.{Dot}
use Rattle.versions.specs.Pieces.{pieces}
use Rattle.versions.specs.Tokens.{tokens, trimmed}
use Rattle.versions.specs.Cuts.{cut_token}
use Rattle.versions.proofs.Gathers.{gathered}
use Rattle.versions.proofs.version.cuts.Given as goal

abbrev pub invariant-loop-before : goal.invariant-loop-before
invariant-loop-before l = record {
  within : l.start ≤ length l.text;
  all : gathered (map (cut_token l.text) l.cuts.items) l.before (drop l.start l.text) ≡ trimmed (tokens (pieces Dot l.text));
}

abbrev pub decreases-loop-before : goal.decreases-loop-before
decreases-loop-before l = (length l.text - l.start) + cond (is_some l.before) 1 0
