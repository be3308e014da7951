use Rattle.std.proofs.Common.{◌≡◌, [], length}
use denote.Shadow.{shadow}
use denote.Text.{Utf8}
use Rattle.goal_program.specs.Names.{file_cut}
use Rattle.goal_program.specs.Texts.{cuts, first_some}
use Rattle.goal_program.proofs.name.file_ending.Given as goal

-- what is left gives what the whole gives
abbrev pub invariant-loop-part : goal.invariant-loop-part
invariant-loop-part l = shadow (Utf8 l.rest) × (first_some (file_cut l.gav l.path) (cuts 46 l.front l.rest) ≡ first_some (file_cut l.gav l.path) (cuts 46 [] l.end))

abbrev pub decreases-loop-part : goal.decreases-loop-part
decreases-loop-part l = length l.rest
