use Rattle.std.proofs.Common.{◌≡◌, ◌-◌, ◌++◌, length}
use denote.Text.{Utf8}
use denote.Shadow.{shadow}
use Rattle.interpolation.specs.Parts.{parts_within}
use Rattle.interpolation.proofs.splitting.split_all.Given as goal

-- the parts so far, and those of the rest
abbrev pub invariant-loop : goal.invariant-loop
invariant-loop l = shadow (Utf8 l.rest) × (l.list ++ parts_within (length l.text - l.counter) l.rest ≡ parts_within (length l.text) l.text)
