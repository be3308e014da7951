use Rattle.std.proofs.Common.{◌≡◌, map, take}
use Rattle.std.specs.String.{string_bytes}
use Rattle.report.specs.Report.{shown_byte}
use Rattle.report.proofs.text.shown_bytes.Given as goal

-- the bytes so far are shown
abbrev pub invariant-loop-b : goal.invariant-loop-b
invariant-loop-b l = string_bytes l.text ≡ map shown_byte (take l.b-index l.bytes)
