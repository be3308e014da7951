use Rattle.std.proofs.Common.{◌≡◌, ◌+◌, ◌-◌, ◌*◌, min, fold, drop}
use Rattle.row_fields.specs.Spelling.{number}
use Rattle.row_fields.proofs.escapes.number.Given as goal

abbrev pub invariant-loop-b : goal.invariant-loop-b
invariant-loop-b l = fold (λ n b. min (n * 10 + (b - 48)) 4294967295) l.number (drop l.b-index l.digits) ≡ number l.digits
