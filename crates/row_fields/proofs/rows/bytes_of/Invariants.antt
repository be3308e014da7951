use Rattle.std.proofs.Common.{◌≡◌, map, take}
use Rattle.row_fields.specs.Spelling.{unescaped}
use Rattle.row_fields.proofs.rows.bytes_of.Given as goal

abbrev pub invariant-loop-part : goal.invariant-loop-part
invariant-loop-part l = l.fields.items ≡ map unescaped (map (λ x. x.now) (take l.part-index l.parts))
