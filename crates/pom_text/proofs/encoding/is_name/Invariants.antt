use Rattle.std.proofs.Common.{◌≡◌, drop}
use Rattle.std.specs.Str.{bytes_eq, str_to_ascii_lowercase}
use Rattle.pom_text.proofs.encoding.is_name.Given as goal

abbrev pub invariant-loop-i : goal.invariant-loop-i
invariant-loop-i l = bytes_eq (str_to_ascii_lowercase (drop l.i l.text)) (drop l.i l.name) ≡ bytes_eq (str_to_ascii_lowercase l.text) l.name
