use Rattle.std.proofs.Common.{◌≡◌, ◌++◌, flat_map, drop}
use Rattle.std.specs.String.{string_bytes}
use Rattle.profiles.specs.FileTexts.{filled_part}
use Rattle.profiles.specs.Known.{known_value}
use Rattle.profiles.proofs.file_text.filled_parts.Given as goal

abbrev pub invariant-loop-part : goal.invariant-loop-part
invariant-loop-part l = string_bytes l.text ++ flat_map (filled_part l.basedir (known_value l.known)) (drop l.part-index l.list) ≡ flat_map (filled_part l.basedir (known_value l.known)) l.list
