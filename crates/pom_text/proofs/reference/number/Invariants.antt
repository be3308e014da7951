use Rattle.std.proofs.Common.{◌≡◌, true, take}
use Rattle.std.specs.Char.{is_digit}
use Rattle.std.specs.List.{list_all}
use Rattle.pom_text.specs.References.{number}
use Rattle.pom_text.specs.Numerals.{Keeps}
use Rattle.pom_text.proofs.reference.number.Given as goal

abbrev pub invariant-loop-b : goal.invariant-loop-b
invariant-loop-b l = record {
  digits : list_all (λ d. is_digit d l.radix) (take l.b-index l.digits) ≡ true;
  keeps : Keeps l.value (number l.radix (take l.b-index l.digits));
}
