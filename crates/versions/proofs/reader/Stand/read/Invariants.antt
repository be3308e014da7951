use Rattle.std.proofs.Common.{◌≡◌, [], drop}
use Rattle.versions.specs.Requirements.{before, read_on}
use Rattle.versions.specs.Stands.{IsStand, reading_of}
use Rattle.versions.proofs.reader.Stand.read.Given as goal

abbrev pub invariant-loop-at : goal.invariant-loop-at
invariant-loop-at l = record {
  stands : IsStand l.text l.at l.stand;
  read : read_on 0 (before []) l.text ≡ read_on l.at (reading_of l.text l.done.items l.at l.stand) (drop l.at l.text);
}
