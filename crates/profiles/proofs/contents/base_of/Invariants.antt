use Rattle.std.proofs.Common.{◌≡◌, fold, drop}
use Rattle.profiles.specs.Contents.{base_behind}
use Rattle.profiles.specs.Injection.{profiles_at}
use Rattle.profiles.proofs.contents.base_of.Given as goal

abbrev pub invariant-loop-place : goal.invariant-loop-place
invariant-loop-place l =
    fold base_behind l.base (profiles_at l.profiles (drop l.place-index l.places))
    ≡ fold base_behind l.own (profiles_at l.profiles l.places)
