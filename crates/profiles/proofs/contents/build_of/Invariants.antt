use Rattle.std.proofs.Common.{◌≡◌, fold, drop}
use Rattle.profiles.specs.Contents.{build_behind, no_plugins}
use Rattle.profiles.specs.Injection.{profiles_at}
use Rattle.profiles.proofs.contents.build_of.Given as goal

abbrev pub invariant-loop-place : goal.invariant-loop-place
invariant-loop-place l =
    fold build_behind l.build (profiles_at l.profiles (drop l.place-index l.places))
    ≡ fold build_behind no_plugins (profiles_at l.profiles l.places)
