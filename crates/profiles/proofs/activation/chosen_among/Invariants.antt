use Rattle.std.proofs.Common.{◌≡◌, ℕ, Bool, false, List, ◌++◌, drop, length, map}
use Rattle.profiles.specs.Judging.{TellsOn, asks_for_any, is_chosen_by}
use Rattle.profiles.proofs.activation.chosen_among.Given as goal

abbrev pub invariant-loop-profile : goal.invariant-loop-profile
invariant-loop-profile g l = record {
  tells : (world : List ℕ → Bool) → g.F.Files.fits l.initial.files world
      → l.list ++ map (is_chosen_by l.judge world) (drop l.profile-index l.profiles) ≡ map (is_chosen_by l.judge world) l.profiles;
  alone : asks_for_any l.judge l.profiles ≡ false → (world : List ℕ → Bool)
      → l.list ++ map (is_chosen_by l.judge world) (drop l.profile-index l.profiles) ≡ map (is_chosen_by l.judge world) l.profiles;
  further : asks_for_any l.judge l.profiles ≡ false → asks_for_any l.judge (drop l.profile-index l.profiles) ≡ false;
  untouched : asks_for_any l.judge l.profiles ≡ false → l.files ≡ l.initial.files;
  fit : (world : List ℕ → Bool) → g.F.Files.fits l.initial.files world → g.F.Files.fits l.files world;
  same : TellsOn g.F.Files.tells_same l.initial.files l.files;
  faults : g.F.Files.faults l.files ≡ g.F.Files.faults l.initial.files;
  each : length l.list ≡ l.profile-index;
}
