-- Which entries of a run fit what one worker's hand tells. Project rule.
use Rattle.std.specs.Prelude.{◌≡◌, ℕ, true, List, [], ◌∷◌, ◌++◌, Option, None}
use Rattle.mvn_shared.specs.Files.{Files}
use Rattle.build_core.specs.declared.plan.Plan.{Plan}
use Rattle.event_core.specs.declared.entry.Carried.TheVariants.{Nothing}
use Rattle.event_core.specs.declared.entry.RunEntry.{RunEntry}
use Rattle.event_core.specs.Worlds.{Fits, HandTold, worker_of}
use Rattle.run_law.specs.Others.{is_of}

-- each entry of a worker fits behind all entries before it, where its hand tells this
abbrev pub OwnFit : Plan → Option Files → HandTold → (w : ℕ) → (past : List RunEntry) → List RunEntry → Type 0
OwnFit plan start told w past [] = Unit {0}
OwnFit plan start told w past (e ∷ entries) = (is_of w e.event ≡ true → Fits plan start (λ v. told) past e) × OwnFit plan start told w (past ++ e ∷ []) entries

-- an entry of no worker carries nothing
abbrev pub AreBare : List RunEntry → Type 0
AreBare [] = Unit {0}
AreBare (e ∷ entries) = (worker_of e.event ≡ None → e.carried ≡ Nothing) × AreBare entries
