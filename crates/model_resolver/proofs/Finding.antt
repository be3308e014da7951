-- POMs by their coordinates, in a world that is told.
use Rattle.std.proofs.Common.{◌≡◌, List, Option, Some, None, Result, IfOk, IfSome, refl, sym, ap, subst, ◌∙◌}
use Rattle.std.specs.Option.{option_or}
use Rattle.mvn_shared.specs.Files.{Files}
use Rattle.mvn_base.specs.declared.gav.Gav.{Gav}
use Rattle.mvn_outside.specs.Shelf.{files_now}
use Rattle.mvn_outside.specs.declared.fault.DeviceFault.{DeviceFault}
use Rattle.mvn_outside.specs.declared.shelf.ShelfTold.{ShelfTold}
use Rattle.pom_source.specs.Worlds.{World}
use Rattle.pom_source.specs.declared.found.Found.{Found}
use Rattle.model_resolver.specs.Devices.{FitsTold, Told}
use Rattle.model_resolver.specs.Finding.{project_of, repository_of, world_of}
use Rattle.model_resolver.specs.declared.resolver.ProjectPom.{ProjectPom}

-- one of the project's POMs
pub found_first : (told : Told) (poms : List ProjectPom) (world : World) (gav : Gav) (found : Found) → FitsTold told poms world
    → project_of poms gav ≡ Some found → Some found ≡ world.by_gav gav
found_first told poms world gav found fit is =
    sym (fit.finds.by_gav gav ∙ ap (λ o. option_or o (option_or (repository_of (files_now fit.shelf) gav) (repository_of fit.remote gav))) is)

-- none of the project's POMs: one of a repository
pub found_later : (told : Told) (poms : List ProjectPom) (world : World) (gav : Gav) (r : Result (Option Found) DeviceFault) → FitsTold told poms world
    → project_of poms gav ≡ None
    → IfSome told.shelf (λ t. IfSome told.remote (λ files. IfOk r (λ f. f ≡ option_or (repository_of (files_now t) gav) (repository_of files gav))))
    → IfOk r (λ f. f ≡ world.by_gav gav)
found_later told poms world gav r fit none so =
    let shelf : told.shelf ≡ Some fit.shelf = ap (λ (t : Told). t.shelf) fit.told_so in
    let remote : told.remote ≡ Some fit.remote = ap (λ (t : Told). t.remote) fit.told_so in
    let here = subst (λ o. IfSome o (λ files. IfOk r (λ f. f ≡ option_or (repository_of (files_now fit.shelf) gav) (repository_of files gav)))) remote
    (subst (λ o. IfSome o (λ t. IfSome told.remote (λ files. IfOk r (λ f. f ≡ option_or (repository_of (files_now t) gav) (repository_of files gav))))) shelf so) in
    let is : option_or (repository_of (files_now fit.shelf) gav) (repository_of fit.remote gav) ≡ world.by_gav gav =
    sym (fit.finds.by_gav gav ∙ ap (λ o. option_or o (option_or (repository_of (files_now fit.shelf) gav) (repository_of fit.remote gav))) none) in
    subst (λ x. IfOk r (λ f. f ≡ x)) is here

-- devices that tell fit the world of what they tell
pub told_fits : (tree : Option Files) (shelf : Option ShelfTold) (remote : Option Files) (poms : List ProjectPom) (P : World → Type 0)
    → ((world : World) → FitsTold (record { tree = tree; shelf = shelf; remote = remote }) poms world → P world)
    → IfSome tree (λ files. IfSome shelf (λ told. IfSome remote (λ there. P (world_of poms files (files_now told) there))))
told_fits None shelf remote poms P h = tt
told_fits (Some files) None remote poms P h = tt
told_fits (Some files) (Some told) None poms P h = tt
told_fits (Some files) (Some told) (Some there) poms P h =
    h (world_of poms files (files_now told) there) (record { tree = files; shelf = told; remote = there; told_so = refl; finds = record { by_path = λ path. refl; by_gav = λ gav. refl; there = refl } })
