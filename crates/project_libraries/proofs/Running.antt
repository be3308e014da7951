-- What the look-up of a run fits.
use Rattle.std.proofs.Common.{◌≡◌, ℕ, List, Option, None, Some, IfOk, IfSome, Result, refl, sym, ap, subst, ◌∙◌}
use Rattle.std.specs.HashMap.{get}
use Rattle.mvn_shared.specs.Files.{Files}
use Rattle.mvn_base.specs.declared.gav.Gav.{Gav}
use Rattle.mvn_outside.specs.Shelf.{files_now}
use Rattle.mvn_outside.specs.declared.shelf.ShelfTold.{ShelfTold}
use Rattle.pom_source.specs.Worlds.{World}
use Rattle.mvn_base.specs.Gav.{gav_eq}
use Rattle.effective.specs.Kept.{HoldsAll}
use Rattle.model_resolver.specs.Devices.{FitsTold, Told}
use Rattle.model_resolver.specs.Finding.{world_of}
use Rattle.mediation.specs.Libraries.{Libraries}
use Rattle.mediation.specs.declared.known.Known.{Known}
use Rattle.project_libraries.specs.Available.{available}
use Rattle.project_libraries.specs.Known.{known_at, libraries_of}
use Rattle.project_libraries.specs.Holding.{AlikeRun, FitsRun, HoldsKnown, told_by}
use Rattle.project_libraries.specs.declared.run_lookup.RunLookup.{RunLookup}

module _ {T S R : Type 0} (tree_told : T → Option Files) (tree_faults : T → ℕ) (shelf_told : S → Option ShelfTold) (shelf_faults : S → ℕ)
    (remote_told : R → Option Files) (remote_faults : R → ℕ) where
  abbrev tells : RunLookup T S R → Told
  tells l = told_by tree_told tree_faults shelf_told shelf_faults remote_told remote_faults l

  abbrev Fits : RunLookup T S R → Libraries → Type 0
  Fits = FitsRun tree_told tree_faults shelf_told shelf_faults remote_told remote_faults

  -- the world of what the devices tell
  abbrev pub world_in : (l : RunLookup T S R) (libraries : Libraries) → Fits l libraries → World
  world_in l libraries fits = world_of l.source.project.now fits.tree (files_now fits.shelf) fits.remote

  pub fits_world : (l : RunLookup T S R) (libraries : Libraries) (fits : Fits l libraries) → FitsTold (tells l) l.source.project.now (world_in l libraries fits)
  fits_world l libraries fits = record {
    tree = fits.tree;
    shelf = fits.shelf;
    remote = fits.remote;
    told_so = fits.told_so;
    finds = record { by_path = λ path. refl; by_gav = λ gav. refl; there = refl };
  }

  -- what tells the same fits the same libraries, if what it keeps is so
  pub fits_still : (before now : RunLookup T S R) (libraries : Libraries) → AlikeRun tree_told tree_faults shelf_told shelf_faults remote_told remote_faults before now
      → (fits : Fits before libraries) → HoldsAll (world_in before libraries fits) before.given.now now.store.now
      → HoldsKnown (world_in before libraries fits) before.given.now before.own.now (get gav_eq now.memo.now) → Fits now libraries
  fits_still before now libraries alike fits holds keeps =
      let project = alike.source.keeps.project in
      let shelf = files_now fits.shelf in
      record {
        tree = fits.tree;
        shelf = fits.shelf;
        remote = fits.remote;
        told_so = alike.source.keeps.told ∙ fits.told_so;
        holds = subst (λ p. HoldsAll (world_of p fits.tree shelf fits.remote) now.given.now now.store.now) (sym project)
            (subst (λ g. HoldsAll (world_in before libraries fits) g now.store.now) (sym alike.given) holds);
        keeps = subst (λ p. HoldsKnown (world_of p fits.tree shelf fits.remote) now.given.now now.own.now (get gav_eq now.memo.now)) (sym project)
            (subst (λ g. HoldsKnown (world_in before libraries fits) g now.own.now (get gav_eq now.memo.now)) (sym alike.given)
            (subst (λ o. HoldsKnown (world_in before libraries fits) before.given.now o (get gav_eq now.memo.now)) (sym alike.own) keeps));
        is = subst (λ p. libraries ≡ libraries_of fits.tree shelf fits.remote now.given.now p now.own.now) (sym project)
            (subst (λ g. libraries ≡ libraries_of fits.tree shelf fits.remote g before.source.project.now now.own.now) (sym alike.given)
            (subst (λ o. libraries ≡ libraries_of fits.tree shelf fits.remote before.given.now before.source.project.now o) (sym alike.own) fits.is));
      }

  -- an answer that is known is the libraries'
  pub known_in : {E : Type 0} (l : RunLookup T S R) (libraries : Libraries) (fits : Fits l libraries) (gav : Gav) (r : Result Known E)
      → IfOk r (λ k. k ≡ known_at (world_in l libraries fits) l.given.now l.own.now gav) → IfOk r (λ k. k ≡ libraries.at gav)
  known_in l libraries fits gav r said = subst (λ (a : Libraries). IfOk r (λ k. k ≡ a.at gav)) (sym fits.is) said

  -- and so of versions
  pub available_in : {E : Type 0} (l : RunLookup T S R) (libraries : Libraries) (fits : Fits l libraries) (group artifact : List ℕ) (r : Result (Option (List (List ℕ))) E)
      → IfSome (shelf_told l.source.shelf.now) (λ told. IfSome (remote_told l.source.remote.now) (λ files. IfOk r (λ all. all ≡ available (files_now told) files l.own.now group artifact)))
      → IfOk r (λ all. all ≡ libraries.versions group artifact)
  available_in l libraries fits group artifact r said =
      let shelf : shelf_told l.source.shelf.now ≡ Some fits.shelf = ap (λ (t : Told). t.shelf) fits.told_so in
      let remote : remote_told l.source.remote.now ≡ Some fits.remote = ap (λ (t : Told). t.remote) fits.told_so in
      let here : IfSome (remote_told l.source.remote.now) (λ files. IfOk r (λ all. all ≡ available (files_now fits.shelf) files l.own.now group artifact)) =
      subst (λ o. IfSome o (λ told. IfSome (remote_told l.source.remote.now) (λ files. IfOk r (λ all. all ≡ available (files_now told) files l.own.now group artifact)))) shelf said in
      let both : IfOk r (λ all. all ≡ available (files_now fits.shelf) fits.remote l.own.now group artifact) =
      subst (λ o. IfSome o (λ files. IfOk r (λ all. all ≡ available (files_now fits.shelf) files l.own.now group artifact))) remote here in
      subst (λ (a : Libraries). IfOk r (λ all. all ≡ a.versions group artifact)) (sym fits.is) both

-- what holds of what three devices tell
pub all_told : (a : Option Files) (b : Option ShelfTold) (c : Option Files) (P : Files → Files → Files → Type 0)
    → ((files : Files) (told : ShelfTold) (there : Files) → a ≡ Some files → b ≡ Some told → c ≡ Some there → P files (files_now told) there)
    → IfSome a (λ files. IfSome b (λ told. IfSome c (λ there. P files (files_now told) there)))
all_told None b c P h = tt
all_told (Some files) None c P h = tt
all_told (Some files) (Some told) None P h = tt
all_told (Some files) (Some told) (Some there) P h = h files told there refl refl refl

pub told_three : (a : Option Files) (b : Option ShelfTold) (c : Option Files) (files : Files) (told : ShelfTold) (there : Files)
    → a ≡ Some files → b ≡ Some told → c ≡ Some there
    → ◌≡◌ {A = Told} (record { tree = a; shelf = b; remote = c }) (record { tree = Some files; shelf = Some told; remote = Some there })
told_three a b c files told there x y z =
    ap (λ (t : Option Files). record { tree = t; shelf = b; remote = c }) x
    ∙ ap (λ (t : Option ShelfTold). record { tree = Some files; shelf = t; remote = c }) y
    ∙ ap (λ (t : Option Files). record { tree = Some files; shelf = Some told; remote = t }) z
