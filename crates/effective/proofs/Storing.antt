-- What a store of a run holds.
use Rattle.std.proofs.Common.{◌≡◌, Bool, true, false, Option, None, Some, IfSome, Result, Ok, Err, OnOk, OnErr, refl, sym, ap, subst, if◌then◌else◌}
use Rattle.std.specs.HashMap.{get}
use Rattle.mvn_base.specs.declared.gav.Gav.{Gav}
use Rattle.pom_source.specs.Worlds.{World}
use Rattle.pom_source.specs.declared.found.Given.{Given}
use Rattle.mvn_base.specs.Gav.{gav_eq}
use Rattle.lineage.specs.Stores.{Holds}
use Rattle.lineage.proofs.Holding.{same_gav}
use Rattle.effective.specs.Kept.{HoldsAll, HoldsImports, IsImport, import_in}
use Rattle.effective.specs.declared.kept.Import.{Import}
use Rattle.effective.specs.declared.run_store.RunStore.{RunStore}

module _ (world : World) (given : Given) where
  pub nothing_held : (store : RunStore) → Holds world given store.lineages → ((gav : Gav) → import_in store gav ≡ None) → HoldsAll world given store
  unfolding HoldsImports
  nothing_held store lineages none = record {
    lineages = lineages;
    imports = λ gav. subst (λ o. IfSome o (IsImport world given gav)) (sym (none gav)) (record {});
  }

  -- an import that is kept
  pub import_serves : (store : RunStore) (gav : Gav) (import : Import) → HoldsAll world given store → import_in store gav ≡ Some import → IsImport world given gav import
  unfolding HoldsImports
  import_serves store gav import holds is = subst (λ o. IfSome o (IsImport world given gav)) is (holds.imports gav)

  -- imports stay where their map does
  pub lineages_put : (old new : RunStore) → new.imports ≡ old.imports → Holds world given new.lineages → HoldsAll world given old → HoldsAll world given new
  unfolding HoldsImports
  lineages_put old new same lineages holds = record {
    lineages = lineages;
    imports = λ gav. subst (λ m. IfSome (get gav_eq m gav) (IsImport world given gav)) (sym same) (holds.imports gav);
  }

  import_more : (old new : RunStore) (gav : Gav) (import : Import) → new.lineages ≡ old.lineages
      → ((other : Gav) → get gav_eq new.imports other ≡ (if gav_eq gav other then Some import else get gav_eq old.imports other))
      → HoldsAll world given old → IsImport world given gav import → HoldsAll world given new
  unfolding HoldsImports
  import_more old new gav import same put holds is = record {
    lineages = subst (λ l. Holds world given l) (sym same) holds.lineages;
    imports = λ other. subst (λ o. IfSome o (IsImport world given other)) (sym (put other)) (by other (gav_eq gav other) refl);
  }
    where
      by : (other : Gav) (b : Bool) → gav_eq gav other ≡ b → IfSome (if b then Some import else get gav_eq old.imports other) (IsImport world given other)
      by other true e = subst (λ g. IsImport world given g import) (same_gav gav other e) is
      by other false e = holds.imports other

  import_same : (old new : RunStore) → new.lineages ≡ old.lineages → ((other : Gav) → get gav_eq new.imports other ≡ get gav_eq old.imports other) → HoldsAll world given old → HoldsAll world given new
  unfolding HoldsImports
  import_same old new same kept holds = record {
    lineages = subst (λ l. Holds world given l) (sym same) holds.lineages;
    imports = λ other. subst (λ o. IfSome o (IsImport world given other)) (sym (kept other)) (holds.imports other);
  }

  -- so whatever came of the putting
  pub import_put : {T E : Type 0} (r : Result T E) (old new : RunStore) (gav : Gav) (import : Import) → new.lineages ≡ old.lineages
      → OnOk r ((other : Gav) → get gav_eq new.imports other ≡ (if gav_eq gav other then Some import else get gav_eq old.imports other))
      → OnErr r ((other : Gav) → get gav_eq new.imports other ≡ get gav_eq old.imports other)
      → HoldsAll world given old → IsImport world given gav import → HoldsAll world given new
  import_put (Ok x) old new gav import same ok err holds is = import_more old new gav import same ok holds is
  import_put (Err x) old new gav import same ok err holds is = import_same old new same err holds
