-- Entries of the dependencies of a module, one after the other.
use Rattle.std.proofs.Common.{◌≡◌, ℕ, Bool, true, false, ◌&&◌, List, [], ◌∷◌, ◌++◌, filter, map, refl, if◌then◌else◌}
use Rattle.mvn_base.specs.declared.gav.Gav.{Gav}
use Rattle.classpaths.specs.declared.resolution.Resolved.{Resolved}
use Rattle.build_core.specs.declared.plan.Entry.{Entry}
use Rattle.classpaths.specs.Classpaths.{is_on}
use Rattle.classpaths.specs.declared.classpath.Kind.TheVariants as kinds
use Rattle.std.proofs.lemmas.List.{append_assoc}
use Rattle.module_plan.specs.Plans.{entries_of, entry_of}
use Rattle.module_plan.specs.Uses.{has_names}

-- the entry of one dependency, and then those of the rest
pub one_entry_more : (built : List Gav) (files : List (List ℕ)) (entries : List Entry) (w : Resolved) (rest : List Resolved)
    → (if has_names w && is_on kinds.Test w then entries ++ entry_of built files w ∷ [] else entries) ++ entries_of built files (filter has_names rest)
    ≡ entries ++ entries_of built files (filter has_names (w ∷ rest))
one_entry_more built files entries w rest = by (has_names w)
  where
    inner : (b : Bool) → (if b then entries ++ entry_of built files w ∷ [] else entries) ++ entries_of built files (filter has_names rest)
        ≡ entries ++ map (entry_of built files) (if b then w ∷ filter (is_on kinds.Test) (filter has_names rest) else filter (is_on kinds.Test) (filter has_names rest))
    inner true = append_assoc entries (entry_of built files w ∷ []) (entries_of built files (filter has_names rest))
    inner false = refl

    by : (a : Bool) → (if a && is_on kinds.Test w then entries ++ entry_of built files w ∷ [] else entries) ++ entries_of built files (filter has_names rest)
        ≡ entries ++ entries_of built files (if a then w ∷ filter has_names rest else filter has_names rest)
    by true = inner (is_on kinds.Test w)
    by false = refl
