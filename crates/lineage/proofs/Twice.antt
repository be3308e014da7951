-- A POM that was read at a path, kept under coordinates too.
use Rattle.std.proofs.Common.{◌≡◌, Bool, true, false, List, ℕ, Option, None, Some, Ok, refl, sym, ap, ◌∙◌}
use Rattle.std.specs.Prelude.{is_some}
use Rattle.std.specs.Option.{option_or}
use Rattle.mvn_base.specs.declared.gav.Gav.{Gav}
use Rattle.model_types.specs.declared.model.RawModel.{RawModel}
use Rattle.pom_source.specs.Worlds.{World}
use Rattle.pom_source.specs.declared.found.Given.{Given}
use Rattle.lineage.specs.Beside.{read_at}
use Rattle.lineage.specs.Lineage.{known_at}
use Rattle.lineage.specs.Stores.{Holds, known_as, known_in, read_in}
use Rattle.lineage.specs.declared.origin.Candidate.{Candidate}
use Rattle.lineage.specs.declared.origin.Candidate.TheVariants as candidates
use Rattle.lineage.specs.declared.store.Store.{Store}
use Rattle.lineage.proofs.Holding.{read_serves}

some_is : {A : Type 0} (x y : A) → ◌≡◌ {A = Option A} (Some x) (Some y) → x ≡ y
some_is x y e = cc

none_some : {A B : Type 0} (x : A) → ◌≡◌ {A = Option A} None (Some x) → B
none_some x e = cc

-- nothing is known
known_none : {A : Type 0} (known : Bool) (old : Option A) → known ≡ is_some old → known ≡ false → old ≡ None
known_none known None is not_so = refl
known_none known (Some x) is not_so = cc

-- what is known stays
pub stays_known : (known : Bool) (old more : Option (Option Candidate)) → known ≡ is_some old → known ≡ true → old ≡ option_or old more
stays_known known None more is true_so = cc
stays_known known (Some x) more is true_so = refl

-- what was read is known where nothing was
pub now_known : (known : Bool) (old new more read : Option (Option Candidate)) (found : Option Candidate) → known ≡ is_some old → known ≡ false
    → read ≡ more → read ≡ Some found → new ≡ Some found → new ≡ option_or old more
now_known known old new more read found is not_so says there kept =
    kept ∙ sym there ∙ says ∙ sym (ap (λ o. option_or o more) (known_none known old is not_so))

-- and nothing, where nothing was read
pub not_read : (known : Bool) (old more read : Option (Option Candidate)) → known ≡ is_some old → known ≡ false → read ≡ more → read ≡ None → old ≡ option_or old more
not_read known old more read is not_so says gone =
    known_none known old is not_so ∙ sym gone ∙ says ∙ sym (ap (λ o. option_or o more) (known_none known old is not_so))

pub is_known : (new : Option (Option Candidate)) (found : Option Candidate) → new ≡ Some found → true ≡ is_some new
is_known new found kept = sym (ap is_some kept)

-- what was read is what the coordinates lead to
pub leads : (world : World) (given : Given) (store : Store) (gav : Gav) (path : List ℕ) (known : Bool) (read : Option (Option Candidate)) (found : Option Candidate)
    → Holds world given store → (known_in store gav ≡ None → (raw : RawModel) → read_at world path ≡ Ok (Some raw) → known_at world gav ≡ Ok (Some (candidates.Read raw)))
    → known ≡ is_some (known_in store gav) → known ≡ false → read ≡ known_as (read_in store path) → read ≡ Some found → known_at world gav ≡ Ok found
leads world given store gav path known read found holds lead is not_so says there = by (read_in store path) refl (sym there ∙ says)
  where
    by : (o : Option (Option RawModel)) → read_in store path ≡ o → Some found ≡ known_as o → known_at world gav ≡ Ok found
    by None same e = none_some found (sym e)
    by (Some None) same e = none_some found (sym e)
    by (Some (Some raw)) same e =
        lead (known_none known (known_in store gav) is not_so) raw (read_serves world given store path (Some (Some raw)) holds (sym same))
        ∙ ap (λ (f : Option Candidate). Ok f) (sym (some_is found (Some (candidates.Read raw)) e))
