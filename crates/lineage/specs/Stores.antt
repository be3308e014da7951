-- What a store keeps of the POMs of a run. Project rule.
use Rattle.std.specs.Prelude.{◌≡◌, ℕ, ◌≤◌, nat_le, Bool, true, false, not, ◌&&◌, List, length, Option, None, Some, is_some, IfSome, Ok, if◌then◌else◌}
use Rattle.std.specs.HashMap.{get}
use Rattle.std.specs.List.{list_any}
use Rattle.std.specs.Str.{bytes_eq}
use Rattle.mvn_base.specs.declared.gav.Gav.{Gav}
use Rattle.mvn_base.specs.declared.refusal.PomId.{PomId}
use Rattle.model_types.specs.declared.model.Parent.{Parent}
use Rattle.model_types.specs.declared.model.RawModel.{RawModel}
use Rattle.pom_source.specs.Worlds.{World}
use Rattle.pom_source.specs.declared.found.Given.{Given}
use Rattle.mvn_base.specs.Gav.{gav_eq}
use Rattle.lineage.specs.Beside.{read_at}
use Rattle.lineage.specs.Lineage.{is_in, joined_from, known_at, origin_of, text_of}
use Rattle.lineage.specs.Reading.{active_places}
use Rattle.lineage.specs.declared.joined.Joined.{Joined}
use Rattle.lineage.specs.declared.origin.Candidate.{Candidate}
use Rattle.lineage.specs.declared.origin.Candidate.TheVariants as candidates
use Rattle.lineage.specs.declared.origin.Origin.{Origin}
use Rattle.lineage.specs.declared.origin.Origin.TheVariants.{Beside, Elsewhere}
use Rattle.lineage.specs.declared.store.Store.{Store}

-- one of the POMs is among the others
abbrev pub meets : List PomId → List PomId → Bool
meets poms seen = list_any (λ pom. is_in pom seen) poms

abbrev pub read_in : Store → List ℕ → Option (Option RawModel)
read_in store path = get bytes_eq store.read path

-- what is known of the POM of coordinates
abbrev pub known_in : Store → Gav → Option (Option Candidate)
known_in store gav = get gav_eq store.known gav

-- the POM that was read at a path, as one that coordinates lead to
abbrev pub known_as : Option (Option RawModel) → Option (Option Candidate)
known_as None = None
known_as (Some None) = None
known_as (Some (Some raw)) = Some (Some (candidates.Read raw))

-- a lineage that is kept under the path or the coordinates that led to its lowest POM
abbrev pub line_in : Store → Origin → Option Joined
line_in store (Beside path raw) = get bytes_eq store.beside path
line_in store (Elsewhere gav) = get gav_eq store.elsewhere gav

-- the places of the active profiles of the POM at a path
abbrev pub places_in : Store → List ℕ → Option (List ℕ)
places_in store path = get bytes_eq store.active path

-- nothing that was read is forgotten
abbrev pub KeepsRead : Store → Store → Type 0
KeepsRead old new =
    (path : List ℕ) (found : Option RawModel) → read_in old path ≡ Some found → read_in new path ≡ Some found

-- and no lineage; another one may take its place
abbrev pub KeepsLines : Store → Store → Type 0
KeepsLines old new = (origin : Origin) → is_some (line_in old origin) ≡ true → is_some (line_in new origin) ≡ true

-- a lineage serves one who may meet so many POMs and has met these
abbrev pub serves : ℕ → List PomId → Joined → Bool
serves left seen kept = nat_le (length kept.poms) left && not (meets kept.poms seen)

abbrev pub if_serves : ℕ → List PomId → Option Joined → Option Joined
if_serves left seen None = None
if_serves left seen (Some kept) = if serves left seen kept then Some kept else None

-- two worlds have the same POMs at their paths
abbrev pub AgreesOnPaths : World → World → Type 0
AgreesOnPaths world other = (path : List ℕ) → other.by_path path ≡ world.by_path path

module _ (world : World) where
  -- what an origin says of the POM at its path is so
  abbrev pub IsAt : Origin → Type 0
  IsAt (Beside path raw) = read_at world path ≡ Ok (Some raw)
  IsAt (Elsewhere gav) = Unit {0}

  -- a POM is the one at the path of an origin, if this has a path
  abbrev pub IsThere : Origin → RawModel → Type 0
  IsThere (Beside path other) raw = read_at world path ≡ Ok (Some raw)
  IsThere (Elsewhere gav) raw = Unit {0}

  -- so is what a POM says that an origin led to
  abbrev pub LedThere : Origin → Candidate → Type 0
  LedThere origin found = (raw : RawModel) → text_of found ≡ Ok raw → IsThere origin raw

  -- what the parent of a POM builds on is kept
  abbrev pub KeepsParent : Store → PomId → Option Parent → Type 0
  KeepsParent store pom parent =
      (named : Parent) (origin : Origin) → parent ≡ Some named → origin_of world pom named ≡ Ok origin
      → is_some (line_in store origin) ≡ true

  -- what was read at each path
  unfoldable pub HoldsRead : Store → Type 0
  HoldsRead store = (path : List ℕ) → IfSome (read_in store path) (λ found. read_at world path ≡ Ok found)

  -- what was found for each coordinates, or that nothing was
  unfoldable pub HoldsKnown : Store → Type 0
  HoldsKnown store = (gav : Gav) → IfSome (known_in store gav) (λ found. known_at world gav ≡ Ok found)

  module _ (given : Given) where
    -- a lineage from an origin on, whoever asks, if none of its POMs was met and there may be as many
    unfoldable pub IsKept : Origin → Joined → Type 0
    IsKept origin kept = (left : ℕ) (child : PomId) (seen : List PomId) → length kept.poms ≤ left
        → meets kept.poms seen ≡ false → joined_from world given left child seen origin ≡ Ok kept

    unfoldable pub HoldsLines : Store → Type 0
    HoldsLines store = (origin : Origin) → IsAt origin
        → IfSome (line_in store origin) (λ kept. IsKept origin kept)

    -- the places of the active profiles of the POM at a path
    unfoldable pub AreActive : List ℕ → List ℕ → Type 0
    AreActive path places = (raw : RawModel) → read_at world path ≡ Ok (Some raw)
        → places ≡ active_places given world.there raw

    unfoldable pub HoldsActive : Store → Type 0
    HoldsActive store = (path : List ℕ) → IfSome (places_in store path) (λ places. AreActive path places)

    -- all that a store keeps is so in a world
    pub record Holds (store : Store) : Type 0 where
      pub read : HoldsRead store
      pub known : HoldsKnown store
      pub lines : HoldsLines store
      pub active : HoldsActive store
