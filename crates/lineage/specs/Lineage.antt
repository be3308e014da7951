-- What a POM builds on, up to the super POM. POM Reference, "Inheritance"; the order of refusals, and that 32 POMs are enough,
-- are project rules.
use Rattle.std.specs.Prelude.{ℕ, zero, suc, Bool, true, false, ◌&&◌, ◌||◌, ◌==◌, List, [], ◌∷◌, ◌++◌, codes, Option, None, Some, Ok, Err, if◌then◌else◌}
use Rattle.std.specs.List.{list_any}
use Rattle.std.specs.Str.{bytes_eq}
use Rattle.mvn_base.specs.Names.{has_expression}
use Rattle.mvn_base.specs.declared.gav.Gav.{Gav}
use Rattle.mvn_base.specs.declared.refusal.PomId.{PomId}
use Rattle.mvn_base.specs.declared.refusal.PomId.TheVariants as ids
use Rattle.mvn_base.specs.declared.rule.Rule.{Rule}
use Rattle.mvn_base.specs.declared.rule.Rule.TheVariants.{BadRange, LineageTooLong, ParentCycle, ParentExpression, ParentNotFound, ParentPackaging}
use Rattle.model_types.specs.declared.model.Parent.{Parent}
use Rattle.model_types.specs.declared.model.RawModel.{RawModel}
use Rattle.inheritance.specs.Inherit.{inherit}
use Rattle.inheritance.specs.SuperPom.{super_pom}
use Rattle.pom_source.specs.Answers.{Built, ◌>>=◌}
use Rattle.pom_source.specs.Refusals.{gav_refused, text_refused}
use Rattle.pom_source.specs.Worlds.{World}
use Rattle.pom_source.specs.declared.fault.BuildFault.TheVariants as faults
use Rattle.pom_source.specs.declared.found.Found.{Found}
use Rattle.pom_source.specs.declared.found.Given.{Given}
use Rattle.mvn_base.specs.Gav.{gav_eq}
use Rattle.lineage.specs.Beside.{found_origin, raw_gav}
use Rattle.lineage.specs.Reading.{read, with_profiles}
use Rattle.lineage.specs.declared.joined.Joined.{Joined}
use Rattle.lineage.specs.declared.origin.Origin.{Origin}
use Rattle.lineage.specs.declared.origin.Origin.TheVariants.{Beside, Elsewhere}
use Rattle.lineage.specs.declared.origin.Candidate.{Candidate}
use Rattle.lineage.specs.declared.origin.Candidate.TheVariants as candidates

abbrev pub pom_eq : PomId → PomId → Bool
pom_eq (ids.Path a) (ids.Path b) = bytes_eq a b
pom_eq (ids.Path a) (ids.Gav b) = false
pom_eq (ids.Gav a) (ids.Path b) = false
pom_eq (ids.Gav a) (ids.Gav b) = gav_eq a b

abbrev pub is_in : PomId → List PomId → Bool
is_in pom poms = list_any (λ other. pom_eq other pom) poms

abbrev pub next_poms : List PomId → PomId → List PomId
next_poms poms pom = poms ++ pom ∷ []

-- the POM whose lineage is built
abbrev pub first_of : List PomId → PomId → PomId
first_of [] pom = pom
first_of (p ∷ poms) pom = p

-- the super POM, above all
abbrev pub top : Joined
top = record { poms = []; model = super_pom }

-- a POM over what it builds on
abbrev pub put_over : PomId → RawModel → Joined → Joined
put_over pom raw above = record { poms = next_poms above.poms pom; model = inherit raw above.model }

-- `[`, `(` and `,`, which a range has
abbrev pub has_range : List ℕ → Bool
has_range version = list_any (λ b. b == 91 || b == 40 || b == 44) version

-- what may not stand in a parent's coordinates: an expression, and a range for the version
unfoldable pub unstated : Gav → Option (Rule × List ℕ)
unstated gav =
    if has_expression gav.group then Some (ParentExpression, gav.group)
    else if has_expression gav.artifact then Some (ParentExpression, gav.artifact)
    else if has_expression gav.version then Some (ParentExpression, gav.version)
    else if has_range gav.version then Some (BadRange, gav.version)
    else None

abbrev pub unless : {A : Type 0} → PomId → Option (Rule × List ℕ) → Built A → Built A
unless child (Some e) further = Err (text_refused child e.0 e.1)
unless child None further = further

-- what a parent's coordinates are said to be in a refusal
abbrev pub gav_of : Origin → Gav
gav_of (Beside path raw) = raw_gav raw
gav_of (Elsewhere gav) = gav

-- a POM that was found as a parent, and what it says
abbrev pub pom_of : Candidate → PomId
pom_of (candidates.Read raw) = raw.pom
pom_of (candidates.Refused pom refusal) = pom

abbrev pub text_of : Candidate → Built RawModel
text_of (candidates.Read raw) = Ok raw
text_of (candidates.Refused pom refusal) = Err (faults.Refused refusal)

-- what is known of a POM by what it says
abbrev pub known : PomId → Built RawModel → Built Candidate
known pom (Ok raw) = Ok (candidates.Read raw)
known pom (Err (faults.Refused refusal)) = Ok (candidates.Refused pom refusal)
known pom (Err faults.Absent) = Err faults.Absent
known pom (Err faults.Source) = Err faults.Source
known pom (Err faults.Memory) = Err faults.Memory

-- a POM that was looked for, and what is known of it
abbrev pub known_of : Option Found → Built (Option Candidate)
known_of None = Ok None
known_of (Some found) = known found.pom (read found.pom found.bytes) >>= (λ candidate. Ok (Some candidate))

abbrev pub found_or : PomId → Gav → Option Candidate → Built Candidate
found_or child gav None = Err (gav_refused child ParentNotFound gav)
found_or child gav (Some found) = Ok found

-- a parent's packaging is `pom`
abbrev pub packed : PomId → Gav → RawModel → Built RawModel
packed child gav raw =
    if bytes_eq raw.coordinates.packaging (codes "pom") then Ok raw
    else Err (gav_refused child ParentPackaging gav)

-- a parent that wasn't met before in its lineage
abbrev pub unmet : PomId → List PomId → Gav → Candidate → Built Candidate
unmet child seen gav found =
    if is_in (pom_of found) seen then Err (gav_refused child ParentCycle gav) else Ok found

-- what a POM builds on, by its parent
abbrev pub above : (Parent → Built Joined) → Option Parent → Built Joined
above up None = Ok top
above up (Some parent) = up parent

module _ (world : World) where
  -- the POM of coordinates
  abbrev pub known_at : Gav → Built (Option Candidate)
  known_at gav = known_of (world.by_gav gav)

  -- and as a parent
  abbrev pub parent_at : PomId → Gav → Built Candidate
  parent_at child gav = known_at gav >>= found_or child gav

  abbrev pub candidate : PomId → Origin → Built Candidate
  candidate child (Beside path raw) = Ok (candidates.Read raw)
  candidate child (Elsewhere gav) = parent_at child gav

  -- the parent that an origin leads to
  abbrev pub parent_from : PomId → List PomId → Origin → Built Candidate
  parent_from child seen origin = candidate child origin >>= unmet child seen (gav_of origin)

  -- where a parent comes from, whose coordinates may stand
  abbrev pub origin_of : PomId → Parent → Built Origin
  origin_of child parent = unless child (unstated parent.gav) (found_origin world child parent)

  module _ (given : Given) where
    -- a POM and what it builds on
    abbrev pub line : (PomId → List PomId → Parent → Built Joined) → List PomId → RawModel → Built Joined
    line up seen raw =
        above (up raw.pom (next_poms seen raw.pom)) raw.parent
        >>= (λ p. Ok (put_over raw.pom (with_profiles given world.there raw) p))

    -- a parent that was found, and what it builds on
    abbrev pub entered : (PomId → List PomId → Parent → Built Joined) → PomId → List PomId → Gav → Candidate → Built Joined
    entered up child seen gav found = text_of found >>= (λ raw. packed child gav raw >>= line up seen)

    -- what is built on from a parent's origin on; as many POMs may come
    unfoldable pub joined_from : ℕ → PomId → List PomId → Origin → Built Joined
    joined_from zero child seen origin =
        parent_from child seen origin
        >>= (λ found. Err (gav_refused (first_of seen child) LineageTooLong (gav_of origin)))
    joined_from (suc left) child seen origin =
        parent_from child seen origin
        >>= entered (λ pom poms p. origin_of pom p >>= joined_from left pom poms) child seen (gav_of origin)

    -- what is built on from a parent on
    abbrev pub joined_up : ℕ → PomId → List PomId → Parent → Built Joined
    joined_up left child seen parent = origin_of child parent >>= joined_from left child seen

    -- a POM with its profiles, over all that it builds on
    abbrev pub lineage : RawModel → Built Joined
    lineage raw = line (joined_up 31) [] raw
