-- The POMs that one builds on, said without a search. POM Reference, "Inheritance"; that 32 POMs are enough is a project rule.
use Rattle.std.specs.Prelude.{◌≡◌, ℕ, ◌≤◌, Bool, true, not, ◌&&◌, List, [], ◌∷◌, ◌++◌, length, codes, Option, None, Some, is_some, Ok}
use Rattle.mvn_base.specs.declared.refusal.PomId.{PomId}
use Rattle.model_types.specs.declared.model.Parent.{Parent}
use Rattle.model_types.specs.declared.model.RawModel.{RawModel}
use Rattle.inheritance.specs.Inherit.{inherit}
use Rattle.inheritance.specs.SuperPom.{super_pom}
use Rattle.pom_source.specs.Worlds.{World}
use Rattle.pom_source.specs.declared.found.Found.{Found}
use Rattle.pom_source.specs.declared.found.Given.{Given}
use Rattle.lineage.specs.Lineage.{is_in, origin_of}
use Rattle.lineage.specs.Reading.{read, with_profiles}
use Rattle.lineage.specs.declared.joined.Joined.{Joined}
use Rattle.lineage.specs.declared.origin.Origin.{Origin}
use Rattle.lineage.specs.declared.origin.Origin.TheVariants.{Beside, Elsewhere}

-- each POM stands there once
abbrev pub each_once : List PomId → Bool
each_once [] = true
each_once (pom ∷ poms) = not (is_in pom poms) && each_once poms

-- the POMs of a line, from the top
abbrev pub names : List RawModel → List PomId
names [] = []
names (raw ∷ raws) = names raws ++ raw.pom ∷ []

-- a model states a group and a version
abbrev pub is_stated : RawModel → Bool
is_stated model = is_some model.coordinates.group && is_some model.coordinates.version

module _ (world : World) where
  -- an origin leads to a POM: the one that was read at the path, or the one that the coordinates find
  abbrev pub LeadsTo : Origin → RawModel → Type 0
  LeadsTo (Beside path raw) parent = raw ≡ parent
  LeadsTo (Elsewhere gav) parent =
      (found : Found) × (world.by_gav gav ≡ Some found) × (read found.pom found.bytes ≡ Ok parent)

  -- a POM is the parent that another one names
  pub record IsParent (child parent : RawModel) : Type 0 where
    pub named : Parent
    pub origin : Origin
    pub says : child.parent ≡ Some named
    pub comes : origin_of world child.pom named ≡ Ok origin
    pub leads : LeadsTo origin parent
    pub packed : parent.coordinates.packaging ≡ codes "pom"

  -- each POM has the next one as its parent, and the last has none
  abbrev pub IsLine : RawModel → List RawModel → Type 0
  IsLine pom [] = pom.parent ≡ None
  IsLine pom (parent ∷ parents) = IsParent pom parent × IsLine parent parents

  -- what POMs come to over the super POM, each with its active profiles
  abbrev pub model_of : Given → List RawModel → RawModel
  model_of given [] = super_pom
  model_of given (raw ∷ raws) = inherit (with_profiles given world.there raw) (model_of given raws)

  -- a lineage: a POM and its parents, 32 at most and each of them once, joined from the super POM down
  pub record IsLineage (given : Given) (pom : RawModel) (joined : Joined) : Type 0 where
    pub parents : List RawModel
    pub line : IsLine pom parents
    pub few : length parents ≤ 31
    pub once : each_once (names (pom ∷ parents)) ≡ true
    pub poms : joined.poms ≡ names (pom ∷ parents)
    pub model : joined.model ≡ model_of given (pom ∷ parents)
