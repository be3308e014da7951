-- A project as its POMs list one another. Guide to Working with Multiple Modules.
use Rattle.std.specs.Prelude.{◌≡◌, ◌≤◌, ◌+◌, ◌⊎◌, ℕ, false, List, [], ◌∷◌, ◌++◌, length, None, Some, Ok}
use Rattle.mvn_base.specs.declared.refusal.PomId.TheVariants as ids
use Rattle.mvn_base.specs.Limits.{most_modules}
use Rattle.mvn_base.specs.Paths.{joined}
use Rattle.pom_source.specs.Worlds.{World}
use Rattle.pom_source.specs.declared.found.Given.{Given}
use Rattle.lineage.specs.Reading.{read}
use Rattle.discovery.specs.Discovery.{listed_by, path_of, pom_xml}
use Rattle.discovery.specs.Met.{is_met}
use Rattle.discovery.specs.declared.pom.Listed.{Listed}
use Rattle.discovery.specs.declared.pom.ModulePom.{ModulePom}

-- POMs one behind another, each at a path that none before it has
pub data AreApart : List ModulePom → Type 0 where
  no_pom : AreApart []
  one_more : (found : List ModulePom) (pom : ModulePom) → AreApart found → is_met found pom.path ≡ false
      → AreApart (found ++ pom ∷ [])

module _ (world : World) where
  -- a POM has the bytes of the file at its path, and says what they say
  pub record IsRead (pom : ModulePom) : Type 0 where
    pub there : world.by_path pom.path ≡ Some pom.bytes
    pub says : read (ids.Path pom.path) pom.bytes ≡ Ok pom.raw

  -- a module leads to a POM: `pom.xml` in the folder of its name, or else the file of its name
  pub record LeadsTo (l : Listed) (pom : ModulePom) : Type 0 where
    pub path : List ℕ
    pub names : path_of l ≡ Ok path
    pub at : (pom.path ≡ joined path pom_xml) ⊎ ((world.by_path (joined path pom_xml) ≡ None) × (pom.path ≡ path))
    pub is_read : IsRead pom

  module _ (given : Given) where
    -- the POMs of some modules: that of the first, those of the modules that it lists, and those of the others
    pub data AreListed : List Listed → List ModulePom → Type 0 where
      no_module : AreListed [] []
      one_module : (l : Listed) (modules own : List Listed) (pom : ModulePom) (below others : List ModulePom)
          → LeadsTo l pom → listed_by world given pom ≡ Ok own → AreListed own below → AreListed modules others
          → AreListed (l ∷ modules) (pom ∷ below ++ others)

    -- a project: `pom.xml`, and the POMs of the modules that it lists; no POM twice, and 1,024 at most
    pub record IsProject (poms : List ModulePom) : Type 0 where
      pub root : ModulePom
      pub own : List Listed
      pub rest : List ModulePom
      pub begins : poms ≡ root ∷ rest
      pub at : root.path ≡ pom_xml
      pub is_read : IsRead root
      pub lists : listed_by world given root ≡ Ok own
      pub are_listed : AreListed own rest
      pub apart : AreApart poms
      pub few : length poms ≤ 1 + most_modules
