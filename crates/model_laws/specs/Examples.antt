-- A POM in which three things are wrong: `groupId` stands twice, a dependency has no `artifactId`, and the project has no `version` and no
-- `artifactId`; and one in which an element stands again and says how configurations merge.
use Rattle.std.specs.Prelude.{ℕ, List, [], ◌∷◌, codes}
use Rattle.mvn_base.specs.declared.rule.Rule.TheVariants.{RepeatedElement, MissingField, CombineAttribute}
use Rattle.pom_text.specs.declared.node.Node.{Node}
use Rattle.model_laws.specs.Breaks.{Told, on_element}

abbrev pub element : List ℕ → List ℕ → List ℕ → Node
element name text children = record { name = name; attributes = []; text = text; children = children }

abbrev pub three_wrong : List Node
three_wrong =
    element (codes "project") [] (1 ∷ 2 ∷ 3 ∷ 4 ∷ [])
    ∷ element (codes "modelVersion") (codes "4.0.0") []
    ∷ element (codes "groupId") (codes "g") []
    ∷ element (codes "groupId") (codes "h") []
    ∷ element (codes "dependencies") [] (5 ∷ [])
    ∷ element (codes "dependency") [] (6 ∷ [])
    ∷ element (codes "groupId") (codes "x") []
    ∷ []

-- the same without the second `groupId`
abbrev pub two_wrong : List Node
two_wrong =
    element (codes "project") [] (1 ∷ 2 ∷ 3 ∷ [])
    ∷ element (codes "modelVersion") (codes "4.0.0") []
    ∷ element (codes "groupId") (codes "g") []
    ∷ element (codes "dependencies") [] (4 ∷ [])
    ∷ element (codes "dependency") [] (5 ∷ [])
    ∷ element (codes "groupId") (codes "x") []
    ∷ []

abbrev pub merging : Node
merging = record { name = codes "configuration"; attributes = codes "combine.self" ∷ []; text = []; children = [] }

-- a plugin with two configurations, of which the second says how it merges
abbrev pub at_one_place : List Node
at_one_place =
    element (codes "project") [] (1 ∷ [])
    ∷ element (codes "build") [] (2 ∷ [])
    ∷ element (codes "plugins") [] (3 ∷ [])
    ∷ element (codes "plugin") [] (4 ∷ 5 ∷ [])
    ∷ element (codes "configuration") [] []
    ∷ merging
    ∷ []

abbrev pub group_again : Told
group_again = on_element RepeatedElement (codes "project/groupId")

abbrev pub no_artifact : Told
no_artifact = on_element MissingField (codes "project/dependencies/dependency[1]/artifactId")

abbrev pub no_version : Told
no_version = on_element MissingField (codes "project/version")

abbrev pub configured_again : Told
configured_again = on_element RepeatedElement (codes "project/build/plugins/plugin[1]/configuration")

abbrev pub configuration_merges : Told
configuration_merges = on_element CombineAttribute (codes "project/build/plugins/plugin[1]/configuration")
