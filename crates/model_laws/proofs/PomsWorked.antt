-- The examples, computed.
use Rattle.std.proofs.Common.{◌≡◌, inr, [], ◌∷◌, codes, Err, refl, arith}
use Rattle.std.specs.Fmt.{digits}
use Rattle.mvn_base.specs.declared.refusal.PomId.{PomId}
use Rattle.mvn_base.specs.declared.rule.Rule.TheVariants.{RepeatedElement, MissingField, CombineAttribute}
use Rattle.pom_text.specs.declared.node.Node.{Node}
use Rattle.pom_model.specs.Elements.{child, named, text_of, trimmed}
use Rattle.pom_model.specs.Faults.{begun, ended, fault_within, first_fault, missing, read_child, step, under, version_fault}
use Rattle.pom_model.specs.Raw.{raw}
use Rattle.pom_model.specs.Table.{found, kind_number, table}
use Rattle.model_laws.specs.Breaks.{Combines, IsWrong, StandsBefore, again, combines, inside, lacks, in_project, on_element}
use Rattle.model_laws.specs.Examples.{at_one_place, configuration_merges, configured_again, element, group_again, merging, no_artifact, no_version, three_wrong, two_wrong}
use Rattle.model_laws.specs.Refused.{refusal_of}

abbrev project : Node
project = element (codes "project") [] (1 ∷ 2 ∷ 3 ∷ 4 ∷ [])

abbrev dependencies : Node
dependencies = element (codes "dependencies") [] (5 ∷ [])

abbrev dependency : Node
dependency = element (codes "dependency") [] (6 ∷ [])

group_before : StandsBefore three_wrong project 2 (codes "groupId")
group_before = record { j = 1; k = 2; other = element (codes "groupId") (codes "g") []; before = omega arith; among = refl; there = refl; same = refl }

pub group_wrong : IsWrong three_wrong (2 ∷ []) 0 group_again
unfolding read_child found table kind_number
group_wrong = in_project project _ (2 ∷ []) 0 (on_element RepeatedElement (codes "groupId")) refl refl refl (again _ project 2 _ refl refl group_before)

pub artifact_wrong : IsWrong three_wrong (3 ∷ 0 ∷ 1 ∷ []) 22 no_artifact
unfolding read_child found table kind_number step text_of child named digits
artifact_wrong =
    in_project project _ (3 ∷ 0 ∷ 1 ∷ []) 22 (on_element MissingField (codes "dependencies/dependency[1]/artifactId")) refl refl refl
    (inside _ project 3 _ (0 ∷ 1 ∷ []) 22 (on_element MissingField (codes "dependency[1]/artifactId")) refl
    (inside _ dependencies 0 _ (1 ∷ []) 22 (on_element MissingField (codes "artifactId")) refl
    (lacks _ dependency 21 _ refl (record { under = refl; asked = refl; lacking = refl }))))

pub version_wrong : IsWrong three_wrong (4 ∷ []) 4 no_version
unfolding table kind_number text_of child named
version_wrong = in_project project _ (4 ∷ []) 4 (on_element MissingField (codes "version")) refl refl refl (lacks _ project 3 _ refl (record { under = refl; asked = refl; lacking = refl }))

pub three_first : (pom : PomId) → raw three_wrong pom ≡ Err (refusal_of pom group_again)
unfolding raw first_fault fault_within begun read_child found table kind_number step under named child text_of trimmed missing version_fault ended
three_first pom = refl

pub two_first : (pom : PomId) → raw two_wrong pom ≡ Err (refusal_of pom no_artifact)
unfolding raw first_fault fault_within begun read_child found table kind_number step under named child text_of trimmed missing version_fault ended digits
two_first pom = refl

-- the two configurations
abbrev root : Node
root = element (codes "project") [] (1 ∷ [])

abbrev build : Node
build = element (codes "build") [] (2 ∷ [])

abbrev plugins : Node
plugins = element (codes "plugins") [] (3 ∷ [])

abbrev plugin : Node
plugin = element (codes "plugin") [] (4 ∷ 5 ∷ [])

configured_before : StandsBefore at_one_place plugin 1 (codes "configuration")
configured_before = record { j = 0; k = 4; other = element (codes "configuration") [] []; before = omega arith; among = refl; there = refl; same = refl }

merges : Combines merging
merges = record { n = 0; name = codes "combine.self"; there = refl; says = inr refl }

pub again_wrong : IsWrong at_one_place (0 ∷ 0 ∷ 0 ∷ 1 ∷ []) 0 configured_again
unfolding read_child found table kind_number step digits
again_wrong =
    in_project root _ (0 ∷ 0 ∷ 0 ∷ 1 ∷ []) 0 (on_element RepeatedElement (codes "build/plugins/plugin[1]/configuration")) refl refl refl
    (inside _ root 0 _ (0 ∷ 0 ∷ 1 ∷ []) 0 (on_element RepeatedElement (codes "plugins/plugin[1]/configuration")) refl
    (inside _ build 0 _ (0 ∷ 1 ∷ []) 0 (on_element RepeatedElement (codes "plugin[1]/configuration")) refl
    (inside _ plugins 0 _ (1 ∷ []) 0 (on_element RepeatedElement (codes "configuration")) refl
    (again _ plugin 1 _ refl refl configured_before))))

pub merges_wrong : IsWrong at_one_place (0 ∷ 0 ∷ 0 ∷ 1 ∷ []) 1 configuration_merges
unfolding read_child found table kind_number step digits
merges_wrong =
    in_project root _ (0 ∷ 0 ∷ 0 ∷ 1 ∷ []) 1 (on_element CombineAttribute (codes "build/plugins/plugin[1]/configuration")) refl refl refl
    (inside _ root 0 _ (0 ∷ 0 ∷ 1 ∷ []) 1 (on_element CombineAttribute (codes "plugins/plugin[1]/configuration")) refl
    (inside _ build 0 _ (0 ∷ 1 ∷ []) 1 (on_element CombineAttribute (codes "plugin[1]/configuration")) refl
    (inside _ plugins 0 _ (1 ∷ []) 1 (on_element CombineAttribute (codes "configuration")) refl
    (combines _ plugin 1 _ refl refl merges))))

pub one_place_first : (pom : PomId) → raw at_one_place pom ≡ Err (refusal_of pom configured_again)
unfolding raw first_fault fault_within begun read_child found table kind_number step under named child text_of trimmed missing version_fault ended digits
one_place_first pom = refl
