-- The numbers and names of the rules by which a project is refused. Own numbers.
use Rattle.std.specs.Prelude.{ℕ, List, ◌∷◌, ◌++◌, codes}
use Rattle.std.specs.Fmt.{decimal}
use Rattle.mvn_base.specs.declared.rule.Rule.{Rule}
use Rattle.mvn_base.specs.declared.rule.Rule.TheVariants.{TooLarge, Encoding, NotPomText, Doctype, RootNotProject, RepeatedElement, ModelVersion, MissingField, BadName, ParentPackaging, ParentNotFound, ParentCycle, LineageTooLong, AggregatorPackaging, ModuleNotFound, DuplicateProject, ExpressionCycle, Unresolved, VersionMissing, BadRange, BadScope, SystemScope, ImportNotPom, ImportCycle, ImportNotFound, CombineAttribute, EmptyRange, RangeConflict, GraphTooLarge, ReactorCycle, UnknownPackaging, ParentExpression}

unfoldable pub rule_number : Rule → ℕ
rule_number TooLarge = 1
rule_number Encoding = 2
rule_number NotPomText = 3
rule_number Doctype = 4
rule_number RootNotProject = 5
rule_number RepeatedElement = 6
rule_number ModelVersion = 7
rule_number MissingField = 8
rule_number BadName = 9
rule_number ParentPackaging = 10
rule_number ParentNotFound = 11
rule_number ParentCycle = 12
rule_number LineageTooLong = 13
rule_number AggregatorPackaging = 14
rule_number ModuleNotFound = 15
rule_number DuplicateProject = 16
rule_number ExpressionCycle = 17
rule_number Unresolved = 18
rule_number VersionMissing = 19
rule_number BadRange = 20
rule_number BadScope = 21
rule_number SystemScope = 22
rule_number ImportNotPom = 23
rule_number ImportCycle = 24
rule_number ImportNotFound = 25
rule_number CombineAttribute = 26
rule_number EmptyRange = 27
rule_number RangeConflict = 28
rule_number GraphTooLarge = 29
rule_number ReactorCycle = 30
rule_number UnknownPackaging = 31
rule_number ParentExpression = 32

unfoldable pub rule_name : Rule → List ℕ
rule_name TooLarge = codes "TooLarge"
rule_name Encoding = codes "Encoding"
rule_name NotPomText = codes "NotPomText"
rule_name Doctype = codes "Doctype"
rule_name RootNotProject = codes "RootNotProject"
rule_name RepeatedElement = codes "RepeatedElement"
rule_name ModelVersion = codes "ModelVersion"
rule_name MissingField = codes "MissingField"
rule_name BadName = codes "BadName"
rule_name ParentPackaging = codes "ParentPackaging"
rule_name ParentNotFound = codes "ParentNotFound"
rule_name ParentCycle = codes "ParentCycle"
rule_name LineageTooLong = codes "LineageTooLong"
rule_name AggregatorPackaging = codes "AggregatorPackaging"
rule_name ModuleNotFound = codes "ModuleNotFound"
rule_name DuplicateProject = codes "DuplicateProject"
rule_name ExpressionCycle = codes "ExpressionCycle"
rule_name Unresolved = codes "Unresolved"
rule_name VersionMissing = codes "VersionMissing"
rule_name BadRange = codes "BadRange"
rule_name BadScope = codes "BadScope"
rule_name SystemScope = codes "SystemScope"
rule_name ImportNotPom = codes "ImportNotPom"
rule_name ImportCycle = codes "ImportCycle"
rule_name ImportNotFound = codes "ImportNotFound"
rule_name CombineAttribute = codes "CombineAttribute"
rule_name EmptyRange = codes "EmptyRange"
rule_name RangeConflict = codes "RangeConflict"
rule_name GraphTooLarge = codes "GraphTooLarge"
rule_name ReactorCycle = codes "ReactorCycle"
rule_name UnknownPackaging = codes "UnknownPackaging"
rule_name ParentExpression = codes "ParentExpression"

-- the number, a space and the name
unfoldable pub rule_text : Rule → List ℕ
rule_text rule = decimal (rule_number rule) ++ 32 ∷ rule_name rule
