-- Which bytes are the text of a POM, and where others stop to be one. XML 1.0, sections 2.8 and 4.3.3; own limits.
use Rattle.std.specs.Prelude.{◌≡◌, ℕ, ◌+◌, ◌<◌, ◌≤◌, true, List, ◌++◌, length, Option, Result, Ok, Err}
use Rattle.std.specs.List.{list_all}
use Rattle.mvn_base.specs.Limits.{pom_limit}
use Rattle.mvn_base.specs.declared.rule.Rule.{Rule}
use Rattle.mvn_base.specs.declared.rule.Rule.TheVariants.{TooLarge, Encoding, NotPomText}
use Rattle.pom_text.specs.declared.encoding.Encoding as encoding_type
use Rattle.pom_text.specs.declared.fault.TextFault.{TextFault}
use Rattle.pom_text.specs.declared.fault.TextFault.TheVariants.{Refused, Memory}
use Rattle.pom_text.specs.declared.node.Node.{Node}
use Rattle.pom_text.specs.declared.node.PomText.{PomText}
use Rattle.pom_text.specs.Characters.{is_allowed}
use Rattle.pom_text.specs.Encodings.{Names, Opens, announces, behind_mark, chosen, decoded, encoded, is_declaration, mark_len}
use Rattle.pom_text.specs.Grammar.{Attribute, declaration}
use Rattle.pom_text.specs.Spells.{Spells, Stops, is_shallow}
use Rattle.pom_text.specs.Tree.{nothing_yet}

-- bytes behind their mark have an encoding: what their declaration names, or UTF-8
pub record HasEncoding (bytes : List ℕ) (answer : Result encoding_type.Encoding ℕ) : Type 0 where
  pub named : Option (ℕ × List ℕ)
  pub names : Names (behind_mark bytes) named
  pub answers : chosen named ≡ answer

-- bytes are these characters
pub record IsDecoded (bytes : List ℕ) (encoding : encoding_type.Encoding) (text : List ℕ) : Type 0 where
  pub has : HasEncoding bytes (Ok encoding)
  pub text_is : decoded encoding (behind_mark bytes) ≡ Ok text

-- bytes spell these elements
pub record SpellsElements (bytes : List ℕ) (nodes : List Node) : Type 0 where
  pub encoding : encoding_type.Encoding
  pub text : List ℕ
  pub body : List ℕ
  pub decodes : IsDecoded bytes encoding text
  pub opens : Opens text body
  pub spells : Spells nothing_yet body nodes

-- and no limit is passed
pub record IsText (bytes : List ℕ) (nodes : List Node) : Type 0 where
  pub elements : SpellsElements bytes nodes
  pub short : length bytes ≤ pom_limit
  pub shallow : is_shallow nothing_yet elements.spells.pieces ≡ true

-- the rule by which bytes are refused, and the byte at which that shows
pub data Refuses (bytes : List ℕ) : Rule → ℕ → Type 0 where
  too_long : pom_limit < length bytes → Refuses bytes TooLarge pom_limit
  unknown_encoding : (place : ℕ) → length bytes ≤ pom_limit → HasEncoding bytes (Err place) → Refuses bytes Encoding (mark_len bytes + place)
  not_encoded : (encoding : encoding_type.Encoding) (place : ℕ) → length bytes ≤ pom_limit → HasEncoding bytes (Ok encoding) → decoded encoding (behind_mark bytes) ≡ Err place → Refuses bytes Encoding (mark_len bytes + place)
  bad_declaration : (encoding : encoding_type.Encoding) (text : List ℕ) → length bytes ≤ pom_limit → IsDecoded bytes encoding text → announces text ≡ true
      → ((attributes : List Attribute) (space body : List ℕ) → is_declaration attributes space ≡ true → list_all is_allowed (declaration attributes space) ≡ true → text ≡ declaration attributes space ++ body → ⊥) → Refuses bytes NotPomText (mark_len bytes)
  stops : (encoding : encoding_type.Encoding) (text body front rest : List ℕ) (rule : Rule) → length bytes ≤ pom_limit → IsDecoded bytes encoding text → Opens text body → Stops nothing_yet body rule rest → text ≡ front ++ rest
      → Refuses bytes rule (mark_len bytes + length (encoded encoding front))

-- what is answered is so, unless memory ran out
abbrev pub IsAnswered : List ℕ → Result PomText TextFault → Type 0
IsAnswered bytes (Ok text) = IsText bytes text.nodes
IsAnswered bytes (Err (Refused rule place)) = Refuses bytes rule place
IsAnswered bytes (Err Memory) = Unit {0}

-- an answer is these elements, or this refusal, unless memory ran out
abbrev pub AreElements : List Node → Result PomText TextFault → Type 0
AreElements nodes (Ok text) = text.nodes ≡ nodes
AreElements nodes (Err (Refused rule place)) = ⊥
AreElements nodes (Err Memory) = Unit {0}

abbrev pub IsRefusal : Rule → ℕ → Result PomText TextFault → Type 0
IsRefusal rule place (Ok text) = ⊥
IsRefusal rule place (Err (Refused other at)) = (other ≡ rule) × (at ≡ place)
IsRefusal rule place (Err Memory) = Unit {0}
