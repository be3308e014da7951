-- How the reader goes from piece to piece. That it comes to where the grammar says is proved beside it.
use Rattle.std.specs.Prelude.{ℕ, zero, suc, Bool, true, false, ◌&&◌, ◌==◌, List, length, Option, Some, None, if◌then◌else◌}
use Rattle.std.specs.Str.{chars}
use Rattle.mvn_base.specs.declared.rule.Rule.{Rule}
use Rattle.mvn_base.specs.declared.rule.Rule.TheVariants.{TooLarge, NotPomText, Doctype}
use Rattle.pom_text.specs.declared.node.Node.{Node}
use Rattle.pom_text.specs.declared.reader.Reading.{Reading}
use Rattle.pom_text.specs.declared.reader.Reading.TheVariants.{Whole, Halted}
use Rattle.pom_text.specs.Parts.{Part, Passed, Character, Section, Reference, Start, Empty, End, is_empty}
use Rattle.pom_text.specs.Growth.{take_part}
use Rattle.pom_text.specs.Reads.{piece_of}
use Rattle.pom_text.specs.Spells.{is_doctype, is_done}
use Rattle.pom_text.specs.Tree.{Standing}

-- the elements, or a rule and what was not read
pub data Outcome : Type 0 where
  read : List Node → Outcome
  halted : Rule → List ℕ → Outcome

-- what the reader answers
abbrev pub outcome_of : Reading → Outcome
outcome_of (Whole nodes) = read nodes
outcome_of (Halted rule rest) = halted rule (chars rest.now)

abbrev pub begins_element : Part → Bool
begins_element Passed = false
begins_element (Character c) = false
begins_element (Section bytes) = false
begins_element (Reference c) = false
begins_element (Start tag) = true
begins_element (Empty tag) = true
begins_element (End name) = false

-- where no piece goes on
unfoldable pub finish : Bool → Standing → List ℕ → Outcome
finish whole s text =
    if is_doctype s text then halted Doctype text
    else if (is_empty text && is_done s) && whole then read s.nodes
    else halted NotPomText text

abbrev pub go : Bool → (Standing → List ℕ → Outcome) → Standing → List ℕ → Part × List ℕ → Option Standing → Outcome
go whole further s text e (Some t) = if length s.path == 64 && begins_element e.0 then halted TooLarge text else further t e.1
go whole further s text e None = halted NotPomText text

abbrev pub turn : Bool → (Standing → List ℕ → Outcome) → Standing → List ℕ → Option (Part × List ℕ) → Outcome
turn whole further s text (Some e) = go whole further s text e (take_part s e.0)
turn whole further s text None = finish whole s text

abbrev pub run_within : Bool → ℕ → Standing → List ℕ → Outcome
run_within whole zero s text = finish whole s text
run_within whole (suc fuel) s text = turn whole (run_within whole fuel) s text (piece_of text)

unfoldable pub run : Bool → Standing → List ℕ → Outcome
run whole s text = run_within whole (length text) s text
