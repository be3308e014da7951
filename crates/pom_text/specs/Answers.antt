-- What the reader answers, step by step. That it is what the definitions say is proved beside it.
use Rattle.std.specs.Prelude.{◌≡◌, ℕ, ◌+◌, ◌-◌, List, length, take, drop, nat_lt, Option, Some, None, Result, Ok, Err, if◌then◌else◌}
use Rattle.std.specs.List.{prefix_len}
use Rattle.std.specs.Str.{chars}
use Rattle.mvn_base.specs.Limits.{pom_limit}
use Rattle.mvn_base.specs.declared.rule.Rule.{Rule}
use Rattle.mvn_base.specs.declared.rule.Rule.TheVariants.{TooLarge, Encoding, NotPomText}
use Rattle.pom_text.specs.declared.encoding.Encoding as encoding_type
use Rattle.pom_text.specs.declared.fault.TextFault.{TextFault}
use Rattle.pom_text.specs.declared.fault.TextFault.TheVariants.{Refused, Memory}
use Rattle.pom_text.specs.declared.node.Node.{Node}
use Rattle.pom_text.specs.declared.node.PomText.{PomText}
use Rattle.pom_text.specs.declared.reader.Reading.{Reading}
use Rattle.pom_text.specs.Characters.{is_allowed}
use Rattle.pom_text.specs.Encodings.{behind_mark, chosen, decoded, encoded, mark_len}
use Rattle.pom_text.specs.Openings.{named_encoding, opening}
use Rattle.pom_text.specs.Running.{Outcome, halted, outcome_of, read, run}
use Rattle.pom_text.specs.Parts.{is_empty}
use Rattle.pom_text.specs.Tree.{nothing_yet}

abbrev pub Answer : Type 0
Answer = Result (List Node) (Rule × ℕ)

-- of a text, whose last part is not read
abbrev pub placed : ℕ → encoding_type.Encoding → List ℕ → ℕ → Outcome → Answer
placed mark encoding text unread (read nodes) = Ok nodes
placed mark encoding text unread (halted rule rest) = Err (rule, mark + length (encoded encoding (take (length text - unread - length rest) text)))

-- of a reading, behind which more of the text is not read
abbrev pub reading_answer : ℕ → encoding_type.Encoding → List ℕ → List ℕ → Reading → Answer
reading_answer mark encoding text more reading = placed mark encoding (chars text) (length (chars more)) (outcome_of reading)

abbrev pub opened : ℕ → encoding_type.Encoding → List ℕ → List ℕ → Option (List ℕ) → Answer
opened mark encoding text more (Some body) = placed mark encoding text (length more) (run (is_empty more) nothing_yet body)
opened mark encoding text more None = Err (NotPomText, mark)

unfoldable pub text_answer : ℕ → encoding_type.Encoding → List ℕ → Answer
text_answer mark encoding text = opened mark encoding text (drop (prefix_len is_allowed text) text) (opening (take (prefix_len is_allowed text) text))

abbrev pub decoded_answer : ℕ → encoding_type.Encoding → Result (List ℕ) ℕ → Answer
decoded_answer mark encoding (Ok text) = text_answer mark encoding text
decoded_answer mark encoding (Err place) = Err (Encoding, mark + place)

abbrev pub encoding_answer : ℕ → List ℕ → Result encoding_type.Encoding ℕ → Answer
encoding_answer mark bytes (Ok encoding) = decoded_answer mark encoding (decoded encoding bytes)
encoding_answer mark bytes (Err place) = Err (Encoding, mark + place)

unfoldable pub answer : List ℕ → Answer
answer bytes = if nat_lt pom_limit (length bytes) then Err (TooLarge, pom_limit) else encoding_answer (mark_len bytes) (behind_mark bytes) (chosen (named_encoding (behind_mark bytes)))

-- a result is this answer, unless memory ran out
abbrev pub Agrees : Answer → Result PomText TextFault → Type 0
Agrees answer (Ok text) = answer ≡ Ok text.nodes
Agrees answer (Err (Refused rule place)) = answer ≡ Err (rule, place)
Agrees answer (Err Memory) = Unit {0}
