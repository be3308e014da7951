-- What the reader takes at once from a text in UTF-8, and what it lends from it. That it comes to what it says of the characters
-- is proved beside it.
use Rattle.std.specs.Prelude.{◌≡◌, ℕ, ◌-◌, Bool, false, not, List, [], ◌∷◌, ◌++◌, length, take, Option, Some, option_and_then, Result, IfOk}
use Rattle.std.specs.Str.{chars, encode_utf8_all}
use denote.Ref.{Bor}
use Rattle.pom_text.specs.declared.encoding.Encoding.{Encoding}
use Rattle.pom_text.specs.declared.part.Part as lent
use Rattle.pom_text.specs.declared.part.Part.TheVariants as lending
use Rattle.pom_text.specs.declared.part.Tag as tags
use Rattle.pom_text.specs.declared.tree.Tree.{Tree}
use Rattle.pom_text.specs.Encodings.{encoded}
use Rattle.pom_text.specs.Growth.{fitting, standing_of, take_part}
use Rattle.pom_text.specs.Parts.{Part, Tag, Passed, Character, Section, Reference, Start, Empty, End, lines}
use Rattle.pom_text.specs.Reads.{attributes_of, begins, names_of}
use Rattle.pom_text.specs.Running.{Outcome, halted, read}
use Rattle.pom_text.specs.Tree.{Standing, begun}

-- what such characters do to a tree, one after another
abbrev pub grown_run : Standing → List ℕ → Option Standing
grown_run s [] = Some s
grown_run s (c ∷ text) = option_and_then (λ t. grown_run t text) (take_part s (Character c))

-- what is answered of a run: whether it may stand, and then what it did
abbrev pub TakesRun : {E : Type 0} → Result Bool E → Tree → Tree → List ℕ → Type 0
TakesRun result old new run = IfOk result (λ fits. fitting fits (standing_of new) ≡ grown_run (standing_of old) (chars run))

-- what a part says that lends from a text
abbrev pub said_tag : tags.Tag → Tag
said_tag tag = record { name = encode_utf8_all (chars tag.name.now); attributes = names_of (attributes_of (chars tag.attributes.now)).0 }

-- an element begins by a tag that lends
abbrev pub begun_by : tags.Tag → Tree → Standing
begun_by tag tree = begun (said_tag tag).name (said_tag tag).attributes (standing_of tree)

-- the bytes of lines
abbrev pub line_bytes : List ℕ → List ℕ
line_bytes text = encode_utf8_all (lines false (chars text))

abbrev pub said : lent.Part → Part
said lending.Passed = Passed
said lending.Return = Character 13
said (lending.Section inside) = Section (line_bytes inside.now)
said (lending.Reference c) = Reference c
said (lending.Start tag) = Start (said_tag tag)
said (lending.Empty tag) = Empty (said_tag tag)
said (lending.End name) = End (encode_utf8_all (chars name.now))

-- a part that lends, and what follows it
abbrev pub said_next : lent.Part × Bor (List ℕ) → Part × List ℕ
said_next e = (said e.0, chars e.1.now)

-- how many bytes of a text were read, where a rest and more behind it were not
abbrev pub read_len : Encoding → List ℕ → List ℕ → List ℕ → ℕ
read_len encoding text rest more = length (encoded encoding (take (length text - length more - length rest) text))

-- what is not read, and more behind it, stands at the end of a text
pub record HasFront (text rest : List ℕ) : Type 0 where
  pub front : List ℕ
  pub here : text ≡ front ++ rest

abbrev pub EndsWith : List ℕ → List ℕ → Outcome → Type 0
EndsWith text more (read nodes) = Unit {0}
EndsWith text more (halted rule rest) = HasFront text (rest ++ more)
