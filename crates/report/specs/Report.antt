-- The text of the report. Own format.
use Rattle.std.specs.Prelude.{ℕ, Bool, true, false, ◌&&◌, nat_le, List, [], ◌∷◌, ◌++◌, length, take, map, flat_map, count_by, codes, decimal, Option, Some, None, if◌then◌else◌}
use Rattle.mvn_base.specs.declared.gav.Gav.{Gav}
use Rattle.mvn_base.specs.Gav.{gav_text}
use Rattle.build_core.specs.declared.ending.Device.{Device}
use Rattle.build_core.specs.declared.ending.Device.TheVariants as device
use Rattle.report.specs.declared.row.RowEnd.{RowEnd}
use Rattle.report.specs.declared.row.RowEnd.TheVariants.{Built, Goal, Missing, NoArtifact, OutputTooLarge, ClasspathTooLarge, Fault, Memory, Skipped}
use Rattle.report.specs.declared.row.FullPart.{FullPart}
use Rattle.report.specs.declared.row.ReportRow.{ReportRow}

-- a text with a line feed behind it
abbrev pub line : List ℕ → List ℕ
line text = text ++ 10 ∷ []

abbrev pub device_name : Device → List ℕ
device_name device.Remote = codes "remote"
device_name device.Area = codes "area"
device_name device.Shelf = codes "shelf"
device_name device.Gate = codes "gate"

-- a printable byte stands for itself, any other is told by `?`
unfoldable pub shown_byte : ℕ → ℕ
shown_byte b = if nat_le 32 b && nat_le b 126 then b else 63

-- at most 200 bytes of what a goal says
abbrev pub shown : List ℕ → List ℕ
shown text = map shown_byte (take 200 text)

-- a module's own line
unfoldable pub end_text : Gav → RowEnd → List ℕ
end_text gav Built = codes "built " ++ gav_text gav
end_text gav (Goal call text) = codes "failed " ++ gav_text gav ++ codes " goal " ++ call ++ codes ": " ++ shown text
end_text gav (Missing name) = codes "failed " ++ gav_text gav ++ codes " missing " ++ name
end_text gav NoArtifact = codes "failed " ++ gav_text gav ++ codes " no artifact"
end_text gav OutputTooLarge = codes "failed " ++ gav_text gav ++ codes " output too large"
end_text gav ClasspathTooLarge = codes "failed " ++ gav_text gav ++ codes " classpath too large"
end_text gav (Fault d) = codes "failed " ++ gav_text gav ++ codes " fault " ++ device_name d
end_text gav Memory = codes "failed " ++ gav_text gav ++ codes " memory"
end_text gav (Skipped upstream) = codes "skipped " ++ gav_text gav ++ codes " after " ++ gav_text upstream

-- a line of a module's part behind its own: two spaces, a word, and what it is of
abbrev pub indented : List ℕ → List ℕ → List ℕ
indented word text = line (codes "  " ++ word ++ text)

-- what is told of a module besides
abbrev pub full_text : Option FullPart → List ℕ
full_text None = []
full_text (Some full) =
    indented (codes "model ") full.model
    ++ flat_map (indented (codes "compile ")) full.compile
    ++ flat_map (indented (codes "runtime ")) full.runtime
    ++ flat_map (indented (codes "test ")) full.test

-- a module's part
abbrev pub row_text : ReportRow → List ℕ
row_text row = line (end_text row.gav row.end) ++ flat_map (indented []) row.notes ++ flat_map (indented []) row.tree ++ full_text row.full

abbrev pub is_built : RowEnd → Bool
is_built Built = true
is_built other = false

abbrev pub is_skipped : RowEnd → Bool
is_skipped (Skipped upstream) = true
is_skipped other = false

abbrev pub is_failed : RowEnd → Bool
is_failed Built = false
is_failed (Skipped upstream) = false
is_failed other = true

abbrev pub count_of : (RowEnd → Bool) → List ReportRow → ℕ
count_of test rows = count_by (λ r. test r.end) rows

-- the last line
unfoldable pub total_text : List ReportRow → List ℕ
total_text rows = line (codes "total " ++ decimal (length rows) ++ codes " built " ++ decimal (count_of is_built rows) ++ codes " failed " ++ decimal (count_of is_failed rows) ++ codes " skipped " ++ decimal (count_of is_skipped rows))

-- the whole report
abbrev pub report_text : List ReportRow → List ℕ
report_text rows = flat_map row_text rows ++ total_text rows
