-- What a staging area on a disk holds.
use Rattle.std.specs.Prelude.{ℕ}
use Rattle.std.specs.FinMap.{from_entries}
use Rattle.mvn_outside.specs.Pieces.{Pieces}
use Rattle.outside_real.specs.declared.area.RealArea.{RealArea}

-- the pieces, and whether each is sealed
abbrev pub area_pieces : {R D : Type 0} → RealArea R D → Pieces
area_pieces area = from_entries area.pieces.entries

abbrev pub area_faults : {R D : Type 0} → RealArea R D → ℕ
area_faults area = area.faults
