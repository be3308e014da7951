-- What a staging area in memory holds.
use Rattle.std.specs.Prelude.{ℕ, List}
use Rattle.outside_mem.specs.declared.pieces.Piece.{Piece}
use Rattle.mvn_outside.specs.Pieces.{Pieces, Contents}
use Rattle.outside_mem.specs.declared.area.MemArea.{MemArea}
use Rattle.outside_mem.specs.Pieces.{sealed_of, bytes_of}

abbrev pub area_pieces : {F : Type 0} → MemArea F → List (ℕ × Piece)
area_pieces area = area.pieces.entries

-- the pieces, and whether each is sealed
abbrev pub area_sealed : {F : Type 0} → MemArea F → Pieces
area_sealed area = sealed_of area.pieces.entries

-- their bytes
abbrev pub area_contents : {F : Type 0} → MemArea F → Contents
area_contents area = bytes_of area.pieces.entries

abbrev pub area_calls : {F : Type 0} → MemArea F → F
area_calls area = area.calls
