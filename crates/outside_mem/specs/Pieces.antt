-- The pieces of a staging area in memory.
use Rattle.std.specs.Prelude.{ℕ, true, List, ◌++◌, map}
use Rattle.std.specs.FinMap.{from_entries}
use Rattle.mvn_outside.specs.Pieces.{Pieces, Contents}
use Rattle.outside_mem.specs.declared.pieces.Piece.{Piece}

-- more bytes at its end
abbrev pub with_bytes : List ℕ → Piece → Piece
with_bytes more piece = record piece { bytes = piece.bytes ++ more }

abbrev pub sealed_piece : Piece → Piece
sealed_piece piece = record piece { sealed = true }

-- one that a stopped run has left
abbrev pub leftover : List ℕ → Piece
leftover bytes = record { sealed = true; bytes = bytes }

-- the pieces, and whether each is sealed
abbrev pub sealed_of : List (ℕ × Piece) → Pieces
sealed_of entries = from_entries (map (λ e. (e.0, e.1.sealed)) entries)

-- their bytes
abbrev pub bytes_of : List (ℕ × Piece) → Contents
bytes_of entries = from_entries (map (λ e. (e.0, e.1.bytes)) entries)
