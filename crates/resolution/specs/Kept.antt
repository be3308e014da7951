-- Rows that projects are built with, each held once. Project rule.
use Rattle.std.specs.HashMap.{IsEmpty}
use Rattle.resolution.specs.declared.kept.KeptRows.{KeptRows}

-- none is held
abbrev pub HasNoRows : KeptRows → Type 0
HasNoRows kept = IsEmpty kept.rows
