-- What was read for the modules before, and how a file of it is found again. Project rules.
use Rattle.std.specs.Prelude.{◌≡◌, ℕ, ◌+◌, List, [], ◌∷◌, slice_get, Option, Some, None, if◌then◌else◌}
use Rattle.std.specs.Option.{option_and_then}
use Rattle.std.specs.Str.{bytes_eq}
use Rattle.mvn_shared.specs.Files.{Files, file_at}
use Rattle.goal_types.specs.declared.goal.SourceFile.{SourceFile}

-- each file that was read stands there, with the bytes that were read
abbrev pub AreThere : Files → List (List SourceFile) → Type 0
AreThere files lists =
    (list number : ℕ) (sources : List SourceFile) (source : SourceFile) → slice_get lists list ≡ Some sources → slice_get sources number ≡ Some source
    → file_at files source.path ≡ Some source.bytes

-- the bytes of the file of that number, if it has this path
abbrev pub bytes_in : List SourceFile → (number : ℕ) → (path : List ℕ) → Option (List ℕ)
bytes_in sources number path = option_and_then (λ s. if bytes_eq s.path path then Some s.bytes else None) (slice_get sources number)

-- so of the module of that number
abbrev pub bytes_at : List (List SourceFile) → (list number : ℕ) → (path : List ℕ) → Option (List ℕ)
bytes_at lists list number path = option_and_then (λ sources. bytes_in sources number path) (slice_get lists list)

-- the place of a path once those of a module's files are noted, from a number on: that of the last file with this path, else the one before
abbrev pub noted : (list number : ℕ) → List SourceFile → (path : List ℕ) → Option (ℕ × ℕ) → Option (ℕ × ℕ)
noted list number [] path before = before
noted list number (s ∷ sources) path before = noted list (number + 1) sources path (if bytes_eq s.path path then Some (list, number) else before)
