-- A walk over the folders below a root, links followed. Own rules.
use Rattle.std.specs.Prelude.{ℕ, zero, suc, Bool, ◌&&◌, ◌==◌, List, [], ◌∷◌, length, slice_get, Option, Some, None, Result, Ok, Err, if◌then◌else◌}
use Rattle.std.specs.List.{list_any}
use Rattle.std.specs.IoError.{error_kind}
use Rattle.std.specs.declared.io.Error.{Error}
use Rattle.std.specs.declared.fs.attrs.Metadata.{Metadata}
use Rattle.mvn_outside.specs.declared.fault.ListFault.{ListFault}
use Rattle.mvn_outside.specs.Faults.{list_fault}
use Rattle.outside_real.specs.Faults.{fault_of, is_absent}
use Rattle.outside_real.specs.declared.walk.Folder.{Folder}

-- the folder at a place, the one that it was met in, and so on, at most so many
abbrev pub way_down : ℕ → List Folder → Option ℕ → List Folder
way_down zero folders place = []
way_down (suc most) folders None = []
way_down (suc most) folders (Some place) = by (slice_get folders place) (λ above. way_down most folders above)
  where
    by : Option Folder → (Option ℕ → List Folder) → List Folder
    by None further = []
    by (Some folder) further = folder ∷ further folder.above

-- the system knows the folder by this device and number
abbrev pub is_known_as : ℕ → ℕ → Folder → Bool
is_known_as device number folder = folder.device == device && folder.number == number

-- one of them is that folder
abbrev pub is_on_way : List Folder → Option ℕ → ℕ → ℕ → Bool
is_on_way folders place device number = list_any (is_known_as device number) (way_down (length folders) folders place)

-- what stands behind a name: nothing where a link leads nowhere
abbrev pub behind : Result Metadata Error → Result (Option Metadata) ListFault
behind (Ok metadata) = Ok (Some metadata)
behind (Err e) = if is_absent (error_kind e) then Ok None else Err (list_fault (fault_of (error_kind e)))
