-- Coordinates: which are one, and how one is written, group, artifact and version with colons between.
use Rattle.std.specs.Prelude.{ℕ, Bool, ◌&&◌, List, ◌∷◌, ◌++◌, codes}
use Rattle.std.specs.Str.{bytes_eq}
use Rattle.mvn_base.specs.declared.gav.Gav.{Gav}

-- two coordinates are one
abbrev pub gav_eq : Gav → Gav → Bool
gav_eq a b =
    bytes_eq a.group b.group && (bytes_eq a.artifact b.artifact && bytes_eq a.version b.version)

unfoldable pub gav_text : Gav → List ℕ
gav_text gav = gav.group ++ 58 ∷ gav.artifact ++ 58 ∷ gav.version

-- the name of a coordinate's lock: artifact:group:artifact:version
abbrev pub lock_name : Gav → List ℕ
lock_name gav = codes "artifact:" ++ gav_text gav
