-- The program's own words for a list of which each artifact has one item.
use Rattle.std.specs.Prelude.{ℕ, Bool, true, not, ◌&&◌, ◌||◌, List, [], ◌∷◌}
use Rattle.std.specs.Str.{bytes_eq}
use Rattle.mvn_base.specs.declared.key.Key.{Key}

-- whether the artifacts that keys name aren't there, and no two of them are equal
abbrev pub are_new : {T : Type 0} → (T → Key) → (List ℕ → Bool) → List T → Bool
are_new key there [] = true
are_new key there (x ∷ items) =
    not (there (key x).artifact) && are_new key (λ name. bytes_eq (key x).artifact name || there name) items
