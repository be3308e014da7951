-- Where items stand in a list. Own words.
use Rattle.std.specs.Prelude.{◌≡◌, ℕ, Bool, List, length, is_some, unwrap_or}
use Rattle.std.specs.HashMap.{HashMap, get}
use Rattle.std.specs.List.{list_any, position_or_len}

-- a map has the first place of each item of the list
pub record HasPlaces {K S : Type 0} (eq : K → K → Bool) (items : List K) (map : HashMap K ℕ S) : Type 0 where
  pub place : (q : K) → unwrap_or (get eq map q) (length items) ≡ position_or_len (eq q) items
  pub there : (q : K) → is_some (get eq map q) ≡ list_any (eq q) items
