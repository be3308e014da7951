-- The program's own words: the names that workers hold, by lists that keep freed names until they stand at the end.
use Rattle.std.specs.Prelude.{◌≡◌, ℕ, suc, ◌<◌, Bool, true, false, nat_lt, All, List, [], ◌∷◌, length, filter, get_or, is_none, is_some}
use Rattle.std.specs.List.{list_all}
use Rattle.std.specs.Option.{option_map_or}
use Rattle.build_core.specs.Locks.{Holds, hold, names_of, workers_of}
use Rattle.event_core.specs.Causes.{last_of}
use Rattle.scripts.specs.Climbing.{Climbs}

abbrev pub is_held : Holds → ℕ → ℕ → Bool
is_held locks worker name = is_some (hold locks name worker)

-- what the workers from this one on hold of what they took
abbrev pub held_from : Holds → ℕ → List (List ℕ) → List (List ℕ)
held_from locks worker [] = []
held_from locks worker (names ∷ rows) = filter (is_held locks worker) names ∷ held_from locks (suc worker) rows

-- whether the last name is freed
abbrev pub ends_freed : Holds → ℕ → List ℕ → Bool
ends_freed locks worker names = option_map_or (λ n. is_none (hold locks n worker)) (last_of names) false

pub record IsStack (locks : Holds) (worker : ℕ) (names : List ℕ) : Type 0 where
  pub climbs : Climbs 0 names
  pub low : list_all (λ n. nat_lt n (names_of locks)) names ≡ true
  pub top : ends_freed locks worker names ≡ false

pub record AreStacks (locks : Holds) (taken : List (List ℕ)) : Type 0 where
  pub rows : length taken ≡ workers_of locks
  pub depth : length locks.2 ≡ names_of locks
  pub width : All (λ row. length row ≡ workers_of locks) locks.2
  pub stacks : (w : ℕ) → w < workers_of locks → IsStack locks w (get_or taken w [])
