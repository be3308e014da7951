-- The search for the widest scopes, as it is made.
use Rattle.std.specs.Prelude.{ℕ, Bool, List, [], ◌∷◌, ◌++◌, fold, get_or, nat_lt, set, Option, Some, None, if◌then◌else◌}
use Rattle.collector.specs.declared.scope.Scope.{Scope}
use Rattle.collector.specs.declared.scope.Scope.TheVariants.{Compile}
use Rattle.resolution.specs.declared.link.Link.{Link}
use Rattle.resolution.specs.Walks.{links_at, rank, walked}

-- the scopes so far, and the places from which what is below them is to be looked at
pub record Search : Type 0 where
  pub scopes : List (Option Scope)
  pub waiting : List ℕ

abbrev pub search_of : List (Option Scope) → List ℕ → Search
search_of scopes waiting = record { scopes = scopes; waiting = waiting }

-- how far a scope that is kept can still be raised
abbrev pub width : Option Scope → ℕ
width None = 4
width (Some scope) = rank scope

-- a scope is wider than the one that is kept at a place; none is wider where no place is
abbrev pub is_wider : List (Option Scope) → ℕ → Scope → Bool
is_wider scopes place scope = nat_lt (rank scope) (width (get_or scopes place (Some Compile)))

-- a scope is kept at a place where it is wider
abbrev pub raised : Search → ℕ → Scope → Search
raised s place scope =
    if is_wider s.scopes place scope
    then record { scopes = set s.scopes place (Some scope); waiting = s.waiting ++ place ∷ [] }
    else s

-- along links, each with the scope that it brings
abbrev pub raised_all : (Link → Scope) → Search → List Link → Search
raised_all brings s links = fold (λ s l. raised s l.to (brings l)) s links

-- below a place with the scope that is kept there
abbrev pub below_scope : Option Scope → List Link → Search → Search
below_scope None links s = s
below_scope (Some above) links s = raised_all (walked above) s links

abbrev pub turned : List (List Link) → Search → ℕ → Search
turned below s place = below_scope (get_or s.scopes place None) (links_at below place) s
