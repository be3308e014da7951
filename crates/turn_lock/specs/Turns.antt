-- What a pass knows of a value behind a turn lock. Own.
use Rattle.std.specs.Prelude.{◌≡◌, ◌⊎◌, ℕ, ◌+◌, ◌-◌, ◌/◌, ◌<◌, ◌≤◌, Bool, true, false, nat_eq, nat_le, List, [], ◌∷◌, ◌++◌, length, filter, fold, Option, None, Some, if◌then◌else◌}
use Rattle.std.specs.List.{list_all}
use Rattle.turn_lock.specs.declared.kept.Role.{Role}
use Rattle.turn_lock.specs.declared.kept.Role.TheVariants.{Nobody, Opens, GoesOn, Closes}
use Rattle.turn_lock.specs.declared.view.View.{View}

-- the entry is this worker's
abbrev pub is_of : ℕ → Role → Bool
is_of k Nobody = false
is_of k (Opens w m) = nat_eq w k
is_of k (GoesOn w) = nat_eq w k
is_of k (Closes w) = nat_eq w k

abbrev pub is_nobodys : Role → Bool
is_nobodys Nobody = true
is_nobodys other = false

-- which module is open behind an entry of its worker's
abbrev pub opened_by : Role → Option ℕ → Option ℕ
opened_by Nobody before = before
opened_by (Opens w m) before = Some m
opened_by (GoesOn w) before = before
opened_by (Closes w) before = None

-- the longer of two logs
abbrev pub longer : {E : Type 0} → List E → List E → List E
longer a b = if nat_le (length a) (length b) then b else a

-- a log begins with another
abbrev pub Begins : {E : Type 0} → List E → List E → Type 0
Begins {E} front log = (rest : List E) × (log ≡ front ++ rest)

-- a log begins with each of these
abbrev pub AllBegin : {E : Type 0} → List (List E) → List E → Type 0
AllBegin [] log = Unit {0}
AllBegin (front ∷ fronts) log = Begins front log × AllBegin fronts log

module _ {E : Type 0} (role : E → Role) where
  -- the entries of a worker
  abbrev pub entries_of : ℕ → List E → List E
  entries_of k log = filter (λ e. is_of k (role e)) log

  -- the module that a worker has open
  abbrev pub open_of : ℕ → List E → Option ℕ
  open_of k log = fold (λ before e. if is_of k (role e) then opened_by (role e) before else before) None log

  -- no entry is a worker's
  abbrev pub IsFresh : List E → Type 0
  IsFresh log = list_all (λ e. is_nobodys (role e)) log ≡ true

  -- the log as it was, or with one entry more, which is nobody's or this worker's
  abbrev pub MayAdd : ℕ → Role → Type 0
  MayAdd k r = (is_nobodys r ≡ true) ⊎ (is_of k r ≡ true)

  abbrev pub AddsOne : ℕ → List E → List E → Type 0
  AddsOne k before log = (log ≡ before) ⊎ ((e : E) × (log ≡ before ++ e ∷ []) × MayAdd k (role e))

  module _ {F : Type 0} where
    -- what a view says of a value with this log, fixed part and number of workers
    pub record IsKnown (log : List E) (fixed : F) (workers : ℕ) (v : View F E) : Type 0 where
      pub same : v.fixed ≡ Some fixed
      pub count : v.workers ≡ workers
      pub seen : Begins v.seen log
      pub parts : AllBegin v.parts v.seen
      pub some_worker : v.number < v.reach
      pub below : v.reach ≤ workers
      -- of the workers in its reach the log has the entries that it has seen, and only the first of them has any
      pub own : (k : ℕ) → v.number ≤ k → k < v.reach → entries_of k log ≡ entries_of k v.seen
      pub only : (k : ℕ) → v.number < k → k < v.reach → entries_of k v.seen ≡ []
      pub owes : v.owed ≡ open_of v.number v.seen
      pub heavy : v.reach ≤ v.number + v.weight

    -- with its turn given
    abbrev pub given : View F E → List E → View F E
    given v log = record v { seen = log; parts = []; owed = open_of v.number log; turn = None }

module _ {F E : Type 0} where
  -- with a turn out
  abbrev pub with_turn : View F E → List E → View F E
  with_turn v log = record v { turn = Some log }

  -- the first pass over a value
  abbrev pub first_view : List E → F → ℕ → View F E
  first_view log fixed workers = record { fixed = Some fixed; workers = workers; number = 0; reach = workers; weight = workers; seen = log; parts = []; owed = None; turn = None; spent = false }

  -- cut in two: the second has the last half of the reach, rounded down, and as much of the weight
  abbrev pub half : View F E → ℕ
  half v = (v.reach - v.number) / 2

  abbrev pub left_of : View F E → View F E
  left_of v = record v { reach = v.reach - half v; weight = v.weight - half v }

  abbrev pub right_of : View F E → View F E
  right_of v = record v { number = v.reach - half v; weight = half v; owed = None; turn = None }

  -- made one: the longer log, which begins with both, and both weights
  abbrev pub joined : View F E → View F E → View F E
  joined v w = record v { seen = longer v.seen w.seen; parts = v.seen ∷ w.seen ∷ []; weight = v.weight + w.weight }

  abbrev pub spent : View F E
  spent = record { fixed = None; workers = 0; number = 0; reach = 0; weight = 0; seen = []; parts = []; owed = None; turn = None; spent = true }
