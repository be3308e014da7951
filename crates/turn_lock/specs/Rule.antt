-- The rule of a turn lock: its first word, its slot, and the views of all passes; and what each step tells. Own.
use Rattle.std.specs.Prelude.{◌≡◌, ◌≢◌, ◌⊎◌, ℕ, ◌+◌, ◌*◌, ◌%◌, ◌^◌, ◌<◌, ◌≤◌, Bool, true, false, List, [], ◌∷◌, length, Option, Some, None, if◌then◌else◌}
use mathlib.Core.Option as core
use lib.ListN.{get_elem?}
use Rattle.atomic_table.specs.Table.{State, Me, Step}
use Rattle.turn_lock.specs.declared.kept.Role.{Role}
use Rattle.turn_lock.specs.declared.view.View.{View}
use Rattle.turn_lock.specs.Turns.{AllBegin, IsKnown, given, open_of, with_turn}

abbrev pub mark : Bool → ℕ
mark true = 1
mark false = 0

abbrev pub weight_of : {F E : Type 0} → View F E → ℕ
weight_of v = if v.spent then 0 else v.weight

abbrev pub weights : {F E : Type 0} → List (View F E) → ℕ
weights [] = 0
weights (v ∷ views) = weight_of v + weights views

module _ {V F E : Type 0} (fixed_of : V → F) (log_of : V → List E) (count_of : V → ℕ) (role : E → Role) where
  -- a pass that isn't spent
  abbrev pub IsPass : List (View F E) → ℕ → View F E → Type 0
  IsPass views id v = (get_elem? views id ≡ core.some v) × (v.spent ≡ false)

  -- the value is at home, or out
  abbrev pub AtHome : Bool → List (core.Option (Option V)) → List E → F → ℕ → Type 0
  AtHome false homes log fixed workers = (x : V) × (homes ≡ core.some (Some x) ∷ []) × (fixed_of x ≡ fixed) × (log_of x ≡ log) × (count_of x ≡ workers)
  AtHome true homes log fixed workers = homes ≡ core.none ∷ []

  pub record IsTurned (s : State (Option V) (View F E)) : Type 0 where
    pub log : List E
    pub out : Bool
    pub fixed : F
    pub workers : ℕ
    pub holder : ℕ
    pub others : List ℕ
    -- the first word is twice the length of the longest seen log, and one more while a turn is out; of the others, on which threads ask to be called, nothing is said
    pub word : s.words ≡ (2 * length log + mark out) ∷ others
    pub few : length log < 2 ^ 62
    pub longest : (id : ℕ) × (v : View F E) × IsPass s.views id v × (v.seen ≡ log)
    pub home : AtHome out s.homes log fixed workers
    -- what each pass knows is so
    pub known : (id : ℕ) (v : View F E) → IsPass s.views id v → IsKnown role log fixed workers v
    -- one pass has the turn, exactly while it is out, and the log of its turn is the log
    pub turns : (id : ℕ) (v : View F E) (turn : List E) → IsPass s.views id v → v.turn ≡ Some turn → (out ≡ true) × (id ≡ holder) × (turn ≡ log)
    pub held : out ≡ true → (v : View F E) × IsPass s.views holder v × (v.turn ≡ Some log)
    -- reaches are disjoint, and a worker in none of them has nothing open
    pub apart : (a b : ℕ) (v w : View F E) → a ≢ b → IsPass s.views a v → IsPass s.views b w → (v.reach ≤ w.number) ⊎ (w.reach ≤ v.number)
    pub closed : (k : ℕ) → k < workers → ((id : ℕ) (v : View F E) → IsPass s.views id v → (k < v.number) ⊎ (v.reach ≤ k)) → open_of role k log ≡ None
    pub whole : weights s.views ≡ workers

  -- ---- what steps tell

  abbrev Own : Type 0
  Own = Me (Option V) (View F E)

  -- a turn taken where the word was even, and nothing where it was odd
  abbrev pub took : Step (Option V) → Own → ℕ → Own → Type 0
  took step m found m' =
      (found % 2 ≡ 0 → (x : V) × IsKnown role (log_of x) (fixed_of x) (count_of x) m.0 × (m' ≡ (with_turn m.0 (log_of x), (0, Some x) ∷ m.1)))
      × (found % 2 ≢ 0 → m' ≡ m)

  -- a turn given
  abbrev pub gave : Step (Option V) → Own → ℕ → Own → Type 0
  gave step m stored m' = (x : V) → m.1 ≡ (0, Some x) ∷ [] → m' ≡ (given role m.0 (log_of x), [])

  -- a look
  abbrev pub looked : Step (Option V) → Own → ℕ → Own → Type 0
  looked step m found m' = (m' ≡ m) × AllBegin m.0.parts m.0.seen

  -- a thread asked to be called, or one was
  abbrev pub asked : Step (Option V) → Own → ℕ → Own → Type 0
  asked step m found m' = m' ≡ m
