-- Plans that can be built. Own; Resolver, "Named Locks", for the ascending order.
use Rattle.std.specs.Prelude.{◌≡◌, ℕ, ◌+◌, ◌*◌, ◌≤◌, Bool, true, false, ◌==◌, ◌&&◌, not, nat_eq, List, [], ◌∷◌, length, map, slice_get, Some}
use Rattle.std.specs.List.{IsDistinct, list_all}
use Rattle.std.specs.Ordering.{nat_cmp}
use Rattle.std.specs.declared.cmp.Ordering.TheVariants.{Less}
use Rattle.std.specs.Cmp.Lexicographic.{slice_cmp}
use Rattle.goal_types.specs.declared.goal.GoalCall.{GoalCall}
use Rattle.build_core.specs.declared.plan.Plan.{Plan}
use Rattle.build_core.specs.declared.plan.PlanModule.{PlanModule}
use Rattle.build_core.specs.declared.plan.OwnFile.{OwnFile}
use Rattle.build_core.specs.declared.plan.Entry.{Entry}
use Rattle.build_core.specs.declared.plan.Origin.{Origin}
use Rattle.build_core.specs.declared.plan.Origin.TheVariants as origin
use Rattle.build_core.specs.Slots.{slot_number}
use Rattle.scripts.specs.Bounds.{total}
use Rattle.scripts.specs.Climbing.{Climbs}
use Rattle.scripts.specs.Outlines.{is_listed, outline_of}
use Rattle.event_core.specs.Sound.{IsSound}

-- texts that ascend, each once
abbrev pub TextsClimb : List (List ℕ) → Type 0
TextsClimb [] = Unit {0}
TextsClimb (x ∷ []) = Unit {0}
TextsClimb (x ∷ y ∷ texts) = (slice_cmp nat_cmp x y ≡ Less) × TextsClimb (y ∷ texts)

abbrev pub same_text : List ℕ → List ℕ → Bool
same_text [] [] = true
same_text (x ∷ xs) (y ∷ ys) = nat_eq x y && same_text xs ys
same_text xs ys = false

-- the POM's file comes first
abbrev pub pom_first : List OwnFile → Bool
pom_first [] = false
pom_first (o ∷ own) = slot_number o.slot == 1

-- an entry's file is fetched, and its module is an upstream
abbrev pub is_backed : PlanModule → Origin → Bool
is_backed m (origin.File file) = is_listed file m.fetch
is_backed m (origin.Module u slot) = is_listed u m.upstream
is_backed m origin.Nothing = true

-- no goal's output goes into the POM's slot
abbrev pub is_call : GoalCall → Bool
is_call call = not (slot_number call.slot == 1)

pub record IsSoundPlanModule (m : PlanModule) : Type 0 where
  pub upstream : Climbs 0 m.upstream
  pub fetch : IsDistinct nat_eq m.fetch
  pub own_files : IsDistinct nat_eq (map (λ (o : OwnFile). o.file) m.own)
  pub own_slots : IsDistinct nat_eq (map (λ (o : OwnFile). slot_number o.slot) m.own)
  pub pom : pom_first m.own ≡ true
  pub entries : list_all (λ (e : Entry). is_backed m e.origin) m.entries ≡ true
  pub goals : list_all is_call m.goals ≡ true
  pub idle : m.goals ≡ [] → (m.fetch ≡ []) × (m.entries ≡ [])

abbrev pub is_own : ℕ → PlanModule → Bool
is_own file m = is_listed file (map (λ (o : OwnFile). o.file) m.own)

-- the greatest number of events that a module may have
abbrev pub greatest_events : PlanModule → ℕ
greatest_events m = 6 + 4 * length m.batch + 2 * length m.fetch + 2 * length m.own + length m.goals

-- a plan: its places are in range, its names ascend, its files differ, and what two modules share is so
pub record IsSoundPlan (plan : Plan) : Type 0 where
  pub places : IsSound (outline_of plan)
  pub workers : (1 ≤ plan.workers) × (plan.workers ≤ 16)
  pub names : TextsClimb plan.names
  pub files : IsDistinct same_text plan.files
  pub present : length plan.present ≡ length plan.files
  pub modules : (number : ℕ) (m : PlanModule) → slice_get plan.modules number ≡ Some m → IsSoundPlanModule m
  -- one name stands in the batch of every module that fetches a file
  pub cover : (file : ℕ) → (name : ℕ) × ((number : ℕ) (m : PlanModule) → slice_get plan.modules number ≡ Some m → is_listed file m.fetch ≡ true → is_listed name m.batch ≡ true)
  -- no own file is fetched
  pub not_fetched : (file a b : ℕ) (m n : PlanModule) → slice_get plan.modules a ≡ Some m → slice_get plan.modules b ≡ Some n → is_own file m ≡ true → is_listed file n.fetch ≡ false
  -- or belongs to two modules
  pub one_owner : (file a b : ℕ) (m n : PlanModule) → slice_get plan.modules a ≡ Some m → slice_get plan.modules b ≡ Some n → is_own file m ≡ true → is_own file n ≡ true → a ≡ b
  pub events : total greatest_events plan.modules ≤ plan.events
