-- Answers that are kept, one entry more.
use Rattle.std.proofs.Common.{◌≡◌, ℕ, zero, suc, ◌+◌, ◌⊎◌, inl, inr, Bool, true, false, ◌||◌, ◌&&◌, not, nat_eq, List, [], ◌∷◌, ◌++◌, find, get_or, slice_get, Some, None, option_map, unwrap_or, refl, arith, sym, ap, ◌∙◌, if◌then◌else◌}
use Rattle.std.specs.Prelude.{slice_index_or}
use Rattle.std.specs.Option.{option_map_or}
use Rattle.std.proofs.lemmas.Bool.{eqb-true, false≢true}
use Rattle.std.proofs.lemmas.List.{append-nil, append_assoc}
use Rattle.build_core.specs.declared.event.Answered.{Answered}
use Rattle.goal_types.specs.declared.goal.GoalAnswer.TheVariants.{Done}
use Rattle.goal_types.specs.declared.goal.GoalCall.{GoalCall}
use Rattle.goal_types.specs.declared.goal.OwnBytes.{OwnBytes}
use Rattle.build_core.specs.declared.plan.Plan.{Plan}
use Rattle.build_core.specs.declared.plan.PlanModule.{PlanModule}
use Rattle.event_core.specs.declared.entry.RunEntry.{RunEntry}
use Rattle.run_law.proofs.Invariants.{has_answer, outs}
use Rattle.build_core.specs.OneThread.{answer_at}
use Rattle.event_core.specs.Runs.{answers_from, answers_in, goals_in, kept_by, outputs_from, outputs_in}
use Rattle.build_core.specs.Slots.{all_answered, kept_of, run_goals}

-- the answers of a run and one entry more
from_more : (plan : Plan) (past xs : List RunEntry) (e : RunEntry) → answers_from plan past (xs ++ e ∷ []) ≡ answers_from plan past xs ++ kept_by plan (past ++ xs) e.event e.carried
from_more plan past [] e = append-nil (kept_by plan past e.event e.carried) ∙ ap (λ p. kept_by plan p e.event e.carried) (sym (append-nil past))
from_more plan past (x ∷ xs) e =
    ap (λ t. kept_by plan past x.event x.carried ++ t) (from_more plan (past ++ x ∷ []) xs e)
    ∙ sym (append_assoc (kept_by plan past x.event x.carried) (answers_from plan (past ++ x ∷ []) xs) (kept_by plan ((past ++ x ∷ []) ++ xs) e.event e.carried))
    ∙ ap (λ p. (kept_by plan past x.event x.carried ++ answers_from plan (past ++ x ∷ []) xs) ++ kept_by plan p e.event e.carried) (append_assoc past (x ∷ []) xs)

-- the answers of one entry more
pub answers_more : (plan : Plan) (past : List RunEntry) (e : RunEntry) → answers_in plan (past ++ e ∷ []) ≡ answers_in plan past ++ kept_by plan past e.event e.carried
answers_more plan past e = from_more plan [] past e

-- ---- look-ups

-- an answer that fails the test changes nothing that is found
find_one : (p : Answered → Bool) (kept : List Answered) (a : Answered) → p a ≡ false → find p (kept ++ a ∷ []) ≡ find p kept
find_one p [] a not = ap (λ b. if b then Some a else None) not
find_one p (k ∷ kept) a not = ap (λ t. if p k then Some k else t) (find_one p kept a not)

-- what fails in front fails together
and_false : (a b : Bool) → a ≡ false → (a && b) ≡ false
and_false false b e = refl
and_false true b e = absurd (false≢true (sym e))

-- an answer of another module changes nothing
pub other_answers : (kept : List Answered) (a : Answered) (number : ℕ) → nat_eq a.«module» number ≡ false → answer_at (kept ++ a ∷ []) number ≡ answer_at kept number
other_answers kept a number other = λ i goal. unwrap_or (option_map (λ (x : Answered). x.answer) (find_one (λ (x : Answered). nat_eq x.«module» number && nat_eq x.goal goal) kept a (and_false (nat_eq a.«module» number) (nat_eq a.goal goal) other) i)) Done

-- where there is none, each goal counts as done
none_at : (kept : List Answered) (number goal : ℕ) → has_answer kept number ≡ false → find (λ (x : Answered). nat_eq x.«module» number && nat_eq x.goal goal) kept ≡ None
none_at [] number goal none = refl
none_at (k ∷ kept) number goal none = by (nat_eq k.«module» number) none (none_at kept number goal)
  where
    by : (b : Bool) → (b || has_answer kept number) ≡ false → (has_answer kept number ≡ false → find (λ (x : Answered). nat_eq x.«module» number && nat_eq x.goal goal) kept ≡ None) → (if b && nat_eq k.goal goal then Some k else find (λ (x : Answered). nat_eq x.«module» number && nat_eq x.goal goal) kept) ≡ None
    by true n again = absurd (false≢true (sym n))
    by false n again = again n

-- where no answer is kept each goal counts as done
no_answers : (kept : List Answered) (number : ℕ) → has_answer kept number ≡ false → answer_at kept number ≡ (λ goal. Done)
no_answers kept number none = λ i goal. unwrap_or (option_map (λ (x : Answered). x.answer) (none_at kept number goal none i)) Done

-- goals that are all done are good, and keep nothing new
all_done : (budget i : ℕ) (goals : List GoalCall) (own : List OwnBytes) → run_goals budget (λ goal. Done) i goals own ≡ all_answered own
all_done budget i [] own = refl
all_done budget i (call ∷ goals) own = all_done budget (suc i) goals own

-- so the goals of a module without answers are good
pub no_goals : (kept : List Answered) (number : ℕ) (m : PlanModule) → has_answer kept number ≡ false → goals_in kept number m ≡ all_answered []
no_goals kept number m none = ap (λ answers. run_goals m.budget answers 0 m.goals []) (no_answers kept number none) ∙ all_done m.budget 0 m.goals []

-- what a module keeps, by its goals
pub outs_at : (plan : Plan) (kept : List Answered) (number : ℕ) (m : PlanModule) → slice_get plan.modules number ≡ Some m → outs plan kept number ≡ kept_of (goals_in kept number m)
outs_at plan kept number m at = ap (λ found. option_map_or (λ m. kept_of (goals_in kept number m)) found []) at

-- without answers it keeps nothing
pub outs_none : (plan : Plan) (kept : List Answered) (number : ℕ) (m : PlanModule) → slice_get plan.modules number ≡ Some m → has_answer kept number ≡ false → outs plan kept number ≡ []
outs_none plan kept number m at none = outs_at plan kept number m at ∙ ap kept_of (no_goals kept number m none)

-- it keeps the same where its answers are the same
pub outs_same : (plan : Plan) (kept later : List Answered) (number : ℕ) → answer_at later number ≡ answer_at kept number → outs plan later number ≡ outs plan kept number
outs_same plan kept later number same = ap (λ answers. option_map_or (λ (m : PlanModule). kept_of (run_goals m.budget answers 0 m.goals [])) (slice_get plan.modules number) []) same

-- the list of all outputs has them
from_at : (kept : List Answered) (first : ℕ) (modules : List PlanModule) (i : ℕ) → get_or (outputs_from kept first modules) i [] ≡ option_map_or (λ m. kept_of (goals_in kept (first + i) m)) (slice_get modules i) []
from_at kept first [] i = refl
from_at kept first (m ∷ modules) zero = let e : first ≡ first + 0 = omega arith in ap (λ n. kept_of (goals_in kept n m)) e
from_at kept first (m ∷ modules) (suc i) = let e : suc first + i ≡ first + suc i = omega arith in from_at kept (suc first) modules i ∙ ap (λ n. option_map_or (λ m. kept_of (goals_in kept n m)) (slice_get modules i) []) e

-- what a run keeps at a place is what that module keeps
pub outputs_are : (plan : Plan) (entries : List RunEntry) (number : ℕ) → slice_index_or (outputs_in plan entries) number [] ≡ outs plan (answers_in plan entries) number
outputs_are plan entries number = from_at (answers_in plan entries) 0 plan.modules number ∙ (let e : 0 + number ≡ number = omega arith in ap (λ n. option_map_or (λ m. kept_of (goals_in (answers_in plan entries) n m)) (slice_get plan.modules number) []) e)

-- an answer more is that module's or was there
any_more : (kept : List Answered) (a : Answered) (number : ℕ) → has_answer (kept ++ a ∷ []) number ≡ true → (has_answer kept number ≡ true) ⊎ (a.«module» ≡ number)
any_more [] a number is = by (nat_eq a.«module» number) refl is
  where
    by : (b : Bool) → nat_eq a.«module» number ≡ b → (b || false) ≡ true → (false ≡ true) ⊎ (a.«module» ≡ number)
    by true e is = inr (eqb-true a.«module» number e)
    by false e is = inl is
any_more (k ∷ kept) a number is = by (nat_eq k.«module» number) is (any_more kept a number)
  where
    by : (b : Bool) → (b || has_answer (kept ++ a ∷ []) number) ≡ true → (has_answer (kept ++ a ∷ []) number ≡ true → (has_answer kept number ≡ true) ⊎ (a.«module» ≡ number)) → ((b || has_answer kept number) ≡ true) ⊎ (a.«module» ≡ number)
    by true is again = inl refl
    by false is again = again is

-- so a module has an answer that was there, or the new one is its
pub has_more : (kept : List Answered) (a : Answered) (number : ℕ) → has_answer (kept ++ a ∷ []) number ≡ true → (has_answer kept number ≡ true) ⊎ (a.«module» ≡ number)
has_more = any_more
