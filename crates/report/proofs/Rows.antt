-- The rows of a list of modules, from a number on.
use Rattle.std.proofs.Common.{◌≡◌, arith, ℕ, zero, suc, ◌+◌, Bool, true, false, ◌&&◌, subst, List, [], ◌∷◌, drop, slice_get, Option, Some, None, refl, ap, ◌∙◌}
use Rattle.goal_types.specs.declared.goal.GoalAnswer.{GoalAnswer}
use Rattle.build_core.specs.declared.plan.Plan.{Plan}
use Rattle.build_core.specs.declared.plan.PlanModule.{PlanModule}
use Rattle.build_core.specs.declared.ending.State.{State}
use Rattle.build_core.specs.declared.ending.State.TheVariants.{Waiting, Running, Skipped, Ended}
use Rattle.build_core.specs.declared.ending.Ending.{Ending}
use Rattle.build_core.specs.declared.ending.Ending.TheVariants as ending
use Rattle.report.specs.declared.row.RowEnd.{RowEnd}
use Rattle.report.specs.declared.row.RowEnd.TheVariants as row
use Rattle.report.specs.declared.row.ReportRow.{ReportRow}
use Rattle.report.specs.declared.details.Details.{Details}
use Rattle.std.specs.List.{list_all}
use Rattle.report.specs.Rows.{call_text_of, ending_row, names_file, NamesFiles, row_of, rows, said, state_row}

-- without modules or states there is no row
no_modules : (plan : Plan) (answers : ℕ → ℕ → GoalAnswer) (n : ℕ) (details : List Details) (states : List State) → rows plan answers n details [] states ≡ []
no_modules plan answers n [] states = refl
no_modules plan answers n (d ∷ details) states = refl

no_states : (plan : Plan) (answers : ℕ → ℕ → GoalAnswer) (n : ℕ) (details : List Details) (modules : List PlanModule) → rows plan answers n details modules [] ≡ []
no_states plan answers n [] modules = refl
no_states plan answers n (d ∷ details) [] = refl
no_states plan answers n (d ∷ details) (m ∷ modules) = refl

-- an ending's row depends on what its goal was answered alone
ending_same : (plan : Plan) (m : PlanModule) (a b : ℕ → GoalAnswer) → ((i : ℕ) → a i ≡ b i) → (end : Ending) → ending_row plan m a end ≡ ending_row plan m b end
ending_same plan m a b e ending.Built = refl
ending_same plan m a b e (ending.Goal i) = ap (λ (answer : GoalAnswer). row.Goal (call_text_of (slice_get m.goals i)) (said answer)) (e i)
ending_same plan m a b e (ending.Missing file) = refl
ending_same plan m a b e ending.NoArtifact = refl
ending_same plan m a b e (ending.OutputTooLarge i) = refl
ending_same plan m a b e ending.ClasspathTooLarge = refl
ending_same plan m a b e (ending.Fault device) = refl
ending_same plan m a b e ending.Memory = refl

state_same : (plan : Plan) (m : PlanModule) (a b : ℕ → GoalAnswer) → ((i : ℕ) → a i ≡ b i) → (state : State) → state_row plan m a state ≡ state_row plan m b state
state_same plan m a b e (Ended end) = ending_same plan m a b e end
state_same plan m a b e (Skipped u) = refl
state_same plan m a b e Waiting = refl
state_same plan m a b e (Running worker) = refl

row_cons : (m : PlanModule) (d : Details) (x y : RowEnd) (more others : List ReportRow) → x ≡ y → more ≡ others → row_of m x d ∷ more ≡ row_of m y d ∷ others
row_cons m d x y more others e f = ap (λ (end : RowEnd). row_of m end d ∷ more) e ∙ ap (λ (l : List ReportRow). row_of m y d ∷ l) f

-- rows by the same answers are the same
pub rows_same : (plan : Plan) (a b : ℕ → ℕ → GoalAnswer) → ((m i : ℕ) → a m i ≡ b m i) → (n : ℕ) (details : List Details) (modules : List PlanModule) (states : List State) → rows plan a n details modules states ≡ rows plan b n details modules states
rows_same plan a b e n [] modules states = refl
rows_same plan a b e n (d ∷ details) [] states = refl
rows_same plan a b e n (d ∷ details) (m ∷ modules) [] = refl
rows_same plan a b e n (d ∷ details) (m ∷ modules) (state ∷ states) =
    row_cons m d (state_row plan m (a n) state) (state_row plan m (b n) state) _ _ (state_same plan m (a n) (b n) (e n) state) (rows_same plan a b e (suc n) details modules states)

-- ---- from a place on

drop_some : {A : Type 0} (n : ℕ) (xs : List A) (x : A) → slice_get xs n ≡ Some x → drop n xs ≡ x ∷ drop (suc n) xs
drop_some n [] x e = cc
drop_some zero (y ∷ xs) x e = ap (λ z. z ∷ xs) (same e)
  where
    same : Some y ≡ Some x → y ≡ x
    same e = cc
drop_some (suc n) (y ∷ xs) x e = drop_some n xs x e

drop_none : {A : Type 0} (n : ℕ) (xs : List A) → slice_get xs n ≡ None → drop n xs ≡ []
drop_none zero [] e = refl
drop_none (suc n) [] e = refl
drop_none zero (y ∷ xs) e = cc
drop_none (suc n) (y ∷ xs) e = drop_none n xs e

-- one row more, where there are a module and its state
pub rows_step : (plan : Plan) (a : ℕ → ℕ → GoalAnswer) (n : ℕ) (modules : List PlanModule) (states : List State) (m : PlanModule) (s : State) (d : Details) (details : List Details) → slice_get modules n ≡ Some m → slice_get states n ≡ Some s
    → rows plan a n (d ∷ details) (drop n modules) (drop n states) ≡ row_of m (state_row plan m (a n) s) d ∷ rows plan a (n + 1) details (drop (n + 1) modules) (drop (n + 1) states)
rows_step plan a n modules states m s d details e f =
    let next : suc n ≡ n + 1 = omega arith in
    ap (λ (ms : List PlanModule). rows plan a n (d ∷ details) ms (drop n states)) (drop_some n modules m e)
    ∙ ap (λ (ss : List State). rows plan a n (d ∷ details) (m ∷ drop (suc n) modules) ss) (drop_some n states s f)
    ∙ ap (λ k. row_of m (state_row plan m (a n) s) d ∷ rows plan a k details (drop k modules) (drop k states)) next

-- and none where there is no module or no state
pub rows_out : (plan : Plan) (a : ℕ → ℕ → GoalAnswer) (n : ℕ) (modules : List PlanModule) (states : List State) (details : List Details) → slice_get modules n ≡ None → rows plan a n details (drop n modules) (drop n states) ≡ []
rows_out plan a n modules states details e = ap (λ (ms : List PlanModule). rows plan a n details ms (drop n states)) (drop_none n modules e) ∙ no_modules plan a n details (drop n states)

pub rows_stop : (plan : Plan) (a : ℕ → ℕ → GoalAnswer) (n : ℕ) (modules : List PlanModule) (states : List State) (details : List Details) → slice_get states n ≡ None → rows plan a n details (drop n modules) (drop n states) ≡ []
rows_stop plan a n modules states details e = ap (λ (ss : List State). rows plan a n details (drop n modules) ss) (drop_none n states e) ∙ no_states plan a n details (drop n modules)

-- a state of a list of which each names a file of the plan names one
front : (a b : Bool) → a && b ≡ true → a ≡ true
front true b e = refl
front false b e = cc

rest : (a b : Bool) → a && b ≡ true → b ≡ true
rest true b e = e
rest false b e = cc

pub named_at : (plan : Plan) (states : List State) (n : ℕ) (s : State) → NamesFiles plan states → slice_get states n ≡ Some s → names_file plan s ≡ true
named_at plan [] n s named e = cc
named_at plan (x ∷ states) zero s named e = subst (λ y. names_file plan y ≡ true) (same e) (front (names_file plan x) (list_all (names_file plan) states) named)
  where
    same : Some x ≡ Some s → x ≡ s
    same e = cc
named_at plan (x ∷ states) (suc n) s named e = named_at plan states n s (rest (names_file plan x) (list_all (names_file plan) states) named) e
