-- A request has one answer, and an answer is the same as itself.
use Rattle.std.proofs.Common.{◌≡◌, ℕ, true, false, List, refl, sym, ap, ◌∙◌}
use Rattle.std.specs.Cmp.Lexicographic.{nat_list_eq_equiv}
use Rattle.std.proofs.lemmas.Slice.Eq.{bytes_eq-Decides}
use Rattle.goal_types.specs.declared.goal.GoalAnswer.{GoalAnswer}
use Rattle.goal_types.specs.declared.goal.GoalAnswer.TheVariants.{Done, Produced, Failed}
use Rattle.goal_types.specs.declared.goal.GoalRequest.{GoalRequest}
use Rattle.gates.specs.Builtin.{builtin, same_answer}

pub same_itself : (a : GoalAnswer) → same_answer a a ≡ true
same_itself Done = refl
same_itself (Produced bytes) = nat_list_eq_equiv.refl bytes
same_itself (Failed text) = nat_list_eq_equiv.refl text

same_one : (x a : GoalAnswer) → same_answer x a ≡ true → x ≡ a
same_one Done Done e = refl
same_one Done (Produced b) e = cc
same_one Done (Failed b) e = cc
same_one (Produced a) Done e = cc
same_one (Produced a) (Produced b) e = ap Produced ((bytes_eq-Decides a b).0 e)
same_one (Produced a) (Failed b) e = cc
same_one (Failed a) Done e = cc
same_one (Failed a) (Produced b) e = cc
same_one (Failed a) (Failed b) e = ap Failed ((bytes_eq-Decides a b).0 e)

pub one_answer : (request : GoalRequest) (a b : GoalAnswer) → same_answer (builtin request) a ≡ true → same_answer (builtin request) b ≡ true → a ≡ b
one_answer request a b p q = sym (same_one (builtin request) a p) ∙ same_one (builtin request) b q
