use Rattle.std.proofs.Common.{◌≡◌, drop}
use Rattle.module_plan.specs.Numbers.{with_texts}
use Rattle.plan_numbers.proofs.tables.add_texts.Given as goal

abbrev pub invariant-loop-text : goal.invariant-loop-text
invariant-loop-text l = with_texts l.set (drop l.text-index l.texts) ≡ with_texts l.initial.set l.texts
