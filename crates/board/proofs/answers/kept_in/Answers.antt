use Rattle.std.proofs.Common.{ap, sym, ◌∙◌}
use Rattle.std.specs.Option.{option_map, option_map_or}
use Rattle.build_core.specs.declared.plan.PlanModule.{PlanModule}
use Rattle.board.specs.Walks.{goals_of}
use Rattle.board.specs.Builds.{answer_kept}
use Rattle.board.specs.declared.next.AnswerKept.TheVariants.{Held}
use Rattle.board.proofs.AnswerMore.{count_is}
use Rattle.board.proofs.answers.kept_in.Goals as goal

pub kept_by-requires : goal.kept_by-requires
kept_by-requires c = count_is c.args.plan.now.modules c.args.answers.now.goals c.args.number c.in-Some.module.now c.requires (sym c.module_in.ensures ∙ ap (option_map (λ m. m.now)) c.in-Some.is)

pub returns-in-Some : goal.returns-in-Some
returns-in-Some c = c.kept_by.ensures ∙ ap (λ found. option_map_or (λ (m : PlanModule). answer_kept c.args.goal (goals_of c.args.answers.now.kept c.args.number m)) found Held) (sym (sym c.module_in.ensures ∙ ap (option_map (λ m. m.now)) c.in-Some.is))

pub returns-in-None : goal.returns-in-None
returns-in-None c = ap (λ found. option_map_or (λ (m : PlanModule). answer_kept c.args.goal (goals_of c.args.answers.now.kept c.args.number m)) found Held) (sym (sym c.module_in.ensures ∙ ap (option_map (λ m. m.now)) c.in-None.is))
