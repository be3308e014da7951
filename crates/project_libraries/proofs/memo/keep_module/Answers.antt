use Rattle.std.proofs.Common.{sym, ◌∙◌}
use Rattle.std.specs.HashMap.{get}
use Rattle.mvn_base.specs.Gav.{gav_eq}
use Rattle.project_libraries.proofs.Keeping.{module_put, module_there}
use Rattle.project_libraries.proofs.memo.keep_module.Goals as goal

pub returns-then-is_known : goal.returns-then-is_known
returns-then-is_known c = λ done is gav. module_there (get gav_eq c.args.map.now) done c.args.model.now c.args.gav.now c.requires is (sym c.is_known.ensures ∙ c.if-is_known.true) gav

pub returns : goal.returns
returns c =
    module_put c.keep_known.result (get gav_eq c.args.map.now) (get gav_eq c.keep_known.new.map) c.args.model.now c.args.gav.now c.in_ok-known.known c.requires c.in_ok-known.ensures
    (sym c.is_known.ensures ∙ c.if-is_known.false) c.keep_known.ensures.ok
