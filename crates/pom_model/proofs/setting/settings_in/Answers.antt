use Rattle.std.proofs.Common.{ap, sym, ◌∙◌}
use Rattle.std.specs.Option.{option_copied}
use Rattle.pom_model.specs.Elements.{children}
use Rattle.pom_model.specs.AnyNames.{configuration, settings_within}
use Rattle.pom_model.proofs.Settings.{settings_none}
use Rattle.pom_model.proofs.setting.settings_in.Goals as goal

pub returns-in-None : goal.returns-in-None
unfolding configuration
returns-in-None c = c.new.ensures ∙ sym (settings_none 64 c.args.nodes.now) ∙ ap (λ o. settings_within 64 c.args.nodes.now (children o)) (sym (ap option_copied c.in-None.is) ∙ c.child.ensures)
