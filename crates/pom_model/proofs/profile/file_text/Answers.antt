use Rattle.std.proofs.Common.{◌≡◌, IfOk, subst}
use Rattle.pom_model.specs.Elements.{text_of}
use Rattle.pom_model.specs.Fields.{file_text}
use Rattle.pom_model.proofs.profile.file_text.Goals as goal

pub returns : goal.returns
unfolding file_text
returns c = subst (λ o. IfOk c.text_of.result (λ text. text ≡ text_of c.args.nodes.now c.args.name.now o)) c.child.ensures c.text_of.ensures
