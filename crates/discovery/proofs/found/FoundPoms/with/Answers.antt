use Rattle.std.proofs.Common.{◌≡◌, ◌||◌, ap, sym, ◌∙◌}
use Rattle.std.specs.Str.{bytes_eq}
use Rattle.discovery.specs.Met.{is_met}
use Rattle.discovery.proofs.Meeting.{met_more}
use Rattle.discovery.proofs.found.FoundPoms.with.Goals as goal

pub invariant_of-result : goal.invariant_of-result
invariant_of-result c = λ path. c.in_ok-add_path.ensures path ∙ ap (λ b. bytes_eq c.args.pom.path path || b) (c.self.invariant path) ∙ sym (met_more c.self.inside.poms.items c.args.pom path) ∙ ap (λ l. is_met l path) (sym c.in_ok-push.ensures.items)
