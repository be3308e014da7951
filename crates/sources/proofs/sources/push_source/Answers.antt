use Rattle.std.proofs.Common.{◌≤◌, length, IfSome, subst, ap, ◌∙◌, arith}
use Rattle.sources.specs.Sources.{sources_len}
use Rattle.sources.proofs.SourcesRead.{len_push}
use Rattle.sources.proofs.sources.push_source.Goals as goal

pub returns-in-Ok-push-clause-left : goal.returns-in-Ok-push-clause-left
returns-in-Ok-push-clause-left g c =
    let within : length c.in-Ok-Some.bytes ≤ c.args.room = subst (λ o. IfSome o (λ b. length b ≤ c.args.room)) c.in-Ok-Some.field-0-is c.in-Ok-Some.ensures.within in
    omega (arith, ap sources_len c.in-Ok-push.ensures.ok ∙ len_push c.args.sources.now c.in-Ok.path c.in-Ok-Some.bytes, c.len.ensures, within)
