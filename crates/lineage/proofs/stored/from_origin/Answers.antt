use Rattle.std.proofs.Common.{◌≡◌, true, IfSome, Ok, subst}
use Rattle.pom_source.specs.Answers.{Fails}
use Rattle.lineage.specs.Lineage.{joined_from}
use Rattle.lineage.specs.Stores.{line_in, serves}
use Rattle.lineage.proofs.stored.from_origin.Goals as goal

pub returns-in-Ok-clause-says : goal.returns-in-Ok-clause-says
returns-in-Ok-clause-says g c = λ world fits holds at.
    subst (λ seen. joined_from world c.args.given.now 32 c.args.child.now seen c.args.origin.now ≡ Ok c.in-Ok.line) c.new-none.ensures (c.in-Ok.ensures.says world fits holds at)

pub returns-clause-says : goal.returns-clause-says
returns-clause-says g c = λ world fits holds at.
    subst (λ seen. Fails (joined_from world c.args.given.now 32 c.args.child.now seen c.args.origin.now) c.in-Err.fault) c.new-none.ensures (c.in-Err.ensures.says world fits holds at)

pub returns-in-Ok-clause-unasked : goal.returns-in-Ok-clause-unasked
returns-in-Ok-clause-unasked g c =
    subst (λ seen. IfSome (line_in c.args.store.now c.args.origin.now) (λ line. serves 32 seen line ≡ true → c.joined_from.new.source ≡ c.args.source.now)) c.new-none.ensures c.in-Ok.ensures.unasked

pub returns-clause-unasked : goal.returns-clause-unasked
returns-clause-unasked g c =
    subst (λ seen. IfSome (line_in c.args.store.now c.args.origin.now) (λ line. serves 32 seen line ≡ true → c.joined_from.new.source ≡ c.args.source.now)) c.new-none.ensures c.in-Err.ensures.unasked
