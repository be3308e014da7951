use Rattle.lineage.proofs.Twice.{leads}
use Rattle.lineage.proofs.store.Store.keep_as.Goals as goal

pub returns-in_err-keep_known-clause-holds : goal.returns-in_err-keep_known-clause-holds
returns-in_err-keep_known-clause-holds c = λ world given held lead.
    c.keep_known.ensures.holds world given held
    (leads world given c.args.self.now c.args.gav.now c.args.path.now c.is_known.result c.in_ok-found.field-0 c.in-Some.found held lead c.is_known.ensures c.if-is_known.false c.in_ok-found.ensures c.in-Some.is)

pub returns-clause-holds : goal.returns-clause-holds
returns-clause-holds c = λ world given held lead.
    c.keep_known.ensures.holds world given held
    (leads world given c.args.self.now c.args.gav.now c.args.path.now c.is_known.result c.in_ok-found.field-0 c.in-Some.found held lead c.is_known.ensures c.if-is_known.false c.in_ok-found.ensures c.in-Some.is)
