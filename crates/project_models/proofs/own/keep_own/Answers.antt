use Rattle.std.proofs.Common.{refl}
use Rattle.model_resolver.specs.Finding.{world_of}
use Rattle.project_models.proofs.Leading.{one_searched, own_known}
use Rattle.project_models.proofs.own.keep_own.Goals as goal

pub loop-pom-init : goal.loop-pom-init
loop-pom-init c = record {
  holds = λ tree local remote given held said. held;
  searched = λ gav none. refl;
}

pub loop-pom-preserved : goal.loop-pom-preserved
loop-pom-preserved c =
    let inv = c.loop-pom.invariant in
    let p = c.pom-item.result in
    record {
      holds = λ tree local remote given held said.
          c.keep_as.ensures.holds (world_of c.args.poms.now tree local remote) given (inv.holds tree local remote given held said)
          (own_known c.args.poms.now c.loop-pom.pom-index p c.loop-pom-test.true c.pom-item.is tree local remote given c.loop-pom.store said inv.searched);
      searched =
          one_searched c.args.poms.now c.loop-pom.pom-index p c.loop-pom-test.true c.pom-item.is c.loop-pom.store c.keep_as.new.self c.in_ok-keep_as.field-0 inv.searched
          c.in_ok-keep_as.ensures.value c.if-not-branch.false c.keep_as.ensures.others;
    }

pub returns-then-not-branch : goal.returns-then-not-branch
returns-then-not-branch c = λ tree local remote given held said.
    let inv = c.loop-pom.invariant in
    c.keep_as.ensures.holds (world_of c.args.poms.now tree local remote) given (inv.holds tree local remote given held said)
    (own_known c.args.poms.now c.loop-pom.pom-index c.pom-item.result c.loop-pom-test.true c.pom-item.is tree local remote given c.loop-pom.store said inv.searched)

pub returns-in_err-keep_as : goal.returns-in_err-keep_as
returns-in_err-keep_as c = λ tree local remote given held said.
    let inv = c.loop-pom.invariant in
    c.keep_as.ensures.holds (world_of c.args.poms.now tree local remote) given (inv.holds tree local remote given held said)
    (own_known c.args.poms.now c.loop-pom.pom-index c.pom-item.result c.loop-pom-test.true c.pom-item.is tree local remote given c.loop-pom.store said inv.searched)
