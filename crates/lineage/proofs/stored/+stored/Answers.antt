use Rattle.std.proofs.Common.{◌≡◌, Ok, Err, IfSome, subst, sym}
use Rattle.lineage.specs.Lineage.{gav_of, joined_from, joined_up}
use Rattle.lineage.specs.Stores.{IsThere, LedThere}
use Rattle.lineage.proofs.Judging.{entered_says, led_there, packed_there, placed}
use Rattle.lineage.proofs.stored.+stored.Goals as goal

pub from_parent-returns-in-Ok-clause-keeps : goal.from_parent-returns-in-Ok-clause-keeps
from_parent-returns-in-Ok-clause-keeps g t c = λ path found there. c.joined_from.ensures.keeps path found (c.origin_of.ensures.keeps path found there)

pub from_parent-returns-clause-keeps : goal.from_parent-returns-clause-keeps
from_parent-returns-clause-keeps g t c = λ path found there. c.joined_from.ensures.keeps path found (c.origin_of.ensures.keeps path found there)

pub joined_from-returns-in-Some-clause-says : goal.joined_from-returns-in-Some-clause-says
joined_from-returns-in-Some-clause-says g t c = λ world fits holds at.
    subst (λ o. IfSome o (λ kept. joined_from world c.args.given.now c.args.left c.args.child.now c.args.seen.now c.args.origin.now ≡ Ok kept)) c.in-Some.is
    (c.in_ok-kept.ensures.told world c.args.given.now c.args.child.now holds at)

pub fresh-returns-clause-keeps : goal.fresh-returns-clause-keeps
fresh-returns-clause-keeps g t c = λ path found there. c.entered.ensures.keeps path found (c.parent_from.ensures.keeps path found there)

pub entered-returns-in-Ok-line-clause-says : goal.entered-returns-in-Ok-line-clause-says
entered-returns-in-Ok-line-clause-says g t c = λ world fits holds led.
    let there = packed_there world c.args.child.now c.args.origin.now c.args.found.now c.in_ok-raw.raw c.in_ok-raw-2.raw led c.in_ok-raw.ensures.says c.in_ok-raw-2.ensures.says in
    let lent = subst (λ m. IsThere world c.args.origin.now m) (sym c.deref.ensures) there in
    entered_says world c.args.given.now (joined_up world c.args.given.now c.args.left) c.args.child.now c.args.seen.now (gav_of c.args.origin.now) c.args.found.now c.in_ok-raw.raw c.in_ok-raw-2.raw (Ok c.in-Ok-line.line) c.in_ok-raw.ensures.says c.in_ok-raw-2.ensures.says
    (c.in-Ok-line.ensures.says world (c.in-Ok.ensures.fit world fits) (c.in-Ok.ensures.holds world fits holds lent)
    (placed world c.args.given.now c.in_ok-raw-2.raw c.deref.result.now c.in-Ok.places c.deref-2.result.now c.deref.ensures c.deref-2.ensures (c.in-Ok.ensures.says world fits holds lent)))

pub entered-returns-in-Ok-line-clause-holds : goal.entered-returns-in-Ok-line-clause-holds
entered-returns-in-Ok-line-clause-holds g t c = λ world fits holds led.
    let there = packed_there world c.args.child.now c.args.origin.now c.args.found.now c.in_ok-raw.raw c.in_ok-raw-2.raw led c.in_ok-raw.ensures.says c.in_ok-raw-2.ensures.says in
    let lent = subst (λ m. IsThere world c.args.origin.now m) (sym c.deref.ensures) there in
    c.in-Ok-line.ensures.holds world (c.in-Ok.ensures.fit world fits) (c.in-Ok.ensures.holds world fits holds lent)

pub entered-returns-in-Ok-line-clause-keeps : goal.entered-returns-in-Ok-line-clause-keeps
entered-returns-in-Ok-line-clause-keeps g t c = λ path found read. c.in-Ok-line.ensures.keeps path found (c.in-Ok.ensures.keeps path found read)

pub entered-returns-clause-says : goal.entered-returns-clause-says
entered-returns-clause-says g t c = λ world fits holds led.
    let there = packed_there world c.args.child.now c.args.origin.now c.args.found.now c.in_ok-raw.raw c.in_ok-raw-2.raw led c.in_ok-raw.ensures.says c.in_ok-raw-2.ensures.says in
    let lent = subst (λ m. IsThere world c.args.origin.now m) (sym c.deref.ensures) there in
    entered_says world c.args.given.now (joined_up world c.args.given.now c.args.left) c.args.child.now c.args.seen.now (gav_of c.args.origin.now) c.args.found.now c.in_ok-raw.raw c.in_ok-raw-2.raw (Err c.in-Err-line.fault) c.in_ok-raw.ensures.says c.in_ok-raw-2.ensures.says
    (c.in-Err-line.ensures.says world (c.in-Ok.ensures.fit world fits) (c.in-Ok.ensures.holds world fits holds lent)
    (placed world c.args.given.now c.in_ok-raw-2.raw c.deref.result.now c.in-Ok.places c.deref-2.result.now c.deref.ensures c.deref-2.ensures (c.in-Ok.ensures.says world fits holds lent)))

pub entered-returns-clause-keeps : goal.entered-returns-clause-keeps
entered-returns-clause-keeps g t c = λ path found read. c.in-Err-line.ensures.keeps path found (c.in-Ok.ensures.keeps path found read)

pub fresh-returns-clause-holds : goal.fresh-returns-clause-holds
fresh-returns-clause-holds g t c = λ world fits holds at.
    let led = led_there world c.args.child.now c.args.seen.now c.args.origin.now c.in-Ok.found at (c.in-Ok.ensures.says world c.args.given.now fits holds) in
    c.entered.ensures.holds world (c.in-Ok.ensures.fit world fits) (c.in-Ok.ensures.holds world c.args.given.now fits holds)
    (subst (λ f. LedThere world c.args.origin.now f) (sym c.deref.ensures) led)
