use Rattle.std.specs.HashMap.{get}
use Rattle.mvn_base.specs.Gav.{gav_eq}
use Rattle.project_libraries.proofs.Keeping.{known_built, known_more}
use Rattle.project_libraries.proofs.known.built_anew.Goals as goal

pub returns-in_ok-keep_known-in-Ok-clause-kept : goal.returns-in_ok-keep_known-in-Ok-clause-kept
returns-in_ok-keep_known-in-Ok-clause-kept g c = λ world own fits all holds.
    let given = c.args.given.now in
    let old = get gav_eq c.args.memo.now in
    let gav = c.args.gav.now in
    known_more world given own old (get gav_eq c.keep_known.new.map) gav c.in-Ok.known holds c.requires
    (known_built world given own old gav c.in-Ok.known holds c.requires (c.in-Ok.ensures.tells world fits all)) c.in_ok-keep_known-in-Ok.ensures.ok
