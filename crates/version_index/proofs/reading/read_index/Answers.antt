use Rattle.std.proofs.Common.{◌≡◌, ◌==◌, IfOk, ap, length, subst, ◌∙◌}
use Rattle.std.proofs.lemmas.Bool.{false≢true}
use Rattle.version_index.proofs.Fronts.{ended, no_front, some_front}
use Rattle.version_index.proofs.reading.read_index.Goals as goal

pub returns-in-Some : goal.returns-in-Some
returns-in-Some c =
    subst (λ read. IfOk c.of_front.result (λ versions. versions ≡ read))
    (some_front c.args.bytes.now c.in-Some.front.now c.if-bytes-gt-MOST_INDEX.false (ended c.args.bytes.now c.in-Some.front.now c.in-Some.ensures.cases))
    c.of_front.ensures

pub returns-in-None : goal.returns-in-None
returns-in-None c = no_front c.args.bytes.now (λ e. false≢true (c.if-is_empty.ensures ∙ ap (λ b. length b == 0) e)) c.in-None.ensures.cases
