use Rattle.std.proofs.Common.{arith, ap, sym, subst, ◌∙◌}
use Rattle.std.specs.List.{prefix_len}
use Rattle.std.specs.Str.{chars}
use Rattle.pom_text.specs.Characters.{is_allowed}
use Rattle.pom_text.specs.Answers.{Agrees}
use Rattle.pom_text.specs.Running.{outcome_of, run}
use Rattle.pom_text.specs.Tree.{nothing_yet}
use Rattle.pom_text.proofs.Answered.{answer_so, ends_there}
use Rattle.pom_text.proofs.Bounds.{body_within}
use Rattle.pom_text.proofs.Places.{front_within}
use Rattle.pom_text.proofs.read.read_characters.Goals as goal

pub read_pieces-requires : goal.read_pieces-requires
read_pieces-requires c = omega (arith, c.requires.text, body_within (chars c.allowed_of.result.0.now) (chars c.in-Some.body.now) (sym c.in-Some.ensures), front_within (prefix_len is_allowed (chars c.args.text.now)) c.args.text.now (chars c.allowed_of.result.0.now) c.utf8.text c.allowed_of.ensures.front_is)

pub placed-requires-clause-rest : goal.placed-requires-clause-rest
placed-requires-clause-rest c =
    ends_there (chars c.args.text.now) (chars c.allowed_of.result.0.now) (chars c.allowed_of.result.1.now) (chars c.in-Some.body.now) (outcome_of c.in_ok-reading-in-Some.reading) c.allowed_of.ensures.front_is c.allowed_of.ensures.back_is (sym c.in-Some.ensures)
    (c.in_ok-reading-in-Some.ensures ∙ ap (λ w. run w nothing_yet (chars c.in-Some.body.now)) c.is_over.ensures)

pub returns-in_ok-reading-in-Some : goal.returns-in_ok-reading-in-Some
returns-in_ok-reading-in-Some c =
    subst (λ a. Agrees a c.placed.result)
    (answer_so c.args.mark c.args.encoding (chars c.args.text.now) (chars c.allowed_of.result.0.now) (chars c.allowed_of.result.1.now) (chars c.in-Some.body.now) (outcome_of c.in_ok-reading-in-Some.reading) c.allowed_of.ensures.front_is c.allowed_of.ensures.back_is (sym c.in-Some.ensures)
    (c.in_ok-reading-in-Some.ensures ∙ ap (λ w. run w nothing_yet (chars c.in-Some.body.now)) c.is_over.ensures))
    c.placed.ensures
