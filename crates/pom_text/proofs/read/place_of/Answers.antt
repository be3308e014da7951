use Rattle.std.proofs.Common.{arith, ap, ◌∙◌, length, refl, ◌+◌, ◌-◌}
use Rattle.std.specs.Str.{chars}
use Rattle.pom_text.specs.Encodings.{encoded}
use Rattle.pom_text.proofs.Bounds.{encoded_within}
use Rattle.pom_text.proofs.Places.{front_within, place_of, unread_within}
use Rattle.pom_text.proofs.read.place_of.Goals as goal

pub overflow_sub-read : goal.overflow_sub-read
overflow_sub-read c = omega (arith, unread_within c.args.text.now c.args.rest.now c.args.more.now c.utf8.text c.utf8.rest c.utf8.more c.requires)

pub split_at-requires : goal.split_at-requires
split_at-requires c = (place_of c.args.text.now c.args.rest.now c.args.more.now (length c.args.rest.now + length c.args.more.now) c.utf8.text c.utf8.rest c.utf8.more c.requires refl).boundary

pub returns : goal.returns
returns c =
    let place = place_of c.args.text.now c.args.rest.now c.args.more.now (length c.args.rest.now + length c.args.more.now) c.utf8.text c.utf8.rest c.utf8.more c.requires refl in
    let same = ap chars c.split_at.ensures.front ∙ place.front in
    record {
      place = c.len.ensures ∙ ap (λ t. length (encoded c.args.encoding t)) same;
      within = omega (arith, c.len.ensures, encoded_within c.args.encoding (chars c.split_at.result.0.now), front_within (length (chars c.args.text.now) - length (chars c.args.more.now) - length (chars c.args.rest.now)) c.args.text.now (chars c.split_at.result.0.now) c.utf8.text same);
    }
