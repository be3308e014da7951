use Rattle.std.proofs.Common.{take, length, rules, ap, ◌∙◌}
use Rattle.cli_words.specs.Options.{name_of}
use Rattle.cli_words.proofs.Texts.{name_is}
use Rattle.cli_words.proofs.value.name_of.Goals as goal

pub returns : goal.returns
returns c = (c.range.ensures.value ∙ search rules) ∙ ap (λ n. take n c.args.word.now) (c.equals_place.ensures.value ∙ ap (λ w. length (name_of w)) c.as_bytes.ensures.value) ∙ name_is c.args.word.now
