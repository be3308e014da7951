use Rattle.std.proofs.Common.{ap, sym, ◌∙◌}
use Rattle.std.specs.List.{list_any}
use Rattle.std.specs.Str.{chars}
use Rattle.pom_text.specs.Lent.{is_suspect}
use Rattle.pom_text.proofs.Forbids.{whole_back, whole_front}
use Rattle.pom_text.proofs.allowed.allowed_of.Goals as goal

pub returns-then-not-has_suspect : goal.returns-then-not-has_suspect
returns-then-not-has_suspect c =
    let fine = ap (list_any is_suspect) (sym c.as_bytes.ensures.value) ∙ sym c.has_suspect.ensures ∙ c.if-not-has_suspect.true in
    record { front_is = whole_front c.args.text.now c.utf8.text fine; back_is = whole_back c.args.text.now c.utf8.text fine }

pub split_at-requires : goal.split_at-requires
split_at-requires c = c.allowed_len.ensures.boundary

pub returns : goal.returns
returns c =
    let parts = c.allowed_len.ensures.parts in
    record { front_is = ap chars c.split_at.ensures.front ∙ parts.front_is; back_is = ap chars c.split_at.ensures.back ∙ parts.back_is }
