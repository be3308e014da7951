use Rattle.std.proofs.Common.{ap, ◌∙◌}
use Rattle.std.proofs.lemmas.List.{take_rest}
use Rattle.versions.specs.Pieces.{next_mark}
use Rattle.versions.proofs.Splits.{leads}
use Rattle.versions.proofs.piece.first_piece.Goals as goal

pub returns : goal.returns
returns c = leads c.args.text.now c.front-len.result c.width.result c.next_mark-next.result c.front-len.ensures.value (c.next_mark-next.ensures ∙ ap next_mark (take_rest c.args.text.now c.front-len.result)) c.width.ensures
