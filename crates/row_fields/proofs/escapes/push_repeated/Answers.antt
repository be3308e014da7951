use Rattle.std.proofs.Common.{◌∙◌, None, ap, sym, ◌++◌, append-nil}
use Rattle.row_fields.proofs.Pieces.{split_repeated}
use Rattle.row_fields.proofs.escapes.push_repeated.Goals as goal

pub returns-in-None : goal.returns-in-None
returns-in-None c =
    let e = split_repeated c.args.piece.now None c.in-None.ensures.cases in
    sym (ap (λ v. c.args.out.now.items ++ v) e ∙ append-nil c.args.out.now.items)
