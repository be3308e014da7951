use Rattle.std.proofs.Common.{◌≡◌, ◌∙◌, ◌++◌, None, ap, lit<, subst, sym}
use Rattle.std.specs.Prelude.{OnOk}
use Rattle.std.proofs.lemmas.Str.Pattern.{strip_prefix_char}
use Rattle.row_fields.specs.Spelling.{marked}
use Rattle.row_fields.proofs.Pieces.{not_repeated}
use Rattle.row_fields.proofs.escapes.push_spelled.Goals as goal

pub returns-in-None : goal.returns-in-None
returns-in-None c =
    let same = not_repeated c.args.piece.now (strip_prefix_char 40 c.args.piece.now None c.in-None.ensures.cases (lit< tt)) in
    subst (λ v. OnOk c.push_marked.result (c.push_marked.new.out.items ≡ c.args.out.now.items ++ v)) (ap marked c.as_bytes.ensures.value ∙ sym same) c.push_marked.ensures
