use Rattle.std.proofs.Common.{[], ◌∷◌, ◌++◌, map, sym, ap, ◌∙◌}
use Rattle.std.specs.Char.{to_ascii_lowercase}
use Rattle.versions.specs.declared.piece.Mark.TheVariants.{Dot}
use Rattle.versions.specs.Pieces.{pieces}
use Rattle.versions.specs.Tokens.{tokens, trimmed, normal}
use Rattle.versions.specs.Order.{the_end}
use Rattle.versions.specs.Cuts.{cut_token}
use Rattle.versions.proofs.version.Version.parse.Goals as goal

pub invariant_of-result : goal.invariant_of-result
unfolding normal
invariant_of-result c =
    let folded = c.in_ok-folded.folded.items in
    ap (λ t. map (cut_token t) c.in_ok-cuts.cuts.items) (sym c.deref.ensures.value) ∙ c.in_ok-cuts.ensures
    ∙ ap (λ t. trimmed (tokens (pieces Dot t)) ++ the_end ∷ []) (c.deref.ensures.value ∙ c.in_ok-folded.ensures.ok ∙ ap (map to_ascii_lowercase) (c.as_bytes.ensures.value ∙ sym c.in_ok-text.ensures.cases))
