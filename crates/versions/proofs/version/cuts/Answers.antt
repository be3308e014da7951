use Rattle.std.proofs.Common.{◌+◌, take, drop, map, subst, sym, ap, ◌∙◌, length-drop, arith}
use Rattle.std.proofs.lemmas.List.{take_rest}
use Rattle.versions.specs.Pieces.{Leads}
use Rattle.versions.specs.Tokens.{token}
use Rattle.versions.specs.Cuts.{cut_token}
use Rattle.versions.proofs.Gathers.{gathered, step}
use Rattle.versions.proofs.version.cuts.Goals as goal

pub loop-before-preserved : goal.loop-before-preserved
loop-before-preserved c =
    let text = c.args.text.now in
    let start = c.loop-before.start in
    let first = c.first_piece-first.result in
    let leads : Leads (drop start text) first = subst (λ t. Leads t first) (take_rest text start) c.first_piece-first.ensures in
    record {
      within = omega (arith, leads.on, length-drop start text, c.loop-before.invariant.within);
      all = ap (λ ts. gathered ts first.next (drop (start + first.to) text)) c.in_ok-add.ensures
          ∙ step (map (cut_token text) c.loop-before.cuts.items) c.in-Some.mark text start first (cut_token text c.cut-token.result) leads
          (c.cut-token.ensures ∙ ap (λ b. token b (record { mark = c.in-Some.mark; bytes = take first.len (drop start text) })) c.changes.ensures)
          ∙ ap (λ b. gathered (map (cut_token text) c.loop-before.cuts.items) b (drop start text)) (sym c.in-Some.is)
          ∙ c.loop-before.invariant.all;
    }
