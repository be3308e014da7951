use Rattle.std.proofs.Common.{length, [], ◌∷◌, ◌++◌, refl, sym, ap, subst, ◌<◌, ◌∙◌}
use Rattle.std.proofs.lemmas.Option.{slice_get_read}
use Rattle.crew_turns.proofs.Needs.{needed_in, needed_out}
use Rattle.crew_turns.proofs.requests.needed_entries.Goals as goal
use Rattle.crew_turns.proofs.requests.needed_entries.Goals.{then-is_needed+in_ok-push_copy, else-is_needed}

pub loop-at-preserved : goal.loop-at-preserved
loop-at-preserved c =
    let here = slice_get_read c.args.entries.now (length c.args.entries.now) c.loop-at.at c.index-entries-at.result refl c.loop-at-test.true c.index-entries-at.is in
    elim c.if-is_needed.branch [
      | then-is_needed+in_ok-push_copy w ↦ w.needed-is ∙ w.in_ok-push_copy.ensures ∙ ap (λ v. v ++ w.index-paths-at.result ∷ []) c.loop-at.invariant ∙ needed_in c.args.need c.args.entries.now c.args.paths.now c.loop-at.at c.index-entries-at.result w.index-paths-at.result here (slice_get_read c.args.paths.now (length c.args.paths.now) c.loop-at.at w.index-paths-at.result refl (subst (λ n. c.loop-at.at < n) (sym c.requires) c.loop-at-test.true) w.index-paths-at.is) (sym c.is_needed.ensures ∙ w.if-is_needed.true)
      | else-is_needed w ↦ w.needed-is ∙ c.loop-at.invariant ∙ needed_out c.args.need c.args.entries.now c.args.paths.now c.loop-at.at c.index-entries-at.result here (sym c.is_needed.ensures ∙ w.if-is_needed.false)
    ]
