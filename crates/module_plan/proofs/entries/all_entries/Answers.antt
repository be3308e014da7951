use Rattle.std.proofs.Common.{◌≡◌, ◌+◌, ◌++◌, ◌∷◌, List, drop, filter, sym, ap, ◌∙◌}
use Rattle.std.proofs.lemmas.List.{drop_more}
use Rattle.build_core.specs.declared.plan.Entry.{Entry}
use Rattle.classpaths.specs.declared.resolution.Resolved.{Resolved}
use Rattle.module_plan.specs.Plans.{entries_of}
use Rattle.module_plan.specs.Uses.{has_names}
use Rattle.module_plan.proofs.EntryWalks.{one_entry_more}
use Rattle.module_plan.proofs.entries.all_entries.Goals as goal

pub loop-winner-preserved : goal.loop-winner-preserved
loop-winner-preserved c =
    let winners = c.args.winners.now in
    let i = c.loop-winner.winner-index in
    let w = c.deref.result.now in
    let rest = drop (i + 1) winners in
    let left : drop i winners ≡ w ∷ rest = drop_more winners i c.winner-item.result c.loop-winner-test.true ∙ ap (λ (x : Resolved). x ∷ rest) (sym c.winner-item.is ∙ sym c.deref.ensures) in
    let of = λ (ws : List Resolved). entries_of c.args.built.now c.args.files.now (filter has_names ws) in
    ap (λ (e : List Entry). e ++ of rest) c.in_ok-push_entry.ensures
    ∙ one_entry_more c.args.built.now c.args.files.now c.loop-winner.entries w rest
    ∙ ap (λ (l : List Resolved). c.loop-winner.entries ++ of l) (sym left)
    ∙ c.loop-winner.invariant
