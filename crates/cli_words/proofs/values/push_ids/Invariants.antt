use Rattle.std.proofs.Common.{◌≡◌, map, fold, drop}
use Rattle.cli_words.specs.Options.{with_id}
use Rattle.cli_words.proofs.values.push_ids.Given as goal

abbrev pub invariant-loop-id : goal.invariant-loop-id
invariant-loop-id l = fold with_id l.fn.choice (map (λ x. x.now) l.id-items) ≡ fold with_id l.choice (map (λ x. x.now) (drop l.id-index l.id-items))
